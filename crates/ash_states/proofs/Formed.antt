-- The state of a snapshot that keeps the rules is well-formed where what is stored is of its types.
use Rattle.std.proofs.Common.{◌≡◌, ℕ, List, [], ◌∷◌, ◌++◌, map, flat_map, refl, sym, ap, ◌∙◌, subst, arith}
use Rattle.std.specs.Prelude.{Contains}
use Rattle.std.specs.List.{AllByRecursion}
use Rattle.std.proofs.lemmas.List.{length-map}
use Rattle.ash_host.specs.declared.word.Word.{Word}
use Rattle.ash_host.specs.Objects.{Plain, Script, Array, Host, LiveObjects, handles, fields_of, Lives}
use Rattle.ash_host.specs.Reach.{ReachableIn}
use Rattle.ash_typed.specs.Signatures as signatures
use Rattle.ash_requests.specs.States.{LoadedModule, Embedding, globals_of}
use Rattle.ash_soundness.specs.WellFormed.{AreObjects, AreOffered, IsState}
use Rattle.ash_soundness.specs.WellFormedStates.{known_of, IsLoaded, IsWellFormedState}
use Rattle.ash_image.specs.declared.version.Version.{Version}
use Rattle.ash_image.specs.Snapshots.{Loaded, Snapshot}
use Rattle.ash_image.specs.ObjectBytes.{FitsHost}
use Rattle.ash_image.specs.Image.{FitsVersion}
use Rattle.ash_image.specs.Rules.{held_by, KeepsRules}
use Rattle.ash_states.specs.Images.{name_at, plain_named, entry_named, loaded_of, loaded_modules_of, state_of}
use Rattle.ash_states.proofs.Lists.{all_more, all_map}
use Rattle.ash_states.proofs.Names.{valid_names, ascend_of}
use Rattle.ash_states.proofs.Renamed.{lives_same, reached, numbered}

pub fields_named : (name : ℕ → List ℕ) (o : Plain ℕ) → fields_of (plain_named name o) ≡ fields_of o
fields_named name (Script owner place fields) = refl
fields_named name (Array of elements) = refl
fields_named name (Host kind state) = refl

globals_same : (ms : List Loaded) → globals_of (loaded_modules_of ms) ≡ flat_map (λ (m : Loaded). m.globals) ms
globals_same [] = refl
globals_same (m ∷ ms) = ap (λ (ws : List Word). m.globals ++ ws) (globals_same ms)

-- what the globals hold
pub held_same : (ms : List Loaded) → handles (globals_of (loaded_modules_of ms)) ≡ held_by ms
held_same ms = ap handles (globals_same ms)

module _ {Fault : Type 0} (embedding : Embedding Fault) (host : signatures.HostSignatures) (version : Version) (s : Snapshot) (fits : FitsVersion version s) (keeps : KeepsRules s) where
  abbrev ms : List LoadedModule
  ms = loaded_modules_of s.modules

  abbrev objects : LiveObjects (List ℕ)
  objects = map (entry_named (name_at ms)) s.objects

  abbrev names : ℕ → List ℕ
  names = name_at ms

  all_reached : (n : ℕ) → Lives objects n → ReachableIn (Contains (handles (globals_of ms))) objects n
  all_reached n lives =
      subst (λ (held : List ℕ). ReachableIn (Contains held) objects n) (sym (held_same s.modules))
      (reached (plain_named names) (fields_named names) s.objects n
      (keeps.reached n (sym (lives_same (plain_named names) (fields_named names) n s.objects) ∙ lives)))

  states : AllByRecursion IsState (map (λ (service : ℕ × List ℕ). service.1) s.services)
  states =
      all_map (λ (service : ℕ × List ℕ). service.1) IsState s.services
      (all_more (λ (service : ℕ × List ℕ). FitsHost service.0 service.1) (λ (service : ℕ × List ℕ). IsState service.1) (λ service fit. fit.short) s.services (fits.services).each)

  pub formed : AllByRecursion (IsLoaded embedding objects) ms → AreObjects (known_of embedding ms) objects → AreOffered host objects → IsWellFormedState embedding host (state_of s)
  formed loaded living offered = record {
    ascending = ascend_of s.modules (fits.modules).order;
    valid = valid_names s.modules (fits.modules).each;
    few_modules = omega (arith, length-map s.modules loaded_of, (fits.modules).few);
    loaded = loaded;
    numbered = numbered (plain_named names) (fields_named names) s.last s.objects ((keeps.whole).numbered);
    last = omega (arith, fits.last);
    few = omega (arith, length-map s.objects (entry_named names), (fits.objects).few);
    living = living;
    offered = offered;
    services = states;
    seq = omega (arith, fits.seq);
    reached = all_reached;
  }
