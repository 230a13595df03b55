-- Modules of which one has other globals, is removed, or is added.
use Rattle.std.proofs.Common.{◌≡◌, ℕ, zero, suc, Bool, true, false, cond, not, List, [], ◌∷◌, ◌++◌, set, Some, None, refl, sym, ◌∙◌, ap, subst, get_or}
use Rattle.std.specs.Prelude.{slice_get, option_map}
use Rattle.std.specs.List.{AllByRecursion, remove, find}
use Rattle.std.proofs.lemmas.List.{map-set}
use Rattle.std.proofs.lemmas.Option.{get_or_from_slice_get, slice_get_within, slice_get-map}
use Rattle.std.proofs.lemmas.Slice.Eq.{bytes_eq-Decides}
use Rattle.ash_host.specs.declared.word.Word.{Word}
use Rattle.ash_requests.specs.States.{LoadedModule, Embedding, has_name, globals_of, update_globals, without_module, with_module}
use Rattle.ash_plain_steps.specs.declared.state.LoadedModule as code_module
use Rattle.ash_plain_steps.specs.StateViews.{loaded_seen, modules_seen}
use Rattle.ash_plain_steps.specs.Consistency.{ModulesAscend, IsReadFromSource, AreConsistent, IsModuleInserted}
use Rattle.ash_plain_steps.proofs.Ascending.{ascend_with, ascend_without, ascend_update}
use Rattle.ash_plain_steps.proofs.Places.{update_globals-set, without_module-remove, map-remove, all-set, all-remove, all-insert}
use Rattle.ash_plain_steps.proofs.Found.{all_got}

own_name : (m : LoadedModule) → has_name m.name m ≡ true
own_name m = (bytes_eq-Decides m.name m.name).1 refl

-- where it is
there : (ms : List code_module.LoadedModule) (place : ℕ) (m : code_module.LoadedModule) → slice_get ms place ≡ Some m → slice_get (modules_seen ms) place ≡ Some (loaded_seen m)
there ms place m g = slice_get-map loaded_seen ms place ∙ ap (λ (o : _). option_map loaded_seen o) g

named_there : (ms : List LoadedModule) (place : ℕ) (m : LoadedModule) → slice_get ms place ≡ Some m → has_name m.name (get_or ms place m) ≡ true
named_there ms place m g = ap (has_name m.name) (get_or_from_slice_get ms place m m g) ∙ own_name m

-- the globals of a module are changed in its place
pub globals_set : (ms : List LoadedModule) (place : ℕ) (m : LoadedModule) (globals : List Word) → ModulesAscend ms → slice_get ms place ≡ Some m → set ms place (record m { globals = globals }) ≡ update_globals m.name globals ms
globals_set ms place m globals up g =
    let same : get_or ms place m ≡ m = get_or_from_slice_get ms place m m g in
    let is = update_globals-set m.name globals ms place m up (slice_get_within ms place m g) (named_there ms place m g) in
    ap (λ (x : LoadedModule). let changed : LoadedModule = record x { globals = globals } in set ms place changed) (sym same) ∙ sym is

-- a module is removed from its place
pub removed_there : (ms : List code_module.LoadedModule) (place : ℕ) (m : code_module.LoadedModule) → ModulesAscend (modules_seen ms) → slice_get ms place ≡ Some m → modules_seen (remove ms place) ≡ without_module (loaded_seen m).name (modules_seen ms)
removed_there ms place m up g =
    let seen = there ms place m g in
    map-remove loaded_seen ms place
    ∙ sym (without_module-remove (loaded_seen m).name (modules_seen ms) place (loaded_seen m) up (slice_get_within (modules_seen ms) place (loaded_seen m) seen) (named_there (modules_seen ms) place (loaded_seen m) seen))

-- a module without globals holds nothing
pub lent : (name : List ℕ) (ms : List LoadedModule) → globals_of (update_globals name [] ms) ≡ globals_of (without_module name ms)
lent name [] = refl
lent name (m ∷ ms) = by (has_name name m) (lent name ms)
  where
    by : (b : Bool) → globals_of (update_globals name [] ms) ≡ globals_of (without_module name ms) → (let lending : LoadedModule = record m { globals = [] } in (cond b lending m).globals) ++ globals_of (update_globals name [] ms) ≡ globals_of (cond (not b) (m ∷ without_module name ms) (without_module name ms))
    by true rest = rest
    by false rest = ap (λ (l : List Word). m.globals ++ l) rest

pub set_again : {A : Type 0} (xs : List A) (i : ℕ) (a b : A) → set (set xs i a) i b ≡ set xs i b
set_again [] i a b = refl
set_again (x ∷ xs) zero a b = refl
set_again (x ∷ xs) (suc i) a b = ap (λ (l : List _). x ∷ l) (set_again xs i a b)

pub got_set : {A : Type 0} (xs : List A) (i : ℕ) (x a : A) → slice_get xs i ≡ Some x → slice_get (set xs i a) i ≡ Some a
got_set [] i x a e = absurd (cc)
got_set (y ∷ ys) zero x a e = refl
got_set (y ∷ ys) (suc i) x a e = got_set ys i x a e

-- a module whose globals alone are others

pub seen_set : (ms : List code_module.LoadedModule) (place : ℕ) (m new : code_module.LoadedModule) → ModulesAscend (modules_seen ms) → slice_get ms place ≡ Some m → new ≡ record m { globals = new.globals } → modules_seen (set ms place new) ≡ update_globals (loaded_seen m).name new.globals.items (modules_seen ms)
seen_set ms place m new up g is =
    map-set loaded_seen ms place new
    ∙ ap (λ (s : code_module.LoadedModule). set (modules_seen ms) place (loaded_seen s)) is
    ∙ globals_set (modules_seen ms) place (loaded_seen m) new.globals.items up (there ms place m g)

pub consistent_set : {Fault : Type 0} (embedding : Embedding Fault) (ms : List code_module.LoadedModule) (place : ℕ) (m new : code_module.LoadedModule) → AreConsistent embedding ms → slice_get ms place ≡ Some m → new ≡ record m { globals = new.globals } → AreConsistent embedding (set ms place new)
consistent_set embedding ms place m new h g is =
    let up : ModulesAscend (modules_seen ms) = h.ascending in
    let read : IsReadFromSource embedding m = all_got (IsReadFromSource embedding) ms place m g h.read in
    let still : IsReadFromSource embedding new = subst (IsReadFromSource embedding) (sym is) read in
    record {
      ascending = subst ModulesAscend (sym (seen_set ms place m new up g is)) (ascend_update (loaded_seen m).name new.globals.items (modules_seen ms) up);
      read = all-set (IsReadFromSource embedding) ms place new still h.read;
    }

pub consistent_remove : {Fault : Type 0} (embedding : Embedding Fault) (ms : List code_module.LoadedModule) (place : ℕ) (m : code_module.LoadedModule) → AreConsistent embedding ms → slice_get ms place ≡ Some m → AreConsistent embedding (remove ms place)
consistent_remove embedding ms place m h g = record {
  ascending = subst ModulesAscend (sym (removed_there ms place m h.ascending g)) (ascend_without (loaded_seen m).name (modules_seen ms) h.ascending);
  read = all-remove (IsReadFromSource embedding) ms place h.read;
}

pub consistent_insert : {Fault : Type 0} (embedding : Embedding Fault) (loaded : code_module.LoadedModule) (old new : List code_module.LoadedModule) → AreConsistent embedding old → IsReadFromSource embedding loaded → find (has_name (loaded_seen loaded).name) (modules_seen old) ≡ None → modules_seen new ≡ with_module (loaded_seen loaded) (modules_seen old) → IsModuleInserted loaded old new → AreConsistent embedding new
consistent_insert embedding loaded old new h read absent is at = record {
  ascending = subst ModulesAscend (sym is) (ascend_with (loaded_seen loaded) (modules_seen old) h.ascending absent);
  read = subst (AllByRecursion (IsReadFromSource embedding)) (sym at.1) (all-insert (IsReadFromSource embedding) old at.0 loaded read h.read);
}
