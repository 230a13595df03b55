-- What the globals of a state that a host may be in hold lives in the table of the state.
use Rattle.std.proofs.Common.{◌≡◌, ◌≤◌, ℕ, Bool, true, List, [], ◌∷◌, length, refl, sym, ap, ◌∙◌, arith}
use Rattle.std.specs.Prelude.{All, IsTrue, Option, Some, None, Contains, is_some}
use Rattle.std.specs.List.{AllByRecursion}
use Rattle.std.specs.Option.{option_map_or}
use Rattle.std.proofs.lemmas.List.{length-map}
use Rattle.std.proofs.lemmas.List.Elements.{All-from_recursion}
use Rattle.ash_host.specs.declared.host_object.HostObject.{Ghosts}
use Rattle.ash_host.specs.declared.word.Word.{Word}
use Rattle.ash_host.specs.Objects.{LiveObjects, object_at, handle, handles, Lives}
use Rattle.ash_registry.specs.AcceptedRegistrations.{Registration}
use Rattle.ash_typed.specs.Signatures as signatures
use Rattle.ash_typed.specs.Signatures.{types_of_globals}
use Rattle.ash_objects.specs.Table.{Table}
use Rattle.ash_object_ranks.specs.ShownTables.{SlotNames, objects_shown}
use Rattle.ash_object_ranks.proofs.ShownTables.{lives_shown}
use Rattle.ash_run_steps.specs.RunStates.{is_alive_in}
use Rattle.ash_requests.specs.States.{State, Embedding, globals_of}
use Rattle.ash_requests.specs.Premises.{ReadsSound}
use Rattle.ash_soundness.specs.WellFormedStates.{IsLoaded, IsWellFormedState}
use Rattle.ash_soundness.proofs.Lists.{values_length}
use Rattle.ash_soundness.proofs.Named.{from_globals, rec_of}
use Rattle.ash_soundness.proofs.Values.{handle_first, handle_later, values_live}
use Rattle.ash_sources.proofs.SourceLaws.{read_sound}
use Rattle.ash_plain_steps.specs.declared.state.LoadedModule.{LoadedModule}
use Rattle.ash_plain_steps.specs.declared.state.PlainState.{PlainState}
use Rattle.ash_plain_steps.specs.StateViews.{loaded_seen, modules_seen, state_seen}
use Rattle.ash_states.specs.HostStates.{IsAdmitted, embedding_for, offered_to}
use Rattle.ash_states.specs.Holding.{held_with}

pub each_alive : (lives : ℕ → Bool) (ws : List Word) → ((n : ℕ) → Contains (handles ws) n → lives n ≡ true) → AllByRecursion (λ (w : Word). option_map_or lives (handle w) true ≡ true) ws
each_alive lives [] all = tt
each_alive lives (w ∷ ws) all = (one (handle w) refl, each_alive lives ws (λ n among. all n (handle_later w ws n among)))
  where
    one : (o : Option ℕ) → handle w ≡ o → option_map_or lives o true ≡ true
    one None is = refl
    one (Some n) is = all n (handle_first w ws n is)

module _ {Fault : Type 0} (embedding : Embedding Fault) (host : signatures.HostSignatures) where
  held_lives : (s : State) → IsWellFormedState embedding host s → (n : ℕ) → Contains (handles (globals_of s.modules)) n → Lives s.objects n
  held_lives s h n i =
      let (m, among, there) = from_globals s.modules n i in
      values_live n (rec_of (IsLoaded embedding s.objects) s.modules h.loaded m among).values there

  pub all_short : ReadsSound host embedding → (objects : LiveObjects (List ℕ)) (ms : List LoadedModule) → AllByRecursion (IsLoaded embedding objects) (modules_seen ms)
      → AllByRecursion (λ (m : LoadedModule). length m.globals.items ≤ 256) ms
  all_short reads objects [] loaded = tt
  all_short reads objects (m ∷ ms) loaded =
      let first = loaded.0 in
      let many : length m.globals.items ≡ length (types_of_globals (first.tree).globals) = values_length first.values in
      (omega (arith, many, (reads m.source.items first.tree first.is).few_globals), all_short reads objects ms loaded.1)

module _ (registered : List Registration) (s : PlainState) (h : IsAdmitted (held_with registered s)) where
  pub few_modules : length s.modules.items ≤ 16
  few_modules = omega (arith, length-map s.modules.items loaded_seen, (h.formed).few_modules)

  pub few_globals : All (λ (m : LoadedModule). length m.globals.items ≤ 256) s.modules.items
  few_globals =
      All-from_recursion (λ (m : LoadedModule). length m.globals.items ≤ 256) s.modules.items
      (all_short (embedding_for registered) (offered_to registered) (read_sound registered) s.objects s.modules.items (h.formed).loaded)

  pub globals_live : {B : Type 0} (G : Ghosts B) (names : SlotNames) (table : Table B) → objects_shown G names table.objects ≡ s.objects
      → All (λ (word : Word). IsTrue (is_alive_in word table)) (globals_of (modules_seen s.modules.items))
  globals_live G names table shown =
      All-from_recursion (λ (word : Word). IsTrue (is_alive_in word table)) (globals_of (modules_seen s.modules.items))
      (each_alive (λ (n : ℕ). is_some (object_at n table.objects)) (globals_of (modules_seen s.modules.items))
      (λ n among.
      sym (lives_shown G names n table.objects)
      ∙ ap (λ (os : LiveObjects (List ℕ)). is_some (object_at n os)) shown
      ∙ held_lives (embedding_for registered) (offered_to registered) (state_seen s) h.formed n among))
