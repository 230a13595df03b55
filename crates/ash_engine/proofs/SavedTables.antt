-- The objects of a state that a host may be in are such as a table takes.
use Rattle.std.proofs.Common.{◌≡◌, ◌≤◌, ℕ, List, [], map, length, sym, ap, ◌∙◌, arith}
use Rattle.std.specs.Prelude.{All, IfSome, IfOk, Result, Ok, Err}
use Rattle.std.proofs.lemmas.List.{length-map}
use Rattle.ash_host.specs.declared.host_object.HostObject.{Ghosts}
use Rattle.ash_host.specs.Limits.{max_elements, max_objects}
use Rattle.ash_host.specs.Objects.{LiveObjects, object_at, handle, Lives, IsInOrder, AreNumbered}
use Rattle.ash_slots.specs.Bodies.{words_of}
use Rattle.ash_objects.specs.declared.restoring.SavedObject.{SavedObject}
use Rattle.ash_objects.specs.declared.restoring.TableFault.{TableFault}
use Rattle.ash_objects.specs.Restoring.{stored_in, IsRestored}
use Rattle.ash_objects.specs.Table.{Table}
use Rattle.ash_requests.specs.States.{State}
use Rattle.ash_plain_steps.specs.declared.state.LoadedModule.{LoadedModule}
use Rattle.ash_plain_steps.specs.declared.state.PlainState.{PlainState}
use Rattle.ash_plain_steps.specs.StateViews.{modules_seen, state_seen}
use Rattle.ash_states.specs.HostStates.{HostState, IsAdmitted}
use Rattle.ash_states.specs.Indexes.{index_in, entry_indexed}
use Rattle.ash_table_states.specs.SavedObjects.{entry_saved, AreSavedOf}
use Rattle.ash_table_states.proofs.Stored.{saved_numbered, saved_short, saved_alive}
use Rattle.ash_table_states.proofs.Saved.{short, alive}
use Rattle.ash_engine.specs.RestoredTables.{IsTableOf}

module _ (s : HostState) (h : IsAdmitted s) (saved : List SavedObject) (are : AreSavedOf s.state saved) where
  pub are_numbered : AreNumbered (s.state).last (stored_in saved)
  are_numbered = saved_numbered (index_in (s.state).modules) (s.state).objects saved are (s.state).last (h.formed).numbered

  pub are_in_order : IsInOrder (stored_in saved)
  are_in_order = are_numbered.in_order

  pub are_few : length saved ≤ max_objects
  are_few =
      let many : length saved ≡ length (s.state).objects =
      sym (length-map saved entry_saved) ∙ ap (λ (es : LiveObjects ℕ). length es) are ∙ length-map (s.state).objects (entry_indexed (index_in (s.state).modules)) in
      omega (arith, many, (h.formed).few)

  pub are_short : (n : ℕ) → IfSome (object_at n (stored_in saved)) (λ body. length (words_of body) ≤ max_elements)
  are_short = saved_short (index_in (s.state).modules) (s.state).objects saved are (short s h)

  pub are_alive : (n : ℕ) → IfSome (object_at n (stored_in saved)) (λ body. All (λ word. IfSome (handle word) (Lives (stored_in saved))) (words_of body))
  are_alive = saved_alive (index_in (s.state).modules) (s.state).objects saved are (alive s h)

-- in the code

pub saved_of : (s : PlainState) (ms : List LoadedModule) (saved : List SavedObject) → ms ≡ s.modules.items
    → map entry_saved saved ≡ map (entry_indexed (index_in (modules_seen ms))) s.objects → AreSavedOf (state_seen s) saved
saved_of s ms saved same is = is ∙ ap (λ (xs : List LoadedModule). map (entry_indexed (index_in (modules_seen xs))) s.objects) same

module _ {B : Type 0} (G : Ghosts B) where
  pub table_made : (s : State) (pool : List B) (last : ℕ) (saved : List SavedObject) (r : Result (Table B) TableFault) → AreSavedOf s saved → last ≡ s.last
      → IfOk r (λ table. IsRestored G saved pool table) → IfOk r (λ table. table.last ≡ last) → IfOk r (λ table. table.settled ≡ last)
      → IfOk r (λ table. table.gone ≡ []) → IfOk r (IsTableOf G s pool)
  table_made s pool last saved (Ok table) are same back given settled gone = record {
    saved = saved;
    are = are;
    restored = back;
    last = given ∙ same;
    settled = settled ∙ same;
    gone = gone;
  }
  table_made s pool last saved (Err fault) are same back given settled gone = tt
