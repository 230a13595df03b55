-- What a call leaves: the state, the boxes, and what is held.
use Rattle.std.proofs.Common.{◌≡◌, ◌<◌, ◌≤◌, ◌+◌, ℕ, suc, zero, List, [], ◌∷◌, length, map, refl, sym, ap, ◌∙◌, subst, slice_get, arith}
use Rattle.std.specs.Prelude.{Some, is_some}
use Rattle.std.specs.List.Sorted.{IsStrictlyIncreasing}
use Rattle.std.proofs.lemmas.Map.Made.{keys_of-map_values}
use Rattle.ash_host.specs.declared.event.Event.{Event}
use Rattle.ash_host.specs.declared.event.Target.TheVariants as targets
use Rattle.ash_host.specs.declared.host_object.HostObject.{Ghosts}
use Rattle.ash_host.specs.declared.word.Word.{Word}
use Rattle.ash_host.specs.Objects.{numbers, AreNumbered}
use Rattle.ash_host.specs.Records.{HostRecord}
use Rattle.ash_typed.specs.Modules.{Module}
use Rattle.ash_typed.specs.Signatures.{HostSignatures}
use Rattle.ash_meaning.specs.Ends.{End}
use Rattle.ash_objects.specs.Table.{Table}
use Rattle.ash_object_ranks.specs.ShownTables.{SlotNames, objects_shown}
use Rattle.ash_object_ranks.proofs.ShownTables.{living_shown, lives_shown}
use Rattle.ash_run_steps.specs.declared.beginning.Parts.{Parts}
use Rattle.ash_run_steps.specs.Answered.{Answered, IsStill, boxes_of}
use Rattle.ash_run_steps.specs.Becoming.{Gave}
use Rattle.ash_run_steps.specs.Following.{KeepsBoxes}
use Rattle.ash_run_steps.proofs.AnsweredRuns.{answered}
use Rattle.ash_requests.specs.States.{LoadedModule, Embedding, update_globals}
use Rattle.ash_requests.specs.Requests as replies
use Rattle.ash_requests.specs.Steps.{Step, perform}
use Rattle.ash_requests.specs.Tasks.{Invoke}
use Rattle.ash_requests.specs.Premises.{ReadsSound}
use Rattle.ash_context.specs.declared.outcome.Outcome as run_outcome
use Rattle.ash_context.specs.Outcomes.{end_said}
use Rattle.ash_engine.specs.RankedSources.{ReadsRanked}
use Rattle.ash_table_states.specs.TableStates.{names_in, state_shown}
use Rattle.ash_engine.proofs.ChangedModules.{updated_names}
use Rattle.ash_engine.proofs.NamedSlots.{names_same}
use Rattle.ash_engine.proofs.RunSettings.{names_for}
use Rattle.ash_engine.proofs.TableCalls.{hosts_of, CallSteps}

module _ {B : Type 0} (G : Ghosts B) where
  -- the numbers of a table are in order, if those of its objects as plain data are
  pub numbered_from : (names : SlotNames) (table : Table B) → AreNumbered table.last (objects_shown G names table.objects) → AreNumbered table.last table.objects
  numbered_from names table shown = record {
    in_order = subst (λ (l : List ℕ). IsStrictlyIncreasing l) (keys_of-map_values (living_shown G names) table.objects) shown.in_order;
    given = λ n lives. shown.given n (lives_shown G names n table.objects ∙ lives);
  }

  -- the boxes gave the answers of a run that had no events before
  pub boxes_answered : (records : List HostRecord) (old new : Table B) (events : List Event) → AreNumbered old.last old.objects → AreNumbered new.last new.objects
      → Gave G records old [] new events → Answered G (boxes_of old) events records (boxes_of new)
  boxes_answered records old new events before after gave =
      subst (λ (es : List Event). Answered G (boxes_of old) es records (boxes_of new)) (sym gave.told) (answered G records old [] new events before after gave)

  -- services stay of their kinds
  kinds_same : (one two : List B) → length two ≡ length one → ((place : ℕ) (box : B) → slice_get two place ≡ Some box → IsStill G (slice_get one place) box)
      → map G.kind_of two ≡ map G.kind_of one
  kinds_same [] [] many still = refl
  kinds_same [] (b ∷ two) many still = absurd (omega (arith, many))
  kinds_same (a ∷ one) [] many still = absurd (omega (arith, many))
  kinds_same (a ∷ one) (b ∷ two) many still =
      (λ i. (still 0 b refl).0 i ∷ kinds_same one two (omega (arith, many)) (λ place box at. still (suc place) box at) i)

  pub kinds_kept : (drawn : List (ℕ × B)) (old new : Table B) → KeepsBoxes G drawn old new → length new.services ≡ length old.services
      → map G.kind_of new.services ≡ map G.kind_of old.services
  kinds_kept drawn old new keeps many = kinds_same old.services new.services many (λ place box at. keeps.still (targets.Service place) box at)

module _ {Fault : Type 0} (embedding : Embedding Fault) (host : HostSignatures) (sound : ReadsSound host embedding) (ranked : ReadsRanked host embedding) {B : Type 0} (G : Ghosts B)
    (ms : List LoadedModule) (slots : List ℕ) (seq : ℕ) (table : Table B) where
  -- what a call comes to, as a live state shows it
  abbrev pub called : LoadedModule → End → Parts B → Step Fault
  called m end new = record {
    reply = replies.Answered end (seq + 1) new.events.items;
    state = state_shown G (update_globals m.name new.globals.items ms) slots (seq + 1) new.table;
    hosts = hosts_of G new.table [];
  }

  pub called_so : (budget : ℕ) (m : LoadedModule) (tree : Module) (function : ℕ) (args : List Word) (o : run_outcome.Outcome) (new : Parts B)
      → (steps : CallSteps embedding host sound ranked G ms slots seq table budget m tree function args o new)
      → perform {Fault = Fault} budget (Invoke m tree function args) (state_shown G ms slots seq table) (hosts_of G table steps.records)
      ≡ Some (called m (end_said (names_for (names_in ms slots) tree) o) new)
  called_so budget m tree function args o new steps =
      let others : List LoadedModule = update_globals m.name new.globals.items ms in
      let same = names_same ms others slots (sym (updated_names m.name new.globals.items ms)) in
      steps.stepped
      ∙ (λ i. Some (record {
        reply = replies.Answered (end_said (names_for (names_in ms slots) tree) o) (seq + 1) new.events.items;
        state = record {
          modules = update_globals m.name new.globals.items ms;
          objects = objects_shown G (same i) new.table.objects;
          services = map G.state new.table.services;
          last = new.table.last;
          seq = seq + 1;
        };
        hosts = hosts_of G new.table [];
      }))
