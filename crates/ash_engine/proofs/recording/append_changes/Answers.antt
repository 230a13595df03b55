use Rattle.std.proofs.Common.{◌≡◌, ℕ, List, map, slice_get, sym, ap, ◌∙◌, subst}
use Rattle.ash_slots.specs.declared.body.Body.{Body}
use Rattle.ash_objects.specs.Table.{body_of}
use Rattle.ash_image.specs.DeltaViews.{service_states_of, service_states_in}
use Rattle.ash_image.specs.SnapshotViews.{objects_in}
use Rattle.ash_image.specs.declared.stored_delta.IndexedWord.{IndexedWord}
use Rattle.ash_plain_steps.specs.declared.state.LoadedModule.{LoadedModule}
use Rattle.ash_states.specs.Writing.{HavePartKinds}
use Rattle.ash_table_states.specs.WrittenObjects.{index_at, objects_written, listed_entries}
use Rattle.ash_change_records.specs.ListedChanges.{listed}
use Rattle.ash_engine.specs.RecordedChanges.{AreWordsOf}
use Rattle.ash_engine.specs.TableStates.{slots_of}
use Rattle.ash_engine.proofs.ListedParts.{few_slots}
use Rattle.ash_engine.proofs.recording.append_changes.Goals as goal

pub object_parts-requires-clause-few : goal.object_parts-requires-clause-few
object_parts-requires-clause-few g c =
    few_slots g.B.HostObject c.requires.live.0 c.args.live.now c.requires.live.1 c.deref-7.result.now
    (c.deref-7.ensures.value ∙ c.in_ok-slots.ensures.slots ∙ ap slots_of c.deref.ensures.value)

pub append_by-requires : goal.append_by-requires
append_by-requires g c =
    let l = c.args.live.now in
    let G = g.B.HostObject in
    let slots = c.deref-7.ensures.value ∙ c.in_ok-slots.ensures.slots ∙ ap slots_of c.deref.ensures.value in
    let entries = ap listed_entries c.deref-8.ensures.value ∙ c.in_ok-objects.ensures.objects ∙ ap (listed (λ n. body_of n l.table)) c.deref-5.ensures.value in
    record {
      listed = record {
        registered = c.requires.live.0;
        live = c.requires.live.1;
        same_services = ap service_states_in c.deref-10.ensures.value ∙ c.in_ok-services.ensures.same ∙ ap service_states_of c.deref-3.ensures.value
            ∙ c.in_ok-called.ensures.states ∙ ap (λ (ss : _). listed (slice_get (map G.state ss)) c.deref-2.result.now) c.services.ensures.services
            ∙ ap (listed (slice_get (map G.state l.table.services))) c.deref-2.ensures.value;
        same_words = subst (λ (ws : List IndexedWord). AreWordsOf l.loaded.modules.items l.changes.modules ws) (sym c.deref-11.ensures.value)
            (subst (λ (ms : List LoadedModule). AreWordsOf ms l.changes.modules c.in_ok-words.words.items) c.deref-4.ensures.value c.in_ok-words.ensures.words);
        same_put = ap objects_in c.deref-12.ensures.value ∙ c.in_ok-put.ensures.written
            ∙ ap (λ (ns : List ℕ). objects_written G (index_at ns) (listed_entries c.deref-8.result.now)) slots
            ∙ ap (objects_written G (index_at (slots_of l.compiled.items))) entries;
        kinds = subst HavePartKinds (sym c.deref-12.ensures.value) c.in_ok-put.ensures.kinds;
      };
    }
