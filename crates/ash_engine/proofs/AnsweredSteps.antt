-- A request that was answered has a step of the live state.
use Rattle.std.proofs.Common.{◌≡◌, ◌⊎◌, ◌<◌, ◌+◌, ℕ, List, [], ◌∷◌, length, map, refl, sym, ap, ◌∙◌, subst, inl, inr, arith}
use Rattle.std.specs.Prelude.{Option, Some, IsSome, Contains}
use Rattle.std.specs.Option.{option_map, option_and_then}
use Rattle.std.proofs.lemmas.Option.{same_Some}
use Rattle.std.proofs.lemmas.List.{length-map}
use Rattle.ash_host.specs.declared.event.Event.{Event}
use Rattle.ash_host.specs.declared.host_object.HostObject.{Ghosts}
use Rattle.ash_host.specs.Records.{HostRecord}
use Rattle.ash_registry.specs.AcceptedRegistrations.{Registration}
use Rattle.ash_meaning.specs.Ends.{End}
use Rattle.std.specs.List.Sorted.{IsStrictlyIncreasing}
use Rattle.ash_host.specs.Objects.{Host, object_at, handles, IsInOrder}
use Rattle.ash_slots.specs.declared.body.Body.{Body}
use Rattle.ash_slots.specs.declared.body.Body.TheVariants as bodies
use Rattle.ash_slots.specs.SlotResponses.{box_of}
use Rattle.ash_objects.specs.Table.{Living, Table}
use Rattle.ash_objects.specs.Responses.{box_at}
use Rattle.ash_objects.specs.Marking.{without_marks}
use Rattle.ash_object_ranks.specs.ShownTables.{SlotNames, body_shown, objects_shown}
use Rattle.ash_object_ranks.proofs.ShownTables.{living_shown, shown_at}
use Rattle.ash_run_steps.specs.Following.{HasAnswered, IsMarked}
use Rattle.ash_run_steps.specs.Answered.{Answered, Boxes, boxes_of}
use Rattle.ash_run_steps.specs.RunStates.{HoldsRoots}
use Rattle.ash_change_laws.specs.MarkedObjects.{IsSettled, KeepNames}
use Rattle.ash_change_laws.specs.ChangedStates.{Discarded, Changes, Names, NamesNoMore, AreNamedBy, IsModuleChange}
use Rattle.ash_change_laws.proofs.ChangedStates.{steps_are_named}
use Rattle.ash_change_laws.proofs.MarkedObjects.{clears_marks, marked_at, none_marked}
use Rattle.ash_run_steps.specs.Becoming.{Gave}
use Rattle.ash_requests.specs.States.{LoadedModule, globals_of}
use Rattle.ash_requests.specs.Requests.{Request}
use Rattle.ash_requests.specs.Requests as replies
use Rattle.ash_requests.specs.Steps.{performed}
use Rattle.ash_requests.specs.Steps as steps
use Rattle.ash_soundness.specs.WellFormedStates.{AreHosts}
use Rattle.ash_plain_steps.specs.StateViews.{modules_seen}
use Rattle.ash_states.specs.HostStates.{HostState, IsAdmitted, embedding_for, service_kinds}
use Rattle.ash_states.proofs.Lists.{each_at}
use Rattle.ash_table_states.specs.TableStates.{names_in, state_shown}
use Rattle.ash_change_records.specs.ListedChanges.{IsListableChange, AreListable}
use Rattle.ash_change_records.proofs.ListedFit.{names_listable}
use Rattle.ash_engine.specs.declared.live.Live.{Live}
use Rattle.ash_engine.specs.LiveStates.{plain_box}
use Rattle.ash_engine.specs.LiveSteps.{TakesStep}
use Rattle.ash_engine.specs.declared.changes.ModuleChange.{ModuleChange}
use Rattle.ash_engine.specs.NamedChanges.{AreTaken, changes_seen, module_change_seen}
use Rattle.ash_engine.specs.TableStates.{slots_of, names_of, roots_of, BoxesFit, durable_seen, live_seen, IsLive}
use Rattle.ash_engine.proofs.Admitted.{step_admitted}
use Rattle.ash_engine.proofs.CallEnds.{numbered_from, boxes_answered, kinds_kept}
use Rattle.ash_engine.proofs.GivenAnswers.{answers_fit}
use Rattle.ash_engine.proofs.ListableChanges.{marked_rise}
use Rattle.ash_engine.proofs.LoadEnds.{answered_with}
use Rattle.ash_engine.proofs.TableCalls.{hosts_of}
use Rattle.ash_engine.proofs.Unmarked.{same_boxes, same_state, still_holds}

-- what a live state shows, if these modules are loaded, in these slots
pub record IsShown {B : Type 0} (l : Live B) (modules : List LoadedModule) (slots : List ℕ) (seq : ℕ)
    (table : Table B) : Type 0 where
  pub modules_are : modules_seen l.loaded.modules.items ≡ modules
  pub slots_are : slots_of l.compiled.items ≡ slots
  pub seq_is : l.loaded.seq ≡ seq
  pub table_is : l.table ≡ without_marks table

-- The names that a live state has of what changed: those of the events, of the change of the modules, and of the marks
-- of a table, if these modules are loaded, in these slots; nothing is marked if a module was discarded. Some names of
-- modules are those of the objects before and after.
pub record HasNames {B : Type 0} (G : Ghosts B) (old new : Live B) (events : List Event) (modules : List LoadedModule)
    (slots : List ℕ) (table : Table B) : Type 0 where
  pub change : ModuleChange
  pub taken_so : AreTaken events change table new.changes
  pub change_is : IsModuleChange (module_change_seen modules change) (modules_seen old.loaded.modules.items) modules
  pub listable : IsListableChange (module_change_seen modules change)
  pub discards : (name : List ℕ) → module_change_seen modules change ≡ Discarded name → (number : ℕ) → IsMarked table number → ⊥
  pub names : SlotNames
  pub shown_before : objects_shown G (names_of old) old.table.objects ≡ objects_shown G names old.table.objects
  pub same_names : KeepNames G names (names_in modules slots) table

-- what is shown as a host object has a box
host_boxed : {B : Type 0} (G : Ghosts B) (names : SlotNames) (table : Table B) (number kind : ℕ) (s : List ℕ)
    → IsMarked table number → object_at number (objects_shown G names table.objects) ≡ Some (Host kind s)
    → IsSome (box_at number table)
host_boxed {B} G names table number kind s marked at =
    subst (λ (o : Option (Living B)). IsSome (option_and_then (λ (x : Living B). box_of x.body) o)) (sym marked.there)
    (boxed marked.object.body (same_Some (body_shown G names marked.object.body) (Host kind s)
    (sym (ap (option_map (living_shown G names)) marked.there) ∙ sym (shown_at G names number table.objects) ∙ at)))
  where
    boxed : (b : Body B) → body_shown G names b ≡ Host kind s → IsSome (box_of b)
    boxed (bodies.Script script) is = absurd (cc)
    boxed (bodies.Array array) is = absurd (cc)
    boxed (bodies.Host box) is = refl

-- a list of which nothing is an item
none_are : (ns : List ℕ) → ((n : ℕ) → Contains ns n → ⊥) → ns ≡ []
none_are [] none = refl
none_are (n ∷ ns) none = absurd (none n (0, omega arith, refl))

module _ {B : Type 0} (G : Ghosts B) (registered : List Registration) (request : Request) (budget : ℕ) (live : Live B)
    (is_live : IsLive G registered live) where
  abbrev durable : HostState
  durable = durable_seen G registered live

  module _ (end : End) (events : List Event) (modules : List LoadedModule) (slots : List ℕ) (table : Table B)
      (records : List HostRecord)
      (gave : Gave G records live.table [] table events)
      (step_is : steps.step (embedding_for registered) budget request durable.state
      (hosts_of G live.table records) ≡ Some (answered_with G live.loaded.seq end events modules slots table))
      (new : Live B) (shown : IsShown new modules slots (live.loaded.seq + 1) table)
      (has : HasNames G live new events modules slots table) where
    abbrev reached : HostState
    reached = record { registered = registered; state = state_shown G modules slots (live.loaded.seq + 1) table }

    reached_is : durable_seen G registered new ≡ reached
    reached_is = (λ i. record {
      registered = registered;
      state = state_shown G (shown.modules_are i) (shown.slots_are i)
          (shown.seq_is i) (shown.table_is i);
    })
        ∙ (λ i. record { registered = registered; state = same_state G modules slots (live.loaded.seq + 1) table i })

    hosts_fit : AreHosts (hosts_of G live.table records)
    hosts_fit = record { pool = is_live.fit; answers = answers_fit G records live.table table [] events gave }

    kept : IsAdmitted reached × AreHosts (hosts_of G table [])
    kept = step_admitted budget request durable (hosts_of G live.table records) _ is_live.admitted hosts_fit
        (performed step_is)

    abbrev changes : Changes
    changes = changes_seen modules new.changes

    named_by : AreNamedBy G has.names (names_in modules slots) live.table table events durable.state reached.state changes
    named_by = record {
      settled = is_live.settled;
      numbered = numbered_from G (names_of live) live.table ((is_live.admitted).formed).numbered;
      keeps = (gave.follows).marks;
      shown_before = has.shown_before;
      shown_after = refl;
      same_names = has.same_names;
      called = (has.taken_so).called;
      modules = subst (λ (x : ModuleChange). IsModuleChange (module_change_seen modules x)
          (modules_seen live.loaded.modules.items) modules) (sym (has.taken_so).same_modules) has.change_is;
      living = (has.taken_so).living;
      gone = (has.taken_so).gone;
    }

    named : Names changes events durable.state reached.state
    named = steps_are_named G (embedding_for registered) budget request durable.state (hosts_of G live.table records)
        (answered_with G live.loaded.seq end events modules slots table) has.names (names_in modules slots)
        live.table table changes step_is named_by

    in_order : IsInOrder table.objects
    in_order = (numbered_from G (names_in modules slots) table ((kept.0).formed).numbered).in_order

    has_mark : (number : ℕ) → Contains changes.living number → IsMarked table number
    has_mark number is = marked_at table table.objects (each_at table.objects in_order) number
        (subst (λ (ns : List ℕ). Contains ns number) (has.taken_so).living is)

    -- a host object that is named as living came in the request, or gave an answer
    host_changed : (number kind : ℕ) (s : List ℕ) → Contains changes.living number
        → object_at number reached.state.objects ≡ Some (Host kind s)
        → (durable.state.last < number) ⊎ HasAnswered records number
    host_changed number kind s is at =
        elim ((gave.follows).no_more number marked (host_boxed G (names_in modules slots) table number kind s marked at)) [
          | inl new ↦ inl new
          | inr other ↦
              elim other [
                | inl before ↦ absurd (none_marked live.table is_live.settled number before)
                | inr answered ↦ inr answered
              ]
        ]
      where
        marked : IsMarked table number
        marked = has_mark number is

    no_more : NamesNoMore records durable.state reached.state changes
    no_more = record {
      hosts = host_changed;
      discards = λ name is. none_are changes.living (λ number named.
          has.discards name (ap (module_change_seen modules) (sym (has.taken_so).same_modules) ∙ is) number
          (has_mark number named));
    }

    pub taken : TakesStep G budget request (live_seen G registered live)
        (replies.Answered end (live.loaded.seq + 1) events) (live_seen G registered new)
    taken = record {
      answers = records;
      taken = record {
        stepped = step_is ∙ (λ i. Some (record {
          reply = replies.Answered end (live.loaded.seq + 1) events;
          state = (sym reached_is i).state;
          hosts = hosts_of G (sym shown.table_is i) [];
        }));
        registered = refl;
      };
      gave = subst (λ (t : Table B). Answered G (boxes_of live.table) events records (boxes_of t)) (sym shown.table_is)
          (subst (λ (b : Boxes B). Answered G (boxes_of live.table) events records b) (sym (same_boxes table))
          (boxes_answered G records live.table table events
          (numbered_from G (names_of live) live.table ((is_live.admitted).formed).numbered)
          (numbered_from G (names_in modules slots) table ((kept.0).formed).numbered) gave));
      unchanged = λ none. absurd none;
      named = λ answered. subst (λ (ms : List LoadedModule). Names (changes_seen ms new.changes) events durable.state
          (durable_seen G registered new).state) (sym shown.modules_are)
          (subst (λ (h : HostState). Names changes events durable.state h.state) (sym reached_is) named);
      no_more = λ answered. subst (λ (ms : List LoadedModule). NamesNoMore records durable.state
          (durable_seen G registered new).state (changes_seen ms new.changes)) (sym shown.modules_are)
          (subst (λ (h : HostState). NamesNoMore records durable.state h.state changes) (sym reached_is) no_more);
    }

    pub still_admitted : IsAdmitted (durable_seen G registered new)
    still_admitted = subst IsAdmitted (sym reached_is) kept.0

    pub still_fit : BoxesFit (map (plain_box G) new.table.pool)
    still_fit = subst (λ (t : Table B). BoxesFit (map (plain_box G) t.pool)) (sym shown.table_is) (kept.1).pool

    as_many : length table.services ≡ length live.table.services
    as_many =
        let now = (kept.0).served in
        let was = (is_live.admitted).served in
        omega (arith, now, was, length-map table.services G.state, length-map live.table.services G.state)

    pub still_kinds : map G.kind_of new.table.services ≡ service_kinds registered
    still_kinds = ap (λ (t : Table B). map G.kind_of t.services) shown.table_is
        ∙ kinds_kept G gave.drawn live.table table ((gave.follows).boxes) as_many ∙ is_live.kinds

    -- what is held is as before
    pub still_held : HoldsRoots table (handles (globals_of modules)) → HoldsRoots new.table (roots_of new)
    still_held held = subst (λ (t : Table B). HoldsRoots t (roots_of new)) (sym shown.table_is)
        (still_holds table (roots_of new)
        (subst (λ (l : List LoadedModule). HoldsRoots table (handles (globals_of l))) (sym shown.modules_are) held))

    pub still_settled : IsSettled new.table
    still_settled = subst (λ (t : Table B). IsSettled t) (sym shown.table_is) (clears_marks table).clear

    listable : AreListable changes
    listable = names_listable changes events durable reached is_live.admitted named (has.taken_so).services_rise
        (subst (λ (x : ModuleChange). IsListableChange (module_change_seen modules x)) (sym (has.taken_so).same_modules) has.listable)
        (subst (λ (ns : List ℕ). IsStrictlyIncreasing ns) (sym (has.taken_so).living) (marked_rise table in_order))
        (has.taken_so).gone_rise

    pub still_listable : AreListable (changes_seen (modules_seen new.loaded.modules.items) new.changes)
    still_listable = subst (λ (ms : List LoadedModule). AreListable (changes_seen ms new.changes)) (sym shown.modules_are) listable
