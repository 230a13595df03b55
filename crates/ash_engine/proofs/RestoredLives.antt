-- The live state of one that was stored.
use Rattle.std.proofs.Common.{◌≡◌, ℕ, suc, List, [], ◌∷◌, length, map, refl, sym, ap, ◌∙◌, subst, arith}
use Rattle.std.specs.Prelude.{All, IsTrue, Option, Some, None, IfSome, Vec, false, filter_map, option_map}
use Rattle.std.specs.List.{AllByRecursion, cons_option}
use Rattle.std.proofs.lemmas.List.{length-map}
use Rattle.ash_host.specs.declared.host_object.HostObject.{Ghosts}
use Rattle.ash_host.specs.declared.word.Word.{Word}
use Rattle.ash_host.specs.Objects.{object_at, handles}
use Rattle.ash_registry.specs.AcceptedRegistrations.{Registration}
use Rattle.ash_objects.specs.Restoring.{RestoresServices}
use Rattle.ash_objects.specs.Table.{Living, Table}
use Rattle.ash_objects.proofs.Marks.{object_at-mapped}
use Rattle.ash_change_laws.specs.ChangedStates.{nothing}
use Rattle.ash_run_steps.specs.Answered.{Boxes, boxed_entry, boxes_of}
use Rattle.ash_run_steps.specs.RunStates.{HoldsRoots, HoldsMore, bare, bare_living, is_alive_in}
use Rattle.ash_requests.specs.States.{State, globals_of}
use Rattle.ash_soundness.specs.WellFormed.{IsState}
use Rattle.ash_plain_steps.specs.declared.state.LoadedModule.{LoadedModule}
use Rattle.ash_plain_steps.specs.declared.state.PlainState.{PlainState}
use Rattle.ash_plain_steps.specs.StateViews.{modules_seen, state_seen}
use Rattle.ash_plain_steps.specs.Consistency.{AreConsistent}
use Rattle.ash_states.specs.HostStates.{HostState, IsAdmitted, embedding_for, service_kinds}
use Rattle.ash_states.specs.Holding.{held_with, IsHeld}
use Rattle.ash_table_states.specs.TableStates.{names_in, places_from, state_shown}
use Rattle.ash_table_states.proofs.Saved.{back}
use Rattle.ash_engine.specs.declared.live.Live.{Live}
use Rattle.ash_engine.specs.LiveStates.{plain_box, services_for}
use Rattle.ash_engine.proofs.ListableChanges.{nothing_listable}
use Rattle.ash_engine.specs.NamedChanges.{changes_seen}
use Rattle.ash_engine.specs.RestoredBoxes.{HasServices, IsShort, IsRefused, Restores}
use Rattle.ash_engine.specs.RestoredTables.{IsTableOf, IsShortOf, IsRefusedOf}
use Rattle.ash_engine.specs.TableStates.{AreCompiled, BoxesFit, slots_of, durable_seen, live_seen, IsLive}
use Rattle.ash_engine.proofs.Living.{boxes_are}
use Rattle.ash_engine.proofs.RestoredState as restored_state
use Rattle.ash_engine.proofs.SavedTables.{are_in_order}
use Rattle.ash_engine.proofs.Served.{services_restored}
use Rattle.ash_engine.proofs.Started as started
use Rattle.ash_engine.proofs.StartedGlobals.{globals_live}

-- boxes are the same whatever is held

module _ {B : Type 0} where
  boxed_bare : (objects : List (ℕ × Living B)) → filter_map boxed_entry (map (λ (e : ℕ × Living B). (e.0, bare_living e.1)) objects) ≡ filter_map boxed_entry objects
  boxed_bare [] = refl
  boxed_bare (e ∷ objects) = ap (λ (bs : List (ℕ × B)). cons_option (boxed_entry e) bs) (boxed_bare objects)

  bare_boxes : (table : Table B) → boxes_of (bare table) ≡ boxes_of table
  bare_boxes table = ap (λ (bs : List (ℕ × B)). let r : Boxes B = record { objects = bs; pool = table.pool; services = table.services } in r) (boxed_bare table.objects)

  pub same_boxes : (old new : Table B) → bare new ≡ bare old → boxes_of new ≡ boxes_of old
  same_boxes old new same = sym (bare_boxes new) ∙ ap (λ (t : Table B). boxes_of t) same ∙ bare_boxes old

  unmarked_as : (x : Option (Living B)) → IfSome (option_map bare_living x) (λ object. object.touched ≡ false) → IfSome x (λ object. object.touched ≡ false)
  unmarked_as None h = tt
  unmarked_as (Some o) h = h

  unmarked_bare : (x : Option (Living B)) → IfSome x (λ object. object.touched ≡ false) → IfSome (option_map bare_living x) (λ object. object.touched ≡ false)
  unmarked_bare None h = tt
  unmarked_bare (Some o) h = h

  -- what is held has the marks that it had
  pub still_unmarked : (old new : Table B) → bare new ≡ bare old → (n : ℕ) → IfSome (object_at n old.objects) (λ object. object.touched ≡ false)
      → IfSome (object_at n new.objects) (λ object. object.touched ≡ false)
  still_unmarked old new same n h =
      let at = sym (object_at-mapped bare_living n new.objects) ∙ ap (λ (t : Table B). object_at n t.objects) same ∙ object_at-mapped bare_living n old.objects in
      unmarked_as (object_at n new.objects) (subst (λ (x : Option (Living B)). IfSome x (λ object. object.touched ≡ false)) (sym at) (unmarked_bare (object_at n old.objects) h))

  all_of : (P : B → Type 0) (boxes : List B) → All P boxes → AllByRecursion P boxes
  all_of P [] all = tt
  all_of P (box ∷ boxes) all = (all 0 box (omega arith), all_of P boxes (λ k d inside. all (suc k) d (omega (arith, inside))))

module _ {B : Type 0} (G : Ghosts B) where
  plain_fit : (boxes : List B) → AllByRecursion (λ (box : B). IsState (G.state box)) boxes → BoxesFit (map (plain_box G) boxes)
  plain_fit [] all = tt
  plain_fit (box ∷ boxes) all = (all.0, plain_fit boxes all.1)

  module _ (registered : List Registration) (s : PlainState) (held : IsHeld registered s) (pool : List B) where
    -- what globals hold lives in the table of the state
    pub held_live : (table : Table B) → IsTableOf G (state_seen s) pool table → All (λ (word : Word). IsTrue (is_alive_in word table)) (globals_of (modules_seen s.modules.items))
    held_live table t =
        globals_live registered s held.admitted G (names_in (modules_seen s.modules.items) (places_from 0 (modules_seen s.modules.items))) table
        (started.shown G (state_seen s) t.saved t.are pool table t.restored (back (held_with registered s) held.admitted))

    pub falls_short : (kind : ℕ) → IsShortOf G (state_seen s) pool kind → (given : List B) → HasServices G registered given → IsShort G (held_with registered s) pool given kind
    falls_short kind t given has = started.falls_short G (held_with registered s) pool given has kind t

    pub refuses : (services : List B) (number : ℕ) → IsRefusedOf G (state_seen s) pool services number → (given : List B) → HasServices G registered given
        → services ≡ services_for registered given → IsRefused G (held_with registered s) pool given number
    refuses services number t given has are =
        let t2 : IsRefusedOf G (state_seen s) pool (services_for registered given) number = subst (λ (ss : List B). IsRefusedOf G (state_seen s) pool ss number) are t in
        started.refuses G (held_with registered s) pool given has number t2 (are_in_order (held_with registered s) held.admitted t2.saved t2.are)

    module _ (services : List B) (kinds : map G.kind_of services ≡ service_kinds registered) (before : Table B) (t : IsTableOf G (state_seen s) pool before)
        (served : RestoresServices G services (state_seen s).services before.services) (l : Live B)
        (more : HoldsMore (handles (globals_of (modules_seen s.modules.items))) before l.table)
        (modules : l.loaded.modules ≡ s.modules) (seq : l.loaded.seq ≡ s.seq)
        (slots : slots_of l.compiled.items ≡ places_from 0 (modules_seen s.modules.items)) where
      both : ((state_seen s).services ≡ map G.state before.services) × (map G.kind_of before.services ≡ map G.kind_of services)
      both =
          let many : length services ≡ length (state_seen s).services = sym (length-map services G.kind_of) ∙ ap (length {A = ℕ}) kinds ∙ sym (held.admitted).served in
          services_restored G (state_seen s).services services before.services many served

      abbrev shown_by : List LoadedModule → List ℕ → ℕ → HostState
      shown_by ms slots seq = record { registered = registered; state = state_shown G (modules_seen ms) slots seq l.table }

      -- it is the state that was stored
      pub durable_is : durable_seen G registered l ≡ held_with registered s
      durable_is =
          ap (λ (ms : Vec LoadedModule _). shown_by ms.items (slots_of l.compiled.items) l.loaded.seq) modules
          ∙ ap (λ (ns : List ℕ). shown_by s.modules.items ns l.loaded.seq) slots
          ∙ ap (λ (n : ℕ). shown_by s.modules.items (places_from 0 (modules_seen s.modules.items)) n) seq
          ∙ ap (λ (st : State). let r : HostState = record { registered = registered; state = st } in r)
          (restored_state.state_is G (state_seen s) pool before l.table t more.same (back (held_with registered s) held.admitted) both.0)

      pub lives : changes_seen (modules_seen l.loaded.modules.items) l.changes ≡ nothing → AreCompiled s.modules.items l.compiled.items → All (λ (box : B). IsState (G.state box)) pool → IsLive G registered l
      lives unchanged compiled fit = record {
        admitted = subst (λ (st : HostState). IsAdmitted st) (sym durable_is) held.admitted;
        consistent = subst (λ (ms : Vec LoadedModule _). AreConsistent (embedding_for registered) ms.items) (sym modules) held.consistent;
        compiled = subst (λ (ms : Vec LoadedModule _). AreCompiled ms.items l.compiled.items) (sym modules) compiled;
        held = subst (λ (ms : Vec LoadedModule _). HoldsRoots l.table (handles (globals_of (modules_seen ms.items)))) (sym modules)
            (restored_state.holds_roots (handles (globals_of (modules_seen s.modules.items))) before l.table (t.restored).not_held more);
        kinds = ap (λ (b : Table B). map G.kind_of b.services) more.same ∙ both.1 ∙ kinds;
        fit = plain_fit l.table.pool (restored_state.left_fit G (state_seen s) pool before l.table t more.same (λ (box : B). IsState (G.state box))
            (all_of (λ (box : B). IsState (G.state box)) pool fit));
        settled = record {
          unmarked = λ n. still_unmarked before l.table more.same n ((t.restored).unmarked n);
          none_gone = ap (λ (b : Table B). b.gone) more.same ∙ t.gone;
          settled = ap (λ (b : Table B). b.settled) more.same ∙ t.settled ∙ sym t.last ∙ sym (ap (λ (b : Table B). b.last) more.same);
        };
        listable = nothing_listable (changes_seen (modules_seen l.loaded.modules.items) l.changes) unchanged;
      }

      pub restores : IsLive G registered l → changes_seen (modules_seen l.loaded.modules.items) l.changes ≡ nothing → (given : List B) → HasServices G registered given → services ≡ services_for registered given
          → Restores G (held_with registered s) pool given (live_seen G registered l)
      restores live unchanged given has are =
          started.restores G (held_with registered s) pool given has before (live_seen G registered l) t durable_is unchanged (boxes_are G registered l live) (same_boxes before l.table more.same)
          (subst (λ (ss : List B). RestoresServices G ss (state_seen s).services before.services) are served)
