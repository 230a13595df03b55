-- The live state before any request.
use Rattle.std.proofs.Common.{◌≡◌, ◌≤◌, ℕ, suc, List, [], ◌∷◌, length, map, refl, sym, ap, ◌∙◌, subst, arith}
use Rattle.std.specs.Prelude.{All, IfSome, false}
use Rattle.std.specs.List.{AllByRecursion, IsDistinct}
use Rattle.std.specs.Option.{option_map_or}
use Rattle.std.proofs.lemmas.List.{length-map}
use Rattle.ash_host.specs.declared.host_object.HostObject.{Ghosts}
use Rattle.ash_host.specs.Objects.{handles, object_at}
use Rattle.ash_registry.specs.AcceptedRegistrations.{Registration}
use Rattle.ash_image.specs.Image.{max_services}
use Rattle.ash_objects.specs.Table.{Living, holds_of}
use Rattle.ash_run_steps.specs.RunStates.{times}
use Rattle.ash_run_steps.specs.Answered.{Boxes, boxes_of}
use Rattle.ash_requests.specs.States.{globals_of}
use Rattle.ash_soundness.specs.WellFormed.{IsState}
use Rattle.ash_plain_steps.specs.declared.state.LoadedModule.{LoadedModule}
use Rattle.ash_plain_steps.specs.StateViews.{modules_seen}
use Rattle.ash_plain_steps.specs.Consistency.{AreConsistent}
use Rattle.ash_states.specs.HostStates.{HostState, IsAdmitted, embedding_for, service_kinds, empty}
use Rattle.ash_states.proofs.Admitted.{first_admitted}
use Rattle.ash_change_laws.specs.ChangedStates.{nothing}
use Rattle.ash_change_laws.specs.MarkedObjects.{IsSettled}
use Rattle.ash_engine.specs.declared.live.Compiled.{Compiled}
use Rattle.ash_engine.specs.declared.live.Live.{Live}
use Rattle.ash_engine.specs.NamedChanges.{changes_seen}
use Rattle.ash_engine.specs.LiveStates.{LiveState, plain_box, begin, services_for}
use Rattle.ash_engine.proofs.ListableChanges.{nothing_listable}
use Rattle.ash_engine.specs.TableStates.{AreCompiled, BoxesFit, durable_seen, live_seen, roots_of, IsLive}

none_compiled : AreCompiled [] []
unfolding IsDistinct
none_compiled = record { each = tt; apart = tt }

module _ {B : Type 0} (G : Ghosts B) where
  pub states_fit : (boxes : List B) → All (λ (box : B). IsState (G.state box)) boxes → AllByRecursion IsState (map G.state boxes)
  states_fit [] all = tt
  states_fit (box ∷ boxes) all = (all 0 box (omega arith), states_fit boxes (λ k d inside. all (suc k) d (omega (arith, inside))))

  pub boxes_fit : (boxes : List B) → All (λ (box : B). IsState (G.state box)) boxes → BoxesFit (map (plain_box G) boxes)
  boxes_fit [] all = tt
  boxes_fit (box ∷ boxes) all = (all 0 box (omega arith), boxes_fit boxes (λ k d inside. all (suc k) d (omega (arith, inside))))

  module _ (registered : List Registration) (pool services : List B) (l : Live B) (none : l.loaded.modules.items ≡ []) (seq : l.loaded.seq ≡ 0) (compiled : l.compiled.items ≡ [])
      (objects : l.table.objects ≡ []) (pooled : l.table.pool ≡ pool) (served : l.table.services ≡ services) (last : l.table.last ≡ 0)
      (settled : l.table.settled ≡ 0) (gone : l.table.gone ≡ []) where
    durable_is : durable_seen G registered l ≡ empty registered (map G.state services)
    durable_is = rw (none, seq, objects, served, last) refl

    nothing_held : (n : ℕ) → holds_of n l.table ≡ times n (roots_of l)
    nothing_held n =
        ap (λ (os : List (ℕ × Living B)). option_map_or (λ (object : Living B). object.holds) (object_at n os) 0) objects
        ∙ ap (λ (ms : List LoadedModule). times n (handles (globals_of (modules_seen ms)))) (sym none)

    none_marked : IsSettled l.table
    none_marked = record {
      unmarked = λ n. subst (λ (os : List (ℕ × Living B)). IfSome (object_at n os) (λ object. object.touched ≡ false)) (sym objects) tt;
      none_gone = gone;
      settled = settled ∙ sym last;
    }

    pub lives_first : changes_seen (modules_seen l.loaded.modules.items) l.changes ≡ nothing → map G.kind_of services ≡ service_kinds registered → length services ≤ max_services
        → All (λ (box : B). IsState (G.state box)) pool → All (λ (box : B). IsState (G.state box)) services → IsLive G registered l
    lives_first unchanged kinds few pool_fits services_fit =
        let many : length (map G.state services) ≡ length services = length-map services G.state in
        let as_many : length (map G.state services) ≡ length (service_kinds registered) = many ∙ sym (length-map services G.kind_of) ∙ ap (length {A = ℕ}) kinds in
        record {
          admitted = subst (λ (s : HostState). IsAdmitted s) (sym durable_is)
              (first_admitted registered (map G.state services) as_many (subst (λ (n : ℕ). n ≤ max_services) (sym many) few) (states_fit services services_fit));
          consistent = subst (λ (ms : List LoadedModule). AreConsistent (embedding_for registered) ms) (sym none) (record { ascending = tt; read = tt });
          compiled = subst (λ (ms : List LoadedModule). AreCompiled ms l.compiled.items) (sym none) (subst (λ (cs : List Compiled). AreCompiled [] cs) (sym compiled) none_compiled);
          held = nothing_held;
          kinds = ap (λ (boxes : List B). map G.kind_of boxes) served ∙ kinds;
          fit = subst (λ (boxes : List B). BoxesFit (map (plain_box G) boxes)) (sym pooled) (boxes_fit pool pool_fits);
          settled = none_marked;
          listable = nothing_listable (changes_seen (modules_seen l.loaded.modules.items) l.changes) unchanged;
        }

    abbrev boxes_first : Boxes B
    boxes_first = record { objects = []; pool = pool; services = services }

    boxes_are : boxes_of l.table ≡ boxes_first
    boxes_are = rw (objects, pooled, served) refl

    pub begun : changes_seen (modules_seen l.loaded.modules.items) l.changes ≡ nothing → (given : List B) → services ≡ services_for registered given
        → live_seen G registered l ≡ begin G registered pool given
    begun unchanged given are =
        (λ i. let r : LiveState B = record {
          durable = durable_is i;
          pool = map (plain_box G) (pooled i);
          boxes = boxes_are i;
          changes = unchanged i;
        } in r)
        ∙ ap (λ (ss : List B). let r : LiveState B = record {
          durable = empty registered (map G.state ss);
          pool = map (plain_box G) pool;
          boxes = record { objects = []; pool = pool; services = ss };
          changes = nothing;
        } in r) are
