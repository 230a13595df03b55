-- The host objects of a table that was restored, and the boxes that they took.
use Rattle.std.proofs.Common.{◌≡◌, ℕ, zero, suc, Bool, true, false, cond, List, [], ◌∷◌, map, filter_map, nat_eq, slice_get, Option, Some, None, refl, sym, ap, ◌∙◌, subst}
use Rattle.std.specs.List.{AllByRecursion, AllZip, cons_option, remove}
use Rattle.std.specs.Option.{option_map, option_and_then}
use Rattle.std.specs.List.{position}
use Rattle.ash_host.specs.declared.host_object.HostObject.{Ghosts}
use Rattle.ash_host.specs.Objects.{Plain, Script as PlainScript, Array as PlainArray, Host as PlainHost, LiveObjects, object_at}
use Rattle.ash_meaning.specs.Activity.{FreeBox}
use Rattle.ash_slots.specs.declared.body.Body.{Body}
use Rattle.ash_slots.specs.declared.body.Body.TheVariants.{Script, Array, Host}
use Rattle.ash_slots.specs.SlotResponses.{box_of}
use Rattle.ash_objects.specs.declared.restoring.SavedObject.{SavedObject}
use Rattle.ash_objects.specs.declared.restoring.SavedHostObject.{SavedHostObject}
use Rattle.ash_objects.specs.Table.{Living}
use Rattle.ash_objects.specs.Restoring.{Drawn, Short, Enough, stored_in, bytes_of, draw_box, draw_others, draw_boxes, with_box_first, RestoresState, RestoresBox, RestoresBoxes, IsBody, AreBodies, bodies_of}
use Rattle.ash_objects.specs.Restoring as restoring
use Rattle.ash_object_ranks.specs.ShownTables.{SlotNames, body_shown, objects_shown}
use Rattle.ash_states.specs.Indexes.{plain_indexed, entry_indexed}
use Rattle.ash_table_states.specs.SavedObjects.{body_saved, entry_saved}
use Rattle.ash_table_states.proofs.Shown.{IsOfKind, IsTaken}
use Rattle.ash_engine.specs.LiveStates.{host_in, hosts_in, plain_box, plain_entry}
use Rattle.ash_run_steps.specs.Answered.{boxed_entry}
use Rattle.ash_engine.specs.SavedDrawing.{wanted_by, by_number}

-- the host objects that are saved

abbrev pub host_saved : SavedHostObject → FreeBox
host_saved saved = record { kind = saved.kind; state = saved.state.items }

abbrev host_entry : SavedObject → Option (ℕ × FreeBox)
host_entry object = option_map (λ (saved : SavedHostObject). (object.number, host_saved saved)) (box_of object.body)

-- by their numbers
abbrev pub hosts_saved : List SavedObject → List (ℕ × FreeBox)
hosts_saved saved = filter_map host_entry saved

abbrev kind_of_entry : ℕ × FreeBox → ℕ × ℕ
kind_of_entry e = (e.0, (e.1).kind)

-- what a state has them as

abbrev host_of : {M : Type 0} → Plain M → Option FreeBox
host_of (PlainScript owner place fields) = None
host_of (PlainArray of elements) = None
host_of (PlainHost kind state) = Some (record { kind = kind; state = state })

abbrev hosts_of : LiveObjects ℕ → List (ℕ × FreeBox)
hosts_of objects = filter_map (λ (e : ℕ × Plain ℕ). option_map (λ (host : FreeBox). (e.0, host)) (host_of e.1)) objects

hosts_indexed : (index : List ℕ → ℕ) (objects : LiveObjects (List ℕ)) → hosts_in objects ≡ hosts_of (map (entry_indexed index) objects)
hosts_indexed index [] = refl
hosts_indexed index (e ∷ objects) = by e.1 (hosts_indexed index objects)
  where
    by : (o : Plain (List ℕ)) → hosts_in objects ≡ hosts_of (map (entry_indexed index) objects)
        → cons_option (option_map (λ (host : FreeBox). (e.0, host)) (host_in o)) (hosts_in objects)
        ≡ cons_option (option_map (λ (host : FreeBox). (e.0, host)) (host_of (plain_indexed index o))) (hosts_of (map (entry_indexed index) objects))
    by (PlainScript owner place fields) later = later
    by (PlainArray of elements) later = later
    by (PlainHost kind state) later = ap (λ (hs : List (ℕ × FreeBox)). (e.0, record { kind = kind; state = state }) ∷ hs) later

hosts_same : (saved : List SavedObject) → hosts_saved saved ≡ hosts_of (map entry_saved saved)
hosts_same [] = refl
hosts_same (object ∷ saved) = by object.body (hosts_same saved)
  where
    by : (body : Body SavedHostObject) → hosts_saved saved ≡ hosts_of (map entry_saved saved)
        → cons_option (option_map (λ (s : SavedHostObject). (object.number, host_saved s)) (box_of body)) (hosts_saved saved)
        ≡ cons_option (option_map (λ (host : FreeBox). (object.number, host)) (host_of (body_saved body))) (hosts_of (map entry_saved saved))
    by (Script script) later = later
    by (Array array) later = later
    by (Host host) later = ap (λ (hs : List (ℕ × FreeBox)). (object.number, host_saved host) ∷ hs) later

-- the host objects of a state are those that are saved
pub hosts_are_saved : (index : List ℕ → ℕ) (objects : LiveObjects (List ℕ)) (saved : List SavedObject) → map entry_saved saved ≡ map (entry_indexed index) objects
    → hosts_in objects ≡ hosts_saved saved
hosts_are_saved index objects saved are = hosts_indexed index objects ∙ ap hosts_of (sym are) ∙ sym (hosts_same saved)

-- and so are the kinds that are wanted
pub kinds_saved : (saved : List SavedObject) → map kind_of_entry (hosts_saved saved) ≡ wanted_by saved
kinds_saved [] = refl
kinds_saved (object ∷ saved) = by object.body (kinds_saved saved)
  where
    by : (body : Body SavedHostObject) → map kind_of_entry (hosts_saved saved) ≡ wanted_by saved
        → map kind_of_entry (cons_option (option_map (λ (s : SavedHostObject). (object.number, host_saved s)) (box_of body)) (hosts_saved saved))
        ≡ cons_option (option_map (λ (kind : ℕ). (object.number, kind)) (option_map (λ s. s.kind) (box_of body))) (wanted_by saved)
    by (Script script) later = later
    by (Array array) later = later
    by (Host host) later = ap (λ (ks : List (ℕ × ℕ)). (object.number, host.kind) ∷ ks) later

module _ {B : Type 0} (G : Ghosts B) where
  -- the boxes are those of the state that a table shows
  pub boxes_shown : (names : SlotNames) (objects : List (ℕ × Living B)) → hosts_in (objects_shown G names objects) ≡ map (plain_entry G) (filter_map boxed_entry objects)
  boxes_shown names [] = refl
  boxes_shown names (e ∷ objects) = by (e.1).body (boxes_shown names objects)
    where
      by : (body : Body B) → hosts_in (objects_shown G names objects) ≡ map (plain_entry G) (filter_map boxed_entry objects)
          → cons_option (option_map (λ (host : FreeBox). (e.0, host)) (host_in (body_shown G names body))) (hosts_in (objects_shown G names objects))
          ≡ map (plain_entry G) (cons_option (option_map (λ (box : B). (e.0, box)) (box_of body)) (filter_map boxed_entry objects))
      by (Script script) later = later
      by (Array array) later = later
      by (Host box) later = ap (λ (hs : List (ℕ × FreeBox)). (e.0, plain_box G box) ∷ hs) later

  -- what a host object took

  abbrev pub box_entry : ℕ → Option B → Option (ℕ × B)
  box_entry number box = option_map (λ (b : B). (number, b)) box

  pub numbered_first : (one : SavedObject) (saved : List SavedObject) (box : Option B) (boxes : List (Option B))
      → by_number (one ∷ saved) (box ∷ boxes) ≡ cons_option (box_entry one.number box) (by_number saved boxes)
  numbered_first one saved None boxes = refl
  numbered_first one saved (Some box) boxes = refl

  -- of two lists with entries at the same number, what is there in both
  both_at : {X Y : Type 0} (m n : ℕ) (x : X) (y : Y) (xs : List (ℕ × X)) (ys : List (ℕ × Y)) (one : X) (other : Y) (Holds : X → Y → Type 0) → Holds x y
      → (object_at m xs ≡ Some one → object_at m ys ≡ Some other → Holds one other)
      → object_at m ((n, x) ∷ xs) ≡ Some one → object_at m ((n, y) ∷ ys) ≡ Some other → Holds one other
  both_at {X} {Y} m n x y xs ys one other Holds here later = by (nat_eq m n)
    where
      by : (b : Bool) → cond b (Some x) (object_at m xs) ≡ Some one → cond b (Some y) (object_at m ys) ≡ Some other → Holds one other
      by true first second =
          let a : x ≡ one = cc in
          let b : y ≡ other = cc in
          subst (λ (z : X). Holds z other) a (subst (λ (z : Y). Holds x z) b here)
      by false first second = later first second

  module _ (m : ℕ) (host : FreeBox) (box after : B) where
    abbrev Took : Type 0
    Took = RestoresState G box host.state after

    took_one : (number : ℕ) (body : Body SavedHostObject) (taken : Option B) (out : Body B) (hosts : List (ℕ × FreeBox)) (drawn boxes : List (ℕ × B))
        → IsOfKind G (option_map (λ s. s.kind) (box_of body)) taken → IsBody G body taken out
        → (object_at m hosts ≡ Some host → object_at m drawn ≡ Some box → object_at m boxes ≡ Some after → Took)
        → object_at m (cons_option (option_map (λ (s : SavedHostObject). (number, host_saved s)) (box_of body)) hosts) ≡ Some host
        → object_at m (cons_option (box_entry number taken) drawn) ≡ Some box
        → object_at m (cons_option (box_entry number (box_of out)) boxes) ≡ Some after → Took
    took_one number (Script script) None out hosts drawn boxes of is later there took has =
        later there took (subst (λ (b : Body B). object_at m (cons_option (box_entry number (box_of b)) boxes) ≡ Some after) is has)
    took_one number (Script script) (Some taken) out hosts drawn boxes of is later there took has = absurd of
    took_one number (Array array) None out hosts drawn boxes of is later there took has =
        later there took (subst (λ (b : Body B). object_at m (cons_option (box_entry number (box_of b)) boxes) ≡ Some after) is has)
    took_one number (Array array) (Some taken) out hosts drawn boxes of is later there took has = absurd of
    took_one number (Host saved) None out hosts drawn boxes of is later there took has = absurd of
    took_one number (Host saved) (Some before) out hosts drawn boxes of (restored, is, restores) later there took has =
        by (nat_eq m number) there took (subst (λ (b : Body B). object_at m (cons_option (box_entry number (box_of b)) boxes) ≡ Some after) is has)
      where
        by : (b : Bool) → cond b (Some (host_saved saved)) (object_at m hosts) ≡ Some host → cond b (Some before) (object_at m drawn) ≡ Some box
            → cond b (Some restored) (object_at m boxes) ≡ Some after → Took
        by true first second third =
            let a : host_saved saved ≡ host = cc in
            let b : before ≡ box = cc in
            let c : restored ≡ after = cc in
            subst (λ (h : FreeBox). RestoresState G box h.state after) a
            (subst (λ (x : B). RestoresState G x saved.state.items after) b (subst (λ (x : B). RestoresState G before saved.state.items x) c restores))
        by false first second third = later first second third

    -- the box that a host object took has its state
    pub took : (saved : List SavedObject) (boxes : List (Option B)) (objects : List (ℕ × Living B)) → AllZip (IsTaken G) saved boxes → AreBodies G saved boxes (bodies_of objects)
        → object_at m (hosts_saved saved) ≡ Some host → object_at m (by_number saved boxes) ≡ Some box → object_at m (filter_map boxed_entry objects) ≡ Some after → Took
    took [] [] objects of are there drew has = absurd (cc)
    took [] (b ∷ boxes) objects of are there drew has = absurd of
    took (one ∷ saved) [] objects of are there drew has = absurd of
    took (one ∷ saved) (b ∷ boxes) [] of are there drew has = absurd are
    took (one ∷ saved) (b ∷ boxes) (e ∷ objects) of are there drew has =
        took_one one.number one.body b (e.1).body (hosts_saved saved) (by_number saved boxes) (filter_map boxed_entry objects) of.0 are.1
        (λ there2 drew2 has2. took saved boxes objects of.1 are.2 there2 drew2 has2)
        there
        (subst (λ (ds : List (ℕ × B)). object_at m ds ≡ Some box) (numbered_first one saved b boxes) drew)
        (subst (λ (n : ℕ). object_at m (cons_option (box_entry n (box_of (e.1).body)) (filter_map boxed_entry objects)) ≡ Some after) are.0 has)

  -- what is left of a pool

  all_removed : (P : B → Type 0) (pool : List B) (place : ℕ) → AllByRecursion P pool → AllByRecursion P (remove pool place)
  all_removed P [] zero all = tt
  all_removed P [] (suc place) all = tt
  all_removed P (x ∷ pool) zero all = all.1
  all_removed P (x ∷ pool) (suc place) all = (all.0, all_removed P pool place all.1)

  all_drawn : (P : B → Type 0) (kind : ℕ) (pool : List B) (taken : B × List B) → draw_box G kind pool ≡ Some taken → AllByRecursion P pool → AllByRecursion P taken.1
  all_drawn P kind pool taken is all = by (position (λ box. nat_eq (G.kind_of box) kind) pool) is
    where
      at : (place : ℕ) (o : Option B) → option_map (λ box. (box, remove pool place)) o ≡ Some taken → AllByRecursion P taken.1
      at place None e = absurd (cc)
      at place (Some box) e = let same : remove pool place ≡ taken.1 = cc in subst (λ (bs : List B). AllByRecursion P bs) same (all_removed P pool place all)

      by : (p : Option ℕ) → option_and_then (λ place. option_map (λ box. (box, remove pool place)) (slice_get pool place)) p ≡ Some taken → AllByRecursion P taken.1
      by None e = absurd (cc)
      by (Some place) e = at place (slice_get pool place) e

  -- what holds of each box of a pool holds of each that is left
  pub all_left : (P : B → Type 0) (saved : List SavedObject) (pool : List B) (boxes : List (Option B)) (left : List B) → draw_boxes G saved pool ≡ Enough boxes left
      → AllByRecursion P pool → AllByRecursion P left
  all_left P [] pool boxes left h all = let same : pool ≡ left = cc in subst (λ (bs : List B). AllByRecursion P bs) same all
  all_left P (one ∷ saved) pool boxes left h all = by (restoring.kind_wanted one) (λ rest bs l is holds. all_left P saved rest bs l is holds) h
    where
      Later : Type 0
      Later = (rest : List B) (bs : List (Option B)) (l : List B) → draw_boxes G saved rest ≡ Enough bs l → AllByRecursion P rest → AllByRecursion P l

      step : (box : Option B) (rest : List B) (d : Drawn B) → draw_boxes G saved rest ≡ d → Later → AllByRecursion P rest
          → with_box_first box d ≡ Enough boxes left → AllByRecursion P left
      step box rest (Short kind) is later holds e = absurd (cc)
      step box rest (Enough bs l) is later holds e = let same : l ≡ left = cc in subst (λ (x : List B). AllByRecursion P x) same (later rest bs l is holds)

      taking : (kind : ℕ) (t : Option (B × List B)) → draw_box G kind pool ≡ t → Later → draw_others kind t (λ rest. draw_boxes G saved rest) ≡ Enough boxes left → AllByRecursion P left
      taking kind None is later e = absurd (cc)
      taking kind (Some t) is later e = step (Some t.0) t.1 (draw_boxes G saved t.1) refl later (all_drawn P kind pool t is all) e

      by : (w : Option ℕ) → Later → restoring.draw_then G w pool (λ rest. draw_boxes G saved rest) ≡ Enough boxes left → AllByRecursion P left
      by None later e = step None pool (draw_boxes G saved pool) refl later all e
      by (Some kind) later e = taking kind (draw_box G kind pool) refl later e
