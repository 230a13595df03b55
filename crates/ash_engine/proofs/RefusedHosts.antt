-- The host object whose box refused its state, and those of lower numbers.
use Rattle.std.proofs.Common.{◌≡◌, ◌<◌, ◌≤◌, ℕ, zero, suc, Bool, true, false, cond, List, [], ◌∷◌, take, nat_eq, slice_get, Option, Some, None, refl, sym, ap, ◌∙◌, subst, arith, Less}
use Rattle.std.specs.List.{AllZip, cons_option}
use Rattle.std.specs.List.Sorted.{IsStrictlySortedBy}
use Rattle.std.specs.Option.{option_map}
use Rattle.std.specs.Ordering.{nat_cmp}
use Rattle.std.proofs.lemmas.Bool.{eq-eqb}
use Rattle.std.proofs.lemmas.Bool.Decides.{nat_tests}
use Rattle.std.proofs.lemmas.Map.Keys.{sorted_from_strictly_increasing}
use Rattle.ash_host.specs.declared.host_object.HostObject.{Ghosts}
use Rattle.ash_host.specs.Objects.{object_at, numbers, IsInOrder}
use Rattle.ash_meaning.specs.Activity.{FreeBox}
use Rattle.ash_slots.specs.declared.body.Body.{Body}
use Rattle.ash_slots.specs.declared.body.Body.TheVariants.{Script, Array, Host}
use Rattle.ash_slots.specs.SlotResponses.{box_of}
use Rattle.ash_objects.specs.declared.restoring.SavedObject.{SavedObject}
use Rattle.ash_objects.specs.declared.restoring.SavedHostObject.{SavedHostObject}
use Rattle.ash_objects.specs.Restoring.{stored_in, bytes_of, RestoresState, RestoresBox, RestoresBoxes}
use Rattle.ash_objects.specs.Restoring as restoring
use Rattle.ash_table_states.proofs.Shown.{IsOfKind, IsTaken}
use Rattle.ash_engine.specs.SavedDrawing.{by_number}
use Rattle.ash_engine.proofs.RestoredHosts.{host_saved, hosts_saved, box_entry, numbered_first}

-- each number is above the one before

RisesFrom : ℕ → List SavedObject → Type 0
RisesFrom low [] = Unit {0}
RisesFrom low (one ∷ saved) = (low < one.number) × RisesFrom one.number saved

Rises : List SavedObject → Type 0
Rises [] = Unit {0}
Rises (one ∷ saved) = RisesFrom one.number saved

less : (x y : ℕ) → nat_cmp x y ≡ Less → x < y
less x y h = grind (arith, nat_tests)

rises_from : (one : SavedObject) (saved : List SavedObject) → IsStrictlySortedBy nat_cmp (numbers (stored_in (one ∷ saved))) → RisesFrom one.number saved
unfolding RisesFrom IsStrictlySortedBy
rises_from one [] h = tt
rises_from one (other ∷ saved) h = (less one.number other.number (h.0).0, rises_from other saved h.1)

rises : (saved : List SavedObject) → IsInOrder (stored_in saved) → Rises saved
unfolding Rises
rises [] h = tt
rises (one ∷ saved) h = rises_from one saved (sorted_from_strictly_increasing (numbers (stored_in (one ∷ saved))) h)

rises_after : (low : ℕ) (saved : List SavedObject) → RisesFrom low saved → Rises saved
unfolding RisesFrom Rises
rises_after low [] h = tt
rises_after low (one ∷ saved) h = h.1

above : (low place : ℕ) (saved : List SavedObject) (object : SavedObject) → RisesFrom low saved → slice_get saved place ≡ Some object → low < object.number
unfolding RisesFrom
above low place [] object h at = absurd (cc)
above low zero (one ∷ saved) object h at = let same : one ≡ object = cc in subst (λ (o : SavedObject). low < o.number) same h.0
above low (suc place) (one ∷ saved) object h at =
    let more = above one.number place saved object h.1 at in
    let first : low < one.number = h.0 in
    omega (arith, more, first)

differs : (m n : ℕ) → m < n → nat_eq m n ≡ false
differs m n h = grind (arith, nat_tests)

differs_too : (m n : ℕ) → n < m → nat_eq m n ≡ false
differs_too m n h = grind (arith, nat_tests)

-- an entry at another number is passed over
passed : {A X : Type 0} (m n : ℕ) (o : Option A) (f : A → X) (rest : List (ℕ × X)) → nat_eq m n ≡ false
    → object_at m (cons_option (option_map (λ (x : A). (n, f x)) o) rest) ≡ object_at m rest
passed m n None f rest other = refl
passed m n (Some x) f rest other = ap (λ (b : Bool). cond b (Some (f x)) (object_at m rest)) other

here : {X : Type 0} (n : ℕ) (x : X) (rest : List (ℕ × X)) → object_at n ((n, x) ∷ rest) ≡ Some x
here n x rest = ap (λ (b : Bool). cond b (Some x) (object_at n rest)) (eq-eqb n n refl)

none_below : (m low : ℕ) (saved : List SavedObject) → RisesFrom low saved → m ≤ low → object_at m (hosts_saved saved) ≡ None
unfolding RisesFrom
none_below m low [] h le = refl
none_below m low (one ∷ saved) h le =
    let first : low < one.number = h.0 in
    passed m one.number (box_of one.body) host_saved (hosts_saved saved) (differs m one.number (omega (arith, first, le)))
    ∙ none_below m one.number saved h.1 (omega (arith, first, le))

module _ {B : Type 0} (G : Ghosts B) where
  -- the object at a place whose box is this one, by its number
  record IsFoundBy (saved : List SavedObject) (boxes : List (Option B)) (object : SavedObject) (box : B) : Type 0 where
    pub host : SavedHostObject
    pub is : object.body ≡ Host host
    pub there : object_at object.number (hosts_saved saved) ≡ Some (host_saved host)
    pub took : object_at object.number (by_number saved boxes) ≡ Some box

  found_first : (one : SavedObject) (saved : List SavedObject) (box : B) (boxes : List (Option B)) → IsTaken G one (Some box)
      → IsFoundBy (one ∷ saved) (Some box ∷ boxes) one box
  found_first one saved box boxes of = by one.body refl of
    where
      by : (body : Body SavedHostObject) → one.body ≡ body → IsOfKind G (option_map (λ s. s.kind) (box_of body)) (Some box) → IsFoundBy (one ∷ saved) (Some box ∷ boxes) one box
      by (Script script) is of = absurd of
      by (Array array) is of = absurd of
      by (Host host) is of = record {
        host = host;
        is = is;
        there = ap (λ (b : Body SavedHostObject). object_at one.number (cons_option (option_map (λ (s : SavedHostObject). (one.number, host_saved s)) (box_of b)) (hosts_saved saved))) is ∙ here one.number (host_saved host) (hosts_saved saved);
        took = here one.number box (by_number saved boxes);
      }

  found_at : (place : ℕ) (saved : List SavedObject) (boxes : List (Option B)) (object : SavedObject) (box : B) → Rises saved → AllZip (IsTaken G) saved boxes
      → slice_get saved place ≡ Some object → slice_get boxes place ≡ Some (Some box) → IsFoundBy saved boxes object box
  unfolding Rises
  found_at place [] boxes object box h of at took = absurd (cc)
  found_at place (one ∷ saved) [] object box h of at took = absurd of
  found_at zero (one ∷ saved) (b ∷ boxes) object box h of at took =
      let a : one ≡ object = cc in
      let c : b ≡ Some box = cc in
      subst (λ (o : SavedObject). IsFoundBy (one ∷ saved) (b ∷ boxes) o box) a
      (subst (λ (x : Option B). IsFoundBy (one ∷ saved) (x ∷ boxes) one box) (sym c) (found_first one saved box boxes (subst (λ (x : Option B). IsTaken G one x) c of.0)))
  found_at (suc place) (one ∷ saved) (b ∷ boxes) object box h of at took =
      let later = found_at place saved boxes object box (rises_after one.number saved h) of.1 at took in
      let apart = differs_too object.number one.number (above one.number place saved object h at) in
      record {
        host = later.host;
        is = later.is;
        there = passed object.number one.number (box_of one.body) host_saved (hosts_saved saved) apart ∙ later.there;
        took = ap (λ (ds : List (ℕ × B)). object_at object.number ds) (numbered_first G one saved b boxes) ∙ passed object.number one.number b (λ (x : B). x) (by_number saved boxes) apart ∙ later.took;
      }

  -- those of lower numbers took their states

  module _ (m : ℕ) (host : FreeBox) (box : B) where
    abbrev HasTaken : Type 0
    HasTaken = (after : B) × RestoresState G box host.state after

    taken_one : (number : ℕ) (body : Body SavedHostObject) (taken after : Option B) (hosts : List (ℕ × FreeBox)) (drawn : List (ℕ × B))
        → IsOfKind G (option_map (λ s. s.kind) (box_of body)) taken → RestoresBox G body taken after
        → (object_at m hosts ≡ Some host → object_at m drawn ≡ Some box → HasTaken)
        → object_at m (cons_option (option_map (λ (s : SavedHostObject). (number, host_saved s)) (box_of body)) hosts) ≡ Some host
        → object_at m (cons_option (box_entry G number taken) drawn) ≡ Some box → HasTaken
    taken_one number (Script script) None after hosts drawn of back later there took = later there took
    taken_one number (Script script) (Some taken) after hosts drawn of back later there took = absurd of
    taken_one number (Array array) None after hosts drawn of back later there took = later there took
    taken_one number (Array array) (Some taken) after hosts drawn of back later there took = absurd of
    taken_one number (Host saved) None after hosts drawn of back later there took = absurd of
    taken_one number (Host saved) (Some before) after hosts drawn of (restored, is, restores) later there took = by (nat_eq m number) there took
      where
        by : (b : Bool) → cond b (Some (host_saved saved)) (object_at m hosts) ≡ Some host → cond b (Some before) (object_at m drawn) ≡ Some box → HasTaken
        by true first second =
            let a : host_saved saved ≡ host = cc in
            let b : before ≡ box = cc in
            (restored, subst (λ (h : FreeBox). RestoresState G box h.state restored) a (subst (λ (x : B). RestoresState G x saved.state.items restored) b restores))
        by false first second = later first second

    taken_before : (place : ℕ) (saved : List SavedObject) (boxes back : List (Option B)) (object : SavedObject) → Rises saved → AllZip (IsTaken G) saved boxes
        → RestoresBoxes G saved (take place boxes) back → slice_get saved place ≡ Some object → m < object.number
        → object_at m (hosts_saved saved) ≡ Some host → object_at m (by_number saved boxes) ≡ Some box → HasTaken
    unfolding Rises RisesFrom
    taken_before place [] boxes back object h of restores at low there took = absurd (cc)
    taken_before place (one ∷ saved) [] back object h of restores at low there took = absurd of
    taken_before zero (one ∷ saved) (b ∷ boxes) back object h of restores at low there took =
        let same : one ≡ object = cc in
        let first : m < one.number = subst (λ (o : SavedObject). m < o.number) (sym same) low in
        let none : object_at m (hosts_saved (one ∷ saved)) ≡ None = none_below m m (one ∷ saved) (first, h) (omega arith) in
        absurd (cc)
    taken_before (suc place) (one ∷ saved) (b ∷ boxes) [] object h of restores at low there took = let many = restores.many in absurd (cc)
    taken_before (suc place) (one ∷ saved) (b ∷ boxes) (after ∷ back) object h of restores at low there took =
        let all = restores.many in
        taken_one one.number one.body b after (hosts_saved saved) (by_number saved boxes) of.0 (restores.each zero one b after refl refl refl)
        (λ there2 took2. taken_before place saved boxes back object (rises_after one.number saved h) of.1 (record { many = omega (arith, all); each = λ p. restores.each (suc p) }) at low there2 took2)
        there
        (subst (λ (ds : List (ℕ × B)). object_at m ds ≡ Some box) (numbered_first G one saved b boxes) took)

  -- what a table says of the box that refused, by numbers
  pub record IsRefusedBy (saved : List SavedObject) (boxes : List (Option B)) (number : ℕ) : Type 0 where
    pub host : FreeBox
    pub box : B
    pub there : object_at number (hosts_saved saved) ≡ Some host
    pub took : object_at number (by_number saved boxes) ≡ Some box
    pub before : (m : ℕ) (other : FreeBox) (its : B) → m < number → object_at m (hosts_saved saved) ≡ Some other → object_at m (by_number saved boxes) ≡ Some its
        → (after : B) × RestoresState G its other.state after
    pub refused : G.refuses box host.state

  pub refused_by : (saved : List SavedObject) (boxes : List (Option B)) (number : ℕ) → IsInOrder (stored_in saved) → AllZip (IsTaken G) saved boxes
      → restoring.BoxRefused G saved boxes number → IsRefusedBy saved boxes number
  refused_by saved boxes number order of r =
      let h = rises saved order in
      let found = found_at r.place saved boxes r.object r.box h of r.there r.took in
      subst (λ (n : ℕ). IsRefusedBy saved boxes n) r.named
      (record {
        host = host_saved found.host;
        box = r.box;
        there = found.there;
        took = found.took;
        before = λ m other its low there took. taken_before m other its r.place saved boxes r.back r.object h of r.before r.there low there took;
        refused = subst (λ (b : Body SavedHostObject). G.refuses r.box (bytes_of b)) found.is r.refused;
      })
