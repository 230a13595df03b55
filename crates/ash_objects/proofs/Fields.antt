-- What writing a field leaves: the counts follow the words, and nothing else changes.
use Rattle.std.proofs.Common.{◌≡◌, ℕ, Bool, true, false, cond, List, [], ◌∷◌, refl, sym, subst, ap, ◌∙◌, nat_eq, arith, Option, Some, None, length, ◌+◌, ◌-◌, ◌≤◌, ◌<◌, set}
use Rattle.std.specs.Prelude.{IsSomeAnd, IsSome, IfSome, sum_by, slice_get}
use Rattle.std.specs.Option.{option_map, option_map_or}
use Rattle.std.specs.Map.{values_of}
use Rattle.std.proofs.lemmas.Bool.{eqb-true, eq-eqb}
use Rattle.std.proofs.lemmas.List.{length-set}
use Rattle.std.proofs.lemmas.List.Sums.{sum_by-cons}
use Rattle.ash_host.specs.declared.word.Word.{Word}
use Rattle.ash_host.specs.Objects.{object_at, IsInOrder, Lives, handles_to, handle}
use Rattle.ash_slots.specs.declared.body.Body.{Body}
use Rattle.ash_slots.specs.declared.body.Body.TheVariants.{Script, Array, Host}
use Rattle.ash_slots.specs.Bodies.{words_of, with_word}
use Rattle.ash_slots.specs.Store.{SlotEntry, change_at}
use Rattle.ash_objects.specs.Table.{Living, with_field}
use Rattle.ash_objects.specs.Counting.{face, face_at, holding, fields_in, living, living_in, AreCounted}
use Rattle.ash_slots.specs.SlotCounting.{counted, incremented, decremented, change_handle, written}
use Rattle.ash_slots.proofs.Changing.{object_at-change, length-change, in_order-change, sum-change, sum_same-change}
use Rattle.ash_objects.proofs.Counts.{view_change, counted-change, each-change}
use Rattle.ash_objects.proofs.Handles.{hits, same_test, handles-set, handles-at}

module _ {B : Type 0} where
  abbrev pub with_holds : ℕ → Living B → Living B
  with_holds holds object = record object { holds = holds }

  -- what a contract sees is that, with what the count has beside fields
  pub living_face : (m : ℕ) (l : List (ℕ × SlotEntry B)) (F : ℕ) → option_map (living F) (object_at m l)
      ≡ option_map (with_holds (counted m l - F)) (face_at m l)
  living_face m l F = go (object_at m l) refl
    where
      go : (v : Option (SlotEntry B)) → object_at m l ≡ v → option_map (living F) v
          ≡ option_map (with_holds (option_map_or (λ object. (object.item).count) v 0 - F)) (option_map face v)
      go None is = refl
      go (Some p) is = refl

  -- what a contract sees of two stores whose counts and fields changed alike differs at one number only
  pub view_face : (old new : List (ℕ × SlotEntry B)) (n : ℕ) (f : Living B → Living B)
      → ((k : ℕ) (x : Living B) → with_holds k (f x) ≡ f (with_holds k x)) → IsInOrder old → IsInOrder new
      → ((m : ℕ) → face_at m new ≡ cond (nat_eq n m) (option_map f (face_at m old)) (face_at m old))
      → ((m : ℕ) → counted m new - fields_in m new ≡ counted m old - fields_in m old)
      → living_in new ≡ change_at n f (living_in old)
  view_face old new n f apart o p faces holds =
      view_change old new n f o p
      (λ m.
      living_face m new (fields_in m new)
      ∙ ap (λ (k : ℕ). option_map (with_holds k) (face_at m new)) (holds m)
      ∙ ap (λ (v : Option (Living B)). option_map (with_holds (counted m old - fields_in m old)) v) (faces m)
      ∙ each (counted m old - fields_in m old) (nat_eq n m) (face_at m old)
      ∙ sym (ap (λ (v : Option (Living B)). cond (nat_eq n m) (option_map f v) v) (living_face m old (fields_in m old))))
    where
      each : (k : ℕ) (b : Bool) (v : Option (Living B)) → option_map (with_holds k) (cond b (option_map f v) v)
          ≡ cond b (option_map f (option_map (with_holds k) v)) (option_map (with_holds k) v)
      each k true None = refl
      each k true (Some x) = ap Some (apart k x)
      each k false v = refl

  -- a change that leaves what a contract sees but the count
  face_same : (n : ℕ) (f : SlotEntry B → SlotEntry B) → ((p : SlotEntry B) → face (f p) ≡ face p)
      → (m : ℕ) (l : List (ℕ × SlotEntry B)) → face_at m (change_at n f l) ≡ face_at m l
  face_same n f same m l = ap (λ (v : Option (SlotEntry B)). option_map face v) (object_at-change n f m l) ∙ go (nat_eq n m) (object_at m l)
    where
      go : (b : Bool) (v : Option (SlotEntry B)) → option_map face (cond b (option_map f v) v) ≡ option_map face v
      go false v = refl
      go true None = refl
      go true (Some p) = ap Some (same p)

  -- what is at each number after a handle was counted
  module _ (f : SlotEntry B → SlotEntry B) (keeps : (p : SlotEntry B) → face (f p) ≡ face p) where
    pub handle_face : (h : Option ℕ) (m : ℕ) (l : List (ℕ × SlotEntry B)) → face_at m (change_handle f h l) ≡ face_at m l
    handle_face None m l = refl
    handle_face (Some k) m l = face_same k f keeps m l

    pub handle_fields : (h : Option ℕ) (m : ℕ) (l : List (ℕ × SlotEntry B)) → fields_in m (change_handle f h l)
        ≡ fields_in m l
    handle_fields None m l = refl
    handle_fields (Some k) m l =
        sum_same-change (holding m) k f (λ p. ap (λ (x : Living B). handles_to m (words_of x.body)) (keeps p)) l

    pub handle_order : (h : Option ℕ) (l : List (ℕ × SlotEntry B)) → IsInOrder l → IsInOrder (change_handle f h l)
    handle_order None l o = o
    handle_order (Some k) l o = in_order-change k f l o

    pub handle_length : (h : Option ℕ) (l : List (ℕ × SlotEntry B)) → length (change_handle f h l) ≡ length l
    handle_length None l = refl
    handle_length (Some k) l = length-change k f l

    pub handle_each : (P : SlotEntry B → Type 0) (h : Option ℕ) (l : List (ℕ × SlotEntry B))
        → ((p : SlotEntry B) (k : ℕ) → h ≡ Some k → object_at k l ≡ Some p → P p → P (f p))
        → ((m : ℕ) → IfSome (object_at m l) P) → (m : ℕ) → IfSome (object_at m (change_handle f h l)) P
    handle_each P None l stays each = each
    handle_each P (Some k) l stays each = each-change P k f l (λ p is. stays p k refl is) each

  pub lives_some : (m : ℕ) (l : List (ℕ × SlotEntry B)) → Lives l m → (p : SlotEntry B) × (object_at m l ≡ Some p)
  lives_some m l lives = go (object_at m l) refl lives
    where
      go : (v : Option (SlotEntry B)) → object_at m l ≡ v → IsSome v → (p : SlotEntry B) × (object_at m l ≡ Some p)
      go None is h = cc
      go (Some p) is h = (p, is)

  pub more_handle : (h : Option ℕ) (m : ℕ) (l : List (ℕ × SlotEntry B)) → IfSome h (Lives l)
      → counted m (change_handle incremented h l) ≡ counted m l + hits h m
  more_handle None m l alive = omega arith
  more_handle (Some k) m l alive =
      let p = lives_some k l alive in
      go p.0 p.1 (nat_eq k m) refl (counted-change k incremented m l)
    where
      go : (p : SlotEntry B) → object_at k l ≡ Some p → (b : Bool) → nat_eq k m ≡ b → counted m (change_at k incremented l)
          ≡ option_map_or (λ object. (object.item).count)
          (cond (nat_eq k m) (option_map incremented (object_at m l)) (object_at m l)) 0
          → counted m (change_at k incremented l) ≡ counted m l + cond (nat_eq m k) 1 0
      go p is true same at =
          let k_is : k ≡ m = eqb-true k m same in
          let there : object_at m l ≡ Some p = ap (λ (j : ℕ). object_at j l) (sym k_is) ∙ is in
          let now = at ∙ ap (λ (b : Bool). option_map_or (λ object. (object.item).count) (cond b (option_map incremented (object_at m l)) (object_at m l)) 0) same ∙ ap (λ (v : Option (SlotEntry B)). option_map_or (λ object. (object.item).count) (option_map incremented v) 0) there in
          let then = ap (λ (v : Option (SlotEntry B)). option_map_or (λ object. (object.item).count) v 0) there in
          let one = ap (λ (b : Bool). cond {A = ℕ} b 1 0) (same_test m k ∙ same) in
          omega (arith, now, then, one)
      go p is false same at =
          let now = at ∙ ap (λ (b : Bool). option_map_or (λ object. (object.item).count) (cond b (option_map incremented (object_at m l)) (object_at m l)) 0) same in
          let none = ap (λ (b : Bool). cond {A = ℕ} b 1 0) (same_test m k ∙ same) in
          omega (arith, now, none)

  pub less_handle : (h : Option ℕ) (m : ℕ) (l : List (ℕ × SlotEntry B)) → IfSome h (λ k. 0 < counted k l)
      → counted m (change_handle decremented h l) + hits h m ≡ counted m l
  less_handle None m l some = omega arith
  less_handle (Some k) m l some =
      go (nat_eq k m) refl (object_at m l) refl (counted-change k decremented m l)
    where
      go : (b : Bool) → nat_eq k m ≡ b → (v : Option (SlotEntry B)) → object_at m l ≡ v
          → counted m (change_at k decremented l)
          ≡ option_map_or (λ object. (object.item).count)
          (cond (nat_eq k m) (option_map decremented (object_at m l)) (object_at m l)) 0
          → counted m (change_at k decremented l) + cond (nat_eq m k) 1 0 ≡ counted m l
      go true same None is at =
          let k_is : k ≡ m = eqb-true k m same in
          let none = ap (λ (j : ℕ). counted j l) k_is ∙ ap (λ (v : Option (SlotEntry B)). option_map_or (λ object. (object.item).count) v 0) is in
          absurd (omega (arith, none, some))
      go true same (Some p) is at =
          let k_is : k ≡ m = eqb-true k m same in
          let now = at ∙ ap (λ (b : Bool). option_map_or (λ object. (object.item).count) (cond b (option_map decremented (object_at m l)) (object_at m l)) 0) same ∙ ap (λ (v : Option (SlotEntry B)). option_map_or (λ object. (object.item).count) (option_map decremented v) 0) is in
          let then = ap (λ (v : Option (SlotEntry B)). option_map_or (λ object. (object.item).count) v 0) is in
          let one = ap (λ (b : Bool). cond {A = ℕ} b 1 0) (same_test m k ∙ same) in
          let its = ap (λ (j : ℕ). counted j l) k_is in
          omega (arith, now, then, one, its, some)
      go false same v is at =
          let now = at ∙ ap (λ (b : Bool). option_map_or (λ object. (object.item).count) (cond b (option_map decremented (object_at m l)) (object_at m l)) 0) same in
          let none = ap (λ (b : Bool). cond {A = ℕ} b 1 0) (same_test m k ∙ same) in
          omega (arith, now, none)

  -- words of an object with a word written
  words-written : (place : ℕ) (word before : Word) (body : Body B) → slice_get (words_of body) place ≡ Some before
      → words_of (with_word place word body) ≡ set (words_of body) place word
  words-written place word before (Script script) there = refl
  words-written place word before (Array array) there = refl
  words-written place word before (Host box) there = cc

  -- what one object holds is part of what all hold
  pub one-le-sum : (g : SlotEntry B → ℕ) (n : ℕ) (l : List (ℕ × SlotEntry B)) (p : SlotEntry B) → object_at n l ≡ Some p
      → g p ≤ sum_by g (values_of l)
  one-le-sum g n [] p h = cc
  one-le-sum g n (e ∷ l) p h =
      go (nat_eq n e.0) refl (λ later. one-le-sum g n l p later)
    where
      both : sum_by g (values_of (e ∷ l)) ≡ g e.1 + sum_by g (values_of l)
      both = sum_by-cons g e.1 (values_of l)

      go : (b : Bool) → nat_eq n e.0 ≡ b → (object_at n l ≡ Some p → g p ≤ sum_by g (values_of l))
          → g p ≤ sum_by g (values_of (e ∷ l))
      go true is later =
          let here : Some e.1 ≡ Some p = sym (ap (λ (b : Bool). cond b (Some e.1) (object_at n l)) is) ∙ h in
          let one : e.1 ≡ p = cc in
          let same = ap g one in
          omega (arith, both, same)
      go false is later =
          let some = later (sym (ap (λ (b : Bool). cond b (Some e.1) (object_at n l)) is) ∙ h) in
          omega (arith, both, some)

  -- a change that leaves counts
  pub counted_same : (n : ℕ) (f : SlotEntry B → SlotEntry B) → ((p : SlotEntry B) → ((f p).item).count ≡ (p.item).count)
      → (m : ℕ) (l : List (ℕ × SlotEntry B)) → counted m (change_at n f l) ≡ counted m l
  counted_same n f keeps m l = counted-change n f m l ∙ go (nat_eq n m) (object_at m l)
    where
      go : (b : Bool) (v : Option (SlotEntry B))
          → option_map_or (λ object. (object.item).count) (cond b (option_map f v) v) 0
          ≡ option_map_or (λ object. (object.item).count) v 0
      go false v = refl
      go true None = refl
      go true (Some p) = keeps p

  length-written : (place : ℕ) (word : Word) (body : Body B) → length (words_of (with_word place word body))
      ≡ length (words_of body)
  length-written place word (Script script) = length-set script.fields place word
  length-written place word (Array array) = length-set array.elements place word
  length-written place word (Host box) = refl

  -- A word was written at a place of an object: the new one counted first, the old one uncounted last.
  module _ (n place : ℕ) (word before : Word) (l : List (ℕ × SlotEntry B)) (o : IsInOrder l) (s : AreCounted l) (alive : IfSome (handle word) (Lives l)) (there : IsSomeAnd (object_at n l) (λ object. slice_get (words_of (object.item).body) place ≡ Some before)) where
    abbrev pub counted_first : List (ℕ × SlotEntry B)
    counted_first = change_handle incremented (handle word) l

    abbrev pub after_write : List (ℕ × SlotEntry B)
    after_write = change_at n (written place word) (change_handle incremented (handle word) l)

    abbrev pub after_all : List (ℕ × SlotEntry B)
    after_all =
        change_handle decremented (handle before)
        (change_at n (written place word) (change_handle incremented (handle word) l))

    faces_first : (m : ℕ) → face_at m counted_first ≡ face_at m l
    faces_first m = handle_face incremented (λ p. refl) (handle word) m l

    -- the object that is written
    pub there_first : (p : SlotEntry B) × (object_at n counted_first ≡ Some p)
        × (slice_get (words_of (p.item).body) place ≡ Some before)
    there_first = go (object_at n counted_first) refl (object_at n l) refl there
      where
        go : (v : Option (SlotEntry B)) → object_at n counted_first ≡ v → (u : Option (SlotEntry B)) → object_at n l ≡ u
            → IsSomeAnd u (λ object. slice_get (words_of (object.item).body) place ≡ Some before) → (p : SlotEntry B)
            × (object_at n counted_first ≡ Some p) × (slice_get (words_of (p.item).body) place ≡ Some before)
        go v is None was h = absurd h
        go None is (Some q) was h =
            let none = sym (ap (λ (w : Option (SlotEntry B)). option_map face w) is) ∙ faces_first n ∙ ap (λ (w : Option (SlotEntry B)). option_map face w) was in
            absurd (cc)
        go (Some p) is (Some q) was h =
            let some : Some (face p) ≡ Some (face q) = sym (ap (λ (w : Option (SlotEntry B)). option_map face w) is) ∙ faces_first n ∙ ap (λ (w : Option (SlotEntry B)). option_map face w) was in
            let one : face p ≡ face q = cc in
            (p, is, ap (λ (x : Living B). slice_get (words_of x.body) place) one ∙ h)

    order_first : IsInOrder counted_first
    order_first = handle_order incremented (λ p. refl) (handle word) l o

    pub order_write : IsInOrder after_write
    order_write = in_order-change n (written place word) counted_first order_first

    count_first : (m : ℕ) → counted m counted_first ≡ counted m l + hits (handle word) m
    count_first m = more_handle (handle word) m l alive

    count_write : (m : ℕ) → counted m after_write ≡ counted m counted_first
    count_write m = counted_same n (written place word) (λ p. refl) m counted_first

    fields_first : (m : ℕ) → fields_in m counted_first ≡ fields_in m l
    fields_first m = handle_fields incremented (λ p. refl) (handle word) m l

    fields_write : (m : ℕ) → fields_in m after_write + hits (handle before) m ≡ fields_in m l + hits (handle word) m
    fields_write m =
        let p = there_first in
        let sums = sum-change (holding m) n (written place word) counted_first order_first in
        let was = ap (λ (v : Option (SlotEntry B)). option_map_or (holding m) v 0) p.1 in
        let now = ap (λ (v : Option (SlotEntry B)). option_map_or (λ x. holding m (written place word x)) v 0) p.1 in
        let words = ap (λ (ws : List Word). handles_to m ws) (words-written place word before (p.0.item).body p.2) in
        let change = handles-set m (words_of (p.0.item).body) place before word p.2 in
        omega (arith, sums, was, now, words, change, fields_first m)

    -- the word that was there is counted
    pub before_counted : IfSome (handle before) (λ k. 0 < counted k after_write)
    before_counted = go (handle before) refl
      where
        go : (h : Option ℕ) → handle before ≡ h → IfSome h (λ k. 0 < counted k after_write)
        go None is = tt
        go (Some k) is =
            let p = there_first in
            let hit : hits (handle before) k ≡ 1 = ap (λ (h : Option ℕ). hits h k) is ∙ ap (λ (b : Bool). cond {A = ℕ} b 1 0) (eq-eqb k k refl) in
            let part = handles-at k (words_of (p.0.item).body) place before p.2 in
            let whole = one-le-sum (holding k) n counted_first p.0 p.1 in
            omega (arith, hit, part, whole, fields_first k, s.covered k, count_first k, count_write k)

    count_all : (m : ℕ) → counted m after_all + hits (handle before) m ≡ counted m l + hits (handle word) m
    count_all m = omega (arith, less_handle (handle before) m after_write before_counted, count_write m, count_first m)

    fields_all : (m : ℕ) → fields_in m after_all + hits (handle before) m ≡ fields_in m l + hits (handle word) m
    fields_all m = omega (arith, handle_fields decremented (λ p. refl) (handle before) m after_write, fields_write m)

    -- what a contract sees of the store after it
    pub view_field : living_in after_all ≡ change_at n (with_field place word) (living_in l)
    view_field =
        view_face l after_all n (with_field place word) (λ k x. refl) o (handle_order decremented (λ p. refl) (handle before) after_write order_write)
        (λ m.
        handle_face decremented (λ p. refl) (handle before) m after_write
        ∙ ap (λ (v : Option (SlotEntry B)). option_map face v) (object_at-change n (written place word) m counted_first)
        ∙ each (nat_eq n m) (object_at m counted_first)
        ∙ ap (λ (v : Option (Living B)). cond (nat_eq n m) (option_map (with_field place word) v) v) (faces_first m))
        (λ m. omega (arith, count_all m, fields_all m, s.covered m))
      where
        each : (b : Bool) (v : Option (SlotEntry B)) → option_map face (cond b (option_map (written place word) v) v)
            ≡ cond b (option_map (with_field place word) (option_map face v)) (option_map face v)
        each false v = refl
        each true None = refl
        each true (Some p) = refl

    length_all : length after_all ≡ length l
    length_all =
        handle_length decremented (λ p. refl) (handle before) after_write
        ∙ length-change n (written place word) counted_first ∙ handle_length incremented (λ p. refl) (handle word) l

    Waits : SlotEntry B → Type 0
    Waits p = (p.item).count ≡ 0 → p.waiting ≡ true

    Short : SlotEntry B → Type 0
    Short p = length (words_of (p.item).body) ≤ 4096

    waiting_first : (m : ℕ) → IfSome (object_at m counted_first) (λ p. (p.item).count ≡ 0 → p.waiting ≡ true)
    waiting_first =
        handle_each incremented (λ p. refl) (λ p. (p.item).count ≡ 0 → p.waiting ≡ true) (handle word) l
        (λ p k h is was none. absurd (omega arith)) s.waiting

    waiting_write : (m : ℕ) → IfSome (object_at m after_write) (λ p. (p.item).count ≡ 0 → p.waiting ≡ true)
    waiting_write =
        each-change (λ p. (p.item).count ≡ 0 → p.waiting ≡ true) n (written place word) counted_first
        (λ p is was. was) waiting_first

    short_write : (m : ℕ) → IfSome (object_at m after_write) (λ p. length (words_of (p.item).body) ≤ 4096)
    short_write =
        each-change (λ p. length (words_of (p.item).body) ≤ 4096) n (written place word) counted_first (λ p is was. let same = length-written place word (p.item).body in omega (arith, same, was))
        (handle_each incremented (λ p. refl) (λ p. length (words_of (p.item).body) ≤ 4096) (handle word) l (λ p k h is was. was) s.short)

    less_waits : (p : SlotEntry B) → 0 < (p.item).count → ((decremented p).item).count ≡ 0 → (decremented p).waiting ≡ true
    less_waits p some none =
        let one : (p.item).count ≡ 1 = omega arith in
        ap (λ (b : Bool). cond b true p.waiting) (eq-eqb (p.item).count 1 one)

    -- and the counts stay right
    pub sound_field : AreCounted after_all
    sound_field = record {
      covered = λ m. omega (arith, count_all m, fields_all m, s.covered m);
      bounded = λ m. omega (arith, count_all m, fields_all m, s.bounded m);
      waiting =
          handle_each decremented (λ p. refl) (λ p. (p.item).count ≡ 0 → p.waiting ≡ true) (handle before) after_write
          (λ p k h is was. less_waits p (some p k h is)) waiting_write;
      short =
          handle_each decremented (λ p. refl) (λ p. length (words_of (p.item).body) ≤ 4096) (handle before) after_write
          (λ p k h is was. was) short_write;
      few = omega (arith, length_all, s.few);
    }
      where
        some : (p : SlotEntry B) (k : ℕ) → handle before ≡ Some k → object_at k after_write ≡ Some p → 0 < (p.item).count
        some p k h is =
            let counts : 0 < counted k after_write = subst (λ (v : Option ℕ). IfSome v (λ j. 0 < counted j after_write)) h before_counted in
            let mine = ap (λ (v : Option (SlotEntry B)). option_map_or (λ object. (object.item).count) v 0) is in
            omega (arith, counts, mine)

  -- objects with one face are in one slot, and hold the same words
  pub in_face : (n slot : ℕ) (a b : List (ℕ × SlotEntry B)) → face_at n a ≡ face_at n b
      → IsSomeAnd (object_at n b) (λ object. object.slot ≡ slot)
      → IsSomeAnd (object_at n a) (λ object. object.slot ≡ slot)
  in_face n slot a b same h = go (object_at n a) (object_at n b) same h
    where
      go : (v u : Option (SlotEntry B)) → option_map face v ≡ option_map face u
          → IsSomeAnd u (λ object. object.slot ≡ slot) → IsSomeAnd v (λ object. object.slot ≡ slot)
      go v None e h = absurd h
      go None (Some q) e h = absurd (cc)
      go (Some p) (Some q) e h = let one : face p ≡ face q = cc in ap (λ (x : Living B). x.slot) one ∙ h

  pub words_face : (P : List Word → Type 0) (n : ℕ) (a b : List (ℕ × SlotEntry B)) → face_at n a ≡ face_at n b
      → IsSomeAnd (object_at n b) (λ object. P (words_of (object.item).body))
      → IsSomeAnd (object_at n a) (λ object. P (words_of (object.item).body))
  words_face P n a b same h = go (object_at n a) (object_at n b) same h
    where
      go : (v u : Option (SlotEntry B)) → option_map face v ≡ option_map face u
          → IsSomeAnd u (λ object. P (words_of (object.item).body))
          → IsSomeAnd v (λ object. P (words_of (object.item).body))
      go v None e h = absurd h
      go None (Some q) e h = absurd (cc)
      go (Some p) (Some q) e h = let one : face p ≡ face q = cc in subst (λ (x : Living B). P (words_of x.body)) (sym one) h

  -- what counting a handle first leaves of an object
  pub face_more : (h : Option ℕ) (m : ℕ) (l : List (ℕ × SlotEntry B)) → face_at m (change_handle incremented h l)
      ≡ face_at m l
  face_more h m l = handle_face incremented (λ p. refl) h m l
