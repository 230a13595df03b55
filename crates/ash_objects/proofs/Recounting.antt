-- Each object counted once more for each handle to it in the words of some or of all objects.
use Rattle.std.proofs.Common.{◌≡◌, ℕ, true, List, [], ◌∷◌, refl, sym, subst, ap, ◌∙◌, arith, Option, Some, length, zero, suc, ◌+◌, ◌*◌, ◌≤◌, ◌<◌, ◌^◌, drop, get_or}
use Rattle.std.specs.Prelude.{IsSome, IfSome, All, sum_by}
use Rattle.std.specs.Option.{option_map_or}
use Rattle.std.specs.Map.{values_of}
use Rattle.std.proofs.lemmas.List.Sums.{sum_by-cons, count_by-le-length}
use Rattle.ash_host.specs.declared.word.Word.{Word}
use Rattle.ash_host.specs.Objects.{object_at, numbers, Lives, IsInOrder, handles_to, is_handle_to}
use Rattle.ash_host.proofs.Order.{object_here, object_later, none_after, in_order_after}
use Rattle.ash_slots.specs.Bodies.{words_of}
use Rattle.ash_slots.specs.Store.{SlotEntry, IsIn}
use Rattle.ash_slots.specs.SlotCounting.{counted}
use Rattle.ash_objects.specs.Counting.{holding, fields_in, words_at, AllLive, refer_all, face_at}
use Rattle.ash_objects.specs.Restoring.{refer_objects}
use Rattle.ash_objects.proofs.Referring.{all_face, all_fields, all_order, all_length, all_each, all_counted, all_alive_face, words_at_face}

module _ {A : Type 0} where
  -- each of these entries is among all
  abbrev pub EachIn : List (ℕ × A) → List (ℕ × A) → Type 0
  EachIn [] all = Unit {0}
  EachIn (e ∷ l) all = (object_at e.0 all ≡ Some e.1) × EachIn l all

  each_later : (e : ℕ × A) (l s : List (ℕ × A)) → IsInOrder (e ∷ l) → EachIn s l → EachIn s (e ∷ l)
  each_later e l [] o h = tt
  each_later e l (f ∷ s) o h = (
    object_later f.0 e l (none_after e l f.0 o (subst (λ (v : Option A). IsSome v) (sym h.0) refl)) ∙ h.0,
    each_later e l s o h.1,
  )

  pub each_in : (l : List (ℕ × A)) → IsInOrder l → EachIn l l
  each_in [] o = tt
  each_in (e ∷ l) o = (object_here e l, each_later e l l o (each_in l (in_order_after e l o)))

  -- what holds of each number that lives holds of all
  all_numbers_in : (P : ℕ → Type 0) (s l : List (ℕ × A)) → EachIn s l → ((n : ℕ) → Lives l n → P n) → (k d : ℕ)
      → k < length (numbers s) → P (get_or (numbers s) k d)
  all_numbers_in P [] l h each k d within = absurd (omega arith)
  all_numbers_in P (e ∷ s) l h each zero d within = each e.0 (subst (λ (v : Option A). IsSome v) (sym h.0) refl)
  all_numbers_in P (e ∷ s) l h each (suc k) d within = all_numbers_in P s l h.1 each k d (omega arith)

  pub all_numbers : (P : ℕ → Type 0) (l : List (ℕ × A)) → IsInOrder l → ((n : ℕ) → Lives l n → P n) → All P (numbers l)
  all_numbers P l o each = all_numbers_in P l l (each_in l o) each

sum_same : (f g : ℕ → ℕ) → ((n : ℕ) → f n ≡ g n) → (ns : List ℕ) → sum_by f ns ≡ sum_by g ns
sum_same f g same [] = refl
sum_same f g same (n ∷ ns) = omega (arith, sum_by-cons f n ns, sum_by-cons g n ns, same n, sum_same f g same ns)

module _ {B : Type 0} where
  -- What counting the handles of all objects leaves of each.
  pub referred_face : (ns : List ℕ) (m : ℕ) (l : List (ℕ × SlotEntry B)) → face_at m (refer_objects ns l) ≡ face_at m l
  referred_face [] m l = refl
  referred_face (n ∷ ns) m l = referred_face ns m (refer_all (words_at n l) l) ∙ all_face (words_at n l) m l

  pub referred_fields : (ns : List ℕ) (m : ℕ) (l : List (ℕ × SlotEntry B)) → fields_in m (refer_objects ns l)
      ≡ fields_in m l
  referred_fields [] m l = refl
  referred_fields (n ∷ ns) m l = referred_fields ns m (refer_all (words_at n l) l) ∙ all_fields (words_at n l) m l

  pub referred_order : (ns : List ℕ) (l : List (ℕ × SlotEntry B)) → IsInOrder l → IsInOrder (refer_objects ns l)
  referred_order [] l o = o
  referred_order (n ∷ ns) l o = referred_order ns (refer_all (words_at n l) l) (all_order (words_at n l) l o)

  pub referred_length : (ns : List ℕ) (l : List (ℕ × SlotEntry B)) → length (refer_objects ns l) ≡ length l
  referred_length [] l = refl
  referred_length (n ∷ ns) l = referred_length ns (refer_all (words_at n l) l) ∙ all_length (words_at n l) l

  pub referred_waits : (ns : List ℕ) (l : List (ℕ × SlotEntry B))
      → ((m : ℕ) → IfSome (object_at m l) (λ p. p.waiting ≡ true)) → (m : ℕ)
      → IfSome (object_at m (refer_objects ns l)) (λ p. p.waiting ≡ true)
  referred_waits [] l each = each
  referred_waits (n ∷ ns) l each =
      referred_waits ns (refer_all (words_at n l) l) (all_each (λ p. p.waiting ≡ true) (words_at n l) l
      (λ p h. h) each)

  -- the words that are counted are those that are there, whatever was counted before
  pub words_after : (ws : List Word) (n : ℕ) (l : List (ℕ × SlotEntry B)) → words_at n (refer_all ws l) ≡ words_at n l
  words_after ws n l = words_at_face n (refer_all ws l) l (all_face ws n l)

  pub live_after : (ws vs : List Word) (l : List (ℕ × SlotEntry B)) → AllLive l vs → AllLive (refer_all ws l) vs
  live_after ws vs l alive = all_alive_face vs (refer_all ws l) l (λ k. all_face ws k l) alive

  -- each count rises by the handles of all
  referred_counted : (ns : List ℕ) (m : ℕ) (l : List (ℕ × SlotEntry B)) → ((n : ℕ) → AllLive l (words_at n l))
      → counted m (refer_objects ns l) ≡ counted m l + sum_by (λ n. handles_to m (words_at n l)) ns
  referred_counted [] m l alive = omega arith
  referred_counted (n ∷ ns) m l alive =
      let first = all_counted (words_at n l) m l (alive n) in
      let rest = referred_counted ns m (refer_all (words_at n l) l) (λ k. subst (λ (vs : List Word). AllLive (refer_all (words_at n l) l) vs) (sym (words_after (words_at n l) k l)) (live_after (words_at n l) (words_at k l) l (alive k))) in
      let same = sum_same (λ k. handles_to m (words_at k (refer_all (words_at n l) l))) (λ k. handles_to m (words_at k l)) (λ k. ap (λ (ws : List Word). handles_to m ws) (words_after (words_at n l) k l)) ns in
      let sums = sum_by-cons (λ k. handles_to m (words_at k l)) n ns in
      omega (arith, first, rest, same, sums)

  sum_numbers : (m : ℕ) (s l : List (ℕ × SlotEntry B)) → EachIn s l
      → sum_by (λ n. handles_to m (words_at n l)) (numbers s) ≡ sum_by (holding m) (values_of s)
  sum_numbers m [] l h = refl
  sum_numbers m (e ∷ s) l h =
      let here = ap (λ (v : Option (SlotEntry B)). handles_to m (option_map_or (λ object. words_of (object.item).body) v [])) h.0 in
      let one = sum_by-cons (λ n. handles_to m (words_at n l)) e.0 (numbers s) in
      let two = sum_by-cons (holding m) e.1 (values_of s) in
      omega (arith, here, one, two, sum_numbers m s l h.1)

  -- counts that were 0 are the handles in fields and elements
  pub referred_all : (m : ℕ) (l : List (ℕ × SlotEntry B)) → IsInOrder l → ((k : ℕ) → counted k l ≡ 0)
      → ((n : ℕ) → AllLive l (words_at n l)) → counted m (refer_objects (numbers l) l) ≡ fields_in m l
  referred_all m l o none alive =
      omega (arith, referred_counted (numbers l) m l alive, none m, sum_numbers m l l (each_in l o))

  -- the handles of one object raise a count by no more than it has words
  pub raised : (m : ℕ) (ws : List Word) (l : List (ℕ × SlotEntry B)) → AllLive l ws
      → counted m (refer_all ws l) ≤ counted m l + length ws
  raised m ws l alive =
      let few = count_by-le-length (is_handle_to m) ws in
      omega (arith, all_counted ws m l alive, few)

  -- One object's turn, where counting so far left the faces of all.
  module _ (l cur : List (ℕ × SlotEntry B)) (faces : (m : ℕ) → face_at m cur ≡ face_at m l) (n k : ℕ) (alive : AllLive l (words_at n l)) (short : length (words_at n l) ≤ 4096) (fits : (m : ℕ) → counted m cur ≤ 4096 * k) where
    alive_now : AllLive cur (words_at n cur)
    alive_now =
        subst (λ (ws : List Word). AllLive cur ws) (sym (words_at_face n cur l (faces n)))
        (all_alive_face (words_at n l) cur l faces alive)

    pub turn_ready : (slot : ℕ) → IsIn n slot cur → k < 4096 → (number : ℕ) × IsIn number slot cur
        × AllLive cur (words_at number cur)
        × ((other : ℕ) → counted other cur + length (words_at number cur) < 2 ^ 128)
    turn_ready slot is few = (
      n,
      is,
      alive_now,
      λ other. let ws = ap length (words_at_face n cur l (faces n)) in omega (arith, ws, short, fits other, few),
    )

    pub turn_fits : (m : ℕ) → counted m (refer_all (words_at n cur) cur) ≤ 4096 * (k + 1)
    turn_fits m =
        let ws = ap length (words_at_face n cur l (faces n)) in
        omega (arith, ws, short, fits m, raised m (words_at n cur) cur alive_now)

    pub turn_faces : (m : ℕ) → face_at m (refer_all (words_at n cur) cur) ≡ face_at m l
    turn_faces m = all_face (words_at n cur) m cur ∙ faces m

  pub turn_rest : (list : List ℕ) (n k : ℕ) (cur : List (ℕ × SlotEntry B)) → drop k list ≡ n ∷ drop (k + 1) list
      → refer_objects (drop (k + 1) list) (refer_all (words_at n cur) cur) ≡ refer_objects (drop k list) cur
  turn_rest list n k cur is = sym (ap (λ (ns : List ℕ). refer_objects ns cur) is)
