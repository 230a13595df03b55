-- Counting the handles among the words of an object.
use Rattle.std.proofs.Common.{◌≡◌, ℕ, Bool, true, false, cond, List, [], ◌∷◌, refl, sym, subst, ap, ◌∙◌, nat_eq, arith, Option, Some, None, length, zero, suc, ◌+◌, ◌≤◌, ◌<◌, get_or, drop}
use Rattle.std.specs.Prelude.{IsSomeAnd, IsSome, IfSome, All, slice_get}
use Rattle.std.specs.Option.{option_map, option_map_or}
use Rattle.std.proofs.lemmas.List.Elements.{All-head, All-tail}
use Rattle.std.proofs.lemmas.List.Sums.{sum_by-cons}
use Rattle.ash_host.specs.declared.word.Word.{Word}
use Rattle.ash_host.specs.Objects.{object_at, IsInOrder, Lives, handles_to, is_handle_to, handle}
use Rattle.ash_slots.specs.declared.entry.Occupant.{Occupant}
use Rattle.ash_slots.specs.Bodies.{words_of}
use Rattle.ash_slots.specs.Store.{SlotEntry, IsIn}
use Rattle.ash_objects.specs.Counting.{fields_in, AllLive, AreGiven, refer_all, words_at, living_in, face, face_at}
use Rattle.ash_slots.specs.SlotCounting.{counted, incremented, change_handle}
use Rattle.ash_objects.specs.Table.{Living}
use Rattle.ash_objects.proofs.Counts.{given-change}
use Rattle.ash_objects.proofs.Views.{alive_view}
use Rattle.ash_objects.proofs.Handles.{hits, hits_word}
use Rattle.ash_objects.proofs.Fields.{face_more, handle_fields, handle_order, handle_length, handle_each, more_handle}

-- a handle counts once at the most
pub hits_small : (h : Option ℕ) (m : ℕ) → hits h m ≤ 1
hits_small None m = omega arith
hits_small (Some k) m = go (nat_eq m k)
  where
    go : (b : Bool) → cond {A = ℕ} b 1 0 ≤ 1
    go true = omega arith
    go false = omega arith

pub handles-cons : (m : ℕ) (w : Word) (ws : List Word) → handles_to m (w ∷ ws) ≡ hits (handle w) m + handles_to m ws
handles-cons m w ws =
    let sums = sum_by-cons (λ x. cond {A = ℕ} (is_handle_to m x) 1 0) w ws in
    omega (arith, sums, hits_word m w)

-- the word at a place is the first of the rest
pub rest_at : (ws : List Word) (k : ℕ) (w : Word) → slice_get ws k ≡ Some w → drop k ws ≡ w ∷ drop (k + 1) ws
rest_at [] k w h = cc
rest_at (x ∷ ws) zero w h = let same : x ≡ w = cc in ap (λ (v : Word). v ∷ ws) same
rest_at (x ∷ ws) (suc k) w h =
    let next : suc k + 1 ≡ suc (k + 1) = omega arith in
    rest_at ws k w h ∙ ap (λ (j : ℕ). w ∷ drop j (x ∷ ws)) (sym next)

-- the same of any list
pub rest_got : {A : Type 0} (xs : List A) (k : ℕ) (d : A) → k < length xs → drop k xs ≡ get_or xs k d ∷ drop (k + 1) xs
rest_got [] k d h = absurd (omega arith)
rest_got (x ∷ xs) zero d h = refl
rest_got (x ∷ xs) (suc k) d h =
    let next : suc k + 1 ≡ suc (k + 1) = omega arith in
    rest_got xs k d (omega arith) ∙ ap (λ (j : ℕ). get_or xs k d ∷ drop j (x ∷ xs)) (sym next)

pub rest_over : {A : Type 0} (xs : List A) (k : ℕ) → length xs ≤ k → drop k xs ≡ []
rest_over [] zero h = refl
rest_over [] (suc k) h = refl
rest_over (x ∷ xs) zero h = absurd (omega arith)
rest_over (x ∷ xs) (suc k) h = rest_over xs k (omega arith)

pub rest_none : (ws : List Word) → drop (length ws) ws ≡ []
rest_none [] = refl
rest_none (w ∷ ws) = rest_none ws

pub word_alive : (P : Word → Type 0) (ws : List Word) (k : ℕ) (w : Word) → slice_get ws k ≡ Some w → All P ws → P w
word_alive P [] k w h all = cc
word_alive P (x ∷ ws) zero w h all = let same : x ≡ w = cc in subst P same (All-head P x ws all)
word_alive P (x ∷ ws) (suc k) w h all = word_alive P ws k w h (All-tail P x ws all)

module _ {B : Type 0} where
  -- what lives in one of two stores with the same objects lives in the other
  pub lives_face : (k : ℕ) (a b : List (ℕ × SlotEntry B)) → face_at k a ≡ face_at k b → Lives b k → Lives a k
  lives_face k a b same h = go (object_at k a) (object_at k b) same h
    where
      go : (v u : Option (SlotEntry B)) → option_map face v ≡ option_map face u → IsSome u → IsSome v
      go v None e h = absurd (cc)
      go None (Some q) e h = absurd (cc)
      go (Some p) (Some q) e h = refl

  pub alive_face : (h : Option ℕ) (a b : List (ℕ × SlotEntry B)) → ((k : ℕ) → face_at k a ≡ face_at k b)
      → IfSome h (Lives b) → IfSome h (Lives a)
  alive_face None a b same alive = tt
  alive_face (Some k) a b same alive = lives_face k a b (same k) alive

  pub all_alive_face : (ws : List Word) (a b : List (ℕ × SlotEntry B)) → ((k : ℕ) → face_at k a ≡ face_at k b)
      → AllLive b ws → AllLive a ws
  all_alive_face ws a b same all = λ k d within. alive_face (handle (get_or ws k d)) a b same (all k d within)

  pub words_at_face : (n : ℕ) (a b : List (ℕ × SlotEntry B)) → face_at n a ≡ face_at n b → words_at n a ≡ words_at n b
  words_at_face n a b same = go (object_at n a) (object_at n b) same
    where
      go : (v u : Option (SlotEntry B)) → option_map face v ≡ option_map face u
          → option_map_or (λ object. words_of (object.item).body) v []
          ≡ option_map_or (λ object. words_of (object.item).body) u []
      go None None e = refl
      go None (Some q) e = absurd (cc)
      go (Some p) None e = absurd (cc)
      go (Some p) (Some q) e = let one : face p ≡ face q = cc in ap (λ (x : Living B). words_of x.body) one

  -- one handle raises no count by more than one
  pub more_most : (h : Option ℕ) (m : ℕ) (l : List (ℕ × SlotEntry B)) → IfSome h (Lives l)
      → counted m (change_handle incremented h l) ≤ counted m l + 1
  more_most h m l alive = omega (arith, more_handle h m l alive, hits_small h m)

  -- the words of an object are those of its item
  pub words_item : (n : ℕ) (l : List (ℕ × SlotEntry B)) (it : Occupant B)
      → IsSomeAnd (object_at n l) (λ object. object.item ≡ it) → words_at n l ≡ words_of it.body
  words_item n l it h = go (object_at n l) h
    where
      go : (v : Option (SlotEntry B)) → IsSomeAnd v (λ object. object.item ≡ it)
          → option_map_or (λ object. words_of (object.item).body) v [] ≡ words_of it.body
      go None h = absurd h
      go (Some p) h = ap (λ (i : Occupant B). words_of i.body) h

  pub word_within : (n slot place : ℕ) (l : List (ℕ × SlotEntry B)) → IsIn n slot l → place < length (words_at n l)
      → IsSomeAnd (object_at n l) (λ object. place < length (words_of (object.item).body))
  word_within n slot place l h within = go (object_at n l) h within
    where
      go : (v : Option (SlotEntry B)) → IsSomeAnd v (λ object. object.slot ≡ slot)
          → place < length (option_map_or (λ object. words_of (object.item).body) v [])
          → IsSomeAnd v (λ object. place < length (words_of (object.item).body))
      go None h within = absurd h
      go (Some p) h within = within

  pub word_got : (n place : ℕ) (w : Word) (l : List (ℕ × SlotEntry B))
      → IsSomeAnd (object_at n l) (λ object. slice_get (words_of (object.item).body) place ≡ Some w)
      → slice_get (words_at n l) place ≡ Some w
  word_got n place w l h = go (object_at n l) h
    where
      go : (v : Option (SlotEntry B)) → IsSomeAnd v (λ object. slice_get (words_of (object.item).body) place ≡ Some w)
          → slice_get (option_map_or (λ object. words_of (object.item).body) v []) place ≡ Some w
      go None h = absurd h
      go (Some p) h = h

  -- what counting the handles among words leaves of each object
  pub all_face : (ws : List Word) (m : ℕ) (l : List (ℕ × SlotEntry B)) → face_at m (refer_all ws l) ≡ face_at m l
  all_face [] m l = refl
  all_face (w ∷ ws) m l = all_face ws m (change_handle incremented (handle w) l) ∙ face_more (handle w) m l

  pub all_fields : (ws : List Word) (m : ℕ) (l : List (ℕ × SlotEntry B)) → fields_in m (refer_all ws l) ≡ fields_in m l
  all_fields [] m l = refl
  all_fields (w ∷ ws) m l =
      all_fields ws m (change_handle incremented (handle w) l) ∙ handle_fields incremented (λ p. refl) (handle w) m l

  pub all_order : (ws : List Word) (l : List (ℕ × SlotEntry B)) → IsInOrder l → IsInOrder (refer_all ws l)
  all_order [] l o = o
  all_order (w ∷ ws) l o =
      all_order ws (change_handle incremented (handle w) l) (handle_order incremented (λ p. refl) (handle w) l o)

  pub all_length : (ws : List Word) (l : List (ℕ × SlotEntry B)) → length (refer_all ws l) ≡ length l
  all_length [] l = refl
  all_length (w ∷ ws) l =
      all_length ws (change_handle incremented (handle w) l) ∙ handle_length incremented (λ p. refl) (handle w) l

  pub all_each : (P : SlotEntry B → Type 0) (ws : List Word) (l : List (ℕ × SlotEntry B))
      → ((p : SlotEntry B) → P p → P (incremented p)) → ((m : ℕ) → IfSome (object_at m l) P) → (m : ℕ)
      → IfSome (object_at m (refer_all ws l)) P
  all_each P [] l keeps each = each
  all_each P (w ∷ ws) l keeps each =
      all_each P ws (change_handle incremented (handle w) l) keeps (handle_each incremented (λ p. refl) P (handle w) l
      (λ p k h is. keeps p) each)

  pub all_given : (last : ℕ) (ws : List Word) (l : List (ℕ × SlotEntry B)) → AreGiven last l
      → AreGiven last (refer_all ws l)
  all_given last [] l given = given
  all_given last (w ∷ ws) l given = all_given last ws (change_handle incremented (handle w) l) (go (handle w))
    where
      go : (h : Option ℕ) → AreGiven last (change_handle incremented h l)
      go None = given
      go (Some k) = given-change last k incremented l given

  -- each count rises by the handles
  pub all_counted : (ws : List Word) (m : ℕ) (l : List (ℕ × SlotEntry B)) → AllLive l ws → counted m (refer_all ws l)
      ≡ counted m l + handles_to m ws
  all_counted [] m l alive = omega arith
  all_counted (w ∷ ws) m l alive =
      let head = All-head (λ x. IfSome (handle x) (Lives l)) w ws alive in
      let tail = All-tail (λ x. IfSome (handle x) (Lives l)) w ws alive in
      let first = more_handle (handle w) m l head in
      let rest = all_counted ws m (change_handle incremented (handle w) l) (all_alive_face ws (change_handle incremented (handle w) l) l (λ k. face_more (handle w) k l) tail) in
      omega (arith, first, rest, handles-cons m w ws)

-- words that are alive for a contract are
pub all_alive_view : {B : Type 0} (ws : List Word) (l : List (ℕ × SlotEntry B))
    → All (λ word. IfSome (handle word) (Lives (living_in l))) ws → AllLive l ws
all_alive_view ws l all = λ k d within. alive_view (handle (get_or ws k d)) l (all k d within)
