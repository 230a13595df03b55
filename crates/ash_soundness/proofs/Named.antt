-- Modules by name, and what their globals hold.
use Rattle.std.proofs.Common.{◌≡◌, ◌≤◌, ◌+◌, ℕ, zero, suc, Bool, true, false, cond, List, [], ◌∷◌, ◌++◌, length, map, filter, find, refl, sym, ap, ◌∙◌, subst, inl, inr, if◌then◌else◌, arith}
use Rattle.std.specs.Prelude.{Option, Some, None, Contains, option_map}
use Rattle.std.specs.List.{AllByRecursion}
use Rattle.std.specs.Ordering.{is_lt}
use Rattle.std.proofs.lemmas.List.Elements.{All-from_recursion, All-contains, Contains-append_left, Contains-append_right, Contains-append_cases, filter_map-append}
use Rattle.ash_host.specs.Objects.{handle, handles}
use Rattle.ash_host.proofs.RecordLaws.{bytes_decide}
use Rattle.ash_requests.specs.States.{LoadedModule, compare_names, has_name, with_module, globals_of}
use Rattle.ash_soundness.proofs.Values.{first_in, later_in, none_in}
use Rattle.ash_soundness.proofs.Entries.{found_passes}

-- lists

module _ {A : Type 0} where
  pub rec_of : (P : A → Type 0) (xs : List A) → AllByRecursion P xs → (x : A) → Contains xs x → P x
  rec_of P xs h x i = All-contains P xs x (All-from_recursion P xs h) i

  pub rec_from : (Q : A → Type 0) (xs : List A) → ((x : A) → Contains xs x → Q x) → AllByRecursion Q xs
  rec_from Q [] each = tt
  rec_from Q (x ∷ xs) each = (each x (first_in x xs), rec_from Q xs (λ y i. each y (later_in x y xs i)))

  pub rec_map : (Q : A → Type 0) (f : A → A) (xs : List A) → ((x : A) → Contains xs x → Q (f x)) → AllByRecursion Q (map f xs)
  rec_map Q f [] each = tt
  rec_map Q f (x ∷ xs) each = (each x (first_in x xs), rec_map Q f xs (λ y i. each y (later_in x y xs i)))

  in_filter_from : (q : A → Bool) (x y : A) (xs : List A) (b : Bool) → q y ≡ b → q x ≡ true → Contains (y ∷ xs) x → (Contains xs x → Contains (filter q xs) x) → Contains (cond b (y ∷ filter q xs) (filter q xs)) x
  in_filter_from q x y xs true is passes i later = from_first i
    where
      from_first : Contains (y ∷ xs) x → Contains (y ∷ filter q xs) x
      from_first (zero, l, e) = (0, omega arith, e)
      from_first (suc k, l, e) = later_in y x (filter q xs) (later (k, omega arith, e))
  in_filter_from q x y xs false is passes i later = from_rest i
    where
      from_rest : Contains (y ∷ xs) x → Contains (filter q xs) x
      from_rest (zero, l, e) = absurd (let yes = ap q e in cc)
      from_rest (suc k, l, e) = later (k, omega arith, e)

  pub in_filter : (q : A → Bool) (xs : List A) (x : A) → Contains xs x → q x ≡ true → Contains (filter q xs) x
  in_filter q [] x i passes = absurd (none_in x i)
  in_filter q (y ∷ xs) x i passes = in_filter_from q x y xs (q y) refl passes i (λ more. in_filter q xs x more passes)

  from_filter_at : (q : A → Bool) (x y : A) (xs : List A) (b : Bool) → q y ≡ b → Contains (cond b (y ∷ filter q xs) (filter q xs)) x → (Contains (filter q xs) x → Contains xs x × (q x ≡ true)) → Contains (y ∷ xs) x × (q x ≡ true)
  from_filter_at q x y xs true is (zero, l, e) later = ((0, omega arith, e), sym (ap q e) ∙ is)
  from_filter_at q x y xs true is (suc k, l, e) later = let there = later (k, omega arith, e) in (later_in y x xs there.0, there.1)
  from_filter_at q x y xs false is i later = let there = later i in (later_in y x xs there.0, there.1)

  pub from_filter : (q : A → Bool) (xs : List A) (x : A) → Contains (filter q xs) x → Contains xs x × (q x ≡ true)
  from_filter q [] x i = absurd (none_in x i)
  from_filter q (y ∷ xs) x i = from_filter_at q x y xs (q y) refl i (λ more. from_filter q xs x more)

  -- finding

  chosen_map : (f : A → A) (x : A) (b : Bool) (o other : Option A) → o ≡ option_map f other → cond b (Some (f x)) o ≡ option_map f (cond b (Some x) other)
  chosen_map f x true o other e = refl
  chosen_map f x false o other e = e

  pub find_map : (p : A → Bool) (f : A → A) → ((x : A) → p (f x) ≡ p x) → (xs : List A) → find p (map f xs) ≡ option_map f (find p xs)
  find_map p f same [] = refl
  find_map p f same (x ∷ xs) = ap (λ (b : Bool). cond b (Some (f x)) (find p (map f xs))) (same x) ∙ chosen_map f x (p x) (find p (map f xs)) (find p xs) (find_map p f same xs)

  filter_step : (p q : A → Bool) (x : A) (xs : List A) (a b : Bool) → p x ≡ a → q x ≡ b → (p x ≡ true → q x ≡ true) → find p (filter q xs) ≡ find p xs → find p (cond b (x ∷ filter q xs) (filter q xs)) ≡ cond a (Some x) (find p xs)
  filter_step p q x xs true true pa qb more later = ap (λ (c : Bool). cond c (Some x) (find p (filter q xs))) pa
  filter_step p q x xs true false pa qb more later = absurd (let yes = more pa in cc)
  filter_step p q x xs false true pa qb more later = ap (λ (c : Bool). cond c (Some x) (find p (filter q xs))) pa ∙ later
  filter_step p q x xs false false pa qb more later = later

  pub find_filter : (p q : A → Bool) → ((x : A) → p x ≡ true → q x ≡ true) → (xs : List A) → find p (filter q xs) ≡ find p xs
  find_filter p q more [] = refl
  find_filter p q more (x ∷ xs) = filter_step p q x xs (p x) (q x) refl refl (more x) (find_filter p q more xs)

  pub length-filter : (q : A → Bool) (xs : List A) → length (filter q xs) ≤ length xs
  length-filter q [] = omega arith
  length-filter q (x ∷ xs) =
      elim (q x) as (λ b. length (cond b (x ∷ filter q xs) (filter q xs)) ≤ length (x ∷ xs)) [
        | true ↦ omega (arith, length-filter q xs)
        | false ↦ omega (arith, length-filter q xs)
      ]

-- names

pub name_says : (name : List ℕ) (m : LoadedModule) → has_name name m ≡ true → m.name ≡ name
name_says name m e = (bytes_decide m.name name).0 e

pub name_yes : (name : List ℕ) (m : LoadedModule) → m.name ≡ name → has_name name m ≡ true
name_yes name m e = (bytes_decide m.name name).1 e

pub found_name : (name : List ℕ) (ms : List LoadedModule) (m : LoadedModule) → find (has_name name) ms ≡ Some m → m.name ≡ name
found_name name ms m e = name_says name m (found_passes (λ (x : LoadedModule). Unit {0}) (has_name name) ms m e (rec_from (λ (x : LoadedModule). Unit {0}) ms (λ x i. tt))).0

-- one more module

with_first : (new m : LoadedModule) (ms : List LoadedModule) (P : List LoadedModule → Type 0) → P (new ∷ m ∷ ms) → P (m ∷ with_module new ms) → P (with_module new (m ∷ ms))
with_first new m ms P first later = elim (is_lt (compare_names new.name m.name)) as (λ b. P (if b then new ∷ m ∷ ms else m ∷ with_module new ms)) [ true ↦ first | false ↦ later ]

later_find : (p : LoadedModule → Bool) (m : LoadedModule) (one other : List LoadedModule) → find p one ≡ find p other → find p (m ∷ one) ≡ find p (m ∷ other)
later_find p m one other e = ap (λ (o : Option LoadedModule). cond (p m) (Some m) o) e

pub find_with_other : (p : LoadedModule → Bool) (new : LoadedModule) (ms : List LoadedModule) → p new ≡ false → find p (with_module new ms) ≡ find p ms
find_with_other p new [] e = ap (λ (b : Bool). cond b (Some new) None) e
find_with_other p new (m ∷ ms) e =
    with_first new m ms (λ all. find p all ≡ find p (m ∷ ms)) (ap (λ (b : Bool). cond b (Some new) (find p (m ∷ ms))) e) (later_find p m (with_module new ms) ms (find_with_other p new ms e))

none_first : (p : LoadedModule → Bool) (m : LoadedModule) (b : Bool) (o : Option LoadedModule) → p m ≡ b → cond b (Some m) o ≡ None → (p m ≡ false) × (o ≡ None)
none_first p m true o is e = absurd (cc)
none_first p m false o is e = (is, e)

pub find_with_new : (p : LoadedModule → Bool) (new : LoadedModule) (ms : List LoadedModule) → p new ≡ true → find p ms ≡ None → find p (with_module new ms) ≡ Some new
find_with_new p new [] passes none = ap (λ (b : Bool). cond b (Some new) None) passes
find_with_new p new (m ∷ ms) passes none =
    let parts = none_first p m (p m) (find p ms) refl none in
    with_first new m ms (λ all. find p all ≡ Some new) (ap (λ (b : Bool). cond b (Some new) (find p (m ∷ ms))) passes)
    (ap (λ (b : Bool). cond b (Some m) (find p (with_module new ms))) parts.0 ∙ find_with_new p new ms passes parts.1)

pub in_with_new : (new : LoadedModule) (ms : List LoadedModule) → Contains (with_module new ms) new
in_with_new new [] = first_in new []
in_with_new new (m ∷ ms) = with_first new m ms (λ all. Contains all new) (first_in new (m ∷ ms)) (later_in m new (with_module new ms) (in_with_new new ms))

later_in_with : (m x : LoadedModule) (ms all : List LoadedModule) → (Contains ms x → Contains all x) → Contains (m ∷ ms) x → Contains (m ∷ all) x
later_in_with m x ms all more (zero, l, e) = (0, omega arith, e)
later_in_with m x ms all more (suc k, l, e) = later_in m x all (more (k, omega arith, e))

pub in_with_old : (new : LoadedModule) (ms : List LoadedModule) (x : LoadedModule) → Contains ms x → Contains (with_module new ms) x
in_with_old new [] x i = absurd (none_in x i)
in_with_old new (m ∷ ms) x i = with_first new m ms (λ all. Contains all x) (later_in new x (m ∷ ms) i) (later_in_with m x ms (with_module new ms) (λ more. in_with_old new ms x more) i)

pub rec_with : (Q : LoadedModule → Type 0) (new : LoadedModule) (ms : List LoadedModule) → Q new → ((x : LoadedModule) → Contains ms x → Q x) → AllByRecursion Q (with_module new ms)
rec_with Q new [] q each = (q, tt)
rec_with Q new (m ∷ ms) q each = with_first new m ms (λ all. AllByRecursion Q all) (q, (each m (first_in m ms), rec_from Q ms (λ x i. each x (later_in m x ms i)))) (each m (first_in m ms), rec_with Q new ms q (λ x i. each x (later_in m x ms i)))

pub length-with : (new : LoadedModule) (ms : List LoadedModule) → length (with_module new ms) ≡ length ms + 1
length-with new [] = refl
length-with new (m ∷ ms) = with_first new m ms (λ all. length all ≡ length (m ∷ ms) + 1) (omega arith) (omega (arith, length-with new ms))

-- what globals hold

in_first : (m x : LoadedModule) (ms : List LoadedModule) (n : ℕ) → m ≡ x → Contains (handles x.globals) n → Contains (handles (m.globals ++ globals_of ms)) n
in_first m x ms n e i = subst (λ (ns : List ℕ). Contains ns n) (sym (filter_map-append handle m.globals (globals_of ms))) (Contains-append_left (handles m.globals) (handles (globals_of ms)) n (subst (λ (y : LoadedModule). Contains (handles y.globals) n) (sym e) i))

in_rest : (m : LoadedModule) (ms : List LoadedModule) (n : ℕ) → Contains (handles (globals_of ms)) n → Contains (handles (m.globals ++ globals_of ms)) n
in_rest m ms n i = subst (λ (ns : List ℕ). Contains ns n) (sym (filter_map-append handle m.globals (globals_of ms))) (Contains-append_right (handles m.globals) (handles (globals_of ms)) n i)

pub in_globals : (ms : List LoadedModule) (m : LoadedModule) (n : ℕ) → Contains ms m → Contains (handles m.globals) n → Contains (handles (globals_of ms)) n
in_globals [] m n at i = absurd (none_in m at)
in_globals (x ∷ ms) m n (zero, l, e) i = in_first x m ms n e i
in_globals (x ∷ ms) m n (suc k, l, e) i = in_rest x ms n (in_globals ms m n (k, omega arith, e) i)

pub from_globals : (ms : List LoadedModule) (n : ℕ) → Contains (handles (globals_of ms)) n → (m : LoadedModule) × Contains ms m × Contains (handles m.globals) n
from_globals [] n i = absurd (none_in n i)
from_globals (x ∷ ms) n i =
    elim (Contains-append_cases (handles x.globals) (handles (globals_of ms)) n (subst (λ (ns : List ℕ). Contains ns n) (filter_map-append handle x.globals (globals_of ms)) i)) [
      | inl here ↦ (x, first_in x ms, here)
      | inr later ↦ let there = from_globals ms n later in (there.0, later_in x there.0 ms there.1, there.2)
    ]
