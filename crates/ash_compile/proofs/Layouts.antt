-- Where the functions of a module stand, counted class by class.
use Rattle.std.proofs.Common.{◌≡◌, ◌≤◌, ◌<◌, ℕ, zero, suc, ◌+◌, List, [], ◌∷◌, ◌++◌, take, length, map, get_or}
use Rattle.std.proofs.Common.{refl, sym, ap, ◌∙◌, subst, arith, Bool, true, false, cond, length-append, append_assoc}
use Rattle.std.proofs.Common.{append-nil}
use Rattle.std.specs.Prelude.{Some, slice_get, fold, sum, count_by, nat_le}
use Rattle.std.proofs.lemmas.List.{take-map, map-append, take_more, take_all}
use Rattle.std.proofs.lemmas.List.Sums.{fold_push}
use Rattle.std.proofs.lemmas.Bool.Decides.{nat_tests}
use Rattle.ash_typed.specs.Modules.{Class, class_of, interface_of}
use Rattle.ash_typed.specs.declared.tree.items.Class as class_code
use Rattle.ash_typed.specs.declared.tree.items.Interface as interface_code
use Rattle.ash_compile.specs.Layout.{count_of_methods, methods_before, interfaces_before, classes_before}

-- methods

pub methods_next : (cs : List class_code.Class) (k : ℕ) (c : class_code.Class) → k < length cs → c ≡ get_or cs k c
    → methods_before (k + 1) (map class_of cs) ≡ methods_before k (map class_of cs) + length (class_of c).methods
methods_next cs k c low is =
    ap (λ (xs : List Class). sum (map count_of_methods xs))
    (take-map class_of (k + 1) cs ∙ ap (map class_of) (take_more cs k c low)
    ∙ map-append class_of (take k cs) (get_or cs k c ∷ []))
    ∙ ap sum (map-append count_of_methods (map class_of (take k cs)) (class_of (get_or cs k c) ∷ []))
    ∙ fold_push (λ a x. a + x) 0 (map count_of_methods (map class_of (take k cs)))
    (count_of_methods (class_of (get_or cs k c)))
    ∙ ap (λ (n : ℕ). n + count_of_methods (class_of (get_or cs k c)))
    (ap (λ (xs : List Class). sum (map count_of_methods xs)) (sym (take-map class_of k cs)))
    ∙ ap (λ (x : class_code.Class). methods_before k (map class_of cs) + count_of_methods (class_of x)) (sym is)

-- interfaces

fold_map : {A B : Type 0} (g : ℕ → B → ℕ) (f : A → B) (n : ℕ) (xs : List A)
    → fold g n (map f xs) ≡ fold (λ m x. g m (f x)) n xs
fold_map g f n [] = refl
fold_map g f n (x ∷ xs) = fold_map g f (g n (f x)) xs

-- whether an interface is declared before a class
abbrev pub is_before : ℕ → interface_code.Interface → Bool
is_before class i = nat_le i.classes_before class

-- so many of the first interfaces
abbrev pub counted : ℕ → ℕ → List interface_code.Interface → ℕ
counted class k xs = count_by (is_before class) (take k xs)

pub counted_all : (class k : ℕ) (xs : List interface_code.Interface) → length xs ≤ k
    → counted class k xs ≡ interfaces_before class (map interface_of xs)
counted_all class k xs all =
    ap (count_by (is_before class)) (take_all k xs all)
    ∙ sym (fold_map (λ m i. m + cond (nat_le i.classes_before class) 1 0) interface_of 0 xs)

counted_next : (class k : ℕ) (xs : List interface_code.Interface) (x : interface_code.Interface) → k < length xs
    → x ≡ get_or xs k x → counted class (k + 1) xs ≡ counted class k xs + cond (is_before class x) 1 0
counted_next class k xs x low is =
    ap (count_by (is_before class)) (take_more xs k x low)
    ∙ fold_push (λ a y. a + cond (is_before class y) 1 0) 0 (take k xs) (get_or xs k x)
    ∙ ap (λ (y : interface_code.Interface). counted class k xs + cond (is_before class y) 1 0) (sym is)

pub counted_yes : (class k n : ℕ) (xs : List interface_code.Interface) (x : interface_code.Interface) → k < length xs
    → x ≡ get_or xs k x → x.classes_before ≤ class → n ≡ counted class k xs → n + 1 ≡ counted class (k + 1) xs
counted_yes class k n xs x low is before same =
    ap (λ (m : ℕ). m + 1) same
    ∙ ap (λ (b : Bool). counted class k xs + cond b 1 0) (sym test) ∙ sym (counted_next class k xs x low is)
  where
    test : is_before class x ≡ true
    test = grind (arith, nat_tests)

pub counted_no : (class k n : ℕ) (xs : List interface_code.Interface) (x : interface_code.Interface) → k < length xs
    → x ≡ get_or xs k x → class < x.classes_before → n ≡ counted class k xs → n ≡ counted class (k + 1) xs
counted_no class k n xs x low is after same =
    same ∙ sym (none_more (counted class k xs))
    ∙ ap (λ (b : Bool). counted class k xs + cond b 1 0) (sym test) ∙ sym (counted_next class k xs x low is)
  where
    none_more : (m : ℕ) → m + 0 ≡ m
    none_more m = omega arith

    test : is_before class x ≡ false
    test = grind (arith, nat_tests)

pub before_there : (k : ℕ) (xs : List interface_code.Interface) (x : interface_code.Interface) → k < length xs
    → x ≡ get_or xs k x → classes_before k (map interface_of xs) ≡ x.classes_before
before_there k [] x low is = absurd (omega (arith, low))
before_there zero (y ∷ xs) x low is = ap (λ (z : interface_code.Interface). z.classes_before) (sym is)
before_there (suc k) (y ∷ xs) x low is = before_there k xs x (omega (arith, low)) is

-- lists that grow

pub get_pushed : {A : Type 0} (xs : List A) (x : A) (k : ℕ) → k ≡ length xs → slice_get (xs ++ x ∷ []) k ≡ Some x
get_pushed [] x k is = ap (λ (n : ℕ). slice_get (x ∷ []) n) is
get_pushed (y ∷ xs) x zero is = absurd (omega (arith, is))
get_pushed (y ∷ xs) x (suc k) is = get_pushed xs x k (omega (arith, is))

pub get_kept : {A : Type 0} (xs : List A) (x : A) (k : ℕ) → k < length xs → slice_get (xs ++ x ∷ []) k ≡ slice_get xs k
get_kept [] x k low = absurd (omega (arith, low))
get_kept (y ∷ xs) x zero low = refl
get_kept (y ∷ xs) x (suc k) low = get_kept xs x k (omega (arith, low))

-- What holds of each place of a list that grew by the value of the next place.
pub each_pushed : (f : ℕ → ℕ) (xs : List ℕ) (x i : ℕ) → length xs ≡ i → f i ≡ x
    → ((k : ℕ) → k < i → slice_get xs k ≡ Some (f k)) → (k : ℕ) → k < i + 1 → slice_get (xs ++ x ∷ []) k ≡ Some (f k)
each_pushed f xs x i long is each k low = by_place (nat_le (suc k) i) refl
  where
    by_place : (b : Bool) → nat_le (suc k) i ≡ b → slice_get (xs ++ x ∷ []) k ≡ Some (f k)
    by_place true before =
        let lower : k < i = grind (arith, nat_tests) in
        get_kept xs x k (omega (arith, lower, long)) ∙ each k lower
    by_place false after =
        let here : k ≡ i = grind (arith, nat_tests) in
        get_pushed xs x k (here ∙ sym long) ∙ ap Some (sym is ∙ ap f (sym here))

-- A list that grew by one.
pub grown : (f : ℕ → ℕ) (xs new : List ℕ) (x i : ℕ) → new ≡ xs ++ x ∷ [] → length xs ≡ i → f i ≡ x
    → ((k : ℕ) → k < i → slice_get xs k ≡ Some (f k))
    → (length new ≡ i + 1) × ((k : ℕ) → k < i + 1 → slice_get new k ≡ Some (f k))
grown f xs new x i items long is each = (
  ap length items ∙ length-append xs (x ∷ []) ∙ omega (arith, long),
  subst (λ (ys : List ℕ). (k : ℕ) → k < i + 1 → slice_get ys k ≡ Some (f k)) (sym items)
      (each_pushed f xs x i long is each),
)

-- numbers of items, one after the other

pub counted_more : {A : Type 0} (f : A → ℕ) (x : A) (here rest : List A) (counts whole : List ℕ) (n : ℕ) (new : List ℕ)
    → here ≡ x ∷ rest → n ≡ f x → new ≡ counts ++ n ∷ [] → counts ++ map f here ≡ whole
    → new ++ map f rest ≡ whole
counted_more f x here rest counts whole n new first is items before =
    ap (λ (ns : List ℕ). ns ++ map f rest) items
    ∙ append_assoc counts (n ∷ []) (map f rest)
    ∙ ap (λ (m : ℕ). counts ++ m ∷ map f rest) is
    ∙ ap (λ (ys : List _). counts ++ map f ys) (sym first)
    ∙ before

pub counted_to_end : {A : Type 0} (f : A → ℕ) (rest : List A) (counts whole : List ℕ) → rest ≡ []
    → counts ++ map f rest ≡ whole → counts ≡ whole
counted_to_end f rest counts whole none all =
    sym (append-nil counts) ∙ ap (λ (ys : List _). counts ++ map f ys) (sym none) ∙ all
