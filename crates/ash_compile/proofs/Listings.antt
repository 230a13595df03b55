-- Lists that stand for each other, place by place, and where what is in one is in a longer one.
use Rattle.std.proofs.Common.{◌≡◌, ◌<◌, ◌≤◌, ℕ, Bool, true, false, nat_lt, zero, suc, ◌+◌, List, [], ◌∷◌, ◌++◌, take}
use Rattle.std.proofs.Common.{drop, get_or, length, map, flat_map, option_map, ◌&&◌, refl, sym, ap, ◌∙◌, subst, arith}
use Rattle.std.proofs.Common.{length-append, append_assoc, append-nil}
use Rattle.std.specs.Prelude.{Some, slice_get}
use Rattle.std.specs.List.{AllZip, list_all}
use Rattle.std.proofs.lemmas.Option.{same_Some, slice_get-map, slice_get-get_or}
use Rattle.std.proofs.lemmas.Bool.Decides.{nat_tests}
use Rattle.std.proofs.lemmas.List.{drop_more, drop_all, map_more}

-- what is in a list stays where it is if the list grows
pub get_first : {A : Type 0} (xs ys : List A) (k : ℕ) (x : A) → slice_get xs k ≡ Some x
    → slice_get (xs ++ ys) k ≡ Some x
get_first [] ys k x is = absurd (cc)
get_first (y ∷ xs) ys zero x is = is
get_first (y ∷ xs) ys (suc k) x is = get_first xs ys k x is

-- what is in the second of two lists
pub get_second : {A : Type 0} (xs ys : List A) (k : ℕ) → slice_get (xs ++ ys) (length xs + k) ≡ slice_get ys k
get_second [] ys k = ap (λ (n : ℕ). slice_get ys n) (nothing_more k)
  where
    nothing_more : (n : ℕ) → 0 + n ≡ n
    nothing_more n = omega arith
get_second (x ∷ xs) ys k = ap (λ (n : ℕ). slice_get (x ∷ (xs ++ ys)) n) (one_more (length xs) k) ∙ get_second xs ys k
  where
    one_more : (m n : ℕ) → suc m + n ≡ suc (m + n)
    one_more m n = omega arith

-- what is in the list of one of the items
pub get_part : {A B : Type 0} (g : A → List B) (xs : List A) (c k : ℕ) (x : A) (y : B) → slice_get xs c ≡ Some x
    → slice_get (g x) k ≡ Some y → slice_get (flat_map g xs) (length (flat_map g (take c xs)) + k) ≡ Some y
get_part g [] c k x y at there = absurd (cc)
get_part g (z ∷ xs) zero k x y at there =
    ap (λ (n : ℕ). slice_get (g z ++ flat_map g xs) n) (nothing_more k)
    ∙ get_first (g z) (flat_map g xs) k y (ap (λ (w : _). slice_get (g w) k) (same_Some z x at) ∙ there)
  where
    nothing_more : (n : ℕ) → 0 + n ≡ n
    nothing_more n = omega arith
get_part g (z ∷ xs) (suc c) k x y at there =
    ap (λ (n : ℕ). slice_get (g z ++ flat_map g xs) n)
    (ap (λ (m : ℕ). m + k) (length-append (g z) (flat_map g (take c xs)))
    ∙ grouped (length (g z)) (length (flat_map g (take c xs))) k)
    ∙ get_second (g z) (flat_map g xs) (length (flat_map g (take c xs)) + k)
    ∙ get_part g xs c k x y at there
  where
    grouped : (l m n : ℕ) → l + m + n ≡ l + (m + n)
    grouped l m n = omega arith

-- lists that stand for each other

pub zip_more : {A B : Type 0} (R : A → B → Type 0) (xs : List A) (ys : List B) (x : A) (y : B) → AllZip R xs ys → R x y
    → AllZip R (xs ++ x ∷ []) (ys ++ y ∷ [])
zip_more R [] [] x y are one = (one, tt)
zip_more R [] (z ∷ ys) x y are one = absurd are
zip_more R (w ∷ xs) [] x y are one = absurd are
zip_more R (w ∷ xs) (z ∷ ys) x y are one = (are.0, zip_more R xs ys x y are.1 one)

pub zip_at : {A B : Type 0} (R : A → B → Type 0) (xs : List A) (ys : List B) (k : ℕ) (x : A) → AllZip R xs ys
    → slice_get xs k ≡ Some x → (y : B) × (slice_get ys k ≡ Some y) × R x y
zip_at R [] [] k x are at = absurd (cc)
zip_at R [] (z ∷ ys) k x are at = absurd are
zip_at R (w ∷ xs) [] k x are at = absurd are
zip_at R (w ∷ xs) (z ∷ ys) zero x are at = (z, refl, here)
  where
    here : R x z
    here = rw (sym (same_Some w x at)) are.0
zip_at R (w ∷ xs) (z ∷ ys) (suc k) x are at = zip_at R xs ys k x are.1 at

-- what is left of a list

pub rest_here : {A B : Type 0} (f : A → B) (xs : List A) (k : ℕ) (x : A) → k < length xs → x ≡ get_or xs k x
    → map f (drop k xs) ≡ f x ∷ map f (drop (k + 1) xs)
rest_here f xs k x low is = ap (map f) (drop_more xs k x low ∙ ap (λ (y : _). y ∷ drop (k + 1) xs) (sym is))

pub rest_none : {A B : Type 0} (f : A → B) (xs : List A) (k : ℕ) → length xs ≤ k → map f (drop k xs) ≡ []
rest_none f xs k over = ap (map f) (drop_all k xs over)

-- what is behind the first places of a list

pub first_of_rest : {A : Type 0} (xs : List A) (k : ℕ) (x : A) (rest : List A) → drop k xs ≡ x ∷ rest
    → slice_get xs k ≡ Some x
first_of_rest [] zero x rest is = absurd (cc)
first_of_rest [] (suc k) x rest is = absurd (cc)
first_of_rest (y ∷ xs) zero x rest is = ap (λ (zs : List _). slice_get zs 0) is
first_of_rest (y ∷ xs) (suc k) x rest is = first_of_rest xs k x rest is

pub others_of_rest : {A : Type 0} (xs : List A) (k : ℕ) (x : A) (rest : List A) → drop k xs ≡ x ∷ rest
    → drop (k + 1) xs ≡ rest
others_of_rest [] zero x rest is = absurd (cc)
others_of_rest [] (suc k) x rest is = absurd (cc)
others_of_rest (y ∷ xs) zero x rest is = ap (λ (zs : List _). drop 1 zs) is
others_of_rest (y ∷ xs) (suc k) x rest is =
    ap (λ (n : ℕ). drop n (y ∷ xs)) (one_more k) ∙ others_of_rest xs k x rest is
  where
    one_more : (n : ℕ) → suc n + 1 ≡ suc (n + 1)
    one_more n = omega arith

-- A list that stands for another one may grow: with what is left it is the whole.
pub zip_grows : {A B : Type 0} (R : A → B → Type 0) (zs rest whole : List A) (ys : List B) (x : A) (y : B)
    → AllZip R zs ys
    → R x y → zs ++ x ∷ rest ≡ whole
    → (ws : List A) × AllZip R ws (ys ++ y ∷ []) × (ws ++ rest ≡ whole)
zip_grows R zs rest whole ys x y are one is =
    (zs ++ x ∷ [], zip_more R zs ys x y are one, append_assoc zs (x ∷ []) rest ∙ is)

pub zip_grown : {A B : Type 0} (R : A → B → Type 0) (zs whole : List A) (ys : List B) → AllZip R zs ys
    → zs ++ [] ≡ whole
    → AllZip R whole ys
zip_grown R zs whole ys are is = subst (λ (ws : List _). AllZip R ws ys) (sym (append-nil zs) ∙ is) are

-- what holds of each number below one, and of that one
pub each_below : (P : ℕ → Type 0) (n : ℕ) → ((k : ℕ) → k < n → P k) → P n → (k : ℕ) → k < n + 1 → P k
each_below P n before here k low = by_test (nat_lt k n) refl
  where
    by_test : (t : Bool) → nat_lt k n ≡ t → P k
    by_test true is = before k (grind (arith, nat_tests))
    by_test false is =
        let level : n ≡ k = grind (arith, nat_tests) in
        subst P level here

-- the last of a list that has grown
pub last_added : {A : Type 0} (xs ys : List A) (n : ℕ) (x : A) → ys ≡ xs ++ x ∷ [] → length xs ≡ n
    → slice_get ys n ≡ Some x
last_added xs ys n x is long =
    ap (λ (zs : List _). slice_get zs n) is
    ∙ ap (λ (k : ℕ). slice_get (xs ++ x ∷ []) k) (sym long ∙ nothing (length xs))
    ∙ get_second xs (x ∷ []) 0
  where
    nothing : (k : ℕ) → k ≡ k + 0
    nothing k = omega arith

-- One more of what stands for a list, with what is left of it.
pub added : {A B : Type 0} (R : A → B → Type 0) (zs rest whole : List A) (ys new : List B) (x : A) (y : B)
    → AllZip R zs ys
    → R x y → new ≡ ys ++ y ∷ [] → zs ++ x ∷ rest ≡ whole
    → (ws : List A) × AllZip R ws new × (ws ++ rest ≡ whole)
added R zs rest whole ys new x y are one more is =
    let all = zip_grows R zs rest whole ys x y are one is in
    (all.0, subst (λ (bs : List _). AllZip R all.0 bs) (sym more) all.1, all.2)

both_are : (a b c : Bool) → a && b ≡ true → (b ≡ true → c ≡ true) → a && c ≡ true
both_are true b c is next = next is
both_are false b c is next = absurd (cc)

-- what is true of all in a list is true of each
pub all_there : {A : Type 0} (P : A → Bool) (xs : List A) (k : ℕ) (x : A) → list_all P xs ≡ true
    → slice_get xs k ≡ Some x → P x ≡ true
all_there P [] k x all at = absurd (cc)
all_there P (y ∷ xs) zero x all at = ap P (sym (same_Some y x at)) ∙ one_of (P y) (list_all P xs) all
  where
    one_of : (a b : Bool) → a && b ≡ true → a ≡ true
    one_of true b is = refl
    one_of false b is = absurd (cc)
all_there P (y ∷ xs) (suc k) x all at = all_there P xs k x (other_of (P y) (list_all P xs) all) at
  where
    other_of : (a b : Bool) → a && b ≡ true → b ≡ true
    other_of true b is = is
    other_of false b is = absurd (cc)

-- what is true of all in a list that has grown
pub all_more : {A : Type 0} (P : A → Bool) (xs ys : List A) (x : A) → ys ≡ xs ++ x ∷ [] → list_all P xs ≡ true
    → P x ≡ true → list_all P ys ≡ true
all_more P xs ys x is all one = ap (list_all P) is ∙ from_first xs all
  where
    from_first : (zs : List _) → list_all P zs ≡ true → list_all P (zs ++ x ∷ []) ≡ true
    from_first [] all = ap (λ (t : Bool). t && true) one
    from_first (z ∷ zs) all = both_are (P z) (list_all P zs) (list_all P (zs ++ x ∷ [])) all (from_first zs)

-- maps of lists that grow

pub map_both : {A B : Type 0} (f : A → B) (xs ys : List A) → map f (xs ++ ys) ≡ map f xs ++ map f ys
map_both f [] ys = refl
map_both f (x ∷ xs) ys = ap (λ (zs : List _). f x ∷ zs) (map_both f xs ys)

pub map_twice_more : {A B C : Type 0} (f : B → C) (g : A → B) (xs : List A) (k : ℕ) (x : A) → k < length xs
    → x ≡ get_or xs k x
    → map f (map g (take (k + 1) xs)) ≡ map f (map g (take k xs)) ++ f (g x) ∷ []
map_twice_more f g xs k x low is =
    ap (map f) (map_more g xs k x low)
    ∙ map_both f (map g (take k xs)) (g (get_or xs k x) ∷ [])
    ∙ ap (λ (y : _). map f (map g (take k xs)) ++ f (g y) ∷ []) (sym is)

-- an item of a list that is mapped
pub item_at : {A B : Type 0} (f : A → B) (xs : List A) (k : ℕ) (x : A) → k < length xs → x ≡ get_or xs k x
    → slice_get (map f xs) k ≡ Some (f x)
item_at f xs k x low is =
    slice_get-map f xs k ∙ ap (option_map f) (slice_get-get_or xs k x low) ∙ ap (λ (y : _). Some (f y)) (sym is)
