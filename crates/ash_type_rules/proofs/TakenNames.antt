-- Names that are taken one after another: none is registered, no two are equal, and there is room for them.
use Rattle.std.proofs.Common.{◌≡◌, ◌≤◌, ◌+◌, ◌-◌, ℕ, Bool, true, false, ◌||◌, List, [], ◌∷◌, ◌++◌, Option, Some, None}
use Rattle.std.proofs.Common.{Ok, nat_eq, is_some, refl, sym, ◌∙◌, ap, subst, arith}
use Rattle.std.specs.Str.{bytes_eq}
use Rattle.std.specs.List.{AllByRecursion, IsDistinct, list_any}
use Rattle.std.proofs.lemmas.List.{append_assoc, append-nil}
use Rattle.std.proofs.lemmas.Bool.Decides.{nat_tests}
use Rattle.std.proofs.lemmas.Cmp.{nat_list_eq_equiv}
use Rattle.std.proofs.lemmas.Map.Keys.{IsDistinct-push}
use Rattle.ash_type_rules.specs.Environment.{named_in}
use Rattle.ash_type_rules.specs.ItemRules.{Names, is_taken, untaken, one_more, placed}
use Rattle.ash_type_rules.specs.TypedModules.{IsFree}
use Rattle.ash_type_rules.proofs.Bindings.{no_err, ok_is, bind_ok, bind_is, if_ok}

-- lists

pub all_append : {A : Type 0} (P : A → Type 0) (xs ys : List A) → AllByRecursion P xs → AllByRecursion P ys
    → AllByRecursion P (xs ++ ys)
all_append P [] ys h k = k
all_append P (x ∷ xs) ys h k = (h.0, all_append P xs ys h.1 k)

pub all_prefix : {A : Type 0} (P : A → Type 0) (xs ys : List A) → AllByRecursion P (xs ++ ys) → AllByRecursion P xs
all_prefix P [] ys h = tt
all_prefix P (x ∷ xs) ys h = (h.0, all_prefix P xs ys h.1)

pub all_rest : {A : Type 0} (P : A → Type 0) (xs ys : List A) → AllByRecursion P (xs ++ ys) → AllByRecursion P ys
all_rest P [] ys h = h
all_rest P (x ∷ xs) ys h = all_rest P xs ys h.1

-- names that differ

abbrev pub Distinct : List (List ℕ) → Type 0
Distinct = IsDistinct bytes_eq

pub distinct_prefix : (xs ys : List (List ℕ)) → Distinct (xs ++ ys) → Distinct xs
unfolding IsDistinct
distinct_prefix [] ys h = tt
distinct_prefix (x ∷ xs) ys h = (all_prefix _ xs ys h.0, distinct_prefix xs ys h.1)

pub distinct_push : (xs : List (List ℕ)) (y : List ℕ) → Distinct xs → list_any (bytes_eq y) xs ≡ false
    → Distinct (xs ++ y ∷ [])
distinct_push xs y h none = IsDistinct-push nat_list_eq_equiv xs y h none

none_before : (y : List ℕ) (x : List ℕ) (a b : Bool) → bytes_eq x y ≡ false → b ≡ false → (bytes_eq y x || b) ≡ false
none_before y x a b h k = rw (nat_list_eq_equiv.symm y x, h, k) refl

pub distinct_new : (xs ys : List (List ℕ)) (y : List ℕ) → Distinct (xs ++ y ∷ ys) → list_any (bytes_eq y) xs ≡ false
unfolding IsDistinct
distinct_new [] ys y h = refl
distinct_new (x ∷ xs) ys y h =
    none_before y x true (list_any (bytes_eq y) xs) (all_rest (λ z. bytes_eq x z ≡ false) xs (y ∷ ys) h.0).0
    (distinct_new xs ys y h.1)

-- names that are taken

-- nothing is registered among the members of a class or of an interface
pub all_free : (names : List (List ℕ)) → AllByRecursion (IsFree []) names
all_free [] = tt
all_free (n ∷ ns) = (refl, all_free ns)

abbrev pub grown : Names → List (List ℕ) → ℕ → Names
grown n names k = record { registered = n.registered; taken = n.taken ++ names; room = n.room - k }

-- names that can be taken, of which so many take room
pub record CanTake (n : Names) (names : List (List ℕ)) (k : ℕ) : Type 0 where
  pub free : AllByRecursion (IsFree n.registered) names
  pub distinct : Distinct (n.taken ++ names)
  pub room : k ≤ n.room

abbrev pub names_with : Names → List (List ℕ) → ℕ → Names
names_with n taken room = record { registered = n.registered; taken = taken; room = room }

pub same_names : (n : Names) (t u : List (List ℕ)) (j k : ℕ) → t ≡ u → j ≡ k → names_with n t j ≡ names_with n u k
same_names n t u j k h e = rw (h, e) refl

pub grown-none : (n : Names) → grown n [] 0 ≡ n
grown-none n = same_names n (n.taken ++ []) n.taken (n.room - 0) n.room (append-nil n.taken) (omega arith)

pub takes_none : (n : Names) → Distinct n.taken → CanTake n [] 0
takes_none n h = record { free = tt; distinct = subst Distinct (sym (append-nil n.taken)) h; room = omega arith }

pub grown-then : (n : Names) (xs ys : List (List ℕ)) (j k l : ℕ) → l ≡ j + k
    → grown (grown n xs j) ys k ≡ grown n (xs ++ ys) l
grown-then n xs ys j k l e =
    same_names n ((n.taken ++ xs) ++ ys) (n.taken ++ (xs ++ ys)) (n.room - j - k) (n.room - l)
    (append_assoc n.taken xs ys) (omega arith)

pub takes_then : (n : Names) (xs ys : List (List ℕ)) (j k l : ℕ) → l ≡ j + k → CanTake n xs j
    → CanTake (grown n xs j) ys k → CanTake n (xs ++ ys) l
takes_then n xs ys j k l e a b =
    let r = a.room in
    let s = b.room in
    record {
      free = all_append (IsFree n.registered) xs ys a.free b.free;
      distinct = subst Distinct (append_assoc n.taken xs ys) b.distinct;
      room = omega arith;
    }

pub takes_first : (n : Names) (xs ys : List (List ℕ)) (j k l : ℕ) → l ≡ j + k → CanTake n (xs ++ ys) l → CanTake n xs j
takes_first n xs ys j k l e a =
    let r = a.room in
    record {
      free = all_prefix (IsFree n.registered) xs ys a.free;
      distinct = distinct_prefix (n.taken ++ xs) ys (subst Distinct (sym (append_assoc n.taken xs ys)) a.distinct);
      room = omega arith;
    }

pub takes_rest : (n : Names) (xs ys : List (List ℕ)) (j k l : ℕ) → l ≡ j + k → CanTake n (xs ++ ys) l
    → CanTake (grown n xs j) ys k
takes_rest n xs ys j k l e a =
    let r = a.room in
    record {
      free = all_rest (IsFree n.registered) xs ys a.free;
      distinct = subst Distinct (sym (append_assoc n.taken xs ys)) a.distinct;
      room = omega arith;
    }

-- one name

is_none : {A : Type 0} (o : Option A) → is_some o ≡ false → o ≡ None
is_none None h = refl
is_none (Some x) h = absurd (cc)

pub neither : {P : Type 0} (a b : Bool) → (a || b) ≡ false → (a ≡ false → b ≡ false → P) → P
neither true b h k = absurd (cc)
neither false b h k = k refl h

pub untaken_sound : (n : Names) (at : ℕ) (name : List ℕ) (m : Names) → Distinct n.taken → untaken n at name ≡ Ok m
    → CanTake n (name ∷ []) 0 × (m ≡ grown n (name ∷ []) 0)
unfolding untaken
untaken_sound n at name m d h = if_ok (is_taken n name) _ _ (Ok m) h
    (λ b e. absurd (no_err _ m e))
    (λ b e. neither (is_some (named_in n.registered name)) (list_any (bytes_eq name) n.taken) b (λ f g. (
      record {
        free = (is_none (named_in n.registered name) f, tt);
        distinct = distinct_push n.taken name d g;
        room = omega arith;
      },
      sym (ok_is (names_with n (n.taken ++ name ∷ []) n.room) m e)
          ∙ same_names n (n.taken ++ name ∷ []) (n.taken ++ name ∷ []) n.room (n.room - 0) refl (omega arith),
    )))

pub untaken_complete : (n : Names) (at : ℕ) (name : List ℕ) → CanTake n (name ∷ []) 0
    → untaken n at name ≡ Ok (grown n (name ∷ []) 0)
unfolding untaken
untaken_complete n at name a =
    rw (a.free.0, distinct_new n.taken [] name a.distinct)
    (ap (λ (m : Names). Ok m)
    (same_names n (n.taken ++ name ∷ []) (n.taken ++ name ∷ []) n.room (n.room - 0) refl (omega arith)))

some_room : (k : ℕ) → nat_eq k 0 ≡ false → 1 ≤ k
some_room k b = grind (arith, nat_tests)

room_left : (k : ℕ) → 1 ≤ k → nat_eq k 0 ≡ false
room_left k h = grind (arith, nat_tests)

one_sound : (n : Names) (at : ℕ) (m : Names) → one_more n at ≡ Ok m → (1 ≤ n.room) × (m ≡ grown n [] 1)
unfolding one_more
one_sound n at m h = if_ok (nat_eq n.room 0) _ _ (Ok m) h
    (λ b e. absurd (no_err _ m e))
    (λ b e. (
      some_room n.room b,
      sym (ok_is (names_with n n.taken (n.room - 1)) m e)
          ∙ same_names n n.taken (n.taken ++ []) (n.room - 1) (n.room - 1) (sym (append-nil n.taken)) refl,
    ))

one_complete : (n : Names) (at : ℕ) → 1 ≤ n.room → one_more n at ≡ Ok (grown n [] 1)
unfolding one_more
one_complete n at h =
    rw (room_left n.room h)
    (ap (λ (m : Names). Ok m)
    (same_names n n.taken (n.taken ++ []) (n.room - 1) (n.room - 1) (sym (append-nil n.taken)) refl))

pub placed_sound : (n : Names) (at : ℕ) (name : List ℕ) (m : Names) → Distinct n.taken → placed n at name ≡ Ok m
    → CanTake n (name ∷ []) 1 × (m ≡ grown n (name ∷ []) 1)
placed_sound n at name m d h =
    let u = bind_ok (untaken n at name) (λ next. one_more next at) m h in
    let s = untaken_sound n at name u.0 d u.1 in
    let o = one_sound u.0 at m u.2 in
    let r : 1 ≤ n.room - 0 = subst (λ (x : Names). 1 ≤ x.room) s.1 o.0 in (
      record { free = s.0.free; distinct = s.0.distinct; room = omega arith },
      o.1 ∙ ap (λ (x : Names). grown x [] 1) s.1
          ∙ grown-then n (name ∷ []) [] 0 1 1 refl,
    )

pub placed_complete : (n : Names) (at : ℕ) (name : List ℕ) → CanTake n (name ∷ []) 1
    → placed n at name ≡ Ok (grown n (name ∷ []) 1)
placed_complete n at name a =
    let r = a.room in
    bind_is (untaken n at name) (λ next. one_more next at) (grown n (name ∷ []) 0) (grown n (name ∷ []) 1)
    (untaken_complete n at name (record { free = a.free; distinct = a.distinct; room = omega arith }))
    (one_complete (grown n (name ∷ []) 0) at (omega arith)
    ∙ ap (λ (m : Names). Ok m) (grown-then n (name ∷ []) [] 0 1 1 refl))
