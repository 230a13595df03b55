-- Laws of counts.
use Rattle.std.proofs.Common.{◌≡◌, ◌<◌, ◌≤◌, ◌+◌, ℕ, zero, suc, Bool, true, false, cond, List, [], ◌∷◌, ◌⊎◌, inl, inr, refl, sym, subst, ap, ◌∙◌, nat_eq, arith}
use Rattle.std.specs.Prelude.{Option, None, Some, Contains, ◌||◌}
use Rattle.std.specs.Option.{option_map_or, option_map, unwrap_or}
use Rattle.std.specs.Ordering.{nat_cmp}
use Rattle.std.specs.BTreeMap.{is_at}
use Rattle.std.proofs.lemmas.Cmp.{nat_cmp_total}
use Rattle.std.proofs.lemmas.Bool.Decides.{nat_tests}
use Rattle.std.proofs.lemmas.Map.Entries.{sum_by-insert_entry}
use Rattle.std.proofs.lemmas.Map.Keys.{sorted_from_strictly_increasing}
use Rattle.std.specs.Map.{values_of, lookup}
use Rattle.std.proofs.lemmas.List.Sums.{sum_by-cons}
use Rattle.ash_host.specs.declared.word.Word.{Word}
use Rattle.ash_host.specs.declared.word.Word.TheVariants.{Object}
use Rattle.ash_host.specs.Objects.{Plain, LiveObjects, object_at, numbers, references, Refers, IsInOrder, handles, handles_to, is_handle_to, fields_of, fields_to, count_of, with_at}
use Rattle.ash_host.specs.Reach.{Root, Field, ReachableIn, is_among}
use Rattle.ash_host.proofs.Membership.{or_cases, or_first, or_second, is_among_yes, is_among_says, refers_lives}
use Rattle.ash_host.proofs.SweepLaws.{references_same}
use Rattle.ash_host.proofs.Order.{object_here, object_later, none_after, in_order_after}

handles_to-cons : (n : ℕ) (w : Word) (ws : List Word) → handles_to n (w ∷ ws) ≡ cond (is_handle_to n w) 1 0 + handles_to n ws
handles_to-cons n w ws = sum_by-cons (λ x. cond (is_handle_to n x) 1 0) w ws

-- words that hold an object have a handle to it, and the other way round
pub handles_counted : (n : ℕ) (ws : List Word) → is_among (handles ws) n ≡ true → 0 < handles_to n ws
handles_counted n [] h = cc
handles_counted n (Object m ∷ ws) h =
    elim (or_cases (nat_eq n m) (is_among (handles ws) n) h) [
      | inl here ↦ let one : cond {A = ℕ} (nat_eq n m) 1 0 ≡ 1 = ap (λ (b : Bool). cond {A = ℕ} b 1 0) here in omega (arith, handles_to-cons n (Object m) ws, one)
      | inr later ↦ omega (arith, handles_to-cons n (Object m) ws, handles_counted n ws later)
    ]
handles_counted n (w ∷ ws) h = omega (arith, handles_to-cons n w ws, handles_counted n ws h)

pub counted_handles : (n : ℕ) (ws : List Word) → 0 < handles_to n ws → is_among (handles ws) n ≡ true
counted_handles n [] h = absurd (omega arith)
counted_handles n (Object m ∷ ws) h =
    go (nat_eq n m) refl (λ more. counted_handles n ws more)
  where
    go : (b : Bool) → nat_eq n m ≡ b → (0 < handles_to n ws → is_among (handles ws) n ≡ true) → nat_eq n m || is_among (handles ws) n ≡ true
    go true e later = or_first (nat_eq n m) (is_among (handles ws) n) e
    go false e later = let none : cond {A = ℕ} (nat_eq n m) 1 0 ≡ 0 = ap (λ (b : Bool). cond {A = ℕ} b 1 0) e in or_second (nat_eq n m) (is_among (handles ws) n) (later (omega (arith, none, handles_to-cons n (Object m) ws)))
counted_handles n (w ∷ ws) h = counted_handles n ws (omega (arith, handles_to-cons n w ws))

fields_to-cons : {M : Type 0} (n : ℕ) (e : ℕ × Plain M) (l : LiveObjects M) → fields_to n (e ∷ l) ≡ handles_to n (fields_of e.1) + fields_to n l
fields_to-cons n e l = sum_by-cons (λ object. handles_to n (fields_of object)) e.1 (values_of l)

-- what an object's fields hold is at most what all fields hold
pub fields_to-object_at : {M : Type 0} (n one : ℕ) (objects : LiveObjects M) (object : Plain M) → object_at one objects ≡ Some object → handles_to n (fields_of object) ≤ fields_to n objects
fields_to-object_at n one [] object h = cc
fields_to-object_at n one (e ∷ l) object h =
    go (nat_eq one e.0) refl (λ later. fields_to-object_at n one l object later)
  where
    go : (b : Bool) → nat_eq one e.0 ≡ b → (object_at one l ≡ Some object → handles_to n (fields_of object) ≤ fields_to n l) → handles_to n (fields_of object) ≤ fields_to n (e ∷ l)
    go true is later =
        let at : Some e.1 ≡ Some object = sym (ap (λ (b : Bool). cond b (Some e.1) (object_at one l)) is) ∙ h in
        let same : e.1 ≡ object = cc in
        let count = ap (λ (o : Plain _). handles_to n (fields_of o)) same in
        omega (arith, fields_to-cons n e l, count)
    go false is later = omega (arith, fields_to-cons n e l, later (sym (object_later one e l is) ∙ h))

-- what is referred to is counted
pub refers_counted : {M : Type 0} (objects : LiveObjects M) (one other : ℕ) → Refers objects one other → 0 < fields_to other objects
refers_counted {M} objects one other f =
    go (object_at one objects) refl (is_among_yes other (references objects one) f)
  where
    go : (o : Option (Plain M)) → object_at one objects ≡ o → is_among (references objects one) other ≡ true → 0 < fields_to other objects
    go None is among = let at = subst (λ (v : Option (Plain M)). is_among (option_map_or (λ object. handles (fields_of object)) v []) other ≡ true) is among in cc
    go (Some object) is among =
        let at = subst (λ (v : Option (Plain M)). is_among (option_map_or (λ object. handles (fields_of object)) v []) other ≡ true) is among in
        omega (arith, handles_counted other (fields_of object) at, fields_to-object_at other one objects object is)

-- what is counted is referred to
pub counted_refers : {M : Type 0} (objects : LiveObjects M) (n : ℕ) → IsInOrder objects → 0 < fields_to n objects → (one : ℕ) × Refers objects one n
counted_refers [] n o h = absurd (omega arith)
counted_refers {M} (e ∷ l) n o h =
    go (is_among (handles (fields_of e.1)) n) refl (λ more. counted_refers l n (in_order_after e l o) more)
  where
    later : (b : ℕ) → handles_to n (fields_of e.1) ≡ b → is_among (handles (fields_of e.1)) n ≡ false → 0 < fields_to n l
    later zero none away = omega (arith, fields_to-cons n e l)
    later (suc b) some away = let yes = counted_handles n (fields_of e.1) (omega arith) in cc

    go : (b : Bool) → is_among (handles (fields_of e.1)) n ≡ b → (0 < fields_to n l → (one : ℕ) × Refers l one n) → (one : ℕ) × Refers (e ∷ l) one n
    go true among rest = (e.0, is_among_says n (references (e ∷ l) e.0) (subst (λ (v : Option (Plain M)). is_among (option_map_or (λ object. handles (fields_of object)) v []) n ≡ true) (sym (object_here e l)) among))
    go false away rest =
        let (one, f) = rest (later (handles_to n (fields_of e.1)) refl away) in
        (one, references_same l (e ∷ l) one n (sym (object_later one e l (none_after e l one o (refers_lives l one n (is_among_yes n (references l one) f))))) f)

-- what is counted with the globals is held by one of them or referred to, and the other way round
pub counted_held : {M : Type 0} (globals : List Word) (objects : LiveObjects M) (n : ℕ) → IsInOrder objects → 0 < count_of n globals objects → Contains (handles globals) n ⊎ ((one : ℕ) × Refers objects one n)
counted_held globals objects n o h = go (handles_to n globals) refl
  where
    go : (held : ℕ) → handles_to n globals ≡ held → Contains (handles globals) n ⊎ ((one : ℕ) × Refers objects one n)
    go zero none = inr (counted_refers objects n o (omega (arith, none, h)))
    go (suc more) some = inl (is_among_says n (handles globals) (counted_handles n globals (omega (arith, some))))

pub held_counted : {M : Type 0} (globals : List Word) (objects : LiveObjects M) (n : ℕ) → Contains (handles globals) n ⊎ ((one : ℕ) × Refers objects one n) → 0 < count_of n globals objects
held_counted globals objects n (inl held) = omega (arith, handles_counted n globals (is_among_yes n (handles globals) held))
held_counted globals objects n (inr (one, f)) = omega (arith, refers_counted objects one n f)

-- what is reachable is held or counted
pub reachable_counted : {M : Type 0} {IsHeld : ℕ → Type 0} (objects : LiveObjects M) (n : ℕ) → ReachableIn IsHeld objects n → IsHeld n ⊎ (0 < fields_to n objects)
reachable_counted objects n (Root h) = inl h
reachable_counted objects n (Field {one} r f) = inr (refers_counted objects one n f)

is_at_eq : (x y : ℕ) → is_at (nat_cmp x) y ≡ nat_eq x y
is_at_eq x y = grind (arith, nat_tests)

lookup_same : {A : Type 0} (p q : ℕ → Bool) → ((k : ℕ) → p k ≡ q k) → (l : List (ℕ × A)) → lookup p l ≡ lookup q l
lookup_same p q same [] = refl
lookup_same p q same (e ∷ l) = ap (λ (b : Bool). cond b (Some e.1) (lookup p l)) (same e.0) ∙ ap (λ (o : Option _). cond (q e.0) (Some e.1) o) (lookup_same p q same l)

map_or : {A : Type 0} (f : A → ℕ) (o : Option A) → unwrap_or (option_map f o) 0 ≡ option_map_or f o 0
map_or f None = refl
map_or f (Some x) = refl

-- the fields that are handles to an object, after another object was put at a number
pub fields_to-with_at : {M : Type 0} (n number : ℕ) (object : Plain M) (objects : LiveObjects M) → IsInOrder objects → fields_to n (with_at number object objects) + option_map_or (λ old. handles_to n (fields_of old)) (object_at number objects) 0 ≡ fields_to n objects + handles_to n (fields_of object)
fields_to-with_at n number object objects o =
    let sums = sum_by-insert_entry (λ old. handles_to n (fields_of old)) nat_cmp_total objects number object (sorted_from_strictly_increasing (numbers objects) o) in
    let there = ap (λ (found : Option (Plain _)). unwrap_or (option_map (λ old. handles_to n (fields_of old)) found) 0) (lookup_same (is_at (nat_cmp number)) (nat_eq number) (is_at_eq number) objects) in
    omega (arith, sums, there, map_or (λ old. handles_to n (fields_of old)) (object_at number objects))
