-- Reading items one after the other, as a loop does.
use Rattle.std.proofs.Common.{◌≡◌, ℕ, suc, ◌-◌, ◌+◌, ◌≤◌, ◌<◌, List, [], ◌∷◌, ◌++◌, Option, Some, None, refl, sym, ap}
use Rattle.std.proofs.Common.{◌∙◌, append_assoc, arith}
use Rattle.std.proofs.lemmas.List.{append-nil}
use Rattle.ash_image.specs.declared.fields.ReadError.{ReadError}
use Rattle.ash_image.specs.declared.fields.ReadError.TheVariants as reasons
use Rattle.ash_image.specs.Fields.{◌>>=◌, HasNoField, times_at}

-- what was read before, and what is still read
abbrev pub with_prefix : {A : Type 0} → List A → Option (List A × List ℕ) → Option (List A × List ℕ)
with_prefix prefix read = read >>= λ x. Some (prefix ++ x.0, x.1)

regroup : {A : Type 0} (prefix : List A) (item : A) (read : Option (List A × List ℕ))
    → with_prefix prefix (read >>= λ x. Some (item ∷ x.0, x.1)) ≡ with_prefix (prefix ++ item ∷ []) read
regroup {A} prefix item (Some x) = ap (λ (xs : List A). Some (xs, x.1)) (sym (append_assoc prefix (item ∷ []) x.0))
regroup prefix item None = refl

pub goes_on : {A : Type 0} (read : List ℕ → Option (A × List ℕ)) (prefix : List A) (count i : ℕ) (bytes : List ℕ)
    (item : A) (after : List ℕ) (total : Option (List A × List ℕ)) → i < count → read bytes ≡ Some (item, after)
    → with_prefix prefix (times_at read (count - i) bytes) ≡ total
    → with_prefix (prefix ++ item ∷ []) (times_at read (count - (i + 1)) after) ≡ total
unfolding times_at
goes_on {A} read prefix count i bytes item after total lt h so_far =
    let k : count - i ≡ suc (count - (i + 1)) = omega arith in
    let one : with_prefix prefix (times_at read (count - i) bytes)
    ≡ with_prefix (prefix ++ item ∷ []) (times_at read (count - (i + 1)) after) =
    rw (k, h) (regroup prefix item (times_at read (count - (i + 1)) after)) in
    sym one ∙ so_far

pub ends : {A : Type 0} (read : List ℕ → Option (A × List ℕ)) (reason : ReadError) (prefix : List A) (count i : ℕ)
    (bytes : List ℕ) (total : Option (List A × List ℕ)) → i < count → HasNoField reason (read bytes)
    → with_prefix prefix (times_at read (count - i) bytes) ≡ total → HasNoField reason total
unfolding times_at
ends read reasons.NoMemory prefix count i bytes total lt h so_far = tt
ends read reasons.Damaged prefix count i bytes total lt h so_far =
    let k : count - i ≡ suc (count - (i + 1)) = omega arith in
    let one : with_prefix prefix (times_at read (count - i) bytes) ≡ None = rw (k, h) refl in
    sym so_far ∙ one

pub is_done : {A : Type 0} (read : List ℕ → Option (A × List ℕ)) (prefix : List A) (count i : ℕ) (bytes : List ℕ)
    (total : Option (List A × List ℕ)) → count ≤ i → with_prefix prefix (times_at read (count - i) bytes) ≡ total
    → total ≡ Some (prefix, bytes)
unfolding times_at
is_done {A} read prefix count i bytes total le so_far =
    let k : count - i ≡ 0 = omega arith in
    let one : with_prefix prefix (times_at read (count - i) bytes) ≡ Some (prefix, bytes) =
    rw k (ap (λ (xs : List A). Some (xs, bytes)) (append-nil prefix)) in
    sym so_far ∙ one
