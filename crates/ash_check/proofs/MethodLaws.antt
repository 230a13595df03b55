-- Lists of types that are the same, and places of methods after those so far.
use Rattle.std.proofs.Common.{◌≡◌, ◌<◌, ℕ, List, [], ◌∷◌, ◌++◌, false, Option, Some, None, length, drop, refl, sym, ap}
use Rattle.std.proofs.Common.{append_assoc, arith}
use Rattle.std.proofs.lemmas.List.{length-drop}
use Rattle.ash_type_rules.specs.declared.types.Ty.{Ty}
use Rattle.ash_type_rules.specs.Implementations.{are_same, with_first}

-- types

nothing_left : (ts us : List Ty) → 0 < length ts → length us ≡ 0 → are_same ts us ≡ false
nothing_left [] us h k = absurd (omega (arith, h))
nothing_left (t ∷ ts) [] h k = refl
nothing_left (t ∷ ts) (u ∷ us) h k = absurd (omega (arith, k))

-- none is left for the type of this place
pub too_few : (ts us : List Ty) (i : ℕ) → i < length ts → length us ≡ 0 → are_same (drop i ts) us ≡ false
too_few ts us i h k = nothing_left (drop i ts) us (omega (arith, h, length-drop i ts)) k

-- places

abbrev pub prepended : List ℕ → Option (List ℕ) → Option (List ℕ)
prepended before None = None
prepended before (Some places) = Some (before ++ places)

pub none_prepended : (r : Option (List ℕ)) → prepended [] r ≡ r
none_prepended None = refl
none_prepended (Some places) = refl

pub one_prepended : (before : List ℕ) (place : ℕ) (r : Option (List ℕ)) → prepended before (with_first (Some place) r) ≡ prepended (before ++ place ∷ []) r
one_prepended before place None = refl
one_prepended before place (Some places) = ap Some (sym (append_assoc before (place ∷ []) places))
