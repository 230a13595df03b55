-- The last variable of a name in a row that grows at its end.
use Rattle.std.proofs.Common.{◌≡◌, ℕ, ◌+◌, ◌-◌, suc, cond, List, [], ◌∷◌, ◌++◌, length, Option, Some, None}
use Rattle.std.proofs.Common.{ap, ◌∙◌, ◌<◌, ◌≤◌, map, take, get_or, arith}
use Rattle.std.specs.Str.{bytes_eq}
use Rattle.std.proofs.lemmas.List.{map_more}
use Rattle.std.proofs.Math.Seq.{length-take-le}
use Rattle.std.proofs.Math.ListN.{length-map}
use Rattle.ash_type_rules.specs.declared.types.Ty.{Ty}
use Rattle.ash_type_rules.specs.Environment.{Declared, last_named}
use Rattle.ash_check_names.specs.declared.signatures.Binding as code
use Rattle.ash_check_names.specs.EnvironmentViews.{binding_of}

-- the one at the end, where it has the name, else the last of those before it
pushed : (name : List ℕ) (i : ℕ) (found : Option (ℕ × Ty)) (vs : List Declared) (v : Declared) → last_named name i found (vs ++ v ∷ []) ≡ cond (bytes_eq name v.name) (Some (i + length vs, v.of)) (last_named name i found vs)
pushed name i found [] v = let e : i ≡ i + 0 = omega arith in ap (λ k. cond (bytes_eq name v.name) (Some (k, v.of)) found) e
pushed name i found (x ∷ vs) v =
    let next = cond (bytes_eq name x.name) (Some (i, x.of)) found in
    let e : (i + 1) + length vs ≡ i + suc (length vs) = omega arith in
    pushed name (i + 1) next vs v ∙ ap (λ k. cond (bytes_eq name v.name) (Some (k, v.of)) (last_named name (i + 1) next vs)) e

-- of the variables up to a place
last_of_more : (name : List ℕ) (all : List code.Binding) (i : ℕ) (d : code.Binding) → i < length all → last_named name 0 None (map binding_of (take (i + 1) all)) ≡ cond (bytes_eq name (get_or all i d).name.now) (Some (i, (get_or all i d).of)) (last_named name 0 None (map binding_of (take i all)))
last_of_more name all i d h =
    let before = map binding_of (take i all) in
    let v = get_or all i d in
    let count : length before ≡ i = length-map (take i all) binding_of ∙ length-take-le i all (omega arith) in
    let e : 0 + length before ≡ i = omega (arith, count) in
    ap (last_named name 0 None) (map_more binding_of all i d h) ∙ pushed name 0 None before (binding_of v) ∙ ap (λ k. cond (bytes_eq name v.name.now) (Some (k, v.of)) (last_named name 0 None before)) e

-- of the variables up to a place, the one right before it, where it has the name, else the last of those before that
-- one
pub nearest : (name : List ℕ) (all : List code.Binding) (i : ℕ) (d : code.Binding) → 0 < i → i ≤ length all → last_named name 0 None (map binding_of (take i all)) ≡ cond (bytes_eq name (get_or all (i - 1) d).name.now) (Some (i - 1, (get_or all (i - 1) d).of)) (last_named name 0 None (map binding_of (take (i - 1) all)))
nearest name all i d above within =
    let e : i ≡ (i - 1) + 1 = omega arith in
    ap (λ n. last_named name 0 None (map binding_of (take n all))) e ∙ last_of_more name all (i - 1) d (omega arith)
