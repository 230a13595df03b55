-- The text of parameters, one after another.
use Rattle.std.proofs.Common.{◌≡◌, ◌<◌, ◌+◌, ℕ, suc, List, ◌++◌, ap, drop, length, get_or, arith, append_assoc}
use Rattle.std.proofs.Common.{append-nil, ◌≤◌}
use Rattle.std.proofs.lemmas.List.{drop_all}
use Rattle.std.specs.Prelude.{codes}
use Rattle.std.specs.List.{flat_map}
use Rattle.std.proofs.Math.Seq.{drop-cons}
use Rattle.std.proofs.lemmas.List.Concat.{flat_map-cons}
use Rattle.ash_tree.specs.declared.tree.types.Primitive.{Primitive}
use Rattle.ash_registrations.specs.Text.{primitive_text, more_parameters}

-- one more parameter is written
pub write_next : (t t1 t2 name whole : List ℕ) (rest : List Primitive) (i : ℕ) (d : Primitive) → i < length rest
    → t1 ≡ t ++ codes "," → t2 ≡ t1 ++ name → name ≡ primitive_text (get_or rest i d)
    → t ++ more_parameters (drop i rest) ≡ whole → t2 ++ more_parameters (drop (i + 1) rest) ≡ whole
unfolding more_parameters
write_next t t1 t2 name whole rest i d within first second is before =
    let next : i + 1 ≡ suc i = omega arith in
    let split = ap more (drop-cons rest i d within) in
    let cons =
    flat_map-cons (λ primitive. codes "," ++ primitive_text primitive) (get_or rest i d) (drop (suc i) rest) in
    let one = append_assoc t (codes ",") name in
    let two = append_assoc t (codes "," ++ name) (more (drop (suc i) rest)) in
    cc
  where
    more : List Primitive → List ℕ
    more r = flat_map (λ primitive. codes "," ++ primitive_text primitive) r

-- none is left
pub all_written : (t whole : List ℕ) (rest : List Primitive) (i : ℕ) → length rest ≤ i
    → t ++ more_parameters (drop i rest) ≡ whole → t ≡ whole
unfolding more_parameters
all_written t whole rest i done before =
    let none = drop_all i rest done in
    let empty = append-nil t in
    cc
