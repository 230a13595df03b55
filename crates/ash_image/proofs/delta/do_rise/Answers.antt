use Rattle.std.proofs.Common.{◌≡◌, ℕ, ◌+◌, ◌<◌, Bool, true, ◌&&◌, ltb, List, ◌∷◌, length, get_or, drop, sym, ◌∙◌, ap, refl, add-one, arith}
use Rattle.std.proofs.Math.Seq.{drop-cons}
use Rattle.std.proofs.lemmas.Bool.{lt-ltb}
use Rattle.ash_image.specs.Image.{do_rise}
use Rattle.ash_image.proofs.delta.do_rise.Goals as goal

-- a number above the last one is passed over
one_more : (last : ℕ) (rest : List ℕ) (i d : ℕ) (all : Bool) → i < length rest → last < get_or rest i d
    → do_rise (last ∷ drop i rest) ≡ all → do_rise (get_or rest i d ∷ drop (i + 1) rest) ≡ all
one_more last rest i d all within above e =
    let next = get_or rest i d in
    let there : drop i rest ≡ next ∷ drop (i + 1) rest = drop-cons rest i d within ∙ rw add-one refl in
    let as_one : do_rise (last ∷ next ∷ drop (i + 1) rest) ≡ all =
    sym (ap (λ (more : List ℕ). do_rise (last ∷ more)) there) ∙ e in
    let less : ltb last next ≡ true = lt-ltb _ _ above in
    sym (ap (λ (b : Bool). b && do_rise (next ∷ drop (i + 1) rest)) less) ∙ as_one

pub loop-number-preserved : goal.loop-number-preserved
loop-number-preserved c =
    one_more c.loop-number.last c.args.numbers.now c.loop-number.number-index _ _ c.loop-number-test.true (omega arith)
    c.loop-number.invariant
