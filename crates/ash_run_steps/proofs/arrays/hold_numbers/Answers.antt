use Rattle.std.proofs.Common.{◌∷◌, [], ◌∙◌, get_or, take, arith}
use Rattle.std.proofs.lemmas.List.{take_all, take_more}
use Rattle.std.proofs.lemmas.List.Sums.{count_by-le-length}
use Rattle.std.specs.Prelude.{nat_eq}
use Rattle.ash_run_steps.proofs.Bare.{same_lives}
use Rattle.ash_run_steps.proofs.Roots.{more_none, more_one, more_then, part_of}
use Rattle.ash_run_steps.proofs.arrays.hold_numbers.Goals as goal

pub loop-number-init : goal.loop-number-init
loop-number-init g c = more_none c.args.table.now

pub hold-requires-clause-lives : goal.hold-requires-clause-lives
hold-requires-clause-lives g c =
    let k = c.loop-number.number-index in
    same_lives c.args.table.now c.loop-number.table c.loop-number.invariant.same (get_or c.args.numbers.now k 0) ∙ c.requires.alive k 0 c.loop-number-test.true

pub hold-requires-clause-few : goal.hold-requires-clause-few
hold-requires-clause-few g c =
    let k = c.loop-number.number-index in
    let ns = c.args.numbers.now in
    let n = get_or ns k 0 in
    omega (arith, c.loop-number.invariant.counts n, part_of n ns k, count_by-le-length (nat_eq n) ns, c.requires.few n)

pub loop-number-preserved : goal.loop-number-preserved
loop-number-preserved g c =
    let k = c.loop-number.number-index in
    let ns = c.args.numbers.now in
    let n = get_or ns k 0 in
    let lives = same_lives c.args.table.now c.loop-number.table c.loop-number.invariant.same n ∙ c.requires.alive k 0 c.loop-number-test.true in
    rw (take_more ns k 0 c.loop-number-test.true, c.hold.ensures.held)
    (more_then (take k ns) (n ∷ []) c.args.table.now c.loop-number.table _ c.loop-number.invariant (more_one n c.loop-number.table lives))

pub returns : goal.returns
returns g c = record { held = rw (take_all c.loop-number.number-index c.args.numbers.now c.loop-number-test.false) at c.loop-number.invariant }
