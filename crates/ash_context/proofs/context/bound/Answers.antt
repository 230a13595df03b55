use Rattle.std.proofs.Common.{◌<◌, ◌^◌, subst, sym, ℕ, arith}
use Rattle.ash_context.proofs.Lengths.{longest_short, few}
use Rattle.ash_context.proofs.context.bound.Goals as goal

pub overflow_mul-result-2 : goal.overflow_mul-result-2
overflow_mul-result-2 c =
    let short : c.longest.result < 2 ^ 63
    = subst (λ (n : ℕ). n < 2 ^ 63) (sym c.longest.ensures.longest) (longest_short c.args.code.now) in
    let small = few c.args.budget c.longest.result c.ranges.budget.fits short in
    omega (arith, small)
