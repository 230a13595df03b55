use Rattle.std.proofs.Common.{◌≡◌, ◌+◌, refl, true, nat_lt, arith, ap}
use Rattle.std.proofs.lemmas.Bool.Decides.{nat_tests}
use Rattle.ash_run_steps.specs.GuardedSteps.{write_local}
use Rattle.ash_run_steps.specs.Stacks.{Frames}
use Rattle.ash_context.specs.Positions.{control_of}
use Rattle.ash_context.proofs.Puts.{put_by, if_ok}
use Rattle.ash_context.proofs.storing.put_local.Goals as goal

pub returns : goal.returns
returns g c =
    let old = c.args.state.now in
    let at = c.args.at in
    let to = c.args.to in
    let step = c.write_local-step in
    let new = step.new.self in
    let is_local : nat_lt to ((old.frames).frame).count ≡ true = grind (arith, nat_tests, c.requires.slot) in
    record {
      put = λ s. rw c.going_on.ensures.going_on (put_by g.B.HostObject s.names to (at + 1) c.args.word (control_of at old.frames) (write_local to c.args.word) old new step.result true is_local refl (step.ensures.written s.names)
          (if_ok step.result (λ same. ap (λ (f : Frames). control_of (at + 1) f) same) step.ensures.frames));
    }
