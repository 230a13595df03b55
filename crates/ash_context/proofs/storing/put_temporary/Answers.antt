use Rattle.std.proofs.Common.{◌≡◌, ◌+◌, refl, ap, false, nat_lt, arith}
use Rattle.std.specs.Prelude.{Ok}
use Rattle.std.proofs.lemmas.Bool.Decides.{nat_tests}
use Rattle.ash_run_steps.specs.Guarded.{give}
use Rattle.ash_run_steps.specs.RunStates.{State, bare}
use Rattle.ash_context.specs.Positions.{control_of}
use Rattle.ash_context.proofs.Puts.{put_by, same_becomes}
use Rattle.ash_context.proofs.storing.put_temporary.Goals as goal

pub returns : goal.returns
returns g c =
    let old = c.args.state.now in
    let at = c.args.at in
    let to = c.args.to in
    let new = c.write_slot.new.state in
    let is_other : nat_lt to ((old.frames).frame).count ≡ false = grind (arith, nat_tests, c.requires.above) in
    record {
      put = λ s. put_by g.B.HostObject s.names to (at + 1) c.args.word (control_of at old.frames) (give tt) old new (Ok tt) false is_other refl
          (same_becomes g.B.HostObject s.names (tt {0}) old new (c.write_slot.ensures.same s.names) (ap (λ (x : State _). bare x.table) c.write_slot.ensures.written))
          (ap (λ (x : State _). control_of (at + 1) x.frames) c.write_slot.ensures.written);
    }
