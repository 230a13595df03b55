use Rattle.std.proofs.Common.{◌≡◌, subst}
use Rattle.std.specs.Prelude.{Result, OnOk}
use Rattle.ash_host.specs.declared.word.Word.{Word}
use Rattle.ash_run_steps.specs.declared.stop.Stop.{Stop}
use Rattle.ash_run_steps.specs.Becoming.{Comes}
use Rattle.ash_code.specs.Controls.{Control}
use Rattle.ash_code.specs.Performing.{put}
use Rattle.ash_context.specs.Positions.{control_of, came_to}
use Rattle.ash_context.proofs.Puts.{after_ok, after_err}
use Rattle.ash_context.proofs.storing.store_given.Goals as goal

pub returns-in-Ok : goal.returns-in-Ok
returns-in-Ok g c =
    let mid = c.args.state.now in
    let new = c.store.new.state in
    let word = c.in-Ok.word in
    let last = came_to c.store.result new.frames in
    record {
      put = λ s run at start comes same.
          let is : control_of c.args.at mid.frames ≡ at = subst (λ (r : Result Word Stop). OnOk r (control_of c.args.at mid.frames ≡ at)) c.in-Ok.is same in
          after_ok g.B.HostObject s.names run (put c.args.to at) start mid new c.args.step word last c.in-Ok.is comes
          (subst (λ (k : Control). Comes g.B.HostObject s.names (put c.args.to k word) mid last new) is (c.store.ensures.put s));
    }

pub returns-in-Err : goal.returns-in-Err
returns-in-Err g c =
    record {
      put = λ s run at start comes same.
          after_err g.B.HostObject s.names run (put c.args.to at) start c.args.state.now c.args.step c.in-Err.stop c.in-Err.is comes;
    }
