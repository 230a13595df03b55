use Rattle.std.proofs.Common.{subst}
use Rattle.ash_host.specs.declared.word.Word.{Word}
use Rattle.ash_host.specs.declared.word.Word.TheVariants as words
use Rattle.ash_meaning.specs.ObjectSteps.{object_of}
use Rattle.ash_run_steps.specs.Becoming.{Comes}
use Rattle.ash_run_steps.specs.Guarded.{plain}
use Rattle.ash_code.specs.Controls.{word_at}
use Rattle.ash_code.specs.Performing.{call}
use Rattle.ash_context.specs.Positions.{control_of, came_to}
use Rattle.ash_context.proofs.Puts.{after_ok, after_err}
use Rattle.ash_context.proofs.calling.call_method.Goals as goal

pub returns-in-Ok : goal.returns-in-Ok
returns-in-Ok g c =
    let old = c.args.state.now in
    let new = c.call_with.new.state in
    let at = control_of c.args.at old.frames in
    let r = c.object_of.result in
    record {
      does = λ s is. after_ok g.B.HostObject s.names (plain (object_of (word_at c.args.object at))) (λ number. call s c.args.function (words.Object number) c.args.first at) old old new r c.in-Ok.number (came_to c.call_with.result new.frames) c.in-Ok.is
          (subst (λ (w : Word). Comes g.B.HostObject s.names (plain (object_of w)) old r old) c.word_at.ensures.word (c.object_of.ensures.found s.names)) (c.call_with.ensures.called s is);
    }

pub returns-in-Err : goal.returns-in-Err
returns-in-Err g c =
    let old = c.args.state.now in
    let at = control_of c.args.at old.frames in
    let r = c.object_of.result in
    record {
      does = λ s is. after_err g.B.HostObject s.names (plain (object_of (word_at c.args.object at))) (λ number. call s c.args.function (words.Object number) c.args.first at) old old r c.in-Err.stop c.in-Err.is
          (subst (λ (w : Word). Comes g.B.HostObject s.names (plain (object_of w)) old r old) c.word_at.ensures.word (c.object_of.ensures.found s.names));
    }
