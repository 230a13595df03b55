use Rattle.std.proofs.Common.{subst}
use Rattle.ash_host.specs.declared.word.Word.{Word}
use Rattle.ash_host.specs.declared.word.Word.TheVariants as words
use Rattle.ash_meaning.specs.ObjectSteps.{object_of}
use Rattle.ash_run_steps.specs.Becoming.{Comes}
use Rattle.ash_run_steps.specs.Guarded.{plain, ◌>>=◌}
use Rattle.ash_code.specs.Controls.{word_at}
use Rattle.ash_code.specs.Performing.{call, own_name, classes_of}
use Rattle.ash_code.specs.Steps.{found, method_of}
use Rattle.ash_context.specs.Positions.{control_of, came_to}
use Rattle.ash_context.proofs.Puts.{after_ok, after_err}
use Rattle.ash_context.proofs.casting.call_interface.Goals as goal

pub returns-in-Ok : goal.returns-in-Ok
returns-in-Ok g c =
    let a = c.args in
    let old = a.state.now in
    let at = control_of a.at old.frames in
    let new = c.call_through.new.state in
    let r = c.object_of.result in
    record {
      does = λ s same. after_ok g.B.HostObject s.names (plain (object_of (word_at a.object at))) (λ number. found (method_of (own_name s) (classes_of s) a.interface a.method number) >>= (λ function. call s function (words.Object number) a.first at)) old old new r c.in-Ok.number (came_to c.call_through.result new.frames) c.in-Ok.is
          (subst (λ (w : Word). Comes g.B.HostObject s.names (plain (object_of w)) old r old) c.word_at.ensures.word (c.object_of.ensures.found s.names)) (c.call_through.ensures.called s same);
    }

pub returns-in-Err : goal.returns-in-Err
returns-in-Err g c =
    let a = c.args in
    let old = a.state.now in
    let at = control_of a.at old.frames in
    let r = c.object_of.result in
    record {
      does = λ s same. after_err g.B.HostObject s.names (plain (object_of (word_at a.object at))) (λ number. found (method_of (own_name s) (classes_of s) a.interface a.method number) >>= (λ function. call s function (words.Object number) a.first at)) old old r c.in-Err.stop c.in-Err.is
          (subst (λ (w : Word). Comes g.B.HostObject s.names (plain (object_of w)) old r old) c.word_at.ensures.word (c.object_of.ensures.found s.names));
    }
