use Rattle.std.proofs.Common.{sym, subst}
use Rattle.ash_host.specs.declared.word.Word.TheVariants as words
use Rattle.ash_meaning.specs.Frames as frames
use Rattle.ash_run_steps.specs.Becoming.{Comes}
use Rattle.ash_run_steps.specs.Guarded.{plain, ◌>>◌}
use Rattle.ash_run_steps.specs.MakingSteps.{make_script}
use Rattle.ash_run_steps.specs.Stacks.{Frames}
use Rattle.ash_code.specs.declared.code.CodeParts.{CodeParts}
use Rattle.ash_code.specs.Performing.{enter_at, own_name}
use Rattle.ash_context.specs.Positions.{control_of, came_to}
use Rattle.ash_context.proofs.Puts.{after_ok, after_err}
use Rattle.ash_context.proofs.constructing.construct_of.Goals as goal

pub returns-in-Ok : goal.returns-in-Ok
returns-in-Ok g c =
    let a = c.args in
    let old = a.state.now in
    let at = control_of a.at old.frames in
    let class = a.class.now in
    let made = c.new_object in
    let mid = made.new.state in
    let new = c.enter_at.new.state in
    let last = came_to c.enter_at.result new.frames in
    record {
      constructs = λ s same. after_ok g.B.HostObject s.names (plain frames.demand_frame >> make_script (own_name s) class.place (class.fields).items) (λ number. enter_at s class.construction (words.Object number) a.first at) old mid new made.result c.in-Ok.number last c.in-Ok.is
          (subst (λ (code : CodeParts). Comes g.B.HostObject s.names (plain frames.demand_frame >> make_script ((s.names).modules code.module) class.place (class.fields).items) old made.result mid) (sym same) (made.ensures.made s.names))
          (subst (λ (f : Frames). Comes g.B.HostObject s.names (enter_at s class.construction (words.Object c.in-Ok.number) a.first (control_of a.at f)) mid last new) made.ensures.frames (c.enter_at.ensures.entered s same));
    }

pub returns-in-Err : goal.returns-in-Err
returns-in-Err g c =
    let a = c.args in
    let old = a.state.now in
    let at = control_of a.at old.frames in
    let class = a.class.now in
    let made = c.new_object in
    let mid = made.new.state in
    record {
      constructs = λ s same. after_err g.B.HostObject s.names (plain frames.demand_frame >> make_script (own_name s) class.place (class.fields).items) (λ number. enter_at s class.construction (words.Object number) a.first at) old mid made.result c.in-Err.stop c.in-Err.is
          (subst (λ (code : CodeParts). Comes g.B.HostObject s.names (plain frames.demand_frame >> make_script ((s.names).modules code.module) class.place (class.fields).items) old made.result mid) (sym same) (made.ensures.made s.names));
    }
