use Rattle.std.proofs.Common.{◌≡◌, ◌∙◌, List, ap, sym}
use Rattle.std.specs.Prelude.{Option, Some, None, slice_get}
use Rattle.std.specs.Option.{option_map_or}
use Rattle.ash_run_steps.specs.Guarded.{unsound}
use Rattle.ash_code.specs.declared.code.ClassCode.{ClassCode}
use Rattle.ash_code.specs.declared.code.CodeParts.{CodeParts}
use Rattle.ash_code.specs.declared.instruction.Instruction.TheVariants as i
use Rattle.ash_code.specs.Performing.{Next, construct, perform}
use Rattle.ash_context.specs.Positions.{control_of, came_to}
use Rattle.ash_context.proofs.Puts.{comes_by, unsound_by}
use Rattle.ash_context.proofs.constructing.construct.Goals as goal

pub returns-in-Some : goal.returns-in-Some
returns-in-Some g c =
    let a = c.args in
    let old = a.state.now in
    let at = control_of a.at old.frames in
    let new = c.construct_of.new.state in
    let class = c.in-Some.class.now in
    let is : Some class ≡ slice_get (a.code.now.classes).items a.class
    = c.in-Some.ensures.class ∙ ap (λ (classes : List ClassCode). slice_get classes a.class) c.deref.ensures.value in
    record {
      does = λ s same. comes_by g.B.HostObject s.names (perform s (i.Construct a.class a.first) at) (construct s a.first at class) old new (came_to c.construct_of.result new.frames)
          (ap (λ (code : CodeParts). option_map_or (construct s a.first at) (slice_get (code.classes).items a.class) (unsound {A = Next})) same
          ∙ ap (λ (o : Option ClassCode). option_map_or (construct s a.first at) o (unsound {A = Next})) (sym is))
          (c.construct_of.ensures.constructs s same);
    }

pub returns-in-None : goal.returns-in-None
returns-in-None g c =
    let a = c.args in
    let old = a.state.now in
    let at = control_of a.at old.frames in
    let is : None ≡ slice_get (a.code.now.classes).items a.class
    = c.in-None.ensures.class ∙ ap (λ (classes : List ClassCode). slice_get classes a.class) c.deref.ensures.value in
    record {
      does = λ s same. unsound_by g.B.HostObject s.names (perform s (i.Construct a.class a.first) at) old
          (ap (λ (code : CodeParts). option_map_or (construct s a.first at) (slice_get (code.classes).items a.class) (unsound {A = Next})) same
          ∙ ap (λ (o : Option ClassCode). option_map_or (construct s a.first at) o (unsound {A = Next})) (sym is));
    }
