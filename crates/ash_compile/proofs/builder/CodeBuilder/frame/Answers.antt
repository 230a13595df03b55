use Rattle.std.proofs.Common.{◌≡◌, ◌+◌, ◌∙◌, map, subst, sym}
use Rattle.ash_typed.specs.BodyViews.{value_of, body_of}
use Rattle.ash_code.specs.declared.instruction.Instruction.{Instruction}
use Rattle.ash_compile.specs.declared.layout.Layout.{Layout}
use Rattle.ash_compile.specs.Emission.{Puts, end_of}
use Rattle.ash_compile.specs.EmittedFrames.{IsFrameCode}
use Rattle.ash_compile.specs.ValidCode.{IsEnd, MayStand, IsValidCode}
use Rattle.ash_compile.proofs.Emitted.{if_ok}
use Rattle.ash_compile.proofs.EmittedFrame.{WritesFrame, frame_code}
use Rattle.ash_compile.proofs.ValidJumps.{frame_ends, end_stands, if_both}
use Rattle.ash_compile.proofs.builder.CodeBuilder.frame.Goals as goal

pub finish-requires : goal.finish-requires
finish-requires c =
    let here = c.body.new.self in
    record {
      ends = subst IsEnd (sym c.function_end.ensures.end) (frame_ends c.args.constructs);
      stands = subst (λ (j : Instruction). MayStand here.layout (end_of here + 1) (end_of here) j)
          (sym c.function_end.ensures.end)
          (end_stands here.layout (end_of here + 1) (end_of here) c.args.constructs);
    }

pub returns : goal.returns
returns c =
    let begun = c.clear.new.self in
    let fields = map value_of c.args.fields.now in
    let stmts = body_of c.args.body.now in
    let same : (c.body.new.self).layout ≡ begun.layout
    = ((c.in_ok-body.ensures.emits).keeps).layout ∙ ((c.in_ok-fields.ensures.emits).keeps).layout
    ∙ (c.in_ok-tick.ensures.puts).layout in
    record {
      code = if_both c.finish.result c.finish.ensures.finished c.finish.ensures.valid
          (λ f finished valid x line are body many constructs.
          let last = finished.0 in
          let is = finished.2 in
          let w : WritesFrame begun c.args.line c.args.parameters fields stmts c.args.constructs last = record {
            empty = c.clear.ensures.empty;
            ticked = c.tick.new.self;
            initialized = c.fields.new.self;
            done = c.body.new.self;
            ticks = c.in_ok-tick.ensures.puts;
            fields_emitted = c.in_ok-fields.ensures.emits;
            body_emitted = c.in_ok-body.ensures.emits;
            ends = subst (λ (j : Instruction). Puts c.body.new.self last c.args.parameters j)
                c.function_end.ensures.end
                finished.1;
          } in
          subst (λ (l : Layout). IsFrameCode l x f) c.clear.ensures.layout
          (frame_code begun last c.args.line c.args.parameters fields stmts c.args.constructs f x w
          (is.line ∙ c.in_ok-entry.ensures.line) is.parameters is.instructions is.slots
          (subst (λ (l : Layout). IsValidCode l f) same valid) line are body many constructs));
      layout = if_ok c.finish.result (λ f level. level ∙ same ∙ c.clear.ensures.layout) c.finish.ensures.layout;
    }
