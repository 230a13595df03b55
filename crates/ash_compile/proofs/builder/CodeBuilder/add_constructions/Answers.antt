use Rattle.std.proofs.Common.{◌∙◌, ◌++◌, ◌+◌, List, drop, map, refl, sym, ap, subst}
use Rattle.ash_typed.specs.Modules.{class_of}
use Rattle.ash_compile.specs.declared.layout.Layout.{Layout}
use Rattle.ash_compile.specs.EmittedFrames.{FrameSource, frame_of_construction, IsFrameCode}
use Rattle.ash_compile.proofs.Listings.{rest_here, rest_none, added, zip_grown}
use Rattle.ash_compile.proofs.builder.CodeBuilder.add_constructions.Goals as goal

pub loop-class-init : goal.loop-class-init
loop-class-init c = (refl, λ xs are. (xs, are, refl))

pub loop-class-preserved : goal.loop-class-preserved
loop-class-preserved c =
    let l = c.loop-class in
    let item = c.class-item.result in
    let classes = c.args.classes.now in
    let rest = map frame_of_construction (map class_of (drop (l.class-index + 1) classes)) in
    let here = ap (map frame_of_construction)
    (rest_here class_of classes l.class-index item c.loop-class-test.true c.class-item.is) in (
      c.in_ok-code.ensures.layout ∙ l.invariant.0,
      λ xs are.
          let before = l.invariant.1 xs are in
          added (IsFrameCode c.args.self.now.layout) before.0 rest _ l.codes.items c.push.new.self.items
          (frame_of_construction (class_of item)) c.in_ok-code.code before.1
          (subst (λ (places : Layout). IsFrameCode places (frame_of_construction (class_of item)) c.in_ok-code.code)
          l.invariant.0
          c.in_ok-code.ensures.construction)
          c.in_ok-push.ensures.items
          (ap (λ (zs : List FrameSource). before.0 ++ zs) (sym here) ∙ before.2),
    )

pub returns : goal.returns
returns c =
    let l = c.loop-class in
    record {
      added = λ xs are.
          let before = l.invariant.1 xs are in
          zip_grown (IsFrameCode c.args.self.now.layout) before.0 _ l.codes.items before.1
          (ap (λ (zs : List FrameSource). before.0 ++ zs)
          (sym (ap (map frame_of_construction)
          (rest_none class_of c.args.classes.now l.class-index c.loop-class-test.false)))
          ∙ before.2);
      layout = l.invariant.0;
    }
