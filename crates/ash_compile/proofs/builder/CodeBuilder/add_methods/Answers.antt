use Rattle.std.proofs.Common.{◌∙◌, ◌++◌, ◌+◌, List, drop, map, refl, sym, ap, subst}
use Rattle.ash_typed.specs.Modules.{function_of}
use Rattle.ash_compile.specs.declared.layout.Layout.{Layout}
use Rattle.ash_compile.specs.EmittedFrames.{FrameSource, frame_of_method, IsFrameCode}
use Rattle.ash_compile.proofs.Listings.{rest_here, rest_none, added, zip_grown}
use Rattle.ash_compile.proofs.builder.CodeBuilder.add_methods.Goals as goal

pub loop-method-init : goal.loop-method-init
loop-method-init c = (refl, λ class xs are. (xs, are, refl))

pub loop-method-preserved : goal.loop-method-preserved
loop-method-preserved c =
    let l = c.loop-method in
    let item = c.method-item.result in
    let methods = c.args.methods.now in (
      c.in_ok-code.ensures.layout ∙ l.invariant.0,
      λ class xs are.
          let before = l.invariant.1 class xs are in
          let rest = map (frame_of_method class) (map function_of (drop (l.method-index + 1) methods)) in
          let here = ap (map (frame_of_method class))
          (rest_here function_of methods l.method-index item c.loop-method-test.true c.method-item.is) in
          added (IsFrameCode c.args.self.now.layout) before.0 rest _ l.codes.items c.push.new.self.items
          (frame_of_method class (function_of item)) c.in_ok-code.code before.1
          (subst (λ (places : Layout). IsFrameCode places (frame_of_method class (function_of item)) c.in_ok-code.code)
          l.invariant.0 (c.in_ok-code.ensures.method class))
          c.in_ok-push.ensures.items
          (ap (λ (zs : List FrameSource). before.0 ++ zs) (sym here) ∙ before.2),
    )

pub returns : goal.returns
returns c =
    let l = c.loop-method in
    record {
      added = λ class xs are.
          let before = l.invariant.1 class xs are in
          zip_grown (IsFrameCode c.args.self.now.layout) before.0 _ l.codes.items before.1
          (ap (λ (zs : List FrameSource). before.0 ++ zs)
          (sym (ap (map (frame_of_method class))
          (rest_none function_of c.args.methods.now l.method-index c.loop-method-test.false)))
          ∙ before.2);
      layout = l.invariant.0;
    }
