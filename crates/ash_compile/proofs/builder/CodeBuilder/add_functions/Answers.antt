use Rattle.std.proofs.Common.{◌∙◌, ◌++◌, ◌+◌, List, drop, map, refl, sym, ap, subst}
use Rattle.ash_typed.specs.Modules.{function_of}
use Rattle.ash_compile.specs.declared.layout.Layout.{Layout}
use Rattle.ash_compile.specs.EmittedFrames.{FrameSource, frame_of_function, IsFrameCode}
use Rattle.ash_compile.proofs.Listings.{rest_here, rest_none, added, zip_grown}
use Rattle.ash_compile.proofs.builder.CodeBuilder.add_functions.Goals as goal

pub loop-function-init : goal.loop-function-init
loop-function-init c = (refl, λ xs are. (xs, are, refl))

pub loop-function-preserved : goal.loop-function-preserved
loop-function-preserved c =
    let l = c.loop-function in
    let item = c.function-item.result in
    let functions = c.args.functions.now in
    let rest = map frame_of_function (map function_of (drop (l.function-index + 1) functions)) in
    let here = ap (map frame_of_function)
    (rest_here function_of functions l.function-index item c.loop-function-test.true c.function-item.is) in (
      c.in_ok-code.ensures.layout ∙ l.invariant.0,
      λ xs are.
          let before = l.invariant.1 xs are in
          added (IsFrameCode c.args.self.now.layout) before.0 rest _ l.codes.items c.push.new.self.items
          (frame_of_function (function_of item)) c.in_ok-code.code before.1
          (subst (λ (places : Layout). IsFrameCode places (frame_of_function (function_of item)) c.in_ok-code.code)
          l.invariant.0
          c.in_ok-code.ensures.function)
          c.in_ok-push.ensures.items
          (ap (λ (zs : List FrameSource). before.0 ++ zs) (sym here) ∙ before.2),
    )

pub returns : goal.returns
returns c =
    let l = c.loop-function in
    record {
      added = λ xs are.
          let before = l.invariant.1 xs are in
          zip_grown (IsFrameCode c.args.self.now.layout) before.0 _ l.codes.items before.1
          (ap (λ (zs : List FrameSource). before.0 ++ zs)
          (sym (ap (map frame_of_function)
          (rest_none function_of c.args.functions.now l.function-index c.loop-function-test.false)))
          ∙ before.2);
      layout = l.invariant.0;
    }
