use Rattle.std.proofs.Common.{◌∙◌, ◌++◌, ◌+◌, List, drop, map, flat_map, refl, sym, ap, subst, append_assoc}
use Rattle.std.specs.List.{AllZip}
use Rattle.ash_typed.specs.declared.tree.items.Function as function
use Rattle.ash_typed.specs.Modules.{Class, class_of, function_of}
use Rattle.ash_compile.specs.declared.layout.Layout.{Layout}
use Rattle.ash_compile.specs.EmittedFrames.{frame_of_method, methods_of, IsFrameCode}
use Rattle.ash_compile.proofs.Listings.{rest_here, rest_none, zip_grown}
use Rattle.ash_compile.proofs.builder.CodeBuilder.add_all_methods.Goals as goal

pub loop-class-init : goal.loop-class-init
loop-class-init c = (refl, λ xs are. (xs, are, refl))

pub loop-class-preserved : goal.loop-class-preserved
loop-class-preserved c =
    let l = c.loop-class in
    let item = c.class-item.result in
    let classes = c.args.classes.now in
    let rest = map class_of (drop (l.class-index + 1) classes) in
    let here = rest_here class_of classes l.class-index item c.loop-class-test.true c.class-item.is in (
      c.in_ok-add_methods.ensures.layout ∙ l.invariant.0,
      λ xs are.
          let before = l.invariant.1 xs are in
          let more = subst (λ (places : Layout). AllZip (IsFrameCode places) before.0 l.codes.items
          → AllZip (IsFrameCode places)
          (before.0 ++ map (frame_of_method (class_of item)) (map function_of c.deref.result.now))
          c.add_methods.new.codes.items) l.invariant.0
          (c.in_ok-add_methods.ensures.added (class_of item) before.0) before.1 in (
            before.0 ++ methods_of (class_of item),
            subst (λ (fs : List function.Function). AllZip (IsFrameCode c.args.self.now.layout)
                (before.0 ++ map (frame_of_method (class_of item)) (map function_of fs)) c.add_methods.new.codes.items)
                c.deref.ensures.value more,
            append_assoc before.0 (methods_of (class_of item)) (flat_map methods_of rest)
                ∙ ap (λ (ks : List Class). before.0 ++ flat_map methods_of ks) (sym here) ∙ before.2,
          ),
    )

pub returns : goal.returns
returns c =
    let l = c.loop-class in
    record {
      added = λ xs are.
          let before = l.invariant.1 xs are in
          zip_grown (IsFrameCode c.args.self.now.layout) before.0 _ l.codes.items before.1
          (ap (λ (ks : List Class). before.0 ++ flat_map methods_of ks)
          (sym (rest_none class_of c.args.classes.now l.class-index c.loop-class-test.false))
          ∙ before.2);
      layout = l.invariant.0;
    }
