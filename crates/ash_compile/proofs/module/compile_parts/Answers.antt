use Rattle.std.proofs.Common.{◌∙◌, map, sym, ap, subst}
use Rattle.std.specs.List.{AllZip}
use Rattle.ash_typed.specs.Modules.{class_of, variables_of, module_of}
use Rattle.ash_compile.specs.declared.layout.Layout.{Layout}
use Rattle.ash_compile.specs.EmittedFrames.{frames_of, IsFrameCode, IsInitCode}
use Rattle.ash_compile.proofs.module.compile_parts.Goals as goal

pub returns-clause-compiled : goal.returns-clause-compiled
returns-clause-compiled c =
    let m = module_of c.args.tree.now in
    let layout = c.in_ok-layout.ensures.layout in
    let begun = c.new-code.ensures.layout in (
      c.in_ok-layout.layout,
      record {
        layout = layout;
        functions = subst (λ (l : Layout). AllZip (IsFrameCode l) (frames_of m) c.in_ok-functions.functions.items)
            begun
            c.in_ok-functions.ensures.functions;
        init = subst (λ (l : Layout). IsInitCode l m c.in_ok-init.init) (c.in_ok-functions.ensures.layout ∙ begun)
            (c.in_ok-init.ensures.code m (sym (ap (map variables_of) c.deref-2.ensures.value)));
        classes = c.in_ok-classes.ensures.codes c.args.slot m layout (sym (ap (map class_of) c.deref.ensures.value));
        methods = c.in_ok-classes.ensures.there c.args.slot m layout (sym (ap (map class_of) c.deref.ensures.value));
      },
    )
