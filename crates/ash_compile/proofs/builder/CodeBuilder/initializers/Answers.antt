use Rattle.std.proofs.Common.{List, refl, sym, subst}
use Rattle.ash_typed.specs.Modules.{Variables}
use Rattle.ash_compile.specs.declared.layout.Layout.{Layout}
use Rattle.ash_compile.specs.EmittedParts.{EmitsDeclarations}
use Rattle.ash_compile.specs.EmittedFrames.{IsInitCode}
use Rattle.ash_compile.specs.ValidCode.{IsValidCode}
use Rattle.ash_compile.proofs.EmittedInit.{init_code}
use Rattle.ash_compile.proofs.ValidJumps.{if_both}
use Rattle.ash_compile.proofs.builder.CodeBuilder.initializers.Goals as goal

pub finish-requires : goal.finish-requires
finish-requires c = record { ends = record { leads = refl; ends = refl }; stands = (refl, refl) }

pub returns : goal.returns
returns c = record {
  code = if_both c.finish.result c.finish.ensures.finished c.finish.ensures.valid
      (λ f finished valid m globals.
      let emits = subst (λ (ds : List Variables). EmitsDeclarations c.clear.new.self c.module_globals.new.self 0 ds)
      (sym globals) c.in_ok-module_globals.ensures.emits in
      subst (λ (l : Layout). IsInitCode l m f) c.clear.ensures.layout
      (init_code c.clear.new.self c.module_globals.new.self finished.0 m f c.clear.ensures.empty emits finished.1
      finished.2 (subst (λ (l : Layout). IsValidCode l f) (emits.keeps).layout valid)));
}
