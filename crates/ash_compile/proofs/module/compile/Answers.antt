use Rattle.std.proofs.Common.{◌∙◌, ap, sym, subst}
use Rattle.ash_typed.specs.Modules.{Module, module_of}
use Rattle.ash_code.specs.declared.code.CodeParts.{CodeParts}
use Rattle.ash_code.specs.CompiledCode.{IsCodeOf}
use Rattle.ash_compile.specs.EmittedFrames.{IsCompiled}
use Rattle.ash_compile.proofs.CompiledModules.{is_code_of}
use Rattle.ash_compile.proofs.ValidParts.{valid_parts}
use Rattle.ash_compile.proofs.module.compile.Goals as goal

pub new-requires : goal.new-requires
new-requires c =
    let (layout, compiled) = c.in_ok-parts.ensures.compiled in
    record { valid = valid_parts layout (module_of c.args.tree.now) c.in_ok-parts.parts compiled }

pub returns : goal.returns
returns c =
    let parts = c.in_ok-parts.parts in
    let tree = module_of c.args.tree.now in
    let (layout, compiled) = c.in_ok-parts.ensures.compiled in
    record {
      slot = ap (λ (code : CodeParts). code.module) c.in_ok-code.ensures.same ∙ c.in_ok-parts.ensures.slot;
      compiled = λ k context is.
          subst (λ (code : CodeParts). IsCodeOf code k) (sym c.in_ok-code.ensures.same)
          (is_code_of layout parts k context (subst (λ (m : Module). IsCompiled layout m parts) (sym is) compiled));
    }
