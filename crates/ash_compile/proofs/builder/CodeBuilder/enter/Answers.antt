use Rattle.std.proofs.Common.{◌∙◌, ap, sym}
use Rattle.ash_compile.specs.declared.layout.Layout.{Layout}
use Rattle.ash_compile.specs.ValidCode.{has_callee}
use Rattle.ash_compile.proofs.ValidJumps.{entering_leads}
use Rattle.ash_compile.proofs.builder.CodeBuilder.enter.Goals as goal

pub put-requires : goal.put-requires
put-requires c = record {
  stands = (
    entering_leads _ _ c.args.call c.requires.leads,
    ap (λ (l : Layout). has_callee l c.args.call) (sym c.layout.ensures.layout) ∙ sym c.has_callee.ensures.has
        ∙ c.if-has_callee.true,
  );
}
