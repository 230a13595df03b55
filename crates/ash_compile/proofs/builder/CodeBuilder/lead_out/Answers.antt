use Rattle.std.proofs.Common.{◌<◌, arith, subst, sym, refl}
use Rattle.std.specs.Prelude.{Option, IfSome}
use Rattle.ash_code.specs.declared.instruction.Instruction.{Instruction}
use Rattle.ash_compile.specs.declared.bodies.Branch.{Branch}
use Rattle.ash_compile.specs.Emission.{end_of, Leads}
use Rattle.ash_compile.specs.EmittedStatements.{MayLead}
use Rattle.ash_compile.proofs.ValidJumps.{branch_stands, same_stands}
use Rattle.ash_compile.proofs.builder.CodeBuilder.lead_out.Goals as goal

pub lead-requires : goal.lead-requires
lead-requires c =
    let low : c.in-Some.branch.at < c.args.to
    = subst (λ (o : Option Branch). IfSome o (λ branch. branch.at < c.args.to)) c.in-Some.is c.requires.before in
    record {
      there = omega (arith, low, c.requires.within);
      stands = same_stands c.args.self.now.layout (end_of c.args.self.now) c.in-Some.branch.at _ _
          c.branch_to.ensures.branch
          (branch_stands c.args.self.now.layout (end_of c.args.self.now) c.in-Some.branch.at c.in-Some.branch.condition
          c.args.to low c.requires.within);
    }

pub returns-in-Some : goal.returns-in-Some
returns-in-Some c = record {
  leads = subst (λ (o : Option Branch). MayLead c.args.self.now c.lead.new.self o c.args.to) (sym c.in-Some.is)
      (subst (λ (j : Instruction). Leads c.args.self.now c.lead.new.self c.in-Some.branch.at j) c.branch_to.ensures.branch
      c.lead.ensures.leads);
}

pub returns-in_default : goal.returns-in_default
returns-in_default c = record {
  leads = subst (λ (o : Option Branch). MayLead c.args.self.now c.args.self.now o c.args.to) (sym c.in_default.is)
      refl;
}
