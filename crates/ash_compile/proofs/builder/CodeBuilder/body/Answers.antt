use Rattle.std.proofs.Common.{List, ℕ, [], subst, sym, refl, arith}
use Rattle.ash_typed.specs.BodyViews.{body_of}
use Rattle.ash_compile.specs.declared.bodies.Scope.{Scope}
use Rattle.ash_compile.specs.Emission.{end_of}
use Rattle.ash_compile.specs.EmittedStatements.{draft, with_jumps, AreBelow, LeadsAll, EmitsStatements}
use Rattle.ash_compile.proofs.EmittedLandings as landings
use Rattle.ash_compile.proofs.builder.CodeBuilder.body.Goals as goal

pub lead_all-requires : goal.lead_all-requires
lead_all-requires c = record {
  before =
      subst (λ (places : List ℕ). AreBelow c.here-end.result places) (sym c.deref.ensures.value)
      (λ k low. (((c.in_ok-statements.ensures.emits).grows).breaks).below
      (subst (λ (places : List ℕ). AreBelow (end_of c.args.self.now) places) (sym c.new.ensures.items) (λ n high. refl)) k
      (omega (arith, low, c.here-end.ensures.place)));
  within = omega (arith, c.here-end.ensures.place);
}

pub lead_all-requires-2 : goal.lead_all-requires-2
lead_all-requires-2 c = record {
  before =
      subst (λ (places : List ℕ). AreBelow c.here-end.result places) (sym c.deref-2.ensures.value)
      (λ k low. (((c.in_ok-statements.ensures.emits).grows).continues).below
      (subst (λ (places : List ℕ). AreBelow (end_of c.args.self.now) places) (sym c.new-2.ensures.items) (λ n high. refl)) k
      (omega (arith, low, c.here-end.ensures.place)));
  within = omega (arith, c.here-end.ensures.place, (c.lead_all.ensures.leads).long);
}

pub returns : goal.returns
returns c = record {
  emits =
      let scope : Scope
      = record {
        locals = c.args.locals;
        broken = c.args.locals;
        continued = c.args.locals;
        constructs = c.args.constructs;
      } in
      landings.body c.args.self.now c.statements.new.self c.lead_all.new.self c.lead_all-2.new.self
      (c.statements.new.jumps.breaks).items (c.statements.new.jumps.continues).items (body_of c.args.stmts.now) c.args.locals
      c.here-end.result c.args.constructs
      (subst (λ (places : List ℕ). EmitsStatements (with_jumps c.args.self.now places [])
      (draft c.statements.new.self c.statements.new.jumps) (body_of c.args.stmts.now) scope) c.new.ensures.items
      (subst (λ (places : List ℕ). EmitsStatements (with_jumps c.args.self.now (c.new.result).items places)
      (draft c.statements.new.self c.statements.new.jumps) (body_of c.args.stmts.now) scope) c.new-2.ensures.items
      c.in_ok-statements.ensures.emits))
      (subst (λ (places : List ℕ). LeadsAll c.statements.new.self c.lead_all.new.self places c.here-end.result)
      c.deref.ensures.value c.lead_all.ensures.leads)
      (subst (λ (places : List ℕ). LeadsAll c.lead_all.new.self c.lead_all-2.new.self places c.here-end.result)
      c.deref-2.ensures.value c.lead_all-2.ensures.leads);
}
