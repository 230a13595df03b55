use Rattle.std.proofs.Common.{List, ℕ, get_or, take, subst, arith}
use Rattle.std.proofs.lemmas.List.{take_all}
use Rattle.ash_compile.specs.Emission.{end_of}
use Rattle.ash_compile.specs.EmittedStatements.{LeadsAll}
use Rattle.ash_compile.proofs.EmittedLandings as landings
use Rattle.ash_compile.proofs.ValidJumps.{jump_stands}
use Rattle.ash_compile.proofs.builder.CodeBuilder.lead_all.Goals as goal

pub loop-at-init : goal.loop-at-init
loop-at-init c = landings.leads_none c.args.self.now c.args.to

pub lead-requires : goal.lead-requires
lead-requires c = record {
  there =
      let low = landings.below_there c.args.to c.args.places.now c.loop-at.at-index 0 c.requires.before
      c.loop-at-test.true in
      omega (arith, low, c.requires.within, c.loop-at.invariant.long);
  stands =
      jump_stands c.loop-at.self.layout (end_of c.loop-at.self) (get_or c.args.places.now c.loop-at.at-index 0)
      c.args.to
      (landings.below_there c.args.to c.args.places.now c.loop-at.at-index 0 c.requires.before c.loop-at-test.true)
      (omega (arith, c.requires.within, c.loop-at.invariant.long));
}

pub loop-at-preserved : goal.loop-at-preserved
loop-at-preserved c =
    let low = landings.below_there c.args.to c.args.places.now c.loop-at.at-index 0 c.requires.before
    c.loop-at-test.true in
    subst (λ (places : List ℕ). LeadsAll c.args.self.now c.lead.new.self places c.args.to)
    (landings.take_next c.args.places.now c.loop-at.at-index 0 c.loop-at-test.true)
    (landings.leads_more c.args.self.now c.loop-at.self c.lead.new.self (take c.loop-at.at-index c.args.places.now)
    (get_or c.args.places.now c.loop-at.at-index 0) c.args.to c.loop-at.invariant c.lead.ensures.leads
    (omega (arith, low, c.requires.within, c.loop-at.invariant.long)))

pub returns : goal.returns
returns c = record {
  leads = subst (λ (places : List ℕ). LeadsAll c.args.self.now c.loop-at.self places c.args.to)
      (take_all c.loop-at.at-index c.args.places.now c.loop-at-test.false) c.loop-at.invariant;
}
