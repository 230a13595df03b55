use Rattle.std.proofs.Common.{List, ℕ, sym, subst}
use Rattle.ash_engine.specs.RecordedChanges.{IsBodyOfChanges}
use Rattle.ash_durable.proofs.Committing.{adds_by}
use Rattle.ash_durable.proofs.saving.add_state.Goals as goal

pub returns : goal.returns
returns g c = record {
  adds = λ live is.
      let body = c.deref.result.now in
      let is_body : IsBodyOfChanges live body =
      subst (λ (bytes : List ℕ). IsBodyOfChanges live bytes) (sym c.deref.ensures.value)
      (c.in_ok-body.ensures.delta live is) in
      adds_by g.D.Disk live (c.facts.ensures.reached live is).admitted c.args.journal.now c.add_record.new.journal
      body is_body c.add_record.result c.add_record.ensures.adds;
}
