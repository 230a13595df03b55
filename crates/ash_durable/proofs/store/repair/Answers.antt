use Rattle.std.proofs.Common.{◌≡◌, true, false, refl}
use Rattle.std.proofs.lemmas.Bool.{false≢true}
use Rattle.ash_durable.proofs.OpenedJournals.{has_settled, failed_to_settle}
use Rattle.ash_durable.proofs.store.repair.Goals as goal

pub returns-in-Ok : goal.returns-in-Ok
returns-in-Ok g c = record {
  repairs =
      let e = c.in-Ok.ensures in (
        refl,
        has_settled g.D.Disk c.args.journal c.settle.new.self (false ≡ true) false≢true e.ready
            (record {
              only_pending = e.untouched;
              only_gates = λ contents finds. e.gates _ _ finds;
              number_same = e.number;
              size_same = e.size;
            })
            (λ contents holds. e.settled _ _ holds) (λ contents holds. e.extends _ _ holds)
            e.cause e.honesty_first e.honesty_second,
      );
}

pub returns-in-Err : goal.returns-in-Err
returns-in-Err g c = record {
  repairs =
      let e = c.in-Err.ensures in
      failed_to_settle g.D.Disk c.args.journal c.settle.new.self c.refusal_of.result (true ≡ true) refl
      c.refusal_of.ensures.fault c.refusal_of.ensures.a c.refusal_of.ensures.b
      (record {
        only_pending = e.untouched;
        only_gates = λ contents finds. e.gates _ _ finds;
        number_same = e.number;
        size_same = e.size;
      })
      (λ contents holds. e.extends _ _ holds) e.cause e.honesty_first e.honesty_second;
}
