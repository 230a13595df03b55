use Rattle.std.proofs.Common.{◌≡◌, true, false, inl, inr, refl}
use Rattle.std.proofs.lemmas.Bool.{false≢true}
use Rattle.ash_durable.proofs.Composing.{some_known}
use Rattle.ash_durable.proofs.Moving.{next_settled, not_prepared, was_moved, was_not_moved}
use Rattle.ash_durable.proofs.store.upgrade.Goals as goal

pub returns-in-Err : goal.returns-in-Err
returns-in-Err g c = record {
  moves = λ live is.
      inl (not_prepared live.durable c.args.journal c.in-Err.cause c.refusal_of.result c.refusal_of.ensures.fault
      c.refusal_of.ensures.a c.refusal_of.ensures.b (c.in-Err.ensures.prepares live is));
}

pub install_next-requires : goal.install_next-requires
install_next-requires g c =
    let known = some_known c.args.engine.live c.requires.live in
    let prepared = c.in-Ok.ensures.prepares known.0 known.1 in
    let settled = c.in_ok-found.ensures.repairs.1 in
    record {
      ready = settled.ready c.requires.not_failed;
      next = (
        prepared.0,
        next_settled c.args.journal c.in_ok-found.found.journal prepared.0 c.in-Ok.next settled.only.number_same
            prepared.2,
      );
    }

pub returns-in-Ok-install_next : goal.returns-in-Ok-install_next
returns-in-Ok-install_next g c = record {
  moves = λ live is.
      let prepared = c.in-Ok.ensures.prepares live is in
      let settled = c.in_ok-found.ensures.repairs.1 in
      let e = c.in-Ok-install_next.ensures in
      let old = c.in_ok-found.found.journal in
      let next = next_settled c.args.journal old prepared.0 c.in-Ok.next settled.only.number_same prepared.2 in (
        c.in_ok-found.ensures.repairs.0,
        old,
        settled,
        was_moved g.D.Disk live.durable old c.install_next.new.self prepared.0 prepared.1 (false ≡ true) false≢true
            e.ready e.higher e.emptied e.untouched (λ was bodies holds. e.installed prepared.0 was bodies next holds)
            (λ was bodies holds. e.run prepared.0 was bodies next holds) e.cause e.honesty_first e.honesty_second,
      );
}

pub returns-in-Err-install_next : goal.returns-in-Err-install_next
returns-in-Err-install_next g c = record {
  moves = λ live is.
      let prepared = c.in-Ok.ensures.prepares live is in
      let settled = c.in_ok-found.ensures.repairs.1 in
      let e = c.in-Err-install_next.ensures in
      let old = c.in_ok-found.found.journal in
      let next = next_settled c.args.journal old prepared.0 c.in-Ok.next settled.only.number_same prepared.2 in
      inr (inr (
        old,
        settled,
        was_not_moved g.D.Disk live.durable old c.install_next.new.self prepared.0 prepared.1
            c.refusal_of-in-Err-install_next.result (true ≡ true) refl
            c.refusal_of-in-Err-install_next.ensures.fault c.refusal_of-in-Err-install_next.ensures.a
            c.refusal_of-in-Err-install_next.ensures.b e.untouched
            (λ was bodies holds. e.run prepared.0 was bodies next holds) e.cause e.honesty_first e.honesty_second,
      ));
}
