use Rattle.std.proofs.Common.{◌∙◌, ◌+◌, ◌∷◌, ◌++◌, [], IsTrue, length, drop, refl, ap, sym, subst, arith}
use Rattle.std.proofs.lemmas.Result.{on_ok_weaker}
use Rattle.ash_disk.specs.DiskImage.{after_write}
use Rattle.ash_disk.proofs.MomentLaws.{goes_on}
use Rattle.ash_disk.proofs.TornLaws.{byte_written}
use Rattle.ash_journal.specs.Writes.{WhileCommitted}
use Rattle.ash_journal.proofs.GateLaws.{write_reaches, bytes_written, bytes_torn, gate_torn, while_written}
use Rattle.ash_journal.proofs.GateLaws.{on_ok_both}
use Rattle.ash_journal.proofs.gate.commit.Goals as goal

pub write_durably-requires : goal.write_durably-requires
write_durably-requires g c = record { within = λ honest. omega (arith, c.requires.inside honest) }

pub write_durably-requires-2 : goal.write_durably-requires-2
write_durably-requires-2 g c = record {
  within =
      λ honest'.
      let honest = subst IsTrue c.write_durably.ensures.honesty honest' in
      omega (arith, c.requires.inside honest, (c.write_durably.ensures.in_part honest).no_shorter);
}

pub returns-in_err-write_durably-clause-moments : goal.returns-in_err-write_durably-clause-moments
returns-in_err-write_durably-clause-moments g c prefix suffix split =
    while_written _ _ _ _ _ _ (c.args.gate + 1) (length c.args.bytes.now)
    (WhileCommitted prefix c.args.bytes.now suffix) split.durable split.bytes
    (bytes_torn prefix c.args.bytes.now suffix c.args.gate (c.args.gate + 1) split.long refl)
    (c.write_durably.ensures.moments split.honest_disk)

pub returns-clause-committed : goal.returns-clause-committed
returns-clause-committed g c =
    on_ok_both c.write_durably-2.result
    (λ written durable prefix suffix split.
    let first = c.in_ok-write_durably.ensures.written split.honest_disk
    ∙ ap (λ l. after_write l (c.args.gate + 1) c.args.bytes.now) split.bytes
    ∙ bytes_written prefix c.args.bytes.now suffix c.args.gate (c.args.gate + 1) split.long refl in
    let honest = subst IsTrue (sym c.write_durably.ensures.honesty) split.honest_disk in
    let rest = c.args.bytes.now ++ drop (length c.args.bytes.now) suffix in
    record {
      bytes = written honest ∙ ap (λ l. after_write l c.args.gate (1 ∷ [])) first
          ∙ byte_written prefix 0 1 rest c.args.gate (sym split.long);
      durable = durable honest;
    })
    c.write_durably-2.ensures.written c.write_durably-2.ensures.durable

pub returns-clause-moments : goal.returns-clause-moments
returns-clause-moments g c prefix suffix split =
    let P = WhileCommitted prefix c.args.bytes.now suffix in
    let first = c.in_ok-write_durably.ensures.written split.honest_disk
    ∙ ap (λ l. after_write l (c.args.gate + 1) c.args.bytes.now) split.bytes
    ∙ bytes_written prefix c.args.bytes.now suffix c.args.gate (c.args.gate + 1) split.long refl in
    let honest = subst IsTrue (sym c.write_durably.ensures.honesty) split.honest_disk in
    let one = while_written _ _ _ _ _ _ (c.args.gate + 1) (length c.args.bytes.now) P split.durable split.bytes
    (bytes_torn prefix c.args.bytes.now suffix c.args.gate (c.args.gate + 1) split.long refl)
    (c.write_durably.ensures.moments split.honest_disk) in
    let two = while_written _ _ _ _ _ _ c.args.gate 1 P (c.in_ok-write_durably.ensures.durable split.honest_disk)
    first (gate_torn prefix c.args.bytes.now suffix c.args.gate split.long)
    (c.write_durably-2.ensures.moments honest) in
    goes_on _ _ _ _ _ _ P one two

pub returns-in_err-write_durably-clause-no_shorter : goal.returns-in_err-write_durably-clause-no_shorter
returns-in_err-write_durably-clause-no_shorter g c honest = (c.write_durably.ensures.in_part honest).no_shorter

pub returns-clause-no_shorter : goal.returns-clause-no_shorter
returns-clause-no_shorter g c honest =
    let honest' = subst IsTrue (sym c.write_durably.ensures.honesty) honest in
    omega (
      arith,
      (c.write_durably.ensures.in_part honest).no_shorter,
      (c.write_durably-2.ensures.in_part honest').no_shorter,
    )

pub returns-clause-there : goal.returns-clause-there
returns-clause-there g c =
    on_ok_weaker c.write_durably-2.result
    (λ written honest.
    let honest' = subst IsTrue (sym c.write_durably.ensures.honesty) honest in
    let begins = c.requires.inside honest in
    omega (
      arith,
      write_reaches (g.D.Disk.seen c.args.disk.now) (g.D.Disk.seen c.write_durably.new.disk) c.args.bytes.now
          (c.args.gate + 1) (omega (arith, begins)) (c.in_ok-write_durably.ensures.written honest),
      (c.write_durably-2.ensures.in_part honest').no_shorter,
    ))
    c.write_durably-2.ensures.written
