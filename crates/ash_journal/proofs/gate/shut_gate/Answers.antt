use Rattle.std.proofs.Common.{◌∙◌, ◌∷◌, [], ap, arith}
use Rattle.std.proofs.lemmas.Result.{on_ok_weaker}
use Rattle.ash_disk.specs.DiskImage.{after_write}
use Rattle.ash_journal.specs.Writes.{WhileShut}
use Rattle.ash_journal.proofs.GateLaws.{write_reaches, shut_written, shut_torn, while_written, on_ok_both, one_written}
use Rattle.ash_journal.proofs.gate.shut_gate.Goals as goal

pub returns-clause-shut : goal.returns-clause-shut
returns-clause-shut g c =
    on_ok_both c.write_durably.result
    (λ written durable prefix suffix split. record {
      bytes = written split.honest_disk ∙ ap (λ l. after_write l c.args.gate (0 ∷ [])) split.bytes
          ∙ shut_written prefix suffix c.args.gate split.long;
      durable = durable split.honest_disk;
    })
    c.write_durably.ensures.written c.write_durably.ensures.durable

pub returns-clause-moments : goal.returns-clause-moments
returns-clause-moments g c prefix suffix split =
    while_written _ _ _ _ _ _ c.args.gate 1 (WhileShut prefix suffix) split.durable split.bytes
    (shut_torn prefix suffix c.args.gate split.long)
    (c.write_durably.ensures.moments split.honest_disk)

pub returns-clause-only_gate : goal.returns-clause-only_gate
returns-clause-only_gate g c prefix suffix split =
    one_written g.D.Disk c.args.gate c.args.disk.now c.write_durably.new.disk split.durable
    (c.write_durably.ensures.in_part split.honest_disk)
    (c.write_durably.ensures.moments split.honest_disk)

pub returns-clause-no_shorter : goal.returns-clause-no_shorter
returns-clause-no_shorter g c honest = (c.write_durably.ensures.in_part honest).no_shorter

pub returns-clause-there : goal.returns-clause-there
returns-clause-there g c =
    on_ok_weaker c.write_durably.result
    (λ written honest.
    omega (
      arith,
      write_reaches (g.D.Disk.seen c.args.disk.now) (g.D.Disk.seen c.write_durably.new.disk) (0 ∷ []) c.args.gate
          (c.requires.within honest) (written honest),
    ))
    c.write_durably.ensures.written
