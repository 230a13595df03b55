use Rattle.std.proofs.Common.{◌-◌, length, arith}
use Rattle.ash_replay.proofs.Replaying.{last_newest}
use Rattle.ash_replay.proofs.replay.last_gate.Goals as goal

pub returns-in-Some : goal.returns-in-Some
returns-in-Some c = record {
  value =
      let records = c.args.records.now in
      let some = c.in-Some.ensures.item.3.0 in
      last_newest 0 records (length records - 1) c.in-Some.last.now (omega (arith, some)) c.in-Some.ensures.value;
}
