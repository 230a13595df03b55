use Rattle.std.proofs.Common.{◌∙◌, ◌+◌, ℕ, List, IsTrue, drop, refl, sym, subst, arith}
use Rattle.ash_journal.specs.declared.record.Record.{Record}
use Rattle.ash_journal.specs.Layout.{IsDamaged}
use Rattle.ash_journal.specs.Reading.{IsFileBlock, IsReadTo}
use Rattle.ash_disk.proofs.DeviceLaws.{read_none, read_on}
use Rattle.ash_journal.proofs.ReadLaws.{read_start, read_damaged, read_more}
use Rattle.ash_journal.proofs.one_file.read_records.Goals as goal

pub loop-gate-init : goal.loop-gate-init
loop-gate-init g c = record {
  only_read = read_none g.D.Disk c.args.disk.now;
  steady = refl;
  within = c.requires.bounded;
  goes_on = omega arith;
  answer = λ generation image rest honest fits is at_is.
      read_start generation image rest _ _ _ _ c.new-records.ensures.items fits is at_is;
}

pub returns-in_default-clause-answer : goal.returns-in_default-clause-answer
returns-in_default-clause-answer g c generation image rest honest fits is at_is =
    let d = g.D.Disk in
    let i = c.loop-gate.invariant in
    let so_far = i.answer generation image rest honest fits is at_is in
    let honest' = subst IsTrue (sym i.only_read.honesty) honest in
    let same = i.only_read.seen honest in
    let found = c.in_ok-block.ensures.answer honest' in
    let cut = rw c.in_default.is at found in
    read_damaged generation image (d.seen c.args.disk.now) c.loop-gate.records.items c.loop-gate.end c.loop-gate.gate
    c.loop-gate-test.true so_far
    (subst (λ (l : List ℕ). IsDamaged (drop (c.loop-gate.end + 1) l)) same cut)

pub loop-gate-preserved : goal.loop-gate-preserved
loop-gate-preserved g c = record {
  only_read = read_on g.D.Disk c.args.disk.now c.loop-gate.disk c.read_block.new.disk c.loop-gate.invariant.only_read
      c.read_block.ensures.only_read;
  steady = c.in_ok-block.ensures.cause.none (λ failed. cc) ∙ c.loop-gate.invariant.steady;
  within = let inside = rw c.in-Some.is at c.in_ok-block.ensures.within in
      omega (arith, inside, c.len.ensures, c.in-Some.block.body.ok.0);
  goes_on = omega (arith, c.loop-gate.invariant.goes_on);
  answer = λ generation image rest honest fits is at_is.
      let d = g.D.Disk in
      let i = c.loop-gate.invariant in
      let so_far = i.answer generation image rest honest fits is at_is in
      let honest' = subst IsTrue (sym i.only_read.honesty) honest in
      let same = i.only_read.seen honest in
      let found = c.in_ok-block.ensures.answer honest' in
      let block = rw c.in-Some.is at found in
      let r : Record = record { gate = c.loop-gate.end; body = c.in-Some.block.body } in
      let more = read_more generation image (d.seen c.args.disk.now) c.loop-gate.records.items r c.loop-gate.end
      c.loop-gate.gate c.in-Some.block.gate (c.loop-gate.end + (5 + c.len.result)) c.loop-gate-test.true so_far
      (subst (λ (l : List ℕ).
      IsFileBlock c.in-Some.block.body.items c.in-Some.block.gate (drop (c.loop-gate.end + 1) l)) same block) refl
      (omega (arith, c.len.ensures, c.in-Some.block.body.ok.0)) in
      subst (λ (found : List Record).
      IsReadTo generation image found (c.loop-gate.end + (5 + c.len.result)) c.in-Some.block.gate
      (d.seen c.args.disk.now)) (sym c.in_ok-push.ensures.items) more;
}
