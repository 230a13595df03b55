use Rattle.std.proofs.Common.{◌∙◌, ◌+◌, ◌++◌, inl, inr, IsTrue, List, ℕ, length, sym, ap, subst, arith}
use Rattle.std.specs.Option.{option_to_list}
use Rattle.ash_disk.specs.DiskImage.{bytes_at}
use Rattle.ash_journal.proofs.ReadLaws.{damaged_block, whole_block}
use Rattle.ash_journal.proofs.one_file.read_block.Goals.{then-size-ge-LENGTH_LIMIT-via-then-size-ge-LENGTH_LIMIT, then-size-ge-LENGTH_LIMIT-via-else-size-ge-LENGTH_LIMIT+then-room-from}
use Rattle.ash_journal.proofs.one_file.read_block.Goals as goal

pub returns-then-size-ge-LENGTH_LIMIT-clause-answer : goal.returns-then-size-ge-LENGTH_LIMIT-clause-answer
returns-then-size-ge-LENGTH_LIMIT-clause-answer g c honest =
    let seen = g.D.Disk.seen c.args.disk.now in
    let size_is = c.in_ok-size.ensures.answer honest in
    damaged_block seen c.args.at c.in_ok-size.size c.in_ok-size.ensures.fits size_is
    (elim c.then-size-ge-LENGTH_LIMIT.branch [
      | then-size-ge-LENGTH_LIMIT-via-then-size-ge-LENGTH_LIMIT w ↦ inl w.if-size-ge-LENGTH_LIMIT.true
      | then-size-ge-LENGTH_LIMIT-via-else-size-ge-LENGTH_LIMIT+then-room-from w ↦
          inr (omega (arith, c.requires.whole honest, w.from.ensures, w.if-room-from.true, c.saturating_sub-room.ensures))
    ])

pub read_bytes-requires : goal.read_bytes-requires
read_bytes-requires g c = record {
  within =
      λ honest'.
      let honest = subst IsTrue c.in_ok-size.ensures.only_read.honesty honest' in
      omega (
        arith,
        ap length (c.in_ok-size.ensures.only_read.seen honest),
        c.requires.whole honest,
        c.from.ensures,
        c.if-room-from.false,
        c.saturating_sub-room.ensures,
      );
}

pub returns-clause-answer : goal.returns-clause-answer
returns-clause-answer g c honest =
    let seen = g.D.Disk.seen c.args.disk.now in
    let size_is = c.in_ok-size.ensures.answer honest in
    let same = c.in_ok-size.ensures.only_read.seen honest in
    let honest' = subst IsTrue (sym c.in_ok-size.ensures.only_read.honesty) honest in
    let read = c.in_ok-body.ensures.answer honest' in
    whole_block seen c.args.at c.in_ok-size.size c.in_ok-body.body.items c.pop.new.self.items c.unwrap-gate.result
    c.if-size-ge-LENGTH_LIMIT.false size_is
    (read ∙ ap (λ (l : List ℕ). bytes_at l (c.args.at + 4) (c.in_ok-size.size + 1)) same)
    c.in_ok-body.ensures.size
    (c.pop.ensures.items ∙ ap (λ o. c.pop.new.self.items ++ option_to_list o) c.unwrap-gate.ensures)
