use Rattle.std.proofs.Common.{◌≡◌, ◌-◌, IsTrue, length, sym, ap, subst, arith}
use Rattle.ash_journal.specs.OtherState.{first_of}
use Rattle.ash_journal.specs.SettledSince.{Extends, NoContents}
use Rattle.ash_journal.proofs.OpenLaws.{open_files, open_represented, placed}
use Rattle.ash_journal.proofs.RunLaws.{read_extends}
use Rattle.ash_journal.proofs.journal.Journal.open.Goals as goal

pub returns-clause-found : goal.returns-clause-found
returns-clause-found g c honest_first honest_second =
    let d = g.D.Disk in
    let e = c.in-Ok.ensures in
    let o = c.in-Ok.contents in
    let image = o.file.image.items in
    let answer = e.answer honest_first honest_second in
    let size_is : o.file.tail.end - 21 - c.len.result ≡ o.file.tail.end - 21 - length image =
    omega (arith, c.len.ensures, o.file.image.ok.0) in
    let files = open_files d o.choice.swapped c.read_both.new.first c.read_both.new.second (d.seen c.args.first)
    (d.seen c.args.second) o.choice.other_state o.choice.generation o.file.tail.end o.file.tail.gate
    (o.file.tail.end - 21 - c.len.result) image o.file.tail.records.items
    (subst IsTrue (sym e.first_read.honesty) honest_first) (subst IsTrue (sym e.second_read.honesty) honest_second)
    (e.first_read.seen honest_first) (e.second_read.seen honest_second) (e.durable_first honest_first)
    (e.durable_second honest_second) answer.0 answer.1 size_is in
    rw (c.arrange-current.ensures.current, c.arrange-current.ensures.other) files

pub returns-clause-represented : goal.returns-clause-represented
returns-clause-represented g c honest_first honest_second =
    let d = g.D.Disk in
    let e = c.in-Ok.ensures in
    let o = c.in-Ok.contents in
    let image = o.file.image.items in
    let answer = e.answer honest_first honest_second in
    let size_is : o.file.tail.end - 21 - c.len.result ≡ o.file.tail.end - 21 - length image =
    omega (arith, c.len.ensures, o.file.image.ok.0) in
    let files = open_files d o.choice.swapped c.read_both.new.first c.read_both.new.second (d.seen c.args.first)
    (d.seen c.args.second) o.choice.other_state o.choice.generation o.file.tail.end o.file.tail.gate
    (o.file.tail.end - 21 - c.len.result) image o.file.tail.records.items
    (subst IsTrue (sym e.first_read.honesty) honest_first) (subst IsTrue (sym e.second_read.honesty) honest_second)
    (e.first_read.seen honest_first) (e.second_read.seen honest_second) (e.durable_first honest_first)
    (e.durable_second honest_second) answer.0 answer.1 size_is in
    open_represented d o.choice.swapped c.read_both.new.first c.read_both.new.second (d.seen c.args.first)
    (d.seen c.args.second) o.choice.other_state o.choice.generation o.file.tail.end o.file.tail.gate
    (o.file.tail.end - 21 - c.len.result) image _ _ (e.first_read.seen honest_first)
    (e.second_read.seen honest_second) files

pub returns-in-Err-clause-extends : goal.returns-in-Err-clause-extends
returns-in-Err-clause-extends g c honest_first honest_second =
    read_extends g.D.Disk c.args.first c.args.second c.read_both.new.first c.read_both.new.second honest_first
    honest_second c.in-Err.ensures.first_read c.in-Err.ensures.second_read

pub returns-clause-extends : goal.returns-clause-extends
returns-clause-extends g c honest_first honest_second =
    let d = g.D.Disk in
    let e = c.in-Ok.ensures in
    let swapped = c.in-Ok.contents.choice.swapped in
    let current = c.arrange-current.result.0 in
    let other = c.arrange-current.result.1 in
    let read = read_extends d c.args.first c.args.second c.read_both.new.first c.read_both.new.second honest_first
    honest_second e.first_read e.second_read in
    let is = placed swapped c.read_both.new.first c.read_both.new.second current other c.arrange-current.ensures.current
    c.arrange-current.ensures.other in
    let one = subst (λ x. Extends d c.args.first c.args.second x c.read_both.new.second NoContents) (sym is.0) read in
    subst (λ y. Extends d c.args.first c.args.second (first_of swapped current other) y NoContents) (sym is.1) one

pub invariant_of-journal : goal.invariant_of-journal
invariant_of-journal g c = record {
  within = omega (
    arith,
    c.in-Ok.ensures.within,
    c.in-Ok.ensures.short,
    c.len.ensures,
    c.in-Ok.contents.file.image.ok.0,
  );
  current_inside =
      λ honest'.
      let honest = subst (λ d. IsTrue (g.D.Disk.honest d)) c.arrange-current.ensures.current honest' in
      omega (
        arith,
        c.in-Ok.ensures.current_inside honest,
        ap (λ d. length (g.D.Disk.seen d)) c.arrange-current.ensures.current,
      );
  other_inside =
      λ is honest'.
      let honest = subst (λ d. IsTrue (g.D.Disk.honest d)) c.arrange-current.ensures.other honest' in
      omega (
        arith,
        c.in-Ok.ensures.other_inside is honest,
        ap (λ d. length (g.D.Disk.seen d)) c.arrange-current.ensures.other,
      );
}
