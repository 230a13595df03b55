use Rattle.std.proofs.Common.{◌≡◌, ◌∙◌, ◌+◌, [], ℕ, List, IsTrue, length, sym, subst, arith}
use Rattle.std.proofs.lemmas.Result.{err_from_is_err_and}
use Rattle.ash_journal.specs.Layout.{committed_bytes}
use Rattle.ash_journal.specs.Reading.{IsFileRead, IsFileFault}
use Rattle.ash_journal.proofs.ReadLaws.{damaged_image, image_read, length-no_records}
use Rattle.ash_journal.proofs.one_file.read_current.Goals as goal

pub returns-in_default-clause-answer : goal.returns-in_default-clause-answer
returns-in_default-clause-answer g c generation honest marked =
    let found = c.in_ok-block.ensures.answer honest in
    let cut = rw c.in_default.is at found in
    damaged_image generation (g.D.Disk.seen c.args.disk.now) marked cut

pub returns-clause-answer : goal.returns-clause-answer
returns-clause-answer g c generation honest marked =
    let d = g.D.Disk in
    let file = d.seen c.args.disk.now in
    let found = c.in_ok-block.ensures.answer honest in
    let block = rw c.in-Some.is at found in
    let image = c.in-Some.block.body.items in
    let read = image_read generation file image c.in-Some.block.gate marked block in
    let same = c.in_ok-block.ensures.only_read.seen honest in
    let honest' = subst IsTrue (sym c.in_ok-block.ensures.only_read.honesty) honest in
    let at_is : 21 + c.len.result ≡ length (committed_bytes generation image []) =
    omega (arith, c.len.ensures, c.in-Some.block.body.ok.0, length-no_records generation image) in
    let answer =
    c.in_ok-tail.ensures.answer generation image read.1 honest' read.0 (same ∙ read.2)
    at_is in
    subst (λ (l : List ℕ). IsFileRead generation image c.in_ok-tail.tail.records.items c.in_ok-tail.tail.end c.in_ok-tail.tail.gate l) same
    answer

pub returns-in_err-tail-clause-answer : goal.returns-in_err-tail-clause-answer
returns-in_err-tail-clause-answer g c generation honest marked =
    let d = g.D.Disk in
    let file = d.seen c.args.disk.now in
    let found = c.in_ok-block.ensures.answer honest in
    let block = rw c.in-Some.is at found in
    let image = c.in-Some.block.body.items in
    let read = image_read generation file image c.in-Some.block.gate marked block in
    let same = c.in_ok-block.ensures.only_read.seen honest in
    let honest' = subst IsTrue (sym c.in_ok-block.ensures.only_read.honesty) honest in
    let at_is : 21 + c.len.result ≡ length (committed_bytes generation image []) =
    omega (arith, c.len.ensures, c.in-Some.block.body.ok.0, length-no_records generation image) in
    let answer =
    c.in_err-tail.ensures.answer generation image read.1 honest' read.0
    (same ∙ read.2) at_is in
    let p = err_from_is_err_and c.from_residual-in_err-tail.result c.from_residual-in_err-tail.ensures.1 in
    rw (p.1, p.2) (subst (λ (l : List ℕ). IsFileFault c.in_err-tail.field-0.0 l) same answer)
