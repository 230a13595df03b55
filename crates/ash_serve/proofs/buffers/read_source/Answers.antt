use Rattle.std.proofs.lemmas.Result.{err_from_is_err_and}
use Rattle.ash_serve.proofs.RequestLemmas.{source_fault, source_cut, source_line_fault, source_line_cut, source_unended, source_whole}
use Rattle.ash_serve.proofs.buffers.read_source.Goals as goal

pub returns-in_err-read_bytes-clause-read : goal.returns-in_err-read_bytes-clause-read
returns-in_err-read_bytes-clause-read g c start line name w l e =
    let p = err_from_is_err_and c.from_residual.result c.from_residual.ensures.1 in
    rw p.1 (source_fault g.S.Source.feed g.met.S.Source.is_feed start c.args.input.now c.read_bytes.new.input line name c.args.bytes c.in_err-read_bytes.field-0.0 p.0 w l e p.2 c.in_err-read_bytes.ensures.read)

pub returns-in-Cut-clause-read : goal.returns-in-Cut-clause-read
returns-in-Cut-clause-read g c start line name w l e =
    let cut = rw c.in-Cut.is at c.in_ok-read_bytes.ensures.read in
    source_cut g.S.Source.feed g.met.S.Source.is_feed start c.args.input.now c.read_bytes.new.input line name c.args.bytes w l e (cut.0, cut.1, cut.2, cut.3)

pub returns-in_err-skip_line-clause-read : goal.returns-in_err-skip_line-clause-read
returns-in_err-skip_line-clause-read g c start line name w l e =
    let all = rw c.in-All.is at c.in_ok-read_bytes.ensures.read in
    let p = err_from_is_err_and c.from_residual-in_err-skip_line.result c.from_residual-in_err-skip_line.ensures.1 in
    rw p.1 (source_line_fault g.S.Source.feed g.met.S.Source.is_feed start c.args.input.now c.read_bytes.new.input c.skip_line.new.input line name c.read_bytes.new.prefix.items c.args.bytes c.in_err-skip_line.field-0.0 p.0 w l e p.2 all c.in_err-skip_line.ensures.skips)

pub returns-in-Cut-2-clause-read : goal.returns-in-Cut-2-clause-read
returns-in-Cut-2-clause-read g c start line name w l e =
    let all = rw c.in-All.is at c.in_ok-read_bytes.ensures.read in
    source_line_cut g.S.Source.feed g.met.S.Source.is_feed start c.args.input.now c.read_bytes.new.input c.skip_line.new.input line name c.read_bytes.new.prefix.items c.args.bytes w l e all (rw c.in-Cut-2.is at c.in_ok-skip_line.ensures.skips)

pub returns-in-Bytes-clause-read : goal.returns-in-Bytes-clause-read
returns-in-Bytes-clause-read g c start line name w l e =
    let all = rw c.in-All.is at c.in_ok-read_bytes.ensures.read in
    source_unended g.S.Source.feed g.met.S.Source.is_feed start c.args.input.now c.read_bytes.new.input c.skip_line.new.input line name c.read_bytes.new.prefix.items c.args.bytes w l e all (rw c.in-Bytes.is at c.in_ok-skip_line.ensures.skips)

pub returns-in-Empty-clause-read : goal.returns-in-Empty-clause-read
returns-in-Empty-clause-read g c start line name w l e =
    let all = rw c.in-All.is at c.in_ok-read_bytes.ensures.read in
    source_whole g.S.Source.feed g.met.S.Source.is_feed start c.args.input.now c.read_bytes.new.input c.skip_line.new.input line name c.read_bytes.new.prefix.items c.args.bytes w l e all (rw c.in-Empty.is at c.in_ok-skip_line.ensures.skips)
