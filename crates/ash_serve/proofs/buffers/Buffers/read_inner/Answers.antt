use Rattle.std.proofs.Common.{refl}
use Rattle.std.proofs.lemmas.Result.{err_from_is_err_and}
use Rattle.ash_lines.specs.Lines.{LineTooLong, RequestLine}
use Rattle.ash_serve.specs.declared.fault.RunFault.TheVariants as faults
use Rattle.ash_serve.specs.declared.owned.OwnedRequest.TheVariants as owned
use Rattle.ash_serve.proofs.BatchLemmas.{inner_ended, inner_failed, inner_kept}
use Rattle.ash_serve.proofs.RequestLemmas.{line_fault, line_cut, line_long}
use Rattle.ash_serve.proofs.buffers.Buffers.read_inner.Goals as goal

pub returns-in_err-read_line-clause-read : goal.returns-in_err-read_line-clause-read
returns-in_err-read_line-clause-read g c =
    let p = err_from_is_err_and c.from_residual.result c.from_residual.ensures.1 in
    rw p.1 (inner_failed g.S.Source.feed c.args.input.now c.read_line.new.input p.0
    (line_fault g.S.Source.feed c.args.input.now c.read_line.new.input c.in_err-read_line.field-0.0 p.0 p.2 c.in_err-read_line.ensures.read))

pub returns-in-End-clause-read : goal.returns-in-End-clause-read
returns-in-End-clause-read g c =
    let w = rw c.in-End.is at c.in_ok-read_line.ensures.read in inner_ended g.S.Source.feed c.args.input.now c.read_line.new.input w.0 w.1

pub returns-in-Cut-clause-read : goal.returns-in-Cut-clause-read
returns-in-Cut-clause-read g c =
    inner_failed g.S.Source.feed c.args.input.now c.read_line.new.input faults.Truncated
    (line_cut g.S.Source.feed c.args.input.now c.read_line.new.input (rw c.in-Cut.is at c.in_ok-read_line.ensures.read))

pub returns-in-TooLong-clause-read : goal.returns-in-TooLong-clause-read
returns-in-TooLong-clause-read g c =
    inner_kept g.S.Source.feed c.args.input.now c.read_line.new.input (RequestLine LineTooLong) (owned.Bad 602)
    (line_long g.S.Source.feed c.args.input.now c.read_line.new.input (rw c.in-TooLong.is at c.in_ok-read_line.ensures.read)) refl

pub keep_line-requires-clause-short : goal.keep_line-requires-clause-short
keep_line-requires-clause-short g c = let w = rw c.in-Whole.is at c.in_ok-read_line.ensures.read in w.1

pub returns-in-Whole-clause-read : goal.returns-in-Whole-clause-read
returns-in-Whole-clause-read g c =
    let w = rw c.in-Whole.is at c.in_ok-read_line.ensures.read in c.keep_line.ensures.read c.args.input.now w.0
