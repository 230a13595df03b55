use Rattle.std.proofs.Common.{sym, subst, List, ℕ}
use Rattle.std.proofs.lemmas.Result.{err_from_is_err_and}
use Rattle.ash_registry.specs.RegistryViews.{registered}
use Rattle.ash_serve.specs.CheckRun.{ReadsScript, streams_with, verdict_of}
use Rattle.ash_serve.proofs.CheckRunLemmas.{script_read, script_unread, script_unjudged, script_reported}
use Rattle.ash_serve.proofs.program.check.check_script.Goals as goal

pub returns-in_err-read_bytes : goal.returns-in_err-read_bytes
returns-in_err-read_bytes g c =
    let p = err_from_is_err_and c.from_residual-in_err-read_bytes.result c.from_residual-in_err-read_bytes.ensures.1 in
    record { checks = rw (p.1, p.2) (script_unread (streams_with g.S.Source.feed g.K.Sink.outlet) (registered c.args.registry.now) c.args.input.now c.read_bytes.new.input c.args.output.now c.in_err-read_bytes.field-0.0 c.read_bytes.new.prefix.items c.in_err-read_bytes.ensures.read) }

pub returns-in_err-verdict : goal.returns-in_err-verdict
returns-in_err-verdict g c =
    let prefix = script_read g.S.Source.feed _ _ c.in_ok-read_bytes.field-0 _ c.in_ok-read_bytes.ensures.read in
    let read = subst (λ (x : List ℕ). ReadsScript g.S.Source.feed c.args.input.now x c.read_bytes.new.input) (sym c.as_slice.ensures.value) prefix in
    let p = err_from_is_err_and c.from_residual-in_err-verdict.result c.from_residual-in_err-verdict.ensures.1 in
    record { checks = rw (p.1, p.2) (script_unjudged (streams_with g.S.Source.feed g.K.Sink.outlet) (registered c.args.registry.now) _ _ _ c.as_slice.result.now c.in_err-verdict.field-0.0 read c.in_err-verdict.ensures.verdict) }

pub returns : goal.returns
returns g c =
    let prefix = script_read g.S.Source.feed _ _ c.in_ok-read_bytes.field-0 _ c.in_ok-read_bytes.ensures.read in
    let read = subst (λ (x : List ℕ). ReadsScript g.S.Source.feed c.args.input.now x c.read_bytes.new.input) (sym c.as_slice.ensures.value) prefix in
    record {
      checks = script_reported (streams_with g.S.Source.feed g.K.Sink.outlet) (registered c.args.registry.now) _ _ _ _ c.as_slice.result.now (verdict_of c.in_ok-verdict.verdict) c.write_verdict.result read c.in_ok-verdict.ensures.verdict c.write_verdict.ensures.line;
    }
