use Rattle.std.proofs.Common.{◌∙◌, List, ℕ, refl, sym, ap}
use Rattle.std.proofs.lemmas.Result.{err_from_is_err_and}
use Rattle.ash_requests.specs.RequestViews.{request_seen}
use Rattle.ash_requests.specs.Requests.{Load, Call}
use Rattle.ash_requests.specs.declared.argument.Arg.{Arg}
use Rattle.ash_durable.specs.Batches.{Asked}
use Rattle.ash_lines.specs.Lines.{HostRequest, Quit, BadRequest, RequestLine, BatchLine, Complete, parse_line}
use Rattle.ash_serve.specs.declared.owned.OwnedRequest.TheVariants as owned
use Rattle.ash_serve.proofs.BatchLemmas.{inner_failed, inner_kept, inner_refused, plain_asks}
use Rattle.ash_serve.proofs.RequestLemmas.{line_whole, line_header}
use Rattle.ash_serve.proofs.buffers.Buffers.keep_line.Goals as goal

pub returns-in_err-own_request-in-Request-clause-read : goal.returns-in_err-own_request-in-Request-clause-read
returns-in_err-own_request-in-Request-clause-read g c start w =
    let p = err_from_is_err_and c.from_residual.result c.from_residual.ensures.1 in
    rw p.1 (inner_refused g.S.Source.feed start c.args.input.now (RequestLine (HostRequest (request_seen c.in-Request.request))) p.0 (line_whole g.S.Source.feed start c.args.input.now c.args.self.now.line.items (HostRequest (request_seen c.in-Request.request)) w c.requires.short (c.in-Request.ensures.parsed ∙ ap parse_line c.as_slice-line.ensures.value)) p.2)

pub returns-in_ok-own_request-in-Request-clause-read : goal.returns-in_ok-own_request-in-Request-clause-read
returns-in_ok-own_request-in-Request-clause-read g c start w =
    inner_kept g.S.Source.feed start c.args.input.now (RequestLine (HostRequest (request_seen c.in-Request.request))) c.in_ok-own_request-in-Request.field-0 (line_whole g.S.Source.feed start c.args.input.now c.args.self.now.line.items (HostRequest (request_seen c.in-Request.request)) w c.requires.short (c.in-Request.ensures.parsed ∙ ap parse_line c.as_slice-line.ensures.value))
    (c.in_ok-own_request-in-Request.ensures.same ∙ plain_asks c.args.self.now.line.items (request_seen c.in-Request.request) (c.in-Request.ensures.parsed ∙ ap parse_line c.as_slice-line.ensures.value))

pub returns-in_err-own_request-in-Call-clause-read : goal.returns-in_err-own_request-in-Call-clause-read
returns-in_err-own_request-in-Call-clause-read g c start w =
    let p = err_from_is_err_and c.from_residual-in_err-own_request-in-Call.result c.from_residual-in_err-own_request-in-Call.ensures.1 in
    rw p.1 (inner_refused g.S.Source.feed start c.args.input.now (RequestLine (HostRequest (Call c.in-Call.header.module.now c.in-Call.header.function.now c.as_slice.result.now))) p.0 (line_whole g.S.Source.feed start c.args.input.now c.args.self.now.line.items (HostRequest (Call c.in-Call.header.module.now c.in-Call.header.function.now c.as_slice.result.now)) w c.requires.short (ap (λ (arguments : List Arg). Complete (HostRequest (Call c.in-Call.header.module.now c.in-Call.header.function.now arguments))) c.as_slice.ensures.value ∙ c.in-Call.ensures.parsed ∙ ap parse_line c.as_slice-line.ensures.value)) p.2)

pub returns-in_ok-own_request-in-Call-clause-read : goal.returns-in_ok-own_request-in-Call-clause-read
returns-in_ok-own_request-in-Call-clause-read g c start w =
    inner_kept g.S.Source.feed start c.args.input.now (RequestLine (HostRequest (Call c.in-Call.header.module.now c.in-Call.header.function.now c.as_slice.result.now))) c.in_ok-own_request-in-Call.field-0 (line_whole g.S.Source.feed start c.args.input.now c.args.self.now.line.items (HostRequest (Call c.in-Call.header.module.now c.in-Call.header.function.now c.as_slice.result.now)) w c.requires.short (ap (λ (arguments : List Arg). Complete (HostRequest (Call c.in-Call.header.module.now c.in-Call.header.function.now arguments))) c.as_slice.ensures.value ∙ c.in-Call.ensures.parsed ∙ ap parse_line c.as_slice-line.ensures.value)) c.in_ok-own_request-in-Call.ensures.same

pub returns-in_err-read_source-in-Load-clause-read : goal.returns-in_err-read_source-in-Load-clause-read
returns-in_err-read_source-in-Load-clause-read g c start w =
    let p = err_from_is_err_and c.from_residual-in_err-read_source-in-Load.result c.from_residual-in_err-read_source-in-Load.ensures.1 in
    rw (p.1, p.2) (inner_failed g.S.Source.feed start c.read_source.new.input _ (c.in_err-read_source-in-Load.ensures.read start c.args.self.now.line.items c.in-Load.header.name.now w c.requires.short (sym (c.in-Load.ensures.parsed ∙ ap parse_line c.as_slice-line.ensures.value))))

pub returns-in-Unended-clause-read : goal.returns-in-Unended-clause-read
returns-in-Unended-clause-read g c start w =
    inner_kept g.S.Source.feed start c.read_source.new.input (RequestLine BadRequest) (owned.Bad 601) (rw c.in-Unended.is at (c.in_ok-read_source-in-Load.ensures.read start c.args.self.now.line.items c.in-Load.header.name.now w c.requires.short (sym (c.in-Load.ensures.parsed ∙ ap parse_line c.as_slice-line.ensures.value)))) refl

pub returns-in_err-own_request-in-Whole-clause-read : goal.returns-in_err-own_request-in-Whole-clause-read
returns-in_err-own_request-in-Whole-clause-read g c start w =
    let p = err_from_is_err_and c.from_residual-in_err-own_request-in-Whole.result c.from_residual-in_err-own_request-in-Whole.ensures.1 in
    let s = rw c.in-Whole.is at (c.in_ok-read_source-in-Load.ensures.read start c.args.self.now.line.items c.in-Load.header.name.now w c.requires.short (sym (c.in-Load.ensures.parsed ∙ ap parse_line c.as_slice-line.ensures.value))) in
    rw p.1 (inner_refused g.S.Source.feed start c.read_source.new.input (RequestLine (HostRequest (Load c.in-Load.header.name.now s.0))) p.0 s.1 p.2)

pub returns-in_ok-own_request-in-Whole-clause-read : goal.returns-in_ok-own_request-in-Whole-clause-read
returns-in_ok-own_request-in-Whole-clause-read g c start w =
    let s = rw c.in-Whole.is at (c.in_ok-read_source-in-Load.ensures.read start c.args.self.now.line.items c.in-Load.header.name.now w c.requires.short (sym (c.in-Load.ensures.parsed ∙ ap parse_line c.as_slice-line.ensures.value))) in
    inner_kept g.S.Source.feed start c.read_source.new.input (RequestLine (HostRequest (Load c.in-Load.header.name.now s.0))) c.in_ok-own_request-in-Whole.field-0 s.1
    (c.in_ok-own_request-in-Whole.ensures.same ∙ ap (λ (x : List ℕ). Asked (Load c.in-Load.header.name.now x)) (c.as_slice-in-Whole.ensures.value ∙ s.2))

pub returns-in-Batch-clause-read : goal.returns-in-Batch-clause-read
returns-in-Batch-clause-read g c start w =
    inner_kept g.S.Source.feed start c.args.input.now (BatchLine c.in-Batch.field-0) (owned.Bad 601)
    (line_header g.S.Source.feed start c.args.input.now c.args.self.now.line.items c.in-Batch.field-0 w c.requires.short (c.in-Batch.ensures.parsed ∙ ap parse_line c.as_slice-line.ensures.value)) refl

pub returns-in-Quit-clause-read : goal.returns-in-Quit-clause-read
returns-in-Quit-clause-read g c start w =
    inner_kept g.S.Source.feed start c.args.input.now (RequestLine Quit) (owned.Bad 601) (line_whole g.S.Source.feed start c.args.input.now c.args.self.now.line.items Quit w c.requires.short (c.in-Quit.ensures.parsed ∙ ap parse_line c.as_slice-line.ensures.value)) refl

pub returns-in-BadRequest-clause-read : goal.returns-in-BadRequest-clause-read
returns-in-BadRequest-clause-read g c start w =
    inner_kept g.S.Source.feed start c.args.input.now (RequestLine BadRequest) (owned.Bad 601) (line_whole g.S.Source.feed start c.args.input.now c.args.self.now.line.items BadRequest w c.requires.short (c.in-BadRequest.ensures.parsed ∙ ap parse_line c.as_slice-line.ensures.value)) refl
