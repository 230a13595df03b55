use Rattle.std.proofs.Common.{rules, ◌≡◌, ◌+◌, List, Err, drop, sym, subst}
use Rattle.ash_journal.specs.declared.record.Record.{Record}
use Rattle.ash_image.specs.NamedViews.{state_seen}
use Rattle.ash_replay.specs.ReplaySteps.{LeadsThrough}
use Rattle.ash_replay.proofs.Replaying.{left_from, through_more, through_none}
use Rattle.ash_replay.proofs.records.last_state.Goals as goal

pub returns-in_err-state : goal.returns-in_err-state
returns-in_err-state c = record {
  leads_through =
      let r = c.record-item.result in
      let before = state_seen c.loop-record.state in
      let later = drop (c.loop-record.record-index + 1) c.args.records.now in
      let left = left_from c.args.records.now c.loop-record.record-index r c.loop-record-test.true c.record-item.is in
      let fault = c.in_err-state.field-0.0 in
      let reported : c.from_residual.result ≡ Err fault = search rules in
      rw reported (c.loop-record.invariant (Err fault)
      (subst (λ (l : List Record). LeadsThrough c.args.version before l (Err fault)) (sym left)
      (through_none c.args.version before r later fault c.in_err-state.ensures.leads_on)));
}

pub loop-record-preserved : goal.loop-record-preserved
loop-record-preserved c result through =
    let r = c.record-item.result in
    let before = state_seen c.loop-record.state in
    let later = drop (c.loop-record.record-index + 1) c.args.records.now in
    let left = left_from c.args.records.now c.loop-record.record-index r c.loop-record-test.true c.record-item.is in
    c.loop-record.invariant result
    (subst (λ (l : List Record). LeadsThrough c.args.version before l result) (sym left)
    (through_more c.args.version before (state_seen c.in_ok-state.state) r later result c.in_ok-state.ensures.leads_on
    through))
