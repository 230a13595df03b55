use Rattle.std.proofs.Common.{◌≡◌, true, false, sym, ◌∙◌}
use Rattle.ash_serve.proofs.ReadyLemmas.{has_command, unstarted}
use Rattle.ash_serve.proofs.serve.is_request.Goals as goal
use Rattle.ash_serve.proofs.serve.is_request.Goals.{then-contains, else-contains}

pub returns-then-not-starts_with : goal.returns-then-not-starts_with
returns-then-not-starts_with c = record {
  whole = λ other. elim c.if-contains.branch [
    | then-contains w ↦ has_command c.args.bytes.now (sym c.contains.ensures.value ∙ w.if-contains.true)
        (unstarted w.starts_with.result _ (sym w.value-is ∙ c.if-not-starts_with.true) w.starts_with.ensures.value)
        (unstarted c.starts_with-then-not-starts_with.result _ other c.starts_with-then-not-starts_with.ensures.value)
    | else-contains w ↦ absurd (let q : true ≡ false = sym c.if-not-starts_with.true ∙ w.value-is ∙ w.if-contains.false in cc)
  ];
}
