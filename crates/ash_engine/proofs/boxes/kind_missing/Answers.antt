use Rattle.std.proofs.Common.{rules, ◌≡◌, true, false, sym, ◌∙◌}
use Rattle.std.proofs.lemmas.List.{drop_more}
use Rattle.ash_engine.proofs.Served.{missing_next}
use Rattle.ash_engine.proofs.boxes.kind_missing.Goals as goal

pub returns-then-not-has_kind : goal.returns-then-not-has_kind
returns-then-not-has_kind g c =
    let kinds = c.args.kinds.now in
    let i = c.loop-place.place in
    let fails : c.has_kind.result ≡ false = search rules in
    record { value = sym (missing_next g.B.HostObject kinds c.args.services.now i _ (drop_more kinds i 0 c.loop-place-test.true) false (sym c.has_kind.ensures.value ∙ fails)) ∙ c.loop-place.invariant }

pub loop-place-preserved : goal.loop-place-preserved
loop-place-preserved g c =
    let kinds = c.args.kinds.now in
    let i = c.loop-place.place in
    let holds : c.has_kind.result ≡ true = search rules in
    sym (missing_next g.B.HostObject kinds c.args.services.now i _ (drop_more kinds i 0 c.loop-place-test.true) true (sym c.has_kind.ensures.value ∙ holds)) ∙ c.loop-place.invariant
