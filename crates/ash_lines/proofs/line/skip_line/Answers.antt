use Rattle.std.proofs.Common.{◌≡◌, refl, arith, [], ◌∷◌, ◌++◌, length-append}
use Rattle.std.proofs.lemmas.Result.{err_from_is_err_and}
use Rattle.ash_lines.proofs.SourceLemmas.{next_end, next_byte, part-push, part-whole, part-end, part-fault, whole-none}
use Rattle.ash_lines.proofs.SourceLemmas.{is_line-nil}
use Rattle.ash_lines.proofs.line.skip_line.Goals as goal

pub bytes-init : goal.bytes-init
bytes-init g c = ([], record { took = g.met.S.Source.is_feed.nothing _; line = is_line-nil }, refl)

pub returns-in_err-next : goal.returns-in_err-next
returns-in_err-next g c =
    let i = c.bytes.invariant in
    let p = err_from_is_err_and c.from_residual.result c.from_residual.ensures.1 in
    record { skips = rw (p.1, p.2) (part-fault g.S.Source.feed g.met.S.Source.is_feed _ _ _ i.0 _ i.1 c.in_err-next.ensures.byte) }

pub returns-in-None : goal.returns-in-None
returns-in-None g c =
    let i = c.bytes.invariant in
    let e = next_end g.S.Source.feed _ _ _ _ c.next.ensures.byte c.in_ok-next.was c.in-None.is in
    record { skips = (i.0, part-end g.S.Source.feed g.met.S.Source.is_feed _ _ _ i.0 i.1 e.0, e.1) }

pub returns-then-any : goal.returns-then-any
returns-then-any g c =
    let i = c.bytes.invariant in
    let e = next_byte g.S.Source.feed _ _ _ _ _ c.next.ensures.byte c.in_ok-next.was c.in-Some-eq10.is in
    record { skips = (i.0, part-whole g.S.Source.feed g.met.S.Source.is_feed _ _ _ i.0 _ i.1 e c.in-Some-eq10.field-0-test, rw c.if-any.true at i.2) }

pub returns-else-any : goal.returns-else-any
returns-else-any g c =
    let i = c.bytes.invariant in
    let e = next_byte g.S.Source.feed _ _ _ _ _ c.next.ensures.byte c.in_ok-next.was c.in-Some-eq10.is in
    let none : i.0 ≡ [] = rw c.if-any.false at i.2 in
    record { skips = whole-none g.S.Source.feed _ _ i.0 none (part-whole g.S.Source.feed g.met.S.Source.is_feed _ _ _ i.0 _ i.1 e c.in-Some-eq10.field-0-test) }

pub bytes-preserved : goal.bytes-preserved
bytes-preserved g c =
    let i = c.bytes.invariant in
    let e = next_byte g.S.Source.feed _ _ _ _ _ c.next.ensures.byte c.in_ok-next.was c.in-Some.is in
    (i.0 ++ _ ∷ [], part-push g.S.Source.feed g.met.S.Source.is_feed _ _ _ i.0 _ i.1 e c.in-Some.field-0-test.1, omega (arith, length-append i.0 (c.in-Some.field-0 ∷ [])))
