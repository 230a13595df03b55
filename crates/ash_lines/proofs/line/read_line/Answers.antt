use Rattle.std.proofs.Common.{◌≡◌, List, ℕ, arith, [], ◌∷◌, length-append, subst, sym}
use Rattle.std.proofs.lemmas.Grind.{common_steps}
use Rattle.std.proofs.lemmas.Result.{err_from_is_err_and}
use Rattle.ash_lines.specs.Reading.{ReadsLinePart}
use Rattle.ash_lines.proofs.SourceLemmas.{next_end, next_byte, part-push, part-end, part-fault, part-nil, part-none}
use Rattle.ash_lines.proofs.SourceLemmas.{long_line}
use Rattle.ash_lines.proofs.line.read_line.Goals as goal

pub bytes-init : goal.bytes-init
bytes-init g c = record {
  read = part-nil g.S.Source.feed g.met.S.Source.is_feed c.args.input.now _ c.clear.ensures.items;
  short = grind (arith, common_steps);
  room = omega arith;
}

pub returns-in_err-next-clause-read : goal.returns-in_err-next-clause-read
returns-in_err-next-clause-read g c =
    let p = err_from_is_err_and c.from_residual.result c.from_residual.ensures.1 in
    rw (p.1, p.2) (part-fault g.S.Source.feed g.met.S.Source.is_feed _ _ _ _ _ c.bytes.invariant.read c.in_err-next.ensures.byte)

pub returns-in-None-clause-read : goal.returns-in-None-clause-read
returns-in-None-clause-read g c =
    let e = next_end g.S.Source.feed _ _ _ _ c.next.ensures.byte c.in_ok-next.was c.in-None.is in
    let none : c.bytes.line.items ≡ [] = grind (arith, common_steps) in
    (part-none g.S.Source.feed g.met.S.Source.is_feed _ _ _ _ none c.bytes.invariant.read e.0, e.1)

pub returns-in-None-2-clause-read : goal.returns-in-None-2-clause-read
returns-in-None-2-clause-read g c =
    let e = next_end g.S.Source.feed _ _ _ _ c.next.ensures.byte c.in_ok-next.was c.in-None.is in
    (c.bytes.line.items, part-end g.S.Source.feed g.met.S.Source.is_feed _ _ _ _ c.bytes.invariant.read e.0, grind (arith, common_steps), e.1)

pub returns-then-len-eq-MAX_LINE_BYTES-clause-read : goal.returns-then-len-eq-MAX_LINE_BYTES-clause-read
returns-then-len-eq-MAX_LINE_BYTES-clause-read g c =
    let e = next_byte g.S.Source.feed _ _ _ _ _ c.next.ensures.byte c.in_ok-next.was c.in-Some.is in
    let w = part-push g.S.Source.feed g.met.S.Source.is_feed _ _ _ _ _ c.bytes.invariant.read e c.in-Some.byte-test.1 in
    let k = c.skip_long_line.ensures.skips in
    long_line g.S.Source.feed g.met.S.Source.is_feed _ _ _ _ c.bytes.line.items k.0 _ w (grind (arith, common_steps, length-append c.bytes.line.items (c.in-Some.byte ∷ []))) k.1 k.2

pub bytes-preserved : goal.bytes-preserved
bytes-preserved g c =
    let e = next_byte g.S.Source.feed _ _ _ _ _ c.next.ensures.byte c.in_ok-next.was c.in-Some.is in
    record {
      read = subst (λ (x : List ℕ). ReadsLinePart g.S.Source.feed c.args.input.now x c.next.new.self) (sym c.push_reserved.ensures.items) (part-push g.S.Source.feed g.met.S.Source.is_feed _ _ _ _ _ c.bytes.invariant.read e c.in-Some.byte-test.1);
      short = grind (arith, common_steps);
      room = omega arith;
    }
