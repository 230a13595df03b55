use Rattle.std.proofs.Common.{refl, arith, [], ◌∷◌, ◌++◌, length-append}
use Rattle.std.proofs.lemmas.Result.{err_from_is_err_and}
use Rattle.ash_lines.proofs.SourceLemmas.{next_end, next_byte, reads_then, faults_then}
use Rattle.ash_lines.proofs.PrefixLemmas.{prefix-more, prefix-nil}
use Rattle.ash_lines.proofs.bytes.read_bytes.Goals as goal

pub loop-i-init : goal.loop-i-init
loop-i-init g c = record {
  read = ([], g.met.S.Source.is_feed.nothing _, refl, prefix-nil _ c.clear.ensures.items);
  room = omega arith;
}

pub returns-in_err-next-clause-read : goal.returns-in_err-next-clause-read
returns-in_err-next-clause-read g c =
    let i = c.loop-i.invariant.read in
    let p = err_from_is_err_and c.from_residual.result c.from_residual.ensures.1 in
    rw (p.1, p.2) (i.0, faults_then g.S.Source.feed g.met.S.Source.is_feed _ _ _ i.0 _ i.1 c.in_err-next.ensures.byte, omega (arith, i.2))

pub returns-in-None-clause-read : goal.returns-in-None-clause-read
returns-in-None-clause-read g c =
    let i = c.loop-i.invariant.read in
    let e = next_end g.S.Source.feed _ _ _ _ c.next.ensures.byte c.in_ok-next.was c.in-None.is in
    (i.0, reads_then g.S.Source.feed g.met.S.Source.is_feed _ _ _ i.0 i.1 e.0, omega (arith, i.2), e.1, i.3)

pub loop-i-preserved : goal.loop-i-preserved
loop-i-preserved g c =
    let i = c.loop-i.invariant.read in
    let e = next_byte g.S.Source.feed _ _ _ _ _ c.next.ensures.byte c.in_ok-next.was c.in-Some.is in
    record {
      read = (
        i.0 ++ c.in-Some.byte ∷ [],
        g.met.S.Source.is_feed.onward _ _ _ i.0 (c.in-Some.byte ∷ []) i.1 e,
        omega (arith, i.2, length-append i.0 (c.in-Some.byte ∷ [])),
        prefix-more i.0 _ _ c.in-Some.byte c.push_if_room.ensures.pushed c.push_if_room.ensures.full i.3,
      );
      room = c.push_if_room.ensures.room;
    }

pub returns-clause-read : goal.returns-clause-read
returns-clause-read g c =
    let i = c.loop-i.invariant.read in (i.0, i.1, omega (arith, i.2), i.3)
