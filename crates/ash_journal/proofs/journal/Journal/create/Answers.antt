use Rattle.std.proofs.Common.{inl, ◌+◌, ◌∷◌, ◌++◌, [], IsTrue, false, length, drop, refl, sym, subst, arith}
use Rattle.ash_journal.specs.declared.other_state.OtherState.TheVariants.{Shut}
use Rattle.ash_journal.specs.Layout.{mark, block, IsShut}
use Rattle.ash_journal.specs.Writes.{IsUnused, WhileCreated}
use Rattle.ash_journal.proofs.FilesLaws.{create_files, ready_run}
use Rattle.ash_journal.proofs.ReadLaws.{since_rested}
use Rattle.ash_journal.proofs.InstallLaws.{create_settles}
use Rattle.ash_journal.proofs.journal.Journal.create.Goals as goal

pub returns-in-Ok-clause-created : goal.returns-in-Ok-clause-created
returns-in-Ok-clause-created g c honest_first honest_second =
    let d = g.D.Disk in
    let image = c.args.image.now in
    let one = c.create_both.new.first in
    let two = c.create_both.new.second in
    let on = c.in-Ok.ensures.created honest_first honest_second in
    let second_cleared = c.in-Ok.ensures.second_cleared honest_first honest_second in
    let rest = drop (length (mark 1 ++ (block image ++ 0 ∷ []))) (drop 1 (d.seen c.args.first)) in
    let files = create_files d one two image rest (21 + length image) refl c.requires.short
    (subst IsTrue (sym c.in-Ok.ensures.honesty_first) honest_first)
    (subst IsTrue (sym c.in-Ok.ensures.honesty_second) honest_second) on
    (subst IsShut (sym second_cleared.bytes) refl) second_cleared.durable in
    record {
      files = files;
      repaired = tt;
      run = ready_run d 1 (21 + length image) 0 false Shut false one two image [] files tt;
    }

pub returns-in-Ok-clause-moments : goal.returns-in-Ok-clause-moments
returns-in-Ok-clause-moments g c a b honest_first honest_second rested_first rested_second s t x y from_a to_a from_b
    to_b left_x left_y =
    let d = g.D.Disk in
    let image = c.args.image.now in
    let one = c.create_both.ensures.first_moments honest_first honest_second
    (rested_first.idle (d.clock c.args.first) rested_first.began (omega arith)) in
    let two = c.create_both.ensures.second_moments honest_first honest_second
    (rested_second.idle (d.clock c.args.second) rested_second.began (omega arith)) in
    create_settles image x y c.requires.short
    (since_rested d a c.args.first c.create_both.new.first (WhileCreated image) rested_first
    (λ left is. inl is) one s x from_a to_a left_x)
    (since_rested d b c.args.second c.create_both.new.second IsUnused rested_second
    (λ left is. is) two t y from_b to_b left_y)

pub returns-in-Err-clause-moments : goal.returns-in-Err-clause-moments
returns-in-Err-clause-moments g c a b honest_first honest_second rested_first rested_second s t x y from_a to_a from_b
    to_b left_x left_y =
    let d = g.D.Disk in
    let image = c.args.image.now in
    let one = c.create_both.ensures.first_moments honest_first honest_second
    (rested_first.idle (d.clock c.args.first) rested_first.began (omega arith)) in
    let two = c.create_both.ensures.second_moments honest_first honest_second
    (rested_second.idle (d.clock c.args.second) rested_second.began (omega arith)) in
    create_settles image x y c.requires.short
    (since_rested d a c.args.first c.create_both.new.first (WhileCreated image) rested_first
    (λ left is. inl is) one s x from_a to_a left_x)
    (since_rested d b c.args.second c.create_both.new.second IsUnused rested_second
    (λ left is. is) two t y from_b to_b left_y)

pub invariant_of-result : goal.invariant_of-result
invariant_of-result g c = record {
  within = omega (arith, c.requires.short);
  current_inside =
      λ honest'.
      let honest = subst IsTrue c.in-Ok.ensures.honesty_first honest' in
      omega (arith, c.in-Ok.ensures.first_there honest);
  other_inside = λ is honest'. c.in-Ok.ensures.second_there (subst IsTrue c.in-Ok.ensures.honesty_second honest');
}
