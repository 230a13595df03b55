use Rattle.std.proofs.Common.{[], length, drop, IsTrue, refl, sym, ap, subst, arith}
use Rattle.std.proofs.lemmas.Result.{on_ok_weaker}
use Rattle.ash_disk.proofs.MomentLaws.{goes_on_either}
use Rattle.ash_journal.specs.Writes.{IsUnused, WhileCommitted}
use Rattle.ash_journal.proofs.creation.start.Goals as goal

pub returns-clause-created : goal.returns-clause-created
returns-clause-created g c =
    on_ok_weaker c.commit.result
    (λ committed honest shut.
    let on = c.in_ok-clear.ensures.cleared honest shut in
    committed [] (drop 1 (g.D.Disk.seen c.args.first.now))
    (record {
      honest_disk = subst IsTrue (sym c.clear.ensures.honesty) honest;
      long = refl;
      bytes = on.bytes;
      durable = on.durable;
    }))
    c.commit.ensures.committed

pub returns-clause-first_moments : goal.returns-clause-first_moments
returns-clause-first_moments g c honest shut idle =
    let file = g.D.Disk.seen c.args.first.now in
    let on = c.in_ok-clear.ensures.cleared honest shut in
    goes_on_either _ _ _ _ _ _ IsUnused (WhileCommitted [] c.args.bytes.now (drop 1 file))
    (c.clear.ensures.moments honest shut idle)
    (c.commit.ensures.moments [] (drop 1 file) (record {
      honest_disk = subst IsTrue (sym c.clear.ensures.honesty) honest;
      long = refl;
      bytes = on.bytes;
      durable = on.durable;
    }))

pub commit-requires : goal.commit-requires
commit-requires g c = record {
  within = omega arith;
  inside =
      λ honest'.
      let honest = subst IsTrue c.clear.ensures.honesty honest' in
      omega (arith, ap length (c.in_ok-clear.ensures.cleared honest (c.requires.first_shut honest)).bytes);
}

pub returns-clause-first_there : goal.returns-clause-first_there
returns-clause-first_there g c =
    on_ok_weaker c.commit.result
    (λ there honest. omega (arith, there (subst IsTrue (sym c.clear.ensures.honesty) honest)))
    c.commit.ensures.there

pub returns-clause-second_there : goal.returns-clause-second_there
returns-clause-second_there g c =
    on_ok_weaker c.commit.result
    (λ there honest.
    omega (arith, ap length (c.in_ok-clear-2.ensures.cleared honest (c.requires.second_shut honest)).bytes))
    c.commit.ensures.there
