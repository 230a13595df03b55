use Rattle.std.proofs.Common.{◌∙◌, [], IsTrue, length, drop, refl, sym, subst, inl, arith}
use Rattle.std.proofs.lemmas.Result.{on_ok_weaker}
use Rattle.ash_disk.specs.Device.{HoldsThroughout}
use Rattle.ash_disk.proofs.MomentLaws.{goes_on_either, weaker}
use Rattle.ash_journal.specs.OtherState.{is_older}
use Rattle.ash_journal.specs.Writes.{WhileRepaired, WhileCommitted, WhileReplaced}
use Rattle.ash_journal.proofs.GateLaws.{repaired_shut, after_repair}
use Rattle.ash_journal.proofs.gate.replace.Goals as goal

pub returns-in_err-repair-clause-moments : goal.returns-in_err-repair-clause-moments
returns-in_err-repair-clause-moments g c honest only shut =
    let d = g.D.Disk in
    let file = d.seen c.args.disk.now in
    let call = c.repair.ensures.moments [] file
    (record { honest_disk = honest; long = refl; bytes = refl; durable = only }) in
    weaker _ _ _ _ (WhileRepaired (is_older c.args.state) [] file)
    (WhileReplaced (is_older c.args.state) c.args.bytes.now file) (λ image p. inl p)
    (subst (λ stray. HoldsThroughout d c.args.disk.now c.repair.new.disk (WhileRepaired stray [] file))
    c.is_older.ensures.value call)

pub returns-clause-replaced : goal.returns-clause-replaced
returns-clause-replaced g c =
    on_ok_weaker c.commit.result
    (λ committed honest only shut.
    let file = g.D.Disk.seen c.args.disk.now in
    let on = c.in_ok-repair.ensures.repaired [] file
    (record { honest_disk = honest; long = refl; bytes = refl; durable = only }) in
    committed [] (drop 1 file) (record {
      honest_disk = subst IsTrue (sym c.repair.ensures.honesty) honest;
      long = refl;
      bytes = on.bytes ∙ repaired_shut c.is_older.result file (λ closed. shut (sym c.is_older.ensures.value ∙ closed));
      durable = on.durable;
    }))
    c.commit.ensures.committed

pub returns-clause-moments : goal.returns-clause-moments
returns-clause-moments g c honest only shut =
    let d = g.D.Disk in
    let file = d.seen c.args.disk.now in
    let on = c.in_ok-repair.ensures.repaired [] file
    (record { honest_disk = honest; long = refl; bytes = refl; durable = only }) in
    let call = c.repair.ensures.moments [] file
    (record { honest_disk = honest; long = refl; bytes = refl; durable = only }) in
    goes_on_either _ _ _ _ _ _ (WhileRepaired (is_older c.args.state) [] file)
    (WhileCommitted [] c.args.bytes.now (drop 1 file))
    (subst (λ stray. HoldsThroughout d c.args.disk.now c.repair.new.disk (WhileRepaired stray [] file))
    c.is_older.ensures.value call)
    (c.commit.ensures.moments [] (drop 1 file) (record {
      honest_disk = subst IsTrue (sym c.repair.ensures.honesty) honest;
      long = refl;
      bytes = on.bytes ∙ repaired_shut c.is_older.result file (λ closed. shut (sym c.is_older.ensures.value ∙ closed));
      durable = on.durable;
    }))

pub commit-requires : goal.commit-requires
commit-requires g c = record {
  within = omega arith;
  inside =
      λ honest'.
      let honest = subst IsTrue c.repair.ensures.honesty honest' in
      after_repair c.is_older.result (length (g.D.Disk.seen c.args.disk.now)) (length (g.D.Disk.seen c.repair.new.disk))
      (λ stray. c.in_ok-repair.ensures.there stray honest) (c.repair.ensures.no_shorter honest)
      (λ closed. c.requires.inside (sym c.is_older.ensures.value ∙ closed) honest);
}

pub returns-clause-no_shorter : goal.returns-clause-no_shorter
returns-clause-no_shorter g c honest =
    let honest' = subst IsTrue (sym c.repair.ensures.honesty) honest in
    omega (arith, c.repair.ensures.no_shorter honest, c.commit.ensures.no_shorter honest')

pub returns-clause-there : goal.returns-clause-there
returns-clause-there g c =
    on_ok_weaker c.commit.result
    (λ there honest. omega (arith, there (subst IsTrue (sym c.repair.ensures.honesty) honest)))
    c.commit.ensures.there
