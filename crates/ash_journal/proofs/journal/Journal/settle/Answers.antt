use Rattle.std.proofs.Common.{◌∙◌, ◌∷◌, [], false, IsTrue, length, refl, sym, subst, inl, arith}
use Rattle.ash_disk.specs.Device.{HoldsThroughout}
use Rattle.ash_disk.proofs.MomentLaws.{at_start}
use Rattle.ash_journal.specs.Layout.{committed_bytes}
use Rattle.ash_journal.specs.Writes.{IsOn, WhileRepaired, repaired}
use Rattle.ash_journal.specs.OtherState.{is_stray}
use Rattle.ash_journal.specs.Journal.{FilesAre, NeedsNoRepair}
use Rattle.ash_journal.proofs.FilesLaws.{repaired_ready, settle_files, settle_extends, ready_run}
use Rattle.ash_journal.proofs.GateLaws.{none_written, both_written}
use Rattle.ash_journal.proofs.PlacingLaws.{repaired_other}
use Rattle.ash_journal.proofs.journal.Journal.settle.Goals as goal

pub returns-in-Err-clause-extends : goal.returns-in-Err-clause-extends
returns-in-Err-clause-extends g c =
    rw (← c.self.view_is) (λ image bodies f.
    let d = g.D.Disk in
    let j = c.self.inside in
    let one = c.repair.ensures.moments (committed_bytes j.generation image bodies) (f.gate ∷ f.after)
    (record {
      honest_disk = f.current_honest;
      long = sym f.end_is;
      bytes = f.bytes;
      durable = f.current_durable;
    }) in
    settle_extends d j.generation j.end j.record_bytes j.stray j.other_state j.current c.repair.new.disk j.other j.other
    image bodies f j.swapped
    (g.met.D.Disk.seen_may_stay j.current f.current_honest) (g.met.D.Disk.seen_may_stay j.other f.other_honest) one
    (at_start (d.clock j.other) (d.leaves j.other)
    (WhileRepaired (is_stray j.other_state) [] (d.seen j.other)) (λ y left. inl (f.other_durable y left))))

pub returns-in-Err-repair-clause-extends : goal.returns-in-Err-repair-clause-extends
returns-in-Err-repair-clause-extends g c =
    rw (← c.self.view_is) (λ image bodies f.
    let d = g.D.Disk in
    let j = c.self.inside in
    let one = c.repair.ensures.moments (committed_bytes j.generation image bodies) (f.gate ∷ f.after)
    (record {
      honest_disk = f.current_honest;
      long = sym f.end_is;
      bytes = f.bytes;
      durable = f.current_durable;
    }) in
    let two = c.repair-2.ensures.moments [] (d.seen j.other)
    (record { honest_disk = f.other_honest; long = refl; bytes = refl; durable = f.other_durable }) in
    settle_extends d j.generation j.end j.record_bytes j.stray j.other_state j.current c.repair.new.disk j.other
    c.repair-2.new.disk image bodies f j.swapped
    (g.met.D.Disk.seen_may_stay j.current f.current_honest) (g.met.D.Disk.seen_may_stay j.other f.other_honest) one
    (subst (λ stray. HoldsThroughout d j.other c.repair-2.new.disk (WhileRepaired stray [] (d.seen j.other)))
    c.is_stray.ensures.value two))

pub returns-clause-settled : goal.returns-clause-settled
returns-clause-settled g c =
    rw (← c.self.view_is) (λ image bodies f.
    let d = g.D.Disk in
    let j = c.self.inside in
    let on_c = c.in-Ok.ensures.repaired (committed_bytes j.generation image bodies) (f.gate ∷ f.after)
    (record {
      honest_disk = f.current_honest;
      long = sym f.end_is;
      bytes = f.bytes;
      durable = f.current_durable;
    }) in
    let on_o = c.in-Ok-repair.ensures.repaired [] (d.seen j.other)
    (record { honest_disk = f.other_honest; long = refl; bytes = refl; durable = f.other_durable }) in
    let on_o' = subst (λ stray. IsOn d c.repair-2.new.disk (repaired stray (d.seen j.other))) c.is_stray.ensures.value on_o in
    let files = settle_files d j.generation j.end j.record_bytes j.stray j.other_state j.current c.repair.new.disk
    j.other c.repair-2.new.disk image bodies f c.repair.ensures.honesty c.repair-2.ensures.honesty on_c on_o' in
    let files' =
    subst (λ other_state.
    FilesAre d j.generation j.end j.record_bytes false other_state c.repair.new.disk c.repair-2.new.disk image
    bodies) (sym c.repaired-self-inside.ensures.value) files in
    let ready = subst
    (λ other_state. NeedsNoRepair false other_state) (sym c.repaired-self-inside.ensures.value) (repaired_ready j.other_state) in
    record {
      files = files';
      repaired = ready;
      run = ready_run d j.generation j.end j.record_bytes false c.repaired-self-inside.result j.swapped c.repair.new.disk
          c.repair-2.new.disk image bodies files' ready;
    })

pub returns-clause-extends : goal.returns-clause-extends
returns-clause-extends g c =
    rw (← c.self.view_is) (λ image bodies f.
    let d = g.D.Disk in
    let j = c.self.inside in
    let one = c.repair.ensures.moments (committed_bytes j.generation image bodies) (f.gate ∷ f.after)
    (record {
      honest_disk = f.current_honest;
      long = sym f.end_is;
      bytes = f.bytes;
      durable = f.current_durable;
    }) in
    let two = c.repair-2.ensures.moments [] (d.seen j.other)
    (record { honest_disk = f.other_honest; long = refl; bytes = refl; durable = f.other_durable }) in
    settle_extends d j.generation j.end j.record_bytes j.stray j.other_state j.current c.repair.new.disk j.other
    c.repair-2.new.disk image bodies f j.swapped
    (g.met.D.Disk.seen_may_stay j.current f.current_honest) (g.met.D.Disk.seen_may_stay j.other f.other_honest) one
    (subst (λ stray. HoldsThroughout d j.other c.repair-2.new.disk (WhileRepaired stray [] (d.seen j.other)))
    c.is_stray.ensures.value two))

pub returns-in-Err-clause-gates : goal.returns-in-Err-clause-gates
returns-in-Err-clause-gates g c =
    rw (← c.self.view_is) (λ image bodies f.
    let d = g.D.Disk in
    let j = c.self.inside in
    let one = c.repair.ensures.only_gate (committed_bytes j.generation image bodies) (f.gate ∷ f.after)
    (record {
      honest_disk = f.current_honest;
      long = sym f.end_is;
      bytes = f.bytes;
      durable = f.current_durable;
    }) in
    let two = none_written d 0 j.other f.other_durable in
    let both = both_written d j.swapped j.end j.current c.repair.new.disk j.other j.other one two in
    record { in_first = both.0; in_second = both.1 })

pub returns-in-Err-repair-clause-gates : goal.returns-in-Err-repair-clause-gates
returns-in-Err-repair-clause-gates g c =
    rw (← c.self.view_is) (λ image bodies f.
    let d = g.D.Disk in
    let j = c.self.inside in
    let one = c.repair.ensures.only_gate (committed_bytes j.generation image bodies) (f.gate ∷ f.after)
    (record {
      honest_disk = f.current_honest;
      long = sym f.end_is;
      bytes = f.bytes;
      durable = f.current_durable;
    }) in
    let two = c.repair-2.ensures.only_gate [] (d.seen j.other)
    (record { honest_disk = f.other_honest; long = refl; bytes = refl; durable = f.other_durable }) in
    let both = both_written d j.swapped j.end j.current c.repair.new.disk j.other c.repair-2.new.disk one two in
    record { in_first = both.0; in_second = both.1 })

pub returns-clause-gates : goal.returns-clause-gates
returns-clause-gates g c =
    rw (← c.self.view_is) (λ image bodies f.
    let d = g.D.Disk in
    let j = c.self.inside in
    let one = c.repair.ensures.only_gate (committed_bytes j.generation image bodies) (f.gate ∷ f.after)
    (record {
      honest_disk = f.current_honest;
      long = sym f.end_is;
      bytes = f.bytes;
      durable = f.current_durable;
    }) in
    let two = c.repair-2.ensures.only_gate [] (d.seen j.other)
    (record { honest_disk = f.other_honest; long = refl; bytes = refl; durable = f.other_durable }) in
    let both = both_written d j.swapped j.end j.current c.repair.new.disk j.other c.repair-2.new.disk one two in
    record { in_first = both.0; in_second = both.1 })

pub repair-requires : goal.repair-requires
repair-requires g c = record { within = λ honest. omega (arith, c.self.invariant.current_inside honest) }

pub invariant_of-self : goal.invariant_of-self
invariant_of-self g c = record {
  within = c.self.invariant.within;
  current_inside =
      λ honest'.
      let honest = subst IsTrue c.repair.ensures.honesty honest' in
      omega (arith, c.self.invariant.current_inside honest, c.repair.ensures.no_shorter honest);
  other_inside = c.self.invariant.other_inside;
}

pub invariant_of-self-in-Err-repair : goal.invariant_of-self-in-Err-repair
invariant_of-self-in-Err-repair g c = record {
  within = c.self.invariant.within;
  current_inside =
      λ honest'.
      let honest = subst IsTrue c.repair.ensures.honesty honest' in
      omega (arith, c.self.invariant.current_inside honest, c.repair.ensures.no_shorter honest);
  other_inside =
      λ is honest'.
      let honest = subst IsTrue c.repair-2.ensures.honesty honest' in
      omega (arith, c.self.invariant.other_inside is honest, c.repair-2.ensures.no_shorter honest);
}

pub invariant_of-self-in-Ok-repair : goal.invariant_of-self-in-Ok-repair
invariant_of-self-in-Ok-repair g c = record {
  within = c.self.invariant.within;
  current_inside =
      λ honest'.
      let honest = subst IsTrue c.repair.ensures.honesty honest' in
      omega (arith, c.self.invariant.current_inside honest, c.repair.ensures.no_shorter honest);
  other_inside =
      λ is honest'.
      let honest = subst IsTrue c.repair-2.ensures.honesty honest' in
      repaired_other c.self.inside.other_state (length (g.D.Disk.seen c.self.inside.other))
      (length (g.D.Disk.seen c.repair-2.new.disk))
      (λ stray. c.in-Ok-repair.ensures.there (c.is_stray.ensures.value ∙ stray) honest)
      (c.repair-2.ensures.no_shorter honest)
      (λ shut. c.self.invariant.other_inside shut honest) (sym c.repaired-self-inside.ensures.value ∙ is);
}
