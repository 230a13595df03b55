use Rattle.std.proofs.Common.{◌≡◌, ◌+◌, ◌∙◌, ◌∷◌, ◌++◌, [], IsTrue, List, ℕ, length, drop, sym, subst, ap, arith}
use Rattle.ash_disk.specs.Device.{HoldsThroughout}
use Rattle.ash_journal.specs.Current.{IsContents}
use Rattle.ash_journal.specs.OtherState.{first_of, second_of}
use Rattle.ash_journal.specs.Layout.{block, committed_bytes}
use Rattle.ash_journal.specs.Writes.{IsOn, WhileCommitted}
use Rattle.ash_journal.proofs.FilesLaws.{at_rest, append_files, append_extends, ready_run, record_long}
use Rattle.ash_journal.proofs.RunLaws.{same_extends}
use Rattle.ash_journal.proofs.journal.Journal.append.Goals as goal

pub returns-in_err-bytes-clause-extends : goal.returns-in_err-bytes-clause-extends
returns-in_err-bytes-clause-extends g c =
    rw (← c.self.view_is) (λ image bodies holds.
    same_extends g.D.Disk (first_of c.self.inside.swapped c.self.inside.current c.self.inside.other)
    (second_of c.self.inside.swapped c.self.inside.current c.self.inside.other)
    (IsContents (image, bodies ++ c.args.body.now ∷ [])))

pub returns-in-Err-clause-extends : goal.returns-in-Err-clause-extends
returns-in-Err-clause-extends g c =
    rw (← c.self.view_is) (λ image bodies holds.
    let d = g.D.Disk in
    let j = c.self.inside in
    let f = holds.files in
    let bytes_are : c.deref.result.now ≡ block c.args.body.now ++ 0 ∷ [] = c.deref.ensures.value ∙ c.in_ok-bytes.ensures.value in
    let prefix = committed_bytes j.generation image bodies in
    let rests = at_rest d j.generation j.end j.record_bytes j.stray j.other_state j.current c.commit.new.disk j.other
    image bodies c.args.body.now f holds.repaired c.requires.short in
    let call = c.commit.ensures.moments prefix f.after
    (record { honest_disk = f.current_honest; long = sym f.end_is; bytes = rests; durable = f.current_durable }) in
    append_extends d j.generation j.end j.record_bytes j.stray j.other_state j.current c.commit.new.disk j.other image
    bodies c.args.body.now f holds.repaired c.requires.short j.swapped
    (g.met.D.Disk.seen_may_stay j.current f.current_honest) (g.met.D.Disk.seen_may_stay j.other f.other_honest)
    (subst (λ (l : List ℕ). HoldsThroughout d j.current c.commit.new.disk (WhileCommitted prefix l f.after)) bytes_are call))

pub returns-clause-acknowledged : goal.returns-clause-acknowledged
returns-clause-acknowledged g c =
    rw (← c.self.view_is) (λ image bodies holds.
    let d = g.D.Disk in
    let j = c.self.inside in
    let f = holds.files in
    let bytes_are : c.deref.result.now ≡ block c.args.body.now ++ 0 ∷ [] = c.deref.ensures.value ∙ c.in_ok-bytes.ensures.value in
    let prefix = committed_bytes j.generation image bodies in
    let rests = at_rest d j.generation j.end j.record_bytes j.stray j.other_state j.current c.commit.new.disk j.other
    image bodies c.args.body.now f holds.repaired c.requires.short in
    let on = c.in-Ok.ensures.committed prefix f.after
    (record { honest_disk = f.current_honest; long = sym f.end_is; bytes = rests; durable = f.current_durable }) in
    let on' = subst
    (λ (l : List ℕ). IsOn d c.commit.new.disk (prefix ++ 1 ∷ (l ++ drop (length l) f.after))) bytes_are on in
    let added : c.len-added.result ≡ 5 + length c.args.body.now =
    omega (arith, c.len-added.ensures, ap length bytes_are, c.deref.ensures.len, record_long c.args.body.now) in
    let files = append_files d j.generation j.end j.record_bytes j.stray j.other_state j.current c.commit.new.disk
    j.other image bodies c.args.body.now f holds.repaired c.requires.short c.len-added.result added
    c.commit.ensures.honesty on' in
    record {
      files = files;
      repaired = holds.repaired;
      run = ready_run d j.generation _ _ j.stray j.other_state j.swapped c.commit.new.disk j.other image
          (bodies ++ c.args.body.now ∷ []) files holds.repaired;
    })

pub returns-clause-extends : goal.returns-clause-extends
returns-clause-extends g c =
    rw (← c.self.view_is) (λ image bodies holds.
    let d = g.D.Disk in
    let j = c.self.inside in
    let f = holds.files in
    let bytes_are : c.deref.result.now ≡ block c.args.body.now ++ 0 ∷ [] = c.deref.ensures.value ∙ c.in_ok-bytes.ensures.value in
    let prefix = committed_bytes j.generation image bodies in
    let rests = at_rest d j.generation j.end j.record_bytes j.stray j.other_state j.current c.commit.new.disk j.other
    image bodies c.args.body.now f holds.repaired c.requires.short in
    let call = c.commit.ensures.moments prefix f.after
    (record { honest_disk = f.current_honest; long = sym f.end_is; bytes = rests; durable = f.current_durable }) in
    append_extends d j.generation j.end j.record_bytes j.stray j.other_state j.current c.commit.new.disk j.other image
    bodies c.args.body.now f holds.repaired c.requires.short j.swapped
    (g.met.D.Disk.seen_may_stay j.current f.current_honest) (g.met.D.Disk.seen_may_stay j.other f.other_honest)
    (subst (λ (l : List ℕ). HoldsThroughout d j.current c.commit.new.disk (WhileCommitted prefix l f.after)) bytes_are call))

pub returns-clause-longer : goal.returns-clause-longer
returns-clause-longer g c =
    rw (← c.self.view_is) (
    let bytes_are : c.deref.result.now ≡ block c.args.body.now ++ 0 ∷ [] = c.deref.ensures.value ∙ c.in_ok-bytes.ensures.value in
    omega (arith, c.len-added.ensures, ap length bytes_are, c.deref.ensures.len, record_long c.args.body.now))

pub commit-requires : goal.commit-requires
commit-requires g c = record {
  within = omega (
    arith,
    c.self.invariant.within,
    ap (λ j. j.record_bytes) c.self.view_is,
    c.requires.room,
  );
  inside = c.self.invariant.current_inside;
}

pub invariant_of-self : goal.invariant_of-self
invariant_of-self g c = record {
  within = c.self.invariant.within;
  current_inside =
      λ honest'.
      let honest = subst IsTrue c.commit.ensures.honesty honest' in
      omega (arith, c.self.invariant.current_inside honest, c.commit.ensures.no_shorter honest);
  other_inside = c.self.invariant.other_inside;
}

pub invariant_of-self-2 : goal.invariant_of-self-2
invariant_of-self-2 g c = record {
  within = omega (arith, c.self.invariant.within);
  current_inside =
      λ honest'.
      let honest = subst IsTrue c.commit.ensures.honesty honest' in
      omega (arith, c.in-Ok.ensures.there honest, c.len-added.ensures, c.deref.ensures.len);
  other_inside = c.self.invariant.other_inside;
}
