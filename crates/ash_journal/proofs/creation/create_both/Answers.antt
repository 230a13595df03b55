use Rattle.std.proofs.Common.{◌≡◌, ◌∙◌, ◌∷◌, ◌++◌, [], ℕ, List, IsTrue, length, drop, inl, sym, subst, arith}
use Rattle.ash_disk.specs.Device.{HoldsThroughout}
use Rattle.ash_disk.proofs.MomentLaws.{weaker}
use Rattle.ash_journal.specs.Layout.{mark, block}
use Rattle.ash_journal.specs.Reading.{ShutIs}
use Rattle.ash_journal.specs.Writes.{IsOn, IsUnused, WhileStarted, WhileCreated}
use Rattle.ash_journal.proofs.LayoutLaws.{length-generation}
use Rattle.ash_journal.proofs.ReadLaws.{read_idle, idle_throughout, started_created}
use Rattle.ash_journal.proofs.creation.create_both.Goals as goal

pub returns-clause-created : goal.returns-clause-created
returns-clause-created g c honest_first honest_second =
    let d = g.D.Disk in
    let one = c.args.first.now in
    let two = c.args.second.now in
    let headers = c.in_ok-headers.ensures.answer honest_first honest_second in
    let shut = c.in-Some.ensures.gates (d.seen one) (d.seen two) headers in
    let bytes_are : c.deref.result.now ≡ mark 1 ++ (block c.args.image.now ++ 0 ∷ []) =
    c.deref.ensures.value ∙ c.in_ok-bytes.ensures.value in
    let first_read = c.in_ok-headers.ensures.first_read in
    let second_read = c.in_ok-headers.ensures.second_read in
    let first_shut =
    subst (λ (l : List ℕ). ShutIs c.in-Some.one.shut l) (sym (first_read.seen honest_first)) shut.0.1 in
    let second_shut =
    subst (λ (l : List ℕ). ShutIs c.in-Some.two.shut l) (sym (second_read.seen honest_second)) shut.1.1 in
    let honest_first' = subst IsTrue (sym first_read.honesty) honest_first in
    let honest_second' = subst IsTrue (sym second_read.honesty) honest_second in
    let on = c.in_ok-start.ensures.created honest_first' first_shut in
    let on' = subst
    (λ (l : List ℕ).
    IsOn d c.start.new.first (1 ∷ (l ++ drop (length l) (drop 1 (d.seen c.read_headers.new.first))))) bytes_are
    on in
    subst (λ (l : List ℕ).
    IsOn d c.start.new.first
    (1 ∷ ((mark 1 ++ (block c.args.image.now ++ 0 ∷ []))
    ++ drop (length (mark 1 ++ (block c.args.image.now ++ 0 ∷ []))) (drop 1 l)))) (first_read.seen honest_first) on'

pub returns-clause-second_cleared : goal.returns-clause-second_cleared
returns-clause-second_cleared g c honest_first honest_second =
    let d = g.D.Disk in
    let one = c.args.first.now in
    let two = c.args.second.now in
    let headers = c.in_ok-headers.ensures.answer honest_first honest_second in
    let shut = c.in-Some.ensures.gates (d.seen one) (d.seen two) headers in
    let bytes_are : c.deref.result.now ≡ mark 1 ++ (block c.args.image.now ++ 0 ∷ []) =
    c.deref.ensures.value ∙ c.in_ok-bytes.ensures.value in
    let first_read = c.in_ok-headers.ensures.first_read in
    let second_read = c.in_ok-headers.ensures.second_read in
    let first_shut =
    subst (λ (l : List ℕ). ShutIs c.in-Some.one.shut l) (sym (first_read.seen honest_first)) shut.0.1 in
    let second_shut =
    subst (λ (l : List ℕ). ShutIs c.in-Some.two.shut l) (sym (second_read.seen honest_second)) shut.1.1 in
    let honest_first' = subst IsTrue (sym first_read.honesty) honest_first in
    let honest_second' = subst IsTrue (sym second_read.honesty) honest_second in
    let on = c.in_ok-start.ensures.second_cleared honest_second' second_shut in
    subst (λ (l : List ℕ). IsOn d c.start.new.second (0 ∷ drop 1 l)) (second_read.seen honest_second) on

pub returns-clause-first_moments : goal.returns-clause-first_moments
returns-clause-first_moments g c honest_first honest_second idle =
    let d = g.D.Disk in
    let one = c.args.first.now in
    let two = c.args.second.now in
    let headers = c.in_ok-headers.ensures.answer honest_first honest_second in
    let shut = c.in-Some.ensures.gates (d.seen one) (d.seen two) headers in
    let bytes_are : c.deref.result.now ≡ mark 1 ++ (block c.args.image.now ++ 0 ∷ []) =
    c.deref.ensures.value ∙ c.in_ok-bytes.ensures.value in
    let first_read = c.in_ok-headers.ensures.first_read in
    let second_read = c.in_ok-headers.ensures.second_read in
    let first_shut =
    subst (λ (l : List ℕ). ShutIs c.in-Some.one.shut l) (sym (first_read.seen honest_first)) shut.0.1 in
    let second_shut =
    subst (λ (l : List ℕ). ShutIs c.in-Some.two.shut l) (sym (second_read.seen honest_second)) shut.1.1 in
    let honest_first' = subst IsTrue (sym first_read.honesty) honest_first in
    let honest_second' = subst IsTrue (sym second_read.honesty) honest_second in
    let call = c.start.ensures.first_moments honest_first' first_shut
    (read_idle d one c.read_headers.new.first honest_first first_read idle) in
    let call' = subst
    (λ (l : List ℕ).
    HoldsThroughout d c.read_headers.new.first c.start.new.first (WhileStarted l (d.seen c.read_headers.new.first)))
    bytes_are call in
    idle_throughout d one c.read_headers.new.first c.start.new.first (WhileCreated c.args.image.now) honest_first
    first_read idle (λ image is. inl is)
    (weaker _ _ _ _ (WhileStarted (mark 1 ++ (block c.args.image.now ++ 0 ∷ [])) (d.seen c.read_headers.new.first))
    (WhileCreated c.args.image.now) (started_created c.args.image.now (d.seen c.read_headers.new.first)) call')

pub returns-in_err-start-clause-first_moments : goal.returns-in_err-start-clause-first_moments
returns-in_err-start-clause-first_moments g c honest_first honest_second idle =
    let d = g.D.Disk in
    let one = c.args.first.now in
    let two = c.args.second.now in
    let headers = c.in_ok-headers.ensures.answer honest_first honest_second in
    let shut = c.in-Some.ensures.gates (d.seen one) (d.seen two) headers in
    let bytes_are : c.deref.result.now ≡ mark 1 ++ (block c.args.image.now ++ 0 ∷ []) =
    c.deref.ensures.value ∙ c.in_ok-bytes.ensures.value in
    let first_read = c.in_ok-headers.ensures.first_read in
    let second_read = c.in_ok-headers.ensures.second_read in
    let first_shut =
    subst (λ (l : List ℕ). ShutIs c.in-Some.one.shut l) (sym (first_read.seen honest_first)) shut.0.1 in
    let second_shut =
    subst (λ (l : List ℕ). ShutIs c.in-Some.two.shut l) (sym (second_read.seen honest_second)) shut.1.1 in
    let honest_first' = subst IsTrue (sym first_read.honesty) honest_first in
    let honest_second' = subst IsTrue (sym second_read.honesty) honest_second in
    let call = c.start.ensures.first_moments honest_first' first_shut
    (read_idle d one c.read_headers.new.first honest_first first_read idle) in
    let call' = subst
    (λ (l : List ℕ).
    HoldsThroughout d c.read_headers.new.first c.start.new.first (WhileStarted l (d.seen c.read_headers.new.first)))
    bytes_are call in
    idle_throughout d one c.read_headers.new.first c.start.new.first (WhileCreated c.args.image.now) honest_first
    first_read idle (λ image is. inl is)
    (weaker _ _ _ _ (WhileStarted (mark 1 ++ (block c.args.image.now ++ 0 ∷ [])) (d.seen c.read_headers.new.first))
    (WhileCreated c.args.image.now) (started_created c.args.image.now (d.seen c.read_headers.new.first)) call')

pub returns-clause-second_moments : goal.returns-clause-second_moments
returns-clause-second_moments g c honest_first honest_second idle =
    let d = g.D.Disk in
    let one = c.args.first.now in
    let two = c.args.second.now in
    let headers = c.in_ok-headers.ensures.answer honest_first honest_second in
    let shut = c.in-Some.ensures.gates (d.seen one) (d.seen two) headers in
    let bytes_are : c.deref.result.now ≡ mark 1 ++ (block c.args.image.now ++ 0 ∷ []) =
    c.deref.ensures.value ∙ c.in_ok-bytes.ensures.value in
    let first_read = c.in_ok-headers.ensures.first_read in
    let second_read = c.in_ok-headers.ensures.second_read in
    let first_shut =
    subst (λ (l : List ℕ). ShutIs c.in-Some.one.shut l) (sym (first_read.seen honest_first)) shut.0.1 in
    let second_shut =
    subst (λ (l : List ℕ). ShutIs c.in-Some.two.shut l) (sym (second_read.seen honest_second)) shut.1.1 in
    let honest_first' = subst IsTrue (sym first_read.honesty) honest_first in
    let honest_second' = subst IsTrue (sym second_read.honesty) honest_second in
    let call = c.start.ensures.second_moments honest_second' second_shut
    (read_idle d two c.read_headers.new.second honest_second second_read idle) in
    idle_throughout d two c.read_headers.new.second c.start.new.second IsUnused honest_second second_read idle
    (λ image is. is) call

pub returns-in_err-start-clause-second_moments : goal.returns-in_err-start-clause-second_moments
returns-in_err-start-clause-second_moments g c honest_first honest_second idle =
    let d = g.D.Disk in
    let one = c.args.first.now in
    let two = c.args.second.now in
    let headers = c.in_ok-headers.ensures.answer honest_first honest_second in
    let shut = c.in-Some.ensures.gates (d.seen one) (d.seen two) headers in
    let bytes_are : c.deref.result.now ≡ mark 1 ++ (block c.args.image.now ++ 0 ∷ []) =
    c.deref.ensures.value ∙ c.in_ok-bytes.ensures.value in
    let first_read = c.in_ok-headers.ensures.first_read in
    let second_read = c.in_ok-headers.ensures.second_read in
    let first_shut =
    subst (λ (l : List ℕ). ShutIs c.in-Some.one.shut l) (sym (first_read.seen honest_first)) shut.0.1 in
    let second_shut =
    subst (λ (l : List ℕ). ShutIs c.in-Some.two.shut l) (sym (second_read.seen honest_second)) shut.1.1 in
    let honest_first' = subst IsTrue (sym first_read.honesty) honest_first in
    let honest_second' = subst IsTrue (sym second_read.honesty) honest_second in
    let call = c.start.ensures.second_moments honest_second' second_shut
    (read_idle d two c.read_headers.new.second honest_second second_read idle) in
    idle_throughout d two c.read_headers.new.second c.start.new.second IsUnused honest_second second_read idle
    (λ image is. is) call

pub start-requires : goal.start-requires
start-requires g c = record {
  first_shut =
      λ honest'.
      let read = c.in_ok-headers.ensures.first_read in
      let honest = subst IsTrue read.honesty honest' in
      subst (λ (l : List ℕ). ShutIs c.in-Some.one.shut l) (sym (read.seen honest))
      (c.in-Some.ensures.first (g.D.Disk.seen c.args.first.now) (c.in_ok-headers.ensures.first_header honest));
  second_shut =
      λ honest'.
      let read = c.in_ok-headers.ensures.second_read in
      let honest = subst IsTrue read.honesty honest' in
      subst (λ (l : List ℕ). ShutIs c.in-Some.two.shut l) (sym (read.seen honest))
      (c.in-Some.ensures.second (g.D.Disk.seen c.args.second.now) (c.in_ok-headers.ensures.second_header honest));
}

pub returns-clause-first_there : goal.returns-clause-first_there
returns-clause-first_there g c honest =
    let bytes_are : c.deref.result.now ≡ mark 1 ++ (block c.args.image.now ++ 0 ∷ []) =
    c.deref.ensures.value ∙ c.in_ok-bytes.ensures.value in
    let honest' = subst IsTrue (sym c.in_ok-headers.ensures.first_read.honesty) honest in
    omega (
      arith,
      c.in_ok-start.ensures.first_there honest',
      length-generation 1 c.args.image.now c.deref.result.now bytes_are,
    )

pub returns-clause-second_there : goal.returns-clause-second_there
returns-clause-second_there g c honest =
    c.in_ok-start.ensures.second_there (subst IsTrue (sym c.in_ok-headers.ensures.second_read.honesty) honest)
