use Rattle.std.proofs.Common.{◌≡◌, ◌∙◌, ◌+◌, ◌∷◌, ◌++◌, [], IsTrue, List, ℕ, length, drop, not, false}
use Rattle.std.proofs.Common.{sym, ap, subst, arith}
use Rattle.ash_disk.specs.Device.{HoldsThroughout}
use Rattle.ash_journal.specs.declared.other_state.OtherState.TheVariants.{Older}
use Rattle.ash_journal.specs.Layout.{mark, block}
use Rattle.ash_journal.specs.Writes.{IsOn, WhileReplaced}
use Rattle.ash_journal.specs.OtherState.{is_older, first_of, second_of}
use Rattle.ash_journal.specs.Current.{IsContents, HoldsOneOf}
use Rattle.ash_journal.specs.Journal.{FilesAre, IsRepaired}
use Rattle.ash_journal.specs.SettledSince.{HoldsSince}
use Rattle.ash_journal.proofs.LayoutLaws.{length-generation}
use Rattle.ash_journal.proofs.PlacingLaws.{ready_shut, older_not_shut}
use Rattle.ash_journal.proofs.RunLaws.{run_swapped}
use Rattle.ash_journal.proofs.FilesLaws.{shut_other, install_files, install_run, ready_run}
use Rattle.ash_journal.proofs.journal.Journal.install_next.Goals as goal

pub replace-requires : goal.replace-requires
replace-requires g c = record {
  inside =
      λ closed honest.
      let ready = subst (λ j. IsRepaired j) (sym c.self.view_is) c.requires.ready.repaired in
      c.self.invariant.other_inside
      (ready_shut c.self.inside.stray c.self.inside.other_state ready closed) honest;
}

pub invariant_of-self : goal.invariant_of-self
invariant_of-self g c = record {
  within = c.self.invariant.within;
  current_inside = c.self.invariant.current_inside;
  other_inside =
      λ is honest'.
      let honest = subst IsTrue c.replace.ensures.honesty honest' in
      omega (arith, c.self.invariant.other_inside is honest, c.replace.ensures.no_shorter honest);
}

pub invariant_of-self-2 : goal.invariant_of-self-2
invariant_of-self-2 g c =
    let next = c.requires.next.1 in
    let long =
    length-generation (c.args.self.now.generation + 1) c.requires.next.0 c.args.next.bytes.items next.bytes_are in
    record {
      within = omega (arith, long, next.short);
      current_inside =
          λ honest_x.
          let honest' = subst (λ x. IsTrue (g.D.Disk.honest x)) c.swap.ensures.x_after honest_x in
          let honest = subst IsTrue c.replace.ensures.honesty honest' in
          omega (
            arith,
            c.in-Ok.ensures.there honest,
            ap (λ x. length (g.D.Disk.seen x)) c.swap.ensures.x_after,
            c.len.ensures,
            c.args.next.bytes.ok.0,
            c.deref.ensures.len,
            ap length c.deref.ensures.value,
          );
      other_inside = λ is honest. absurd (older_not_shut is);
    }

pub returns-in-Err-clause-run : goal.returns-in-Err-clause-run
returns-in-Err-clause-run g c =
    rw (← c.self.view_is) (λ image was bodies next holds.
    let d = g.D.Disk in
    let j = c.self.inside in
    let f = holds.files in
    let bytes_are : c.deref.result.now ≡ mark (j.generation + 1) ++ (block image ++ 0 ∷ []) =
    c.deref.ensures.value ∙ next.bytes_are in
    let shut = shut_other j.stray j.other_state j.generation (d.seen j.other) holds.repaired f.other_is in
    let call = c.replace.ensures.moments f.other_honest f.other_durable shut in
    let call' =
    subst (λ (l : List ℕ).
    HoldsThroughout d j.other c.replace.new.disk (WhileReplaced (is_older j.other_state) l (d.seen j.other))) bytes_are
    call in
    install_run d j.generation j.end j.record_bytes j.stray j.other_state j.current j.other c.replace.new.disk
    was bodies image f holds.repaired next.numbered next.short j.swapped call')

pub returns-clause-installed : goal.returns-clause-installed
returns-clause-installed g c =
    rw (← c.self.view_is) (λ image was bodies next holds.
    let d = g.D.Disk in
    let j = c.self.inside in
    let f = holds.files in
    let bytes_are : c.deref.result.now ≡ mark (j.generation + 1) ++ (block image ++ 0 ∷ []) =
    c.deref.ensures.value ∙ next.bytes_are in
    let shut = shut_other j.stray j.other_state j.generation (d.seen j.other) holds.repaired f.other_is in
    let on = c.in-Ok.ensures.replaced f.other_honest f.other_durable shut in
    let on' = subst
    (λ (l : List ℕ). IsOn d c.replace.new.disk (1 ∷ (l ++ drop (length l) (drop 1 (d.seen j.other))))) bytes_are
    on in
    let long = length-generation (j.generation + 1) image c.args.next.bytes.items next.bytes_are in
    let end : c.len.result ≡ 21 + length image = omega (arith, long, c.args.next.bytes.ok.0) in
    let files = install_files d j.generation j.end j.record_bytes j.stray j.other_state j.current j.other
    c.replace.new.disk was bodies image f holds.repaired next.numbered next.short c.len.result end
    c.replace.ensures.honesty on' in
    let files' =
    subst (λ x. FilesAre d (j.generation + 1) c.len.result 0 false Older x j.current image [])
    (sym c.swap.ensures.x_after) files in
    let files'' =
    subst (λ y. FilesAre d (j.generation + 1) c.len.result 0 false Older c.swap.new.x y image [])
    (sym c.swap.ensures.y_after) files' in
    let all = subst (λ (n : ℕ). FilesAre d n c.len.result 0 false Older c.swap.new.x c.swap.new.y image [])
    (sym next.number_is) files'' in
    record {
      files = all;
      repaired = tt;
      run = ready_run d c.args.next.number c.len.result 0 false Older (not j.swapped) c.swap.new.x c.swap.new.y
          image [] all tt;
    })

pub returns-clause-run : goal.returns-clause-run
returns-clause-run g c =
    rw (← c.self.view_is) (λ image was bodies next holds.
    let d = g.D.Disk in
    let j = c.self.inside in
    let f = holds.files in
    let bytes_are : c.deref.result.now ≡ mark (j.generation + 1) ++ (block image ++ 0 ∷ []) =
    c.deref.ensures.value ∙ next.bytes_are in
    let shut = shut_other j.stray j.other_state j.generation (d.seen j.other) holds.repaired f.other_is in
    let call = c.replace.ensures.moments f.other_honest f.other_durable shut in
    let call' =
    subst (λ (l : List ℕ).
    HoldsThroughout d j.other c.replace.new.disk (WhileReplaced (is_older j.other_state) l (d.seen j.other))) bytes_are
    call in
    let run = install_run d j.generation j.end j.record_bytes j.stray j.other_state j.current j.other c.replace.new.disk
    was bodies image f holds.repaired next.numbered next.short j.swapped call' in
    let swapped =
    run_swapped d j.swapped _ _ j.current c.replace.new.disk (HoldsOneOf (IsContents (image, [])) (IsContents (was, bodies))) run in
    let swapped' =
    subst (λ x. HoldsSince d (d.clock (first_of j.swapped j.current j.other))
    (d.clock (second_of j.swapped j.current j.other)) (first_of (not j.swapped) x j.current)
    (second_of (not j.swapped) x j.current) (HoldsOneOf (IsContents (image, [])) (IsContents (was, bodies))))
    (sym c.swap.ensures.x_after) swapped in
    subst (λ y. HoldsSince d (d.clock (first_of j.swapped j.current j.other)) (d.clock (second_of j.swapped j.current j.other))
    (first_of (not j.swapped) c.swap.new.x y) (second_of (not j.swapped) c.swap.new.x y)
    (HoldsOneOf (IsContents (image, [])) (IsContents (was, bodies)))) (sym c.swap.ensures.y_after) swapped')
