use Rattle.std.proofs.Common.{◌≡◌, ℕ, List, [], ◌<◌, ◌∙◌, length, get_or, sym, subst, inl, inr, arith, None, Vec}
use Rattle.std.proofs.Common.{Global}
use Rattle.std.proofs.lemmas.List.{length-map}
use Rattle.std.proofs.lemmas.Bool.{cases_lt}
use Rattle.std.specs.List.{Contains}
use Rattle.ash_class_cycles.specs.Marking.{rows_of, Goes, IsAt}
use Rattle.ash_class_cycles.proofs.Rounds.{row_read}
use Rattle.ash_class_cycles.proofs.Ranked.{row_of_place}
use Rattle.ash_class_cycles.proofs.PathsBack.{same_mark, other_mark, found_in, missed_in}
use Rattle.ash_class_cycles.proofs.cycles.nearest.Goals as goal
use Rattle.ash_class_cycles.proofs.cycles.nearest.Goals.{else-eq-via-then-eq+else-contains, else-eq-via-else-eq}

pub returns-then-contains : goal.returns-then-contains
returns-then-contains c = record {
  nearest =
      let place : ℕ = c.loop-place.place in
      let is_row : get_or (rows_of c.args.referrers.now) place [] ≡ c.deref.result.now =
      row_read c.args.referrers.now place c.index-referrers-place.result c.loop-place-test.true
      c.index-referrers-place.is ∙ sym c.deref.ensures.value in
      let goes : Goes (rows_of c.args.referrers.now) c.args.from place =
      subst (λ (r : List ℕ). Contains r c.args.from) (sym is_row)
      (found_in c.deref.result.now c.args.from c.if-contains.ensures.cases) in (
        goes,
        same_mark (get_or c.args.distances.now place None) c.args.distance (sym c.if-eq.ensures),
        λ other step at.
            elim (cases_lt other place) [
              | inl lower ↦ absurd (c.loop-place.invariant other lower step at)
              | inr higher ↦ higher
            ],
      );
}

pub loop-place-preserved : goal.loop-place-preserved
loop-place-preserved c = λ other less step at. elim (cases_lt other c.loop-place.place) [
  | inl lower ↦ c.loop-place.invariant other lower step at
  | inr higher ↦
      let e : other ≡ c.loop-place.place = omega (arith, less, higher) in
      elim c.else-eq.branch [
        | else-eq-via-then-eq+else-contains w ↦
            let is_row : get_or (rows_of c.args.referrers.now) c.loop-place.place [] ≡ w.deref.result.now =
            row_read c.args.referrers.now c.loop-place.place c.index-referrers-place.result c.loop-place-test.true
            c.index-referrers-place.is ∙ sym w.deref.ensures.value in
            let goes : Goes (rows_of c.args.referrers.now) c.args.from c.loop-place.place =
            subst (λ (k : ℕ). Goes (rows_of c.args.referrers.now) c.args.from k) e step in
            missed_in w.deref.result.now c.args.from w.if-contains.ensures.cases
            (subst (λ (r : List ℕ). Contains r c.args.from) is_row goes)
        | else-eq-via-else-eq w ↦
            other_mark (get_or c.args.distances.now c.loop-place.place None) c.args.distance (sym w.if-eq.ensures)
            (subst (λ (k : ℕ). IsAt c.args.distances.now k c.args.distance) e at)
      ]
]

pub returns : goal.returns
returns c = record {
  nearest =
      λ place step at.
      c.loop-place.invariant place
      (let low : place < length (rows_of c.args.referrers.now) =
      row_of_place (rows_of c.args.referrers.now) c.args.from place step in
      omega (arith, low, length-map c.args.referrers.now (λ (v : Vec ℕ Global). v.items), c.loop-place-test.false)) step
      at;
}
