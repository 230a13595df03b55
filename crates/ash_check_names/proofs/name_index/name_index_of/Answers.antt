use Rattle.std.proofs.Common.{◌≡◌, ◌+◌, ◌-◌, ℕ, List, [], sym, subst, drop, get_or, arith}
use Rattle.std.specs.Borrow.{Bor}
use Rattle.ash_check_names.specs.NameIndex.{texts}
use Rattle.ash_check_names.proofs.IndexLaws.{ArePlacesFrom, placed_before, placed_from_none, from_next}
use Rattle.ash_check_names.proofs.name_index.name_index_of.Goals as goal

nothing : Bor (List ℕ)
nothing = record { ref_ptr = (0, 0); now = [] }

pub loop-place-preserved : goal.loop-place-preserved
unfolding nothing
loop-place-preserved c =
    let names = c.args.names.now in
    let place = c.loop-place.place - 1 in
    let next : c.loop-place.place ≡ place + 1 = omega arith in
    let others = subst (λ n. ArePlacesFrom n c.loop-place.places (texts (drop n names))) next c.loop-place.invariant in
    subst (ArePlacesFrom place c.insert.new.self) (sym (from_next names place nothing (omega arith)))
    (placed_before c.loop-place.places c.insert.new.self place (get_or names place nothing).now (texts (drop (place + 1) names)) others c.in_ok-insert.ensures.updates)

pub returns : goal.returns
returns c = record {
  name_index =
      let none : c.loop-place.place ≡ 0 = omega arith in
      placed_from_none c.loop-place.places (texts c.args.names.now) (subst (λ n. ArePlacesFrom n c.loop-place.places (texts (drop n c.args.names.now))) none c.loop-place.invariant);
}
