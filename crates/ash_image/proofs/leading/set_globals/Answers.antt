use Rattle.std.proofs.Common.{◌≡◌, length, refl, ap, subst, arith}
use Rattle.std.proofs.lemmas.List.{length-set}
use Rattle.std.proofs.lemmas.Option.{MatchOption-at_none}
use Rattle.ash_image.specs.DeltaViews.{indexed_of, all_indexed}
use Rattle.ash_image.specs.Leading.{AreThere}
use Rattle.ash_image.proofs.LeadingLaws.{set_last, left_there, none_left}
use Rattle.ash_image.proofs.leading.set_globals.Goals as goal

pub set_global-requires : goal.set_global-requires
set_global-requires c = record {
  within = (left_there indexed_of c.loop-indexed.listed.items c.pop.new.self.items c.in-Some.indexed _
      c.in-Some.ensures.items c.loop-indexed.invariant.there).1;
}

pub loop-indexed-preserved : goal.loop-indexed-preserved
loop-indexed-preserved c =
    let before = c.loop-indexed.globals.items in
    let after = c.set_global.new.globals.items in
    let there = left_there indexed_of c.loop-indexed.listed.items c.pop.new.self.items c.in-Some.indexed (length before)
    c.in-Some.ensures.items c.loop-indexed.invariant.there in
    let same : length before ≡ length after = omega (
      arith,
      ap length c.set_global.ensures.value,
      length-set before c.in-Some.indexed.index c.in-Some.indexed.word,
    ) in
    record {
      led = set_last indexed_of c.loop-indexed.listed.items c.pop.new.self.items c.in-Some.indexed before after _
          (length before) c.in-Some.ensures.items c.loop-indexed.invariant.there refl c.set_global.ensures.value
          c.loop-indexed.invariant.led;
      there = subst (λ (count : _). AreThere (all_indexed c.pop.new.self.items) count) same there.0;
    }

pub returns : goal.returns
returns c =
    let empty = (MatchOption-at_none _ _ c.in_default.is c.pop.ensures.cases).0 in
    record {
      led = none_left indexed_of c.loop-indexed.listed.items c.loop-indexed.globals.items _
          (omega (arith, empty, c.loop-indexed.listed.ok.0)) c.loop-indexed.invariant.led;
    }
