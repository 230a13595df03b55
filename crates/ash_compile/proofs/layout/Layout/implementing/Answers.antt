use Rattle.std.proofs.Common.{◌<◌, ℕ, length, sym, subst, arith}
use Rattle.std.proofs.lemmas.Option.{slice_get_within}
use Rattle.ash_compile.specs.ValidCode.{counts_of}
use Rattle.ash_compile.proofs.Emitted.{if_ok}
use Rattle.ash_compile.proofs.Counted.{method_counted, construction_counted}
use Rattle.ash_compile.proofs.layout.Layout.implementing.Goals as goal

pub returns-in-Some : goal.returns-in-Some
returns-in-Some c = record {
  place = λ slot m k is at low. c.in-Some.ensures.place slot m is (slice_get_within m.classes c.args.class k at);
  there = λ slot m is low. c.in-Some.ensures.there;
}

pub returns-in-None : goal.returns-in-None
returns-in-None c =
    let layout = c.args.self.now in
    record {
      place = if_ok c.construction.result
          (λ place first slot m k is at low.
          let here = method_counted slot m layout c.args.class c.args.method k is at low in
          let past = c.in-None.ensures.none slot m is (slice_get_within m.classes c.args.class k at) in
          absurd (omega (arith, here, past))) c.construction.ensures.place;
      there = if_ok c.construction.result
          (λ place first slot m is low.
          subst (λ (n : ℕ). n < length (counts_of layout)) (sym (first slot m is))
          (construction_counted slot m layout c.args.class is low)) c.construction.ensures.place;
    }
