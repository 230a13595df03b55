use Rattle.std.proofs.Common.{◌≡◌, ◌∙◌, ◌++◌, ◌∷◌, ◌<◌, [], ℕ, List, get_or, length, map, nat_lt, take, true, sym, ap}
use Rattle.std.proofs.Common.{arith}
use Rattle.std.specs.List.{list_all}
use Rattle.std.proofs.lemmas.Option.{slice_get-get_or}
use Rattle.std.proofs.lemmas.Bool.Decides.{nat_tests}
use Rattle.std.proofs.lemmas.List.{map_more, take_all}
use Rattle.ash_meaning.specs.Classes.{Method}
use Rattle.ash_compile.specs.Layout.{index_of}
use Rattle.ash_compile.specs.ValidCode.{counts_of}
use Rattle.ash_compile.proofs.Listings.{all_more, all_there}
use Rattle.ash_compile.proofs.ValidSteps.{lower}
use Rattle.ash_compile.proofs.classes.method_codes.Goals as goal

pub loop-method-init : goal.loop-method-init
loop-method-init c =
    let many = length (counts_of c.args.layout.now) in (
      λ slot m k is at has. c.in_ok-codes.ensures.items,
      λ slot m is low. ap (list_all (λ (code : ℕ). nat_lt code many)) c.in_ok-codes.ensures.items,
    )

pub loop-method-preserved : goal.loop-method-preserved
loop-method-preserved c =
    let l = c.loop-method in
    let methods = c.args.methods.now in
    let many = length (counts_of c.args.layout.now) in (
      λ slot m k is at has.
          let f = λ (own : ℕ). index_of m (Method c.args.class own) in
          let own = get_or methods l.method-index 0 in
          let low : own < length k.methods
          = from_test own (length k.methods)
          (all_there (λ (n : ℕ). nat_lt n (length k.methods)) methods l.method-index own has
          (slice_get-get_or methods l.method-index 0 c.loop-method-test.true)) in
          c.in_ok-push.ensures.items
          ∙ ap (λ (ks : List ℕ). ks ++ c.in_ok-code.code ∷ []) (l.invariant.0 slot m k is at has)
          ∙ ap (λ (n : ℕ). map f (take l.method-index methods) ++ n ∷ [])
          (c.in_ok-code.ensures.place slot m k is at low)
          ∙ sym (map_more f methods l.method-index 0 c.loop-method-test.true),
      λ slot m is low.
          all_more (λ (code : ℕ). nat_lt code many) l.codes.items c.push.new.self.items c.in_ok-code.code
          c.in_ok-push.ensures.items (l.invariant.1 slot m is low)
          (lower c.in_ok-code.code many (c.in_ok-code.ensures.there slot m is low)),
    )
  where
    from_test : (a b : ℕ) → nat_lt a b ≡ true → a < b
    from_test a b is = grind (arith, nat_tests)

pub returns : goal.returns
returns c = record {
  methods = λ slot m k is at has.
      c.loop-method.invariant.0 slot m k is at has
      ∙ ap (map (λ (own : ℕ). index_of m (Method c.args.class own)))
      (take_all c.loop-method.method-index c.args.methods.now c.loop-method-test.false);
  there = c.loop-method.invariant.1;
}
