use Rattle.std.proofs.Common.{◌≡◌, ◌∙◌, ap, sym, true, false, length, ◌<◌, arith}
use Rattle.std.proofs.lemmas.List.{length-map}
use Rattle.ash_lex.specs.declared.signs.Sign.TheVariants as signs
use Rattle.ash_tree.specs.GrammarTokens.{tokens_of, placed}
use Rattle.ash_parse.specs.Readers.{next_is_sign}
use Rattle.ash_parse.specs.ItemReader.{strip, without_first}
use Rattle.ash_parse.proofs.ItemShorter.{strip-more, strip-done, without_first-shorter}
use Rattle.ash_parse.proofs.items.strip.Goals as goal

pub more-smaller : goal.more-smaller
more-smaller c =
    let more : next_is_sign signs.Semicolon (tokens_of c.more.rest.now) ≡ true = sym c.next_is_sign.ensures.value ∙ c.more-test.true in
    let shorter : length (without_first (tokens_of c.more.rest.now)) < length (tokens_of c.more.rest.now) = without_first-shorter (tokens_of c.more.rest.now) more in
    let same : length (tokens_of c.without_first-rest.result.now) ≡ length (without_first (tokens_of c.more.rest.now)) = ap length c.without_first-rest.ensures.value in
    omega (arith, shorter, same, length-map c.more.rest.now placed, length-map c.without_first-rest.result.now placed)

pub more-preserved : goal.more-preserved
more-preserved c =
    let more : next_is_sign signs.Semicolon (tokens_of c.more.rest.now) ≡ true = sym c.next_is_sign.ensures.value ∙ c.more-test.true in
    ap strip c.without_first-rest.ensures.value ∙ sym (strip-more (tokens_of c.more.rest.now) more) ∙ c.more.invariant

pub returns : goal.returns
returns c = record {
  value =
      let more : next_is_sign signs.Semicolon (tokens_of c.more.rest.now) ≡ false = sym c.next_is_sign.ensures.value ∙ c.more-test.false in
      sym (strip-done (tokens_of c.more.rest.now) more) ∙ c.more.invariant;
}
