use Rattle.std.proofs.Common.{◌≡◌, ◌∙◌, sym, map, arith, true, false}
use Rattle.std.proofs.lemmas.List.{length-map}
use Rattle.std.proofs.lemmas.Result.{err_from_is_err_and}
use Rattle.ash_lex.specs.declared.signs.Sign.TheVariants as signs
use Rattle.ash_tree.specs.GrammarTokens.{tokens_of, placed}
use Rattle.ash_tree.specs.TreeViews.{type_of}
use Rattle.ash_parse.specs.Readers.{put, next_is_sign}
use Rattle.ash_parse.specs.ItemReader.{more_unnamed_at, next_unnamed_at}
use Rattle.ash_parse.proofs.Loop.{goes_on as go_on, ends, is_done}
use Rattle.ash_parse.proofs.ExpressionLoops.{no_sign_left}
use Rattle.ash_parse.proofs.ItemShorter.{next_unnamed_shrinks}
use Rattle.ash_parse.proofs.declarations.more_unnamed.Goals as goal

pub returns-in_err-next : goal.returns-in_err-next
unfolding more_unnamed_at
returns-in_err-next c = record {
  parsed =
      let p = err_from_is_err_and c.from_residual-in_err-next.result c.from_residual-in_err-next.ensures.1 in
      let more : next_is_sign signs.Comma (tokens_of c.more.rest.now) ≡ true = sym c.next_is_sign.ensures.value ∙ c.more-test.true in
      rw (p.1, p.2) (ends (next_is_sign signs.Comma) (next_unnamed_at) (next_unnamed_shrinks) (no_sign_left signs.Comma) c.in_err-next.field-0.0 (map type_of c.more.all.items) (tokens_of c.more.rest.now) (put (type_of c.args.first) (more_unnamed_at (tokens_of c.args.tokens.now))) more c.in_err-next.ensures.parsed c.more.invariant);
}

pub more-smaller : goal.more-smaller
more-smaller c =
    let shorter = next_unnamed_shrinks (tokens_of c.more.rest.now) (type_of c.in_ok-next.next) (tokens_of c.in_ok-next.after.now) c.in_ok-next.ensures.parsed in
    omega (arith, shorter, length-map c.more.rest.now placed, length-map c.in_ok-next.after.now placed)

pub more-preserved : goal.more-preserved
unfolding more_unnamed_at
more-preserved c =
    let more : next_is_sign signs.Comma (tokens_of c.more.rest.now) ≡ true = sym c.next_is_sign.ensures.value ∙ c.more-test.true in
    rw c.in_ok-push-2.ensures.items (go_on (next_is_sign signs.Comma) (next_unnamed_at) (next_unnamed_shrinks) (no_sign_left signs.Comma) type_of c.more.all.items c.in_ok-next.next (tokens_of c.more.rest.now) (tokens_of c.in_ok-next.after.now) (put (type_of c.args.first) (more_unnamed_at (tokens_of c.args.tokens.now))) more c.in_ok-next.ensures.parsed c.more.invariant)

pub returns : goal.returns
unfolding more_unnamed_at
returns c = record {
  parsed =
      let more : next_is_sign signs.Comma (tokens_of c.more.rest.now) ≡ false = sym c.next_is_sign.ensures.value ∙ c.more-test.false in
      is_done (next_is_sign signs.Comma) (next_unnamed_at) (next_unnamed_shrinks) (no_sign_left signs.Comma) (map type_of c.more.all.items) (tokens_of c.more.rest.now) (put (type_of c.args.first) (more_unnamed_at (tokens_of c.args.tokens.now))) more c.more.invariant;
}
