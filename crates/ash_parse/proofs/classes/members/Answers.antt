use Rattle.std.proofs.Common.{◌≡◌, ◌∙◌, sym, map, arith, true, false}
use Rattle.std.proofs.lemmas.List.{length-map}
use Rattle.std.proofs.lemmas.Result.{err_from_is_err_and}
use Rattle.ash_tree.specs.GrammarTokens.{tokens_of, placed}
use Rattle.ash_tree.specs.TreeViews.{member_of}
use Rattle.ash_parse.specs.StatementReader.{goes_on}
use Rattle.ash_parse.specs.ItemReader.{members_at, member_at}
use Rattle.ash_parse.proofs.Loop.{goes_on as go_on, ends, is_done}
use Rattle.ash_parse.proofs.StatementLoops.{goes_on-none}
use Rattle.ash_parse.proofs.ItemShorter.{member_shrinks}
use Rattle.ash_parse.proofs.classes.members.Goals as goal

pub returns-in_err-next : goal.returns-in_err-next
unfolding members_at
returns-in_err-next c = record {
  parsed =
      let p = err_from_is_err_and c.from_residual.result c.from_residual.ensures.1 in
      let more : goes_on (tokens_of c.more.rest.now) ≡ true = sym c.goes_on.ensures.value ∙ c.more-test.true in
      rw (p.1, p.2) (ends (goes_on) (member_at) (member_shrinks) (goes_on-none) c.in_err-next.field-0.0 (map member_of c.more.all.items) (tokens_of c.more.rest.now) (members_at (tokens_of c.args.tokens.now)) more c.in_err-next.ensures.parsed c.more.invariant);
}

pub more-smaller : goal.more-smaller
more-smaller c =
    let shorter = member_shrinks (tokens_of c.more.rest.now) (member_of c.in_ok-next.next) (tokens_of c.in_ok-next.after.now) c.in_ok-next.ensures.parsed in
    omega (arith, shorter, length-map c.more.rest.now placed, length-map c.in_ok-next.after.now placed)

pub more-preserved : goal.more-preserved
unfolding members_at
more-preserved c =
    let more : goes_on (tokens_of c.more.rest.now) ≡ true = sym c.goes_on.ensures.value ∙ c.more-test.true in
    rw c.in_ok-push.ensures.items (go_on (goes_on) (member_at) (member_shrinks) (goes_on-none) member_of c.more.all.items c.in_ok-next.next (tokens_of c.more.rest.now) (tokens_of c.in_ok-next.after.now) (members_at (tokens_of c.args.tokens.now)) more c.in_ok-next.ensures.parsed c.more.invariant)

pub returns : goal.returns
unfolding members_at
returns c = record {
  parsed =
      let more : goes_on (tokens_of c.more.rest.now) ≡ false = sym c.goes_on.ensures.value ∙ c.more-test.false in
      is_done (goes_on) (member_at) (member_shrinks) (goes_on-none) (map member_of c.more.all.items) (tokens_of c.more.rest.now) (members_at (tokens_of c.args.tokens.now)) more c.more.invariant;
}
