use Rattle.std.proofs.Common.{◌≡◌, ◌∙◌, sym, map, arith, true, false}
use Rattle.std.proofs.lemmas.List.{length-map}
use Rattle.std.proofs.lemmas.Result.{err_from_is_err_and}
use Rattle.ash_tree.specs.GrammarTokens.{tokens_of, placed}
use Rattle.ash_tree.specs.TreeViews.{item_of}
use Rattle.ash_parse.specs.ItemReader.{entries_at, entry_at, is_left}
use Rattle.ash_parse.proofs.Loop.{goes_on as go_on, ends, is_done}
use Rattle.ash_parse.proofs.ItemShorter.{entry_shrinks, no_more_left, left_is_none}
use Rattle.ash_parse.proofs.items.entries.Goals as goal

pub returns-in_err-next-clause-read : goal.returns-in_err-next-clause-read
unfolding entries_at
returns-in_err-next-clause-read c =
    let p = err_from_is_err_and c.from_residual.result c.from_residual.ensures.1 in
    let more : is_left (tokens_of c.more.rest.now) ≡ true = sym c.is_left.ensures.value ∙ c.more-test.true in
    rw (p.1, p.2) (ends (is_left) (entry_at) (entry_shrinks) (no_more_left) c.in_err-next.field-0.0 (map item_of c.more.all.items) (tokens_of c.more.rest.now) (entries_at (tokens_of c.args.tokens.now)) more c.in_err-next.ensures.parsed c.more.invariant)

pub more-smaller : goal.more-smaller
more-smaller c =
    let shorter = entry_shrinks (tokens_of c.more.rest.now) (item_of c.in_ok-next.next) (tokens_of c.in_ok-next.after.now) c.in_ok-next.ensures.parsed in
    omega (arith, shorter, length-map c.more.rest.now placed, length-map c.in_ok-next.after.now placed)

pub more-preserved : goal.more-preserved
unfolding entries_at
more-preserved c =
    let more : is_left (tokens_of c.more.rest.now) ≡ true = sym c.is_left.ensures.value ∙ c.more-test.true in
    rw c.in_ok-push.ensures.items (go_on (is_left) (entry_at) (entry_shrinks) (no_more_left) item_of c.more.all.items c.in_ok-next.next (tokens_of c.more.rest.now) (tokens_of c.in_ok-next.after.now) (entries_at (tokens_of c.args.tokens.now)) more c.in_ok-next.ensures.parsed c.more.invariant)

pub returns-clause-read : goal.returns-clause-read
unfolding entries_at
returns-clause-read c =
    let more : is_left (tokens_of c.more.rest.now) ≡ false = sym c.is_left.ensures.value ∙ c.more-test.false in
    is_done (is_left) (entry_at) (entry_shrinks) (no_more_left) (map item_of c.more.all.items) (tokens_of c.more.rest.now) (entries_at (tokens_of c.args.tokens.now)) more c.more.invariant

pub returns-clause-all : goal.returns-clause-all
returns-clause-all c =
    let more : is_left (tokens_of c.more.rest.now) ≡ false = sym c.is_left.ensures.value ∙ c.more-test.false in
    left_is_none (tokens_of c.more.rest.now) more
