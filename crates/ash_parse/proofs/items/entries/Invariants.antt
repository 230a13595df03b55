use Rattle.std.proofs.Common.{◌≡◌, length, map}
use Rattle.ash_tree.specs.GrammarTokens.{tokens_of}
use Rattle.ash_tree.specs.TreeViews.{item_of}
use Rattle.ash_parse.specs.ItemReader.{entries_at}
use Rattle.ash_parse.proofs.Loop.{with_prefix}
use Rattle.ash_parse.proofs.items.entries.Given as goal

abbrev pub invariant-more : goal.invariant-more
invariant-more l = with_prefix (map item_of l.all.items) (entries_at (tokens_of l.rest)) ≡ entries_at (tokens_of l.fn.tokens)

abbrev pub decreases-more : goal.decreases-more
decreases-more l = length l.rest
