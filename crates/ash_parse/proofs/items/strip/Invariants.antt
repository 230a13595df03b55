use Rattle.std.proofs.Common.{◌≡◌, length}
use Rattle.ash_tree.specs.GrammarTokens.{tokens_of}
use Rattle.ash_parse.specs.ItemReader.{strip}
use Rattle.ash_parse.proofs.items.strip.Given as goal

abbrev pub invariant-more : goal.invariant-more
invariant-more l = strip (tokens_of l.rest) ≡ strip (tokens_of l.fn.tokens)

abbrev pub decreases-more : goal.decreases-more
decreases-more l = length l.rest
