use Rattle.std.proofs.Common.{◌≡◌, length, map}
use Rattle.ash_tree.specs.GrammarTokens.{tokens_of}
use Rattle.ash_tree.specs.TreeViews.{interface_method_of}
use Rattle.ash_parse.specs.ItemReader.{interface_methods_at}
use Rattle.ash_parse.proofs.Loop.{with_prefix}
use Rattle.ash_parse.proofs.interfaces.interface_methods.Given as goal

abbrev pub invariant-more : goal.invariant-more
invariant-more l = with_prefix (map interface_method_of l.all.items) (interface_methods_at (tokens_of l.rest)) ≡ interface_methods_at (tokens_of l.fn.tokens)

abbrev pub decreases-more : goal.decreases-more
decreases-more l = length l.rest
