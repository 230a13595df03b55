use Rattle.std.proofs.Common.{◌≡◌, length, map}
use Rattle.ash_tree.specs.GrammarTokens.{tokens_of}
use Rattle.ash_tree.specs.TreeViews.{type_name_of}
use Rattle.ash_parse.specs.Readers.{put}
use Rattle.ash_parse.specs.ItemReader.{more_interfaces_at}
use Rattle.ash_parse.proofs.Loop.{with_prefix}
use Rattle.ash_parse.proofs.classes.more_interfaces.Given as goal

abbrev pub invariant-more : goal.invariant-more
invariant-more l = with_prefix (map type_name_of l.all.items) (more_interfaces_at (tokens_of l.rest)) ≡ put (type_name_of l.fn.first) (more_interfaces_at (tokens_of l.fn.tokens))

abbrev pub decreases-more : goal.decreases-more
decreases-more l = length l.rest
