use Rattle.std.proofs.Common.{◌≡◌, length, map}
use Rattle.ash_tree.specs.GrammarTokens.{tokens_of}
use Rattle.ash_tree.specs.TreeViews.{parameter_of}
use Rattle.ash_parse.specs.Readers.{put}
use Rattle.ash_parse.specs.ItemReader.{more_parameters_at}
use Rattle.ash_parse.proofs.Loop.{with_prefix}
use Rattle.ash_parse.proofs.functions.more_parameters.Given as goal

abbrev pub invariant-more : goal.invariant-more
invariant-more l = with_prefix (map parameter_of l.all.items) (more_parameters_at (tokens_of l.rest)) ≡ put (parameter_of l.fn.first) (more_parameters_at (tokens_of l.fn.tokens))

abbrev pub decreases-more : goal.decreases-more
decreases-more l = length l.rest
