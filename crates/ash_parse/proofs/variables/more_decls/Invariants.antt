use Rattle.std.proofs.Common.{◌≡◌, length, map}
use Rattle.ash_tree.specs.GrammarTokens.{tokens_of}
use Rattle.ash_tree.specs.TreeViews.{decl_of}
use Rattle.ash_parse.specs.Readers.{put}
use Rattle.ash_parse.specs.ExpressionReader.{below_at}
use Rattle.ash_parse.specs.StatementReader.{more_decls_with}
use Rattle.ash_parse.proofs.Loop.{with_prefix}
use Rattle.ash_parse.proofs.variables.more_decls.Given as goal

abbrev pub invariant-more : goal.invariant-more
invariant-more l = with_prefix (map decl_of l.all.items) (more_decls_with (below_at l.room) (tokens_of l.rest)) ≡ put (decl_of l.fn.first) (more_decls_with (below_at l.room) (tokens_of l.fn.tokens))

abbrev pub decreases-more : goal.decreases-more
decreases-more l = length l.rest
