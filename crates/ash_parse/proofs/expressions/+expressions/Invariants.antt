use Rattle.std.proofs.Common.{◌≡◌, ◌+◌, ◌-◌, ◌*◌, length, map}
use Rattle.ash_tree.specs.GrammarTokens.{tokens_of}
use Rattle.ash_tree.specs.TreeViews.{expr_of, suffix_of, operation_of}
use Rattle.ash_parse.specs.Readers.{put}
use Rattle.ash_parse.specs.ExpressionReader.{next_level, more_exprs_with, suffixes_with, links_by, binary_with, below_at}
use Rattle.ash_parse.proofs.Loop.{with_prefix}
use Rattle.ash_parse.proofs.Climbing.{rises}
use Rattle.ash_parse.proofs.expressions.+expressions.Given as goal

-- the measure of a phrase is above those of its parts, and of whatever is one deeper
abbrev pub decreases-nested_assign : goal.decreases-nested_assign
decreases-nested_assign l = l.room * 64

abbrev pub decreases-nested_unary : goal.decreases-nested_unary
decreases-nested_unary l = l.room * 64

abbrev pub decreases-assign : goal.decreases-assign
decreases-assign l = l.room * 64 + 60

abbrev pub decreases-conditionals::branches : goal.decreases-conditionals::branches
decreases-conditionals::branches l = l.room * 64 + 2

abbrev pub decreases-conditionals::other_branch : goal.decreases-conditionals::other_branch
decreases-conditionals::other_branch l = l.room * 64 + 1

abbrev pub decreases-binary : goal.decreases-binary
decreases-binary l = l.room * 64 + (10 + l.level * 4)

abbrev pub decreases-links : goal.decreases-links
decreases-links l = l.room * 64 + (12 + l.level * 4)

abbrev pub decreases-link : goal.decreases-link
decreases-link l = l.room * 64 + (11 + l.level * 4)

abbrev pub decreases-unary : goal.decreases-unary
decreases-unary l = l.room * 64 + 9

abbrev pub decreases-postfix : goal.decreases-postfix
decreases-postfix l = l.room * 64 + 8

abbrev pub decreases-suffixes : goal.decreases-suffixes
decreases-suffixes l = l.room * 64 + 7

abbrev pub decreases-suffix : goal.decreases-suffix
decreases-suffix l = l.room * 64 + 6

abbrev pub decreases-member : goal.decreases-member
decreases-member l = l.room * 64 + 5

abbrev pub decreases-index : goal.decreases-index
decreases-index l = l.room * 64 + 5

abbrev pub decreases-primaries::primary : goal.decreases-primaries::primary
decreases-primaries::primary l = l.room * 64 + 6

abbrev pub decreases-primaries::name_or_call : goal.decreases-primaries::name_or_call
decreases-primaries::name_or_call l = l.room * 64 + 5

abbrev pub decreases-primaries::new_array : goal.decreases-primaries::new_array
decreases-primaries::new_array l = l.room * 64 + 5

abbrev pub decreases-primaries::cast : goal.decreases-primaries::cast
decreases-primaries::cast l = l.room * 64 + 5

abbrev pub decreases-bracketed : goal.decreases-bracketed
decreases-bracketed l = l.room * 64 + 1

abbrev pub decreases-arguments : goal.decreases-arguments
decreases-arguments l = l.room * 64 + 4

abbrev pub decreases-expressions : goal.decreases-expressions
decreases-expressions l = l.room * 64 + 3

abbrev pub decreases-more_expressions : goal.decreases-more_expressions
decreases-more_expressions l = l.room * 64 + 2

abbrev pub decreases-next_expression : goal.decreases-next_expression
decreases-next_expression l = l.room * 64 + 1

abbrev pub invariant-links-more : goal.invariant-links-more
invariant-links-more l = with_prefix (map operation_of l.links.items) (links_by l.level (binary_with (below_at l.room) l.level) (tokens_of l.rest)) ≡ links_by l.level (binary_with (below_at l.room) l.level) (tokens_of l.fn.tokens)

abbrev pub decreases-links-more : goal.decreases-links-more
decreases-links-more l = length l.rest

abbrev pub invariant-suffixes-more : goal.invariant-suffixes-more
invariant-suffixes-more l = with_prefix (map suffix_of l.suffixes.items) (suffixes_with (below_at l.room) (tokens_of l.rest)) ≡ suffixes_with (below_at l.room) (tokens_of l.fn.tokens)

abbrev pub decreases-suffixes-more : goal.decreases-suffixes-more
decreases-suffixes-more l = length l.rest

abbrev pub invariant-more_expressions-more : goal.invariant-more_expressions-more
invariant-more_expressions-more l = with_prefix (map expr_of l.all.items) (more_exprs_with (below_at l.room) (tokens_of l.rest)) ≡ put (expr_of l.fn.first) (more_exprs_with (below_at l.room) (tokens_of l.fn.tokens))

abbrev pub decreases-more_expressions-more : goal.decreases-more_expressions-more
decreases-more_expressions-more l = length l.rest

abbrev pub invariant-binary-climb : goal.invariant-binary-climb
invariant-binary-climb l = record {
  next : l.next ≡ next_level (tokens_of l.rest);
  so_far : rises (below_at l.room) (l.level - l.reached) l.reached (expr_of l.joined, tokens_of l.rest) ≡ binary_with (below_at l.room) l.level (tokens_of l.fn.tokens);
}

abbrev pub decreases-binary-climb : goal.decreases-binary-climb
decreases-binary-climb l = l.level - l.reached
