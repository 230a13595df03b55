use Rattle.std.proofs.Common.{◌≡◌, ◌+◌, ◌*◌, length, map}
use Rattle.ash_tree.specs.GrammarTokens.{tokens_of}
use Rattle.ash_tree.specs.TreeViews.{stmt_of, case_of}
use Rattle.ash_parse.specs.ExpressionReader.{below_at}
use Rattle.ash_parse.specs.StatementReader.{nested_at, cases_with, stmts_with, locals_with}
use Rattle.ash_parse.proofs.Loop.{with_prefix}
use Rattle.ash_parse.proofs.statements.+statements.Given as goal

-- the measure of a phrase is above those of its parts, and of whatever is one deeper
abbrev pub decreases-nested : goal.decreases-nested
decreases-nested l = l.room * 16

abbrev pub decreases-statement : goal.decreases-statement
decreases-statement l = l.room * 16 + 10

abbrev pub decreases-if_statement : goal.decreases-if_statement
decreases-if_statement l = l.room * 16 + 3

abbrev pub decreases-else_branch : goal.decreases-else_branch
decreases-else_branch l = l.room * 16 + 2

abbrev pub decreases-loops::while_statement : goal.decreases-loops::while_statement
decreases-loops::while_statement l = l.room * 16 + 2

abbrev pub decreases-loops::do_statement : goal.decreases-loops::do_statement
decreases-loops::do_statement l = l.room * 16 + 2

abbrev pub decreases-loops::for_statement : goal.decreases-loops::for_statement
decreases-loops::for_statement l = l.room * 16 + 2

abbrev pub decreases-switch_statement : goal.decreases-switch_statement
decreases-switch_statement l = l.room * 16 + 4

abbrev pub decreases-cases : goal.decreases-cases
decreases-cases l = l.room * 16 + 3

abbrev pub decreases-case : goal.decreases-case
decreases-case l = l.room * 16 + 2

abbrev pub decreases-statements : goal.decreases-statements
decreases-statements l = l.room * 16 + 1

abbrev pub decreases-block : goal.decreases-block
decreases-block l = l.room * 16 + 3

abbrev pub decreases-locals : goal.decreases-locals
decreases-locals l = l.room * 16 + 2

abbrev pub decreases-local : goal.decreases-local
decreases-local l = l.room * 16 + 1

abbrev pub invariant-cases-more : goal.invariant-cases-more
invariant-cases-more l = with_prefix (map case_of l.all.items) (cases_with (nested_at l.room) (tokens_of l.rest)) ≡ cases_with (nested_at l.room) (tokens_of l.fn.tokens)

abbrev pub decreases-cases-more : goal.decreases-cases-more
decreases-cases-more l = length l.rest

abbrev pub invariant-statements-more : goal.invariant-statements-more
invariant-statements-more l = with_prefix (map stmt_of l.all.items) (stmts_with (nested_at l.room) (tokens_of l.rest)) ≡ stmts_with (nested_at l.room) (tokens_of l.fn.tokens)

abbrev pub decreases-statements-more : goal.decreases-statements-more
decreases-statements-more l = length l.rest

abbrev pub invariant-locals-more : goal.invariant-locals-more
invariant-locals-more l = with_prefix (map stmt_of l.all.items) (locals_with (below_at l.room) (nested_at l.room) (tokens_of l.rest)) ≡ locals_with (below_at l.room) (nested_at l.room) (tokens_of l.fn.tokens)

abbrev pub decreases-locals-more : goal.decreases-locals-more
decreases-locals-more l = length l.rest
