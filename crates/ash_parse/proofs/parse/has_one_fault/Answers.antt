use Rattle.ash_tree.specs.GrammarTokens.{tokens_of}
use Rattle.ash_parse.proofs.FirstFaults.{tree_or_fault}
use Rattle.ash_parse.proofs.parse.has_one_fault.Goals as goal

pub returns-clause-either : goal.returns-clause-either
returns-clause-either c = tree_or_fault (tokens_of c.args.tokens.now)
