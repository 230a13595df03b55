use Rattle.ash_tree.specs.GrammarTokens.{tokens_of}
use Rattle.ash_parse.proofs.FirstFaults.{declaration_or_fault}
use Rattle.ash_parse.proofs.parse.has_one_declaration_fault.Goals as goal

pub returns-clause-either : goal.returns-clause-either
returns-clause-either c = declaration_or_fault (tokens_of c.args.tokens.now)
