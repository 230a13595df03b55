use Rattle.ash_lex.proofs.EveryText.{every_text}
use Rattle.ash_lex.proofs.OneReading.{tokens_agree, faults_agree, tokens_or_fault}
use Rattle.ash_lex.proofs.lexer.one_reading.Goals as goal

pub returns-clause-total : goal.returns-clause-total
returns-clause-total c = every_text

pub returns-clause-tokens : goal.returns-clause-tokens
returns-clause-tokens c = tokens_agree

pub returns-clause-faults : goal.returns-clause-faults
returns-clause-faults c = faults_agree

pub returns-clause-apart : goal.returns-clause-apart
returns-clause-apart c = tokens_or_fault
