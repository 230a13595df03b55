use Rattle.std.proofs.Common.{sym, ap, append-nil, List}
use Rattle.ash_host.specs.declared.word.Word.{Word}
use Rattle.ash_meaning.specs.Runs.{Done}
use Rattle.ash_meaning.specs.ExpressionMeaning.{expression}
use Rattle.ash_walked_phrases.proofs.WalkedExpressions.{arguments_begin, spread}
use Rattle.ash_walked_phrases.proofs.laws.arguments_are_walked.Goals as goal

pub returns : goal.returns
returns c = record {
  walked = λ calls. record {
    begin = λ es a. sym (arguments_begin calls es a);
    one = λ done e es a. spread calls done es (expression calls e a);
    end = λ done a. ap (λ (words : List Word). Done words a) (append-nil done);
  };
}
