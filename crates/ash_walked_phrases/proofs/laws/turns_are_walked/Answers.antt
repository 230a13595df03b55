use Rattle.std.proofs.Common.{refl}
use Rattle.ash_meaning.specs.StatementMeaning.{turns}
use Rattle.ash_walked_phrases.proofs.Turns.{turn_is, next_turn_is}
use Rattle.ash_walked_phrases.proofs.laws.turns_are_walked.Goals as goal

pub returns : goal.returns
returns c = record {
  walked = λ t. record {
    first = turn_is t;
    one = λ depth. next_turn_is t (turns depth t);
    end = λ a. refl;
  };
}
