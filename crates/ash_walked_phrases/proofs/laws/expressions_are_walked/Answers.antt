use Rattle.ash_walked_phrases.proofs.WalkedExpressions.{operands_follow, links_follow, lazies_follow}
use Rattle.ash_walked_phrases.proofs.laws.expressions_are_walked.Goals as goal

pub returns : goal.returns
returns c = record {
  walked = λ calls first. record {
    chains = operands_follow calls first;
    paths = links_follow calls first;
    lazies = λ op. lazies_follow calls op first;
  };
}
