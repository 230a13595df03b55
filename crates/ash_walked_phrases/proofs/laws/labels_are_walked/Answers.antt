use Rattle.ash_walked_phrases.proofs.Labels.{goes_on_found, goes_on_default, falls_on}
use Rattle.ash_walked_phrases.proofs.laws.labels_are_walked.Goals as goal

pub returns : goal.returns
returns c = record {
  walked = λ calls depth. record {
    found = goes_on_found calls depth;
    default = goes_on_default calls depth;
    one = falls_on calls depth;
  };
}
