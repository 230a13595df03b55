use Rattle.std.proofs.Common.{refl, ap}
use Rattle.ash_meaning.specs.Runs.{Progress, onward}
use Rattle.ash_walked_phrases.proofs.Composed.{onward_assoc, onward_give, onward_same}
use Rattle.ash_walked_phrases.proofs.laws.runs_compose.Goals as goal

pub returns : goal.returns
returns g c = record {
  compose = λ first next last. record {
    grouped = λ a. onward_assoc (first a) next last;
    given_after = λ a. onward_give (first a);
    given_before = λ value a. refl;
    same_first = λ other same a. ap (λ (p : Progress _). onward p next) (same a);
    same_next = λ other same a. onward_same (first a) next other same;
  };
}
