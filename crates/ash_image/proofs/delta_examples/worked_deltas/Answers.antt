use Rattle.std.proofs.Common.{◌≡◌, ◌<◌, ◌^◌, ℕ, List, [], refl, arith}
use Rattle.std.specs.Prelude.{pos}
use Rattle.ash_image.specs.declared.version.Version.TheVariants.{Two}
use Rattle.ash_image.specs.Image.{FitObjects}
use Rattle.ash_image.specs.Delta.{FitServiceStates, FitNumbers, FitsDelta, indexed_from}
use Rattle.ash_image.specs.DeltaExamples.{loaded_m, discarded_m}
use Rattle.ash_image.proofs.delta_examples.worked_deltas.Goals as goal

no_services : FitServiceStates []
no_services = record { few = omega arith; each = tt; order = refl }

none_gone : FitNumbers []
none_gone = record { few = omega arith; each = tt; order = refl }

none_put : FitObjects Two []
none_put = record { few = omega arith; each = tt; order = refl }

loaded_fits : FitsDelta Two loaded_m
loaded_fits = record {
  seq = omega arith;
  last = omega arith;
  services = no_services;
  change = record { name_fits = refl; source_short = omega arith; few = omega arith; words = tt };
  gone = none_gone;
  put = none_put;
  apart = refl;
}

discarded_fits : FitsDelta Two discarded_m
discarded_fits = record {
  seq = omega arith;
  last = omega arith;
  services = no_services;
  change = refl;
  gone = none_gone;
  put = none_put;
  apart = refl;
}

pub returns : goal.returns
unfolding indexed_from
returns c = record {
  added = (loaded_fits, refl);
  removed = (discarded_fits, refl);
  both = (record { some = omega arith; few = omega arith; each = (loaded_fits, (discarded_fits, tt)) }, refl);
  changed = (
    record {
      seq = omega arith;
      last = omega arith;
      services = no_services;
      change = record {
        name_fits = refl;
        few = omega arith;
        each = (record { index_fits = omega arith; word_fits = record { sfits = omega arith } }, tt);
        order = refl;
      };
      gone = none_gone;
      put = none_put;
      apart = refl;
    },
    refl,
  );
}
