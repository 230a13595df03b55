-- Where no box is asked, none has changed.
use Rattle.std.proofs.Common.{◌≡◌, ℕ, List, [], ◌∙◌, refl, ap, ◌++◌}
use Rattle.std.specs.Prelude.{Option, Some, None, slice_get}
use Rattle.std.specs.Option.{option_or}
use Rattle.ash_host.specs.declared.host_object.HostObject.{Ghosts}
use Rattle.ash_host.specs.Objects.{object_at}
use Rattle.ash_run_steps.specs.Answered.{Boxes, Answered}
use Rattle.ash_run_steps.proofs.Followed.{at_append, still_same}

module _ {B : Type 0} (G : Ghosts B) where
  pub nothing_answered : (boxes : Boxes B) → Answered G boxes [] [] boxes
  nothing_answered boxes = record {
    drawn = [];
    in_turn = refl;
    first_free = refl;
    valid = tt;
    objects = λ number box at. still_same G (object_at number (boxes.objects ++ [])) box (at_append number boxes.objects [] ∙ ap (λ (o : Option B). option_or o None) at);
    services = λ place box at. still_same G (slice_get boxes.services place) box at;
  }
