-- Steps that touch no host object: how many requests were answered, and a snapshot.
use Rattle.std.proofs.Common.{◌≡◌, ◌++◌, ℕ, [], List, Option, Some, None, slice_get, refl, subst}
use Rattle.std.proofs.lemmas.List.{append-nil}
use Rattle.ash_host.specs.declared.answer.HostAnswer.{HostAnswer}
use Rattle.ash_host.specs.declared.host_object.HostObject.{Ghosts}
use Rattle.ash_host.specs.Calls.{HostCall, SameRelation}
use Rattle.ash_host.specs.Objects.{object_at}
use Rattle.ash_requests.specs.Requests.{Seq, Snapshot, Number, Done}
use Rattle.ash_engine.specs.LiveStates.{Boxes, LiveState}
use Rattle.ash_engine.specs.LiveSteps.{Answered, IsStill, TakesStep}

same_relation : (allows : HostCall → List ℕ → HostAnswer → List ℕ → Type 0) → SameRelation allows allows
same_relation allows = record { onward = λ call before answer after h. h; back = λ call before answer after h. h }

module _ {B : Type 0} (G : Ghosts B) where
  -- a box that is there is still what it was
  still : (there : Option B) (box : B) → there ≡ Some box → IsStill G there box
  still None box is = absurd (cc)
  still (Some before) box is =
      let same : before ≡ box = cc in
      subst (λ (b : B). IsStill G (Some before) b) same (refl, same_relation (G.allows before))

  -- boxes that nothing happened to
  unasked : (boxes : Boxes B) → Answered G boxes [] [] boxes
  unasked boxes = record {
    drawn = [];
    in_turn = refl;
    first_free = refl;
    valid = tt;
    objects = λ number box is. still (object_at number (boxes.objects ++ [])) box (rw append-nil is);
    services = λ place box is. still (slice_get boxes.services place) box is;
  }

  pub seq_step : (budget : ℕ) (live : LiveState B) → TakesStep G budget Seq live (Number live.durable.state.seq) live
  seq_step budget live = record {
    answers = [];
    taken = record { stepped = refl; registered = refl };
    gave = unasked live.boxes;
    unchanged = λ no. refl;
    named = λ answered. absurd (answered tt);
    no_more = λ answered. absurd (answered tt);
  }

  pub snapshot_step : (budget : ℕ) (live : LiveState B) → TakesStep G budget Snapshot live Done live
  snapshot_step budget live = record {
    answers = [];
    taken = record { stepped = refl; registered = refl };
    gave = unasked live.boxes;
    unchanged = λ no. refl;
    named = λ answered. absurd (answered tt);
    no_more = λ answered. absurd (answered tt);
  }
