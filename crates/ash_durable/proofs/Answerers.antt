-- The boxes that answer in a request are of the kinds of the objects and of the services to which their calls go.
use Rattle.std.proofs.Common.{◌≡◌, ◌⊎◌, inl, inr, ℕ, Bool, true, false, nat_eq, List, [], ◌∷◌, ◌++◌, map}
use Rattle.std.proofs.Common.{slice_get, option_map, Option, Some, None, refl, sym, ◌∙◌, ap, subst, if◌then◌else◌}
use Rattle.std.proofs.lemmas.Map.Made.{lookup-map_values}
use Rattle.std.proofs.lemmas.Option.{slice_get-map}
use Rattle.ash_host.specs.declared.event.Target.TheVariants as targets
use Rattle.ash_host.specs.declared.host_object.HostObject.{Ghosts}
use Rattle.ash_host.specs.Objects.{object_at}
use Rattle.ash_meaning.specs.Activity.{FreeBox}
use Rattle.ash_requests.specs.Requests.{Request, Reply}
use Rattle.ash_sources.specs.SourceFaults.{SourceFault}
use Rattle.ash_states.specs.HostStates.{service_kinds}
use Rattle.ash_engine.specs.LiveStates.{LiveState, AreOf, hosts_in, plain_box}
use Rattle.ash_engine.specs.LiveSteps.{reached_by, box_at, IsStill, TakesStep}
use Rattle.ash_durable.specs.Lives.{MayAnswer}

module _ {B : Type 0} (G : Ghosts B) where
  -- what a number has is what it has in a longer list
  at_first : (es more : List (ℕ × B)) (number : ℕ) (box : B) → object_at number es ≡ Some box
      → object_at number (es ++ more) ≡ Some box
  at_first [] more number box at = absurd (cc)
  at_first (e ∷ es) more number box at = by (nat_eq number e.0) at (at_first es more number box)
    where
      by : (b : Bool) → (if b then Some e.1 else object_at number es) ≡ Some box
          → (object_at number es ≡ Some box → object_at number (es ++ more) ≡ Some box)
          → (if b then Some e.1 else object_at number (es ++ more)) ≡ Some box
      by true here later = here
      by false here later = later here

  -- a box of the kind of a host object
  record HasBox (objects : List (ℕ × B)) (number : ℕ) (host : FreeBox) : Type 0 where
    box : B
    there : object_at number objects ≡ Some box
    of_kind : G.kind_of box ≡ host.kind

  -- a host object that lives has a box of its kind
  has_box : (live : LiveState B) → AreOf G live → (number : ℕ) (host : FreeBox)
      → object_at number (hosts_in ((live.durable).state).objects) ≡ Some host
      → HasBox (live.boxes).objects number host
  has_box live of number host lives = from (object_at number (live.boxes).objects) refl
      (sym (lookup-map_values (plain_box G) (nat_eq number) (live.boxes).objects)
      ∙ subst (λ (hosts : List (ℕ × FreeBox)). object_at number hosts ≡ Some host) of.objects lives)
    where
      from : (found : Option B) → object_at number (live.boxes).objects ≡ found
          → option_map (plain_box G) found ≡ Some host → HasBox (live.boxes).objects number host
      from None there is = absurd (cc)
      from (Some box) there is =
          let same : plain_box G box ≡ host = cc in
          record { box = box; there = there; of_kind = ap (λ (h : FreeBox). h.kind) same }

  still_kind : (before : Option B) (box after : B) → before ≡ Some box → IsStill G before after
      → G.kind_of after ≡ G.kind_of box
  still_kind None box after is still = absurd still
  still_kind (Some one) box after is still =
      let same : one ≡ box = cc in subst (λ (b : B). G.kind_of after ≡ G.kind_of b) same still.0

  module _ (budget : ℕ) (request : Request) (old new : LiveState B) (reply : Reply SourceFault)
      (old_of : AreOf G old) (new_of : AreOf G new) (step : TakesStep G budget request old reply new) where
    abbrev drawn : List (ℕ × B)
    drawn = step.gave.drawn

    lived_kind : (number : ℕ) (host : FreeBox) (box : B)
        → object_at number (hosts_in ((old.durable).state).objects) ≡ Some host
        → object_at number ((old.boxes).objects ++ drawn) ≡ Some box → G.kind_of box ≡ host.kind
    lived_kind number host box lived took =
        let has = has_box old old_of number host lived in
        let h : Some has.box ≡ Some box =
        sym (at_first (old.boxes).objects drawn number has.box has.there) ∙ took in
        let same : has.box ≡ box = cc in
        subst (λ (b : B). G.kind_of b ≡ host.kind) same has.of_kind

    lives_kind : (number : ℕ) (host : FreeBox) (box : B)
        → object_at number (hosts_in ((new.durable).state).objects) ≡ Some host
        → box_at old.boxes drawn (targets.Object number) ≡ Some box → G.kind_of box ≡ host.kind
    lives_kind number host box lives took =
        let has = has_box new new_of number host lives in
        sym (still_kind (box_at old.boxes drawn (targets.Object number)) box has.box took
        (step.gave.objects number has.box has.there)) ∙ has.of_kind

    object_kind : (number : ℕ) (host : FreeBox) (box : B)
        → ((object_at number (hosts_in ((old.durable).state).objects) ≡ Some host)
        ⊎ (object_at number (hosts_in ((new.durable).state).objects) ≡ Some host))
        → box_at old.boxes drawn (targets.Object number) ≡ Some box → G.kind_of box ≡ host.kind
    object_kind number host box (inl lived) took = lived_kind number host box lived took
    object_kind number host box (inr lives) took = lives_kind number host box lives took

    service_kind : (place kind : ℕ) (box : B) → slice_get (service_kinds (old.durable).registered) place ≡ Some kind
        → box_at old.boxes drawn (targets.Service place) ≡ Some box → G.kind_of box ≡ kind
    service_kind place kind box is took =
        let services = (old.boxes).services in
        let at : slice_get (map G.kind_of services) place ≡ Some kind =
        subst (λ (kinds : List ℕ). slice_get kinds place ≡ Some kind) (sym old_of.kinds) is in
        let h : Some (G.kind_of box) ≡ Some kind =
        sym (ap (λ (o : Option B). option_map G.kind_of o) took) ∙ sym (slice_get-map G.kind_of services place) ∙ at in
        cc

    -- what the boxes of a live state answered they may answer
    pub may_answer : MayAnswer G (reached_by old) (reached_by new) step.answers
    may_answer = record {
      answerers = box_at old.boxes drawn;
      objects = object_kind;
      services = service_kind;
      valid = step.gave.valid;
    }
