use Rattle.std.proofs.Common.{◌≡◌, ℕ, List, length, map, sym, ◌∙◌, subst, arith}
use Rattle.std.proofs.lemmas.Option.{MatchOption-at_none}
use Rattle.ash_image.specs.DeltaViews.{service_state_of, service_states_of}
use Rattle.ash_image.specs.ImageObjectViews.{service_of}
use Rattle.ash_image.specs.SnapshotViews.{services_of}
use Rattle.ash_image.specs.Leading.{AreThere}
use Rattle.ash_image.proofs.LeadingLaws.{set_last, left_there, none_left, seen_length}
use Rattle.ash_image.proofs.leading.set_services.Goals as goal

pub set_service-requires : goal.set_service-requires
set_service-requires c = record {
  within = (left_there service_state_of c.loop-service.listed.items c.pop.new.self.items c.in-Some.service _
      c.in-Some.ensures.items c.loop-service.invariant.there).1;
}

pub loop-service-preserved : goal.loop-service-preserved
loop-service-preserved c =
    let before = c.loop-service.services.items in
    let after = c.set_service.new.services.items in
    let states : List (List ℕ) = map (λ (s : ℕ × List ℕ). s.1) (services_of before) in
    let size : length before ≡ length states =
    sym (seen_length (λ (s : ℕ × List ℕ). s.1) (services_of before) ∙ seen_length service_of before) in
    let there = left_there service_state_of c.loop-service.listed.items c.pop.new.self.items c.in-Some.service
    (length before) c.in-Some.ensures.items c.loop-service.invariant.there in
    record {
      kinds = c.set_service.ensures.kinds ∙ c.loop-service.invariant.kinds;
      states = set_last service_state_of c.loop-service.listed.items c.pop.new.self.items c.in-Some.service states
          (map (λ (s : ℕ × List ℕ). s.1) (services_of after)) _ (length before) c.in-Some.ensures.items
          c.loop-service.invariant.there size c.set_service.ensures.states c.loop-service.invariant.states;
      there = subst (λ (count : ℕ). AreThere (service_states_of c.pop.new.self.items) count)
          (sym c.set_service.ensures.same_length) there.0;
    }

pub returns : goal.returns
returns c =
    let before = c.args.services.now.items in
    let empty = (MatchOption-at_none _ _ c.in_default.is c.pop.ensures.cases).0 in
    record {
      led = record {
        there = subst (λ (count : ℕ). AreThere (service_states_of c.args.listed.items) count)
            (sym (seen_length service_of before)) c.requires.there;
        kinds = c.loop-service.invariant.kinds;
        states = none_left service_state_of c.loop-service.listed.items
            (map (λ (s : ℕ × List ℕ). s.1) (services_of c.loop-service.services.items)) _
            (omega (arith, empty, c.loop-service.listed.ok.0)) c.loop-service.invariant.states;
      };
    }
