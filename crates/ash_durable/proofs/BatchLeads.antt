-- Where the record of a batch leads: each delta on from where the one before it leads.
use Rattle.std.proofs.Common.{◌≡◌, inl, inr, ℕ, List, [], ◌∷◌, map, Option, Some, None, refl, sym, ◌∙◌, ap, subst}
use Rattle.std.specs.List.{AllByRecursion}
use Rattle.ash_disk.specs.Device.{Device}
use Rattle.ash_journal.specs.declared.journal.Journal.{Journal}
use Rattle.ash_host.specs.declared.host_object.HostObject.{Ghosts}
use Rattle.ash_requests.specs.Requests.{Request, Reply, Answered, Value, ShownAs, Number, Done, Refused}
use Rattle.ash_requests.specs.StepLaws.{events_of_reply}
use Rattle.ash_sources.specs.SourceFaults.{SourceFault}
use Rattle.ash_image.specs.declared.version.Version.TheVariants.{Two}
use Rattle.ash_image.specs.Image.{FitsVersion}
use Rattle.ash_image.specs.Leading.{LeadsTo}
use Rattle.ash_states.specs.HostStates.{HostState, IsAdmitted}
use Rattle.ash_states.specs.Indexes.{snapshot_for}
use Rattle.ash_change_records.proofs.BodiesLead.{listed_lead_to}
use Rattle.ash_replay.specs.ReplayedStates.{IsBodyBetween, LeadHosts}
use Rattle.ash_replay.proofs.Adding.{fits_in}
use Rattle.ash_engine.specs.LiveStates.{LiveState}
use Rattle.ash_engine.specs.LiveSteps.{TakesStep, IsNoAnswer}
use Rattle.ash_engine.specs.RecordedChanges.{delta_named}
use Rattle.ash_durable.specs.StoredStates.{HoldsState}
use Rattle.ash_durable.specs.Batches.{BatchRequest, BatchReply, BatchSteps, NoneLeft, Bad, Step, answered_in}
use Rattle.ash_durable.specs.Batches.{IsBodyOfBatch}
use Rattle.ash_durable.specs.BatchRuns.{MayBeStored}
use Rattle.ash_durable.proofs.BatchLaws.{batch_registered}

module _ {B : Type 0} (G : Ghosts B) (budget : ℕ) where
  -- the delta of an answered request leads on from the state before it
  one_leads : (request : Request) (live : LiveState B) (reply : Reply SourceFault) (next : LiveState B)
      → TakesStep G budget request live reply next → (IsNoAnswer reply → ⊥) → MayBeStored next
      → IsAdmitted live.durable → FitsVersion Two (snapshot_for live.durable)
      → LeadsTo Two (delta_named next) (snapshot_for live.durable) (snapshot_for next.durable)
  one_leads request live reply next stepped answered stored was fits =
      listed_lead_to next.changes (events_of_reply reply) live.durable next.durable was stored.admitted
      stepped.taken.registered (stepped.named answered) fits stored.fits

  chain : (requests : List BatchRequest) (live : LiveState B) (replies : List BatchReply) (after : LiveState B)
      (steps : BatchSteps G budget requests live replies after) → AllByRecursion MayBeStored (answered_in steps)
      → IsAdmitted live.durable → FitsVersion Two (snapshot_for live.durable)
      → LeadHosts Two (map delta_named (answered_in steps)) live.durable after.durable
  unfolding answered_in
  chain _ _ _ _ (NoneLeft live) stored was fits = refl
  chain _ _ _ _ (Bad number requests live replies after steps) stored was fits =
      chain requests live replies after steps stored was fits
  chain _ _ _ _ (Step request requests live (Answered end seq happened) next replies after stepped boxes steps) stored
      was fits =
      let leads = one_leads request live (Answered end seq happened) next stepped (λ no. no) stored.0 was fits in (
        next.durable,
        record { registered = stepped.taken.registered; leads = leads; admitted = stored.0.admitted },
        chain requests next replies after steps stored.1 stored.0.admitted leads.1,
      )
  chain _ _ _ _ (Step request requests live reply next replies after stepped boxes steps) stored was fits =
      let same : next ≡ live = stepped.unchanged tt in
      subst (λ (l : LiveState B). LeadHosts Two (map delta_named (answered_in steps)) l.durable after.durable) same
      (chain requests next replies after steps stored
      (subst (λ (l : LiveState B). IsAdmitted l.durable) (sym same) was)
      (subst (λ (l : LiveState B). FitsVersion Two (snapshot_for l.durable)) (sym same) fits))

-- so the record leads from the state before the batch to the one after it
pub batch_leads : {D B : Type 0} (device : Device D) (G : Ghosts B) (budget : ℕ) (requests : List BatchRequest)
    (live : LiveState B) (replies : List BatchReply) (after : LiveState B)
    (steps : BatchSteps G budget requests live replies after) → AllByRecursion MayBeStored (answered_in steps)
    → (body : List ℕ) → IsBodyOfBatch after.durable (answered_in steps) body → (journal : Journal D)
    → HoldsState device live.durable journal → IsBodyBetween Two body live.durable after.durable
batch_leads device G budget requests live replies after steps stored body is_body journal holds =
    let fits = fits_in Two live.durable holds.contents holds.is_state holds.in_two in
    let chained = chain G budget requests live replies after steps stored holds.is_state.depicts.admitted fits in
    record {
      registered = batch_registered G budget requests live replies after steps;
      leads = elim is_body [
        | inl changed ↦ inr (inr (record {
          in_two = refl;
          changes = map delta_named (answered_in steps);
          is_body = changed.1;
          lead = chained;
        }))
        | inr whole ↦ inl whole.1
      ];
    }
