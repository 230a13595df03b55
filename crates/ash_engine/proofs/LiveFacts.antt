-- What is known of the live state of an engine, if there is one.
use Rattle.std.proofs.Common.{◌≡◌, ℕ, Vec, Global, List, sym, ap, ◌∙◌, subst}
use Rattle.std.specs.Prelude.{Option, Some, None, IfSome, option_map, Result, IfOk, OnOk}
use Rattle.ash_host.specs.declared.host_object.HostObject.{Ghosts}
use Rattle.ash_registry.specs.AcceptedRegistrations.{Registration}
use Rattle.ash_plain_steps.specs.StateViews.{modules_seen}
use Rattle.ash_engine.specs.declared.live.Live.{Live}
use Rattle.ash_change_records.specs.ListedChanges.{IsBodyListing, AppendsListing}
use Rattle.ash_engine.specs.RecordedChanges.{IsBodyOfChanges, AppendsChanges}
use Rattle.ash_engine.specs.LiveStates.{LiveState, AreOf}
use Rattle.ash_engine.specs.NamedChanges.{changes_seen}
use Rattle.ash_engine.specs.LiveSteps.{reached_by, IsReached}
use Rattle.ash_engine.specs.TableStates.{durable_seen, live_seen, IsLive}
use Rattle.ash_engine.proofs.Living.{boxes_are, is_reached}

module _ {B : Type 0} (G : Ghosts B) (registered : List Registration) where
  pub boxes_in : (o : Option (Live B)) → IfSome o (IsLive G registered) → (live : LiveState B) → option_map (live_seen G registered) o ≡ Some live → AreOf G live
  boxes_in None h live is = absurd (cc)
  boxes_in (Some l) h live is =
      let same : live_seen G registered l ≡ live = cc in
      subst (λ (x : LiveState B). AreOf G x) same (boxes_are G registered l h)

  pub reached_in : (o : Option (Live B)) → IfSome o (IsLive G registered) → (live : LiveState B) → option_map (live_seen G registered) o ≡ Some live → IsReached (reached_by live)
  reached_in None h live is = absurd (cc)
  reached_in (Some l) h live is =
      let same : live_seen G registered l ≡ live = cc in
      subst (λ (x : LiveState B). IsReached (reached_by x)) same (is_reached G registered l h)

  pub registered_in : (o : Option (Live B)) (live : LiveState B) → option_map (live_seen G registered) o ≡ Some live → (live.durable).registered ≡ registered
  registered_in None live is = absurd (cc)
  registered_in (Some l) live is =
      let same : live_seen G registered l ≡ live = cc in
      ap (λ (x : LiveState B). (x.durable).registered) (sym same)

  pub seq_in : (o : Option (Live B)) (l : Live B) → o ≡ Some l → (live : LiveState B) → option_map (live_seen G registered) o ≡ Some live → l.loaded.seq ≡ ((live.durable).state).seq
  seq_in None l there live is = absurd (cc)
  seq_in (Some x) l there live is =
      let same : live_seen G registered x ≡ live = cc in
      let one : x ≡ l = cc in
      ap (λ (y : Live B). y.loaded.seq) (sym one) ∙ ap (λ (y : LiveState B). ((y.durable).state).seq) same

  -- the body that is written of the live state is that of its changes
  pub recorded_in : (o : Option (Live B)) (l : Live B) → o ≡ Some l → (live : LiveState B) → option_map (live_seen G registered) o ≡ Some live
      → {E : Type 0} (r : Result (Vec ℕ Global) E)
      → IfOk r (λ body. IsBodyListing (changes_seen (modules_seen l.loaded.modules.items) l.changes) (durable_seen G registered l) body.items)
      → IfOk r (λ body. IsBodyOfChanges live body.items)
  recorded_in None l there live is r written = absurd (cc)
  recorded_in (Some x) l there live is r written =
      let same : live_seen G registered x ≡ live = cc in
      let one : x ≡ l = cc in
      let both : live_seen G registered l ≡ live = ap (live_seen G registered) (sym one) ∙ same in
      subst (λ (y : LiveState B). IfOk r (λ body. IsBodyOfChanges y body.items)) both written

  -- the delta that is appended of the live state is that of its changes
  pub appended_in : (o : Option (Live B)) (l : Live B) → o ≡ Some l → (live : LiveState B) → option_map (live_seen G registered) o ≡ Some live
      → {T E : Type 0} (r : Result T E) (old new : List ℕ)
      → OnOk r (AppendsListing (changes_seen (modules_seen l.loaded.modules.items) l.changes) (durable_seen G registered l) old new)
      → OnOk r (AppendsChanges live old new)
  appended_in None l there live is r old new written = absurd (cc)
  appended_in (Some x) l there live is r old new written =
      let same : live_seen G registered x ≡ live = cc in
      let one : x ≡ l = cc in
      let both : live_seen G registered l ≡ live = ap (live_seen G registered) (sym one) ∙ same in
      subst (λ (y : LiveState B). OnOk r (AppendsChanges y old new)) both written

  pub changes_in : (o : Option (Live B)) (l : Live B) → o ≡ Some l → (live : LiveState B) → option_map (live_seen G registered) o ≡ Some live
      → changes_seen ((live.durable).state).modules l.changes ≡ live.changes
  changes_in None l there live is = absurd (cc)
  changes_in (Some x) l there live is =
      let same : live_seen G registered x ≡ live = cc in
      let one : x ≡ l = cc in
      subst (λ (y : LiveState B). changes_seen ((y.durable).state).modules l.changes ≡ y.changes) same
      (ap (λ (y : Live B). changes_seen (modules_seen x.loaded.modules.items) y.changes) (sym one))
