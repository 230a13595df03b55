-- Files that represent contents of a state in version 2 are refused because memory ran out or a device failed, and for
-- nothing else, where the boxes are such as the state can be opened with.
use Rattle.std.proofs.Common.{◌≡◌, inl, inr, ℕ, ◌∙◌, List, sym, subst}
use Rattle.ash_journal.specs.declared.error.OpenFault.TheVariants as opening
use Rattle.ash_journal.specs.Current.{Contents, Represent}
use Rattle.ash_journal.proofs.SettleLaws.{represent_once}
use Rattle.ash_image.specs.declared.version.Version.TheVariants.{One, Two}
use Rattle.ash_states.specs.HostStates.{HostState}
use Rattle.ash_registry.specs.AcceptedRegistrations.{Registration}
use Rattle.ash_replay.specs.declared.fault.ReplayFault.{ReplayFault}
use Rattle.ash_replay.specs.declared.fault.ReplayFault.TheVariants as replaying
use Rattle.ash_replay.specs.ReplayedStates.{AreIn, IsStateOf, IsReadFault}
use Rattle.ash_replay.proofs.Faultless.{only_memory}
use Rattle.ash_replay.proofs.HostStatesRead.{host_state_once}
use Rattle.ash_replay.proofs.Once.{image_once}
use Rattle.ash_durable.specs.StoreFaults.{IsMishap}
use Rattle.ash_host.specs.declared.host_object.HostObject.{Ghosts}
use Rattle.ash_engine.specs.RestoredBoxes.{IsShort, IsRefused}
use Rattle.ash_durable.specs.HandedBoxes.{CanOpen}
use Rattle.ash_durable.specs.OpenedStore.{AreOfState, StoreFaultIs, IsSpent}
use Rattle.ash_durable.proofs.HandedOver.{not_short, not_refused}
use Rattle.ash_durable.specs.declared.fault.StoreFault.{StoreFault}
use Rattle.ash_durable.specs.declared.fault.StoreFault.TheVariants as faults
use Rattle.ash_durable.proofs.Faultless.{represent_open, represent_sound, represent_whole}

-- contents of a state that were read as a fault, where the files represent others
misread : (registered : List Registration) (state : HostState) (contents other : Contents) (fault : ReplayFault)
    (x y : List ℕ)
    → state.registered ≡ registered → Represent contents x y → IsStateOf state contents → Represent other x y
    → IsReadFault registered other fault → fault ≡ replaying.NoMemory
misread registered state contents other fault x y with_it is is_state other_is reads =
    only_memory registered contents state fault with_it is_state
    (subst (λ (c : Contents). IsReadFault registered c fault) (represent_once other contents x y other_is is) reads)

-- what is in version 2 is not in version 1
pub two_one : (contents other : Contents) → other ≡ contents → AreIn Two contents → AreIn One other → ⊥
two_one contents other same two one =
    let here = subst (AreIn One) same one in
    let is : Two ≡ One = (image_once contents.0 Two One two.0 here.0 two.1 here.1).0 in
    absurd (cc)

module _ {B : Type 0} (G : Ghosts B) (registered : List Registration) (pool services : List B) where
  -- boxes with which the state can be opened are not short, nor is a state refused
  boxes_there : (P : HostState → Type 0) (state : HostState) (contents : Contents) (x y : List ℕ)
      → state.registered ≡ registered → Represent contents x y → IsStateOf state contents
      → AreOfState registered P x y → (P state → ⊥) → ⊥
  boxes_there P state contents x y with_it is is_state (other, other_is, s, s_with, s_of, has) never =
      let same : IsStateOf s contents = subst (IsStateOf s) (represent_once other contents x y other_is is) s_of in
      never (subst P (host_state_once s state contents (s_with ∙ sym with_it) same is_state) has)

  -- files that are in version 2 are not refused because no generation is left
  never_spent : (contents : Contents) (x y : List ℕ) → Represent contents x y
      → AreIn Two contents → IsSpent G registered pool services x y → ⊥
  never_spent contents x y is two spent =
      two_one contents spent.contents (represent_once spent.contents contents x y spent.represented is) two spent.in_one

  pub only_mishaps : (state : HostState) (contents : Contents) (fault : StoreFault) (x y : List ℕ)
      → state.registered ≡ registered → Represent contents x y → IsStateOf state contents → AreIn Two contents
      → CanOpen G pool services state → StoreFaultIs G registered pool services fault x y → IsMishap fault
  only_mishaps state contents (faults.Open opening.NoMemory) x y with_it is is_state two can cause = tt
  only_mishaps state contents (faults.Open opening.DeviceFailed) x y with_it is is_state two can cause = tt
  only_mishaps state contents faults.GenerationSpent x y with_it is is_state two can cause =
      absurd (never_spent contents x y is two cause)
  only_mishaps state contents (faults.PoolShort kind) x y with_it is is_state two can cause =
      absurd (boxes_there (λ s. IsShort G s pool services kind) state contents x y with_it is is_state cause
      (λ short. not_short G pool services state kind can short))
  only_mishaps state contents (faults.RestoreRefused number) x y with_it is is_state two can cause =
      absurd (boxes_there (λ s. IsRefused G s pool services number) state contents x y with_it is is_state cause
      (λ refused. not_refused G pool services state number can refused))
  only_mishaps state contents (faults.Open opening.NoGeneration) x y with_it is is_state two can cause =
      absurd (represent_open contents x y is cause)
  only_mishaps state contents (faults.Open (opening.Damaged at)) x y with_it is is_state two can (inl (inl unsound)) =
      absurd (represent_sound contents x y is unsound.0)
  only_mishaps state contents (faults.Open (opening.Damaged at)) x y with_it is is_state two can (inl (inr cut)) =
      absurd (represent_whole contents x y at is cut)
  only_mishaps state contents (faults.Open (opening.Damaged at)) x y with_it is is_state two can
      (inr (other, other_is, wrong)) =
      let same : replaying.Damaged at ≡ replaying.NoMemory =
      misread registered state contents other (replaying.Damaged at) x y with_it is is_state other_is
      wrong in absurd (cc)
  only_mishaps state contents faults.OtherInterface x y with_it is is_state two can (other, other_is, others) =
      let same : replaying.OtherInterface ≡ replaying.NoMemory =
      misread registered state contents other replaying.OtherInterface x y with_it is is_state other_is others in
      absurd (cc)
  only_mishaps state contents (faults.Create fault) x y with_it is is_state two can cause = absurd cause
