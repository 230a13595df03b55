-- Contents of a state are read as nothing else.
use Rattle.std.proofs.Common.{◌≡◌, inl, inr, ◌∙◌, ℕ, ◌+◌, List, [], ◌∷◌, length, refl, sym, ap, subst}
use Rattle.ash_journal.specs.Current.{Contents}
use Rattle.ash_registry.specs.AcceptedRegistrations.{Registration}
use Rattle.ash_registry.specs.RegistryText.{text_of}
use Rattle.ash_image.specs.declared.version.Version.{Version}
use Rattle.ash_image.specs.declared.version.Version.TheVariants.{Two}
use Rattle.ash_image.specs.Snapshots.{Snapshot}
use Rattle.ash_image.specs.Image.{FitsVersion}
use Rattle.ash_image.specs.Leading.{NamedSnapshot, named}
use Rattle.ash_states.specs.HostStates.{HostState}
use Rattle.ash_states.specs.Images.{IsDepicted, IsImageIn}
use Rattle.ash_replay.specs.Replay.{LeadThrough}
use Rattle.ash_replay.specs.ReplayFaults.{record_header_size, after_image, StopsAt, StopsAtRecord, EndsInNoState}
use Rattle.ash_replay.specs.ReplayFaults.{IsMisshapen}
use Rattle.ash_replay.specs.ReplayedStates.{IsStateOf, AreOfOthers, IsNotAdmitted, IsReadFault}
use Rattle.ash_replay.specs.declared.fault.ReplayFault.{ReplayFault}
use Rattle.ash_replay.specs.declared.fault.ReplayFault.TheVariants as faults
use Rattle.ash_replay.proofs.Once.{image_once, record_once, led_once, state_once}

-- records that lead on do not stop
never_stops : (version : Version) (offset at : ℕ) (bodies : List (List ℕ)) (before other after : NamedSnapshot)
    → before ≡ other → LeadThrough version bodies before after → StopsAt version offset bodies other at → ⊥
never_stops version offset at [] before other after same led stops = stops
never_stops version offset at (body ∷ bodies) before other after same led stops =
    let there = subst (λ (from : NamedSnapshot). LeadThrough version (body ∷ bodies) from after) same led in
    elim stops [
      | inl here ↦ here.0 there.0 there.1
      | inr later ↦
          never_stops version (offset + record_header_size + length body) at bodies there.0 later.0 after
          (record_once version body other there.0 later.0 there.1 later.1) there.2 later.2
    ]

none_stops : (contents : Contents) (state : HostState) (at : ℕ) → IsStateOf state contents → StopsAtRecord contents at
    → ⊥
none_stops contents state at is_state (version, first, image, stops) =
    let led = is_state.led.led in
    let same = image_once contents.0 is_state.version version led.first first led.image image in
    let there = subst (λ (v : Version). LeadThrough v contents.1 (named led.first) (named is_state.snapshot)) same.0
    led.records in
    never_stops version (after_image contents.0) at contents.1 (named led.first) (named first)
    (named is_state.snapshot) (ap named same.1) there stops

keeps_rules : (contents : Contents) (state : HostState) (at : ℕ) → IsStateOf state contents → EndsInNoState contents at
    → ⊥
keeps_rules contents state at is_state (version, last, led, breaks, at_gate) =
    let same = led_once is_state.version version contents (named is_state.snapshot) last is_state.led.led led in
    breaks is_state.snapshot same.1
    (subst (λ (v : Version). FitsVersion v is_state.snapshot) same.0 is_state.led.fits) is_state.led.rules

-- contents of a state are not misshapen
not_misshapen : (contents : Contents) (state : HostState) (at : ℕ) → IsStateOf state contents → IsMisshapen contents at
    → ⊥
not_misshapen contents state at is_state (inl none) =
    none.0 is_state.version is_state.led.led.first is_state.led.led.image
not_misshapen contents state at is_state (inr (inl stops)) = none_stops contents state at is_state stops
not_misshapen contents state at is_state (inr (inr ends)) = keeps_rules contents state at is_state ends

-- a host may be in their state
is_admitted : (registered : List Registration) (contents : Contents) (state : HostState) (at : ℕ)
    → state.registered ≡ registered → IsStateOf state contents → IsNotAdmitted registered contents at → ⊥
is_admitted registered contents state at with_it is_state (version, s, led, text, of_none, at_gate) =
    let same = state_once is_state.version version contents is_state.snapshot s is_state.led led in
    of_none state with_it (subst (λ (x : Snapshot). IsDepicted x state) same.1 is_state.depicts)

-- their text of what was registered is that of the state
not_others : (registered : List Registration) (contents : Contents) (state : HostState)
    → state.registered ≡ registered → IsStateOf state contents → AreOfOthers registered contents → ⊥
not_others registered contents state with_it is_state (version, s, led, other) =
    let same = state_once is_state.version version contents is_state.snapshot s is_state.led led in
    other (ap (λ (x : Snapshot). x.registered) (sym same.1) ∙ is_state.depicts.text_is ∙ ap text_of with_it)

-- Where contents are of a state of a host with this registered, out of memory is the one fault that they are read as.
pub only_memory : (registered : List Registration) (contents : Contents) (state : HostState) (fault : ReplayFault)
    → state.registered ≡ registered → IsStateOf state contents → IsReadFault registered contents fault
    → fault ≡ faults.NoMemory
only_memory registered contents state (faults.Damaged at) with_it is_state (inl misshapen) =
    absurd (not_misshapen contents state at is_state misshapen)
only_memory registered contents state (faults.Damaged at) with_it is_state (inr not_admitted) =
    absurd (is_admitted registered contents state at with_it is_state not_admitted)
only_memory registered contents state faults.OtherInterface with_it is_state others =
    absurd (not_others registered contents state with_it is_state others)
only_memory registered contents state faults.NoMemory with_it is_state reads = refl

-- an image of a state is one of another that has the same contents, whatever is registered
pub same_image : (s u : HostState) (contents : Contents) (image : List ℕ) → IsStateOf s contents → IsStateOf u contents
    → IsImageIn Two image u → IsImageIn Two image s
same_image s u contents image s_of u_of is =
    let same = state_once s_of.version u_of.version contents s_of.snapshot u_of.snapshot s_of.led u_of.led in
    let both = subst (λ (x : Snapshot). IsDepicted x u) (sym same.1) u_of.depicts in (
      is.0,
      is.1,
      record {
        text_is = is.2.text_is ∙ sym both.text_is ∙ s_of.depicts.text_is;
        services_are = is.2.services_are ∙ sym both.services_are ∙ s_of.depicts.services_are;
        state_is = is.2.state_is ∙ sym both.state_is ∙ s_of.depicts.state_is;
        admitted = s_of.depicts.admitted;
      },
    )
