-- A record more leads to the next state.
use Rattle.std.proofs.Common.{◌≡◌, ◌≤◌, ◌∙◌, inl, inr, ℕ, List, [], ◌∷◌, ◌++◌, length, refl, sym, ap, subst, arith}
use Rattle.ash_image.specs.declared.version.Version.{Version}
use Rattle.ash_image.specs.Snapshots.{Snapshot}
use Rattle.ash_image.specs.Image.{FitsVersion}
use Rattle.ash_image.specs.Rules.{KeepsRules}
use Rattle.ash_image.specs.Delta.{Delta}
use Rattle.ash_image.specs.Deltas.{deltas}
use Rattle.ash_image.specs.Leading.{NamedSnapshot, named, Leads, IsDeltaBetween}
use Rattle.ash_registry.specs.RegistryText.{text_of}
use Rattle.ash_image.proofs.OneState.{known_by_names}
use Rattle.ash_sources.proofs.SourceLaws.{read_sound}
use Rattle.ash_states.specs.HostStates.{HostState, IsAdmitted, embedding_for, offered_to}
use Rattle.ash_states.specs.Images.{IsDepicted, IsImageIn}
use Rattle.ash_states.specs.Indexes.{snapshot_for}
use Rattle.ash_states.proofs.Depicted.{depicted}
use Rattle.ash_states.proofs.SnapshotRules.{rules}
use Rattle.ash_replay.specs.Replay.{LeadOneByOne, IsRecordBetween, LeadThrough, LeadTo}
use Rattle.ash_replay.specs.ReplayedStates.{AreIn, IsStateOf, LeadsHost, LeadHosts, IsDeltasTo, IsBodyBetween}
use Rattle.ash_replay.specs.ReplayedStates.{RecordsLeadOn, StatesFit}
use Rattle.ash_replay.proofs.Names.{names_of_one, in_order}
use Rattle.ash_replay.proofs.Once.{image_once}

-- a record after the last leads on from where those before it lead
through_push : (version : Version) (bodies : List (List ℕ)) (body : List ℕ) (first before after : NamedSnapshot)
    → LeadThrough version bodies first before → IsRecordBetween version body before after
    → LeadThrough version (bodies ++ body ∷ []) first after
through_push version [] body first before after same leads =
    (after, subst (λ (from : NamedSnapshot). IsRecordBetween version body from after) same leads, refl)
through_push version (first_body ∷ bodies) body first before after more leads =
    (more.0, more.1, through_push version bodies body more.0 before after more.2 leads)

-- contents with a record more
led_push : (version : Version) (image : List ℕ) (bodies : List (List ℕ)) (body : List ℕ) (before after : NamedSnapshot)
    → LeadTo version (image, bodies) before → IsRecordBetween version body before after
    → LeadTo version (image, bodies ++ body ∷ []) after
led_push version image bodies body before after led leads = record {
  first = led.first;
  image = led.image;
  records = through_push version bodies body (named led.first) before after led.records leads;
}

-- a delta between two snapshots leads from each that is the first by names
by_delta : (version : Version) (body : List ℕ) (from before after : Snapshot) → named from ≡ named before
    → IsDeltaBetween body version before after → IsRecordBetween version body (named from) (named after)
by_delta version body from before after same between = inr (inl (
  between.0,
  between.2,
  record {
    changes = between.1;
    is_delta = between.3;
    leads = subst (λ (x : NamedSnapshot). Leads between.1 x (named after)) (sym same) between.4.0;
    ordered = in_order version after between.4.1 between.4.2;
  },
))

-- deltas between the states of hosts lead from what is the first by names
one_by_one : (version : Version) (ds : List Delta) (from : NamedSnapshot) (before after : HostState)
    → from ≡ named (snapshot_for before) → LeadHosts version ds before after
    → LeadOneByOne ds from (named (snapshot_for after))
one_by_one version [] from before after same lead =
    ap (λ (s : HostState). named (snapshot_for s)) lead ∙ sym same
one_by_one version (d ∷ ds) from before after same lead = (
  named (snapshot_for lead.0),
  subst (λ (x : NamedSnapshot). Leads d x (named (snapshot_for lead.0))) (sym same) lead.1.leads.0,
  in_order version (snapshot_for lead.0) lead.1.leads.1 lead.1.leads.2,
  one_by_one version ds (named (snapshot_for lead.0)) lead.0 after refl lead.2,
)

-- what is known of the state that the last of them leads to
record IsLed (version : Version) (state : HostState) : Type 0 where
  pub fits : FitsVersion version (snapshot_for state)
  pub rules : KeepsRules (snapshot_for state)
  pub admitted : IsAdmitted state

is_led : (version : Version) (d : Delta) (before after : HostState) → LeadsHost version d before after
    → IsLed version after
is_led version d before after lead = record {
  fits = lead.leads.1;
  rules = lead.leads.2;
  admitted = lead.admitted;
}

led_on : (version : Version) (ds : List Delta) (before after : HostState) → IsLed version before
    → LeadHosts version ds before after → IsLed version after
led_on version [] before after is lead = subst (λ (s : HostState). IsLed version s) (sym lead) is
led_on version (d ∷ ds) before after is lead =
    led_on version ds lead.0 after (is_led version d before lead.0 lead.1) lead.2

last_led : (version : Version) (ds : List Delta) (before after : HostState) → 1 ≤ length ds
    → LeadHosts version ds before after → IsLed version after
last_led version [] before after some lead = absurd (omega (arith, some))
last_led version (d ∷ ds) before after some lead =
    led_on version ds lead.0 after (is_led version d before lead.0 lead.1) lead.2

-- a delta after the last leads on from where those before it lead
pub hosts_push : (version : Version) (ds : List Delta) (d : Delta) (first before after : HostState)
    → LeadHosts version ds first before → LeadsHost version d before after
    → LeadHosts version (ds ++ d ∷ []) first after
hosts_push version [] d first before after same lead =
    (after, subst (λ (from : HostState). LeadsHost version d from after) same lead, refl)
hosts_push version (e ∷ ds) d first before after more lead =
    (more.0, more.1, hosts_push version ds d more.0 before after more.2 lead)

-- deltas lead from each snapshot of the first state
by_deltas : (version : Version) (body : List ℕ) (from : Snapshot) (before after : HostState) → IsDepicted from before
    → IsDeltasTo version body before after → IsRecordBetween version body (named from) (named (snapshot_for after))
by_deltas version body from before after depicts between = inr (inr (
  deltas between.changes,
  between.is_body.1,
  record {
    in_two = between.in_two;
    changes = between.changes;
    are_deltas = (between.is_body.0, refl);
    lead = one_by_one version between.changes (named from) before after
        (names_of_one from (snapshot_for before) before depicts (depicted before depicts.admitted)) between.lead;
  },
))

-- a record leads to the snapshot of its image, or to the snapshot that a delta leads to, or the last of several
record NextState (version : Version) (body : List ℕ) (from : Snapshot) (after : HostState) : Type 0 where
  pub snapshot : Snapshot
  pub between : IsRecordBetween version body (named from) (named snapshot)
  pub fits : FitsVersion version snapshot
  pub rules : KeepsRules snapshot
  pub depicts : IsDepicted snapshot after

led_by : (version : Version) (body : List ℕ) (from : Snapshot) (before after : HostState) → IsDepicted from before
    → IsBodyBetween version body before after → NextState version body from after
led_by version body from before after depicts body_is = elim body_is.leads [
  | inl image ↦ record {
    snapshot = image.2.0;
    between = inl (record {
      state = image.2.0;
      is_body = (image.0, image.1, image.2.1);
      registered = image.2.2.text_is ∙ ap text_of body_is.registered ∙ sym depicts.text_is;
      after_is = refl;
    });
    fits = image.2.1.0.0;
    rules = image.2.1.1;
    depicts = image.2.2;
  }
  | inr (inl delta) ↦ record {
    snapshot = snapshot_for after;
    between = by_delta version body from (snapshot_for before) (snapshot_for after)
        (names_of_one from (snapshot_for before) before depicts (depicted before depicts.admitted)) delta.0;
    fits = delta.0.4.1;
    rules = delta.0.4.2;
    depicts = depicted after delta.1;
  }
  | inr (inr deltas) ↦
      let is = last_led version deltas.changes before after deltas.is_body.0.some deltas.lead in
      record {
        snapshot = snapshot_for after;
        between = by_deltas version body from before after depicts deltas;
        fits = is.fits;
        rules = is.rules;
        depicts = depicted after is.admitted;
      }
]

-- contents with a record more are of the state to which it leads
pub state_of_push : RecordsLeadOn
state_of_push version before after image bodies body is_state in_version body_is =
    let v = is_state.version in
    let same : v ≡ version =
    (image_once image v version is_state.led.led.first in_version.0 is_state.led.led.image in_version.1).0 in
    let led : LeadTo version (image, bodies) (named is_state.snapshot) =
    subst (λ (w : Version). LeadTo w (image, bodies) (named is_state.snapshot)) same is_state.led.led in
    let next = led_by version body is_state.snapshot before after is_state.depicts body_is in
    record {
      version = version;
      snapshot = next.snapshot;
      led = record {
        led = led_push version image bodies body (named is_state.snapshot) (named next.snapshot) led next.between;
        fits = next.fits;
        rules = next.rules;
      };
      depicts = next.depicts;
    }

-- contents with a record more are in the same version
pub push_in : (version : Version) (image : List ℕ) (bodies : List (List ℕ)) (body : List ℕ)
    → AreIn version (image, bodies) → AreIn version (image, bodies ++ body ∷ [])
push_in version image bodies body is = is

-- the state of contents has an image in their version
pub fits_in : StatesFit
fits_in version state contents is_state in_version =
    let s = is_state.snapshot in
    let led = is_state.led in
    let same : is_state.version ≡ version =
    (image_once contents.0 is_state.version version led.led.first in_version.0 led.led.image in_version.1).0 in
    let admitted = is_state.depicts.admitted in
    let keeps : KeepsRules (snapshot_for state) =
    rules (embedding_for state.registered) (offered_to state.registered) (read_sound state.registered) state.state
    admitted.formed state.registered in
    let names = names_of_one s (snapshot_for state) state is_state.depicts (depicted state admitted) in
    let is : s ≡ snapshot_for state =
    known_by_names s (snapshot_for state) led.fits.modules.order led.rules keeps names in
    subst (λ (x : Snapshot). FitsVersion version x) is
    (subst (λ (v : Version). FitsVersion v s) same led.fits)

-- an image without records is in its version
pub alone_in : (version : Version) (state : HostState) (image : List ℕ) → IsImageIn version image state
    → AreIn version (image, [])
alone_in version state image is = (is.0, is.1)

-- and of its state
pub state_of_alone : (version : Version) (state : HostState) (image : List ℕ) → IsImageIn version image state
    → IsStateOf state (image, [])
state_of_alone version state image is = record {
  version = version;
  snapshot = is.0;
  led = record {
    led = record { first = is.0; image = is.1; records = refl };
    fits = is.1.0.0;
    rules = is.1.1;
  };
  depicts = is.2;
}
