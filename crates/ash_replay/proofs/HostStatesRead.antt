-- Which state of a host is read of an image and records.
use Rattle.std.proofs.Common.{◌≡◌, ◌∙◌, List, Some, None, refl, sym, ap, subst}
use Rattle.ash_journal.specs.Current.{Contents}
use Rattle.ash_registry.specs.AcceptedRegistrations.{Registration}
use Rattle.ash_registry.specs.RegistryText.{text_of}
use Rattle.ash_image.specs.declared.version.Version.{Version}
use Rattle.ash_image.specs.Snapshots.{Snapshot}
use Rattle.ash_states.specs.HostStates.{HostState}
use Rattle.ash_states.specs.Images.{HasServices, IsDepicted, IsImageRestored, state_of}
use Rattle.ash_replay.specs.Replay.{IsStateIn}
use Rattle.ash_replay.specs.ReplayedStates.{IsOfNone, IsRead, ContentsHaveOneState}
use Rattle.ash_replay.proofs.Once.{state_once}

-- what was restored of a snapshot is the state that the snapshot is of
depicted : (registered : List Registration) (s : Snapshot) (state : HostState) → s.registered ≡ text_of registered
    → IsImageRestored registered s (Some state) → IsDepicted s state
depicted registered s state text restored = record {
  text_is = text ∙ ap text_of (sym restored.0);
  services_are = subst (λ (r : List Registration). HasServices r s) (sym restored.0) restored.2;
  state_is = restored.1;
  admitted = restored.3;
}

-- it is read
pub is_read : (registered : List Registration) (contents : Contents) (version : Version) (s : Snapshot)
    (state : HostState) → IsStateIn version contents s → s.registered ≡ text_of registered
    → IsImageRestored registered s (Some state)
    → IsRead registered contents (record { version = version; state = state })
is_read registered contents version s state led text restored = record {
  registered_is = restored.0;
  is_state = record {
    version = version;
    snapshot = s;
    led = led;
    depicts = depicted registered s state text restored;
  };
  in_version = (led.led.first, led.led.image);
}

-- a snapshot of which nothing is restored is of no state with this registered
pub of_none : (registered : List Registration) (s : Snapshot) → IsImageRestored registered s None
    → IsOfNone registered s
of_none registered s none state with_it is =
    none state with_it is.state_is (subst (λ (r : List Registration). HasServices r s) with_it is.services_are)
    is.admitted

-- a state is known by what outlives a request and by what is registered
same_host : (s t : HostState) → s.registered ≡ t.registered → s.state ≡ t.state → s ≡ t
same_host s t registered same = rw (registered, same) refl

-- contents are of one state with the same registered
pub host_state_once : ContentsHaveOneState
host_state_once s t contents registered one other =
    let same = state_once one.version other.version contents one.snapshot other.snapshot one.led other.led in
    same_host s t registered
    (sym one.depicts.state_is ∙ ap state_of same.1 ∙ other.depicts.state_is)
