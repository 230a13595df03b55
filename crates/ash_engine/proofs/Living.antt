-- What is known of a live state over the table.
use Rattle.std.proofs.Common.{List, refl}
use Rattle.ash_host.specs.declared.host_object.HostObject.{Ghosts}
use Rattle.ash_registry.specs.AcceptedRegistrations.{Registration}
use Rattle.ash_engine.specs.declared.live.Live.{Live}
use Rattle.ash_engine.specs.LiveStates.{AreOf}
use Rattle.ash_engine.specs.LiveSteps.{reached_by, IsReached}
use Rattle.ash_engine.specs.TableStates.{names_of, live_seen, IsLive}
use Rattle.ash_engine.proofs.Started.{are_of}

module _ {B : Type 0} (G : Ghosts B) (registered : List Registration) (l : Live B) (live : IsLive G registered l) where
  -- the boxes are those of the state
  pub boxes_are : AreOf G (live_seen G registered l)
  boxes_are = are_of G (names_of l) (live_seen G registered l) l.table refl refl refl refl live.kinds

  -- a host may be in it, and the free boxes fit
  pub is_reached : IsReached (reached_by (live_seen G registered l))
  is_reached = record { admitted = live.admitted; fit = live.fit }
