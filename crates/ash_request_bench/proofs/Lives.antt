-- An engine that has replied has a live state.
use Rattle.std.proofs.Common.{ℕ, refl}
use Rattle.std.specs.Prelude.{Option, Some, None, Ok, IsSome}
use Rattle.ash_host.specs.declared.host_object.HostObject.{Ghosts}
use Rattle.ash_requests.specs.Requests.{Request}
use Rattle.ash_requests.specs.declared.reply.Reply.{Reply}
use Rattle.ash_sources.specs.declared.fault.SourceFault.{SourceFault}
use Rattle.ash_engine.specs.LiveStates.{LiveState}
use Rattle.ash_engine.specs.LiveSteps.{Handled}

pub live_after : {B : Type 0} (G : Ghosts B) (budget : ℕ) (request : Request) (old : LiveState B)
    (reply : Reply SourceFault) (new : Option (LiveState B))
    → Handled G budget request old (Ok reply) new → IsSome new
live_after G budget request old reply (Some new) handled = refl
live_after G budget request old reply None handled = elim handled [ ]
