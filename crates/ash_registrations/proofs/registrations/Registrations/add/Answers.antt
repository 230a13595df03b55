use Rattle.ash_registrations.specs.Registrations.{registration_of, takes_name}
use Rattle.ash_registrations.proofs.Places.{place_of_old}
use Rattle.ash_registrations.proofs.registrations.Registrations.add.Goals as goal

pub invariant_of-self-2-clause-placed : goal.invariant_of-self-2-clause-placed
invariant_of-self-2-clause-placed c = λ name.
    place_of_old (λ r. takes_name name (registration_of r)) c.args.self.now.registrations.items _ c.args.registration _
    (c.requires.nameless name) (c.args.self.now.placed name) c.in_ok-push.ensures.items
