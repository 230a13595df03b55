use Rattle.ash_registrations.specs.Registrations.{registration_of, takes_name}
use Rattle.ash_registrations.proofs.Places.{any_by}
use Rattle.ash_registrations.proofs.registrations.Registrations.takes_name.Goals as goal

pub returns : goal.returns
returns c = record {
  name =
      any_by (takes_name c.args.name.now) registration_of c.args.self.now.registrations.items _ c.contains_key.result
      (c.args.self.now.placed c.args.name.now) c.contains_key.ensures;
}
