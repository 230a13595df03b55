use Rattle.std.proofs.Common.{None, Some, ◌∙◌, ap, slice_get}
use Rattle.std.specs.Option.{option_copied}
use Rattle.ash_registrations.specs.Registrations.{registration_of, takes_name}
use Rattle.ash_registrations.proofs.Places.{found_by}
use Rattle.ash_registrations.proofs.registrations.Registrations.named.Goals as goal

pub returns-in_err-at : goal.returns-in_err-at
returns-in_err-at c = record {
  by_name =
      found_by (takes_name c.args.name.now) registration_of c.args.self.now.registrations.items None
      (option_copied c.from_residual.result) (c.in_err-at.ensures.value ∙ c.args.self.now.placed c.args.name.now)
      (ap option_copied c.from_residual.ensures);
}

pub returns : goal.returns
returns c = record {
  by_name =
      found_by (takes_name c.args.name.now) registration_of c.args.self.now.registrations.items (Some c.in_ok-at.at.now)
      (option_copied c.registration_at.result) (c.in_ok-at.ensures.value ∙ c.args.self.now.placed c.args.name.now)
      (c.registration_at.ensures.value ∙ ap (λ rs. slice_get rs c.in_ok-at.at.now) c.deref.ensures.value);
}
