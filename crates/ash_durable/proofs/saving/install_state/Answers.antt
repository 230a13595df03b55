use Rattle.std.proofs.Common.{List, ℕ, Err, ap, sym, subst}
use Rattle.ash_journal.specs.declared.error.InstallError.{InstallError}
use Rattle.ash_image.specs.declared.version.Version.TheVariants.{Two}
use Rattle.ash_states.specs.Images.{IsImageIn}
use Rattle.ash_durable.proofs.Committing.{installs, installs_not}
use Rattle.ash_durable.proofs.Outcomes.{counts_as}
use Rattle.ash_durable.proofs.saving.install_state.Goals as goal

pub returns-in-Ok : goal.returns-in-Ok
returns-in-Ok g c = record {
  installs = λ live is.
      let state = live.durable in
      let image = c.deref.result.now in
      let depicts : IsImageIn Two image state = subst (λ (bytes : List ℕ). IsImageIn Two bytes state)
      (sym c.deref.ensures.value) (c.in_ok-image.ensures.image live is) in
      let said = c.in-Ok.ensures in
      installs g.D.Disk state c.args.journal.now c.install.new.self image depicts said.run said.installed
      (said.ready (λ is. cc)) said.higher said.emptied said.untouched
      (record {
        failures = counts_as _ _ _ _ _ _ (λ is. cc) (λ no. absurd no) said.cause;
        honesty_first = said.honesty_first;
        honesty_second = said.honesty_second;
      });
}

pub returns : goal.returns
returns g c = record {
  installs = λ live is.
      let state = live.durable in
      let image = c.deref.result.now in
      let depicts : IsImageIn Two image state = subst (λ (bytes : List ℕ). IsImageIn Two bytes state)
      (sym c.deref.ensures.value) (c.in_ok-image.ensures.image live is) in
      let said = c.in-Err-DeviceFailed.ensures in
      let failed_by = c.in-Err-DeviceFailed.field-0-is in
      let is_failed = ap (λ (e : InstallError). Err e) failed_by in
      installs_not g.D.Disk state c.args.journal.now c.install.new.self image depicts said.run
      (λ last. let spent = said.spent.1 last in cc) (said.failed is_failed) said.untouched
      (record {
        failures = counts_as _ _ _ _ _ _ (λ is. tt) (λ is. is_failed) said.cause;
        honesty_first = said.honesty_first;
        honesty_second = said.honesty_second;
      });
}
