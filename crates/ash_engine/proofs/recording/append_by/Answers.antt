use Rattle.std.proofs.Common.{◌++◌, ap, subst, ◌∙◌}
use Rattle.std.proofs.lemmas.Result.{on_ok_weaker}
use Rattle.ash_image.specs.declared.version.Version.TheVariants.{Two}
use Rattle.ash_image.specs.Delta.{Delta, delta, FitsDelta}
use Rattle.ash_engine.proofs.recording.append_by.Goals as goal

pub returns : goal.returns
returns g c = record {
  appended = λ rs.
      let same = c.delta_parts.ensures.same rs in
      on_ok_weaker c.append_delta.result
      (λ is. record {
        fits = subst (λ (d : Delta). FitsDelta Two d) same c.delta_parts.ensures.fits;
        few = c.requires.listed.live.listable.few;
        appended = is ∙ ap (λ (d : Delta). c.args.out.now.items ++ delta d) same;
      })
      c.append_delta.ensures.appended;
}
