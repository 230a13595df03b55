use Rattle.std.proofs.Common.{◌≡◌, ◌<◌, ◌^◌, ℕ, List, [], ◌∷◌, ◌++◌, length, sym, ap, subst, ◌∙◌, arith}
use Rattle.ash_image.specs.declared.version.Version.TheVariants.{Two}
use Rattle.ash_image.specs.Delta.{Delta, delta, delta_tag}
use Rattle.ash_image.proofs.DeltaLengths.{delta_short}
use Rattle.ash_plain_steps.specs.StateViews.{modules_seen}
use Rattle.ash_change_records.specs.ListedChanges.{changes_listed}
use Rattle.ash_engine.specs.NamedChanges.{changes_seen}
use Rattle.ash_engine.specs.TableStates.{durable_seen}
use Rattle.ash_engine.proofs.recording.delta_body.Goals as goal

tagged : (d : Delta) (none one body : List ℕ) → none ≡ [] → one ≡ none ++ delta_tag ∷ [] → body ≡ one ++ delta d
    → body ≡ delta_tag ∷ delta d
tagged d none one body is first then =
    then ∙ ap (λ (bytes : List ℕ). bytes ++ delta d) (first ∙ ap (λ (bytes : List ℕ). bytes ++ delta_tag ∷ []) is)

pub returns-clause-body : goal.returns-clause-body
returns-clause-body g c rs =
    let l = c.args.live.now in
    let appends = c.in_ok-append_changes.ensures.appended rs in
    let d = changes_listed (changes_seen (modules_seen l.loaded.modules.items) l.changes) (durable_seen g.B.HostObject rs l) in
    (appends.fits, tagged d _ _ _ c.new-body.ensures.items c.in_ok-push.ensures.items appends.appended)

pub returns-clause-short : goal.returns-clause-short
returns-clause-short g c =
    let l = c.args.live.now in
    let rs = c.requires.live.0 in
    let appends = c.in_ok-append_changes.ensures.appended rs in
    let d = changes_listed (changes_seen (modules_seen l.loaded.modules.items) l.changes) (durable_seen g.B.HostObject rs l) in
    let short : length (delta_tag ∷ delta d) < 2 ^ 28 = omega (arith, delta_short Two d appends.fits appends.few) in
    subst (λ (bytes : List ℕ). length bytes < 2 ^ 28) (sym (returns-clause-body g c rs).1) short
