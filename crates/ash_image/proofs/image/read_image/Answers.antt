use Rattle.std.proofs.Common.{◌≡◌, ◌∙◌, ℕ, List, Option, Some, None, true, false, sym, ap, arith}
use Rattle.std.specs.Prelude.{option_map}
use Rattle.ash_image.specs.declared.version.Version.{Version}
use Rattle.ash_image.specs.Snapshots.{Snapshot}
use Rattle.ash_image.specs.Image.{IsSpelling, state_bytes}
use Rattle.ash_image.specs.ImageReading.{version_at}
use Rattle.ash_image.specs.SnapshotViews.{image_read, snapshot_of}
use Rattle.ash_image.proofs.ImageLaws.{version_again}
use Rattle.ash_image.proofs.RuleLaws.{only_kept}
use Rattle.ash_image.proofs.image.read_image.Goals as goal

none_some : (x : Version × List ℕ) → None ≡ Some x → ⊥
none_some x e = absurd cc

-- what is spelled has a version
has_version : (bytes : List ℕ) (version : Version) (s : Snapshot) → IsSpelling bytes version s → version_at bytes ≡ None → ⊥
has_version bytes version s h none =
    none_some (version, state_bytes s) (sym none ∙ (ap version_at h.1 ∙ version_again version (state_bytes s) tt))

pub returns-in_err-keeps_rules-clause-without_memory : goal.returns-in_err-keeps_rules-clause-without_memory
returns-in_err-keeps_rules-clause-without_memory c = λ none.
    absurd (has_version c.args.bytes.now c.in-Some.stored.version (snapshot_of c.in-Some.stored.state)
    (rw c.in-Some.is at c.in_ok-stored.ensures.found) none)

pub returns-in_default-clause-only : goal.returns-in_default-clause-only
returns-in_default-clause-only c = λ version s h.
    sym (ap (option_map image_read) c.in_default.is) ∙ c.in_ok-stored.ensures.only version s h.0

pub returns-then-not-branch-clause-only : goal.returns-then-not-branch-clause-only
returns-then-not-branch-clause-only c = λ version s h.
    let breaks : c.in_ok-keeps_rules.field-0 ≡ false = grind arith in
    absurd (only_kept (image_read c.in-Some.stored) (version, s) c.in_ok-keeps_rules.field-0
    (sym (ap (option_map image_read) c.in-Some.is) ∙ c.in_ok-stored.ensures.only version s h.0) h.1
    c.in_ok-keeps_rules.ensures.exact.1 breaks)

pub returns-clause-found : goal.returns-clause-found
returns-clause-found c =
    let holds : c.in_ok-keeps_rules.field-0 ≡ true = grind arith in
    (rw c.in-Some.is at c.in_ok-stored.ensures.found, c.in_ok-keeps_rules.ensures.exact.0 holds)

pub returns-clause-only : goal.returns-clause-only
returns-clause-only c = λ version s h.
    sym (ap (option_map image_read) c.in-Some.is) ∙ c.in_ok-stored.ensures.only version s h.0
