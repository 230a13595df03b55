use Rattle.std.proofs.Common.{◌≡◌, sym, subst, ◌∙◌, true, false, arith}
use Rattle.std.proofs.lemmas.Bool.{false≢true}
use Rattle.ash_image.specs.Snapshots.{Snapshot}
use Rattle.ash_image.specs.Image.{FitsVersion}
use Rattle.ash_image.specs.Rules.{KeepsRules}
use Rattle.ash_image.specs.SnapshotViews.{snapshot_of}
use Rattle.ash_image.specs.NamedViews.{module_seen, state_seen}
use Rattle.ash_image.proofs.LeadingLaws.{seen_length}
use Rattle.ash_image.proofs.NamingLaws.{named_again, found_again}
use Rattle.ash_image.proofs.naming.stored_state.Goals as goal

pub indexed_state-requires : goal.indexed_state-requires
indexed_state-requires c = record {
  few = omega (arith, seen_length module_seen c.args.state.modules.entries);
}

pub keeps_rules-requires : goal.keeps_rules-requires
keeps_rules-requires c =
    let fits = c.fits_version.ensures.exact.0 (grind arith) in
    record { in_order = fits.objects.order }

pub returns-then-not-fits_version-clause-only : goal.returns-then-not-fits_version-clause-only
returns-then-not-fits_version-clause-only c = λ s same fits keeps.
    let found : snapshot_of c.in_ok-stored.stored ≡ s =
    found_again c.args.version (state_seen c.args.state) s (snapshot_of c.in_ok-stored.stored)
    c.in_ok-stored.ensures.indexed same fits keeps in
    let holds : c.fits_version.result ≡ true =
    c.fits_version.ensures.exact.1 (subst (λ (t : Snapshot). FitsVersion c.args.version t) (sym found) fits) in
    let fails : c.fits_version.result ≡ false = grind arith in
    absurd (false≢true (sym fails ∙ holds))

pub returns-then-not-branch-clause-only : goal.returns-then-not-branch-clause-only
returns-then-not-branch-clause-only c = λ s same fits keeps.
    let found : snapshot_of c.in_ok-stored.stored ≡ s =
    found_again c.args.version (state_seen c.args.state) s (snapshot_of c.in_ok-stored.stored)
    c.in_ok-stored.ensures.indexed same fits keeps in
    let holds : c.in_ok-keeps_rules.field-0 ≡ true =
    c.in_ok-keeps_rules.ensures.exact.1 (subst (λ (t : Snapshot). KeepsRules t) (sym found) keeps) in
    let fails : c.in_ok-keeps_rules.field-0 ≡ false = grind arith in
    absurd (false≢true (sym fails ∙ holds))

pub returns-clause-stored : goal.returns-clause-stored
returns-clause-stored c =
    let fits : FitsVersion c.args.version (snapshot_of c.in_ok-stored.stored) =
    c.fits_version.ensures.exact.0 (grind arith) in
    let keeps : KeepsRules (snapshot_of c.in_ok-stored.stored) =
    c.in_ok-keeps_rules.ensures.exact.0 (grind arith) in (
      named_again (state_seen c.args.state) (snapshot_of c.in_ok-stored.stored) c.in_ok-stored.ensures.indexed keeps,
      fits,
      keeps,
    )
