-- What is reported of files is what they hold.
use Rattle.std.proofs.Common.{◌≡◌, inl, inr, ℕ, ◌<◌, List, length, None, Some, IfSome, Option, sym, ◌∙◌, ap, subst, arith}
use Rattle.std.proofs.lemmas.List.{length-map}
use Rattle.ash_journal.specs.Layout.{IsFile, IsClosed, HasMark, LacksMark}
use Rattle.ash_journal.specs.Opening.{IsUnsound}
use Rattle.ash_journal.specs.Reading.{AreAt, bodies_of}
use Rattle.ash_replay.specs.ReplayFaults.{after_image}
use Rattle.ash_inspect.specs.declared.file_fault.FileFault.TheVariants as faults
use Rattle.ash_inspect.specs.declared.report.Damage.{Damage}
use Rattle.ash_inspect.specs.declared.report.Damage.TheVariants as damages
use Rattle.ash_journal.specs.declared.record.Record.{Record}
use Rattle.ash_inspect.specs.declared.reading.Reading.{Reading}
use Rattle.ash_inspect.specs.declared.report.OpenFile.{OpenFile}
use Rattle.ash_inspect.specs.declared.report.FileReport.TheVariants as reports
use Rattle.ash_inspect.specs.declared.known.KnownState.{KnownState}
use Rattle.ash_inspect.specs.Files.{BeginsWith, FileFaultIs}
use Rattle.ash_inspect.specs.Known.{IsKnown}
use Rattle.ash_inspect.specs.Reports.{IsFound, DamageIs, IsReport, IsReported, IsOpenFile, IsNewer}
use Rattle.ash_inspect.proofs.FileLaws.{begins_marked}

-- ---- an open file

abbrev is_there : Option KnownState → ℕ
is_there None = 0
is_there (Some known) = 1

abbrev records_of : Option KnownState → ℕ
records_of None = 0
records_of (Some known) = known.records

none_known : (known : KnownState) → Some known ≡ None → ⊥
none_known known same = absurd (omega (arith, ap is_there same))

same_known : (known other : KnownState) → Some known ≡ Some other → known.records ≡ other.records
same_known known other same = ap records_of same

pub open_is : (o : OpenFile) (r : Reading) (file : List ℕ)
    → BeginsWith r.generation.number r.generation.image.items (bodies_of r.generation.records.items) file
    → (r.cut ≡ None → IsFile r.generation.number r.generation.image.items (bodies_of r.generation.records.items) file)
    → AreAt (after_image r.generation.image.items) r.generation.records.items
    → IfSome r.cut (λ at. FileFaultIs (faults.Damaged at) file) → IsReported o r → IsOpenFile o file
open_is o r file begins whole placed damaged is = record {
  image = image;
  bodies = bodies;
  begins = subst (λ (n : ℕ). BeginsWith n image bodies file) (sym is.generation) begins;
  count = is.count ∙ sym counted;
  known = is.known;
  whole = λ none.
      let s = is.sound none in
      let state = subst (λ (k : Option KnownState). IfSome k (λ k. IsKnown k image bodies)) s.is_found is.known in
      record {
        is_file = subst (λ (n : ℕ). IsFile n image bodies file) (sym is.generation) (whole s.to_the_end);
        known = s.state;
        is_known = s.is_found;
        all = omega (arith, s.all, state.within, counted);
      };
  damage = damage_is o.damage is.found;
}
  where
    image : List ℕ
    image = r.generation.image.items

    bodies : List (List ℕ)
    bodies = bodies_of r.generation.records.items

    damage_is : (found : Option Damage) → IfSome found (λ d. IsFound d r o.known)
        → IfSome found (λ d. DamageIs d file image bodies)
    damage_is None is_found = tt
    damage_is (Some damages.NoImage) is_found =
        λ version s leads. let all = is.all version s placed leads in none_known all.0 (sym all.1 ∙ is_found)
    damage_is (Some (damages.CutShort at)) is_found =
        subst (λ (cut : Option ℕ). IfSome cut (λ at. FileFaultIs (faults.Damaged at) file)) is_found damaged
    damage_is (Some (damages.LeadsNowhere at)) is_found =
        λ version s leads.
        let all = is.all version s placed leads in
        absurd (omega (arith, all.2, is_found.2, same_known all.0 is_found.0 (sym all.1 ∙ is_found.1)))

    counted : length bodies ≡ length r.generation.records.items
    counted = length-map r.generation.records.items (λ (q : Record). q.body.items)

pub open_report : (o : OpenFile) (file : List ℕ) → IsOpenFile o file → IsReport (reports.Open o) file
open_report o file is = (begins_marked o.generation is.image is.bodies file is.begins, is)

-- ---- which file is current

pub newer_closed : (g : ℕ) (x y : List ℕ) → HasMark g x → IsClosed y → IsNewer x y
newer_closed g x y has closed = (g, has, inl closed)

pub newer_older : (g h : ℕ) (x y : List ℕ) → HasMark g x → HasMark h y → h < g → IsNewer x y
newer_older g h x y has other older = (g, has, inr (h, other, older))

pub first_lacks : (x y : List ℕ) → LacksMark x → IsUnsound x y
first_lacks x y lacks = inl lacks

pub second_lacks : (x y : List ℕ) → LacksMark y → IsUnsound x y
second_lacks x y lacks = inr (inl lacks)

pub both_same : (g h : ℕ) (x y : List ℕ) → HasMark g x → HasMark h y → g ≡ h → IsUnsound x y
both_same g h x y one two same = inr (inr (g, one, subst (λ (n : ℕ). HasMark n y) (sym same) two))
