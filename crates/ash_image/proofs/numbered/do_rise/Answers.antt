use Rattle.std.proofs.Common.{◌≡◌, ℕ, ◌+◌, ◌<◌, Bool, true, ◌&&◌, ltb, List, ◌∷◌, length, get_or, drop, sym, ◌∙◌, ap, refl, add-one, arith}
use Rattle.std.proofs.Math.Seq.{drop-cons}
use Rattle.std.proofs.lemmas.Bool.{lt-ltb}
use Rattle.ash_host.specs.Objects.{numbers}
use Rattle.ash_image.specs.declared.stored.StoredObject.{StoredObject}
use Rattle.ash_image.specs.Image.{do_rise}
use Rattle.ash_image.specs.SnapshotViews.{object_of, objects_of}
use Rattle.ash_image.proofs.numbered.do_rise.Goals as goal

-- an object whose number is above the last one's is passed over
one_more : (last next : StoredObject) (rest : List StoredObject) (i : ℕ) (all : Bool)
    → i < length rest → next ≡ get_or rest i next → last.number < next.number
    → do_rise (numbers (object_of last ∷ objects_of (drop i rest))) ≡ all
    → do_rise (numbers (object_of next ∷ objects_of (drop (i + 1) rest))) ≡ all
one_more last next rest i all within is above e =
    let there : drop i rest ≡ next ∷ drop (i + 1) rest = drop-cons rest i next within ∙ rw (sym is) (rw add-one refl) in
    let as_one : do_rise (numbers (object_of last ∷ objects_of (next ∷ drop (i + 1) rest))) ≡ all =
    sym (ap (λ (more : List StoredObject). do_rise (numbers (object_of last ∷ objects_of more))) there) ∙ e in
    let less : ltb last.number next.number ≡ true = lt-ltb _ _ above in
    sym (ap (λ (b : Bool). b && do_rise (numbers (object_of next ∷ objects_of (drop (i + 1) rest)))) less) ∙ as_one

pub loop-object-preserved : goal.loop-object-preserved
loop-object-preserved c =
    one_more c.loop-object.last.now c.object-item.result c.in-Some.rest.now c.loop-object.object-index _
    c.loop-object-test.true c.object-item.is (omega arith) c.loop-object.invariant
