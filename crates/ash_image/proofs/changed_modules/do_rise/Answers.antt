use Rattle.std.proofs.Common.{◌≡◌, ℕ, ◌+◌, ◌<◌, Bool, true, ◌&&◌, ltb, List, ◌∷◌, length, get_or, drop, sym, ◌∙◌, ap, refl, add-one, arith}
use Rattle.std.proofs.Math.Seq.{drop-cons}
use Rattle.std.proofs.lemmas.Bool.{lt-ltb}
use Rattle.ash_host.specs.Objects.{numbers}
use Rattle.ash_image.specs.declared.stored_delta.IndexedWord.{IndexedWord}
use Rattle.ash_image.specs.Image.{do_rise}
use Rattle.ash_image.specs.DeltaViews.{indexed_of, all_indexed}
use Rattle.ash_image.proofs.changed_modules.do_rise.Goals as goal

-- an index above the last one is passed over
one_more : (last : IndexedWord) (rest : List IndexedWord) (i : ℕ) (d : IndexedWord) (all : Bool)
    → i < length rest → last.index < (get_or rest i d).index
    → do_rise (numbers (indexed_of last ∷ all_indexed (drop i rest))) ≡ all
    → do_rise (numbers (indexed_of (get_or rest i d) ∷ all_indexed (drop (i + 1) rest))) ≡ all
one_more last rest i d all within above e =
    let next = get_or rest i d in
    let there : drop i rest ≡ next ∷ drop (i + 1) rest = drop-cons rest i d within ∙ rw add-one refl in
    let as_one : do_rise (numbers (indexed_of last ∷ all_indexed (next ∷ drop (i + 1) rest))) ≡ all =
    sym (ap (λ (more : List IndexedWord). do_rise (numbers (indexed_of last ∷ all_indexed more))) there) ∙ e in
    let less : ltb last.index next.index ≡ true = lt-ltb _ _ above in
    sym (ap (λ (b : Bool). b && do_rise (numbers (indexed_of next ∷ all_indexed (drop (i + 1) rest)))) less) ∙ as_one

pub loop-word-preserved : goal.loop-word-preserved
loop-word-preserved c =
    one_more c.loop-word.last.now c.in-Some.rest.now c.loop-word.word-index _ _ c.loop-word-test.true (omega arith)
    c.loop-word.invariant
