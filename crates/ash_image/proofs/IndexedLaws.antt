-- Words that are read and written with their indexes, one after the other.
use Rattle.std.proofs.Common.{◌≡◌, ℕ, zero, suc, ◌+◌, ◌<◌, ◌≤◌, ◌&&◌, Bool, true, false, eqb, List, [], ◌∷◌, ◌++◌, length}
use Rattle.std.proofs.Common.{get_or, take, drop, refl, sym, ap, ◌∙◌, append_assoc, add-one, arith}
use Rattle.std.specs.List.{flat_map}
use Rattle.std.proofs.Math.Seq.{drop-cons, take-suc}
use Rattle.std.proofs.lemmas.Bool.{eqb-true, eq-eqb}
use Rattle.std.proofs.lemmas.Grind.{flat_map-append}
use Rattle.std.proofs.lemmas.List.{take_all, drop_all, append-nil, length-take}
use Rattle.ash_host.specs.declared.word.Word.{Word}
use Rattle.ash_host.specs.Objects.{numbers}
use Rattle.ash_image.specs.declared.stored_delta.IndexedWord.{IndexedWord}
use Rattle.ash_image.specs.Delta.{indexed_word, indexed_from}
use Rattle.ash_image.specs.DeltaReading.{counts_from}
use Rattle.ash_image.specs.DeltaViews.{all_indexed}

-- whether the words from an index on have the indexes from there on
unfoldable pub counted_on : List IndexedWord → ℕ → Bool
counted_on words i = counts_from i (numbers (all_indexed (drop i words)))

at_index : (words : List IndexedWord) (i : ℕ) (w : IndexedWord) → i < length words
    → counted_on words i ≡ (eqb (get_or words i w).index i && counted_on words (suc i))
unfolding counted_on counts_from
at_index words i w within =
    ap (λ (more : List IndexedWord). counts_from i (numbers (all_indexed more))) (drop-cons words i w within)

-- a word with its own index is passed over
pub counts_on : (words : List IndexedWord) (i : ℕ) (w : IndexedWord) (all : Bool) → i < length words
    → (get_or words i w).index ≡ i → counted_on words i ≡ all → counted_on words (i + 1) ≡ all
counts_on words i w all within is e =
    rw add-one (sym (at_index words i w within
    ∙ ap (λ (b : Bool). b && counted_on words (suc i)) (eq-eqb (get_or words i w).index i is)) ∙ e)

differs : (a b : ℕ) (t : Bool) → eqb a b ≡ t → (a ≡ b → ⊥) → t ≡ false
differs a b true e not = absurd (not (eqb-true a b e))
differs a b false e not = refl

-- a word with another index stops the count
pub counts_not : (words : List IndexedWord) (i : ℕ) (w : IndexedWord) (all : Bool) → i < length words
    → ((get_or words i w).index ≡ i → ⊥) → counted_on words i ≡ all → false ≡ all
counts_not words i w all within is e =
    let no = differs (get_or words i w).index i _ refl is in
    sym (at_index words i w within ∙ ap (λ (b : Bool). b && counted_on words (suc i)) no) ∙ e

-- past the last word there is nothing to count
pub counts_all : (words : List IndexedWord) (i : ℕ) (all : Bool) → length words ≤ i → counted_on words i ≡ all → true ≡ all
unfolding counted_on counts_from
counts_all words i all past e =
    sym (ap (λ (more : List IndexedWord). counts_from i (numbers (all_indexed more))) (drop_all i words past)) ∙ e

from_append : (index : ℕ) (ws : List Word) (w : Word)
    → indexed_from index (ws ++ w ∷ []) ≡ indexed_from index ws ++ (index + length ws, w) ∷ []
unfolding indexed_from
from_append index [] w = ap (λ (i : ℕ). (i, w) ∷ []) (omega arith)
from_append index (v ∷ ws) w =
    let here : suc index + length ws ≡ index + suc (length ws) = omega arith in
    ap (λ (more : List (ℕ × Word)). (index, v) ∷ more)
    (from_append (suc index) ws w ∙ ap (λ (i : ℕ). indexed_from (suc index) ws ++ (i, w) ∷ []) here)

-- one word more is written
pub written_on : (start out new : List ℕ) (words : List Word) (i : ℕ) (w : Word) → i < length words
    → out ≡ start ++ flat_map indexed_word (indexed_from 0 (take i words))
    → new ≡ out ++ indexed_word (i, get_or words i w)
    → new ≡ start ++ flat_map indexed_word (indexed_from 0 (take (i + 1) words))
written_on start out new words i w within so_far more =
    let len : 0 + length (take i words) ≡ i = omega (arith, length-take i words) in
    let here : (ℕ × Word) = (i, get_or words i w) in
    let grown : indexed_from 0 (take (i + 1) words) ≡ indexed_from 0 (take i words) ++ here ∷ [] =
    ap (λ (ws : List Word). indexed_from 0 ws) (ap (λ (n : ℕ). take n words) (add-one i) ∙ take-suc words i w within)
    ∙ from_append 0 (take i words) (get_or words i w)
    ∙ ap (λ (n : ℕ). indexed_from 0 (take i words) ++ (n, get_or words i w) ∷ []) len in
    let spelled : flat_map indexed_word (indexed_from 0 (take (i + 1) words))
    ≡ flat_map indexed_word (indexed_from 0 (take i words)) ++ indexed_word here =
    ap (flat_map indexed_word) grown ∙ flat_map-append indexed_word (indexed_from 0 (take i words)) (here ∷ [])
    ∙ ap (λ (t : List ℕ). flat_map indexed_word (indexed_from 0 (take i words)) ++ t) (append-nil (indexed_word here)) in
    more ∙ ap (λ (t : List ℕ). t ++ indexed_word here) so_far
    ∙ append_assoc start (flat_map indexed_word (indexed_from 0 (take i words))) (indexed_word here)
    ∙ ap (λ (t : List ℕ). start ++ t) (sym spelled)

-- all words are written
pub written_all : (start out : List ℕ) (words : List Word) (i : ℕ) → length words ≤ i
    → out ≡ start ++ flat_map indexed_word (indexed_from 0 (take i words))
    → out ≡ start ++ flat_map indexed_word (indexed_from 0 words)
written_all start out words i past so_far =
    so_far ∙ ap (λ (ws : List Word). start ++ flat_map indexed_word (indexed_from 0 ws)) (take_all i words past)
