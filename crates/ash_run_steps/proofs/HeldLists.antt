-- Frames on a stack: how they are seen after the list of held objects changes.
use Rattle.std.proofs.Common.{◌≡◌, ℕ, ◌+◌, ◌-◌, ◌≤◌, ◌<◌, zero, suc, List, [], ◌∷◌, ◌++◌, length, take, drop, set, reverse, refl, sym, ap, ◌∙◌, arith}
use Rattle.std.specs.Prelude.{slice_set}
use Rattle.std.proofs.lemmas.List.{take-append-le, drop-append-le, reverse-append, reverse-reverse, length-reverse, length-drop, drop-set-add, take-set-le, drop-take, take-take, length-take}
use Rattle.std.proofs.Math.Seq.{drop-append_seam}
use Rattle.ash_host.specs.declared.word.Word.{Word}
use Rattle.ash_run_steps.specs.declared.stack.Frame.{Frame}
use Rattle.ash_run_steps.specs.Stacks.{Frames, frame_on, seen_on}

-- the last of a list is the first of it reversed

drop_push : {A : Type 0} (xs : List A) (x : A) → 0 < length xs → drop 1 (xs ++ x ∷ []) ≡ drop 1 xs ++ x ∷ []
drop_push [] x some = absurd (omega arith)
drop_push (y ∷ xs) x some = refl

set_last : {A : Type 0} (xs : List A) (k : ℕ) (n : A) → k + 1 ≡ length xs → reverse (set xs k n) ≡ n ∷ drop 1 (reverse xs)
set_last [] k n is = absurd (omega arith)
set_last (x ∷ []) zero n is = refl
set_last (x ∷ []) (suc k) n is = absurd (omega arith)
set_last (x ∷ y ∷ xs) zero n is = absurd (omega arith)
set_last (x ∷ y ∷ xs) (suc k) n is =
    let some : 0 < length (reverse (y ∷ xs)) = omega (arith, length-reverse (y ∷ xs)) in
    reverse-append (x ∷ []) (set (y ∷ xs) k n)
    ∙ ap (λ (l : List _). l ++ x ∷ []) (set_last (y ∷ xs) k n (omega arith))
    ∙ ap (λ (l : List _). n ∷ l) (sym (drop_push (reverse (y ∷ xs)) x some))
    ∙ ap (λ (l : List _). n ∷ drop 1 l) (sym (reverse-append (x ∷ []) (y ∷ xs)))

take_last : {A : Type 0} (xs : List A) (k : ℕ) → k + 1 ≡ length xs → reverse (take k xs) ≡ drop 1 (reverse xs)
take_last [] k is = absurd (omega arith)
take_last (x ∷ []) zero is = refl
take_last (x ∷ []) (suc k) is = absurd (omega arith)
take_last (x ∷ y ∷ xs) zero is = absurd (omega arith)
take_last (x ∷ y ∷ xs) (suc k) is =
    let some : 0 < length (reverse (y ∷ xs)) = omega (arith, length-reverse (y ∷ xs)) in
    reverse-append (x ∷ []) (take k (y ∷ xs))
    ∙ ap (λ (l : List _). l ++ x ∷ []) (take_last (y ∷ xs) k (omega arith))
    ∙ sym (drop_push (reverse (y ∷ xs)) x some)
    ∙ ap (λ (l : List _). drop 1 l) (sym (reverse-append (x ∷ []) (y ∷ xs)))

module _ (f : Frame) (fs : List Frame) (slots : List Word) (held : List ℕ) where
  -- the frame that runs holds these
  abbrev holds : List ℕ → Frames
  holds numbers = record (seen_on f fs slots held) { frame = record (frame_on f slots held) { held = numbers } }

  seen_as : (now numbers : List ℕ) → take f.mark now ≡ take f.mark held → reverse (drop f.mark now) ≡ numbers → seen_on f fs slots now ≡ holds numbers
  seen_as now numbers below above = rw (below, above) refl

  pub seen_more : (numbers : List ℕ) → f.mark ≤ length held → seen_on f fs slots (held ++ reverse numbers) ≡ holds (numbers ++ reverse (drop f.mark held))
  seen_more numbers low =
      seen_as (held ++ reverse numbers) (numbers ++ reverse (drop f.mark held)) (take-append-le f.mark held (reverse numbers) low)
      (ap reverse (drop-append-le f.mark held (reverse numbers) low)
      ∙ reverse-append (drop f.mark held) (reverse numbers)
      ∙ ap (λ (l : List ℕ). l ++ reverse (drop f.mark held)) (reverse-reverse numbers))

  pub seen_renamed : (last number : ℕ) → f.mark ≤ last → last + 1 ≡ length held → seen_on f fs slots (slice_set held last number) ≡ holds (number ∷ drop 1 (reverse (drop f.mark held)))
  seen_renamed last number low is =
      let at : f.mark + (last - f.mark) ≡ last = omega arith in
      let dropped = length-drop f.mark held in
      let latest : (last - f.mark) + 1 ≡ length (drop f.mark held) = omega arith in
      seen_as (slice_set held last number) (number ∷ drop 1 (reverse (drop f.mark held))) (take-set-le f.mark held last number low)
      (ap (λ (k : ℕ). reverse (drop f.mark (set held k number))) (sym at)
      ∙ ap reverse (drop-set-add f.mark held (last - f.mark) number)
      ∙ set_last (drop f.mark held) (last - f.mark) number latest)

  pub seen_less : (last : ℕ) → f.mark ≤ last → last + 1 ≡ length held → seen_on f fs slots (take last held) ≡ holds (drop 1 (reverse (drop f.mark held)))
  seen_less last low is =
      let at : f.mark + (last - f.mark) ≡ last = omega arith in
      let dropped = length-drop f.mark held in
      let latest : (last - f.mark) + 1 ≡ length (drop f.mark held) = omega arith in
      seen_as (take last held) (drop 1 (reverse (drop f.mark held))) (take-take f.mark last held low)
      (ap (λ (k : ℕ). reverse (drop f.mark (take k held))) (sym at)
      ∙ ap reverse (drop-take f.mark (last - f.mark) held)
      ∙ take_last (drop f.mark held) (last - f.mark) latest)

  -- one object alone
  pub seen_alone : (number : ℕ) → f.mark ≤ length held → seen_on f fs slots (take f.mark held ++ number ∷ []) ≡ holds (number ∷ [])
  seen_alone number low =
      let many : length (take f.mark held) ≡ f.mark = omega (arith, length-take f.mark held, low) in
      seen_as (take f.mark held ++ number ∷ []) (number ∷ [])
      (take-append-le f.mark (take f.mark held) (number ∷ []) (omega (arith, many)) ∙ take-take f.mark f.mark held (omega arith))
      (ap (λ (k : ℕ). reverse (drop k (take f.mark held ++ number ∷ []))) (sym many) ∙ ap reverse (drop-append_seam (take f.mark held) (number ∷ [])))
