-- Objects that are put one after another by rising numbers are those objects.
use Rattle.std.proofs.Common.{◌≡◌, ℕ, ◌<◌, true, [], ◌∷◌, ◌++◌, refl, sym, ap, ◌∙◌, append-nil, append_assoc, ltb, arith}
use Rattle.std.proofs.Common.{Greater}
use Rattle.std.specs.List.{AllByRecursion}
use Rattle.std.specs.declared.cmp.Ordering.{Ordering}
use Rattle.std.specs.Ordering.{nat_cmp, match_ordering}
use Rattle.std.proofs.lemmas.Bool.{ltb-true}
use Rattle.std.proofs.lemmas.Bool.Decides.{nat_tests}
use Rattle.ash_host.specs.Objects.{Plain, LiveObjects, numbers, with_at}
use Rattle.ash_host.proofs.Membership.{and_both}
use Rattle.ash_image.specs.Image.{do_rise}
use Rattle.ash_image.proofs.OrderLaws.{tail_rises}
use Rattle.ash_states.specs.StateRestoring.{with_all}

above : (x y : ℕ) → y < x → nat_cmp x y ≡ Greater
above x y h = grind (arith, nat_tests)

module _ {M : Type 0} where
  -- all numbers are below one
  abbrev AllBelow : ℕ → LiveObjects M → Type 0
  AllBelow n os = AllByRecursion (λ (e : ℕ × Plain M). e.0 < n) os

  last_put : (n : ℕ) (o : Plain M) (os : LiveObjects M) → AllBelow n os → with_at n o os ≡ os ++ (n, o) ∷ []
  last_put n o [] h = refl
  last_put n o (e ∷ os) h =
      ap (λ (way : Ordering). match_ordering way ((n, o) ∷ e ∷ os) ((e.0, o) ∷ os) (e ∷ with_at n o os)) (above n e.0 h.0)
      ∙ ap (λ (rest : LiveObjects M). e ∷ rest) (last_put n o os h.1)

  below_more : (m n : ℕ) (os more : LiveObjects M) → m < n → AllBelow m os → AllByRecursion (λ (e : ℕ × Plain M). e.0 < n) more → AllBelow n (os ++ more)
  below_more m n [] more lt h rest = rest
  below_more m n (e ∷ os) more lt h rest = (let low : e.0 < m = h.0 in omega arith, below_more m n os more lt h.1 rest)

  -- all numbers are below the first of these
  abbrev AllBefore : LiveObjects M → LiveObjects M → Type 0
  AllBefore os [] = Unit {0}
  AllBefore os (e ∷ es) = AllBelow e.0 os

  first_before : (os : LiveObjects M) (e : ℕ × Plain M) (es : LiveObjects M) → do_rise (numbers (e ∷ es)) ≡ true → AllBelow e.0 os → AllBefore (os ++ e ∷ []) es
  first_before os e [] rise h = tt
  first_before os e (f ∷ es) rise h =
      let lt : e.0 < f.0 = ltb-true e.0 f.0 (and_both (ltb e.0 f.0) (do_rise (numbers (f ∷ es))) rise).0 in
      below_more e.0 f.0 os (e ∷ []) lt h (lt, tt)

  put_after : (os es : LiveObjects M) → do_rise (numbers es) ≡ true → AllBefore os es → with_all os es ≡ os ++ es
  put_after os [] rise h = sym (append-nil os)
  put_after os (e ∷ es) rise h =
      ap (λ (start : LiveObjects M). with_all start es) (last_put e.0 e.1 os h)
      ∙ put_after (os ++ e ∷ []) es (tail_rises e.0 (numbers es) rise) (first_before os e es rise h)
      ∙ append_assoc os (e ∷ []) es

  none_before : (es : LiveObjects M) → AllBefore [] es
  none_before [] = tt
  none_before (e ∷ es) = tt

  pub all_put : (es : LiveObjects M) → do_rise (numbers es) ≡ true → with_all [] es ≡ es
  all_put es rise = put_after [] es rise (none_before es)
