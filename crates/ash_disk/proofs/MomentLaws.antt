-- How what a crash may leave goes on from call to call.
use Rattle.std.proofs.Common.{◌≡◌, ◌⊎◌, inl, inr, ℕ, ◌≤◌, List, subst, arith}
use Rattle.std.proofs.lemmas.Bool.{cases_lt}
use Rattle.ash_disk.specs.Moments.{HoldsDuring, LeftSince, EveryMoment}

-- Before the first call there is one moment, now.
pub at_start : (now : ℕ) (leaves : ℕ → List ℕ → Type 0) (P : List ℕ → Type 0)
    → ((image : List ℕ) → leaves now image → P image) → HoldsDuring now now leaves leaves P
at_start now leaves P here = record {
  later = omega arith;
  kept = λ time image past left. left;
  no_more = λ time image past left. left;
  each = λ time image from to left.
      let now_is : time ≡ now = omega arith in
      here image (subst (λ (t : ℕ). leaves t image) now_is left);
}

-- One call more.
pub goes_on : (start middle end : ℕ) (before between after : ℕ → List ℕ → Type 0) (P : List ℕ → Type 0)
    → HoldsDuring start middle before between P → HoldsDuring middle end between after P → HoldsDuring start end before after P
goes_on start middle end before between after P so_far call = record {
  later = omega (arith, so_far.later, call.later);
  kept = λ time image past left. call.kept time image (omega (arith, so_far.later)) (so_far.kept time image past left);
  no_more = λ time image past left. so_far.no_more time image past
      (call.no_more time image (omega (arith, so_far.later)) left);
  each = λ time image from to left. elim (cases_lt time middle) [
    | inl early ↦ so_far.each time image from (omega arith) (call.no_more time image (omega arith) left)
    | inr late ↦ call.each time image late to left
  ];
}

-- What all images have, and what follows from it.
pub weaker : (start end : ℕ) (before after : ℕ → List ℕ → Type 0) (P Q : List ℕ → Type 0)
    → ((image : List ℕ) → P image → Q image) → HoldsDuring start end before after P → HoldsDuring start end before after Q
weaker start end before after P Q so call = record {
  later = call.later;
  kept = call.kept;
  no_more = call.no_more;
  each = λ time image from to left. so image (call.each time image from to left);
}

-- One call more, after which images may have something else.
pub goes_on_either : (start middle end : ℕ) (before between after : ℕ → List ℕ → Type 0) (P Q : List ℕ → Type 0)
    → HoldsDuring start middle before between P → HoldsDuring middle end between after Q
    → HoldsDuring start end before after (λ image. P image ⊎ Q image)
goes_on_either start middle end before between after P Q so_far call =
    goes_on start middle end before between after (λ image. P image ⊎ Q image)
    (weaker start middle before between P (λ image. P image ⊎ Q image) (λ image p. inl p) so_far)
    (weaker middle end between after Q (λ image. P image ⊎ Q image) (λ image q. inr q) call)

-- What a crash now may leave, at the end of the calls.
pub at_end : (start end : ℕ) (before after : ℕ → List ℕ → Type 0) (P : List ℕ → Type 0)
    → HoldsDuring start end before after P → (image : List ℕ) → after end image → P image
at_end start end before after P call image left = call.each end image call.later (omega arith) left

-- What a crash since an earlier time may have left, it might have left before the calls, or the calls allow it.
pub since_goes_on : (since start end : ℕ) (before after : ℕ → List ℕ → Type 0) (P : List ℕ → Type 0)
    → HoldsDuring start end before after P → (image : List ℕ) → LeftSince end after since image
    → LeftSince start before since image ⊎ P image
since_goes_on since start end before after P call image left = elim (cases_lt left.0 start) [
  | inl early ↦ inl (left.0, left.1, omega (arith, early), call.no_more left.0 image (omega (arith, early)) left.3)
  | inr late ↦ inr (call.each left.0 image late left.2 left.3)
]

-- And what it might have left before is not forgotten.
pub since_kept : (since start end : ℕ) (before after : ℕ → List ℕ → Type 0) (P : List ℕ → Type 0)
    → HoldsDuring start end before after P → (image : List ℕ) → LeftSince start before since image
    → LeftSince end after since image
since_kept since start end before after P call image left =
    (left.0, left.1, omega (arith, left.2, call.later), call.kept left.0 image left.2 left.3)

-- The calls of each of two disks, whichever came first, meet at every moment.
pub every_moment : (a a' b b' : ℕ) (first first' second second' : ℕ → List ℕ → Type 0) (P Q : List ℕ → Type 0)
    (R : List ℕ → List ℕ → Type 0) → HoldsDuring a a' first first' P → HoldsDuring b b' second second' Q
    → ((x y : List ℕ) → P x → Q y → R x y) → EveryMoment a a' first' b b' second' R
every_moment a a' b b' first first' second second' P Q R one other both =
    λ s t x y from_a to_a from_b to_b left_x left_y. both x y (one.each s x from_a to_a left_x)
    (other.each t y from_b to_b left_y)

-- What holds at every moment, and what follows from it.
pub every_moment-weaker : (a a' b b' : ℕ) (first second : ℕ → List ℕ → Type 0) (R S : List ℕ → List ℕ → Type 0)
    → ((x y : List ℕ) → R x y → S x y) → EveryMoment a a' first b b' second R → EveryMoment a a' first b b' second S
every_moment-weaker a a' b b' first second R S so every =
    λ s t x y from_a to_a from_b to_b left_x left_y. so x y (every s t x y from_a to_a from_b to_b left_x left_y)

-- What holds at every moment of a stretch holds in each part of it.
pub every_moment-part : (a c c' a' b d d' b' : ℕ) (first second : ℕ → List ℕ → Type 0) (R : List ℕ → List ℕ → Type 0)
    → a ≤ c → c' ≤ a' → b ≤ d → d' ≤ b' → EveryMoment a a' first b b' second R → EveryMoment c c' first d d' second R
every_moment-part a c c' a' b d d' b' first second R a_c c_a b_d d_b every =
    λ s t x y from_c to_c from_d to_d left_x left_y. every s t x y (omega arith) (omega arith) (omega arith)
    (omega arith) left_x left_y

-- A moment that is past stays what it was: calls that came later add no image to it and take none from it.
pub every_moment-past : (a a' now b b' now' : ℕ) (first first' second second' : ℕ → List ℕ → Type 0)
    (P Q : List ℕ → Type 0) (R : List ℕ → List ℕ → Type 0) → HoldsDuring a' now first first' P
    → HoldsDuring b' now' second second' Q → EveryMoment a a' first b b' second R
    → EveryMoment a a' first' b b' second' R
every_moment-past a a' now b b' now' first first' second second' P Q R one other every =
    λ s t x y from_a to_a from_b to_b left_x left_y. every s t x y from_a to_a from_b to_b (one.no_more s x to_a left_x)
    (other.no_more t y to_b left_y)
