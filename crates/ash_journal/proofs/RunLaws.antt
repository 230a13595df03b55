-- How what two disks settle on goes on from call to call.
use Rattle.std.specs.Prelude.{min}
use Rattle.std.proofs.Common.{◌≡◌, inl, inr, ℕ, zero, ◌≤◌, Bool, true, false, not, List, refl, sym, subst, arith}
use Rattle.std.proofs.Common.{IsTrue}
use Rattle.std.proofs.lemmas.Bool.{cases_lt}
use Rattle.ash_disk.specs.Device.{Device, IsDurable, IsOnlyRead, HoldsThroughout}
use Rattle.ash_disk.specs.Moments.{HoldsDuring}
use Rattle.ash_disk.proofs.MomentLaws.{at_start, every_moment}
use Rattle.ash_journal.specs.Current.{Contents, HoldsOneOf, Represent, SettleOn, SettleFurther}
use Rattle.ash_journal.specs.SettledSince.{HoldsSince, Extends, NoContents}
use Rattle.ash_journal.specs.OtherState.{first_of, second_of}
use Rattle.ash_journal.proofs.SettleLaws.{Property, settle_turned, further, further_same, further_turned}
use Rattle.ash_journal.proofs.SettleLaws.{represent_once}

-- what is left now is left at the last moment before a later one
left_now : (leaves : ℕ → List ℕ → Type 0) (now s : ℕ) (x : List ℕ) → now ≤ s → leaves now x → leaves (min s now) x
left_now leaves now s x late left = let is : now ≡ min s now = omega (arith, late) in
    subst (λ (t : ℕ). leaves t x) is left

left_then : (leaves : ℕ → List ℕ → Type 0) (now s : ℕ) (x : List ℕ) → s ≤ now → leaves s x → leaves (min s now) x
left_then leaves now s x early left = let is : s ≡ min s now = omega (arith, early) in
    subst (λ (t : ℕ). leaves t x) is left

module _ {D : Type 0} (device : Device D) where
  -- Calls of both disks go on. What their new images settle on, with what the images settled on that were left when
  -- the calls began, is all that has to be shown.
  pub extends_by : (c o c' o' : D) (x0 y0 : List ℕ) (P Q : List ℕ → Type 0) (IsNew : Property)
      → device.leaves c (device.clock c) x0 → device.leaves o (device.clock o) y0 → HoldsThroughout device c c' P
      → HoldsThroughout device o o' Q → ((x y : List ℕ) → P x → SettleFurther IsNew x0 y x y)
      → ((x y : List ℕ) → Q y → SettleFurther IsNew x y0 x y)
      → ((x y : List ℕ) → P x → Q y → SettleFurther IsNew x0 y0 x y) → Extends device c o c' o' IsNew
  extends_by c o c' o' x0 y0 P Q IsNew left_x0 left_y0 one two first second both = record {
    first_later = one.later;
    second_later = two.later;
    moments = λ s t x y s_end t_end left_x left_y. elim (cases_lt (device.clock c) s) [
      | inl late ↦ elim (cases_lt (device.clock o) t) [
        | inl late' ↦ (
          x0,
          y0,
          record {
            first_left = left_now (device.leaves c) (device.clock c) s x0 (omega (arith, late)) left_x0;
            second_left = left_now (device.leaves o) (device.clock o) t y0 (omega (arith, late')) left_y0;
          },
          both x y (one.each s x (omega (arith, late)) s_end left_x) (two.each t y (omega (arith, late')) t_end left_y),
        )
        | inr early' ↦ (
          x0,
          y,
          record {
            first_left = left_now (device.leaves c) (device.clock c) s x0 (omega (arith, late)) left_x0;
            second_left = left_then (device.leaves o) (device.clock o) t y early' (two.no_more t y early' left_y);
          },
          first x y (one.each s x (omega (arith, late)) s_end left_x),
        )
      ]
      | inr early ↦ elim (cases_lt (device.clock o) t) [
        | inl late' ↦ (
          x,
          y0,
          record {
            first_left = left_then (device.leaves c) (device.clock c) s x early (one.no_more s x early left_x);
            second_left = left_now (device.leaves o) (device.clock o) t y0 (omega (arith, late')) left_y0;
          },
          second x y (two.each t y (omega (arith, late')) t_end left_y),
        )
        | inr early' ↦ (
          x,
          y,
          record {
            first_left = left_then (device.leaves c) (device.clock c) s x early (one.no_more s x early left_x);
            second_left = left_then (device.leaves o) (device.clock o) t y early' (two.no_more t y early' left_y);
          },
          further_same IsNew x y,
        )
      ]
    ];
  }

  extends_turned : (c o c' o' : D) (IsNew : Property) → Extends device c o c' o' IsNew → Extends device o c o' c' IsNew
  extends_turned c o c' o' IsNew call = record {
    first_later = call.second_later;
    second_later = call.first_later;
    moments = λ s t x y s_end t_end left_x left_y.
        let was = call.moments t s y x t_end s_end left_y left_x in (
          was.1,
          was.0,
          record { first_left = was.2.second_left; second_left = was.2.first_left },
          further_turned IsNew was.0 was.1 y x was.3,
        );
  }

  -- of a journal's disks either is the first
  pub extends_placed : (swapped : Bool) (c o c' o' : D) (IsNew : Property) → Extends device c o c' o' IsNew
      → Extends device (first_of swapped c o) (second_of swapped c o) (first_of swapped c' o') (second_of swapped c' o')
      IsNew
  extends_placed false c o c' o' IsNew call = call
  extends_placed true c o c' o' IsNew call = extends_turned c o c' o' IsNew call

  -- disks that stay as they are settle on what they did
  pub same_extends : (first second : D) (IsNew : Property) → Extends device first second first second IsNew
  same_extends first second IsNew = record {
    first_later = omega arith;
    second_later = omega arith;
    moments = λ s t x y s_end t_end left_x left_y. (
      x,
      y,
      record {
        first_left = left_then (device.leaves first) (device.clock first) s x s_end left_x;
        second_left = left_then (device.leaves second) (device.clock second) t y t_end left_y;
      },
      further_same IsNew x y,
    );
  }

  -- disks that were only read settle on what they did
  pub read_extends : (first second first' second' : D) → IsTrue (device.honest first) → IsTrue (device.honest second)
      → IsOnlyRead device first first' → IsOnlyRead device second second'
      → Extends device first second first' second' NoContents
  read_extends first second first' second' honest_first honest_second one two = record {
    first_later = (one.moments honest_first).later;
    second_later = (two.moments honest_second).later;
    moments = λ s t x y s_end t_end left_x left_y. (
      x,
      y,
      record {
        first_left =
            was (device.clock first) (device.clock first') (device.leaves first) (device.leaves first')
            (one.moments honest_first) s x s_end left_x;
        second_left =
            was (device.clock second) (device.clock second') (device.leaves second) (device.leaves second')
            (two.moments honest_second) t y t_end left_y;
      },
      further_same NoContents x y,
    );
  }
    where
      -- what may be left at a moment of reading might have been left before
      was : (now end : ℕ) (before after : ℕ → List ℕ → Type 0) → HoldsDuring now end before after (before now)
          → (s : ℕ) (x : List ℕ) → s ≤ end → after s x → before (min s now) x
      was now end before after call s x to left = elim (cases_lt now s) [
        | inl late ↦ left_now before now s x (omega (arith, late)) (call.each s x (omega (arith, late)) to left)
        | inr early ↦ left_then before now s x early (call.no_more s x early left)
      ]

  -- What a run says of contents, it says after more calls of these and the new ones.
  pub run_extends : (a b : ℕ) (first second first' second' : D) (P IsNew : Property) → HoldsSince device a b first second P
      → Extends device first second first' second' IsNew → HoldsSince device a b first' second' (HoldsOneOf IsNew P)
  run_extends a b first second first' second' P IsNew run call = record {
    first_began = omega (arith, run.first_began, call.first_later);
    second_began = omega (arith, run.second_began, call.second_later);
    moments = λ s t x y from_a s_end from_b t_end left_x left_y.
        let was = call.moments s t x y s_end t_end left_x left_y in
        further P IsNew was.0 was.1 x y was.3
        (run.moments (min s (device.clock first)) (min t (device.clock second)) was.0 was.1
        (omega (arith, from_a, run.first_began)) (omega arith) (omega (arith, from_b, run.second_began))
        (omega arith) was.2.first_left was.2.second_left);
  }

  -- A run says of what the files represent as they read now what it says of all contents.
  pub represented : (a b : ℕ) (first second : D) (P : Property) (contents : Contents) (x y : List ℕ)
      → device.leaves first (device.clock first) x → device.leaves second (device.clock second) y
      → HoldsSince device a b first second P → Represent contents x y → P contents
  represented a b first second P contents x y left_x left_y run is =
      let one = run.moments (device.clock first) (device.clock second) x y run.first_began (omega arith)
      run.second_began (omega arith) left_x left_y zero x y (refl, refl) in
      subst P (sym (represent_once contents one.0 x y is one.2)) one.1

  run_turned : (a b : ℕ) (c o : D) (P : Property) → HoldsSince device a b c o P → HoldsSince device b a o c P
  run_turned a b c o P run = record {
    first_began = run.second_began;
    second_began = run.first_began;
    moments = λ s t x y from_b s_end from_a t_end left_x left_y.
        settle_turned P y x (run.moments t s y x from_a t_end from_b s_end left_y left_x);
  }

  begins : (c o c' o' : D) (P Q : List ℕ → Type 0) (S : Property) → HoldsThroughout device c c' P → HoldsThroughout device o o' Q
      → ((x y : List ℕ) → P x → Q y → SettleOn S x y) → HoldsSince device (device.clock c) (device.clock o) c' o' S
  begins c o c' o' P Q S one two both = record {
    first_began = one.later;
    second_began = two.later;
    moments = every_moment (device.clock c) (device.clock c') (device.clock o) (device.clock o') (device.leaves c)
        (device.leaves c') (device.leaves o) (device.leaves o') P Q (SettleOn S) one two both;
  }

  -- A run that begins with these calls.
  pub run_begins : (swapped : Bool) (c o c' o' : D) (P Q : List ℕ → Type 0) (S : Property) → HoldsThroughout device c c' P
      → HoldsThroughout device o o' Q → ((x y : List ℕ) → P x → Q y → SettleOn S x y)
      → HoldsSince device (device.clock (first_of swapped c o)) (device.clock (second_of swapped c o)) (first_of swapped c' o')
      (second_of swapped c' o') S
  run_begins false c o c' o' P Q S one two both = begins c o c' o' P Q S one two both
  run_begins true c o c' o' P Q S one two both =
      run_turned (device.clock c) (device.clock o) c' o' S (begins c o c' o' P Q S one two both)

  -- Two disks that hold what they show, at one moment.
  pub run_now : (swapped : Bool) (c o : D) (S : Property) → IsDurable device c → IsDurable device o
      → SettleOn S (device.seen c) (device.seen o)
      → HoldsSince device (device.clock (first_of swapped c o)) (device.clock (second_of swapped c o)) (first_of swapped c o)
      (second_of swapped c o) S
  run_now swapped c o S only_c only_o settle =
      run_begins swapped c o c o (λ (u : List ℕ). u ≡ device.seen c)
      (λ (v : List ℕ). v ≡ device.seen o) S
      (at_start (device.clock c) (device.leaves c) (λ (u : List ℕ). u ≡ device.seen c) only_c)
      (at_start (device.clock o) (device.leaves o) (λ (v : List ℕ). v ≡ device.seen o) only_o)
      (λ u v u_is v_is.
      subst (λ (l : List ℕ). SettleOn S l v) (sym u_is)
      (subst (λ (l : List ℕ). SettleOn S (device.seen c) l) (sym v_is) settle))

  -- The other disk has become the current one.
  pub run_swapped : (swapped : Bool) (a b : ℕ) (c o : D) (S : Property)
      → HoldsSince device a b (first_of swapped c o) (second_of swapped c o) S
      → HoldsSince device a b (first_of (not swapped) o c) (second_of (not swapped) o c) S
  run_swapped false a b c o S run = run
  run_swapped true a b c o S run = run
