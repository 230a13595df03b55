-- Worlds in which an object is made.
use Rattle.std.proofs.Common.{◌≡◌, ◌≤◌, ◌<◌, ◌+◌, ℕ, Bool, true, false, cond, List, length, refl, sym, ap, ◌∙◌, subst, nat_eq, arith}
use Rattle.std.specs.Prelude.{Some, option_map}
use Rattle.std.proofs.lemmas.Bool.Decides.{nat_tests}
use Rattle.std.proofs.lemmas.Option.{same_Some}
use Rattle.ash_host.specs.Objects.{Plain, object_at}
use Rattle.ash_host.proofs.Order.{object_at-with_at}
use Rattle.ash_host.proofs.NumberLaws.{put_next}
use Rattle.ash_host.specs.Limits.{max_objects}
use Rattle.ash_meaning.specs.Activity.{World}
use Rattle.ash_meaning.specs.ObjectSteps.{max_number, with_new}
use Rattle.ash_soundness.specs.WellFormed.{Context, Shape, OfKind, IsOffered, shape_of, shape_at, IsObject, Follows, IsWorld}
use Rattle.ash_soundness.proofs.Values.{shape_lives, Stays, object_stays, values_stay, live_on}
use Rattle.ash_soundness.proofs.Changes.{length-with_at}

module _ {c : Context} {w : World} (object : Plain (List ℕ)) (h : IsWorld c w) where
  -- what is at a number that was given stays
  old_number : (n : ℕ) → n ≤ w.last → object_at n (with_new object w).objects ≡ object_at n w.objects
  old_number n le =
      let other : nat_eq n (w.last + 1) ≡ false = grind (arith, nat_tests) in
      object_at-with_at (w.last + 1) object n w.objects ∙ ap (λ (b : Bool). cond b (Some object) (object_at n w.objects)) other

  old_shape : (n : ℕ) → n ≤ w.last → shape_at n (with_new object w).objects ≡ shape_at n w.objects
  old_shape n le = ap (option_map shape_of) (old_number n le)

  given : (n : ℕ) (shape : Shape) → shape_at n w.objects ≡ Some shape → n ≤ w.last
  given n shape e = ((h.numbered).given n (shape_lives n w.objects shape e)).1

  pub made_stays : (n : ℕ) → Stays w.objects (with_new object w).objects n
  made_stays n = record { stays = λ shape e. old_shape n (given n shape e) ∙ e }

  pub made_follows : Follows w (with_new object w)
  made_follows = record {
    last = omega arith;
    shapes = λ n shape le e. sym (old_shape n le) ∙ e;
    outside = refl;
  }

  -- the new object is there
  pub made_there : object_at (w.last + 1) (with_new object w).objects ≡ Some object
  made_there =
      let same : nat_eq (w.last + 1) (w.last + 1) ≡ true = grind (arith, nat_tests) in
      object_at-with_at (w.last + 1) object (w.last + 1) w.objects ∙ ap (λ (b : Bool). cond b (Some object) (object_at (w.last + 1) w.objects)) same

  module _ (fits : IsObject c.modules w.objects object) where
    object_from : (n : ℕ) (o : Plain (List ℕ)) (b : Bool) → nat_eq n (w.last + 1) ≡ b → cond b (Some object) (object_at n w.objects) ≡ Some o → IsObject c.modules (with_new object w).objects o
    object_from n o true is e = subst (IsObject c.modules (with_new object w).objects) (same_Some object o e) (object_stays (λ n _. made_stays n) fits)
    object_from n o false is e = object_stays (λ n _. made_stays n) ((h.living).each n o e)

    offered_from : (offers : (kind : ℕ) → shape_of object ≡ OfKind kind → IsOffered c.host kind) (n kind : ℕ) (b : Bool) → option_map shape_of (cond b (Some object) (object_at n w.objects)) ≡ Some (OfKind kind) → IsOffered c.host kind
    offered_from offers n kind true e = offers kind (same_Some (shape_of object) (OfKind kind) e)
    offered_from offers n kind false e = (h.offered).each n kind e

    pub world_made : ((kind : ℕ) → shape_of object ≡ OfKind kind → IsOffered c.host kind) → length w.objects < max_objects → w.last < max_number → IsWorld c (with_new object w)
    world_made offers room left = record {
      numbered = put_next w.last object w.objects h.numbered;
      last = omega arith;
      few = let grown = length-with_at (w.last + 1) object w.objects (h.numbered).in_order in omega (arith, grown, room);
      living = record { each = λ n o at. object_from n o (nat_eq n (w.last + 1)) refl (sym (object_at-with_at (w.last + 1) object n w.objects) ∙ at) };
      offered = record { each = λ n kind e. offered_from offers n kind (nat_eq n (w.last + 1)) (sym (ap (option_map shape_of) (object_at-with_at (w.last + 1) object n w.objects)) ∙ e) };
      globals = values_stay (λ n _. made_stays n) h.globals;
      outside = live_on (λ n _. made_stays n) h.outside;
      states = record { services = (h.states).services; pool = (h.states).pool; answers = (h.states).answers };
    }
