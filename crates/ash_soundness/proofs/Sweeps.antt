-- Worlds after a release point.
use Rattle.std.proofs.Common.{◌≡◌, ◌≤◌, ℕ, Bool, true, false, cond, List, [], ◌∷◌, ◌++◌, length, refl, sym, ap, ◌∙◌, subst, flat_map, arith}
use Rattle.std.specs.Prelude.{Option, Some, None, Contains, option_map, filter}
use Rattle.std.specs.Option.{option_map_or}
use Rattle.std.proofs.lemmas.List.Elements.{Contains-append_left, Contains-append_right}
use Rattle.ash_host.specs.Objects.{Plain, LiveObjects, object_at, handles, fields_of, Refers}
use Rattle.ash_host.specs.Reach.{Root, Field, ReachableIn, is_reachable, after_sweep}
use Rattle.ash_host.proofs.ReachLaws.{is_reachable_says, is_reachable_yes, object_at-after_sweep, sweep_is_exact}
use Rattle.ash_host.proofs.NumberLaws.{swept_numbered}
use Rattle.ash_host.specs.Limits.{max_objects}
use Rattle.ash_typed.specs.SoundExpressions.{TypedEnvironment}
use Rattle.ash_meaning.specs.Activity.{World, Frame}
use Rattle.ash_meaning.specs.Releases.{roots_of_frame, roots, sweep}
use Rattle.ash_soundness.specs.WellFormed.{Context, Shape, OfKind, shape_of, shape_at, IsObject, Follows, IsWorld, AreFrames}
use Rattle.ash_soundness.proofs.Values.{Stays, object_stays, values_stay, live_on, frames_stay}

fewer : {A : Type 0} (p : A → Bool) (xs : List A) → length (filter p xs) ≤ length xs
fewer p [] = omega arith
fewer {A} p (x ∷ xs) =
    elim (p x) as (λ b. length (cond b (x ∷ filter p xs) (filter p xs)) ≤ length (x ∷ xs)) [
      | true ↦ omega (arith, fewer p xs)
      | false ↦ omega (arith, fewer p xs)
    ]

module _ {c : Context} (frames : List Frame) {w : World} (h : IsWorld c w) where
  abbrev held : List ℕ
  held = roots frames w

  abbrev left : LiveObjects (List ℕ)
  left = after_sweep held w.objects

  -- what can be reached is there as it was

  reached_same : (n : ℕ) → ReachableIn (Contains held) w.objects n → object_at n left ≡ object_at n w.objects
  reached_same n r = object_at-after_sweep held w.objects n ∙ ap (λ (b : Bool). cond b (object_at n w.objects) None) (is_reachable_yes held w.objects n r)

  reached_stays : (n : ℕ) → ReachableIn (Contains held) w.objects n → Stays w.objects left n
  reached_stays n r = record { stays = λ shape e. ap (option_map shape_of) (reached_same n r) ∙ e }

  root_stays : (n : ℕ) → Contains held n → Stays w.objects left n
  root_stays n i = reached_stays n (Root i)

  pub frame_root_stays : (n : ℕ) → Contains (flat_map roots_of_frame frames) n → Stays w.objects left n
  frame_root_stays n i = root_stays n (Contains-append_right (w.outside ++ handles w.globals) (flat_map roots_of_frame frames) n i)

  -- what is there was there

  was_from : (n : ℕ) (o : Plain (List ℕ)) (b : Bool) → is_reachable held w.objects n ≡ b → cond b (object_at n w.objects) None ≡ Some o → (object_at n w.objects ≡ Some o) × ReachableIn (Contains held) w.objects n
  was_from n o true is e = (e, is_reachable_says held w.objects n is)
  was_from n o false is e = absurd (cc)

  was : (n : ℕ) (o : Plain (List ℕ)) → object_at n left ≡ Some o → (object_at n w.objects ≡ Some o) × ReachableIn (Contains held) w.objects n
  was n o e = was_from n o (is_reachable held w.objects n) refl (sym (object_at-after_sweep held w.objects n) ∙ e)

  shape_from : (n : ℕ) (shape : Shape) (b : Bool) → option_map shape_of (cond b (object_at n w.objects) None) ≡ Some shape → shape_at n w.objects ≡ Some shape
  shape_from n shape true e = e
  shape_from n shape false e = absurd (cc)

  shape_was : (n : ℕ) (shape : Shape) → shape_at n left ≡ Some shape → shape_at n w.objects ≡ Some shape
  shape_was n shape e = shape_from n shape (is_reachable held w.objects n) (sym (ap (option_map shape_of) (object_at-after_sweep held w.objects n)) ∙ e)

  pub swept_follows : Follows w (sweep frames w)
  unfolding sweep
  swept_follows = record {
    last = omega arith;
    shapes = λ n shape le e. shape_was n shape e;
    outside = refl;
  }

  refers : (n other : ℕ) (o : Plain (List ℕ)) → object_at n w.objects ≡ Some o → Contains (handles (fields_of o)) other → Refers w.objects n other
  refers n other o at i = subst (λ (x : Option (Plain (List ℕ))). Contains (option_map_or (λ object. handles (fields_of object)) x []) other) (sym at) i

  object_left : (n : ℕ) (o : Plain (List ℕ)) → object_at n left ≡ Some o → IsObject c.modules left o
  object_left n o e =
      let there = was n o e in
      object_stays (λ other i. reached_stays other (Field there.1 (refers n other o there.0 i))) ((h.living).each n o there.0)

  pub world_swept : IsWorld c (sweep frames w)
  unfolding sweep
  world_swept = record {
    numbered = swept_numbered held w.last h.numbered (sweep_is_exact held w.objects (h.numbered).in_order);
    last = h.last;
    few = let few : length w.objects ≤ max_objects = h.few in omega (arith, few, fewer (λ e. is_reachable held w.objects e.0) w.objects);
    living = record { each = object_left };
    offered = record { each = λ n kind e. (h.offered).each n kind (shape_was n (OfKind kind) e) };
    globals = values_stay (λ n i. root_stays n (Contains-append_left (w.outside ++ handles w.globals) (flat_map roots_of_frame frames) n (Contains-append_right w.outside (handles w.globals) n i))) h.globals;
    outside = live_on (λ n i. root_stays n (Contains-append_left (w.outside ++ handles w.globals) (flat_map roots_of_frame frames) n (Contains-append_left w.outside (handles w.globals) n i))) h.outside;
    states = record { services = (h.states).services; pool = (h.states).pool; answers = (h.states).answers };
  }

  pub frames_swept : {envs : List TypedEnvironment} → AreFrames c w.objects envs frames → AreFrames c (sweep frames w).objects envs frames
  unfolding sweep
  frames_swept hs = frames_stay frame_root_stays hs
