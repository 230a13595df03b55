-- No handle dangles in a well-formed activity.
use Rattle.std.proofs.Common.{◌≡◌, ℕ, List, [], ◌∷◌, ◌++◌, inl, inr, refl, subst, flat_map, Option, Some, None}
use Rattle.std.specs.Prelude.{Contains}
use Rattle.std.specs.Option.{option_map_or}
use Rattle.std.proofs.lemmas.Option.{same_Some}
use Rattle.std.proofs.lemmas.List.Elements.{Contains-append_cases}
use Rattle.ash_host.specs.declared.word.Word.{Word}
use Rattle.ash_host.specs.Objects.{Plain, LiveObjects, object_at, handle, handles, fields_of, Lives}
use Rattle.ash_host.proofs.SweepLaws.{reachable_lives}
use Rattle.ash_typed.specs.SoundExpressions.{TypedEnvironment}
use Rattle.ash_meaning.specs.Activity.{World, Frame, Activity}
use Rattle.ash_meaning.specs.Releases.{roots_of_frame, roots}
use Rattle.ash_meaning.specs.Classes.{Program}
use Rattle.ash_soundness.specs.WellFormed.{Known, Context, IsObject, is_script, is_array, is_host, IsThis, no_this, is_this, IsFrame, AreFrames, no_frames, and_frame, IsWorld, IsWellFormed}
use Rattle.ash_soundness.proofs.Values.{none_in, handle_cases, shape_lives, values_live, all_live}
use Rattle.ash_release_laws.specs.SafePoints.{HandlesLive, LivesExactlyIfReached}

-- objects

object_lives : {modules : Known} {all : LiveObjects (List ℕ)} {o : Plain (List ℕ)} (n : ℕ) → IsObject modules all o → Contains (handles (fields_of o)) n → Lives all n
object_lives n (is_script s) i = values_live n s.values i
object_lives n (is_array s) i = all_live n s.values i
object_lives n (is_host s) i = absurd (none_in n i)

this_lives : {p : Program} {all : LiveObjects (List ℕ)} {this : Option ℕ} {w : Word} (n : ℕ) → IsThis p all this w → handle w ≡ Some n → Lives all n
this_lives n no_this e = absurd (cc)
this_lives {all = all} n (is_this {number = number} {shape = shape} at i) e = subst (λ (k : ℕ). Lives all k) (same_Some number n e) (shape_lives number all shape at)

module _ {c : Context} where
  fields_live : {w : World} → IsWorld c w → (one other : ℕ) (o : Option (Plain (List ℕ))) → object_at one w.objects ≡ o → Contains (option_map_or (λ object. handles (fields_of object)) o []) other → Lives w.objects other
  fields_live h one other None at i = absurd (none_in other i)
  fields_live h one other (Some object) at i = object_lives other ((h.living).each one object at) i

  -- frames

  frame_lives : {all : LiveObjects (List ℕ)} {env : TypedEnvironment} {f : Frame} (n : ℕ) → IsFrame c all env f → Contains (roots_of_frame f) n → Lives all n
  frame_lives {f = f} n h i =
      elim (Contains-append_cases (handles (f.this ∷ f.locals)) f.held n i) [
        | inl words ↦ elim (handle_cases f.this f.locals n words) [ inl here ↦ this_lives n h.this here | inr local ↦ values_live n h.locals local ]
        | inr held ↦ (h.held).each n held
      ]

  frames_live : {all : LiveObjects (List ℕ)} {envs : List TypedEnvironment} {fs : List Frame} (n : ℕ) → AreFrames c all envs fs → Contains (flat_map roots_of_frame fs) n → Lives all n
  frames_live n no_frames i = absurd (none_in n i)
  frames_live n (and_frame {f = f} {fs = fs} h hs) i =
      elim (Contains-append_cases (roots_of_frame f) (flat_map roots_of_frame fs) n i) [
        | inl mine ↦ frame_lives n h mine
        | inr theirs ↦ frames_live n hs theirs
      ]

  -- roots

  roots_live : {env : TypedEnvironment} {envs : List TypedEnvironment} {a : Activity} (n : ℕ) → IsWellFormed c env envs a → Contains (roots (a.frame ∷ a.callers) a.world) n → Lives (a.world).objects n
  roots_live {a = a} n h i =
      elim (Contains-append_cases ((a.world).outside ++ handles (a.world).globals) (flat_map roots_of_frame (a.frame ∷ a.callers)) n i) [
        | inl words ↦ elim (Contains-append_cases (a.world).outside (handles (a.world).globals) n words) [ inl one ↦ ((h.world).outside).each n one | inr global ↦ values_live n (h.world).globals global ]
        | inr frames ↦ frames_live n (and_frame h.frame h.callers) frames
      ]

  pub handles_live : HandlesLive c
  handles_live env envs a h = record {
    held = λ n i. roots_live n h i;
    fields = λ one other i. fields_live h.world one other (object_at one (a.world).objects) refl i;
  }

  pub lives_exactly_if_reached : LivesExactlyIfReached c
  lives_exactly_if_reached env envs a h s n = (s.reached n, λ r. reachable_lives (a.world).objects (handles_live env envs a h) n r)
