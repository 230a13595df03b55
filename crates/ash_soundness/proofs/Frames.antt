-- Ticks, release points, and frames that are entered and left.
use Rattle.std.proofs.Common.{◌≡◌, ◌<◌, ◌+◌, ℕ, zero, suc, List, [], ◌∷◌, length, refl, sym, subst, take, arith}
use Rattle.std.proofs.lemmas.List.Elements.{Contains-append_left, Contains-append_right}
use Rattle.ash_host.specs.declared.word.Word.{Word}
use Rattle.ash_host.specs.Objects.{LiveObjects, handles}
use Rattle.ash_typed.specs.declared.types.VarType.{VarType}
use Rattle.ash_typed.specs.TypeOf.{ValueType}
use Rattle.ash_typed.specs.SoundExpressions.{TypedEnvironment}
use Rattle.ash_typed.specs.SoundStatements.{with_locals}
use Rattle.ash_meaning.specs.Activity.{Frame, Activity, in_frame}
use Rattle.ash_meaning.specs.Runs.{Run, Done}
use Rattle.ash_meaning.specs.Releases.{holding, release, let_go, end_expression, full, declaring, keeping}
use Rattle.ash_meaning.specs.Frames.{at_line, spend, tick, max_frames, frame_of, back_in, leave, in_frame_of}
use Rattle.ash_meaning.specs.MeaningLaws.{after_release}
use Rattle.ash_soundness.specs.WellFormed.{Context, IsValue, AreValues, no_values, and_value, IsGiven, Follows, IsThis, IsFrame, AreFrames, and_frame, IsWellFormed}
use Rattle.ash_soundness.specs.WellFormedLaws.{Passes, Goes, IsCarried, Leaves, done, ended, Evaluates}
use Rattle.ash_soundness.proofs.Values.{handle_first, none_in}
use Rattle.ash_soundness.proofs.Lists.{values_append, values_take}
use Rattle.ash_soundness.proofs.Sweeps.{world_swept, swept_follows, frames_swept}
use Rattle.ash_soundness.proofs.Triples.{follows_itself, follows_more, bind, weaken, safe, passes_more, goes_more, holds_more, word_lives, carry}

-- what the code of a frame comes to, after which its caller goes on with what it gives
pub record IsResulted (c : Context) (env : TypedEnvironment) (envs : List TypedEnvironment) (of : ValueType) (a : Activity) (w : Word) (b : Activity) : Type 0 where
  pub types : List VarType
  pub passes : Passes c (with_locals env types) envs a b
  pub value : IsGiven c.program (b.world).objects of w

module _ {c : Context} where
  first_frame : {all : LiveObjects (List ℕ)} {env : TypedEnvironment} {envs : List TypedEnvironment} {f : Frame} {fs : List Frame} → AreFrames c all (env ∷ envs) (f ∷ fs) → IsFrame c all env f × AreFrames c all envs fs
  first_frame (and_frame h hs) = (h, hs)

  -- a release point
  pub release_goes : {env : TypedEnvironment} {envs : List TypedEnvironment} {a : Activity} → IsWellFormed c env envs a → Goes c env envs a (after_release a)
  release_goes {a = a} h =
      let frames = first_frame (frames_swept (a.frame ∷ a.callers) h.world (and_frame h.frame h.callers)) in
      record {
        passes = record {
          well = record { world = world_swept (a.frame ∷ a.callers) h.world; since = follows_more h.since (swept_follows (a.frame ∷ a.callers) h.world); frame = frames.0; callers = frames.1; few = h.few };
          follows = swept_follows (a.frame ∷ a.callers) h.world;
          this = refl;
          callers = refl;
        };
        held = λ n i. i;
      }

  pub release_passes : {env : TypedEnvironment} {envs : List TypedEnvironment} {a : Activity} → IsWellFormed c env envs a → Leaves c (λ (none : Unit {0}) b. Goes c env envs a b) (release a)
  unfolding release
  release_passes h = done (release_goes h)

  -- a step that changes the frame, but for its object
  pub frame_passes : {env other : TypedEnvironment} {envs : List TypedEnvironment} {a : Activity} (how : Frame → Frame) → IsWellFormed c env envs a → (how a.frame).this ≡ (a.frame).this → IsFrame c (a.world).objects other (how a.frame) → Passes c other envs a (in_frame how a)
  frame_passes {a = a} how h this frame = record {
    well = record { world = h.world; since = h.since; frame = frame; callers = h.callers; few = h.few };
    follows = follows_itself a.world;
    this = this;
    callers = refl;
  }

  -- the end of a full expression
  pub end_passes : {env : TypedEnvironment} {envs : List TypedEnvironment} {a : Activity} → IsWellFormed c env envs a → Leaves c (λ (none : Unit {0}) b. Passes c env envs a b) (end_expression a)
  end_passes h =
      let freed = frame_passes let_go h refl (record { this = (h.frame).this; locals = (h.frame).locals; held = record { each = λ n i. absurd (none_in n i) } }) in
      weaken (λ none b g. passes_more freed g.passes) (release_passes freed.well)

  -- a full expression: what was done with its value stays, and nothing more is said of it
  pub full_passes : {A : Type 0} {other : TypedEnvironment} {envs : List TypedEnvironment} {a : Activity} (r : Run A) → Leaves c (λ (v : A) b. Passes c other envs a b) (r a) → Leaves c (λ (v : A) b. Passes c other envs a b) (full r a)
  full_passes r l = bind l (λ v b p. bind (end_passes p.well) (λ none d q. done (passes_more p q)))

  spend_goes : {env : TypedEnvironment} {envs : List TypedEnvironment} {a : Activity} (t : ℕ) → IsWellFormed c env envs a → Leaves c (λ (none : Unit {0}) b. Goes c env envs a b) (spend t a)
  spend_goes zero h = ended (safe h)
  spend_goes {a = a} (suc t) h = done (record {
    passes = record {
      well = record { world = h.world; since = h.since; frame = h.frame; callers = h.callers; few = h.few };
      follows = follows_itself a.world;
      this = refl;
      callers = refl;
    };
    held = λ n i. i;
  })

  -- a tick
  pub tick_goes : {env : TypedEnvironment} {envs : List TypedEnvironment} {a : Activity} (line : ℕ) → IsWellFormed c env envs a → Leaves c (λ (none : Unit {0}) b. Goes c env envs a b) (tick line a)
  tick_goes {env} {envs} {a = a} line h =
      let at : Goes c env envs a (in_frame (at_line line) a) = record {
        passes = frame_passes (at_line line) h refl (record { this = (h.frame).this; locals = (h.frame).locals; held = (h.frame).held });
        held = λ n i. i;
      } in
      weaken (λ none b g. goes_more at g) (spend_goes a.ticks (at.passes).well)

  -- locals of blocks

  pub declared_passes : {env : TypedEnvironment} {envs : List TypedEnvironment} {a : Activity} (of : VarType) (w : Word) → IsWellFormed c env envs a → IsValue c.program (a.world).objects of w → Passes c (with_locals env (of ∷ [])) envs a (in_frame (declaring w) a)
  declared_passes of w h v = frame_passes (declaring w) h refl (record { this = (h.frame).this; locals = values_append (h.frame).locals (and_value v no_values); held = (h.frame).held })

  pub left_passes : {env : TypedEnvironment} {envs : List TypedEnvironment} {a : Activity} (types : List VarType) (count : ℕ) → count ≡ length env.locals → IsWellFormed c (with_locals env types) envs a → Passes c env envs a (in_frame (keeping count) a)
  left_passes {env = env} {a = a} types count same h = frame_passes (keeping count) h refl (record {
    this = (h.frame).this;
    locals = subst (λ (n : ℕ). AreValues c.program (a.world).objects env.locals (take n (a.frame).locals)) (sym same) (values_take env.locals types (h.frame).locals);
    held = (h.frame).held;
  })

  -- frames

  module _ {env : TypedEnvironment} {envs : List TypedEnvironment} where
    -- the caller as it was, holding the result
    back_well : {a z : Activity} {other : TypedEnvironment} {of : ValueType} (w : Word) → IsWellFormed c env envs a → IsWellFormed c other (env ∷ envs) z → z.callers ≡ a.frame ∷ a.callers → IsGiven c.program (z.world).objects of w → IsWellFormed c env envs (back_in (a.frame ∷ a.callers) w z)
    back_well {a} {z} w h k same g =
        let frames = first_frame (subst (AreFrames c (z.world).objects (env ∷ envs)) same k.callers) in
        record { world = k.world; since = k.since; frame = holds_more (handles (w ∷ [])) (word_lives g) frames.0; callers = frames.1; few = h.few }

    pub leave_gives : {a z : Activity} {other : TypedEnvironment} {of : ValueType} (w : Word) → IsWellFormed c env envs a → IsWellFormed c other (env ∷ envs) z → z.callers ≡ a.frame ∷ a.callers → Follows a.world z.world → IsGiven c.program (z.world).objects of w → Leaves c (Evaluates c env envs of a) (leave w z)
    unfolding leave release
    leave_gives {a} {z} {of = of} w h k same follows g =
        let back = back_well w h k same g in
        let released = release_goes back in
        let held : IsCarried c of (back_in (a.frame ∷ a.callers) w z) w = record {
          value = g;
          held = λ n e. Contains-append_left (handles (w ∷ [])) (a.frame).held n (handle_first w [] n e);
        } in
        subst (λ (cs : List Frame). Leaves c (Evaluates c env envs of a) (Done w (after_release (back_in cs w z)))) (sym same) (done (record {
          goes = record {
            passes = record {
              well = (released.passes).well;
              follows = follows_more follows (released.passes).follows;
              this = refl;
              callers = refl;
            };
            held = λ n i. Contains-append_right (handles (w ∷ [])) (a.frame).held n i;
          };
          carried = carry back released held;
        }))

    -- a frame whose code gives this
    pub frame_gives : {a : Activity} (other : TypedEnvironment) {of : ValueType} (name : List ℕ) (line : ℕ) (this : Word) (args : List Word) (body : Run Word) → IsWellFormed c env envs a → length a.callers + 1 < max_frames → IsThis c.program (a.world).objects other.this this → AreValues c.program (a.world).objects other.locals args → ((b : Activity) → (b.frame).this ≡ this → IsWellFormed c other (env ∷ envs) b → Leaves c (IsResulted c other (env ∷ envs) of b) (body b)) → Leaves c (Evaluates c env envs of a) (in_frame_of name line this args body a)
    frame_gives {a} other name line this args body h room this_is values run =
        let entered : Activity = record a { frame = frame_of name line this args; callers = a.frame ∷ a.callers } in
        let well : IsWellFormed c other (env ∷ envs) entered = record {
          world = h.world;
          since = h.since;
          frame = record { this = this_is; locals = values; held = record { each = λ n i. absurd (none_in n i) } };
          callers = and_frame h.frame h.callers;
          few = omega arith;
        } in
        bind (bind (tick_goes line well) (λ none b g. weaken (λ w z r. ran g r) (run b (g.passes).this (g.passes).well)))
        (λ w z r. leave_gives w h (r.passes).well (r.passes).callers (r.passes).follows r.value)
      where
        ran : {x b z : Activity} {at : ValueType} {w : Word} → Goes c other (env ∷ envs) x b → IsResulted c other (env ∷ envs) at b w z → IsResulted c other (env ∷ envs) at x w z
        ran g r = record { types = r.types; passes = passes_more g.passes r.passes; value = r.value }
