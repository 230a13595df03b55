-- Release points inside a phrase.
use Rattle.std.proofs.Common.{◌<◌, List, [], ◌∷◌, length, refl, arith}
use Rattle.ash_host.specs.declared.word.Word.{Word}
use Rattle.ash_host.specs.Objects.{handles}
use Rattle.ash_typed.specs.TypeOf.{ValueType}
use Rattle.ash_typed.specs.SoundExpressions.{TypedEnvironment}
use Rattle.ash_meaning.specs.Activity.{Frame, Activity}
use Rattle.ash_meaning.specs.Releases.{let_go}
use Rattle.ash_meaning.specs.Frames.{max_frames, back_in}
use Rattle.ash_soundness.specs.WellFormed.{Context, IsGiven, AreFrames, and_frame, IsWellFormed}
use Rattle.ash_soundness.proofs.Values.{none_in}
use Rattle.ash_soundness.proofs.Triples.{holds_more, word_lives}
use Rattle.ash_soundness.proofs.Frames.{release_goes, frame_passes, left_passes}
use Rattle.ash_release_laws.specs.SafePoints.{ReleasePointsAreSafe}

module _ {c : Context} where
  back_to : {env inner : TypedEnvironment} {envs : List TypedEnvironment} {of : ValueType} (w : Word) (a : Activity) (callers : List Frame) → length callers < max_frames → AreFrames c (a.world).objects (env ∷ envs) callers → IsWellFormed c inner (env ∷ envs) a → IsGiven c.program (a.world).objects of w → IsWellFormed c env envs (back_in callers w a)
  back_to w a [] few none k g = elim none [ ]
  back_to w a (f ∷ fs) few (and_frame h hs) k g = record {
    world = k.world;
    since = k.since;
    frame = holds_more (handles (w ∷ [])) (word_lives g) h;
    callers = hs;
    few = omega (arith, few);
  }

  pub release_points_are_safe : ReleasePointsAreSafe c
  release_points_are_safe = record {
    let_go = λ env envs a h. (frame_passes let_go h refl (record { this = (h.frame).this; locals = (h.frame).locals; held = record { each = λ n i. absurd (none_in n i) } })).well;
    blocks_left = λ env envs types a h. (left_passes types (length env.locals) refl h).well;
    frame_left = λ env inner envs of w a h g. back_to w a a.callers h.few h.callers h g;
    released = λ env envs a h. ((release_goes h).passes).well;
    run_ended = λ a s. (s.well).world;
  }
