-- What is taken away is held, and where jumps come to release points.
use Rattle.std.proofs.Common.{◌≡◌, ◌∙◌, ◌-◌, ℕ, Bool, true, false, List, [], ◌∷◌, ◌++◌, length, take, drop, slice_set, refl, ap, nat_lt, nat_le, Option, Some, None}
use Rattle.std.specs.Option.{option_map_or}
use Rattle.ash_host.specs.declared.word.Word.{Word}
use Rattle.ash_host.specs.declared.word.Word.TheVariants as words
use Rattle.ash_host.specs.declared.answer.HostAnswer.{HostAnswer}
use Rattle.ash_host.specs.declared.answer.HostAnswer.TheVariants as answers
use Rattle.ash_host.specs.declared.event.Target.TheVariants as targets
use Rattle.ash_host.specs.Calls.{Set}
use Rattle.ash_host.specs.Objects.{Plain, handles, object_at}
use Rattle.ash_host.specs.Records.{HostRecord}
use Rattle.ash_host.specs.Limits.{max_elements}
use Rattle.ash_meaning.specs.declared.exception.Exception.TheVariants.{IndexOutOfBounds, ArrayLimit}
use Rattle.ash_meaning.specs.Activity.{Activity, in_frame, in_world}
use Rattle.ash_meaning.specs.Runs.{Progress, Done, give, onward, ◌>>=◌, ◌>>◌, change, demand, found}
use Rattle.ash_meaning.specs.Releases.{hold_all, release, keeping, leave_blocks}
use Rattle.ash_meaning.specs.Frames.{leave}
use Rattle.ash_meaning.specs.ObjectSteps.{with_object, words_in, words_at, with_words, put_words}
use Rattle.ash_meaning.specs.HostSteps.{with_state_in, next_answer, after_answer, accept}
use Rattle.ash_meaning.specs.Locations.{Location, Local, Global, Part, Property, write}
use Rattle.ash_meaning.specs.ArraySteps.{zero_at, zero_in, resized}
use Rattle.ash_meaning.specs.StatementMeaning.{Flow, On, Broke, Continued, Returned, end_block}
use Rattle.ash_release_laws.specs.Settling.{AtTheValue}
use Rattle.ash_release_laws.specs.Held.{stored, HoldsAsWell, WhatIsTakenAwayIsHeld, IsJump, JumpsReleaseOnce}
use Rattle.ash_release_laws.proofs.Roots.{changed_lives}

-- an object is changed, and these are held
changed_as_well : (ns : List ℕ) (number : ℕ) (how : Plain (List ℕ) → Plain (List ℕ)) (a : Activity) → HoldsAsWell ns a (in_world (with_object number how) (record a { frame = record a.frame { held = ns ++ (a.frame).held } }))
changed_as_well ns number how a = record { held = refl; lives = changed_lives number how (a.world).objects }

-- properties

accepted : (a b : Activity) → HoldsAsWell [] a b → (answer : HostAnswer) → AtTheValue (λ (none : Unit {0}) z. HoldsAsWell [] a z) (onward (accept None answer b) (λ _. give tt))
accepted a b h answers.Nothing = h
accepted a b h (answers.Value word) = tt
accepted a b h (answers.Raise code) = tt
accepted a b h answers.NoMemory = tt

set_as_well : (number : ℕ) (a : Activity) (o : Option (HostRecord × List HostRecord)) → AtTheValue (λ (none : Unit {0}) z. HoldsAsWell [] a z) (((found o >>= (λ taken. change (in_world (after_answer (targets.Object number) taken.0 taken.1)) >> give (taken.0).answer)) >>= accept None >>= (λ _. give tt)) a)
set_as_well number a None = tt
set_as_well number a (Some taken) =
    accepted a (in_world (after_answer (targets.Object number) taken.0 taken.1) a)
    (record { held = refl; lives = changed_lives number (with_state_in (taken.0).after) (a.world).objects }) (taken.0).answer

written : (location : Location) (w : Word) (a : Activity) → AtTheValue (λ (none : Unit {0}) b. HoldsAsWell (handles (stored location a ∷ [])) a b) (write location w a)
written (Local slot) w a = record { held = refl; lives = λ n l. l }
written (Global place) w a = record { held = refl; lives = λ n l. l }
written (Part number place) w a = changed_as_well (handles (stored (Part number place) a ∷ [])) number (with_words (slice_set (words_in number a.world) place w)) a
written (Property number id of) w a = set_as_well number a (next_answer (targets.Object number) (Set id w) a.world)

-- arrays

resized_from : (number count : ℕ) (a : Activity) (room : Bool) → AtTheValue (λ (none : Unit {0}) b. HoldsAsWell (handles (drop count (words_in number a.world))) a b) ((demand room ArrayLimit >> words_at number >>= (λ all. hold_all (drop count all) >> zero_at number >>= (λ zero. put_words number (resized count zero all)))) a)
resized_from number count a true =
    changed_as_well (handles (drop count (words_in number a.world))) number
    (with_words (resized count (option_map_or zero_in (object_at number (a.world).objects) words.Null) (words_in number a.world))) a
resized_from number count a false = tt

removed_from : (number : ℕ) (a : Activity) (some : Bool) → AtTheValue (λ (none : Unit {0}) b. HoldsAsWell (handles (drop (length (words_in number a.world) - 1) (words_in number a.world))) a b) ((demand some IndexOutOfBounds >> hold_all (drop (length (words_in number a.world) - 1) (words_in number a.world)) >> put_words number (take (length (words_in number a.world) - 1) (words_in number a.world))) a)
removed_from number a true =
    changed_as_well (handles (drop (length (words_in number a.world) - 1) (words_in number a.world))) number
    (with_words (take (length (words_in number a.world) - 1) (words_in number a.world))) a
removed_from number a false = tt

pub taken_away_is_held : WhatIsTakenAwayIsHeld
taken_away_is_held = record {
  written = written;
  resized = λ number count a. resized_from number count a (nat_le count max_elements);
  removed = λ number a. removed_from number a (nat_lt 0 (length (words_in number a.world)));
}

-- jumps

jumped : (count : ℕ) (b : Activity) (flow : Flow) → IsJump flow → (leave_blocks count >> end_block flow) b ≡ Done flow (in_frame (keeping count) b)
jumped count b On j = absurd j
jumped count b Broke j = refl
jumped count b Continued j = refl
jumped count b (Returned value) j = refl

block_after : (count : ℕ) (p q : Progress Flow) → p ≡ q → onward p (λ flow. leave_blocks count >> end_block flow) ≡ onward q (λ flow. leave_blocks count >> end_block flow)
block_after count p q e = ap (λ (r : Progress Flow). onward r (λ flow. leave_blocks count >> end_block flow)) e

pub jumps_release_once : JumpsReleaseOnce
unfolding leave release
jumps_release_once = record {
  blocks = λ inside a b flow jump e. block_after (length (a.frame).locals) (inside a) (Done flow b) e ∙ jumped (length (a.frame).locals) b flow jump;
  ends = λ inside a b e. block_after (length (a.frame).locals) (inside a) (Done On b) e;
  breaks = λ a. refl;
  continues = λ turn next a. refl;
  returns = λ w a. refl;
}
