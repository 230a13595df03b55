-- Traces: how they are put together, and that ticks fall along them.
use Rattle.std.proofs.Common.{◌≡◌, ◌≤◌, ℕ, List, [], ◌∷◌, refl, ap, arith}
use Rattle.ash_host.specs.declared.word.Word.{Word}
use Rattle.ash_meaning.specs.Activity.{Frame, Activity}
use Rattle.ash_meaning.specs.Runs.{Raising, OutOfTicks, Progress, Done, Ended, NoStep}
use Rattle.ash_meaning.specs.Frames.{back_in}
use Rattle.ash_meaning.specs.Traces.{Transition, TakesTick, InFrame, Enters, Leaves, InWorld, Releases, Trace, Here, Then}
use Rattle.ash_meaning.specs.MeaningLaws.{LeavesAtMost, ComesBy}

pub joined : {a b c : Activity} → Trace a b → Trace b c → Trace a c
joined t Here = t
joined t (Then u x) = Then (joined t u) x

pub one : {a b : Activity} → Transition a b → Trace a b
one x = Then Here x

-- ticks

-- a frame that is left leaves the ticks as they are
pub back_ticks : (callers : List Frame) (result : Word) (a : Activity) → (back_in callers result a).ticks ≡ a.ticks
back_ticks [] result a = refl
back_ticks (caller ∷ callers) result a = refl

ticks_of : Activity → ℕ
ticks_of a = a.ticks

ticks_same : (a : Activity) {b c : Activity} → b ≡ c → c.ticks ≡ a.ticks → b.ticks ≤ a.ticks
unfolding ticks_of
ticks_same a {b} {c} e f = let g : b.ticks ≡ c.ticks = ap ticks_of e in omega arith

transition_ticks : {a b : Activity} → Transition a b → b.ticks ≤ a.ticks
unfolding ticks_of
transition_ticks {a = a} {b = b} (TakesTick left e f) = let g : b.ticks ≡ left = ap ticks_of f in omega arith
transition_ticks {a = a} (InFrame line locals held f) = ticks_same a f refl
transition_ticks {a = a} (Enters frame f) = ticks_same a f refl
transition_ticks {a = a} (Leaves result f) = ticks_same a f (back_ticks a.callers result a)
transition_ticks {a = a} (InWorld world x f) = ticks_same a f refl
transition_ticks {a = a} (Releases f) = ticks_same a f refl

pub at_most_more : {t u v : ℕ} → t ≤ u → u ≤ v → t ≤ v
at_most_more p q = omega arith

pub ticks_fall : {a b : Activity} → Trace a b → b.ticks ≤ a.ticks
ticks_fall {a = a} Here = omega arith
ticks_fall (Then t x) = at_most_more (transition_ticks x) (ticks_fall t)

-- where a phrase came

pub comes_after : {A : Type 0} {a b : Activity} (p : Progress A) → Trace a b → ComesBy b p → ComesBy a p
comes_after (Done v c) t u = joined t u
comes_after (Ended (Raising x) c) t u = joined t u
comes_after (Ended OutOfTicks c) t u = (joined t u.0, u.1)
comes_after NoStep t u = tt

pub leaves : {A : Type 0} (a : Activity) (p : Progress A) → ComesBy a p → LeavesAtMost a.ticks p
leaves a (Done v b) t = ticks_fall t
leaves a (Ended (Raising x) b) t = ticks_fall t
leaves a (Ended OutOfTicks b) t = ticks_fall t.0
leaves a NoStep t = tt
