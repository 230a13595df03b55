-- Runs that take the first of the answers, and how they are put together.
use Rattle.std.proofs.Common.{◌≡◌, ℕ, zero, suc, List, [], Bool, true, false, Option, Some, None, if◌then◌else◌, refl, sym, ap, ◌∙◌}
use Rattle.ash_host.specs.Records.{HostRecord}
use Rattle.ash_meaning.specs.declared.exception.Exception.{Exception}
use Rattle.ash_meaning.specs.Activity.{Activity, in_frame}
use Rattle.ash_meaning.specs.Runs.{Progress, Done, Ended, NoStep, Run, give, onward, ◌>>=◌, ◌>>◌, look, change, raise, demand, no_step, found, out_of_ticks}
use Rattle.ash_meaning.specs.Frames.{at_line, spend, tick}
use Rattle.ash_answer_laws.specs.TakenAnswers.{Takes, activity_with_answers, TakesTheFirst}
use Rattle.ash_answer_laws.proofs.Taking.{takes_these, takes_none, takes_both, taken_so}

pub record Leaves {A : Type 0} (r : Run A) : Type 0 where
  pub rest : (a : Activity) → TakesTheFirst r a (r a)

module _ {A B : Type 0} (r : Run A) (f : A → Run B) (a : Activity) where
  on_from : (v : A) (b : Activity) → Takes (λ x y. r (activity_with_answers x a) ≡ Done v (activity_with_answers y b)) (a.world).answers (b.world).answers → (q : Progress B) → TakesTheFirst (f v) b q → TakesTheFirst (r >>= f) a q
  on_from v b s (Done w c) t = takes_both s t (λ x y z e g. ap (λ (p : Progress A). onward p f) e ∙ g)
  on_from v b s (Ended i c) t = takes_both s t (λ x y z e g. ap (λ (p : Progress A). onward p f) e ∙ g)
  on_from v b s NoStep t = tt

  on : ((v : A) → Leaves (f v)) → (p : Progress A) → TakesTheFirst r a p → TakesTheFirst (r >>= f) a (onward p f)
  on h (Done v b) s = on_from v b s (f v b) ((h v).rest b)
  on h (Ended i b) s = taken_so s (λ x y e. ap (λ (p : Progress A). onward p f) e)
  on h NoStep s = tt

pub bound : {A B : Type 0} {r : Run A} {f : A → Run B} → Leaves r → ((v : A) → Leaves (f v)) → Leaves (r >>= f)
bound {r = r} {f = f} hr h = record { rest = λ a. on r f a h (r a) (hr.rest a) }

pub followed : {A B : Type 0} {r : Run A} {q : Run B} → Leaves r → Leaves q → Leaves (r >> q)
followed {q = q} hr h = bound {f = λ _. q} hr (λ _. h)

pub given : {A : Type 0} (v : A) → Leaves (give v)
given v = record { rest = λ a. takes_none (λ x. refl) }

-- what is looked at is not the answers
pub looked : {A : Type 0} (what : Activity → A) → ((x : List HostRecord) (a : Activity) → what (activity_with_answers x a) ≡ what a) → Leaves (look what)
looked {A} what ignores = record { rest = λ a. takes_none (λ x. ap (λ (v : A). Done v (activity_with_answers x a)) (ignores x a)) }

-- what is changed is not the answers
pub changed : (how : Activity → Activity) → ((x : List HostRecord) (a : Activity) → how (activity_with_answers x a) ≡ activity_with_answers x (how a)) → Leaves (change how)
changed how ignores = record { rest = λ a. takes_these [] (sym (ap (λ (b : Activity). (b.world).answers) (ignores (a.world).answers a))) (λ x. ap (λ (b : Activity). Done tt b) (ignores x a)) }

pub raised : {A : Type 0} (x : Exception) → Leaves (raise {A = A} x)
raised x = record { rest = λ a. takes_none (λ y. refl) }

pub nowhere : {A : Type 0} → Leaves (no_step {A = A})
nowhere = record { rest = λ a. tt }

pub stopped : {A : Type 0} → Leaves (out_of_ticks {A = A})
stopped = record { rest = λ a. takes_none (λ x. refl) }

pub chosen_by : {A : Type 0} {r q : Run A} (b : Bool) → Leaves r → Leaves q → Leaves (if b then r else q)
chosen_by true h k = h
chosen_by false h k = k

pub demanded : (b : Bool) (x : Exception) → Leaves (demand b x)
demanded true x = given tt
demanded false x = raised x

pub found_there : {A : Type 0} (o : Option A) → Leaves (found o)
found_there (Some v) = given v
found_there None = nowhere

-- ticks

spent : (ticks : ℕ) → Leaves (spend ticks)
spent zero = stopped
spent (suc ticks) = changed _ (λ rest a. refl)

pub a_tick : (line : ℕ) → Leaves (tick line)
a_tick line = bound (followed (changed (in_frame (at_line line)) (λ rest a. refl)) (looked (λ a. a.ticks) (λ rest a. refl))) spent
