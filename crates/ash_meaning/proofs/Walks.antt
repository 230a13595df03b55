-- Walks: two runs that come to the same wherever at most so many ticks are left, that come there by a trace, and that
-- go on where they have more ticks; and how they are put together.
use Rattle.std.proofs.Common.{◌≡◌, ◌≤◌, ◌<◌, ◌+◌, ◌∙◌, ℕ, zero, suc, Bool, true, false, Option, Some, None, if◌then◌else◌, refl, sym, subst, ap, arith}
use Rattle.ash_meaning.specs.declared.exception.Exception.{Exception}
use Rattle.ash_meaning.specs.Activity.{Activity, in_frame}
use Rattle.ash_meaning.specs.Runs.{Raising, OutOfTicks, Progress, Done, Ended, NoStep, Run, give, onward, ◌>>=◌, ◌>>◌, look, change, raise, demand, no_step, found}
use Rattle.ash_meaning.specs.Frames.{at_line, spend, tick}
use Rattle.ash_meaning.specs.Traces.{Transition, TakesTick, InFrame, Trace, Here}
use Rattle.ash_meaning.specs.MeaningLaws.{AreSame, ComesBy, with_more, ExtendsWithMoreTicks}
use Rattle.ash_meaning.proofs.Traces.{one, at_most_more, ticks_fall, comes_after, leaves}

pub record Walk {A : Type 0} (n : ℕ) (r s : Run A) : Type 0 where
  pub same : (a : Activity) → a.ticks ≤ n → r a ≡ s a
  pub comes : (a : Activity) → a.ticks ≤ n → ComesBy a (r a)
  pub goes_on : (more : ℕ) (a : Activity) → a.ticks + more ≤ n → ExtendsWithMoreTicks more (r a) (r (with_more more a))

pub at_most : (t : ℕ) → t ≤ t
at_most t = omega arith

fewer_more : {t u v : ℕ} (m : ℕ) → t ≤ u → u + m ≤ v → t + m ≤ v
fewer_more m p q = omega arith

only_more : {t u : ℕ} (m : ℕ) → t + m ≤ u → t ≤ u
only_more m p = omega arith

-- the walk without its trace
pub same_of : {A : Type 0} {n : ℕ} {r s : Run A} → Walk n r s → AreSame n r s
same_of {r = r} w = record {
  same = w.same;
  left = λ a le. leaves a (r a) (w.comes a le);
}

-- of fewer ticks too
pub fewer : {A : Type 0} {m n : ℕ} {r s : Run A} → m ≤ n → Walk n r s → Walk m r s
fewer le w = record {
  same = λ a l. w.same a (at_most_more l le);
  comes = λ a l. w.comes a (at_most_more l le);
  goes_on = λ more a l. w.goes_on more a (at_most_more l le);
}

-- one run, then another

comes_on : {A B : Type 0} {n : ℕ} (f : A → Run B) (a : Activity) → a.ticks ≤ n → ((v : A) (b : Activity) → b.ticks ≤ n → ComesBy b (f v b)) → (p : Progress A) → ComesBy a p → ComesBy a (onward p f)
comes_on f a le h (Done v b) t = comes_after (f v b) t (h v b (at_most_more (ticks_fall t) le))
comes_on f a le h (Ended (Raising x) b) t = t
comes_on f a le h (Ended OutOfTicks b) t = t
comes_on f a le h NoStep t = tt

same_on : {A B : Type 0} {n : ℕ} (f g : A → Run B) (a : Activity) → a.ticks ≤ n → ((v : A) → Walk n (f v) (g v)) → (p : Progress A) → ComesBy a p → onward p f ≡ onward p g
same_on f g a le h (Done v b) t = (h v).same b (at_most_more (ticks_fall t) le)
same_on f g a le h (Ended (Raising x) b) t = refl
same_on f g a le h (Ended OutOfTicks b) t = refl
same_on f g a le h NoStep t = refl

more_on : {A B : Type 0} {n : ℕ} (f g : A → Run B) (more : ℕ) (a : Activity) → a.ticks + more ≤ n → ((v : A) → Walk n (f v) (g v)) → (p q : Progress A) → ComesBy a p → ExtendsWithMoreTicks more p q → ExtendsWithMoreTicks more (onward p f) (onward q f)
more_on {A = A} f g more a le h (Done v b) q t e = subst (λ (x : Progress A). ExtendsWithMoreTicks more (f v b) (onward x f)) (sym e) ((h v).goes_on more b (fewer_more more (ticks_fall t) le))
more_on {A = A} f g more a le h (Ended (Raising x) b) q t e = ap (λ (y : Progress A). onward y f) e
more_on f g more a le h (Ended OutOfTicks b) q t e = comes_on f (with_more more b) (fewer_more more (ticks_fall t.0) le) (λ v c l. (h v).comes c l) q e
more_on {A = A} f g more a le h NoStep q t e = ap (λ (y : Progress A). onward y f) e

module _ {n : ℕ} where
  pub bound : {A B : Type 0} {r s : Run A} {f g : A → Run B} → Walk n r s → ((v : A) → Walk n (f v) (g v)) → Walk n (r >>= f) (s >>= g)
  bound {A} {B} {r} {s} {f} {g} hr h = record {
    same = λ a le. same_on f g a le h (r a) (hr.comes a le) ∙ ap (λ (p : Progress A). onward p g) (hr.same a le);
    comes = λ a le. comes_on f a le (λ v b l. (h v).comes b l) (r a) (hr.comes a le);
    goes_on = λ more a le. more_on f g more a le h (r a) (r (with_more more a)) (hr.comes a (only_more more le)) (hr.goes_on more a le);
  }

  pub followed : {A B : Type 0} {r s : Run A} {q t : Run B} → Walk n r s → Walk n q t → Walk n (r >> q) (s >> t)
  followed {q = q} {t = t} hr h = bound {f = λ _. q} {g = λ _. t} hr (λ _. h)

  pub given : {A : Type 0} (v : A) → Walk n (give v) (give v)
  given v = record { same = λ a le. refl; comes = λ a le. Here; goes_on = λ more a le. refl }

  -- what is looked at is not the ticks
  pub looked : {A : Type 0} (what : Activity → A) → ((more : ℕ) (a : Activity) → what (with_more more a) ≡ what a) → Walk n (look what) (look what)
  looked {A} what ignores = record { same = λ a le. refl; comes = λ a le. Here; goes_on = λ more a le. ap (λ (v : A). Done v (with_more more a)) (ignores more a) }

  -- what is changed is not the ticks
  pub changed : (how : Activity → Activity) → ((a : Activity) → Transition a (how a)) → ((more : ℕ) (a : Activity) → how (with_more more a) ≡ with_more more (how a)) → Walk n (change how) (change how)
  changed how by ignores = record { same = λ a le. refl; comes = λ a le. one (by a); goes_on = λ more a le. ap (λ (b : Activity). Done tt b) (ignores more a) }

  pub raised : {A : Type 0} (x : Exception) → Walk n (raise {A = A} x) (raise x)
  raised x = record { same = λ a le. refl; comes = λ a le. Here; goes_on = λ more a le. refl }

  pub nowhere : {A : Type 0} → Walk n (no_step {A = A}) no_step
  nowhere = record { same = λ a le. refl; comes = λ a le. tt; goes_on = λ more a le. refl }

  pub chosen_by : {A : Type 0} {r s q t : Run A} (b : Bool) → Walk n r s → Walk n q t → Walk n (if b then r else q) (if b then s else t)
  chosen_by true h k = h
  chosen_by false h k = k

  pub demanded : (b : Bool) (x : Exception) → Walk n (demand b x) (demand b x)
  demanded true x = given tt
  demanded false x = raised x

  pub found_there : {A : Type 0} (o : Option A) → Walk n (found o) (found o)
  found_there (Some v) = given v
  found_there None = nowhere

-- ticks

one_more : (t more : ℕ) → suc (t + more) ≡ suc t + more
one_more t more = omega arith

takes : {t : ℕ} (b : Activity) → b.ticks ≡ suc t → Trace b (record b { ticks = t })
takes {t} b e = one (TakesTick t (omega (arith, e)) refl)

-- a tick alone

alone_comes : (t : ℕ) (b : Activity) → b.ticks ≡ t → ComesBy b (spend t b)
alone_comes zero b e = (Here, e)
alone_comes (suc t) b e = takes b e

alone_goes_on : (more t : ℕ) (b : Activity) → b.ticks ≡ t → ExtendsWithMoreTicks more (spend t b) (spend (t + more) (with_more more b))
alone_goes_on more zero b e = alone_comes (0 + more) (with_more more b) (ap (λ (k : ℕ). k + more) e)
alone_goes_on more (suc t) b e = ap (λ (k : ℕ). spend k (with_more more b)) (sym (one_more t more))

set_line : (line : ℕ) (a : Activity) → Trace a (in_frame (at_line line) a)
set_line line a = one (InFrame line a.frame.locals a.frame.held refl)

module _ {n : ℕ} where
  pub a_tick : (line : ℕ) → Walk n (tick line) (tick line)
  a_tick line = record {
    same = λ a le. refl;
    comes = λ a le. comes_after (spend a.ticks (in_frame (at_line line) a)) (set_line line a) (alone_comes a.ticks (in_frame (at_line line) a) refl);
    goes_on = λ more a le. alone_goes_on more a.ticks (in_frame (at_line line) a) refl;
  }

  -- a tick, and after it runs of fewer ticks

  module _ {A : Type 0} {r s : Run A} (h : (m : ℕ) → m < n → Walk m r s) where
    then_same : (t : ℕ) (b : Activity) → t ≤ n → onward (spend t b) (λ _. r) ≡ onward (spend t b) (λ _. s)
    then_same zero b le = refl
    then_same (suc t) b le = (h t le).same (record b { ticks = t }) (at_most t)

    then_comes : (t : ℕ) (b : Activity) → b.ticks ≡ t → t ≤ n → ComesBy b (onward (spend t b) (λ _. r))
    then_comes zero b e le = (Here, e)
    then_comes (suc t) b e le =
        let left : Activity = record b { ticks = t } in
        comes_after (r left) (takes b e) ((h t le).comes left (at_most t))

    then_goes_on : (more t : ℕ) (b : Activity) → b.ticks ≡ t → t + more ≤ n → ExtendsWithMoreTicks more (onward (spend t b) (λ _. r)) (onward (spend (t + more) (with_more more b)) (λ _. r))
    then_goes_on more zero b e le = then_comes (0 + more) (with_more more b) (ap (λ (k : ℕ). k + more) e) le
    then_goes_on more (suc t) b e le =
        let left : Activity = record b { ticks = t } in
        subst (λ (k : ℕ). ExtendsWithMoreTicks more (r left) (onward (spend k (with_more more b)) (λ _. r))) (one_more t more)
        ((h (t + more) (omega arith)).goes_on more left (at_most (t + more)))

  pub ticked : {A : Type 0} {r s : Run A} (line : ℕ) → ((m : ℕ) → m < n → Walk m r s) → Walk n (tick line >> r) (tick line >> s)
  ticked {r = r} {s = s} line h = record {
    same = λ a le. then_same h a.ticks (in_frame (at_line line) a) le;
    comes = λ a le. comes_after (onward (spend a.ticks (in_frame (at_line line) a)) (λ _. r)) (set_line line a) (then_comes h a.ticks (in_frame (at_line line) a) refl le);
    goes_on = λ more a le. then_goes_on h more a.ticks (in_frame (at_line line) a) refl le;
  }
