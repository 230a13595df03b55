-- Runs that settle and keep what frames have, and how they are put together.
use Rattle.std.proofs.Common.{◌≡◌, ◌⊎◌, ◌∙◌, ℕ, Bool, true, false, cond, List, [], ◌∷◌, ◌++◌, inl, inr, refl, sym, ap, subst, append_assoc, flat_map, if◌then◌else◌}
use Rattle.std.specs.Prelude.{Option, Some, None, Contains, IsSome}
use Rattle.ash_host.specs.Objects.{object_at, Refers, Lives, AreNumbered}
use Rattle.ash_host.specs.Reach.{Root, Field, is_reachable, after_sweep}
use Rattle.ash_host.proofs.ReachLaws.{is_reachable_says, is_reachable_yes, object_at-after_sweep, sweep_is_exact}
use Rattle.ash_host.proofs.SweepLaws.{swept_reachable}
use Rattle.ash_host.proofs.NumberLaws.{swept_numbered}
use Rattle.ash_meaning.specs.declared.exception.Exception.{Exception}
use Rattle.ash_meaning.specs.Activity.{World, Frame, Activity}
use Rattle.ash_meaning.specs.Runs.{Interrupt, Progress, Done, Ended, NoStep, Run, give, onward, ◌>>=◌, ◌>>◌, look, raise, demand, no_step, found}
use Rattle.ash_meaning.specs.Releases.{roots_of_frame, roots, sweep, release}
use Rattle.ash_meaning.specs.Traces.{after_release}
use Rattle.ash_release_laws.specs.Settling.{ReachesFrom, Reaches, IsSettledFrom, IsSettled, IsNumbered, KeepsItsFrame, KeepsItsCallers}
use Rattle.ash_release_laws.proofs.Roots.{caller_root, frames_more, frame_root}

-- what is kept: the whole frame, or only its callers
abbrev pub Kept : Bool → Activity → Activity → Type 0
Kept true a b = KeepsItsFrame a b
Kept false a b = KeepsItsCallers a b

frame_same : (a : Activity) → KeepsItsFrame a a
frame_same a = record { more = []; held = refl; this = refl; locals = refl; has = λ n c. c; callers = refl; lives = λ n c l. l }

frame_more : {a b c : Activity} → KeepsItsFrame a b → KeepsItsFrame b c → KeepsItsFrame a c
frame_more {a} {b} {c} p q = record {
  more = q.more ++ p.more;
  held = q.held ∙ ap (λ (ns : List ℕ). q.more ++ ns) p.held ∙ sym (append_assoc q.more p.more (a.frame).held);
  this = q.this ∙ p.this;
  locals = q.locals ∙ p.locals;
  has = λ n i. q.has n (p.has n i);
  callers = q.callers ∙ p.callers;
  lives = λ n i l. q.lives n (frames_more a.frame b.frame a.callers b.callers p.has p.callers n i) (p.lives n i l);
}

callers_more : {a b c : Activity} → KeepsItsCallers a b → KeepsItsCallers b c → KeepsItsCallers a c
callers_more {a} {b} {c} p q = record {
  this = q.this ∙ p.this;
  callers = q.callers ∙ p.callers;
  lives = λ n i l. q.lives n (subst (λ (fs : List Frame). Contains (flat_map roots_of_frame fs) n) (sym p.callers) i) (p.lives n i l);
}

callers_of : {a b : Activity} → KeepsItsFrame a b → KeepsItsCallers a b
callers_of {a} {b} p = record { this = p.this; callers = p.callers; lives = λ n i l. p.lives n (caller_root a.frame a.callers n i) l }

pub kept_same : (k : Bool) (a : Activity) → Kept k a a
kept_same true a = frame_same a
kept_same false a = callers_of (frame_same a)

pub kept_more : (k : Bool) (a b c : Activity) → Kept k a b → Kept k b c → Kept k a c
kept_more true a b c p q = frame_more p q
kept_more false a b c p q = callers_more p q

pub kept_of : (k : Bool) {a b : Activity} → KeepsItsFrame a b → Kept k a b
kept_of true p = p
kept_of false p = callers_of p

-- one activity after another: this holds of the second where that held of the first
pub record Goes (k : Bool) (P Q : Type 0) (a b : Activity) : Type 0 where
  pub numbered : IsNumbered b
  pub settled : P → Q
  pub kept : Kept k a b

-- how far a run comes
pub data Comes {A : Type 0} (P : Type 0) (Left : A → Activity → Type 0) : Progress A → Type 0 where
  done : {v : A} {b : Activity} → Left v b → Comes P Left (Done v b)
  ended : {i : Interrupt} {b : Activity} → (P → IsSettled b) → Comes P Left (Ended i b)
  no_way : Comes P Left NoStep

pub record Settling {A : Type 0} (k : Bool) (Pre : Activity → Type 0) (Post : A → Activity → Type 0) (r : Run A) : Type 0 where
  pub comes : (a : Activity) → IsNumbered a → Comes (Pre a) (λ (v : A) b. Goes k (Pre a) (Post v b) a b) (r a)

-- nothing is said
abbrev pub Anything : Activity → Type 0
Anything a = Unit {0}

-- one run after another

pub weaken : {A : Type 0} {P Q : Type 0} {Left Right : A → Activity → Type 0} {r : Progress A} → (Q → P) → ((v : A) (b : Activity) → Left v b → Right v b) → Comes P Left r → Comes Q Right r
weaken pre more (done {v} {b} l) = done (more v b l)
weaken pre more (ended s) = ended (λ q. s (pre q))
weaken pre more no_way = no_way

pub bind : {A B : Type 0} {P : Type 0} {Left : A → Activity → Type 0} {Right : B → Activity → Type 0} {r : Progress A} {f : A → Run B} → Comes P Left r → ((v : A) (b : Activity) → Left v b → Comes P Right (f v b)) → Comes P Right (onward r f)
bind (done {v} {b} l) next = next v b l
bind (ended s) next = ended s
bind no_way next = no_way

pub goes_on : {k : Bool} {P Q R : Type 0} {a b c : Activity} → Goes k P Q a b → Goes k Q R b c → Goes k P R a c
goes_on {k} {a = a} {b = b} {c = c} p q = record { numbered = q.numbered; settled = λ s. q.settled (p.settled s); kept = kept_more k a b c p.kept q.kept }

module _ {k : Bool} {Pre : Activity → Type 0} where
  pub bound : {A B : Type 0} {Mid : A → Activity → Type 0} {Post : B → Activity → Type 0} {r : Run A} {f : A → Run B} → Settling k Pre Mid r → ((v : A) → Settling k (Mid v) Post (f v)) → Settling k Pre Post (r >>= f)
  bound hr h = record {
    comes = λ a numbered. bind (hr.comes a numbered) (λ v b g. weaken g.settled (λ w c n. goes_on g n) ((h v).comes b g.numbered));
  }

  pub followed : {A B : Type 0} {Mid : Activity → Type 0} {Post : B → Activity → Type 0} {r : Run A} {q : Run B} → Settling k Pre (λ _. Mid) r → Settling k Mid Post q → Settling k Pre Post (r >> q)
  followed {q = q} hr h = bound {f = λ _. q} hr (λ _. h)

  pub weakened : {A : Type 0} {Mid Post : A → Activity → Type 0} {r : Run A} → ((v : A) (b : Activity) → Mid v b → Post v b) → Settling k Pre Mid r → Settling k Pre Post r
  weakened {Mid = Mid} {Post} more h = record { comes = λ a numbered. weaken (λ p. p) (λ v b g. record { numbered = g.numbered; settled = λ p. more v b (g.settled p); kept = g.kept }) (h.comes a numbered) }

  -- what holds whatever was before
  pub anyway : {A : Type 0} {Post : A → Activity → Type 0} {r : Run A} → Settling k Anything Post r → Settling k Pre Post r
  anyway h = record { comes = λ a numbered. weaken (λ p. tt) (λ v b g. record { numbered = g.numbered; settled = λ p. g.settled tt; kept = g.kept }) (h.comes a numbered) }

  pub given : {A : Type 0} {Post : A → Activity → Type 0} (v : A) → ((a : Activity) → Pre a → Post v a) → Settling k Pre Post (give v)
  given v h = record { comes = λ a numbered. done (record { numbered = numbered; settled = h a; kept = kept_same k a }) }

  pub looked : {A : Type 0} (what : Activity → A) → Settling k Pre (λ _. Pre) (look what)
  looked what = record { comes = λ a numbered. done (record { numbered = numbered; settled = λ p. p; kept = kept_same k a }) }

  pub nowhere : {A : Type 0} {Post : A → Activity → Type 0} → Settling k Pre Post (no_step {A = A})
  nowhere = record { comes = λ a numbered. no_way }

  pub chosen_by : {A : Type 0} {Post : A → Activity → Type 0} {r q : Run A} (b : Bool) → Settling k Pre Post r → Settling k Pre Post q → Settling k Pre Post (if b then r else q)
  chosen_by true h g = h
  chosen_by false h g = g

  pub found_there : {A : Type 0} (o : Option A) → Settling k Pre (λ _. Pre) (found o)
  found_there (Some v) = given v (λ a p. p)
  found_there None = nowhere

-- a run that keeps the whole frame keeps its callers
pub outer : {A : Type 0} {k : Bool} {Pre : Activity → Type 0} {Post : A → Activity → Type 0} {r : Run A} → Settling true Pre Post r → Settling k Pre Post r
outer {k = k} h = record { comes = λ a numbered. weaken (λ p. p) (λ v b g. record { numbered = g.numbered; settled = g.settled; kept = kept_of k g.kept }) (h.comes a numbered) }

-- where everything can be reached and stays so

abbrev pub Calm : Bool → {A : Type 0} → Run A → Type 0
Calm k {A} r = Settling {A = A} k IsSettled (λ v. IsSettled) r

module _ {k : Bool} where
  pub raised : {A : Type 0} {Post : A → Activity → Type 0} (x : Exception) → Settling k IsSettled Post (raise {A = A} x)
  raised x = record { comes = λ a numbered. ended (λ p. p) }

  pub demanded : (b : Bool) (x : Exception) → Calm k (demand b x)
  demanded true x = given tt (λ a p. p)
  demanded false x = raised x

-- what is reached

pub reach_on : (a b : Activity) → ((n : ℕ) → Contains (roots (a.frame ∷ a.callers) a.world) n → Contains (roots (b.frame ∷ b.callers) b.world) n) → ((one other : ℕ) → Refers (a.world).objects one other → Refers (b.world).objects one other ⊎ Contains (roots (b.frame ∷ b.callers) b.world) other) → (n : ℕ) → Reaches a n → Reaches b n
reach_on a b rooted refers n (Root c) = Root (rooted n c)
reach_on a b rooted refers n (Field {one} r f) =
    elim (refers one n f) [
      | inl here ↦ Field (reach_on a b rooted refers one r) here
      | inr root ↦ Root root
    ]

-- what a step leaves: all roots, and all that is referred to
pub record Moves (a b : Activity) : Type 0 where
  pub numbered : IsNumbered b
  pub rooted : (n : ℕ) → Contains (roots (a.frame ∷ a.callers) a.world) n → Contains (roots (b.frame ∷ b.callers) b.world) n
  pub refers : (one other : ℕ) → Refers (a.world).objects one other → Refers (b.world).objects one other ⊎ Contains (roots (b.frame ∷ b.callers) b.world) other
  pub lived : (n : ℕ) → Lives (b.world).objects n → Lives (a.world).objects n

pub moves_settle : (a b : Activity) → Moves a b → IsSettled a → IsSettled b
moves_settle a b m s = record { reached = λ n lives. reach_on a b m.rooted m.refers n (s.reached n (m.lived n lives)) }

-- release points

lived_reached : (frames : List Frame) (w : World) (n : ℕ) (b : Bool) → is_reachable (roots frames w) w.objects n ≡ b → IsSome (cond b (object_at n w.objects) None) → ReachesFrom frames w n
lived_reached frames w n true is lives = is_reachable_says (roots frames w) w.objects n is
lived_reached frames w n false is lives = absurd (cc)

-- what lives after a release point could be reached at it
pub left_reached : (frames : List Frame) (w : World) (n : ℕ) → Lives (after_sweep (roots frames w) w.objects) n → ReachesFrom frames w n
left_reached frames w n lives = lived_reached frames w n (is_reachable (roots frames w) w.objects n) refl (subst IsSome (object_at-after_sweep (roots frames w) w.objects n) lives)

pub sweep_settles : (frames : List Frame) (w : World) → AreNumbered w.last w.objects → IsSettledFrom frames (sweep frames w)
unfolding sweep
sweep_settles frames w numbered = record {
  reached = λ n lives. swept_reachable (sweep_is_exact (roots frames w) w.objects numbered.in_order) n (left_reached frames w n lives);
}

-- what can be reached stays
pub reached_stays : (frames : List Frame) (w : World) (n : ℕ) → ReachesFrom frames w n → object_at n (sweep frames w).objects ≡ object_at n w.objects
unfolding sweep
reached_stays frames w n r = object_at-after_sweep (roots frames w) w.objects n ∙ ap (λ (b : Bool). cond b (object_at n w.objects) None) (is_reachable_yes (roots frames w) w.objects n r)

pub sweep_numbered : (frames : List Frame) (w : World) → AreNumbered w.last w.objects → AreNumbered (sweep frames w).last (sweep frames w).objects
unfolding sweep
sweep_numbered frames w numbered = swept_numbered (roots frames w) w.last numbered (sweep_is_exact (roots frames w) w.objects numbered.in_order)

pub release_keeps : (a : Activity) → KeepsItsFrame a (after_release a)
release_keeps a = record {
  more = [];
  held = refl;
  this = refl;
  locals = refl;
  has = λ n c. c;
  callers = refl;
  lives = λ n c l. subst IsSome (sym (reached_stays (a.frame ∷ a.callers) a.world n (Root (frame_root (a.frame ∷ a.callers) a.world n c)))) l;
}

-- the roots stay
release_settles : (a : Activity) → IsNumbered a → IsSettled (after_release a)
unfolding sweep
release_settles a numbered = sweep_settles (a.frame ∷ a.callers) a.world numbered

pub release_goes : (k : Bool) (P : Type 0) (a : Activity) → IsNumbered a → Goes k P (IsSettled (after_release a)) a (after_release a)
release_goes k P a numbered = record {
  numbered = sweep_numbered (a.frame ∷ a.callers) a.world numbered;
  settled = λ p. release_settles a numbered;
  kept = kept_of k (release_keeps a);
}

pub released : {k : Bool} {Pre : Activity → Type 0} → Settling k Pre (λ _. IsSettled) release
unfolding release
released {k} {Pre} = record { comes = λ a numbered. done (release_goes k (Pre a) a numbered) }
