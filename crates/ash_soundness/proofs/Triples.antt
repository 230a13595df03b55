-- How runs that keep what is well-formed are put together, and what is carried past them.
use Rattle.std.proofs.Common.{◌≡◌, ◌≤◌, ℕ, Bool, true, false, List, [], ◌∷◌, refl, sym, ap, ◌∙◌, inl, inr, arith}
use Rattle.std.specs.Prelude.{Option, Some, None, Contains, IsSome, if◌then◌else◌}
use Rattle.std.proofs.lemmas.Option.{same_Some}
use Rattle.std.proofs.lemmas.List.Elements.{Contains-append_left, Contains-append_right, Contains-append_cases}
use Rattle.ash_host.specs.declared.word.Word.{Word}
use Rattle.ash_host.specs.Objects.{LiveObjects, handles, Lives, AreNumbered}
use Rattle.ash_typed.specs.declared.types.VarType.{VarType}
use Rattle.ash_typed.specs.TypeOf.{ValueType}
use Rattle.ash_typed.specs.SoundExpressions.{TypedEnvironment}
use Rattle.ash_meaning.specs.declared.exception.Exception.{Exception}
use Rattle.ash_meaning.specs.Activity.{World, Frame, Activity, in_frame}
use Rattle.ash_meaning.specs.Runs.{Progress, Run, onward, demand, found}
use Rattle.ash_meaning.specs.Releases.{holding, give_held}
use Rattle.ash_meaning.specs.Classes.{Program}
use Rattle.ash_soundness.specs.WellFormed.{Context, Shape, shape_at, IsGiven, Follows, IsWorld, IsFrame, IsWellFormed, IsSafe}
use Rattle.ash_soundness.specs.WellFormedLaws.{Passes, Goes, IsCarried, AreCarried, Offers, Leaves, done, ended, no_step, Evaluates}
use Rattle.ash_soundness.proofs.Values.{handle_first, handle_cases, none_in, shape_lives, lives_shape, Stays, given_stays, values_stay, given_lives}

-- what follows

pub follows_itself : (w : World) → Follows w w
follows_itself w = record { last = omega arith; shapes = λ n shape le e. e; outside = refl }

pub follows_more : {u v w : World} → Follows u v → Follows v w → Follows u w
follows_more {u} {v} {w} f g = record {
  last = let one : u.last ≤ v.last = f.last in let more : v.last ≤ w.last = g.last in omega arith;
  shapes = λ n shape le e. let one : u.last ≤ v.last = f.last in f.shapes n shape le (g.shapes n shape (omega arith) e);
  outside = g.outside ∙ f.outside;
}

pub word_lives : {p : Program} {all : LiveObjects (List ℕ)} {of : ValueType} {w : Word} → IsGiven p all of w → (n : ℕ) → Contains (handles (w ∷ [])) n → Lives all n
word_lives {w = w} g n i =
    elim (handle_cases w [] n i) [
      | inl here ↦ given_lives n g here
      | inr none ↦ absurd (none_in n none)
    ]

-- what lived and lives is what it was
pub numbered_stays : {u v : World} → AreNumbered u.last u.objects → Follows u v → (n : ℕ) → Lives v.objects n → Stays u.objects v.objects n
numbered_stays {u} {v} numbered f n lives = record { stays = λ shape e. stay shape e }
  where
    stay : (shape : Shape) → shape_at n u.objects ≡ Some shape → shape_at n v.objects ≡ Some shape
    stay shape e =
        let there = lives_shape n v.objects lives in
        let given : n ≤ u.last = (numbered.given n (shape_lives n u.objects shape e)).1 in
        let was = f.shapes n there.0 given there.1 in
        let same : there.0 ≡ shape = same_Some there.0 shape (sym was ∙ e) in
        there.1 ∙ ap Some same

module _ {c : Context} where
  -- runs one after the other

  pub bind : {A B : Type 0} {Q : A → Activity → Type 0} {R : B → Activity → Type 0} {r : Progress A} {f : A → Run B} → Leaves c Q r → ((v : A) (b : Activity) → Q v b → Leaves c R (f v b)) → Leaves c R (onward r f)
  bind (done {v} {b} l) next = next v b l
  bind (ended s) next = ended s
  bind (no_step offers) next = no_step offers

  pub weaken : {A : Type 0} {Q R : A → Activity → Type 0} {r : Progress A} → ((v : A) (b : Activity) → Q v b → R v b) → Leaves c Q r → Leaves c R r
  weaken more (done {v} {b} l) = done (more v b l)
  weaken more (ended s) = ended s
  weaken more (no_step offers) = no_step offers

  pub after_demand : {B : Type 0} {R : B → Activity → Type 0} (f : Unit {0} → Run B) (b : Bool) (x : Exception) (a : Activity) → IsSafe c a → (b ≡ true → Leaves c R (f tt a)) → Leaves c R (onward (demand b x a) f)
  after_demand f true x a s next = next refl
  after_demand f false x a s next = ended s

  -- what is there
  pub after_found : {A B : Type 0} {R : B → Activity → Type 0} (f : A → Run B) (o : Option A) (a : Activity) → IsSome o → ((v : A) → o ≡ Some v → Leaves c R (f v a)) → Leaves c R (onward (found o a) f)
  after_found f (Some v) a there next = next v refl
  after_found f None a there next = absurd (cc)

  -- what is missing only where the host offers something
  pub after_offered : {A B : Type 0} {R : B → Activity → Type 0} (f : A → Run B) (o : Option A) (a : Activity) → Offers c.host → ((v : A) → o ≡ Some v → Leaves c R (f v a)) → Leaves c R (onward (found o a) f)
  after_offered f (Some v) a offers next = next v refl
  after_offered f None a offers next = no_step offers

  pub chosen : {A : Type 0} {R : A → Activity → Type 0} (r s : Run A) (b : Bool) (a : Activity) → (b ≡ true → Leaves c R (r a)) → (b ≡ false → Leaves c R (s a)) → Leaves c R ((if b then r else s) a)
  chosen r s true a one other = one refl
  chosen r s false a one other = other refl

  pub safe : {env : TypedEnvironment} {envs : List TypedEnvironment} {a : Activity} → IsWellFormed c env envs a → IsSafe c a
  safe {env} {envs} h = record { env = env; envs = envs; well = h }

  pub lives_stays : {u v : World} → IsWorld c u → Follows u v → (n : ℕ) → Lives v.objects n → Stays u.objects v.objects n
  lives_stays h f n lives = numbered_stays h.numbered f n lives

  -- frames that go on

  pub passes_itself : {env : TypedEnvironment} {envs : List TypedEnvironment} {a : Activity} → IsWellFormed c env envs a → Passes c env envs a a
  passes_itself {a = a} h = record { well = h; follows = follows_itself a.world; this = refl; callers = refl }

  pub goes_itself : {env : TypedEnvironment} {envs : List TypedEnvironment} {a : Activity} → IsWellFormed c env envs a → Goes c env envs a a
  goes_itself h = record { passes = passes_itself h; held = λ n i. i }

  pub passes_more : {env other : TypedEnvironment} {envs : List TypedEnvironment} {a b d : Activity} → Passes c env envs a b → Passes c other envs b d → Passes c other envs a d
  passes_more p q = record { well = q.well; follows = follows_more p.follows q.follows; this = q.this ∙ p.this; callers = q.callers ∙ p.callers }

  pub goes_more : {env other : TypedEnvironment} {envs : List TypedEnvironment} {a b d : Activity} → Goes c env envs a b → Goes c other envs b d → Goes c other envs a d
  goes_more p q = record { passes = passes_more p.passes q.passes; held = λ n i. q.held n (p.held n i) }

  module _ {env other : TypedEnvironment} {envs : List TypedEnvironment} {a b : Activity} (h : IsWellFormed c env envs a) (g : Goes c other envs a b) where
    -- what is held stays
    pub held_stays : (n : ℕ) → Contains (a.frame).held n → Stays (a.world).objects (b.world).objects n
    held_stays n i = lives_stays h.world (g.passes).follows n ((((g.passes).well).frame).held.each n (g.held n i))

    pub carry : {of : ValueType} {w : Word} → IsCarried c of a w → IsCarried c of b w
    carry k = record {
      value = given_stays (λ n e. held_stays n (k.held n e)) k.value;
      held = λ n e. g.held n (k.held n e);
    }

  pub carry_all : {env other : TypedEnvironment} {envs : List TypedEnvironment} {a b : Activity} {types : List VarType} {ws : List Word} → IsWellFormed c env envs a → Goes c other envs a b → AreCarried c types a ws → AreCarried c types b ws
  carry_all h g k = record {
    values = values_stay (λ n i. held_stays h g n (k.held n i)) k.values;
    held = λ n i. g.held n (k.held n i);
  }

  -- steps that change what frames hold

  pub holds_more : {all : LiveObjects (List ℕ)} {env : TypedEnvironment} {f : Frame} (ns : List ℕ) → ((n : ℕ) → Contains ns n → Lives all n) → IsFrame c all env f → IsFrame c all env (holding ns f)
  holds_more {f = f} ns live h = record {
    this = h.this;
    locals = h.locals;
    held = record { each = λ n i. elim (Contains-append_cases ns f.held n i) [ inl new ↦ live n new | inr old ↦ (h.held).each n old ] };
  }

  pub hold_goes : {env : TypedEnvironment} {envs : List TypedEnvironment} {a : Activity} (ns : List ℕ) → ((n : ℕ) → Contains ns n → Lives (a.world).objects n) → IsWellFormed c env envs a → Goes c env envs a (in_frame (holding ns) a)
  hold_goes {a = a} ns live h = record {
    passes = record {
      well = record { world = h.world; since = h.since; frame = holds_more ns live h.frame; callers = h.callers; few = h.few };
      follows = follows_itself a.world;
      this = refl;
      callers = refl;
    };
    held = λ n i. Contains-append_right ns (a.frame).held n i;
  }

  -- a value that is held from now on
  pub word_held : {env : TypedEnvironment} {envs : List TypedEnvironment} {a : Activity} {of : ValueType} (w : Word) → IsWellFormed c env envs a → IsGiven c.program (a.world).objects of w → Evaluates c env envs of a w (in_frame (holding (handles (w ∷ []))) a)
  word_held {a = a} w h g = record {
    goes = hold_goes (handles (w ∷ [])) (word_lives g) h;
    carried = record {
      value = g;
      held = λ n e. Contains-append_left (handles (w ∷ [])) (a.frame).held n (handle_first w [] n e);
    };
  }

  pub given_held : {env : TypedEnvironment} {envs : List TypedEnvironment} {a : Activity} {of : ValueType} (w : Word) → IsWellFormed c env envs a → IsGiven c.program (a.world).objects of w → Leaves c (Evaluates c env envs of a) (give_held w a)
  given_held w h g = done (word_held w h g)
