-- Runs that leave uncalled services as they are, and how they are put together.
use Rattle.std.proofs.Common.{◌≡◌, ◌++◌, ℕ, zero, suc, List, [], Bool, true, false, Option, Some, None, if◌then◌else◌, refl, sym, ap, ◌∙◌, append_assoc, append-nil}
use Rattle.std.specs.Prelude.{slice_get}
use Rattle.std.proofs.lemmas.List.Elements.{Contains-append_left, Contains-append_right}
use Rattle.ash_host.specs.declared.event.Event.{Event}
use Rattle.ash_meaning.specs.declared.exception.Exception.{Exception}
use Rattle.ash_meaning.specs.Activity.{World, Activity, in_frame}
use Rattle.ash_meaning.specs.Runs.{Progress, Done, Ended, NoStep, Run, give, onward, ◌>>=◌, ◌>>◌, look, change, raise, demand, no_step, found, out_of_ticks}
use Rattle.ash_meaning.specs.Frames.{at_line, spend, tick}
use Rattle.ash_change_laws.specs.UncalledServices.{KeepsUncalled}

-- worlds

pub keeps_itself : (w : World) → KeepsUncalled w w
keeps_itself w = record { more = []; events = sym (append-nil w.events); services = λ place quiet. refl }

-- nothing happened, and the services are the same
pub keeps_same : (a b : World) → b.events ≡ a.events → b.services ≡ a.services → KeepsUncalled a b
keeps_same a b events services = record {
  more = [];
  events = events ∙ sym (append-nil a.events);
  services = λ place quiet. ap (λ (l : List (List ℕ)). slice_get l place) services;
}

-- something happened, and the services are the same
pub keeps_more : (a b : World) (more : List Event) → b.events ≡ a.events ++ more → b.services ≡ a.services → KeepsUncalled a b
keeps_more a b more events services = record {
  more = more;
  events = events;
  services = λ place quiet. ap (λ (l : List (List ℕ)). slice_get l place) services;
}

pub keeps_then : (a b d : World) → KeepsUncalled a b → KeepsUncalled b d → KeepsUncalled a d
keeps_then a b d one two = record {
  more = one.more ++ two.more;
  events = two.events ∙ ap (λ (l : List Event). l ++ two.more) one.events ∙ append_assoc a.events one.more two.more;
  services = λ place quiet.
      two.services place (λ is. quiet (is.0, Contains-append_right one.more two.more _ is.1))
      ∙ one.services place (λ is. quiet (is.0, Contains-append_left one.more two.more _ is.1));
}

-- runs

-- where a run came
abbrev pub KeepsFrom : {A : Type 0} → Activity → Progress A → Type 0
KeepsFrom first (Done value last) = KeepsUncalled first.world last.world
KeepsFrom first (Ended interrupt last) = KeepsUncalled first.world last.world
KeepsFrom first NoStep = Unit {0}

pub record Keeps {A : Type 0} (r : Run A) : Type 0 where
  pub from : (a : Activity) → KeepsFrom a (r a)

further : {A : Type 0} (a b : Activity) → KeepsUncalled a.world b.world → (q : Progress A) → KeepsFrom b q → KeepsFrom a q
further a b s (Done w d) t = keeps_then a.world b.world d.world s t
further a b s (Ended i d) t = keeps_then a.world b.world d.world s t
further a b s NoStep t = tt

on : {A B : Type 0} (f : A → Run B) (a : Activity) → ((v : A) → Keeps (f v)) → (p : Progress A) → KeepsFrom a p → KeepsFrom a (onward p f)
on f a h (Done v b) s = further a b s (f v b) ((h v).from b)
on f a h (Ended i b) s = s
on f a h NoStep s = tt

pub bound : {A B : Type 0} {r : Run A} {f : A → Run B} → Keeps r → ((v : A) → Keeps (f v)) → Keeps (r >>= f)
bound {r = r} {f = f} hr h = record { from = λ a. on f a h (r a) (hr.from a) }

pub followed : {A B : Type 0} {r : Run A} {q : Run B} → Keeps r → Keeps q → Keeps (r >> q)
followed {q = q} hr h = bound {f = λ _. q} hr (λ _. h)

pub given : {A : Type 0} (v : A) → Keeps (give v)
given v = record { from = λ a. keeps_itself a.world }

pub looked : {A : Type 0} (what : Activity → A) → Keeps (look what)
looked what = record { from = λ a. keeps_itself a.world }

-- what is changed are neither events nor services
pub changed : (how : Activity → Activity) → ((a : Activity) → ((how a).world.events ≡ a.world.events) × ((how a).world.services ≡ a.world.services)) → Keeps (change how)
changed how same = record { from = λ a. keeps_same a.world (how a).world (same a).0 (same a).1 }

pub raised : {A : Type 0} (x : Exception) → Keeps (raise {A = A} x)
raised x = record { from = λ a. keeps_itself a.world }

pub nowhere : {A : Type 0} → Keeps (no_step {A = A})
nowhere = record { from = λ a. tt }

pub stopped : {A : Type 0} → Keeps (out_of_ticks {A = A})
stopped = record { from = λ a. keeps_itself a.world }

pub chosen_by : {A : Type 0} {r q : Run A} (b : Bool) → Keeps r → Keeps q → Keeps (if b then r else q)
chosen_by true h k = h
chosen_by false h k = k

pub demanded : (b : Bool) (x : Exception) → Keeps (demand b x)
demanded true x = given tt
demanded false x = raised x

pub found_there : {A : Type 0} (o : Option A) → Keeps (found o)
found_there (Some v) = given v
found_there None = nowhere

-- ticks

spent : (ticks : ℕ) → Keeps (spend ticks)
spent zero = stopped
spent (suc ticks) = changed _ (λ a. (refl, refl))

pub a_tick : (line : ℕ) → Keeps (tick line)
a_tick line = bound (followed (changed (in_frame (at_line line)) (λ a. (refl, refl))) (looked (λ a. a.ticks))) spent
