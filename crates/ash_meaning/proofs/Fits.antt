-- Along a trace the states of hosts stay no longer than they may be.
use Rattle.std.proofs.Common.{◌≡◌, ◌∙◌, ℕ, zero, suc, Bool, true, false, cond, nat_eq, List, [], ◌∷◌, remove, slice_get, slice_set, Option, Some, None, refl, sym, subst, ap}
use Rattle.std.specs.List.{AllByRecursion}
use Rattle.std.specs.Option.{option_map_or, option_and_then}
use Rattle.ash_host.specs.declared.word.Word.{Word}
use Rattle.ash_host.specs.declared.event.Target.{Target}
use Rattle.ash_host.specs.declared.event.Target.TheVariants as targets
use Rattle.ash_host.specs.declared.host_object.HostObject.{Ghosts}
use Rattle.ash_host.specs.Calls.{HostCall}
use Rattle.ash_host.specs.Objects.{Plain, Script, Array, Host, LiveObjects, object_at, with_at, is_host, AreNumbered}
use Rattle.ash_host.specs.Records.{HostRecord, next_record}
use Rattle.ash_host.proofs.Order.{object_at-with_at}
use Rattle.ash_host.proofs.RecordLaws.{next_record_says}
use Rattle.ash_meaning.specs.Activity.{FreeBox, World, Frame, Activity}
use Rattle.ash_meaning.specs.Releases.{roots}
use Rattle.ash_meaning.specs.Frames.{back_in}
use Rattle.ash_meaning.specs.ObjectSteps.{change_at, with_words}
use Rattle.ash_meaning.specs.HostSteps.{with_state_in, with_state, state_of}
use Rattle.ash_meaning.specs.Traces.{WorldTransition, WritesGlobal, WritesWords, Makes, Draws, TakesAnswer, Notes, Transition, TakesTick, InFrame, Enters, Leaves, InWorld, Releases, after_release, Trace, Here, Then}
use Rattle.ash_meaning.specs.Answers.{Answerers, AreValid, StateFits, ObjectFits, HostsFit}
use Rattle.ash_meaning.specs.MeaningLaws.{IsReleased}
use Rattle.ash_meaning.proofs.Released.{swept_by}
use Rattle.ash_meaning.proofs.Numbers.{was_there, along}

abbrev P : Type 0
P = Plain (List ℕ)

-- lists of which something holds of each

module _ {X : Type 0} (Holds : X → Type 0) where
  at_get : (xs : List X) (i : ℕ) (x : X) → AllByRecursion Holds xs → slice_get xs i ≡ Some x → Holds x
  at_get [] i x all e = absurd (cc)
  at_get (y ∷ ys) zero x all e = let same : y ≡ x = cc in subst Holds same all.0
  at_get (y ∷ ys) (suc i) x all e = at_get ys i x all.1 e

  after_set : (xs : List X) (i : ℕ) (x : X) → AllByRecursion Holds xs → Holds x → AllByRecursion Holds (slice_set xs i x)
  after_set [] i x all h = all
  after_set (y ∷ ys) zero x all h = (h, all.1)
  after_set (y ∷ ys) (suc i) x all h = (all.0, after_set ys i x all.1 h)

  after_remove : (xs : List X) (i : ℕ) → AllByRecursion Holds xs → AllByRecursion Holds (remove xs i)
  after_remove [] zero all = all
  after_remove [] (suc i) all = all
  after_remove (y ∷ ys) zero all = all.1
  after_remove (y ∷ ys) (suc i) all = (all.0, after_remove ys i all.1)

-- objects

abbrev Fit : LiveObjects (List ℕ) → Type 0
Fit objects = (n : ℕ) (object : P) → object_at n objects ≡ Some object → ObjectFits object

put_fits : (number : ℕ) (new : P) (objects : LiveObjects (List ℕ)) → ObjectFits new → Fit objects → Fit (with_at number new objects)
put_fits number new objects h all n object e = go (nat_eq n number) (sym (object_at-with_at number new n objects) ∙ e)
  where
    go : (b : Bool) → cond b (Some new) (object_at n objects) ≡ Some object → ObjectFits object
    go true f = let same : new ≡ object = cc in subst ObjectFits same h
    go false f = all n object f

change_fits : (number : ℕ) (how : P → P) (objects : LiveObjects (List ℕ)) → ((object : P) → ObjectFits object → ObjectFits (how object)) → Fit objects → Fit (change_at number how objects)
change_fits number how objects h all = go (object_at number objects) refl
  where
    go : (o : Option P) → object_at number objects ≡ o → Fit (option_map_or (λ object. with_at number (how object) objects) o objects)
    go None e = all
    go (Some object) e = put_fits number (how object) objects (h object (all number object e)) all

words_fit : (ws : List Word) (object : P) → ObjectFits object → ObjectFits (with_words ws object)
words_fit ws (Script owner place fields) h = tt
words_fit ws (Array of elements) h = tt
words_fit ws (Host kind state) h = h

state_fits : (state : List ℕ) → StateFits state → (object : P) → ObjectFits object → ObjectFits (with_state_in state object)
state_fits state fits (Script owner place fields) h = tt
state_fits state fits (Array of elements) h = tt
state_fits state fits (Host kind old) h = fits

made_fits : (object : P) → is_host object ≡ false → ObjectFits object
made_fits (Script owner place fields) none = tt
made_fits (Array of elements) none = tt
made_fits (Host kind state) none = absurd (cc)

-- transitions

module _ {B : Type 0} (host : Ghosts B) (answerers : Answerers B) where
  abbrev Hosts : World → Type 0
  Hosts world = HostsFit host answerers world

  answered_fits : (world : World) (target : Target) (state : List ℕ) → StateFits state → Hosts world → Hosts (with_state target state world)
  answered_fits world (targets.Object number) state fits h = record { answers = h.answers; objects = change_fits number (with_state_in state) world.objects (state_fits state fits) h.objects; services = h.services; pool = h.pool }
  answered_fits world (targets.Service index) state fits h = record { answers = h.answers; objects = h.objects; services = after_set StateFits world.services index state h.services fits; pool = h.pool }

  first_of : (target : Target) (call : HostCall) (world : World) (next : HostRecord) (left : List HostRecord) (state : Option (List ℕ)) → option_and_then (λ before. next_record target call before world.answers) state ≡ Some (next, left) → world.answers ≡ next ∷ left
  first_of target call world next left None e = absurd (cc)
  first_of target call world next left (Some before) e = (next_record_says target call before world.answers next left e).first

  taken_fits : (world : World) (target : Target) (next : HostRecord) (left : List HostRecord) → world.answers ≡ next ∷ left → Hosts world → Hosts (with_state target next.after (record world { answers = left }))
  taken_fits world target next left e h =
      let valid : AreValid host answerers (next ∷ left) = subst (λ (records : List HostRecord). AreValid host answerers records) e h.answers in
      answered_fits (record world { answers = left }) target next.after (valid.0).after_fits
      (record { answers = valid.1; objects = h.objects; services = h.services; pool = h.pool })

  of_same : {a b : World} → b ≡ a → Hosts a → Hosts b
  of_same e h = subst (λ (w : World). Hosts w) (sym e) h

  world_fits : (a b : World) → WorldTransition a b → Hosts a → Hosts b
  world_fits a b (WritesGlobal place word e) h = of_same e (record { answers = h.answers; objects = h.objects; services = h.services; pool = h.pool })
  world_fits a b (WritesWords number ws e) h = of_same e (record { answers = h.answers; objects = change_fits number (with_words ws) a.objects (words_fit ws) h.objects; services = h.services; pool = h.pool })
  world_fits a b (Makes object none e) h = of_same e (record { answers = h.answers; objects = put_fits _ object a.objects (made_fits object none) h.objects; services = h.services; pool = h.pool })
  world_fits a b (Draws kind place box f g e) h =
      of_same e (record {
        answers = h.answers;
        objects = put_fits _ (Host box.kind box.state) a.objects (at_get (λ (x : FreeBox). StateFits x.state) a.pool place box h.pool g) h.objects;
        services = h.services;
        pool = after_remove (λ (x : FreeBox). StateFits x.state) a.pool place h.pool;
      })
  world_fits a b (TakesAnswer target call next left f e) h = of_same e (taken_fits a target next left (first_of target call a next left (state_of target a) f) h)
  world_fits a b (Notes target id e) h = of_same e (record { answers = h.answers; objects = h.objects; services = h.services; pool = h.pool })

  pub released_fits : (frames : List Frame) (a b : World) → IsReleased frames a b → Hosts a → Hosts b
  released_fits frames a b r h =
      of_same r.others (record {
        answers = h.answers;
        objects = λ n object e. h.objects n object (was_there (roots frames a) a.objects b.objects r.swept n object e);
        services = h.services;
        pool = h.pool;
      })

  back_fits : (callers : List Frame) (result : Word) (a : Activity) → Hosts a.world → Hosts (back_in callers result a).world
  back_fits [] result a h = h
  back_fits (caller ∷ callers) result a h = h

  step_fits : (a b : Activity) → Transition a b → AreNumbered (a.world).last (a.world).objects → Hosts a.world → Hosts b.world
  step_fits a b (TakesTick left e f) numbered h = of_same (ap (λ (x : Activity). x.world) f) h
  step_fits a b (InFrame line locals held f) numbered h = of_same (ap (λ (x : Activity). x.world) f) h
  step_fits a b (Enters frame f) numbered h = of_same (ap (λ (x : Activity). x.world) f) h
  step_fits a b (Leaves result f) numbered h = of_same (ap (λ (x : Activity). x.world) f) (back_fits a.callers result a h)
  step_fits a b (InWorld world x f) numbered h = of_same (ap (λ (y : Activity). y.world) f) (world_fits a.world world x h)
  step_fits a b (Releases f) numbered h =
      of_same (ap (λ (x : Activity). x.world) f)
      (released_fits (a.frame ∷ a.callers) a.world (after_release a).world (swept_by (a.frame ∷ a.callers) a.world numbered.in_order) h)

  pub fit_along : {a b : Activity} → Trace a b → AreNumbered (a.world).last (a.world).objects → Hosts a.world → Hosts b.world
  fit_along Here numbered h = h
  fit_along {b = b} (Then {middle} t x) numbered h = step_fits middle b x ((along t numbered).lives).numbered (fit_along t numbered h)

  pub host_states_fit : (first last : Activity) → Trace first last → AreNumbered (first.world).last (first.world).objects → Hosts first.world → Hosts last.world
  host_states_fit first last t numbered h = fit_along t numbered h
