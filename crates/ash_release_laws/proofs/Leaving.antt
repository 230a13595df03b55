-- Objects live while they can be reached at release points, and leave at the first at which they can't.
use Rattle.std.proofs.Common.{◌≡◌, ◌≤◌, ◌⊎◌, ◌+◌, ◌∙◌, ℕ, Bool, true, false, cond, List, [], ◌∷◌, inl, inr, refl, sym, ap, subst, nat_eq, Option, Some, None, arith}
use Rattle.std.specs.Prelude.{Contains, IsSome, ◌&&◌, filter}
use Rattle.std.specs.Option.{is_none}
use Rattle.std.specs.Map.{keys_of}
use Rattle.std.proofs.lemmas.Bool.{eqb-true}
use Rattle.std.proofs.lemmas.Option.{same_Some}
use Rattle.ash_host.specs.declared.word.Word.{Word}
use Rattle.ash_host.specs.declared.event.Target.{Target}
use Rattle.ash_host.specs.declared.event.Target.TheVariants as targets
use Rattle.ash_host.specs.Objects.{Plain, Host, LiveObjects, object_at, with_at, is_host, Lives}
use Rattle.ash_host.specs.Reach.{hosts_gone}
use Rattle.ash_meaning.specs.Activity.{World, Frame, Activity}
use Rattle.ash_meaning.specs.Releases.{sweep}
use Rattle.ash_meaning.specs.Frames.{back_in}
use Rattle.ash_meaning.specs.Runs.{Raising, OutOfTicks, Progress, Done, Ended, NoStep, Run}
use Rattle.ash_meaning.specs.StatementMeaning.{Flow, On, Broke, Continued, Returned}
use Rattle.ash_meaning.specs.Functions.{body}
use Rattle.ash_meaning.specs.Classes.{Program}
use Rattle.ash_meaning.specs.HostSteps.{with_state_in, with_state}
use Rattle.ash_meaning.specs.ObjectSteps.{change_at, with_words}
use Rattle.ash_meaning.specs.MeaningLaws.{ComesBy, IsReleased}
use Rattle.ash_meaning.specs.Traces.{WorldTransition, WritesGlobal, WritesWords, Makes, Draws, TakesAnswer, Notes, Transition, TakesTick, InFrame, Enters, Leaves, InWorld, Releases, Trace, Here, Then, after_release}
use Rattle.ash_meaning.proofs.Released.{swept_by}
use Rattle.ash_meaning.proofs.Numbers.{along}
use Rattle.ash_meaning.proofs.Walks.{Walk, at_most}
use Rattle.ash_meaning.proofs.StepWalks.{to_full as walk_full}
use Rattle.ash_meaning.proofs.PhraseWalks.{walk_expression, walk_statement, walk_call, walk_construct}
use Rattle.ash_meaning.proofs.Depth.{walk_called}
use Rattle.ash_soundness.proofs.Values.{first_in, later_in}
use Rattle.ash_release_laws.specs.Settling.{AtEachEnd, Reaches, IsNumbered, IsSettled, IsSettledBy, Settles, SettlesIfItGoesOn}
use Rattle.ash_release_laws.specs.Leaving.{IsReachedAt, IsReachedThroughout, LivesWhileReached, LeavesAtTheFirst, LeaveAlong, LeaveFromAnywhere, LeaveNoEarlier, LeaveOnTime, LetsGoOnTime, LeaveByFlow, LetsGoByFlow, ObjectsLeaveOnTime}
use Rattle.ash_release_laws.proofs.Roots.{changed_lived, changed_lives, made_lived, made_lives}
use Rattle.ash_release_laws.proofs.Settling.{left_reached, reached_stays}
use Rattle.ash_release_laws.proofs.Still.{none_there}
use Rattle.ash_release_laws.proofs.Settled.{settles, goes_on_settled}
use Rattle.ash_release_laws.proofs.PhraseSettling.{to_call, to_construct, to_full_expression, to_statement, to_body}

-- a transition that is no release point

-- what lived lives, and what lives by a number that was given lived
record Same (n : ℕ) (a b : World) : Type 0 where
  pub lives : Lives a.objects n → Lives b.objects n
  pub lived : n ≤ a.last → Lives b.objects n → Lives a.objects n

same_world : (n : ℕ) (a b : World) → b.objects ≡ a.objects → Same n a b
same_world n a b e = record {
  lives = λ l. subst (λ (all : LiveObjects (List ℕ)). Lives all n) (sym e) l;
  lived = λ le l. subst (λ (all : LiveObjects (List ℕ)). Lives all n) e l;
}

same_changed : (n : ℕ) (a b : World) (number : ℕ) (how : Plain (List ℕ) → Plain (List ℕ)) → b.objects ≡ change_at number how a.objects → Same n a b
same_changed n a b number how e = record {
  lives = λ l. subst (λ (all : LiveObjects (List ℕ)). Lives all n) (sym e) (changed_lives number how a.objects n l);
  lived = λ le l. changed_lived number how a.objects n (subst (λ (all : LiveObjects (List ℕ)). Lives all n) e l);
}

same_made : (n : ℕ) (a b : World) (object : Plain (List ℕ)) → b.objects ≡ with_at (a.last + 1) object a.objects → Same n a b
same_made n a b object e = record {
  lives = λ l. subst (λ (all : LiveObjects (List ℕ)). Lives all n) (sym e) (made_lives a.last object a.objects n l);
  lived = λ le l. was le (made_lived a.last object a.objects n (subst (λ (all : LiveObjects (List ℕ)). Lives all n) e l));
}
  where
    was : n ≤ a.last → (n ≡ a.last + 1) ⊎ Lives a.objects n → Lives a.objects n
    was le (inl new) = absurd (omega (arith, le, new))
    was le (inr l) = l

objects_same : {a b : World} → a ≡ b → a.objects ≡ b.objects
objects_same e = ap (λ (w : World). w.objects) e

same_answer : (n : ℕ) (a b : World) (target : Target) (state : List ℕ) → b.objects ≡ (with_state target state a).objects → Same n a b
same_answer n a b (targets.Object number) state e = same_changed n a b number (with_state_in state) e
same_answer n a b (targets.Service index) state e = same_world n a b e

world_same : (n : ℕ) (a b : World) → WorldTransition a b → Same n a b
world_same n a b (WritesGlobal place word e) = same_world n a b (objects_same e)
world_same n a b (WritesWords number ws e) = same_changed n a b number (with_words ws) (objects_same e)
world_same n a b (Makes object none e) = same_made n a b object (objects_same e)
world_same n a b (Draws kind place box f g e) = same_made n a b (Host box.kind box.state) (objects_same e)
world_same n a b (TakesAnswer target call next left f e) =
    let s = same_answer n (record a { answers = left }) b target next.after (objects_same e) in
    record { lives = s.lives; lived = s.lived }
world_same n a b (Notes target id e) = same_world n a b (objects_same e)

back_objects : (callers : List Frame) (result : Word) (a : Activity) → ((back_in callers result a).world).objects ≡ (a.world).objects
back_objects [] result a = refl
back_objects (caller ∷ callers) result a = refl

in_objects : {a b : Activity} → a ≡ b → (a.world).objects ≡ (b.world).objects
in_objects e = ap (λ (x : Activity). (x.world).objects) e

-- any transition: what lives after it lived and, at a release point, could be reached; and what lived and could be
-- reached lives

record Step (n : ℕ) {a b : Activity} (x : Transition a b) : Type 0 where
  pub lives : Lives (a.world).objects n → IsReachedAt n x → Lives (b.world).objects n
  pub lived : n ≤ (a.world).last → Lives (b.world).objects n → Lives (a.world).objects n × IsReachedAt n x

quiet_step : (n : ℕ) {a b : Activity} (x : Transition a b) → (IsReachedAt n x) → Same n a.world b.world → Step n x
quiet_step n x reached s = record { lives = λ l r. s.lives l; lived = λ le l. (s.lived le l, reached) }

swept_lives : (n : ℕ) (a : Activity) → Lives (a.world).objects n → Reaches a n → Lives ((after_release a).world).objects n
swept_lives n a l r = subst IsSome (sym (reached_stays (a.frame ∷ a.callers) a.world n r)) l

swept_lived : (n : ℕ) (a : Activity) → Lives ((after_release a).world).objects n → Lives (a.world).objects n × Reaches a n
unfolding sweep
swept_lived n a l =
    let r : Reaches a n = left_reached (a.frame ∷ a.callers) a.world n l in
    (subst IsSome (reached_stays (a.frame ∷ a.callers) a.world n r) l, r)

step : (n : ℕ) (a b : Activity) (x : Transition a b) → Step n x
step n a b (TakesTick left e f) = quiet_step n (TakesTick left e f) tt (same_world n a.world b.world (in_objects f))
step n a b (InFrame line locals held f) = quiet_step n (InFrame line locals held f) tt (same_world n a.world b.world (in_objects f))
step n a b (Enters frame f) = quiet_step n (Enters frame f) tt (same_world n a.world b.world (in_objects f))
step n a b (Leaves result f) = quiet_step n (Leaves result f) tt (same_world n a.world b.world (in_objects f ∙ back_objects a.callers result a))
step n a b (InWorld world x f) =
    let s = world_same n a.world world x in
    let e : (b.world).objects ≡ world.objects = in_objects f in
    quiet_step n (InWorld world x f) tt (record {
      lives = λ l. subst (λ (all : LiveObjects (List ℕ)). Lives all n) (sym e) (s.lives l);
      lived = λ le l. s.lived le (subst (λ (all : LiveObjects (List ℕ)). Lives all n) e l);
    })
step n a b (Releases f) = record {
  lives = λ l r. subst (λ (x : Activity). Lives (x.world).objects n) (sym f) (swept_lives n a l r);
  lived = λ le l. swept_lived n a (subst (λ (x : Activity). Lives (x.world).objects n) f l);
}

-- along a trace

pub given : (n : ℕ) (first : Activity) → IsNumbered first → Lives (first.world).objects n → n ≤ (first.world).last
given n first numbered l = (numbered.given n l).1

module _ (n : ℕ) {first : Activity} (numbered : IsNumbered first) where
  -- what lives at last, by a number that was given at first, could be reached at each release point
  pub was_reached : {last : Activity} (t : Trace first last) → n ≤ (first.world).last → Lives (last.world).objects n → IsReachedThroughout n t × Lives (first.world).objects n
  was_reached Here le l = (tt, l)
  was_reached {last} (Then {middle} t x) le l =
      let rises : (first.world).last ≤ (middle.world).last = ((along t numbered).lives).rises in
      let back = (step n middle last x).lived (omega (arith, le, rises)) l in
      let before = was_reached t le back.0 in
      ((before.0, back.1), before.1)

  pub lives_on : {last : Activity} (t : Trace first last) → Lives (first.world).objects n → IsReachedThroughout n t → Lives (last.world).objects n
  lives_on Here l r = l
  lives_on {last} (Then {middle} t x) l r = (step n middle last x).lives (lives_on t l r.0) r.1

pub live_while_reached : (first last : Activity) (t : Trace first last) → IsNumbered first → LivesWhileReached t
live_while_reached first last t numbered n l = (λ after. (was_reached n numbered t (given n first numbered l) after).0, λ r. lives_on n numbered t l r)

-- where an object leaves

-- a host object that goes is among those that are gone
gone_in : (n : ℕ) (new old : LiveObjects (List ℕ)) (kind : ℕ) (state : List ℕ) → object_at n old ≡ Some (Host kind state) → object_at n new ≡ None → Contains (hosts_gone old new) n
gone_in n new [] kind state at none = absurd (cc)
gone_in n new (e ∷ old) kind state at none =
    go (nat_eq n e.0) refl (is_host e.1 && is_none (object_at e.0 new)) refl (λ there. gone_in n new old kind state there none) at
  where
    rest : List ℕ
    rest = hosts_gone old new

    more : (b : Bool) → is_host e.1 && is_none (object_at e.0 new) ≡ b → Contains (hosts_gone old new) n → Contains (hosts_gone (e ∷ old) new) n
    more b is c = subst (λ (d : Bool). Contains (keys_of (cond d (e ∷ filter (λ f. is_host f.1 && is_none (object_at f.0 new)) old) (filter (λ f. is_host f.1 && is_none (object_at f.0 new)) old))) n) (sym is) (by b c)
      where
        by : (b : Bool) → Contains (hosts_gone old new) n → Contains (keys_of (cond b (e ∷ filter (λ f. is_host f.1 && is_none (object_at f.0 new)) old) (filter (λ f. is_host f.1 && is_none (object_at f.0 new)) old))) n
        by true c = later_in e.0 n (hosts_gone old new) c
        by false c = c

    here : n ≡ e.0 → Some e.1 ≡ Some (Host kind state) → Contains (hosts_gone (e ∷ old) new) n
    here same is =
        let host : is_host e.1 ≡ true = ap is_host (same_Some e.1 (Host kind state) is) in
        let gone : object_at e.0 new ≡ None = ap (λ (k : ℕ). object_at k new) (sym same) ∙ none in
        let both : is_host e.1 && is_none (object_at e.0 new) ≡ true = ap (λ (b : Bool). b && is_none (object_at e.0 new)) host ∙ ap is_none gone in
        subst (λ (d : Bool). Contains (keys_of (cond d (e ∷ filter (λ f. is_host f.1 && is_none (object_at f.0 new)) old) (filter (λ f. is_host f.1 && is_none (object_at f.0 new)) old))) n) (sym both)
        (subst (λ (k : ℕ). Contains (k ∷ hosts_gone old new) n) same (first_in n (hosts_gone old new)))

    go : (b : Bool) → nat_eq n e.0 ≡ b → (d : Bool) → is_host e.1 && is_none (object_at e.0 new) ≡ d → (object_at n old ≡ Some (Host kind state) → Contains (hosts_gone old new) n) → cond b (Some e.1) (object_at n old) ≡ Some (Host kind state) → Contains (hosts_gone (e ∷ old) new) n
    go true is d test next at = here (eqb-true n e.0 is) at
    go false is d test next at = more d test (next at)

-- a release point says which host objects left
pub said : (n : ℕ) (old new : World) → ¬ Lives new.objects n → (kind : ℕ) (state : List ℕ) → object_at n old.objects ≡ Some (Host kind state) → Contains (hosts_gone old.objects new.objects) n
said n old new left kind state at = gone_in n new.objects old.objects kind state at (none_there (object_at n new.objects) left)

released_at : (a b : Activity) → IsNumbered a → b ≡ after_release a → IsReleased (a.frame ∷ a.callers) a.world b.world
released_at a b numbered f = subst (λ (x : Activity). IsReleased (a.frame ∷ a.callers) a.world x.world) (sym f) (swept_by (a.frame ∷ a.callers) a.world numbered.in_order)

module _ (n : ℕ) {first : Activity} (numbered : IsNumbered first) (lives : Lives (first.world).objects n) where
  later : {middle last : Activity} (t : Trace first middle) (x : Transition middle last) → LeavesAtTheFirst n t → LeavesAtTheFirst n (Then t x)
  later {middle} {last} t x w = record {
    point = w.point;
    next = w.next;
    step = w.step;
    before = w.before;
    after = Then w.after x;
    whole = ap (λ (u : Trace first middle). Then u x) w.whole;
    reached = w.reached;
    there = w.there;
    unreached = w.unreached;
    left = w.left;
    released = w.released;
    dropped = w.dropped;
  }

  stays_or : {middle last : Activity} → Trace first middle → (x : Transition middle last) → Lives (middle.world).objects n → ¬ Lives (last.world).objects n → ¬ IsReachedAt n x
  stays_or {middle} {last} t x there gone r = gone ((step n middle last x).lives there r)

  here : {middle last : Activity} (t : Trace first middle) (x : Transition middle last) → Lives (middle.world).objects n → ¬ Lives (last.world).objects n → LeavesAtTheFirst n (Then t x)
  here t (TakesTick left e f) there gone = absurd (stays_or t (TakesTick left e f) there gone tt)
  here t (InFrame line locals held f) there gone = absurd (stays_or t (InFrame line locals held f) there gone tt)
  here t (Enters frame f) there gone = absurd (stays_or t (Enters frame f) there gone tt)
  here t (Leaves result f) there gone = absurd (stays_or t (Leaves result f) there gone tt)
  here t (InWorld world x f) there gone = absurd (stays_or t (InWorld world x f) there gone tt)
  here {middle} {last} t (Releases f) there gone = record {
    point = middle;
    next = last;
    step = f;
    before = t;
    after = Here;
    whole = refl;
    reached = (was_reached n numbered t (given n first numbered lives) there).0;
    there = there;
    unreached = stays_or t (Releases f) there gone;
    left = gone;
    released = released_at middle last ((along t numbered).lives).numbered f;
    dropped = said n middle.world last.world gone;
  }

  pub leaves : {last : Activity} (t : Trace first last) → ¬ Lives (last.world).objects n → LeavesAtTheFirst n t
  leaves Here gone = absurd (gone lives)
  leaves {last} (Then {middle} t x) gone = go (object_at n (middle.world).objects) refl (λ before. leaves t before)
    where
      go : (o : Option (Plain (List ℕ))) → object_at n (middle.world).objects ≡ o → (¬ Lives (middle.world).objects n → LeavesAtTheFirst n t) → LeavesAtTheFirst n (Then t x)
      go None e before = later t x (before (λ l. let none = subst IsSome e l in cc))
      go (Some object) e before = here t x (subst IsSome (sym e) refl) gone

-- phrases

pub leave_along : (first last : Activity) (t : Trace first last) → IsNumbered first → LeaveAlong t
leave_along first last t numbered = record { lives = live_while_reached first last t numbered; left = λ n lives gone. leaves n numbered lives t gone }

pub leave_from_anywhere : (first last : Activity) → IsNumbered first → LeaveFromAnywhere first last
leave_from_anywhere first last numbered middle before after = leave_along middle last after ((along before numbered).lives).numbered

leave_no_earlier : (first last : Activity) → IsNumbered first → Trace first last → LeaveNoEarlier first last
leave_no_earlier first last numbered t = record { trace = t; from_anywhere = leave_from_anywhere first last numbered }

pub leave_at_the_first : (first last : Activity) → IsNumbered first → Trace first last → IsSettled last → LeaveOnTime first last
leave_at_the_first first last numbered t s = record { no_earlier = leave_no_earlier first last numbered t; none_late = s }

module _ (a : Activity) (numbered : IsNumbered a) where
  lets_go : {A : Type 0} (r : Progress A) → ComesBy a r → AtEachEnd (λ (v : A) b. IsSettled b) IsSettled r → AtEachEnd (λ (v : A) b. LeaveOnTime a b) (LeaveOnTime a) r
  lets_go (Done v b) t s = leave_at_the_first a b numbered t s
  lets_go (Ended (Raising x) b) t s = leave_at_the_first a b numbered t s
  lets_go (Ended OutOfTicks b) t s = leave_at_the_first a b numbered t.0 s
  lets_go NoStep t s = tt

  flow_goes : (flow : Flow) (b : Activity) → Trace a b → IsSettledBy flow b → LeaveByFlow a flow b
  flow_goes On b t s = leave_at_the_first a b numbered t s
  flow_goes Broke b t s = leave_no_earlier a b numbered t
  flow_goes Continued b t s = leave_no_earlier a b numbered t
  flow_goes (Returned value) b t s = leave_no_earlier a b numbered t

  lets_go_on : (r : Progress Flow) → ComesBy a r → AtEachEnd IsSettledBy IsSettled r → AtEachEnd (LeaveByFlow a) (LeaveOnTime a) r
  lets_go_on (Done flow b) t s = flow_goes flow b t s
  lets_go_on (Ended (Raising x) b) t s = leave_at_the_first a b numbered t s
  lets_go_on (Ended OutOfTicks b) t s = leave_at_the_first a b numbered t.0 s
  lets_go_on NoStep t s = tt

letting : {A : Type 0} {d : ℕ} {r : Run A} → Walk d r r → Settles A r → LetsGoOnTime d A r
letting {r = r} w s a le numbered settled = lets_go a numbered (r a) (w.comes a le) (s a numbered settled)

letting_on : {d : ℕ} {r : Run Flow} → Walk d r r → SettlesIfItGoesOn r → LetsGoByFlow d r
letting_on {r = r} w s a le numbered settled = lets_go_on a numbered (r a) (w.comes a le) (s a numbered settled)

pub objects_leave_on_time : (p : Program) (d : ℕ) → ObjectsLeaveOnTime p d
objects_leave_on_time p d = record {
  full_expressions = λ e. letting (walk_full (walk_expression p (body p d) (body p d) (walk_called p d) e)) (settles (to_full_expression p (body p d) (to_body p d) e));
  statements = λ s. letting_on (walk_statement p (body p d) (body p d) (walk_called p d) d d (at_most d) (at_most d) s) (goes_on_settled (to_statement p (body p d) (to_body p d) d s));
  calls = λ callee this args. letting (walk_call p (body p d) (body p d) (walk_called p d) callee this args) (settles (to_call p (body p d) (to_body p d) callee this args));
  constructions = λ class args. letting (walk_construct p (body p d) (body p d) (walk_called p d) class args) (settles (to_construct p (body p d) (to_body p d) class args));
}
