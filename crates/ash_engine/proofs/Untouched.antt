-- A step leaves as many services as it finds. Where hosts give no answer it leaves them as they are, and the pool too,
-- unless the pool is shorter.
use Rattle.std.proofs.Common.{◌≡◌, ◌<◌, ◌⊎◌, ◌++◌, ℕ, zero, suc, List, [], ◌∷◌, length, map, Option, Some, None, Ok, Err, refl, sym, ap, ◌∙◌, subst, slice_set, slice_get, remove, inl, inr, arith}
use Rattle.std.specs.Option.{option_and_then}
use Rattle.std.proofs.lemmas.Option.{same_Some, slice_get_within}
use Rattle.std.proofs.lemmas.List.{append-nil}
use Rattle.std.proofs.lemmas.List.Edits.{length-remove}
use Rattle.std.proofs.lemmas.List.Elements.{filter_map-append}
use Rattle.ash_host.specs.declared.word.Word.{Word}
use Rattle.ash_host.specs.declared.event.Event.{Event}
use Rattle.ash_host.specs.declared.event.Event.TheVariants.{Called, Dropped}
use Rattle.ash_host.specs.declared.event.Target.{Target}
use Rattle.ash_host.specs.declared.event.Target.TheVariants as targets
use Rattle.ash_host.specs.Calls.{HostCall}
use Rattle.ash_host.specs.Objects.{AreNumbered}
use Rattle.ash_host.specs.Reach.{hosts_gone, drops_of_sweep}
use Rattle.ash_host.specs.Records.{HostRecord, next_record}
use Rattle.ash_meaning.specs.Activity.{FreeBox, World, Frame, Activity}
use Rattle.ash_meaning.specs.Releases.{roots, sweep}
use Rattle.ash_meaning.specs.Frames.{back_in}
use Rattle.ash_meaning.specs.HostSteps.{state_of, with_state, next_answer, after_answer}
use Rattle.ash_meaning.specs.Traces.{WorldTransition, WritesGlobal, WritesWords, Makes, Draws, TakesAnswer, Notes, Transition, TakesTick, InFrame, Enters, Leaves, InWorld, Releases, Trace, Here, Then, drawn}
use Rattle.ash_meaning.specs.Classes.{Program}
use Rattle.ash_meaning.specs.Ends.{End, Finished, Threw, Aborted, Outcome, call_function, load_module}
use Rattle.ash_meaning.specs.MeaningLaws.{IsReleased, EffectsStay, first_of_load}
use Rattle.ash_meaning.proofs.Endings.{runs_stay}
use Rattle.ash_soundness.proofs.Entries.{mapped}
use Rattle.ash_requests.specs.States.{LoadedModule, State, Hosts, Embedding, without_module, world_of}
use Rattle.ash_requests.specs.Requests.{Request, Value, ShownAs, Number, Done, Refused}
use Rattle.ash_requests.specs.StepLaws.{events_of_reply}
use Rattle.ash_requests.specs.Tasks.{Task, Initialize, Invoke, Remove, Read, Show, Count, Rewrite, TaskResult, task_of}
use Rattle.ash_requests.specs.Steps.{Step, replied, answered, after_load_with, after_load, after_call, after_discard, perform, unless_refused, Steps, performed, put_off}
use Rattle.ash_requests.specs.TaskResults.{TaskChangesState}
use Rattle.ash_engine.specs.LiveSteps.{number_drawn, drawn_in, IsNoAnswer}

-- events that draw nothing

none_drawn_after : (happened more : List Event) → drawn_in more ≡ [] → drawn_in (happened ++ more) ≡ drawn_in happened
none_drawn_after happened more none = filter_map-append number_drawn happened more ∙ ap (λ (ns : List ℕ). drawn_in happened ++ ns) none ∙ append-nil (drawn_in happened)

drops_draw_none : (ns : List ℕ) → drawn_in (map Dropped ns) ≡ []
drops_draw_none [] = refl
drops_draw_none (n ∷ ns) = drops_draw_none ns

-- what runs of a request find and leave

-- the pool as it was, and no event that tells of a box; or a shorter pool
abbrev PoolKept : World → World → Type 0
PoolKept first last = ((last.pool ≡ first.pool) × (drawn_in last.events ≡ drawn_in first.events)) ⊎ (length last.pool < length first.pool)

record Kept (first last : World) : Type 0 where
  pub served : length last.services ≡ length first.services
  pub untouched : first.answers ≡ [] → (last.answers ≡ []) × (last.services ≡ first.services) × PoolKept first last

unmoved : (w : World) → Kept w w
unmoved w = record { served = refl; untouched = λ none. (none, refl, inl (refl, refl)) }

pool_kept : (first a b : World) → b.pool ≡ a.pool → drawn_in b.events ≡ drawn_in a.events → PoolKept first a → PoolKept first b
pool_kept first a b pool events (inl (same, undrawn)) = inl (pool ∙ same, events ∙ undrawn)
pool_kept first a b pool events (inr less) = inr (subst (λ (p : List FreeBox). length p < length first.pool) (sym pool) less)

-- what hosts have stays, and no box is drawn
stays : (first a b : World) → b.answers ≡ a.answers → b.services ≡ a.services → b.pool ≡ a.pool → drawn_in b.events ≡ drawn_in a.events → Kept first a → Kept first b
stays first a b answers services pool events k = record {
  served = ap (length {A = List ℕ}) services ∙ k.served;
  untouched = λ none. let (left, same, kept) = k.untouched none in (answers ∙ left, services ∙ same, pool_kept first a b pool events kept);
}

shorter : (first a : World) (place : ℕ) (box : FreeBox) → slice_get a.pool place ≡ Some box → PoolKept first a → length (remove a.pool place) < length first.pool
shorter first a place box e (inl (same, undrawn)) = omega (arith, length-remove a.pool place (slice_get_within a.pool place box e), ap (length {A = FreeBox}) same)
shorter first a place box e (inr less) = omega (arith, length-remove a.pool place (slice_get_within a.pool place box e), less)

draws : (first a : World) (place : ℕ) (box : FreeBox) → slice_get a.pool place ≡ Some box → Kept first a → Kept first (drawn place box a)
draws first a place box e k = record {
  served = k.served;
  untouched = λ none. let (left, same, kept) = k.untouched none in (left, same, inr (shorter first a place box e kept));
}

-- where no answer is left none is taken

none_next : (target : Target) (call : HostCall) (before : Option (List ℕ)) (answers : List HostRecord) (taken : HostRecord × List HostRecord) → answers ≡ [] → option_and_then (λ (s : List ℕ). next_record target call s answers) before ≡ Some taken → ⊥
none_next target call None answers taken none e = cc
none_next target call (Some s) [] taken none e = cc
none_next target call (Some s) (r ∷ rs) taken none e = cc

length_set : (xs : List (List ℕ)) (i : ℕ) (x : List ℕ) → length (slice_set xs i x) ≡ length xs
length_set [] i x = refl
length_set (y ∷ ys) zero x = refl
length_set (y ∷ ys) (suc i) x = ap (λ (n : ℕ). suc n) (length_set ys i x)

still_served : (target : Target) (state : List ℕ) (w : World) → length (with_state target state w).services ≡ length w.services
still_served (targets.Object number) state w = refl
still_served (targets.Service index) state w = length_set w.services index state

takes : (first a : World) (target : Target) (call : HostCall) (next : HostRecord) (left : List HostRecord) → next_answer target call a ≡ Some (next, left) → Kept first a → Kept first (after_answer target next left a)
takes first a target call next left e k = record {
  served = still_served target next.after (record a { answers = left }) ∙ k.served;
  untouched = λ none. absurd (none_next target call (state_of target a) a.answers (next, left) ((k.untouched none).0) e);
}

kept_same : (first a b : World) → b ≡ a → Kept first a → Kept first b
kept_same first a b e k = subst (λ (w : World). Kept first w) (sym e) k

world_kept : (first a b : World) → WorldTransition a b → Kept first a → Kept first b
world_kept first a b (WritesGlobal place word e) k = stays first a b (ap (λ (w : World). w.answers) e) (ap (λ (w : World). w.services) e) (ap (λ (w : World). w.pool) e) (ap (λ (w : World). drawn_in w.events) e) k
world_kept first a b (WritesWords number ws e) k = stays first a b (ap (λ (w : World). w.answers) e) (ap (λ (w : World). w.services) e) (ap (λ (w : World). w.pool) e) (ap (λ (w : World). drawn_in w.events) e) k
world_kept first a b (Makes object script e) k = stays first a b (ap (λ (w : World). w.answers) e) (ap (λ (w : World). w.services) e) (ap (λ (w : World). w.pool) e) (ap (λ (w : World). drawn_in w.events) e) k
world_kept first a b (Draws kind place box f g e) k = kept_same first (drawn place box a) b e (draws first a place box g k)
world_kept first a b (TakesAnswer target call next left f e) k = kept_same first (after_answer target next left a) b e (takes first a target call next left f k)
world_kept first a b (Notes target id e) k = stays first a b (ap (λ (w : World). w.answers) e) (ap (λ (w : World). w.services) e) (ap (λ (w : World). w.pool) e) (ap (λ (w : World). drawn_in w.events) e ∙ none_drawn_after a.events (Called target id ∷ []) refl) k

swept_kept : (first : World) (frames : List Frame) (w : World) → Kept first w → Kept first (sweep frames w)
unfolding sweep
swept_kept first frames w k = stays first w (sweep frames w) refl refl refl (none_drawn_after w.events (map Dropped (drops_of_sweep (roots frames w) w.objects)) (drops_draw_none (drops_of_sweep (roots frames w) w.objects))) k

back_kept : (first : World) (callers : List Frame) (result : Word) (a : Activity) → Kept first a.world → Kept first (back_in callers result a).world
back_kept first [] result a k = k
back_kept first (caller ∷ callers) result a k = k

step_kept : (first : World) (a b : Activity) → Transition a b → Kept first a.world → Kept first b.world
step_kept first a b (TakesTick left e f) k = kept_same first a.world b.world (ap (λ (x : Activity). x.world) f) k
step_kept first a b (InFrame line locals held f) k = kept_same first a.world b.world (ap (λ (x : Activity). x.world) f) k
step_kept first a b (Enters frame f) k = kept_same first a.world b.world (ap (λ (x : Activity). x.world) f) k
step_kept first a b (Leaves result f) k = kept_same first (back_in a.callers result a).world b.world (ap (λ (x : Activity). x.world) f) (back_kept first a.callers result a k)
step_kept first a b (InWorld world x f) k = kept_same first world b.world (ap (λ (y : Activity). y.world) f) (world_kept first a.world world x k)
step_kept first a b (Releases f) k = kept_same first (sweep (a.frame ∷ a.callers) a.world) b.world (ap (λ (x : Activity). x.world) f) (swept_kept first (a.frame ∷ a.callers) a.world k)

along_kept : {a b : Activity} → Trace a b → Kept a.world b.world
along_kept {a} Here = unmoved a.world
along_kept {a} {b} (Then {middle} t x) = step_kept a.world middle b x (along_kept t)

released_kept : (first a b : World) → IsReleased [] a b → Kept first a → Kept first b
released_kept first a b r k =
    stays first a b (ap (λ (w : World). w.answers) r.others) (ap (λ (w : World). w.services) r.others) (ap (λ (w : World). w.pool) r.others)
    (ap drawn_in r.events ∙ none_drawn_after a.events (map Dropped (hosts_gone a.objects b.objects)) (drops_draw_none (hosts_gone a.objects b.objects))) k

outcome_kept : (first : Activity) (outcome : Outcome) → EffectsStay first outcome → Kept first.world outcome.world
outcome_kept first outcome stay = released_kept first.world (stay.last).world outcome.world stay.released (along_kept stay.trace)

-- steps

-- What a step leaves of services and of what hosts bring; only a task that changes the state shortens the pool.
pub record StepKept {F : Type 0} (old : State) (hosts : Hosts) (changes : Type 0) (one : Step F) : Type 0 where
  pub served : length (one.state).services ≡ length old.services
  pub same : IsNoAnswer one.reply → one.state ≡ old
  pub answers : hosts.answers ≡ [] → (one.hosts).answers ≡ []
  pub services : hosts.answers ≡ [] → (one.state).services ≡ old.services
  pub pool : hosts.answers ≡ []
      → (((one.hosts).pool ≡ hosts.pool) × (drawn_in (events_of_reply one.reply) ≡ []))
      ⊎ ((length (one.hosts).pool < length hosts.pool) × changes)

module _ (F : Type 0) (old : State) (hosts : Hosts) (numbered : AreNumbered old.last old.objects) where
  step_of_world : (changes : Type 0) → changes → (first w : World) → first.services ≡ old.services → first.pool ≡ hosts.pool → first.answers ≡ hosts.answers → first.events ≡ [] → Kept first w → (end : End) (ms : List LoadedModule) → StepKept {F = F} old hosts changes (answered end ms w old)
  step_of_world changes may first w services pool answers events k end ms = record {
    served = k.served ∙ ap (length {A = List ℕ}) services;
    same = λ no. absurd no;
    answers = λ none. (k.untouched (answers ∙ none)).0;
    services = λ none. (k.untouched (answers ∙ none)).1 ∙ services;
    pool = λ none. by ((k.untouched (answers ∙ none)).2);
  }
    where
      by : PoolKept first w → ((w.pool ≡ hosts.pool) × (drawn_in w.events ≡ [])) ⊎ ((length w.pool < length hosts.pool) × changes)
      by (inl (same, undrawn)) = inl (same ∙ pool, undrawn ∙ ap drawn_in events)
      by (inr less) = inr (subst (λ (p : List FreeBox). length w.pool < length p) pool less, may)

  of_this : (changes : Type 0) (this one : Step F) → StepKept old hosts changes this → Some this ≡ Some one → StepKept old hosts changes one
  of_this changes this one k e = subst (λ (s : Step F). StepKept old hosts changes s) (same_Some this one e) k

  same_kept : (changes : Type 0) (one : Step F) → one.state ≡ old → one.hosts ≡ hosts → drawn_in (events_of_reply one.reply) ≡ [] → StepKept old hosts changes one
  same_kept changes one state left undrawn = record {
    served = ap (λ (s : State). length s.services) state;
    same = λ no. state;
    answers = λ none. ap (λ (h : Hosts). h.answers) left ∙ none;
    services = λ none. ap (λ (s : State). s.services) state;
    pool = λ none. inl (ap (λ (h : Hosts). h.pool) left, undrawn);
  }

  load_kept : (name source : List ℕ) (first : World) (end : End) (w : World) → first.services ≡ old.services → first.pool ≡ hosts.pool → first.answers ≡ hosts.answers → first.events ≡ [] → Kept first w → StepKept {F = F} old hosts (Unit {0}) (after_load_with name source old end w)
  load_kept name source first (Finished value) w services pool answers events k = step_of_world (Unit {0}) tt first w services pool answers events k (Finished value) _
  load_kept name source first (Threw x function line) w services pool answers events k =
      step_of_world (Unit {0}) tt first (sweep [] (record w { globals = [] })) services pool answers events (swept_kept first [] (record w { globals = [] }) (record { served = k.served; untouched = k.untouched })) (Threw x function line) old.modules
  load_kept name source first (Aborted function line) w services pool answers events k =
      step_of_world (Unit {0}) tt first (sweep [] (record w { globals = [] })) services pool answers events (swept_kept first [] (record w { globals = [] }) (record { served = k.served; untouched = k.untouched })) (Aborted function line) old.modules

  performed_kept : (budget : ℕ) (task : Task) (one : Step F) → perform budget task old hosts ≡ Some one → StepKept old hosts (TaskChangesState {Fault = F} (Ok task)) one
  performed_kept budget (Initialize name source tree) one e =
      let p : Program = record { name = name; tree = tree } in
      let world : World = world_of [] old.modules old hosts in
      let (o, ran, same) = mapped (after_load name source old) (load_module p budget world) one e in
      subst (λ (s : Step F). StepKept old hosts (Unit {0}) s) same (load_kept name source (first_of_load p budget world).world o.end o.world refl refl refl refl (outcome_kept (first_of_load p budget world) o ((runs_stay p budget world numbered).loads o ran)))
  performed_kept budget (Invoke m tree function args) one e =
      let p : Program = record { name = m.name; tree = tree } in
      let world : World = world_of m.globals (without_module m.name old.modules) old hosts in
      let (o, ran, same) = mapped (after_call m old) (call_function p function args budget world) one e in
      subst (λ (s : Step F). StepKept old hosts (Unit {0}) s) same (step_of_world (Unit {0}) tt world o.world refl refl refl refl (outcome_kept _ o ((runs_stay p budget world numbered).calls function args o ran).2) o.end _)
  performed_kept budget (Remove name) one e =
      let world : World = world_of [] (without_module name old.modules) old hosts in
      of_this (Unit {0}) (after_discard name old hosts) one (step_of_world (Unit {0}) tt world (sweep [] world) refl refl refl refl (swept_kept world [] world (unmoved world)) (Finished None) (without_module name old.modules)) e
  performed_kept budget (Read word) one e = of_this ⊥ (replied (Value word) old hosts) one (same_kept ⊥ _ refl refl refl) e
  performed_kept budget (Show shown) one e = of_this ⊥ (replied (ShownAs shown) old hosts) one (same_kept ⊥ _ refl refl refl) e
  performed_kept budget Count one e = of_this ⊥ (replied (Number old.seq) old hosts) one (same_kept ⊥ _ refl refl refl) e
  performed_kept budget Rewrite one e = of_this ⊥ (replied Done old hosts) one (same_kept ⊥ _ refl refl refl) e

  unless_kept : (budget : ℕ) (result : TaskResult F) (one : Step F) → unless_refused budget result old hosts ≡ Some one → StepKept old hosts (TaskChangesState result) one
  unless_kept budget (Ok task) one e = performed_kept budget task one e
  unless_kept budget (Err refusal) one e = of_this ⊥ (replied (Refused refusal) old hosts) one (same_kept ⊥ _ refl refl refl) e

  pub steps_keep_hosts : (embedding : Embedding F) (budget : ℕ) (request : Request) (one : Step F) → Steps embedding budget request old hosts one → StepKept old hosts (TaskChangesState (task_of embedding request old)) one
  steps_keep_hosts embedding budget request one (performed e) = unless_kept budget (task_of embedding request old) one e
  steps_keep_hosts embedding budget request one (put_off {refusal} cause e) =
      same_kept _ one (ap (λ (s : Step F). s.state) e) (ap (λ (s : Step F). s.hosts) e) (ap (λ (s : Step F). drawn_in (events_of_reply s.reply)) e)
