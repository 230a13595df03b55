-- Along a trace the answers of hosts are taken in order.
use Rattle.std.proofs.Common.{◌≡◌, ◌∙◌, ◌++◌, ℕ, List, [], ◌∷◌, Option, Some, None, refl, sym, subst, ap, append_assoc}
use Rattle.std.specs.Option.{option_and_then}
use Rattle.ash_host.specs.declared.word.Word.{Word}
use Rattle.ash_host.specs.declared.event.Target.{Target}
use Rattle.ash_host.specs.declared.event.Target.TheVariants as targets
use Rattle.ash_host.specs.Calls.{HostCall}
use Rattle.ash_host.specs.Records.{HostRecord, next_record}
use Rattle.ash_host.proofs.RecordLaws.{next_record_says}
use Rattle.ash_meaning.specs.Activity.{World, Frame, Activity}
use Rattle.ash_meaning.specs.Releases.{sweep}
use Rattle.ash_meaning.specs.Frames.{back_in}
use Rattle.ash_meaning.specs.HostSteps.{state_of, with_state}
use Rattle.ash_meaning.specs.Traces.{WorldTransition, WritesGlobal, WritesWords, Makes, Draws, TakesAnswer, Notes, Transition, TakesTick, InFrame, Enters, Leaves, InWorld, Releases, Trace, Here, Then}
use Rattle.ash_meaning.specs.MeaningLaws.{TakesInOrder}

-- none is taken
same : (a b : World) → b.answers ≡ a.answers → TakesInOrder a b
same a b e = ([], sym e)

first_of : (target : Target) (call : HostCall) (world : World) (next : HostRecord) (left : List HostRecord) (state : Option (List ℕ)) → option_and_then (λ before. next_record target call before world.answers) state ≡ Some (next, left) → world.answers ≡ next ∷ left
first_of target call world next left None e = absurd (cc)
first_of target call world next left (Some before) e = (next_record_says target call before world.answers next left e).first

state_leaves : (world : World) (target : Target) (state : List ℕ) → (with_state target state world).answers ≡ world.answers
state_leaves world (targets.Object number) state = refl
state_leaves world (targets.Service index) state = refl

world_takes : (a b : World) → WorldTransition a b → TakesInOrder a b
world_takes a b (WritesGlobal place word e) = same a b (ap (λ (w : World). w.answers) e)
world_takes a b (WritesWords number ws e) = same a b (ap (λ (w : World). w.answers) e)
world_takes a b (Makes object none e) = same a b (ap (λ (w : World). w.answers) e)
world_takes a b (Draws kind place box f g e) = same a b (ap (λ (w : World). w.answers) e)
world_takes a b (TakesAnswer target call next left f e) =
    let leaves : b.answers ≡ left = ap (λ (w : World). w.answers) e ∙ state_leaves (record a { answers = left }) target next.after in
    (next ∷ [], first_of target call a next left (state_of target a) f ∙ ap (λ (records : List HostRecord). next ∷ records) (sym leaves))
world_takes a b (Notes target id e) = same a b (ap (λ (w : World). w.answers) e)

back_leaves : (callers : List Frame) (result : Word) (a : Activity) → ((back_in callers result a).world).answers ≡ (a.world).answers
back_leaves [] result a = refl
back_leaves (caller ∷ callers) result a = refl

pub sweep_leaves : (frames : List Frame) (world : World) → (sweep frames world).answers ≡ world.answers
unfolding sweep
sweep_leaves frames world = refl

step_takes : (a b : Activity) → Transition a b → TakesInOrder a.world b.world
step_takes a b (TakesTick left e f) = same a.world b.world (ap (λ (x : Activity). (x.world).answers) f)
step_takes a b (InFrame line locals held f) = same a.world b.world (ap (λ (x : Activity). (x.world).answers) f)
step_takes a b (Enters frame f) = same a.world b.world (ap (λ (x : Activity). (x.world).answers) f)
step_takes a b (Leaves result f) = same a.world b.world (ap (λ (x : Activity). (x.world).answers) f ∙ back_leaves a.callers result a)
step_takes a b (InWorld world x f) = subst (λ (w : World). TakesInOrder a.world w) (sym (ap (λ (y : Activity). y.world) f)) (world_takes a.world world x)
step_takes a b (Releases f) = same a.world b.world (ap (λ (x : Activity). (x.world).answers) f ∙ sweep_leaves (a.frame ∷ a.callers) a.world)

pub joined_order : (a b c : World) → TakesInOrder a b → TakesInOrder b c → TakesInOrder a c
joined_order a b c one two = (one.0 ++ two.0, one.1 ∙ ap (λ (records : List HostRecord). one.0 ++ records) two.1 ∙ sym (append_assoc one.0 two.0 c.answers))

pub taken_in_order : (first last : Activity) → Trace first last → TakesInOrder first.world last.world
taken_in_order first last Here = same first.world first.world refl
taken_in_order first last (Then {middle} t x) = joined_order first.world middle.world last.world (taken_in_order first middle t) (step_takes middle last x)
