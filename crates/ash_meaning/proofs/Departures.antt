-- Along a trace an object goes at a release point alone.
use Rattle.std.proofs.Common.{◌≡◌, ℕ, Bool, true, false, cond, nat_eq, IsSome, List, [], ◌∷◌, Option, Some, None, refl, sym, subst}
use Rattle.std.specs.Option.{option_map_or}
use Rattle.ash_host.specs.declared.word.Word.{Word}
use Rattle.ash_host.specs.declared.event.Target.{Target}
use Rattle.ash_host.specs.declared.event.Target.TheVariants as targets
use Rattle.ash_host.specs.Objects.{Plain, LiveObjects, object_at, with_at, Lives, AreNumbered}
use Rattle.ash_host.proofs.Order.{object_at-with_at}
use Rattle.ash_meaning.specs.Activity.{World, Frame, Activity}
use Rattle.ash_meaning.specs.Frames.{back_in}
use Rattle.ash_meaning.specs.ObjectSteps.{change_at}
use Rattle.ash_meaning.specs.HostSteps.{with_state}
use Rattle.ash_meaning.specs.Traces.{WorldTransition, WritesGlobal, WritesWords, Makes, Draws, TakesAnswer, Notes, Transition, TakesTick, InFrame, Enters, Leaves, InWorld, Releases, after_release, Trace, Here, Then}
use Rattle.ash_meaning.specs.MeaningLaws.{WentAtRelease, GoAtReleases}
use Rattle.ash_meaning.proofs.Released.{swept_by}
use Rattle.ash_meaning.proofs.Numbers.{along}

abbrev P : Type 0
P = Plain (List ℕ)

-- what is put somewhere takes nothing away
put_keeps : (number n : ℕ) (object : P) (objects : LiveObjects (List ℕ)) → Lives objects n → Lives (with_at number object objects) n
put_keeps number n object objects lives = subst (λ (o : Option P). IsSome o) (sym (object_at-with_at number object n objects)) (go (nat_eq n number))
  where
    go : (b : Bool) → IsSome (cond b (Some object) (object_at n objects))
    go true = refl
    go false = lives

change_keeps : (number n : ℕ) (how : P → P) (objects : LiveObjects (List ℕ)) → Lives objects n → Lives (change_at number how objects) n
change_keeps number n how objects lives = go (object_at number objects)
  where
    go : (o : Option P) → Lives (option_map_or (λ object. with_at number (how object) objects) o objects) n
    go None = lives
    go (Some object) = put_keeps number n (how object) objects lives

state_keeps : (world : World) (target : Target) (state : List ℕ) (n : ℕ) → Lives world.objects n → Lives (with_state target state world).objects n
state_keeps world (targets.Object number) state n lives = change_keeps number n _ world.objects lives
state_keeps world (targets.Service index) state n lives = lives

-- what is in one world is in another that is equal
in_same : (n : ℕ) {a b : World} → b ≡ a → Lives a.objects n → Lives b.objects n
in_same n e lives = subst (λ (w : World). Lives w.objects n) (sym e) lives

world_keeps : (n : ℕ) (a b : World) → WorldTransition a b → Lives a.objects n → Lives b.objects n
world_keeps n a b (WritesGlobal place word e) lives = in_same n e lives
world_keeps n a b (WritesWords number ws e) lives = in_same n e (change_keeps number n _ a.objects lives)
world_keeps n a b (Makes object none e) lives = in_same n e (put_keeps _ n object a.objects lives)
world_keeps n a b (Draws kind place box f g e) lives = in_same n e (put_keeps _ n _ a.objects lives)
world_keeps n a b (TakesAnswer target call next left f e) lives = in_same n e (state_keeps (record a { answers = left }) target next.after n lives)
world_keeps n a b (Notes target id e) lives = in_same n e lives

back_keeps : (n : ℕ) (callers : List Frame) (result : Word) (a : Activity) → Lives (a.world).objects n → Lives ((back_in callers result a).world).objects n
back_keeps n [] result a lives = lives
back_keeps n (caller ∷ callers) result a lives = lives

-- one transition: the object stays, or this is its release point
module _ (n : ℕ) {first : Activity} (numbered : AreNumbered (first.world).last (first.world).objects) where
  stays : {last : Activity} (there : Activity) → last ≡ there → Lives (there.world).objects n → object_at n (last.world).objects ≡ None → WentAtRelease n first last
  stays there e lives gone =
      let here = subst (λ (x : Activity). Lives (x.world).objects n) (sym e) lives in
      let none = subst (λ (o : Option P). IsSome o) gone here in
      absurd (cc)

  goes_here : {middle last : Activity} → Trace first middle → Transition middle last → Lives (middle.world).objects n → object_at n (last.world).objects ≡ None → WentAtRelease n first last
  goes_here {middle} {last} t (TakesTick left e f) lives gone = stays (record middle { ticks = left }) f lives gone
  goes_here {middle} {last} t (InFrame line locals held f) lives gone = stays (record middle { frame = record middle.frame { line = line; locals = locals; held = held } }) f lives gone
  goes_here {middle} {last} t (Enters frame f) lives gone = stays (record middle { frame = frame; callers = middle.frame ∷ middle.callers }) f lives gone
  goes_here {middle} {last} t (Leaves result f) lives gone = stays (back_in middle.callers result middle) f (back_keeps n middle.callers result middle lives) gone
  goes_here {middle} {last} t (InWorld world x f) lives gone = stays (record middle { world = world }) f (world_keeps n middle.world world x lives) gone
  goes_here {middle} {last} t (Releases f) lives gone = record {
    point = middle;
    before = t;
    there = lives;
    gone = subst (λ (x : Activity). object_at n (x.world).objects ≡ None) f gone;
    released = swept_by (middle.frame ∷ middle.callers) middle.world (((along t numbered).lives).numbered).in_order;
    after = subst (λ (x : Activity). Trace (after_release middle) x) (sym f) Here;
  }

  later : {middle last : Activity} → WentAtRelease n first middle → Transition middle last → WentAtRelease n first last
  later w x = record { point = w.point; before = w.before; there = w.there; gone = w.gone; released = w.released; after = Then w.after x }

  went : {last : Activity} → Trace first last → Lives (first.world).objects n → object_at n (last.world).objects ≡ None → WentAtRelease n first last
  went Here lives gone = let none = subst (λ (o : Option P). IsSome o) gone lives in absurd (cc)
  went {last} (Then {middle} t x) lives gone = go (object_at n (middle.world).objects) refl (λ none. went t lives none)
    where
      go : (o : Option P) → object_at n (middle.world).objects ≡ o → (object_at n (middle.world).objects ≡ None → WentAtRelease n first middle) → WentAtRelease n first last
      go (Some object) e before = goes_here t x (subst (λ (o : Option P). IsSome o) (sym e) refl) gone
      go None e before = later (before e) x

pub go_at_releases : (first last : Activity) → Trace first last → AreNumbered (first.world).last (first.world).objects → GoAtReleases first last
go_at_releases first last t numbered n lives gone = went n numbered t lives gone
