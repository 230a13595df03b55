-- Along a trace each number has its life.
use Rattle.std.proofs.Common.{◌≡◌, ◌≤◌, ◌<◌, ◌+◌, ◌∙◌, ℕ, zero, suc, Bool, true, false, cond, nat_eq, IsSome, is_some, is_none, List, [], ◌∷◌, ◌++◌, map, filter, Option, Some, None, refl, sym, subst, ap, arith, append_assoc, append-nil}
use Rattle.std.specs.Prelude.{Contains, ◌&&◌}
use Rattle.std.specs.Option.{option_map_or}
use Rattle.std.specs.Map.{keys_of}
use Rattle.std.proofs.lemmas.Bool.{eqb-true, eq-eqb}
use Rattle.std.proofs.lemmas.Bool.Decides.{nat_tests}
use Rattle.ash_host.specs.declared.word.Word.{Word}
use Rattle.ash_host.specs.declared.event.Event.{Event}
use Rattle.ash_host.specs.declared.event.Event.TheVariants.{Drew, Called, Dropped}
use Rattle.ash_host.specs.declared.event.Target.{Target}
use Rattle.ash_host.specs.declared.event.Target.TheVariants as targets
use Rattle.ash_host.specs.Objects.{Plain, Script, Array, Host, LiveObjects, object_at, with_at, is_host, IsInOrder, AreNumbered}
use Rattle.ash_host.specs.Reach.{ReachableIn, Swept, hosts_gone, is_reachable}
use Rattle.ash_host.proofs.Order.{object_at-with_at, in_order-with_at, none_after, in_order_after}
use Rattle.ash_host.proofs.ReachLaws.{is_reachable_says, is_reachable_yes}
use Rattle.ash_host.proofs.NumberLaws.{put_next, swept_numbered}
use Rattle.ash_meaning.specs.Activity.{World, Frame, Activity}
use Rattle.ash_meaning.specs.Releases.{roots}
use Rattle.ash_meaning.specs.Frames.{back_in}
use Rattle.ash_meaning.specs.ObjectSteps.{change_at, with_object, with_words, with_new}
use Rattle.ash_meaning.specs.HostSteps.{with_state_in, with_state, after_answer}
use Rattle.ash_meaning.specs.Locations.{with_global}
use Rattle.ash_meaning.specs.Traces.{WorldTransition, WritesGlobal, WritesWords, Makes, Draws, TakesAnswer, Notes, Transition, TakesTick, InFrame, Enters, Leaves, InWorld, Releases, after_release, Trace, Here, Then}
use Rattle.ash_meaning.specs.Numbers.{draws_of, drops_of, Numbering, numbering_of, one_if_host, hosts_at, NumberLife, NumberLives}
use Rattle.ash_meaning.specs.MeaningLaws.{IsReleased, NumbersLiveOnce}
use Rattle.ash_meaning.proofs.Released.{swept_by}
use Rattle.ash_meaning.proofs.Lives.{hosts_given, draws-cons, drops-cons, life_of, same_life, joined_lives, same_lives}

abbrev P : Type 0
P = Plain (List ℕ)

abbrev at : ℕ → LiveObjects (List ℕ) → ℕ
at n objects = option_map_or one_if_host (object_at n objects) 0

lives_at : (n : ℕ) (objects : LiveObjects (List ℕ)) {object : P} → object_at n objects ≡ Some object → IsSome (object_at n objects)
lives_at n objects e = subst (λ (o : Option P). IsSome o) (sym e) refl

-- an object that is changed

module _ (number : ℕ) (how : P → P) (objects : LiveObjects (List ℕ)) where
  put_numbered : (last : ℕ) (object : P) → object_at number objects ≡ Some object → AreNumbered last objects → AreNumbered last (with_at number (how object) objects)
  put_numbered last object there numbered = record {
    in_order = in_order-with_at number (how object) objects numbered.in_order;
    given = λ n lives. go n (nat_eq n number) refl (subst (λ (o : Option P). is_some o ≡ true) (object_at-with_at number (how object) n objects) lives);
  }
    where
      go : (n : ℕ) (b : Bool) → nat_eq n number ≡ b → is_some (cond (nat_eq n number) (Some (how object)) (object_at n objects)) ≡ true → (0 < n) × (n ≤ last)
      go n true is lives =
          let here : n ≡ number = eqb-true n number is in
          let was = numbered.given number (lives_at number objects there) in
          (omega (arith, here, was.0), omega (arith, here, was.1))
      go n false is lives = numbered.given n (subst (λ (b : Bool). is_some (cond b (Some (how object)) (object_at n objects)) ≡ true) is lives)

  change_numbered : (last : ℕ) → AreNumbered last objects → AreNumbered last (change_at number how objects)
  change_numbered last numbered = go (object_at number objects) refl
    where
      go : (o : Option P) → object_at number objects ≡ o → AreNumbered last (option_map_or (λ object. with_at number (how object) objects) o objects)
      go None e = numbered
      go (Some object) e = put_numbered last object e numbered

  change_hosts : ((object : P) → is_host (how object) ≡ is_host object) → (n : ℕ) → at n (change_at number how objects) ≡ at n objects
  change_hosts same n = go (object_at number objects) refl
    where
      put : (object : P) (b : Bool) → nat_eq n number ≡ b → object_at number objects ≡ Some object → option_map_or one_if_host (cond b (Some (how object)) (object_at n objects)) 0 ≡ at n objects
      put object true is e =
          let here : n ≡ number = eqb-true n number is in
          ap (λ (b : Bool). cond {A = ℕ} b 1 0) (same object)
          ∙ ap (λ (o : Option P). option_map_or one_if_host o 0) (sym e)
          ∙ ap (λ (k : ℕ). at k objects) (sym here)
      put object false is e = refl

      go : (o : Option P) → object_at number objects ≡ o → at n (option_map_or (λ object. with_at number (how object) objects) o objects) ≡ at n objects
      go None e = refl
      go (Some object) e = ap (λ (o : Option P). option_map_or one_if_host o 0) (object_at-with_at number (how object) n objects) ∙ put object (nat_eq n number) refl e

words_same : (ws : List Word) (object : P) → is_host (with_words ws object) ≡ is_host object
words_same ws (Script owner place fields) = refl
words_same ws (Array of elements) = refl
words_same ws (Host kind state) = refl

state_same : (state : List ℕ) (object : P) → is_host (with_state_in state object) ≡ is_host object
state_same state (Script owner place fields) = refl
state_same state (Array of elements) = refl
state_same state (Host kind old) = refl

-- an object that is made

new_hosts : (last : ℕ) (object : P) (objects : LiveObjects (List ℕ)) (n : ℕ) → at n (with_at (last + 1) object objects) ≡ cond (nat_eq n (last + 1)) (one_if_host object) (at n objects)
new_hosts last object objects n = ap (λ (o : Option P). option_map_or one_if_host o 0) (object_at-with_at (last + 1) object n objects) ∙ go (nat_eq n (last + 1))
  where
    go : (b : Bool) → option_map_or one_if_host (cond b (Some object) (object_at n objects)) 0 ≡ cond b (one_if_host object) (at n objects)
    go true = refl
    go false = refl

none_next : (a : Numbering) → AreNumbered a.last a.objects → hosts_at (a.last + 1) a ≡ 0
none_next a numbered = go (hosts_at (a.last + 1) a) refl
  where
    go : (h : ℕ) → hosts_at (a.last + 1) a ≡ h → h ≡ 0
    go zero e = refl
    go (suc h) e = let given : a.last + 1 ≤ a.last = hosts_given (a.last + 1) a numbered (omega (arith, e)) in absurd (omega arith)

-- events are added to a world

abbrev Onward : World → World → Type 0
Onward = NumbersLiveOnce

same_events : (a b : World) → b.events ≡ a.events → NumberLives (numbering_of a) [] (numbering_of b) → Onward a b
same_events a b e lives = record { more = []; events = e ∙ sym (append-nil a.events); lives = lives }

of_same : (a : World) {b c : World} → c ≡ b → Onward a b → Onward a c
of_same a e h = subst (λ (w : World). Onward a w) (sym e) h

still : (a : World) → AreNumbered a.last a.objects → NumberLives (numbering_of a) [] (numbering_of a)
still a numbered = same_lives (numbering_of a) (numbering_of a) [] numbered (omega arith) (λ n. refl) (λ n. refl) (λ n. refl)

changes : (a : World) (number : ℕ) (how : P → P) → ((object : P) → is_host (how object) ≡ is_host object) → AreNumbered a.last a.objects → NumberLives (numbering_of a) [] (numbering_of (with_object number how a))
changes a number how same numbered = same_lives (numbering_of a) (numbering_of (with_object number how a)) [] (change_numbered number how a.objects a.last numbered) (omega arith) (λ n. refl) (λ n. refl) (change_hosts number how a.objects same)

makes : (a : World) (object : P) → is_host object ≡ false → AreNumbered a.last a.objects → NumberLives (numbering_of a) [] (numbering_of (with_new object a))
makes a object none numbered = same_lives (numbering_of a) (numbering_of (with_new object a)) [] (put_next a.last object a.objects numbered) (omega arith) (λ n. refl) (λ n. refl) (λ n. new_hosts a.last object a.objects n ∙ go n (nat_eq n (a.last + 1)) refl)
  where
    go : (n : ℕ) (b : Bool) → nat_eq n (a.last + 1) ≡ b → cond b (one_if_host object) (at n a.objects) ≡ at n a.objects
    go n true is =
        let here : n ≡ a.last + 1 = eqb-true n (a.last + 1) is in
        ap (λ (b : Bool). cond {A = ℕ} b 1 0) none
        ∙ sym (none_next (numbering_of a) numbered)
        ∙ ap (λ (k : ℕ). at k a.objects) (sym here)
    go n false is = refl

draws : (a : World) (kind : ℕ) (state : List ℕ) → AreNumbered a.last a.objects → NumberLives (numbering_of a) (Drew (a.last + 1) ∷ []) (numbering_of (with_new (Host kind state) a))
draws a kind state numbered = record {
  numbered = put_next a.last (Host kind state) a.objects numbered;
  rises = omega arith;
  lives = λ n. go n (nat_eq n (a.last + 1)) refl;
}
  where
    b : Numbering
    b = numbering_of (with_new (Host kind state) a)

    go : (n : ℕ) (t : Bool) → nat_eq n (a.last + 1) ≡ t → NumberLife n (numbering_of a) (Drew (a.last + 1) ∷ []) (numbering_of (with_new (Host kind state) a))
    go n true is =
        let here : n ≡ a.last + 1 = eqb-true n (a.last + 1) is in
        let level : nat_eq (a.last + 1) n ≡ true = eq-eqb (a.last + 1) n (sym here) in
        let one : draws_of n (Drew (a.last + 1) ∷ []) ≡ 1 = ap (λ (t : Bool). 0 + cond {A = ℕ} t 1 0) level in
        let there : at n (with_at (a.last + 1) (Host kind state) a.objects) ≡ 1 = new_hosts a.last (Host kind state) a.objects n ∙ ap (λ (t : Bool). cond {A = ℕ} t 1 (at n a.objects)) is in
        let before : at n a.objects ≡ 0 = ap (λ (k : ℕ). at k a.objects) here ∙ none_next (numbering_of a) numbered in
        life_of n (numbering_of a) (numbering_of (with_new (Host kind state) a)) (Drew (a.last + 1) ∷ []) (omega (arith, one)) (λ less. (omega (arith, here), omega (arith, here))) (omega arith) (omega (arith, one, there, before))
    go n false is =
        let apart : nat_eq (a.last + 1) n ≡ false = grind (arith, nat_tests) in
        same_life n (numbering_of a) (numbering_of (with_new (Host kind state) a)) (Drew (a.last + 1) ∷ [])
        (ap (λ (t : Bool). 0 + cond {A = ℕ} t 1 0) apart) refl
        (new_hosts a.last (Host kind state) a.objects n ∙ ap (λ (t : Bool). cond {A = ℕ} t 1 (at n a.objects)) is)

answered : (a : World) (target : Target) (state : List ℕ) → AreNumbered a.last a.objects → NumberLives (numbering_of a) [] (numbering_of (with_state target state a))
answered a (targets.Object number) state numbered = changes a number (with_state_in state) (state_same state) numbered
answered a (targets.Service index) state numbered = still a numbered

answered_events : (a : World) (target : Target) (state : List ℕ) → (with_state target state a).events ≡ a.events
answered_events a (targets.Object number) state = refl
answered_events a (targets.Service index) state = refl

world_onward : (a b : World) → WorldTransition a b → AreNumbered a.last a.objects → Onward a b
world_onward a b (WritesGlobal place word e) numbered = of_same a e (same_events a (with_global place word a) refl (still a numbered))
world_onward a b (WritesWords number ws e) numbered = of_same a e (same_events a (with_object number (with_words ws) a) refl (changes a number (with_words ws) (words_same ws) numbered))
world_onward a b (Makes object none e) numbered = of_same a e (same_events a (with_new object a) refl (makes a object none numbered))
world_onward a b (Draws kind place box f g e) numbered = of_same a e (record { more = Drew (a.last + 1) ∷ []; events = refl; lives = draws a box.kind box.state numbered })
world_onward a b (TakesAnswer target call next left f e) numbered =
    of_same a e (same_events a (after_answer target next left a) (answered_events (record a { answers = left }) target next.after) (answered (record a { answers = left }) target next.after numbered))
world_onward a b (Notes target id e) numbered =
    of_same a e (record {
      more = Called target id ∷ [];
      events = refl;
      lives = same_lives (numbering_of a) (numbering_of a) (Called target id ∷ []) numbered (omega arith) (λ n. refl) (λ n. refl) (λ n. refl);
    })

-- release points

-- how many host objects of a number go
abbrev gone : ℕ → LiveObjects (List ℕ) → Option P → ℕ
gone n new old = option_map_or (λ object. cond (is_host object && is_none (object_at n new)) 1 0) old 0

abbrev goes : LiveObjects (List ℕ) → ℕ × P → Bool
goes new e = is_host e.1 && is_none (object_at e.0 new)

gone_drops : (n : ℕ) (new objects : LiveObjects (List ℕ)) → IsInOrder objects → drops_of n (map Dropped (keys_of (filter (goes new) objects))) ≡ gone n new (object_at n objects)
gone_drops n new [] o = refl
gone_drops n new (e ∷ l) o =
    here (nat_eq n e.0) refl (gone_drops n new l (in_order_after e l o))
  where
    rest : List Event
    rest = map Dropped (keys_of (filter (goes new) l))

    dropped : (b : Bool) → drops_of n (map Dropped (keys_of (cond b (e ∷ filter (goes new) l) (filter (goes new) l)))) ≡ cond b (cond {A = ℕ} (nat_eq e.0 n) 1 0) 0 + drops_of n rest
    dropped true = drops-cons n (Dropped e.0) rest
    dropped false = omega arith

    -- no other entry has the number
    later : (found : Option P) → object_at n l ≡ found → nat_eq n e.0 ≡ true → gone n new found ≡ 0
    later None f is = refl
    later (Some object) f is = let not_here : nat_eq n e.0 ≡ false = none_after e l n o (lives_at n l f) in cc

    here : (b : Bool) → nat_eq n e.0 ≡ b → drops_of n rest ≡ gone n new (object_at n l) → drops_of n (map Dropped (keys_of (filter (goes new) (e ∷ l)))) ≡ gone n new (cond b (Some e.1) (object_at n l))
    here true is ih =
        let same : n ≡ e.0 = eqb-true n e.0 is in
        let level : nat_eq e.0 n ≡ true = eq-eqb e.0 n (sym same) in
        let none : gone n new (object_at n l) ≡ 0 = later (object_at n l) refl is in
        let tested : cond {A = ℕ} (goes new e) (cond {A = ℕ} (nat_eq e.0 n) 1 0) 0 ≡ cond {A = ℕ} (goes new e) 1 0 = ap (λ (t : Bool). cond {A = ℕ} (goes new e) (cond {A = ℕ} t 1 0) 0) level in
        let at_n : cond {A = ℕ} (goes new e) 1 0 ≡ cond {A = ℕ} (is_host e.1 && is_none (object_at n new)) 1 0 = ap (λ (k : ℕ). cond {A = ℕ} (is_host e.1 && is_none (object_at k new)) 1 0) (sym same) in
        omega (arith, dropped (goes new e), ih, none, tested, at_n)
    here false is ih =
        let apart : nat_eq e.0 n ≡ false = grind (arith, nat_tests) in
        let tested : cond {A = ℕ} (goes new e) (cond {A = ℕ} (nat_eq e.0 n) 1 0) 0 ≡ 0 = ap (λ (t : Bool). cond {A = ℕ} (goes new e) (cond {A = ℕ} t 1 0) 0) apart ∙ never (goes new e) in
        omega (arith, dropped (goes new e), ih, tested)
      where
        never : (b : Bool) → cond {A = ℕ} b 0 0 ≡ 0
        never true = refl
        never false = refl

module _ (held : List ℕ) (old new : LiveObjects (List ℕ)) {dropped : List ℕ} (s : Swept (Contains held) old new dropped) where
  -- what is there after a sweep was there before
  pub was_there : (n : ℕ) (object : P) → object_at n new ≡ Some object → object_at n old ≡ Some object
  was_there n object e = go (is_reachable held old n) refl
    where
      go : (b : Bool) → is_reachable held old n ≡ b → object_at n old ≡ Some object
      go true is = sym (s.stays n (is_reachable_says held old n is)) ∙ e
      go false is =
          let unreached : ReachableIn (Contains held) old n → ⊥ = λ r. let yes = is_reachable_yes held old n r in cc in
          let none = s.goes n unreached in
          absurd (cc)

  swept_hosts : (n : ℕ) → at n new + gone n new (object_at n old) ≡ at n old
  swept_hosts n = go (object_at n new) (object_at n old) refl refl
    where
      stays : (object : P) → one_if_host object + cond {A = ℕ} (is_host object && false) 1 0 ≡ one_if_host object
      stays (Script owner place fields) = refl
      stays (Array of elements) = refl
      stays (Host kind state) = refl

      left : (object : P) → 0 + cond {A = ℕ} (is_host object && true) 1 0 ≡ one_if_host object
      left (Script owner place fields) = refl
      left (Array of elements) = refl
      left (Host kind state) = refl

      go : (after before : Option P) → object_at n new ≡ after → object_at n old ≡ before → option_map_or one_if_host after 0 + option_map_or (λ object. cond {A = ℕ} (is_host object && is_none after) 1 0) before 0 ≡ option_map_or one_if_host before 0
      go None None e f = refl
      go None (Some object) e f = left object
      go (Some object) None e f = let was = was_there n object e in absurd (cc)
      go (Some object) (Some other) e f =
          let was = was_there n object e in
          let same : object ≡ other = cc in
          ap (λ (x : P). one_if_host x + cond {A = ℕ} (is_host other && false) 1 0) same ∙ stays other

pub released_onward : (frames : List Frame) (a b : World) → IsReleased frames a b → AreNumbered a.last a.objects → NumbersLiveOnce a b
released_onward frames a b r numbered = record {
  more = map Dropped (hosts_gone a.objects b.objects);
  events = r.events;
  lives = record {
    numbered = subst (λ (last : ℕ). AreNumbered last b.objects) (sym last_same) (swept_numbered (roots frames a) a.last numbered r.swept);
    rises = omega (arith, last_same);
    lives = λ n. life n;
  };
}
  where
    last_same : b.last ≡ a.last
    last_same = ap (λ (w : World). w.last) r.others

    none_drawn : (n : ℕ) (ns : List ℕ) → draws_of n (map Dropped ns) ≡ 0
    none_drawn n [] = refl
    none_drawn n (k ∷ ns) = let rest = none_drawn n ns in omega (arith, draws-cons n (Dropped k) (map Dropped ns), rest)

    life : (n : ℕ) → NumberLife n (numbering_of a) (map Dropped (hosts_gone a.objects b.objects)) (numbering_of b)
    life n =
        let drawn : draws_of n (map Dropped (hosts_gone a.objects b.objects)) ≡ 0 = none_drawn n (hosts_gone a.objects b.objects) in
        let dropped : drops_of n (map Dropped (hosts_gone a.objects b.objects)) ≡ gone n b.objects (object_at n a.objects) = gone_drops n b.objects a.objects numbered.in_order in
        let hosts : at n b.objects + gone n b.objects (object_at n a.objects) ≡ at n a.objects = swept_hosts (roots frames a) a.objects b.objects r.swept n in
        life_of n (numbering_of a) (numbering_of b) (map Dropped (hosts_gone a.objects b.objects)) (omega (arith, drawn)) (λ less. absurd (omega (arith, drawn, less))) (omega (arith, dropped, hosts)) (omega (arith, drawn, dropped, hosts))

-- along a trace

pub onward_from : {a b c : World} → AreNumbered a.last a.objects → NumbersLiveOnce a b → NumbersLiveOnce b c → NumbersLiveOnce a c
onward_from {a} {b} {c} numbered one two = record {
  more = one.more ++ two.more;
  events = two.events ∙ ap (λ (events : List Event). events ++ two.more) one.events ∙ append_assoc a.events one.more two.more;
  lives = joined_lives numbered one.lives two.lives;
}

back_world : (callers : List Frame) (result : Word) (a : Activity) → (back_in callers result a).world ≡ a.world
back_world [] result a = refl
back_world (caller ∷ callers) result a = refl

same_world : (a : Activity) {b c : Activity} → c ≡ b → b.world ≡ a.world → AreNumbered (a.world).last (a.world).objects → NumbersLiveOnce a.world c.world
same_world a {b} {c} e f numbered = of_same a.world (ap (λ (x : Activity). x.world) e ∙ f) (same_events a.world a.world refl (still a.world numbered))

step_onward : (a b : Activity) → Transition a b → AreNumbered (a.world).last (a.world).objects → NumbersLiveOnce a.world b.world
step_onward a b (TakesTick left e f) numbered = same_world a f refl numbered
step_onward a b (InFrame line locals held f) numbered = same_world a f refl numbered
step_onward a b (Enters frame f) numbered = same_world a f refl numbered
step_onward a b (Leaves result f) numbered = same_world a f (back_world a.callers result a) numbered
step_onward a b (InWorld world x f) numbered = of_same a.world (ap (λ (x : Activity). x.world) f) (world_onward a.world world x numbered)
step_onward a b (Releases f) numbered =
    of_same a.world (ap (λ (x : Activity). x.world) f)
    (released_onward (a.frame ∷ a.callers) a.world (after_release a).world (swept_by (a.frame ∷ a.callers) a.world numbered.in_order) numbered)

pub along : {a b : Activity} → Trace a b → AreNumbered (a.world).last (a.world).objects → NumbersLiveOnce a.world b.world
along {a = a} Here numbered = same_events a.world a.world refl (still a.world numbered)
along {b = b} (Then {middle} t x) numbered =
    let first = along t numbered in
    onward_from numbered first (step_onward middle b x (first.lives).numbered)
