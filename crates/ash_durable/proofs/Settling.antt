-- What the files of a store settle on, said of states, from call to call.
use Rattle.std.specs.Prelude.{min}
use Rattle.std.proofs.Common.{◌≡◌, inl, inr, ℕ, ◌≤◌, List, [], ◌∷◌, ◌++◌, refl, sym, subst, arith}
use Rattle.ash_disk.specs.Device.{Device}
use Rattle.ash_journal.specs.declared.journal.Journal.{Journal}
use Rattle.ash_journal.specs.Current.{Contents, IsContents, HoldsOneOf, Represent, MaySettleOn, SettleFurther}
use Rattle.ash_journal.specs.Journal.{first_disk, second_disk}
use Rattle.ash_journal.specs.SettledSince.{HoldsSince, Extends, NoContents}
use Rattle.ash_journal.proofs.RunLaws.{run_extends, represented}
use Rattle.ash_journal.proofs.SettleLaws.{Property, Implies, settle_more, further}
use Rattle.ash_states.specs.HostStates.{HostState}
use Rattle.ash_image.specs.declared.version.Version.TheVariants.{Two}
use Rattle.ash_states.specs.Images.{IsImageIn}
use Rattle.ash_durable.specs.StoredStates.{HaveState, HaveStateInTwo, IsOne, IsEither, SettleSince, SettleNow}
use Rattle.ash_durable.specs.StoredStates.{SettleInAnyVersion}
use Rattle.ash_durable.specs.StoredStates.{HoldsState, ExtendsHistory, BeginsAnew}
use Rattle.ash_replay.specs.ReplayedStates.{AreIn, IsStateOf, IsBodyBetween}
use Rattle.ash_replay.proofs.Adding.{alone_in, push_in, state_of_alone, state_of_push}
use Rattle.ash_replay.proofs.HostStatesRead.{host_state_once}

-- files that come to nothing new, after files that come to nothing new
further_on : (u v x y p q : List ℕ) → SettleFurther NoContents u v x y → SettleFurther NoContents x y p q
    → SettleFurther NoContents u v p q
further_on u v x y p q one two settle =
    let may = MaySettleOn u v in
    further may NoContents x y p q two (settle_more (HoldsOneOf NoContents may) may
    (λ contents is. elim is [ inl new ↦ absurd new | inr was ↦ was ]) x y (one settle))

module _ {D : Type 0} (device : Device D) where
  -- what a run says of contents may be said in a weaker way
  pub run_more : (a b : ℕ) (first second : D) (P Q : Property) → HoldsSince device a b first second P → Implies P Q
      → HoldsSince device a b first second Q
  run_more a b first second P Q run more = record {
    first_began = run.first_began;
    second_began = run.second_began;
    moments = λ s t x y from_a s_end from_b t_end left_x left_y. settle_more P Q more x y
        (run.moments s t x y from_a s_end from_b t_end left_x left_y);
  }

  -- and what files settle on
  pub settle_on_more : (a b : ℕ) (first second : D) (P Q : HostState → Type 0) → SettleSince device a b first second P
      → ((s : HostState) → P s → Q s) → SettleSince device a b first second Q
  settle_on_more a b first second P Q run more =
      run_more a b first second (HaveStateInTwo P) (HaveStateInTwo Q) run
      (λ contents one. ((one.0.0, more one.0.0 one.0.1, one.0.2), one.1))

  -- what files settle on in version 2 they settle on
  pub in_any_version : (first second : D) (P : HostState → Type 0) → SettleNow device first second P
      → SettleInAnyVersion device first second P
  in_any_version first second P run =
      run_more (device.clock first) (device.clock second) first second (HaveStateInTwo P) (HaveState P) run
      (λ contents one. one.0)

  -- what files settle on since two times, they settle on since later ones
  pub settle_later : (a b c d : ℕ) (first second : D) (P : HostState → Type 0) → a ≤ c → b ≤ d → c ≤ device.clock first
      → d ≤ device.clock second → SettleSince device a b first second P → SettleSince device c d first second P
  settle_later a b c d first second P a_c b_d first_began second_began run = record {
    first_began = first_began;
    second_began = second_began;
    moments = λ s t x y from_c s_end from_d t_end left_x left_y. run.moments s t x y (omega (arith, a_c, from_c)) s_end
        (omega (arith, b_d, from_d)) t_end left_x left_y;
  }

  -- and now
  pub settle_now : (a b : ℕ) (first second : D) (P : HostState → Type 0) → SettleSince device a b first second P
      → SettleNow device first second P
  settle_now a b first second P run =
      settle_later a b (device.clock first) (device.clock second) first second P run.first_began run.second_began
      (omega arith) (omega arith) run

  -- what files settle on, they settle on after calls that add no new contents
  pub settle_still : (a b : ℕ) (first second first' second' : D) (P : HostState → Type 0)
      → Extends device first second first' second' NoContents → SettleSince device a b first second P
      → SettleSince device a b first' second' P
  settle_still a b first second first' second' P call run =
      run_more a b first' second' (HoldsOneOf NoContents (HaveStateInTwo P)) (HaveStateInTwo P)
      (run_extends device a b first second first' second' (HaveStateInTwo P) NoContents run call)
      (λ contents one. elim one [ inl new ↦ absurd new | inr was ↦ was ])

  -- calls that add no new contents, after calls that add none
  pub extends_on : (a b a' b' a'' b'' : D) → Extends device a b a' b' NoContents
      → Extends device a' b' a'' b'' NoContents
      → Extends device a b a'' b'' NoContents
  extends_on a b a' b' a'' b'' one two = record {
    first_later = omega (arith, one.first_later, two.first_later);
    second_later = omega (arith, one.second_later, two.second_later);
    moments = λ s t x y s_end t_end left_x left_y.
        let later = two.moments s t x y s_end t_end left_x left_y in
        let s' = min s (device.clock a') in
        let t' = min t (device.clock b') in
        let was = one.moments s' t' later.0 later.1 (omega arith) (omega arith)
        later.2.first_left later.2.second_left in
        let s_is : min s' (device.clock a) ≡ min s (device.clock a) = omega (arith, one.first_later) in
        let t_is : min t' (device.clock b) ≡ min t (device.clock b) = omega (arith, one.second_later) in (
          was.0,
          was.1,
          record {
            first_left = subst (λ (n : ℕ). device.leaves a n was.0) s_is was.2.first_left;
            second_left = subst (λ (n : ℕ). device.leaves b n was.1) t_is was.2.second_left;
          },
          further_on was.0 was.1 later.0 later.1 x y was.3 later.3,
        );
  }

  -- files that settle on states with P, and represent a state as they read: it has P
  pub settled_state : (a b : ℕ) (first second : D) (P : HostState → Type 0) (contents : Contents) (state : HostState)
      (x y : List ℕ) → device.leaves first (device.clock first) x → device.leaves second (device.clock second) y
      → HoldsSince device a b first second (HaveState P) → Represent contents x y → IsStateOf state contents
      → ((s : HostState) → P s → s.registered ≡ state.registered) → P state
  settled_state a b first second P contents state x y left_x left_y run is is_state alike =
      let one = represented device a b first second (HaveState P) contents x y left_x left_y run is in
      subst P (host_state_once one.0 state contents (alike one.0 one.1) one.2 is_state) one.1

  -- a journal that holds a state settles on it alone
  pub holds_now : (state : HostState) (journal : Journal D) → HoldsState device state journal
      → SettleNow device (first_disk journal) (second_disk journal) (IsOne state)
  holds_now state journal holds =
      run_more (device.clock (first_disk journal)) (device.clock (second_disk journal)) (first_disk journal)
      (second_disk journal) (IsContents holds.contents) (HaveStateInTwo (IsOne state)) holds.holds.run
      (λ contents is. (
        (state, refl, subst (IsStateOf state) (sym is) holds.is_state),
        subst (AreIn Two) (sym is) holds.in_two,
      ))

  -- a journal that was not touched goes on
  pub still_goes_on : (before after : HostState) (journal : Journal D)
      → ExtendsHistory device before after journal journal
  still_goes_on before after journal a b run =
      settle_on_more a b (first_disk journal) (second_disk journal) (IsOne before) (IsEither before after) run
      (λ s is. inl is)

  -- a record more, that leads from one state to the next, takes a journal from the one to the other
  pub record_goes_on : (before after : HostState) (image body : List ℕ) (bodies : List (List ℕ)) (old new : Journal D)
      → IsStateOf before (image, bodies) → AreIn Two (image, bodies)
      → IsBodyBetween Two body before after → Extends device (first_disk old) (second_disk old) (first_disk new)
      (second_disk new)
      (IsContents (image, bodies ++ body ∷ [])) → ExtendsHistory device before after old new
  record_goes_on before after image body bodies old new is_state in_two leads call a b run =
      run_more a b (first_disk new) (second_disk new)
      (HoldsOneOf (IsContents (image, bodies ++ body ∷ [])) (HaveStateInTwo (IsOne before)))
      (HaveStateInTwo (IsEither before after))
      (run_extends device a b (first_disk old) (second_disk old) (first_disk new) (second_disk new)
      (HaveStateInTwo (IsOne before)) (IsContents (image, bodies ++ body ∷ [])) run call)
      (λ contents one. elim one [
        | inl is ↦ (
          (
            after,
            inr refl,
            subst (IsStateOf after) (sym is)
                (state_of_push Two before after image bodies body is_state in_two leads),
          ),
          subst (AreIn Two) (sym is) (push_in Two image bodies body in_two),
        )
        | inr was ↦ ((was.0.0, inl was.0.1, was.0.2), was.1)
      ])

  -- what goes on from a journal that holds a state begins anew there
  pub goes_on_anew : (before after : HostState) (old new : Journal D) → HoldsState device before old
      → ExtendsHistory device before after old new → BeginsAnew device before after old new
  goes_on_anew before after old new holds goes =
      goes (device.clock (first_disk old)) (device.clock (second_disk old)) (holds_now before old holds)

  -- a journal that was not touched begins anew
  pub still_begins_anew : (before after : HostState) (journal : Journal D) → HoldsState device before journal
      → BeginsAnew device before after journal journal
  still_begins_anew before after journal holds =
      goes_on_anew before after journal journal holds (still_goes_on before after journal)

  -- an image of the state that the journal holds, in place of what it holds
  pub image_begins_anew : (state : HostState) (image was : List ℕ) (bodies : List (List ℕ)) (old new : Journal D)
      → IsStateOf state (was, bodies) → AreIn Two (was, bodies) → IsImageIn Two image state
      → HoldsSince device (device.clock (first_disk old)) (device.clock (second_disk old)) (first_disk new)
      (second_disk new)
      (HoldsOneOf (IsContents (image, [])) (IsContents (was, bodies))) → BeginsAnew device state state old new
  image_begins_anew state image was bodies old new is_state in_two depicts run =
      run_more (device.clock (first_disk old)) (device.clock (second_disk old)) (first_disk new) (second_disk new)
      (HoldsOneOf (IsContents (image, [])) (IsContents (was, bodies))) (HaveStateInTwo (IsEither state state)) run
      (λ contents one. elim one [
        | inl is ↦ (
          (state, inl refl, subst (IsStateOf state) (sym is) (state_of_alone Two state image depicts)),
          subst (AreIn Two) (sym is) (alone_in Two state image depicts),
        )
        | inr is ↦ ((state, inl refl, subst (IsStateOf state) (sym is) is_state), subst (AreIn Two) (sym is) in_two)
      ])

  -- a new generation of a state, and then calls that go on from there
  pub anew_goes_on : (before after : HostState) (old between new : Journal D)
      → BeginsAnew device before before old between
      → ExtendsHistory device before after between new → BeginsAnew device before after old new
  anew_goes_on before after old between new anew goes =
      let a = device.clock (first_disk old) in
      let b = device.clock (second_disk old) in
      goes a b (settle_on_more a b (first_disk between) (second_disk between) (IsEither before before) (IsOne before)
      anew (λ s either. elim either [ inl is ↦ is | inr is ↦ is ]))

  -- while a state was written into a journal anew, two states are one of them
  pub anew_either : (before after : HostState) (old new : Journal D) → BeginsAnew device before before old new
      → BeginsAnew device before after old new
  anew_either before after old new anew = anew_goes_on before after old new new anew (still_goes_on before after new)
