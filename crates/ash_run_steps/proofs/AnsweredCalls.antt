-- Calls of hosts are the meaning's.
use Rattle.std.proofs.Common.{◌≡◌, ◌≤◌, ℕ, Bool, true, false, cond, List, [], ◌∷◌, ◌++◌, length, refl, sym, ap, ◌∙◌, subst, arith}
use Rattle.std.specs.Prelude.{Option, Some, None, IfSome, IsSomeAnd, Result, Ok, Err, nat_le, slice_get, is_some}
use Rattle.std.specs.Option.{option_map, option_and_then}
use Rattle.std.proofs.lemmas.Bool.Decides.{nat_tests}
use Rattle.std.proofs.lemmas.List.{append-nil, map-set}
use Rattle.std.proofs.lemmas.Option.{slice_get-map}
use Rattle.ash_host.specs.declared.answer.HostAnswer.{HostAnswer}
use Rattle.ash_host.specs.declared.answer.HostAnswer.TheVariants as answers
use Rattle.ash_host.specs.declared.event.Event.{Event}
use Rattle.ash_host.specs.declared.event.Event.TheVariants.{Called}
use Rattle.ash_host.specs.declared.event.Target.{Target}
use Rattle.ash_host.specs.declared.event.Target.TheVariants as targets
use Rattle.ash_host.specs.declared.host_object.HostObject.{Ghosts}
use Rattle.ash_host.specs.declared.word.Word.{Word}
use Rattle.ash_host.specs.Calls.{HostCall, Start, Invoke, Get, Set}
use Rattle.ash_host.specs.Limits.{max_state_bytes}
use Rattle.ash_host.specs.Objects.{LiveObjects, AreNumbered}
use Rattle.ash_host.specs.Records.{HostRecord, next_record}
use Rattle.ash_host.specs.Words.{IsAnswer}
use Rattle.ash_host.proofs.RecordLaws.{next_record_takes}
use Rattle.ash_typed.specs.declared.types.VarType.{VarType}
use Rattle.ash_meaning.specs.Activity.{World, Activity}
use Rattle.ash_meaning.specs.Runs.{Progress, Run, Done, Ended, NoStep, Raising, onward, found, give as gives, change, ◌>>◌}
use Rattle.ash_meaning.specs.Activity.{in_world}
use Rattle.ash_meaning.specs.HostSteps as hosts
use Rattle.ash_slots.specs.SlotResponses.{Responds}
use Rattle.ash_objects.specs.Table.{Table, with_object}
use Rattle.ash_objects.specs.Responses.{box_at, with_box, called}
use Rattle.ash_objects.proofs.Boxes.{called_is}
use Rattle.ash_run_steps.specs.declared.stop.Stop.{Stop}
use Rattle.ash_run_steps.specs.declared.stop.Stop.TheVariants as stops
use Rattle.ash_run_steps.specs.Guarded.{Guarded, plain, give, stop, unsound}
use Rattle.ash_run_steps.specs.HostGuards.{is_there, invoke_host, get_property, set_property, start_host, IsMade}
use Rattle.ash_run_steps.specs.RunStates.{State, Names, shown, world_shown}
use Rattle.ash_run_steps.specs.Answered.{drawn_in, IsValidOf}
use Rattle.ash_run_steps.specs.Becoming.{Gave, Becomes, Comes}
use Rattle.ash_run_steps.specs.Following.{box_for, Follows}
use Rattle.ash_run_steps.proofs.Bare.{follows_bare}
use Rattle.ash_run_steps.proofs.BoxChanges.{with_service, box_lives, follows_service, follows_object, host_shown_at, lacks_shown_at, service_shown_at, same_state, boxed_shown}
use Rattle.ash_run_steps.proofs.Composed.{becomes_by}
use Rattle.ash_run_steps.proofs.HoldSteps.{at_table}
use Rattle.ash_run_steps.proofs.LocalSteps.{guard_off}

pub some_of : {X : Type 0} (P : X → Type 0) (o : Option X) → IsSomeAnd o P → (x : X) × (o ≡ Some x) × P x
some_of P None is = absurd is
some_of P (Some x) is = (x, refl, is)

module _ {B : Type 0} (G : Ghosts B) (names : Names) where
  -- the record of a call
  abbrev record_of : Target → HostCall → HostAnswer → B → B → HostRecord
  record_of target call answer before after = record {
    target = target;
    call = call;
    before = G.state before;
    answer = answer;
    after = G.state after;
  }

  -- Who is asked answered, and the state shows that and nothing else.
  pub record IsAnswered (target : Target) (call : HostCall) (answer : HostAnswer) (s : State B) (table : Table B) : Type 0 where
    pub before : B
    pub after : B
    pub of : box_for s.table [] target ≡ Some before
    pub allowed : G.allows before call (G.state before) answer (G.state after)
    pub before_fits : length (G.state before) ≤ max_state_bytes
    pub after_fits : length (G.state after) ≤ max_state_bytes
    pub in_range : IsAnswer answer
    pub follows : Follows G [] (record_of target call answer before after ∷ []) s.table table
    pub asked : (rest : List HostRecord) → hosts.state_of target (world_shown G names rest s) ≡ Some (G.state before)
    pub left : (rest : List HostRecord) → hosts.with_state target (G.state after) (world_shown G names rest s) ≡ world_shown G names rest (at_table table s)

  module _ (target : Target) (call : HostCall) (answer : HostAnswer) (s : State B) (table : Table B) (is : IsAnswered target call answer s table) where
    abbrev pub answered : HostRecord
    answered = record_of target call answer is.before is.after

    abbrev after_taken : HostRecord × List HostRecord → Run HostAnswer
    after_taken taken = change (in_world (hosts.after_answer target taken.0 taken.1)) >> gives (taken.0).answer

    taken_by : (rest : List HostRecord) → next_record target call (G.state is.before) (answered ∷ rest) ≡ Some (answered, rest)
    taken_by rest = next_record_takes target call (G.state is.before) (answered ∷ rest) answered rest (record { first = refl; same_target = refl; same_call = refl; same_state = refl })

    pub called_same : (rest : List HostRecord) → hosts.call_host target call (shown G names (answered ∷ rest) s) ≡ Done answer (shown G names rest (at_table table s))
    called_same rest =
        let now = shown G names (answered ∷ rest) s in
        ap (λ (o : Option (List ℕ)). onward (found (option_and_then (λ before. next_record target call before (answered ∷ rest)) o) now) after_taken) (is.asked (answered ∷ rest))
        ∙ ap (λ (o : Option (HostRecord × List HostRecord)). onward (found o now) after_taken) (taken_by rest)
        ∙ ap (λ (w : World). Done answer (record (shown G names rest s) { world = w })) (is.left rest)

    -- the box that was asked gave the answer
    gave_one : (new : State B) (happened : List Event) → drawn_in happened ≡ [] → new.table ≡ table → new.events ≡ s.events ++ happened
        → Gave G (answered ∷ []) s.table s.events new.table new.events
    gave_one new happened none now told = record {
      drawn = [];
      happened = happened;
      told = told;
      in_turn = sym none;
      valid = (
        subst (λ (o : Option B). IsValidOf G o answered) (sym is.of) (record {
          allowed = is.allowed;
          answered_fits = is.in_range;
          before_fits = is.before_fits;
          after_fits = is.after_fits;
        }),
        tt,
      );
      follows = subst (λ (t : Table B). Follows G [] (answered ∷ []) s.table t) (sym now) is.follows;
    }

    -- a run that comes to this after the answer
    pub becomes_after : {A : Type 0} (run : Run A) (left : Guarded A) (new : State B) (happened : List Event) → drawn_in happened ≡ [] → new.table ≡ table
        → new.events ≡ s.events ++ happened
        → ((rest : List HostRecord) → left (shown G names rest new) ≡ Some (run (shown G names (answered ∷ rest) s)))
        → Becomes G names (plain run) s left new
    becomes_after run left new happened none now told same = record {
      records = answered ∷ [];
      gave = gave_one new happened none now told;
      same = same;
    }

    -- the same of a run under the guard that who is asked is there
    pub becomes_answered : {A : Type 0} (run : Run A) (left : Guarded A) (new : State B) (happened : List Event) → drawn_in happened ≡ [] → new.table ≡ table
        → new.events ≡ s.events ++ happened
        → ((rest : List HostRecord) → left (shown G names rest new) ≡ Some (run (shown G names (answered ∷ rest) s)))
        → Becomes G names (λ a. cond (is_there target a) (Some (run a)) None) s left new
    becomes_answered run left new happened none now told same = record {
      records = answered ∷ [];
      gave = gave_one new happened none now told;
      same = λ rest. under (is_there target (shown G names (answered ∷ rest) s)) (run (shown G names (answered ∷ rest) s)) (left (shown G names rest new)) (same rest);
    }
      where
        under : {P : Type 0} (b : Bool) (p : P) (o : Option P) → o ≡ Some p → IfSome (cond b (Some p) None) (λ q. o ≡ Some q)
        under true p o is = is
        under false p o is = tt

  -- who is not there answers nothing
  pub lacks_host : {A : Type 0} (target : Target) (run : Run A) (s : State B)
      → ((rest : List HostRecord) → hosts.state_of target (world_shown G names rest s) ≡ None)
      → Becomes G names (λ a. cond (is_there target a) (Some (run a)) None) s unsound s
  lacks_host target run s none =
      becomes_by G names (λ a. cond (is_there target a) (Some (run a)) None) s unsound s refl refl
      (λ rest. guard_off (is_there target (shown G names rest s)) (run (shown G names rest s)) (ap is_some (none rest)))

  -- methods and functions

  abbrev pub with_call : Target → ℕ → HostAnswer → Table B → State B → State B
  with_call target id answer table s = record s { table = table; events = s.events ++ called target id answer }

  -- a call draws nothing
  call_draws : (target : Target) (id : ℕ) (answer : HostAnswer) → drawn_in (called target id answer) ≡ []
  call_draws target id answers.Nothing = refl
  call_draws target id (answers.Value word) = refl
  call_draws target id (answers.Raise code) = refl
  call_draws target id answers.NoMemory = refl

  no_step_of : (result : Option VarType) (a : Activity) → hosts.accept result answers.NoMemory a ≡ NoStep
  no_step_of None a = refl
  no_step_of (Some of) a = refl

  module _ (target : Target) (id : ℕ) (result : Option VarType) (args : List Word) (answer : HostAnswer) (s : State B) (table : Table B) (is : IsAnswered target (Invoke id args) answer s table) where
    -- the activity once the call is recorded
    abbrev noted : List HostRecord → Activity
    noted rest = shown G names rest (record s { table = table; events = s.events ++ Called target id ∷ [] })

    invoked_same : (rest : List HostRecord) → hosts.invoke_host target id result args (shown G names (answered target (Invoke id args) answer s table is ∷ rest) s)
        ≡ hosts.accept result answer (noted rest)
    invoked_same rest =
        ap (λ (p : Progress HostAnswer). onward p (λ a. hosts.note (Called target id) >> hosts.accept result a)) (called_same target (Invoke id args) answer s table is rest)

    noted_is : (rest : List HostRecord) (p : Progress Word) → hosts.accept result answer (noted rest) ≡ p → (p ≡ NoStep → ⊥)
        → noted rest ≡ shown G names rest (with_call target id answer table s)
    noted_is rest p ends some =
        ap (λ (es : List Event). shown G names rest (record s { table = table; events = s.events ++ es }))
        (sym (called_is target id answer (λ none. some (sym ends ∙ ap (λ (a : HostAnswer). hosts.accept result a (noted rest)) none ∙ no_step_of result (noted rest)))))

    pub invoke_comes : (r : Result Word Stop) → ((a : Activity) → IsMade (hosts.accept result answer a) r a)
        → Comes G names (invoke_host target id result args) s r (with_call target id answer table s)
    invoke_comes (Ok w) made =
        becomes_answered target (Invoke id args) answer s table is (hosts.invoke_host target id result args) (give w) (with_call target id answer table s) (called target id answer) (call_draws target id answer) refl refl
        (λ rest.
        let here = noted_is rest (Done w (noted rest)) (made (noted rest)) (λ e. cc) in
        sym (ap Some (invoked_same rest ∙ made (noted rest) ∙ ap (Done w) here)))
    invoke_comes (Err (stops.Raised exception)) made =
        becomes_answered target (Invoke id args) answer s table is (hosts.invoke_host target id result args) (stop (Raising exception)) (with_call target id answer table s) (called target id answer) (call_draws target id answer) refl refl
        (λ rest.
        let here = noted_is rest (Ended (Raising exception) (noted rest)) (made (noted rest)) (λ e. cc) in
        sym (ap Some (invoked_same rest ∙ made (noted rest) ∙ ap (Ended (Raising exception)) here)))
    invoke_comes (Err stops.OutOfTicks) made = absurd (made (noted []))
    invoke_comes (Err stops.Unsound) made = absurd (made (noted []))
    invoke_comes (Err stops.NoMemory) made = tt

    -- and so it does without a guard
    pub call_comes : (r : Result Word Stop) → ((a : Activity) → IsMade (hosts.accept result answer a) r a)
        → Comes G names (plain (hosts.invoke_host target id result args)) s r (with_call target id answer table s)
    call_comes (Ok w) made =
        becomes_after target (Invoke id args) answer s table is (hosts.invoke_host target id result args) (give w) (with_call target id answer table s) (called target id answer) (call_draws target id answer) refl refl
        (λ rest.
        let here = noted_is rest (Done w (noted rest)) (made (noted rest)) (λ e. cc) in
        sym (ap Some (invoked_same rest ∙ made (noted rest) ∙ ap (Done w) here)))
    call_comes (Err (stops.Raised exception)) made =
        becomes_after target (Invoke id args) answer s table is (hosts.invoke_host target id result args) (stop (Raising exception)) (with_call target id answer table s) (called target id answer) (call_draws target id answer) refl refl
        (λ rest.
        let here = noted_is rest (Ended (Raising exception) (noted rest)) (made (noted rest)) (λ e. cc) in
        sym (ap Some (invoked_same rest ∙ made (noted rest) ∙ ap (Ended (Raising exception)) here)))
    call_comes (Err stops.OutOfTicks) made = absurd (made (noted []))
    call_comes (Err stops.Unsound) made = absurd (made (noted []))
    call_comes (Err stops.NoMemory) made = tt

  -- properties

  module _ (number id : ℕ) where
    read_same : (of : VarType) (answer : HostAnswer) (s : State B) (is : IsAnswered (targets.Object number) (Get id) answer s s.table) (rest : List HostRecord)
        → hosts.get_property number id of (shown G names (answered (targets.Object number) (Get id) answer s s.table is ∷ rest) s) ≡ hosts.accept (Some of) answer (shown G names rest s)
    read_same of answer s is rest = ap (λ (p : Progress HostAnswer). onward p (hosts.accept (Some of))) (called_same (targets.Object number) (Get id) answer s s.table is rest)

    pub get_comes : (of : VarType) (answer : HostAnswer) (s : State B) (r : Result Word Stop) → IsAnswered (targets.Object number) (Get id) answer s s.table
        → ((a : Activity) → IsMade (hosts.accept (Some of) answer a) r a) → Comes G names (get_property number id of) s r s
    get_comes of answer s (Ok w) is made =
        becomes_answered (targets.Object number) (Get id) answer s s.table is (hosts.get_property number id of) (give w) s [] refl refl (sym (append-nil s.events))
        (λ rest. sym (ap Some (read_same of answer s is rest ∙ made (shown G names rest s))))
    get_comes of answer s (Err (stops.Raised exception)) is made =
        becomes_answered (targets.Object number) (Get id) answer s s.table is (hosts.get_property number id of) (stop (Raising exception)) s [] refl refl (sym (append-nil s.events))
        (λ rest. sym (ap Some (read_same of answer s is rest ∙ made (shown G names rest s))))
    get_comes of answer s (Err stops.OutOfTicks) is made = absurd (made (shown G names [] s))
    get_comes of answer s (Err stops.Unsound) is made = absurd (made (shown G names [] s))
    get_comes of answer s (Err stops.NoMemory) is made = tt

    pub set_gives : (word : Word) (s : State B) (table : Table B) → IsAnswered (targets.Object number) (Set id word) answers.Nothing s table
        → Becomes G names (set_property number id word) s (give tt) (at_table table s)
    set_gives word s table is =
        becomes_answered (targets.Object number) (Set id word) answers.Nothing s table is (hosts.set_property number id word) (give tt) (at_table table s) [] refl refl (sym (append-nil s.events))
        (λ rest. sym (ap (λ (p : Progress HostAnswer). Some (onward (onward p (hosts.accept None)) (λ _. gives tt))) (called_same (targets.Object number) (Set id word) answers.Nothing s table is rest)))

  -- the start of an object

  module _ (number : ℕ) (args : List Word) (answer : HostAnswer) (s : State B) (table : Table B) (is : IsAnswered (targets.Object number) (Start args) answer s table) where
    started_same : (rest : List HostRecord) → start_host number args (shown G names (answered (targets.Object number) (Start args) answer s table is ∷ rest) s) ≡ hosts.accept None answer (shown G names rest (at_table table s))
    started_same rest = ap (λ (p : Progress HostAnswer). onward p (hosts.accept None)) (called_same (targets.Object number) (Start args) answer s table is rest)

    pub start_comes : (r : Result Word Stop) → ((a : Activity) → IsMade (hosts.accept None answer a) r a) → Comes G names (plain (start_host number args)) s r (at_table table s)
    start_comes (Ok w) made =
        becomes_after (targets.Object number) (Start args) answer s table is (start_host number args) (give w) (at_table table s) [] refl refl (sym (append-nil s.events))
        (λ rest. sym (ap Some (started_same rest ∙ made (shown G names rest (at_table table s)))))
    start_comes (Err (stops.Raised exception)) made =
        becomes_after (targets.Object number) (Start args) answer s table is (start_host number args) (stop (Raising exception)) (at_table table s) [] refl refl (sym (append-nil s.events))
        (λ rest. sym (ap Some (started_same rest ∙ made (shown G names rest (at_table table s)))))
    start_comes (Err stops.OutOfTicks) made = absurd (made (shown G names [] s))
    start_comes (Err stops.Unsound) made = absurd (made (shown G names [] s))
    start_comes (Err stops.NoMemory) made = tt

  -- who answers

  pub service_answers : (index : ℕ) (call : HostCall) (answer : HostAnswer) (before after : B) (s : State B)
      → slice_get (s.table).services index ≡ Some before → Responds G before call answer after
      → length (G.state before) ≤ max_state_bytes → IsAnswer answer
      → IsAnswered (targets.Service index) call answer s (with_service index after s.table)
  service_answers index call answer before after s was responds fits in_range = record {
    before = before;
    after = after;
    of = was;
    allowed = responds.allowed;
    before_fits = fits;
    after_fits = responds.bounded;
    in_range = in_range;
    follows = follows_service G index before after call answer s.table was responds;
    asked = λ rest. service_shown_at G names.modules index before s.table was;
    left = λ rest. ap (λ (l : List (List ℕ)). record (world_shown G names rest s) { services = l }) (sym (map-set G.state (s.table).services index after));
  }

  -- the box of an object that lives
  living_for : (number : ℕ) (box : B) (table : Table B) → AreNumbered table.last table.objects → box_at number table ≡ Some box
      → box_for table [] (targets.Object number) ≡ Some box
  living_for number box table numbered was =
      let given : number ≤ table.last = (numbered.given number (box_lives number table (ap is_some was))).1 in
      let yes : nat_le number table.last ≡ true = grind (arith, nat_tests) in
      ap (λ (b : Bool). cond b (box_at number table) None) yes ∙ was

  pub object_answers : (number : ℕ) (call : HostCall) (answer : HostAnswer) (before after : B) (s : State B) → AreNumbered (s.table).last (s.table).objects
      → box_at number s.table ≡ Some before → Responds G before call answer after
      → length (G.state before) ≤ max_state_bytes → IsAnswer answer
      → IsAnswered (targets.Object number) call answer s (with_object number (with_box after) s.table)
  object_answers number call answer before after s numbered was responds fits in_range = record {
    before = before;
    after = after;
    of = living_for number before s.table numbered was;
    allowed = responds.allowed;
    before_fits = fits;
    after_fits = responds.bounded;
    in_range = in_range;
    follows = follows_object G number before after call answer s.table was responds (record_of (targets.Object number) call answer before after, (0, omega arith, refl), refl);
    asked = λ rest. ap (option_and_then hosts.state_in) (host_shown_at G names.modules number before s.table was);
    left = λ rest. ap (λ (l : LiveObjects (List ℕ)). record (world_shown G names rest s) { objects = l }) (boxed_shown G names.modules number before after s.table numbered.in_order was responds.same_kind);
  }

  -- a property that is read leaves the table
  pub property_answers : (number prop : ℕ) (answer : HostAnswer) (box : B) (s : State B) → AreNumbered (s.table).last (s.table).objects
      → box_at number s.table ≡ Some box → G.allows box (Get prop) (G.state box) answer (G.state box)
      → length (G.state box) ≤ max_state_bytes → IsAnswer answer
      → IsAnswered (targets.Object number) (Get prop) answer s s.table
  property_answers number prop answer box s numbered was allowed fits in_range = record {
    before = box;
    after = box;
    of = living_for number box s.table numbered was;
    allowed = allowed;
    before_fits = fits;
    after_fits = fits;
    in_range = in_range;
    follows = follows_bare G s.table s.table refl;
    asked = λ rest. ap (option_and_then hosts.state_in) (host_shown_at G names.modules number box s.table was);
    left = λ rest. ap (λ (l : LiveObjects (List ℕ)). record (world_shown G names rest s) { objects = l }) (same_state G names.modules number box s.table numbered.in_order was);
  }

  -- who is not there

  pub service_lacks : (index : ℕ) (s : State B) (rest : List HostRecord) → slice_get (s.table).services index ≡ None
      → hosts.state_of (targets.Service index) (world_shown G names rest s) ≡ None
  service_lacks index s rest none = slice_get-map G.state (s.table).services index ∙ ap (option_map G.state) none

  pub object_lacks : (number : ℕ) (s : State B) (rest : List HostRecord) → box_at number s.table ≡ None
      → hosts.state_of (targets.Object number) (world_shown G names rest s) ≡ None
  object_lacks number s rest none = lacks_shown_at G names.modules number s.table none
