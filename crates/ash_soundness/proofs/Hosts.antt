-- Steps that change the world, and calls of hosts.
use Rattle.std.proofs.Common.{◌≡◌, ℕ, zero, suc, Bool, true, List, [], ◌∷◌, ◌++◌, take, drop, refl, subst, slice_get, slice_set, arith}
use Rattle.std.specs.Prelude.{Option, Some, None, remove}
use Rattle.std.specs.List.{AllByRecursion}
use Rattle.std.specs.Option.{option_and_then}
use Rattle.std.proofs.lemmas.Option.{same_Some}
use Rattle.ash_host.specs.declared.word.Word.{Word}
use Rattle.ash_host.specs.declared.word.Word.TheVariants as words
use Rattle.ash_host.specs.declared.answer.HostAnswer.{HostAnswer}
use Rattle.ash_host.specs.declared.answer.HostAnswer.TheVariants as answers
use Rattle.ash_host.specs.declared.event.Event.{Event}
use Rattle.ash_host.specs.declared.event.Event.TheVariants.{Called}
use Rattle.ash_host.specs.declared.event.Target.{Target}
use Rattle.ash_host.specs.declared.event.Target.TheVariants as targets
use Rattle.ash_host.specs.Calls.{HostCall, Invoke, Get, Set}
use Rattle.ash_host.specs.Objects.{Plain, Script, Array, Host, LiveObjects, handle}
use Rattle.ash_host.specs.Records.{HostRecord, next_record}
use Rattle.ash_host.specs.Words.{IsHostWord, IsAnswer}
use Rattle.ash_host.proofs.RecordLaws.{next_record_says}
use Rattle.ash_integers.specs.declared.int_type.IntType.TheVariants as ints
use Rattle.ash_typed.specs.declared.types.VarType.{VarType}
use Rattle.ash_typed.specs.declared.types.VarType.TheVariants as vars
use Rattle.ash_typed.specs.TypeOf.{ValueType, value, as_value, value_of_result}
use Rattle.ash_typed.specs.SoundExpressions.{TypedEnvironment}
use Rattle.ash_meaning.specs.Activity.{FreeBox, World, Activity, in_world}
use Rattle.ash_meaning.specs.Classes.{Program}
use Rattle.ash_meaning.specs.HostSteps.{with_event, state_of, with_state_in, with_state, next_answer, after_answer, call_host, is_of, accept, invoke_host, get_property, set_property, without_box}
use Rattle.ash_soundness.specs.WellFormed.{Known, Context, shape_of, int, uint, int64, uint64, is_truth, is_integer, IsGiven, gives_nothing, gives, IsState, IsObject, is_host, Follows, IsWorld, IsWellFormed}
use Rattle.ash_soundness.specs.WellFormedLaws.{Goes, Offers, Leaves, done, ended, no_step, Evaluates}
use Rattle.ash_soundness.proofs.Values.{Stays, frame_stays, frames_stay}
use Rattle.ash_soundness.proofs.Changes.{world_changed, world_follows, changed_stays}
use Rattle.ash_soundness.proofs.Triples.{follows_more, bind, weaken, after_offered, chosen, safe, goes_itself, goes_more}

-- lists of states

module _ {A : Type 0} (P : A → Type 0) where
  pub rec_set : (xs : List A) (i : ℕ) (x : A) → AllByRecursion P xs → P x → AllByRecursion P (slice_set xs i x)
  rec_set [] i x h new = tt
  rec_set (y ∷ ys) zero x h new = (new, h.1)
  rec_set (y ∷ ys) (suc i) x h new = (h.0, rec_set ys i x h.1 new)

  pub rec_at : (xs : List A) (i : ℕ) (x : A) → AllByRecursion P xs → slice_get xs i ≡ Some x → P x
  rec_at [] i x h at = absurd (cc)
  rec_at (y ∷ ys) zero x h at = subst P (same_Some y x at) h.0
  rec_at (y ∷ ys) (suc i) x h at = rec_at ys i x h.1 at

  rec_take : (n : ℕ) (xs : List A) → AllByRecursion P xs → AllByRecursion P (take n xs)
  rec_take zero xs h = tt
  rec_take (suc n) [] h = tt
  rec_take (suc n) (x ∷ xs) h = (h.0, rec_take n xs h.1)

  rec_drop : (n : ℕ) (xs : List A) → AllByRecursion P xs → AllByRecursion P (drop n xs)
  rec_drop zero xs h = h
  rec_drop (suc n) [] h = tt
  rec_drop (suc n) (x ∷ xs) h = rec_drop n xs h.1

  rec_append : (xs ys : List A) → AllByRecursion P xs → AllByRecursion P ys → AllByRecursion P (xs ++ ys)
  rec_append [] ys h more = more
  rec_append (x ∷ xs) ys h more = (h.0, rec_append xs ys h.1 more)

  pub rec_remove : (xs : List A) (i : ℕ) → AllByRecursion P xs → AllByRecursion P (remove xs i)
  rec_remove xs i h = rec_append (take i xs) (drop (suc i) xs) (rec_take i xs h) (rec_drop (suc i) xs h)

-- worlds with other states of hosts

module _ {c : Context} {w : World} (h : IsWorld c w) where
  pub with_answers : (next : HostRecord) (left : List HostRecord) → w.answers ≡ next ∷ left → IsWorld c (record w { answers = left }) × IsState next.after × IsAnswer next.answer
  with_answers next left e =
      let all : AllByRecursion (λ (r : HostRecord). IsState r.after × IsAnswer r.answer) (next ∷ left) = subst (AllByRecursion (λ (r : HostRecord). IsState r.after × IsAnswer r.answer)) e (h.states).answers in (
        record {
          numbered = h.numbered;
          last = h.last;
          few = h.few;
          living = h.living;
          offered = h.offered;
          globals = h.globals;
          outside = h.outside;
          states = record { services = (h.states).services; pool = (h.states).pool; answers = all.1 };
        },
        (all.0).0,
        (all.0).1,
      )

  pub with_note : (event : Event) → IsWorld c (with_event event w)
  with_note event = record {
    numbered = h.numbered;
    last = h.last;
    few = h.few;
    living = h.living;
    offered = h.offered;
    globals = h.globals;
    outside = h.outside;
    states = record { services = (h.states).services; pool = (h.states).pool; answers = (h.states).answers };
  }

  pub with_fewer_boxes : (place : ℕ) → IsWorld c (without_box place w)
  with_fewer_boxes place = record {
    numbered = h.numbered;
    last = h.last;
    few = h.few;
    living = h.living;
    offered = h.offered;
    globals = h.globals;
    outside = h.outside;
    states = record { services = (h.states).services; pool = rec_remove (λ (box : FreeBox). IsState box.state) w.pool place (h.states).pool; answers = (h.states).answers };
  }

  with_service : (index : ℕ) (state : List ℕ) → IsState state → IsWorld c (record w { services = slice_set w.services index state })
  with_service index state fits = record {
    numbered = h.numbered;
    last = h.last;
    few = h.few;
    living = h.living;
    offered = h.offered;
    globals = h.globals;
    outside = h.outside;
    states = record { services = rec_set IsState w.services index state (h.states).services fits; pool = (h.states).pool; answers = (h.states).answers };
  }

state_object : {modules : Known} {all : LiveObjects (List ℕ)} (state : List ℕ) (o : Plain (List ℕ)) → IsState state → IsObject modules all o → IsObject modules all (with_state_in state o)
state_object state (Script owner place fields) fits h = h
state_object state (Array of elements) fits h = h
state_object state (Host kind old) fits h = is_host fits

state_shape : (state : List ℕ) (o : Plain (List ℕ)) → shape_of (with_state_in state o) ≡ shape_of o
state_shape state (Script owner place fields) = refl
state_shape state (Array of elements) = refl
state_shape state (Host kind old) = refl

module _ {c : Context} where
  state_world : {w : World} (target : Target) (state : List ℕ) → IsState state → IsWorld c w → IsWorld c (with_state target state w)
  state_world (targets.Object number) state fits h = world_changed number (with_state_in state) (state_shape state) h (λ o at. state_object state o fits ((h.living).each number o at))
  state_world (targets.Service index) state fits h = with_service h index state fits

  state_follows : {w : World} (target : Target) (state : List ℕ) → IsWorld c w → Follows w (with_state target state w)
  state_follows (targets.Object number) state h = world_follows number (with_state_in state) (state_shape state) h
  state_follows {w} (targets.Service index) state h = record { last = omega arith; shapes = λ n shape le e. e; outside = refl }

state_stays : (w : World) (target : Target) (state : List ℕ) (n : ℕ) → Stays w.objects (with_state target state w).objects n
state_stays w (targets.Object number) state n = changed_stays number (with_state_in state) (state_shape state) w.objects n
state_stays w (targets.Service index) state n = record { stays = λ shape e. e }

answers_from : (target : Target) (call : HostCall) (w : World) (taken : HostRecord × List HostRecord) (o : Option (List ℕ)) → option_and_then (λ before. next_record target call before w.answers) o ≡ Some taken → w.answers ≡ taken.0 ∷ taken.1
answers_from target call w taken None e = absurd (cc)
answers_from target call w taken (Some before) e = (next_record_says target call before w.answers taken.0 taken.1 e).first

primitive_given : {p : Program} {all : LiveObjects (List ℕ)} (of : VarType) (w : Word) → is_of of w ≡ true → IsHostWord w → IsGiven p all (value (as_value of)) w
primitive_given vars.Bool (words.Bool b) e f = gives is_truth
primitive_given (vars.Integer ints.Int) (words.Int n) e f = gives (is_integer (int f))
primitive_given (vars.Integer ints.Uint) (words.Uint n) e f = gives (is_integer (uint f))
primitive_given (vars.Integer ints.Int64) (words.Int64 n) e f = gives (is_integer (int64 f))
primitive_given (vars.Integer ints.Uint64) (words.Uint64 n) e f = gives (is_integer (uint64 f))
primitive_given _ _ e f = absurd (cc)

no_handle : (of : VarType) (w : Word) (n : ℕ) → is_of of w ≡ true → handle w ≡ Some n → ⊥
no_handle vars.Bool (words.Object number) n e at = cc
no_handle (vars.Integer ints.Int) (words.Object number) n e at = cc
no_handle (vars.Integer ints.Uint) (words.Object number) n e at = cc
no_handle (vars.Integer ints.Int64) (words.Object number) n e at = cc
no_handle (vars.Integer ints.Uint64) (words.Object number) n e at = cc
no_handle (vars.Object o) (words.Object number) n e at = cc
no_handle (vars.Handle o) (words.Object number) n e at = cc
no_handle of _ n e at = cc

-- a host answered
pub record IsAnswered (c : Context) (env : TypedEnvironment) (envs : List TypedEnvironment) (a : Activity) (answer : HostAnswer) (b : Activity) : Type 0 where
  pub goes : Goes c env envs a b
  pub fits : IsAnswer answer

module _ {c : Context} {env : TypedEnvironment} {envs : List TypedEnvironment} where
  -- a step that changes the world alone
  pub world_goes : {a : Activity} (how : World → World) → IsWellFormed c env envs a → IsWorld c (how a.world) → Follows a.world (how a.world) → ((n : ℕ) → Stays (a.world).objects (how a.world).objects n) → Goes c env envs a (in_world how a)
  world_goes how h world follows stay = record {
    passes = record {
      well = record {
        world = world;
        since = follows_more h.since follows;
        frame = frame_stays (λ n _. stay n) h.frame;
        callers = frames_stay (λ n _. stay n) h.callers;
        few = h.few;
      };
      follows = follows;
      this = refl;
      callers = refl;
    };
    held = λ n i. i;
  }

  pub well_after : {a b : Activity} → Goes c env envs a b → IsWellFormed c env envs b
  well_after g = (g.passes).well

  pub evaluates_after : {a b d : Activity} {of : ValueType} {w : Word} → Goes c env envs a b → Evaluates c env envs of b w d → Evaluates c env envs of a w d
  evaluates_after g e = record { goes = goes_more g e.goes; carried = e.carried }

  pub note_goes : {a : Activity} (event : Event) → IsWellFormed c env envs a → Goes c env envs a (in_world (with_event event) a)
  note_goes event h = world_goes (with_event event) h (with_note h.world event) (record { last = omega arith; shapes = λ n shape le e. e; outside = refl }) (λ n. record { stays = λ shape e. e })

  -- a call of a host
  pub call_host_goes : {a : Activity} → Offers c.host → (target : Target) (call : HostCall) → IsWellFormed c env envs a → Leaves c (IsAnswered c env envs a) (call_host target call a)
  call_host_goes {a} offers target call h =
      after_offered _ (next_answer target call a.world) a offers (λ taken e.
      let two = with_answers h.world taken.0 taken.1 (answers_from target call a.world taken (state_of target a.world) e) in
      let follows = state_follows target (taken.0).after two.0 in
      done (record {
        goes = world_goes (after_answer target taken.0 taken.1) h (state_world target (taken.0).after two.1 two.0) (record { last = follows.last; shapes = follows.shapes; outside = follows.outside }) (state_stays (record a.world { answers = taken.1 }) target (taken.0).after);
        fits = two.2;
      }))

  -- what is made of an answer

  pub accept_gives : {a : Activity} → Offers c.host → (result : Option VarType) (answer : HostAnswer) → IsAnswer answer → IsWellFormed c env envs a → Leaves c (Evaluates c env envs (value_of_result result) a) (accept result answer a)
  accept_gives offers None answers.Nothing fits h = done (record { goes = goes_itself h; carried = record { value = gives_nothing; held = λ n e. absurd (cc) } })
  accept_gives offers (Some of) answers.Nothing fits h = ended (safe h)
  accept_gives offers None (answers.Value w) fits h = ended (safe h)
  accept_gives {a} offers (Some of) (answers.Value w) fits h =
      chosen _ _ (is_of of w) a (λ yes. done (record {
        goes = goes_itself h;
        carried = record { value = primitive_given of w yes fits; held = λ n e. absurd (no_handle of w n yes e) };
      })) (λ no. ended (safe h))
  accept_gives offers None (answers.Raise code) fits h = ended (safe h)
  accept_gives offers (Some of) (answers.Raise code) fits h = ended (safe h)
  accept_gives offers None answers.NoMemory fits h = no_step offers
  accept_gives offers (Some of) answers.NoMemory fits h = no_step offers

  pub invoke_host_gives : {a : Activity} → Offers c.host → (target : Target) (id : ℕ) (result : Option VarType) (args : List Word) → IsWellFormed c env envs a → Leaves c (Evaluates c env envs (value_of_result result) a) (invoke_host target id result args a)
  invoke_host_gives offers target id result args h =
      bind (call_host_goes offers target (Invoke id args) h) (λ answer b g.
      let noted = note_goes (Called target id) (well_after g.goes) in
      weaken (λ w d e. evaluates_after (goes_more g.goes noted) e) (accept_gives offers result answer g.fits (well_after noted)))

  pub get_property_gives : {a : Activity} → Offers c.host → (number id : ℕ) (of : VarType) → IsWellFormed c env envs a → Leaves c (Evaluates c env envs (value (as_value of)) a) (get_property number id of a)
  get_property_gives offers number id of h =
      bind (call_host_goes offers (targets.Object number) (Get id) h) (λ answer b g.
      weaken (λ w d e. evaluates_after g.goes e) (accept_gives offers (Some of) answer g.fits (well_after g.goes)))

  pub set_property_goes : {a : Activity} → Offers c.host → (number id : ℕ) (word : Word) → IsWellFormed c env envs a → Leaves c (λ none b. Goes c env envs a b) (set_property number id word a)
  set_property_goes offers number id word h =
      bind (bind (call_host_goes offers (targets.Object number) (Set id word) h) (λ answer b g.
      weaken (λ w d e. evaluates_after g.goes e) (accept_gives offers None answer g.fits (well_after g.goes)))) (λ w d e. done e.goes)
