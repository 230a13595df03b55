-- What a caller holds after a call: what it held, and the value.
use Rattle.std.proofs.Common.{◌≡◌, ◌∙◌, ◌+◌, ℕ, Bool, true, false, List, [], ◌∷◌, length, replicate, refl, sym, ap, subst, nat_lt, nat_le, slice_get, Option, Some, None, if◌then◌else◌}
use Rattle.std.specs.Option.{option_and_then}
use Rattle.ash_host.specs.declared.word.Word.{Word}
use Rattle.ash_host.specs.declared.word.Word.TheVariants as words
use Rattle.ash_host.specs.declared.answer.HostAnswer.{HostAnswer}
use Rattle.ash_host.specs.declared.answer.HostAnswer.TheVariants as answers
use Rattle.ash_host.specs.declared.event.Event.{Event}
use Rattle.ash_host.specs.declared.event.Event.TheVariants.{Drew, Called}
use Rattle.ash_host.specs.declared.event.Target.{Target}
use Rattle.ash_host.specs.declared.event.Target.TheVariants as hosts
use Rattle.ash_host.specs.Calls.{HostCall, Start, Invoke}
use Rattle.ash_host.specs.Objects.{Plain, Array, Host, Elements, object_at, handles}
use Rattle.ash_host.specs.Records.{HostRecord}
use Rattle.ash_host.specs.Limits.{max_objects, max_elements}
use Rattle.ash_host.proofs.NumberLaws.{put_next}
use Rattle.ash_integers.specs.declared.int_type.IntType.TheVariants as ints
use Rattle.ash_typed.specs.declared.types.VarType.{VarType}
use Rattle.ash_typed.specs.declared.types.VarType.TheVariants as vars
use Rattle.ash_typed.specs.declared.tree.operations.Method.{Method}
use Rattle.ash_typed.specs.declared.tree.operations.Method.TheVariants as methods
use Rattle.ash_typed.specs.declared.tree.operations.CallTarget.{CallTarget}
use Rattle.ash_typed.specs.declared.tree.operations.CallTarget.TheVariants as targets
use Rattle.ash_meaning.specs.declared.exception.Exception.{Exception}
use Rattle.ash_meaning.specs.declared.exception.Exception.TheVariants.{StackOverflow, ObjectLimit, NumbersSpent, ArrayLimit, PoolEmpty, BadHostAnswer, Raised}
use Rattle.ash_meaning.specs.Activity.{World, Frame, Activity, in_frame, in_world}
use Rattle.ash_meaning.specs.Runs.{Progress, Done, Run, give, ◌>>=◌, ◌>>◌, look, change, raise, demand, found}
use Rattle.ash_meaning.specs.Releases.{holding, hold, release}
use Rattle.ash_meaning.specs.Frames.{max_frames, demand_frame, tick, back_in, leave, in_frame_of}
use Rattle.ash_meaning.specs.ObjectSteps.{max_number, demand_number, make}
use Rattle.ash_meaning.specs.HostSteps.{with_event, note, with_state_in, next_answer, after_answer, call_host, is_of, accept, invoke_host, place_of_kind, without_box, box_in, draw}
use Rattle.ash_meaning.specs.ArraySteps.{zero_element, count_in, construct_array}
use Rattle.ash_meaning.specs.Classes.{Program, class_of, implemented, element_of, ModuleCallee, FreeFunction, Method as ClassMethod, Construction, entry_of}
use Rattle.ash_meaning.specs.CallMeaning.{Calls, value_or_null, blank, call, construct, call_through, invoke, call_target}
use Rattle.ash_meaning.specs.Functions.{calls_within}
use Rattle.ash_meaning.specs.Traces.{after_release}
use Rattle.ash_release_laws.specs.Settling.{AtTheValue, IsNumbered, IsSettled}
use Rattle.ash_release_laws.specs.Held.{HoldsItsValue, IsNoArrayMethod, CallsHoldOnlyTheirValue}
use Rattle.ash_release_laws.proofs.Roots.{changed_numbered}
use Rattle.ash_release_laws.proofs.Settling.{Goes, Comes, done, ended, no_way, Settling, Anything, bound, followed, given, outer}
use Rattle.ash_release_laws.proofs.StepSettling.{to_tick}
use Rattle.ash_release_laws.proofs.PhraseSettling.{entered_at, to_body}
use Rattle.ash_release_laws.proofs.Tidy.{at_value, at_bind}

-- the frames are as they were

record Untouched (a b : Activity) : Type 0 where
  pub numbered : IsNumbered b
  pub frame : b.frame ≡ a.frame
  pub callers : b.callers ≡ a.callers

record Quiet {A : Type 0} (r : Run A) : Type 0 where
  pub comes : (a : Activity) → IsNumbered a → AtTheValue (λ (v : A) b. Untouched a b) (r a)

record Calling (r : Run Word) : Type 0 where
  pub comes : (a : Activity) → IsNumbered a → AtTheValue (HoldsItsValue a) (r a)

untouched_on : {a b c : Activity} → Untouched a b → Untouched b c → Untouched a c
untouched_on s t = record { numbered = t.numbered; frame = t.frame ∙ s.frame; callers = t.callers ∙ s.callers }

holds_on : {a b c : Activity} {w : Word} → Untouched a b → HoldsItsValue b w c → HoldsItsValue a w c
holds_on {w = w} s h = record { frame = h.frame ∙ ap (λ (f : Frame). holding (handles (w ∷ [])) f) s.frame; callers = h.callers ∙ s.callers }

quiet_then : {A B : Type 0} {r : Run A} {f : A → Run B} → Quiet r → ((v : A) → Quiet (f v)) → Quiet (r >>= f)
quiet_then {r = r} {f = f} hr h = record {
  comes = λ a numbered. at_bind _ f (r a) (hr.comes a numbered) (λ v b s. at_value (f v b) (λ w c t. untouched_on s t) ((h v).comes b s.numbered));
}

quiet_before : {A B : Type 0} {r : Run A} {q : Run B} → Quiet r → Quiet q → Quiet (r >> q)
quiet_before {q = q} hr h = quiet_then {f = λ _. q} hr (λ _. h)

calls_then : {A : Type 0} {r : Run A} {f : A → Run Word} → Quiet r → ((v : A) → Calling (f v)) → Calling (r >>= f)
calls_then {r = r} {f = f} hr h = record {
  comes = λ a numbered. at_bind _ f (r a) (hr.comes a numbered) (λ v b s. at_value (f v b) (λ w c t. holds_on s t) ((h v).comes b s.numbered));
}

calls_after : {A : Type 0} {r : Run A} {q : Run Word} → Quiet r → Calling q → Calling (r >> q)
calls_after {q = q} hr h = calls_then {f = λ _. q} hr (λ _. h)

untouched : (a : Activity) → IsNumbered a → Untouched a a
untouched a numbered = record { numbered = numbered; frame = refl; callers = refl }

quiet_look : {A : Type 0} (what : Activity → A) → Quiet (look what)
quiet_look what = record { comes = λ a numbered. untouched a numbered }

quiet_found : {A : Type 0} (o : Option A) → Quiet (found o)
quiet_found (Some v) = record { comes = λ a numbered. untouched a numbered }
quiet_found None = record { comes = λ a numbered. tt }

quiet_demand : (b : Bool) (x : Exception) → Quiet (demand b x)
quiet_demand true x = record { comes = λ a numbered. untouched a numbered }
quiet_demand false x = record { comes = λ a numbered. tt }

quiet_frame : Quiet demand_frame
quiet_frame = quiet_then (quiet_look (λ a. nat_lt (length a.callers + 1) max_frames)) (λ b. quiet_demand b StackOverflow)

quiet_number : Quiet demand_number
quiet_number = quiet_then (quiet_before (quiet_then (quiet_look (λ a. nat_lt (length a.world.objects) max_objects)) (λ b. quiet_demand b ObjectLimit)) (quiet_look (λ a. nat_lt a.world.last max_number))) (λ b. quiet_demand b NumbersSpent)

quiet_make : (object : Plain (List ℕ)) → Quiet (make object)
quiet_make object = record { comes = λ a numbered. record { numbered = put_next (a.world).last object (a.world).objects numbered; frame = refl; callers = refl } }

-- hosts

answer_numbered : (target : Target) (next : HostRecord) (left : List HostRecord) (a : Activity) → IsNumbered a → IsNumbered (in_world (after_answer target next left) a)
answer_numbered (hosts.Object number) next left a numbered = changed_numbered number (with_state_in next.after) (a.world).objects (a.world).last numbered
answer_numbered (hosts.Service index) next left a numbered = numbered

quiet_world : (how : World → World) → ((a : Activity) → IsNumbered a → IsNumbered (in_world how a)) → Quiet (change (in_world how))
quiet_world how numbers = record { comes = λ a numbered. record { numbered = numbers a numbered; frame = refl; callers = refl } }

quiet_give : {A : Type 0} (v : A) → Quiet (give v)
quiet_give v = record { comes = λ a numbered. untouched a numbered }

quiet_raise : {A : Type 0} (x : Exception) → Quiet (raise {A = A} x)
quiet_raise x = record { comes = λ a numbered. tt }

quiet_call : (target : Target) (call : HostCall) → Quiet (call_host target call)
quiet_call target call =
    quiet_then (quiet_then (quiet_look (λ a. next_answer target call a.world)) quiet_found)
    (λ taken. quiet_before (quiet_world (after_answer target taken.0 taken.1) (answer_numbered target taken.0 taken.1)) (quiet_give (taken.0).answer))

quiet_note : (event : Event) → Quiet (note event)
quiet_note event = quiet_world (with_event event) (λ a numbered. numbered)

quiet_none : (answer : HostAnswer) → Quiet (accept None answer)
quiet_none answers.Nothing = quiet_give words.Null
quiet_none (answers.Value word) = quiet_raise BadHostAnswer
quiet_none (answers.Raise code) = quiet_raise (Raised code)
quiet_none answers.NoMemory = record { comes = λ a numbered. tt }

calling_raise : (x : Exception) → Calling (raise x)
calling_raise x = record { comes = λ a numbered. tt }

-- a value that is no handle
calling_plain : (w : Word) → handles (w ∷ []) ≡ [] → Calling (give w)
calling_plain w none = record { comes = λ a numbered. record { frame = ap (λ (ns : List ℕ). holding ns a.frame) (sym none); callers = refl } }

calling_either : {r q : Run Word} (b : Bool) → Calling r → Calling q → Calling (if b then r else q)
calling_either true h k = h
calling_either false h k = k

not_object : (of : VarType) (n : ℕ) → is_of of (words.Object n) ≡ false
not_object vars.Bool n = refl
not_object (vars.Integer ints.Int) n = refl
not_object (vars.Integer ints.Uint) n = refl
not_object (vars.Integer ints.Int64) n = refl
not_object (vars.Integer ints.Uint64) n = refl
not_object (vars.Object o) n = refl
not_object (vars.Handle o) n = refl

abbrev word_or_raise : VarType → Word → Run Word
word_or_raise of w = if is_of of w then give w else raise BadHostAnswer

calling_word : (of : VarType) (w : Word) → Calling (word_or_raise of w)
calling_word of (words.Bool b) = calling_either (is_of of (words.Bool b)) (calling_plain (words.Bool b) refl) (calling_raise BadHostAnswer)
calling_word of (words.Int k) = calling_either (is_of of (words.Int k)) (calling_plain (words.Int k) refl) (calling_raise BadHostAnswer)
calling_word of (words.Uint k) = calling_either (is_of of (words.Uint k)) (calling_plain (words.Uint k) refl) (calling_raise BadHostAnswer)
calling_word of (words.Int64 k) = calling_either (is_of of (words.Int64 k)) (calling_plain (words.Int64 k) refl) (calling_raise BadHostAnswer)
calling_word of (words.Uint64 k) = calling_either (is_of of (words.Uint64 k)) (calling_plain (words.Uint64 k) refl) (calling_raise BadHostAnswer)
calling_word of words.Null = calling_either (is_of of words.Null) (calling_plain words.Null refl) (calling_raise BadHostAnswer)
calling_word of (words.Object n) = subst (λ (b : Bool). Calling (if b then give (words.Object n) else raise BadHostAnswer)) (sym (not_object of n)) (calling_raise BadHostAnswer)

calling_accept : (result : Option VarType) (answer : HostAnswer) → Calling (accept result answer)
calling_accept None answers.Nothing = calling_plain words.Null refl
calling_accept (Some of) answers.Nothing = calling_raise BadHostAnswer
calling_accept None (answers.Value word) = calling_raise BadHostAnswer
calling_accept (Some of) (answers.Value word) = calling_word of word
calling_accept None (answers.Raise code) = calling_raise (Raised code)
calling_accept (Some of) (answers.Raise code) = calling_raise (Raised code)
calling_accept None answers.NoMemory = record { comes = λ a numbered. tt }
calling_accept (Some of) answers.NoMemory = record { comes = λ a numbered. tt }

calling_host : (target : Target) (id : ℕ) (result : Option VarType) (args : List Word) → Calling (invoke_host target id result args)
calling_host target id result args = calls_then (quiet_call target (Invoke id args)) (λ answer. calls_after (quiet_note (Called target id)) (calling_accept result answer))

quiet_box : (world : World) (place : Option ℕ) → Quiet (box_in world place)
quiet_box world None = quiet_raise PoolEmpty
quiet_box world (Some place) = quiet_then (quiet_found (slice_get world.pool place)) (λ box. quiet_give (place, box))

quiet_draw : (kind : ℕ) → Quiet (draw kind)
quiet_draw kind =
    quiet_then (quiet_then (quiet_before quiet_number (quiet_then (quiet_look (λ a. a.world)) (λ world. quiet_box world (place_of_kind kind world))))
    (λ box. quiet_before (quiet_world (without_box box.0) (λ a numbered. numbered)) (quiet_make (Host (box.1).kind (box.1).state))))
    (λ number. quiet_before (quiet_note (Drew number)) (quiet_give number))

-- a new object is held before it is started
calling_start : (number : ℕ) (args : List Word) → Calling (hold (words.Object number) >> call_host (hosts.Object number) (Start args) >>= accept None >> give (words.Object number))
calling_start number args = record {
  comes = λ a numbered. at_bind _ (λ _. give (words.Object number)) ((call_host (hosts.Object number) (Start args) >>= accept None) (in_frame (holding (number ∷ [])) a))
      (started.comes (in_frame (holding (number ∷ [])) a) numbered) (λ v b u. record { frame = u.frame; callers = u.callers });
}
  where
    started : Quiet (call_host (hosts.Object number) (Start args) >>= accept None)
    started = quiet_then (quiet_call (hosts.Object number) (Start args)) quiet_none

calling_array : (of : Elements (List ℕ)) (args : List Word) → Calling (construct_array of args)
calling_array of args =
    calls_then (quiet_before (quiet_before quiet_number (quiet_demand (nat_le (count_in args) max_elements) ArrayLimit)) (quiet_make (Array of (replicate (count_in args) (zero_element of)))))
    (λ number. record { comes = λ a numbered. record { frame = refl; callers = refl } })

-- frames that are entered and left

-- the value passes into what the caller holds, and all else of the frame is given up
frame_left : (a z : Activity) (w : Word) → z.callers ≡ a.frame ∷ a.callers → AtTheValue (HoldsItsValue a) (leave w z)
unfolding leave release
frame_left a z w same = subst (λ (cs : List Frame). AtTheValue (HoldsItsValue a) (Done w (after_release (back_in cs w z)))) (sym same) (record { frame = refl; callers = refl })

callers_of : {A : Type 0} {a : Activity} {P : Type 0} {Q : A → Activity → Type 0} {q : Progress A} → Comes P (λ (v : A) b. Goes false P (Q v b) a b) q → AtTheValue (λ (v : A) b. b.callers ≡ a.callers) q
callers_of (done g) = (g.kept).callers
callers_of (ended s) = tt
callers_of no_way = tt

calling_frame : (name : List ℕ) (line : ℕ) (of : Word) (args : List Word) {r : Run Word} → Settling false IsSettled (λ (v : Word). Anything) r → Calling (in_frame_of name line of args r)
calling_frame name line of args {r} h = record {
  comes = λ a numbered. at_bind _ leave ((tick line >> r) (entered_at name line of args a)) (callers_of (run.comes (entered_at name line of args a) numbered)) (λ w z same. frame_left a z w same);
}
  where
    run : Settling false IsSettled (λ (v : Word). Anything) (tick line >> r)
    run = followed (outer (to_tick line)) h

module _ (p : Program) (d : ℕ) where
  abbrev c : Calls
  c = calls_within p d

  a_call : (callee : ModuleCallee) (this : Word) (args : List Word) → Calling (call c callee this args)
  a_call callee this args = calls_then (quiet_found (entry_of p.tree callee)) (λ e. calls_after quiet_frame (calling_frame e.name e.line this args (bound (to_body p d e) (λ value. given (value_or_null value) (λ a s. s)))))

  a_construction : (class : ℕ) (args : List Word) → Calling (construct c class args)
  a_construction class args =
      calls_then (quiet_found (entry_of p.tree (Construction class))) (λ e. calls_then (quiet_found (slice_get (p.tree).classes class)) (λ k. calls_then (quiet_before (quiet_before quiet_frame quiet_number) (quiet_make (blank p class k)))
      (λ number. calling_frame e.name e.line (words.Object number) args (bound (to_body p d e) (λ _. given (words.Object number) (λ a s. s))))))

  through : (interface method number : ℕ) (args : List Word) → Calling (call_through c interface method number args)
  through interface method number args = calls_then (quiet_then (quiet_look (λ a. option_and_then (class_of p) (object_at number a.world.objects))) quiet_found) (λ class. calls_then (quiet_found (implemented p.tree interface method class)) (λ own. a_call (ClassMethod class own) (words.Object number) args))

  a_target : (target : CallTarget) (args : List Word) → Calling (call_target c target args)
  a_target (targets.Function function result) args = a_call (FreeFunction function) words.Null args
  a_target (targets.Service service id result) args = calling_host (hosts.Service service) id result args
  a_target (targets.Class class) args = a_construction class args
  a_target (targets.Host kind) args = calls_then (quiet_draw kind) (λ number. calling_start number args)
  a_target (targets.Array of) args = calling_array (element_of p of) args

  a_method : (method : Method) (number : ℕ) (args : List Word) → IsNoArrayMethod method → Calling (invoke c method number args)
  a_method (methods.Script class method result) number args is = a_call (ClassMethod class method) (words.Object number) args
  a_method (methods.Interface interface method result) number args is = through interface method number args
  a_method (methods.Host id result) number args is = calling_host (hosts.Object number) id result args
  a_method (methods.Array method) number args is = absurd is

  pub calls_hold_their_value : CallsHoldOnlyTheirValue p d
  calls_hold_their_value = record {
    calls = λ callee this args. (a_call callee this args).comes;
    constructions = λ class args. (a_construction class args).comes;
    targets = λ target args. (a_target target args).comes;
    methods = λ method number args is. (a_method method number args is).comes;
  }
