-- Steps that call nothing of a script take the first of the answers.
use Rattle.std.proofs.Common.{◌≡◌, ◌+◌, ◌-◌, ◌==◌, ◌∙◌, refl, ap, ℕ, Bool, true, false, cond, nat_lt, nat_le, List, [], ◌∷◌, ◌++◌, length, take, drop, replicate, slice_get, slice_set, Option, Some, None, unwrap_or, sym, subst, Ok, Err, Result}
use Rattle.std.specs.Option.{option_map_or, option_and_then}
use Rattle.ash_host.specs.declared.word.Word.{Word}
use Rattle.ash_host.specs.declared.word.Word.TheVariants as words
use Rattle.ash_host.specs.declared.answer.HostAnswer.{HostAnswer}
use Rattle.ash_host.specs.declared.answer.HostAnswer.TheVariants as answers
use Rattle.ash_host.specs.declared.event.Event.{Event}
use Rattle.ash_host.specs.declared.event.Event.TheVariants.{Drew, Called}
use Rattle.ash_host.specs.declared.event.Target.{Target}
use Rattle.ash_host.specs.declared.event.Target.TheVariants as targets
use Rattle.ash_host.specs.Calls.{HostCall, Start, Invoke, Get, Set}
use Rattle.ash_host.specs.Limits.{max_objects, max_elements}
use Rattle.ash_host.specs.Objects.{Plain, Array, Host, Elements, object_at}
use Rattle.ash_host.specs.Records.{HostRecord, is_of as is_record_of, next_record}
use Rattle.ash_integers.specs.declared.arithmetic.DivisionFault.{DivisionFault}
use Rattle.ash_integers.specs.declared.arithmetic.DivisionFault.TheVariants as faults
use Rattle.ash_integers.specs.declared.int_type.IntType.{IntType}
use Rattle.ash_typed.specs.declared.types.ObjectType.{ObjectType}
use Rattle.ash_typed.specs.declared.types.VarType.{VarType}
use Rattle.ash_typed.specs.declared.tree.operations.ArrayMethod.{ArrayMethod}
use Rattle.ash_typed.specs.declared.tree.operations.ArrayMethod.TheVariants as methods
use Rattle.ash_typed.specs.declared.tree.operations.Calculation.{Calculation}
use Rattle.ash_typed.specs.declared.tree.operations.Operation.{Operation}
use Rattle.ash_typed.specs.declared.tree.operations.Operation.TheVariants as operations
use Rattle.ash_typed.specs.declared.tree.operations.IncrementOp.{IncrementOp}
use Rattle.ash_meaning.specs.declared.exception.Exception.TheVariants.{StackOverflow, ObjectLimit, NumbersSpent, IndexOutOfBounds, ArrayLimit}
use Rattle.ash_meaning.specs.Activity.{FreeBox, World, Frame, Activity, in_frame, in_world}
use Rattle.ash_meaning.specs.Runs.{Done, Run, give, onward, ◌>>◌, change, found}
use Rattle.ash_meaning.specs.Releases.{hold_all, give_held, release, let_go, end_expression, full, count_locals, declare, leave_blocks, sweep}
use Rattle.ash_meaning.specs.Frames.{max_frames, demand_frame, enter, back_in, leave}
use Rattle.ash_meaning.specs.ObjectSteps.{object_of, words_at, put_words, max_number, demand_number, with_new, make}
use Rattle.ash_meaning.specs.HostSteps.{note, state_of, next_answer, after_answer, call_host, accept, invoke_host, get_property, set_property, place_of_kind, without_box, box_in, box_of_kind, draw, construct_host, is_of}
use Rattle.ash_meaning.specs.OperatorMeaning.{calculated_by, converted_to, counted, given_by, give_or_raise, calculate, operate}
use Rattle.ash_meaning.specs.Locations.{Location, Local, Global, Part, Property, with_local, with_global, read, overwrite, write}
use Rattle.ash_meaning.specs.ArraySteps.{zero_element, natural_of, count_in, zero_in, resized, index_in, construct_array, zero_at, resize, insert_last, remove_last, length_of, invoke_array}
use Rattle.ash_meaning.specs.Classes.{Program}
use Rattle.ash_meaning.specs.CallMeaning.{cast}
use Rattle.ash_meaning.specs.ExpressionMeaning.{store, update, count_at, element_at}
use Rattle.ash_answer_laws.specs.TakenAnswers.{with_answers, activity_with_answers, TakesTheFirst}
use Rattle.ash_answer_laws.proofs.Taking.{takes_these, takes_none}
use Rattle.ash_answer_laws.proofs.Leaving.{Leaves, bound, followed, given, looked, changed, raised, nowhere, chosen_by, demanded}

-- a frame that is left leaves the answers as they are
back_with : (callers : List Frame) (result : Word) (x : List HostRecord) (a : Activity) → back_in callers result (activity_with_answers x a) ≡ activity_with_answers x (back_in callers result a)
back_with [] result x a = refl
back_with (caller ∷ callers) result x a = refl

-- hosts

module _ (target : Target) (call : HostCall) where
  -- The next record is taken, and with others behind it these are left.
  abbrev TakesNext : (List HostRecord → Option (HostRecord × List HostRecord)) → List HostRecord → HostRecord → List HostRecord → Type 0
  TakesNext from records next left = (records ≡ next ∷ left) × ((rest : List HostRecord) → from (next ∷ rest) ≡ Some (next, rest))

  if_of : (before : List ℕ) (next first : HostRecord) (left others : List HostRecord) (b : Bool) → is_record_of target call before first ≡ b → cond {A = Option (HostRecord × List HostRecord)} b (Some (first, others)) None ≡ Some (next, left) → TakesNext (next_record target call before) (first ∷ others) next left
  if_of before next first left others true is e =
      let both : (first, others) ≡ (next, left) = ap (λ (o : Option (HostRecord × List HostRecord)). unwrap_or o (first, others)) e in
      let one : first ≡ next = ap (λ (p : HostRecord × List HostRecord). p.0) both in
      let rest : others ≡ left = ap (λ (p : HostRecord × List HostRecord). p.1) both in (
        ap (λ (x : HostRecord). x ∷ others) one ∙ ap (λ (xs : List HostRecord). next ∷ xs) rest,
        λ behind. ap (λ (b : Bool). cond {A = Option (HostRecord × List HostRecord)} b (Some (next, behind)) None) (subst (λ (x : HostRecord). is_record_of target call before x ≡ true) one is),
      )
  if_of before next first left others false is e = absurd (cc)

  record_taken : (before : List ℕ) (records left : List HostRecord) (next : HostRecord) → next_record target call before records ≡ Some (next, left) → TakesNext (next_record target call before) records next left
  record_taken before [] left next e = absurd (cc)
  record_taken before (first ∷ others) left next e = if_of before next first left others (is_record_of target call before first) refl e

  at_state : (records left : List HostRecord) (next : HostRecord) (state : Option (List ℕ)) → option_and_then (λ before. next_record target call before records) state ≡ Some (next, left) → TakesNext (λ rs. option_and_then (λ before. next_record target call before rs) state) records next left
  at_state records left next None e = absurd (cc)
  at_state records left next (Some before) e = record_taken before records left next e

state_with : (target : Target) (x : List HostRecord) (world : World) → state_of target (with_answers x world) ≡ state_of target world
state_with (targets.Object number) x world = refl
state_with (targets.Service index) x world = refl

answer_with : (target : Target) (call : HostCall) (x : List HostRecord) (world : World) → next_answer target call (with_answers x world) ≡ option_and_then (λ before. next_record target call before x) (state_of target world)
answer_with target call x world = ap (λ (state : Option (List ℕ)). option_and_then (λ before. next_record target call before x) state) (state_with target x world)

-- what the host did stays, whatever is left
stays_with : (target : Target) (next : HostRecord) (x rest left : List HostRecord) (world : World) → after_answer target next rest (with_answers x world) ≡ with_answers rest (after_answer target next left world)
stays_with (targets.Object number) next x rest left world = refl
stays_with (targets.Service index) next x rest left world = refl

left_after : (target : Target) (next : HostRecord) (left : List HostRecord) (world : World) → (after_answer target next left world).answers ≡ left
left_after (targets.Object number) next left world = refl
left_after (targets.Service index) next left world = refl

-- what is done with an answer that is taken
abbrev with_answer : Target → HostRecord × List HostRecord → Run HostAnswer
with_answer target taken = change (in_world (after_answer target taken.0 taken.1)) >> give (taken.0).answer

answered : (target : Target) (call : HostCall) (a : Activity) (next : Option (HostRecord × List HostRecord)) → next_answer target call a.world ≡ next → TakesTheFirst (call_host target call) a (onward (found next a) (with_answer target))
answered target call a None e = tt
answered target call a (Some (next, left)) e =
    let takes = at_state target call (a.world).answers left next (state_of target a.world) e in
    takes_these (next ∷ []) (takes.0 ∙ ap (λ (l : List HostRecord). next ∷ l) (sym (left_after target next left a.world)))
    (λ rest. ap (λ (o : Option (HostRecord × List HostRecord)). onward (found o (activity_with_answers (next ∷ rest) a)) (with_answer target)) (answer_with target call (next ∷ rest) a.world ∙ takes.1 rest)
    ∙ ap (λ (world : World). Done next.answer (record a { world = world })) (stays_with target next (next ∷ rest) rest left a.world))

-- boxes

box_at : (kind : ℕ) (a : Activity) (place : ℕ) (box : Option FreeBox) → place_of_kind kind a.world ≡ Some place → slice_get (a.world).pool place ≡ box → TakesTheFirst (box_of_kind kind) a (onward (found box a) (λ b. give (place, b)))
box_at kind a place None e g = tt
box_at kind a place (Some box) e g =
    takes_none (λ x. ap (λ (p : Option ℕ). box_in (with_answers x a.world) p (activity_with_answers x a)) e
    ∙ ap (λ (o : Option FreeBox). onward (found o (activity_with_answers x a)) (λ b. give (place, b))) g)

box_found : (kind : ℕ) (a : Activity) (place : Option ℕ) → place_of_kind kind a.world ≡ place → TakesTheFirst (box_of_kind kind) a (box_in a.world place a)
box_found kind a None e = takes_none (λ x. ap (λ (p : Option ℕ). box_in (with_answers x a.world) p (activity_with_answers x a)) e)
box_found kind a (Some place) e = box_at kind a place (slice_get (a.world).pool place) e refl

pub to_hold_all : (ws : List Word) → Leaves (hold_all ws)
to_hold_all ws = changed _ (λ rest a. refl)

pub to_give_held : (w : Word) → Leaves (give_held w)
to_give_held w = followed (to_hold_all (w ∷ [])) (given w)

pub to_release : Leaves release
unfolding release sweep
to_release = changed _ (λ rest a. refl)

pub to_end_expression : Leaves end_expression
to_end_expression = followed (changed (in_frame let_go) (λ rest a. refl)) to_release

pub to_full : {A : Type 0} {r : Run A} → Leaves r → Leaves (full r)
to_full h = bound h (λ v. followed to_end_expression (given v))

pub to_count_locals : Leaves count_locals
to_count_locals = looked _ (λ rest a. refl)

pub to_declare : (w : Word) → Leaves (declare w)
to_declare w = changed _ (λ rest a. refl)

pub to_leave_blocks : (count : ℕ) → Leaves (leave_blocks count)
to_leave_blocks count = changed _ (λ rest a. refl)

pub to_enter : (name : List ℕ) (line : ℕ) (of : Word) (args : List Word) → Leaves (enter name line of args)
to_enter name line of args = changed _ (λ rest a. refl)

pub to_leave : (w : Word) → Leaves (leave w)
unfolding leave
to_leave w = followed (followed (changed (λ a. back_in a.callers w a) (λ rest a. back_with a.callers w rest a)) to_release) (given w)

pub to_demand_frame : Leaves demand_frame
to_demand_frame = bound (looked (λ a. nat_lt (length a.callers + 1) max_frames) (λ rest a. refl)) (λ b. demanded b StackOverflow)

pub to_object_of : (w : Word) → Leaves (object_of w)
to_object_of (words.Object number) = given number
to_object_of _ = raised _

pub to_words_at : (number : ℕ) → Leaves (words_at number)
to_words_at number = looked _ (λ rest a. refl)

pub to_put_words : (number : ℕ) (ws : List Word) → Leaves (put_words number ws)
to_put_words number ws = changed _ (λ rest a. refl)

pub to_demand_number : Leaves demand_number
to_demand_number = bound (followed (bound (looked (λ a. nat_lt (length a.world.objects) max_objects) (λ rest a. refl)) (λ b. demanded b ObjectLimit)) (looked (λ a. nat_lt a.world.last max_number) (λ rest a. refl))) (λ b. demanded b NumbersSpent)

pub to_make : (object : Plain (List ℕ)) → Leaves (make object)
to_make object = followed (changed (in_world (with_new object)) (λ rest a. refl)) (looked (λ a. a.world.last) (λ rest a. refl))

-- hosts

pub to_note : (event : Event) → Leaves (note event)
to_note event = changed _ (λ rest a. refl)

pub to_call_host : (target : Target) (call : HostCall) → Leaves (call_host target call)
to_call_host target call = record { rest = λ a. answered target call a (next_answer target call a.world) refl }

pub to_accept : (result : Option VarType) (answer : HostAnswer) → Leaves (accept result answer)
to_accept None answers.Nothing = given _
to_accept (Some of) answers.Nothing = raised _
to_accept None (answers.Value word) = raised _
to_accept (Some of) (answers.Value word) = chosen_by (is_of of word) (given _) (raised _)
to_accept None (answers.Raise code) = raised _
to_accept (Some of) (answers.Raise code) = raised _
to_accept None answers.NoMemory = nowhere
to_accept (Some of) answers.NoMemory = nowhere

pub to_invoke_host : (target : Target) (id : ℕ) (result : Option VarType) (args : List Word) → Leaves (invoke_host target id result args)
to_invoke_host target id result args = bound (to_call_host target (Invoke id args)) (λ answer. followed (to_note (Called target id)) (to_accept result answer))

pub to_get_property : (number id : ℕ) (of : VarType) → Leaves (get_property number id of)
to_get_property number id of = bound (to_call_host (targets.Object number) (Get id)) (to_accept (Some of))

pub to_set_property : (number id : ℕ) (w : Word) → Leaves (set_property number id w)
to_set_property number id w = bound (bound (to_call_host (targets.Object number) (Set id w)) (to_accept None)) (λ _. given tt)

pub to_box_of_kind : (kind : ℕ) → Leaves (box_of_kind kind)
to_box_of_kind kind = record { rest = λ a. box_found kind a (place_of_kind kind a.world) refl }

pub to_draw : (kind : ℕ) → Leaves (draw kind)
to_draw kind =
    bound (bound (followed to_demand_number (to_box_of_kind kind)) (λ box. followed (changed (in_world (without_box box.0)) (λ rest a. refl)) (to_make (Host (box.1).kind (box.1).state))))
    (λ number. followed (to_note (Drew number)) (given number))

pub to_construct_host : (kind : ℕ) (args : List Word) → Leaves (construct_host kind args)
to_construct_host kind args = bound (to_draw kind) (λ number. followed (bound (followed (to_hold_all (words.Object number ∷ [])) (to_call_host (targets.Object number) (Start args))) (to_accept None)) (given (words.Object number)))

-- operators

pub to_give_or_raise : (r : Result Word DivisionFault) → Leaves (give_or_raise r)
to_give_or_raise (Ok word) = given word
to_give_or_raise (Err faults.ByZero) = raised _
to_give_or_raise (Err faults.Overflow) = raised _

pub to_calculate : (c : Calculation) (left right : Word) → Leaves (calculate c left right)
to_calculate c left right = to_give_or_raise (calculated_by c.operator c.of left right)

pub to_operate : (o : Operation) (left right : Word) → Leaves (operate o left right)
to_operate (operations.Calculate c) left right = to_calculate c left right
to_operate (operations.Compare comparator of) left right = given _

-- locations

pub to_read : (l : Location) → Leaves (read l)
to_read (Local slot) = looked _ (λ rest a. refl)
to_read (Global place) = looked _ (λ rest a. refl)
to_read (Part number place) = looked _ (λ rest a. refl)
to_read (Property number id of) = to_get_property number id of

pub to_overwrite : (l : Location) {store : Run (Unit {0})} → Leaves store → Leaves (overwrite l store)
to_overwrite l h = followed (bound (to_read l) (λ w. to_hold_all (w ∷ []))) h

pub to_write : (l : Location) (w : Word) → Leaves (write l w)
to_write (Local slot) w = to_overwrite (Local slot) (changed (in_frame (with_local slot w)) (λ rest a. refl))
to_write (Global place) w = to_overwrite (Global place) (changed (in_world (with_global place w)) (λ rest a. refl))
to_write (Part number place) w = to_overwrite (Part number place) (bound (to_words_at number) (λ all. to_put_words number (slice_set all place w)))
to_write (Property number id of) w = to_set_property number id w

pub to_store : (w : Word) (l : Location) → Leaves (store w l)
to_store w l = followed (to_write l w) (given w)

pub to_update : (int_type : IntType) (c : Calculation) (right : Word) (l : Location) → Leaves (update int_type c right l)
to_update int_type c right l = bound (bound (to_read l) (λ left. to_calculate c (converted_to c.of left) right)) (λ w. to_store (converted_to int_type w) l)

pub to_count_at : (int_type : IntType) (step : IncrementOp) (l : Location)
    → Leaves (count_at int_type step l)
to_count_at int_type step l = bound (to_read l) (λ old. followed (to_write l (counted step int_type old)) (given (given_by step old (counted step int_type old))))

-- arrays

pub to_index_in : (number : ℕ) (index : Word) → Leaves (index_in number index)
to_index_in number index = bound (to_words_at number) (λ all. followed (demanded (nat_lt (natural_of index) (length all)) IndexOutOfBounds) (given (natural_of index)))

pub to_element_at : (array index : Word) → Leaves (element_at array index)
to_element_at array index = bound (to_object_of array) (λ number. bound (to_index_in number index) (λ place. given (Part number place)))

pub to_construct_array : (of : Elements (List ℕ)) (args : List Word) → Leaves (construct_array of args)
to_construct_array of args = bound (followed (followed to_demand_number (demanded (nat_le (count_in args) max_elements) ArrayLimit)) (to_make (Array of (replicate (count_in args) (zero_element of))))) (λ number. to_give_held (words.Object number))

to_zero_at : (number : ℕ) → Leaves (zero_at number)
to_zero_at number = looked (λ a. option_map_or zero_in (object_at number a.world.objects) words.Null) (λ rest a. refl)

pub to_resize : (number count : ℕ) → Leaves (resize number count)
to_resize number count = bound (followed (demanded (nat_le count max_elements) ArrayLimit) (to_words_at number)) (λ all. bound (followed (to_hold_all (drop count all)) (to_zero_at number)) (λ zero. to_put_words number (resized count zero all)))

pub to_insert_last : (number : ℕ) (w : Word) → Leaves (insert_last number w)
to_insert_last number w = bound (to_words_at number) (λ all. followed (demanded (nat_lt (length all) max_elements) ArrayLimit) (to_put_words number (all ++ w ∷ [])))

pub to_remove_last : (number : ℕ) → Leaves (remove_last number)
to_remove_last number = bound (to_words_at number) (λ all. followed (followed (demanded (nat_lt 0 (length all)) IndexOutOfBounds) (to_hold_all (drop (length all - 1) all))) (to_put_words number (take (length all - 1) all)))

pub to_length_of : (number : ℕ) → Leaves (length_of number)
to_length_of number = bound (to_words_at number) (λ all. given (length all))

pub to_invoke_array : (method : ArrayMethod) (number : ℕ) (args : List Word) → Leaves (invoke_array method number args)
to_invoke_array methods.Length number args = bound (to_length_of number) (λ count. given (words.Uint count))
to_invoke_array methods.IsEmpty number args = bound (to_length_of number) (λ count. given (words.Bool (count == 0)))
to_invoke_array methods.Resize number (count ∷ rest) = followed (to_resize number (natural_of count)) (given words.Null)
to_invoke_array methods.InsertLast number (word ∷ rest) = followed (to_insert_last number word) (given words.Null)
to_invoke_array methods.RemoveLast number args = followed (to_remove_last number) (given words.Null)
to_invoke_array methods.Resize number [] = nowhere
to_invoke_array methods.InsertLast number [] = nowhere

-- classes

pub to_cast : (p : Program) (to : ObjectType) (w : Word) → Leaves (cast p to w)
to_cast p to (words.Object number) = looked _ (λ rest a. refl)
to_cast p to _ = given _
