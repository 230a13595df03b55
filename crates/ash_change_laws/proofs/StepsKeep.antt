-- Steps that call nothing of a script leave uncalled services as they are.
use Rattle.std.proofs.Common.{◌≡◌, arith, zero, suc, if◌then◌else◌, ◌+◌, ◌-◌, ◌==◌, refl, ap, ℕ, Bool, true, false, nat_lt, nat_le, List, [], ◌∷◌, ◌++◌, length, take, drop, replicate, slice_get, slice_set, Option, Some, None, sym, subst, Ok, Err, Result}
use Rattle.std.specs.Option.{option_map_or}
use Rattle.ash_host.specs.declared.word.Word.{Word}
use Rattle.ash_host.specs.declared.word.Word.TheVariants as words
use Rattle.ash_host.specs.declared.answer.HostAnswer.{HostAnswer}
use Rattle.ash_host.specs.declared.answer.HostAnswer.TheVariants as answers
use Rattle.ash_host.specs.declared.event.Event.{Event}
use Rattle.ash_host.specs.declared.event.Event.TheVariants.{Drew, Called}
use Rattle.ash_host.specs.declared.event.Target.{Target}
use Rattle.ash_host.specs.declared.event.Target.TheVariants as targets
use Rattle.ash_host.specs.Calls.{HostCall, Start, Invoke, Get, Set}
use Rattle.ash_host.specs.Limits.{max_objects, max_elements}
use Rattle.ash_host.specs.Objects.{Plain, Array, Host, Elements, object_at}
use Rattle.ash_host.specs.Records.{HostRecord}
use Rattle.ash_integers.specs.declared.arithmetic.DivisionFault.{DivisionFault}
use Rattle.ash_integers.specs.declared.arithmetic.DivisionFault.TheVariants as faults
use Rattle.ash_integers.specs.declared.int_type.IntType.{IntType}
use Rattle.ash_typed.specs.declared.types.ObjectType.{ObjectType}
use Rattle.ash_typed.specs.declared.types.VarType.{VarType}
use Rattle.ash_typed.specs.declared.tree.operations.ArrayMethod.{ArrayMethod}
use Rattle.ash_typed.specs.declared.tree.operations.ArrayMethod.TheVariants as methods
use Rattle.ash_typed.specs.declared.tree.operations.Calculation.{Calculation}
use Rattle.ash_typed.specs.declared.tree.operations.Operation.{Operation}
use Rattle.ash_typed.specs.declared.tree.operations.Operation.TheVariants as operations
use Rattle.ash_typed.specs.declared.tree.operations.IncrementOp.{IncrementOp}
use Rattle.ash_meaning.specs.declared.exception.Exception.TheVariants.{StackOverflow, ObjectLimit, NumbersSpent, IndexOutOfBounds, ArrayLimit, BadHostAnswer}
use Rattle.ash_meaning.specs.Activity.{World, Frame, Activity, in_frame, in_world}
use Rattle.ash_meaning.specs.Runs.{Run, give, onward, ◌>>◌, change, raise, found}
use Rattle.ash_meaning.specs.Releases.{hold_all, give_held, release, let_go, end_expression, full, count_locals, declare, leave_blocks, sweep}
use Rattle.ash_meaning.specs.Frames.{max_frames, demand_frame, enter, back_in, leave}
use Rattle.ash_meaning.specs.ObjectSteps.{object_of, words_at, put_words, max_number, demand_number, with_new, make}
use Rattle.ash_meaning.specs.HostSteps.{note, with_event, next_answer, after_answer, call_host, accept, invoke_host, get_property, set_property, place_of_kind, without_box, box_in, box_of_kind, draw, construct_host, is_of}
use Rattle.ash_meaning.specs.OperatorMeaning.{calculated_by, converted_to, counted, given_by, give_or_raise, calculate, operate}
use Rattle.ash_meaning.specs.Locations.{Location, Local, Global, Part, Property, with_local, with_global, read, overwrite, write}
use Rattle.ash_meaning.specs.ArraySteps.{zero_element, natural_of, count_in, zero_in, resized, index_in, construct_array, zero_at, resize, insert_last, remove_last, length_of, invoke_array}
use Rattle.ash_meaning.specs.Classes.{Program}
use Rattle.ash_meaning.specs.CallMeaning.{cast}
use Rattle.ash_meaning.specs.ExpressionMeaning.{store, update, count_at, element_at}
use Rattle.ash_change_laws.specs.UncalledServices.{IsCalled, KeepsUncalled}
use Rattle.ash_change_laws.proofs.Keeping.{Keeps, KeepsFrom, keeps_same, keeps_more, bound, followed, given, looked, changed, raised, nowhere, chosen_by, demanded, found_there}

-- a frame that is left leaves the world as it is
back_keeps : (callers : List Frame) (result : Word) (a : Activity) → ((back_in callers result a).world.events ≡ a.world.events) × ((back_in callers result a).world.services ≡ a.world.services)
back_keeps [] result a = (refl, refl)
back_keeps (caller ∷ callers) result a = (refl, refl)

-- an element elsewhere stays
other_stays : (place index : ℕ) (x : List ℕ) (l : List (List ℕ)) → (place ≡ index → ⊥) → slice_get (slice_set l index x) place ≡ slice_get l place
other_stays place index x [] apart = refl
other_stays zero zero x (y ∷ l) apart = absurd (apart refl)
other_stays zero (suc index) x (y ∷ l) apart = refl
other_stays (suc place) zero x (y ∷ l) apart = refl
other_stays (suc place) (suc index) x (y ∷ l) apart = other_stays place index x l (λ same. apart (ap suc same))

pub to_hold_all : (ws : List Word) → Keeps (hold_all ws)
to_hold_all ws = changed _ (λ a. (refl, refl))

pub to_give_held : (w : Word) → Keeps (give_held w)
to_give_held w = followed (to_hold_all (w ∷ [])) (given w)

pub to_release : Keeps release
unfolding release sweep
to_release = record { from = λ a. keeps_more a.world _ _ refl refl }

pub to_end_expression : Keeps end_expression
to_end_expression = followed (changed (in_frame let_go) (λ a. (refl, refl))) to_release

pub to_full : {A : Type 0} {r : Run A} → Keeps r → Keeps (full r)
to_full h = bound h (λ v. followed to_end_expression (given v))

pub to_count_locals : Keeps count_locals
to_count_locals = looked _

pub to_declare : (w : Word) → Keeps (declare w)
to_declare w = changed _ (λ a. (refl, refl))

pub to_leave_blocks : (count : ℕ) → Keeps (leave_blocks count)
to_leave_blocks count = changed _ (λ a. (refl, refl))

pub to_enter : (name : List ℕ) (line : ℕ) (of : Word) (args : List Word) → Keeps (enter name line of args)
to_enter name line of args = changed _ (λ a. (refl, refl))

pub to_leave : (w : Word) → Keeps (leave w)
unfolding leave
to_leave w = followed (followed (changed (λ a. back_in a.callers w a) (λ a. back_keeps a.callers w a)) to_release) (given w)

pub to_demand_frame : Keeps demand_frame
to_demand_frame = bound (looked (λ a. nat_lt (length a.callers + 1) max_frames)) (λ b. demanded b StackOverflow)

pub to_object_of : (w : Word) → Keeps (object_of w)
to_object_of (words.Object number) = given number
to_object_of _ = raised _

pub to_words_at : (number : ℕ) → Keeps (words_at number)
to_words_at number = looked _

pub to_put_words : (number : ℕ) (ws : List Word) → Keeps (put_words number ws)
to_put_words number ws = changed _ (λ a. (refl, refl))

pub to_demand_number : Keeps demand_number
to_demand_number = bound (followed (bound (looked (λ a. nat_lt (length a.world.objects) max_objects)) (λ b. demanded b ObjectLimit)) (looked (λ a. nat_lt a.world.last max_number))) (λ b. demanded b NumbersSpent)

pub to_make : (object : Plain (List ℕ)) → Keeps (make object)
to_make object = followed (changed (in_world (with_new object)) (λ a. (refl, refl))) (looked (λ a. a.world.last))

-- hosts

pub to_note : (event : Event) → Keeps (note event)
to_note event = record { from = λ a. keeps_more a.world _ (event ∷ []) refl refl }

-- what is done with an answer that is taken
abbrev with_answer : Target → HostRecord × List HostRecord → Run HostAnswer
with_answer target taken = change (in_world (after_answer target taken.0 taken.1)) >> give (taken.0).answer

-- a call of an object is no call of a service
pub to_call_object : (number : ℕ) (call : HostCall) → Keeps (call_host (targets.Object number) call)
to_call_object number call = record { from = λ a. answered a (next_answer (targets.Object number) call a.world) }
  where
    answered : (a : Activity) (next : Option (HostRecord × List HostRecord)) → KeepsFrom a (onward (found next a) (with_answer (targets.Object number)))
    answered a None = tt
    answered a (Some taken) = keeps_same a.world _ refl refl

pub to_accept : (result : Option VarType) (answer : HostAnswer) → Keeps (accept result answer)
to_accept None answers.Nothing = given _
to_accept (Some of) answers.Nothing = raised _
to_accept None (answers.Value word) = raised _
to_accept (Some of) (answers.Value word) = chosen_by (is_of of word) (given _) (raised _)
to_accept None (answers.Raise code) = raised _
to_accept (Some of) (answers.Raise code) = raised _
to_accept None answers.NoMemory = nowhere
to_accept (Some of) answers.NoMemory = nowhere

-- what is made of an answer changes no world
accepted_keeps : (first a : Activity) (result : Option VarType) (answer : HostAnswer) → KeepsUncalled first.world a.world → KeepsFrom first (accept result answer a)
accepted_keeps first a None answers.Nothing s = s
accepted_keeps first a (Some of) answers.Nothing s = s
accepted_keeps first a None (answers.Value word) s = s
accepted_keeps first a (Some of) (answers.Value word) s = go (is_of of word)
  where
    go : (b : Bool) → KeepsFrom first ((if b then give word else raise BadHostAnswer) a)
    go true = s
    go false = s
accepted_keeps first a None (answers.Raise code) s = s
accepted_keeps first a (Some of) (answers.Raise code) s = s
accepted_keeps first a None answers.NoMemory s = tt
accepted_keeps first a (Some of) answers.NoMemory s = tt

-- an event is among those that it alone is of
pub called_alone : (index id : ℕ) → IsCalled index (Called (targets.Service index) id ∷ [])
called_alone index id = (id, (0, omega arith, refl))

-- a service that was called and noted
service_keeps : (index id : ℕ) (next : HostRecord) (left : List HostRecord) (w : World) → KeepsUncalled w (with_event (Called (targets.Service index) id) (after_answer (targets.Service index) next left w))
service_keeps index id next left w = record {
  more = Called (targets.Service index) id ∷ [];
  events = refl;
  services = λ place quiet. other_stays place index next.after w.services
      (λ same. quiet (subst (λ (k : ℕ). IsCalled k (Called (targets.Service index) id ∷ [])) (sym same) (called_alone index id)));
}

invoked_keeps : (target : Target) (id : ℕ) (next : HostRecord) (left : List HostRecord) (w : World) → KeepsUncalled w (with_event (Called target id) (after_answer target next left w))
invoked_keeps (targets.Object number) id next left w = keeps_more w _ (Called (targets.Object number) id ∷ []) refl refl
invoked_keeps (targets.Service index) id next left w = service_keeps index id next left w

pub to_invoke_host : (target : Target) (id : ℕ) (result : Option VarType) (args : List Word) → Keeps (invoke_host target id result args)
to_invoke_host target id result args = record { from = λ a. answered a (next_answer target (Invoke id args) a.world) }
  where
    answered : (a : Activity) (next : Option (HostRecord × List HostRecord))
        → KeepsFrom a (onward (onward (found next a) (with_answer target)) (λ answer. note (Called target id) >> accept result answer))
    answered a None = tt
    answered a (Some taken) =
        accepted_keeps a _ result (taken.0).answer (invoked_keeps target id taken.0 taken.1 a.world)

pub to_get_property : (number id : ℕ) (of : VarType) → Keeps (get_property number id of)
to_get_property number id of = bound (to_call_object number (Get id)) (to_accept (Some of))

pub to_set_property : (number id : ℕ) (w : Word) → Keeps (set_property number id w)
to_set_property number id w = bound (bound (to_call_object number (Set id w)) (to_accept None)) (λ _. given tt)

pub to_box_of_kind : (kind : ℕ) → Keeps (box_of_kind kind)
to_box_of_kind kind = bound (looked (λ a. a.world)) (λ world. box_keeps world (place_of_kind kind world))
  where
    box_keeps : (world : World) (place : Option ℕ) → Keeps (box_in world place)
    box_keeps world None = raised _
    box_keeps world (Some place) = bound (found_there (slice_get world.pool place)) (λ box. given (place, box))

pub to_draw : (kind : ℕ) → Keeps (draw kind)
to_draw kind =
    bound (bound (followed to_demand_number (to_box_of_kind kind)) (λ box. followed (changed (in_world (without_box box.0)) (λ a. (refl, refl))) (to_make (Host (box.1).kind (box.1).state))))
    (λ number. followed (to_note (Drew number)) (given number))

pub to_construct_host : (kind : ℕ) (args : List Word) → Keeps (construct_host kind args)
to_construct_host kind args = bound (to_draw kind) (λ number. followed (bound (followed (to_hold_all (words.Object number ∷ [])) (to_call_object number (Start args))) (to_accept None)) (given (words.Object number)))

-- operators

pub to_give_or_raise : (r : Result Word DivisionFault) → Keeps (give_or_raise r)
to_give_or_raise (Ok word) = given word
to_give_or_raise (Err faults.ByZero) = raised _
to_give_or_raise (Err faults.Overflow) = raised _

pub to_calculate : (c : Calculation) (left right : Word) → Keeps (calculate c left right)
to_calculate c left right = to_give_or_raise (calculated_by c.operator c.of left right)

pub to_operate : (o : Operation) (left right : Word) → Keeps (operate o left right)
to_operate (operations.Calculate c) left right = to_calculate c left right
to_operate (operations.Compare comparator of) left right = given _

-- locations

pub to_read : (l : Location) → Keeps (read l)
to_read (Local slot) = looked _
to_read (Global place) = looked _
to_read (Part number place) = looked _
to_read (Property number id of) = to_get_property number id of

pub to_overwrite : (l : Location) {store : Run (Unit {0})} → Keeps store → Keeps (overwrite l store)
to_overwrite l h = followed (bound (to_read l) (λ w. to_hold_all (w ∷ []))) h

pub to_write : (l : Location) (w : Word) → Keeps (write l w)
to_write (Local slot) w = to_overwrite (Local slot) (changed (in_frame (with_local slot w)) (λ a. (refl, refl)))
to_write (Global place) w = to_overwrite (Global place) (changed (in_world (with_global place w)) (λ a. (refl, refl)))
to_write (Part number place) w = to_overwrite (Part number place) (bound (to_words_at number) (λ all. to_put_words number (slice_set all place w)))
to_write (Property number id of) w = to_set_property number id w

pub to_store : (w : Word) (l : Location) → Keeps (store w l)
to_store w l = followed (to_write l w) (given w)

pub to_update : (int_type : IntType) (c : Calculation) (right : Word) (l : Location) → Keeps (update int_type c right l)
to_update int_type c right l = bound (bound (to_read l) (λ left. to_calculate c (converted_to c.of left) right)) (λ w. to_store (converted_to int_type w) l)

pub to_count_at : (int_type : IntType) (step : IncrementOp) (l : Location)
    → Keeps (count_at int_type step l)
to_count_at int_type step l = bound (to_read l) (λ old. followed (to_write l (counted step int_type old)) (given (given_by step old (counted step int_type old))))

-- arrays

pub to_index_in : (number : ℕ) (index : Word) → Keeps (index_in number index)
to_index_in number index = bound (to_words_at number) (λ all. followed (demanded (nat_lt (natural_of index) (length all)) IndexOutOfBounds) (given (natural_of index)))

pub to_element_at : (array index : Word) → Keeps (element_at array index)
to_element_at array index = bound (to_object_of array) (λ number. bound (to_index_in number index) (λ place. given (Part number place)))

pub to_construct_array : (of : Elements (List ℕ)) (args : List Word) → Keeps (construct_array of args)
to_construct_array of args = bound (followed (followed to_demand_number (demanded (nat_le (count_in args) max_elements) ArrayLimit)) (to_make (Array of (replicate (count_in args) (zero_element of))))) (λ number. to_give_held (words.Object number))

to_zero_at : (number : ℕ) → Keeps (zero_at number)
to_zero_at number = looked (λ a. option_map_or zero_in (object_at number a.world.objects) words.Null)

pub to_resize : (number count : ℕ) → Keeps (resize number count)
to_resize number count = bound (followed (demanded (nat_le count max_elements) ArrayLimit) (to_words_at number)) (λ all. bound (followed (to_hold_all (drop count all)) (to_zero_at number)) (λ zero. to_put_words number (resized count zero all)))

pub to_insert_last : (number : ℕ) (w : Word) → Keeps (insert_last number w)
to_insert_last number w = bound (to_words_at number) (λ all. followed (demanded (nat_lt (length all) max_elements) ArrayLimit) (to_put_words number (all ++ w ∷ [])))

pub to_remove_last : (number : ℕ) → Keeps (remove_last number)
to_remove_last number = bound (to_words_at number) (λ all. followed (followed (demanded (nat_lt 0 (length all)) IndexOutOfBounds) (to_hold_all (drop (length all - 1) all))) (to_put_words number (take (length all - 1) all)))

pub to_length_of : (number : ℕ) → Keeps (length_of number)
to_length_of number = bound (to_words_at number) (λ all. given (length all))

pub to_invoke_array : (method : ArrayMethod) (number : ℕ) (args : List Word) → Keeps (invoke_array method number args)
to_invoke_array methods.Length number args = bound (to_length_of number) (λ count. given (words.Uint count))
to_invoke_array methods.IsEmpty number args = bound (to_length_of number) (λ count. given (words.Bool (count == 0)))
to_invoke_array methods.Resize number (count ∷ rest) = followed (to_resize number (natural_of count)) (given words.Null)
to_invoke_array methods.InsertLast number (word ∷ rest) = followed (to_insert_last number word) (given words.Null)
to_invoke_array methods.RemoveLast number args = followed (to_remove_last number) (given words.Null)
to_invoke_array methods.Resize number [] = nowhere
to_invoke_array methods.InsertLast number [] = nowhere

-- classes

pub to_cast : (p : Program) (to : ObjectType) (w : Word) → Keeps (cast p to w)
to_cast p to (words.Object number) = looked _
to_cast p to _ = given _
