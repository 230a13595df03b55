-- Walks of the steps that call nothing of a script.
use Rattle.std.proofs.Common.{◌≡◌, ◌+◌, ◌-◌, ◌==◌, refl, sym, subst, ap, ℕ, Bool, true, false, nat_lt, nat_le, List, [], ◌∷◌, ◌++◌, length, take, drop, replicate, slice_get, slice_set, Option, Some, None, Ok, Err, Result}
use Rattle.ash_host.specs.declared.word.Word.{Word}
use Rattle.ash_host.specs.declared.word.Word.TheVariants as words
use Rattle.ash_host.specs.declared.answer.HostAnswer.{HostAnswer}
use Rattle.ash_host.specs.declared.answer.HostAnswer.TheVariants as answers
use Rattle.ash_host.specs.declared.event.Target.{Target}
use Rattle.ash_host.specs.Calls.{HostCall, Start, Invoke, Get, Set}
use Rattle.ash_host.specs.Objects.{Plain, Array, Host, Elements, object_at, handles, is_host}
use Rattle.ash_host.specs.Records.{HostRecord}
use Rattle.ash_integers.specs.declared.arithmetic.DivisionFault.{DivisionFault}
use Rattle.ash_integers.specs.declared.arithmetic.DivisionFault.TheVariants as faults
use Rattle.ash_integers.specs.declared.int_type.IntType.{IntType}
use Rattle.ash_typed.specs.declared.types.ObjectType.{ObjectType}
use Rattle.ash_typed.specs.declared.types.VarType.{VarType}
use Rattle.ash_typed.specs.declared.tree.operations.ArrayMethod.{ArrayMethod}
use Rattle.ash_typed.specs.declared.tree.operations.ArrayMethod.TheVariants as methods
use Rattle.ash_typed.specs.declared.tree.operations.Calculation.{Calculation}
use Rattle.ash_typed.specs.declared.tree.operations.Operation.{Operation}
use Rattle.ash_typed.specs.declared.tree.operations.Operation.TheVariants as operations
use Rattle.ash_typed.specs.declared.tree.operations.IncrementOp.{IncrementOp}
use Rattle.std.specs.Option.{option_map_or}
use Rattle.ash_host.specs.declared.event.Event.TheVariants.{Drew, Called}
use Rattle.ash_host.specs.declared.event.Target.TheVariants as targets
use Rattle.ash_host.specs.Limits.{max_objects, max_elements}
use Rattle.ash_meaning.specs.declared.exception.Exception.TheVariants.{StackOverflow, ObjectLimit, NumbersSpent, PoolEmpty, IndexOutOfBounds, ArrayLimit}
use Rattle.ash_meaning.specs.Activity.{FreeBox, World, Frame, Activity, in_frame, in_world}
use Rattle.ash_meaning.specs.Runs.{Raising, OutOfTicks, Progress, Done, Ended, NoStep, Run, give, onward, ◌>>◌, look, change, demand, found}
use Rattle.ash_meaning.specs.Releases.{hold_all, give_held, release, let_go, end_expression, full, count_locals, declare, leave_blocks}
use Rattle.ash_meaning.specs.Frames.{max_frames, demand_frame, frame_of, enter, back_in, leave}
use Rattle.ash_meaning.specs.ObjectSteps.{object_of, with_object, words_at, with_words, put_words, max_number, demand_number, with_new, make}
use Rattle.ash_meaning.specs.HostSteps.{with_event, note, next_answer, after_answer, call_host, accept, invoke_host, get_property, set_property, place_of_kind, without_box, box_in, box_of_kind, draw, construct_host, is_of}
use Rattle.ash_meaning.specs.OperatorMeaning.{calculated_by, converted_to, counted, given_by, give_or_raise, calculate, operate}
use Rattle.ash_meaning.specs.Locations.{Location, Local, Global, Part, Property, with_local, with_global, read, overwrite, write}
use Rattle.ash_meaning.specs.ArraySteps.{zero_element, natural_of, count_in, zero_in, resized, index_in, construct_array, zero_at, resize, insert_last, remove_last, length_of, invoke_array}
use Rattle.ash_meaning.specs.Classes.{Program}
use Rattle.ash_meaning.specs.CallMeaning.{cast}
use Rattle.ash_meaning.specs.ExpressionMeaning.{store, update, count_at, element_at}
use Rattle.ash_meaning.specs.Traces.{InFrame, Enters, Leaves, InWorld, Releases, WritesGlobal, WritesWords, Makes, Draws, TakesAnswer, Notes, drawn, Trace, Here}
use Rattle.ash_meaning.specs.MeaningLaws.{ComesBy, with_more, ExtendsWithMoreTicks}
use Rattle.ash_meaning.proofs.Traces.{one}
use Rattle.ash_meaning.proofs.Walks.{Walk, bound, followed, given, looked, changed, raised, nowhere, chosen_by, demanded, found_there}

-- a frame that is left leaves the ticks as they are
back_with_more : (callers : List Frame) (result : Word) (more : ℕ) (a : Activity) → back_in callers result (with_more more a) ≡ with_more more (back_in callers result a)
back_with_more [] result more a = refl
back_with_more (caller ∷ callers) result more a = refl

-- hosts

-- what is done with an answer that is taken
abbrev with_answer : Target → HostRecord × List HostRecord → Run HostAnswer
with_answer target taken = change (in_world (after_answer target taken.0 taken.1)) >> give (taken.0).answer

answer_comes : (target : Target) (call : HostCall) (a : Activity) (next : Option (HostRecord × List HostRecord)) → next_answer target call a.world ≡ next → ComesBy a (onward (found next a) (with_answer target))
answer_comes target call a None e = tt
answer_comes target call a (Some (next, left)) e = one (InWorld (after_answer target next left a.world) (TakesAnswer target call next left e refl) refl)

answer_goes_on : (target : Target) (more : ℕ) (a : Activity) (next : Option (HostRecord × List HostRecord)) → ExtendsWithMoreTicks more (onward (found next a) (with_answer target)) (onward (found next (with_more more a)) (with_answer target))
answer_goes_on target more a None = refl
answer_goes_on target more a (Some (next, left)) = refl

-- boxes

-- the box that is drawn, where one can be
abbrev to_take : ℕ → Run (ℕ × FreeBox)
to_take kind = demand_number >> box_of_kind kind

-- what is done with it

abbrev make_of : ℕ × FreeBox → Run ℕ
make_of box = change (in_world (without_box box.0)) >> make (Host (box.1).kind (box.1).state)

abbrev note_draw : ℕ → Run ℕ
note_draw number = note (Drew number) >> give number

-- The first box of the kind is taken, or an exception is raised; nothing is changed yet.
abbrev TakesBox : ℕ → Activity → Progress (ℕ × FreeBox) → Type 0
TakesBox kind a (Done box b) = (b ≡ a) × (place_of_kind kind a.world ≡ Some box.0) × (slice_get a.world.pool box.0 ≡ Some box.1)
TakesBox kind a (Ended (Raising x) b) = b ≡ a
TakesBox kind a (Ended OutOfTicks b) = ⊥
TakesBox kind a NoStep = Unit {0}

box_found : (kind place : ℕ) (a : Activity) (box : Option FreeBox) → place_of_kind kind a.world ≡ Some place → slice_get a.world.pool place ≡ box → TakesBox kind a (onward (found box a) (λ b. give (place, b)))
box_found kind place a (Some box) e f = (refl, e, f)
box_found kind place a None e f = tt

kind_found : (kind : ℕ) (a : Activity) (place : Option ℕ) → place_of_kind kind a.world ≡ place → TakesBox kind a (box_in a.world place a)
kind_found kind a (Some place) e = box_found kind place a (slice_get a.world.pool place) e refl
kind_found kind a None e = refl

takes_box : (kind : ℕ) (a : Activity) → TakesBox kind a (to_take kind a)
takes_box kind a = room (nat_lt (length a.world.objects) max_objects)
  where
    left : (b : Bool) → TakesBox kind a (onward (demand b NumbersSpent a) (λ _. box_of_kind kind))
    left true = kind_found kind a (place_of_kind kind a.world) refl
    left false = refl

    room : (b : Bool) → TakesBox kind a (onward (onward (onward (demand b ObjectLimit a) (λ _. look (λ c. nat_lt c.world.last max_number))) (λ b. demand b NumbersSpent)) (λ _. box_of_kind kind))
    room true = left (nat_lt a.world.last max_number)
    room false = refl

draw_comes : (kind : ℕ) (a : Activity) (p : Progress (ℕ × FreeBox)) → TakesBox kind a p → ComesBy a (onward (onward p make_of) note_draw)
draw_comes kind a (Done (place, box) b) t =
    subst (λ (c : Activity). ComesBy a (onward (onward (Done (place, box) c) make_of) note_draw)) (sym t.0)
    (one (InWorld (drawn place box a.world) (Draws kind place box t.1 t.2 refl) refl))
draw_comes kind a (Ended (Raising x) b) t = subst (λ (c : Activity). Trace a c) (sym t) Here
draw_comes kind a (Ended OutOfTicks b) t = absurd t
draw_comes kind a NoStep t = tt

draw_goes_on : (kind more : ℕ) (a : Activity) (p q : Progress (ℕ × FreeBox)) → TakesBox kind a p → ExtendsWithMoreTicks more p q → ExtendsWithMoreTicks more (onward (onward p make_of) note_draw) (onward (onward q make_of) note_draw)
draw_goes_on kind more a (Done box b) q t e = ap (λ (x : Progress (ℕ × FreeBox)). onward (onward x make_of) note_draw) e
draw_goes_on kind more a (Ended (Raising x) b) q t e = ap (λ (x : Progress (ℕ × FreeBox)). onward (onward x make_of) note_draw) e
draw_goes_on kind more a (Ended OutOfTicks b) q t e = absurd t
draw_goes_on kind more a NoStep q t e = ap (λ (x : Progress (ℕ × FreeBox)). onward (onward x make_of) note_draw) e

module _ {n : ℕ} where
  pub to_hold_all : (ws : List Word) → Walk n (hold_all ws) (hold_all ws)
  to_hold_all ws = changed _ (λ a. InFrame (a.frame).line (a.frame).locals (handles ws ++ (a.frame).held) refl) (λ more a. refl)

  pub to_give_held : (w : Word) → Walk n (give_held w) (give_held w)
  to_give_held w = followed (to_hold_all (w ∷ [])) (given w)

  pub to_release : Walk n release release
  unfolding release
  to_release = changed _ (λ a. Releases refl) (λ more a. refl)

  pub to_end_expression : Walk n end_expression end_expression
  to_end_expression = followed (changed (in_frame let_go) (λ a. InFrame (a.frame).line (a.frame).locals [] refl) (λ more a. refl)) to_release

  pub to_full : {A : Type 0} {r s : Run A} → Walk n r s → Walk n (full r) (full s)
  to_full h = bound h (λ v. followed to_end_expression (given v))

  pub to_count_locals : Walk n count_locals count_locals
  to_count_locals = looked _ (λ more a. refl)

  pub to_declare : (w : Word) → Walk n (declare w) (declare w)
  to_declare w = changed _ (λ a. InFrame (a.frame).line ((a.frame).locals ++ w ∷ []) (a.frame).held refl) (λ more a. refl)

  pub to_leave_blocks : (count : ℕ) → Walk n (leave_blocks count) (leave_blocks count)
  to_leave_blocks count = changed _ (λ a. InFrame (a.frame).line (take count (a.frame).locals) (a.frame).held refl) (λ more a. refl)

  pub to_enter : (name : List ℕ) (line : ℕ) (of : Word) (args : List Word) → Walk n (enter name line of args) (enter name line of args)
  to_enter name line of args = changed _ (λ a. Enters (frame_of name line of args) refl) (λ more a. refl)

  pub to_leave : (w : Word) → Walk n (leave w) (leave w)
  unfolding leave
  to_leave w = followed (followed (changed (λ a. back_in a.callers w a) (λ a. Leaves w refl) (λ more a. back_with_more a.callers w more a)) to_release) (given w)

  pub to_demand_frame : Walk n demand_frame demand_frame
  to_demand_frame = bound (looked (λ a. nat_lt (length a.callers + 1) max_frames) (λ more a. refl)) (λ b. demanded b StackOverflow)

  pub to_object_of : (w : Word) → Walk n (object_of w) (object_of w)
  to_object_of (words.Object number) = given number
  to_object_of _ = raised _

  pub to_words_at : (number : ℕ) → Walk n (words_at number) (words_at number)
  to_words_at number = looked _ (λ more a. refl)

  pub to_put_words : (number : ℕ) (ws : List Word) → Walk n (put_words number ws) (put_words number ws)
  to_put_words number ws = changed _ (λ a. InWorld (with_object number (with_words ws) a.world) (WritesWords number ws refl) refl) (λ more a. refl)

  pub to_demand_number : Walk n demand_number demand_number
  to_demand_number = bound (followed (bound (looked (λ a. nat_lt (length a.world.objects) max_objects) (λ more a. refl)) (λ b. demanded b ObjectLimit)) (looked (λ a. nat_lt a.world.last max_number) (λ more a. refl))) (λ b. demanded b NumbersSpent)

  pub to_make : (object : Plain (List ℕ)) → is_host object ≡ false → Walk n (make object) (make object)
  to_make object none = followed (changed (in_world (with_new object)) (λ a. InWorld (with_new object a.world) (Makes object none refl) refl) (λ more a. refl)) (looked (λ a. a.world.last) (λ more a. refl))

  -- hosts

  pub to_note : (target : Target) (id : ℕ) → Walk n (note (Called target id)) (note (Called target id))
  to_note target id = changed _ (λ a. InWorld (with_event (Called target id) a.world) (Notes target id refl) refl) (λ more a. refl)

  pub to_call_host : (target : Target) (call : HostCall) → Walk n (call_host target call) (call_host target call)
  to_call_host target call = record {
    same = λ a le. refl;
    comes = λ a le. answer_comes target call a (next_answer target call a.world) refl;
    goes_on = λ more a le. answer_goes_on target more a (next_answer target call a.world);
  }

  pub to_accept : (result : Option VarType) (answer : HostAnswer) → Walk n (accept result answer) (accept result answer)
  to_accept None answers.Nothing = given _
  to_accept (Some of) answers.Nothing = raised _
  to_accept None (answers.Value word) = raised _
  to_accept (Some of) (answers.Value word) = chosen_by (is_of of word) (given _) (raised _)
  to_accept None (answers.Raise code) = raised _
  to_accept (Some of) (answers.Raise code) = raised _
  to_accept None answers.NoMemory = nowhere
  to_accept (Some of) answers.NoMemory = nowhere

  pub to_invoke_host : (target : Target) (id : ℕ) (result : Option VarType) (args : List Word) → Walk n (invoke_host target id result args) (invoke_host target id result args)
  to_invoke_host target id result args = bound (to_call_host target (Invoke id args)) (λ answer. followed (to_note target id) (to_accept result answer))

  pub to_get_property : (number id : ℕ) (of : VarType) → Walk n (get_property number id of) (get_property number id of)
  to_get_property number id of = bound (to_call_host (targets.Object number) (Get id)) (to_accept (Some of))

  pub to_set_property : (number id : ℕ) (w : Word) → Walk n (set_property number id w) (set_property number id w)
  to_set_property number id w = bound (bound (to_call_host (targets.Object number) (Set id w)) (to_accept None)) (λ _. given tt)

  pub to_box_in : (world : World) (place : Option ℕ) → Walk n (box_in world place) (box_in world place)
  to_box_in world None = raised PoolEmpty
  to_box_in world (Some place) = bound (found_there (slice_get world.pool place)) (λ box. given (place, box))

  pub to_box_of_kind : (kind : ℕ) → Walk n (box_of_kind kind) (box_of_kind kind)
  to_box_of_kind kind = bound (looked (λ a. a.world) (λ more a. refl)) (λ world. to_box_in world (place_of_kind kind world))

  pub to_draw : (kind : ℕ) → Walk n (draw kind) (draw kind)
  to_draw kind = record {
    same = λ a le. refl;
    comes = λ a le. draw_comes kind a (to_take kind a) (takes_box kind a);
    goes_on = λ more a le. draw_goes_on kind more a (to_take kind a) (to_take kind (with_more more a)) (takes_box kind a) ((to_take_walks kind).goes_on more a le);
  }
    where
      to_take_walks : (kind : ℕ) → Walk n (to_take kind) (to_take kind)
      to_take_walks kind = followed to_demand_number (to_box_of_kind kind)

  pub to_construct_host : (kind : ℕ) (args : List Word) → Walk n (construct_host kind args) (construct_host kind args)
  to_construct_host kind args = bound (to_draw kind) (λ number. followed (bound (followed (to_hold_all (words.Object number ∷ [])) (to_call_host (targets.Object number) (Start args))) (to_accept None)) (given (words.Object number)))

  -- operators

  pub to_give_or_raise : (r : Result Word DivisionFault) → Walk n (give_or_raise r) (give_or_raise r)
  to_give_or_raise (Ok word) = given word
  to_give_or_raise (Err faults.ByZero) = raised _
  to_give_or_raise (Err faults.Overflow) = raised _

  pub to_calculate : (c : Calculation) (left right : Word) → Walk n (calculate c left right) (calculate c left right)
  to_calculate c left right = to_give_or_raise (calculated_by c.operator c.of left right)

  pub to_operate : (o : Operation) (left right : Word) → Walk n (operate o left right) (operate o left right)
  to_operate (operations.Calculate c) left right = to_calculate c left right
  to_operate (operations.Compare comparator of) left right = given _

  -- locations

  pub to_read : (l : Location) → Walk n (read l) (read l)
  to_read (Local slot) = looked _ (λ more a. refl)
  to_read (Global place) = looked _ (λ more a. refl)
  to_read (Part number place) = looked _ (λ more a. refl)
  to_read (Property number id of) = to_get_property number id of

  pub to_overwrite : (l : Location) {store : Run (Unit {0})} → Walk n store store → Walk n (overwrite l store) (overwrite l store)
  to_overwrite l h = followed (bound (to_read l) (λ w. to_hold_all (w ∷ []))) h

  pub to_write : (l : Location) (w : Word) → Walk n (write l w) (write l w)
  to_write (Local slot) w = to_overwrite (Local slot) (changed (in_frame (with_local slot w)) (λ a. InFrame (a.frame).line (slice_set (a.frame).locals slot w) (a.frame).held refl) (λ more a. refl))
  to_write (Global place) w = to_overwrite (Global place) (changed (in_world (with_global place w)) (λ a. InWorld (with_global place w a.world) (WritesGlobal place w refl) refl) (λ more a. refl))
  to_write (Part number place) w = to_overwrite (Part number place) (bound (to_words_at number) (λ all. to_put_words number (slice_set all place w)))
  to_write (Property number id of) w = to_set_property number id w

  pub to_store : (w : Word) (l : Location) → Walk n (store w l) (store w l)
  to_store w l = followed (to_write l w) (given w)

  pub to_update : (int_type : IntType) (c : Calculation) (right : Word) (l : Location) → Walk n (update int_type c right l) (update int_type c right l)
  to_update int_type c right l = bound (bound (to_read l) (λ left. to_calculate c (converted_to c.of left) right)) (λ w. to_store (converted_to int_type w) l)

  pub to_count_at : (int_type : IntType) (step : IncrementOp) (l : Location)
      → Walk n (count_at int_type step l) (count_at int_type step l)
  to_count_at int_type step l = bound (to_read l) (λ old. followed (to_write l (counted step int_type old)) (given (given_by step old (counted step int_type old))))

  -- arrays

  pub to_index_in : (number : ℕ) (index : Word) → Walk n (index_in number index) (index_in number index)
  to_index_in number index = bound (to_words_at number) (λ all. followed (demanded (nat_lt (natural_of index) (length all)) IndexOutOfBounds) (given (natural_of index)))

  pub to_element_at : (array index : Word) → Walk n (element_at array index) (element_at array index)
  to_element_at array index = bound (to_object_of array) (λ number. bound (to_index_in number index) (λ place. given (Part number place)))

  pub to_construct_array : (of : Elements (List ℕ)) (args : List Word) → Walk n (construct_array of args) (construct_array of args)
  to_construct_array of args = bound (followed (followed to_demand_number (demanded (nat_le (count_in args) max_elements) ArrayLimit)) (to_make (Array of (replicate (count_in args) (zero_element of))) refl)) (λ number. to_give_held (words.Object number))

  to_zero_at : (number : ℕ) → Walk n (zero_at number) (zero_at number)
  to_zero_at number = looked (λ a. option_map_or zero_in (object_at number a.world.objects) words.Null) (λ more a. refl)

  pub to_resize : (number count : ℕ) → Walk n (resize number count) (resize number count)
  to_resize number count = bound (followed (demanded (nat_le count max_elements) ArrayLimit) (to_words_at number)) (λ all. bound (followed (to_hold_all (drop count all)) (to_zero_at number)) (λ zero. to_put_words number (resized count zero all)))

  pub to_insert_last : (number : ℕ) (w : Word) → Walk n (insert_last number w) (insert_last number w)
  to_insert_last number w = bound (to_words_at number) (λ all. followed (demanded (nat_lt (length all) max_elements) ArrayLimit) (to_put_words number (all ++ w ∷ [])))

  pub to_remove_last : (number : ℕ) → Walk n (remove_last number) (remove_last number)
  to_remove_last number = bound (to_words_at number) (λ all. followed (followed (demanded (nat_lt 0 (length all)) IndexOutOfBounds) (to_hold_all (drop (length all - 1) all))) (to_put_words number (take (length all - 1) all)))

  pub to_length_of : (number : ℕ) → Walk n (length_of number) (length_of number)
  to_length_of number = bound (to_words_at number) (λ all. given (length all))

  pub to_invoke_array : (method : ArrayMethod) (number : ℕ) (args : List Word) → Walk n (invoke_array method number args) (invoke_array method number args)
  to_invoke_array methods.Length number args = bound (to_length_of number) (λ count. given (words.Uint count))
  to_invoke_array methods.IsEmpty number args = bound (to_length_of number) (λ count. given (words.Bool (count == 0)))
  to_invoke_array methods.Resize number (count ∷ rest) = followed (to_resize number (natural_of count)) (given words.Null)
  to_invoke_array methods.InsertLast number (word ∷ rest) = followed (to_insert_last number word) (given words.Null)
  to_invoke_array methods.RemoveLast number args = followed (to_remove_last number) (given words.Null)
  to_invoke_array methods.Resize number [] = nowhere
  to_invoke_array methods.InsertLast number [] = nowhere

  -- classes

  pub to_cast : (p : Program) (to : ObjectType) (w : Word) → Walk n (cast p to w) (cast p to w)
  to_cast p to (words.Object number) = looked _ (λ more a. refl)
  to_cast p to _ = given _
