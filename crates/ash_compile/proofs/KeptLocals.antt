-- Steps that leave the locals of the frame as they are.
use Rattle.std.proofs.Common.{◌≡◌, ℕ, ◌-◌, List, [], ◌∷◌, ◌++◌, take, drop, length, replicate, refl, sym, ap, ◌∙◌}
use Rattle.std.proofs.Common.{subst}
use Rattle.std.proofs.Common.{true, false, Bool, nat_lt, nat_le}
use Rattle.std.specs.Prelude.{Option, Some, None, slice_get, if◌then◌else◌}
use Rattle.ash_host.specs.declared.word.Word.{Word}
use Rattle.ash_host.specs.declared.word.Word.TheVariants as words
use Rattle.ash_host.specs.declared.answer.HostAnswer.{HostAnswer}
use Rattle.ash_host.specs.declared.answer.HostAnswer.TheVariants as answers
use Rattle.ash_host.specs.declared.event.Event.{Event}
use Rattle.ash_host.specs.declared.event.Event.TheVariants.{Drew, Called}
use Rattle.ash_host.specs.declared.event.Target.{Target}
use Rattle.ash_host.specs.declared.event.Target.TheVariants as hosts
use Rattle.ash_host.specs.Calls.{HostCall, Start, Invoke}
use Rattle.ash_host.specs.Limits.{max_objects, max_elements}
use Rattle.ash_host.specs.Objects.{Plain, Array, Host, Elements}
use Rattle.ash_host.specs.Records.{HostRecord}
use Rattle.ash_typed.specs.declared.types.VarType.{VarType}
use Rattle.ash_typed.specs.declared.tree.operations.ArrayMethod.{ArrayMethod}
use Rattle.ash_typed.specs.declared.tree.operations.ArrayMethod.TheVariants as methods
use Rattle.ash_meaning.specs.declared.exception.Exception.{Exception}
use Rattle.ash_meaning.specs.declared.exception.Exception.TheVariants.{BadHostAnswer, ObjectLimit, NumbersSpent}
use Rattle.ash_meaning.specs.declared.exception.Exception.TheVariants.{ArrayLimit, IndexOutOfBounds}
use Rattle.ash_meaning.specs.Activity.{FreeBox, World, Activity, in_world}
use Rattle.ash_meaning.specs.Runs.{Run, Progress, Done, Ended, NoStep, onward, give, look, change, raise, found}
use Rattle.ash_meaning.specs.Runs.{demand, ◌>>=◌, ◌>>◌}
use Rattle.ash_meaning.specs.Releases.{hold, hold_all, give_held}
use Rattle.ash_meaning.specs.ObjectSteps.{demand_number, make, max_number, words_in, words_at, put_words}
use Rattle.ash_meaning.specs.ArraySteps.{count_in, natural_of, zero_element, zero_at, resized, construct_array}
use Rattle.ash_meaning.specs.ArraySteps.{resize, insert_last, remove_last, invoke_array}
use Rattle.ash_meaning.specs.HostSteps.{note, call_host, next_answer, after_answer, is_of, accept, invoke_host}
use Rattle.ash_meaning.specs.HostSteps.{place_of_kind, without_box, box_in, box_of_kind, draw, construct_host}

-- the locals after a step, or those before where there is none
abbrev pub locals_after : {A : Type 0} → List Word → Progress A → List Word
locals_after other (Done v b) = (b.frame).locals
locals_after other (Ended e b) = (b.frame).locals
locals_after other NoStep = other

pub record KeepsLocals {A : Type 0} (run : Run A) : Type 0 where
  pub keeps : (a : Activity) → locals_after (a.frame).locals (run a) ≡ (a.frame).locals

pub done_keeps : {A : Type 0} (run : Run A) (a b : Activity) (v : A) → KeepsLocals run → run a ≡ Done v b
    → (b.frame).locals ≡ (a.frame).locals
done_keeps {A} run a b v kept is = ap (λ (q : Progress A). locals_after (a.frame).locals q) (sym is) ∙ kept.keeps a

bound : {A B : Type 0} (p : Progress A) (f : A → Run B) (ls : List Word) → locals_after ls p ≡ ls
    → ((v : A) → KeepsLocals (f v)) → locals_after ls (onward p f) ≡ ls
bound (Done v b) f ls first next = subst (λ (xs : List Word). locals_after xs (f v b) ≡ xs) first ((next v).keeps b)
bound (Ended e b) f ls first next = first
bound NoStep f ls first next = refl

pub keeps_then : {A B : Type 0} (p : Run A) (f : A → Run B) → KeepsLocals p → ((v : A) → KeepsLocals (f v))
    → KeepsLocals (p >>= f)
keeps_then p f first next = record { keeps = λ a. bound (p a) f (a.frame).locals (first.keeps a) next }

-- steps

keeps_demand : (t : Bool) (e : Exception) → KeepsLocals (demand t e)
keeps_demand true e = record { keeps = λ a. refl }
keeps_demand false e = record { keeps = λ a. refl }

pub keeps_give : {A : Type 0} (v : A) → KeepsLocals (give v)
keeps_give v = record { keeps = λ a. refl }

pub keeps_give_held : (w : Word) → KeepsLocals (give_held w)
keeps_give_held w = record { keeps = λ a. refl }

number_by : (left : Bool) (a : Activity) → locals_after (a.frame).locals (demand left NumbersSpent a) ≡ (a.frame).locals
number_by true a = refl
number_by false a = refl

objects_by : (room : Bool) (a : Activity)
    → locals_after (a.frame).locals (onward (onward (demand room ObjectLimit a)
    (λ _. look (λ b. nat_lt (b.world).last max_number))) (λ left. demand left NumbersSpent)) ≡ (a.frame).locals
objects_by true a = number_by (nat_lt (a.world).last max_number) a
objects_by false a = refl

keeps_number : KeepsLocals demand_number
keeps_number = record { keeps = λ a. objects_by (nat_lt (length (a.world).objects) max_objects) a }

keeps_make : (object : Plain (List ℕ)) → KeepsLocals (make object)
keeps_make object = record { keeps = λ a. refl }

-- arrays

pub keeps_construct_array : (of : Elements (List ℕ)) (args : List Word) → KeepsLocals (construct_array of args)
keeps_construct_array of args =
    let few = nat_le (count_in args) max_elements in
    let array : Plain (List ℕ) = Array of (replicate (count_in args) (zero_element of)) in
    keeps_then (demand_number >> demand few ArrayLimit >> make array) (λ number. give_held (words.Object number))
    (keeps_then (demand_number >> demand few ArrayLimit) (λ _. make array)
    (keeps_then demand_number (λ _. demand few ArrayLimit) keeps_number (λ _. keeps_demand few ArrayLimit))
    (λ _. keeps_make array))
    (λ number. keeps_give_held (words.Object number))

resize_by : (few : Bool) (number count : ℕ) (a : Activity)
    → locals_after (a.frame).locals (onward (onward (demand few ArrayLimit a) (λ _. words_at number))
    (λ all. hold_all (drop count all) >> zero_at number >>= (λ zero. put_words number (resized count zero all))))
    ≡ (a.frame).locals
resize_by true number count a = refl
resize_by false number count a = refl

keeps_resize : (number count : ℕ) → KeepsLocals (resize number count)
keeps_resize number count = record { keeps = λ a. resize_by (nat_le count max_elements) number count a }

insert_by : (room : Bool) (number : ℕ) (ws : List Word) (a : Activity)
    → locals_after (a.frame).locals (onward (demand room ArrayLimit a) (λ _. put_words number ws)) ≡ (a.frame).locals
insert_by true number ws a = refl
insert_by false number ws a = refl

keeps_insert : (number : ℕ) (word : Word) → KeepsLocals (insert_last number word)
keeps_insert number word = record {
  keeps = λ a.
      let all = words_in number a.world in
      insert_by (nat_lt (length all) max_elements) number (all ++ word ∷ []) a;
}

remove_by : (some : Bool) (number : ℕ) (ws rest : List Word) (a : Activity)
    → locals_after (a.frame).locals (onward (onward (demand some IndexOutOfBounds a) (λ _. hold_all ws))
    (λ _. put_words number rest)) ≡ (a.frame).locals
remove_by true number ws rest a = refl
remove_by false number ws rest a = refl

keeps_remove : (number : ℕ) → KeepsLocals (remove_last number)
keeps_remove number = record {
  keeps = λ a.
      let all = words_in number a.world in
      remove_by (nat_lt 0 (length all)) number (drop (length all - 1) all) (take (length all - 1) all) a;
}

pub keeps_invoke_array : (method : ArrayMethod) (number : ℕ) (args : List Word) → KeepsLocals
    (invoke_array method number args)
keeps_invoke_array methods.Length number args = record { keeps = λ a. refl }
keeps_invoke_array methods.IsEmpty number args = record { keeps = λ a. refl }
keeps_invoke_array methods.Resize number [] = record { keeps = λ a. refl }
keeps_invoke_array methods.Resize number (count ∷ rest) =
    keeps_then (resize number (natural_of count)) (λ _. give words.Null) (keeps_resize number (natural_of count))
    (λ _. keeps_give words.Null)
keeps_invoke_array methods.InsertLast number [] = record { keeps = λ a. refl }
keeps_invoke_array methods.InsertLast number (word ∷ rest) =
    keeps_then (insert_last number word) (λ _. give words.Null) (keeps_insert number word) (λ _. keeps_give words.Null)
keeps_invoke_array methods.RemoveLast number args =
    keeps_then (remove_last number) (λ _. give words.Null) (keeps_remove number) (λ _. keeps_give words.Null)

-- hosts

taken_by : (target : Target) (o : Option (HostRecord × List HostRecord)) (a : Activity)
    → locals_after (a.frame).locals (onward (found o a)
    (λ taken. change (in_world (after_answer target taken.0 taken.1)) >> give (taken.0).answer)) ≡ (a.frame).locals
taken_by target (Some taken) a = refl
taken_by target None a = refl

pub keeps_call_host : (target : Target) (call : HostCall) → KeepsLocals (call_host target call)
keeps_call_host target call = record { keeps = λ a. taken_by target (next_answer target call a.world) a }

keeps_note : (event : Event) → KeepsLocals (note event)
keeps_note event = record { keeps = λ a. refl }

keeps_word : (t : Bool) (word : Word) → KeepsLocals (if t then give word else raise BadHostAnswer)
keeps_word true word = record { keeps = λ a. refl }
keeps_word false word = record { keeps = λ a. refl }

pub keeps_accept : (result : Option VarType) (answer : HostAnswer) → KeepsLocals (accept result answer)
keeps_accept None answers.Nothing = record { keeps = λ a. refl }
keeps_accept (Some of) answers.Nothing = record { keeps = λ a. refl }
keeps_accept None (answers.Value word) = record { keeps = λ a. refl }
keeps_accept (Some of) (answers.Value word) = keeps_word (is_of of word) word
keeps_accept None (answers.Raise code) = record { keeps = λ a. refl }
keeps_accept (Some of) (answers.Raise code) = record { keeps = λ a. refl }
keeps_accept None answers.NoMemory = record { keeps = λ a. refl }
keeps_accept (Some of) answers.NoMemory = record { keeps = λ a. refl }

pub keeps_invoke_host : (target : Target) (id : ℕ) (result : Option VarType) (args : List Word)
    → KeepsLocals (invoke_host target id result args)
keeps_invoke_host target id result args =
    keeps_then (call_host target (Invoke id args)) (λ answer. note (Called target id) >> accept result answer)
    (keeps_call_host target (Invoke id args))
    (λ answer. keeps_then (note (Called target id)) (λ _. accept result answer) (keeps_note (Called target id))
    (λ _. keeps_accept result answer))

box_by : (box : Option FreeBox) (place : ℕ) (a : Activity)
    → locals_after {A = ℕ × FreeBox} (a.frame).locals (onward (found box a) (λ b. give (place, b))) ≡ (a.frame).locals
box_by (Some box) place a = refl
box_by None place a = refl

place_by : (world : World) (o : Option ℕ) (a : Activity) → locals_after (a.frame).locals (box_in world o a) ≡
    (a.frame).locals
place_by world None a = refl
place_by world (Some place) a = box_by (slice_get world.pool place) place a

keeps_box : (kind : ℕ) → KeepsLocals (box_of_kind kind)
keeps_box kind = record { keeps = λ a. place_by a.world (place_of_kind kind a.world) a }

-- the box that is drawn, and the object that it is
abbrev taking : ℕ × FreeBox → Run ℕ
taking box = change (in_world (without_box box.0)) >> make (Host (box.1).kind (box.1).state)

keeps_draw : (kind : ℕ) → KeepsLocals (draw kind)
keeps_draw kind =
    keeps_then (demand_number >> box_of_kind kind >>= taking) (λ number. note (Drew number) >> give number)
    (keeps_then (demand_number >> box_of_kind kind) taking
    (keeps_then demand_number (λ _. box_of_kind kind) keeps_number (λ _. keeps_box kind))
    (λ box. record { keeps = λ a. refl }))
    (λ number. record { keeps = λ a. refl })

pub keeps_construct_host : (kind : ℕ) (args : List Word) → KeepsLocals (construct_host kind args)
keeps_construct_host kind args =
    keeps_then (draw kind)
    (λ number. hold (words.Object number) >> call_host (hosts.Object number) (Start args) >>= accept None
    >> give (words.Object number))
    (keeps_draw kind)
    (λ number. keeps_then (hold (words.Object number) >> call_host (hosts.Object number) (Start args) >>= accept None)
    (λ _. give (words.Object number))
    (keeps_then (hold (words.Object number) >> call_host (hosts.Object number) (Start args)) (accept None)
    (keeps_then (hold (words.Object number)) (λ _. call_host (hosts.Object number) (Start args))
    (record { keeps = λ a. refl }) (λ _. keeps_call_host (hosts.Object number) (Start args)))
    (λ answer. keeps_accept None answer))
    (λ _. keeps_give (words.Object number)))
