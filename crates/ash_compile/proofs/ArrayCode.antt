-- The code of methods of arrays does what they do, and that of arrays which are constructed with a length.
use Rattle.std.proofs.Common.{◌≡◌, ◌<◌, ℕ, zero, suc, ◌+◌, List, [], ◌∷◌, take, drop, length, refl, sym, ap, ◌∙◌, arith}
use Rattle.std.proofs.Common.{true, false, Bool, cond}
use Rattle.std.specs.Prelude.{Option, Some, None, slice_set, slice_index_or, ◌&&◌}
use Rattle.std.specs.Option.{option_map_or}
use Rattle.ash_host.specs.declared.word.Word.{Word}
use Rattle.ash_host.specs.declared.word.Word.TheVariants as words
use Rattle.ash_host.specs.declared.element.ElementTag.{ElementTag}
use Rattle.ash_host.specs.Objects.{Plain, Script, Array, Host, Elements}
use Rattle.ash_integers.specs.declared.int_type.IntType.TheVariants as ints
use Rattle.ash_typed.specs.declared.types.Element as typed_element
use Rattle.ash_typed.specs.declared.types.ObjectType.TheVariants as objects
use Rattle.ash_typed.specs.declared.types.VarType.TheVariants as vars
use Rattle.ash_typed.specs.declared.tree.operations.ArrayMethod.{ArrayMethod}
use Rattle.ash_typed.specs.declared.tree.operations.ArrayMethod.TheVariants as methods
use Rattle.ash_typed.specs.TypeOf.{value, type_of_element}
use Rattle.ash_typed.specs.TypedTree.{Expr, exprs}
use Rattle.ash_typed.specs.SoundExpressions.{IsWellTyped, AreSoundArguments}
use Rattle.ash_typed.specs.SoundOperations.{parameters_of_array_method}
use Rattle.ash_meaning.specs.Activity.{Activity}
use Rattle.ash_meaning.specs.Runs.{onward, ◌>>=◌}
use Rattle.ash_meaning.specs.ObjectSteps.{object_of}
use Rattle.ash_meaning.specs.ArraySteps as arrays
use Rattle.ash_meaning.specs.ArraySteps.{natural_of, construct_array, invoke_array}
use Rattle.ash_meaning.specs.ExpressionMeaning.{expression, arguments}
use Rattle.ash_meaning.specs.Classes.{Program, element_of}
use Rattle.ash_soundness.specs.WellFormed.{Shape, OfElements, shape_of, shape_at, IsArrayOf, AreValues, and_value}
use Rattle.ash_soundness.specs.WellFormed.{no_values}
use Rattle.ash_soundness.proofs.Arrays.{object_with}
use Rattle.ash_object_ranks.specs.ShownTables.{elements_shown}
use Rattle.ash_run_steps.specs.Guarded.{Guarded, onward as guarded_onward}
use Rattle.ash_run_steps.specs.GuardedSteps.{is_alive}
use Rattle.ash_run_steps.specs.ArrayGuards.{is_array, is_array_object, array_length, array_is_empty, resize_array}
use Rattle.ash_run_steps.specs.ArrayGuards.{insert_last, remove_last}
use Rattle.ash_code.specs.declared.instruction.Instruction.{Instruction}
use Rattle.ash_code.specs.declared.instruction.Instruction.TheVariants as i
use Rattle.ash_code.specs.Controls.{Control, Window, control, word_at}
use Rattle.ash_code.specs.Performing.{Setting, Next, perform, put}
use Rattle.ash_compile.specs.Stretches.{Computes}
use Rattle.ash_compile.specs.Arguments.{DoesArguments}
use Rattle.ash_compile.specs.Emission.{Scene, IsScene, Good, DoesExpression, calls_of}
use Rattle.ash_compile.proofs.Simulation.{step_is, puts, stored}
use Rattle.ash_compile.proofs.Emission.{HasAt, greatest_within}
use Rattle.ash_compile.proofs.Typed.{stays_good, value_alive}
use Rattle.ash_compile.proofs.Arguments.{argued, arguments_long}
use Rattle.ash_compile.proofs.KeptLocals.{done_keeps, keeps_construct_array, keeps_invoke_array}
use Rattle.ash_compile.proofs.CallCode.{by_object}
use Rattle.ash_compile.proofs.MethodCode.{ready, on_object}
use Rattle.ash_compile.proofs.HostCode.{grouped_guards, null_given, by_put}

-- the first of the arguments
first_word : (xs : List Word) (k : ℕ) (word : Word) → take 1 (drop k xs) ≡ word ∷ [] → slice_index_or xs k words.Null
    ≡ word
first_word [] zero word is = absurd (cc)
first_word [] (suc k) word is = absurd (cc)
first_word (x ∷ xs) zero word is = head_is is
  where
    head_is : {x y : Word} → x ∷ [] ≡ y ∷ [] → x ≡ y
    head_is same = cc
first_word (x ∷ xs) (suc k) word is = first_word xs k word is

-- what an instruction of a method does, of the object in a slot and the argument in the next one

abbrev pub array_instruction : ArrayMethod → ℕ → Instruction
array_instruction methods.Length slot = i.Length slot slot
array_instruction methods.Resize slot = i.Resize slot (slot + 1) slot
array_instruction methods.InsertLast slot = i.InsertLast slot (slot + 1) slot
array_instruction methods.RemoveLast slot = i.RemoveLast slot slot
array_instruction methods.IsEmpty slot = i.IsEmpty slot slot

abbrev on_array : ArrayMethod → ℕ → Control → ℕ → Guarded Next
on_array methods.Length slot c number b = guarded_onward (array_length number b) (put slot c)
on_array methods.Resize slot c number b =
    guarded_onward (resize_array number (word_at (slot + 1) c) b) (λ _. put slot c words.Null)
on_array methods.InsertLast slot c number b =
    guarded_onward (insert_last number (word_at (slot + 1) c) b) (λ _. put slot c words.Null)
on_array methods.RemoveLast slot c number b = guarded_onward (remove_last number b) (λ _. put slot c words.Null)
on_array methods.IsEmpty slot c number b = guarded_onward (array_is_empty number b) (put slot c)

performs_array : (s : Setting) (method : ArrayMethod) (slot : ℕ) (c : Control) (d : Activity)
    → perform s (array_instruction method slot) c d
    ≡ guarded_onward (Some (object_of (word_at slot c) d)) (on_array method slot c)
performs_array s methods.Length slot c d = grouped_guards (object_of (word_at slot c) d) array_length (put slot c)
performs_array s methods.Resize slot c d =
    grouped_guards (object_of (word_at slot c) d) (λ number. resize_array number (word_at (slot + 1) c))
    (λ _. put slot c words.Null)
performs_array s methods.InsertLast slot c d =
    grouped_guards (object_of (word_at slot c) d) (λ number. insert_last number (word_at (slot + 1) c))
    (λ _. put slot c words.Null)
performs_array s methods.RemoveLast slot c d =
    grouped_guards (object_of (word_at slot c) d) remove_last (λ _. put slot c words.Null)
performs_array s methods.IsEmpty slot c d = grouped_guards (object_of (word_at slot c) d) array_is_empty (put slot c)

-- an object of such a shape is an array
array_object : {of : Elements (List ℕ)} (x : Plain (List ℕ)) → shape_of x ≡ OfElements of → is_array_object x ≡ true
array_object (Script owner place fields) is = absurd (cc)
array_object (Array of elements) is = refl
array_object (Host kind state) is = absurd (cc)

array_there : (p : Program) (of : typed_element.Element) (number : ℕ) (shape : Shape) (d : Activity)
    → shape_at number (d.world).objects ≡ Some shape → IsArrayOf p of shape → is_array number d ≡ true
array_there p of number shape d at fits =
    let (x, there, is) = object_with number (d.world).objects shape at in
    ap (λ (o : Option (Plain (List ℕ))). option_map_or is_array_object o false) there ∙ array_object x (is ∙ fits.is)

-- what it does is what the method does
array_done : (p : Program) (of : typed_element.Element) (method : ArrayMethod) (w : Window)
    (function at slot number : ℕ)
    (shape : Shape) (ws : List Word) (d : Activity)
    → shape_at number (d.world).objects ≡ Some shape → IsArrayOf p of shape
    → AreValues p (d.world).objects (parameters_of_array_method of method) ws
    → take (length (parameters_of_array_method of method)) (drop (slot + 1) w.slots) ≡ ws
    → on_array method slot (control function at w) number d
    ≡ guarded_onward (Some (invoke_array method number ws d)) (put slot (control function at w))
array_done p of methods.Length w function at slot number shape ws d there fits vs are = refl
array_done p of methods.IsEmpty w function at slot number shape ws d there fits vs are = refl
array_done p of methods.Resize w function at slot number shape _ d there fits
    (and_value {word = count} v no_values) are =
    let c = control function at w in
    ap (λ (x : Word). guarded_onward (resize_array number x d) (λ _. put slot c words.Null))
    (first_word w.slots (slot + 1) count are)
    ∙ ap (λ (t : Bool). guarded_onward (cond t (Some (arrays.resize number (natural_of count) d)) None)
    (λ _. put slot c words.Null)) (array_there p of number shape d there fits)
    ∙ null_given (arrays.resize number (natural_of count) d) (put slot c)
array_done p of methods.InsertLast w function at slot number shape _ d there fits
    (and_value {word = word} v no_values) are =
    let c = control function at w in
    ap (λ (x : Word). guarded_onward (insert_last number x d) (λ _. put slot c words.Null))
    (first_word w.slots (slot + 1) word are)
    ∙ ap (λ (t : Bool). guarded_onward (cond (t && is_alive word d) (Some (arrays.insert_last number word d)) None)
    (λ _. put slot c words.Null)) (array_there p of number shape d there fits)
    ∙ ap (λ (t : Bool). guarded_onward (cond t (Some (arrays.insert_last number word d)) None)
    (λ _. put slot c words.Null)) (value_alive p (type_of_element of) word d v)
    ∙ null_given (arrays.insert_last number word d) (put slot c)
array_done p of methods.RemoveLast w function at slot number shape ws d there fits vs are =
    let c = control function at w in
    ap (λ (t : Bool). guarded_onward (cond t (Some (arrays.remove_last number d)) None)
    (λ _. put slot c words.Null)) (array_there p of number shape d there fits)
    ∙ null_given (arrays.remove_last number d) (put slot c)

module _ (s : Scene) (scene : IsScene s) where
  pub does_array_method : (of : typed_element.Element) (method : ArrayMethod) (e : Expr) (es : List Expr)
      (from mid at slot : ℕ)
      → IsWellTyped s.env e (value (vars.Handle (objects.Array of)))
      → AreSoundArguments s.env (parameters_of_array_method of method) (exprs es)
      → DoesExpression s e from mid slot
      → DoesArguments s es mid at (slot + 1)
      → HasAt s at (array_instruction method slot)
      → Computes s.setting (Good s) s.function s.room
      (expression (calls_of s) e >>= (λ handle. arguments (calls_of s) (exprs es) >>= (λ ws. object_of handle
      >>= (λ number. invoke_array method number ws)))) from (at + 1) slot
  does_array_method of method e es from mid at slot typed sound object does has =
      by_object s.setting (Good s) s.function s.room (expression (calls_of s) e) (arguments (calls_of s) (exprs es))
      (λ handle ws. object_of handle >>= (λ number. invoke_array method number ws)) from mid at (at + 1) slot
      (length es)
      object does
      (λ a b v good ran. stays_good s e (value (vars.Handle (objects.Array of))) a b v scene typed good ran)
      (λ w a b d handle ws rest low long fits good ran run held are goes.
      let c = control s.function at w in
      let types = parameters_of_array_method of method in
      let got = ready s (objects.Array of) e es types a b d handle ws scene typed sound good ran run in
      on_object s scene w slot at d handle (on_array method slot c) (λ number. invoke_array method number ws) rest
      got.reference held
      (step_is s.setting (Good s) s.function s.room w d at (array_instruction method slot) has
      ∙ performs_array s.setting method slot c d)
      (λ number shape at_shape of_array is stepped.
      puts s.setting (Good s) s.function s.room w at slot d (invoke_array method number ws d) rest
      (stepped ∙ array_done (s.context).program of method w s.function at slot number shape ws d at_shape of_array
      got.values
      (ap (λ (n : ℕ). take n (drop (slot + 1) w.slots)) (sym (arguments_long es sound)) ∙ are)) low
      (λ v x called.
      goes v x (slice_set w.slots slot v)
      (ap (λ (h : Word). onward (object_of h d) (λ n. invoke_array method n ws)) is ∙ called)
      (stored s.setting (Good s) s.function s.room w slot v d x low (omega (arith, object.within, long)) fits
      (done_keeps (invoke_array method number ws) d x v (keeps_invoke_array method number ws) called)))))

  -- an array with so many elements as its argument says
  pub does_sized_array : (of : typed_element.Element) (tag : ElementTag) (es : List Expr) (from at slot : ℕ)
      → slot < s.greatest
      → elements_shown ((s.setting).names).modules tag ≡ element_of (s.context).program of
      → AreSoundArguments s.env (vars.Integer ints.Uint ∷ []) (exprs es)
      → DoesArguments s es from at slot
      → HasAt s at (i.ConstructArrayOf tag slot slot)
      → Computes s.setting (Good s) s.function s.room
      (arguments (calls_of s) (exprs es) >>= construct_array (element_of (s.context).program of)) from (at + 1) slot
  does_sized_array of tag es from at slot under same sound does has =
      by_put s.setting (Good s) s.function s.room (arguments (calls_of s) (exprs es))
      (construct_array (element_of (s.context).program of)) (i.ConstructArrayOf tag slot slot) from at slot
      (length es) (omega (arith, under, greatest_within s scene)) does has
      (λ ws. keeps_construct_array (element_of (s.context).program of) ws)
      (λ w a b ws good ran are.
      let c = control s.function at w in
      let values = ((argued s es (vars.Integer ints.Uint ∷ []) a b ws scene sound good ran).carried).values in
      ap (λ (shown : Elements (List ℕ)). guarded_onward (Some (construct_array shown (word_at slot c ∷ []) b))
      (put slot c)) same
      ∙ ap (λ (us : List Word). guarded_onward (Some (construct_array (element_of (s.context).program of) us b))
      (put slot c))
      (one_word ws w.slots values (ap (λ (n : ℕ). take n (drop slot w.slots)) (sym (arguments_long es sound)) ∙ are)))
    where
      one_word : {all : _} (ws slots : List Word) → AreValues (s.context).program all (vars.Integer ints.Uint ∷ []) ws
          → take 1 (drop slot slots) ≡ ws → slice_index_or slots slot words.Null ∷ [] ≡ ws
      one_word _ slots (and_value {word = word} v no_values) are =
          ap (λ (x : Word). x ∷ []) (first_word slots slot word are)
