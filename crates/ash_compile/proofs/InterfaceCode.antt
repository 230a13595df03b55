-- The code of a method that an interface declares runs the method of the object's own class.
use Rattle.std.proofs.Common.{◌≡◌, ◌≤◌, ◌<◌, ℕ, ◌+◌, List, take, drop, length, sym, ap, ◌∙◌, subst, arith}
use Rattle.std.specs.Prelude.{Option, Some, None, slice_get}
use Rattle.std.specs.Option.{option_and_then, option_map_or}
use Rattle.std.proofs.lemmas.Option.{same_Some}
use Rattle.ash_host.specs.declared.word.Word.{Word}
use Rattle.ash_host.specs.declared.word.Word.TheVariants as words
use Rattle.ash_host.specs.Objects.{object_at}
use Rattle.ash_typed.specs.declared.types.ObjectType.TheVariants as objects
use Rattle.ash_typed.specs.declared.types.VarType.{VarType}
use Rattle.ash_typed.specs.declared.types.VarType.TheVariants as vars
use Rattle.ash_typed.specs.TypeOf.{value}
use Rattle.ash_typed.specs.Modules.{Signature, Function, Implementation, Class}
use Rattle.ash_typed.specs.Signatures.{signature_of}
use Rattle.ash_typed.specs.SoundModules as sound
use Rattle.ash_typed.specs.TypedTree.{Expr, exprs}
use Rattle.ash_typed.specs.SoundExpressions.{IsWellTyped, AreSoundArguments}
use Rattle.ash_meaning.specs.Activity.{Activity}
use Rattle.ash_meaning.specs.Runs.{Run, Progress, Done, onward, found, ◌>>=◌}
use Rattle.ash_meaning.specs.ObjectSteps.{object_of}
use Rattle.ash_meaning.specs.CallMeaning.{call as call_meaning, call_through}
use Rattle.ash_meaning.specs.Classes.{Method, entry_of_method, class_of, implementation_in, implemented}
use Rattle.ash_meaning.specs.ExpressionMeaning.{expression, arguments}
use Rattle.ash_soundness.specs.WellFormed.{declared, Shape, ListsInterface, AreValues, is_this}
use Rattle.ash_soundness.proofs.Entries.{chained, implementation_found, zip_at}
use Rattle.ash_soundness.proofs.Found.{some_from, class_at_seen, implemented_there}
use Rattle.ash_run_steps.specs.Guarded.{Guarded, onward as guarded_onward}
use Rattle.ash_code.specs.declared.instruction.Instruction.TheVariants as i
use Rattle.ash_code.specs.Controls.{control}
use Rattle.ash_code.specs.Performing.{Next, own_name, classes_of, call}
use Rattle.ash_code.specs.Steps.{method_of, found as found_guarded}
use Rattle.ash_compile.specs.Stretches.{continued, Arrives, Computes}
use Rattle.ash_compile.specs.Callees.{a_method}
use Rattle.ash_compile.specs.Arguments.{DoesArguments}
use Rattle.ash_compile.specs.Emission.{Scene, IsScene, Good, DoesExpression, calls_of}
use Rattle.ash_compile.proofs.Simulation.{step_is}
use Rattle.ash_compile.proofs.Emission.{HasAt, greatest_within}
use Rattle.ash_compile.proofs.Typed.{stays_good}
use Rattle.ash_compile.proofs.Arguments.{arguments_long}
use Rattle.ash_compile.proofs.Callees.{entry_there}
use Rattle.ash_compile.proofs.CallCode.{by_object, row_within, moves_back, does_call, call_is}
use Rattle.ash_compile.proofs.MethodCode.{ready, on_object}
use Rattle.ash_compile.proofs.Tables.{finds_method}
use Rattle.ash_compile.proofs.Implemented.{are_implemented}

module _ (s : Scene) (scene : IsScene s) (interface method : ℕ) (all : List Signature) (g : Signature)
    (at_all : slice_get (declared s.context).interfaces interface ≡ Some all)
    (at_g : slice_get all method ≡ Some g) where
  -- the method that the class of an object has
  record HasOwn (shape : Shape) (class : ℕ) : Type 0 where
    pub own : ℕ
    pub source : Class
    pub function : Function
    pub there : slice_get (((s.context).program).tree).classes class ≡ Some source
    pub here : slice_get source.methods own ≡ Some function
    pub found : implemented ((s.context).program).tree interface method class ≡ Some own
    pub as_declared : signature_of function ≡ g

  has_own : (shape : Shape) (fits : ListsInterface (s.context).program interface shape) → HasOwn shape fits.class
  has_own shape fits =
      let m = ((s.context).program).tree in
      let (own, found_own) = some_from (implemented m interface method fits.class)
      (implemented_there scene.sound interface method all g at_all at_g fits) in
      let (x, found_x, at_own) = chained (λ (i : Implementation). slice_get i.methods method)
      (implementation_in m fits.class interface) own found_own in
      let (k, at_k, same, within, (others, at_others, zipped)) = implementation_found scene.sound fits.class interface
      x found_x in
      let one : others ≡ all = same_Some others all
      (sym at_others ∙ ap (slice_get (declared s.context).interfaces) same ∙ at_all) in
      let (y, at_y, (f, at_f, signature)) = zip_at
      (sound.ImplementsDeclared k.methods) others x.methods method own zipped at_own in
      let declared_y : slice_get all method ≡ Some y = subst
      (λ (l : List Signature). slice_get l method ≡ Some y) one at_y in
      record {
        own = own;
        source = k;
        function = f;
        there = at_k;
        here = at_f;
        found = found_own;
        as_declared = signature ∙ same_Some y g (sym declared_y ∙ at_g);
      }

  pub does_through : (e : Expr) (es : List Expr) (from mid at slot : ℕ)
      → IsWellTyped s.env e (value (vars.Handle (objects.Interface interface)))
      → AreSoundArguments s.env g.parameters (exprs es)
      → slot + 1 < s.greatest
      → DoesExpression s e from mid slot
      → DoesArguments s es mid at (slot + 1)
      → HasAt s at (i.CallInterface interface method slot (slot + 1))
      → HasAt s (at + 1) (i.Move (slot + 1) slot)
      → Computes s.setting (Good s) s.function s.room
      (expression (calls_of s) e >>= (λ handle. arguments (calls_of s) (exprs es) >>= (λ ws. object_of handle
      >>= (λ number. call_through (calls_of s) interface method number ws)))) from (at + 1 + 1) slot
  does_through e es from mid at slot typed sound under object does has moves =
      by_object s.setting (Good s) s.function s.room (expression (calls_of s) e) (arguments (calls_of s) (exprs es))
      (λ handle ws. object_of handle >>= calls ws) from mid at (at + 1 + 1) slot (length es) object does
      (λ a b v good ran. stays_good s e (value (vars.Handle (objects.Interface interface))) a b v scene typed good ran)
      (λ w a b d handle ws rest low long fits good ran run held are goes.
      let c = control s.function at w in
      let got = ready s (objects.Interface interface) e es g.parameters a b d handle ws scene typed sound good ran run
      in
      let next : ℕ → Guarded Next
      = λ number x. guarded_onward
      (found_guarded (method_of (own_name s.setting) (classes_of s.setting) interface method number) x)
      (λ function. call s.setting function (words.Object number) (slot + 1) c) in
      on_object s scene w slot at d handle next (calls ws) rest got.reference held
      (step_is s.setting (Good s) s.function s.room w d at (i.CallInterface interface method slot (slot + 1)) has)
      (λ number shape at_shape lists is stepped.
      let own = has_own shape lists in
      let seen = class_at_seen scene.sound number (d.world).objects shape lists.class at_shape lists.of in
      let same = means number lists.class own.own ws d seen own.found
      ∙ call_is s scene (Method lists.class own.own) (entry_of_method own.source own.function)
      (words.Object number) ws d
      (entry_there scene.sound (a_method own.there own.here)) in
      let enters = stepped
      ∙ ap (λ (name : List ℕ).
      guarded_onward (found_guarded (method_of name (classes_of s.setting) interface method number) d)
      (λ function. call s.setting function (words.Object number) (slot + 1) c)) scene.owner
      ∙ ap (λ (o : Option ℕ). guarded_onward (option_map_or (λ function. Some (Done function d)) o None)
      (λ function. call s.setting function (words.Object number) (slot + 1) c))
      (finds_method s.setting ((s.context).program).tree scene.classes
      ((s.context).program).name interface method number
      lists.class own.own own.source d seen own.there (are_implemented scene.sound lists.class own.source own.there)
      own.found) in
      let types : g.parameters ≡ (own.function).parameters = ap (λ (x : Signature). x.parameters)
      (sym own.as_declared) in
      let count : length es ≡ length (own.function).parameters
      = arguments_long es sound ∙ ap (λ (ts : List VarType). length ts) types in
      subst (λ (p : Progress Word). Arrives s.setting c d (continued p rest)) (sym same)
      (does_call s scene (Method lists.class own.own) _ (own.function).result (entry_of_method own.source own.function)
      (a_method own.there own.here) w (slot + 1) at d d (words.Object number) ws rest (omega (arith, low)) under
      (fit w.slots (length (own.function).parameters) count long) long fits got.good
      (ap (λ (n : ℕ). take n (drop (slot + 1) w.slots)) (sym count) ∙ are) (is_this at_shape lists.of)
      (subst (λ (ts : List VarType). AreValues (s.context).program (d.world).objects ts ws) types got.values) enters
      (λ x word after called keeps.
      moves_back s.setting (Good s) s.function s.room w slot (at + 1) word after x rest moves low
      (omega (arith, object.within, long)) keeps
      (λ slots last. goes word x slots
      (ap (λ (h : Word). onward (object_of h d) (calls ws)) is ∙ same ∙ called) last)))))
    where
      calls : List Word → ℕ → Run Word
      calls ws number = call_through (calls_of s) interface method number ws

      means : (number class own : ℕ) (ws : List Word) (d : Activity)
          → option_and_then (class_of (s.context).program) (object_at number (d.world).objects) ≡ Some class
          → implemented ((s.context).program).tree interface method class ≡ Some own
          → call_through (calls_of s) interface method number ws d
          ≡ call_meaning (calls_of s) (Method class own) (words.Object number) ws d
      means number class own ws d seen found_own =
          ap (λ (o : Option ℕ). onward (found o d)
          (λ x. found (implemented ((s.context).program).tree interface method x)
          >>= (λ y. call_meaning (calls_of s) (Method x y) (words.Object number) ws))) seen
          ∙ ap (λ (o : Option ℕ). onward (found o d)
          (λ y. call_meaning (calls_of s) (Method class y) (words.Object number) ws))
          found_own

      fit : (slots : List Word) (count : ℕ) → length es ≡ count → s.room ≤ length slots
          → slot + 1 + count ≤ length slots
      fit slots count same long =
          let within : slot + 1 < s.room = omega (arith, under, greatest_within s scene) in
          omega (arith, row_within (slot + 1) (length es) s.room within does.within, same, long)
