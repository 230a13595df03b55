-- Emitted code of calls, target by target.
use Rattle.std.proofs.Common.{◌≡◌, ◌<◌, ◌≤◌, ℕ, ◌+◌, List, [], ◌∷◌, length, map, refl, sym, ap, ◌∙◌, subst, arith}
use Rattle.std.proofs.Common.{true}
use Rattle.std.specs.Prelude.{Option, Some, slice_get}
use Rattle.std.proofs.lemmas.Option.{slice_get-map, slice_get_within}
use Rattle.std.proofs.lemmas.List.{length-map}
use Rattle.ash_host.specs.declared.element.ElementTag.{ElementTag}
use Rattle.ash_integers.specs.declared.int_type.IntType.TheVariants as ints
use Rattle.ash_object_ranks.specs.ShownTables.{SlotNames, elements_shown}
use Rattle.ash_typed.specs.declared.types.Element as typed_element
use Rattle.ash_typed.specs.declared.tree.operations.ArrayMethod.{ArrayMethod}
use Rattle.ash_typed.specs.declared.types.ObjectType.{ObjectType}
use Rattle.ash_typed.specs.declared.types.ObjectType.TheVariants as objects
use Rattle.ash_typed.specs.declared.types.VarType.{VarType}
use Rattle.ash_typed.specs.declared.types.VarType.TheVariants as vars
use Rattle.ash_typed.specs.declared.tree.operations.Method.{Method}
use Rattle.ash_typed.specs.declared.tree.operations.Method.TheVariants as methods
use Rattle.ash_typed.specs.declared.tree.operations.CallTarget.{CallTarget}
use Rattle.ash_typed.specs.declared.tree.operations.CallTarget.TheVariants as targets
use Rattle.ash_typed.specs.TypeOf.{ValueType, value}
use Rattle.ash_typed.specs.TypedTree.{Expr, Exprs, exprs, Invoke, Call}
use Rattle.ash_typed.specs.Modules.{Signature, Function, Class, Module}
use Rattle.ash_typed.specs.Signatures as signatures
use Rattle.ash_typed.specs.Signatures.{ModuleSignatures, ClassTypes, IsElementType, signature_of, signature_of_class}
use Rattle.ash_typed.specs.Signatures.{methods_of_interface, parameters_of}
use Rattle.ash_typed.specs.SoundOperations as operations
use Rattle.ash_typed.specs.SoundOperations.{IsMethod, IsTarget, parameters_of_array_method}
use Rattle.ash_typed.specs.SoundExpressions as typing
use Rattle.ash_typed.specs.SoundExpressions.{TypedEnvironment, IsWellTyped, AreSoundArguments}
use Rattle.ash_meaning.specs.Classes.{Program, Method as ClassMethod, element_of}
use Rattle.ash_soundness.specs.WellFormed.{declared, IsNamed}
use Rattle.ash_soundness.proofs.Entries.{mapped}
use Rattle.ash_code.specs.declared.instruction.Instruction.{Instruction}
use Rattle.ash_code.specs.declared.instruction.Instruction.TheVariants as i
use Rattle.ash_compile.specs.declared.builder.Written.{Written}
use Rattle.ash_compile.specs.declared.layout.Layout.{Layout}
use Rattle.ash_compile.specs.Layout.{index_of, IsLayout}
use Rattle.ash_compile.specs.Arguments.{DoesArguments, EmitsArguments}
use Rattle.ash_compile.specs.EmittedFrames.{frame_of_function, frame_of_method}
use Rattle.ash_compile.specs.ValidCode.{counts_of, constructors_of, has_callee}
use Rattle.ash_compile.specs.Emission.{code_of, end_of, Keeps, Puts, Scene, IsScene, Suits, DoesExpression, Emits}
use Rattle.ash_compile.proofs.Emission.{HasAt, keeps_on, put_keeps, put_one, put_greatest, suits_before}
use Rattle.ash_compile.proofs.Emission.{stands_before, stands_after, has_put}
use Rattle.ash_compile.proofs.ModuleFrames.{function_at, method_at}
use Rattle.ash_compile.proofs.Counted.{frame_counted, class_counted}
use Rattle.ash_compile.proofs.ValidSteps.{lower}
use Rattle.ash_compile.proofs.CallCode.{does_function}
use Rattle.ash_compile.proofs.MethodCode.{does_method}
use Rattle.ash_compile.proofs.InterfaceCode.{does_through}
use Rattle.ash_compile.proofs.ConstructionCode.{does_construction}
use Rattle.ash_compile.proofs.HostCode.{does_service, does_host_construction, does_empty_array}
use Rattle.ash_compile.proofs.HostMethodCode.{does_host_method}
use Rattle.ash_compile.proofs.ArrayCode.{array_instruction, does_array_method, does_sized_array}
use Rattle.ash_compile.proofs.Arguments.{arguments_long}

-- arguments, then an instruction with their values
pub emits_call : (start old new : Written) (es : List Expr) (f : Expr) (slot : ℕ) (j : Instruction)
    → EmitsArguments start old es slot → Puts old new slot j
    → ((s : Scene) (of : ValueType) → IsWellTyped s.env f of
    → (parameters : List VarType) × AreSoundArguments s.env parameters (exprs es))
    → ((s : Scene) (of : ValueType) (from at : ℕ) → IsScene s → IsWellTyped s.env f of → Suits s new → slot < s.greatest
    → DoesArguments s es from at slot → HasAt s at j → DoesExpression s f from (at + 1) slot)
    → Emits start new f slot
emits_call start old new es f slot j first puts sound does = record {
  keeps = keeps_on start old new first.keeps (put_keeps old new slot j puts);
  does = λ s of scene typed stands suits.
      let last = put_keeps old new slot j puts in
      let row = sound s of typed in
      subst (λ (to : ℕ). DoesExpression s f (end_of start) to slot) (sym (put_one old new slot j puts))
      (does s of (end_of start) (end_of old) scene typed suits (put_greatest s old new slot j puts suits)
      (first.does s row.0 scene row.1 (stands_before s old new (end_of start) last stands)
      (suits_before s old new last suits))
      (has_put s old new (end_of start) slot j (first.keeps).longer puts stands));
}

-- an object, then arguments, then an instruction that leaves its value behind the object, which is moved there
pub emits_method : (start mid old put new : Written) (e : Expr) (es : List Expr) (f : Expr) (slot : ℕ)
    (j : Instruction)
    → Emits start mid e slot → EmitsArguments mid old es (slot + 1) → Puts old put (slot + 1) j
    → Puts put new slot (i.Move (slot + 1) slot)
    → ((s : Scene) (of : ValueType) → IsWellTyped s.env f of → (x : ValueType) × IsWellTyped s.env e x)
    → ((s : Scene) (of : ValueType) → IsWellTyped s.env f of
    → (parameters : List VarType) × AreSoundArguments s.env parameters (exprs es))
    → ((s : Scene) (of : ValueType) (from between at : ℕ) → IsScene s → IsWellTyped s.env f of → Suits s new
    → slot + 1 < s.greatest → DoesExpression s e from between slot → DoesArguments s es between at (slot + 1)
    → HasAt s at j → HasAt s (at + 1) (i.Move (slot + 1) slot)
    → DoesExpression s f from (at + 1 + 1) slot)
    → Emits start new f slot
emits_method start mid old put new e es f slot j first second call move object sound does = record {
  keeps = keeps_on start mid new first.keeps (keeps_on mid old new second.keeps (keeps_on old put new
      (put_keeps old put (slot + 1) j call) (put_keeps put new slot (i.Move (slot + 1) slot) move)));
  does = λ s of scene typed stands suits.
      let last = put_keeps put new slot (i.Move (slot + 1) slot) move in
      let called = put_keeps old put (slot + 1) j call in
      let later = keeps_on old put new called last in
      let all = keeps_on mid old new second.keeps later in
      let at_call = put_one old put (slot + 1) j call in
      let at_move = put_one put new slot (i.Move (slot + 1) slot) move in
      let inner = object s of typed in
      let row = sound s of typed in
      let before = stands_before s old new (end_of start) later stands in
      let half = stands_before s put new (end_of start) last stands in
      let half_suits = suits_before s put new last suits in
      subst (λ (to : ℕ). DoesExpression s f (end_of start) to slot) (sym (at_move ∙ ap (λ (n : ℕ). n + 1) at_call))
      (does s of (end_of start) (end_of mid) (end_of old) scene typed suits
      (put_greatest s old put (slot + 1) j call half_suits)
      (first.does s inner.0 scene inner.1 (stands_before s mid new (end_of start) all stands)
      (suits_before s mid new all suits))
      (second.does s row.0 scene row.1
      (stands_after s (code_of old) (end_of start) (end_of mid) (end_of old) (first.keeps).longer before)
      (suits_before s old new later suits))
      (has_put s old put (end_of start) (slot + 1) j
      (omega (arith, (first.keeps).longer, (second.keeps).longer)) call half)
      (subst (λ (n : ℕ). HasAt s n (i.Move (slot + 1) slot)) at_call
      (has_put s put new (end_of start) slot (i.Move (slot + 1) slot)
      (omega (arith, (first.keeps).longer, (second.keeps).longer, at_call)) move stands)));
}

-- what typing says of calls

typed_target : {env : TypedEnvironment} {target : CallTarget} {ps : List VarType} {es : Exprs} {t : ValueType}
    → IsWellTyped env (Call target ps es) t → (result : Option VarType) × IsTarget env.signatures target ps result
typed_target (typing.call target args) = (_, target)

typed_arguments : {env : TypedEnvironment} {target : CallTarget} {ps : List VarType} {es : Exprs} {t : ValueType}
    → IsWellTyped env (Call target ps es) t → AreSoundArguments env ps es
typed_arguments (typing.call target args) = args

-- an object, its method and the arguments
record IsInvoked (env : TypedEnvironment) (e : Expr) (method : Method) (ps : List VarType) (es : Exprs) : Type 0 where
  pub object : ObjectType
  pub result : Option VarType
  pub typed : IsWellTyped env e (value (vars.Handle object))
  pub is : IsMethod env.signatures object method ps result
  pub args : AreSoundArguments env ps es

typed_invoked : {env : TypedEnvironment} {e : Expr} {method : Method} {ps : List VarType} {es : Exprs} {t : ValueType}
    → IsWellTyped env (Invoke e method ps es) t → IsInvoked env e method ps es
typed_invoked (typing.invoke e is args) = record { object = _; result = _; typed = e; is = is; args = args }

-- functions

-- a function of the module that takes these
record IsFunction (m : Module) (place : ℕ) (ps : List VarType) : Type 0 where
  pub function : Function
  pub there : slice_get m.functions place ≡ Some function
  pub takes : ps ≡ function.parameters

function_is : (s : Scene) (place : ℕ) (result other : Option VarType) (ps : List VarType) → IsScene s
    → IsTarget (s.env).signatures (targets.Function place result) ps other
    → IsFunction ((s.context).program).tree place ps
function_is s place result other ps scene (operations.function {name = name} at) =
    let m = ((s.context).program).tree in
    let listed : slice_get (declared s.context).functions place ≡ Some
    (record { name = name; result = result; parameters = ps })
    = ap (λ (x : ModuleSignatures). slice_get x.functions place) (sym scene.declares) ∙ at in
    let (f, there, is) = mapped signature_of (slice_get m.functions place) _
    (sym (slice_get-map signature_of m.functions place) ∙ listed) in
    record { function = f; there = there; takes = sym (ap (λ (x : Signature). x.parameters) is) }

pub function : (start old new : Written) (place : ℕ) (result : Option VarType) (ps : List VarType)
    (es : List Expr) (slot : ℕ)
    → EmitsArguments start old es slot → Puts old new slot (i.Call place slot)
    → Emits start new (Call (targets.Function place result) ps (exprs es)) slot
function start old new place result ps es slot first puts =
    emits_call start old new es (Call (targets.Function place result) ps (exprs es)) slot (i.Call place slot) first puts
    (λ s of typed. (ps, typed_arguments typed))
    (λ s of from at scene typed suits under does has.
    let target = typed_target typed in
    let f = function_is s place result target.0 ps scene target.1 in
    does_function s scene place f.function es from at slot f.there
    (subst (λ (types : List VarType). AreSoundArguments s.env types (exprs es)) f.takes (typed_arguments typed)) under
    does has)

-- What enters a function is emitted if the layout has that. So it is where the call is well typed.
emits_if : (start old new : Written) (f : Expr) (slot : ℕ) (j : Instruction)
    → Keeps start old → Keeps old new
    → (has_callee old.layout j ≡ true → Puts old new slot j)
    → ((s : Scene) (of : ValueType) → IsScene s → IsWellTyped s.env f of
    → IsLayout ((s.setting).code).module ((s.context).program).tree old.layout → has_callee old.layout j ≡ true)
    → (Puts old new slot j → Emits start new f slot)
    → Emits start new f slot
emits_if start old new f slot j before keeps puts there emits = record {
  keeps = keeps_on start old new before keeps;
  does = λ s of scene typed stands suits.
      (emits (puts (there s of scene typed (suits_before s old new keeps suits).layout))).does s of scene typed stands
      suits;
}

pub function_if : (start old new : Written) (place : ℕ) (result : Option VarType) (ps : List VarType)
    (es : List Expr) (slot : ℕ)
    → EmitsArguments start old es slot → Keeps old new
    → (has_callee old.layout (i.Call place slot) ≡ true → Puts old new slot (i.Call place slot))
    → Emits start new (Call (targets.Function place result) ps (exprs es)) slot
function_if start old new place result ps es slot first keeps puts =
    emits_if start old new (Call (targets.Function place result) ps (exprs es)) slot (i.Call place slot) first.keeps
    keeps puts
    (λ s of scene typed layout.
    let target = typed_target typed in
    let f = function_is s place result target.0 ps scene target.1 in
    lower place (length (counts_of old.layout))
    (frame_counted ((s.setting).code).module ((s.context).program).tree old.layout place (frame_of_function f.function)
    layout (function_at ((s.context).program).tree place f.function f.there)))
    (λ there. function start old new place result ps es slot first there)

-- methods of classes

-- a method of a class of the module that takes these
record IsMethodOf (m : Module) (class place : ℕ) (ps : List VarType) : Type 0 where
  pub source : Class
  pub method : Function
  pub there : slice_get m.classes class ≡ Some source
  pub here : slice_get source.methods place ≡ Some method
  pub takes : ps ≡ method.parameters

object_is : {s : ModuleSignatures} {o : ObjectType} {class place : ℕ} {result other : Option VarType}
    {ps : List VarType}
    → IsMethod s o (methods.Script class place result) ps other → o ≡ objects.Class class
object_is (operations.of_class at here) = refl

method_is : (s : Scene) (o : ObjectType) (class place : ℕ) (result other : Option VarType) (ps : List VarType)
    → IsScene s
    → IsMethod (s.env).signatures o (methods.Script class place result) ps other
    → IsMethodOf ((s.context).program).tree class place ps
method_is s o class place result other ps scene (operations.of_class {c = cs} {name = name} at here) =
    let m = ((s.context).program).tree in
    let signature : Signature = record { name = name; result = result; parameters = ps } in
    let listed : slice_get (declared s.context).classes class ≡ Some cs
    = ap (λ (x : ModuleSignatures). slice_get x.classes class) (sym scene.declares) ∙ at in
    let (k, there, of_k) = mapped signature_of_class (slice_get m.classes class) cs
    (sym (slice_get-map signature_of_class m.classes class) ∙ listed) in
    let own : slice_get (map signature_of k.methods) place ≡ Some signature
    = ap (λ (x : ClassTypes). slice_get x.methods place) of_k ∙ here in
    let (f, found, is) = mapped signature_of (slice_get k.methods place) signature
    (sym (slice_get-map signature_of k.methods place) ∙ own) in
    record {
      source = k;
      method = f;
      there = there;
      here = found;
      takes = sym
          (ap (λ (x : Signature). x.parameters) is);
    }

pub method : (start mid old put new : Written) (class place index : ℕ) (result : Option VarType) (e : Expr)
    (ps : List VarType) (es : List Expr) (slot : ℕ)
    → Emits start mid e slot → EmitsArguments mid old es (slot + 1)
    → ((number : ℕ) (m : Module) → IsLayout number m old.layout → class < length m.classes
    → index ≡ index_of m (ClassMethod class place))
    → Puts old put (slot + 1) (i.CallMethod index slot (slot + 1)) → Puts put new slot (i.Move (slot + 1) slot)
    → Emits start new (Invoke e (methods.Script class place result) ps (exprs es)) slot
method start mid old put new class place index result e ps es slot first second is call move =
    emits_method start mid old put new e es (Invoke e (methods.Script class place result) ps (exprs es)) slot
    (i.CallMethod index slot (slot + 1)) first second call move
    (λ s of typed. (_, (typed_invoked typed).typed)) (λ s of typed. (ps, (typed_invoked typed).args))
    (λ s of from between at scene typed suits under object does has moves.
    let invoked = typed_invoked typed in
    let f = method_is s invoked.object class place result invoked.result ps scene invoked.is in
    let layout = subst (λ (l : Layout). IsLayout ((s.setting).code).module ((s.context).program).tree l)
    (move.layout ∙ call.layout) suits.layout in
    does_method s scene class place f.source f.method e es from between at slot f.there f.here
    (subst (λ (o : ObjectType). IsWellTyped s.env e (value (vars.Handle o))) (object_is invoked.is) invoked.typed)
    (subst (λ (types : List VarType). AreSoundArguments s.env types (exprs es)) f.takes invoked.args) under object does
    (subst (λ (n : ℕ). HasAt s at (i.CallMethod n slot (slot + 1)))
    (is ((s.setting).code).module ((s.context).program).tree layout
    (slice_get_within (((s.context).program).tree).classes class f.source f.there)) has) moves)

-- A method that the layout does not have is called nowhere.
pub no_method : (start mid old : Written) (class place : ℕ) (result : Option VarType) (e : Expr)
    (ps : List VarType) (es : List Expr) (slot : ℕ)
    → Emits start mid e slot → EmitsArguments mid old es (slot + 1)
    → ((number : ℕ) (m : Module) → IsLayout number m old.layout → class < length m.classes
    → length (counts_of old.layout) ≤ index_of m (ClassMethod class place))
    → Emits start old (Invoke e (methods.Script class place result) ps (exprs es)) slot
no_method start mid old class place result e ps es slot first second none = record {
  keeps = keeps_on start mid old first.keeps second.keeps;
  does = λ s of scene typed stands suits.
      let m = ((s.context).program).tree in
      let number = ((s.setting).code).module in
      let invoked = typed_invoked typed in
      let f = method_is s invoked.object class place result invoked.result ps scene invoked.is in
      let low = frame_counted number m old.layout (index_of m (ClassMethod class place))
      (frame_of_method f.source f.method) suits.layout (method_at m class place f.source f.method f.there f.here) in
      let high = none number m suits.layout (slice_get_within m.classes class f.source f.there) in
      absurd (omega (arith, low, high));
}

-- services and what hosts construct

pub service : (start old new : Written) (index id : ℕ) (result : Option VarType) (ps : List VarType)
    (es : List Expr)
    (slot count : ℕ) → EmitsArguments start old es slot → length es ≡ count
    → Puts old new slot (i.CallService index id result slot count)
    → Emits start new (Call (targets.Service index id result) ps (exprs es)) slot
service start old new index id result ps es slot count first long puts =
    emits_call start old new es (Call (targets.Service index id result) ps (exprs es)) slot
    (i.CallService index id result slot count) first puts (λ s of typed. (ps, typed_arguments typed))
    (λ s of from at scene typed suits under does has.
    does_service s scene index id result es from at slot under does
    (subst (λ (n : ℕ). HasAt s at (i.CallService index id result slot n)) (sym long) has))

pub host : (start old new : Written) (kind : ℕ) (ps : List VarType) (es : List Expr) (slot count : ℕ)
    → EmitsArguments start old es slot → length es ≡ count → Puts old new slot (i.ConstructHost kind slot count)
    → Emits start new (Call (targets.Host kind) ps (exprs es)) slot
host start old new kind ps es slot count first long puts =
    emits_call start old new es (Call (targets.Host kind) ps (exprs es)) slot
    (i.ConstructHost kind slot count) first puts
    (λ s of typed. (ps, typed_arguments typed))
    (λ s of from at scene typed suits under does has.
    does_host_construction s scene kind es from at slot under does
    (subst (λ (n : ℕ). HasAt s at (i.ConstructHost kind slot n)) (sym long) has))

-- constructions

-- a class of the module whose construction takes these
record IsConstructed (m : Module) (class : ℕ) (ps : List VarType) : Type 0 where
  pub source : Class
  pub there : slice_get m.classes class ≡ Some source
  pub takes : ps ≡ parameters_of source.constructor

class_is : (s : Scene) (class : ℕ) (other : Option VarType) (ps : List VarType) → IsScene s
    → IsTarget (s.env).signatures (targets.Class class) ps other
    → IsConstructed ((s.context).program).tree class ps
class_is s class other ps scene (operations.class {c = cs} at) =
    let m = ((s.context).program).tree in
    let listed : slice_get (declared s.context).classes class ≡ Some cs
    = ap (λ (x : ModuleSignatures). slice_get x.classes class) (sym scene.declares) ∙ at in
    let (k, there, is) = mapped signature_of_class (slice_get m.classes class) cs
    (sym (slice_get-map signature_of_class m.classes class) ∙ listed) in
    record { source = k; there = there; takes = sym (ap (λ (x : ClassTypes). x.parameters) is) }

pub construction : (start old new : Written) (class : ℕ) (ps : List VarType) (es : List Expr) (slot : ℕ)
    → EmitsArguments start old es slot → Puts old new slot (i.Construct class slot)
    → Emits start new (Call (targets.Class class) ps (exprs es)) slot
construction start old new class ps es slot first puts =
    emits_call start old new es (Call (targets.Class class) ps (exprs es)) slot (i.Construct class slot) first puts
    (λ s of typed. (ps, typed_arguments typed))
    (λ s of from at scene typed suits under does has.
    let target = typed_target typed in
    let k = class_is s class target.0 ps scene target.1 in
    does_construction s scene class k.source k.there es from at slot
    (subst (λ (types : List VarType). AreSoundArguments s.env types (exprs es)) k.takes (typed_arguments typed)) under
    does has)

pub construction_if : (start old new : Written) (class : ℕ) (ps : List VarType) (es : List Expr) (slot : ℕ)
    → EmitsArguments start old es slot → Keeps old new
    → (has_callee old.layout (i.Construct class slot) ≡ true → Puts old new slot (i.Construct class slot))
    → Emits start new (Call (targets.Class class) ps (exprs es)) slot
construction_if start old new class ps es slot first keeps puts =
    emits_if start old new (Call (targets.Class class) ps (exprs es)) slot (i.Construct class slot) first.keeps
    keeps puts
    (λ s of scene typed layout.
    let target = typed_target typed in
    let k = class_is s class target.0 ps scene target.1 in
    lower class (length (constructors_of old.layout))
    (class_counted ((s.setting).code).module ((s.context).program).tree old.layout class k.source layout k.there))
    (λ there. construction start old new class ps es slot first there)

-- arrays

-- what the elements of an array are, as the table of objects has it
abbrev pub ShowsElement : Written → typed_element.Element → ElementTag → Type 0
ShowsElement builder of tag =
    (names : SlotNames) (number : ℕ) (p : Program) → IsLayout number p.tree builder.layout → names number ≡ p.name
    → IsNamed p.tree of → elements_shown names tag ≡ element_of p of

shown : (s : Scene) (old new : Written) (of : typed_element.Element) (tag : ElementTag) (ps : List VarType)
    (result : Option VarType) → IsScene s → new.layout ≡ old.layout → Suits s new → ShowsElement old of tag
    → IsTarget (s.env).signatures (targets.Array of) ps result
    → elements_shown ((s.setting).names).modules tag ≡ element_of (s.context).program of
shown s old new of tag ps result scene same suits shows is =
    shows ((s.setting).names).modules ((s.setting).code).module (s.context).program
    (subst (λ (l : Layout). IsLayout ((s.setting).code).module ((s.context).program).tree l) same suits.layout)
    scene.owner
    (element_named (subst (λ (x : ModuleSignatures). IsTarget x (targets.Array of) ps result) scene.declares is))
  where
    named : {e : typed_element.Element} → IsElementType (declared s.context) e → IsNamed ((s.context).program).tree e
    named signatures.truths = tt
    named signatures.integers = tt
    named (signatures.of_class lt) =
        omega (arith, lt, length-map (((s.context).program).tree).classes signature_of_class)
    named (signatures.of_interface lt) =
        omega (arith, lt, length-map (((s.context).program).tree).interfaces methods_of_interface)
    named (signatures.of_host kind) = tt

    element_named : {e : typed_element.Element} {types : List VarType} {r : Option VarType}
        → IsTarget (declared s.context) (targets.Array e) types r → IsNamed ((s.context).program).tree e
    element_named (operations.empty_array of) = named of
    element_named (operations.sized_array of) = named of

pub empty_array : (start old new : Written) (of : typed_element.Element) (tag : ElementTag) (ps : List VarType)
    (es : List Expr) (slot : ℕ) → EmitsArguments start old es slot → length es ≡ 0 → ShowsElement old of tag
    → Puts old new slot (i.ConstructArray tag slot)
    → Emits start new (Call (targets.Array of) ps (exprs es)) slot
empty_array start old new of tag ps (e ∷ es) slot first none shows puts = absurd (omega (arith, none))
empty_array start old new of tag ps [] slot first none shows puts =
    emits_call start old new [] (Call (targets.Array of) ps (exprs [])) slot (i.ConstructArray tag slot) first puts
    (λ s t typed. (ps, typed_arguments typed))
    (λ s t from at scene typed suits under does has.
    let target = typed_target typed in
    does_empty_array s scene of tag from at slot under
    (shown s old new of tag ps target.0 scene puts.layout suits shows target.1) does has)

sized : {s : ModuleSignatures} {of : typed_element.Element} {ps : List VarType} {result : Option VarType}
    → IsTarget s (targets.Array of) ps result → 0 < length ps → ps ≡ vars.Integer ints.Uint ∷ []
sized (operations.empty_array of) some = absurd (omega (arith, some))
sized (operations.sized_array of) some = refl

pub sized_array : (start old new : Written) (of : typed_element.Element) (tag : ElementTag) (ps : List VarType)
    (es : List Expr) (slot : ℕ) → EmitsArguments start old es slot → 0 < length es → ShowsElement old of tag
    → Puts old new slot (i.ConstructArrayOf tag slot slot)
    → Emits start new (Call (targets.Array of) ps (exprs es)) slot
sized_array start old new of tag ps es slot first some shows puts =
    emits_call start old new es (Call (targets.Array of) ps (exprs es)) slot
    (i.ConstructArrayOf tag slot slot) first puts
    (λ s t typed. (ps, typed_arguments typed))
    (λ s t from at scene typed suits under does has.
    let target = typed_target typed in
    let one = sized target.1 (omega (arith, some, arguments_long es (typed_arguments typed))) in
    does_sized_array s scene of tag es from at slot under
    (shown s old new of tag ps target.0 scene puts.layout suits shows target.1)
    (subst (λ (types : List VarType). AreSoundArguments s.env types (exprs es)) one (typed_arguments typed)) does has)

-- an object, then arguments, then an instruction that leaves its value in the slot of the object
pub emits_at_once : (start mid old new : Written) (e : Expr) (es : List Expr) (f : Expr) (slot : ℕ)
    (j : Instruction)
    → Emits start mid e slot → EmitsArguments mid old es (slot + 1) → Puts old new slot j
    → ((s : Scene) (of : ValueType) → IsWellTyped s.env f of → (x : ValueType) × IsWellTyped s.env e x)
    → ((s : Scene) (of : ValueType) → IsWellTyped s.env f of
    → (parameters : List VarType) × AreSoundArguments s.env parameters (exprs es))
    → ((s : Scene) (of : ValueType) (from between at : ℕ) → IsScene s → IsWellTyped s.env f of
    → DoesExpression s e from between slot → DoesArguments s es between at (slot + 1) → HasAt s at j
    → DoesExpression s f from (at + 1) slot)
    → Emits start new f slot
emits_at_once start mid old new e es f slot j first second puts object sound does = record {
  keeps = keeps_on start mid new first.keeps (keeps_on mid old new second.keeps (put_keeps old new slot j puts));
  does = λ s of scene typed stands suits.
      let last = put_keeps old new slot j puts in
      let all = keeps_on mid old new second.keeps last in
      let inner = object s of typed in
      let row = sound s of typed in
      let before = stands_before s old new (end_of start) last stands in
      subst (λ (to : ℕ). DoesExpression s f (end_of start) to slot) (sym (put_one old new slot j puts))
      (does s of (end_of start) (end_of mid) (end_of old) scene typed
      (first.does s inner.0 scene inner.1 (stands_before s mid new (end_of start) all stands)
      (suits_before s mid new all suits))
      (second.does s row.0 scene row.1
      (stands_after s (code_of old) (end_of start) (end_of mid) (end_of old) (first.keeps).longer before)
      (suits_before s old new last suits))
      (has_put s old new (end_of start) slot j
      (omega (arith, (first.keeps).longer, (second.keeps).longer)) puts stands));
}

-- a method of an array, of these elements
record IsArrayMethod (env : TypedEnvironment) (e : Expr) (method : ArrayMethod) (ps : List VarType) (es : Exprs)
    : Type 0 where
  pub of : typed_element.Element
  pub typed : IsWellTyped env e (value (vars.Handle (objects.Array of)))
  pub args : AreSoundArguments env (parameters_of_array_method of method) es

of_array : {env : TypedEnvironment} {e : Expr} {o : ObjectType} {method : ArrayMethod} {ps : List VarType} {es : Exprs}
    {result : Option VarType} → IsWellTyped env e (value (vars.Handle o))
    → IsMethod env.signatures o (methods.Array method) ps result → AreSoundArguments env ps es
    → IsArrayMethod env e method ps es
of_array typed (operations.of_array {of = of}) args = record { of = of; typed = typed; args = args }

array_invoked : {env : TypedEnvironment} {e : Expr} {method : ArrayMethod} {ps : List VarType} {es : Exprs}
    {t : ValueType}
    → IsWellTyped env (Invoke e (methods.Array method) ps es) t → IsArrayMethod env e method ps es
array_invoked (typing.invoke e is args) = of_array e is args

pub array_method : (start mid old new : Written) (method : ArrayMethod) (e : Expr) (ps : List VarType)
    (es : List Expr)
    (slot : ℕ) → Emits start mid e slot → EmitsArguments mid old es (slot + 1)
    → Puts old new slot (array_instruction method slot)
    → Emits start new (Invoke e (methods.Array method) ps (exprs es)) slot
array_method start mid old new method e ps es slot first second puts =
    emits_at_once start mid old new e es (Invoke e (methods.Array method) ps (exprs es)) slot
    (array_instruction method slot)
    first second puts
    (λ s of typed. (_, (array_invoked typed).typed)) (λ s of typed. (_, (array_invoked typed).args))
    (λ s of from between at scene typed object does has.
    let invoked = array_invoked typed in
    does_array_method s scene invoked.of method e es from between at slot invoked.typed invoked.args object does has)

-- methods of host objects

host_is : {s : ModuleSignatures} {o : ObjectType} {id : ℕ} {result other : Option VarType} {ps : List VarType}
    → IsMethod s o (methods.Host id result) ps other → (kind : ℕ) × (o ≡ objects.Host kind)
host_is (operations.of_host offered) = (_, refl)

pub host_method : (start mid old put new : Written) (id : ℕ) (result : Option VarType) (e : Expr)
    (ps : List VarType)
    (es : List Expr) (slot count : ℕ)
    → Emits start mid e slot → EmitsArguments mid old es (slot + 1) → length es ≡ count
    → Puts old put (slot + 1) (i.CallHost slot id result (slot + 1) count) → Puts put new slot (i.Move (slot + 1) slot)
    → Emits start new (Invoke e (methods.Host id result) ps (exprs es)) slot
host_method start mid old put new id result e ps es slot count first second long call move =
    emits_method start mid old put new e es (Invoke e (methods.Host id result) ps (exprs es)) slot
    (i.CallHost slot id result (slot + 1) count) first second call move
    (λ s of typed. (_, (typed_invoked typed).typed)) (λ s of typed. (ps, (typed_invoked typed).args))
    (λ s of from between at scene typed suits under object does has moves.
    let invoked = typed_invoked typed in
    let host = host_is invoked.is in
    does_host_method s scene host.0 id result e es ps from between at slot
    (subst (λ (o : ObjectType). IsWellTyped s.env e (value (vars.Handle o))) host.1 invoked.typed) invoked.args under
    object does
    (subst (λ (n : ℕ). HasAt s at (i.CallHost slot id result (slot + 1) n)) (sym long) has) moves)

-- methods that interfaces declare

-- what an interface of the module declares, which takes these
record IsDeclared (signatures : ModuleSignatures) (interface method : ℕ) (ps : List VarType) : Type 0 where
  pub all : List Signature
  pub one : Signature
  pub there : slice_get signatures.interfaces interface ≡ Some all
  pub here : slice_get all method ≡ Some one
  pub takes : ps ≡ one.parameters

declared_is : {s : ModuleSignatures} {o : ObjectType} {interface method : ℕ} {result other : Option VarType}
    {ps : List VarType} → IsMethod s o (methods.Interface interface method result) ps other
    → IsDeclared s interface method ps
declared_is (operations.of_interface at here) = record { all = _; one = _; there = at; here = here; takes = refl }

interface_is : {s : ModuleSignatures} {o : ObjectType} {interface method : ℕ} {result other : Option VarType}
    {ps : List VarType} → IsMethod s o (methods.Interface interface method result) ps other
    → o ≡ objects.Interface interface
interface_is (operations.of_interface at here) = refl

pub through : (start mid old put new : Written) (interface method : ℕ) (result : Option VarType) (e : Expr)
    (ps : List VarType) (es : List Expr) (slot : ℕ)
    → Emits start mid e slot → EmitsArguments mid old es (slot + 1)
    → Puts old put (slot + 1) (i.CallInterface interface method slot (slot + 1))
    → Puts put new slot (i.Move (slot + 1) slot)
    → Emits start new (Invoke e (methods.Interface interface method result) ps (exprs es)) slot
through start mid old put new interface method result e ps es slot first second call move =
    emits_method start mid old put new e es (Invoke e (methods.Interface interface method result) ps (exprs es)) slot
    (i.CallInterface interface method slot (slot + 1)) first second call move
    (λ s of typed. (_, (typed_invoked typed).typed)) (λ s of typed. (ps, (typed_invoked typed).args))
    (λ s of from between at scene typed suits under object does has moves.
    let invoked = typed_invoked typed in
    let d = declared_is invoked.is in
    does_through s scene interface method d.all d.one
    (ap (λ (x : ModuleSignatures). slice_get x.interfaces interface) (sym scene.declares) ∙ d.there) d.here e es from
    between
    at slot
    (subst (λ (o : ObjectType). IsWellTyped s.env e (value (vars.Handle o))) (interface_is invoked.is) invoked.typed)
    (subst (λ (types : List VarType). AreSoundArguments s.env types (exprs es)) d.takes invoked.args) under object
    does has
    moves)
