-- Calls, where what bodies do is known.
use Rattle.std.proofs.Common.{◌≡◌, ◌<◌, ◌+◌, ℕ, zero, suc, Bool, true, false, List, [], ◌∷◌, length, map, refl, sym, ap, ◌∙◌, subst, slice_get, nat_lt, option_map, if◌then◌else◌, arith}
use Rattle.std.specs.Prelude.{Option, Some, None, Contains, IsSome, is_some}
use Rattle.std.specs.Option.{option_map_or, option_and_then}
use Rattle.std.proofs.lemmas.Bool.{eqb-true}
use Rattle.std.proofs.lemmas.List.{length-map}
use Rattle.std.proofs.lemmas.Option.{same_Some, slice_get-map}
use Rattle.ash_host.specs.declared.word.Word.{Word}
use Rattle.ash_host.specs.declared.word.Word.TheVariants as words
use Rattle.ash_host.specs.declared.event.Target.TheVariants as hosts
use Rattle.ash_host.specs.Objects.{Plain, LiveObjects, object_at, handle}
use Rattle.ash_typed.specs.declared.types.Element as typed_element
use Rattle.ash_typed.specs.declared.types.ObjectType.{ObjectType}
use Rattle.ash_typed.specs.declared.types.ObjectType.TheVariants as objects
use Rattle.ash_typed.specs.declared.types.VarType.{VarType}
use Rattle.ash_typed.specs.declared.types.VarType.TheVariants as vars
use Rattle.ash_typed.specs.declared.tree.operations.Method.{Method}
use Rattle.ash_typed.specs.declared.tree.operations.CallTarget.{CallTarget}
use Rattle.ash_typed.specs.TypeOf.{value, value_of_result}
use Rattle.ash_typed.specs.StatementTree.{Initialization}
use Rattle.ash_typed.specs.Modules.{Signature, Class}
use Rattle.ash_typed.specs.Signatures as signatures
use Rattle.ash_typed.specs.Signatures.{ClassTypes, IsElementType, truths, integers, type_declared, parameters_of, signature_of_class, methods_of_interface}
use Rattle.ash_typed.specs.SoundOperations as operations
use Rattle.ash_typed.specs.SoundOperations.{IsMethod, IsTarget, IsSoundCast}
use Rattle.ash_typed.specs.SoundExpressions.{TypedEnvironment}
use Rattle.ash_meaning.specs.declared.exception.Exception.TheVariants.{StackOverflow}
use Rattle.ash_meaning.specs.Activity.{Activity}
use Rattle.ash_meaning.specs.Runs.{Run, onward, demand, give, ◌>>◌}
use Rattle.ash_meaning.specs.Frames.{max_frames, in_frame_of}
use Rattle.ash_meaning.specs.ObjectSteps.{demand_number, make}
use Rattle.ash_meaning.specs.OperatorMeaning.{zero_of}
use Rattle.ash_meaning.specs.Classes.{Program, place_of_class, class_of, implementation_in, implemented, is_class_of, is_object_of, ModuleCallee, FreeFunction, Method as ClassMethod, Construction, Entry, entry_of}
use Rattle.ash_meaning.specs.CallMeaning.{Calls, value_or_null, call, blank, construct, call_through, invoke, call_target, cast}
use Rattle.ash_soundness.specs.WellFormed.{Context, IsContext, declared, Shape, OfClass, shape_of, shape_at, IsOfClass, ListsInterface, IsNamed, IsOf, IsReference, to_nothing, to_object, is_handle, AreValues, no_values, and_value, IsGiven, gives, IsObject, is_script, IsThis, no_this, is_this, IsWellFormed}
use Rattle.ash_soundness.specs.WellFormedLaws.{IsCarried, AreCarried, a_function, a_method, Leaves, done, Evaluates}
use Rattle.ash_soundness.proofs.Values.{later_in}
use Rattle.ash_soundness.proofs.Integers.{zero_value}
use Rattle.ash_soundness.proofs.Triples.{bind, weaken, after_demand, after_found, safe, goes_itself, carry_all}
use Rattle.ash_soundness.proofs.Hosts.{well_after, evaluates_after, invoke_host_gives}
use Rattle.ash_soundness.proofs.Constructions.{bind_here, lt_from, HasRoom, number_demanded, made_goes, made_shape, IsMade, construct_host_gives, construct_array_gives}
use Rattle.ash_soundness.proofs.Arrays.{invoke_array_gives}
use Rattle.ash_soundness.proofs.Frames.{IsResulted, frame_gives}
use Rattle.ash_soundness.proofs.Found.{some_from, class_there, function_there, method_there, construction_there, class_at_seen, implemented_there, through_there}
use Rattle.ash_soundness.proofs.Entries.{chained, IsEntry, in_class, in_none, function_entry, method_entry, construction_entry, class_found, implementation_found, through_entry}

-- What bodies of sound functions do: they give what the function gives, and leave what is well-formed.
pub record KeepsBodies (c : Context) (body : Entry → Run (Option Word)) : Type 0 where
  pub keeps : (env : TypedEnvironment) (result : Option VarType) (e : Entry) → IsEntry c env result e → (envs : List TypedEnvironment) (a : Activity) → IsWellFormed c env envs a → Leaves c (λ v b. IsResulted c env envs (value_of_result result) a (value_or_null v) b) (body e a)

pub contains_map : {A B : Type 0} (f : A → B) (xs : List A) (x : A) → Contains xs x → Contains (map f xs) (f x)
contains_map f [] x i = absurd (let h : i.0 < 0 = i.1 in omega arith)
contains_map f (y ∷ ys) x (zero, l, e) = (0, omega arith, ap f e)
contains_map f (y ∷ ys) x (suc k, l, e) = later_in (f y) (f x) (map f ys) (contains_map f ys x (k, omega arith, e))

pub handle_of : {p : Program} {all : LiveObjects (List ℕ)} {from : ObjectType} {w : Word} → IsGiven p all (value (vars.Handle from)) w → IsReference all (IsOf p from) w
handle_of (gives (is_handle r)) = r

record IsReady (c : Context) (env : TypedEnvironment) (envs : List TypedEnvironment) (is : Shape) (a : Activity) (number : ℕ) (b : Activity) : Type 0 where
  pub made : IsMade c env envs is a number b
  pub room : length b.callers + 1 < max_frames

reference_in : {p : Program} {all : LiveObjects (List ℕ)} {class : ℕ} {w : Word} → IsThis p all (Some class) w → IsReference all (IsOfClass p class) w
reference_in (is_this at i) = to_object at i

module _ {c : Context} (context : IsContext c) where
  -- casts

  cast_to : {to : ObjectType} (o : Plain (List ℕ)) (found : Option ℕ) → IsSoundCast (declared c) to → class_of c.program o ≡ found → option_map_or (is_class_of (c.program).tree to) found false ≡ true → IsOf c.program to (shape_of o)
  cast_to o None t at e = absurd (cc)
  cast_to o (Some class) (operations.to_class {class = other} there) at e = subst (λ (n : ℕ). IsOfClass c.program n (shape_of o)) (eqb-true class other e) (class_found context o class at)
  cast_to o (Some class) (operations.to_interface {interface} there) at e =
      let (i, found) = some_from (implementation_in (c.program).tree class interface) e in
      let (k, at_k, same, within, rest) = implementation_found context class interface i found in
      let of = class_found context o class at in
      let one : k ≡ of.source = same_Some k of.source (sym at_k ∙ of.at) in
      let listed : Contains (map signatures.place_of_interface k.interfaces) interface = subst (Contains (map signatures.place_of_interface k.interfaces)) same (contains_map signatures.place_of_interface k.interfaces i within) in
      record { class = class; of = of; lists = subst (λ (x : Class). Contains (map signatures.place_of_interface x.interfaces) interface) one listed }

  object_cast : {to : ObjectType} (o : Option (Plain (List ℕ))) → IsSoundCast (declared c) to → option_map_or (is_object_of c.program to) o false ≡ true → (shape : Shape) × (option_map shape_of o ≡ Some shape) × IsOf c.program to shape
  object_cast None t e = absurd (cc)
  object_cast (Some o) t e = (shape_of o, refl, cast_to o (class_of c.program o) t refl e)

  module _ {env : TypedEnvironment} {envs : List TypedEnvironment} {a : Activity} where
    cast_word : {to : ObjectType} (number : ℕ) (b : Bool) → IsSoundCast (declared c) to → option_map_or (is_object_of c.program to) (object_at number (a.world).objects) false ≡ b → IsWellFormed c env envs a → ((n : ℕ) → handle (words.Object number) ≡ Some n → Contains (a.frame).held n) → Evaluates c env envs (value (vars.Handle to)) a (if b then words.Object number else words.Null) a
    cast_word number true t e h held =
        let (shape, at, fits) = object_cast (object_at number (a.world).objects) t e in
        record { goes = goes_itself h; carried = record { value = gives (is_handle (to_object at fits)); held = held } }
    cast_word number false t e h held = record { goes = goes_itself h; carried = record { value = gives (is_handle to_nothing); held = λ n s. absurd (cc) } }

    cast_from : {to : ObjectType} {Fits : Shape → Type 0} {w : Word} → IsSoundCast (declared c) to → IsWellFormed c env envs a → IsReference (a.world).objects Fits w → ((n : ℕ) → handle w ≡ Some n → Contains (a.frame).held n) → Leaves c (Evaluates c env envs (value (vars.Handle to)) a) (cast c.program to w a)
    cast_from t h to_nothing held = done (record { goes = goes_itself h; carried = record { value = gives (is_handle to_nothing); held = λ n s. absurd (cc) } })
    cast_from {to} t h (to_object {number} at fits) held = done (cast_word number (option_map_or (is_object_of c.program to) (object_at number (a.world).objects) false) t refl h held)

    pub cast_gives : {to from : ObjectType} {w : Word} → IsSoundCast (declared c) to → IsWellFormed c env envs a → IsCarried c (value (vars.Handle from)) a w → Leaves c (Evaluates c env envs (value (vars.Handle to)) a) (cast c.program to w a)
    cast_gives t h k = cast_from t h (handle_of k.value) k.held

  module _ (body : Entry → Run (Option Word)) (bodies : KeepsBodies c body) where
    abbrev pub calls : Calls
    calls = record { program = c.program; body = body }

    -- a call of what is sound in an environment
    call_gives : {env : TypedEnvironment} {envs : List TypedEnvironment} {a : Activity} (callee : ModuleCallee) (other : TypedEnvironment) (result : Option VarType) → IsSome (entry_of (c.program).tree callee) → ((e : Entry) → entry_of (c.program).tree callee ≡ Some e → IsEntry c other result e) → (this : Word) (args : List Word) → IsWellFormed c env envs a → IsThis c.program (a.world).objects other.this this → AreValues c.program (a.world).objects other.locals args → Leaves c (Evaluates c env envs (value_of_result result) a) (call calls callee this args a)
    call_gives {env} {envs} {a} callee other result is_there entry this args h this_is values =
        after_found _ (entry_of (c.program).tree callee) a is_there (λ e there.
        after_demand _ (nat_lt (length a.callers + 1) max_frames) StackOverflow a (safe h) (λ room.
        frame_gives other e.name e.line this args _ h (lt_from _ _ room) this_is values (λ b same w. bind (bodies.keeps other result e (entry e there) (env ∷ envs) b w) (λ v d r. done r))))

    -- constructions

    blank_values : {all : LiveObjects (List ℕ)} (vs : List Initialization) → AreValues c.program all (map type_declared vs) (map (λ (v : Initialization). zero_of v.of) vs)
    blank_values [] = no_values
    blank_values (v ∷ vs) = and_value (zero_value v.of) (blank_values vs)

    construct_gives : {env : TypedEnvironment} {envs : List TypedEnvironment} {a : Activity} (class : ℕ) (cs : ClassTypes) (args : List Word) → slice_get (declared c).classes class ≡ Some cs → IsWellFormed c env envs a → AreCarried c cs.parameters a args → Leaves c (Evaluates c env envs (value (vars.Handle (objects.Class class))) a) (construct calls class args a)
    construct_gives {env} {envs} {a} class cs args listed h carried =
        after_found _ (entry_of (c.program).tree (Construction class)) a (construction_there c class cs listed) (λ e there.
        after_found _ (slice_get ((c.program).tree).classes class) a (class_there c class cs listed) (λ k at.
        bind (ready k at) (λ number b r. weaken (λ w d x. evaluates_after (r.made).goes x) (entered e there k at number b r))))
      where
        shape_in : Shape
        shape_in = OfClass (c.program).name (place_of_class (c.program).tree class)

        asked : Leaves c (λ (none : Unit {0}) b. (b ≡ a) × ((length a.callers + 1 < max_frames) × HasRoom a)) (onward (demand (nat_lt (length a.callers + 1) max_frames) StackOverflow a) (λ none. demand_number))
        asked = after_demand _ (nat_lt (length a.callers + 1) max_frames) StackOverflow a (safe h) (λ room. weaken (λ none b q. (q.0, (lt_from _ _ room, q.1))) (number_demanded h))

        blank_object : (k : Class) → slice_get ((c.program).tree).classes class ≡ Some k → IsObject c.modules (a.world).objects (blank c.program class k)
        blank_object k at = is_script (record { tree = (c.program).tree; known = context.known; class = class; source = k; at = at; is = refl; values = blank_values k.fields })

        ready : (k : Class) → slice_get ((c.program).tree).classes class ≡ Some k → Leaves c (IsReady c env envs shape_in a) (onward (onward (demand (nat_lt (length a.callers + 1) max_frames) StackOverflow a) (λ none. demand_number)) (λ none. make (blank c.program class k)))
        ready k at = bind_here _ asked (λ none q. done (record {
          made = record { goes = made_goes (blank c.program class k) h q.1 (blank_object k at) (λ kind same. absurd (cc)); shape = made_shape (blank c.program class k) h };
          room = q.0;
        }))

        given_back : (number : ℕ) (x d : Activity) → (x.frame).this ≡ words.Object number → (d.frame).this ≡ (x.frame).this → IsThis c.program (d.world).objects (Some class) (d.frame).this → IsGiven c.program (d.world).objects (value (vars.Handle (objects.Class class))) (words.Object number)
        given_back number x d here same i = gives (is_handle (subst (IsReference (d.world).objects (IsOfClass c.program class)) (same ∙ here) (reference_in i)))

        entered : (e : Entry) → entry_of (c.program).tree (Construction class) ≡ Some e → (k : Class) → slice_get ((c.program).tree).classes class ≡ Some k → (number : ℕ) (b : Activity) → IsReady c env envs shape_in a number b → Leaves c (Evaluates c env envs (value (vars.Handle (objects.Class class))) b) (in_frame_of e.name e.line (words.Object number) args (body e >> give (words.Object number)) b)
        entered e there k at number b r =
            let parameters : cs.parameters ≡ parameters_of k.constructor = ap (λ (x : ClassTypes). x.parameters) (same_Some cs (signature_of_class k) (sym listed ∙ slice_get-map signature_of_class ((c.program).tree).classes class ∙ ap (option_map signature_of_class) at)) in
            let values : AreValues c.program (b.world).objects (parameters_of k.constructor) args = subst (λ (ts : List VarType). AreValues c.program (b.world).objects ts args) parameters (carry_all h (r.made).goes carried).values in
            frame_gives (in_class c class (parameters_of k.constructor)) e.name e.line (words.Object number) args _ (well_after (r.made).goes) r.room
            (is_this (r.made).shape (record { source = k; at = at; is = refl })) values
            (λ x here w. bind (bodies.keeps (in_class c class (parameters_of k.constructor)) None e (construction_entry context class k at e there) (env ∷ envs) x w)
            (λ v d q. done (record { types = q.types; passes = q.passes; value = given_back number x d here (q.passes).this ((q.passes).well.frame).this })))

    -- calls of methods

    through_gives : {env : TypedEnvironment} {envs : List TypedEnvironment} {a : Activity} (interface method number : ℕ) (all : List Signature) (s : Signature) (shape : Shape) (args : List Word) → slice_get (declared c).interfaces interface ≡ Some all → slice_get all method ≡ Some s → IsWellFormed c env envs a → shape_at number (a.world).objects ≡ Some shape → ListsInterface c.program interface shape → AreValues c.program (a.world).objects s.parameters args → Leaves c (Evaluates c env envs (value_of_result s.result) a) (call_through calls interface method number args a)
    through_gives {a = a} interface method number all s shape args at_all at_s h there fits values =
        let seen = class_at_seen context number (a.world).objects shape (fits.class) there fits.of in
        after_found _ (option_and_then (class_of c.program) (object_at number (a.world).objects)) a (ap is_some seen) (λ class e.
        let (o, at, of) = chained (class_of c.program) (object_at number (a.world).objects) class e in
        let one : fits.class ≡ class = same_Some fits.class class (sym seen ∙ e) in
        after_found _ (implemented (c.program).tree interface method class) a (subst (λ (n : ℕ). IsSome (implemented (c.program).tree interface method n)) one (implemented_there context interface method all s at_all at_s fits)) (λ own found.
        call_gives (ClassMethod class own) (in_class c class s.parameters) s.result (through_there context interface method class own found) (λ x there. through_entry context interface method class own all s at_all at_s found x there) (words.Object number) args h
        (is_this (ap (option_map shape_of) at) (class_found context o class of)) values))

    pub invoke_gives : {env : TypedEnvironment} {envs : List TypedEnvironment} {a : Activity} {o : ObjectType} {method : Method} {parameters : List VarType} {result : Option VarType} (number : ℕ) (shape : Shape) (args : List Word) → IsMethod (declared c) o method parameters result → IsWellFormed c env envs a → shape_at number (a.world).objects ≡ Some shape → IsOf c.program o shape → AreValues c.program (a.world).objects parameters args → Leaves c (Evaluates c env envs (value_of_result result) a) (invoke calls method number args a)
    invoke_gives number shape args (operations.of_class {class} {method} {c = cs} {name} {result} {parameters} at here) h there fits values =
        call_gives (ClassMethod class method) (in_class c class parameters) result (method_there c class method cs (record { name = name; result = result; parameters = parameters }) at here) (λ e x. method_entry context class method cs (record { name = name; result = result; parameters = parameters }) at here e x) (words.Object number) args h (is_this there fits) values
    invoke_gives number shape args (operations.of_interface {interface} {method} {declared = all} {name} {result} {parameters} at here) h there fits values =
        through_gives interface method number all (record { name = name; result = result; parameters = parameters }) shape args at here h there fits values
    invoke_gives number shape args (operations.of_host {kind} {id} {offered} i) h there fits values = invoke_host_gives (a_method kind id offered i) (hosts.Object number) id _ args h
    invoke_gives number shape args (operations.of_array {method = method}) h there fits values = invoke_array_gives context number fits method h there values

    -- other calls

    named_element : {e : typed_element.Element} → IsElementType (declared c) e → IsNamed (c.program).tree e
    named_element truths = tt
    named_element integers = tt
    named_element (signatures.of_class {class} lt) = omega (arith, length-map ((c.program).tree).classes signature_of_class)
    named_element (signatures.of_interface {interface} lt) = omega (arith, length-map ((c.program).tree).interfaces methods_of_interface)
    named_element (signatures.of_host i) = tt

    pub target_gives : {env : TypedEnvironment} {envs : List TypedEnvironment} {a : Activity} {target : CallTarget} {parameters : List VarType} {result : Option VarType} (args : List Word) → IsTarget (declared c) target parameters result → IsWellFormed c env envs a → AreCarried c parameters a args → Leaves c (Evaluates c env envs (value_of_result result) a) (call_target calls target args a)
    target_gives args (operations.function {function} {name} {result} {parameters} at) h carried =
        call_gives (FreeFunction function) (in_none c parameters) result (function_there c function (record { name = name; result = result; parameters = parameters }) at) (λ e there. function_entry context function (record { name = name; result = result; parameters = parameters }) at e there) words.Null args h no_this carried.values
    target_gives args (operations.service {service} {id} {offered} i) h carried = invoke_host_gives (a_function service id offered i) (hosts.Service service) id _ args h
    target_gives args (operations.class {class} {c = cs} at) h carried = construct_gives class cs args at h carried
    target_gives args (operations.host {kind} {parameters} i) h carried = construct_host_gives kind args (parameters, i) h
    target_gives args (operations.empty_array {of} i) h carried = construct_array_gives of args context (named_element i) h
    target_gives args (operations.sized_array {of} i) h carried = construct_array_gives of args context (named_element i) h
