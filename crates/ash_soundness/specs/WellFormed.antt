-- Well-formed worlds and activities: what lives has a shape that never changes (store typing), each word that is stored
-- is of the type of its place (value typing), and frames have the locals that their code sees (frame typing).
use Rattle.std.specs.Prelude.{◌≡◌, ◌<◌, ◌≤◌, ℕ, ℤ, pos, Bool, FitsSigned, List, [], ◌∷◌, map}
use Rattle.std.specs.Prelude.{length, Contains, slice_get, Option, Some, None, option_map}
use Rattle.std.specs.Int.{w32, w64, FitsUnsignedBits}
use Rattle.std.specs.List.{AllByRecursion}
use Rattle.ash_host.specs.declared.word.Word.{Word}
use Rattle.ash_host.specs.declared.word.Word.TheVariants as words
use Rattle.ash_host.specs.Limits.{max_state_bytes}
use Rattle.ash_host.specs.Objects.{Elements, Plain, Script, Array, Host, LiveObjects, object_at, Lives, AreNumbered}
use Rattle.ash_host.specs.Records.{HostRecord}
use Rattle.ash_host.specs.Words.{IsAnswer}
use Rattle.ash_host.specs.Limits.{max_objects, max_elements}
use Rattle.ash_tree.specs.declared.tree.types.Primitive.{Primitive}
use Rattle.ash_integers.specs.declared.int_type.IntType.{IntType}
use Rattle.ash_integers.specs.declared.int_type.IntType.TheVariants as ints
use Rattle.ash_typed.specs.declared.types.Element as typed_element
use Rattle.ash_typed.specs.declared.types.Element.TheVariants as elements
use Rattle.ash_typed.specs.declared.types.ObjectType.{ObjectType}
use Rattle.ash_typed.specs.declared.types.ObjectType.TheVariants as objects
use Rattle.ash_typed.specs.declared.types.VarType.{VarType}
use Rattle.ash_typed.specs.declared.types.VarType.TheVariants as vars
use Rattle.ash_typed.specs.TypeOf.{ValueType, no_value, null_value, value, type_of_element}
use Rattle.ash_typed.specs.Modules.{Class, Module}
use Rattle.ash_typed.specs.Signatures as signatures
use Rattle.ash_typed.specs.Signatures.{ModuleSignatures, signatures_of, type_declared, types_of_globals}
use Rattle.ash_typed.specs.SoundExpressions.{TypedEnvironment}
use Rattle.ash_typed.specs.SoundModules.{IsSound}
use Rattle.ash_meaning.specs.Activity.{FreeBox, World, Frame, Activity}
use Rattle.ash_meaning.specs.Frames.{max_frames}
use Rattle.ash_meaning.specs.ObjectSteps.{max_number}
use Rattle.ash_meaning.specs.Classes.{Program, place_of_class, element_of}

-- what a run is in

-- the modules that are known, by name: each object knows its module by name
abbrev pub Known : Type 0
Known = List ℕ → Option Module

-- What the host offers, the module that runs, the modules that are known, and the world in which the run began.
pub record Context : Type 0 where
  pub host : signatures.HostSignatures
  pub program : Program
  pub modules : Known
  pub began : World

-- The module that runs is one of those that are known, and is sound.
pub record IsContext (c : Context) : Type 0 where
  pub known : c.modules (c.program).name ≡ Some (c.program).tree
  pub sound : IsSound c.host (c.program).tree

-- what the module that runs declares
abbrev pub declared : Context → ModuleSignatures
declared c = signatures_of c.host (c.program).tree

-- store typing

-- What an object is, which never changes: of a class of a module, an array of such elements, or of a kind.
pub data Shape : Type 0 where
  OfClass : (owner : List ℕ) (place : ℕ) → Shape
  OfElements : (of : Elements (List ℕ)) → Shape
  OfKind : (kind : ℕ) → Shape

abbrev pub shape_of : Plain (List ℕ) → Shape
shape_of (Script owner place fields) = OfClass owner place
shape_of (Array of elements) = OfElements of
shape_of (Host kind state) = OfKind kind

-- the shape of the object that lives by a number
abbrev pub shape_at : ℕ → LiveObjects (List ℕ) → Option Shape
shape_at number objects = option_map shape_of (object_at number objects)

-- value typing, as a module reads its types

-- a shape is that of a class of the module
pub record IsOfClass (p : Program) (class : ℕ) (shape : Shape) : Type 0 where
  pub source : Class
  pub at : slice_get (p.tree).classes class ≡ Some source
  pub is : shape ≡ OfClass p.name (place_of_class p.tree class)

-- that of a class that lists the interface
pub record ListsInterface (p : Program) (interface : ℕ) (shape : Shape) : Type 0 where
  pub class : ℕ
  pub of : IsOfClass p class shape
  pub lists : Contains (map signatures.place_of_interface (of.source).interfaces) interface

-- the module has the class or the interface that the element names
abbrev pub IsNamed : Module → typed_element.Element → Type 0
IsNamed m (elements.Class class) = class < length m.classes
IsNamed m (elements.Interface interface) = interface < length m.interfaces
IsNamed m _ = Unit {0}

-- that of an array of the elements
pub record IsArrayOf (p : Program) (of : typed_element.Element) (shape : Shape) : Type 0 where
  pub named : IsNamed p.tree of
  pub is : shape ≡ OfElements (element_of p of)

abbrev pub IsOf : Program → ObjectType → Shape → Type 0
IsOf p (objects.Class class) shape = IsOfClass p class shape
IsOf p (objects.Interface interface) shape = ListsInterface p interface shape
IsOf p (objects.Host kind) shape = shape ≡ OfKind kind
IsOf p (objects.Array of) shape = IsArrayOf p of shape

-- null, or a handle of a living object of such a shape
pub data IsReference (all : LiveObjects (List ℕ)) (Fits : Shape → Type 0) : Word → Type 0 where
  to_nothing : IsReference all Fits words.Null
  to_object : {number : ℕ} {shape : Shape}
      → shape_at number all ≡ Some shape
      → Fits shape
      → IsReference all Fits (words.Object number)

-- the numbers that a type has
abbrev pub IsInRange : IntType → ℤ → Type 0
IsInRange ints.Int z = FitsSigned w32 z
IsInRange ints.Uint z = FitsUnsignedBits 32 z
IsInRange ints.Int64 z = FitsSigned w64 z
IsInRange ints.Uint64 z = FitsUnsignedBits 64 z

-- a word is an integer of the type
pub data IsInteger : IntType → Word → Type 0 where
  int : {n : ℤ} → IsInRange ints.Int n → IsInteger ints.Int (words.Int n)
  uint : {n : ℕ} → IsInRange ints.Uint (pos n) → IsInteger ints.Uint (words.Uint n)
  int64 : {n : ℤ} → IsInRange ints.Int64 n → IsInteger ints.Int64 (words.Int64 n)
  uint64 : {n : ℕ} → IsInRange ints.Uint64 (pos n) → IsInteger ints.Uint64 (words.Uint64 n)

-- a word is a value of the type: null where there is no object
pub data IsValue (p : Program) (all : LiveObjects (List ℕ)) : VarType → Word → Type 0 where
  is_truth : {b : Bool} → IsValue p all vars.Bool (words.Bool b)
  is_integer : {int_type : IntType} {word : Word} → IsInteger int_type word → IsValue p all (vars.Integer int_type) word
  is_object : {of : ObjectType} {word : Word} → IsReference all (IsOf p of) word → IsValue p all (vars.Object of) word
  is_handle : {of : ObjectType} {word : Word} → IsReference all (IsOf p of) word → IsValue p all (vars.Handle of) word

-- words are values of these types, each of the one at its place
pub data AreValues (p : Program) (all : LiveObjects (List ℕ)) : List VarType → List Word → Type 0 where
  no_values : AreValues p all [] []
  and_value : {of : VarType} {types : List VarType} {word : Word} {ws : List Word}
      → IsValue p all of word
      → AreValues p all types ws
      → AreValues p all (of ∷ types) (word ∷ ws)

-- words are values of one type
pub data AllAre (p : Program) (all : LiveObjects (List ℕ)) (of : VarType) : List Word → Type 0 where
  none_are : AllAre p all of []
  and_is : {word : Word} {ws : List Word}
      → IsValue p all of word
      → AllAre p all of ws
      → AllAre p all of (word ∷ ws)

-- a word is what an expression gives: what gives no value gives null
pub data IsGiven (p : Program) (all : LiveObjects (List ℕ)) : ValueType → Word → Type 0 where
  gives_nothing : IsGiven p all no_value words.Null
  gives_null : IsGiven p all null_value words.Null
  gives : {of : VarType} {word : Word} → IsValue p all of word → IsGiven p all (value of) word

-- objects

-- A script object is of a class of the module that it knows by name, and its fields are of the types that the class
-- says.
pub record IsScript (modules : Known) (all : LiveObjects (List ℕ)) (owner : List ℕ) (place : ℕ) (fields : List Word)
    : Type 0 where
  pub tree : Module
  pub known : modules owner ≡ Some tree
  pub class : ℕ
  pub source : Class
  pub at : slice_get tree.classes class ≡ Some source
  pub is : place ≡ place_of_class tree class
  pub values : AreValues (record { name = owner; tree = tree }) all (map type_declared source.fields) fields

-- A module is known where the elements are of one of its classes or interfaces; other elements are of no module.
abbrev pub IsKnownFor : Known → Program → typed_element.Element → Type 0
IsKnownFor modules p (elements.Class class) = modules p.name ≡ Some p.tree
IsKnownFor modules p (elements.Interface interface) = modules p.name ≡ Some p.tree
IsKnownFor modules p _ = Unit {0}

-- An array has no more elements than it may, each of the type that a module has for its elements.
pub record IsArray (modules : Known) (all : LiveObjects (List ℕ)) (of : Elements (List ℕ))
    (ws : List Word) : Type 0 where
  pub few : length ws ≤ max_elements
  pub program : Program
  pub element : typed_element.Element
  pub known : IsKnownFor modules program element
  pub named : IsNamed program.tree element
  pub is : of ≡ element_of program element
  pub values : AllAre program all (type_of_element element) ws

-- no state is longer than a state may be
abbrev pub IsState : List ℕ → Type 0
IsState state = length state ≤ max_state_bytes

pub data IsObject (modules : Known) (all : LiveObjects (List ℕ)) : Plain (List ℕ) → Type 0 where
  is_script : {owner : List ℕ} {place : ℕ} {fields : List Word}
      → IsScript modules all owner place fields
      → IsObject modules all (Script owner place fields)
  is_array : {of : Elements (List ℕ)} {ws : List Word}
      → IsArray modules all of ws
      → IsObject modules all (Array of ws)
  is_host : {kind : ℕ} {state : List ℕ}
      → IsState state
      → IsObject modules all (Host kind state)

-- worlds

-- each living object is well-formed among these
pub record AreObjects (modules : Known) (all : LiveObjects (List ℕ)) : Type 0 where
  pub each : (number : ℕ) (object : Plain (List ℕ)) → object_at number all ≡ Some object → IsObject modules all object

-- the host constructs objects of the kind
abbrev pub IsOffered : signatures.HostSignatures → ℕ → Type 0
IsOffered host kind = (parameters : List Primitive) × Contains (host.factories kind) parameters

-- each living host object is of a kind of which the host constructs objects
pub record AreOffered (host : signatures.HostSignatures) (all : LiveObjects (List ℕ)) : Type 0 where
  pub each : (number kind : ℕ) → shape_at number all ≡ Some (OfKind kind) → IsOffered host kind

-- each of these numbers is that of a living object
pub record AllLive (all : LiveObjects (List ℕ)) (numbers : List ℕ) : Type 0 where
  pub each : (number : ℕ) → Contains numbers number → Lives all number

-- an answer has a number that its type has, and the state after it is no longer than a state may be
abbrev pub AreAnswers : List HostRecord → Type 0
AreAnswers records = AllByRecursion (λ (r : HostRecord). IsState r.after × IsAnswer r.answer) records

-- what services and free boxes have, and what hosts will answer and leave
pub record AreStates (w : World) : Type 0 where
  pub services : AllByRecursion IsState w.services
  pub pool : AllByRecursion (λ (box : FreeBox). IsState box.state) w.pool
  pub answers : AreAnswers w.answers

-- A world in which the module runs: numbers are at most the last, no more objects live than may, and what is stored is
-- of its type.
pub record IsWorld (c : Context) (w : World) : Type 0 where
  pub numbered : AreNumbered w.last w.objects
  pub last : w.last ≤ max_number
  pub few : length w.objects ≤ max_objects
  pub living : AreObjects c.modules w.objects
  pub offered : AreOffered c.host w.objects
  pub globals : AreValues c.program w.objects (types_of_globals ((c.program).tree).globals) w.globals
  pub outside : AllLive w.objects w.outside
  pub states : AreStates w

-- What lives later by a number that was given before lived before, as what it was: no number is given twice, and what
-- is held outside stays so.
pub record Follows (old new : World) : Type 0 where
  pub last : old.last ≤ new.last
  pub shapes : (number : ℕ) (shape : Shape) → number ≤ old.last → shape_at number new.objects ≡ Some shape
      → shape_at number old.objects ≡ Some shape
  pub outside : new.outside ≡ old.outside

-- frames

-- the object whose method runs, where one does
pub data IsThis (p : Program) (all : LiveObjects (List ℕ)) : Option ℕ → Word → Type 0 where
  no_this : IsThis p all None words.Null
  is_this : {class number : ℕ} {shape : Shape}
      → shape_at number all ≡ Some shape
      → IsOfClass p class shape
      → IsThis p all (Some class) (words.Object number)

-- A frame of code that sees this environment: its locals are of their types, and what it holds lives.
pub record IsFrame (c : Context) (all : LiveObjects (List ℕ)) (env : TypedEnvironment) (f : Frame) : Type 0 where
  pub this : IsThis c.program all env.this f.this
  pub locals : AreValues c.program all env.locals f.locals
  pub held : AllLive all f.held

-- frames of code that sees these environments
pub data AreFrames (c : Context) (all : LiveObjects (List ℕ)) : List TypedEnvironment → List Frame → Type 0 where
  no_frames : AreFrames c all [] []
  and_frame : {env : TypedEnvironment} {envs : List TypedEnvironment} {f : Frame} {fs : List Frame}
      → IsFrame c all env f
      → AreFrames c all envs fs
      → AreFrames c all (env ∷ envs) (f ∷ fs)

-- An activity whose frames are of code that sees these environments: the frame that runs, and its callers. Since the
-- run began nothing changed what it is.
pub record IsWellFormed (c : Context) (env : TypedEnvironment) (envs : List TypedEnvironment)
    (a : Activity) : Type 0 where
  pub world : IsWorld c a.world
  pub since : Follows c.began a.world
  pub frame : IsFrame c (a.world).objects env a.frame
  pub callers : AreFrames c (a.world).objects envs a.callers
  pub few : length a.callers < max_frames

-- for some environments
pub record IsSafe (c : Context) (a : Activity) : Type 0 where
  pub env : TypedEnvironment
  pub envs : List TypedEnvironment
  pub well : IsWellFormed c env envs a
