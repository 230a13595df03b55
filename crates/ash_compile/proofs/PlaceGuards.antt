-- Where a place lies, and the guards of steps that read and write there.
use Rattle.std.proofs.Common.{◌≡◌, ◌<◌, ℕ, List, length, map, refl, sym, ap, ◌∙◌, subst, arith, true}
use Rattle.std.proofs.Common.{nat_lt}
use Rattle.std.specs.Prelude.{Option, Some, None, slice_get, slice_index_or, is_some, option_map}
use Rattle.std.specs.Option.{option_and_then}
use Rattle.std.proofs.lemmas.Bool.Decides.{nat_tests}
use Rattle.std.proofs.lemmas.Option.{slice_get_within, same_Some, slice_get-map}
use Rattle.ash_host.specs.declared.event.Target.TheVariants as targets
use Rattle.ash_host.specs.declared.word.Word.{Word}
use Rattle.ash_host.specs.declared.word.Word.TheVariants as words
use Rattle.ash_host.specs.Objects.{Plain, Script, Array, Host, handle}
use Rattle.ash_tree.specs.declared.tree.types.Primitive.{Primitive}
use Rattle.ash_tree.specs.declared.tree.types.Primitive.TheVariants as primitives
use Rattle.ash_typed.specs.declared.types.VarType.{VarType}
use Rattle.ash_typed.specs.declared.types.ObjectType.{ObjectType}
use Rattle.ash_typed.specs.declared.types.ObjectType.TheVariants as objects
use Rattle.ash_typed.specs.declared.tree.operations.ObjectMember.{ObjectMember}
use Rattle.ash_typed.specs.declared.tree.operations.ObjectMember.TheVariants as members
use Rattle.ash_typed.specs.TypeOf.{as_value}
use Rattle.ash_typed.specs.Signatures.{ModuleSignatures, ClassTypes, signature_of_class, type_declared}
use Rattle.ash_typed.specs.Signatures.{type_of_primitive}
use Rattle.ash_typed.specs.SoundOperations as operations
use Rattle.ash_typed.specs.SoundOperations.{IsSoundMember}
use Rattle.ash_typed.specs.SoundExpressions.{TypedEnvironment}
use Rattle.ash_meaning.specs.declared.exception.Exception.TheVariants.{IndexOutOfBounds}
use Rattle.ash_meaning.specs.Activity.{Activity}
use Rattle.ash_meaning.specs.Runs.{Done, give, ◌>>=◌}
use Rattle.ash_meaning.specs.ObjectSteps.{words_in}
use Rattle.ash_meaning.specs.ArraySteps.{natural_of, index_in}
use Rattle.ash_meaning.specs.HostSteps.{state_in, get_property}
use Rattle.ash_meaning.specs.Locations.{Location, Local, Global, Part, Property, location_of_member, read}
use Rattle.ash_soundness.specs.WellFormed.{Context, declared, Shape, OfKind, IsOf, shape_of, shape_at, IsValue}
use Rattle.ash_soundness.specs.WellFormed.{AreValues, IsWellFormed}
use Rattle.ash_soundness.specs.WellFormedLaws.{Offers, Leaves, done, a_property}
use Rattle.ash_soundness.proofs.Arrays.{object_with, words_of, after_object}
use Rattle.ash_soundness.proofs.Parts.{fields_fit}
use Rattle.ash_soundness.proofs.Calls.{handle_of}
use Rattle.ash_soundness.proofs.Constructions.{bind_here, lt_from}
use Rattle.ash_soundness.proofs.Fits.{given_value}
use Rattle.ash_soundness.proofs.Hosts.{get_property_gives}
use Rattle.ash_soundness.proofs.Locations.{IsLocated, in_local, in_global, in_field, in_element, in_property}
use Rattle.ash_soundness.proofs.Locations.{read_gives}
use Rattle.ash_soundness.proofs.Triples.{after_demand, safe}
use Rattle.ash_run_steps.specs.GuardedSteps.{is_alive}
use Rattle.ash_run_steps.specs.HostGuards.{is_there}
use Rattle.ash_code.specs.Steps.{has_part, has_global}
use Rattle.ash_compile.specs.declared.places.Spot.{Spot}
use Rattle.ash_compile.specs.declared.places.Spot.TheVariants as spots
use Rattle.ash_compile.specs.Emission.{Scene, IsScene, Good}
use Rattle.ash_compile.specs.Places.{located, Bears, local, global, field, property, element}
use Rattle.ash_compile.proofs.Typed.{left_done, values_long, value_alive, HasNoHandle, no_handle_in_bool}
use Rattle.ash_compile.proofs.Typed.{no_handle_in_integer}

pub lt_true : (m n : ℕ) → m < n → nat_lt m n ≡ true
lt_true m n low = grind (arith, nat_tests)

-- activities

-- what is well-formed where the expressions of a scene run
abbrev pub Well : Scene → Activity → Type 0
Well s = IsWellFormed s.context s.env s.envs

pub well_of : (s : Scene) (a : Activity) → Good s a → Well s a
well_of s a good = good.0

-- where a place lies

pub member_located : {c : Context} {env : TypedEnvironment} {o : ObjectType} {held : ObjectMember} {of : VarType}
    {a : Activity}
    (number : ℕ) (shape : Shape) → IsSoundMember (declared c) o held of → shape_at number (a.world).objects ≡ Some shape
    → IsOf c.program o shape → IsLocated c env a (location_of_member held number) of
member_located {c} number shape (operations.field {class} {place} {of} {c = cs} at here) there i =
    let of_source : cs ≡ signature_of_class i.source =
    same_Some cs (signature_of_class i.source)
    (sym at ∙ slice_get-map signature_of_class ((c.program).tree).classes class
    ∙ ap (option_map signature_of_class) i.at) in
    in_field i there (subst (λ (x : ClassTypes). slice_get x.fields place ≡ Some of) of_source here)
member_located number shape (operations.property {kind} {id} {of} i) there typed = in_property (a_property kind id of i)

element_located : (s : Scene) (number : ℕ) (index : Word) (b : Activity) → Well s b
    → Leaves s.context (λ (k : ℕ) d. (d ≡ b) × (k < length (words_in number b.world))) (index_in number index b)
element_located s number index b well =
    after_demand _ (nat_lt (natural_of index) (length (words_in number b.world))) IndexOutOfBounds b (safe well)
    (λ within. done (refl, lt_from _ _ within))

abbrev pub LocatedIn : Scene → Activity → VarType → Location → Activity → Type 0
LocatedIn s b of l d = (d ≡ b) × IsLocated s.context s.env b l of

-- What is left of a place changes nothing, and leads to values of its type.
pub located_gives : (s : Scene) (spot : Spot) (of : VarType) (ws : List Word) (b : Activity) → IsScene s → Well s b
    → Bears s b ws spot of → Leaves s.context (LocatedIn s b of) (located spot ws b)
located_gives s (spots.Local slot) of ws b scene well (local at) = done (refl, in_local at)
located_gives s (spots.Global place) of ws b scene well (global at) =
    done (refl, in_global (subst (λ (m : ModuleSignatures). slice_get m.globals place ≡ Some of) scene.declares at))
located_gives s (spots.Field object place) of ws b scene well (field {class = class} m carried) =
    after_object (λ number. give (Part number place)) b (safe well) (handle_of carried.value)
    (λ number shape is at fits.
    done (
      refl,
      member_located number shape
          (subst (λ (x : ModuleSignatures). IsSoundMember x (objects.Class class) (members.Field class place of) of)
          scene.declares m)
          at fits,
    ))
located_gives s (spots.Property object id of) _ ws b scene well (property {kind = kind} m carried) =
    after_object (λ number. give (Property number id of)) b (safe well) (handle_of carried.value)
    (λ number shape is at fits.
    done (
      refl,
      member_located number shape
          (subst (λ (x : ModuleSignatures). IsSoundMember x (objects.Host kind) (members.Property id of) of)
          scene.declares m)
          at fits,
    ))
located_gives s (spots.Element array index) _ ws b scene well (element carried) =
    after_object (λ number. index_in number (slice_index_or ws index words.Null) >>= (λ k. give (Part number k))) b
    (safe well)
    (handle_of carried.value) (λ number shape is at fits.
    bind_here (λ k. give (Part number k)) (element_located s number (slice_index_or ws index words.Null) b well)
    (λ k within. done (refl, in_element fits at within refl)))

-- guards

pub part_there : (s : Scene) (number place : ℕ) (of : VarType) (b : Activity) → IsScene s → Well s b
    → IsLocated s.context s.env b (Part number place) of → has_part number place b ≡ true
part_there s number place of b scene well (in_field i at there_of) =
    let there = object_with number (b.world).objects _ at in
    let values : AreValues (s.context).program (b.world).objects (map type_declared (i.source).fields)
    (words_in number b.world) =
    subst (λ (ws : List Word). AreValues (s.context).program (b.world).objects (map type_declared (i.source).fields) ws)
    (sym (words_of number b.world there.0 there.1))
    (fields_fit scene.sound i there.0 there.2 ((well.world).living.each number there.0 there.1)) in
    lt_true place (length (words_in number b.world))
    (omega (arith, values_long values, slice_get_within (map type_declared (i.source).fields) place of there_of))
part_there s number place of b scene well (in_element i at within same) =
    lt_true place (length (words_in number b.world)) within

pub global_there : (s : Scene) (place : ℕ) (of : VarType) (b : Activity) → IsScene s → Well s b
    → slice_get ((s.env).signatures).globals place ≡ Some of → has_global place b ≡ true
global_there s place of b scene well at =
    lt_true place (length (b.world).globals)
    (omega (
      arith,
      values_long (well.world).globals,
      slice_get_within _ place of (subst (λ (m : ModuleSignatures). slice_get m.globals place ≡ Some of) scene.declares
          at),
    ))

host_in : (x : Plain (List ℕ)) (kind : ℕ) → shape_of x ≡ OfKind kind → is_some (state_in x) ≡ true
host_in (Host kind state) k is = refl
host_in (Script owner place fields) k is = absurd (cc)
host_in (Array of elements) k is = absurd (cc)

pub host_there : (number kind : ℕ) (shape : Shape) (b : Activity) → shape_at number (b.world).objects ≡ Some shape
    → shape ≡ OfKind kind → is_there (targets.Object number) b ≡ true
host_there number kind shape b at is =
    let there = object_with number (b.world).objects shape at in
    ap (λ (o : Option (Plain (List ℕ))). is_some (option_and_then state_in o)) there.1
    ∙ host_in there.0 kind (there.2 ∙ is)

-- what is read

pub read_is : (s : Scene) (l : Location) (of : VarType) (b d : Activity) (v : Word) → IsScene s → Well s b
    → IsLocated s.context s.env b l of → read l b ≡ Done v d → IsValue (s.context).program (d.world).objects of v
read_is s l of b d v scene well at ran = (left_done v d (read_gives scene.sound l well at) ran).value

pub local_within : (s : Scene) (n : ℕ) (of : VarType) (b : Activity) → Well s b → slice_get (s.env).locals n ≡ Some of
    → n < length (b.frame).locals
local_within s n of b well at = omega (arith, values_long (well.frame).locals, slice_get_within (s.env).locals n of at)

pub local_none : (s : Scene) (n : ℕ) (of : VarType) (b : Activity) → IsScene s → Well s b → slice_get (s.env).locals n
    ≡ Some of
    → HasNoHandle of → handle (slice_index_or (b.frame).locals n words.Null) ≡ None
local_none s n of b scene well at none =
    none (s.context).program (b.world).objects _ (read_is s (Local n) of b b _ scene well (in_local at) refl)

pub global_alive : (s : Scene) (n : ℕ) (of : VarType) (b : Activity) → IsScene s → Well s b
    → slice_get ((s.env).signatures).globals n ≡ Some of
    → is_alive (slice_index_or (b.world).globals n words.Null) b ≡ true
global_alive s n of b scene well at =
    value_alive (s.context).program of _ b (read_is s (Global n) of b b _ scene well
    (in_global (subst (λ (m : ModuleSignatures). slice_get m.globals n ≡ Some of) scene.declares at)) refl)

pub part_alive : (s : Scene) (number place : ℕ) (of : VarType) (b : Activity) → IsScene s → Well s b
    → IsLocated s.context s.env b (Part number place) of
    → is_alive (slice_index_or (words_in number b.world) place words.Null) b ≡ true
part_alive s number place of b scene well at =
    value_alive (s.context).program of _ b (read_is s (Part number place) of b b _ scene well at refl)

no_handle_of_primitive : (of : Primitive) → HasNoHandle (as_value (type_of_primitive of))
no_handle_of_primitive primitives.Bool = no_handle_in_bool
no_handle_of_primitive primitives.Int = no_handle_in_integer _
no_handle_of_primitive primitives.Int64 = no_handle_in_integer _
no_handle_of_primitive primitives.Uint = no_handle_in_integer _
no_handle_of_primitive primitives.Uint64 = no_handle_in_integer _

-- Hosts give no handles.

property_offered : (c : Context) {kind : ℕ} {member : ObjectMember} {of : VarType}
    → IsSoundMember (declared c) (objects.Host kind) member of
    → (p : Primitive) × (of ≡ type_of_primitive p) × Offers c.host
property_offered c (operations.property {kind} {id} {of} offered) = (of, refl, a_property kind id of offered)

pub property_none : (s : Scene) (kind number id : ℕ) (of : VarType) (b d : Activity) (v : Word) → IsScene s → Well s b
    → IsSoundMember (declared s.context) (objects.Host kind) (members.Property id of) of
    → get_property number id of b ≡ Done v d → handle v ≡ None
property_none s kind number id of b d v scene well m ran =
    let offered = property_offered s.context m in
    subst (λ (t : VarType). HasNoHandle (as_value t)) (sym offered.1) (no_handle_of_primitive offered.0)
    (s.context).program
    (d.world).objects v
    (given_value ((left_done v d (get_property_gives offered.2 number id of well) ran).carried).value)
