-- Whether what objects contain is of its types, as tests.
use Rattle.std.specs.Prelude.{ℕ, ◌+◌, Bool, false, ◌&&◌, ◌||◌, nat_eq, nat_le, List, []}
use Rattle.std.specs.Prelude.{◌∷◌, length, map, Option, is_some, find, option_map}
use Rattle.std.specs.List.{list_all}
use Rattle.std.specs.Option.{option_map_or}
use Rattle.std.specs.Str.{bytes_eq}
use Rattle.ash_host.specs.declared.word.Word.{Word}
use Rattle.ash_host.specs.Objects.{Elements, Bools, Ints, Uints, Int64s, Uint64s, Handles}
use Rattle.ash_host.specs.Objects.{Hosts, Plain, Script, Array, Host, LiveObjects}
use Rattle.ash_host.specs.Reach.{is_among}
use Rattle.ash_host.specs.Limits.{max_elements, max_state_bytes}
use Rattle.ash_integers.specs.declared.int_type.IntType.TheVariants as ints
use Rattle.ash_typed.specs.declared.types.ObjectType.TheVariants as objects
use Rattle.ash_typed.specs.Modules.{Interface, Class}
use Rattle.ash_typed.specs.Signatures.{type_declared}
use Rattle.ash_meaning.specs.Classes.{Program}
use Rattle.ash_soundness.specs.WellFormed.{Known}
use Rattle.ash_admission.specs.Places.{class_at, is_of_place, is_of_kind, is_of}
use Rattle.ash_admission.specs.Values.{is_truth, is_integer, is_reference, are_values}

-- the module of a name
abbrev pub program_of_name : List ℕ → List Program → Option Program
program_of_name name ps = find (λ (p : Program). bytes_eq p.name name) ps

-- the modules by name
abbrev pub known_in : List Program → Known
known_in ps name = option_map (λ (p : Program). p.tree) (program_of_name name ps)

-- whether words are the fields of an object of the class at a place of the module's source
abbrev pub is_script : LiveObjects (List ℕ) → ℕ → List Word → Program → Bool
is_script all place fields p =
    option_map_or (λ (c : Class). are_values p all (map type_declared c.fields) fields) (class_at p.tree place) false

-- whether words are handles of objects of the class at a place of the module's source
abbrev pub are_of_class : LiveObjects (List ℕ) → ℕ → List Word → Program → Bool
are_of_class all place ws p =
    is_some (class_at p.tree place) && list_all (is_reference all (is_of_place p.name place)) ws

-- whether words are handles of objects of an interface at a place of the source, among these interfaces, of which the
-- first has this index
abbrev pub any_interface : LiveObjects (List ℕ) → ℕ → List Word → Program → ℕ → List Interface → Bool
any_interface all place ws p interface [] = false
any_interface all place ws p interface (i ∷ is) =
    (nat_eq place (interface + i.classes_before) && list_all (is_reference all (is_of p (objects.Interface interface)))
    ws)
    || any_interface all place ws p (interface + 1) is

-- whether words are handles of objects of the class or of the interface at a place of the module's source
abbrev pub are_handles : LiveObjects (List ℕ) → ℕ → List Word → Program → Bool
are_handles all place ws p = are_of_class all place ws p || any_interface all place ws p 0 (p.tree).interfaces

-- whether words are of what an array says of its elements
abbrev pub are_elements : List Program → LiveObjects (List ℕ) → Elements (List ℕ) → List Word → Bool
are_elements ps all Bools ws = list_all is_truth ws
are_elements ps all Ints ws = list_all (is_integer ints.Int) ws
are_elements ps all Uints ws = list_all (is_integer ints.Uint) ws
are_elements ps all Int64s ws = list_all (is_integer ints.Int64) ws
are_elements ps all Uint64s ws = list_all (is_integer ints.Uint64) ws
are_elements ps all (Handles owner place) ws = option_map_or (are_handles all place ws) (program_of_name owner ps) false
are_elements ps all (Hosts kind) ws = list_all (is_reference all (is_of_kind kind)) ws

-- whether an object is well-formed among the living ones, where the host constructs objects of these kinds
abbrev pub is_object : List ℕ → List Program → LiveObjects (List ℕ) → Plain (List ℕ) → Bool
is_object kinds ps all (Script owner place fields) =
    option_map_or (is_script all place fields) (program_of_name owner ps) false
is_object kinds ps all (Array of ws) = nat_le (length ws) max_elements && are_elements ps all of ws
is_object kinds ps all (Host kind state) = nat_le (length state) max_state_bytes && is_among kinds kind

-- whether each object is
abbrev pub are_objects : List ℕ → List Program → LiveObjects (List ℕ) → Bool
are_objects kinds ps all = list_all (λ (e : ℕ × Plain (List ℕ)). is_object kinds ps all e.1) all
