-- A small module whose classes have ranks, and objects of it.
use Rattle.std.specs.Prelude.{ℕ, List, [], ◌∷◌, map, codes, Some, None}
use Rattle.ash_host.specs.declared.word.Word.TheVariants.{Object, Null}
use Rattle.ash_host.specs.Objects.{Handles, Hosts, Script, Array, Host, LiveObjects}
use Rattle.ash_typed.specs.declared.types.Element.{Element}
use Rattle.ash_typed.specs.declared.types.Element.TheVariants as elements
use Rattle.ash_typed.specs.declared.types.ObjectType.TheVariants as objects
use Rattle.ash_typed.specs.declared.types.VarType.{VarType}
use Rattle.ash_typed.specs.declared.types.VarType.TheVariants as vars
use Rattle.ash_typed.specs.Modules.{Implementation, Class, Module}
use Rattle.ash_typed.specs.Signatures.{HostSignatures}
use Rattle.ash_meaning.specs.ExampleParts.{variable}
use Rattle.ash_soundness.specs.WellFormed.{Known}
use Rattle.ash_soundness.specs.ModuleExample.{no_host}
use Rattle.ash_object_ranks.specs.ObjectRanks.{ClassRanks}

-- a host that has objects of kind 1
abbrev pub counting : HostSignatures
counting = record no_host { kinds = 1 ∷ [] }

-- types of fields

abbrev pub array_of : Element → VarType
array_of of = vars.Handle (objects.Array of)

abbrev pub fields_of_a : List VarType
fields_of_a =
    vars.Handle (objects.Interface 0) ∷ array_of (elements.Interface 0) ∷ array_of (elements.Class 1)
    ∷ array_of (elements.Host 1) ∷ []

-- a class without methods
abbrev pub plain_class : List ℕ → List Implementation → List VarType → Class
plain_class name interfaces fields = record {
  name = name;
  line = 1;
  interfaces = interfaces;
  fields = map (λ of. variable of None) fields;
  constructor = None;
  methods = [];
}

-- the one interface
abbrev pub lists_i : List Implementation
lists_i = record { interface = 0; methods = [] } ∷ []

-- `class A { I@ i; array<I@>@ is; array<B@>@ bs; array<Counter@>@ cs; }`
-- `interface I {} class B : I {} class C : I { B@ b; }`
abbrev pub tree : Module
tree = record {
  interfaces = record { name = codes "I"; line = 1; classes_before = 1; methods = [] } ∷ [];
  classes =
      plain_class (codes "A") [] fields_of_a ∷ plain_class (codes "B") lists_i []
      ∷ plain_class (codes "C") lists_i (vars.Handle (objects.Class 1) ∷ []) ∷ [];
  functions = [];
  globals = [];
}

-- it is known by each name
abbrev pub known : Known
known name = Some tree

-- A refers to all, C to B, and B to none
abbrev pub ranks : ClassRanks
ranks name = 2 ∷ 0 ∷ 1 ∷ []

abbrev pub owner : List ℕ
owner = codes "m"

-- an A, which leads to all others: a B and a C, an array of both, one of B, and one of a host object
abbrev pub living : LiveObjects (List ℕ)
living =
    (1, Script owner 0 (Object 3 ∷ Object 4 ∷ Object 5 ∷ Object 6 ∷ [])) ∷ (2, Script owner 2 [])
    ∷ (3, Script owner 3 (Object 2 ∷ [])) ∷ (4, Array (Handles owner 1) (Object 2 ∷ Object 3 ∷ []))
    ∷ (5, Array (Handles owner 2) (Object 2 ∷ Null ∷ [])) ∷ (6, Array (Hosts 1) (Object 7 ∷ [])) ∷ (7, Host 1 []) ∷ []
