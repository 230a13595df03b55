-- Images written by hand, byte by byte, of states that a host can be in.
use Rattle.std.specs.Prelude.{ℕ, pos, negsuc, true, false, List, [], ◌∷◌, ◌++◌, codes}
use Rattle.ash_host.specs.declared.word.Word.TheVariants as words
use Rattle.ash_host.specs.Objects.{Bools, Ints, Uints, Int64s, Uint64s, Handles, Hosts, Script, Array, Host}
use Rattle.ash_image.specs.declared.version.Version.{Version}
use Rattle.ash_image.specs.Snapshots.{Loaded, Snapshot}
use Rattle.ash_image.specs.Rules.{IsImage}

-- Bytes are the image of some state, in some version.
abbrev pub IsSomeImage : List ℕ → Type 0
IsSomeImage bytes = (version : Version) × (s : Snapshot) × IsImage bytes version s

-- Bytes are the image of no state, in no version.
abbrev pub IsDamaged : List ℕ → Type 0
IsDamaged bytes = (version : Version) (s : Snapshot) → IsImage bytes version s → ⊥

-- ---- parts

-- 0 in 2, 4 and 8 bytes
abbrev pub none2 : List ℕ
none2 = 0 ∷ 0 ∷ []

abbrev pub none4 : List ℕ
none4 = 0 ∷ 0 ∷ 0 ∷ 0 ∷ []

abbrev pub none8 : List ℕ
none8 = 0 ∷ 0 ∷ 0 ∷ 0 ∷ 0 ∷ 0 ∷ 0 ∷ 0 ∷ []

-- a small number in 8 bytes
abbrev pub in8 : ℕ → List ℕ
in8 n = n ∷ 0 ∷ 0 ∷ 0 ∷ 0 ∷ 0 ∷ 0 ∷ 0 ∷ []

-- the words null, and a handle to the object of a small number
abbrev pub null : List ℕ
null = 5 ∷ []

abbrev pub handle_to : ℕ → List ℕ
handle_to number = 6 ∷ in8 number

-- ---- nothing

-- nothing is registered, and nothing was loaded
abbrev pub nothing : Snapshot
nothing = record { registered = []; seq = 0; last = 0; services = []; modules = []; objects = [] }

-- no request, no object, no service, no module and no object
abbrev pub nothing_rest : List ℕ
nothing_rest = none8 ++ none8 ++ none2 ++ 0 ∷ none4

-- a version in two bytes, no text, and what follows it
abbrev pub without_text : ℕ → List ℕ → List ℕ
without_text version rest = version ∷ 0 ∷ none4 ++ rest

-- ---- objects of each kind

-- the type `T` is registered as kind 1, and a service of kind 2
abbrev pub registered : List ℕ
registered = codes "type T 1\nfactory T (int)\nservice 2\nfunction 0 1 int tally(int)\n"

-- a version in two bytes, this text of 63 bytes, and what follows it
abbrev pub with_text : ℕ → List ℕ → List ℕ
with_text version rest = version ∷ 0 ∷ 63 ∷ 0 ∷ 0 ∷ 0 ∷ registered ++ rest

abbrev pub source : List ℕ
source = codes "class B{}class A{int n;T@ t;array<B@>@ b;B@ c;"
    ++ codes "A(){n=7;@t=T(2057);@b=array<B@>(2);@c=B();@b[0]=c;tally(5);}}"
    ++ codes "A@ a=A();int k=-1;void f(){B();}"

-- a module `m` of a source, whose globals are a handle to object 1, and -1
abbrev pub loaded : List ℕ → Loaded
loaded source = record { name = 109 ∷ []; source = source; globals = words.Object 1 ∷ words.Int (negsuc 0) ∷ [] }

-- The module was loaded, and its function was called twice, which made objects 5 and 6 that live no longer. Object 1 is
-- of the second class of the module, object 2 of kind 1, object 3 an array of handles to objects of the first class,
-- and object 4 of the first class.
abbrev pub of_each : Snapshot
of_each = record {
  registered = registered;
  seq = 3;
  last = 6;
  services = (2, 5 ∷ 0 ∷ 0 ∷ 0 ∷ []) ∷ [];
  modules = loaded source ∷ [];
  objects = (1, Script 0 1 (words.Int (pos 7) ∷ words.Object 2 ∷ words.Object 3 ∷ words.Object 4 ∷ []))
      ∷ (2, Host 1 (9 ∷ 8 ∷ 0 ∷ 0 ∷ []))
      ∷ (3, Array (Handles 0 0) (words.Object 4 ∷ words.Null ∷ []))
      ∷ (4, Script 0 0 [])
      ∷ [];
}

-- the service: its kind, and its state of 4 bytes
abbrev pub tally : List ℕ
tally = 2 ∷ 0 ∷ 4 ∷ 0 ∷ 5 ∷ 0 ∷ 0 ∷ 0 ∷ []

-- the globals: how many, a handle to object 1, and -1
abbrev pub globals : List ℕ
globals = 2 ∷ 0 ∷ handle_to 1 ++ 1 ∷ 255 ∷ 255 ∷ 255 ∷ 255 ∷ []

-- the object of kind 1: a tag, its kind, and its state of 4 bytes
abbrev pub host_object : List ℕ
host_object = 2 ∷ 1 ∷ 0 ∷ 4 ∷ 0 ∷ 9 ∷ 8 ∷ 0 ∷ 0 ∷ []

-- an object of the first class, which has no fields: a tag, its module, its class, and how many fields
abbrev pub empty_object : List ℕ
empty_object = 1 ∷ 0 ∷ 0 ∷ 0 ∷ 0 ∷ []

abbrev pub of_each_rest : List ℕ
of_each_rest = in8 3 ++ in8 6
    ++ (1 ∷ 0 ∷ tally)
    ++ (1 ∷ 1 ∷ 109 ∷ 139 ∷ 0 ∷ 0 ∷ 0 ∷ source ++ globals)
    ++ (4 ∷ 0 ∷ 0 ∷ 0 ∷ [])
    ++ in8 1 ++ (1 ∷ 0 ∷ 1 ∷ 0 ∷ 4 ∷ 1 ∷ 7 ∷ 0 ∷ 0 ∷ 0 ∷ handle_to 2 ++ handle_to 3 ++ handle_to 4)
    ++ in8 2 ++ host_object
    ++ in8 3 ++ (3 ∷ 5 ∷ 0 ∷ 0 ∷ 0 ∷ 2 ∷ 0 ∷ handle_to 4 ++ null)
    ++ in8 4 ++ empty_object

-- ---- the same without the array, which version 1 does not have

abbrev pub source_without_arrays : List ℕ
source_without_arrays = codes "class B{}class A{int n;T@ t;B@ b;B@ c;A(){n=7;@t=T(2057);@c=B();tally(5);}}"
    ++ codes "A@ a=A();int k=-1;void f(){B();}"

abbrev pub without_arrays : Snapshot
without_arrays = record {
  registered = registered;
  seq = 3;
  last = 5;
  services = (2, 5 ∷ 0 ∷ 0 ∷ 0 ∷ []) ∷ [];
  modules = loaded source_without_arrays ∷ [];
  objects = (1, Script 0 1 (words.Int (pos 7) ∷ words.Object 2 ∷ words.Null ∷ words.Object 3 ∷ []))
      ∷ (2, Host 1 (9 ∷ 8 ∷ 0 ∷ 0 ∷ []))
      ∷ (3, Script 0 0 [])
      ∷ [];
}

abbrev pub without_arrays_rest : List ℕ
without_arrays_rest = in8 3 ++ in8 5
    ++ (1 ∷ 0 ∷ tally)
    ++ (1 ∷ 1 ∷ 109 ∷ 107 ∷ 0 ∷ 0 ∷ 0 ∷ source_without_arrays ++ globals)
    ++ (3 ∷ 0 ∷ 0 ∷ 0 ∷ [])
    ++ in8 1 ++ (1 ∷ 0 ∷ 1 ∷ 0 ∷ 4 ∷ 1 ∷ 7 ∷ 0 ∷ 0 ∷ 0 ∷ handle_to 2 ++ null ++ handle_to 3)
    ++ in8 2 ++ host_object
    ++ in8 3 ++ empty_object

-- ---- each type of words, and of elements

-- the type `T` is registered as kind 1
abbrev pub one_type : List ℕ
one_type = codes "type T 1\nfactory T ()\n"

-- version 2, this text of 22 bytes, and what follows it
abbrev pub with_one_type : List ℕ → List ℕ
with_one_type rest = 2 ∷ 0 ∷ 22 ∷ 0 ∷ 0 ∷ 0 ∷ one_type ++ rest

abbrev pub source_of_types : List ℕ
source_of_types = codes "class B{}T@ n;T@ o=T();bool f;bool t=true;int i=-2147483648;uint u=4294967295;"
    ++ codes "int64 l=9223372036854775807;uint64 m=9223372036854775808;array<bool>@ p=array<bool>(2);"
    ++ codes "array<int>@ q=array<int>(1);array<uint>@ r=array<uint>(1);array<int64>@ s=array<int64>(1);"
    ++ codes "array<uint64>@ v=array<uint64>(1);array<B@>@ w=array<B@>(1);array<T@>@ x=array<T@>(1);"
    ++ codes "void g(){p[1]=true;q[0]=-1;r[0]=2147483648;s[0]=-1;v[0]=18446744073709551615;@x[0]=o;}"

-- The module `_a9` was loaded, and its function was called 257 times.
abbrev pub of_types : Snapshot
of_types = record {
  registered = one_type;
  seq = 258;
  last = 8;
  services = [];
  modules = record {
    name = codes "_a9";
    source = source_of_types;
    globals = words.Null ∷ words.Object 1 ∷ words.Bool false ∷ words.Bool true ∷ words.Int (negsuc 2147483647)
        ∷ words.Uint 4294967295 ∷ words.Int64 (pos 9223372036854775807) ∷ words.Uint64 9223372036854775808
        ∷ words.Object 2 ∷ words.Object 3 ∷ words.Object 4 ∷ words.Object 5 ∷ words.Object 6 ∷ words.Object 7
        ∷ words.Object 8 ∷ [];
  } ∷ [];
  objects = (1, Host 1 none4)
      ∷ (2, Array Bools (words.Bool false ∷ words.Bool true ∷ []))
      ∷ (3, Array Ints (words.Int (negsuc 0) ∷ []))
      ∷ (4, Array Uints (words.Uint 2147483648 ∷ []))
      ∷ (5, Array Int64s (words.Int64 (negsuc 0) ∷ []))
      ∷ (6, Array Uint64s (words.Uint64 18446744073709551615 ∷ []))
      ∷ (7, Array (Handles 0 0) (words.Null ∷ []))
      ∷ (8, Array (Hosts 1) (words.Object 1 ∷ []))
      ∷ [];
}

-- the globals: how many, null and a handle, the primitive types, and the handles to the arrays
abbrev pub globals_of_types : List ℕ
globals_of_types = 15 ∷ 0 ∷ null ++ handle_to 1
    ++ (0 ∷ 0 ∷ 0 ∷ 1 ∷ [])
    ++ (1 ∷ 0 ∷ 0 ∷ 0 ∷ 128 ∷ [])
    ++ (2 ∷ 255 ∷ 255 ∷ 255 ∷ 255 ∷ [])
    ++ (3 ∷ 255 ∷ 255 ∷ 255 ∷ 255 ∷ 255 ∷ 255 ∷ 255 ∷ 127 ∷ [])
    ++ (4 ∷ 0 ∷ 0 ∷ 0 ∷ 0 ∷ 0 ∷ 0 ∷ 0 ∷ 128 ∷ [])
    ++ handle_to 2 ++ handle_to 3 ++ handle_to 4 ++ handle_to 5 ++ handle_to 6 ++ handle_to 7 ++ handle_to 8

-- the arrays: a tag, what the elements are of, how many, and each
abbrev pub arrays_of_types : List ℕ
arrays_of_types = in8 2 ++ (3 ∷ 0 ∷ 2 ∷ 0 ∷ 0 ∷ 0 ∷ 0 ∷ 1 ∷ [])
    ++ in8 3 ++ (3 ∷ 1 ∷ 1 ∷ 0 ∷ 1 ∷ 255 ∷ 255 ∷ 255 ∷ 255 ∷ [])
    ++ in8 4 ++ (3 ∷ 2 ∷ 1 ∷ 0 ∷ 2 ∷ 0 ∷ 0 ∷ 0 ∷ 128 ∷ [])
    ++ in8 5 ++ (3 ∷ 3 ∷ 1 ∷ 0 ∷ 3 ∷ 255 ∷ 255 ∷ 255 ∷ 255 ∷ 255 ∷ 255 ∷ 255 ∷ 255 ∷ [])
    ++ in8 6 ++ (3 ∷ 4 ∷ 1 ∷ 0 ∷ 4 ∷ 255 ∷ 255 ∷ 255 ∷ 255 ∷ 255 ∷ 255 ∷ 255 ∷ 255 ∷ [])
    ++ in8 7 ++ (3 ∷ 5 ∷ 0 ∷ 0 ∷ 0 ∷ 1 ∷ 0 ∷ null)
    ++ in8 8 ++ (3 ∷ 6 ∷ 1 ∷ 0 ∷ 1 ∷ 0 ∷ handle_to 1)

abbrev pub of_types_rest : List ℕ
of_types_rest = (2 ∷ 1 ∷ 0 ∷ 0 ∷ 0 ∷ 0 ∷ 0 ∷ 0 ∷ []) ++ in8 8 ++ none2
    ++ (1 ∷ 3 ∷ 95 ∷ 97 ∷ 57 ∷ 171 ∷ 1 ∷ 0 ∷ 0 ∷ source_of_types ++ globals_of_types)
    ++ (8 ∷ 0 ∷ 0 ∷ 0 ∷ [])
    ++ in8 1 ++ (2 ∷ 1 ∷ 0 ∷ 4 ∷ 0 ∷ none4)
    ++ arrays_of_types
