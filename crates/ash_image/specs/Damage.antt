-- Bytes that are an image, and bytes that differ from them in one thing and are the image of nothing.
use Rattle.std.specs.Prelude.{ℕ, zero, suc, List, [], ◌∷◌, ◌++◌, length, take, codes}
use Rattle.std.specs.List.{flat_map}
use Rattle.ash_image.specs.ImageExamples.{none2, none4, none8, in8, null, handle_to, nothing_rest, empty_object}

-- the same bytes so many times
abbrev pub repeated : ℕ → List ℕ → List ℕ
repeated zero bytes = []
repeated (suc n) bytes = bytes ++ repeated n bytes

-- the text of one byte that is 255, in version 2
abbrev pub other_text : List ℕ
other_text = 2 ∷ 0 ∷ 1 ∷ 0 ∷ 0 ∷ 0 ∷ 255 ∷ nothing_rest

-- ---- modules

-- no request, no object and no service
abbrev pub bare_head : List ℕ
bare_head = none8 ++ none8 ++ none2

-- a module of this name, with no source and no globals
abbrev pub named : List ℕ → List ℕ
named name = length name ∷ name ++ none4 ++ none2

-- modules of these names, each of one byte, in this order
abbrev pub modules_named : List ℕ → List ℕ
modules_named names = bare_head ++ length names ∷ flat_map (λ n. named (n ∷ [])) names ++ none4

-- so many modules, 17 at most, in order
abbrev pub so_many_modules : ℕ → List ℕ
so_many_modules count = modules_named (take count (codes "abcdefghijklmnopq"))

-- one module, of this name
abbrev pub one_named : List ℕ → List ℕ
one_named name = bare_head ++ 1 ∷ named name ++ none4

-- so many services of kind 1, each with no state
abbrev pub so_many_services : ℕ → List ℕ
so_many_services count = none8 ++ none8 ++ count ∷ 0 ∷ repeated count (1 ∷ 0 ∷ none2) ++ 0 ∷ none4

-- one global: a word of these bytes
abbrev pub one_global : List ℕ → List ℕ
one_global word = bare_head ++ 1 ∷ 1 ∷ 97 ∷ none4 ++ 1 ∷ 0 ∷ word ++ none4

-- ---- objects

-- one global, which is a handle to object 1, the last number that was given, and objects
abbrev pub holding : ℕ → List ℕ → List ℕ
holding last objects = none8 ++ in8 last ++ none2 ++ 1 ∷ 1 ∷ 97 ∷ none4 ++ 1 ∷ 0 ∷ handle_to 1 ++ objects

-- object 1 alone, of these bytes after its number
abbrev pub one_object : ℕ → List ℕ → List ℕ
one_object last object = holding last (1 ∷ 0 ∷ 0 ∷ 0 ∷ in8 1 ++ object)

-- objects 1 and 2
abbrev pub two_objects : List ℕ → List ℕ → List ℕ
two_objects first second = holding 2 (2 ∷ 0 ∷ 0 ∷ 0 ∷ in8 1 ++ first ++ in8 2 ++ second)

-- a script object of the first class of the module at this index, with so many fields
abbrev pub script : ℕ → ℕ → List ℕ → List ℕ
script owner count fields = 1 ∷ owner ∷ 0 ∷ 0 ∷ count ∷ fields

-- an array of one element: what it is of, and the element
abbrev pub array : List ℕ → List ℕ → List ℕ
array of element = 3 ∷ of ++ 1 ∷ 0 ∷ element

-- elements are handles to objects of the first class of the module at this index, or to objects of kind 1
abbrev pub of_class : ℕ → List ℕ
of_class owner = 5 ∷ owner ∷ 0 ∷ 0 ∷ []

abbrev pub of_kind : List ℕ
of_kind = 6 ∷ 1 ∷ 0 ∷ []

-- 7 as a word
abbrev pub seven : List ℕ
seven = 1 ∷ 7 ∷ 0 ∷ 0 ∷ 0 ∷ []

-- the last number is 2, two globals are handles to objects of these numbers, and two objects have these numbers
abbrev pub two_numbers : ℕ → ℕ → ℕ → ℕ → List ℕ
two_numbers first second one two = none8 ++ in8 2 ++ none2
    ++ 1 ∷ 1 ∷ 97 ∷ none4 ++ 2 ∷ 0 ∷ handle_to first ++ handle_to second
    ++ 2 ∷ 0 ∷ 0 ∷ 0 ∷ in8 one ++ empty_object ++ in8 two ++ empty_object
