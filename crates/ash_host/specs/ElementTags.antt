-- What the elements of an array are, as the code has it.
use Rattle.std.specs.Prelude.{ℕ, false, pos}
use Rattle.ash_host.specs.declared.element.ElementTag.{ElementTag}
use Rattle.ash_host.specs.declared.element.ElementTag.TheVariants as tags
use Rattle.ash_host.specs.declared.word.Word.{Word}
use Rattle.ash_host.specs.declared.word.Word.TheVariants as words
use Rattle.ash_host.specs.Objects.{Elements, Bools, Ints, Uints, Int64s, Uint64s, Handles, Hosts}

-- what a tag stands for, where a module is known by its number
abbrev pub element_of : ElementTag → Elements ℕ
element_of tags.Bool = Bools
element_of tags.Int = Ints
element_of tags.Uint = Uints
element_of tags.Int64 = Int64s
element_of tags.Uint64 = Uint64s
element_of (tags.Class owner class) = Handles owner class
element_of (tags.Kind kind) = Hosts kind

-- what an element of an array is before anything is written to it: zero, or null
abbrev pub initial_of : ElementTag → Word
initial_of tags.Bool = words.Bool false
initial_of tags.Int = words.Int (pos 0)
initial_of tags.Uint = words.Uint 0
initial_of tags.Int64 = words.Int64 (pos 0)
initial_of tags.Uint64 = words.Uint64 0
initial_of (tags.Class _ _) = words.Null
initial_of (tags.Kind _) = words.Null
