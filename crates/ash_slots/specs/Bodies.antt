-- What objects hold.
use Rattle.std.specs.Prelude.{ℕ, Bool, true, false, List, [], slice_set}
use Rattle.ash_host.specs.declared.word.Word.{Word}
use Rattle.ash_slots.specs.declared.body.Body.{Body}
use Rattle.ash_slots.specs.declared.body.Body.TheVariants.{Script, Array, Host}

-- the words that an object holds; a host object holds none
abbrev pub words_of : {B : Type 0} → Body B → List Word
words_of (Script script) = script.fields
words_of (Array array) = array.elements
words_of (Host _) = []

-- an object with a word at a place
abbrev pub with_word : {B : Type 0} → ℕ → Word → Body B → Body B
with_word place word (Script script) = Script (record script { fields = slice_set script.fields place word })
with_word place word (Array array) = Array (record array { elements = slice_set array.elements place word })
with_word place word (Host box) = Host box

-- whether it is a host object, in its box
abbrev pub is_boxed : {B : Type 0} → Body B → Bool
is_boxed (Script _) = false
is_boxed (Array _) = false
is_boxed (Host _) = true
