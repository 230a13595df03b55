-- The text of words and of objects.
use Rattle.std.specs.Prelude.{ℕ, true, false, List, [], ◌∷◌, ◌++◌, codes, decimal}
use Rattle.std.specs.Fmt.{signed_decimal}
use Rattle.std.specs.List.{flat_map}
use Rattle.hex.specs.Hex.{encode_lower}
use Rattle.ash_host.specs.declared.word.Word.{Word}
use Rattle.ash_host.specs.declared.word.Word.TheVariants.{Bool, Int, Uint, Int64, Uint64, Null, Object}
use Rattle.ash_requests.specs.Requests.{ObjectContents, Fields, HostState, Elements, Shown}

abbrev pub word_text : Word → List ℕ
word_text (Bool true) = codes "true"
word_text (Bool false) = codes "false"
word_text (Int number) = signed_decimal number
word_text (Uint number) = decimal number
word_text (Int64 number) = signed_decimal number
word_text (Uint64 number) = decimal number
word_text Null = codes "null"
word_text (Object number) = codes "object " ++ decimal number

-- the name of a field, with a blank on either side
abbrev pub field_name_text : List ℕ → List ℕ
field_name_text name = codes " " ++ (name ++ codes " ")

-- a field by its name, with a blank before it
abbrev pub field_text : List ℕ × Word → List ℕ
field_text field = field_name_text field.0 ++ word_text field.1

-- an element, with a blank before it
abbrev pub element_text : Word → List ℕ
element_text word = codes " " ++ word_text word

-- a byte as two hexadecimal digits, of lower case
abbrev pub byte_text : ℕ → List ℕ
byte_text byte = encode_lower (byte ∷ [])

-- The state of a host object is in hexadecimal digits. With an empty one the text ends in its word.
abbrev pub state_text : List ℕ → List ℕ
state_text [] = codes " state"
state_text state = codes " state " ++ flat_map byte_text state

abbrev pub contents_text : ObjectContents → List ℕ
contents_text (Fields fields) = flat_map field_text fields
contents_text (HostState state) = state_text state
contents_text (Elements elements) = flat_map element_text elements

-- an object by its number, with the name of its type and its count
abbrev pub object_text : ℕ → List ℕ → ℕ → List ℕ
object_text number type_name count =
    codes "ok object " ++ (decimal number ++ (codes " " ++ (type_name ++ (codes " count " ++ decimal count))))

abbrev pub shown_text : Shown → List ℕ
shown_text shown = object_text shown.number shown.type_name shown.count ++ contents_text shown.contents
