-- The requests that the input spells.
use Rattle.std.specs.Prelude.{◌≡◌, ℕ, ◌+◌, ◌*◌, ◌-◌, ◌^◌, ◌==◌, ◌&&◌, nat_lt, nat_le, Bool, true, false, if◌then◌else◌}
use Rattle.std.specs.Prelude.{List, [], ◌∷◌, length, take, drop, codes, Option, Some, None, option_map, pos, neg_ℤ}
use Rattle.std.specs.Prelude.{zero, suc}
use Rattle.std.specs.List.{list_all}
use Rattle.std.specs.Str.{bytes_eq}
use Rattle.ash_requests.specs.declared.argument.Arg.{Arg}
use Rattle.ash_requests.specs.declared.argument.Arg.TheVariants.{Truth, Number}
use Rattle.ash_requests.specs.Requests.{Request, Load, Call, Discard, Get, Object, Seq, Snapshot}

-- What one request line asks: something of the host, or to end the run. Or it is no request, or its line is too long.
pub data Line : Type 0 where
  HostRequest : (request : Request) → Line
  Quit : Line
  BadRequest : Line
  LineTooLong : Line

-- What the input consists of: request lines by themselves, and batches of them.
pub data Command : Type 0 where
  Single : (line : Line) → Command
  Batch : (lines : List Line) → Command

-- The run goes on after this command: after any but `quit`.
abbrev pub ContinuesRun : Command → Type 0
ContinuesRun (Single Quit) = ⊥
ContinuesRun _ = Unit {0}

-- the most lines of a batch
abbrev pub max_batch : ℕ
max_batch = 16

-- the most bytes of a line, its line feed not counted
abbrev pub max_line_bytes : ℕ
max_line_bytes = 4096

-- The bytes before the first line feed, and those after it.
unfoldable pub cut_line : List ℕ → Option (List ℕ × List ℕ)
cut_line [] = None
cut_line (byte ∷ more) =
    if byte == 10 then Some ([], more) else option_map (λ cut. (byte ∷ cut.0, cut.1)) (cut_line more)

-- Words.

abbrev pub onto : ℕ → List (List ℕ) → List (List ℕ)
onto byte [] = (byte ∷ []) ∷ []
onto byte (piece ∷ pieces) = (byte ∷ piece) ∷ pieces

-- The pieces of a line between its spaces. Two spaces in a row have an empty piece between them.
unfoldable pub pieces : List ℕ → List (List ℕ)
pieces [] = [] ∷ []
pieces (byte ∷ more) = if byte == 32 then [] ∷ pieces more else onto byte (pieces more)

-- a visible character of ASCII
abbrev pub is_visible : ℕ → Bool
is_visible byte = nat_le 33 byte && nat_le byte 126

-- a word: visible characters, one at the least
abbrev pub is_word : List ℕ → Bool
is_word piece = nat_lt 0 (length piece) && list_all is_visible piece

-- Numbers.

abbrev pub is_digit : ℕ → Bool
is_digit byte = nat_le 48 byte && nat_le byte 57

-- the number that digits spell, where those before them spell the first argument
abbrev pub value_after : ℕ → List ℕ → ℕ
value_after number [] = number
value_after number (digit ∷ digits) = value_after (10 * number + (digit - 48)) digits

-- the most digits of a number below 2^64
abbrev pub max_digits : ℕ
max_digits = 20

-- a number is 1 to 20 digits
abbrev pub is_number : List ℕ → Bool
is_number word = nat_lt 0 (length word) && (nat_le (length word) max_digits && list_all is_digit word)

unfoldable pub number_of : List ℕ → Option ℕ
number_of word = if is_number word then Some (value_after 0 word) else None

-- a number, where it is below a bound
abbrev pub if_below : ℕ → ℕ → Option ℕ
if_below bound number = if nat_lt number bound then Some number else None

abbrev pub number_below : ℕ → Option ℕ → Option ℕ
number_below bound None = None
number_below bound (Some number) = if_below bound number

-- a number of bytes, below 2^32
unfoldable pub length_of : List ℕ → Option ℕ
length_of word = number_below (2 ^ 32) (number_of word)

-- the number of an object, below 2^64
unfoldable pub object_number_of : List ℕ → Option ℕ
object_number_of word = number_below (2 ^ 64) (number_of word)

-- the most digits of a number of lines
abbrev pub max_batch_digits : ℕ
max_batch_digits = 2

abbrev pub if_batch_length : Option ℕ → Option ℕ
if_batch_length None = None
if_batch_length (Some number) = if nat_le 1 number && nat_le number max_batch then Some number else None

-- how many lines a batch has: one or two digits, from 1 to 16
unfoldable pub batch_length_of : List ℕ → Option ℕ
batch_length_of word = if nat_le (length word) max_batch_digits then if_batch_length (number_of word) else None

-- an argument that is no truth value: a number, with a sign or without one
abbrev pub signed_of : List ℕ → Option Arg
signed_of [] = None
signed_of (byte ∷ more) =
    if byte == 45 then option_map (λ number. Number (neg_ℤ (pos number))) (number_of more)
    else option_map (λ number. Number (pos number)) (number_of (byte ∷ more))

unfoldable pub argument_of : List ℕ → Option Arg
argument_of word =
    if bytes_eq word (codes "true") then Some (Truth true)
    else if bytes_eq word (codes "false") then Some (Truth false)
    else signed_of word

abbrev pub both : Option Arg → Option (List Arg) → Option (List Arg)
both (Some argument) (Some arguments) = Some (argument ∷ arguments)
both _ _ = None

unfoldable pub arguments_of : List (List ℕ) → Option (List Arg)
arguments_of [] = Some []
arguments_of (word ∷ words) = both (argument_of word) (arguments_of words)

-- more arguments than a line has room for
abbrev pub max_arguments : ℕ
max_arguments = 4097

-- Lines.

-- What a line asks: all of it is in the line; or a source of so many bytes follows, to be loaded under a name; or a batch
-- of so many lines does.
pub data ParsedLine : Type 0 where
  Complete : (line : Line) → ParsedLine
  LoadHeader : (name : List ℕ) → (length : ℕ) → ParsedLine
  BatchHeader : (count : ℕ) → ParsedLine

-- the line of a load, if its length is one
abbrev pub load_header : List ℕ → Option ℕ → ParsedLine
load_header name None = Complete BadRequest
load_header name (Some length) = LoadHeader name length

-- load NAME LENGTH
abbrev pub parse_load : List (List ℕ) → ParsedLine
parse_load (name ∷ length ∷ []) = load_header name (length_of length)
parse_load _ = Complete BadRequest

-- a call, if its arguments are all such
abbrev pub call_request : List ℕ → List ℕ → Option (List Arg) → ParsedLine
call_request module_name function None = Complete BadRequest
call_request module_name function (Some arguments) = Complete (HostRequest (Call module_name function arguments))

-- call NAME FUNCTION, then any number of arguments
abbrev pub parse_call : List (List ℕ) → ParsedLine
parse_call (module_name ∷ function ∷ words) = call_request module_name function (arguments_of words)
parse_call _ = Complete BadRequest

-- discard NAME
abbrev pub parse_discard : List (List ℕ) → ParsedLine
parse_discard (name ∷ []) = Complete (HostRequest (Discard name))
parse_discard _ = Complete BadRequest

-- get NAME GLOBAL
abbrev pub parse_get : List (List ℕ) → ParsedLine
parse_get (module_name ∷ name ∷ []) = Complete (HostRequest (Get module_name name))
parse_get _ = Complete BadRequest

-- a look at an object, if its number is one
abbrev pub object_request : Option ℕ → ParsedLine
object_request None = Complete BadRequest
object_request (Some number) = Complete (HostRequest (Object number))

-- object N
abbrev pub parse_object : List (List ℕ) → ParsedLine
parse_object (number ∷ []) = object_request (object_number_of number)
parse_object _ = Complete BadRequest

-- the line before a batch, if its length is one
abbrev pub batch_header : Option ℕ → ParsedLine
batch_header None = Complete BadRequest
batch_header (Some count) = BatchHeader count

-- batch N
abbrev pub parse_batch : List (List ℕ) → ParsedLine
parse_batch (count ∷ []) = batch_header (batch_length_of count)
parse_batch _ = Complete BadRequest

-- a request of one word
abbrev pub parse_lone : Line → List (List ℕ) → ParsedLine
parse_lone line [] = Complete line
parse_lone line _ = Complete BadRequest

abbrev pub parse_verb : List ℕ → List (List ℕ) → ParsedLine
parse_verb verb words =
    if bytes_eq verb (codes "load") then parse_load words
    else if bytes_eq verb (codes "call") then parse_call words
    else if bytes_eq verb (codes "discard") then parse_discard words
    else if bytes_eq verb (codes "get") then parse_get words
    else if bytes_eq verb (codes "object") then parse_object words
    else if bytes_eq verb (codes "seq") then parse_lone (HostRequest Seq) words
    else if bytes_eq verb (codes "snapshot") then parse_lone (HostRequest Snapshot) words
    else if bytes_eq verb (codes "quit") then parse_lone Quit words
    else if bytes_eq verb (codes "batch") then parse_batch words
    else Complete BadRequest

abbrev pub parse_words : List (List ℕ) → ParsedLine
parse_words [] = Complete BadRequest
parse_words (verb ∷ words) = parse_verb verb words

-- What a line asks by its words, between which there is one space each.
unfoldable pub parse_line : List ℕ → ParsedLine
parse_line line = if list_all is_word (pieces line) then parse_words (pieces line) else Complete BadRequest

-- The input.

-- what the input begins with: nothing, something that the end cuts, or something whole, and what follows it
pub data Next (Item : Type 0) : Type 0 where
  End : Next Item
  Cut : Next Item
  Whole : (item : Item) → (more : List ℕ) → Next Item

-- nothing whole: nothing begins, or the end of these bytes cuts it
abbrev pub is_unfinished : {Item : Type 0} → Next Item → Bool
is_unfinished End = true
is_unfinished Cut = true
is_unfinished (Whole item more) = false

-- The input consists of these items, each as `next` finds it, one after another, and then of this rest.
abbrev pub ConsistsBy : {Item : Type 0} → (List ℕ → Next Item) → List ℕ → List Item → List ℕ → Type 0
ConsistsBy next input [] rest = input ≡ rest
ConsistsBy next input (item ∷ items) rest =
    (more : List ℕ) × (next input ≡ Whole item more) × ConsistsBy next more items rest

-- A line of the input, with its source if it has one: a request, or that a batch of so many lines follows.
pub data InputLine : Type 0 where
  RequestLine : (line : Line) → InputLine
  BatchLine : (count : ℕ) → InputLine

-- After a source its line ends; where it goes on, the rest of it is skipped and there was no request.
abbrev pub after_source : List ℕ → List ℕ → Option (List ℕ × List ℕ) → Next InputLine
after_source name source None = Cut
after_source name source (Some ([], more)) = Whole (RequestLine (HostRequest (Load name source))) more
after_source name source (Some (byte ∷ line, more)) = Whole (RequestLine BadRequest) more

abbrev pub after_line : ParsedLine → List ℕ → Next InputLine
after_line (Complete line) more = Whole (RequestLine line) more
after_line (LoadHeader name length) more = after_source name (take length more) (cut_line (drop length more))
after_line (BatchHeader count) more = Whole (BatchLine count) more

abbrev pub on_line : Option (List ℕ × List ℕ) → Next InputLine
on_line None = Cut
on_line (Some (line, more)) =
    if nat_lt max_line_bytes (length line) then Whole (RequestLine LineTooLong) more
    else after_line (parse_line line) more

-- the line that the input begins with
unfoldable pub next_line : List ℕ → Next InputLine
next_line [] = End
next_line (byte ∷ more) = on_line (cut_line (byte ∷ more))

-- What a line inside a batch asks. `batch`, `snapshot` and `quit` are no requests there, and take no lines of their own.
abbrev pub inner_line : InputLine → Line
inner_line (BatchLine count) = BadRequest
inner_line (RequestLine (HostRequest Snapshot)) = BadRequest
inner_line (RequestLine Quit) = BadRequest
inner_line (RequestLine line) = line

-- the line of a batch that a line of the input is; the end of the input cuts a batch
abbrev pub inner_next : Next InputLine → Next Line
inner_next (Whole line more) = Whole (inner_line line) more
inner_next _ = Cut

-- the line of a batch that the input begins with
unfoldable pub next_inner : List ℕ → Next Line
next_inner input = inner_next (next_line input)

-- one more line before those of a batch that follow it
abbrev pub onto_lines : Line → Next (List Line) → Next (List Line)
onto_lines line (Whole lines more) = Whole (line ∷ lines) more
onto_lines line _ = Cut

abbrev pub then_lines : (List ℕ → Next (List Line)) → Next Line → Next (List Line)
then_lines others (Whole line more) = onto_lines line (others more)
then_lines others _ = Cut

-- so many lines of a batch
unfoldable pub lines_at : ℕ → List ℕ → Next (List Line)
lines_at zero input = Whole [] input
lines_at (suc count) input = then_lines (lines_at count) (next_inner input)

-- the lines of a batch are one command
abbrev pub as_batch : Next (List Line) → Next Command
as_batch (Whole lines more) = Whole (Batch lines) more
as_batch _ = Cut

-- the command whose first line is this
abbrev pub command_at : Next InputLine → Next Command
command_at End = End
command_at Cut = Cut
command_at (Whole (RequestLine line) more) = Whole (Single line) more
command_at (Whole (BatchLine count) more) = as_batch (lines_at count more)

-- the command that the input begins with
unfoldable pub next : List ℕ → Next Command
next input = command_at (next_line input)

-- The input consists of these commands, one after another, and then of this rest.
abbrev pub ConsistsOf : List ℕ → List Command → List ℕ → Type 0
ConsistsOf input commands rest = ConsistsBy next input commands rest
