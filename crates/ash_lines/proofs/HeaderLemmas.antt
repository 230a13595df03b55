-- What no line asks: a load without a source that follows, or a batch of more lines than a batch may have.
use Rattle.std.proofs.Common.{◌≡◌, ◌≤◌, ℕ, ◌&&◌, nat_le, Bool, true, false, if◌then◌else◌, List, [], ◌∷◌, codes, sym, subst}
use Rattle.std.proofs.Common.{Option, Some, None, length, arith, refl}
use Rattle.std.proofs.lemmas.Bool.Decides.{nat_tests}
use Rattle.std.specs.List.{list_all}
use Rattle.std.specs.Str.{bytes_eq}
use Rattle.ash_requests.specs.declared.argument.Arg.{Arg}
use Rattle.ash_requests.specs.Requests.{Load, Seq, Snapshot}
use Rattle.ash_lines.specs.Lines.{Line, HostRequest, Quit, ParsedLine, Complete, LoadHeader, BatchHeader, max_batch}
use Rattle.ash_lines.specs.Lines.{max_batch_digits, if_batch_length, batch_length_of, number_of, length_of, object_number_of}
use Rattle.ash_lines.specs.Lines.{arguments_of, pieces, is_word, load_header, call_request, object_request, batch_header}
use Rattle.ash_lines.specs.Lines.{parse_load, parse_call, parse_discard, parse_get, parse_object, parse_batch, parse_lone}
use Rattle.ash_lines.specs.Lines.{parse_verb, parse_words, parse_line}

-- no load without a source that follows, and no batch of more lines than a batch may have
abbrev IsBounded : ParsedLine → Type 0
IsBounded (Complete (HostRequest (Load name source))) = ⊥
IsBounded (Complete line) = Unit {0}
IsBounded (LoadHeader name length) = Unit {0}
IsBounded (BatchHeader count) = count ≤ max_batch

bounded-if : (test : Bool) (one other : ParsedLine) → IsBounded one → IsBounded other → IsBounded (if test then one else other)
bounded-if true one other h k = h
bounded-if false one other h k = k

-- a number of lines, if it is one
abbrev IsLength : Option ℕ → Type 0
IsLength None = Unit {0}
IsLength (Some count) = count ≤ max_batch

tested-length : (number : ℕ) (test : Bool) → (nat_le 1 number && nat_le number max_batch) ≡ test → IsLength (if test then Some number else None)
tested-length number true e = grind (arith, nat_tests, e)
tested-length number false e = tt

some-length : (number : Option ℕ) → IsLength (if_batch_length number)
some-length None = tt
some-length (Some number) = tested-length number (nat_le 1 number && nat_le number max_batch) refl

short-length : (word : List ℕ) (test : Bool) → IsLength (if test then if_batch_length (number_of word) else None)
short-length word true = some-length (number_of word)
short-length word false = tt

length-bounded : (word : List ℕ) → IsLength (batch_length_of word)
unfolding batch_length_of
length-bounded word = short-length word (nat_le (length word) max_batch_digits)

header-bounded : (count : Option ℕ) → IsLength count → IsBounded (batch_header count)
header-bounded None h = tt
header-bounded (Some count) h = h

batch-bounded : (words : List (List ℕ)) → IsBounded (parse_batch words)
batch-bounded [] = tt
batch-bounded (count ∷ []) = header-bounded (batch_length_of count) (length-bounded count)
batch-bounded (count ∷ other ∷ words) = tt

loaded-bounded : (name : List ℕ) (length : Option ℕ) → IsBounded (load_header name length)
loaded-bounded name None = tt
loaded-bounded name (Some length) = tt

load-bounded : (words : List (List ℕ)) → IsBounded (parse_load words)
load-bounded [] = tt
load-bounded (name ∷ []) = tt
load-bounded (name ∷ length ∷ []) = loaded-bounded name (length_of length)
load-bounded (name ∷ length ∷ other ∷ words) = tt

called-bounded : (module_name function : List ℕ) (arguments : Option (List Arg)) → IsBounded (call_request module_name function arguments)
called-bounded module_name function None = tt
called-bounded module_name function (Some arguments) = tt

call-bounded : (words : List (List ℕ)) → IsBounded (parse_call words)
call-bounded [] = tt
call-bounded (module_name ∷ []) = tt
call-bounded (module_name ∷ function ∷ words) = called-bounded module_name function (arguments_of words)

discard-bounded : (words : List (List ℕ)) → IsBounded (parse_discard words)
discard-bounded [] = tt
discard-bounded (name ∷ []) = tt
discard-bounded (name ∷ other ∷ words) = tt

get-bounded : (words : List (List ℕ)) → IsBounded (parse_get words)
get-bounded [] = tt
get-bounded (module_name ∷ []) = tt
get-bounded (module_name ∷ name ∷ []) = tt
get-bounded (module_name ∷ name ∷ other ∷ words) = tt

shown-bounded : (number : Option ℕ) → IsBounded (object_request number)
shown-bounded None = tt
shown-bounded (Some number) = tt

object-bounded : (words : List (List ℕ)) → IsBounded (parse_object words)
object-bounded [] = tt
object-bounded (number ∷ []) = shown-bounded (object_number_of number)
object-bounded (number ∷ other ∷ words) = tt

lone-bounded : (line : Line) (words : List (List ℕ)) → IsBounded (Complete line) → IsBounded (parse_lone line words)
lone-bounded line [] h = h
lone-bounded line (word ∷ words) h = tt

verb-bounded : (verb : List ℕ) (words : List (List ℕ)) → IsBounded (parse_verb verb words)
verb-bounded verb words =
    bounded-if (bytes_eq verb (codes "load")) _ _ (load-bounded words)
    (bounded-if (bytes_eq verb (codes "call")) _ _ (call-bounded words)
    (bounded-if (bytes_eq verb (codes "discard")) _ _ (discard-bounded words)
    (bounded-if (bytes_eq verb (codes "get")) _ _ (get-bounded words)
    (bounded-if (bytes_eq verb (codes "object")) _ _ (object-bounded words)
    (bounded-if (bytes_eq verb (codes "seq")) _ _ (lone-bounded (HostRequest Seq) words tt)
    (bounded-if (bytes_eq verb (codes "snapshot")) _ _ (lone-bounded (HostRequest Snapshot) words tt)
    (bounded-if (bytes_eq verb (codes "quit")) _ _ (lone-bounded Quit words tt)
    (bounded-if (bytes_eq verb (codes "batch")) _ _ (batch-bounded words) tt))))))))

words-bounded : (words : List (List ℕ)) → IsBounded (parse_words words)
words-bounded [] = tt
words-bounded (verb ∷ words) = verb-bounded verb words

line-bounded : (line : List ℕ) → IsBounded (parse_line line)
unfolding parse_line
line-bounded line = bounded-if (list_all is_word (pieces line)) _ _ (words-bounded (pieces line)) tt

-- the line before a batch
pub batch-at-most : (line : List ℕ) (count : ℕ) → parse_line line ≡ BatchHeader count → count ≤ max_batch
batch-at-most line count e = subst IsBounded e (line-bounded line)

-- the line of a load
pub load-follows : (line name source : List ℕ) → Complete (HostRequest (Load name source)) ≡ parse_line line → ⊥
load-follows line name source e = subst IsBounded (sym e) (line-bounded line)
