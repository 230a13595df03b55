-- Words that are taken one after another.
use Rattle.std.proofs.Common.{◌≡◌, ◌<◌, ◌≤◌, ℕ, ◌+◌, ◌==◌, Bool, true, false, List, [], ◌∷◌, ◌++◌, length, get_or, refl}
use Rattle.std.proofs.Common.{if◌then◌else◌, sym, ap, ◌∙◌, arith, Option, Some, None, is_some, not, append_assoc, zero, suc, lit<}
use Rattle.std.specs.Prelude.{option_map}
use Rattle.std.proofs.lemmas.List.{append-nil}
use Rattle.std.proofs.lemmas.Bool.Decides.{nat_tests}
use Rattle.std.proofs.lemmas.Grind.{common_steps}
use Rattle.std.proofs.lemmas.Str.{IsUtf8-from_ascii}
use Rattle.std.specs.List.{list_all}
use Rattle.std.specs.Str.{IsUtf8}
use Rattle.std.specs.Borrow.{Bor}
use Rattle.ash_requests.specs.declared.argument.Arg.{Arg}
use Rattle.ash_lines.specs.Lines.{pieces, onto, is_visible, is_word, both, argument_of, arguments_of, Complete}
use Rattle.ash_lines.specs.Lines.{BadRequest, call_request, parse_call, parse_line, parse_words}
use Rattle.ash_lines.specs.LineWords.{is_none_left, words_left}
use Rattle.ash_lines.proofs.LineLemmas.{pieces-space, pieces-other}

-- a line has a piece

onto-some : (byte : ℕ) (words : List (List ℕ)) → is_none_left (onto byte words) ≡ false
onto-some byte [] = refl
onto-some byte (word ∷ words) = refl

piece_at : (byte : ℕ) (more : List ℕ) (t : Bool) → (byte == 32) ≡ t → is_none_left (pieces (byte ∷ more)) ≡ false
piece_at byte more true e = ap is_none_left (pieces-space byte more e)
piece_at byte more false e = ap is_none_left (pieces-other byte more e) ∙ onto-some byte (pieces more)

pub pieces-left : (line : List ℕ) → is_none_left (pieces line) ≡ false
unfolding pieces
pieces-left [] = refl
pieces-left (byte ∷ more) = piece_at byte more (byte == 32) refl

-- whether words are left
pub left_or_none : (rest : Option (Bor (List ℕ))) (t : Bool) → is_some rest ≡ not t → t ≡ is_none_left (words_left rest)
left_or_none None true e = refl
left_or_none None false e = cc
left_or_none (Some line) true e = cc
left_or_none (Some line) false e = sym (pieces-left line.now)

-- a line has at most one piece more than bytes

onto-length : (byte : ℕ) (words : List (List ℕ)) → length (onto byte words) ≤ length words + 1
onto-length byte [] = omega arith
onto-length byte (word ∷ words) = omega arith

length_at : (byte : ℕ) (more : List ℕ) (t : Bool) → (byte == 32) ≡ t → length (pieces more) ≤ length more + 1 → length (pieces (byte ∷ more)) ≤ length more + 2
length_at byte more true e h = rw (pieces-space byte more e) (omega arith)
length_at byte more false e h = rw (pieces-other byte more e) (omega (arith, onto-length byte (pieces more)))

pub length-pieces : (line : List ℕ) → length (pieces line) ≤ length line + 1
unfolding pieces
length-pieces [] = omega arith
length-pieces (byte ∷ more) = let h = length_at byte more (byte == 32) refl (length-pieces more) in omega (arith, h)

-- a word is text

visible-at : (word : List ℕ) (i : ℕ) → list_all is_visible word ≡ true → get_or word i 0 < 128
visible-at [] i h = lit< tt
visible-at (byte ∷ word) zero h = grind (arith, nat_tests, h)
visible-at (byte ∷ word) (suc i) h = visible-at word i (grind (arith, h))

pub utf8-word : (word : List ℕ) → is_word word ≡ true → IsUtf8 word
utf8-word word h =
    let v : list_all is_visible word ≡ true = grind (arith, h) in
    IsUtf8-from_ascii word (λ i. visible-at word i v)

-- arguments

pub arguments-cons : (word : List ℕ) (words : List (List ℕ)) → arguments_of (word ∷ words) ≡ both (argument_of word) (arguments_of words)
unfolding arguments_of
arguments-cons word words = refl

pub arguments-nil : arguments_of [] ≡ Some []
unfolding arguments_of
arguments-nil = refl

-- arguments that were read, and then those of the words that are left
abbrev pub prepend : List Arg → Option (List Arg) → Option (List Arg)
prepend arguments more = option_map (λ others. arguments ++ others) more

prepend-both : (arguments : List Arg) (argument : Arg) (more : Option (List Arg)) → prepend arguments (both (Some argument) more) ≡ prepend (arguments ++ argument ∷ []) more
prepend-both arguments argument None = refl
prepend-both arguments argument (Some others) = ap (λ (x : List Arg). Some x) (sym (append_assoc arguments (argument ∷ []) others))

-- one more argument
pub arguments-more : (arguments : List Arg) (left more : List (List ℕ)) (word : List ℕ) (argument : Arg) → left ≡ word ∷ more → Some argument ≡ argument_of word → prepend arguments (arguments_of left) ≡ prepend (arguments ++ argument ∷ []) (arguments_of more)
arguments-more arguments left more word argument e f = rw (e, arguments-cons word more, ← f) (prepend-both arguments argument (arguments_of more))

-- a word that is none
pub arguments-bad : (arguments : List Arg) (left more : List (List ℕ)) (word : List ℕ) → left ≡ word ∷ more → None ≡ argument_of word → prepend arguments (arguments_of left) ≡ None
arguments-bad arguments left more word e f = rw (e, arguments-cons word more, ← f) refl

pub arguments-end : (arguments : List Arg) (left : List (List ℕ)) → left ≡ [] → prepend arguments (arguments_of left) ≡ Some arguments
arguments-end arguments left e = rw (e, arguments-nil) (ap (λ (x : List Arg). Some x) (append-nil arguments))

-- a call, with what its arguments are

pub call_parsed : (words left rest : List (List ℕ)) (module_name function : List ℕ) (stored : Option (List Arg))
    → words ≡ module_name ∷ left → left ≡ function ∷ rest → arguments_of rest ≡ stored
    → call_request module_name function stored ≡ parse_call words
call_parsed words left rest module_name function stored e f g =
    ap (call_request module_name function) (sym g)
    ∙ sym (ap parse_call (e ∙ ap (λ (ws : List (List ℕ)). module_name ∷ ws) f))

pub no_function : (words left : List (List ℕ)) (module_name : List ℕ) → words ≡ module_name ∷ left → left ≡ []
    → Complete BadRequest ≡ parse_call words
no_function words left module_name e f = sym (ap parse_call (e ∙ ap (λ (ws : List (List ℕ)). module_name ∷ ws) f))

-- lines

pub parse_line-bad : (line : List ℕ) → false ≡ list_all is_word (pieces line) → Complete BadRequest ≡ parse_line line
unfolding parse_line
parse_line-bad line e = rw (← e) refl

pub parse_line-good : (line : List ℕ) (words : List (List ℕ)) → true ≡ list_all is_word (pieces line) → pieces line ≡ words → parse_words words ≡ parse_line line
unfolding parse_line
parse_line-good line words e f = rw (← e, f) refl
