-- A whole command lies at the front of bytes with a line feed that begin neither with a load nor with a batch.
use Rattle.std.proofs.Common.{◌≡◌, ℕ, ◌==◌, Bool, true, false, if◌then◌else◌, List, [], ◌∷◌, ◌++◌, length, codes, refl, sym}
use Rattle.std.proofs.Common.{ap, ◌∙◌, subst, Option, Some, None, nat_eq, nat_lt, append_assoc, not, ◌||◌, arith}
use Rattle.std.specs.Prelude.{option_map}
use Rattle.std.proofs.lemmas.Bool.Decides.{nat_tests}
use Rattle.std.proofs.lemmas.Slice.Eq.{bytes_eq-Decides}
use Rattle.std.specs.List.{list_all, list_any, starts_with}
use Rattle.std.specs.Str.{bytes_eq}
use Rattle.ash_lines.specs.Lines.{ParsedLine, Complete, LoadHeader, BatchHeader, Command, Single, Whole, RequestLine, LineTooLong}
use Rattle.ash_lines.specs.Lines.{Line, HostRequest, Quit, pieces, onto, is_word, cut_line, on_line, after_line, next_line, command_at, next}
use Rattle.ash_lines.specs.Lines.{parse_load, parse_call, parse_discard, parse_get, parse_object, parse_lone, parse_batch}
use Rattle.ash_lines.specs.Lines.{parse_verb, parse_words, parse_line, call_request, object_request, arguments_of}
use Rattle.ash_lines.specs.Lines.{object_number_of, max_line_bytes}
use Rattle.ash_lines.proofs.LineLemmas.{pieces-space, pieces-other}
use Rattle.ash_lines.specs.LineWords.{is_none_left}
use Rattle.ash_lines.proofs.WordLemmas.{pieces-left}
use Rattle.ash_requests.specs.Requests.{Seq, Snapshot}
use Rattle.ash_requests.specs.declared.argument.Arg.{Arg}
use Rattle.ash_serve.specs.Serving.{HasCommand}

-- the pieces of a line, with a blank between them, are the line

joined : List (List ℕ) → List ℕ
joined [] = []
joined (piece ∷ []) = piece
joined (piece ∷ other ∷ more) = piece ++ 32 ∷ joined (other ∷ more)

joined-onto : (byte : ℕ) (parts : List (List ℕ)) → joined (onto byte parts) ≡ byte ∷ joined parts
unfolding joined
joined-onto byte [] = refl
joined-onto byte (part ∷ []) = refl
joined-onto byte (part ∷ other ∷ more) = refl

joined-blank : (parts : List (List ℕ)) → is_none_left parts ≡ false → joined ([] ∷ parts) ≡ 32 ∷ joined parts
unfolding joined
joined-blank [] e = absurd (let q : true ≡ false = e in cc)
joined-blank (part ∷ parts) e = refl

joined-at : (byte : ℕ) (more : List ℕ) (test : Bool) → (byte == 32) ≡ test → joined (pieces more) ≡ more → joined (pieces (byte ∷ more)) ≡ byte ∷ more
joined-at byte more true e h =
    let space : byte ≡ 32 = grind (arith, nat_tests, e) in
    ap joined (pieces-space byte more e) ∙ (joined-blank (pieces more) (pieces-left more) ∙ (ap (λ (x : List ℕ). 32 ∷ x) h ∙ ap (λ (x : ℕ). x ∷ more) (sym space)))
joined-at byte more false e h = ap joined (pieces-other byte more e) ∙ (joined-onto byte (pieces more) ∙ ap (λ (x : List ℕ). byte ∷ x) h)

joined-pieces : (line : List ℕ) → joined (pieces line) ≡ line
unfolding pieces joined
joined-pieces [] = refl
joined-pieces (byte ∷ more) = joined-at byte more (byte == 32) refl (joined-pieces more)

-- a line that is a request by itself

abbrev IsComplete : ParsedLine → Type 0
IsComplete (Complete line) = Unit {0}
IsComplete (LoadHeader name length) = ⊥
IsComplete (BatchHeader count) = ⊥

complete-if : (test : Bool) (one other : ParsedLine) → (test ≡ true → IsComplete one) → IsComplete other → IsComplete (if test then one else other)
complete-if true one other h k = h refl
complete-if false one other h k = k

complete-call : (module_name function : List ℕ) (arguments : Option (List Arg)) → IsComplete (call_request module_name function arguments)
complete-call module_name function None = tt
complete-call module_name function (Some arguments) = tt

complete-calls : (words : List (List ℕ)) → IsComplete (parse_call words)
complete-calls [] = tt
complete-calls (module_name ∷ []) = tt
complete-calls (module_name ∷ function ∷ words) = complete-call module_name function (arguments_of words)

complete-discard : (words : List (List ℕ)) → IsComplete (parse_discard words)
complete-discard [] = tt
complete-discard (name ∷ []) = tt
complete-discard (name ∷ other ∷ words) = tt

complete-get : (words : List (List ℕ)) → IsComplete (parse_get words)
complete-get [] = tt
complete-get (module_name ∷ []) = tt
complete-get (module_name ∷ name ∷ []) = tt
complete-get (module_name ∷ name ∷ other ∷ words) = tt

complete-number : (number : Option ℕ) → IsComplete (object_request number)
complete-number None = tt
complete-number (Some number) = tt

complete-object : (words : List (List ℕ)) → IsComplete (parse_object words)
complete-object [] = tt
complete-object (number ∷ []) = complete-number (object_number_of number)
complete-object (number ∷ other ∷ words) = tt

complete-lone : (line : Line) (words : List (List ℕ)) → IsComplete (parse_lone line words)
complete-lone line [] = tt
complete-lone line (word ∷ words) = tt

-- These bytes begin with a line of these words.
abbrev BeginsWithWords : List ℕ → List (List ℕ) → Type 0
BeginsWithWords bytes words = (more : List ℕ) × (bytes ≡ joined words ++ 10 ∷ more)

-- what a verb with a word after it begins with
begins-blank : (bytes verb word : List ℕ) (words : List (List ℕ)) → BeginsWithWords bytes (verb ∷ word ∷ words) → (more : List ℕ) × (bytes ≡ verb ++ 32 ∷ more)
unfolding joined
begins-blank bytes verb word words w = (joined (word ∷ words) ++ 10 ∷ w.0, w.1 ∙ append_assoc verb (32 ∷ joined (word ∷ words)) (10 ∷ w.0))

same-verb : (verb name : List ℕ) → bytes_eq verb name ≡ true → verb ≡ name
same-verb verb name e = (bytes_eq-Decides verb name).0 e

starts-load : (bytes more : List ℕ) → bytes ≡ codes "load" ++ 32 ∷ more → starts_with nat_eq bytes (codes "load ") ≡ true
starts-load bytes more e = rw e refl

starts-batch : (bytes more : List ℕ) → bytes ≡ codes "batch" ++ 32 ∷ more → starts_with nat_eq bytes (codes "batch ") ≡ true
starts-batch bytes more e = rw e refl

complete-load : (bytes verb : List ℕ) (words : List (List ℕ)) → starts_with nat_eq bytes (codes "load ") ≡ false → BeginsWithWords bytes (verb ∷ words) → bytes_eq verb (codes "load") ≡ true → IsComplete (parse_load words)
complete-load bytes verb [] s w e = tt
complete-load bytes verb (word ∷ words) s w e =
    let b = begins-blank bytes verb word words w in
    let q = starts-load bytes b.0 (b.1 ∙ ap (λ (x : List ℕ). x ++ 32 ∷ b.0) (same-verb verb (codes "load") e)) in
    absurd (let f : true ≡ false = sym q ∙ s in cc)

complete-batch : (bytes verb : List ℕ) (words : List (List ℕ)) → starts_with nat_eq bytes (codes "batch ") ≡ false → BeginsWithWords bytes (verb ∷ words) → bytes_eq verb (codes "batch") ≡ true → IsComplete (parse_batch words)
complete-batch bytes verb [] s w e = tt
complete-batch bytes verb (word ∷ words) s w e =
    let b = begins-blank bytes verb word words w in
    let q = starts-batch bytes b.0 (b.1 ∙ ap (λ (x : List ℕ). x ++ 32 ∷ b.0) (same-verb verb (codes "batch") e)) in
    absurd (let f : true ≡ false = sym q ∙ s in cc)

complete-verb : (bytes verb : List ℕ) (words : List (List ℕ)) → starts_with nat_eq bytes (codes "load ") ≡ false → starts_with nat_eq bytes (codes "batch ") ≡ false → BeginsWithWords bytes (verb ∷ words) → IsComplete (parse_verb verb words)
complete-verb bytes verb words l b w =
    complete-if (bytes_eq verb (codes "load")) _ _ (complete-load bytes verb words l w)
    (complete-if (bytes_eq verb (codes "call")) _ _ (λ e. complete-calls words)
    (complete-if (bytes_eq verb (codes "discard")) _ _ (λ e. complete-discard words)
    (complete-if (bytes_eq verb (codes "get")) _ _ (λ e. complete-get words)
    (complete-if (bytes_eq verb (codes "object")) _ _ (λ e. complete-object words)
    (complete-if (bytes_eq verb (codes "seq")) _ _ (λ e. complete-lone (HostRequest Seq) words)
    (complete-if (bytes_eq verb (codes "snapshot")) _ _ (λ e. complete-lone (HostRequest Snapshot) words)
    (complete-if (bytes_eq verb (codes "quit")) _ _ (λ e. complete-lone Quit words)
    (complete-if (bytes_eq verb (codes "batch")) _ _ (complete-batch bytes verb words b w) tt))))))))

complete-words : (bytes : List ℕ) (words : List (List ℕ)) → starts_with nat_eq bytes (codes "load ") ≡ false → starts_with nat_eq bytes (codes "batch ") ≡ false → BeginsWithWords bytes words → IsComplete (parse_words words)
complete-words bytes [] l b w = tt
complete-words bytes (verb ∷ words) l b w = complete-verb bytes verb words l b w

complete-line : (bytes line more : List ℕ) → starts_with nat_eq bytes (codes "load ") ≡ false → starts_with nat_eq bytes (codes "batch ") ≡ false → bytes ≡ line ++ 10 ∷ more → IsComplete (parse_line line)
unfolding parse_line
complete-line bytes line more l b e =
    complete-if (list_all is_word (pieces line)) _ _
    (λ t. complete-words bytes (pieces line) l b (more, e ∙ ap (λ (x : List ℕ). x ++ 10 ∷ more) (sym (joined-pieces line)))) tt

-- the line that a line feed ends

abbrev IsCut : List ℕ → Option (List ℕ × List ℕ) → Type 0
IsCut bytes None = ⊥
IsCut bytes (Some (line, more)) = bytes ≡ line ++ 10 ∷ more

cut-onto : (byte : ℕ) (bytes : List ℕ) (cut : Option (List ℕ × List ℕ)) → IsCut bytes cut → IsCut (byte ∷ bytes) (option_map (λ cut. (byte ∷ cut.0, cut.1)) cut)
cut-onto byte bytes None h = absurd h
cut-onto byte bytes (Some (line, more)) h = ap (λ (x : List ℕ). byte ∷ x) h

cut-at : (byte : ℕ) (more : List ℕ) (test : Bool) → (byte == 10) ≡ test → (test ≡ false → IsCut more (cut_line more)) → IsCut (byte ∷ more) (if test then Some ([], more) else option_map (λ cut. (byte ∷ cut.0, cut.1)) (cut_line more))
cut-at byte more true e h = let f : byte ≡ 10 = grind (arith, nat_tests, e) in rw f refl
cut-at byte more false e h = cut-onto byte more (cut_line more) (h refl)

any-other : (first other : Bool) → (first || other) ≡ true → first ≡ false → other ≡ true
any-other true other h e = absurd (let q : true ≡ false = e in cc)
any-other false other h e = h

any-rest : (byte : ℕ) (more : List ℕ) → list_any (λ y. nat_eq y 10) (byte ∷ more) ≡ true → (byte == 10) ≡ false → list_any (λ y. nat_eq y 10) more ≡ true
any-rest byte more h e = any-other (byte == 10) (list_any (λ y. nat_eq y 10) more) h e

cut-line : (bytes : List ℕ) → list_any (λ y. nat_eq y 10) bytes ≡ true → IsCut bytes (cut_line bytes)
unfolding cut_line
cut-line [] h = absurd (let q : false ≡ true = h in cc)
cut-line (byte ∷ more) h = cut-at byte more (byte == 10) refl (λ e. cut-line more (any-rest byte more h e))

has-complete : (parsed : ParsedLine) (more : List ℕ) (bytes : List ℕ) → IsComplete parsed → next_line bytes ≡ after_line parsed more → HasCommand bytes
unfolding next
has-complete (Complete line) more bytes c e = (Single line, more, ap command_at e)
has-complete (LoadHeader name length) more bytes c e = absurd c
has-complete (BatchHeader count) more bytes c e = absurd c

has-line : (bytes line more : List ℕ) (long : Bool) → IsComplete (parse_line line) → next_line bytes ≡ (if long then Whole (RequestLine LineTooLong) more else after_line (parse_line line) more) → HasCommand bytes
unfolding next
has-line bytes line more true c e = (Single LineTooLong, more, ap command_at e)
has-line bytes line more false c e = has-complete (parse_line line) more bytes c e

has-cut : (bytes : List ℕ) (cut : Option (List ℕ × List ℕ)) → starts_with nat_eq bytes (codes "load ") ≡ false → starts_with nat_eq bytes (codes "batch ") ≡ false → IsCut bytes cut → next_line bytes ≡ on_line cut → HasCommand bytes
has-cut bytes None l b h e = absurd h
has-cut bytes (Some (line, more)) l b h e = has-line bytes line more (nat_lt max_line_bytes (length line)) (complete-line bytes line more l b h) e

pub has_command : (bytes : List ℕ) → list_any (λ y. nat_eq y 10) bytes ≡ true → starts_with nat_eq bytes (codes "load ") ≡ false → starts_with nat_eq bytes (codes "batch ") ≡ false → HasCommand bytes
unfolding next_line
has_command [] h l b = absurd (let q : false ≡ true = h in cc)
has_command (byte ∷ more) h l b = has-cut (byte ∷ more) (cut_line (byte ∷ more)) l b (cut-line (byte ∷ more) h) refl

pub unstarted : (test value : Bool) → not test ≡ true → test ≡ value → value ≡ false
unstarted true value e is = absurd (let q : false ≡ true = e in cc)
unstarted false value e is = sym is
