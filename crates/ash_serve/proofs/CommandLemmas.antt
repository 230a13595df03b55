-- Commands and the lines of batches, by the lines of the input of which they consist.
use Rattle.std.proofs.Common.{◌≡◌, ℕ, ◌+◌, true, false, List, [], ◌∷◌, ◌++◌, length, refl, ap, ◌∙◌, arith}
use Rattle.std.proofs.Common.{zero, suc}
use Rattle.ash_lines.specs.Lines.{Line, RequestLine, BatchLine, InputLine, Single, Batch, Next, End, Cut, Whole}
use Rattle.ash_lines.specs.Lines.{is_unfinished, ConsistsBy, next, next_line, next_inner, inner_line, inner_next, onto_lines}
use Rattle.ash_lines.specs.Lines.{then_lines, lines_at, as_batch, command_at}
use Rattle.ash_serve.specs.InputItems.{IsLast}

-- ---- items in a row

pub consists-more : {Item : Type 0} (next : List ℕ → Next Item) (items : List Item) (input middle more : List ℕ) (item : Item) → ConsistsBy next input items middle → next middle ≡ Whole item more → ConsistsBy next input (items ++ item ∷ []) more
consists-more next [] input middle more item h e = (more, ap next h ∙ e, refl)
consists-more next (first ∷ items) input middle more item h e = (h.0, h.1, consists-more next items h.0 middle more item h.2 e)

-- ---- a line

pub command-at : (input : List ℕ) → next input ≡ command_at (next_line input)
unfolding next
command-at input = refl

pub inner-at : (input : List ℕ) → next_inner input ≡ inner_next (next_line input)
unfolding next_inner
inner-at input = refl

unfinished-command : (line : Next InputLine) → is_unfinished line ≡ true → is_unfinished (command_at line) ≡ true
unfinished-command End e = refl
unfinished-command Cut e = refl
unfinished-command (Whole line more) e = absurd (let q : false ≡ true = e in cc)

unfinished-inner : (line : Next InputLine) → is_unfinished line ≡ true → inner_next line ≡ Cut
unfinished-inner End e = refl
unfinished-inner Cut e = refl
unfinished-inner (Whole line more) e = absurd (let q : false ≡ true = e in cc)

-- a line that is unfinished is no command
pub command-unfinished : (rest : List ℕ) → is_unfinished (next_line rest) ≡ true → is_unfinished (next rest) ≡ true
command-unfinished rest e = ap is_unfinished (command-at rest) ∙ unfinished-command (next_line rest) e

pub command-cut : (rest : List ℕ) → next_line rest ≡ Cut → next rest ≡ Cut
command-cut rest e = command-at rest ∙ ap command_at e

-- nor is it a line of a batch
pub inner-cut : (rest : List ℕ) → is_unfinished (next_line rest) ≡ true → next_inner rest ≡ Cut
inner-cut rest e = inner-at rest ∙ unfinished-inner (next_line rest) e

-- a request line by itself
pub command-single : (input more : List ℕ) (line : Line) → next_line input ≡ Whole (RequestLine line) more → next input ≡ Whole (Single line) more
command-single input more line e = command-at input ∙ ap command_at e

-- a line of a batch
pub inner-whole : (input more : List ℕ) (line : InputLine) → next_line input ≡ Whole line more → next_inner input ≡ Whole (inner_line line) more
inner-whole input more line e = inner-at input ∙ ap inner_next e

-- ---- the lines of a batch

lines-zero : (input : List ℕ) → lines_at zero input ≡ Whole [] input
unfolding lines_at
lines-zero input = refl

lines-suc : (count : ℕ) (input : List ℕ) → lines_at (suc count) input ≡ then_lines (lines_at count) (next_inner input)
unfolding lines_at
lines-suc count input = refl

-- these lines before those that follow
abbrev onto-all : List Line → Next (List Line) → Next (List Line)
onto-all [] others = others
onto-all (line ∷ lines) others = onto_lines line (onto-all lines others)

all-whole : (lines : List Line) (more : List ℕ) → onto-all lines (Whole [] more) ≡ Whole lines more
all-whole [] more = refl
all-whole (line ∷ lines) more = ap (onto_lines line) (all-whole lines more)

all-cut : (lines : List Line) → onto-all lines Cut ≡ Cut
all-cut [] = refl
all-cut (line ∷ lines) = ap (onto_lines line) (all-cut lines)

lines-split : (lines : List Line) (count left : ℕ) (input rest : List ℕ) → count ≡ length lines + left → ConsistsBy next_inner input lines rest → lines_at count input ≡ onto-all lines (lines_at left rest)
lines-split [] count left input rest e c =
    let f : count ≡ left = omega (arith, e) in
    ap (λ (n : ℕ). lines_at n input) f ∙ ap (lines_at left) c
lines-split (line ∷ lines) count left input rest e c =
    let f : count ≡ suc (length lines + left) = omega (arith, e) in
    ap (λ (n : ℕ). lines_at n input) f
    ∙ (lines-suc (length lines + left) input
    ∙ (ap (then_lines (lines_at (length lines + left))) c.1
    ∙ ap (onto_lines line) (lines-split lines (length lines + left) left c.0 rest refl c.2)))

-- all of them
pub lines-whole : (lines : List Line) (count : ℕ) (input more : List ℕ) → length lines ≡ count → ConsistsBy next_inner input lines more → lines_at count input ≡ Whole lines more
lines-whole lines count input more e c =
    lines-split lines count 0 input more (omega (arith, e)) c ∙ (ap (onto-all lines) (lines-zero more) ∙ all-whole lines more)

then-unfinished : (others : List ℕ → Next (List Line)) (line : Next Line) → is_unfinished line ≡ true → then_lines others line ≡ Cut
then-unfinished others End e = refl
then-unfinished others Cut e = refl
then-unfinished others (Whole line more) e = absurd (let q : false ≡ true = e in cc)

-- fewer, and then one that is unfinished
pub lines-cut : (lines : List Line) (count left : ℕ) (input rest : List ℕ) → count ≡ length lines + suc left → ConsistsBy next_inner input lines rest → is_unfinished (next_inner rest) ≡ true → lines_at count input ≡ Cut
lines-cut lines count left input rest e c u =
    lines-split lines count (suc left) input rest e c
    ∙ (ap (onto-all lines) (lines-suc left rest ∙ then-unfinished (lines_at left) (next_inner rest) u) ∙ all-cut lines)

inner-nil : is_unfinished (next_inner []) ≡ true
unfolding next_inner next_line
inner-nil = refl

nothing-follows : (lines : List Line) (left : ℕ) → IsLast (onto-all lines (lines_at left []))
nothing-follows lines zero = rw (lines-zero [], all-whole lines []) refl
nothing-follows lines (suc left) = rw (lines-suc left [], then-unfinished (lines_at left) (next_inner []) inner-nil, all-cut lines) tt

-- some of them or all, and then the end
pub lines-last : (lines : List Line) (count left : ℕ) (input : List ℕ) → count ≡ length lines + left → ConsistsBy next_inner input lines [] → IsLast (lines_at count input)
lines-last lines count left input e c = rw (lines-split lines count left input [] e c) (nothing-follows lines left)

-- ---- a batch

pub command-batch : (input inside : List ℕ) (count : ℕ) → next_line input ≡ Whole (BatchLine count) inside → next input ≡ as_batch (lines_at count inside)
command-batch input inside count e = command-at input ∙ ap command_at e

as-unfinished : (lines : Next (List Line)) → is_unfinished lines ≡ true → as_batch lines ≡ Cut
as-unfinished End e = refl
as-unfinished Cut e = refl
as-unfinished (Whole lines more) e = absurd (let q : false ≡ true = e in cc)

pub batch-cut : (input inside : List ℕ) (count : ℕ) → next_line input ≡ Whole (BatchLine count) inside → is_unfinished (lines_at count inside) ≡ true → next input ≡ Cut
batch-cut input inside count e u = command-batch input inside count e ∙ as-unfinished (lines_at count inside) u

pub batch-whole : (input inside more : List ℕ) (count : ℕ) (lines : List Line) → next_line input ≡ Whole (BatchLine count) inside → lines_at count inside ≡ Whole lines more → next input ≡ Whole (Batch lines) more
batch-whole input inside more count lines e f = command-batch input inside count e ∙ ap as_batch f
