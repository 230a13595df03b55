-- What the bytes of requests begin with, as they are read.
use Rattle.std.proofs.Common.{◌≡◌, ◌<◌, ◌≤◌, ℕ, ◌==◌, nat_lt, true, false, List, [], ◌∷◌, ◌++◌, length, take, drop}
use Rattle.std.proofs.Common.{refl, ap, ◌∙◌, subst, arith, append_assoc, Some, None}
use Rattle.std.proofs.lemmas.Grind.{common_steps}
use Rattle.std.proofs.lemmas.Bool.Decides.{nat_tests}
use Rattle.ash_lines.specs.Reading.{is_line}
use Rattle.ash_lines.specs.Lines.{Line, HostRequest, BadRequest, LineTooLong, RequestLine, BatchLine, cut_line}
use Rattle.ash_lines.specs.Lines.{parse_line, Complete, max_line_bytes, LoadHeader, BatchHeader, Cut, Whole}
use Rattle.ash_lines.specs.Lines.{next_line, on_line, after_line, after_source, is_unfinished}
use Rattle.ash_requests.specs.Requests.{Load}
use Rattle.ash_serve.specs.InputItems.{BeginsWith}

-- a byte of a line, and the bytes after it
line-head : (byte : ℕ) (bytes : List ℕ) → is_line (byte ∷ bytes) ≡ true → (byte == 10) ≡ false
unfolding is_line
line-head byte bytes h = grind (arith, nat_tests, h)

line-tail : (byte : ℕ) (bytes : List ℕ) → is_line (byte ∷ bytes) ≡ true → is_line bytes ≡ true
unfolding is_line
line-tail byte bytes h = grind (arith, h)

-- cutting at the first line feed

pub cut-some : (line more : List ℕ) → is_line line ≡ true → cut_line (line ++ 10 ∷ more) ≡ Some (line, more)
unfolding cut_line
cut-some [] more h = refl
cut-some (byte ∷ line) more h = let e = line-head byte line h in let i = cut-some line more (line-tail byte line h) in rw (e, i) refl

pub cut-none : (bytes : List ℕ) → is_line bytes ≡ true → cut_line bytes ≡ None
unfolding cut_line
cut-none [] h = refl
cut-none (byte ∷ bytes) h = let e = line-head byte bytes h in let i = cut-none bytes (line-tail byte bytes h) in rw (e, i) refl

next-cons : (byte : ℕ) (bytes : List ℕ) → next_line (byte ∷ bytes) ≡ on_line (cut_line (byte ∷ bytes))
unfolding next_line
next-cons byte bytes = refl

-- a line, whatever follows it
pub next-line : (line more : List ℕ) → is_line line ≡ true → next_line (line ++ 10 ∷ more) ≡ on_line (Some (line, more))
next-line [] more h = next-cons 10 more ∙ ap on_line (cut-some [] more h)
next-line (byte ∷ line) more h = next-cons byte (line ++ 10 ∷ more) ∙ ap on_line (cut-some (byte ∷ line) more h)

pub next-cut : (bytes : List ℕ) → 0 < length bytes → is_line bytes ≡ true → next_line bytes ≡ Cut
next-cut [] l h = absurd (omega arith)
next-cut (byte ∷ bytes) l h = next-cons byte bytes ∙ ap on_line (cut-none (byte ∷ bytes) h)

-- part of a line is unfinished
pub unfinished-line : (bytes : List ℕ) → is_line bytes ≡ true → is_unfinished (next_line bytes) ≡ true
unfolding next_line
unfinished-line [] h = refl
unfinished-line (byte ∷ bytes) h = ap is_unfinished (next-cut (byte ∷ bytes) (omega arith) h)

-- a line that isn't too long
pub next-short : (line more : List ℕ) → is_line line ≡ true → length line ≤ max_line_bytes → next_line (line ++ 10 ∷ more) ≡ after_line (parse_line line) more
next-short line more h l = next-line line more h ∙ (let e : nat_lt max_line_bytes (length line) ≡ false = grind (arith, nat_tests) in rw e refl)

pub spells-long : (line : List ℕ) → is_line line ≡ true → max_line_bytes < length line → BeginsWith next_line (line ++ 10 ∷ []) (RequestLine LineTooLong)
spells-long line h l more = ap next_line (append_assoc line (10 ∷ []) more) ∙ (next-line line more h ∙ (let e : nat_lt max_line_bytes (length line) ≡ true = grind (arith, nat_tests) in rw e refl))

pub spells-line : (line : List ℕ) (request : Line) → is_line line ≡ true → length line ≤ max_line_bytes → parse_line line ≡ Complete request → BeginsWith next_line (line ++ 10 ∷ []) (RequestLine request)
spells-line line request h l e more = ap next_line (append_assoc line (10 ∷ []) more) ∙ (next-short line more h l ∙ rw e refl)

pub spells-header : (line : List ℕ) (count : ℕ) → is_line line ≡ true → length line ≤ max_line_bytes → parse_line line ≡ BatchHeader count → BeginsWith next_line (line ++ 10 ∷ []) (BatchLine count)
spells-header line count h l e more = ap next_line (append_assoc line (10 ∷ []) more) ∙ (next-short line more h l ∙ rw e refl)

-- a source after its line

source-next : (line name : List ℕ) (count : ℕ) (more : List ℕ) → is_line line ≡ true → length line ≤ max_line_bytes → parse_line line ≡ LoadHeader name count → next_line ((line ++ 10 ∷ []) ++ more) ≡ after_source name (take count more) (cut_line (drop count more))
source-next line name count more h l e = ap next_line (append_assoc line (10 ∷ []) more) ∙ (next-short line more h l ∙ rw e refl)

take-whole : (source more : List ℕ) → take (length source) (source ++ more) ≡ source
take-whole [] more = refl
take-whole (byte ∷ source) more = ap (λ (x : List ℕ). byte ∷ x) (take-whole source more)

drop-whole : (source more : List ℕ) → drop (length source) (source ++ more) ≡ more
drop-whole [] more = refl
drop-whole (byte ∷ source) more = drop-whole source more

line-nil : is_line [] ≡ true
unfolding is_line
line-nil = refl

-- a source, then the end of its line
pub spells-load : (line name source : List ℕ) (count : ℕ) → is_line line ≡ true → length line ≤ max_line_bytes → parse_line line ≡ LoadHeader name count → length source ≡ count → BeginsWith next_line ((line ++ 10 ∷ []) ++ (source ++ 10 ∷ [])) (RequestLine (HostRequest (Load name source)))
spells-load line name source count h l e n more =
    ap next_line (append_assoc (line ++ 10 ∷ []) (source ++ 10 ∷ []) more)
    ∙ (source-next line name count ((source ++ 10 ∷ []) ++ more) h l e
    ∙ (ap (λ (x : List ℕ). after_source name (take count x) (cut_line (drop count x))) (append_assoc source (10 ∷ []) more)
    ∙ (subst (λ (k : ℕ). after_source name (take k (source ++ 10 ∷ more)) (cut_line (drop k (source ++ 10 ∷ more))) ≡ Whole (RequestLine (HostRequest (Load name source))) more) n
    (rw (take-whole source (10 ∷ more), drop-whole source (10 ∷ more), cut-some [] more line-nil) refl))))

some-others : (name source others more : List ℕ) → 0 < length others → after_source name source (Some (others, more)) ≡ Whole (RequestLine BadRequest) more
some-others name source [] more p = absurd (omega arith)
some-others name source (byte ∷ others) more p = refl

-- a source whose line goes on
pub spells-unended : (line name source others : List ℕ) (count : ℕ) → is_line line ≡ true → length line ≤ max_line_bytes → parse_line line ≡ LoadHeader name count → length source ≡ count → is_line others ≡ true → 0 < length others → BeginsWith next_line ((line ++ 10 ∷ []) ++ (source ++ (others ++ 10 ∷ []))) (RequestLine BadRequest)
spells-unended line name source others count h l e n o p more =
    ap next_line (append_assoc (line ++ 10 ∷ []) (source ++ (others ++ 10 ∷ [])) more)
    ∙ (source-next line name count ((source ++ (others ++ 10 ∷ [])) ++ more) h l e
    ∙ (ap (λ (x : List ℕ). after_source name (take count x) (cut_line (drop count x))) (append_assoc source (others ++ 10 ∷ []) more ∙ ap (λ (x : List ℕ). source ++ x) (append_assoc others (10 ∷ []) more))
    ∙ (subst (λ (k : ℕ). after_source name (take k (source ++ (others ++ 10 ∷ more))) (cut_line (drop k (source ++ (others ++ 10 ∷ more)))) ≡ Whole (RequestLine BadRequest) more) n
    (rw (take-whole source (others ++ 10 ∷ more), drop-whole source (others ++ 10 ∷ more), cut-some others more o) (some-others name source others more p)))))

drop-short : (count : ℕ) (bytes : List ℕ) → length bytes ≤ count → drop count bytes ≡ []
drop-short count bytes h = grind (arith, common_steps)

cut-nil : cut_line [] ≡ None
unfolding cut_line
cut-nil = refl

-- a source that the end cuts
pub cut-source : (line name bytes : List ℕ) (count : ℕ) → is_line line ≡ true → length line ≤ max_line_bytes → parse_line line ≡ LoadHeader name count → length bytes ≤ count → next_line ((line ++ 10 ∷ []) ++ bytes) ≡ Cut
cut-source line name bytes count h l e n = source-next line name count bytes h l e ∙ rw (drop-short count bytes n, cut-nil) refl

-- a source whose line the end cuts
pub cut-unended : (line name source others : List ℕ) (count : ℕ) → is_line line ≡ true → length line ≤ max_line_bytes → parse_line line ≡ LoadHeader name count → length source ≡ count → is_line others ≡ true → next_line ((line ++ 10 ∷ []) ++ (source ++ others)) ≡ Cut
cut-unended line name source others count h l e n o =
    source-next line name count (source ++ others) h l e
    ∙ subst (λ (k : ℕ). after_source name (take k (source ++ others)) (cut_line (drop k (source ++ others))) ≡ Cut) n (rw (drop-whole source others, cut-none others o) refl)
