-- A text is read in one way: it has one list of tokens or one first fault.
use Rattle.std.proofs.Common.{◌≡◌, ℕ, ◌<◌, ◌≤◌, true, not, nat_eq, IsTrue, List, [], ◌∷◌, ◌++◌, length, take, drop, sym}
use Rattle.std.proofs.Common.{refl, ap, ◌∙◌, subst, inl, inr, ◌⊎◌, arith}
use Rattle.std.specs.List.{starts_with}
use Rattle.std.proofs.lemmas.List.{append_assoc, append-nil, length-append, take_at, drop_at, nil_from_length}
use Rattle.ash_lex.specs.Pieces.{IsOpenComment, IsGap, IsNumeral, open_comment, IsLongest}
use Rattle.ash_lex.specs.Tokens.{Meaning, Lexeme, Means, byte_order_mark, lexeme_at, Reads, marked, unmarked, gap}
use Rattle.ash_lex.specs.Tokens.{token, HasTokens, FaultAt, FirstLexFault, Rises}
use Rattle.ash_lex.specs.declared.faults.LexFault.{LexFault}
use Rattle.ash_lex.specs.declared.faults.LexFault.TheVariants.{BadCharacter, UnclosedComment, NumberTooLarge}
use Rattle.ash_lex.specs.declared.faults.LexFault.TheVariants.{SourceTooLong, NoMemory}
use Rattle.ash_lex.proofs.Prefixes.{starts-append}
use Rattle.ash_lex.proofs.LongestPiece.{piece_nonempty}
use Rattle.ash_lex.proofs.PieceClasses.{piece_class, gap_class, open_class, open_is_no_gap, numeral_class, means_above}
use Rattle.ash_lex.proofs.PieceClasses.{one_meaning, numeral_means}

-- two ways to cut a list at one length are one
same_split : (p r q s : List ℕ) → p ++ r ≡ q ++ s → length p ≡ length q → (p ≡ q) × (r ≡ s)
same_split p r q s e len = (
  sym (take_at p r (length p) refl) ∙ ap (take (length p)) e ∙ take_at q s (length p) (sym len),
  sym (drop_at p r (length p) refl) ∙ ap (drop (length p)) e ∙ drop_at q s (length p) (sym len),
)

-- two longest pieces at one place are one
same_longest : (p r q s : List ℕ) → IsLongest p r → IsLongest q s → p ++ r ≡ q ++ s → (p ≡ q) × (r ≡ s)
same_longest p r q s h g e =
    same_split p r q s e (omega (arith, h.longest q s g.is_piece (sym e), g.longest p r h.is_piece e))

-- A text is cut, from a place on, into tokens up to another place: as Reads, but from its beginning.
data Goes : List ℕ → List ℕ → List Lexeme → List ℕ → List ℕ → Type 0 where
  stop : (before left : List ℕ) → Goes before left [] before left
  past_gap : (before text : List ℕ) (tokens : List Lexeme) (end left piece rest : List ℕ) → text ≡ piece ++ rest
      → IsGap piece → IsLongest piece rest → Goes (before ++ piece) rest tokens end left
      → Goes before text tokens end left
  past_token : (before text : List ℕ) (tokens : List Lexeme) (end left piece rest : List ℕ) (m : Meaning)
      → text ≡ piece ++ rest → Means piece m → IsLongest piece rest → Goes (before ++ piece) rest tokens end left
      → Goes before text (lexeme_at before piece m ∷ tokens) end left

-- no gap and no token begins what is left
abbrev Stuck : List ℕ → Type 0
Stuck left =
    (piece rest : List ℕ) → left ≡ piece ++ rest → IsLongest piece rest
    → (IsGap piece → ⊥) × ((m : Meaning) → Means piece m → ⊥)

-- the same cut, at the other names of its parts
renamed : (before p q r s : List ℕ) (ts : List Lexeme) (end left : List ℕ) → p ≡ q → r ≡ s
    → Goes (before ++ q) s ts end left → Goes (before ++ p) r ts end left
renamed before p q r s ts end left same_piece same_rest go =
    subst (λ l. Goes (before ++ p) l ts end left) (sym same_rest)
    (subst (λ l. Goes (before ++ l) s ts end left) (sym same_piece) go)

one_way : (before text : List ℕ) (ts us : List Lexeme) (end left end' left' : List ℕ) → Goes before text ts end left
    → Stuck left → Goes before text us end' left' → Stuck left' → (ts ≡ us) × (end ≡ end') × (left ≡ left')
one_way _ _ _ _ _ _ _ _ (stop b l) s (stop _ _) t = (refl, refl, refl)
one_way _ _ _ _ _ _ _ _ (stop b l) s (past_gap _ _ us end left p r e g long next) t = absurd ((s p r e long).0 g)
one_way _ _ _ _ _ _ _ _ (stop b l) s (past_token _ _ us end left p r m e g long next) t = absurd ((s p r e long).1 m g)
one_way _ _ _ _ _ _ _ _ (past_gap b l ts end left p r e g long next) s (stop _ _) t = absurd ((t p r e long).0 g)
one_way _ _ _ _ _ _ _ _ (past_token b l ts end left p r m e g long next) s (stop _ _) t = absurd ((t p r e long).1 m g)
one_way _ _ _ _ _ _ _ _ (past_gap b l ts end left p r e g long next) s (past_gap _ _ us end' left' q r' e' g' long' next') t =
    let same = same_longest p r q r' long long' (sym e ∙ e') in
    one_way (b ++ p) r ts us end left end' left' next s (renamed b p q r r' us end' left' same.0 same.1 next') t
one_way _ _ _ _ _ _ _ _ (past_gap b l ts end left p r e g long next) s (past_token _ _ us end' left' q r' m e' g' long' next') t =
    let same = same_longest p r q r' long long' (sym e ∙ e') in
    absurd (omega (arith, gap_class p g, means_above q m g', ap piece_class same.0))
one_way _ _ _ _ _ _ _ _ (past_token b l ts end left p r m e g long next) s (past_gap _ _ us end' left' q r' e' g' long' next') t =
    let same = same_longest p r q r' long long' (sym e ∙ e') in
    absurd (omega (arith, means_above p m g, gap_class q g', ap piece_class same.0))
one_way _ _ _ _ _ _ _ _ (past_token b l ts end left p r m e g long next) s (past_token _ _ us end' left' q r' k e' g' long' next') t =
    let same = same_longest p r q r' long long' (sym e ∙ e') in
    let later =
    one_way (b ++ p) r ts us end left end' left' next s (renamed b p q r r' us end' left' same.0 same.1 next') t in
    let meant : m ≡ k = one_meaning p m k g (subst (λ x. Means x k) (sym same.0) g') in
    ((λ i. lexeme_at b (same.0 i) (meant i) ∷ later.0 i), later.1, later.2)

-- where a text begins to be read: after a byte order mark, or else at once
abbrev Start : List ℕ → List ℕ → Type 0
Start before text =
    (before ≡ byte_order_mark) ⊎ ((before ≡ []) × IsTrue (not (starts_with nat_eq text byte_order_mark)))

no_mark : (t s : List ℕ) → byte_order_mark ++ t ≡ s → not (starts_with nat_eq s byte_order_mark) ≡ true → ⊥
no_mark t s e h =
    let wrong : not true ≡ true =
    ap not (sym (ap (λ l. starts_with nat_eq l byte_order_mark) (sym e) ∙ starts-append byte_order_mark t)) ∙ h in
    cc

one_start : (b t c s : List ℕ) → Start b t → Start c s → b ++ t ≡ c ++ s → (b ≡ c) × (t ≡ s)
one_start b t c s (inl h) (inl g) e = same_split b t c s e (ap length (h ∙ sym g))
one_start b t c s (inr h) (inr g) e = same_split b t c s e (ap length (h.0 ∙ sym g.0))
one_start b t c s (inl h) (inr g) e =
    absurd (no_mark t s (ap (λ l. l ++ t) (sym h) ∙ e ∙ ap (λ l. l ++ s) g.0) g.1)
one_start b t c s (inr h) (inl g) e =
    absurd (no_mark s t (ap (λ l. l ++ s) (sym g) ∙ sym e ∙ ap (λ l. l ++ t) h.0) h.1)

-- the beginning of a reading, and the way from there
from_start : (before left : List ℕ) (tokens : List Lexeme) → Reads before tokens left
    → (tail : List Lexeme) (end rest : List ℕ) → Goes before left tail end rest
    → (b t : List ℕ) × Start b t × (b ++ t ≡ before ++ left) × Goes b t (tokens ++ tail) end rest
from_start _ _ _ (marked text) tail end rest go = (byte_order_mark, text, inl refl, refl, go)
from_start _ _ _ (unmarked text h) tail end rest go = ([], text, inr (refl, h), refl, go)
from_start _ _ _ (gap before piece left tokens prior h long) tail end rest go =
    let w =
    from_start before (piece ++ left) tokens prior tail end rest
    (past_gap before (piece ++ left) tail end rest piece left refl h long go) in
    (w.0, w.1, w.2, w.3 ∙ sym (append_assoc before piece left), w.4)
from_start _ _ _ (token before piece left tokens m prior h long) tail end rest go =
    let w =
    from_start before (piece ++ left) tokens prior (lexeme_at before piece m ∷ tail) end rest
    (past_token before (piece ++ left) tail end rest piece left m refl h long go) in (
      w.0,
      w.1,
      w.2,
      w.3 ∙ sym (append_assoc before piece left),
      subst (λ ts. Goes w.0 w.1 ts end rest) (sym (append_assoc tokens (lexeme_at before piece m ∷ []) tail)) w.4,
    )

-- two readings of one text that can't go on are one
read_once : (b r c s : List ℕ) (ts us : List Lexeme) → Reads b ts r → Stuck r → Reads c us s → Stuck s → b ++ r ≡ c ++ s
    → (ts ≡ us) × (b ≡ c) × (r ≡ s)
read_once b r c s ts us h stuck g stuck' e =
    let v = from_start b r ts h [] b r (stop b r) in
    let w = from_start c s us g [] c s (stop c s) in
    let begin = one_start v.0 v.1 w.0 w.1 v.2 w.2 (v.3 ∙ e ∙ sym w.3) in
    let go = subst (λ x. Goes x v.1 (ts ++ []) b r) begin.0 v.4 in
    let here = subst (λ x. Goes w.0 x (ts ++ []) b r) begin.1 go in
    let same = one_way w.0 w.1 (ts ++ []) (us ++ []) b r c s here stuck w.4 stuck' in
    (sym (append-nil ts) ∙ same.0 ∙ append-nil us, same.1, same.2)

-- at the end of a text no piece begins
stuck_at_end : Stuck []
stuck_at_end piece rest e long =
    let wrong : ⊥ = omega (arith, ap length e, length-append piece rest, piece_nonempty piece rest long.is_piece) in
    (λ _. wrong, λ _ _. wrong)

-- the longest piece at a comment without an end is that comment
open_takes_all : (left piece rest : List ℕ) → IsOpenComment left → left ≡ piece ++ rest → IsLongest piece rest
    → left ≡ piece
open_takes_all left piece rest h e long =
    let none : rest ≡ [] =
    nil_from_length rest (omega (
      arith,
      long.longest left [] (open_comment h refl) (append-nil left ∙ e),
      ap length e,
      length-append piece rest,
    )) in
    e ∙ ap (λ l. piece ++ l) none ∙ append-nil piece

-- where a fault is, no gap and no token begins
stuck_at_fault : (place : ℕ) (left : List ℕ) (f : LexFault) → FaultAt place left f → Stuck left
stuck_at_fault place left (BadCharacter at) h piece rest e long =
    (λ _. h.2 piece rest e long.is_piece, λ _ _. h.2 piece rest e long.is_piece)
stuck_at_fault place left (UnclosedComment at) h piece rest e long =
    let open_piece = subst IsOpenComment (open_takes_all left piece rest h.1 e long) h.1 in
    (λ g. open_is_no_gap piece open_piece g, λ m g. omega (arith, open_class piece open_piece, means_above piece m g))
stuck_at_fault place left (NumberTooLarge at) (at_is, number_text, after, n, split, is, longest, large) piece rest e long =
    let same = same_longest piece rest number_text after long longest (sym e ∙ split) in
    let here = subst (λ p. IsNumeral p n) (sym same.0) is in (
      λ g. omega (arith, numeral_class piece n here, gap_class piece g),
      λ m g. omega (arith, numeral_means piece n m here g, large),
    )
stuck_at_fault place left SourceTooLong h piece rest e long = absurd h
stuck_at_fault place left NoMemory h piece rest e long = absurd h

-- a comment without an end begins with no numeral
open_is_no_numeral : (left piece rest : List ℕ) (n : ℕ) → IsOpenComment left → left ≡ piece ++ rest → IsNumeral piece n
    → IsLongest piece rest → ⊥
open_is_no_numeral left piece rest n h e is long =
    omega (arith, open_class left h, numeral_class piece n is, ap piece_class (open_takes_all left piece rest h e long))

-- one fault is at a place
one_fault_there : (place : ℕ) (left : List ℕ) (f g : LexFault) → FaultAt place left f → FaultAt place left g → f ≡ g
one_fault_there place left (BadCharacter at) (BadCharacter at') h k = ap BadCharacter (h.0 ∙ sym k.0)
one_fault_there place left (UnclosedComment at) (UnclosedComment at') h k = ap UnclosedComment (h.0 ∙ sym k.0)
one_fault_there place left (NumberTooLarge at) (NumberTooLarge at') h k = ap NumberTooLarge (h.0 ∙ sym k.0)
one_fault_there place left (BadCharacter at) (UnclosedComment at') h k =
    absurd (h.2 left [] (sym (append-nil left)) (open_comment k.1 refl))
one_fault_there place left (UnclosedComment at) (BadCharacter at') h k =
    absurd (k.2 left [] (sym (append-nil left)) (open_comment h.1 refl))
one_fault_there place left (BadCharacter at) (NumberTooLarge at') h (at_is, piece, after, n, split, is, longest, large) =
    absurd (h.2 piece after split longest.is_piece)
one_fault_there place left (NumberTooLarge at) (BadCharacter at') (at_is, piece, after, n, split, is, longest, large) k =
    absurd (k.2 piece after split longest.is_piece)
one_fault_there place left (UnclosedComment at) (NumberTooLarge at') h (at_is, piece, after, n, split, is, longest, large) =
    absurd (open_is_no_numeral left piece after n h.1 split is longest)
one_fault_there place left (NumberTooLarge at) (UnclosedComment at') (at_is, piece, after, n, split, is, longest, large) k =
    absurd (open_is_no_numeral left piece after n k.1 split is longest)
one_fault_there place left SourceTooLong g h k = absurd h
one_fault_there place left NoMemory g h k = absurd h
one_fault_there place left f SourceTooLong h k = absurd k
one_fault_there place left f NoMemory h k = absurd k

-- no fault is at the end of a text
no_fault_at_end : (place : ℕ) (f : LexFault) → FaultAt place [] f → ⊥
no_fault_at_end place (BadCharacter at) h = omega (arith, h.1)
no_fault_at_end place (UnclosedComment at) h = omega (arith, ap length h.1.1)
no_fault_at_end place (NumberTooLarge at) (at_is, piece, after, n, split, is, longest, large) =
    omega (arith, ap length split, length-append piece after, piece_nonempty piece after longest.is_piece)
no_fault_at_end place SourceTooLong h = h
no_fault_at_end place NoMemory h = h

-- a text has at most one list of tokens
pub tokens_agree : (text : List ℕ) (a b : List Lexeme) → HasTokens text a → HasTokens text b → a ≡ b
tokens_agree text a b h g = (read_once text [] text [] a b h stuck_at_end g stuck_at_end refl).0

-- a text has at most one first fault
pub faults_agree : (text : List ℕ) (f g : LexFault) → FirstLexFault text f → FirstLexFault text g → f ≡ g
faults_agree text f g (before, left, tokens, split, reads, at) (before', left', tokens', split', reads', at') =
    let same =
    read_once before left before' left' tokens tokens' reads (stuck_at_fault (length before) left f at) reads'
    (stuck_at_fault (length before') left' g at') (split ∙ sym split') in
    one_fault_there (length before) left f g at
    (subst (λ l. FaultAt (length before) l g) (sym same.2) (subst (λ b. FaultAt (length b) left' g) (sym same.1) at'))

-- a text that has tokens has no fault
pub tokens_or_fault : (text : List ℕ) (tokens : List Lexeme) (f : LexFault) → HasTokens text tokens → FirstLexFault text f → ⊥
tokens_or_fault text tokens f h (before, left, tokens', split, reads, at) =
    let same =
    read_once text [] before left tokens tokens' h stuck_at_end reads (stuck_at_fault (length before) left f at)
    (append-nil text ∙ sym split) in
    no_fault_at_end (length before) f (subst (λ l. FaultAt (length before) l f) (sym same.2) at)

-- more room at the end
further_end : (place end end' : ℕ) (ts : List Lexeme) → Rises place end ts → end ≤ end' → Rises place end' ts
further_end place end end' [] h le = omega (arith, h)
further_end place end end' (t ∷ ts) h le = (h.0, h.1, further_end t.to end end' ts h.2 le)

-- one token more
one_more : (place end : ℕ) (ts : List Lexeme) (t : Lexeme) → Rises place end ts → end ≤ t.from → t.from < t.to
    → Rises place t.to (ts ++ t ∷ [])
one_more place end [] t h le lt = (omega (arith, h), lt, omega arith)
one_more place end (u ∷ ts) t h le lt = (h.0, h.1, one_more u.to end ts t h.2 le lt)

-- the tokens of what is read rise, up to where it is read to
pub reads_rise : (before left : List ℕ) (tokens : List Lexeme) → Reads before tokens left
    → Rises 0 (length before) tokens
reads_rise _ _ _ (marked text) = omega arith
reads_rise _ _ _ (unmarked text h) = omega arith
reads_rise _ _ _ (gap before piece left tokens prior h long) =
    further_end 0 (length before) (length (before ++ piece)) tokens (reads_rise before (piece ++ left) tokens prior)
    (omega (arith, length-append before piece))
reads_rise _ _ _ (token before piece left tokens m prior h long) =
    let risen =
    one_more 0 (length before) tokens (lexeme_at before piece m) (reads_rise before (piece ++ left) tokens prior)
    (omega arith) (omega (arith, piece_nonempty piece left long.is_piece)) in
    subst (λ n. Rises 0 n (tokens ++ lexeme_at before piece m ∷ [])) (sym (length-append before piece)) risen
