-- Each source has tokens or a fault, and one of them alone.
use Rattle.std.proofs.Common.{◌≡◌, ◌↔◌, ℕ, zero, suc, ◌<◌, ◌≤◌, inl, inr, nat_lt, Bool, true, false, cond, List}
use Rattle.std.proofs.Common.{[], length, take, Result, Ok, Err, IfOk, IfErr, refl, sym, ◌∙◌, ap, subst, arith}
use Rattle.std.proofs.lemmas.Bool.{cases_lt}
use Rattle.std.proofs.lemmas.Bool.Decides.{nat_tests}
use Rattle.std.proofs.lemmas.Grind.{common_steps}
use Rattle.std.proofs.lemmas.Str.{IsUtf8-from_is_utf8, is_utf8-from_IsUtf8, utf8_valid_len-IsValidUpTo}
use Rattle.std.specs.Str.{IsUtf8, is_utf8, IsValidUpTo}
use Rattle.std.specs.Str.Lossy.{utf8_valid_len}
use Rattle.ash_lex.specs.Tokens.{Lexeme, HasTokens, FirstLexFault, IsRefusal}
use Rattle.ash_lex.specs.declared.faults.LexFault.{LexFault}
use Rattle.ash_lex.specs.declared.faults.LexFault.TheVariants as faults
use Rattle.ash_lex.proofs.OneReading.{tokens_agree, faults_agree, tokens_or_fault}
use Rattle.ash_sources.specs.Lexing.{IsText, IsNoText, HasNoTokens, Lexes, LexesNothing}
use Rattle.ash_sources.specs.Scanning.{scan, lexed}
use Rattle.ash_sources.proofs.ScanLaws.{IsScan, scan-is}

-- the longest part from the beginning that is UTF-8

take_whole : (bs : List ℕ) (m : ℕ) → length bs ≤ m → take m bs ≡ bs
take_whole bs m h = grind (arith, common_steps)

-- the part that ends here, if it is UTF-8, or else what is found before it
ends_at : (bs : List ℕ) (n : ℕ) → suc n ≤ length bs → ((m : ℕ) → suc n ≤ m → IsUtf8 (take m bs) → ⊥)
    → (((m : ℕ) → n ≤ m → IsUtf8 (take m bs) → ⊥) → (k : ℕ) × IsValidUpTo bs k) → (v : Bool) → is_utf8 (take n bs) ≡ v
    → (k : ℕ) × IsValidUpTo bs k
ends_at bs n within none before true e = (
  n,
  record { short = omega arith; front = IsUtf8-from_is_utf8 (take n bs) e; longest = λ m h. none m (omega arith) },
)
ends_at bs n within none before false e =
    before (λ m h u. elim (cases_lt n m) [
      | inl more ↦ none m (omega arith) u
      | inr less ↦
          let same : m ≡ n = omega arith in
          let is : is_utf8 (take n bs) ≡ true = is_utf8-from_IsUtf8 (take n bs) (subst (λ k. IsUtf8 (take k bs)) same u)
          in
          cc
    ])

longest : (bs : List ℕ) (n : ℕ) → n ≤ length bs → ((m : ℕ) → n ≤ m → IsUtf8 (take m bs) → ⊥) → (k : ℕ)
    × IsValidUpTo bs k
longest bs zero within none = absurd (none 0 (omega arith) ([], (refl, refl)))
longest bs (suc n) within none = ends_at bs n within none (λ h. longest bs n (omega arith) h) (is_utf8 (take n bs)) refl

no_text : (source : List ℕ) → is_utf8 source ≡ false → IsValidUpTo source (utf8_valid_len source)
no_text source e =
    let found = longest source (length source) (omega arith) (λ m h u.
    let is : is_utf8 source ≡ true = is_utf8-from_IsUtf8 source (rw (take_whole source m h) at u) in
    cc) in
    subst (IsValidUpTo source) (sym (utf8_valid_len-IsValidUpTo source found.0 found.1)) found.1

not_utf8 : (source : List ℕ) (at : ℕ) → IsValidUpTo source at → (v : Bool) → is_utf8 source ≡ v → v ≡ false
not_utf8 source at valid true e = absurd (valid.longest (length source) valid.short
    (rw (take_whole source (length source) (omega arith)) (IsUtf8-from_is_utf8 source e)))
not_utf8 source at valid false e = refl

-- the tests of a length

is_long : (n : ℕ) → 65536 < n → nat_lt 65536 n ≡ true
is_long n h = grind (arith, nat_tests)

is_short : (n : ℕ) → n ≤ 65536 → nat_lt 65536 n ≡ false
is_short n h = grind (arith, nat_tests)

-- what is found is what the source has

fault_is : (source : List ℕ) → IsText source → (fault : LexFault) → FirstLexFault source fault
    → HasNoTokens source fault
fault_is source text (faults.BadCharacter at) h = inr (text, h)
fault_is source text (faults.UnclosedComment at) h = (text, h)
fault_is source text (faults.NumberTooLarge at) h = (text, h)
fault_is source text faults.SourceTooLong h = absurd h.5
fault_is source text faults.NoMemory h = absurd h.5

scanned_is : (source : List ℕ) → IsText source → (r : Result (List Lexeme) LexFault) → IsScan source r
    → Lexes source r
scanned_is source text (Ok tokens) h = (text, h)
scanned_is source text (Err fault) h = fault_is source text fault h

by_tests : (source : List ℕ) (long utf8 : Bool) → nat_lt 65536 (length source) ≡ long → is_utf8 source ≡ utf8
    → Lexes source (cond long (Err faults.SourceTooLong)
    (cond utf8 (scan source) (Err (faults.BadCharacter (utf8_valid_len source)))))
by_tests source true utf8 e f = grind (arith, nat_tests)
by_tests source false true e f = scanned_is source
    (record { short = grind (arith, nat_tests); utf8 = IsUtf8-from_is_utf8 source f }) (scan source) (scan-is source)
by_tests source false false e f = inl (record { short = grind (arith, nat_tests); valid = no_text source f })

pub lexed-is : (source : List ℕ) → Lexes source (lexed source)
unfolding lexed
lexed-is source = by_tests source (nat_lt 65536 (length source)) (is_utf8 source) refl refl

-- and what the source has is found

scanned_tokens : (source : List ℕ) (tokens : List Lexeme) → HasTokens source tokens
    → (r : Result (List Lexeme) LexFault) → IsScan source r → r ≡ Ok tokens
scanned_tokens source tokens spells (Ok other) h = ap (λ x. Ok x) (tokens_agree source other tokens h spells)
scanned_tokens source tokens spells (Err fault) h = absurd (tokens_or_fault source tokens fault spells h)

scanned_fault : (source : List ℕ) (fault : LexFault) → FirstLexFault source fault → (r : Result (List Lexeme) LexFault)
    → IsScan source r → r ≡ Err fault
scanned_fault source fault first (Ok tokens) h = absurd (tokens_or_fault source tokens fault h first)
scanned_fault source fault first (Err other) h = ap (λ x. Err x) (faults_agree source other fault h first)

pub of_text : (source : List ℕ) → IsText source → lexed source ≡ scan source
unfolding lexed
of_text source text = rw (is_short (length source) text.short, is_utf8-from_IsUtf8 source text.utf8) refl

of_no_text : (source : List ℕ) (at : ℕ) → IsNoText source at → lexed source ≡ Err (faults.BadCharacter at)
unfolding lexed
of_no_text source at h = rw (
  is_short (length source) h.short,
  not_utf8 source at h.valid (is_utf8 source) refl,
  utf8_valid_len-IsValidUpTo source at h.valid,
) refl

of_long : (source : List ℕ) → 65536 < length source → lexed source ≡ Err faults.SourceTooLong
unfolding lexed
of_long source h = rw (is_long (length source) h) refl

of_fault : (source : List ℕ) (fault : LexFault) → IsText source → FirstLexFault source fault
    → lexed source ≡ Err fault
of_fault source fault text first = of_text source text
    ∙ scanned_fault source fault first (scan source) (scan-is source)

no_tokens_is : (source : List ℕ) (fault : LexFault) → HasNoTokens source fault → lexed source ≡ Err fault
no_tokens_is source faults.SourceTooLong h = of_long source h
no_tokens_is source (faults.BadCharacter at) (inl h) = of_no_text source at h
no_tokens_is source (faults.BadCharacter at) (inr h) = of_fault source (faults.BadCharacter at) h.0 h.1
no_tokens_is source (faults.UnclosedComment at) h = of_fault source (faults.UnclosedComment at) h.0 h.1
no_tokens_is source (faults.NumberTooLarge at) h = of_fault source (faults.NumberTooLarge at) h.0 h.1
no_tokens_is source faults.NoMemory h = absurd h

pub lexed-only : (source : List ℕ) (r : Result (List Lexeme) LexFault) → Lexes source r → lexed source ≡ r
lexed-only source (Ok tokens) h = of_text source h.0
    ∙ scanned_tokens source tokens h.1 (scan source) (scan-is source)
lexed-only source (Err fault) h = no_tokens_is source fault h

-- the function says exactly what the relation says
pub lexed-exact : (source : List ℕ) (r : Result (List Lexeme) LexFault) → (lexed source ≡ r) ↔ Lexes source r
lexed-exact source r = (λ e. subst (Lexes source) e (lexed-is source), lexed-only source r)

-- each source has tokens or a fault
pub lexes_total : (source : List ℕ) → (r : Result (List Lexeme) LexFault) × Lexes source r
lexes_total source = (lexed source, lexed-is source)

-- and one of them alone
pub lexes_one : (source : List ℕ) (a b : Result (List Lexeme) LexFault) → Lexes source a → Lexes source b → a ≡ b
lexes_one source a b x y = sym (lexed-only source a x) ∙ lexed-only source b y

-- what the lexer answers of a text

pub text_spelled : {A : Type 0} (tokens : A → List Lexeme) (source text : List ℕ) → IsText source → text ≡ source
    → (r : Result A LexFault) → IfOk r (λ found. HasTokens text (tokens found))
    → IfOk r (λ found. Lexes source (Ok (tokens found)))
text_spelled tokens source text is same (Ok found) h =
    (is, subst (λ (t : List ℕ). HasTokens t (tokens found)) same h)
text_spelled tokens source text is same (Err fault) h = tt

by_fault : (source : List ℕ) → IsText source → (fault : LexFault) → IsRefusal source fault → LexesNothing source fault
by_fault source is (faults.BadCharacter at) h = inr (is, h.1)
by_fault source is (faults.UnclosedComment at) h = (is, h.1)
by_fault source is (faults.NumberTooLarge at) h = (is, h.1)
by_fault source is faults.SourceTooLong h = h
by_fault source is faults.NoMemory h = is

pub text_refused : {A : Type 0} (source text : List ℕ) → IsText source → text ≡ source → (r : Result A LexFault)
    → IfErr r (IsRefusal text) → IfErr r (LexesNothing source)
text_refused source text is same (Ok found) h = tt
text_refused source text is same (Err fault) h =
    by_fault source is fault (subst (λ (t : List ℕ). IsRefusal t fault) same h)
