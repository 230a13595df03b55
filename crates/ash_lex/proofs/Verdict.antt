-- What follows for an answer that is the text's tokens, or its first fault.
use Rattle.std.proofs.Common.{◌≡◌, ℕ, ◌≤◌, List, [], length, Result, Ok, Err, IfOk, IfErr, MatchResult, IsErrAnd, refl}
use Rattle.std.proofs.Common.{inl, inr, ◌⊎◌}
use Rattle.ash_lex.specs.Tokens.{Lexeme, HasTokens, FirstLexFault, max_source_bytes, IsRefusal, Rises}
use Rattle.ash_lex.specs.ScannedPieces.{IsTextFault}
use Rattle.ash_lex.specs.declared.faults.LexFault.{LexFault}
use Rattle.ash_lex.specs.declared.faults.LexFault.TheVariants.{BadCharacter, UnclosedComment, NumberTooLarge}
use Rattle.ash_lex.specs.declared.faults.LexFault.TheVariants.{SourceTooLong, NoMemory}
use Rattle.ash_lex.proofs.OneReading.{tokens_agree, faults_agree, tokens_or_fault, reads_rise}

-- a stop is memory or the first fault
stop_cases : (text : List ℕ) (f : LexFault) → IsTextFault text f → (f ≡ NoMemory) ⊎ FirstLexFault text f
stop_cases text NoMemory h = inl refl
stop_cases text (BadCharacter at) h = inr h
stop_cases text (UnclosedComment at) h = inr h
stop_cases text (NumberTooLarge at) h = inr h
stop_cases text SourceTooLong h = inr h

pub rising : {X : Type 0} (view : X → List Lexeme) (r : Result X LexFault) (text : List ℕ)
    → IfOk r (λ x. HasTokens text (view x)) → IfOk r (λ x. Rises 0 (length text) (view x))
rising view (Ok x) text h = reads_rise text [] (view x) h
rising view (Err f) text h = tt

pub only : {X : Type 0} (view : X → List Lexeme) (r : Result X LexFault) (text : List ℕ)
    → IfOk r (λ x. HasTokens text (view x)) → IfErr r (λ f. IsTextFault text f) → (tokens : List Lexeme) → HasTokens text tokens
    → MatchResult r (λ x. view x ≡ tokens) (λ f. f ≡ NoMemory)
only view (Ok x) text h s tokens has_tokens = tokens_agree text (view x) tokens h has_tokens
only view (Err f) text h s tokens has_tokens =
    elim (stop_cases text f s) [
      | inl memory ↦ memory
      | inr first ↦
          absurd (tokens_or_fault text tokens f has_tokens first)
    ]

pub refused : {X : Type 0} (view : X → List Lexeme) (r : Result X LexFault) (text : List ℕ)
    → IfOk r (λ x. HasTokens text (view x)) → IfErr r (λ f. IsTextFault text f) → (f : LexFault) → FirstLexFault text f
    → IsErrAnd r (λ e. (e ≡ f) ⊎ (e ≡ NoMemory))
refused view (Ok x) text h s f first = absurd (tokens_or_fault text (view x) f h first)
refused view (Err e) text h s f first =
    elim (stop_cases text e s) [ inl memory ↦ inr memory | inr own ↦ inl (faults_agree text e f own first) ]

refusal : (text : List ℕ) (f : LexFault) → length text ≤ max_source_bytes → IsTextFault text f → IsRefusal text f
refusal text NoMemory small h = tt
refusal text (BadCharacter at) small h = (small, h)
refusal text (UnclosedComment at) small h = (small, h)
refusal text (NumberTooLarge at) small h = (small, h)
refusal text SourceTooLong small (before, left, tokens, split, reads, at) = absurd at

pub fault : {X : Type 0} (r : Result X LexFault) (text : List ℕ) → length text ≤ max_source_bytes → IfErr r (λ f. IsTextFault text f)
    → IfErr r (λ f. IsRefusal text f)
fault (Ok x) text small h = tt
fault (Err f) text small h = refusal text f small h
