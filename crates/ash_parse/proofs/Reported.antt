-- The fault that is returned is where reading stops.
use Rattle.std.proofs.Common.{◌≡◌, ℕ, ◌-◌, List, [], ◌∷◌, ◌++◌, length, drop, Option, Some, Ok, Err, refl, sym, ap, subst, ◌∙◌, length-append, arith}
use Rattle.std.proofs.lemmas.List.{length-map, drop-map}
use Rattle.std.specs.List.{slice_get}
use Rattle.ash_lex.specs.Tokens.{meaning_of}
use Rattle.ash_lex.specs.declared.tokens.Token.{Token}
use Rattle.ash_tree.specs.GrammarTokens.{Tokens, tokens_of, placed}
use Rattle.ash_parse.specs.declared.error.ParseError.{ParseError}
use Rattle.ash_parse.specs.declared.error.Stop.{Stop}
use Rattle.ash_parse.specs.declared.error.Stop.TheVariants as stops
use Rattle.ash_parse.specs.declared.faults.ParseFault.{ParseFault}
use Rattle.ash_parse.specs.declared.faults.ParseFault.TheVariants as faults
use Rattle.ash_parse.specs.Readers.{Halt, Unexpected, TooDeep, ParseResult, Fails, StopsAt}
use Rattle.ash_parse.specs.ItemReader.{module_at}
use Rattle.ash_parse.specs.declared.faults.UnsupportedPart.{UnsupportedPart}
use Rattle.ash_parse.specs.ParseFaults.{IsHaltFault, IsReported, IsReportedAt, IsFault, part_of, fault_at, fault_before, end_of, whole_declaration_at}
use Rattle.ash_parse.proofs.BeginLaws.{left_at}
use Rattle.ash_parse.proofs.BeginItems.{stops_module}
use Rattle.ash_parse.proofs.BeginDeclarations.{declaration_within}

reports_fault : (A : Type 0) (all : List Token) (f : ParseFault) (e : Halt) → IsHaltFault all f e → IsFault {A = A} all f (Err e)
reports_fault A all (faults.Unexpected at) e h = h
reports_fault A all (faults.Unsupported word at) e h = h
reports_fault A all (faults.TooDeep at) e h = h
reports_fault A all faults.NoMemory e h = tt

drop_prefix : (prefix rest : Tokens) → drop (length prefix) (prefix ++ rest) ≡ rest
drop_prefix [] rest = refl
drop_prefix (t ∷ prefix) rest = drop_prefix prefix rest

-- the tokens that are left are the last ones
last_are : (all : List Token) (prefix rest : Tokens) (left : ℕ) → tokens_of all ≡ prefix ++ rest → left ≡ length rest → tokens_of (drop (length all - left) all) ≡ rest
last_are all prefix rest left e l =
    let counted : length (tokens_of all) ≡ length (prefix ++ rest) = ap length e in
    let n : length all - left ≡ length prefix = omega (arith, l, counted, length-map all placed, length-append prefix rest) in
    rw n (sym (drop-map placed (length prefix) all) ∙ ap (drop (length prefix)) e ∙ drop_prefix prefix rest)

-- where reading stops, the tokens from the fault on are the last ones
abbrev pub StopsWithin : {A : Type 0} → Tokens → ParseResult A → Type 0
StopsWithin ts read = (h : Halt) → read ≡ Err h → (prefix : Tokens) × (ts ≡ prefix ++ left_at h)

reported_at : {A : Type 0} (all : List Token) (f : ParseFault) (stop : Stop) (left : ℕ) (read : ParseResult A) → StopsWithin (tokens_of all) read → StopsAt stop left read → IsReportedAt all f stop (tokens_of (drop (length all - left) all)) → IsFault all f read
reported_at {A} all f stops.NoMemory left read s h t = subst (λ x. IsFault all x read) (sym t) tt
reported_at {A} all f stops.Unexpected left (Ok x) s h t = absurd h
reported_at {A} all f stops.Unexpected left (Err (Unexpected rest)) s h t =
    let p = s (Unexpected rest) refl in
    reports_fault A all f (Unexpected rest) (subst (λ (ts : Tokens). IsHaltFault all f (Unexpected ts)) (last_are all p.0 rest left p.1 h) t)
reported_at {A} all f stops.Unexpected left (Err (TooDeep rest)) s h t = absurd h
reported_at {A} all f stops.TooDeep left (Ok x) s h t = absurd h
reported_at {A} all f stops.TooDeep left (Err (Unexpected rest)) s h t = absurd h
reported_at {A} all f stops.TooDeep left (Err (TooDeep rest)) s h t =
    let p = s (TooDeep rest) refl in
    reports_fault A all f (TooDeep rest) (subst (λ (ts : Tokens). IsHaltFault all f (TooDeep ts)) (last_are all p.0 rest left p.1 h) t)

pub module_is_fault : (all : List Token) (f : ParseFault) (e : ParseError) → Fails e (module_at (tokens_of all)) → IsReported all f e → IsFault all f (module_at (tokens_of all))
module_is_fault all f e h t =
    reported_at all f e.stop e.left (module_at (tokens_of all)) (λ halt k. let s = stops_module (tokens_of all) halt k in (s.prefix, s.is_all)) h t

pub declaration_is_fault : (all : List Token) (f : ParseFault) (e : ParseError) → Fails e (whole_declaration_at (tokens_of all)) → IsReported all f e → IsFault all f (whole_declaration_at (tokens_of all))
declaration_is_fault all f e h t =
    reported_at all f e.stop e.left (whole_declaration_at (tokens_of all)) (declaration_within (tokens_of all)) h t

-- the fault at the first of the tokens that are left
pub reported_first : (all rest : List Token) (t : Token) (part : Option UnsupportedPart) → slice_get rest 0 ≡ Some t → part ≡ part_of (meaning_of t.kind) → fault_at t.from part ≡ fault_before (end_of all) (tokens_of rest)
reported_first all [] t part h e = absurd (cc)
reported_first all (next ∷ more) t part h e =
    let same : next ≡ t = cc in
    subst (λ (x : Token). fault_at t.from part ≡ fault_before (end_of all) (tokens_of (x ∷ more))) (sym same) (ap (fault_at t.from) e)
