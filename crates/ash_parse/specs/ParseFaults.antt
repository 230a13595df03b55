-- The fault that is returned where reading stops, and the code by which it is reported.
use Rattle.std.specs.Prelude.{◌≡◌, ℕ, List, [], ◌∷◌, Option, Some, None, Ok, Err, ◌-◌, length, drop, codes, if◌then◌else◌}
use Rattle.std.specs.List.{slice_get}
use Rattle.ash_lex.specs.Tokens.{Meaning, sign, unsupported}
use Rattle.ash_lex.specs.ReservedWords.{unsupported_text}
use Rattle.ash_lex.specs.declared.signs.Sign.TheVariants as signs
use Rattle.ash_lex.specs.declared.tokens.Token.{Token}
use Rattle.ash_tree.specs.Tree.{Declaration}
use Rattle.ash_tree.specs.GrammarTokens.{Tokens, tokens_of}
use Rattle.ash_parse.specs.declared.error.ParseError.{ParseError}
use Rattle.ash_parse.specs.declared.error.Stop.{Stop}
use Rattle.ash_parse.specs.declared.error.Stop.TheVariants as stops
use Rattle.ash_parse.specs.declared.faults.UnsupportedPart.{UnsupportedPart}
use Rattle.ash_parse.specs.declared.faults.UnsupportedPart.TheVariants as parts
use Rattle.ash_parse.specs.declared.faults.ParseFault.{ParseFault}
use Rattle.ash_parse.specs.declared.faults.ParseFault.TheVariants as faults
use Rattle.ash_parse.specs.Readers.{Halt, Unexpected, TooDeep, ParseResult, ◌>>=◌}
use Rattle.ash_parse.specs.ItemReader.{is_left, declaration_at}

-- the word or sign by which a part that the profile doesn't have is reported
abbrev pub part_text : UnsupportedPart → List ℕ
part_text (parts.Word w) = unsupported_text w
part_text parts.Power = codes "**"
part_text parts.Scope = codes "::"

-- the code by which a fault is reported: its number and its name
abbrev pub code_of : ParseFault → List ℕ
code_of (faults.Unexpected at) = codes "104 Unexpected"
code_of (faults.Unsupported part at) = codes "105 Unsupported"
code_of (faults.TooDeep at) = codes "106 TooDeep"
code_of faults.NoMemory = codes "509 NoMemory"

-- the part that a token belongs to which the profile doesn't have
unfoldable pub part_of : Meaning → Option UnsupportedPart
part_of (unsupported w) = Some (parts.Word w)
part_of (sign signs.Power) = Some parts.Power
part_of (sign signs.Scope) = Some parts.Scope
part_of _ = None

abbrev pub end_by : Option Token → ℕ
end_by None = 0
end_by (Some t) = t.to

-- where the last of the tokens ends
abbrev pub end_of : List Token → ℕ
end_of ts = end_by (slice_get ts (length ts - 1))

-- where the first of the tokens from the fault on is, or where all of the tokens end
abbrev pub start : ℕ → Tokens → ℕ
start end [] = end
start end ((m, p) ∷ rest) = p.at

-- the fault at a token that fits nowhere
abbrev pub fault_at : ℕ → Option UnsupportedPart → ParseFault
fault_at at None = faults.Unexpected at
fault_at at (Some part) = faults.Unsupported part at

-- the fault at the first of these tokens, where all tokens end at a place
abbrev pub fault_before : ℕ → Tokens → ParseFault
fault_before end [] = faults.Unexpected end
fault_before end ((m, p) ∷ rest) = fault_at p.at (part_of m)

-- the fault of tokens that reading stops in, where they end at a place
abbrev pub fault_of : ℕ → Halt → ParseFault
fault_of end (Unexpected rest) = fault_before end rest
fault_of end (TooDeep rest) = faults.TooDeep (start end rest)

-- the fault is that of why reading stops
abbrev pub IsHaltFault : List Token → ParseFault → Halt → Type 0
IsHaltFault all fault halt = fault ≡ fault_of (end_of all) halt

abbrev pub IsReportedAt : List Token → ParseFault → Stop → Tokens → Type 0
IsReportedAt all fault stops.Unexpected rest = IsHaltFault all fault (Unexpected rest)
IsReportedAt all fault stops.TooDeep rest = IsHaltFault all fault (TooDeep rest)
IsReportedAt all fault stops.NoMemory rest = fault ≡ faults.NoMemory

abbrev pub IsReported : List Token → ParseFault → ParseError → Type 0
IsReported all fault e = IsReportedAt all fault e.stop (tokens_of (drop (length all - e.left) all))

-- the fault is what reading stops at, or memory ran out
abbrev pub IsFault : {A : Type 0} → List Token → ParseFault → ParseResult A → Type 0
IsFault all faults.NoMemory read = Unit {0}
IsFault all fault (Ok x) = ⊥
IsFault all fault (Err e) = IsHaltFault all fault e

-- a declaration, with nothing after it
unfoldable pub whole_declaration_at : Tokens → ParseResult Declaration
whole_declaration_at ts = declaration_at ts >>= λ d. if is_left d.1 then Err (Unexpected d.1) else Ok d
