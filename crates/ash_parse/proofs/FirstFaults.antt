-- Where reading stops is the first fault by the grammar: what is proved of the tokens before it, and of those up to it.
use Rattle.std.proofs.Common.{◌≡◌, suc, inl, inr, List, [], ◌∷◌, ◌++◌, length, Ok, Err, sym, ap, ◌∙◌, refl, append_assoc}
use Rattle.ash_lex.specs.declared.tokens.Token.{Token}
use Rattle.ash_tree.specs.Tree.{Item, Declaration}
use Rattle.ash_tree.specs.GrammarTokens.{Tokens, tokens_of}
use Rattle.ash_parse.specs.declared.faults.ParseFault.{ParseFault}
use Rattle.ash_parse.specs.declared.faults.ParseFault.TheVariants as faults
use Rattle.ash_parse.specs.Readers.{Halt, Unexpected, TooDeep, ParseResult}
use Rattle.ash_parse.specs.ItemReader.{module_at}
use Rattle.ash_parse.specs.ParseFaults.{IsFault, whole_declaration_at}
use Rattle.ash_parse.specs.Unique.{HasTreeOrFault, HasDeclarationOrFault}
use Rattle.ash_parse.specs.FirstFault.{NoneLeftDeep, FirstParseFault, FirstDeclarationFault, ReportsFirst}
use Rattle.ash_parse.proofs.NoneGoesOn.{goes_too_deep, none_goes_on, none_within, no_declaration_goes_on}
use Rattle.ash_parse.proofs.BeginItems.{begun, begun_deep, some_token_deep}
use Rattle.ash_parse.proofs.BeginDeclarations.{begun_declaration}
use Rattle.ash_parse.proofs.NeverDeep.{declaration_never_deep}
use Rattle.ash_parse.proofs.ItemComplete.{module_cut}
use Rattle.ash_parse.proofs.WholeModules.{module_derived, declaration_derived}
use Rattle.ash_parse.proofs.KeepsItems.{keeps_not_deep}
use Rattle.ash_parse.proofs.OneFault.{cut_there, one_fault, no_module}

-- where reading stops, each fault is such a one
abbrev pub StopsFirst : {A : Type 0} → (Tokens → Halt → Type 0) → Tokens → ParseResult A → Type 0
StopsFirst {A} IsFirst ts read = (h : Halt) → read ≡ Err h → IsFirst ts h

-- the fault that is returned is the first one
reported_first_at : {A : Type 0} (IsFirst : Tokens → Halt → Type 0) (all : List Token) (f : ParseFault) (read : ParseResult A) → StopsFirst IsFirst (tokens_of all) read → IsFault all f read → ReportsFirst IsFirst all f
reported_first_at IsFirst all faults.NoMemory read first h = tt
reported_first_at IsFirst all (faults.Unexpected at) (Ok x) first h = absurd h
reported_first_at IsFirst all (faults.Unexpected at) (Err e) first h = (e, h, first e refl)
reported_first_at IsFirst all (faults.Unsupported word at) (Ok x) first h = absurd h
reported_first_at IsFirst all (faults.Unsupported word at) (Err e) first h = (e, h, first e refl)
reported_first_at IsFirst all (faults.TooDeep at) (Ok x) first h = absurd h
reported_first_at IsFirst all (faults.TooDeep at) (Err e) first h = (e, h, first e refl)

-- after a token that could be too deep, nothing is unexpected as long as it is open what the token begins
none_left_deep : (prefix rest : Tokens) → module_at (prefix ++ rest) ≡ Err (Unexpected rest) → NoneLeftDeep prefix
none_left_deep prefix rest h less t seen e leaves deep =
    let is : (less ++ t ∷ seen) ++ rest ≡ less ++ t ∷ (seen ++ rest) = append_assoc less (t ∷ seen) rest in
    let here : module_at (less ++ t ∷ (seen ++ rest)) ≡ Err (Unexpected rest) = ap module_at (sym is) ∙ ap (λ (l : Tokens). module_at (l ++ rest)) (sym e) ∙ h in
    keeps_not_deep less seen deep.0 t (Unexpected rest) leaves here (cut_there less deep.0 t deep.1 deep.2 deep.3 (module_cut (suc (length deep.0)) (less ++ t ∷ deep.0) deep.1 deep.2))

at_unexpected : (ts rest : Tokens) → module_at ts ≡ Err (Unexpected rest) → FirstParseFault ts (Unexpected rest)
at_unexpected ts rest h =
    let b = begun ts rest h in
    let e : module_at (b.0 ++ rest) ≡ Err (Unexpected rest) = ap module_at (sym b.1) ∙ h in
    (b.0, b.1, b.2, none_goes_on b.0 rest e, none_left_deep b.0 rest e)

at_too_deep : (ts rest : Tokens) → module_at ts ≡ Err (TooDeep rest) → FirstParseFault ts (TooDeep rest)
at_too_deep ts [] h = some_token_deep ts h
at_too_deep ts (t ∷ rest) h =
    let b = begun_deep ts rest t h in
    let e : module_at (b.0 ++ t ∷ rest) ≡ Err (TooDeep (t ∷ rest)) = ap module_at (sym b.3) ∙ h in
    (b.0, b.3, (t ∷ b.1, b.2, b.5), goes_too_deep b.0 rest b.1 t b.2 b.4 e b.5, none_within b.0 rest t e)

-- where reading a module stops is its first fault
pub module_stops_first : (ts : Tokens) → StopsFirst FirstParseFault ts (module_at ts)
module_stops_first ts (Unexpected rest) h = at_unexpected ts rest h
module_stops_first ts (TooDeep rest) h = at_too_deep ts rest h

stops_there : (ts : Tokens) (h : Halt) → FirstParseFault ts h → (o : ParseResult (List Item)) → module_at ts ≡ o → o ≡ Err h
stops_there ts h first (Ok x) e = absurd (no_module ts h x.0 first (module_derived ts x.0 x.1 e))
stops_there ts h first (Err k) e = ap (λ (f : Halt). Err f) (one_fault ts k h (module_stops_first ts k e) first)

-- and reading stops at the first fault
pub first_is_stop : (ts : Tokens) (h : Halt) → FirstParseFault ts h → module_at ts ≡ Err h
first_is_stop ts h first = stops_there ts h first (module_at ts) refl

found : (ts : Tokens) (o : ParseResult (List Item)) → module_at ts ≡ o → HasTreeOrFault ts
found ts (Ok x) e = inl (x.0, module_derived ts x.0 x.1 e)
found ts (Err h) e = inr (h, module_stops_first ts h e)

pub tree_or_fault : (ts : Tokens) → HasTreeOrFault ts
tree_or_fault ts = found ts (module_at ts) refl

pub module_reported_first : (all : List Token) (f : ParseFault) → IsFault all f (module_at (tokens_of all)) → ReportsFirst FirstParseFault all f
module_reported_first all f h = reported_first_at FirstParseFault all f (module_at (tokens_of all)) (module_stops_first (tokens_of all)) h

declared_unexpected : (ts rest : Tokens) → whole_declaration_at ts ≡ Err (Unexpected rest) → FirstDeclarationFault ts (Unexpected rest)
declared_unexpected ts rest h = let b = begun_declaration ts rest h in (b.0, b.1, b.2, no_declaration_goes_on b.0 rest (ap whole_declaration_at (sym b.1) ∙ h))

-- where reading a declaration stops is its first fault
declaration_stops_first : (ts : Tokens) → StopsFirst FirstDeclarationFault ts (whole_declaration_at ts)
declaration_stops_first ts (Unexpected rest) h = declared_unexpected ts rest h
declaration_stops_first ts (TooDeep rest) h = declaration_never_deep ts rest h

found_declared : (ts : Tokens) (o : ParseResult Declaration) → whole_declaration_at ts ≡ o → HasDeclarationOrFault ts
found_declared ts (Ok x) e = inl (x.0, declaration_derived ts x.0 x.1 e)
found_declared ts (Err h) e = inr (h, declaration_stops_first ts h e)

pub declaration_or_fault : (ts : Tokens) → HasDeclarationOrFault ts
declaration_or_fault ts = found_declared ts (whole_declaration_at ts) refl

pub declaration_reported_first : (all : List Token) (f : ParseFault) → IsFault all f (whole_declaration_at (tokens_of all)) → ReportsFirst FirstDeclarationFault all f
declaration_reported_first all f h = reported_first_at FirstDeclarationFault all f (whole_declaration_at (tokens_of all)) (declaration_stops_first (tokens_of all)) h
