-- Where tokens first go wrong, by the grammar alone: the tokens before the fault begin a module, and those up to it and
-- with it do not, or have it too deep. In what follows `prefix` are the tokens before the fault.
use Rattle.std.specs.Prelude.{◌≡◌, ℕ, suc, ◌+◌, ◌⊎◌, List, [], ◌∷◌, ◌++◌, length}
use Rattle.ash_lex.specs.Tokens.{Meaning, reserved}
use Rattle.ash_lex.specs.declared.words.ReservedWord.TheVariants as words
use Rattle.ash_lex.specs.declared.tokens.Token.{Token}
use Rattle.ash_tree.specs.declared.tree.places.Position.{Position}
use Rattle.ash_tree.specs.Tree.{Element, Item, Declaration}
use Rattle.ash_tree.specs.GrammarTokens.{Tokens, tokens_of}
use Rattle.ash_tree.specs.Types.{IsElement}
use Rattle.ash_tree.specs.Grammar.{Derives, Declares}
use Rattle.ash_parse.specs.declared.faults.ParseFault.{ParseFault}
use Rattle.ash_parse.specs.declared.faults.ParseFault.TheVariants as faults
use Rattle.ash_parse.specs.Readers.{Halt, Unexpected, TooDeep}
use Rattle.ash_parse.specs.ParseFaults.{IsHaltFault}

-- these tokens begin a module in which none of them is too deep
abbrev pub Begun : Tokens → Type 0
Begun prefix = (tail : Tokens) × (items : List Item) × Derives (length tail) (prefix ++ tail) items

-- no module, however deep, begins with these tokens and the first of `rest`; or is these tokens, where none is left
abbrev pub NoneGoesOn : Tokens → Tokens → Type 0
NoneGoesOn prefix [] = (free : ℕ) (items : List Item) → Derives free prefix items → ⊥
NoneGoesOn prefix (t ∷ rest) =
    (free : ℕ) (tail : Tokens) (items : List Item) → Derives free (prefix ++ t ∷ tail) items → ⊥

-- `t` and these tokens after it may leave open whether a declaration begins, or an expression, which is one deeper: `t`
-- alone, or the word `array` with what begins an `"<" elem ">"`
abbrev pub LeavesOpen : Meaning × Position → Tokens → Type 0
LeavesOpen t seen =
    (seen ≡ []) ⊎ ((t.0 ≡ reserved words.Array) × (tail : Tokens) × (of : Element) × IsElement (seen ++ tail) of [])

-- no module that begins with `prefix`, `t`, the tokens `seen` and the first of `after` has `t` within the depth; nor
-- one that is `prefix`, `t` and `seen`, where nothing is after them
abbrev pub NoneKeeps : Tokens → Meaning × Position → Tokens → Tokens → Type 0
NoneKeeps prefix t seen [] = (items : List Item) → Derives (length seen) (prefix ++ t ∷ seen) items → ⊥
NoneKeeps prefix t seen (u ∷ after) = (tail : Tokens) (items : List Item)
    → Derives (length seen + suc (length tail)) (prefix ++ t ∷ (seen ++ u ∷ tail)) items → ⊥

-- No module that begins with these tokens, `t` and the token after it has `t` within the depth; nor one that is these
-- tokens and `t`, where nothing is left. The token after `t` counts, since a name or a primitive type alone leaves open
-- what begins; where `t` is the word `array`, the tokens up to the one after `"<" elem ">"` do.
abbrev pub NoneWithin : Tokens → Meaning × Position → Tokens → Type 0
NoneWithin prefix t rest = (seen : Tokens) × (after : Tokens)
    × (rest ≡ seen ++ after) × LeavesOpen t seen × NoneKeeps prefix t seen after

-- some module begins with these tokens and `t`, and has no token before `t` too deep; and `t` is too deep in each that
-- has the same tokens after it, as far as they count
abbrev pub GoesTooDeep : Tokens → Meaning × Position → Type 0
GoesTooDeep prefix t = (tail : Tokens) × (items : List Item)
    × Derives (suc (length tail)) (prefix ++ t ∷ tail) items × NoneWithin prefix t tail

-- The last of these tokens is too deep in no module, nor is the word `array` where what is after it leaves open what
-- begins. Where it could be, and what is after it fits nowhere, the fault is this token's, which then counts as an
-- expression's.
abbrev pub NoneLeftDeep : Tokens → Type 0
NoneLeftDeep prefix = (less : Tokens) (t : Meaning × Position) (seen : Tokens)
    → prefix ≡ less ++ t ∷ seen → LeavesOpen t seen → GoesTooDeep less t → ⊥

-- The first fault of tokens that are no module within the depth. Tokens have one such fault at most.
abbrev pub FirstParseFault : Tokens → Halt → Type 0
FirstParseFault all (Unexpected rest) = (prefix : Tokens) × (all ≡ prefix ++ rest)
    × Begun prefix × NoneGoesOn prefix rest × NoneLeftDeep prefix
FirstParseFault all (TooDeep []) = ⊥
FirstParseFault all (TooDeep (t ∷ rest)) = (prefix : Tokens) × (all ≡ prefix ++ t ∷ rest)
    × Begun prefix × GoesTooDeep prefix t × NoneWithin prefix t rest

-- these tokens begin a declaration
abbrev pub DeclarationBegun : Tokens → Type 0
DeclarationBegun prefix = (tail : Tokens) × (declared : Declaration) × Declares (prefix ++ tail) declared

-- no declaration begins with these tokens and the first of `rest`; or is these tokens, where none is left
abbrev pub NoDeclarationGoesOn : Tokens → Tokens → Type 0
NoDeclarationGoesOn prefix [] = (declared : Declaration) → Declares prefix declared → ⊥
NoDeclarationGoesOn prefix (t ∷ rest) =
    (tail : Tokens) (declared : Declaration) → Declares (prefix ++ t ∷ tail) declared → ⊥

-- the first fault of tokens that are no declaration; nothing in a declaration is deep
abbrev pub FirstDeclarationFault : Tokens → Halt → Type 0
FirstDeclarationFault all (Unexpected rest) = (prefix : Tokens) × (all ≡ prefix ++ rest)
    × DeclarationBegun prefix × NoDeclarationGoesOn prefix rest
FirstDeclarationFault all (TooDeep rest) = ⊥

-- the fault is such a first one, or memory ran out
abbrev pub ReportsFirst : (Tokens → Halt → Type 0) → List Token → ParseFault → Type 0
ReportsFirst IsFirst all faults.NoMemory = Unit {0}
ReportsFirst IsFirst all fault = (halt : Halt) × IsHaltFault all fault halt × IsFirst (tokens_of all) halt
