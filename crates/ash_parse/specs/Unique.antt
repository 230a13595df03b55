-- Tokens have one tree, or one first fault.
use Rattle.std.specs.Prelude.{◌≡◌, ◌⊎◌, List}
use Rattle.ash_tree.specs.Tree.{Item, Declaration}
use Rattle.ash_tree.specs.GrammarTokens.{Tokens}
use Rattle.ash_tree.specs.Grammar.{Derives, Declares}
use Rattle.ash_parse.specs.Readers.{Halt}
use Rattle.ash_parse.specs.FirstFault.{FirstParseFault, FirstDeclarationFault}

-- two lists of items that these tokens derive are one
abbrev pub HasOneModule : Tokens → Type 0
HasOneModule ts = (first second : List Item) → Derives 0 ts first → Derives 0 ts second → first ≡ second

-- two declarations that these tokens derive are one
abbrev pub HasOneDeclaration : Tokens → Type 0
HasOneDeclaration ts = (first second : Declaration) → Declares ts first → Declares ts second → first ≡ second

-- two first faults of these tokens are one
abbrev pub HasOneFault : Tokens → Type 0
HasOneFault ts = (first second : Halt) → FirstParseFault ts first → FirstParseFault ts second → first ≡ second

-- these tokens derive a module within the depth, or have a first fault
abbrev pub HasTreeOrFault : Tokens → Type 0
HasTreeOrFault ts = ((items : List Item) × Derives 0 ts items) ⊎ ((halt : Halt) × FirstParseFault ts halt)

-- and not both
abbrev pub HasNotBoth : Tokens → Type 0
HasNotBoth ts = (items : List Item) (halt : Halt) → Derives 0 ts items → FirstParseFault ts halt → ⊥

-- two first faults of these tokens, as a declaration, are one
abbrev pub HasOneDeclarationFault : Tokens → Type 0
HasOneDeclarationFault ts =
    (first second : Halt) → FirstDeclarationFault ts first → FirstDeclarationFault ts second → first ≡ second

-- these tokens derive a declaration, or have a first fault as one
abbrev pub HasDeclarationOrFault : Tokens → Type 0
HasDeclarationOrFault ts =
    ((declared : Declaration) × Declares ts declared) ⊎ ((halt : Halt) × FirstDeclarationFault ts halt)

-- and not both
abbrev pub HasNotBothDeclared : Tokens → Type 0
HasNotBothDeclared ts =
    (declared : Declaration) (halt : Halt) → Declares ts declared → FirstDeclarationFault ts halt → ⊥
