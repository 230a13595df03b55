-- The grammar of declarations of variables and of statements (AngelScript manual, "Statements"), one case for each
-- production:
--
--   vars  = type decl { "," decl }
--   decl  = NAME [ "=" assign | args ]
--   block = "{" { vars ";" | stmt } "}"
--   stmt  = block | ";" | assign ";" | "if" "(" assign ")" stmt [ "else" stmt ]
--         | "while" "(" assign ")" stmt | "do" stmt "while" "(" assign ")" ";"
--         | "for" "(" [ vars | assign ] ";" [assign] ";" [ assign {"," assign} ] ")" stmt
--         | "switch" "(" assign ")" "{" { ("case" ["-"] NUMBER | "default") ":" { stmt } } "}"
--         | "break" ";" | "continue" ";" | "return" [assign] ";"
--
-- An `else` belongs to the nearest `if`. A statement counts for the depth of its tokens, and so does each expression
-- between brackets; the declaration of variables counts for none, nor does what follows its `=`.
use Rattle.std.specs.Prelude.{◌≡◌, ℕ, suc, Bool, true, false, List, [], ◌∷◌, Option, Some, None}
use Rattle.ash_lex.specs.Tokens.{name, number, sign, reserved}
use Rattle.ash_lex.specs.declared.signs.Sign.TheVariants as signs
use Rattle.ash_lex.specs.declared.words.ReservedWord.TheVariants as words
use Rattle.ash_tree.specs.declared.tree.places.Position.{Position}
use Rattle.ash_tree.specs.declared.tree.statements.Label.{Label}
use Rattle.ash_tree.specs.declared.tree.statements.Label.TheVariants as labels
use Rattle.ash_tree.specs.Tree.{Named, Expr, Default, Value, Arguments, Decl, Vars, Stmt, Empty, Declare, Evaluate}
use Rattle.ash_tree.specs.Tree.{Block, If, IfElse, While, DoWhile, For, Switch, Break, Continue, Return, Case, labelled}
use Rattle.ash_tree.specs.Tree.{place_of, place_of_type, stmts, cases}
use Rattle.ash_tree.specs.GrammarTokens.{Tokens}
use Rattle.ash_tree.specs.Types.{IsType}
use Rattle.ash_tree.specs.Expressions.{Within, IsInner, AreExprs, IsArgs, IsAssign}

-- decl = NAME [ "=" assign | args ]
pub data IsDecl : ℕ → ℕ → Tokens → Decl → Tokens → Type 0 where
  bare : {free depth : ℕ} {p : Position} {text : List ℕ} {left : Tokens}
      → IsDecl free depth ((name text, p) ∷ left) (record { place = p; name = text; initializer = Default }) left
  valued : {free depth : ℕ} {p q : Position} {text : List ℕ} {from left : Tokens} {e : Expr}
      → IsAssign free depth from e left → IsDecl free depth ((name text, p) ∷ (sign signs.Assign, q) ∷ from)
      (record { place = p; name = text; initializer = Value e }) left
  made : {free depth : ℕ} {p : Position} {text : List ℕ} {from left : Tokens} {es : List Expr}
      → IsArgs free depth from es left → IsDecl free depth ((name text, p) ∷ from)
      (record { place = p; name = text; initializer = Arguments es }) left

-- { "," decl }
pub data AreMoreDecls : ℕ → ℕ → Tokens → List Decl → Tokens → Type 0 where
  no_more_decls : {free depth : ℕ} {left : Tokens} → AreMoreDecls free depth left [] left
  more_decls : {free depth : ℕ} {p : Position} {from after left : Tokens} {d : Decl} {ds : List Decl}
      → IsDecl free depth from d after → AreMoreDecls free depth after ds left
      → AreMoreDecls free depth ((sign signs.Comma, p) ∷ from) (d ∷ ds) left

-- vars = type decl { "," decl }
pub data IsVars : ℕ → ℕ → Tokens → Vars → Tokens → Type 0 where
  vars : {free depth : ℕ} {from first after left : Tokens} {t : Named} {d : Decl} {ds : List Decl} → IsType from t first
      → IsDecl free depth first d after → AreMoreDecls free depth after ds left
      → IsVars free depth from (record { of = t; decls = d ∷ ds }) left

-- This is what a `for` has before its first `;`, with that `;`.
pub data IsFirst : ℕ → ℕ → Tokens → Stmt → Tokens → Type 0 where
  no_first : {free depth : ℕ} {p : Position} {left : Tokens}
      → IsFirst free depth ((sign signs.Semicolon, p) ∷ left) (Empty p) left
  first_vars : {free depth : ℕ} {p : Position} {from left : Tokens} {v : Vars}
      → IsVars free depth from v ((sign signs.Semicolon, p) ∷ left)
      → IsFirst free depth from (Declare (place_of_type v.of) v) left
  first_expr : {free depth : ℕ} {p : Position} {from left : Tokens} {e : Expr}
      → IsInner free depth from e ((sign signs.Semicolon, p) ∷ left)
      → IsFirst free depth from (Evaluate (place_of e) e) left

-- This is what a `for` has before its second `;`, with that `;`.
pub data IsTest : ℕ → ℕ → Tokens → Option Expr → Tokens → Type 0 where
  no_test : {free depth : ℕ} {p : Position} {left : Tokens}
      → IsTest free depth ((sign signs.Semicolon, p) ∷ left) None left
  test : {free depth : ℕ} {p : Position} {from left : Tokens} {e : Expr}
      → IsInner free depth from e ((sign signs.Semicolon, p) ∷ left) → IsTest free depth from (Some e) left

-- This is what follows a `return`, with its `;`.
pub data IsResult : ℕ → ℕ → Tokens → Option Expr → Tokens → Type 0 where
  no_result : {free depth : ℕ} {p : Position} {left : Tokens}
      → IsResult free depth ((sign signs.Semicolon, p) ∷ left) None left
  value : {free depth : ℕ} {p : Position} {from left : Tokens} {e : Expr}
      → IsAssign free depth from e ((sign signs.Semicolon, p) ∷ left) → IsResult free depth from (Some e) left

-- ("case" ["-"] NUMBER | "default") ":", at its constant, or at the word `default`: what a fault of it names
pub data IsLabel : Tokens → Position → Label → Tokens → Type 0 where
  case : {p q r : Position} {n : ℕ} {left : Tokens}
      → IsLabel ((reserved words.Case, p) ∷ (number n, q) ∷ (sign signs.Colon, r) ∷ left) q (labels.Case n) left
  case_minus : {p o q r : Position} {n : ℕ} {left : Tokens}
      → IsLabel ((reserved words.Case, p) ∷ (sign signs.Minus, o) ∷ (number n, q) ∷ (sign signs.Colon, r) ∷ left) o
      (labels.CaseMinus n) left
  default : {p r : Position} {left : Tokens} → IsLabel
      ((reserved words.Default, p) ∷ (sign signs.Colon, r) ∷ left) p labels.Default left

-- The statement ends in an `if` that an `else` could still follow.
abbrev pub is_open : Stmt → Bool
is_open (If p c s) = true
is_open (IfElse p c s t) = is_open t
is_open (While p c s) = is_open s
is_open (For p f c es s) = is_open s
is_open _ = false

mutual
  -- The statement is one deeper than what it is in.
  pub data IsNested : ℕ → ℕ → Tokens → Stmt → Tokens → Type 0 where
    nested : {free depth : ℕ} {from left : Tokens} {s : Stmt} → Within free (suc depth) from
        → IsStmt free (suc depth) from s left → IsNested free depth from s left

  -- { vars ";" | stmt }
  pub data AreLocals : ℕ → ℕ → Tokens → List Stmt → Tokens → Type 0 where
    no_locals : {free depth : ℕ} {left : Tokens} → AreLocals free depth left [] left
    local_vars : {free depth : ℕ} {p : Position} {from after left : Tokens} {v : Vars} {ss : List Stmt}
        → IsVars free depth from v ((sign signs.Semicolon, p) ∷ after) → AreLocals free depth after ss left
        → AreLocals free depth from (Declare (place_of_type v.of) v ∷ ss) left
    local_stmt : {free depth : ℕ} {from after left : Tokens} {s : Stmt} {ss : List Stmt}
        → IsNested free depth from s after → AreLocals free depth after ss left
        → AreLocals free depth from (s ∷ ss) left

  -- block = "{" { vars ";" | stmt } "}"
  pub data IsBlock : ℕ → ℕ → Tokens → List Stmt → Tokens → Type 0 where
    block : {free depth : ℕ} {p q : Position} {from left : Tokens} {ss : List Stmt}
        → AreLocals free depth from ss ((sign signs.CloseBrace, q) ∷ left)
        → IsBlock free depth ((sign signs.OpenBrace, p) ∷ from) ss left

  pub data IsStmt : ℕ → ℕ → Tokens → Stmt → Tokens → Type 0 where
    -- block | ";" | assign ";"
    inner_block : {free depth : ℕ} {p : Position} {from left : Tokens} {ss : List Stmt}
        → IsBlock free depth ((sign signs.OpenBrace, p) ∷ from) ss left
        → IsStmt free depth ((sign signs.OpenBrace, p) ∷ from) (Block p (stmts ss)) left
    empty : {free depth : ℕ} {p : Position} {left : Tokens}
        → IsStmt free depth ((sign signs.Semicolon, p) ∷ left) (Empty p) left
    evaluate : {free depth : ℕ} {p : Position} {from left : Tokens} {e : Expr}
        → IsAssign free depth from e ((sign signs.Semicolon, p) ∷ left)
        → IsStmt free depth from (Evaluate (place_of e) e) left
    -- "if" "(" assign ")" stmt [ "else" stmt ]
    if_only : {free depth : ℕ} {p q r : Position} {from after left : Tokens} {c : Expr} {s : Stmt}
        → IsInner free depth from c ((sign signs.CloseParenthesis, r) ∷ after) → IsNested free depth after s left
        → IsStmt free depth ((reserved words.If, p) ∷ (sign signs.OpenParenthesis, q) ∷ from) (If p c s) left
    if_else : {free depth : ℕ} {p q r o : Position} {from after other left : Tokens} {c : Expr} {s t : Stmt}
        → IsInner free depth from c ((sign signs.CloseParenthesis, r) ∷ after)
        → IsNested free depth after s ((reserved words.Else, o) ∷ other) → is_open s ≡ false
        → IsNested free depth other t left → IsStmt free depth
        ((reserved words.If, p) ∷ (sign signs.OpenParenthesis, q) ∷ from) (IfElse p c s t) left
    -- "while" "(" assign ")" stmt | "do" stmt "while" "(" assign ")" ";"
    while : {free depth : ℕ} {p q r : Position} {from after left : Tokens} {c : Expr} {s : Stmt}
        → IsInner free depth from c ((sign signs.CloseParenthesis, r) ∷ after) → IsNested free depth after s left
        → IsStmt free depth ((reserved words.While, p) ∷ (sign signs.OpenParenthesis, q) ∷ from) (While p c s) left
    do_while : {free depth : ℕ} {p q r o w : Position} {from after left : Tokens} {c : Expr} {s : Stmt}
        → IsNested free depth from s ((reserved words.While, w) ∷ (sign signs.OpenParenthesis, q) ∷ after)
        → IsInner free depth after c ((sign signs.CloseParenthesis, r) ∷ (sign signs.Semicolon, o) ∷ left)
        → IsStmt free depth ((reserved words.Do, p) ∷ from) (DoWhile p s c) left
    -- "for" "(" [ vars | assign ] ";" [assign] ";" [ assign {"," assign} ] ")" stmt
    for : {free depth : ℕ} {p q r : Position} {from second third after left : Tokens} {f s : Stmt} {c : Option Expr}
        {es : List Expr} → IsFirst free depth from f second → IsTest free depth second c third
        → AreExprs free depth third es ((sign signs.CloseParenthesis, r) ∷ after) → IsNested free depth after s left
        → IsStmt free depth ((reserved words.For, p) ∷ (sign signs.OpenParenthesis, q) ∷ from) (For p f c es s) left
    -- "switch" "(" assign ")" "{" { label { stmt } } "}"
    switch : {free depth : ℕ} {p q r o z : Position} {from after left : Tokens} {e : Expr} {cs : List Case}
        → IsInner free depth from e ((sign signs.CloseParenthesis, r) ∷ (sign signs.OpenBrace, o) ∷ after)
        → AreCases free depth after cs ((sign signs.CloseBrace, z) ∷ left)
        → IsStmt free depth ((reserved words.Switch, p) ∷ (sign signs.OpenParenthesis, q) ∷ from)
        (Switch p e (cases cs)) left
    -- "break" ";" | "continue" ";" | "return" [assign] ";"
    break : {free depth : ℕ} {p q : Position} {left : Tokens}
        → IsStmt free depth ((reserved words.Break, p) ∷ (sign signs.Semicolon, q) ∷ left) (Break p) left
    continue : {free depth : ℕ} {p q : Position} {left : Tokens}
        → IsStmt free depth ((reserved words.Continue, p) ∷ (sign signs.Semicolon, q) ∷ left) (Continue p) left
    return : {free depth : ℕ} {p : Position} {from left : Tokens} {c : Option Expr} → IsResult free depth from c left
        → IsStmt free depth ((reserved words.Return, p) ∷ from) (Return p c) left

  -- { label { stmt } }
  pub data AreCases : ℕ → ℕ → Tokens → List Case → Tokens → Type 0 where
    no_cases : {free depth : ℕ} {left : Tokens} → AreCases free depth left [] left
    more_cases : {free depth : ℕ} {p : Position} {from first after left : Tokens} {l : Label} {ss : List Stmt}
        {cs : List Case} → IsLabel from p l first → AreStmts free depth first ss after
        → AreCases free depth after cs left → AreCases free depth from (labelled p l (stmts ss) ∷ cs) left

  -- { stmt }
  pub data AreStmts : ℕ → ℕ → Tokens → List Stmt → Tokens → Type 0 where
    no_stmts : {free depth : ℕ} {left : Tokens} → AreStmts free depth left [] left
    more_stmts : {free depth : ℕ} {from after left : Tokens} {s : Stmt} {ss : List Stmt}
        → IsNested free depth from s after → AreStmts free depth after ss left → AreStmts free depth from (s ∷ ss) left
