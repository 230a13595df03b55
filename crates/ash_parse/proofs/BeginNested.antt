-- What is before the place where the reading of a statement that is one deeper stops begins one.
use Rattle.std.proofs.Common.{◌≡◌, ℕ, zero, suc, ◌+◌, ◌≤◌, [], ◌∷◌, ◌++◌, true, false, None, Err, refl, sym, ap, subst, append_assoc, length, arith}
use Rattle.ash_lex.specs.Tokens.{Meaning, name, sign, reserved}
use Rattle.ash_lex.specs.declared.signs.Sign.TheVariants as signs
use Rattle.ash_lex.specs.declared.words.ReservedWord.TheVariants as words
use Rattle.ash_tree.specs.declared.tree.places.Position.{Position}
use Rattle.ash_tree.specs.Tree.{Name, Default, Empty, Evaluate, Block, If, While, DoWhile, For, Switch, Break, Continue, Return, Case, place_of, stmts, cases}
use Rattle.ash_tree.specs.GrammarTokens.{Tokens}
use Rattle.ash_tree.specs.Operators.{primitive}
use Rattle.ash_tree.specs.Expressions.{IsInner, no_exprs, named, postfix, no_suffixes}
use Rattle.ash_tree.specs.Statements.{no_first, no_test, no_result, IsNested, nested, no_locals, block, IsStmt, inner_block, empty, evaluate, if_only, while, do_while, for, switch, break, continue, return, no_cases}
use Rattle.ash_parse.specs.declared.stmt_tokens.StmtToken.{StmtToken}
use Rattle.ash_parse.specs.declared.stmt_tokens.StmtToken.TheVariants as stmt_tokens
use Rattle.ash_parse.specs.Readers.{Unexpected, TooDeep, ◌>>=◌}
use Rattle.ash_parse.specs.ExpressionReader.{begins, below_at}
use Rattle.ash_parse.specs.TypeReader.{is_array}
use Rattle.ash_parse.specs.StatementReader.{is_name, is_vars, stmt_token, begins_by, begins_stmt, stmt_limit_at, stmt_with, nested_at}
use Rattle.ash_parse.proofs.Rereading.{no_true}
use Rattle.ash_parse.proofs.StatementSound.{Leads, leads_to, nested_sound}
use Rattle.ash_parse.proofs.BeginLaws.{Law, Filled, FilledBy, law_as, stopped_at, stops_here, too_deep_at, after, explain_either, nowhere, some_name}
use Rattle.ash_parse.proofs.BeginExpressions.{inner_alone, begins_assign, begin_whole, begin_part}
use Rattle.ash_parse.proofs.BeginStatements.{begin_stmt}

-- a statement that is empty, and a name in brackets
abbrev semicolon_text : Tokens
semicolon_text = (sign signs.Semicolon, nowhere) ∷ []

abbrev name_text : Tokens → Tokens
name_text more = (sign signs.OpenParenthesis, nowhere) ∷ (name some_name, nowhere) ∷ (sign signs.CloseParenthesis, nowhere) ∷ more

name_inside : {free depth : ℕ} (left : Tokens) → length ((name some_name, nowhere) ∷ left) ≤ free → IsInner free depth ((name some_name, nowhere) ∷ left) (Name nowhere some_name) left
name_inside left big = inner_alone big (postfix named no_suffixes)

empty_nested : {free depth : ℕ} (left : Tokens) → length ((sign signs.Semicolon, nowhere) ∷ left) ≤ free → IsNested free depth ((sign signs.Semicolon, nowhere) ∷ left) (Empty nowhere) left
empty_nested left big = nested (λ deep. absurd (omega arith)) empty

-- a token that leads a statement begins one
Begun : ℕ → Position → Meaning → Type 0
Begun depth p m = FilledBy (m, p) (λ free. IsStmt free depth)

leads_stmt : (depth : ℕ) (k : StmtToken) (m : Meaning) (p : Position) → Leads k m → begins_by k (begins m) ≡ true → Begun depth p m
unfolding Begun is_vars is_name is_array primitive
leads_stmt depth stmt_tokens.Block m p d b = subst (Begun depth p) (sym d) (record { text = (sign signs.CloseBrace, nowhere) ∷ []; tree = Block p (stmts []); is = λ free left big. inner_block (block no_locals); no_vars = λ after. refl })
leads_stmt depth stmt_tokens.Empty m p d b = subst (Begun depth p) (sym d) (record { text = []; tree = Empty p; is = λ free left big. empty; no_vars = λ after. refl })
leads_stmt depth stmt_tokens.If m p d b = subst (Begun depth p) (sym d) (record { text = name_text semicolon_text; tree = If p (Name nowhere some_name) (Empty nowhere); is = λ free left big. if_only (name_inside _ (omega arith)) (empty_nested left (omega arith)); no_vars = λ after. refl })
leads_stmt depth stmt_tokens.While m p d b = subst (Begun depth p) (sym d) (record { text = name_text semicolon_text; tree = While p (Name nowhere some_name) (Empty nowhere); is = λ free left big. while (name_inside _ (omega arith)) (empty_nested left (omega arith)); no_vars = λ after. refl })
leads_stmt depth stmt_tokens.Do m p d b = subst (Begun depth p) (sym d) (record {
  text = (sign signs.Semicolon, nowhere) ∷ (reserved words.While, nowhere) ∷ name_text semicolon_text;
  tree = DoWhile p (Empty nowhere) (Name nowhere some_name);
  is = λ free left big. do_while (empty_nested _ (omega arith)) (name_inside _ (omega arith));
  no_vars = λ after. refl;
})
leads_stmt depth stmt_tokens.For m p d b = subst (Begun depth p) (sym d) (record {
  text = (sign signs.OpenParenthesis, nowhere) ∷ (sign signs.Semicolon, nowhere) ∷ (sign signs.Semicolon, nowhere) ∷ (sign signs.CloseParenthesis, nowhere) ∷ semicolon_text;
  tree = For p (Empty nowhere) None [] (Empty nowhere);
  is = λ free left big. for no_first no_test no_exprs (empty_nested left (omega arith));
  no_vars = λ after. refl;
})
leads_stmt depth stmt_tokens.Switch m p d b = subst (Begun depth p) (sym d) (record {
  text = name_text ((sign signs.OpenBrace, nowhere) ∷ (sign signs.CloseBrace, nowhere) ∷ []);
  tree = Switch p (Name nowhere some_name) (cases []);
  is = λ free left big. switch (name_inside _ (omega arith)) no_cases;
  no_vars = λ after. refl;
})
leads_stmt depth stmt_tokens.Break m p d b = subst (Begun depth p) (sym d) (record { text = semicolon_text; tree = Break p; is = λ free left big. break; no_vars = λ after. refl })
leads_stmt depth stmt_tokens.Continue m p d b = subst (Begun depth p) (sym d) (record { text = semicolon_text; tree = Continue p; is = λ free left big. continue; no_vars = λ after. refl })
leads_stmt depth stmt_tokens.Return m p d b = subst (Begun depth p) (sym d) (record { text = semicolon_text; tree = Return p None; is = λ free left big. return no_result; no_vars = λ after. refl })
leads_stmt depth stmt_tokens.Other m p d b =
    let f = begins_assign depth m p b in
    record {
      text = f.text ++ semicolon_text;
      tree = Evaluate (place_of f.tree) f.tree;
      is = λ free left big.
          let same : (f.text ++ semicolon_text) ++ left ≡ f.text ++ ((sign signs.Semicolon, nowhere) ∷ left) = append_assoc f.text semicolon_text left in
          let k : length ((f.text ++ semicolon_text) ++ left) ≡ length (f.text ++ ((sign signs.Semicolon, nowhere) ∷ left)) = ap (λ (l : Tokens). length l) same in
          subst (λ (l : Tokens). IsStmt free depth ((m, p) ∷ l) (Evaluate (place_of f.tree) f.tree) left) (sym same) (evaluate (f.is free ((sign signs.Semicolon, nowhere) ∷ left) (omega arith)));
      no_vars = λ after. subst (λ (l : Tokens). is_vars ((m, p) ∷ l) ≡ false) (sym (append_assoc f.text semicolon_text after)) (f.no_vars ((sign signs.Semicolon, nowhere) ∷ after));
    }
leads_stmt depth stmt_tokens.Else m p d b = absurd (no_true b)
leads_stmt depth stmt_tokens.End m p d b = absurd (no_true b)
leads_stmt depth stmt_tokens.Case m p d b = absurd (no_true b)
leads_stmt depth stmt_tokens.Default m p d b = absurd (no_true b)

begins_nested : (depth : ℕ) (m : Meaning) (p : Position) → begins_stmt m ≡ true → FilledBy (m, p) (λ free. IsNested free depth)
unfolding begins_stmt Begun
begins_nested depth m p b = let f = leads_stmt (suc depth) (stmt_token m) m p (leads_to m) b in record { text = f.text; tree = f.tree; is = λ free left big. nested (λ deep. absurd (omega arith)) (f.is free left big); no_vars = f.no_vars }

fill_nested : (depth : ℕ) → Filled (λ free. IsNested free depth)
fill_nested depth = record { text = semicolon_text; tree = Empty nowhere; is = λ free left big. empty_nested left big }

stmt_limit : (depth : ℕ) (ts : Tokens) → Law (stmt_limit_at ts) ts (λ free. IsNested free depth)
unfolding stmt_limit_at
stmt_limit depth [] = stops_here _ [] (fill_nested depth)
stmt_limit depth ((m, p) ∷ ts) = record {
  explained = explain_either (begins_stmt m) (Err (TooDeep ((m, p) ∷ ts))) (Err (Unexpected ((m, p) ∷ ts))) ((m, p) ∷ ts) (λ free. IsNested free depth) (λ b. too_deep_at _ (m, p) ts (begins_nested depth m p b)) (λ b. stopped_at _ ((m, p) ∷ ts) (fill_nested depth));
  filled = fill_nested depth;
}

pub begin_nested : (room depth : ℕ) → depth + room ≡ 64 → (ts : Tokens) → Law (nested_at room ts) ts (λ free. IsNested free depth)
unfolding nested_at
begin_nested zero depth d ts = stmt_limit depth ts
begin_nested (suc room) depth d ts =
    law_as (λ free. IsStmt free (suc depth)) _ (λ free from x left s. nested (λ some. omega arith) s) (stmt_with (below_at room) (nested_at room) ts) ts
    (begin_stmt (suc depth) (below_at room) (nested_at room) (begin_whole room (suc depth) (omega arith)) (begin_part room (suc depth) (omega arith)) (begin_nested room (suc depth) (omega arith)) (λ s x rest h. (nested_sound room (suc depth) (omega arith) s x rest h).1) ts)
