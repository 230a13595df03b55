-- Phrases that the code walks part by part come to what their definitions say.
use Rattle.std.proofs.Common.{◌≡◌, ◌<◌, ◌≤◌, ◌+◌, ℕ, length, get_or, map, drop, append-nil, List, [], ◌∷◌, Option, Some, None, refl, sym, ap, ◌∙◌, ◌++◌, append_assoc, Vec, Global, rules}
use Rattle.std.proofs.lemmas.List.{drop_more, drop_all}
use Rattle.ash_host.specs.declared.word.Word.{Word}
use Rattle.ash_typed.specs.declared.tree.expressions.Expr as expr_code
use Rattle.ash_typed.specs.declared.tree.expressions.ExprKind as kind_code
use Rattle.ash_typed.specs.declared.tree.expressions.ExprKind.TheViews as views
use Rattle.ash_typed.specs.declared.tree.expressions.Link as link_code
use Rattle.ash_typed.specs.declared.tree.expressions.Link.TheVariants as links
use Rattle.ash_typed.specs.declared.tree.expressions.Operand as operand_code
use Rattle.ash_typed.specs.declared.tree.operations.Conversion.{Conversion}
use Rattle.ash_typed.specs.declared.tree.operations.Operation.{Operation}
use Rattle.ash_typed.specs.declared.tree.operations.Lazy.{Lazy}
use Rattle.ash_typed.specs.declared.tree.operations.CallTarget.{CallTarget}
use Rattle.ash_typed.specs.declared.tree.operations.Method.{Method}
use Rattle.ash_typed.specs.declared.types.VarType.{VarType}
use Rattle.ash_typed.specs.TypedTree.{Expr, Exprs, exprs, Operate, Lazily, converted}
use Rattle.ash_typed.specs.TypedTreeViews.{expr_in, expr_of, linked, chained, all_linked, all_chained, all_lazies}
use Rattle.ash_typed.proofs.Rows.{path_is, chain_is, lazy_is, call_is, exprs_of-row}
use Rattle.ash_meaning.specs.Activity.{Activity}
use Rattle.ash_meaning.specs.Runs.{Progress, Done, Ended, NoStep, give, onward, ◌>>=◌}
use Rattle.ash_meaning.specs.OperatorMeaning.{converted_to, is_true, operate}
use Rattle.ash_meaning.specs.CallMeaning.{Calls}
use Rattle.ash_meaning.specs.ExpressionMeaning.{expression, arguments, lazily}
use Rattle.ash_walked_phrases.specs.WalkedPhrases.{converted_by, operand_run, operands_run, link_run, links_run, lazies_run, arguments_after, target_run, invocation_run}
use Rattle.ash_walked_phrases.proofs.Composed.{onward_assoc, onward_give, three, four}

module _ (calls : Calls) where
  operated : (before : Option Conversion) (op : Operation) (e v : Expr) (a : Activity) → expression calls (Operate op (converted before e) v) a ≡ onward (expression calls e a) (λ left. expression calls v >>= operate op (converted_by before left))
  operated None op e v a = refl
  operated (Some c) op e v a = onward_assoc (expression calls e a) (λ word. give (converted_to c.to word)) (λ left. expression calls v >>= operate op left)

  pub operands_follow : (e : Expr) (os : List operand_code.Operand) (a : Activity) → expression calls (all_chained e os) a ≡ onward (expression calls e a) (operands_run calls os)
  operands_follow e [] a = sym (onward_give (expression calls e a))
  operands_follow e (o ∷ os) a =
      operands_follow (chained e o) os a
      ∙ ap (λ (p : Progress Word). onward p (operands_run calls os)) (operated o.before o.operation e (expr_of o.value) a)
      ∙ onward_assoc (expression calls e a) (operand_run calls o) (operands_run calls os)

  link_follows : (e : Expr) (l : link_code.Link) (a : Activity) → expression calls (linked e l) a ≡ onward (expression calls e a) (link_run calls l)
  link_follows e (links.Member member) a = four (expression calls e a) _ _ _ _
  link_follows e (links.Index' address index of) a = three (expression calls e a) _ _ _
  link_follows e (links.Invoke' method parameters shape row) a = refl

  pub links_follow : (e : Expr) (ls : List link_code.Link) (a : Activity) → expression calls (all_linked e ls) a ≡ onward (expression calls e a) (links_run calls ls)
  links_follow e [] a = sym (onward_give (expression calls e a))
  links_follow e (l ∷ ls) a =
      links_follow (linked e l) ls a
      ∙ ap (λ (p : Progress Word). onward p (links_run calls ls)) (link_follows e l a)
      ∙ onward_assoc (expression calls e a) (link_run calls l) (links_run calls ls)

  pub lazies_follow : (op : Lazy) (e : Expr) (xs : List expr_code.Expr) (a : Activity) → expression calls (all_lazies op e xs) a ≡ onward (expression calls e a) (lazies_run calls op xs)
  lazies_follow op e [] a = sym (onward_give (expression calls e a))
  lazies_follow op e (x ∷ xs) a =
      lazies_follow op (Lazily op e (expr_of x)) xs a
      ∙ onward_assoc (expression calls e a) (λ left. lazily op (is_true left) (expression calls (expr_of x))) (lazies_run calls op xs)

  -- nodes of the code's trees

  pub chain_follows : (k : kind_code.ExprKind) (first : expr_code.Expr) (os : Vec operand_code.Operand Global) (a : Activity) → k ≡ views.Chain first os → expression calls (expr_in k) a ≡ onward (expression calls (expr_of first) a) (operands_run calls os.items)
  chain_follows k first os a is =
      ap (λ (x : Expr). expression calls x a) (ap expr_in is ∙ chain_is first os) ∙ operands_follow (expr_of first) os.items a

  pub call_follows : (k : kind_code.ExprKind) (target : CallTarget) (ps : Vec VarType Global) (es : Vec expr_code.Expr Global) (a : Activity) → k ≡ views.Call target ps es → expression calls (expr_in k) a ≡ target_run calls target es.items a
  call_follows k target ps es a is = ap (λ (x : Expr). expression calls x a) (ap expr_in is ∙ call_is target ps es)

  pub invoke_follows : (l : link_code.Link) (method : Method) (ps : Vec VarType Global) (es : Vec expr_code.Expr Global) (handle : Word) (a : Activity) → l ≡ views.Invoke method ps es → link_run calls l handle a ≡ invocation_run calls handle method es.items a
  invoke_follows l method ps es handle a is = ap (λ (x : link_code.Link). link_run calls x handle a) is ∙ search (rules, views.the_lemmas, exprs_of-row)

  pub path_follows : (k : kind_code.ExprKind) (base : expr_code.Expr) (ls : Vec link_code.Link Global) (a : Activity) → k ≡ views.Path base ls → expression calls (expr_in k) a ≡ onward (expression calls (expr_of base) a) (links_run calls ls.items)
  path_follows k base ls a is =
      ap (λ (x : Expr). expression calls x a) (ap expr_in is ∙ path_is base ls) ∙ links_follow (expr_of base) ls.items a

  pub lazy_follows : (k : kind_code.ExprKind) (op : Lazy) (first : expr_code.Expr) (xs : Vec expr_code.Expr Global) (a : Activity) → k ≡ views.Lazy op first xs → expression calls (expr_in k) a ≡ onward (expression calls (expr_of first) a) (lazies_run calls op xs.items)
  lazy_follows k op first xs a is =
      ap (λ (x : Expr). expression calls x a) (ap expr_in is ∙ lazy_is op first xs) ∙ lazies_follow op (expr_of first) xs.items a

-- arguments, one after the other

appended : (done : List Word) (word : Word) (p : Progress (List Word)) → onward (onward p (λ rest. give (word ∷ rest))) (λ rest. give (done ++ rest)) ≡ onward p (λ rest. give ((done ++ word ∷ []) ++ rest))
appended done word (Done rest a) = ap (λ (l : List Word). Done l a) (sym (append_assoc done (word ∷ []) rest))
appended done word (Ended i a) = refl
appended done word NoStep = refl

pub spread : (calls : Calls) (done : List Word) (es : Exprs) (p : Progress Word) → onward (onward p (λ word. arguments calls es >>= (λ rest. give (word ∷ rest)))) (λ rest. give (done ++ rest)) ≡ onward p (λ word. arguments_after calls (done ++ word ∷ []) es)
spread calls done es (Done word a) = appended done word (arguments calls es a)
spread calls done es (Ended i a) = refl
spread calls done es NoStep = refl

-- arguments that are in a list, from one on

pub arguments_step : (calls : Calls) (done : List Word) (es : List expr_code.Expr) (i : ℕ) (e : expr_code.Expr) (a : Activity) → i < length es → e ≡ get_or es i e → arguments_after calls done (exprs (map expr_of (drop i es))) a ≡ onward (expression calls (expr_of e) a) (λ word. arguments_after calls (done ++ word ∷ []) (exprs (map expr_of (drop (i + 1) es))))
arguments_step calls done es i e a low is =
    ap (λ (l : List expr_code.Expr). arguments_after calls done (exprs (map expr_of l)) a) (drop_more es i e low ∙ ap (λ (x : expr_code.Expr). x ∷ drop (i + 1) es) (sym is))
    ∙ spread calls done (exprs (map expr_of (drop (i + 1) es))) (expression calls (expr_of e) a)

pub arguments_end : (calls : Calls) (done : List Word) (es : List expr_code.Expr) (i : ℕ) (a : Activity) → length es ≤ i → arguments_after calls done (exprs (map expr_of (drop i es))) a ≡ Done done a
arguments_end calls done es i a over =
    ap (λ (l : List expr_code.Expr). arguments_after calls done (exprs (map expr_of l)) a) (drop_all i es over) ∙ ap (λ (l : List Word). Done l a) (append-nil done)

pub arguments_begin : (calls : Calls) (es : Exprs) (a : Activity) → arguments_after calls [] es a ≡ arguments calls es a
arguments_begin calls es a = onward_give (arguments calls es a)
