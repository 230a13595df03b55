-- What the rules of typing type is a sound statement, where variables are declared in blocks and in heads of loops
-- alone.
use Rattle.std.specs.List.{AllByRecursion, list_any}
use Rattle.std.proofs.lemmas.Bool.{eqb-true, eq-eqb, leb-true}
use Rattle.std.proofs.lemmas.Option.{same_Some, none-some}
use Rattle.std.proofs.Common.{◌≡◌, ◌^◌, ◌||◌, ◌&&◌, ℕ, zero, suc, ℤ, pos, List, [], ◌∷◌, append-nil, map, Bool, true}
use Rattle.std.proofs.Common.{false, nat_eq, Option, Some, None, refl, sym, ap, subst}
use Rattle.ash_tree.specs.declared.tree.statements.Label.{Label}
use Rattle.ash_tree.specs.declared.tree.statements.Label.TheVariants as labels
use Rattle.ash_tree.specs.Tree as written
use Rattle.ash_integers.specs.declared.int_type.IntType.{IntType}
use Rattle.ash_integers.specs.declared.int_type.IntType.TheVariants as ints
use Rattle.ash_typed.specs.declared.types.VarType.{VarType}
use Rattle.ash_typed.specs.declared.tree.statements.Test.TheVariants.{First, Last}
use Rattle.ash_typed.specs.TypedTree.{Expr}
use Rattle.ash_typed.specs.StatementTree.{Stmt, Empty, Evaluate, Block, If, no_branch, branch, Head, Repeat, For}
use Rattle.ash_typed.specs.StatementTree.{repeated, Switch, Break, Continue, Return, Stmts, stmt, Cases, no_case}
use Rattle.ash_typed.specs.SoundStatements as sound_statements
use Rattle.ash_type_rules.specs.declared.types.Ty.{Ty}
use Rattle.ash_type_rules.specs.declared.types.Ty.TheVariants as ty
use Rattle.ash_type_rules.specs.TypeRules.{var_type, result_type}
use Rattle.ash_type_rules.specs.Environment.{Environment, ClassSignature, type_declared}
use Rattle.ash_type_rules.specs.Coercions.{fits}
use Rattle.ash_type_rules.specs.ModuleDeclarations.{ty_in}
use Rattle.ash_type_rules.specs.Returning.{is_default}
use Rattle.ash_type_rules.specs.Labels.{holds_minus, holds_label, is_same_constant, is_last}
use Rattle.ash_type_rules.specs.Typing.{IsKnown, AllHaveType, none_left, each}
use Rattle.ash_type_rules.specs.Terms.{Term, converted_to}
use Rattle.ash_type_rules.specs.TypedStatements.{IsKnownScope, IsTypedCondition, condition, MayBeTypedCondition, endless, until}
use Rattle.ash_type_rules.specs.TypedStatements.{IsTypedHead, head_is_empty, head_declares, head_evaluates, IsTypedLabel, constant}
use Rattle.ash_type_rules.specs.TypedStatements.{otherwise, tree_of_term, IsTypedStmt, empty, declare, evaluate, block, if_only}
use Rattle.ash_type_rules.specs.TypedStatements.{if_else, while_loop, do_loop, for_loop, switch, break_out, continue_on}
use Rattle.ash_type_rules.specs.TypedStatements.{return_nothing, return_value, AreTypedStmts, no_more_stmts, more_stmts}
use Rattle.ash_type_rules.specs.TypedStatements.{AreTypedCases, no_more_cases, more_cases}
use Rattle.ash_type_rules.specs.Nesting.{IsNoDeclaration, DeclaresInBlocks, AllDeclareInBlocks, CasesDeclareInBlocks}
use Rattle.ash_type_rules.specs.Nesting.{LabelledDeclareInBlocks}
use Rattle.ash_type_rules.specs.Soundness.{seen_in, seen_at}
use Rattle.ash_type_rules.proofs.TypingKnown.{known_type, variable_is_known}
use Rattle.ash_type_rules.proofs.StatementPartsSound.{decls_known, more_known}
use Rattle.ash_type_rules.proofs.SoundnessTypes.{of_type, within, fits_sound}
use Rattle.ash_type_rules.proofs.SoundnessExpressions.{term_sound}
use Rattle.ash_type_rules.proofs.SoundnessVariables.{type_sound, seen_with, variables_sound}
use Rattle.ash_type_rules.specs.Scopes.{Scope, block_of, loop_of, switch_of, with_variables, declared_in, after}

-- scopes

block_known : (scope : Scope) → IsKnownScope scope → IsKnownScope (block_of scope)
block_known scope k = record { env = k.env; result = k.result }

loop_known : (scope : Scope) → IsKnownScope scope → IsKnownScope (loop_of scope)
loop_known scope k = record { env = k.env; result = k.result }

switch_known : (scope : Scope) → IsKnownScope scope → IsKnownScope (switch_of scope)
switch_known scope k = record { env = k.env; result = k.result }

-- what is seen after variables
declaring_is : (scope : Scope) (v : written.Vars)
    → seen_at (with_variables scope (declared_in scope v))
    ≡ sound_statements.declaring (seen_at scope) (map type_declared (declared_in scope v))
declaring_is scope v =
    ap (λ env. record {
      env = env;
      result = result_type scope.result;
      may_break = scope.in_loop || scope.in_switch;
      may_continue = scope.in_loop;
    }) (seen_with scope.env (declared_in scope v))

nothing_declared : (scope : sound_statements.TypedScope) → scope ≡ sound_statements.declaring scope []
nothing_declared scope =
    ap (λ locals.
    record {
      env = record { signatures = scope.env.signatures; this = scope.env.this; locals = locals };
      result = scope.result;
      may_break = scope.may_break;
      may_continue = scope.may_continue;
    }) (sym (append-nil scope.env.locals))

either : (b : Bool) → (b || true) ≡ true
either true = refl
either false = refl

switch_is : (scope : Scope) → seen_at (switch_of scope) ≡ sound_statements.in_switch (seen_at scope)
switch_is scope =
    ap (λ may. record {
      env = seen_in scope.env;
      result = result_type scope.result;
      may_break = may;
      may_continue = scope.in_loop;
    }) (either scope.in_loop)

-- expressions of statements

condition_sound : {env : Environment} {e : written.Expr} {tree : Expr} → IsTypedCondition env e tree → IsKnown env
    → sound_statements.IsSoundCondition (seen_in env) tree
condition_sound {env} (condition {t = t} h i) known = of_type env t.tree t.ty ty.Bool i (term_sound h known).gives

maybe_sound : {env : Environment} {e : Option written.Expr} {tree : Option Expr} → MayBeTypedCondition env e tree
    → IsKnown env → sound_statements.MayBeSoundCondition (seen_in env) tree
maybe_sound endless known = tt
maybe_sound (until h) known = condition_sound h known

steps_sound : {env : Environment} {es : written.Exprs} {ts : List Term} → AllHaveType env es ts → IsKnown env
    → AllByRecursion (sound_statements.IsEvaluated (seen_in env)) (map tree_of_term ts)
steps_sound none_left known = tt
steps_sound (each h rest) known = ((_, (term_sound h known).gives), steps_sound rest known)

-- the head of a `for`, and what is seen after it
record IsSoundHead (scope : Scope) (f : written.Stmt) (h : Head) : Type 0 where
  types : List VarType
  head : sound_statements.IsSoundHead (seen_in scope.env) h types
  known : IsKnownScope (after scope f)
  seen : seen_at (after scope f) ≡ sound_statements.declaring (seen_at scope) types

head_sound : {scope : Scope} {f : written.Stmt} {h : Head} → IsTypedHead scope f h → IsKnownScope scope
    → IsSoundHead scope f h
head_sound {scope} head_is_empty known =
    record { types = []; head = sound_statements.head_is_empty; known = known; seen = nothing_declared (seen_at scope) }
head_sound {scope} (head_declares {v = v} is are) known = record {
  types = map type_declared (declared_in scope v);
  head = sound_statements.head_declares
      (variables_sound are known is (variable_is_known (ty_in scope.env v.of) is)
      (type_sound scope.env.registered scope.env.declarations v.of is));
  known = more_known scope (declared_in scope v) known (decls_known (ty_in scope.env v.of) v.decls is);
  seen = declaring_is scope v;
}
head_sound {scope} (head_evaluates h) known = record {
  types = [];
  head = sound_statements.head_evaluates (_, (term_sound h known.env).gives);
  known = known;
  seen = nothing_declared (seen_at scope);
}

-- labels

minus_within : (k : IntType) (n : ℕ) → holds_minus k n ≡ true → sound_statements.IsWithinMinus k n
minus_within ints.Int n h = leb-true n (2 ^ 31) h
minus_within ints.Uint n h = eqb-true n 0 h
minus_within ints.Int64 n h = leb-true n (2 ^ 63) h
minus_within ints.Uint64 n h = eqb-true n 0 h

constant_within : (k : IntType) (l : Label) → is_default l ≡ false → holds_label k l ≡ true
    → sound_statements.IsConstant k l
constant_within k (labels.Case n) d h = within k n h
constant_within k (labels.CaseMinus n) d h = minus_within k n h
constant_within k labels.Default d h = absurd (cc)

same_pos : (m n : ℕ) → ◌≡◌ {A = ℤ} (pos m) (pos n) → m ≡ n
same_pos m n h = cc

same_minus : (m n : ℕ) → sound_statements.minus m ≡ sound_statements.minus n → m ≡ n
same_minus zero zero h = refl
same_minus zero (suc n) h = absurd (cc)
same_minus (suc m) zero h = absurd (cc)
same_minus (suc m) (suc n) h = cc

-- a number that is its own negative
both_zero : (m n : ℕ) → pos m ≡ sound_statements.minus n → (nat_eq m 0 && nat_eq n 0) ≡ true
both_zero m zero h = rw (same_pos m 0 h) refl
both_zero m (suc n) h = absurd (cc)

swapped : (a b : Bool) → (a && b) ≡ true → (b && a) ≡ true
swapped true true e = refl
swapped true false e = e
swapped false b e = absurd (cc)

same_constant : (l other : Label) → is_default l ≡ false
    → sound_statements.constant_of l ≡ sound_statements.constant_of other → is_same_constant l other ≡ true
same_constant (labels.Case m) (labels.Case n) d h = eq-eqb m n (same_pos m n (same_Some (pos m) (pos n) h))
same_constant (labels.Case m) (labels.CaseMinus n) d h = both_zero m n (same_Some (pos m) (sound_statements.minus n) h)
same_constant (labels.CaseMinus m) (labels.Case n) d h =
    swapped (nat_eq n 0) (nat_eq m 0) (both_zero n m (sym (same_Some (sound_statements.minus m) (pos n) h)))
same_constant (labels.CaseMinus m) (labels.CaseMinus n) d h =
    eq-eqb m n (same_minus m n (same_Some (sound_statements.minus m) (sound_statements.minus n) h))
same_constant labels.Default other d h = absurd (cc)
same_constant (labels.Case m) labels.Default d h = absurd (none-some (pos m) (sym h))
same_constant (labels.CaseMinus m) labels.Default d h = absurd (none-some (sound_statements.minus m) (sym h))

or_false : (a b : Bool) → (a || b) ≡ false → (a ≡ false) × (b ≡ false)
or_false false b h = (refl, h)
or_false true b h = absurd (cc)

all_differ : (l : Label) (before : List Label) → is_default l ≡ false → list_any (is_same_constant l) before ≡ false
    → AllByRecursion (sound_statements.Differs l) before
all_differ l [] d h = tt
all_differ l (other ∷ before) d h =
    let no = or_false (is_same_constant l other) (list_any (is_same_constant l) before) h in
    (λ same. let yes = same_constant l other d same in let never = no.0 in absurd (cc), all_differ l before d no.1)

label_sound : {k : IntType} {before : List Label} {last : Bool} {l : Label} → IsTypedLabel k before last l → (rows : Cases)
    → (last ≡ true → rows ≡ no_case) → sound_statements.IsSoundLabel k before l rows
label_sound {k} (constant {before = before} {l = l} d h i) rows last =
    sound_statements.constant (constant_within k l d h) (all_differ l before d i)
label_sound {k} (otherwise {before = before}) rows last =
    subst (sound_statements.IsSoundLabel k before labels.Default) (sym (last refl)) sound_statements.otherwise

no_rows : {scope : Scope} {k : IntType} {before : List Label} {cs : written.Cases} {rows : Cases}
    → AreTypedCases scope k before cs rows → is_last cs ≡ true → rows ≡ no_case
no_rows no_more_cases h = refl
no_rows (more_cases l ss rest) h = absurd (cc)

-- statements

-- a statement, by itself and with what follows it in its block
record IsSoundStmt (scope : Scope) (s : written.Stmt) (t : Stmt) : Type 0 where
  by_itself : IsNoDeclaration s → sound_statements.IsSoundStmt (seen_at scope) t
  followed : (ts : Stmts) → sound_statements.AreSoundStmts (seen_at (after scope s)) ts
      → sound_statements.AreSoundStmts (seen_at scope) (stmt t ts)
  known : IsKnownScope (after scope s)

plain : (scope : Scope) (s : written.Stmt) (t : Stmt) → after scope s ≡ scope → IsKnownScope scope
    → sound_statements.IsSoundStmt (seen_at scope) t → IsSoundStmt scope s t
plain scope s t e known h = record {
  by_itself = λ n. h;
  followed = λ ts more.
      sound_statements.more_stmts h (subst (λ next. sound_statements.AreSoundStmts (seen_at next) ts) e more);
  known = subst IsKnownScope (sym e) known;
}

-- what is no declaration changes nothing of what is seen
same_after : (scope : Scope) (s : written.Stmt) → IsNoDeclaration s → after scope s ≡ scope
same_after scope (written.Declare p v) h = absurd h
same_after scope _ h = refl

returned_type : (classes : List ClassSignature) (of t : Ty) → fits classes of t ≡ true → result_type of ≡ Some (var_type of)
returned_type classes ty.Void t h = absurd (cc)
returned_type classes _ t h = refl

mutual
  stmt_sound : {scope : Scope} {s : written.Stmt} {t : Stmt} → IsTypedStmt scope s t → IsKnownScope scope
      → DeclaresInBlocks s → IsSoundStmt scope s t
  stmt_sound {scope} (empty {p = p}) known nest =
      plain scope (written.Empty p) (Empty p.line) refl known sound_statements.empty
  stmt_sound {scope} (declare {p = p} {v = v} {values = values} is are) known nest = record {
    by_itself = λ n. absurd n;
    followed = λ ts more.
        sound_statements.declare
        (variables_sound are known is (variable_is_known (ty_in scope.env v.of) is)
        (type_sound scope.env.registered scope.env.declarations v.of is))
        (subst (λ next. sound_statements.AreSoundStmts next ts) (declaring_is scope v) more);
    known = more_known scope (declared_in scope v) known (decls_known (ty_in scope.env v.of) v.decls is);
  }
  stmt_sound {scope} (evaluate {p = p} {e = e} {t = t} h) known nest =
      plain scope (written.Evaluate p e) (Evaluate p.line t.tree) refl known
      (sound_statements.evaluate (_, (term_sound h known.env).gives))
  stmt_sound {scope} (block {p = p} {ss = ss} {ts = ts} h) known nest =
      plain scope (written.Block p ss) (Block p.line ts) refl known
      (sound_statements.block (stmts_sound h (block_known scope known) nest))
  stmt_sound {scope} (if_only {p = p} {c = c} {s = s} {tree = tree} {t = t} h i) known nest =
      plain scope (written.If p c s) (If p.line tree t no_branch) refl known
      (sound_statements.if_only (condition_sound h known.env) ((stmt_sound i known nest.1).by_itself nest.0))
  stmt_sound {scope} (if_else {p = p} {c = c} {s = s} {r = r} {tree = tree} {t = t} {u = u} h i j) known nest =
      plain scope (written.IfElse p c s r) (If p.line tree t (branch u)) refl known
      (sound_statements.if_else (condition_sound h known.env) ((stmt_sound i known nest.1).by_itself nest.0)
      ((stmt_sound j known nest.3).by_itself nest.2))
  stmt_sound {scope} (while_loop {p = p} {c = c} {s = s} {tree = tree} {t = t} h i) known nest =
      plain scope (written.While p c s) (Repeat p.line (repeated First (Some tree) [] t)) refl known
      (sound_statements.repeat
      (sound_statements.loop (condition_sound h known.env) tt
      ((stmt_sound i (loop_known scope known) nest.1).by_itself nest.0)))
  stmt_sound {scope} (do_loop {p = p} {c = c} {s = s} {tree = tree} {t = t} i h) known nest =
      plain scope (written.DoWhile p s c) (Repeat p.line (repeated Last (Some tree) [] t)) refl known
      (sound_statements.repeat
      (sound_statements.loop (condition_sound h known.env) tt
      ((stmt_sound i (loop_known scope known) nest.1).by_itself nest.0)))
  stmt_sound {scope}
      (for_loop {p = p} {f = f} {s = s} {c = c} {es = es} {h = g} {t = t} {tree = tree} {ts = ts} i m all body) known
      nest =
      let head = head_sound i (block_known scope known) in
      let inside =
      sound_statements.loop {test = First} (maybe_sound m head.known.env) (steps_sound all head.known.env)
      ((stmt_sound body (loop_known (after (block_of scope) f) head.known) nest.1).by_itself nest.0) in
      plain scope (written.For p f c es s) (For p.line g (repeated First tree (map tree_of_term ts) t)) refl known
      (sound_statements.for head.head
      (subst (λ next. sound_statements.IsLoop next (repeated First tree (map tree_of_term ts) t)) head.seen inside))
  stmt_sound {scope} (switch {p = p} {e = e} {cs = cs} {t = t} {k = k} {rows = rows} h i are) known nest =
      plain scope (written.Switch p e cs) (Switch p.line k t.tree rows) refl known
      (sound_statements.switch (of_type scope.env t.tree t.ty (ty.Integer k) i (term_sound h known.env).gives)
      (subst (λ next. sound_statements.AreSoundCases next k [] rows) (switch_is scope)
      (cases_sound are (switch_known scope known) nest)))
  stmt_sound {scope} (break_out {p = p} h) known nest =
      plain scope (written.Break p) (Break p.line) refl known (sound_statements.break_out h)
  stmt_sound {scope} (continue_on {p = p} h) known nest =
      plain scope (written.Continue p) (Continue p.line) refl known (sound_statements.continue_on h)
  stmt_sound {scope} (return_nothing {p = p} h) known nest =
      plain scope (written.Return p None) (Return p.line None) refl known
      (sound_statements.return_nothing (ap result_type h))
  stmt_sound {scope} (return_value {p = p} {e = e} {t = t} h i) known nest =
      plain scope (written.Return p (Some e)) (Return p.line (Some (converted_to scope.result t))) refl known
      (sound_statements.return_value (returned_type scope.env.declarations.classes scope.result t.ty i)
      (fits_sound scope.env scope.result t known.result (known_type h known.env) (term_sound h known.env).gives i))

  pub stmts_sound : {scope : Scope} {ss : written.Stmts} {ts : Stmts} → AreTypedStmts scope ss ts → IsKnownScope scope
      → AllDeclareInBlocks ss → sound_statements.AreSoundStmts (seen_at scope) ts
  stmts_sound no_more_stmts known nest = sound_statements.no_stmts
  stmts_sound (more_stmts {ts = ts} h rest) known nest =
      let s = stmt_sound h known nest.0 in
      s.followed ts (stmts_sound rest s.known nest.1)

  cases_sound : {scope : Scope} {k : IntType} {before : List Label} {cs : written.Cases} {rows : Cases}
      → AreTypedCases scope k before cs rows → IsKnownScope scope → CasesDeclareInBlocks cs
      → sound_statements.AreSoundCases (seen_at scope) k before rows
  cases_sound no_more_cases known nest = sound_statements.no_cases
  cases_sound (more_cases {rows = rows} l ss rest) known nest =
      sound_statements.more_cases (label_sound l rows (no_rows rest)) (labelled_sound ss known nest.0)
      (cases_sound rest known nest.1)

  labelled_sound : {scope : Scope} {ss : written.Stmts} {ts : Stmts} → AreTypedStmts scope ss ts → IsKnownScope scope
      → LabelledDeclareInBlocks ss → sound_statements.AreLabelled (seen_at scope) ts
  labelled_sound no_more_stmts known nest = sound_statements.none_labelled
  labelled_sound {scope} (more_stmts {s = s} {ts = ts} h rest) known nest =
      let first = stmt_sound h known nest.1 in
      sound_statements.and_labelled (first.by_itself nest.0)
      (subst (λ next. sound_statements.AreLabelled (seen_at next) ts) (same_after scope s nest.0)
      (labelled_sound rest first.known nest.2))
