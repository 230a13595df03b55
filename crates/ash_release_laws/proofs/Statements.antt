-- What frames hold after statements, and after calls.
use Rattle.std.proofs.Common.{◌≡◌, ◌+◌, ◌∙◌, ℕ, suc, Bool, true, List, [], ◌∷◌, length, refl, sym, ap, subst, Option, Some, None, arith}
use Rattle.std.proofs.lemmas.List.{length-append}
use Rattle.std.specs.Option.{option_map_or}
use Rattle.ash_host.specs.declared.word.Word.{Word}
use Rattle.ash_typed.specs.TypedTree.{Expr}
use Rattle.ash_typed.specs.StatementTree.{Initialization, Stmt, Empty, Declare, Evaluate, Block, If, Branch, no_branch, branch, Head, no_head, declared_head, evaluated_head, Repeat, For, Loop, repeated, Switch, Break, Continue, Return, Stmts, no_stmt, stmt, Case, labelled, Cases, no_case, next_case}
use Rattle.ash_meaning.specs.Activity.{Frame, Activity}
use Rattle.ash_meaning.specs.Runs.{Progress, Done, Ended, NoStep, Run, give, onward, ◌>>=◌, ◌>>◌}
use Rattle.ash_meaning.specs.Frames.{tick}
use Rattle.ash_meaning.specs.Releases.{full, release, let_go, end_expression, declare}
use Rattle.ash_meaning.specs.Classes.{Program}
use Rattle.ash_meaning.specs.CallMeaning.{Calls}
use Rattle.ash_meaning.specs.OperatorMeaning.{is_true, zero_of}
use Rattle.ash_meaning.specs.ExpressionMeaning.{expression}
use Rattle.ash_meaning.specs.StatementMeaning.{Flow, On, Broke, Continued, Returned, declare_one, declare_all, evaluate, evaluate_all, condition, condition_or_true, begin, return_value, Labelled, statement, otherwise, loop, statements, case_run, cases, after_break, in_block}
use Rattle.ash_meaning.specs.Functions.{body, calls_within}
use Rattle.ash_release_laws.specs.Settling.{AtEachEnd, AtTheValue, IsNumbered, IsSettled, IsSettledBy, IsSettledFrom}
use Rattle.ash_release_laws.specs.Held.{HoldsNothing, LetsGoOfAll, LeavesNothingHeld, HoldsNothingBy, LeavesNothingHeldBy, LeavesMoreLocals, FramesBeginWithNothingHeld, NothingStaysHeld, IsSettledBetweenBy, SettlesBetweenStatements}
use Rattle.ash_release_laws.proofs.Tidy.{Tidied, at_value, at_bind, bound, followed, given, chosen_by, tidy_tick, tidy_declare, Grows, grows, full_lets_go, Passes, tidy_full, IsNoReturn, Flows, tidy_go_on, tidy_after_break, block_left, tidy_block, tidy_repeat, Labels, no_labels, more_labels, tidy_switch}
use Rattle.ash_release_laws.proofs.Settling.{Goes, Comes, done, ended, no_way, Calm, sweep_numbered}
use Rattle.ash_release_laws.proofs.StepSettling.{to_tick}
use Rattle.ash_release_laws.proofs.PhraseSettling.{to_expression, to_statement, to_body}
use Rattle.ash_release_laws.proofs.Settled.{goes_on_settled}

pub frames_begin : (p : Program) → FramesBeginWithNothingHeld p
frames_begin p = record { entered = λ function line this locals a. refl; calls = λ e args budget world. refl; loads = λ budget world. refl }

-- where nothing is held, nothing is let go
let_go_same : (a : Activity) → HoldsNothing a → let_go a.frame ≡ a.frame
let_go_same a none = ap (λ (ns : List ℕ). record a.frame { held = ns }) (sym none)

record SameLocals (a b : Activity) : Type 0 where
  pub numbered : IsNumbered b
  pub locals : length (b.frame).locals ≡ length (a.frame).locals

same_of_comes : {A : Type 0} {a : Activity} {P : Type 0} {Q : A → Activity → Type 0} {q : Progress A} → Comes P (λ (v : A) b. Goes true P (Q v b) a b) q → AtTheValue (λ (v : A) b. SameLocals a b) q
same_of_comes (done g) = record { numbered = g.numbered; locals = (g.kept).locals }
same_of_comes (ended s) = tt
same_of_comes no_way = tt

same_of : {A : Type 0} {r : Run A} → Calm true r → (a : Activity) → IsNumbered a → AtTheValue (λ (v : A) b. SameLocals a b) (r a)
same_of h a numbered = same_of_comes (h.comes a numbered)

-- so many locals more

record MoreLocals (k : ℕ) (a b : Activity) : Type 0 where
  pub numbered : IsNumbered b
  pub locals : length (b.frame).locals ≡ length (a.frame).locals + k

record More {A : Type 0} (k : ℕ) (r : Run A) : Type 0 where
  pub comes : (a : Activity) → IsNumbered a → AtTheValue (λ (v : A) b. MoreLocals k a b) (r a)

more_on : {a b c : Activity} (j k n : ℕ) → j + k ≡ n → MoreLocals j a b → MoreLocals k b c → MoreLocals n a c
more_on j k n e s t = record { numbered = t.numbered; locals = omega (arith, e, s.locals, t.locals) }

more_bound : {A B : Type 0} {r : Run A} {f : A → Run B} (j k : ℕ) {n : ℕ} → j + k ≡ n → More j r → ((v : A) → More k (f v)) → More n (r >>= f)
more_bound {r = r} {f = f} j k {n} e hr h = record {
  comes = λ a numbered. at_bind _ f (r a) (hr.comes a numbered) (λ v b s. at_value (f v b) (λ w c t. more_on j k n e s t) ((h v).comes b s.numbered));
}

one_more : (k : ℕ) → 1 + k ≡ suc k
one_more k = omega arith

none_more : (k : ℕ) → 0 + k ≡ k
none_more k = omega arith

more_of_same : {A : Type 0} {r : Run A} → ((a : Activity) → IsNumbered a → AtTheValue (λ (v : A) b. SameLocals a b) (r a)) → More 0 r
more_of_same {r = r} h = record { comes = λ a numbered. at_value (r a) (λ v b s. record { numbered = s.numbered; locals = omega (arith, s.locals) }) (h a numbered) }

given_more : {A : Type 0} (v : A) → More 0 (give v)
given_more v = record { comes = λ a numbered. record { numbered = numbered; locals = omega arith } }

declare_more : (w : Word) → More 1 (declare w)
declare_more w = record { comes = λ a numbered. record { numbered = numbered; locals = length-append (a.frame).locals (w ∷ []) } }

full_locals : {A : Type 0} (k : ℕ) (a : Activity) (q : Progress A) → AtTheValue (λ (v : A) b. MoreLocals k a b) q → AtTheValue (λ (v : A) b. MoreLocals k a b) (onward q (λ v. end_expression >> give v))
unfolding release
full_locals k a (Done v b) m = record { numbered = sweep_numbered (let_go b.frame ∷ b.callers) b.world m.numbered; locals = m.locals }
full_locals k a (Ended i b) m = tt
full_locals k a NoStep m = tt

full_more : {A : Type 0} {k : ℕ} {r : Run A} → More k r → More k (full r)
full_more {k = k} {r = r} h = record { comes = λ a numbered. full_locals k a (r a) (h.comes a numbered) }

module _ (p : Program) (d : ℕ) where
  abbrev c : Calls
  c = calls_within p d

  grown : (e : Expr) → Grows (expression c e)
  grown e = grows (to_expression p (body p d) (to_body p d) e)

  -- parts of statements

  tidy_variable : (v : Initialization) → Passes (declare_one c v)
  tidy_variable v = go v.value
    where
      go : (value : Option Expr) → Passes (option_map_or (λ e. full (expression c e >>= declare)) value (declare (zero_of v.of)))
      go None = tidy_declare (zero_of v.of)
      go (Some e) = tidy_full (bound (grown e) tidy_declare)

  tidy_variables : (vs : List Initialization) → Passes (declare_all c vs)
  tidy_variables [] = given tt (λ q. q)
  tidy_variables (v ∷ vs) = followed (tidy_variable v) (tidy_variables vs)

  tidy_evaluate : (e : Expr) → Passes (evaluate c e)
  tidy_evaluate e = followed (tidy_full (grown e)) (given tt (λ q. q))

  tidy_evaluate_all : (es : List Expr) → Passes (evaluate_all c es)
  tidy_evaluate_all [] = given tt (λ q. q)
  tidy_evaluate_all (e ∷ es) = followed (tidy_evaluate e) (tidy_evaluate_all es)

  tidy_condition : (e : Expr) → Passes (condition c e)
  tidy_condition e = bound (tidy_full (grown e)) (λ word. given (is_true word) (λ q. q))

  tidy_condition_or_true : (e : Option Expr) → Passes (condition_or_true c e)
  tidy_condition_or_true None = given _ (λ q. q)
  tidy_condition_or_true (Some e) = tidy_condition e

  tidy_begin : (head : Head) → Passes (begin c head)
  tidy_begin no_head = given tt (λ q. q)
  tidy_begin (declared_head vs) = tidy_variables vs
  tidy_begin (evaluated_head e) = tidy_evaluate e

  tidy_return : (e : Option Expr) → Flows (return_value c e)
  tidy_return None = given (Returned None) (λ q. tt)
  tidy_return (Some e) = bound (grown e) (λ word. given (Returned (Some word)) (λ q. q))

  -- statements

  mutual
    tidy_statement : (s : Stmt) → Flows (statement c d s)
    tidy_statement (Empty line) = followed (tidy_tick line) (given On (λ q. q))
    tidy_statement (Declare line vs) = followed (followed (tidy_tick line) (tidy_variables vs)) (given On (λ q. q))
    tidy_statement (Evaluate line x) = followed (followed (tidy_tick line) (tidy_evaluate x)) (given On (λ q. q))
    tidy_statement (Block line ss) = tidy_block (tidy_statements ss)
    tidy_statement (If line x s rest) = bound (followed (tidy_tick line) (tidy_condition x)) (λ b. chosen_by b (tidy_statement s) (tidy_otherwise rest))
    tidy_statement (Repeat line inside) = bound (followed (tidy_tick line) (tidy_loop line inside)) tidy_after_break
    tidy_statement (For line head inside) = bound (followed (tidy_tick line) (tidy_block (followed (tidy_begin head) (tidy_loop line inside)))) tidy_after_break
    tidy_statement (Switch line int_type x cs) = bound (bound (followed (tidy_tick line) (tidy_full (grown x))) (tidy_switch (tidy_cases cs))) tidy_after_break
    tidy_statement (Break line) = followed (tidy_tick line) (given Broke (λ q. q))
    tidy_statement (Continue line) = followed (tidy_tick line) (given Continued (λ q. q))
    tidy_statement (Return line x) = followed (tidy_tick line) (tidy_return x)

    tidy_otherwise : (s : Branch) → Flows (otherwise c d s)
    tidy_otherwise no_branch = given On (λ q. q)
    tidy_otherwise (branch s) = tidy_statement s

    tidy_loop : (line : ℕ) (inside : Loop) → Flows (loop c d line inside)
    tidy_loop line (repeated test x es s) = tidy_repeat line (tidy_condition_or_true x) (tidy_evaluate_all es) (tidy_statement s) test d

    tidy_statements : (ss : Stmts) → Flows (statements c d ss)
    tidy_statements no_stmt = given On (λ q. q)
    tidy_statements (stmt s ss) = bound (tidy_statement s) (tidy_go_on (tidy_statements ss))

    tidy_labels : (x : Case) {ls : List Labelled} → Labels ls → Labels (case_run c d x ∷ ls)
    tidy_labels (labelled l ss) hs = more_labels (tidy_statements ss) hs

    tidy_cases : (cs : Cases) → Labels (cases c d cs)
    tidy_cases no_case = no_labels
    tidy_cases (next_case x cs) = tidy_labels x (tidy_cases cs)

  -- the laws

  by_flow : (a b : Activity) → HoldsNothing a → (flow : Flow) → Tidied (Unit {0}) (IsNoReturn flow) a b → HoldsNothingBy flow b
  by_flow a b none On s = s.held tt none
  by_flow a b none Broke s = s.held tt none
  by_flow a b none Continued s = s.held tt none
  by_flow a b none (Returned value) s = tt

  none_after : {r : Run Flow} → Flows r → LeavesNothingHeldBy r
  none_after {r} h a numbered none = at_value (r a) (λ flow b s. by_flow a b none flow s) (h.comes a numbered)

  -- a run and its skip
  evaluated_of : (q : Progress Word) → AtTheValue (λ (v : Word) b. HoldsNothing b) q → AtTheValue (λ (v : Unit {0}) b. HoldsNothing b) (onward q (λ _. give tt))
  evaluated_of q l = at_bind _ (λ _. give tt) q l (λ v b n. n)

  condition_of : (q : Progress Word) → AtTheValue (λ (v : Word) b. HoldsNothing b) q → AtTheValue (λ (v : Bool) b. HoldsNothing b) (onward q (λ word. give (is_true word)))
  condition_of q l = at_bind _ (λ word. give (is_true word)) q l (λ v b n. n)

  full_none : (r : Run Word) → LetsGoOfAll Word (full r)
  full_none r a = full_lets_go (r a)

  variable_none : (v : Initialization) → LeavesNothingHeld (Unit {0}) (declare_one c v)
  variable_none v a none = go v.value
    where
      go : (value : Option Expr) → AtTheValue (λ (v : Unit {0}) b. HoldsNothing b) (option_map_or (λ e. full (expression c e >>= declare)) value (declare (zero_of v.of)) a)
      go None = none
      go (Some e) = full_lets_go ((expression c e >>= declare) a)

  given_none : (f : Word → Run (Unit {0})) (a : Activity) → HoldsNothing a → (value : Option Expr) → AtTheValue (λ (v : Unit {0}) b. HoldsNothing b) (option_map_or (λ e. full (expression c e >>= f)) value (give tt) a)
  given_none f a none None = none
  given_none f a none (Some e) = full_lets_go ((expression c e >>= f) a)

  -- locals

  plus_none : (t u : ℕ) → t ≡ u → t ≡ u + 0
  plus_none t u e = omega (arith, e)

  block_locals : {r : Run Flow} → Flows r → LeavesMoreLocals 0 (in_block r)
  block_locals {r} h a numbered = at_value (in_block r a) (λ flow b l. plus_none (length (b.frame).locals) (length (a.frame).locals) l.same) (block_left h a numbered)

  break_same : (n : ℕ) (b : Activity) → length (b.frame).locals ≡ n → (flow : Flow) → AtTheValue (λ (f : Flow) z. length (z.frame).locals ≡ n) (after_break flow b)
  unfolding release
  break_same n b same On = same
  break_same n b same Broke = same
  break_same n b same Continued = same
  break_same n b same (Returned value) = same

  for_locals : (line : ℕ) {r : Run Flow} → Flows r → LeavesMoreLocals 0 (tick line >> in_block r >>= after_break)
  for_locals line {r} h a numbered =
      at_bind _ after_break ((tick line >> in_block r) a)
      (at_bind _ (λ _. in_block r) (tick line a) (same_of (to_tick line) a numbered) (λ v b s. at_value (in_block r b) (λ flow z l. l.same ∙ s.locals) (block_left h b s.numbered)))
      (λ flow b same. break_same (length (a.frame).locals + 0) b (plus_none (length (b.frame).locals) (length (a.frame).locals) same) flow)

  expression_more : (e : Expr) → More 0 (expression c e)
  expression_more e = more_of_same (same_of (to_expression p (body p d) (to_body p d) e))

  variable_more : (v : Initialization) → More 1 (declare_one c v)
  variable_more v = go v.value
    where
      go : (value : Option Expr) → More 1 (option_map_or (λ e. full (expression c e >>= declare)) value (declare (zero_of v.of)))
      go None = declare_more (zero_of v.of)
      go (Some e) = full_more (more_bound 0 1 refl (expression_more e) declare_more)

  variables_more : (vs : List Initialization) → More (length vs) (declare_all c vs)
  variables_more [] = given_more tt
  variables_more (v ∷ vs) = more_bound {f = λ _. declare_all c vs} 1 (length vs) (one_more (length vs)) (variable_more v) (λ _. variables_more vs)

  declare_locals : (line : ℕ) (vs : List Initialization) → LeavesMoreLocals (length vs) (tick line >> declare_all c vs >> give On)
  declare_locals line vs a numbered =
      let tick_more : More 0 (tick line) = more_of_same (same_of (to_tick line)) in
      let ran : More (length vs) (tick line >> declare_all c vs) = more_bound {f = λ _. declare_all c vs} 0 (length vs) (none_more (length vs)) tick_more (λ _. variables_more vs) in
      at_bind _ (λ _. give On) ((tick line >> declare_all c vs) a) (ran.comes a numbered) (λ v b m. m.locals)

  evaluate_locals : (line : ℕ) (e : Expr) → LeavesMoreLocals 0 (tick line >> evaluate c e >> give On)
  evaluate_locals line e a numbered =
      let tick_more : More 0 (tick line) = more_of_same (same_of (to_tick line)) in
      let evaluated : More 0 (evaluate c e) = more_bound {f = λ _. give tt} 0 0 refl (full_more (expression_more e)) (λ _. given_more tt) in
      let ran : More 0 (tick line >> evaluate c e) = more_bound {f = λ _. evaluate c e} 0 0 refl tick_more (λ _. evaluated) in
      at_bind _ (λ _. give On) ((tick line >> evaluate c e) a) (ran.comes a numbered) (λ v b m. m.locals)

  pub nothing_stays_held : NothingStaysHeld p d
  nothing_stays_held = record {
    full_expressions = full_none;
    evaluated = λ e a. evaluated_of (full (expression c e) a) (full_lets_go (expression c e a));
    conditions = λ e a. condition_of (full (expression c e) a) (full_lets_go (expression c e a));
    variables = variable_none;
    fields = λ place v a none. given_none _ a none v.value;
    globals = λ place v a none. given_none _ a none v.value;
    statements = λ s. none_after (tidy_statement s);
    lists = λ ss. none_after (tidy_statements ss);
    declarations = declare_locals;
    expressions = evaluate_locals;
    blocks = λ line ss. block_locals (tidy_statements ss);
    for_loops = λ line head inside. for_locals line (followed (tidy_begin head) (tidy_loop line inside));
  }

  -- between statements

  both : (q : Progress Flow) → AtEachEnd IsSettledBy IsSettled q → AtTheValue HoldsNothingBy q → AtTheValue IsSettledBetweenBy q
  both (Done On b) s none = record { nothing_held = none; settled = subst (λ (f : Frame). IsSettledFrom (f ∷ b.callers) b.world) (sym (let_go_same b none)) s }
  both (Done Broke b) s none = tt
  both (Done Continued b) s none = tt
  both (Done (Returned value) b) s none = tt
  both (Ended i b) s none = tt
  both NoStep s none = tt

  pub settles_between : (s : Stmt) → SettlesBetweenStatements (statement c d s)
  settles_between s a numbered between =
      let settled : IsSettled a = subst (λ (f : Frame). IsSettledFrom (f ∷ a.callers) a.world) (let_go_same a between.nothing_held) between.settled in
      both (statement c d s a) (goes_on_settled (to_statement p (body p d) (to_body p d) d s) a numbered settled) (none_after (tidy_statement s) a numbered between.nothing_held)
