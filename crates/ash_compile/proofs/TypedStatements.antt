-- What the laws of sound modules say of the activities in which statements run.
use Rattle.std.proofs.Common.{◌≡◌, ◌≤◌, ℕ, zero, suc, List, [], ◌∷◌, take, length, refl, sym, ap, ◌∙◌, subst, arith, true, false, Bool}
use Rattle.std.specs.Prelude.{Option, Some, None, if◌then◌else◌}
use Rattle.std.specs.List.{AllByRecursion}
use Rattle.std.proofs.lemmas.List.{take_all}
use Rattle.ash_host.specs.declared.word.Word.{Word}
use Rattle.ash_typed.specs.declared.tree.statements.Test.{Test}
use Rattle.ash_typed.specs.declared.tree.statements.Test.TheVariants as tests
use Rattle.ash_typed.specs.declared.types.VarType.{VarType}
use Rattle.ash_typed.specs.TypeOf.{ValueType}
use Rattle.ash_typed.specs.TypedTree.{Expr}
use Rattle.ash_typed.specs.StatementTree.{Stmt}
use Rattle.ash_typed.specs.SoundExpressions.{TypedEnvironment, IsWellTyped}
use Rattle.ash_typed.specs.SoundStatements.{TypedScope, IsSoundStmt, IsEvaluated, MayBeSoundCondition}
use Rattle.ash_meaning.specs.Activity.{Activity, in_frame}
use Rattle.ash_meaning.specs.Runs.{Run, Progress, Done, Ended, NoStep, onward, give, skip, ◌>>=◌, ◌>>◌, out_of_ticks}
use Rattle.ash_meaning.specs.Frames.{tick}
use Rattle.ash_meaning.specs.Releases as releases
use Rattle.ash_meaning.specs.Releases.{full, let_go}
use Rattle.ash_meaning.specs.OperatorMeaning.{is_true}
use Rattle.ash_meaning.specs.ExpressionMeaning.{expression}
use Rattle.ash_meaning.specs.StatementMeaning.{Flow, On, Broke, Continued, Returned, Turn, turn, turns, repeat, after_body}
use Rattle.ash_meaning.specs.StatementMeaning.{statement, condition, condition_or_true, evaluate, evaluate_all}
use Rattle.ash_meaning.proofs.Ticks.{ticks_fall}
use Rattle.ash_soundness.specs.WellFormed.{IsWellFormed}
use Rattle.ash_soundness.specs.WellFormedLaws.{Leads, IsLeftBy, by_itself, by_break, by_continue, by_return}
use Rattle.ash_soundness.proofs.SoundStaysSound as sound
use Rattle.ash_soundness.proofs.Frames.{tick_goes, release_passes, end_passes}
use Rattle.ash_compile.specs.Emission.{Scene, IsScene, calls_of, Good}
use Rattle.ash_compile.proofs.Typed.{left_done, most_left, fewer_ticks, values_long, stays_good}
use Rattle.ash_compile.proofs.Statements.{spent, LeadsTo}
use Rattle.ash_compile.proofs.Loops.{Spends, Whole, released_ticks, came}

-- Activities in which the statements of a function run are those in which its expressions do: they have no more ticks
-- than turns of loops.
abbrev pub Ready : Scene → Activity → Type 0
Ready s = Good s

-- Objects have ranks in every well-formed activity whose callers are those of the function.
abbrev pub IsRanked : Scene → Type 0
IsRanked s =
    (env : TypedEnvironment) (a : Activity) → IsWellFormed s.context env s.envs a
    → ((s.setting).test).has_ranks a.world ≡ true

pub ranked_of : (s : Scene) → IsScene s → IsRanked s
ranked_of s scene env a well = scene.ranks env s.envs a well

pub spends_then : {A B : Type 0} {Good : Activity → Type 0} (p : Run A) (f : A → Run B) → Spends Good p
    → ((v : A) → Spends Good (f v)) → Spends Good (p >>= f)
spends_then p f first second a b v good is =
    let there = came (p a) f v b is in
    let one = first a there.1 there.0 good there.2 in
    let other = second there.0 there.1 b v one.0 there.3 in
    (other.0, omega (arith, one.1, other.1))

pub spends_give : {A : Type 0} (Good : Activity → Type 0) (v : A) → Spends Good (give v)
spends_give {A} Good v a b w good is =
    subst (λ (p : Progress A). At p) is (good, omega arith)
  where
    At : Progress A → Type 0
    At (Done u d) = Good d × (d.ticks ≤ a.ticks)
    At _ = Unit {0}

module _ (s : Scene) (scene : IsScene s) where
  -- the law of ticks, and those of expressions and of statements

  pub spends_tick : (line : ℕ) → Spends (Ready s) (tick line)
  spends_tick line a b v good is =
      let goes = left_done v b (tick_goes line good.0) is in
      let fewer = spent line a b is in
      (((goes.passes).well, omega (arith, fewer, good.1)), omega (arith, fewer))

  pub spends_release : Spends (Ready s) releases.release
  spends_release a b v good is =
      let goes = left_done v b (release_passes good.0) is in
      let same = released_ticks a b is in
      (((goes.passes).well, omega (arith, same, good.1)), omega (arith, same))

  spends_end : Spends (Ready s) releases.end_expression
  spends_end a b v good is =
      let passes = left_done v b (end_passes good.0) is in
      let same = released_ticks (in_frame let_go a) b is in
      ((passes.well, omega (arith, same, good.1)), omega (arith, same))

  pub spends_expression : (e : Expr) (of : ValueType) → IsWellTyped s.env e of
      → Spends (Ready s) (expression (calls_of s) e)
  spends_expression e of typed a b v good is =
      (stays_good s e of a b v scene typed good is, fewer_ticks s e a b v good is)

  pub spends_full : (e : Expr) (of : ValueType) → IsWellTyped s.env e of
      → Spends (Ready s) (full (expression (calls_of s) e))
  spends_full e of typed =
      spends_then (expression (calls_of s) e) (λ v. releases.end_expression >> give v) (spends_expression e of typed)
      (λ v. spends_then releases.end_expression (λ _. give v) spends_end (λ _. spends_give (Ready s) v))

  pub spends_condition : (e : Expr) (of : ValueType) → IsWellTyped s.env e of → Spends (Ready s) (condition (calls_of s) e)
  spends_condition e of typed =
      spends_then (full (expression (calls_of s) e)) (λ word. give (is_true word)) (spends_full e of typed)
      (λ v. spends_give (Ready s) (is_true v))

  pub spends_condition_or_true : (e : Option Expr) → MayBeSoundCondition s.env e
      → Spends (Ready s) (condition_or_true (calls_of s) e)
  spends_condition_or_true None typed = spends_give (Ready s) true
  spends_condition_or_true (Some e) typed = spends_condition e _ typed

  pub spends_evaluate : (e : Expr) → IsEvaluated s.env e → Spends (Ready s) (evaluate (calls_of s) e)
  spends_evaluate e typed =
      spends_then (full (expression (calls_of s) e)) (λ _. skip) (spends_full e typed.0 typed.1) (λ _. spends_give (Ready s) tt)

  pub spends_evaluate_all : (es : List Expr) → AllByRecursion (IsEvaluated s.env) es
      → Spends (Ready s) (evaluate_all (calls_of s) es)
  spends_evaluate_all [] typed = spends_give (Ready s) tt
  spends_evaluate_all (e ∷ es) typed =
      spends_then (evaluate (calls_of s) e) (λ _. evaluate_all (calls_of s) es) (spends_evaluate e typed.0)
      (λ _. spends_evaluate_all es typed.1)

  -- a statement of this scope
  abbrev pub scope_of : Option VarType → Bool → Bool → TypedScope
  scope_of result breaks continues = record {
    env = s.env;
    result = result;
    may_break = breaks;
    may_continue = continues;
  }

  pub leads : (result : Option VarType) (breaks continues : Bool) (x : Stmt) (a b : Activity) (f : Flow)
      → IsSoundStmt (scope_of result breaks continues) x → Ready s a → statement (calls_of s) s.depth x a ≡ Done f b
      → Leads s.context s.env result breaks continues s.envs a f b
  leads result breaks continues x a b f is_sound good is =
      left_done f b
      (sound.statements_keep scene.sound s.depth (scope_of result breaks continues) s.envs x a scene.declares is_sound good.0)
      is

  pub spends_statement : (result : Option VarType) (breaks continues : Bool) (x : Stmt)
      → IsSoundStmt (scope_of result breaks continues) x → Spends (Ready s) (statement (calls_of s) s.depth x)
  spends_statement result breaks continues x is_sound a b f good is =
      let fewer = most_left (statement (calls_of s) s.depth x a) a.ticks f b
      (((ticks_fall (s.context).program s.depth).phrases).statements x a good.1) is in
      ((((leads result breaks continues x a b f is_sound good is).passes).well, omega (arith, fewer, good.1)), fewer)

  -- a statement that may not jump does not
  broke_by : {result : Option VarType} {continues : Bool} {b : Activity} → IsLeftBy s.context result false continues b Broke → ⊥
  broke_by (by_break is) = cc

  continued_by : {result : Option VarType} {breaks : Bool} {b : Activity} → IsLeftBy s.context result breaks false b Continued → ⊥
  continued_by (by_continue is) = cc

  pub never_breaks : (result : Option VarType) (continues : Bool) (x : Stmt) (a b : Activity)
      → IsSoundStmt (scope_of result false continues) x → Ready s a → statement (calls_of s) s.depth x a ≡ Done Broke b → ⊥
  never_breaks result continues x a b is_sound good is =
      broke_by (leads result false continues x a b Broke is_sound good is).left

  pub never_continues : (result : Option VarType) (breaks : Bool) (x : Stmt) (a b : Activity)
      → IsSoundStmt (scope_of result breaks false) x → Ready s a → statement (calls_of s) s.depth x a ≡ Done Continued b
      → ⊥
  never_continues result breaks x a b is_sound good is =
      continued_by (leads result breaks false x a b Continued is_sound good is).left

  -- loops

  module _ (t : Turn) (tested : Spends (Ready s) t.condition) (stepped : Spends (Ready s) t.steps)
      (bodied : Spends (Ready s) t.body) where
    spends_after : (next : Run Flow) → Spends (Ready s) next → (f : Flow) → Spends (Ready s) (after_body t next f)
    spends_after next later On = spends_then t.steps (λ _. next) stepped (λ _. later)
    spends_after next later Continued =
        spends_then (releases.release >> t.steps) (λ _. next) (spends_then releases.release (λ _. t.steps) spends_release
        (λ _. stepped)) (λ _. later)
    spends_after next later Broke = spends_give (Ready s) Broke
    spends_after next later (Returned value) = spends_give (Ready s) (Returned value)

    spends_turn : (next : Run Flow) → Spends (Ready s) next → Spends (Ready s) (turn t next)
    spends_turn next later = spends_then t.body (after_body t next) bodied (spends_after next later)

    spends_if : (next : Run Flow) → Spends (Ready s) next → (u : Bool)
        → Spends (Ready s) (if u then turn t next else give On)
    spends_if next later true = spends_turn next later
    spends_if next later false = spends_give (Ready s) On

    pub spends_turns : (depth : ℕ) → Spends (Ready s) (turns depth t)
    spends_turns zero = λ a b f good is.
        let there = came (tick t.line a) (λ _. out_of_ticks) f b is in
        let last = there.3 in absurd (cc)
    spends_turns (suc depth) =
        spends_then (tick t.line) (λ _. t.condition >>= (λ u. if u then turn t (turns depth t) else give On))
        (spends_tick t.line) (λ _. spends_then t.condition (λ u. if u then turn t (turns depth t) else give On) tested
        (spends_if (turns depth t) (spends_turns depth)))

    pub spends_repeat : (test : Test) (depth : ℕ) → Spends (Ready s) (repeat test depth t)
    spends_repeat tests.First depth = spends_turns depth
    spends_repeat tests.Last depth = spends_turn (turns depth t) (spends_turns depth)

  -- the locals of the function are those of its environment
  pub whole : (a : Activity) → Ready s a → Whole (length (s.env).locals) a
  whole a good =
      sym (take_all (length (s.env).locals) (a.frame).locals (omega (arith, values_long ((good.0).frame).locals)))
