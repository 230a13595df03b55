-- The code of each statement of a sound module does what the statement does. What typing gives the lemmas on code comes
-- from the laws of sound modules: expressions and statements lead from well-formed activities to well-formed ones
-- (`ExpressionsKeep`, `StatementsKeep`, `BlocksKeep`), and no phrase gains ticks (`TicksFall`).
use Rattle.std.proofs.Common.{◌≡◌, ◌≤◌, ℕ, zero, suc, ◌+◌, List, [], ◌∷◌, length, refl, sym, ap, ◌∙◌, subst, arith, true, false, Bool}
use Rattle.std.specs.Prelude.{Option, Some, None, is_none, if◌then◌else◌}
use Rattle.std.specs.List.{AllByRecursion}
use Rattle.ash_host.specs.declared.word.Word.{Word}
use Rattle.ash_typed.specs.declared.types.VarType.{VarType}
use Rattle.ash_typed.specs.declared.tree.statements.Test.TheVariants as kinds
use Rattle.ash_integers.specs.declared.int_type.IntType.{IntType}
use Rattle.ash_typed.specs.TypeOf.{ValueType}
use Rattle.ash_typed.specs.TypedTree.{Expr}
use Rattle.ash_typed.specs.StatementTree.{Stmt, Empty, Evaluate, Block, If, no_branch, branch, Repeat, For, repeated}
use Rattle.ash_typed.specs.StatementTree.{Switch, Break, Continue, Return, Cases}
use Rattle.ash_typed.specs.SoundExpressions.{IsWellTyped}
use Rattle.ash_typed.specs.SoundStatements.{IsSoundStmt, IsEvaluated, IsSoundCondition, MayBeSoundCondition}
use Rattle.ash_meaning.specs.Activity.{Activity}
use Rattle.ash_meaning.specs.Runs.{Run, Progress, Done, give, skip, ◌>>=◌, ◌>>◌}
use Rattle.ash_meaning.specs.Frames.{tick}
use Rattle.ash_meaning.specs.Releases.{full}
use Rattle.ash_meaning.specs.ExpressionMeaning.{expression}
use Rattle.ash_meaning.specs.StatementMeaning.{Flow, On, Broke, Continued, Returned, Turn, turn, turns, repeat, loop, Labelled, switch}
use Rattle.ash_meaning.specs.StatementMeaning.{statement, statements, condition, condition_or_true, evaluate, evaluate_all, cases, otherwise}
use Rattle.ash_code.specs.declared.instruction.Instruction.{Instruction}
use Rattle.ash_code.specs.declared.instruction.Instruction.TheVariants as i
use Rattle.ash_compile.specs.Stretches.{Has, Computes}
use Rattle.ash_compile.specs.Operands.{Affects}
use Rattle.ash_compile.specs.Performances.{Exits, Acts, Decides, Performs, Reaches, Lands}
use Rattle.ash_compile.specs.Emission.{Scene, IsScene, Good, calls_of, DoesExpression}
use Rattle.ash_compile.proofs.Statements as code
use Rattle.ash_compile.proofs.Statements.{LeadsTo}
use Rattle.ash_compile.proofs.Conditions as conditions
use Rattle.ash_compile.proofs.Conditions.{RanksAfter}
use Rattle.ash_compile.proofs.Leaving as leaving
use Rattle.ash_compile.proofs.Loops as loops
use Rattle.ash_compile.proofs.Loops.{Spends, Whole}
use Rattle.ash_compile.proofs.Switches as switches
use Rattle.ash_compile.proofs.TypedStatements.{Ready, IsRanked, scope_of, whole, spends_then, spends_tick, spends_release}
use Rattle.ash_compile.proofs.TypedStatements.{spends_expression, spends_full, spends_condition, spends_condition_or_true}
use Rattle.ash_compile.proofs.TypedStatements.{spends_evaluate, spends_evaluate_all, spends_statement, spends_repeat}

-- what leads on keeps
pub leads_by : {A : Type 0} {Good : Activity → Type 0} (run : Run A) → Spends Good run → LeadsTo Good run Good
leads_by run spends a b v good is = (spends a b v good is).0

module _ (s : Scene) (scene : IsScene s) (ranked : IsRanked s) where
  abbrev pub locals : ℕ
  locals = length (s.env).locals

  abbrev pub HasAt : ℕ → Instruction → Type 0
  HasAt = Has s.setting (Ready s) s.function s.room

  -- The code from one place to another does a statement that declares nothing.
  abbrev pub Does : Exits → Run Flow → ℕ → ℕ → Type 0
  Does exits run from to = Performs s.setting (Ready s) s.function s.room exits run from to locals locals

  abbrev pub DoesParts : Run (Unit {0}) → ℕ → ℕ → Type 0
  DoesParts run from to = Acts s.setting (Ready s) s.function s.room run from to locals locals

  abbrev pub DoesTest : Run Bool → ℕ → ℕ → ℕ → Type 0
  DoesTest run from met unmet = Decides s.setting (Ready s) s.function s.room run from met unmet locals

  ready : (e : Expr) (from to slot : ℕ) → DoesExpression s e from to slot
      → Computes s.setting (Ready s) s.function s.room (expression (calls_of s) e) from to slot
  ready e from to slot does = record {
    within = does.within;
    comes = λ w a rest low long fits good. does.comes w a rest low long fits good;
  }

  ready_effect : (e : Expr) (from to slot : ℕ)
      → Affects s.setting (Good s) s.function s.room (expression (calls_of s) e) from to slot
      → Affects s.setting (Ready s) s.function s.room (expression (calls_of s) e) from to slot
  ready_effect e from to slot does = record {
    comes = λ w a rest low long fits good. does.comes w a rest low long fits good;
  }

  pub ranks_after : (e : Expr) (of : ValueType) → IsWellTyped s.env e of
      → RanksAfter s.setting (Ready s) (expression (calls_of s) e)
  ranks_after e of typed a b v good is = ranked s.env b (((spends_expression s scene e of typed a b v good is).0).0)

  pub ticked : (line : ℕ) → LeadsTo (Ready s) (tick line) (Ready s)
  ticked line = leads_by (tick line) (spends_tick s scene line)

  -- parts of statements

  pub does_evaluation : (e : Expr) (of : ValueType) (from mid : ℕ) → IsWellTyped s.env e of
      → Affects s.setting (Good s) s.function s.room (expression (calls_of s) e) from mid locals
      → HasAt mid i.EndExpression
      → DoesParts (evaluate (calls_of s) e) from (mid + 1)
  does_evaluation e of from mid typed does has =
      conditions.evaluates s.setting (Ready s) s.function s.room (expression (calls_of s) e) from mid locals
      (ready_effect e from mid locals does) has (ranks_after e of typed)

  pub does_no_steps : (at : ℕ) → DoesParts (evaluate_all (calls_of s) []) at at
  does_no_steps at = code.acts_none s.setting (Ready s) s.function s.room at locals

  pub does_steps : (e : Expr) (es : List Expr) (from mid to : ℕ) → IsEvaluated s.env e
      → DoesParts (evaluate (calls_of s) e) from mid
      → DoesParts (evaluate_all (calls_of s) es) mid to
      → DoesParts (evaluate_all (calls_of s) (e ∷ es)) from to
  does_steps e es from mid to typed first second =
      code.acts_then s.setting (Ready s) s.function s.room (Ready s) (evaluate (calls_of s) e) (evaluate_all (calls_of s) es)
      from mid to locals locals locals first
      (leads_by (evaluate (calls_of s) e) (spends_evaluate s scene e typed)) second

  pub does_condition : (e : Expr) (from mid unmet : ℕ) → IsSoundCondition s.env e
      → DoesExpression s e from mid locals
      → HasAt mid (i.Branch locals unmet)
      → DoesTest (condition (calls_of s) e) from (mid + 1) unmet
  does_condition e from mid unmet typed does has =
      conditions.decides s.setting (Ready s) s.function s.room (expression (calls_of s) e) from mid unmet locals
      (ready e from mid locals does) has (ranks_after e _ typed)

  pub does_no_condition : (at unmet : ℕ) → DoesTest (condition_or_true (calls_of s) None) at at unmet
  does_no_condition at unmet = conditions.always s.setting (Ready s) s.function s.room at unmet locals

  -- statements

  pub does_empty : (exits : Exits) (line at : ℕ) → HasAt at (i.Tick line)
      → Does exits (statement (calls_of s) s.depth (Empty line)) at (at + 1)
  does_empty exits line at has = code.does_nothing s.setting (Ready s) s.function s.room exits line at locals has

  pub does_evaluate : (exits : Exits) (line : ℕ) (e : Expr) (from to : ℕ)
      → HasAt from (i.Tick line)
      → DoesParts (evaluate (calls_of s) e) (from + 1) to
      → Does exits (statement (calls_of s) s.depth (Evaluate line e)) from to
  does_evaluate exits line e from to has acts =
      code.does s.setting (Ready s) s.function s.room exits (Ready s) (evaluate (calls_of s) e) line from to locals locals
      has (ticked line) acts

  pub does_if_else : (exits : Exits) (line : ℕ) (e : Expr) (x y : Stmt) (from met unmet back to : ℕ)
      → IsSoundCondition s.env e
      → HasAt from (i.Tick line)
      → DoesTest (condition (calls_of s) e) (from + 1) met unmet
      → Does exits (statement (calls_of s) s.depth x) met back
      → Reaches s.setting s.function back to
      → Does exits (statement (calls_of s) s.depth y) unmet to
      → Does exits (statement (calls_of s) s.depth (If line e x (branch y))) from to
  does_if_else exits line e x y from met unmet back to typed has tests first leads second =
      conditions.if_else s.setting (Ready s) s.function s.room exits (Ready s) (Ready s) (condition (calls_of s) e)
      (statement (calls_of s) s.depth x) (statement (calls_of s) s.depth y) line from met unmet back to locals has
      (ticked line) tests (leads_by (condition (calls_of s) e) (spends_condition s scene e _ typed)) first leads second

  pub does_if : (exits : Exits) (line : ℕ) (e : Expr) (x : Stmt) (from met to : ℕ)
      → IsSoundCondition s.env e
      → HasAt from (i.Tick line)
      → DoesTest (condition (calls_of s) e) (from + 1) met to
      → Does exits (statement (calls_of s) s.depth x) met to
      → Does exits (statement (calls_of s) s.depth (If line e x no_branch)) from to
  does_if exits line e x from met to typed has tests first =
      conditions.if_else s.setting (Ready s) s.function s.room exits (Ready s) (Ready s) (condition (calls_of s) e)
      (statement (calls_of s) s.depth x) (otherwise (calls_of s) s.depth no_branch) line from met to to to locals has
      (ticked line) tests (leads_by (condition (calls_of s) e) (spends_condition s scene e _ typed)) first
      (code.stays s.setting (Ready s) s.function s.room to)
      (code.performs_none s.setting (Ready s) s.function s.room exits to locals)

  pub does_break : (exits : Exits) (line from to : ℕ) → (exits.broken).outer ≤ locals
      → HasAt from (i.Tick line)
      → HasAt (from + 1) (i.LeaveBlocks (exits.broken).outer)
      → HasAt (from + 1 + 1) (i.Jump (exits.broken).at)
      → Does exits (statement (calls_of s) s.depth (Break line)) from to
  does_break exits line from to fewer first second third =
      leaving.breaks s.setting (Ready s) s.function s.room exits line from to locals locals fewer first second third

  pub does_continue : (exits : Exits) (line from to : ℕ) → (exits.continued).outer ≤ locals
      → HasAt from (i.Tick line)
      → HasAt (from + 1) (i.LeaveBlocks (exits.continued).outer)
      → HasAt (from + 1 + 1) (i.Jump (exits.continued).at)
      → Does exits (statement (calls_of s) s.depth (Continue line)) from to
  does_continue exits line from to fewer first second third =
      leaving.continues s.setting (Ready s) s.function s.room exits line from to locals locals fewer first second third

  pub does_return_value : (exits : Exits) (line : ℕ) (e : Expr) (from at to : ℕ)
      → HasAt from (i.Tick line)
      → DoesExpression s e (from + 1) at locals
      → HasAt at (i.Return locals)
      → ((v this : Word) → exits.gives (Some v) this ≡ Some v)
      → Does exits (statement (calls_of s) s.depth (Return line (Some e))) from to
  does_return_value exits line e from at to has does has_return gives =
      leaving.returns_value s.setting (Ready s) s.function s.room exits (Ready s) (expression (calls_of s) e) line from at to
      locals locals has (ticked line) (ready e (from + 1) at locals does) has_return gives

  pub does_return : (exits : Exits) (line from to : ℕ)
      → HasAt from (i.Tick line)
      → leaving.Ends s.setting (Ready s) s.function s.room exits (from + 1)
      → Does exits (statement (calls_of s) s.depth (Return line None)) from to
  does_return exits line from to has ends =
      leaving.returns_nothing s.setting (Ready s) s.function s.room exits line from to locals locals has ends

  -- loops

  pub does_back : (line : ℕ) (c : Option Expr) (back head inside out : ℕ)
      → DoesTest (condition_or_true (calls_of s) c) head inside out
      → HasAt back (i.Loop line head)
      → DoesTest (tick line >> condition_or_true (calls_of s) c) back inside out
  does_back line c back head inside out tests has =
      loops.ticks_back s.setting (Ready s) s.function s.room (condition_or_true (calls_of s) c) line back head inside out
      locals tests has (ticked line)

  abbrev turn_of : ℕ → Option Expr → List Expr → Stmt → Turn
  turn_of line c es x = record {
    line = line;
    condition = condition_or_true (calls_of s) c;
    steps = evaluate_all (calls_of s) es;
    body = statement (calls_of s) s.depth x;
  }

  module _ (exits : Exits) (line : ℕ) (c : Option Expr) (es : List Expr) (x : Stmt) (result : Option VarType)
      (head inside done again steps back out : ℕ)
      (sound_condition : MayBeSoundCondition s.env c)
      (sound_steps : AllByRecursion (IsEvaluated s.env) es)
      (sound_body : IsSoundStmt (scope_of s scene result true true) x)
      (tests : DoesTest (condition_or_true (calls_of s) c) head inside out)
      (body : Does (record exits { continued = record { at = again; outer = locals } })
      (statement (calls_of s) s.depth x) inside done)
      (reaches : Reaches s.setting s.function done steps)
      (lands : Lands s.setting (Ready s) s.function s.room Continued (statement (calls_of s) s.depth x) again steps)
      (acts : DoesParts (evaluate_all (calls_of s) es) steps back)
      (next : DoesTest (tick line >> condition_or_true (calls_of s) c) back inside out) where
    tested : Spends (Ready s) (condition_or_true (calls_of s) c)
    tested = spends_condition_or_true s scene c sound_condition

    stepped : Spends (Ready s) (evaluate_all (calls_of s) es)
    stepped = spends_evaluate_all s scene es sound_steps

    bodied : Spends (Ready s) (statement (calls_of s) s.depth x)
    bodied = spends_statement s scene result true true x sound_body

    pub does_first_loop : (from : ℕ) → HasAt from (i.Tick line) → head ≡ from + 1
        → Does exits (loop (calls_of s) s.depth line (repeated kinds.First c es x)) from out
    does_first_loop from has head_is =
        loops.first_loops s.setting (Ready s) s.function s.room exits (turn_of line c es x) head inside done again steps back
        out locals tests body reaches lands acts next (λ a good. ranked s.env a good.0) (whole s scene) (ticked line)
        (leads_by _ (spends_release s scene)) tested bodied stepped s.depth from has head_is (λ a good. good.1)

    pub does_last_loop : (from : ℕ) → Reaches s.setting s.function from inside
        → Does exits (loop (calls_of s) s.depth line (repeated kinds.Last c es x)) from out
    does_last_loop from leads =
        loops.last_loops s.setting (Ready s) s.function s.room exits (turn_of line c es x) head inside done again steps back
        out locals tests body reaches lands acts next (λ a good. ranked s.env a good.0) (whole s scene) (ticked line)
        (leads_by _ (spends_release s scene)) tested bodied stepped s.depth from leads (λ a good. good.1)

    -- the loop, as it keeps activities
    pub spends_loop : (test : _) → Spends (Ready s) (loop (calls_of s) s.depth line (repeated test c es x))
    spends_loop test = spends_repeat s scene (turn_of line c es x) tested stepped bodied test s.depth

  -- A loop with its tick, past whose end a `break` leads.
  pub does_repeat : (exits : Exits) (line : ℕ) (inside : _) (from broken to : ℕ)
      → HasAt from (i.Tick line)
      → Does (record exits { broken = record { at = broken; outer = locals } }) (loop (calls_of s) s.depth line inside)
      (from + 1) to
      → Spends (Ready s) (loop (calls_of s) s.depth line inside)
      → Lands s.setting (Ready s) s.function s.room Broke (tick line >> loop (calls_of s) s.depth line inside) broken to
      → Does exits (statement (calls_of s) s.depth (Repeat line inside)) from to
  does_repeat exits line inside from broken to has does spends lands =
      let run = tick line >> loop (calls_of s) s.depth line inside in
      let keeps = spends_then (tick line) (λ _. loop (calls_of s) s.depth line inside) (spends_tick s scene line)
      (λ _. spends) in
      loops.after_breaks s.setting (Ready s) s.function s.room exits run from broken to locals
      (loops.ticks_then s.setting (Ready s) s.function s.room (record exits { broken = record { at = broken; outer = locals } })
      (Ready s) (loop (calls_of s) s.depth line inside) line from to locals locals has (ticked line) does)
      lands
      (λ a b good is. (ranked s.env b (((keeps a b Broke good is).0).0), whole s scene b ((keeps a b Broke good is).0)))
