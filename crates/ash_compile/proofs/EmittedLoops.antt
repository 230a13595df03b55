-- Emitted code of loops.
use Rattle.std.proofs.Common.{◌≡◌, ◌≤◌, ◌<◌, ℕ, ◌+◌, List, [], length, refl, sym, ap, ◌∙◌, subst, arith}
use Rattle.std.proofs.Common.{true, false, Bool, rules, map}
use Rattle.std.specs.Prelude.{Option, Some, None, IfSome, option_map, slice_get, if◌then◌else◌}
use Rattle.std.specs.List.{AllByRecursion}
use Rattle.ash_typed.specs.declared.types.VarType.{VarType}
use Rattle.ash_typed.specs.declared.tree.statements.Test.{Test}
use Rattle.ash_typed.specs.declared.tree.statements.Test.TheVariants as kinds
use Rattle.std.specs.declared.boxed.Box.{Box}
use Rattle.std.specs.declared.vec.Vec.{Vec}
use Rattle.std.specs.declared.alloc.Global.{Global}
use Rattle.ash_typed.specs.declared.tree.statements.Loop as loop_code
use Rattle.ash_typed.specs.declared.tree.statements.StmtKind.TheViews as views
use Rattle.ash_typed.specs.declared.tree.expressions.Expr as code_expr
use Rattle.ash_typed.specs.declared.tree.statements.Stmt as code_stmt
use Rattle.ash_typed.specs.TypedTreeViews.{expr_of}
use Rattle.ash_typed.specs.BodyViews.{stmt_of, loop_of}
use Rattle.ash_typed.specs.TypedTree.{Expr}
use Rattle.ash_typed.specs.StatementTree.{Stmt, repeated}
use Rattle.ash_typed.specs.SoundStatements.{TypedScope, IsSoundStmt, IsLoop, IsEvaluated, MayBeSoundCondition}
use Rattle.ash_typed.specs.SoundStatements as typing
use Rattle.ash_meaning.specs.Runs.{◌>>◌}
use Rattle.ash_meaning.specs.Frames.{tick}
use Rattle.ash_meaning.specs.StatementMeaning.{statement, loop, condition_or_true, evaluate_all, Continued}
use Rattle.ash_code.specs.declared.instruction.Instruction.{Instruction}
use Rattle.ash_code.specs.declared.instruction.Instruction.TheVariants as i
use Rattle.ash_code.specs.Running.{instruction_at}
use Rattle.ash_compile.specs.declared.builder.Written.{Written}
use Rattle.ash_compile.specs.declared.layout.Layout.{Layout}
use Rattle.ash_compile.specs.declared.bodies.Scope.{Scope}
use Rattle.ash_compile.specs.declared.bodies.Branch.{Branch}
use Rattle.ash_compile.specs.Layout.{IsLayout}
use Rattle.ash_compile.specs.Performances.{Exits, Decides, Reaches, Lands, by_release, never}
use Rattle.ash_compile.specs.Emission.{code_of, end_of, Keeps, Puts, Leads, Scene, IsScene, Suits, Good, calls_of}
use Rattle.ash_compile.specs.EmittedStatements.{waits, AreBelow, AreApart, with_jumps, Joins, StandsWith, shown}
use Rattle.ash_compile.specs.EmittedStatements.{IsIn, typed_scope, DoesFlow, DoesActs, EmitsStatement, EmitsEvaluations}
use Rattle.ash_compile.specs.EmittedStatements.{branch_on, Tests, MayTest, MayLead, Landing, EmitsLoopBody, EmitsLoop, loop_entry}
use Rattle.ash_compile.specs.EmittedStatements.{LeadsAll, EndsBody, HasNoContinue, NextTurn}
use Rattle.ash_compile.proofs.EmittedTests.{next_does}
use Rattle.ash_compile.proofs.Emission.{HasAt, keeps_on, put_keeps, put_one, put_there, suits_before}
use Rattle.ash_compile.proofs.EmittedBranches.{leads_end, leads_there, leads_other, leads_keeps, suits_led}
use Rattle.ash_compile.proofs.TypedStatements.{ranked_of, never_continues}
use Rattle.ash_compile.proofs.Statements as code
use Rattle.ash_compile.proofs.StatementCode.{does_no_condition, does_first_loop, does_last_loop}
use Rattle.ash_compile.proofs.Drafts.{joins_none, joins_wider, apart_breaks}
use Rattle.ash_compile.proofs.Drafts.{shown_code, shown_same}
use Rattle.ash_compile.proofs.EmittedParts.{keeps_same}

-- landings

pub landing_keeps : (old new : Written) (places : List ℕ) (start : Written) → Keeps start old
    → ((k : ℕ) → k < end_of start → waits places k ≡ false)
    → Landing old new places → Keeps start new
landing_keeps old new places start keeps none lands = record {
  longer = omega (arith, keeps.longer, lands.long);
  same = λ k low. lands.code k (omega (arith, low, keeps.longer))
      ∙ ap (λ (t : Bool). if t then Some (i.Jump (end_of old + 1)) else slice_get (code_of old) k) (none k low)
      ∙ keeps.same k low;
  slots = omega (arith, keeps.slots, lands.slots);
  layout = lands.layout ∙ keeps.layout;
}

pub landing_suits : (s : Scene) (old new : Written) (places : List ℕ) → Landing old new places → Suits s new → Suits s old
landing_suits s old new places lands suits = record {
  slots = omega (arith, lands.slots, suits.slots);
  layout = subst (λ (l : Layout). IsLayout ((s.setting).code).module ((s.context).program).tree l) lands.layout suits.layout;
}

-- The body of a loop has its own jumps of `continue`.
pub loop_body : (c0 c1 c2 : Written) (breaks breaks' continues own : List ℕ) (x : Stmt) (scope : Scope)
    → EmitsStatement (with_jumps c0 breaks []) (with_jumps c1 breaks' own) x (record scope { continued = scope.locals })
    → Landing c1 c2 own
    → EmitsLoopBody (with_jumps c0 breaks continues) (with_jumps c2 breaks' continues) x scope
loop_body c0 c1 c2 breaks breaks' continues own x scope emits lands = record {
  grows = record {
    code = keeps;
    breaks = joins;
    continues = joins_none continues (end_of c0) (end_of c2) keeps.longer;
    apart = λ below_breaks below_continues apart.
        apart_breaks breaks breaks' continues (end_of c0) (end_of c2) joins below_continues apart;
  };
  continues = refl;
  does = λ s exits result b c scene inside sound no_breaks no_continues apart stands suits.
      let again = end_of c1 + 1 in
      let inner : Exits = record exits { continued = record { at = again; outer = length (s.env).locals } } in
      let d1 = with_jumps c1 breaks' own in
      let d2 = with_jumps c2 breaks' continues in
      let behind : (k : ℕ) → end_of c1 ≤ k → shown exits d2 k ≡ slice_get (code_of c2) k
      = λ k low. shown_code exits d2 k (((emits.grows).breaks).below no_breaks k low)
      (no_continues k (omega (arith, low, ((emits.grows).code).longer))) in
      let before : (k : ℕ) → end_of c0 ≤ k → k < end_of c1 → shown exits d2 k ≡ shown inner d1 k
      = λ k low high.
      ap (λ (t : Bool). if waits breaks' k then Some (i.Jump (exits.broken).at)
      else (if t then Some (i.Jump (exits.continued).at) else slice_get (code_of c2) k)) (no_continues k low)
      ∙ ap (λ (o : Option Instruction). if waits breaks' k then Some (i.Jump (exits.broken).at) else o) (lands.code k high) in (
        end_of c1,
        again,
        emits.does s inner result b true scene
            (record {
              locals = inside.locals;
              broken = inside.broken;
              continued = inside.locals;
              keeps_broken = inside.keeps_broken;
              keeps_continued = omega arith;
              returns = inside.returns;
            })
            sound no_breaks (λ k low. refl) (λ k waiting. refl)
            (λ k low high. stands k low (omega (arith, high, lands.long)) ∙ before k low high)
            (landing_suits s c1 c2 own lands suits),
        code.jumps s.setting (Good s) s.function s.room (end_of c1) (end_of c2)
            (stands (end_of c1) ((emits.grows).code).longer (omega (arith, lands.long))
            ∙ behind (end_of c1) (omega arith) ∙ lands.past),
        by_release
            (stands again (omega (arith, ((emits.grows).code).longer)) (omega (arith, lands.long))
            ∙ behind again (omega arith) ∙ lands.release)
            lands.long,
      );
}
  where
    keeps : Keeps c0 c2
    keeps = landing_keeps c1 c2 own c0 (emits.grows).code
        (λ k low. ((emits.grows).continues).same k low) lands

    joins : Joins breaks breaks' (end_of c0) (end_of c2)
    joins = joins_wider breaks breaks' (end_of c0) (end_of c0) (end_of c1) (end_of c2) (omega arith) (omega (arith, lands.long))
        (emits.grows).breaks

-- So has one without `continue`: there is nothing to lead to.
loop_body_without : (c0 c1 c2 : Written) (breaks breaks' continues own : List ℕ) (x : Stmt) (scope : Scope) (to : ℕ)
    → EmitsStatement (with_jumps c0 breaks []) (with_jumps c1 breaks' own) x (record scope { continued = scope.locals })
    → LeadsAll c1 c2 own to → HasNoContinue x
    → EmitsLoopBody (with_jumps c0 breaks continues) (with_jumps c2 breaks' continues) x scope
loop_body_without c0 c1 c2 breaks breaks' continues own x scope to emits leads none = record {
  grows = record {
    code = keeps;
    breaks = joins;
    continues = joins_none continues (end_of c0) (end_of c2) keeps.longer;
    apart = λ below_breaks below_continues apart.
        apart_breaks breaks breaks' continues (end_of c0) (end_of c2) joins below_continues apart;
  };
  continues = refl;
  does = λ s exits result b c scene inside sound no_breaks no_continues apart stands suits.
      let inner : Exits = record exits { continued = record { at = to; outer = length (s.env).locals } } in
      let d1 = with_jumps c1 breaks' own in
      let d2 = with_jumps c2 breaks' continues in
      let before : (k : ℕ) → end_of c0 ≤ k → shown exits d2 k ≡ shown inner d1 k
      = λ k low.
      ap (λ (t : Bool). if waits breaks' k then Some (i.Jump (exits.broken).at)
      else (if t then Some (i.Jump (exits.continued).at) else slice_get (code_of c2) k)) (no_continues k low)
      ∙ ap (λ (o : Option Instruction). if waits breaks' k then Some (i.Jump (exits.broken).at) else o) (leads.code k) in (
        end_of c2,
        to,
        subst (λ (n : ℕ). DoesFlow s inner (statement (calls_of s) s.depth x) (end_of c0) n (length (s.env).locals))
            (sym leads.long)
            (emits.does s inner result b true scene
            (record {
              locals = inside.locals;
              broken = inside.broken;
              continued = inside.locals;
              keeps_broken = inside.keeps_broken;
              keeps_continued = omega arith;
              returns = inside.returns;
            })
            sound no_breaks (λ k low. refl) (λ k waiting. refl)
            (λ k low high. stands k low (omega (arith, high, leads.long)) ∙ before k low)
            (record {
              slots = omega (arith, leads.slots, suits.slots);
              layout = subst (λ (l : Layout). IsLayout ((s.setting).code).module ((s.context).program).tree l) leads.layout
                  suits.layout;
            })),
        code.stays s.setting (Good s) s.function s.room (end_of c2),
        never (λ a d good is.
            never_continues s scene result b x a d (none (typed_scope s result b true) sound) good is),
      );
}
  where
    keeps : Keeps c0 c2
    keeps = record {
      longer = omega (arith, ((emits.grows).code).longer, leads.long);
      same = λ k low. leads.code k
          ∙ ap (λ (t : Bool). if t then Some (i.Jump to) else slice_get (code_of c1) k) (((emits.grows).continues).same k low)
          ∙ ((emits.grows).code).same k low;
      slots = omega (arith, ((emits.grows).code).slots, leads.slots);
      layout = leads.layout ∙ ((emits.grows).code).layout;
    }

    joins : Joins breaks breaks' (end_of c0) (end_of c2)
    joins = joins_wider breaks breaks' (end_of c0) (end_of c0) (end_of c1) (end_of c2) (omega arith) (omega (arith, leads.long))
        (emits.grows).breaks

pub loop_body_ends : (c0 c1 c2 : Written) (breaks breaks' continues own : List ℕ) (x : Stmt) (scope : Scope)
    → EmitsStatement (with_jumps c0 breaks []) (with_jumps c1 breaks' own) x (record scope { continued = scope.locals })
    → EndsBody c1 c2 own x
    → EmitsLoopBody (with_jumps c0 breaks continues) (with_jumps c2 breaks' continues) x scope
loop_body_ends c0 c1 c2 breaks breaks' continues own x scope emits (EndsBody.lands lands) =
    loop_body c0 c1 c2 breaks breaks' continues own x scope emits lands
loop_body_ends c0 c1 c2 breaks breaks' continues own x scope emits (EndsBody.none {to = to} leads none) =
    loop_body_without c0 c1 c2 breaks breaks' continues own x scope to emits leads none

-- conditions of loops, which may be absent

pub may_test_keeps : (c1 c2 : Written) (e : Option Expr) (slot : ℕ) (branch : Option Branch)
    → MayTest c1 c2 e slot branch → Keeps c1 c2
may_test_keeps c1 c2 (Some e) slot branch tests = (tests.2).keeps
may_test_keeps c1 c2 None slot branch tests = subst (λ (c : Written). Keeps c1 c) (sym tests.0) (keeps_same c1)

pub may_test_within : (c1 c2 : Written) (e : Option Expr) (slot end : ℕ) (branch : Option Branch)
    → MayTest c1 c2 e slot branch → end_of c2 ≤ end → IfSome branch (λ branch. branch.at < end)
may_test_within c1 c2 (Some e) slot end branch tests later =
    subst (λ (o : Option Branch). IfSome o (λ branch. branch.at < end)) (sym tests.1)
    (omega (arith, (tests.2).end, later))
may_test_within c1 c2 None slot end branch tests later =
    subst (λ (o : Option Branch). IfSome o (λ branch. branch.at < end)) (sym tests.1) tt

pub record Headed (c1 c2 c6 c7 : Written) (e : Option Expr) (slot to : ℕ) : Type 0 where
  pub keeps : Keeps c1 c2
  pub long : end_of c7 ≡ end_of c6
  pub slots : c7.slots ≡ c6.slots
  pub layout : c7.layout ≡ c6.layout
  pub before : (k : ℕ) → k < end_of c1 → slice_get (code_of c7) k ≡ slice_get (code_of c6) k
  pub behind : (k : ℕ) → end_of c2 ≤ k → slice_get (code_of c7) k ≡ slice_get (code_of c6) k
  pub does : (s : Scene) → IsScene s → slot ≡ length (s.env).locals → MayBeSoundCondition s.env e
      → ((k : ℕ) → end_of c1 ≤ k → k < end_of c2
      → instruction_at (s.setting).code (record { function = s.function; at = k }) ≡ slice_get (code_of c7) k)
      → ((k : ℕ) → end_of c1 ≤ k → k < end_of c2 → slice_get (code_of c6) k ≡ slice_get (code_of c2) k)
      → Suits s c2
      → Decides s.setting (Good s) s.function s.room (condition_or_true (calls_of s) e) (end_of c1) (end_of c2) to
      (length (s.env).locals)

headed_by : (c1 c2 c6 c7 : Written) (e : Expr) (slot to : ℕ) (test : Branch) → Tests c1 c2 e slot test
    → Leads c6 c7 test.at (branch_on test.condition to)
    → end_of c2 ≤ end_of c6 → Headed c1 c2 c6 c7 (Some e) slot to
headed_by c1 c2 c6 c7 e slot to test tests leads later = record {
  keeps = tests.keeps;
  long = leads_end c6 c7 test.at (branch_on test.condition to) leads;
  slots = leads.slots;
  layout = leads.layout;
  before = λ k low. leads_other c6 c7 test.at k (branch_on test.condition to) leads
      (λ is. omega (arith, is, low, tests.later));
  behind = λ k low. leads_other c6 c7 test.at k (branch_on test.condition to) leads
      (λ is. omega (arith, is, low, tests.end));
  does = λ s scene is typed stands same suits.
      tests.does s to scene is typed
      (λ k low high. stands k low (omega (arith, high, tests.end))
      ∙ leads_other c6 c7 test.at k (branch_on test.condition to) leads (λ is. omega (arith, is, high))
      ∙ same k low (omega (arith, high, tests.end)))
      (stands test.at (tests.later) (omega (arith, tests.end))
      ∙ leads_there c6 c7 test.at (branch_on test.condition to) leads (omega (arith, tests.end, later)))
      suits;
}

pub headed : (c1 c2 c6 c7 : Written) (e : Option Expr) (slot to : ℕ) (branch : Option Branch) → MayTest c1 c2 e slot branch
    → MayLead c6 c7 branch to → end_of c2 ≤ end_of c6 → Headed c1 c2 c6 c7 e slot to
headed c1 c2 c6 c7 (Some e) slot to branch tests leads later =
    headed_by c1 c2 c6 c7 e slot to tests.0 tests.2
    (subst (λ (o : Option Branch). MayLead c6 c7 o to) tests.1 leads) later
headed c1 c2 c6 c7 None slot to branch tests leads later =
    let same : c7 ≡ c6 = subst (λ (o : Option Branch). MayLead c6 c7 o to) tests.1 leads in
    record {
      keeps = subst (λ (c : Written). Keeps c1 c) (sym tests.0) (keeps_same c1);
      long = ap end_of same;
      slots = ap (λ (c : Written). c.slots) same;
      layout = ap (λ (c : Written). c.layout) same;
      before = λ k low. ap (λ (c : Written). slice_get (code_of c) k) same;
      behind = λ k low. ap (λ (c : Written). slice_get (code_of c) k) same;
      does = λ s scene is typed stands code suits.
          subst (λ (c : Written). Decides s.setting (Good s) s.function s.room (condition_or_true (calls_of s) None)
          (end_of c1) (end_of c) to (length (s.env).locals)) (sym tests.0)
          (does_no_condition s scene (ranked_of s scene) (end_of c1) to);
    }

-- What is repeated: c1 with its entry, c2 with the condition, c3 with the entry led to the body, c4 with the body, c5 with
-- the steps, c6 with the tick of the next turn, c7 with the branch led out.
module _ (c0 c1 c2 c3 c4 c5 c6 c7 : Written) (breaks breaks' continues : List ℕ) (test : Test) (line : ℕ)
    (e : Option Expr) (es : List Expr) (x : Stmt) (scope : Scope) (entry head to body pending : ℕ)
    (enters : Puts c0 c1 scope.locals (loop_entry test line pending)) (head_is : head ≡ end_of c1)
    (entry_is : entry ≡ end_of c0) (body_is : body ≡ end_of c2) (to_is : to ≡ end_of c6)
    (conditional : Headed c1 c2 c6 c7 e scope.locals to)
    (led : Leads c2 c3 entry (loop_entry test line body))
    (inside : EmitsLoopBody (with_jumps c3 breaks continues) (with_jumps c4 breaks' continues) x scope)
    (steps : EmitsEvaluations c4 c5 es scope.locals)
    (j : Instruction) (next : NextTurn e line head body j) (loops : Puts c5 c6 scope.locals j) where
  one : end_of c1 ≡ end_of c0 + 1
  one = put_one c0 c1 scope.locals (loop_entry test line pending) enters

  three : end_of c3 ≡ end_of c2
  three = leads_end c2 c3 entry (loop_entry test line body) led

  six : end_of c6 ≡ end_of c5 + 1
  six = put_one c5 c6 scope.locals j loops

  from_start : Keeps c0 c3
  from_start = leads_keeps c0 c2 c3 entry (loop_entry test line body)
      (keeps_on c0 c1 c2 (put_keeps c0 c1 scope.locals (loop_entry test line pending) enters) conditional.keeps)
      (omega (arith, entry_is)) led

  last : Keeps c5 c6
  last = put_keeps c5 c6 scope.locals j loops

  from_body : Keeps c3 c6
  from_body = keeps_on c3 c4 c6 (inside.grows).code (keeps_on c4 c5 c6 steps.keeps last)

  keeps : Keeps c0 c7
  keeps =
      let all = keeps_on c0 c3 c6 from_start from_body in
      record {
        longer = omega (arith, all.longer, conditional.long);
        same = λ k low. conditional.before k (omega (arith, low, one)) ∙ all.same k low;
        slots = omega (arith, all.slots, conditional.slots);
        layout = conditional.layout ∙ all.layout;
      }

  suits6 : (s : Scene) → Suits s c7 → Suits s c6
  suits6 s suits = record {
    slots = omega (arith, conditional.slots, suits.slots);
    layout = subst (λ (l : Layout). IsLayout ((s.setting).code).module ((s.context).program).tree l) conditional.layout
        suits.layout;
  }

  joins : Joins breaks breaks' (end_of c0) (end_of c7)
  joins = joins_wider breaks breaks' (end_of c0) (end_of c3) (end_of c4) (end_of c7) from_start.longer
      (omega (arith, steps.keeps.longer, six, conditional.long)) ((inside.grows).breaks)

  pub repeats : EmitsLoop (with_jumps c0 breaks continues) (with_jumps c7 breaks' continues) line (repeated test e es x) scope
  repeats = record {
    grows = record {
      code = keeps;
      breaks = joins;
      continues = joins_none continues (end_of c0) (end_of c7) keeps.longer;
      apart = λ below_breaks below_continues apart.
          apart_breaks breaks breaks' continues (end_of c0) (end_of c7) joins below_continues apart;
    };
    continues = refl;
    does = λ s exits result b c scene is_in sound no_breaks no_continues apart stands suits.
        by_sound s exits result b c scene is_in sound no_breaks no_continues apart stands suits;
  }
    where
      by_sound : (s : Scene) (exits : Exits) (result : Option VarType) (b c : Bool) → IsScene s → IsIn scope s exits result
          → IsLoop (typed_scope s result b c) (repeated test e es x)
          → AreBelow (end_of c0) breaks → AreBelow (end_of c0) continues → AreApart breaks continues
          → StandsWith s exits (with_jumps c7 breaks' continues) (end_of c0) (end_of c7) → Suits s c7
          → DoesFlow s exits (loop (calls_of s) s.depth line (repeated test e es x)) (end_of c0) (end_of c7)
          (length (s.env).locals)
      by_sound s exits result b c scene is_in (typing.loop typed_e typed_es sound_x) no_breaks no_continues apart stands suits =
          let F : ℕ → Option Instruction = λ k. instruction_at (s.setting).code (record { function = s.function; at = k }) in
          let d7 = with_jumps c7 breaks' continues in
          let d4 = with_jumps c4 breaks' continues in
          let suits_6 = suits6 s suits in
          let suits_3 = suits_before s c3 c6 from_body suits_6 in
          let early : (k : ℕ) → end_of c0 ≤ k → k < end_of c3 → F k ≡ slice_get (code_of c7) k
          = λ k low high. stands k low (omega (arith, high, from_body.longer, conditional.long))
          ∙ shown_code exits d7 k (((inside.grows).breaks).same k high ∙ no_breaks k low) (no_continues k low) in
          let late : (k : ℕ) → end_of c4 ≤ k → k < end_of c7 → F k ≡ slice_get (code_of c6) k
          = λ k low high.
          stands k (omega (arith, low, from_start.longer, ((inside.grows).code).longer)) high
          ∙ shown_code exits d7 k
          (((inside.grows).breaks).below (λ n more. no_breaks n (omega (arith, more, from_start.longer))) k low)
          (no_continues k (omega (arith, low, from_start.longer, ((inside.grows).code).longer)))
          ∙ conditional.behind k (omega (arith, low, three, ((inside.grows).code).longer)) in
          let entered : F (end_of c0) ≡ Some (loop_entry test line (end_of c2))
          = early (end_of c0) (omega arith) (omega (arith, one, three, (conditional.keeps).longer))
          ∙ conditional.before (end_of c0) (omega (arith, one))
          ∙ from_body.same (end_of c0) (omega (arith, one, three, (conditional.keeps).longer))
          ∙ subst (λ (n : ℕ). slice_get (code_of c3) n ≡ Some (loop_entry test line body)) entry_is
          (leads_there c2 c3 entry (loop_entry test line body) led (omega (arith, entry_is, one, (conditional.keeps).longer)))
          ∙ ap (λ (n : ℕ). Some (loop_entry test line n)) body_is in
          let tests = conditional.does s scene is_in.locals typed_e
          (λ k low high. early k (omega (arith, low, one)) (omega (arith, high, three)))
          (λ k low high. from_body.same k (omega (arith, high, three))
          ∙ leads_other c2 c3 entry k (loop_entry test line body) led (λ is. omega (arith, is, entry_is, one, low)))
          (suits_led s c2 c3 entry (loop_entry test line body) led suits_3) in
          let bodied = inside.does s exits result true true scene is_in sound_x
          (λ k low. no_breaks k (omega (arith, low, from_start.longer)))
          (λ k low. no_continues k (omega (arith, low, from_start.longer))) apart
          (λ k low high.
          stands k (omega (arith, low, from_start.longer))
          (omega (arith, high, (steps.keeps).longer, six, conditional.long))
          ∙ shown_same exits d4 d7 k refl refl (conditional.behind k (omega (arith, low, three))
          ∙ (keeps_on c4 c5 c6 steps.keeps last).same k high))
          (suits_before s c4 c6 (keeps_on c4 c5 c6 steps.keeps last) suits_6) in
          let acts = steps.does s scene is_in.locals typed_es
          (λ k low high. late k low (omega (arith, high, six, conditional.long)) ∙ last.same k high)
          (suits_before s c5 c6 last suits_6) in
          let looped : F (end_of c5) ≡ Some j
          = late (end_of c5) ((steps.keeps).longer) (omega (arith, six, conditional.long))
          ∙ put_there c5 c6 scope.locals j loops in
          let tested = subst (λ (n : ℕ). Decides s.setting (Good s) s.function s.room (condition_or_true (calls_of s) e)
          (end_of c1) (end_of c2) n (length (s.env).locals)) (to_is ∙ sym conditional.long) tests in
          by_test s exits result scene typed_e typed_es sound_x bodied.0 bodied.1 test tested
          (subst (λ (n : ℕ). DoesFlow s
          (record exits { continued = record { at = bodied.1; outer = length (s.env).locals } })
          (statement (calls_of s) s.depth x) n bodied.0 (length (s.env).locals)) three bodied.2)
          bodied.3 bodied.4 acts
          (next_does s line e (end_of c5) (end_of c1) (end_of c2) (end_of c7) j scene typed_e
          (subst (λ (n : ℕ). NextTurn e line (end_of c1) n j) body_is
          (subst (λ (n : ℕ). NextTurn e line n body j) head_is next))
          looped (conditional.long ∙ six) tested)
          entered
        where
          by_test : (s : Scene) (exits : Exits) (result : Option VarType) → (scene : IsScene s)
              → MayBeSoundCondition s.env e → AllByRecursion (IsEvaluated s.env) es
              → IsSoundStmt (typed_scope s result true true) x
              → (done again : ℕ) (kind : Test)
              → Decides s.setting (Good s) s.function s.room (condition_or_true (calls_of s) e) (end_of c1) (end_of c2) (end_of c7)
              (length (s.env).locals)
              → DoesFlow s (record exits { continued = record { at = again; outer = length (s.env).locals } })
              (statement (calls_of s) s.depth x) (end_of c2) done (length (s.env).locals)
              → Reaches s.setting s.function done (end_of c4)
              → Lands s.setting (Good s) s.function s.room Continued (statement (calls_of s) s.depth x) again (end_of c4)
              → DoesActs s (evaluate_all (calls_of s) es) (end_of c4) (end_of c5) (length (s.env).locals)
              → Decides s.setting (Good s) s.function s.room (tick line >> condition_or_true (calls_of s) e) (end_of c5)
              (end_of c2) (end_of c7) (length (s.env).locals)
              → HasAt s (end_of c0) (loop_entry kind line (end_of c2))
              → DoesFlow s exits (loop (calls_of s) s.depth line (repeated kind e es x)) (end_of c0) (end_of c7)
              (length (s.env).locals)
          by_test s exits result scene typed_e typed_es sound_x done again kinds.First tests bodied reaches lands acts next_one has =
              does_first_loop s scene (ranked_of s scene) exits line e es x result (end_of c1) (end_of c2) done again (end_of c4)
              (end_of c5) (end_of c7) typed_e typed_es sound_x tests bodied reaches lands acts next_one (end_of c0) has one
          by_test s exits result scene typed_e typed_es sound_x done again kinds.Last tests bodied reaches lands acts next_one has =
              does_last_loop s scene (ranked_of s scene) exits line e es x result (end_of c1) (end_of c2) done again (end_of c4)
              (end_of c5) (end_of c7) typed_e typed_es sound_x tests bodied reaches lands acts next_one (end_of c0)
              (code.jumps s.setting (Good s) s.function s.room (end_of c0) (end_of c2) has)

-- what the code's loop stands for

loop_made : (test : Test) (e : Option code_expr.Expr) (es : Vec code_expr.Expr Global) (x : Box code_stmt.Stmt Global)
    → loop_of (loop_code.roll-Loop (record { test = test; condition = e; steps = es; body = x }))
    ≡ repeated test (option_map expr_of e) (map expr_of es.items) (stmt_of x.value)
loop_made test e es x = search (rules, views.the_lemmas)

pub loop_is : (l : loop_code.Loop)
    → loop_of l
    ≡ repeated (loop_code.out-Loop l).test (option_map expr_of (loop_code.out-Loop l).condition)
    (map expr_of ((loop_code.out-Loop l).steps).items) (stmt_of ((loop_code.out-Loop l).body).value)
loop_is l =
    ap loop_of (sym (loop_code.roll-out-Loop l))
    ∙ loop_made (loop_code.out-Loop l).test (loop_code.out-Loop l).condition (loop_code.out-Loop l).steps
    (loop_code.out-Loop l).body
