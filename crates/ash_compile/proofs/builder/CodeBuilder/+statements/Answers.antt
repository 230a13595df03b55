use Rattle.std.proofs.Common.{◌≡◌, ℕ, ◌+◌, List, [], map, drop, refl, sym, ap, ◌∙◌, subst, arith}
use Rattle.std.specs.Prelude.{Option, option_map}
use Rattle.ash_typed.specs.TypedTree.{Expr}
use Rattle.ash_typed.specs.declared.tree.expressions.Expr as expr_code
use Rattle.ash_typed.specs.declared.tree.statements.Loop as loop_code
use Rattle.ash_typed.specs.declared.tree.statements.Case as case_code
use Rattle.ash_typed.specs.StatementTree.{Case, Cases, no_case, Switch, cases as case_list}
use Rattle.ash_typed.specs.BodyViews.{case_of}
use Rattle.ash_compile.specs.EmittedStatements.{EmitsLabel, EmitsLabels}
use Rattle.ash_code.specs.declared.instruction.Instruction.{Instruction}
use Rattle.ash_typed.specs.declared.tree.statements.Stmt as stmt_code
use Rattle.ash_typed.specs.declared.tree.statements.Initialization as initialization_code
use Rattle.ash_typed.specs.StatementTree.{Stmt, Declare, Block, If, no_branch, branch, Repeat, For, Loop, repeated}
use Rattle.ash_typed.specs.TypedTreeViews.{expr_of}
use Rattle.ash_typed.specs.BodyViews.{stmt_of, stmt_at, body_of, value_of, loop_of, head_of}
use Rattle.ash_typed.proofs.StatementRows.{block_is, switch_is}
use Rattle.std.specs.declared.vec.Vec.{Vec}
use Rattle.std.specs.declared.alloc.Global.{Global}
use Rattle.ash_compile.specs.Emission.{Puts, Leads, end_of}
use Rattle.ash_compile.specs.EmittedStatements.{draft, with_jumps, EmitsStatement, EmitsStatements, EmitsListed, with_count}
use Rattle.ash_compile.specs.EmittedStatements.{AreBelow, LeadsAll, Landing, EndsBody, EmitsLoopBody, EmitsLoop}
use Rattle.ash_compile.specs.EmittedStatements.{EmitsEvaluations}
use Rattle.ash_compile.proofs.Emission.{put_one}
use Rattle.ash_compile.proofs.EmittedBranches.{leads_end}
use Rattle.ash_compile.proofs.Remaining.{next_of, none_of}
use Rattle.ash_compile.proofs.Emitted.{if_ok}
use Rattle.ash_compile.proofs.EmittedSingly as singly
use Rattle.ash_compile.proofs.EmittedBlocks as blocks
use Rattle.ash_compile.proofs.EmittedLoops as loops
use Rattle.ash_compile.proofs.EmittedSwitches as switches
use Rattle.ash_compile.proofs.EmittedRepeats as repeats
use Rattle.ash_compile.proofs.ValidJumps.{same_stands, jump_stands, branch_stands, turn_stands, entry_stands}
use Rattle.ash_compile.proofs.builder.CodeBuilder.+statements.Goals as goal

-- lists

pub statements-loop-stmt-init : goal.statements-loop-stmt-init
statements-loop-stmt-init t c = λ end rest. rest

pub statements-loop-stmt-preserved : goal.statements-loop-stmt-preserved
statements-loop-stmt-preserved t c = λ end rest.
    c.loop-stmt.invariant end
    (subst (λ (xs : List stmt_code.Stmt). EmitsStatements (draft c.loop-stmt.self c.loop-stmt.jumps) end (body_of xs)
    (with_count c.args.scope c.loop-stmt.locals))
    (next_of c.args.stmts.now c.loop-stmt.stmt-index c.stmt-item.result c.loop-stmt-test.true c.stmt-item.is)
    (c.in_ok-locals.ensures.emits end (body_of (drop (c.loop-stmt.stmt-index + 1) c.args.stmts.now)) rest))

pub statements-returns : goal.statements-returns
statements-returns t c = record {
  emits = c.loop-stmt.invariant (draft c.loop-stmt.self c.loop-stmt.jumps)
      (subst (λ (xs : List stmt_code.Stmt). EmitsStatements (draft c.loop-stmt.self c.loop-stmt.jumps)
      (draft c.loop-stmt.self c.loop-stmt.jumps) (body_of xs) (with_count c.args.scope c.loop-stmt.locals))
      (none_of c.args.stmts.now c.loop-stmt.stmt-index c.loop-stmt-test.false)
      (blocks.no_statements (draft c.loop-stmt.self c.loop-stmt.jumps) (with_count c.args.scope c.loop-stmt.locals)));
}

pub block-returns : goal.block-returns
block-returns t c = record {
  emits = if_ok c.put.result
      (λ u puts. blocks.block (draft c.args.self.now c.args.jumps.now) (draft c.statements.new.self c.statements.new.jumps)
      c.put.new.self c.args.line (body_of c.args.stmts.now) c.args.scope c.in_ok-statements.ensures.emits puts)
      c.put.ensures.puts;
}

-- `if`

pub if_only-returns : goal.if_only-returns
if_only-returns t c = record {
  emits = blocks.if_only c.args.self.now c.tick.new.self c.condition.new.self c.statement.new.self c.lead.new.self
      (c.args.jumps.now.breaks).items (c.args.jumps.now.continues).items (c.statement.new.jumps.breaks).items
      (c.statement.new.jumps.continues).items c.args.line (expr_of c.args.condition.now) (stmt_of c.args.then.now) c.args.scope
      c.in_ok-branch.branch.at c.here-end.result c.in_ok-branch.branch.condition c.in_ok-tick.ensures.puts c.in_ok-branch.ensures.emits
      c.in_ok-statement.ensures.emits c.here-end.ensures.place
      (subst (λ (j : Instruction). Leads c.statement.new.self c.lead.new.self c.in_ok-branch.branch.at j) c.branch_to.ensures.branch
      c.lead.ensures.leads);
}

pub if_else-returns : goal.if_else-returns
if_else-returns t c = record {
  emits = blocks.if_else c.args.self.now c.tick.new.self c.condition.new.self c.statement.new.self c.put.new.self
      c.statement-2.new.self c.lead.new.self c.lead-2.new.self
      (c.args.jumps.now.breaks).items (c.args.jumps.now.continues).items (c.statement.new.jumps.breaks).items
      (c.statement.new.jumps.continues).items (c.statement-2.new.jumps.breaks).items
      (c.statement-2.new.jumps.continues).items c.args.line (expr_of c.args.condition.now) (stmt_of c.args.then.now)
      (stmt_of c.args.otherwise.now) c.args.scope c.in_ok-test.test.at c.here-back.result c.here-other.result c.here-end.result
      c.in_ok-test.test.condition
      c.in_ok-tick.ensures.puts c.in_ok-test.ensures.emits c.in_ok-statement.ensures.emits c.in_ok-put.ensures.puts
      c.in_ok-statement-2.ensures.emits c.here-back.ensures.place c.here-other.ensures.place c.here-end.ensures.place
      (subst (λ (j : Instruction). Leads c.statement-2.new.self c.lead.new.self c.in_ok-test.test.at j) c.branch_to.ensures.branch
      c.lead.ensures.leads)
      c.lead-2.ensures.leads;
}

-- statements

pub statement-returns-in-Empty : goal.statement-returns-in-Empty
statement-returns-in-Empty t c = record {
  emits = if_ok c.tick.result
      (λ u emits. blocks.of_kind (draft c.args.self.now c.args.jumps.now) (draft c.tick.new.self c.args.jumps.now) c.args.stmt.now.line
      c.args.stmt.now.kind _ _ c.args.scope c.in-Empty.is (refl)
      (singly.empty c.args.self.now c.tick.new.self c.args.stmt.now.line c.args.scope emits (c.args.jumps.now.breaks).items (c.args.jumps.now.continues).items))
      c.tick.ensures.puts;
}

pub statement-returns-in-Declare : goal.statement-returns-in-Declare
statement-returns-in-Declare t c = record {
  emits = if_ok c.declared.result
      (λ u emits. blocks.of_kind (draft c.args.self.now c.args.jumps.now) (draft c.declared.new.self c.args.jumps.now) c.args.stmt.now.line
      c.args.stmt.now.kind _ _ c.args.scope c.in-Declare.is (refl)
      (subst (λ (vs : List initialization_code.Initialization). EmitsStatement (draft c.args.self.now c.args.jumps.now)
      (draft c.declared.new.self c.args.jumps.now) (Declare c.args.stmt.now.line (map value_of vs)) c.args.scope)
      c.deref.ensures.value (emits (c.args.jumps.now.breaks).items (c.args.jumps.now.continues).items)))
      c.declared.ensures.emits;
}

pub statement-returns-in-Evaluate : goal.statement-returns-in-Evaluate
statement-returns-in-Evaluate t c = record {
  emits = if_ok c.evaluated.result
      (λ u emits. blocks.of_kind (draft c.args.self.now c.args.jumps.now) (draft c.evaluated.new.self c.args.jumps.now) c.args.stmt.now.line
      c.args.stmt.now.kind _ _ c.args.scope c.in-Evaluate.is (refl)
      (emits (c.args.jumps.now.breaks).items (c.args.jumps.now.continues).items))
      c.evaluated.ensures.emits;
}

pub statement-returns-in-Block : goal.statement-returns-in-Block
statement-returns-in-Block t c = record {
  emits = if_ok c.block.result
      (λ u emits. blocks.of_kind (draft c.args.self.now c.args.jumps.now) (draft c.block.new.self c.block.new.jumps) c.args.stmt.now.line
      c.args.stmt.now.kind _ _ c.args.scope c.in-Block.is (block_is c.args.stmt.now.line c.in-Block.stmts)
      (subst (λ (xs : List stmt_code.Stmt). EmitsStatement (draft c.args.self.now c.args.jumps.now)
      (draft c.block.new.self c.block.new.jumps) (Block c.args.stmt.now.line (body_of xs)) c.args.scope)
      c.deref-in-Block.ensures.value emits))
      c.block.ensures.emits;
}

pub statement-returns-in-None : goal.statement-returns-in-None
statement-returns-in-None t c = record {
  emits = if_ok c.if_only.result
      (λ u emits. blocks.of_kind (draft c.args.self.now c.args.jumps.now) (draft c.if_only.new.self c.if_only.new.jumps) c.args.stmt.now.line
      c.args.stmt.now.kind _ _ c.args.scope c.in-If.is (blocks.if_only_is c.args.stmt.now.line c.in-If.condition c.in-If.then c.in-If.otherwise c.in-None.is)
      (subst (λ (x : stmt_code.Stmt). EmitsStatement (draft c.args.self.now c.args.jumps.now)
      (draft c.if_only.new.self c.if_only.new.jumps) (If c.args.stmt.now.line (expr_of c.in-If.condition) (stmt_of x) no_branch)
      c.args.scope) c.deref-in-None.ensures emits))
      c.if_only.ensures.emits;
}

pub statement-returns-in-Some : goal.statement-returns-in-Some
statement-returns-in-Some t c = record {
  emits = if_ok c.if_else.result
      (λ u emits. blocks.of_kind (draft c.args.self.now c.args.jumps.now) (draft c.if_else.new.self c.if_else.new.jumps) c.args.stmt.now.line
      c.args.stmt.now.kind _ _ c.args.scope c.in-If.is (blocks.if_else_is c.args.stmt.now.line c.in-If.condition c.in-If.then c.in-Some.otherwise c.in-If.otherwise c.in-Some.is)
      (subst (λ (y : stmt_code.Stmt). EmitsStatement (draft c.args.self.now c.args.jumps.now)
      (draft c.if_else.new.self c.if_else.new.jumps) (If c.args.stmt.now.line (expr_of c.in-If.condition)
      (stmt_of c.in-If.then.value) (branch (stmt_of y))) c.args.scope) c.deref-in-Some-2.ensures
      (subst (λ (x : stmt_code.Stmt). EmitsStatement (draft c.args.self.now c.args.jumps.now)
      (draft c.if_else.new.self c.if_else.new.jumps) (If c.args.stmt.now.line (expr_of c.in-If.condition)
      (stmt_of x) (branch (stmt_of c.deref-in-Some-2.result.now))) c.args.scope) c.deref-in-Some.ensures emits)))
      c.if_else.ensures.emits;
}

pub statement-returns-in-Repeat : goal.statement-returns-in-Repeat
statement-returns-in-Repeat t c = record {
  emits = if_ok c.repeat.result
      (λ u emits. blocks.of_kind (draft c.args.self.now c.args.jumps.now) (draft c.repeat.new.self c.repeat.new.jumps) c.args.stmt.now.line
      c.args.stmt.now.kind _ _ c.args.scope c.in-Repeat.is (refl)
      (emits))
      c.repeat.ensures.emits;
}

pub statement-returns-in-For : goal.statement-returns-in-For
statement-returns-in-For t c = record {
  emits = if_ok c.for_loop.result
      (λ u emits. blocks.of_kind (draft c.args.self.now c.args.jumps.now) (draft c.for_loop.new.self c.for_loop.new.jumps) c.args.stmt.now.line
      c.args.stmt.now.kind _ _ c.args.scope c.in-For.is (refl)
      (emits))
      c.for_loop.ensures.emits;
}

pub statement-returns-in-Break : goal.statement-returns-in-Break
statement-returns-in-Break t c = record {
  emits = if_ok c.break_out.result
      (λ u emits. blocks.of_kind (draft c.args.self.now c.args.jumps.now) (draft c.break_out.new.self c.break_out.new.jumps) c.args.stmt.now.line
      c.args.stmt.now.kind _ _ c.args.scope c.in-Break.is (refl)
      (emits))
      c.break_out.ensures.emits;
}

pub statement-returns-in-Continue : goal.statement-returns-in-Continue
statement-returns-in-Continue t c = record {
  emits = if_ok c.continue_on.result
      (λ u emits. blocks.of_kind (draft c.args.self.now c.args.jumps.now) (draft c.continue_on.new.self c.continue_on.new.jumps) c.args.stmt.now.line
      c.args.stmt.now.kind _ _ c.args.scope c.in-Continue.is (refl)
      (emits))
      c.continue_on.ensures.emits;
}

pub statement-returns-in-Return : goal.statement-returns-in-Return
statement-returns-in-Return t c = record {
  emits = if_ok c.returning.result
      (λ u emits. blocks.of_kind (draft c.args.self.now c.args.jumps.now) (draft c.returning.new.self c.args.jumps.now) c.args.stmt.now.line
      c.args.stmt.now.kind _ _ c.args.scope c.in-Return.is (refl)
      (emits (c.args.jumps.now.breaks).items (c.args.jumps.now.continues).items))
      c.returning.ensures.emits;
}

-- lists

pub listed-returns-in-Declare : goal.listed-returns-in-Declare
listed-returns-in-Declare t c = record {
  emits = if_ok c.declaration.result
      (λ more emits. subst (λ (x : Stmt). EmitsListed (draft c.args.self.now c.args.jumps.now)
      (draft c.declaration.new.self c.args.jumps.now) x c.args.scope more)
      (sym (ap (stmt_at c.args.stmt.now.line) c.in-Declare.is))
      (subst (λ (vs : List initialization_code.Initialization). EmitsListed (draft c.args.self.now c.args.jumps.now)
      (draft c.declaration.new.self c.args.jumps.now) (Declare c.args.stmt.now.line (map value_of vs)) c.args.scope more)
      c.deref.ensures.value
      (emits (c.args.jumps.now.breaks).items (c.args.jumps.now.continues).items)))
      c.declaration.ensures.emits;
}

pub listed-returns-in_ok-statement-in_default : goal.listed-returns-in_ok-statement-in_default
listed-returns-in_ok-statement-in_default t c = record {
  emits = blocks.listed (draft c.args.self.now c.args.jumps.now) (draft c.statement.new.self c.statement.new.jumps)
      (stmt_of c.args.stmt.now) c.args.scope
      (blocks.not_declared c.args.stmt.now.line c.args.stmt.now.kind c.in_default.not-Declare)
      c.in_ok-statement-in_default.ensures.emits;
}

-- jumps that are led

pub if_only-lead-requires : goal.if_only-lead-requires
if_only-lead-requires t c = record {
  there = omega (
    arith,
    (c.in_ok-branch.ensures.emits).end,
    (((c.in_ok-statement.ensures.emits).grows).code).longer,
  );
  stands = same_stands c.statement.new.self.layout (end_of c.statement.new.self) c.in_ok-branch.branch.at _ _
      c.branch_to.ensures.branch
      (branch_stands c.statement.new.self.layout (end_of c.statement.new.self) c.in_ok-branch.branch.at
      c.in_ok-branch.branch.condition c.here-end.result
      (omega (
        arith,
        c.here-end.ensures.place,
        (c.in_ok-branch.ensures.emits).end,
        (((c.in_ok-statement.ensures.emits).grows).code).longer,
      ))
      (omega (arith, c.here-end.ensures.place)));
}

pub if_else-lead-requires : goal.if_else-lead-requires
if_else-lead-requires t c = record {
  there = omega (
    arith,
    (c.in_ok-test.ensures.emits).end,
    (((c.in_ok-statement.ensures.emits).grows).code).longer,
    put_one c.statement.new.self c.put.new.self c.args.scope.locals _ c.in_ok-put.ensures.puts,
    (((c.in_ok-statement-2.ensures.emits).grows).code).longer,
  );
  stands = same_stands c.statement-2.new.self.layout (end_of c.statement-2.new.self) c.in_ok-test.test.at _ _
      c.branch_to.ensures.branch
      (branch_stands c.statement-2.new.self.layout (end_of c.statement-2.new.self) c.in_ok-test.test.at
      c.in_ok-test.test.condition c.here-other.result
      (omega (
        arith,
        c.here-other.ensures.place,
        (c.in_ok-test.ensures.emits).end,
        (((c.in_ok-statement.ensures.emits).grows).code).longer,
        put_one c.statement.new.self c.put.new.self c.args.scope.locals _ c.in_ok-put.ensures.puts,
      ))
      (omega (
        arith,
        c.here-other.ensures.place,
        (((c.in_ok-statement-2.ensures.emits).grows).code).longer,
      )));
}

pub if_else-lead-requires-2 : goal.if_else-lead-requires-2
if_else-lead-requires-2 t c = record {
  there = omega (
    arith,
    c.here-back.ensures.place,
    put_one c.statement.new.self c.put.new.self c.args.scope.locals _ c.in_ok-put.ensures.puts,
    (((c.in_ok-statement-2.ensures.emits).grows).code).longer,
    leads_end c.statement-2.new.self c.lead.new.self c.in_ok-test.test.at _ c.lead.ensures.leads,
  );
  stands = jump_stands c.lead.new.self.layout (end_of c.lead.new.self) c.here-back.result c.here-end.result
      (omega (
        arith,
        c.here-back.ensures.place,
        c.here-end.ensures.place,
        put_one c.statement.new.self c.put.new.self c.args.scope.locals _ c.in_ok-put.ensures.puts,
        (((c.in_ok-statement-2.ensures.emits).grows).code).longer,
      ))
      (omega (
        arith,
        c.here-end.ensures.place,
        leads_end c.statement-2.new.self c.lead.new.self c.in_ok-test.test.at _ c.lead.ensures.leads,
      ));
}

-- loops

pub loop_body-body_end-requires : goal.loop_body-body_end-requires
loop_body-body_end-requires t c = record {
  there =
      let none : (c.replace-outer.new.dest).items ≡ []
      = ap (λ (v : Vec ℕ Global). v.items) c.replace-outer.ensures.after ∙ c.new.ensures.items in
      subst (λ (places : List ℕ). AreBelow (end_of c.statement.new.self) places) (sym c.deref.ensures.value)
      ((((c.in_ok-statement.ensures.emits).grows).continues).below
      (subst (λ (places : List ℕ). AreBelow (end_of c.args.self.now) places) (sym none) (λ k low. refl)));
}

pub loop_body-returns : goal.loop_body-returns
loop_body-returns t c = record {
  emits =
      let none : (c.replace-outer.new.dest).items ≡ []
      = ap (λ (v : Vec ℕ Global). v.items) c.replace-outer.ensures.after ∙ c.new.ensures.items in
      subst (λ (places : List ℕ). EmitsLoopBody (draft c.args.self.now c.args.jumps.now)
      (with_jumps c.body_end.new.self (c.statement.new.jumps.breaks).items places) (stmt_of c.args.body.now) c.args.scope)
      (sym (ap (λ (v : Vec ℕ Global). v.items) c.replace-outer.ensures.value))
      (loops.loop_body_ends c.args.self.now c.statement.new.self c.body_end.new.self (c.args.jumps.now.breaks).items
      (c.statement.new.jumps.breaks).items (c.args.jumps.now.continues).items (c.statement.new.jumps.continues).items
      (stmt_of c.args.body.now) c.args.scope
      (subst (λ (places : List ℕ). EmitsStatement (with_jumps c.args.self.now (c.args.jumps.now.breaks).items places)
      (draft c.statement.new.self c.statement.new.jumps) (stmt_of c.args.body.now)
      (record c.args.scope { continued = c.args.scope.locals })) none c.in_ok-statement.ensures.emits)
      (subst (λ (places : List ℕ). EndsBody c.statement.new.self c.body_end.new.self places (stmt_of c.args.body.now))
      c.deref.ensures.value c.in_ok-body_end.ensures.ends));
}

pub repeat-landing-requires : goal.repeat-landing-requires
repeat-landing-requires t c = record {
  there =
      let none : (c.replace-outer.new.dest).items ≡ []
      = ap (λ (v : Vec ℕ Global). v.items) c.replace-outer.ensures.after ∙ c.new.ensures.items in
      subst (λ (places : List ℕ). AreBelow (end_of c.turns.new.self) places) (sym c.deref.ensures.value)
      ((((c.in_ok-turns.ensures.emits).grows).breaks).below
      (subst (λ (places : List ℕ). AreBelow (end_of c.tick.new.self) places) (sym none) (λ k low. refl)));
}

pub repeat-returns : goal.repeat-returns
repeat-returns t c = record {
  emits =
      let none : (c.replace-outer.new.dest).items ≡ []
      = ap (λ (v : Vec ℕ Global). v.items) c.replace-outer.ensures.after ∙ c.new.ensures.items in
      subst (λ (places : List ℕ). EmitsStatement (draft c.args.self.now c.args.jumps.now)
      (with_jumps c.landing.new.self places (c.turns.new.jumps.continues).items)
      (Repeat c.args.line (loop_of c.args.inside.now)) c.args.scope)
      (sym (ap (λ (v : Vec ℕ Global). v.items) c.replace-outer.ensures.value))
      (repeats.repeat c.args.self.now c.tick.new.self c.turns.new.self c.landing.new.self (c.args.jumps.now.breaks).items
      (c.turns.new.jumps.breaks).items (c.args.jumps.now.continues).items (c.turns.new.jumps.continues).items c.args.line
      (loop_of c.args.inside.now) c.args.scope c.in_ok-tick.ensures.puts
      (subst (λ (places : List ℕ). EmitsLoop (with_jumps c.tick.new.self places (c.args.jumps.now.continues).items)
      (draft c.turns.new.self c.turns.new.jumps) c.args.line (loop_of c.args.inside.now)
      (record c.args.scope { broken = c.args.scope.locals })) none c.in_ok-turns.ensures.emits)
      (subst (λ (places : List ℕ). Landing c.turns.new.self c.landing.new.self places) c.deref.ensures.value
      c.in_ok-landing.ensures.lands));
}

pub for_loop-lead_all-requires : goal.for_loop-lead_all-requires
for_loop-lead_all-requires t c = record {
  before =
      let none : (c.replace-outer.new.dest).items ≡ []
      = ap (λ (v : Vec ℕ Global). v.items) c.replace-outer.ensures.after ∙ c.new.ensures.items in
      let first = put_one c.turns.new.self c.put.new.self c.args.scope.locals _ c.in_ok-put.ensures.puts in
      subst (λ (places : List ℕ). AreBelow c.here-end.result places) (sym c.deref.ensures.value)
      (λ k low. (((c.in_ok-turns.ensures.emits).grows).breaks).below
      (subst (λ (places : List ℕ). AreBelow (end_of c.head.new.self) places) (sym none) (λ n high. refl)) k
      (omega (arith, low, first, c.here-end.ensures.place)));
  within = omega (
    arith,
    c.here-end.ensures.place,
    put_one c.put.new.self c.put-2.new.self c.args.scope.locals _ c.in_ok-put-2.ensures.puts,
  );
}

pub for_loop-returns : goal.for_loop-returns
for_loop-returns t c = record {
  emits =
      let none : (c.replace-outer.new.dest).items ≡ []
      = ap (λ (v : Vec ℕ Global). v.items) c.replace-outer.ensures.after ∙ c.new.ensures.items in
      subst (λ (places : List ℕ). EmitsStatement (draft c.args.self.now c.args.jumps.now)
      (with_jumps c.lead_all.new.self places (c.turns.new.jumps.continues).items)
      (For c.args.line (head_of c.args.head.now) (loop_of c.args.inside.now)) c.args.scope)
      (sym (ap (λ (v : Vec ℕ Global). v.items) c.replace-outer.ensures.value))
      (repeats.for_loop c.args.self.now c.tick.new.self c.head.new.self c.turns.new.self c.put.new.self c.put-2.new.self
      c.lead_all.new.self (c.args.jumps.now.breaks).items (c.turns.new.jumps.breaks).items
      (c.args.jumps.now.continues).items (c.turns.new.jumps.continues).items c.args.line (head_of c.args.head.now)
      (loop_of c.args.inside.now) c.args.scope c.in_ok-locals.locals c.here-end.result c.in_ok-tick.ensures.puts
      c.in_ok-locals.ensures.emits
      (subst (λ (places : List ℕ). EmitsLoop (with_jumps c.head.new.self places (c.args.jumps.now.continues).items)
      (draft c.turns.new.self c.turns.new.jumps) c.args.line (loop_of c.args.inside.now)
      (record c.args.scope { locals = c.in_ok-locals.locals; broken = c.args.scope.locals })) none
      c.in_ok-turns.ensures.emits)
      c.in_ok-put.ensures.puts c.in_ok-put-2.ensures.puts
      (subst (λ (places : List ℕ). LeadsAll c.put-2.new.self c.lead_all.new.self places c.here-end.result)
      c.deref.ensures.value c.lead_all.ensures.leads)
      c.here-end.ensures.place);
}

pub turns-lead-requires : goal.turns-lead-requires
turns-lead-requires t c = record {
  there = omega (
    arith,
    c.here-entry.ensures.place,
    put_one c.args.self.now c.put.new.self c.args.scope.locals _ c.in_ok-put.ensures.puts,
    (loops.may_test_keeps c.put.new.self c.turn_condition.new.self _ c.args.scope.locals c.in_ok-branch.branch
        c.in_ok-branch.ensures.tests).longer,
  );
  stands = same_stands c.turn_condition.new.self.layout (end_of c.turn_condition.new.self) c.here-entry.result _ _
      c.entry_of-2.ensures.entry
      (entry_stands c.turn_condition.new.self.layout (end_of c.turn_condition.new.self) c.here-entry.result
      (loop_code.out-Loop c.args.inside.now).test c.in_ok-line.line c.here-body.result
      (omega (
        arith,
        c.here-entry.ensures.place,
        c.here-body.ensures.place,
        put_one c.args.self.now c.put.new.self c.args.scope.locals _ c.in_ok-put.ensures.puts,
        (loops.may_test_keeps c.put.new.self c.turn_condition.new.self _ c.args.scope.locals c.in_ok-branch.branch
            c.in_ok-branch.ensures.tests).longer,
      ))
      (omega (arith, c.here-body.ensures.place)));
}

pub turns-put-requires-2 : goal.turns-put-requires-2
turns-put-requires-2 t c =
    let here = c.evaluations.new.self in
    let condition = (loops.may_test_keeps c.put.new.self c.turn_condition.new.self _ c.args.scope.locals
    c.in_ok-branch.branch c.in_ok-branch.ensures.tests).longer in
    let led = leads_end c.turn_condition.new.self c.lead.new.self c.here-entry.result _ c.lead.ensures.leads in
    let inside = (((c.in_ok-loop_body.ensures.emits).grows).code).longer in
    let steps = ((c.in_ok-evaluations.ensures.emits).keeps).longer in
    record {
      stands = turn_stands here.layout (end_of here + 1) (end_of here) c.next_turn.ensures.next
          (omega (arith, c.here-head.ensures.place, condition, led, inside, steps))
          (omega (arith, c.here-body.ensures.place, led, inside, steps));
    }

pub turns-lead_out-requires : goal.turns-lead_out-requires
turns-lead_out-requires t c = record {
  within = omega (arith, c.here-end.ensures.place);
  before = loops.may_test_within c.put.new.self c.turn_condition.new.self _ c.args.scope.locals c.here-end.result
      c.in_ok-branch.branch c.in_ok-branch.ensures.tests
      (omega (
        arith,
        c.here-end.ensures.place,
        leads_end c.turn_condition.new.self c.lead.new.self c.here-entry.result _ c.lead.ensures.leads,
        (((c.in_ok-loop_body.ensures.emits).grows).code).longer,
        ((c.in_ok-evaluations.ensures.emits).keeps).longer,
        put_one c.evaluations.new.self c.put-2.new.self c.args.scope.locals _ c.in_ok-put-2.ensures.puts,
      ));
}

pub turns-returns : goal.turns-returns
turns-returns t c = record {
  emits =
      let inside = loop_code.out-Loop c.args.inside.now in
      let e : Option Expr = option_map expr_of inside.condition in
      let es : List Expr = map expr_of (inside.steps).items in
      let x : Stmt = stmt_of (inside.body).value in
      let body = c.in_ok-loop_body.ensures.emits in
      let breaks = (c.args.jumps.now.breaks).items in
      let more = (c.loop_body.new.jumps.breaks).items in
      let continues = (c.args.jumps.now.continues).items in
      subst (λ (l : Loop). EmitsLoop (draft c.args.self.now c.args.jumps.now) (draft c.lead_out.new.self c.loop_body.new.jumps)
      c.args.line l c.args.scope) (sym (loops.loop_is c.args.inside.now))
      (subst (λ (n : ℕ). EmitsLoop (draft c.args.self.now c.args.jumps.now)
      (draft c.lead_out.new.self c.loop_body.new.jumps) n (repeated inside.test e es x) c.args.scope) c.in_ok-line.ensures.same
      (subst (λ (places : List ℕ). EmitsLoop (draft c.args.self.now c.args.jumps.now)
      (with_jumps c.lead_out.new.self more places) c.in_ok-line.line (repeated inside.test e es x) c.args.scope)
      (sym body.continues)
      (loops.repeats c.args.self.now c.put.new.self c.turn_condition.new.self c.lead.new.self c.loop_body.new.self
      c.evaluations.new.self c.put-2.new.self c.lead_out.new.self breaks more continues inside.test c.in_ok-line.line e es x
      c.args.scope c.here-entry.result c.here-head.result c.here-end.result c.here-body.result c.behind-past.result
      (subst (λ (j : Instruction). Puts c.args.self.now c.put.new.self c.args.scope.locals j) c.entry_of.ensures.entry
      c.in_ok-put.ensures.puts)
      c.here-head.ensures.place c.here-entry.ensures.place c.here-body.ensures.place c.here-end.ensures.place
      (loops.headed c.put.new.self c.turn_condition.new.self c.put-2.new.self c.lead_out.new.self e c.args.scope.locals
      c.here-end.result c.in_ok-branch.branch c.in_ok-branch.ensures.tests c.lead_out.ensures.leads
      (omega (
        arith,
        leads_end c.turn_condition.new.self c.lead.new.self c.here-entry.result _ c.lead.ensures.leads,
        ((body.grows).code).longer,
        ((c.in_ok-evaluations.ensures.emits).keeps).longer,
        put_one c.evaluations.new.self c.put-2.new.self c.args.scope.locals _ c.in_ok-put-2.ensures.puts,
      )))
      (subst (λ (j : Instruction). Leads c.turn_condition.new.self c.lead.new.self c.here-entry.result j)
      c.entry_of-2.ensures.entry c.lead.ensures.leads)
      (subst (λ (y : stmt_code.Stmt). EmitsLoopBody (draft c.lead.new.self c.args.jumps.now)
      (with_jumps c.loop_body.new.self more continues) (stmt_of y) c.args.scope) c.deref.ensures
      (subst (λ (places : List ℕ). EmitsLoopBody (draft c.lead.new.self c.args.jumps.now)
      (with_jumps c.loop_body.new.self more places) (stmt_of c.deref.result.now) c.args.scope) body.continues body))
      (subst (λ (xs : List expr_code.Expr). EmitsEvaluations c.loop_body.new.self c.evaluations.new.self (map expr_of xs)
      c.args.scope.locals) c.deref-2.ensures.value c.in_ok-evaluations.ensures.emits)
      c.next_turn.result c.next_turn.ensures.next c.in_ok-put-2.ensures.puts)));
}

-- `switch`

pub label-returns : goal.label-returns
label-returns t c = record {
  emits = if_ok c.statements.result
      (λ u emits.
      let case = case_code.out-Case c.args.case.now in
      subst (λ (k : Case). EmitsLabel (draft c.args.self.now c.args.jumps.now)
      (draft c.statements.new.self c.statements.new.jumps) c.args.test k c.args.scope) (sym (switches.case_is c.args.case.now))
      (switches.label_step c.args.self.now c.lead.new.self c.statements.new.self (c.args.jumps.now.breaks).items
      (c.args.jumps.now.continues).items (c.statements.new.jumps.breaks).items (c.statements.new.jumps.continues).items
      c.args.test c.here-to.result case.label (body_of (case.body).items) c.args.scope c.in_ok-word.word
      c.in_ok-word.ensures.constant c.here-to.ensures.place c.requires.there
      (subst (λ (j : Instruction). Leads c.args.self.now c.lead.new.self c.args.test j) c.label_test.ensures.jump
      c.lead.ensures.leads)
      (subst (λ (xs : List stmt_code.Stmt). EmitsStatements (draft c.lead.new.self c.args.jumps.now)
      (draft c.statements.new.self c.statements.new.jumps) (body_of xs) c.args.scope) c.deref.ensures.value emits)))
      c.statements.ensures.emits;
}

pub labels-loop-case-init : goal.labels-loop-case-init
labels-loop-case-init t c = (omega arith, omega arith, λ end rest. rest)

pub labels-loop-case-preserved : goal.labels-loop-case-preserved
labels-loop-case-preserved t c =
    let left = map case_of (drop (c.loop-case.case-index + 1) c.args.cases.now) in
    let now = draft c.label.new.self c.label.new.jumps in
    let room = switches.room_left c.args.cases.now c.loop-case.case-index c.args.tests c.loop-case.test
    (end_of c.args.self.now) (end_of c.loop-case.self) c.loop-case-test.true c.loop-case.invariant.0
    c.loop-case.invariant.1 c.requires.there in (
      omega (arith, c.in_ok-test.ensures.more, c.loop-case.invariant.0),
      omega (
        arith,
        c.loop-case.invariant.1,
        (c.in_ok-label.ensures.emits now no_case (omega (arith, room))
            (switches.no_labels now (c.loop-case.test + 1) c.args.scope)).longer,
      ),
      λ end rest.
          c.loop-case.invariant.2 end
          (subst (λ (xs : List case_code.Case). EmitsLabels (draft c.loop-case.self c.loop-case.jumps) end c.loop-case.test
          (case_list (map case_of xs)) c.args.scope)
          (next_of c.args.cases.now c.loop-case.case-index c.case-item.result c.loop-case-test.true c.case-item.is)
          (c.in_ok-label.ensures.emits end (case_list left) room
          (subst (λ (n : ℕ). EmitsLabels now end n (case_list left) c.args.scope) c.in_ok-test.ensures.more rest))),
    )

pub labels-returns : goal.labels-returns
labels-returns t c = record {
  emits = c.loop-case.invariant.2 (draft c.loop-case.self c.loop-case.jumps)
      (subst (λ (xs : List case_code.Case). EmitsLabels (draft c.loop-case.self c.loop-case.jumps)
      (draft c.loop-case.self c.loop-case.jumps) c.loop-case.test (case_list (map case_of xs)) c.args.scope)
      (none_of c.args.cases.now c.loop-case.case-index c.loop-case-test.false)
      (switches.no_labels (draft c.loop-case.self c.loop-case.jumps) c.loop-case.test c.args.scope));
}

pub switch-landing-requires : goal.switch-landing-requires
switch-landing-requires t c = record {
  there =
      let none : (c.replace-outer.new.dest).items ≡ []
      = ap (λ (v : Vec ℕ Global). v.items) c.replace-outer.ensures.after ∙ c.new.ensures.items in
      subst (λ (places : List ℕ). AreBelow (end_of c.labels.new.self) places) (sym c.deref.ensures.value)
      (((c.in_ok-labels.ensures.emits).breaks).below
      (subst (λ (places : List ℕ). AreBelow (end_of c.put.new.self) places) (sym none) (λ k low. refl)));
}

pub switch-lead-requires : goal.switch-lead-requires
switch-lead-requires t c = record {
  there = omega (
    arith,
    c.here-past.ensures.place,
    put_one c.test_places.new.self c.put.new.self c.args.scope.locals _ c.in_ok-put.ensures.puts,
    (c.in_ok-labels.ensures.emits).longer,
    (c.in_ok-landing.ensures.lands).long,
  );
  stands = jump_stands c.landing.new.self.layout (end_of c.landing.new.self) c.here-past.result c.here-end.result
      (omega (
        arith,
        c.here-past.ensures.place,
        c.here-end.ensures.place,
        put_one c.test_places.new.self c.put.new.self c.args.scope.locals _ c.in_ok-put.ensures.puts,
        (c.in_ok-labels.ensures.emits).longer,
        (c.in_ok-landing.ensures.lands).long,
      ))
      (omega (arith, c.here-end.ensures.place));
}

pub switch-returns : goal.switch-returns
switch-returns t c = record {
  emits =
      let none : (c.replace-outer.new.dest).items ≡ []
      = ap (λ (v : Vec ℕ Global). v.items) c.replace-outer.ensures.after ∙ c.new.ensures.items in
      let cs : Cases = case_list (map case_of c.args.cases.now) in
      subst (λ (places : List ℕ). EmitsStatement (draft c.args.self.now c.args.jumps.now)
      (with_jumps c.lead.new.self places (c.labels.new.jumps.continues).items)
      (Switch c.args.line c.args.of (expr_of c.args.value.now) cs) c.args.scope)
      (sym (ap (λ (v : Vec ℕ Global). v.items) c.replace-outer.ensures.value))
      (switches.switch c.args.self.now c.tick.new.self c.full_value.new.self c.test_places.new.self c.put.new.self
      c.labels.new.self c.landing.new.self c.lead.new.self (c.args.jumps.now.breaks).items
      (c.args.jumps.now.continues).items (c.labels.new.jumps.breaks).items (c.labels.new.jumps.continues).items c.args.line
      c.args.of (expr_of c.args.value.now) cs c.args.scope c.here-tests.result c.here-past.result c.here-end.result
      c.in_ok-tick.ensures.puts c.in_ok-full_value.ensures.emits c.here-tests.ensures.place
      c.in_ok-test_places.ensures.keeps
      (c.in_ok-test_places.ensures.places
      ∙ ap (λ (n : ℕ). end_of c.full_value.new.self + n) (sym (switches.counted c.args.cases.now)))
      c.here-past.ensures.place c.in_ok-put.ensures.puts
      (subst (λ (places : List ℕ). EmitsLabels (with_jumps c.put.new.self places (c.args.jumps.now.continues).items)
      (draft c.labels.new.self c.labels.new.jumps) c.here-tests.result cs
      (record c.args.scope { broken = c.args.scope.locals })) none c.in_ok-labels.ensures.emits)
      (subst (λ (places : List ℕ). Landing c.labels.new.self c.landing.new.self places) c.deref.ensures.value
      c.in_ok-landing.ensures.lands)
      c.here-end.ensures.place c.lead.ensures.leads);
}

pub statement-returns-in-Switch : goal.statement-returns-in-Switch
statement-returns-in-Switch t c = record {
  emits = if_ok c.switch.result
      (λ u emits. blocks.of_kind (draft c.args.self.now c.args.jumps.now) (draft c.switch.new.self c.switch.new.jumps)
      c.args.stmt.now.line c.args.stmt.now.kind _ _ c.args.scope c.in-Switch.is
      (switch_is c.args.stmt.now.line c.in-Switch.of c.in-Switch.value c.in-Switch.cases)
      (subst (λ (xs : List case_code.Case). EmitsStatement (draft c.args.self.now c.args.jumps.now)
      (draft c.switch.new.self c.switch.new.jumps) (Switch c.args.stmt.now.line c.in-Switch.of (expr_of c.in-Switch.value)
      (case_list (map case_of xs))) c.args.scope) c.deref-in-Switch.ensures.value emits))
      c.switch.ensures.emits;
}
