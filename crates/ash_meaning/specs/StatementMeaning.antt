-- What statements do. A tick comes before each that is no block.
use Rattle.std.specs.Prelude.{ℕ, zero, suc, Bool, true, false, if◌then◌else◌}
use Rattle.std.specs.Prelude.{ℤ, List, [], ◌∷◌, Option, Some, None, is_none}
use Rattle.std.specs.Option.{option_map_or}
use Rattle.std.specs.Ordering.{int_eq}
use Rattle.ash_host.specs.declared.word.Word.{Word}
use Rattle.ash_integers.specs.Integers.{number_of}
use Rattle.ash_typed.specs.declared.tree.statements.Test.{Test}
use Rattle.ash_typed.specs.declared.tree.statements.Test.TheVariants as tests
use Rattle.ash_typed.specs.TypedTree.{Expr}
use Rattle.ash_typed.specs.StatementTree.{Initialization, Stmt, Empty, Declare, Evaluate, Block, If, Branch}
use Rattle.ash_typed.specs.StatementTree.{no_branch, branch, Head, no_head, declared_head, evaluated_head}
use Rattle.ash_typed.specs.StatementTree.{Repeat, For, Loop, repeated, Switch, Break, Continue, Return, Stmts}
use Rattle.ash_typed.specs.StatementTree.{no_stmt, stmt, Case, labelled, Cases, no_case, next_case}
use Rattle.ash_typed.specs.SoundStatements.{constant_of}
use Rattle.ash_meaning.specs.Runs.{Run, give, skip, ◌>>=◌, ◌>>◌, out_of_ticks}
use Rattle.ash_meaning.specs.Frames.{tick}
use Rattle.ash_meaning.specs.Releases.{release, full, count_locals, declare, leave_blocks}
use Rattle.ash_meaning.specs.OperatorMeaning.{zero_of, is_true}
use Rattle.ash_meaning.specs.CallMeaning.{Calls}
use Rattle.ash_meaning.specs.ExpressionMeaning.{expression}

-- How a statement is left: on to the next, out of a loop or a `switch`, to the next turn of a loop, or out of the
-- function, with its value where it has one.
pub data Flow : Type 0 where
  On : Flow
  Broke : Flow
  Continued : Flow
  Returned : (value : Option Word) → Flow

-- goes on with what is left, where the statement before it goes on
abbrev pub go_on : Run Flow → Flow → Run Flow
go_on rest On = rest
go_on rest flow = give flow

-- blocks

-- A block that ends by itself is a release point. Those that are left by a jump end together, where the jump leads.
abbrev pub end_block : Flow → Run Flow
end_block On = release >> give On
end_block flow = give flow

-- a block, whose locals go with it
abbrev pub in_block : Run Flow → Run Flow
in_block inside = count_locals >>= (λ outer. inside >>= (λ flow. leave_blocks outer >> end_block flow))

-- A `break` leads past the loop or the `switch`, where the blocks that it leaves end together.
abbrev pub after_break : Flow → Run Flow
after_break Broke = release >> give On
after_break flow = give flow

-- variables

-- A variable is zero, `false` or null, or has a value, which it gets before the full expression ends.
abbrev pub declare_one : Calls → Initialization → Run (Unit {0})
declare_one calls v = option_map_or (λ e. full (expression calls e >>= declare)) v.value (declare (zero_of v.of))

abbrev pub declare_all : Calls → List Initialization → Run (Unit {0})
declare_all calls [] = skip
declare_all calls (v ∷ vs) = declare_one calls v >> declare_all calls vs

-- full expressions of statements

abbrev pub evaluate : Calls → Expr → Run (Unit {0})
evaluate calls e = full (expression calls e) >> skip

abbrev pub evaluate_all : Calls → List Expr → Run (Unit {0})
evaluate_all calls [] = skip
evaluate_all calls (e ∷ es) = evaluate calls e >> evaluate_all calls es

abbrev pub condition : Calls → Expr → Run Bool
condition calls e = full (expression calls e) >>= (λ word. give (is_true word))

-- an absent condition is `true`
abbrev pub condition_or_true : Calls → Option Expr → Run Bool
condition_or_true calls None = give true
condition_or_true calls (Some e) = condition calls e

-- the head of a `for`, whose parts take no tick
abbrev pub begin : Calls → Head → Run (Unit {0})
begin calls no_head = skip
begin calls (declared_head vs) = declare_all calls vs
begin calls (evaluated_head e) = evaluate calls e

-- A returned value is not the end of its full expression: it ends with the frame.
abbrev pub return_value : Calls → Option Expr → Run Flow
return_value calls None = give (Returned None)
return_value calls (Some e) = expression calls e >>= (λ word. give (Returned (Some word)))

-- loops

-- What a loop repeats: the line of its ticks, its condition, its steps and its body.
pub record Turn : Type 0 where
  pub line : ℕ
  pub condition : Run Bool
  pub steps : Run (Unit {0})
  pub body : Run Flow

-- After a body come the steps and the next turn. The blocks that a `continue` leaves end together before them.
abbrev pub after_body : Turn → Run Flow → Flow → Run Flow
after_body t next On = t.steps >> next
after_body t next Continued = release >> t.steps >> next
after_body t next Broke = give Broke
after_body t next (Returned value) = give (Returned value)

-- one turn, and those after it
abbrev pub turn : Turn → Run Flow → Run Flow
turn t next = t.body >>= after_body t next

-- A loop from its condition on, of so many turns at most. Each turn takes a tick first, so that a loop that has no more
-- ticks than turns never comes to the end of them.
abbrev pub turns : ℕ → Turn → Run Flow
turns zero t = tick t.line >> out_of_ticks
turns (suc depth) t = tick t.line >> (t.condition >>= (λ goes_on. if goes_on then turn t (turns depth t) else give On))

abbrev pub repeat : Test → ℕ → Turn → Run Flow
repeat tests.First depth t = turns depth t
repeat tests.Last depth t = turn t (turns depth t)

-- `switch`

-- the statements after a label, with its constant; `default` has none
pub record Labelled : Type 0 where
  pub constant : Option ℤ
  pub run : Run Flow

-- from the first label that passes a test on
abbrev pub from_label : (Option ℤ → Bool) → List Labelled → List Labelled
from_label test [] = []
from_label test (l ∷ ls) = if test l.constant then l ∷ ls else from_label test ls

abbrev pub is_constant : ℤ → Option ℤ → Bool
is_constant number constant = option_map_or (int_eq number) constant false

abbrev pub or_else : List Labelled → List Labelled → List Labelled
or_else [] others = others
or_else (l ∷ ls) others = l ∷ ls

-- from the label with this constant on, or else from `default` on, or else past all
abbrev pub chosen : ℤ → List Labelled → List Labelled
chosen number all = or_else (from_label (is_constant number) all) (from_label is_none all)

-- falls through from label to label
abbrev pub fall_through : List Labelled → Run Flow
fall_through [] = give On
fall_through (l ∷ ls) = l.run >>= go_on (fall_through ls)

abbrev pub switch : List Labelled → Word → Run Flow
switch all word = fall_through (chosen (number_of word) all)

-- all statements; the depth is how many turns a loop takes at most

abbrev mutual
  pub statement : Calls → ℕ → Stmt → Run Flow
  statement calls depth (Empty line) = tick line >> give On
  statement calls depth (Declare line vs) = tick line >> declare_all calls vs >> give On
  statement calls depth (Evaluate line e) = tick line >> evaluate calls e >> give On
  statement calls depth (Block line ss) = in_block (statements calls depth ss)
  statement calls depth (If line c s other) =
      tick line >> condition calls c >>= (λ b. if b then statement calls depth s else otherwise calls depth other)
  statement calls depth (Repeat line inside) = tick line >> loop calls depth line inside >>= after_break
  -- the head and the loop are a block, which a `break` leaves with those of the body
  statement calls depth (For line head inside) =
      tick line >> in_block (begin calls head >> loop calls depth line inside) >>= after_break
  statement calls depth (Switch line int_type e cs) =
      tick line >> full (expression calls e) >>= switch (cases calls depth cs) >>= after_break
  statement calls depth (Break line) = tick line >> give Broke
  statement calls depth (Continue line) = tick line >> give Continued
  statement calls depth (Return line e) = tick line >> return_value calls e

  pub otherwise : Calls → ℕ → Branch → Run Flow
  otherwise calls depth no_branch = give On
  otherwise calls depth (branch s) = statement calls depth s

  pub loop : Calls → ℕ → ℕ → Loop → Run Flow
  loop calls depth line (repeated test c es s) =
      repeat test depth (record {
        line = line;
        condition = condition_or_true calls c;
        steps = evaluate_all calls es;
        body = statement calls depth s;
      })

  pub statements : Calls → ℕ → Stmts → Run Flow
  statements calls depth no_stmt = give On
  statements calls depth (stmt s ss) = statement calls depth s >>= go_on (statements calls depth ss)

  pub case_run : Calls → ℕ → Case → Labelled
  case_run calls depth (labelled l ss) = record { constant = constant_of l; run = statements calls depth ss }

  pub cases : Calls → ℕ → Cases → List Labelled
  cases calls depth no_case = []
  cases calls depth (next_case c cs) = case_run calls depth c ∷ cases calls depth cs
