-- Phrases in the form in which code walks them, part by part.
use Rattle.std.specs.Prelude.{ℕ, ℤ, Bool, if◌then◌else◌, List, [], ◌∷◌, ◌++◌, map, Option, Some, None, option_map}
use Rattle.ash_host.specs.declared.word.Word.{Word}
use Rattle.ash_typed.specs.declared.tree.expressions.Expr as expr_code
use Rattle.ash_typed.specs.declared.tree.expressions.Link as link_code
use Rattle.ash_typed.specs.declared.tree.expressions.Link.TheVariants as links
use Rattle.ash_typed.specs.declared.tree.expressions.Operand as operand_code
use Rattle.ash_typed.specs.declared.tree.operations.Conversion.{Conversion}
use Rattle.ash_typed.specs.declared.tree.operations.Lazy.{Lazy}
use Rattle.ash_typed.specs.declared.tree.operations.CallTarget.{CallTarget}
use Rattle.ash_typed.specs.declared.tree.operations.Method.{Method}
use Rattle.ash_typed.specs.TypedTree.{Expr, Exprs, exprs}
use Rattle.ash_typed.specs.TypedTreeViews.{expr_in, expr_of, exprs_of}
use Rattle.ash_typed.specs.StatementTree.{Head, Loop, cases}
use Rattle.ash_typed.specs.SoundStatements.{constant_of}
use Rattle.ash_typed.specs.declared.tree.statements.Case as case_code
use Rattle.ash_typed.specs.declared.tree.statements.Loop as loop_code
use Rattle.ash_typed.specs.BodyViews.{stmt_at, case_of}
use Rattle.ash_meaning.specs.Runs.{Run, give, ◌>>=◌, ◌>>◌}
use Rattle.ash_meaning.specs.Releases.{give_held, release}
use Rattle.ash_meaning.specs.Frames.{tick}
use Rattle.ash_meaning.specs.ObjectSteps.{object_of}
use Rattle.ash_meaning.specs.OperatorMeaning.{is_true, converted_to, operate}
use Rattle.ash_meaning.specs.Locations.{location_of_member, read}
use Rattle.ash_meaning.specs.CallMeaning.{Calls, invoke, call_target}
use Rattle.ash_meaning.specs.ExpressionMeaning.{expression, arguments, element_at, lazily}
use Rattle.ash_meaning.specs.StatementMeaning.{fall_through, cases as labels, in_block, begin, loop}
use Rattle.ash_meaning.specs.StatementMeaning.{Flow, On, Broke, Continued, Returned, Turn, Labelled}
use Rattle.ash_meaning.specs.StatementMeaning.{condition_or_true, evaluate_all, statement}

-- arguments, after those that are done
abbrev pub arguments_after : Calls → List Word → Exprs → Run (List Word)
arguments_after calls done es = arguments calls es >>= (λ rest. give (done ++ rest))

-- operators with their right operands, after the value of what comes before them

-- a word, converted where a conversion is named
abbrev pub converted_by : Option Conversion → Word → Word
converted_by None word = word
converted_by (Some conversion) word = converted_to conversion.to word

abbrev pub operand_run : Calls → operand_code.Operand → Word → Run Word
operand_run calls o left = expression calls (expr_of o.value) >>= operate o.operation (converted_by o.before left)

abbrev pub operands_run : Calls → List operand_code.Operand → Word → Run Word
operands_run calls [] left = give left
operands_run calls (o ∷ os) left = operand_run calls o left >>= operands_run calls os

-- links of a path

abbrev pub link_run : Calls → link_code.Link → Word → Run Word
link_run calls (links.Member member) handle =
    object_of handle >>= (λ number. give (location_of_member member number)) >>= read >>= give_held
link_run calls (links.Index' a index of) handle =
    expression calls (expr_in index) >>= element_at handle >>= read >>= give_held
link_run calls (links.Invoke' method parameters shape row) handle =
    arguments calls (exprs_of row) >>= (λ args. object_of handle >>= (λ number. invoke calls method number args))

abbrev pub links_run : Calls → List link_code.Link → Word → Run Word
links_run calls [] handle = give handle
links_run calls (l ∷ ls) handle = link_run calls l handle >>= links_run calls ls

-- further operands of a lazy operator

abbrev pub lazies_run : Calls → Lazy → List expr_code.Expr → Word → Run Word
lazies_run calls op [] left = give left
lazies_run calls op (x ∷ xs) left = lazily op (is_true left) (expression calls (expr_of x)) >>= lazies_run calls op xs

-- what is walked after the value of an expression, and calls after their arguments

abbrev pub path_run : Calls → Expr → List link_code.Link → Run Word
path_run calls base ls = expression calls base >>= links_run calls ls

abbrev pub chain_run : Calls → Expr → List operand_code.Operand → Run Word
chain_run calls first os = expression calls first >>= operands_run calls os

abbrev pub lazy_run : Calls → Lazy → Expr → List expr_code.Expr → Run Word
lazy_run calls op first xs = expression calls first >>= lazies_run calls op xs

abbrev pub target_run : Calls → CallTarget → List expr_code.Expr → Run Word
target_run calls target es = arguments calls (exprs (map expr_of es)) >>= call_target calls target

abbrev pub invocation_run : Calls → Word → Method → List expr_code.Expr → Run Word
invocation_run calls handle method es =
    arguments calls (exprs (map expr_of es)) >>= (λ args. object_of handle
    >>= (λ number. invoke calls method number args))

-- the head of a `for` and the loop inside it, which are a block
abbrev pub for_run : Calls → ℕ → ℕ → Head → Loop → Run Flow
for_run calls depth line head inside = in_block (begin calls head >> loop calls depth line inside)

-- labels of a `switch`

-- the constant of a label; `default` has none
abbrev pub constant_in : case_code.Case → Option ℤ
constant_in c = constant_of (case_code.out-Case c).label

-- from the first label that passes a test on
abbrev pub from_case : (Option ℤ → Bool) → List case_code.Case → List case_code.Case
from_case test [] = []
from_case test (c ∷ cs) = if test (constant_in c) then c ∷ cs else from_case test cs

-- what the labels of the code mean
abbrev pub labels_seen : Calls → ℕ → List case_code.Case → List Labelled
labels_seen calls depth cs = labels calls depth (cases (map case_of cs))

-- the statements after the labels, from the first of these on
abbrev pub fall_run : Calls → ℕ → List case_code.Case → Run Flow
fall_run calls depth cs = fall_through (labels_seen calls depth cs)

-- turns of a loop

-- what a loop repeats
abbrev pub turn_seen : Calls → ℕ → ℕ → loop_code.Loop → Turn
turn_seen calls depth line (loop_code.Loop' test c es a l k) =
    record {
      line = line;
      condition = condition_or_true calls (option_map expr_of c);
      steps = evaluate_all calls (map expr_of es.items);
      body = statement calls depth (stmt_at l k);
    }

-- A turn of a loop: its body, then its steps. It is left by a jump, or the next one follows.
abbrev pub after_turn : Turn → Flow → Run (Option Flow)
after_turn t On = t.steps >> give None
after_turn t Continued = release >> t.steps >> give None
after_turn t Broke = give (Some Broke)
after_turn t (Returned value) = give (Some (Returned value))

abbrev pub turn_run : Turn → Run (Option Flow)
turn_run t = t.body >>= after_turn t

-- a turn with the tick and the condition before it
abbrev pub next_turn : Turn → Run (Option Flow)
next_turn t = tick t.line >> (t.condition >>= (λ goes_on. if goes_on then turn_run t else give (Some On)))

-- the next turn, unless the loop is left
abbrev pub left_or : Run Flow → Option Flow → Run Flow
left_or next None = next
left_or next (Some flow) = give flow
