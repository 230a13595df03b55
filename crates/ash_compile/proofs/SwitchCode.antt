-- The code of a `switch` of a sound module does what it does.
use Rattle.std.proofs.Common.{◌≡◌, ◌≤◌, ℕ, ◌+◌, ℤ, List, [], ◌∷◌, length, refl, true, false, Bool}
use Rattle.std.specs.Prelude.{Option, Some, None, is_none, if◌then◌else◌}
use Rattle.ash_host.specs.declared.word.Word.{Word}
use Rattle.ash_integers.specs.declared.int_type.IntType.{IntType}
use Rattle.ash_integers.specs.Integers.{number_of}
use Rattle.ash_typed.specs.declared.types.VarType.{VarType}
use Rattle.ash_tree.specs.declared.tree.statements.Label.{Label}
use Rattle.ash_typed.specs.TypeOf.{ValueType}
use Rattle.ash_typed.specs.TypedTree.{Expr}
use Rattle.ash_typed.specs.StatementTree.{Switch, Stmts, no_stmt, stmt, Cases, no_case, next_case, labelled}
use Rattle.ash_typed.specs.SoundExpressions.{IsWellTyped}
use Rattle.ash_typed.specs.SoundStatements.{AreSoundCases, no_cases, more_cases, AreLabelled, none_labelled, and_labelled}
use Rattle.ash_meaning.specs.Activity.{Activity}
use Rattle.ash_meaning.specs.Runs.{Run, Done, give, ◌>>=◌, ◌>>◌}
use Rattle.ash_meaning.specs.Frames.{tick}
use Rattle.ash_meaning.specs.Releases.{full}
use Rattle.ash_meaning.specs.ExpressionMeaning.{expression}
use Rattle.ash_meaning.specs.StatementMeaning.{Flow, On, Broke, Continued, Returned, Labelled, go_on, from_label, is_constant, or_else}
use Rattle.ash_meaning.specs.StatementMeaning.{chosen, fall_through, switch, statement, statements, cases}
use Rattle.ash_code.specs.declared.instruction.Instruction.TheVariants as i
use Rattle.ash_compile.specs.Stretches.{Has}
use Rattle.ash_compile.specs.Performances.{Exits, Performs, Lands}
use Rattle.ash_compile.specs.Emission.{Scene, IsScene, calls_of, DoesExpression}
use Rattle.ash_compile.proofs.Loops as loops
use Rattle.ash_compile.proofs.Loops.{Spends}
use Rattle.ash_compile.proofs.Switches as switches
use Rattle.ash_compile.proofs.TypedStatements.{Ready, IsRanked, scope_of, whole, spends_then, spends_give, spends_tick}
use Rattle.ash_compile.proofs.TypedStatements.{spends_expression, spends_full, spends_statement}

module _ (s : Scene) (scene : IsScene s) where
  spends_go_on : (rest : Run Flow) → Spends (Ready s) rest → (f : Flow) → Spends (Ready s) (go_on rest f)
  spends_go_on rest spends On = spends
  spends_go_on rest spends Broke = spends_give (Ready s) Broke
  spends_go_on rest spends Continued = spends_give (Ready s) Continued
  spends_go_on rest spends (Returned value) = spends_give (Ready s) (Returned value)

  -- the statements after a label

  pub spends_labelled : (result : Option VarType) (breaks continues : Bool) (xs : Stmts)
      → AreLabelled (scope_of s scene result breaks continues) xs
      → Spends (Ready s) (statements (calls_of s) s.depth xs)
  spends_labelled result breaks continues no_stmt sound = spends_give (Ready s) On
  spends_labelled result breaks continues (stmt x xs) (and_labelled first rest) =
      spends_then (statement (calls_of s) s.depth x) (go_on (statements (calls_of s) s.depth xs))
      (spends_statement s scene result breaks continues x first)
      (spends_go_on (statements (calls_of s) s.depth xs) (spends_labelled result breaks continues xs rest))

  -- all labels

  abbrev pub EachSpends : List Labelled → Type 0
  EachSpends [] = Unit {0}
  EachSpends (l ∷ ls) = Spends (Ready s) l.run × EachSpends ls

  pub spends_cases : (result : Option VarType) (breaks continues : Bool) (int_type : IntType) (before : List Label)
      (cs : Cases)
      → AreSoundCases (scope_of s scene result breaks continues) int_type before cs
      → EachSpends (cases (calls_of s) s.depth cs)
  spends_cases result breaks continues int_type before no_case sound = tt
  spends_cases result breaks continues int_type before (next_case (labelled l xs) cs) (more_cases label inside rest) =
      (spends_labelled result breaks continues xs inside, spends_cases result breaks continues int_type _ cs rest)

  each_from : (test : Option ℤ → Bool) (ls : List Labelled) → EachSpends ls → EachSpends (from_label test ls)
  each_from test [] each = tt
  each_from test (l ∷ ls) each = pick (each_from test ls each.1) (test l.constant)
    where
      pick : EachSpends (from_label test ls) → (t : Bool) → EachSpends (if t then l ∷ ls else from_label test ls)
      pick later true = each
      pick later false = later

  each_or : (ls others : List Labelled) → EachSpends ls → EachSpends others → EachSpends (or_else ls others)
  each_or [] others each other = other
  each_or (l ∷ ls) others each other = each

  spends_fall : (ls : List Labelled) → EachSpends ls → Spends (Ready s) (fall_through ls)
  spends_fall [] each = spends_give (Ready s) On
  spends_fall (l ∷ ls) each =
      spends_then l.run (go_on (fall_through ls)) each.0 (spends_go_on (fall_through ls) (spends_fall ls each.1))

  spends_switch : (all : List Labelled) (word : Word) → EachSpends all → Spends (Ready s) (switch all word)
  spends_switch all word each =
      spends_fall (chosen (number_of word) all)
      (each_or (from_label (is_constant (number_of word)) all) (from_label is_none all)
      (each_from (is_constant (number_of word)) all each) (each_from is_none all each))

  -- The tests lead to the labels, or past all: the code of `switches.Tests` and `switches.Falls`.
  pub does_switch : IsRanked s → (exits : Exits) (line : ℕ) (int_type : IntType) (e : Expr) (of : ValueType) (cs : Cases)
      (ats : List ℕ) (from mid broken to : ℕ)
      → IsWellTyped s.env e of
      → EachSpends (cases (calls_of s) s.depth cs)
      → Has s.setting (Ready s) s.function s.room from (i.Tick line)
      → DoesExpression s e (from + 1) mid (length (s.env).locals)
      → Has s.setting (Ready s) s.function s.room mid i.EndExpression
      → switches.Tests s.setting (Ready s) s.function s.room (mid + 1) (cases (calls_of s) s.depth cs) ats
      (switches.place_of is_none (cases (calls_of s) s.depth cs) ats to) (length (s.env).locals)
      → switches.Falls s.setting (Ready s) s.function s.room
      (record exits { broken = record { at = broken; outer = length (s.env).locals } })
      (cases (calls_of s) s.depth cs) ats to (length (s.env).locals)
      → Lands s.setting (Ready s) s.function s.room Broke
      (tick line >> full (expression (calls_of s) e) >>= switch (cases (calls_of s) s.depth cs)) broken to
      → Performs s.setting (Ready s) s.function s.room exits
      (statement (calls_of s) s.depth (Switch line int_type e cs)) from to (length (s.env).locals) (length (s.env).locals)
  does_switch ranked exits line int_type e of cs ats from mid broken to typed each has does ends tests falls lands =
      let all = cases (calls_of s) s.depth cs in
      let p = expression (calls_of s) e in
      let run : Run Flow = tick line >> full p >>= switch all in
      let keeps : Spends (Ready s) run
      = spends_then (tick line >> full p) (switch all)
      (spends_then (tick line) (λ _. full p) (spends_tick s scene line) (λ _. spends_full s scene e of typed))
      (λ v. spends_switch all v each) in
      loops.after_breaks s.setting (Ready s) s.function s.room exits run from broken to (length (s.env).locals)
      (switches.switches s.setting (Ready s) s.function s.room
      (record exits { broken = record { at = broken; outer = length (s.env).locals } }) (Ready s) p all ats line from mid to
      (length (s.env).locals) has (λ a b v good is. (spends_tick s scene line a b v good is).0)
      (record {
        within = does.within;
        comes = λ w a rest low long fits good. does.comes w a rest low long fits good;
      })
      ends
      (λ a b v good is. ranked s.env b (((spends_expression s scene e of typed a b v good is).0).0))
      (λ a b v good is. (spends_full s scene e of typed a b v good is).0) tests falls)
      lands
      (λ a b good is. (ranked s.env b (((keeps a b Broke good is).0).0), whole s scene b ((keeps a b Broke good is).0)))
