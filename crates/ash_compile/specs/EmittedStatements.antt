-- What code that is emitted for statements does, wherever it stands.
--
-- A `break` or a `continue` is a jump whose target is not known yet: its place is among those that wait. The contracts say
-- what code does in which each jump that waits leads to the exit.
use Rattle.std.specs.Prelude.{◌≡◌, ◌≤◌, ◌<◌, ℕ, ◌+◌, List, [], ◌∷◌, ◌++◌, length, Option, Some, None, Bool, true, false}
use Rattle.std.specs.Prelude.{suc, option_map, ◌||◌, nat_eq, slice_get, if◌then◌else◌}
use Rattle.std.specs.List.{AllByRecursion}
use Rattle.ash_host.specs.declared.word.Word.{Word}
use Rattle.ash_integers.specs.declared.comparison.Comparison.{Comparison}
use Rattle.ash_integers.specs.declared.int_type.IntType.{IntType}
use Rattle.ash_integers.specs.Integers.{number_of}
use Rattle.ash_tree.specs.declared.tree.statements.Label.{Label}
use Rattle.ash_typed.specs.declared.types.VarType.{VarType}
use Rattle.ash_typed.specs.declared.tree.statements.Test.{Test}
use Rattle.ash_typed.specs.declared.tree.statements.Test.TheVariants as tests
use Rattle.ash_typed.specs.TypedTree.{Expr}
use Rattle.ash_typed.specs.StatementTree.{Initialization, Head, Loop, Stmt, Stmts, stmt, Case, labelled, Cases, no_case, next_case}
use Rattle.ash_typed.specs.SoundStatements.{AreSoundCases, constant_of}
use Rattle.ash_typed.specs.SoundStatements.{TypedScope, IsSoundStmt, AreSoundStmts, IsLoop, IsSoundHead, AreSoundDeclarations}
use Rattle.ash_typed.specs.SoundStatements.{IsEvaluated, IsSoundCondition}
use Rattle.ash_meaning.specs.Runs.{Run}
use Rattle.ash_meaning.specs.StatementMeaning.{Flow, Continued, statement, statements, loop, begin, declare_all, evaluate_all, condition}
use Rattle.ash_code.specs.declared.instruction.Instruction.{Instruction}
use Rattle.ash_code.specs.declared.instruction.Instruction.TheVariants as i
use Rattle.ash_code.specs.Running.{instruction_at}
use Rattle.ash_compile.specs.declared.builder.Written.{Written}
use Rattle.ash_compile.specs.declared.bodies.Scope.{Scope}
use Rattle.ash_compile.specs.declared.bodies.Branch.{Branch}
use Rattle.ash_compile.specs.declared.bodies.Condition.{Condition}
use Rattle.ash_compile.specs.declared.bodies.Condition.TheVariants as conditions
use Rattle.ash_compile.specs.declared.bodies.Jumps.{Jumps}
use Rattle.ash_compile.specs.Performances.{Exits, Acts, Decides, Performs, Reaches, Lands}
use Rattle.ash_compile.specs.Stretches.{Has}
use Rattle.ash_compile.specs.Emission.{code_of, end_of, Keeps, Puts, Leads, Scene, IsScene, Suits, calls_of}
use Rattle.ash_compile.specs.Emission.{Good, Stands, Emits}
use Rattle.ash_compile.specs.Operands.{EmitsEffect, ComparesLocals}

-- jumps that wait

-- whether a jump at a place waits
abbrev pub waits : List ℕ → ℕ → Bool
waits [] k = false
waits (place ∷ places) k = nat_eq place k || waits places k

-- Jumps that wait are before a place.
abbrev pub AreBelow : ℕ → List ℕ → Type 0
AreBelow end places = (k : ℕ) → end ≤ k → waits places k ≡ false

-- Jumps at these places lead to one now.
pub record LeadsAll (old new : Written) (places : List ℕ) (to : ℕ) : Type 0 where
  pub code : (k : ℕ)
      → slice_get (code_of new) k ≡ (if waits places k then Some (i.Jump to) else slice_get (code_of old) k)
  pub long : end_of new ≡ end_of old
  pub slots : new.slots ≡ old.slots
  pub layout : new.layout ≡ old.layout

-- code of statements, with the places of its jumps of `break` and of `continue` that wait
pub record Draft : Type 0 where
  pub code : Written
  pub breaks : List ℕ
  pub continues : List ℕ

abbrev pub draft : Written → Jumps → Draft
draft code jumps = record { code = code; breaks = (jumps.breaks).items; continues = (jumps.continues).items }

-- code with these jumps that wait
abbrev pub with_jumps : Written → List ℕ → List ℕ → Draft
with_jumps code breaks continues = record { code = code; breaks = breaks; continues = continues }

abbrev pub end_in : Draft → ℕ
end_in d = end_of d.code

-- Jumps joined those that wait, all of them from one place on and before another one.
pub record Joins (old new : List ℕ) (from to : ℕ) : Type 0 where
  pub same : (k : ℕ) → k < from → waits new k ≡ waits old k
  pub below : AreBelow from old → AreBelow to new

-- No jump that waits is both.
abbrev pub AreApart : List ℕ → List ℕ → Type 0
AreApart breaks continues = (k : ℕ) → waits breaks k ≡ true → waits continues k ≡ false

-- The code grew, and what was there stays.
pub record Grows (old new : Draft) : Type 0 where
  pub code : Keeps old.code new.code
  pub breaks : Joins old.breaks new.breaks (end_in old) (end_in new)
  pub continues : Joins old.continues new.continues (end_in old) (end_in new)
  pub apart : AreBelow (end_in old) old.breaks → AreBelow (end_in old) old.continues
      → AreApart old.breaks old.continues → AreApart new.breaks new.continues

-- the instruction at a place, if jumps lead to these exits
abbrev pub shown : Exits → Draft → ℕ → Option Instruction
shown exits d k =
    if waits d.breaks k then Some (i.Jump (exits.broken).at)
    else (if waits d.continues k then Some (i.Jump (exits.continued).at) else slice_get (code_of d.code) k)

-- The function has this code from one place to another, where jumps lead to these exits.
abbrev pub StandsWith : Scene → Exits → Draft → ℕ → ℕ → Type 0
StandsWith s exits d from to =
    (k : ℕ) → from ≤ k → k < to
    → instruction_at (s.setting).code (record { function = s.function; at = k }) ≡ shown exits d k

-- where statements run

-- what a statement of the function sees
abbrev pub typed_scope : Scene → Option VarType → Bool → Bool → TypedScope
typed_scope s result breaks continues = record {
  env = s.env;
  result = result;
  may_break = breaks;
  may_continue = continues;
}

-- A function gives the value of its result, or nothing. A construction gives `this`.
pub record Returns (constructs : Bool) (result : Option VarType) (gives : Option Word → Word → Option Word) : Type 0 where
  pub nothing : (this : Word) → gives None this ≡ (if constructs then Some this else None)
  pub value : (of : VarType) → result ≡ Some of → (v this : Word) → gives (Some v) this ≡ Some v

-- The function has as many locals as the scope, and its exits leave as many as that says.
pub record IsIn (scope : Scope) (s : Scene) (exits : Exits) (result : Option VarType) : Type 0 where
  pub locals : scope.locals ≡ length (s.env).locals
  pub broken : scope.broken ≡ (exits.broken).outer
  pub continued : scope.continued ≡ (exits.continued).outer
  pub keeps_broken : scope.broken ≤ scope.locals
  pub keeps_continued : scope.continued ≤ scope.locals
  pub returns : Returns scope.constructs result exits.gives

-- From here to there the code does what a statement does.
abbrev pub DoesFlow : Scene → Exits → Run Flow → ℕ → ℕ → ℕ → Type 0
DoesFlow s exits run from to more =
    Performs s.setting (Good s) s.function s.room exits run from to (length (s.env).locals) more

abbrev pub DoesActs : Scene → Run (Unit {0}) → ℕ → ℕ → ℕ → Type 0
DoesActs s run from to more = Acts s.setting (Good s) s.function s.room run from to (length (s.env).locals) more

-- What is said of code from one place to another, where it is in the code of a function that suits.
abbrev pub Wherever : Draft → Draft → Scope
    → (Scene → Exits → Option VarType → Bool → Bool → Type 0) → (Scene → Exits → Type 0) → Type 0
Wherever old new scope IsSound Does =
    (s : Scene) (exits : Exits) (result : Option VarType) (breaks continues : Bool)
    → IsScene s
    → IsIn scope s exits result
    → IsSound s exits result breaks continues
    → AreBelow (end_in old) old.breaks
    → AreBelow (end_in old) old.continues
    → AreApart old.breaks old.continues
    → StandsWith s exits new (end_in old) (end_in new)
    → Suits s new.code
    → Does s exits

-- statements

-- The code has grown by that of a statement: wherever it stands, it does what the statement does if that is sound there.
pub record EmitsStatement (old new : Draft) (x : Stmt) (scope : Scope) : Type 0 where
  pub grows : Grows old new
  pub does : Wherever old new scope
      (λ s exits result breaks continues. IsSoundStmt (typed_scope s result breaks continues) x)
      (λ s exits. DoesFlow s exits (statement (calls_of s) s.depth x) (end_in old) (end_in new) (length (s.env).locals))

-- The code of a list of statements may leave more locals than it found.
pub record EmitsStatements (old new : Draft) (xs : Stmts) (scope : Scope) : Type 0 where
  pub grows : Grows old new
  pub does : Wherever old new scope
      (λ s exits result breaks continues. AreSoundStmts (typed_scope s result breaks continues) xs)
      (λ s exits. (more : ℕ) × (length (s.env).locals ≤ more)
      × DoesFlow s exits (statements (calls_of s) s.depth xs) (end_in old) (end_in new) more)

abbrev pub with_count : Scope → ℕ → Scope
with_count scope locals = record scope { locals = locals }

-- With the code of the statements after it, that of a statement is the code of a list.
abbrev pub EmitsListed : Draft → Draft → Stmt → Scope → ℕ → Type 0
EmitsListed old new x scope locals =
    (end : Draft) (xs : Stmts) → EmitsStatements new end xs (with_count scope locals)
    → EmitsStatements old end (stmt x xs) scope

-- The code has grown by that of the statements of a function.
pub record EmitsBody (old new : Written) (xs : Stmts) (locals : ℕ) (constructs : Bool) : Type 0 where
  pub keeps : Keeps old new
  pub does : (s : Scene) (result : Option VarType) (gives : Option Word → Word → Option Word)
      → IsScene s
      → Returns constructs result gives
      → locals ≡ length (s.env).locals
      → AreSoundStmts (typed_scope s result false false) xs
      → Stands s (code_of new) (end_of old) (end_of new)
      → Suits s new
      → (exits : Exits) × (more : ℕ) × (exits.gives ≡ gives)
      × DoesFlow s exits (statements (calls_of s) s.depth xs) (end_of old) (end_of new) more

-- jumps

-- The code has grown by a tick, the end of blocks and a jump, whose target is not known yet.
pub record LeavesBlocks (old new : Written) (line count slot jump : ℕ) : Type 0 where
  pub ticked : Written
  pub left : Written
  pub pending : ℕ
  pub ticks : Puts old ticked slot (i.Tick line)
  pub leaves : Puts ticked left slot (i.LeaveBlocks count)
  pub jumps : Puts left new slot (i.Jump pending)
  pub place : jump ≡ end_of left

-- how a function is left without a value
abbrev pub frame_end : Bool → Instruction
frame_end constructs = if constructs then i.ReturnThis else i.ReturnNothing

-- full expressions of statements

-- The code has grown by that of an expression whose value is not used, and the end of its full expression.
pub record EmitsEvaluation (old new : Written) (e : Expr) (slot : ℕ) : Type 0 where
  pub mid : Written
  pub emits : EmitsEffect old mid e slot
  pub puts : Puts mid new slot i.EndExpression

-- The code has grown by that of an expression, whose value it has in a slot, and the end of its full expression.
pub record EmitsFull (old new : Written) (e : Expr) (slot : ℕ) : Type 0 where
  pub mid : Written
  pub emits : Emits old mid e slot
  pub puts : Puts mid new slot i.EndExpression

-- The code has grown by that of full expressions.
pub record EmitsEvaluations (old new : Written) (es : List Expr) (slot : ℕ) : Type 0 where
  pub keeps : Keeps old new
  pub does : (s : Scene)
      → IsScene s
      → slot ≡ length (s.env).locals
      → AllByRecursion (IsEvaluated s.env) es
      → Stands s (code_of new) (end_of old) (end_of new)
      → Suits s new
      → DoesActs s (evaluate_all (calls_of s) es) (end_of old) (end_of new) (length (s.env).locals)

-- a branch to a place, if a condition is not met
abbrev pub branch_on : Condition → ℕ → Instruction
branch_on (conditions.Truth slot) to = i.Branch slot to
branch_on (conditions.Comparison comparison left right) to = i.BranchUnless comparison left right to

-- The code has grown by that of a condition and a branch, whose target is not known yet: wherever it stands, it decides
-- as the condition does if its branch leads somewhere.
pub record Tests (old new : Written) (e : Expr) (slot : ℕ) (branch : Branch) : Type 0 where
  pub keeps : Keeps old new
  pub later : end_of old ≤ branch.at
  pub end : end_of new ≡ branch.at + 1
  pub does : (s : Scene) (unmet : ℕ)
      → IsScene s
      → slot ≡ length (s.env).locals
      → IsSoundCondition s.env e
      → Stands s (code_of new) (end_of old) branch.at
      → Has s.setting (Good s) s.function s.room branch.at (branch_on branch.condition unmet)
      → Suits s new
      → Decides s.setting (Good s) s.function s.room (condition (calls_of s) e) (end_of old) (end_of new) unmet
      (length (s.env).locals)

-- The same of a condition that may be absent.
abbrev pub MayTest : Written → Written → Option Expr → ℕ → Option Branch → Type 0
MayTest old new None slot branch = (new ≡ old) × (branch ≡ None)
MayTest old new (Some e) slot branch = (there : Branch) × (branch ≡ Some there) × Tests old new e slot there

-- The branch of a condition that may be absent leads to a place.
abbrev pub MayLead : Written → Written → Option Branch → ℕ → Type 0
MayLead old new None to = new ≡ old
MayLead old new (Some branch) to = Leads old new branch.at (branch_on branch.condition to)

-- variables

-- The code has grown by that of variables, after which there are so many locals.
pub record EmitsVariables (old new : Written) (vs : List Initialization) (locals more : ℕ) : Type 0 where
  pub keeps : Keeps old new
  pub does : (s : Scene) (types : List VarType)
      → IsScene s
      → locals ≡ length (s.env).locals
      → AreSoundDeclarations s.env vs types
      → Stands s (code_of new) (end_of old) (end_of new)
      → Suits s new
      → (more ≡ length ((s.env).locals ++ types))
      × DoesActs s (declare_all (calls_of s) vs) (end_of old) (end_of new) more

-- With the code of the variables after it, that of a variable is the code of a list.
abbrev pub EmitsVariable : Written → Written → Initialization → ℕ → Type 0
EmitsVariable old new v locals =
    (end : Written) (vs : List Initialization) (more : ℕ) → EmitsVariables new end vs (locals + 1) more
    → EmitsVariables old end (v ∷ vs) locals more

-- The code has grown by that of the head of a `for`.
pub record EmitsHead (old new : Written) (head : Head) (locals more : ℕ) : Type 0 where
  pub keeps : Keeps old new
  pub does : (s : Scene) (types : List VarType)
      → IsScene s
      → locals ≡ length (s.env).locals
      → IsSoundHead s.env head types
      → Stands s (code_of new) (end_of old) (end_of new)
      → Suits s new
      → (more ≡ length ((s.env).locals ++ types))
      × DoesActs s (begin (calls_of s) head) (end_of old) (end_of new) more

-- loops

-- what a loop begins with: the tick of its first turn, or a jump to its body if the condition comes last
abbrev pub loop_entry : Test → ℕ → ℕ → Instruction
loop_entry tests.First line to = i.Tick line
loop_entry tests.Last line to = i.Jump to

-- The instruction takes the tick of the next turn of a loop, and leads back to its condition, or compares two locals again
-- if that is the condition, and leads into the turn.
pub data NextTurn : Option Expr → ℕ → ℕ → ℕ → Instruction → Type 0 where
  leads_back : {e : Option Expr} {line head inside : ℕ} → NextTurn e line head inside (i.Loop line head)
  compares : {e : Expr} {comparison : Comparison} {line left right head inside : ℕ}
      → ComparesLocals e comparison left right
      → NextTurn (Some e) line head inside (i.LoopWhile line comparison left right inside)

-- A release point was put behind the code, where jumps at these places lead. Code that comes there goes on behind it.
pub record Landing (old new : Written) (places : List ℕ) : Type 0 where
  pub code : (k : ℕ) → k < end_of old
      → slice_get (code_of new) k ≡ (if waits places k then Some (i.Jump (end_of old + 1)) else slice_get (code_of old) k)
  pub past : slice_get (code_of new) (end_of old) ≡ Some (i.Jump (end_of new))
  pub release : slice_get (code_of new) (end_of old + 1) ≡ Some i.Release
  pub long : end_of new ≡ end_of old + 1 + 1
  pub slots : old.slots ≤ new.slots
  pub layout : new.layout ≡ old.layout

abbrev pub without_continue : TypedScope → TypedScope
without_continue scope = record {
  env = scope.env;
  result = scope.result;
  may_break = scope.may_break;
  may_continue = false;
}

-- A statement that is sound where it may go on with the next turn of a loop is so where it may not.
abbrev pub HasNoContinue : Stmt → Type 0
HasNoContinue x = (scope : TypedScope) → IsSoundStmt scope x → IsSoundStmt (without_continue scope) x

abbrev pub HaveNoContinue : Stmts → Type 0
HaveNoContinue xs = (scope : TypedScope) → AreSoundStmts scope xs → AreSoundStmts (without_continue scope) xs

-- Jumps of `continue` lead to a release point that was put behind the code of a body, or there are none.
pub data EndsBody (old new : Written) (places : List ℕ) (x : Stmt) : Type 0 where
  lands : Landing old new places → EndsBody old new places x
  none : {to : ℕ} → LeadsAll old new places to → HasNoContinue x → EndsBody old new places x

-- The code of the body of a loop comes to its steps, also by `continue`.
pub record EmitsLoopBody (old new : Draft) (x : Stmt) (scope : Scope) : Type 0 where
  pub grows : Grows old new
  pub continues : new.continues ≡ old.continues
  pub does : Wherever old new scope
      (λ s exits result breaks continues. IsSoundStmt (typed_scope s result breaks true) x)
      (λ s exits. (done again : ℕ)
      × DoesFlow s (record exits { continued = record { at = again; outer = length (s.env).locals } })
      (statement (calls_of s) s.depth x) (end_in old) done (length (s.env).locals)
      × Reaches s.setting s.function done (end_in new)
      × Lands s.setting (Good s) s.function s.room Continued (statement (calls_of s) s.depth x) again (end_in new))

-- The code has grown by that of what is repeated.
pub record EmitsLoop (old new : Draft) (line : ℕ) (inside : Loop) (scope : Scope) : Type 0 where
  pub grows : Grows old new
  pub continues : new.continues ≡ old.continues
  pub does : Wherever old new scope
      (λ s exits result breaks continues. IsLoop (typed_scope s result breaks continues) inside)
      (λ s exits. DoesFlow s exits (loop (calls_of s) s.depth line inside) (end_in old) (end_in new)
      (length (s.env).locals))

-- `switch`

-- what leads to the statements of a label, if the value in a slot has its constant; `default` has none
abbrev pub label_jump : Option Word → ℕ → ℕ → Instruction
label_jump (Some word) slot to = i.JumpIfNumber slot word to
label_jump None slot to = i.Jump to

abbrev pub count_cases : Cases → ℕ
count_cases no_case = 0
count_cases (next_case c cs) = suc (count_cases cs)

-- From a place on the code has a test for each label, which leads to one of these places.
abbrev pub AreTests : List Instruction → ℕ → Cases → List ℕ → ℕ → Type 0
AreTests code at no_case [] slot = Unit {0}
AreTests code at (next_case (labelled l xs) cs) (to ∷ ats) slot =
    ((word : Option Word) × (option_map number_of word ≡ constant_of l)
    × (slice_get code at ≡ Some (label_jump word slot to)))
    × AreTests code (at + 1) cs ats slot
AreTests code at _ _ slot = ⊥

-- where the statements of the first label are, or else the end of all
abbrev pub next_label : List ℕ → ℕ → ℕ
next_label [] to = to
next_label (at ∷ ats) to = at

-- The statements of each label are at one of these places, and lead to those of the next one.
abbrev pub DoesLabels : Scene → Exits → Cases → List ℕ → ℕ → Type 0
DoesLabels s exits no_case [] to = Unit {0}
DoesLabels s exits (next_case (labelled l xs) cs) (at ∷ ats) to =
    DoesFlow s exits (statements (calls_of s) s.depth xs) at (next_label ats to) (length (s.env).locals)
    × DoesLabels s exits cs ats to
DoesLabels s exits _ _ to = ⊥

-- The code has grown by the statements of labels, to which the tests from a place on lead now.
pub record EmitsLabels (old new : Draft) (test : ℕ) (cs : Cases) (scope : Scope) : Type 0 where
  pub ats : List ℕ
  pub longer : end_in old ≤ end_in new
  pub before : (k : ℕ) → k < test → k < end_in old → slice_get (code_of new.code) k ≡ slice_get (code_of old.code) k
  pub behind : (k : ℕ) → test + count_cases cs ≤ k → k < end_in old
      → slice_get (code_of new.code) k ≡ slice_get (code_of old.code) k
  pub slots : (old.code).slots ≤ (new.code).slots
  pub layout : (new.code).layout ≡ (old.code).layout
  pub breaks : Joins old.breaks new.breaks (end_in old) (end_in new)
  pub continues : Joins old.continues new.continues (end_in old) (end_in new)
  pub apart : AreBelow (end_in old) old.breaks → AreBelow (end_in old) old.continues
      → AreApart old.breaks old.continues → AreApart new.breaks new.continues
  pub tests : AreTests (code_of new.code) test cs ats scope.locals
  pub first : next_label ats (end_in new) ≡ end_in old
  pub does : Wherever old new scope
      (λ s exits result breaks continues. (int_type : IntType) × (labels : List Label)
      × AreSoundCases (typed_scope s result breaks continues) int_type labels cs)
      (λ s exits. DoesLabels s exits cs ats (end_in new))

-- With the code of the labels after it, that of a label is the code of a row.
abbrev pub EmitsLabel : Draft → Draft → ℕ → Case → Scope → Type 0
EmitsLabel old new test c scope =
    (end : Draft) (cs : Cases) → test + 1 + count_cases cs ≤ end_in old → EmitsLabels new end (test + 1) cs scope
    → EmitsLabels old end test (next_case c cs) scope
