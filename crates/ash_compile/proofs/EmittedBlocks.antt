-- Emitted code of lists of statements, of blocks and of `if`.
use Rattle.std.proofs.Common.{◌≡◌, ◌≤◌, ◌<◌, ℕ, ◌+◌, List, ◌++◌, length, refl, sym, ap, ◌∙◌, subst, arith}
use Rattle.std.proofs.Common.{Bool, length-append, rules}
use Rattle.std.specs.Prelude.{Option, Some, None, slice_get}
use Rattle.ash_typed.specs.declared.types.VarType.{VarType}
use Rattle.ash_typed.specs.declared.tree.statements.StmtKind.{StmtKind}
use Rattle.ash_typed.specs.declared.tree.statements.StmtKind.TheVariants as kinds
use Rattle.ash_typed.specs.declared.tree.statements.StmtKind.TheViews as views
use Rattle.std.specs.declared.boxed.Box.{Box}
use Rattle.std.specs.declared.alloc.Global.{Global}
use Rattle.ash_typed.specs.declared.tree.expressions.Expr as code_expr
use Rattle.ash_typed.specs.declared.tree.statements.Stmt as code_stmt
use Rattle.ash_typed.specs.TypedTreeViews.{expr_of}
use Rattle.ash_typed.specs.BodyViews.{stmt_at, stmt_of}
use Rattle.ash_typed.specs.TypedTree.{Expr}
use Rattle.ash_typed.specs.StatementTree.{Initialization, Stmt, Declare, Block, If, no_branch, branch, Stmts, no_stmt, stmt}
use Rattle.ash_typed.specs.SoundStatements.{TypedScope, IsSoundStmt, AreSoundStmts, AreSoundDeclarations, IsSoundCondition}
use Rattle.ash_typed.specs.SoundStatements as typing
use Rattle.ash_meaning.specs.StatementMeaning.{statement, statements, declare_all, condition}
use Rattle.ash_code.specs.declared.instruction.Instruction.{Instruction}
use Rattle.ash_code.specs.declared.instruction.Instruction.TheVariants as i
use Rattle.ash_code.specs.Running.{instruction_at}
use Rattle.ash_compile.specs.declared.builder.Written.{Written}
use Rattle.ash_compile.specs.declared.bodies.Scope.{Scope}
use Rattle.ash_compile.specs.declared.bodies.Branch.{Branch}
use Rattle.ash_compile.specs.declared.bodies.Condition.{Condition}
use Rattle.ash_compile.specs.Performances.{Exits, Acts, Decides, Performs}
use Rattle.ash_compile.specs.Emission.{code_of, end_of, Keeps, Puts, Leads, Scene, IsScene, Suits, Good, calls_of}
use Rattle.ash_compile.specs.EmittedStatements.{AreBelow, AreApart, Draft, with_jumps, end_in, Grows, StandsWith, shown, IsIn}
use Rattle.ash_compile.specs.EmittedStatements.{typed_scope, DoesFlow, EmitsStatement, EmitsStatements, EmitsListed, with_count}
use Rattle.ash_compile.specs.EmittedStatements.{EmitsVariables, branch_on, Tests}
use Rattle.ash_compile.proofs.Emission.{HasAt, keeps_on, put_keeps, put_one, put_there, suits_before, stands_before, stands_after, has_put}
use Rattle.ash_compile.proofs.EmittedBranches.{leads_end, leads_there, leads_other, leads_keeps, suits_led}
use Rattle.ash_compile.proofs.TypedStatements.{ranked_of}
use Rattle.ash_compile.proofs.StatementCode.{does_if, does_if_else}
use Rattle.ash_compile.proofs.Statements as code
use Rattle.ash_compile.proofs.BlockCode.{with_types, still_scene, does_no_statements, does_statements, does_declare, does_block}
use Rattle.ash_compile.proofs.Drafts.{grows_code, grows_on, joins_none, joins_wider, with_before, with_after, plainly_put}
use Rattle.ash_compile.proofs.Drafts.{shown_code, shown_kept, led_before}
use Rattle.ash_compile.proofs.EmittedParts.{keeps_same, put_stays, suits_still}

grows_same : (d : Draft) → Grows d d
grows_same d = record {
  code = keeps_same d.code;
  breaks = joins_none d.breaks (end_in d) (end_in d) (omega arith);
  continues = joins_none d.continues (end_in d) (end_in d) (omega arith);
  apart = λ breaks continues apart. apart;
}

-- lists

pub no_statements : (d : Draft) (scope : Scope) → EmitsStatements d d no_stmt scope
no_statements d scope = record {
  grows = grows_same d;
  does = λ s exits result b c scene inside sound no_breaks no_continues apart stands suits. (
    length (s.env).locals,
    omega arith,
    does_no_statements s scene (ranked_of s scene) exits (end_in d) (length (s.env).locals),
  );
}

-- what is no declaration
abbrev pub IsNoDeclaration : Stmt → Type 0
IsNoDeclaration (Declare line vs) = ⊥
IsNoDeclaration _ = Unit {0}

sound_first : {scope : TypedScope} {x : Stmt} {xs : Stmts} → IsNoDeclaration x → AreSoundStmts scope (stmt x xs)
    → IsSoundStmt scope x × AreSoundStmts scope xs
sound_first other (typing.declare declares rest) = absurd other
sound_first other (typing.more_stmts first rest) = (first, rest)

pub listed : (old new : Draft) (x : Stmt) (scope : Scope) → IsNoDeclaration x → EmitsStatement old new x scope
    → EmitsListed old new x scope scope.locals
listed old new x scope other emits end xs rest = record {
  grows = grows_on old new end emits.grows rest.grows;
  does = λ s exits result b c scene inside sound no_breaks no_continues apart stands suits.
      let both = sound_first other sound in
      let later = rest.does s exits result b c scene inside both.1 (((emits.grows).breaks).below no_breaks)
      (((emits.grows).continues).below no_continues) ((emits.grows).apart no_breaks no_continues apart)
      (with_after s exits end (end_in old) (end_in new) (end_in end) ((emits.grows).code).longer stands) suits in (
        later.0,
        later.1,
        does_statements s scene (ranked_of s scene) exits result b c x xs (end_in old) (end_in new) (end_in end) later.0 both.0
            (emits.does s exits result b c scene inside both.0 no_breaks no_continues apart
            (with_before s exits new end (end_in old) rest.grows stands) (suits_before s new.code end.code (rest.grows).code suits))
            later.2,
      );
}

undeclared : {scope : TypedScope} {line : ℕ} {vs : List Initialization} → IsSoundStmt scope (Declare line vs) → ⊥
undeclared is = elim is [ ]

-- the scope of what sees more variables
wider : (s : Scene) (exits : Exits) (result : Option VarType) (scope : Scope) (types : List VarType) (more : ℕ)
    → IsIn scope s exits result → more ≡ length ((s.env).locals ++ types)
    → IsIn (with_count scope more) (with_types s types) exits result
wider s exits result scope types more inside is = record {
  locals = is;
  broken = inside.broken;
  continued = inside.continued;
  keeps_broken = omega (arith, inside.keeps_broken, inside.locals, is, length-append (s.env).locals types);
  keeps_continued = omega (arith, inside.keeps_continued, inside.locals, is, length-append (s.env).locals types);
  returns = inside.returns;
}

pub declaration : (old mid new : Written) (line : ℕ) (vs : List Initialization) (scope : Scope) (more : ℕ)
    → Puts old mid scope.locals (i.Tick line) → EmitsVariables mid new vs scope.locals more
    → (breaks continues : List ℕ)
    → EmitsListed (with_jumps old breaks continues) (with_jumps new breaks continues) (Declare line vs) scope more
declaration old mid new line vs scope more ticks emits breaks continues end xs rest = record {
  grows = grows_on (with_jumps old breaks continues) (with_jumps new breaks continues) end
      (grows_code old new breaks continues keeps) rest.grows;
  does = λ s exits result b c scene inside sound no_breaks no_continues apart stands suits.
      by_sound s exits result b c scene inside sound no_breaks no_continues apart stands suits;
}
  where
    one : end_of mid ≡ end_of old + 1
    one = put_one old mid scope.locals (i.Tick line) ticks

    keeps : Keeps old new
    keeps = keeps_on old mid new (put_keeps old mid scope.locals (i.Tick line) ticks) emits.keeps

    below : (places : List ℕ) → AreBelow (end_of old) places → AreBelow (end_of new) places
    below places free k low = free k (omega (arith, low, keeps.longer))

    by_sound : (s : Scene) (exits : Exits) (result : Option VarType) (b c : Bool) → IsScene s → IsIn scope s exits result
        → AreSoundStmts (typed_scope s result b c) (stmt (Declare line vs) xs)
        → AreBelow (end_of old) breaks → AreBelow (end_of old) continues → AreApart breaks continues
        → StandsWith s exits end (end_of old) (end_in end) → Suits s end.code
        → (most : ℕ) × (length (s.env).locals ≤ most)
        × DoesFlow s exits (statements (calls_of s) s.depth (stmt (Declare line vs) xs)) (end_of old) (end_in end) most
    by_sound s exits result b c scene inside (typing.declare {types = types} declares sound) no_breaks no_continues apart stands suits =
        let here = plainly_put s exits old new end breaks continues keeps rest.grows no_breaks no_continues stands in
        let acts = emits.does s types scene inside.locals declares
        (stands_after s (code_of new) (end_of old) (end_of mid) (end_of new) (omega (arith, one)) here)
        (suits_before s new end.code (rest.grows).code suits) in
        let later = rest.does (with_types s types) exits result b c (still_scene s types scene)
        (wider s exits result scope types more inside acts.0) sound (below breaks no_breaks) (below continues no_continues) apart
        (with_after s exits end (end_of old) (end_of new) (end_in end) keeps.longer stands)
        (suits_still s types end.code suits) in (
          later.0,
          omega (arith, later.1, length-append (s.env).locals types),
          does_declare s scene (ranked_of s scene) exits line vs types xs (end_of old) (end_of new) (end_in end) more later.0
              declares
              (has_put s old mid (end_of old) scope.locals (i.Tick line) (omega arith) ticks
              (stands_before s mid new (end_of old) emits.keeps here))
              (subst (λ (n : ℕ). Acts s.setting (Good s) s.function s.room (declare_all (calls_of s) vs) n (end_of new)
              (length (s.env).locals) more) one acts.1)
              (subst (λ (n : ℕ). Performs s.setting (Good (with_types s types)) s.function s.room exits
              (statements (calls_of s) s.depth xs) (end_of new) (end_in end) n later.0) (sym acts.0) later.2),
        )
    by_sound s exits result b c scene inside (typing.more_stmts first sound) no_breaks no_continues apart stands suits =
        absurd (undeclared first)

-- blocks

sound_block : {scope : TypedScope} {line : ℕ} {xs : Stmts} → IsSoundStmt scope (Block line xs) → AreSoundStmts scope xs
sound_block (typing.block sound) = sound

pub block : (old mid : Draft) (new : Written) (line : ℕ) (xs : Stmts) (scope : Scope) → EmitsStatements old mid xs scope
    → Puts mid.code new scope.locals (i.EndBlock scope.locals)
    → EmitsStatement old (with_jumps new mid.breaks mid.continues) (Block line xs) scope
block old mid new line xs scope emits puts = record {
  grows = grows_on old mid (with_jumps new mid.breaks mid.continues) emits.grows last;
  does = λ s exits result b c scene inside sound no_breaks no_continues apart stands suits.
      let d = with_jumps new mid.breaks mid.continues in
      let does = emits.does s exits result b c scene inside (sound_block sound) no_breaks no_continues apart
      (with_before s exits mid d (end_in old) last stands) (suits_before s mid.code new last.code suits) in
      subst (λ (to : ℕ). DoesFlow s exits (statement (calls_of s) s.depth (Block line xs)) (end_in old) to
      (length (s.env).locals)) (sym one)
      (does_block s scene (ranked_of s scene) exits result b c line xs (end_in old) (end_in mid) does.0 (sound_block sound)
      (omega (arith, inside.keeps_broken, inside.broken, inside.locals))
      (omega (arith, inside.keeps_continued, inside.continued, inside.locals)) does.1 does.2
      (subst (λ (n : ℕ). HasAt s (end_in mid) (i.EndBlock n)) inside.locals
      (stands (end_in mid) ((emits.grows).code).longer (omega (arith, one))
      ∙ shown_code exits d (end_in mid) (((emits.grows).breaks).below no_breaks (end_in mid) (omega arith))
      (((emits.grows).continues).below no_continues (end_in mid) (omega arith))
      ∙ put_there mid.code new scope.locals (i.EndBlock scope.locals) puts)));
}
  where
    one : end_of new ≡ end_in mid + 1
    one = put_one mid.code new scope.locals (i.EndBlock scope.locals) puts

    last : Grows mid (with_jumps new mid.breaks mid.continues)
    last = grows_code mid.code new mid.breaks mid.continues
        (put_keeps mid.code new scope.locals (i.EndBlock scope.locals) puts)

-- `if`

-- The code has a tick and a condition; its branch leads somewhere.
module _ (c0 c1 c2 : Written) (line : ℕ) (e : Expr) (scope : Scope) (test : Branch)
    (ticks : Puts c0 c1 scope.locals (i.Tick line)) (tests : Tests c1 c2 e scope.locals test) where
  pub tick_one : end_of c1 ≡ end_of c0 + 1
  tick_one = put_one c0 c1 scope.locals (i.Tick line) ticks

  pub test_keeps : Keeps c0 c2
  test_keeps = keeps_on c0 c1 c2 (put_keeps c0 c1 scope.locals (i.Tick line) ticks) tests.keeps

  pub test_end : end_of c2 ≡ test.at + 1
  test_end = tests.end

  pub test_later : end_of c0 < test.at
  test_later = omega (arith, tick_one, tests.later)

  pub test_tick : (s : Scene)
      → ((k : ℕ) → end_of c0 ≤ k → k < test.at
      → instruction_at (s.setting).code (record { function = s.function; at = k }) ≡ slice_get (code_of c2) k)
      → HasAt s (end_of c0) (i.Tick line)
  test_tick s stands =
      stands (end_of c0) (omega arith) test_later
      ∙ put_stays c0 c1 c2 scope.locals (i.Tick line) ticks tests.keeps

  pub test_does : (s : Scene) (unmet : ℕ) → IsScene s → scope.locals ≡ length (s.env).locals → IsSoundCondition s.env e
      → ((k : ℕ) → end_of c0 ≤ k → k < test.at
      → instruction_at (s.setting).code (record { function = s.function; at = k }) ≡ slice_get (code_of c2) k)
      → HasAt s test.at (branch_on test.condition unmet)
      → Suits s c2
      → Decides s.setting (Good s) s.function s.room (condition (calls_of s) e) (end_of c0 + 1) (end_of c2) unmet
      (length (s.env).locals)
  test_does s unmet scene is typed stands has suits =
      subst (λ (from : ℕ). Decides s.setting (Good s) s.function s.room (condition (calls_of s) e) from (end_of c2) unmet
      (length (s.env).locals)) tick_one
      (tests.does s unmet scene is typed
      (λ k low high. stands k (omega (arith, low, tick_one)) high) has suits)

sound_if : {scope : TypedScope} {line : ℕ} {e : Expr} {x : Stmt} → IsSoundStmt scope (If line e x no_branch)
    → IsSoundCondition scope.env e × IsSoundStmt scope x
sound_if (typing.if_only typed x) = (typed, x)

sound_if_else : {scope : TypedScope} {line : ℕ} {e : Expr} {x y : Stmt} → IsSoundStmt scope (If line e x (branch y))
    → IsSoundCondition scope.env e × IsSoundStmt scope x × IsSoundStmt scope y
sound_if_else (typing.if_else typed x y) = (typed, x, y)

pub if_only : (c0 c1 c2 c3 c4 : Written) (breaks continues breaks' continues' : List ℕ) (line : ℕ) (e : Expr) (x : Stmt)
    (scope : Scope) (at to : ℕ) (by : Condition)
    → Puts c0 c1 scope.locals (i.Tick line) → Tests c1 c2 e scope.locals (record { at = at; condition = by })
    → EmitsStatement (with_jumps c2 breaks continues) (with_jumps c3 breaks' continues') x scope
    → to ≡ end_of c3 → Leads c3 c4 at (branch_on by to)
    → EmitsStatement (with_jumps c0 breaks continues) (with_jumps c4 breaks' continues') (If line e x no_branch) scope
if_only c0 c1 c2 c3 c4 breaks continues breaks' continues' line e x scope at to by ticks tests emits to_is leads = record {
  grows = record {
    code = leads_keeps c0 c3 c4 at (branch_on by to) (keeps_on c0 c2 c3 keeps ((emits.grows).code))
        (omega (arith, test_later c0 c1 c2 line e scope (record { at = at; condition = by }) ticks tests)) leads;
    breaks = joins_wider breaks breaks' (end_of c0) (end_of c2) (end_of c3) (end_of c4) keeps.longer (omega (arith, end))
        (emits.grows).breaks;
    continues = joins_wider continues continues' (end_of c0) (end_of c2) (end_of c3) (end_of c4) keeps.longer
        (omega (arith, end)) (emits.grows).continues;
    apart = λ below_breaks below_continues apart.
        (emits.grows).apart (λ k low. below_breaks k (omega (arith, low, keeps.longer)))
        (λ k low. below_continues k (omega (arith, low, keeps.longer))) apart;
  };
  does = λ s exits result b c scene inside sound no_breaks no_continues apart stands suits.
      let start = with_jumps c2 breaks continues in
      let mid = with_jumps c3 breaks' continues' in
      let last = with_jumps c4 breaks' continues' in
      let plain : (k : ℕ) → end_of c0 ≤ k → k < end_of c2 → shown exits mid k ≡ slice_get (code_of c2) k
      = λ k low high. shown_kept exits start mid k emits.grows high
      ∙ shown_code exits start k (no_breaks k low) (no_continues k low) in
      let other : (k : ℕ) → end_of c0 ≤ k → k < end_of c3 → (k ≡ at → ⊥)
      → instruction_at (s.setting).code (record { function = s.function; at = k }) ≡ shown exits mid k
      = λ k low high apart. stands k low (omega (arith, high, end))
      ∙ led_before exits c3 c4 breaks' continues' at k (branch_on by to) leads apart in
      let before : (k : ℕ) → end_of c0 ≤ k → k < at
      → instruction_at (s.setting).code (record { function = s.function; at = k }) ≡ slice_get (code_of c2) k
      = λ k low high. other k low (omega (arith, high, two, ((emits.grows).code).longer)) (λ is. omega (arith, is, high))
      ∙ plain k low (omega (arith, high, two)) in
      let low_at : end_of c0 ≤ at = omega (arith, test_later c0 c1 c2 line e scope (record { at = at; condition = by }) ticks tests) in
      let branches : HasAt s at (branch_on by (end_of c4))
      = stands at low_at (omega (arith, two, ((emits.grows).code).longer, end))
      ∙ shown_code exits last at
      (((emits.grows).breaks).same at (omega (arith, two)) ∙ no_breaks at low_at)
      (((emits.grows).continues).same at (omega (arith, two)) ∙ no_continues at low_at)
      ∙ leads_there c3 c4 at (branch_on by to) leads (omega (arith, two, ((emits.grows).code).longer))
      ∙ ap (λ (n : ℕ). Some (branch_on by n)) (to_is ∙ sym end) in
      let suits2 = suits_before s c2 c3 (emits.grows).code (suits_led s c3 c4 at (branch_on by to) leads suits) in
      let both = sound_if sound in
      does_if s scene (ranked_of s scene) exits line e x (end_of c0) (end_of c2) (end_of c4) both.0
      (test_tick c0 c1 c2 line e scope (record { at = at; condition = by }) ticks tests s before)
      (test_does c0 c1 c2 line e scope (record { at = at; condition = by }) ticks tests s (end_of c4) scene inside.locals both.0 before branches suits2)
      (subst (λ (n : ℕ). DoesFlow s exits (statement (calls_of s) s.depth x) (end_of c2) n (length (s.env).locals)) (sym end)
      (emits.does s exits result b c scene inside both.1
      (λ k low. no_breaks k (omega (arith, low, keeps.longer))) (λ k low. no_continues k (omega (arith, low, keeps.longer))) apart
      (λ k low high. other k (omega (arith, low, keeps.longer)) high (λ is. omega (arith, is, low, two)))
      (suits_led s c3 c4 at (branch_on by to) leads suits)));
}
  where
    keeps : Keeps c0 c2
    keeps = test_keeps c0 c1 c2 line e scope (record { at = at; condition = by }) ticks tests

    two : end_of c2 ≡ at + 1
    two = test_end c0 c1 c2 line e scope (record { at = at; condition = by }) ticks tests

    end : end_of c4 ≡ end_of c3
    end = leads_end c3 c4 at (branch_on by to) leads

-- c2 with the condition, c3 with the statement, c4 with the jump over the other one, c5 with that, c6 and c7 with the
-- branch and the jump led.
pub if_else : (c0 c1 c2 c3 c4 c5 c6 c7 : Written) (b0 n0 b1 n1 b2 n2 : List ℕ) (line : ℕ) (e : Expr) (x y : Stmt)
    (scope : Scope) (at back unmet to : ℕ) {pending : ℕ} (by : Condition)
    → Puts c0 c1 scope.locals (i.Tick line) → Tests c1 c2 e scope.locals (record { at = at; condition = by })
    → EmitsStatement (with_jumps c2 b0 n0) (with_jumps c3 b1 n1) x scope
    → Puts c3 c4 scope.locals (i.Jump pending)
    → EmitsStatement (with_jumps c4 b1 n1) (with_jumps c5 b2 n2) y scope
    → back ≡ end_of c3 → unmet ≡ end_of c4 → to ≡ end_of c5
    → Leads c5 c6 at (branch_on by unmet) → Leads c6 c7 back (i.Jump to)
    → EmitsStatement (with_jumps c0 b0 n0) (with_jumps c7 b2 n2) (If line e x (branch y)) scope
if_else c0 c1 c2 c3 c4 c5 c6 c7 b0 n0 b1 n1 b2 n2 line e x y scope at back unmet to {pending} by ticks tests first puts second back_is
    unmet_is to_is one two = record {
      grows = record {
        code = leads_keeps c0 c6 c7 back (i.Jump to)
            (leads_keeps c0 c5 c6 at (branch_on by unmet) (keeps_on c0 c2 c5 keeps all.code)
            (omega (arith, test_later c0 c1 c2 line e scope (record { at = at; condition = by }) ticks tests)) one)
            (omega (arith, back_is, keeps.longer, ((first.grows).code).longer)) two;
        breaks = joins_wider b0 b2 (end_of c0) (end_of c2) (end_of c5) (end_of c7) keeps.longer (omega (arith, end)) all.breaks;
        continues = joins_wider n0 n2 (end_of c0) (end_of c2) (end_of c5) (end_of c7) keeps.longer (omega (arith, end))
            all.continues;
        apart = λ below_breaks below_continues apart.
            all.apart (λ k low. below_breaks k (omega (arith, low, keeps.longer)))
            (λ k low. below_continues k (omega (arith, low, keeps.longer))) apart;
      };
      does = λ s exits result b c scene inside sound no_breaks no_continues apart stands suits.
          let F : ℕ → Option Instruction = λ k. instruction_at (s.setting).code (record { function = s.function; at = k }) in
          let d2 = with_jumps c2 b0 n0 in
          let d3 = with_jumps c3 b1 n1 in
          let d5 = with_jumps c5 b2 n2 in
          let d7 = with_jumps c7 b2 n2 in
          let low_at : end_of c0 ≤ at = omega (arith, test_later c0 c1 c2 line e scope (record { at = at; condition = by }) ticks tests) in
          let low2 : (k : ℕ) → end_of c2 ≤ k → end_of c0 ≤ k = λ k low. omega (arith, low, keeps.longer) in
          let suits6 = suits_led s c6 c7 back (i.Jump to) two suits in
          let suits5 = suits_led s c5 c6 at (branch_on by unmet) one suits6 in
          let suits3 = suits_before s c3 c5 (keeps_on c3 c4 c5 (put_keeps c3 c4 scope.locals (i.Jump pending) puts) (second.grows).code)
          suits5 in
          let suits2 = suits_before s c2 c3 (first.grows).code suits3 in
          let other : (k : ℕ) → end_of c0 ≤ k → k < end_of c5 → (k ≡ at → ⊥) → (k ≡ back → ⊥) → F k ≡ shown exits d5 k
          = λ k low high x y. stands k low (omega (arith, high, end))
          ∙ led_before exits c6 c7 b2 n2 back k (i.Jump to) two y
          ∙ led_before exits c5 c6 b2 n2 at k (branch_on by unmet) one x in
          let before : (k : ℕ) → end_of c0 ≤ k → k < at → F k ≡ slice_get (code_of c2) k
          = λ k low high. other k low (omega (arith, high, met, (all.code).longer)) (λ is. omega (arith, is, high))
          (λ is. omega (arith, is, high, met, back_is, ((first.grows).code).longer))
          ∙ shown_kept exits d2 d5 k all (omega (arith, high, met))
          ∙ shown_code exits d2 k (no_breaks k low) (no_continues k low) in
          let branches : HasAt s at (branch_on by (end_of c4))
          = stands at low_at (omega (arith, met, (all.code).longer, end))
          ∙ shown_code exits d7 at ((all.breaks).same at (omega (arith, met)) ∙ no_breaks at low_at)
          ((all.continues).same at (omega (arith, met)) ∙ no_continues at low_at)
          ∙ leads_other c6 c7 back at (i.Jump to) two (λ is. omega (arith, is, met, back_is, ((first.grows).code).longer))
          ∙ leads_there c5 c6 at (branch_on by unmet) one (omega (arith, met, (all.code).longer))
          ∙ ap (λ (n : ℕ). Some (branch_on by n)) unmet_is in
          let jumps_over : HasAt s (end_of c3) (i.Jump (end_of c7))
          = stands (end_of c3) (omega (arith, keeps.longer, ((first.grows).code).longer))
          (omega (arith, four, ((second.grows).code).longer, end))
          ∙ shown_code exits d7 (end_of c3)
          (((second.grows).breaks).same (end_of c3) (omega (arith, four))
          ∙ ((first.grows).breaks).below (λ k low. no_breaks k (low2 k low)) (end_of c3) (omega arith))
          (((second.grows).continues).same (end_of c3) (omega (arith, four))
          ∙ ((first.grows).continues).below (λ k low. no_continues k (low2 k low)) (end_of c3) (omega arith))
          ∙ subst (λ (n : ℕ). slice_get (code_of c7) n ≡ Some (i.Jump to)) back_is
          (leads_there c6 c7 back (i.Jump to) two
          (omega (arith, back_is, four, ((second.grows).code).longer, leads_end c5 c6 at (branch_on by unmet) one)))
          ∙ ap (λ (n : ℕ). Some (i.Jump n)) (to_is ∙ sym end) in
          let parts = sound_if_else sound in
          does_if_else s scene (ranked_of s scene) exits line e x y (end_of c0) (end_of c2) (end_of c4) (end_of c3) (end_of c7)
          parts.0
          (test_tick c0 c1 c2 line e scope (record { at = at; condition = by }) ticks tests s before)
          (test_does c0 c1 c2 line e scope (record { at = at; condition = by }) ticks tests s (end_of c4) scene inside.locals parts.0 before branches suits2)
          (first.does s exits result b c scene inside parts.1 (λ k low. no_breaks k (low2 k low))
          (λ k low. no_continues k (low2 k low)) apart
          (λ k low high.
          other k (low2 k low) (omega (arith, high, four, ((second.grows).code).longer)) (λ is. omega (arith, is, low, met))
          (λ is. omega (arith, is, high, back_is))
          ∙ shown_kept exits d3 d5 k later high) suits3)
          (code.jumps s.setting (Good s) s.function s.room (end_of c3) (end_of c7) jumps_over)
          (subst (λ (n : ℕ). DoesFlow s exits (statement (calls_of s) s.depth y) (end_of c4) n (length (s.env).locals)) (sym end)
          (second.does s exits result b c scene inside parts.2
          (λ k low. ((first.grows).breaks).below (λ n high. no_breaks n (low2 n high)) k (omega (arith, low, four)))
          (λ k low. ((first.grows).continues).below (λ n high. no_continues n (low2 n high)) k (omega (arith, low, four)))
          ((first.grows).apart (λ k low. no_breaks k (low2 k low)) (λ k low. no_continues k (low2 k low)) apart)
          (λ k low high.
          other k (omega (arith, low, four, keeps.longer, ((first.grows).code).longer)) high
          (λ is. omega (arith, is, low, met, four, ((first.grows).code).longer)) (λ is. omega (arith, is, low, four, back_is)))
          suits5));
    }
  where
    keeps : Keeps c0 c2
    keeps = test_keeps c0 c1 c2 line e scope (record { at = at; condition = by }) ticks tests

    met : end_of c2 ≡ at + 1
    met = test_end c0 c1 c2 line e scope (record { at = at; condition = by }) ticks tests

    four : end_of c4 ≡ end_of c3 + 1
    four = put_one c3 c4 scope.locals (i.Jump pending) puts

    later : Grows (with_jumps c3 b1 n1) (with_jumps c5 b2 n2)
    later = grows_on (with_jumps c3 b1 n1) (with_jumps c4 b1 n1) (with_jumps c5 b2 n2)
        (grows_code c3 c4 b1 n1 (put_keeps c3 c4 scope.locals (i.Jump pending) puts)) second.grows

    all : Grows (with_jumps c2 b0 n0) (with_jumps c5 b2 n2)
    all = grows_on (with_jumps c2 b0 n0) (with_jumps c3 b1 n1) (with_jumps c5 b2 n2) first.grows later

    end : end_of c7 ≡ end_of c5
    end = leads_end c6 c7 back (i.Jump to) two ∙ leads_end c5 c6 at (branch_on by unmet) one

-- No sound statement declares variables.
pub declared : (old new : Draft) (line : ℕ) (vs : List Initialization) (scope : Scope) (more : ℕ)
    → EmitsListed old new (Declare line vs) scope more → EmitsStatement old new (Declare line vs) scope
declared old new line vs scope more emits = record {
  grows = (emits new no_stmt (no_statements new (with_count scope more))).grows;
  does = λ s exits result b c scene inside sound no_breaks no_continues apart stands suits. absurd (undeclared sound);
}

-- what the code's statement stands for
pub of_kind : (old new : Draft) (line : ℕ) (k l : StmtKind) (x : Stmt) (scope : Scope) → k ≡ l → stmt_at line l ≡ x
    → EmitsStatement old new x scope → EmitsStatement old new (stmt_at line k) scope
of_kind old new line k l x scope is means emits =
    subst (λ (y : Stmt). EmitsStatement old new y scope) (sym (ap (stmt_at line) is ∙ means)) emits

pub not_declared : (line : ℕ) (k : StmtKind) → ((vs : _) → k ≡ kinds.Declare vs → ⊥) → IsNoDeclaration (stmt_at line k)
not_declared line kinds.Empty isnt = tt
not_declared line (kinds.Declare vs) isnt = isnt vs refl
not_declared line (kinds.Evaluate e) isnt = tt
not_declared line (kinds.Block' shape ss) isnt = tt
not_declared line (kinds.If' c a l k other) isnt = tt
not_declared line (kinds.Repeat inside) isnt = tt
not_declared line (kinds.For head inside) isnt = tt
not_declared line (kinds.Switch' of e shape cs) isnt = tt
not_declared line kinds.Break isnt = tt
not_declared line kinds.Continue isnt = tt
not_declared line (kinds.Return e) isnt = tt

pub if_only_is : (line : ℕ) (e : code_expr.Expr) (x : Box code_stmt.Stmt Global) (o : Option (Box code_stmt.Stmt Global))
    → o ≡ None → stmt_at line (views.If e x o) ≡ If line (expr_of e) (stmt_of x.value) no_branch
if_only_is line e x o is =
    subst (λ (p : Option (Box code_stmt.Stmt Global)). stmt_at line (views.If e x p) ≡ If line (expr_of e) (stmt_of x.value) no_branch)
    (sym is) (none line e x)
  where
    none : (line : ℕ) (e : code_expr.Expr) (x : Box code_stmt.Stmt Global)
        → stmt_at line (views.If e x None) ≡ If line (expr_of e) (stmt_of x.value) no_branch
    none line e x = search (rules, views.the_lemmas)

pub if_else_is : (line : ℕ) (e : code_expr.Expr) (x y : Box code_stmt.Stmt Global) (o : Option (Box code_stmt.Stmt Global))
    → o ≡ Some y → stmt_at line (views.If e x o) ≡ If line (expr_of e) (stmt_of x.value) (branch (stmt_of y.value))
if_else_is line e x y o is =
    subst (λ (p : Option (Box code_stmt.Stmt Global)). stmt_at line (views.If e x p)
    ≡ If line (expr_of e) (stmt_of x.value) (branch (stmt_of y.value))) (sym is) (some line e x y)
  where
    some : (line : ℕ) (e : code_expr.Expr) (x y : Box code_stmt.Stmt Global)
        → stmt_at line (views.If e x (Some y)) ≡ If line (expr_of e) (stmt_of x.value) (branch (stmt_of y.value))
    some line e x y = search (rules, views.the_lemmas)
