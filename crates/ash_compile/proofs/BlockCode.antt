-- The code of declarations, of blocks and of lists of statements of a sound module does what they do.
use Rattle.std.proofs.Common.{◌≡◌, ◌≤◌, ℕ, zero, suc, ◌+◌, List, [], ◌∷◌, ◌++◌, length, refl, sym, ap, ◌∙◌, subst, arith, append_assoc, append-nil, true, Bool}
use Rattle.std.specs.Prelude.{Option, Some, None}
use Rattle.std.specs.Option.{option_map_or}
use Rattle.ash_host.specs.declared.word.Word.{Word}
use Rattle.ash_host.specs.Objects.{LiveObjects}
use Rattle.ash_typed.specs.declared.types.VarType.{VarType}
use Rattle.ash_typed.specs.TypeOf.{ValueType}
use Rattle.ash_typed.specs.TypedTree.{Expr}
use Rattle.ash_typed.specs.StatementTree.{Initialization, Stmt, Declare, Block, Stmts, no_stmt, stmt}
use Rattle.ash_typed.specs.SoundExpressions.{TypedEnvironment, IsWellTyped, Fits, fits}
use Rattle.ash_typed.specs.SoundStatements.{with_locals, IsSoundBeginning, stored, constructed, AreSoundDeclarations, none_declared, and_declared}
use Rattle.ash_typed.specs.SoundStatements.{AreSoundStmts, IsSoundStmt}
use Rattle.ash_typed.specs.Signatures as sig
use Rattle.ash_meaning.specs.Activity.{Activity, in_frame}
use Rattle.ash_meaning.specs.Runs.{Run, Progress, Done, Ended, NoStep, onward, give, skip, ◌>>=◌, ◌>>◌}
use Rattle.ash_meaning.specs.Frames.{tick}
use Rattle.ash_meaning.specs.Releases as releases
use Rattle.ash_meaning.specs.Releases.{full, declare, declaring, let_go}
use Rattle.ash_meaning.specs.OperatorMeaning.{zero_of}
use Rattle.ash_meaning.specs.Classes.{Program}
use Rattle.ash_meaning.specs.ExpressionMeaning.{expression}
use Rattle.ash_meaning.specs.StatementMeaning.{Flow, On, statement, statements, declare_one, declare_all, in_block, go_on}
use Rattle.ash_meaning.specs.Functions.{body}
use Rattle.ash_soundness.specs.WellFormed.{IsGiven, gives_nothing, gives_null, gives, IsWellFormed}
use Rattle.ash_soundness.specs.WellFormedLaws.{Leaves, done, Passes}
use Rattle.ash_soundness.proofs.SoundStaysSound as sound
use Rattle.ash_soundness.proofs.Bodies.{keeps_bodies}
use Rattle.ash_soundness.proofs.Frames.{declared_passes}
use Rattle.ash_soundness.proofs.Integers.{zero_value}
use Rattle.ash_soundness.proofs.Statements.{stored_passes}
use Rattle.ash_run_steps.specs.GuardedSteps.{is_alive}
use Rattle.ash_code.specs.declared.instruction.Instruction.{Instruction}
use Rattle.ash_code.specs.declared.instruction.Instruction.TheVariants as i
use Rattle.ash_compile.specs.Stretches.{Has, Computes}
use Rattle.ash_compile.specs.Performances.{Exits, Acts, Performs}
use Rattle.ash_compile.specs.Emission.{Scene, IsScene, calls_of, DoesExpression}
use Rattle.ash_compile.proofs.Typed.{left_done, evaluates, value_alive}
use Rattle.ash_compile.proofs.Statements as code
use Rattle.ash_compile.proofs.Statements.{LeadsTo, ticks_in}
use Rattle.ash_compile.proofs.Conditions.{RanksAfter}
use Rattle.ash_compile.proofs.Declarations as declarations
use Rattle.ash_compile.proofs.Leaving as leaving
use Rattle.ash_compile.proofs.Loops.{Spends, released_ticks, came}
use Rattle.ash_compile.proofs.TypedStatements.{Ready, IsRanked, scope_of, spends_tick, spends_expression, spends_statement}

-- the function, where it sees more locals
abbrev pub with_types : Scene → List VarType → Scene
with_types s types = record s { env = with_locals s.env types }

pub still_scene : (s : Scene) (types : List VarType) → IsScene s → IsScene (with_types s types)
still_scene s types scene = record {
  sound = scene.sound;
  declares = scene.declares;
  owner = scene.owner;
  ranks = scene.ranks;
  callees = scene.callees;
  classes = scene.classes;
  roomy = scene.roomy;
}

pub given_alive : {p : Program} {of : ValueType} (w : Word) (a : Activity) → IsGiven p (a.world).objects of w
    → is_alive w a ≡ true
given_alive w a gives_nothing = refl
given_alive w a gives_null = refl
given_alive {p} w a (gives {of} v) = value_alive p of w a v

-- A phrase leads from some activities to some, and gains no ticks.
abbrev pub SpendsTo : {A : Type 0} → (Activity → Type 0) → Run A → (Activity → Type 0) → Type 0
SpendsTo {A} Good run Then = (a b : Activity) (v : A) → Good a → run a ≡ Done v b → Then b × (b.ticks ≤ a.ticks)

-- a variable with the value that it begins with, or without one
abbrev pub beginning : Scene → VarType → Option Expr → Run (Unit {0})
beginning s of value = option_map_or (λ e. full (expression (calls_of s) e >>= declare)) value (declare (zero_of of))

module _ (s : Scene) (scene : IsScene s) where
  pub begins_fitting : {of : VarType} {e : Expr} → IsSoundBeginning s.env of (Some e) → Fits s.env of e
  begins_fitting (stored nothing e) = e
  begins_fitting (constructed k e) = fits e sig.same

  ticks_of_value : (e : Expr) (of : ValueType) → IsWellTyped s.env e of → (a b : Activity) (v : Unit {0}) → Ready s a
      → full (expression (calls_of s) e >>= declare) a ≡ Done v b → b.ticks ≤ a.ticks
  ticks_of_value e of typed a b v good is =
      let last = came ((expression (calls_of s) e >>= declare) a) (λ u. releases.end_expression >> give u) v b is in
      let first = came (expression (calls_of s) e a) declare last.0 last.1 last.2 in
      let spent = (spends_expression s scene e of typed a first.1 first.0 good first.2).1 in
      let declared = ap (λ (p : Progress (Unit {0})). ticks_in (first.1).ticks p) (sym first.3) in
      let ends = came (releases.end_expression last.1) (λ _. give last.0) v b last.3 in
      let released = released_ticks (in_frame let_go last.1) ends.1 ends.2 in
      let given = ap (λ (p : Progress (Unit {0})). ticks_in (ends.1).ticks p) (sym ends.3) in
      omega (arith, spent, declared, released, given)

  pub spends_beginning : (of : VarType) (value : Option Expr) → IsSoundBeginning s.env of value
      → SpendsTo (Ready s) (beginning s of value) (Ready (with_types s (of ∷ [])))
  spends_beginning of None begins a b v good is =
      let leaves : Leaves s.context (λ (u : Unit {0}) d. Passes s.context (with_locals s.env (of ∷ [])) s.envs a d)
      (declare (zero_of of) a)
      = done (declared_passes of (zero_of of) good.0 (zero_value of)) in
      let passes = left_done v b leaves is in
      let same : b.ticks ≡ a.ticks = ap (λ (p : Progress (Unit {0})). ticks_in a.ticks p) (sym is) in
      ((passes.well, omega (arith, same, good.1)), omega (arith, same))
  spends_beginning of (Some e) begins a b v good is = by_fitting (begins_fitting begins)
    where
      by_fitting : Fits s.env of e → Ready (with_types s (of ∷ [])) b × (b.ticks ≤ a.ticks)
      by_fitting (fits typed subtype) =
          let passes : Passes s.context (with_locals s.env (of ∷ [])) s.envs a b
          = left_done v b (stored_passes scene.sound (body (s.context).program s.depth)
          (keeps_bodies scene.sound s.depth) s.env scene.declares s.envs (fits typed subtype) good.0
          (λ w d well value. done (declared_passes of w well value))) is in
          let fewer = ticks_of_value e _ typed a b v good is in
          ((passes.well, omega (arith, fewer, good.1)), fewer)

pub spends_declarations : (s : Scene) {vs : List Initialization} {types : List VarType} → IsScene s
    → AreSoundDeclarations s.env vs types
    → SpendsTo (Ready s) (declare_all (calls_of s) vs) (Ready (with_types s types))
spends_declarations s scene none_declared a b v good is =
    let same : b.ticks ≡ a.ticks = ap (λ (p : Progress (Unit {0})). ticks_in a.ticks p) (sym is) in
    let there : IsWellFormed s.context s.env s.envs b = at_same a b v good.0 is in (
      (
        subst (λ (ls : List VarType). IsWellFormed s.context (record s.env { locals = ls }) s.envs b)
            (sym (append-nil (s.env).locals)) there,
        omega (arith, same, good.1),
      ),
      omega (arith, same),
    )
  where
    at_same : (a b : Activity) (v : Unit {0}) → IsWellFormed s.context s.env s.envs a → skip a ≡ Done v b
        → IsWellFormed s.context s.env s.envs b
    at_same a b v good is = subst (λ (p : Progress (Unit {0})). At p) is good
      where
        At : Progress (Unit {0}) → Type 0
        At (Done u d) = IsWellFormed s.context s.env s.envs d
        At _ = Unit {0}
spends_declarations s scene (and_declared {v = x} {vs = vs} {types = types} begins rest) a b v good is =
    let there = came (declare_one (calls_of s) x a) (λ _. declare_all (calls_of s) vs) v b is in
    let first = spends_beginning s scene x.of x.value begins.value a there.1 there.0 good there.2 in
    let later = spends_declarations (with_types s (x.of ∷ [])) (still_scene s (x.of ∷ []) scene) rest there.1 b v
    first.0 there.3 in (
      (
        subst (λ (ls : List VarType). IsWellFormed s.context (record s.env { locals = ls }) s.envs b)
            (append_assoc (s.env).locals (x.of ∷ []) types) (later.0).0,
        omega (arith, later.1, first.1, good.1),
      ),
      omega (arith, later.1, first.1),
    )

module _ (s : Scene) (scene : IsScene s) (ranked : IsRanked s) where
  abbrev locals : ℕ
  locals = length (s.env).locals

  abbrev HasAt : ℕ → Instruction → Type 0
  HasAt = Has s.setting (Ready s) s.function s.room

  -- variables

  pub does_zero : (of : VarType) (from : ℕ) → suc locals ≤ s.room
      → HasAt from (i.Load (zero_of of) locals) → HasAt (from + 1) i.Declare
      → Acts s.setting (Ready s) s.function s.room (beginning s of None) from (from + 1 + 1) locals (locals + 1)
  does_zero of from within has_load has_declare =
      declarations.declares_zero s.setting (Ready s) s.function s.room of from locals (omega (arith, within)) has_load
      has_declare

  pub does_value : (of : VarType) (e : Expr) (t : ValueType) (from mid : ℕ) → IsWellTyped s.env e t
      → DoesExpression s e from mid locals
      → HasAt mid i.DeclareAndEnd
      → Acts s.setting (Ready s) s.function s.room (beginning s of (Some e)) from (mid + 1) locals (locals + 1)
  does_value of e t from mid typed does has =
      declarations.declares_value s.setting (Ready s) s.function s.room (expression (calls_of s) e) from mid locals
      (record {
        within = does.within;
        comes = λ w a rest low long fits good. does.comes w a rest low long fits good;
      })
      has
      (λ a b v good is. given_alive v b ((evaluates s e t a b v scene typed good is).carried).value)
      (λ a b v good is. ranked s.env b (((spends_expression s scene e t typed a b v good is).0).0))

  pub does_no_declarations : (at count : ℕ)
      → Acts s.setting (Ready s) s.function s.room (declare_all (calls_of s) []) at at count count
  does_no_declarations at count = code.acts_none s.setting (Ready s) s.function s.room at count

  pub does_declarations : (v : Initialization) (vs : List Initialization) (from mid to most : ℕ)
      → IsSoundBeginning s.env v.of v.value
      → Acts s.setting (Ready s) s.function s.room (beginning s v.of v.value) from mid locals (locals + 1)
      → Acts s.setting (Ready (with_types s (v.of ∷ []))) s.function s.room (declare_all (calls_of s) vs) mid to
      (locals + 1) most
      → Acts s.setting (Ready s) s.function s.room (declare_all (calls_of s) (v ∷ vs)) from to locals most
  does_declarations v vs from mid to most begins first second =
      code.acts_then s.setting (Ready s) s.function s.room (Ready (with_types s (v.of ∷ []))) (beginning s v.of v.value)
      (declare_all (calls_of s) vs) from mid to locals (locals + 1) most first
      (λ a b u good is. (spends_beginning s scene v.of v.value begins a b u good is).0) second

  -- lists of statements

  pub does_no_statements : (exits : Exits) (at count : ℕ)
      → Performs s.setting (Ready s) s.function s.room exits (statements (calls_of s) s.depth no_stmt) at at count count
  does_no_statements exits at count = code.performs_none s.setting (Ready s) s.function s.room exits at count

  pub does_statements : (exits : Exits) (result : Option VarType) (breaks continues : Bool) (x : Stmt) (xs : Stmts)
      (from mid to most : ℕ)
      → IsSoundStmt (scope_of s scene result breaks continues) x
      → Performs s.setting (Ready s) s.function s.room exits (statement (calls_of s) s.depth x) from mid locals locals
      → Performs s.setting (Ready s) s.function s.room exits (statements (calls_of s) s.depth xs) mid to locals most
      → Performs s.setting (Ready s) s.function s.room exits (statements (calls_of s) s.depth (stmt x xs)) from to locals
      most
  does_statements exits result breaks continues x xs from mid to most is_sound first second =
      code.performs_then s.setting (Ready s) s.function s.room exits (Ready s) (statement (calls_of s) s.depth x)
      (statements (calls_of s) s.depth xs) from mid to locals locals most first
      (λ a b good is. (spends_statement s scene result breaks continues x is_sound a b On good is).0) second

  -- a declaration, and the statements that see it
  pub does_declare : (exits : Exits) (line : ℕ) (vs : List Initialization) (types : List VarType) (xs : Stmts)
      (from mid to more most : ℕ)
      → AreSoundDeclarations s.env vs types
      → HasAt from (i.Tick line)
      → Acts s.setting (Ready s) s.function s.room (declare_all (calls_of s) vs) (from + 1) mid locals more
      → Performs s.setting (Ready (with_types s types)) s.function s.room exits (statements (calls_of s) s.depth xs) mid to
      more most
      → Performs s.setting (Ready s) s.function s.room exits (statements (calls_of s) s.depth (stmt (Declare line vs) xs))
      from to locals most
  does_declare exits line vs types xs from mid to more most is_sound has acts rest =
      code.performs_then s.setting (Ready s) s.function s.room exits (Ready (with_types s types))
      (statement (calls_of s) s.depth (Declare line vs)) (statements (calls_of s) s.depth xs) from mid to locals more most
      (code.does s.setting (Ready s) s.function s.room exits (Ready s) (declare_all (calls_of s) vs) line from mid locals
      more has (λ a b v good is. (spends_tick s scene line a b v good is).0) acts)
      declared rest
    where
      declared : (a b : Activity) → Ready s a → statement (calls_of s) s.depth (Declare line vs) a ≡ Done On b
          → Ready (with_types s types) b
      declared a b good is =
          let last = came ((tick line >> declare_all (calls_of s) vs) a) (λ _. give On) On b is in
          let first = came (tick line a) (λ _. declare_all (calls_of s) vs) last.0 last.1 last.2 in
          let begun = (spends_tick s scene line a first.1 first.0 good first.2).0 in
          let there = (spends_declarations s scene is_sound first.1 last.1 last.0 begun first.3).0 in
          subst (λ (p : Progress Flow). At p) last.3 there
        where
          At : Progress Flow → Type 0
          At (Done u d) = Ready (with_types s types) d
          At _ = Unit {0}

  -- blocks

  pub does_block : (exits : Exits) (result : Option VarType) (breaks continues : Bool) (line : ℕ) (xs : Stmts)
      (from mid more : ℕ)
      → AreSoundStmts (scope_of s scene result breaks continues) xs
      → (exits.broken).outer ≤ locals → (exits.continued).outer ≤ locals → locals ≤ more
      → Performs s.setting (Ready s) s.function s.room exits (statements (calls_of s) s.depth xs) from mid locals more
      → HasAt mid (i.EndBlock locals)
      → Performs s.setting (Ready s) s.function s.room exits (statement (calls_of s) s.depth (Block line xs)) from (mid + 1)
      locals locals
  does_block exits result breaks continues line xs from mid more is_sound fewer also grows performs has =
      leaving.blocks s.setting (Ready s) s.function s.room exits (statements (calls_of s) s.depth xs) from mid (mid + 1) locals
      more fewer also grows performs (leaving.ends_at_once s.setting (Ready s) s.function s.room mid locals more grows has)
      (λ a b good is.
      let on = left_done On b
      (sound.blocks_keep scene.sound s.depth (scope_of s scene result breaks continues) s.envs xs a scene.declares is_sound
      good.0) is in
      ranked (with_locals s.env on.types) b ((on.leads).passes).well)
