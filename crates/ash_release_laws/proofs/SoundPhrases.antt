-- Release points of sound phrases are at well-formed activities.
use Rattle.std.proofs.Common.{◌≡◌, ◌∷◌, Bool, Option, ℕ, List, length, sym, subst}
use Rattle.ash_host.specs.declared.word.Word.{Word}
use Rattle.ash_typed.specs.TypedTree.{Expr}
use Rattle.ash_typed.specs.StatementTree.{Stmt, Stmts}
use Rattle.ash_typed.specs.TypeOf.{ValueType, value_of_result}
use Rattle.ash_typed.specs.declared.types.VarType.{VarType}
use Rattle.ash_typed.specs.SoundExpressions.{TypedEnvironment, IsWellTyped}
use Rattle.ash_typed.specs.SoundStatements.{TypedScope, with_locals, IsSoundStmt, AreSoundStmts}
use Rattle.ash_meaning.specs.Activity.{Activity, in_frame}
use Rattle.ash_meaning.specs.Runs.{Progress, Done}
use Rattle.ash_meaning.specs.Releases.{keeping, let_go}
use Rattle.ash_meaning.specs.Functions.{body, calls_within}
use Rattle.ash_meaning.specs.ExpressionMeaning.{expression}
use Rattle.ash_meaning.specs.StatementMeaning.{Flow, On, Returned, statement, statements}
use Rattle.ash_meaning.specs.CallMeaning.{value_or_null}
use Rattle.ash_meaning.specs.Frames.{back_in}
use Rattle.ash_soundness.specs.WellFormed.{Context, IsContext, declared, IsGiven, IsWellFormed}
use Rattle.ash_soundness.specs.WellFormedLaws.{Leaves, done, IsLeftBy, by_return}
use Rattle.ash_soundness.proofs.Lists.{values_length}
use Rattle.ash_soundness.proofs.SoundStaysSound.{expressions_keep, statements_keep, blocks_keep}
use Rattle.ash_release_laws.specs.Settling.{AtEachEnd, IsNumbered, IsSettled, IsSettledBy}
use Rattle.ash_release_laws.specs.SafePoints.{SoundPhrasesReleaseSafely}
use Rattle.ash_release_laws.proofs.Settled.{goes_on_settled}
use Rattle.ash_release_laws.proofs.PhraseSettling.{to_statement, to_body}
use Rattle.ash_release_laws.proofs.Safe.{release_points_are_safe}
use Rattle.ash_release_laws.proofs.Dangling.{lives_exactly_if_reached}

module _ {c : Context} where
  left_at : {A : Type 0} {Left : A → Activity → Type 0} (v : A) (b : Activity) → Leaves c Left (Done v b) → Left v b
  left_at v b (done l) = l

  left_of : {A : Type 0} {Left : A → Activity → Type 0} {p : Progress A} (v : A) (b : Activity) → Leaves c Left p → p ≡ Done v b → Left v b
  left_of {A} {Left} v b l e = left_at v b (subst (λ (q : Progress A). Leaves c Left q) e l)

  given_of : {gives : Option VarType} {breaks continues : Bool} (v : Option Word) (b : Activity) → IsLeftBy c gives breaks continues b (Returned v) → IsGiven c.program (b.world).objects (value_of_result gives) (value_or_null v)
  given_of v b (by_return k) = k.value

module _ (c : Context) (is : IsContext c) (depth : ℕ) where
  full_left : (env : TypedEnvironment) (envs : List TypedEnvironment) (e : Expr) (of : ValueType) (a b : Activity) (v : Word) → env.signatures ≡ declared c → IsWellTyped env e of → IsWellFormed c env envs a → expression (calls_within c.program depth) e a ≡ Done v b → IsWellFormed c env envs (in_frame let_go b)
  full_left env envs e of a b v own typed well runs =
      let gone = left_of v b (expressions_keep is depth env envs e of a own typed well) runs in
      release_points_are_safe.let_go env envs b ((gone.goes).passes).well

  block_left : (scope : TypedScope) (envs : List TypedEnvironment) (ss : Stmts) (a b : Activity) (flow : Flow) → (scope.env).signatures ≡ declared c → AreSoundStmts scope ss → IsWellFormed c scope.env envs a → statements (calls_within c.program depth) depth ss a ≡ Done flow b → IsWellFormed c scope.env envs (in_frame (keeping (length (a.frame).locals)) b)
  block_left scope envs ss a b flow own sound well runs =
      let led = left_of flow b (blocks_keep is depth scope envs ss a own sound well) runs in
      subst (λ (n : ℕ). IsWellFormed c scope.env envs (in_frame (keeping n) b)) (sym (values_length (well.frame).locals))
      (release_points_are_safe.blocks_left scope.env envs led.types b ((led.leads).passes).well)

  frame_left : (scope : TypedScope) (env : TypedEnvironment) (envs : List TypedEnvironment) (ss : Stmts) (a b : Activity) (v : Option Word) → (scope.env).signatures ≡ declared c → AreSoundStmts scope ss → IsWellFormed c scope.env (env ∷ envs) a → statements (calls_within c.program depth) depth ss a ≡ Done (Returned v) b → IsWellFormed c env envs (back_in b.callers (value_or_null v) b)
  frame_left scope env envs ss a b v own sound well runs =
      let led = left_of (Returned v) b (blocks_keep is depth scope (env ∷ envs) ss a own sound well) runs in
      release_points_are_safe.frame_left env (with_locals scope.env led.types) envs (value_of_result scope.result) (value_or_null v) b ((led.leads).passes).well (given_of v b (led.leads).left)

  statement_left : (scope : TypedScope) (envs : List TypedEnvironment) (s : Stmt) (a b : Activity) (flow : Flow) → (scope.env).signatures ≡ declared c → IsSoundStmt scope s → IsWellFormed c scope.env envs a → statement (calls_within c.program depth) depth s a ≡ Done flow b → IsWellFormed c scope.env envs b
  statement_left scope envs s a b flow own sound well runs =
      let led = left_of flow b (statements_keep is depth scope envs s a own sound well) runs in
      (led.passes).well

  settled_left : (s : Stmt) (a b : Activity) → IsNumbered a → IsSettled a → statement (calls_within c.program depth) depth s a ≡ Done On b → IsSettled b
  settled_left s a b numbered settled runs =
      subst (λ (q : Progress Flow). AtEachEnd IsSettledBy IsSettled q) runs
      (goes_on_settled (to_statement c.program (body c.program depth) (to_body c.program depth) depth s) a numbered settled)

  pub sound_phrases_release_safely : SoundPhrasesReleaseSafely c depth
  sound_phrases_release_safely = record {
    full_expressions = full_left;
    blocks = block_left;
    returns = frame_left;
    left = statement_left;
    exactly = λ scope envs s a b own sound well settled runs.
        lives_exactly_if_reached scope.env envs b (statement_left scope envs s a b On own sound well runs)
        (settled_left s a b (well.world).numbered settled runs);
  }
