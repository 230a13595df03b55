-- Full expressions of a sound module whose values are stored outside the frame: what they leave.
use Rattle.std.proofs.Common.{◌≡◌, ◌≤◌, ℕ, subst, arith}
use Rattle.ash_host.specs.declared.word.Word.{Word}
use Rattle.ash_typed.specs.declared.types.VarType.{VarType}
use Rattle.ash_typed.specs.TypeOf.{value, as_value}
use Rattle.ash_typed.specs.TypedTree.{Expr}
use Rattle.ash_typed.specs.Signatures.{ModuleSignatures, IsSubtype}
use Rattle.ash_typed.specs.SoundExpressions.{Fits, fits}
use Rattle.ash_meaning.specs.Activity.{Activity}
use Rattle.ash_meaning.specs.Runs.{Run, Progress, Done, ◌>>=◌}
use Rattle.ash_meaning.specs.Releases.{full}
use Rattle.ash_meaning.specs.ExpressionMeaning.{expression}
use Rattle.ash_meaning.specs.Functions.{body}
use Rattle.ash_meaning.specs.MeaningLaws.{LeavesAtMost}
use Rattle.ash_meaning.proofs.Traces.{leaves}
use Rattle.ash_meaning.proofs.Walks.{Walk, bound}
use Rattle.ash_meaning.proofs.StepWalks.{to_full}
use Rattle.ash_meaning.proofs.PhraseWalks.{walk_expression}
use Rattle.ash_meaning.proofs.Depth.{walk_called}
use Rattle.ash_soundness.specs.WellFormed.{IsValue, IsWellFormed}
use Rattle.ash_soundness.specs.WellFormedLaws.{Leaves, Passes}
use Rattle.ash_soundness.proofs.SoundStaysSound as sound
use Rattle.ash_soundness.proofs.Triples.{bind, weaken, passes_more}
use Rattle.ash_soundness.proofs.Fits.{fitting_value}
use Rattle.ash_soundness.proofs.Frames.{full_passes}
use Rattle.ash_compile.specs.Emission.{Scene, IsScene, calls_of}
use Rattle.ash_compile.proofs.Typed.{left_done}
use Rattle.ash_compile.proofs.Loops.{Spends}
use Rattle.ash_compile.proofs.Conditions.{RanksAfter}
use Rattle.ash_compile.proofs.TypedStatements.{Ready, IsRanked}

left_at_most : {A : Type 0} (p : Progress A) (n : ℕ) (v : A) (b : Activity) → LeavesAtMost n p → p ≡ Done v b
    → b.ticks ≤ n
left_at_most p n v b left is = subst (λ q. LeavesAtMost n q) is left

-- A phrase that has a walk gains no ticks.
pub fewer_ticks : {A : Type 0} (n : ℕ) (run : Run A) (a b : Activity) (v : A) → Walk n run run → a.ticks ≤ n
    → run a ≡ Done v b → b.ticks ≤ a.ticks
fewer_ticks n run a b v walk few is =
    left_at_most (run a) a.ticks v b (leaves a (run a) (walk.comes a few)) is

-- well-formed activities of the function
abbrev pub Well : Scene → Activity → Type 0
Well s = IsWellFormed s.context s.env s.envs

module _ (s : Scene) (scene : IsScene s) where
  -- an expression, whose value is stored
  abbrev pub storing : Expr → (Word → Run (Unit {0})) → Run (Unit {0})
  storing e store = expression (calls_of s) e >>= store

  -- The store takes a value of this type, and the frame goes on.
  abbrev pub Stores : VarType → (Word → Run (Unit {0})) → Type 0
  Stores of store =
      (w : Word) (b : Activity) → Well s b → IsValue (s.context).program (b.world).objects of w
      → Leaves s.context (λ (u : Unit {0}) d. Passes s.context s.env s.envs b d) (store w b)

  pub storing_passes : (of : VarType) (e : Expr) (store : Word → Run (Unit {0})) (a : Activity) → Fits s.env of e
      → Stores of store → Well s a
      → Leaves s.context (λ (u : Unit {0}) d. Passes s.context s.env s.envs a d) (storing e store a)
  storing_passes of e store a (fits {actual = from} typed subtype) stores good =
      bind (sound.expressions_keep scene.sound s.depth s.env s.envs e from a scene.declares typed good) (λ w b got.
      weaken (λ u d q. passes_more (got.goes).passes q)
      (stores w b ((got.goes).passes).well (fitting_value s.context of
      (subst (λ (m : ModuleSignatures). IsSubtype m from (value (as_value of))) scene.declares subtype)
      (got.carried).value)))

  pub stored_ranks : IsRanked s → (of : VarType) (e : Expr) (store : Word → Run (Unit {0})) → Fits s.env of e
      → Stores of store → RanksAfter s.setting (Ready s) (storing e store)
  stored_ranks ranked of e store fit stores a b v good is =
      ranked s.env b (left_done v b (storing_passes of e store a fit stores good.0) is).well

  pub spends_stored : (of : VarType) (e : Expr) (store : Word → Run (Unit {0})) → Fits s.env of e
      → Stores of store
      → ((w : Word) → Walk s.depth (store w) (store w))
      → Spends (Ready s) (full (storing e store))
  spends_stored of e store fit stores walks a b v good is =
      let passes = left_done v b (full_passes (storing e store) (storing_passes of e store a fit stores good.0)) is in
      let p = (s.context).program in
      let walk = to_full (bound
      (walk_expression p (body p s.depth) (body p s.depth) (walk_called p s.depth) e) walks) in
      let fewer = fewer_ticks s.depth (full (storing e store)) a b v walk good.1 is in
      ((passes.well, omega (arith, fewer, good.1)), fewer)
