-- How long frames hold what they hold: to the end of a full expression, and no longer.
use Rattle.std.specs.Prelude.{◌≡◌, ◌++◌, ◌∷◌, ◌+◌, ◌-◌, ℕ, Bool, List, [], length, drop, slice_index_or}
use Rattle.ash_host.specs.declared.word.Word.{Word}
use Rattle.ash_host.specs.declared.word.Word.TheVariants.{Null}
use Rattle.ash_host.specs.Objects.{handles, Lives}
use Rattle.ash_typed.specs.declared.tree.operations.Method.{Method}
use Rattle.ash_typed.specs.declared.tree.operations.Method.TheVariants as methods
use Rattle.ash_typed.specs.declared.tree.operations.CallTarget.{CallTarget}
use Rattle.ash_typed.specs.TypedTree.{Expr}
use Rattle.ash_typed.specs.StatementTree.{Initialization, Head, Loop, Stmt, Declare, Evaluate, Block, For, Stmts}
use Rattle.ash_meaning.specs.Activity.{World, Activity, in_frame}
use Rattle.ash_meaning.specs.Runs.{Done, Run, ◌>>◌}
use Rattle.ash_meaning.specs.Releases.{holding, let_go, keeping, full}
use Rattle.ash_meaning.specs.Frames.{enter, back_in, leave}
use Rattle.ash_meaning.specs.ObjectSteps.{words_in}
use Rattle.ash_meaning.specs.ArraySteps.{resize, remove_last}
use Rattle.ash_meaning.specs.Locations.{Location, Local, Global, Part, Property, write}
use Rattle.ash_meaning.specs.Classes.{Program, ModuleCallee, Entry}
use Rattle.ash_meaning.specs.CallMeaning.{call, construct, invoke, call_target}
use Rattle.ash_meaning.specs.StatementMeaning.{Flow, On, Broke, Continued, Returned, Turn}
use Rattle.ash_meaning.specs.StatementMeaning.{statement, statements, declare_one, evaluate, condition}
use Rattle.ash_meaning.specs.StatementMeaning.{in_block, after_break, after_body}
use Rattle.ash_meaning.specs.Functions.{calls_within, initialize_field, initialize_global}
use Rattle.ash_meaning.specs.MeaningLaws.{first_of_call, first_of_load}
use Rattle.ash_meaning.specs.Traces.{after_release}
use Rattle.ash_release_laws.specs.Settling.{IsNumbered, IsSettledFrom, AtTheValue}

-- between full expressions

-- The frame that runs holds nothing.
abbrev pub HoldsNothing : Activity → Type 0
HoldsNothing activity = (activity.frame).held ≡ []

-- Whatever was held, nothing is held at the value.
abbrev pub LetsGoOfAll : (A : Type 0) → Run A → Type 0
LetsGoOfAll A run = (activity : Activity) → AtTheValue (λ value left. HoldsNothing left) (run activity)

-- If nothing was held, nothing is held at the value.
abbrev pub LeavesNothingHeld : (A : Type 0) → Run A → Type 0
LeavesNothingHeld A run =
    (activity : Activity) → HoldsNothing activity → AtTheValue (λ value left. HoldsNothing left) (run activity)

-- Nothing is held after a statement, except a value that it returns: that is held until its frame ends.
abbrev pub HoldsNothingBy : Flow → Activity → Type 0
HoldsNothingBy (Returned value) activity = Unit {0}
HoldsNothingBy _ activity = HoldsNothing activity

-- If nothing was held, nothing is held after the statement.
abbrev pub LeavesNothingHeldBy : Run Flow → Type 0
LeavesNothingHeldBy run =
    (activity : Activity) → IsNumbered activity → HoldsNothing activity → AtTheValue HoldsNothingBy (run activity)

-- So many locals are there more than before, however the statement is left.
abbrev pub LeavesMoreLocals : ℕ → Run Flow → Type 0
LeavesMoreLocals more run =
    (activity : Activity) → IsNumbered activity
    → AtTheValue (λ flow left. length (left.frame).locals ≡ length (activity.frame).locals + more) (run activity)

-- Each full expression lets go of all that its frame holds, at this depth: that of a statement or a condition, and that
-- of a variable, a field or a global with its value. So nothing is held after a statement that found nothing held,
-- except what it returns. A declaration leaves a local more for each variable, and an expression and a block leave as
-- many as they found.
pub record NothingStaysHeld (program : Program) (depth : ℕ) : Type 0 where
  pub full_expressions : (run : Run Word) → LetsGoOfAll Word (full run)
  pub evaluated : (e : Expr) → LetsGoOfAll (Unit {0}) (evaluate (calls_within program depth) e)
  pub conditions : (e : Expr) → LetsGoOfAll Bool (condition (calls_within program depth) e)
  pub variables : (v : Initialization) → LeavesNothingHeld (Unit {0}) (declare_one (calls_within program depth) v)
  pub fields : (place : ℕ) (v : Initialization)
      → LeavesNothingHeld (Unit {0}) (initialize_field (calls_within program depth) place v)
  pub globals : (place : ℕ) (v : Initialization)
      → LeavesNothingHeld (Unit {0}) (initialize_global (calls_within program depth) place v)
  pub lists : (ss : Stmts) → LeavesNothingHeldBy (statements (calls_within program depth) depth ss)
  pub statements : (s : Stmt) → LeavesNothingHeldBy (statement (calls_within program depth) depth s)
  pub declarations : (line : ℕ) (vs : List Initialization)
      → LeavesMoreLocals (length vs) (statement (calls_within program depth) depth (Declare line vs))
  pub expressions : (line : ℕ) (e : Expr)
      → LeavesMoreLocals 0 (statement (calls_within program depth) depth (Evaluate line e))
  pub blocks : (line : ℕ) (ss : Stmts)
      → LeavesMoreLocals 0 (statement (calls_within program depth) depth (Block line ss))
  pub for_loops : (line : ℕ) (head : Head) (inside : Loop)
      → LeavesMoreLocals 0 (statement (calls_within program depth) depth (For line head inside))

-- A frame begins with nothing held: one that is entered, and the first of a call from outside and of a load.
pub record FramesBeginWithNothingHeld (program : Program) : Type 0 where
  pub entered : (function : List ℕ) (line : ℕ) (this : Word) (locals : List Word) (activity : Activity)
      → AtTheValue (λ none left. HoldsNothing left) (enter function line this locals activity)
  pub calls : (e : Entry) (args : List Word) (budget : ℕ) (world : World)
      → HoldsNothing (first_of_call e args budget world)
  pub loads : (budget : ℕ) (world : World) → HoldsNothing (first_of_load program budget world)

-- The frame that runs holds nothing, and every object that lives can be reached from the globals, from what is held
-- outside, from its `this` and its locals, and from the frames of its callers.
pub record IsSettledBetween (activity : Activity) : Type 0 where
  pub nothing_held : HoldsNothing activity
  pub settled : IsSettledFrom (let_go activity.frame ∷ activity.callers) activity.world

-- So it is if the statement goes on.
abbrev pub IsSettledBetweenBy : Flow → Activity → Type 0
IsSettledBetweenBy On activity = IsSettledBetween activity
IsSettledBetweenBy _ activity = Unit {0}

-- If it is so before a statement, it is so before the next.
abbrev pub SettlesBetweenStatements : Run Flow → Type 0
SettlesBetweenStatements run =
    (activity : Activity) → IsNumbered activity → IsSettledBetween activity
    → AtTheValue IsSettledBetweenBy (run activity)

-- calls

-- The frame that called is as it was, except that it holds the value as well, and its callers are as they were.
pub record HoldsItsValue (old : Activity) (value : Word) (new : Activity) : Type 0 where
  pub frame : new.frame ≡ holding (handles (value ∷ [])) old.frame
  pub callers : new.callers ≡ old.callers

-- Nothing is held after the run that was not held before, except its value.
abbrev pub HoldsOnlyItsValue : Run Word → Type 0
HoldsOnlyItsValue run = (activity : Activity) → IsNumbered activity → AtTheValue (HoldsItsValue activity) (run activity)

-- It is no method of an array: those hold what they take away.
abbrev pub IsNoArrayMethod : Method → Type 0
IsNoArrayMethod (methods.Array method) = ⊥
IsNoArrayMethod _ = Unit {0}

-- Calls and constructions leave nothing of what their frames had, except the value, at this depth. So do calls and
-- constructions of hosts, and constructions of arrays.
pub record CallsHoldOnlyTheirValue (program : Program) (depth : ℕ) : Type 0 where
  pub calls : (callee : ModuleCallee) (this : Word) (args : List Word)
      → HoldsOnlyItsValue (call (calls_within program depth) callee this args)
  pub constructions : (class : ℕ) (args : List Word)
      → HoldsOnlyItsValue (construct (calls_within program depth) class args)
  pub targets : (target : CallTarget) (args : List Word)
      → HoldsOnlyItsValue (call_target (calls_within program depth) target args)
  pub methods : (method : Method) (number : ℕ) (args : List Word) → IsNoArrayMethod method
      → HoldsOnlyItsValue (invoke (calls_within program depth) method number args)

-- what is taken away

-- the word that is stored at a location; a property stores none, and is no handle
abbrev pub stored : Location → Activity → Word
stored (Local slot) activity = slice_index_or (activity.frame).locals slot Null
stored (Global place) activity = slice_index_or (activity.world).globals place Null
stored (Part number place) activity = slice_index_or (words_in number activity.world) place Null
stored (Property number id of) activity = Null

-- The frame holds these as well, and every object that lived lives on.
pub record HoldsAsWell (numbers : List ℕ) (old new : Activity) : Type 0 where
  pub held : (new.frame).held ≡ numbers ++ (old.frame).held
  pub lives : (number : ℕ) → Lives (old.world).objects number → Lives (new.world).objects number

-- What a word is written over is held, and so are the elements that an array loses. No object goes meanwhile.
pub record WhatIsTakenAwayIsHeld : Type 0 where
  pub written : (location : Location) (word : Word) (activity : Activity)
      → AtTheValue (λ none left. HoldsAsWell (handles (stored location activity ∷ [])) activity left)
      (write location word activity)
  pub resized : (number count : ℕ) (activity : Activity)
      → AtTheValue (λ none left. HoldsAsWell (handles (drop count (words_in number activity.world))) activity left)
      (resize number count activity)
  pub removed : (number : ℕ) (activity : Activity)
      → AtTheValue (λ none left. HoldsAsWell
      (handles (drop (length (words_in number activity.world) - 1) (words_in number activity.world))) activity left)
      (remove_last number activity)

-- jumps

-- A statement was left by a jump.
abbrev pub IsJump : Flow → Type 0
IsJump On = ⊥
IsJump _ = Unit {0}

-- A jump comes to one release point, where it leads: the blocks that it leaves are none by themselves, and lose their
-- locals alone.
pub record JumpsReleaseOnce : Type 0 where
  pub blocks : (inside : Run Flow) (activity left : Activity) (flow : Flow) → IsJump flow
      → inside activity ≡ Done flow left
      → in_block inside activity ≡ Done flow (in_frame (keeping (length (activity.frame).locals)) left)
  pub ends : (inside : Run Flow) (activity left : Activity) → inside activity ≡ Done On left
      → in_block inside activity
      ≡ Done On (after_release (in_frame (keeping (length (activity.frame).locals)) left))
  pub breaks : (activity : Activity) → after_break Broke activity ≡ Done On (after_release activity)
  pub continues : (turn : Turn) (next : Run Flow) (activity : Activity)
      → after_body turn next Continued activity ≡ (turn.steps >> next) (after_release activity)
  pub returns : (word : Word) (activity : Activity)
      → leave word activity ≡ Done word (after_release (back_in activity.callers word activity))
