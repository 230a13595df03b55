-- What code that is emitted for a place does: the place is tested as it is read or written.
use Rattle.std.specs.Prelude.{◌≡◌, ◌≤◌, ◌<◌, ℕ, List, take, length, slice_get, slice_index_or, Option}
use Rattle.std.specs.Prelude.{Some}
use Rattle.ash_host.specs.declared.word.Word.{Word}
use Rattle.ash_host.specs.declared.word.Word.TheVariants.{Null}
use Rattle.ash_typed.specs.declared.types.Element.{Element}
use Rattle.ash_typed.specs.declared.types.ObjectType.TheVariants as objects
use Rattle.ash_typed.specs.declared.types.VarType.{VarType}
use Rattle.ash_typed.specs.declared.types.VarType.TheVariants as vars
use Rattle.ash_typed.specs.declared.tree.operations.IncrementOp.{IncrementOp}
use Rattle.ash_typed.specs.declared.tree.operations.IncrementOp.TheVariants as steps
use Rattle.ash_typed.specs.declared.tree.operations.ObjectMember.{ObjectMember}
use Rattle.ash_typed.specs.declared.tree.operations.ObjectMember.TheVariants as members
use Rattle.ash_typed.specs.declared.tree.operations.Variable.{Variable}
use Rattle.ash_typed.specs.declared.tree.operations.Variable.TheVariants as variables
use Rattle.ash_typed.specs.TypeOf.{value, type_of_element}
use Rattle.ash_typed.specs.TypedTree.{Place}
use Rattle.ash_typed.specs.SoundOperations.{IsSoundMember}
use Rattle.ash_typed.specs.SoundExpressions.{HasPlace}
use Rattle.ash_meaning.specs.Activity.{Activity}
use Rattle.ash_meaning.specs.Runs.{Run, give, ◌>>=◌}
use Rattle.ash_meaning.specs.ObjectSteps.{object_of}
use Rattle.ash_meaning.specs.Locations.{Location, Local, Global, Part, Property}
use Rattle.ash_meaning.specs.ExpressionMeaning.{element_at, location}
use Rattle.ash_meaning.specs.Ends.{Outcome}
use Rattle.ash_soundness.specs.WellFormedLaws.{Goes, IsCarried}
use Rattle.ash_code.specs.declared.instruction.Instruction.{Instruction}
use Rattle.ash_code.specs.declared.instruction.Instruction.TheVariants as i
use Rattle.ash_code.specs.Controls.{Window, control}
use Rattle.ash_compile.specs.declared.builder.Written.{Written}
use Rattle.ash_compile.specs.declared.places.Spot.{Spot}
use Rattle.ash_compile.specs.declared.places.Spot.TheVariants as spots
use Rattle.ash_compile.specs.Stretches.{continued, Arrives, with_slots, Fits}
use Rattle.ash_compile.specs.Emission.{code_of, end_of, Keeps, Scene, IsScene, Suits, calls_of, Good, Stands}

-- spots

abbrev pub spot_of_variable : Variable → Spot
spot_of_variable (variables.Local slot of) = spots.Local slot
spot_of_variable (variables.Global place of) = spots.Global place

abbrev pub spot_of_member : ObjectMember → ℕ → Spot
spot_of_member (members.Field class place of) object = spots.Field object place
spot_of_member (members.Property id of) object = spots.Property object id of

-- what reads there, and what writes there
abbrev pub reading : Spot → ℕ → Instruction
reading (spots.Local slot) to = i.Move slot to
reading (spots.Global place) to = i.ReadGlobal place to
reading (spots.Field object place) to = i.ReadField object place to
reading (spots.Property object id of) to = i.GetProperty object id of to
reading (spots.Element array index) to = i.ReadElement array index to

abbrev pub writing : Spot → ℕ → Instruction
writing (spots.Local slot) from = i.Move from slot
writing (spots.Global place) from = i.WriteGlobal place from
writing (spots.Field object place) from = i.WriteField object place from
writing (spots.Property object id of) from = i.SetProperty object id from
writing (spots.Element array index) from = i.WriteElement array index from

-- The slots of what `++` and `--` find and leave, of two slots. The first of them has what is given.
abbrev pub slot_of_old : IncrementOp → ℕ → ℕ → ℕ
slot_of_old steps.Increment given other = other
slot_of_old steps.Decrement given other = other
slot_of_old steps.IncrementAfter given other = given
slot_of_old steps.DecrementAfter given other = given

abbrev pub slot_of_new : IncrementOp → ℕ → ℕ → ℕ
slot_of_new steps.Increment given other = given
slot_of_new steps.Decrement given other = given
slot_of_new steps.IncrementAfter given other = other
slot_of_new steps.DecrementAfter given other = other

-- what is left of a place

-- where it lies, by the words in its slots: null is tested, and an index
abbrev pub located : Spot → List Word → Run Location
located (spots.Local slot) ws = give (Local slot)
located (spots.Global place) ws = give (Global place)
located (spots.Field object place) ws =
    object_of (slice_index_or ws object Null) >>= (λ number. give (Part number place))
located (spots.Property object id of) ws =
    object_of (slice_index_or ws object Null) >>= (λ number. give (Property number id of))
located (spots.Element array index) ws = element_at (slice_index_or ws array Null) (slice_index_or ws index Null)

-- The slots that a spot names, but for that of a local, are these.
abbrev pub LiesIn : ℕ → ℕ → Spot → Type 0
LiesIn low high (spots.Field object place) = (low ≤ object) × (object < high)
LiesIn low high (spots.Property object id of) = (low ≤ object) × (object < high)
LiesIn low high (spots.Element array index) = (low ≤ array) × (array < high) × (low ≤ index) × (index < high)
LiesIn low high _ = Unit {0}

-- The slots have an object of a type that has such a place, of this type.
pub data Bears (s : Scene) (a : Activity) (ws : List Word) : Spot → VarType → Type 0 where
  local : {slot : ℕ} {of : VarType} → slice_get (s.env).locals slot ≡ Some of → Bears s a ws (spots.Local slot) of
  global : {place : ℕ} {of : VarType}
      → slice_get ((s.env).signatures).globals place ≡ Some of
      → Bears s a ws (spots.Global place) of
  field : {object class place : ℕ} {of : VarType}
      → IsSoundMember (s.env).signatures (objects.Class class) (members.Field class place of) of
      → IsCarried s.context (value (vars.Handle (objects.Class class))) a (slice_index_or ws object Null)
      → Bears s a ws (spots.Field object place) of
  property : {object kind id : ℕ} {of : VarType}
      → IsSoundMember (s.env).signatures (objects.Host kind) (members.Property id of) of
      → IsCarried s.context (value (vars.Handle (objects.Host kind))) a (slice_index_or ws object Null)
      → Bears s a ws (spots.Property object id of) of
  element : {array index : ℕ} {of : Element}
      → IsCarried s.context (value (vars.Handle (objects.Array of))) a (slice_index_or ws array Null)
      → Bears s a ws (spots.Element array index) (type_of_element of)

-- What was computed in slots before one stays, and the locals are those of the frame.
pub record HoldsBelow (old : Window) (slot : ℕ) (slots : List Word) (b : Activity) : Type 0 where
  pub long : length slots ≡ length old.slots
  pub kept : (k : ℕ) → old.count ≤ k → k < slot → slice_index_or slots k Null ≡ slice_index_or old.slots k Null
  pub locals : (b.frame).locals ≡ take old.count slots

-- From here to there the code computes what a place names into slots from one on. What is left of the place is the
-- test of them.
pub record DoesPlace (s : Scene) (place : Place) (of : VarType) (spot : Spot) (from to slot : ℕ) : Type 0 where
  pub lies : LiesIn slot s.room spot
  pub comes : (w : Window) (a : Activity) (rest : Location → Activity → Option Outcome)
      → w.count ≤ slot
      → s.room ≤ length w.slots
      → Fits w a
      → Good s a
      → ((b : Activity) (slots : List Word)
      → location (calls_of s) place a ≡ located spot slots b
      → HoldsBelow w slot slots b
      → Goes s.context s.env s.envs a b
      → Bears s b slots spot of
      → Arrives s.setting (control s.function to (with_slots slots w)) b (continued (located spot slots b) rest))
      → Arrives s.setting (control s.function from w) a (continued (location (calls_of s) place a) rest)

-- The code has grown by that of a place: wherever it stands, it does what the place does if that has a type there.
pub record EmitsPlace (old new : Written) (place : Place) (spot : Spot) (slot : ℕ) : Type 0 where
  pub keeps : Keeps old new
  pub does : (s : Scene) (of : VarType)
      → IsScene s
      → HasPlace s.env place of
      → Stands s (code_of new) (end_of old) (end_of new)
      → Suits s new
      → DoesPlace s place of spot (end_of old) (end_of new) slot
