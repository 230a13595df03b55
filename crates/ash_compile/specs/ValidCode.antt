-- What makes code valid that is written instruction by instruction: where each may lead, what it may call, and which
-- slots it needs.
use Rattle.std.specs.Prelude.{◌≡◌, ◌≤◌, ◌<◌, ℕ, ◌+◌, ◌-◌, ◌^◌, min, max, ◌&&◌, ◌||◌, Bool, true, false, nat_lt, nat_le}
use Rattle.std.specs.Prelude.{List, length, Some, None, slice_get}
use Rattle.std.specs.Option.{option_map_or}
use Rattle.ash_code.specs.declared.code.FunctionCode.{FunctionCode}
use Rattle.ash_code.specs.declared.instruction.Instruction.{Instruction}
use Rattle.ash_code.specs.declared.instruction.Instruction.TheVariants as i
use Rattle.ash_code.specs.Validity.{target, ticks, goes_on, leads_within, fits_slots}
use Rattle.ash_compile.specs.declared.layout.Layout.{Layout}
use Rattle.ash_compile.specs.declared.builder.Written.{Written}

-- An instruction of code that may still grow leads to a place of it or to its end, and back only by a tick.
abbrev pub leads_on : ℕ → ℕ → Instruction → Bool
leads_on len at i = option_map_or (λ to. nat_le to len && (ticks i || nat_lt at to)) (target i) true

-- calls

-- how many parameters the functions have that the layout has, and the constructions of classes
abbrev pub counts_of : Layout → List ℕ
counts_of layout = (layout.parameters).items

abbrev pub constructors_of : Layout → List ℕ
constructors_of layout = (layout.constructors).items

-- The layout has the function or the class whose code an instruction enters, if it enters any.
abbrev pub has_callee : Layout → Instruction → Bool
has_callee layout (i.Call function at) = nat_lt function (length (counts_of layout))
has_callee layout (i.CallMethod function object at) = nat_lt function (length (counts_of layout))
has_callee layout (i.Construct class at) = nat_lt class (length (constructors_of layout))
has_callee layout _ = true

-- An instruction may stand at a place of code that has this length, or that may grow from there.
abbrev pub MayStand : Layout → ℕ → ℕ → Instruction → Type 0
MayStand layout len at i = (leads_on len at i ≡ true) × (has_callee layout i ≡ true)

-- slots

-- the highest slot of a row, or the first one of none; a machine has no higher number than the last one here
abbrev pub highest_in_row : ℕ → ℕ → ℕ
highest_in_row at count = min (at + (count - 1)) (2 ^ 64 - 1)

-- the highest slot that an instruction names
abbrev pub highest_slot : Instruction → ℕ
highest_slot (i.Load word to) = to
highest_slot (i.Move from to) = max from to
highest_slot (i.Hold from to) = max from to
highest_slot (i.This to) = to
highest_slot (i.Calculate calculation left right to) = max (max left right) to
highest_slot (i.AddInt left right to) = max (max left right) to
highest_slot (i.SubtractInt left right to) = max (max left right) to
highest_slot (i.AddNumber left number to) = max left to
highest_slot (i.Compare comparator operands left right to) = max (max left right) to
highest_slot (i.Alter change from to) = max from to
highest_slot (i.Count step int_type from to) = max from to
highest_slot (i.Convert int_type from to) = max from to
highest_slot (i.Cast object_type from to) = max from to
highest_slot (i.ReadGlobal place to) = to
highest_slot (i.WriteGlobal place from) = from
highest_slot (i.ReadField object place to) = max object to
highest_slot (i.WriteField object place from) = max object from
highest_slot (i.WriteOwnField place from) = from
highest_slot (i.ReadElement array index to) = max (max array index) to
highest_slot (i.WriteElement array index from) = max (max array index) from
highest_slot (i.GetProperty object id var_type to) = max object to
highest_slot (i.SetProperty object id from) = max object from
highest_slot (i.Call function at) = at
highest_slot (i.CallMethod function object at) = max object at
highest_slot (i.CallInterface interface method object at) = max object at
highest_slot (i.Construct class at) = at
highest_slot (i.Return from) = from
highest_slot (i.ConstructArray element to) = to
highest_slot (i.ConstructArrayOf element len to) = max len to
highest_slot (i.Length array to) = max array to
highest_slot (i.IsEmpty array to) = max array to
highest_slot (i.Resize array len to) = max (max array len) to
highest_slot (i.InsertLast array from to) = max (max array from) to
highest_slot (i.RemoveLast array to) = max array to
highest_slot (i.ConstructHost kind at count) = highest_in_row at count
highest_slot (i.CallHost object id result at count) = max object (highest_in_row at count)
highest_slot (i.CallService service id result at count) = highest_in_row at count
highest_slot (i.JumpIf condition to) = condition
highest_slot (i.JumpUnless condition to) = condition
highest_slot (i.JumpIfNumber from word to) = from
highest_slot (i.Branch condition to) = condition
highest_slot (i.BranchUnless comparison left right to) = max left right
highest_slot (i.LoopWhile line comparison left right to) = max left right
highest_slot _ = 0

-- the number of a place, or zero
abbrev pub count_at : List ℕ → ℕ → ℕ
count_at counts place = option_map_or (λ (n : ℕ). n) (slice_get counts place) 0

-- the highest slot of the arguments of the function that an instruction enters
abbrev pub highest_argument : Layout → Instruction → ℕ
highest_argument layout (i.Call function at) = highest_in_row at (count_at (counts_of layout) function)
highest_argument layout (i.CallMethod function object at) = highest_in_row at (count_at (counts_of layout) function)
highest_argument layout (i.Construct class at) = highest_in_row at (count_at (constructors_of layout) class)
highest_argument layout _ = 0

abbrev pub highest_used : Layout → Instruction → ℕ
highest_used layout i = max (highest_slot i) (highest_argument layout i)

-- code

-- Each instruction of code may stand at its place, and needs no slot above one.
pub record IsPlaced (w : Written) (highest at : ℕ) (i : Instruction) : Type 0 where
  pub stands : MayStand w.layout (length (w.instructions).items) at i
  pub slots : highest_used w.layout i ≤ highest

abbrev pub AllPlaced : Written → ℕ → Type 0
AllPlaced w highest =
    (at : ℕ) (i : Instruction) → slice_get (w.instructions).items at ≡ Some i → IsPlaced w highest at i

-- What ends the code of a function: nothing follows it, and it names no slot.
pub record IsEnd (i : Instruction) : Type 0 where
  pub leads : target i ≡ None
  pub ends : goes_on i ≡ false

-- An instruction of a function that is written to its end, where the layout says what is called.
pub record IsValidIn (layout : Layout) (f : FunctionCode) (at : ℕ) (i : Instruction) : Type 0 where
  pub slots : fits_slots i f.slots ≡ true
  pub leads : leads_within (length (f.instructions).items) at i ≡ true
  pub callee : has_callee layout i ≡ true
  pub arguments : highest_argument layout i < f.slots
  pub fits : f.slots < 2 ^ 64

-- Every instruction is valid, and the parameters are in slots of the frame.
pub record IsValidCode (layout : Layout) (f : FunctionCode) : Type 0 where
  pub parameters : f.parameters ≤ f.slots
  pub each : (at : ℕ) (i : Instruction) → slice_get (f.instructions).items at ≡ Some i → IsValidIn layout f at i
