-- Code that is written stays valid: as it grows, as a jump is led, and as it ends.
use Rattle.std.proofs.Common.{◌≡◌, ◌≤◌, ◌<◌, ℕ, zero, suc, ◌+◌, ◌-◌, ◌^◌, max, Bool, true, false, not, ◌&&◌, ◌||◌}
use Rattle.std.proofs.Common.{nat_lt, nat_le, nat_eq, List, [], ◌∷◌, ◌++◌, length, length-append, refl, sym, ap, ◌∙◌}
use Rattle.std.proofs.Common.{subst, arith}
use Rattle.std.specs.Prelude.{Option, Some, None, slice_get}
use Rattle.std.specs.Option.{option_map_or}
use Rattle.std.proofs.lemmas.Option.{same_Some, slice_get_within}
use Rattle.std.proofs.lemmas.Bool.Decides.{nat_tests}
use Rattle.ash_code.specs.declared.code.FunctionCode.{FunctionCode}
use Rattle.ash_code.specs.declared.instruction.Instruction.{Instruction}
use Rattle.ash_code.specs.declared.instruction.Instruction.TheVariants as i
use Rattle.ash_code.specs.Validity.{target, ticks, goes_on, both_below, all_below, row_below, fits_slots, leads_within}
use Rattle.ash_compile.specs.declared.layout.Layout.{Layout}
use Rattle.ash_compile.specs.declared.builder.Written.{Written}
use Rattle.ash_compile.specs.Emission.{code_of, end_of, Puts, Leads}
use Rattle.ash_compile.specs.EmittedFrames.{IsFinished}
use Rattle.ash_compile.specs.ValidCode.{leads_on, has_callee, MayStand, highest_in_row, highest_slot, highest_argument}
use Rattle.ash_compile.specs.ValidCode.{highest_used, IsPlaced, AllPlaced, IsEnd, IsValidIn, IsValidCode}
use Rattle.ash_compile.proofs.Emission.{get_before, put_one, put_there, put_keeps}
use Rattle.ash_compile.proofs.EmittedBranches.{leads_end, leads_there, leads_other}

-- tests

pub both : (a b : Bool) → a && b ≡ true → (a ≡ true) × (b ≡ true)
both true b is = (refl, is)
both false b is = absurd (cc)

pub and_is : (a b : Bool) → a ≡ true → b ≡ true → a && b ≡ true
and_is true b first second = second
and_is false b first second = absurd (cc)

pub lower : (a b : ℕ) → a < b → nat_lt a b ≡ true
lower a b low = grind (arith, nat_tests)

pub not_higher : (a b : ℕ) → a ≤ b → nat_le a b ≡ true
not_higher a b low = grind (arith, nat_tests)

-- slots

two : (a b slots : ℕ) → max a b < slots → both_below a b slots ≡ true
two a b slots low =
    and_is (nat_lt a slots) (nat_lt b slots) (lower a slots (omega (arith, low)))
    (lower b slots (omega (arith, low)))

three : (a b c slots : ℕ) → max (max a b) c < slots → all_below a b c slots ≡ true
three a b c slots low =
    and_is (both_below a b slots) (nat_lt c slots) (two a b slots (omega (arith, low)))
    (lower c slots (omega (arith, low)))

-- a row fits if its highest slot does
row_low : (at count slots : ℕ) → highest_in_row at count < slots → slots < 2 ^ 64 → at + (count - 1) < slots
row_low at count slots low top = omega (arith, low, top)

row : (at count slots : ℕ) → highest_in_row at count < slots → slots < 2 ^ 64 → row_below at count slots ≡ true
row at zero slots low top =
    let there = row_low at zero slots low top in
    and_is (nat_lt at slots) (nat_le zero (slots - at)) (lower at slots (omega (arith, there)))
    (not_higher zero (slots - at) (omega arith))
row at (suc count) slots low top =
    let there = row_low at (suc count) slots low top in
    and_is (nat_lt at slots) (nat_le (suc count) (slots - at)) (lower at slots (omega (arith, there)))
    (not_higher (suc count) (slots - at) (omega (arith, there)))

-- the parameters of what is called fit, if the highest argument does
pub arguments_fit : (at count slots : ℕ) → highest_in_row at count < slots → slots < 2 ^ 64
    → nat_le count (slots - at) ≡ true
arguments_fit at count slots low top =
    (both (nat_lt at slots) (nat_le count (slots - at)) (row at count slots low top)).1

-- an instruction fits if its highest slot does
pub fits : (j : Instruction) (slots : ℕ) → highest_slot j < slots → slots < 2 ^ 64 → fits_slots j slots ≡ true
fits (i.Load word to) slots low top = lower to slots low
fits (i.Move from to) slots low top = two from to slots low
fits (i.Hold from to) slots low top = two from to slots low
fits (i.This to) slots low top = lower to slots low
fits (i.Calculate calculation left right to) slots low top = three left right to slots low
fits (i.AddInt left right to) slots low top = three left right to slots low
fits (i.SubtractInt left right to) slots low top = three left right to slots low
fits (i.AddNumber left number to) slots low top = two left to slots low
fits (i.Compare comparator operands left right to) slots low top = three left right to slots low
fits (i.Alter change from to) slots low top = two from to slots low
fits (i.Count step int_type from to) slots low top = two from to slots low
fits (i.Convert int_type from to) slots low top = two from to slots low
fits (i.Cast object_type from to) slots low top = two from to slots low
fits (i.ReadGlobal place to) slots low top = lower to slots low
fits (i.WriteGlobal place from) slots low top = lower from slots low
fits (i.ReadField object place to) slots low top = two object to slots low
fits (i.WriteField object place from) slots low top = two object from slots low
fits (i.WriteOwnField place from) slots low top = lower from slots low
fits (i.ReadElement array index to) slots low top = three array index to slots low
fits (i.WriteElement array index from) slots low top = three array index from slots low
fits (i.GetProperty object id var_type to) slots low top = two object to slots low
fits (i.SetProperty object id from) slots low top = two object from slots low
fits (i.Call function at) slots low top = lower at slots low
fits (i.CallMethod function object at) slots low top = two object at slots low
fits (i.CallInterface interface method object at) slots low top = two object at slots low
fits (i.Construct class at) slots low top = lower at slots low
fits (i.Return from) slots low top = lower from slots low
fits i.ReturnNothing slots low top = refl
fits i.ReturnThis slots low top = refl
fits (i.ConstructArray element to) slots low top = lower to slots low
fits (i.ConstructArrayOf element len to) slots low top = two len to slots low
fits (i.Length array to) slots low top = two array to slots low
fits (i.IsEmpty array to) slots low top = two array to slots low
fits (i.Resize array len to) slots low top = three array len to slots low
fits (i.InsertLast array from to) slots low top = three array from to slots low
fits (i.RemoveLast array to) slots low top = two array to slots low
fits (i.ConstructHost kind at count) slots low top = row at count slots low top
fits (i.CallHost object id result at count) slots low top =
    and_is (nat_lt object slots) (row_below at count slots)
    (lower object slots (first_below object (highest_in_row at count) slots low))
    (row at count slots (second_below object (highest_in_row at count) slots low) top)
  where
    first_below : (a b n : ℕ) → max a b < n → a < n
    first_below a b n low = omega (arith, low)

    second_below : (a b n : ℕ) → max a b < n → b < n
    second_below a b n low = omega (arith, low)
fits (i.CallService service id result at count) slots low top = row at count slots low top
fits (i.Tick line) slots low top = refl
fits i.EndExpression slots low top = refl
fits (i.EndAndTick line) slots low top = refl
fits i.Declare slots low top = refl
fits i.DeclareAndEnd slots low top = refl
fits (i.LeaveBlocks count) slots low top = refl
fits i.Release slots low top = refl
fits (i.EndBlock count) slots low top = refl
fits (i.Jump to) slots low top = refl
fits (i.JumpIf condition to) slots low top = lower condition slots low
fits (i.JumpUnless condition to) slots low top = lower condition slots low
fits (i.JumpIfNumber from word to) slots low top = lower from slots low
fits (i.Branch condition to) slots low top = lower condition slots low
fits (i.BranchUnless comparison left right to) slots low top = two left right slots low
fits (i.Loop line to) slots low top = refl
fits (i.LoopWhile line comparison left right to) slots low top = two left right slots low

-- where instructions lead

longer_by : (o : Option ℕ) (ticking : Bool) (len more at : ℕ) → len ≤ more
    → option_map_or (λ to. nat_le to len && (ticking || nat_lt at to)) o true ≡ true
    → option_map_or (λ to. nat_le to more && (ticking || nat_lt at to)) o true ≡ true
longer_by None ticking len more at low is = refl
longer_by (Some to) ticking len more at low is =
    let parts = both (nat_le to len) (ticking || nat_lt at to) is in
    and_is (nat_le to more) (ticking || nat_lt at to) (raised parts.0) parts.1
  where
    raised : nat_le to len ≡ true → nat_le to more ≡ true
    raised is = grind (arith, nat_tests)

-- what leads to places of code does so if that grows
pub leads_longer : (len more at : ℕ) (j : Instruction) → len ≤ more → leads_on len at j ≡ true
    → leads_on more at j ≡ true
leads_longer len more at j low is = longer_by (target j) (ticks j) len more at low is

within_by : (o : Option ℕ) (ticking : Bool) (len more at : ℕ) → len < more
    → option_map_or (λ to. nat_le to len && (ticking || nat_lt at to)) o true ≡ true
    → option_map_or (λ to. nat_lt to more && (ticking || nat_lt at to)) o true ≡ true
within_by None ticking len more at low is = refl
within_by (Some to) ticking len more at low is =
    let parts = both (nat_le to len) (ticking || nat_lt at to) is in
    and_is (nat_lt to more) (ticking || nat_lt at to) (raised parts.0) parts.1
  where
    raised : nat_le to len ≡ true → nat_lt to more ≡ true
    raised is = grind (arith, nat_tests)

goes_within : (t : Bool) (at len : ℕ) → at + 1 < len → not t || nat_lt (at + 1) len ≡ true
goes_within true at len low = lower (at + 1) len low
goes_within false at len low = refl

-- before the last instruction all leads to places of the code
before_end : (len more at : ℕ) (j : Instruction) → at < len → len < more → leads_on len at j ≡ true
    → leads_within more at j ≡ true
before_end len more at j low longer is =
    and_is (not (goes_on j) || nat_lt (at + 1) more)
    (option_map_or (λ to. nat_lt to more && (ticks j || nat_lt at to)) (target j) true)
    (goes_within (goes_on j) at more (omega (arith, low, longer)))
    (within_by (target j) (ticks j) len more at longer is)

-- the last instruction leads nowhere
at_end : (len at : ℕ) (j : Instruction) → IsEnd j → leads_within len at j ≡ true
at_end len at j end =
    and_is (not (goes_on j) || nat_lt (at + 1) len)
    (option_map_or (λ to. nat_lt to len && (ticks j || nat_lt at to)) (target j) true)
    (ap (λ (t : Bool). not t || nat_lt (at + 1) len) end.ends)
    (ap (λ (o : Option ℕ). option_map_or (λ to. nat_lt to len && (ticks j || nat_lt at to)) o true) end.leads)

-- code that grows

-- by whether a place is before another one
by_place : (P : Type 0) (k n : ℕ) → (k < n → P) → (n ≤ k → P) → P
by_place P k n before behind = by_test (nat_lt k n) refl
  where
    by_test : (t : Bool) → nat_lt k n ≡ t → P
    by_test true is = before (grind (arith, nat_tests))
    by_test false is = behind (grind (arith, nat_tests))

-- an instruction that was placed still is, if code has become longer and has the same layout
still_placed : (old new : Written) (highest more at : ℕ) (j : Instruction) → new.layout ≡ old.layout
    → end_of old ≤ end_of new → highest ≤ more → IsPlaced old highest at j → IsPlaced new more at j
still_placed old new highest more at j layout longer higher placed = record {
  stands = (
    leads_longer (end_of old) (end_of new) at j longer placed.stands.0,
    subst (λ (l : Layout). has_callee l j ≡ true) (sym layout) placed.stands.1,
  );
  slots = subst (λ (l : Layout). highest_used l j ≤ more) (sym layout)
      (raised (highest_used old.layout j) placed.slots);
}
  where
    raised : (n : ℕ) → n ≤ highest → n ≤ more
    raised n low = omega (arith, low, higher)

-- code that is the same
pub placed_same : (old new : Written) (highest : ℕ) → AllPlaced old highest → new.layout ≡ old.layout
    → code_of new ≡ code_of old → AllPlaced new highest
placed_same old new highest placed layout code at j there =
    still_placed old new highest highest at j layout (omega (arith, ap length code)) (omega arith)
    (placed at j (ap (λ (xs : List Instruction). slice_get xs at) (sym code) ∙ there))

-- an instruction that may stand there is placed
newly_placed : (old new : Written) (highest more at : ℕ) (j : Instruction) → new.layout ≡ old.layout
    → MayStand old.layout (end_of new) at j → highest_used old.layout j ≤ more → IsPlaced new more at j
newly_placed old new highest more at j layout stands low = record {
  stands = subst (λ (l : Layout). MayStand l (end_of new) at j) (sym layout) stands;
  slots = subst (λ (l : Layout). highest_used l j ≤ more) (sym layout) low;
}

pub placed_put : (old new : Written) (highest more : ℕ) (j : Instruction) → AllPlaced old highest
    → new.layout ≡ old.layout → code_of new ≡ code_of old ++ j ∷ []
    → MayStand old.layout (end_of old + 1) (end_of old) j → highest_used old.layout j ≤ more → highest ≤ more
    → AllPlaced new more
placed_put old new highest more j placed layout code stands low higher at k there =
    by_place (IsPlaced new more at k) at (end_of old)
    (λ before.
    still_placed old new highest more at k layout (omega (arith, long)) higher
    (placed at k (sym (ap (λ (xs : List Instruction). slice_get xs at) code ∙ get_before (code_of old) (j ∷ []) at
    before)
    ∙ there)))
    (λ behind.
    let here : end_of old ≡ at = omega (arith, behind, long, slice_get_within (code_of new) at k there) in
    let same : j ≡ k = same_Some j k (sym (last_of (code_of old))
    ∙ ap (λ (xs : List Instruction). slice_get xs (end_of old)) (sym code)
    ∙ ap (λ (n : ℕ). slice_get (code_of new) n) here ∙ there) in
    subst (λ (n : ℕ). IsPlaced new more n k) here
    (subst (λ (x : Instruction). IsPlaced new more (end_of old) x) same
    (newly_placed old new highest more (end_of old) j layout
    (subst (λ (n : ℕ). MayStand old.layout n (end_of old) j) (sym long) stands) low)))
  where
    long : end_of new ≡ end_of old + 1
    long = ap length code ∙ length-append (code_of old) (j ∷ [])

    last_of : (xs : List Instruction) → slice_get (xs ++ j ∷ []) (length xs) ≡ Some j
    last_of [] = refl
    last_of (x ∷ xs) = last_of xs

pub placed_led : (old new : Written) (highest more at : ℕ) (j : Instruction) → AllPlaced old highest
    → Leads old new at j → at < end_of old → MayStand old.layout (end_of old) at j → highest_used old.layout j ≤ more
    → highest ≤ more
    → AllPlaced new more
placed_led old new highest more at j placed leads within stands low higher k x there =
    by_same (nat_eq k at) refl
  where
    long : end_of new ≡ end_of old
    long = leads_end old new at j leads

    other : (k ≡ at → ⊥) → IsPlaced new more k x
    other apart =
        still_placed old new highest more k x leads.layout (omega (arith, long)) higher
        (placed k x (sym (leads_other old new at k j leads apart) ∙ there))

    here : k ≡ at → IsPlaced new more k x
    here is =
        let same : j ≡ x = same_Some j x (sym (leads_there old new at j leads within)
        ∙ ap (λ (n : ℕ). slice_get (code_of new) n) (sym is) ∙ there) in
        subst (λ (n : ℕ). IsPlaced new more n x) (sym is)
        (subst (λ (y : Instruction). IsPlaced new more at y) same
        (newly_placed old new highest more at j leads.layout
        (subst (λ (n : ℕ). MayStand old.layout n at j) (sym long) stands) low))

    by_same : (t : Bool) → nat_eq k at ≡ t → IsPlaced new more k x
    by_same true is = here (grind (arith, nat_tests))
    by_same false is = other (λ same. grind (arith, nat_tests))

-- code that ends

module _ (old last : Written) (before highest parameters line : ℕ) (end : Instruction) (f : FunctionCode)
    (placed : AllPlaced old before) (all : AllPlaced last highest) (puts : Puts old last parameters end) (ends :
    IsEnd end)
    (finished : IsFinished last line parameters f) (many : highest < f.slots) (few : f.slots < 2 ^ 64) where
  long : length (f.instructions).items ≡ end_of old + 1
  long = ap length finished.instructions ∙ put_one old last parameters end puts

  leads : (at : ℕ) (j : Instruction) → slice_get (code_of last) at ≡ Some j
      → leads_within (length (f.instructions).items) at j ≡ true
  leads at j there =
      by_place (leads_within (length (f.instructions).items) at j ≡ true) at (end_of old)
      (λ low.
      before_end (end_of old) (length (f.instructions).items) at j low (omega (arith, long))
      ((placed at j (sym ((put_keeps old last parameters end puts).same at low) ∙ there)).stands).0)
      (λ high.
      let within = slice_get_within (code_of last) at j there in
      let one = put_one old last parameters end puts in
      let here : end_of old ≡ at = omega (arith, high, within, one) in
      let same : end ≡ j = same_Some end j (sym (put_there old last parameters end puts)
      ∙ ap (λ (n : ℕ). slice_get (code_of last) n) here ∙ there) in
      at_end (length (f.instructions).items) at j (subst IsEnd same ends))

  valid_in : (at : ℕ) (j : Instruction) → slice_get (code_of last) at ≡ Some j → IsValidIn last.layout f at j
  valid_in at j there =
      let own = all at j there in
      let slot : highest_slot j < f.slots = first_low (highest_slot j) (highest_argument last.layout j) own.slots in
      let argument : highest_argument last.layout j < f.slots
      = second_low (highest_slot j) (highest_argument last.layout j) own.slots in
      record {
        slots = fits j f.slots slot few;
        leads = leads at j there;
        callee = own.stands.1;
        arguments = argument;
        fits = few;
      }
    where
      first_low : (a b : ℕ) → max a b ≤ highest → a < f.slots
      first_low a b low = omega (arith, low, many)

      second_low : (a b : ℕ) → max a b ≤ highest → b < f.slots
      second_low a b low = omega (arith, low, many)

  pub valid_code : IsValidCode old.layout f
  valid_code =
      subst (λ (l : Layout). IsValidCode l f) puts.layout
      (record {
        parameters = omega (arith, finished.parameters, finished.slots, puts.slots);
        each = λ at j there.
            valid_in at j (ap (λ (is : List Instruction). slice_get is at) (sym finished.instructions) ∙ there);
      })
