-- Code that is compiled is valid.
use Rattle.std.proofs.Common.{◌≡◌, ◌<◌, ℕ, zero, suc, ◌+◌, ◌-◌, ◌^◌, true, false, ◌&&◌}
use Rattle.std.proofs.Common.{nat_lt, nat_le, nat_eq, List, [], ◌∷◌, map, length, refl, sym, ap, ◌∙◌, subst, arith}
use Rattle.std.specs.Prelude.{Option, Some, slice_get}
use Rattle.std.specs.Option.{option_map_or}
use Rattle.std.specs.List.{AllZip, list_all}
use Rattle.std.proofs.lemmas.Option.{same_Some, slice_get_within}
use Rattle.std.proofs.lemmas.Bool.Decides.{nat_tests}
use Rattle.ash_typed.specs.Modules.{Class, Module}
use Rattle.ash_code.specs.declared.code.FunctionCode.{FunctionCode}
use Rattle.ash_code.specs.declared.code.ClassCode.{ClassCode}
use Rattle.ash_code.specs.declared.code.CodeParts.{CodeParts}
use Rattle.ash_code.specs.declared.instruction.Instruction.{Instruction}
use Rattle.ash_code.specs.declared.instruction.Instruction.TheVariants as i
use Rattle.ash_code.specs.Validity.{fits_slots, leads_within, has_parameters, fits_callee, is_valid_at, are_valid_from}
use Rattle.ash_code.specs.Validity.{begins_with_tick, is_valid_function, is_valid_init, is_valid_class, is_valid}
use Rattle.ash_compile.specs.declared.layout.Layout.{Layout}
use Rattle.ash_compile.specs.Layout.{count_of_constructor}
use Rattle.ash_compile.specs.EmittedFrames.{FrameSource, frame_of_construction}
use Rattle.ash_compile.specs.EmittedFrames.{frames_of, IsFrameCode, IsInitCode, IsCompiled}
use Rattle.ash_compile.specs.ValidCode.{counts_of, constructors_of, has_callee, count_at, highest_in_row}
use Rattle.ash_compile.specs.ValidCode.{highest_argument, IsValidIn, IsValidCode}
use Rattle.ash_compile.proofs.Listings.{zip_at}
use Rattle.ash_compile.proofs.ModuleFrames.{construction_at}
use Rattle.ash_compile.proofs.Counted.{parameters_in, frames_counted, long_map}
use Rattle.ash_compile.proofs.ValidSteps.{and_is, lower, not_higher, arguments_fit}

-- how many parameters code has

abbrev parameters_of_code : FunctionCode → ℕ
parameters_of_code f = f.parameters

zip_counted : (layout : Layout) (xs : List FrameSource) (fs : List FunctionCode) → AllZip (IsFrameCode layout) xs fs
    → map parameters_in xs ≡ map parameters_of_code fs
zip_counted layout [] [] are = refl
zip_counted layout [] (f ∷ fs) are = absurd are
zip_counted layout (x ∷ xs) [] are = absurd are
zip_counted layout (x ∷ xs) (f ∷ fs) are =
    ap (λ (n : ℕ). n ∷ map parameters_in xs) (sym (are.0).parameters)
    ∙ ap (λ (ns : List ℕ). f.parameters ∷ ns) (zip_counted layout xs fs are.1)

-- what is called

parameters_fit : (fs : List FunctionCode) (function at slots : ℕ)
    → nat_lt function (length (map parameters_of_code fs)) ≡ true
    → highest_in_row at (count_at (map parameters_of_code fs) function) < slots → slots < 2 ^ 64
    → has_parameters fs function at slots ≡ true
parameters_fit [] function at slots there low top = absurd (grind (arith, nat_tests))
parameters_fit (f ∷ fs) zero at slots there low top = arguments_fit at f.parameters slots low top
parameters_fit (f ∷ fs) (suc k) at slots there low top = parameters_fit fs k at slots later low top
  where
    later : nat_lt k (length (map parameters_of_code fs)) ≡ true
    later = grind (arith, nat_tests)

at_place : {A : Type 0} (xs : List A) (k : ℕ) → nat_lt k (length xs) ≡ true → (x : A) × (slice_get xs k ≡ Some x)
at_place [] k low = absurd (grind (arith, nat_tests))
at_place (x ∷ xs) zero low = (x, refl)
at_place (x ∷ xs) (suc k) low = at_place xs k (grind (arith, nat_tests))

mapped_count : (cs : List Class) (k : ℕ) (c : Class) → slice_get cs k ≡ Some c
    → count_at (map count_of_constructor cs) k ≡ count_of_constructor c
mapped_count [] k c at = absurd (cc)
mapped_count (x ∷ cs) zero c at = ap count_of_constructor (same_Some x c at)
mapped_count (x ∷ cs) (suc k) c at = mapped_count cs k c at

module _ (layout : Layout) (m : Module) (parts : CodeParts) (compiled : IsCompiled layout m parts) where
  counts : counts_of layout ≡ map parameters_of_code (parts.functions).items
  counts = (compiled.layout).parameters ∙ sym (frames_counted m)
      ∙ zip_counted layout (frames_of m) (parts.functions).items compiled.functions

  pub count : length (parts.functions).items ≡ length (counts_of layout)
  count = sym (long_map parameters_of_code (parts.functions).items) ∙ ap length (sym counts)

  calls_fit : (function at slots : ℕ) → nat_lt function (length (counts_of layout)) ≡ true
      → highest_in_row at (count_at (counts_of layout) function) < slots → slots < 2 ^ 64
      → has_parameters (parts.functions).items function at slots ≡ true
  calls_fit function at slots there low top =
      parameters_fit (parts.functions).items function at slots
      (subst (λ (ns : List ℕ). nat_lt function (length ns) ≡ true) counts there)
      (subst (λ (ns : List ℕ). highest_in_row at (count_at ns function) < slots) counts low) top

  constructs_fit : (class at slots : ℕ) → nat_lt class (length (constructors_of layout)) ≡ true
      → highest_in_row at (count_at (constructors_of layout) class) < slots → slots < 2 ^ 64
      → option_map_or (λ (c : ClassCode). has_parameters (parts.functions).items c.construction at slots)
      (slice_get (parts.classes).items class) false ≡ true
  constructs_fit class at slots there low top =
      let level = (compiled.layout).constructors in
      let (k, is) = at_place m.classes class
      (subst (λ (n : ℕ). nat_lt class n ≡ true) (long_map count_of_constructor m.classes)
      (subst (λ (ns : List ℕ). nat_lt class (length ns) ≡ true) level there)) in
      let (code, found, of) = (compiled.classes).each class k is in
      let (f, here, frame) = zip_at (IsFrameCode layout) (frames_of m) (parts.functions).items
      (length m.functions + class) (frame_of_construction k) compiled.functions (construction_at m class k is) in
      let many : count_at (constructors_of layout) class ≡ f.parameters
      = ap (λ (ns : List ℕ). count_at ns class) level ∙ mapped_count m.classes class k is ∙ sym frame.parameters in
      ap (λ (o : Option ClassCode). option_map_or (λ (c : ClassCode).
      has_parameters (parts.functions).items c.construction at slots) o false) found
      ∙ ap (λ (n : ℕ). has_parameters (parts.functions).items n at slots) of.construction
      ∙ ap (λ (o : Option FunctionCode). option_map_or (λ (g : FunctionCode). nat_le g.parameters (slots - at)) o
      false)
      here
      ∙ arguments_fit at f.parameters slots (subst (λ (n : ℕ). highest_in_row at n < slots) many low) top

  -- instructions

  module _ (f : FunctionCode) (own_slots : f.slots < 2 ^ 64) where
    callee_fits : (j : Instruction)
        → (has_callee layout j ≡ true) × (highest_argument layout j < f.slots) → fits_callee parts f.slots j ≡ true
    callee_fits (i.Call function at) own = calls_fit function at f.slots own.0 own.1 own_slots
    callee_fits (i.CallMethod function object at) own = calls_fit function at f.slots own.0 own.1 own_slots
    callee_fits (i.Construct class at) own = constructs_fit class at f.slots own.0 own.1 own_slots
    callee_fits (i.Load word to) own = refl
    callee_fits (i.Move from to) own = refl
    callee_fits (i.Hold from to) own = refl
    callee_fits (i.This to) own = refl
    callee_fits (i.Calculate calculation left right to) own = refl
    callee_fits (i.AddInt left right to) own = refl
    callee_fits (i.SubtractInt left right to) own = refl
    callee_fits (i.AddNumber left number to) own = refl
    callee_fits (i.Compare comparator operands left right to) own = refl
    callee_fits (i.Alter change from to) own = refl
    callee_fits (i.Count step int_type from to) own = refl
    callee_fits (i.Convert int_type from to) own = refl
    callee_fits (i.Cast object_type from to) own = refl
    callee_fits (i.ReadGlobal place to) own = refl
    callee_fits (i.WriteGlobal place from) own = refl
    callee_fits (i.ReadField object place to) own = refl
    callee_fits (i.WriteField object place from) own = refl
    callee_fits (i.WriteOwnField place from) own = refl
    callee_fits (i.ReadElement array index to) own = refl
    callee_fits (i.WriteElement array index from) own = refl
    callee_fits (i.GetProperty object id var_type to) own = refl
    callee_fits (i.SetProperty object id from) own = refl
    callee_fits (i.CallInterface interface method object at) own = refl
    callee_fits (i.Return from) own = refl
    callee_fits i.ReturnNothing own = refl
    callee_fits i.ReturnThis own = refl
    callee_fits (i.ConstructArray element to) own = refl
    callee_fits (i.ConstructArrayOf element len to) own = refl
    callee_fits (i.Length array to) own = refl
    callee_fits (i.IsEmpty array to) own = refl
    callee_fits (i.Resize array len to) own = refl
    callee_fits (i.InsertLast array from to) own = refl
    callee_fits (i.RemoveLast array to) own = refl
    callee_fits (i.ConstructHost kind at count) own = refl
    callee_fits (i.CallHost object id result at count) own = refl
    callee_fits (i.CallService service id result at count) own = refl
    callee_fits (i.Tick line) own = refl
    callee_fits i.EndExpression own = refl
    callee_fits (i.EndAndTick line) own = refl
    callee_fits i.Declare own = refl
    callee_fits i.DeclareAndEnd own = refl
    callee_fits (i.LeaveBlocks count) own = refl
    callee_fits i.Release own = refl
    callee_fits (i.EndBlock count) own = refl
    callee_fits (i.Jump to) own = refl
    callee_fits (i.JumpIf condition to) own = refl
    callee_fits (i.JumpUnless condition to) own = refl
    callee_fits (i.JumpIfNumber from word to) own = refl
    callee_fits (i.Branch condition to) own = refl
    callee_fits (i.BranchUnless comparison left right to) own = refl
    callee_fits (i.Loop line to) own = refl
    callee_fits (i.LoopWhile line comparison left right to) own = refl

  valid_at : (f : FunctionCode) (at : ℕ) (j : Instruction) → IsValidIn layout f at j → is_valid_at parts f at j ≡ true
  valid_at f at j is =
      and_is (fits_slots j f.slots && leads_within (length (f.instructions).items) at j) (fits_callee parts f.slots j)
      (and_is (fits_slots j f.slots) (leads_within (length (f.instructions).items) at j) is.slots is.leads)
      (callee_fits f is.fits j (is.callee, is.arguments))

  valid_from : (f : FunctionCode) (is : List Instruction) (first : ℕ)
      → ((k : ℕ) (j : Instruction) → slice_get is k ≡ Some j → is_valid_at parts f (first + k) j ≡ true)
      → are_valid_from parts f first is ≡ true
  valid_from f [] first each = refl
  valid_from f (x ∷ xs) first each =
      let here : first + 0 ≡ first = omega arith in
      and_is (is_valid_at parts f first x) (are_valid_from parts f (first + 1) xs)
      (subst (λ (n : ℕ). is_valid_at parts f n x ≡ true) here (each 0 x refl))
      (valid_from f xs (first + 1) (λ k j there.
      let later : first + suc k ≡ first + 1 + k = omega arith in
      subst (λ (n : ℕ). is_valid_at parts f n j ≡ true) later (each (suc k) j there)))

  all_valid : (f : FunctionCode) → IsValidCode layout f → are_valid_from parts f 0 (f.instructions).items ≡ true
  all_valid f valid =
      valid_from f (f.instructions).items 0 (λ k j there.
      let here : k ≡ 0 + k = omega arith in
      subst (λ (n : ℕ). is_valid_at parts f n j ≡ true) here (valid_at f k j (valid.each k j there)))

  -- functions

  begins : (line other : ℕ) (is : List Instruction) → slice_get is 0 ≡ Some (i.Tick other) → line ≡ other
      → begins_with_tick line is ≡ true
  begins line other [] at same = absurd (cc)
  begins line other (x ∷ xs) at same =
      let first : i.Tick other ≡ x = sym (same_Some x (i.Tick other) at) in
      subst (λ (y : Instruction). begins_with_tick line (y ∷ xs) ≡ true) first level
    where
      level : nat_eq other line ≡ true
      level = grind (arith, nat_tests)

  valid_function : (x : FrameSource) (f : FunctionCode) → IsFrameCode layout x f → is_valid_function parts f ≡ true
  valid_function x f is =
      let valid = is.valid in
      and_is (nat_le f.parameters f.slots && begins_with_tick f.line (f.instructions).items)
      (are_valid_from parts f 0 (f.instructions).items)
      (and_is (nat_le f.parameters f.slots) (begins_with_tick f.line (f.instructions).items)
      (not_higher f.parameters f.slots valid.parameters)
      (begins f.line (x.entry).line (f.instructions).items is.begins is.line)) (all_valid f valid)

  valid_functions : (xs : List FrameSource) (fs : List FunctionCode) → AllZip (IsFrameCode layout) xs fs
      → list_all (is_valid_function parts) fs ≡ true
  valid_functions [] [] are = refl
  valid_functions [] (f ∷ fs) are = absurd are
  valid_functions (x ∷ xs) [] are = absurd are
  valid_functions (x ∷ xs) (f ∷ fs) are =
      and_is (is_valid_function parts f) (list_all (is_valid_function parts) fs) (valid_function x f are.0)
      (valid_functions xs fs are.1)

  valid_init : (f : FunctionCode) → IsInitCode layout m f → is_valid_init parts f ≡ true
  valid_init f is =
      let within = slice_get_within (f.instructions).items is.end i.ReturnNothing is.ends in
      and_is (nat_eq f.line 1 && nat_eq f.parameters 0 && nat_lt 0 (length (f.instructions).items))
      (are_valid_from parts f 0 (f.instructions).items)
      (and_is (nat_eq f.line 1 && nat_eq f.parameters 0) (nat_lt 0 (length (f.instructions).items))
      (and_is (nat_eq f.line 1) (nat_eq f.parameters 0) (level f.line 1 is.line) (level f.parameters 0 is.parameters))
      (lower 0 (length (f.instructions).items) (omega (arith, within)))) (all_valid f is.valid)
    where
      level : (a b : ℕ) → a ≡ b → nat_eq a b ≡ true
      level a b same = grind (arith, nat_tests)

  -- the code of the module
  pub valid_parts : is_valid parts ≡ true
  valid_parts =
      and_is (list_all (is_valid_function parts) (parts.functions).items && is_valid_init parts parts.init)
      (list_all (is_valid_class (length (parts.functions).items)) (parts.classes).items)
      (and_is (list_all (is_valid_function parts) (parts.functions).items) (is_valid_init parts parts.init)
      (valid_functions (frames_of m) (parts.functions).items compiled.functions) (valid_init parts.init compiled.init))
      (subst (λ (n : ℕ). list_all (is_valid_class n) (parts.classes).items ≡ true) (sym count) compiled.methods)
