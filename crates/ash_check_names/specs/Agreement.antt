-- That a function of the code agrees with a definition of typing.
use Rattle.std.specs.Prelude.{◌≡◌, ℕ, Result, Ok, Err}
use Rattle.ash_type_rules.specs.declared.fault.Rule.{Rule}
use Rattle.ash_check_names.specs.declared.error.CheckError.{CheckError}
use Rattle.ash_check_names.specs.declared.error.CheckError.TheVariants as errors
use Rattle.ash_type_rules.specs.TypingResult.{TypingResult}

-- The definition has the fault of this error; of an error by which memory ran out nothing is claimed.
abbrev pub FailsWith : {Y : Type 0} → CheckError → TypingResult Y → Type 0
FailsWith (errors.Fault f) checked = checked ≡ Err f
FailsWith errors.NoMemory checked = Unit {0}

-- A function returns what the definition gives, where `view` is how the definition sees a value; or memory ran out.
abbrev pub Agrees : {X Y : Type 0} → (X → Y) → Result X CheckError → TypingResult Y → Type 0
Agrees view (Ok x) checked = checked ≡ Ok (view x)
Agrees view (Err e) checked = FailsWith e checked

-- the error of a rule that is broken at this offset
abbrev pub error_at : Rule → ℕ → CheckError
error_at rule at = errors.Fault (record { rule = rule; at = at })
