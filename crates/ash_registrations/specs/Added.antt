-- These definitions say when one more registration is added.
use Rattle.std.specs.Prelude.{◌≡◌, ◌+◌, Bool, true, false, List, [], ◌∷◌, ◌++◌, Result, OnOk, OnErr, IfErr, length}
use Rattle.std.specs.Prelude.{nat_lt}
use Rattle.ash_registrations.specs.declared.adding.AddFault.{AddFault}
use Rattle.ash_registrations.specs.declared.adding.AddFault.TheVariants.{TooLong}
use Rattle.ash_registrations.specs.Registrations.{Registration}
use Rattle.ash_registrations.specs.Text.{line_of, text_of, max_registered_text_bytes}

-- The text would be too long with one more registration.
abbrev pub is_too_long : List Registration → Registration → Bool
is_too_long old added = nat_lt max_registered_text_bytes (length (text_of old) + length (line_of added))

-- A registration is added after the others where its line fits into the text; else it is refused as too long, or
-- memory ran out, and nothing changes.
pub record IsAdded {A : Type 0} (registration : Registration) (result : Result A AddFault)
    (old new : List Registration) : Type 0 where
  pub fits : OnOk result (is_too_long old registration ≡ false)
  pub added : OnOk result (new ≡ old ++ registration ∷ [])
  pub too_long : IfErr result (λ fault. fault ≡ TooLong → is_too_long old registration ≡ true)
  pub unchanged : OnErr result (new ≡ old)
