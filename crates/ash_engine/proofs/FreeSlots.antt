-- A slot of no module.
use Rattle.std.proofs.Common.{◌≡◌, ◌<◌, ℕ, zero, suc, Bool, true, false, List, [], ◌∷◌, length, refl, sym, ap, ◌∙◌}
use Rattle.std.proofs.Common.{nat_eq, arith}
use Rattle.std.specs.Prelude.{◌||◌, Contains}
use Rattle.std.specs.List.{list_any}
use Rattle.std.proofs.lemmas.Bool.Decides.{nat_tests}
use Rattle.ash_soundness.proofs.Values.{none_in}
use Rattle.ash_engine.specs.declared.live.Compiled.{Compiled}
use Rattle.ash_engine.specs.TableStates.{slots_of}

neither : (a b : Bool) → (a || b) ≡ false → (a ≡ false) × (b ≡ false)
neither true b none = absurd (cc)
neither false b none = (refl, none)

pub not_used : (slot : ℕ) (cs : List Compiled) → list_any (λ c. nat_eq c.code.module slot) cs ≡ false
    → Contains (slots_of cs) slot → ⊥
not_used slot [] none i = none_in slot i
not_used slot (c ∷ cs) none i =
    let both = neither (nat_eq c.code.module slot) (list_any (λ c. nat_eq c.code.module slot) cs) none in
    at both.0 (λ there. not_used slot cs both.1 there) i
  where
    at : nat_eq c.code.module slot ≡ false → (Contains (slots_of cs) slot → ⊥) → Contains (slots_of (c ∷ cs)) slot → ⊥
    at other later (zero, l, e) = let here : c.code.module ≡ slot = e in grind (arith, nat_tests)
    at other later (suc k, l, e) = later (k, omega arith, e)
