-- The name in a slot, by what is left of the modules.
use Rattle.std.proofs.Common.{◌≡◌, ◌≤◌, ◌<◌, ◌+◌, ℕ, zero, suc, Bool, true, false, List, [], ◌∷◌, length, drop, get_or, refl, sym, ap, ◌∙◌, slice_get, nat_eq, if◌then◌else◌, arith}
use Rattle.std.specs.Prelude.{Some, None, option_map}
use Rattle.std.proofs.lemmas.Option.{same_Some, slice_get-map, slice_get-get_or}
use Rattle.ash_requests.specs.States.{LoadedModule}
use Rattle.ash_table_states.specs.TableStates.{names_in}
use Rattle.ash_engine.specs.TableStates.{slots_of}
use Rattle.ash_engine.specs.declared.live.Compiled.{Compiled}

module _ (slot : ℕ) where
  passed_by : (ms : List LoadedModule) (slots : List ℕ) (i s : ℕ) → slice_get slots i ≡ Some s → nat_eq slot s ≡ false
      → names_in (drop (suc i) ms) (drop (suc i) slots) slot ≡ names_in (drop i ms) (drop i slots) slot
  passed_by ms [] i s at off = absurd (cc)
  passed_by [] (t ∷ slots) zero s at off = refl
  passed_by [] (t ∷ slots) (suc i) s at off = refl
  passed_by (m ∷ ms) (t ∷ slots) zero s at off =
      sym (ap (λ (n : ℕ). if nat_eq slot n then m.name else names_in ms slots slot) (same_Some t s at) ∙ ap (λ (b : Bool). if b then m.name else names_in ms slots slot) off)
  passed_by (m ∷ ms) (t ∷ slots) (suc i) s at off = passed_by ms slots i s at off

  -- a slot that is another one
  pub passed : (ms : List LoadedModule) (slots : List ℕ) (i s : ℕ) → slice_get slots i ≡ Some s → nat_eq slot s ≡ false
      → names_in (drop (i + 1) ms) (drop (i + 1) slots) slot ≡ names_in (drop i ms) (drop i slots) slot
  passed ms slots i s at off =
      let next : i + 1 ≡ suc i = omega arith in
      ap (λ (n : ℕ). names_in (drop n ms) (drop n slots) slot) next ∙ passed_by ms slots i s at off

  -- the slot, of a module
  pub reached : (ms : List LoadedModule) (slots : List ℕ) (i s : ℕ) (m : LoadedModule) → slice_get slots i ≡ Some s → nat_eq slot s ≡ true → slice_get ms i ≡ Some m
      → m.name ≡ names_in (drop i ms) (drop i slots) slot
  reached ms [] i s m at on there = absurd (cc)
  reached [] (t ∷ slots) i s m at on there = absurd (cc)
  reached (n ∷ ms) (t ∷ slots) zero s m at on there =
      sym (ap (λ (k : ℕ). if nat_eq slot k then n.name else names_in ms slots slot) (same_Some t s at)
      ∙ ap (λ (b : Bool). if b then n.name else names_in ms slots slot) on ∙ ap (λ (x : LoadedModule). x.name) (same_Some n m there))
  reached (n ∷ ms) (t ∷ slots) (suc i) s m at on there = reached ms slots i s m at on there

  -- the slot, of no module
  pub missed : (ms : List LoadedModule) (slots : List ℕ) (i : ℕ) → slice_get ms i ≡ None → [] ≡ names_in (drop i ms) (drop i slots) slot
  missed [] slots zero none = refl
  missed [] slots (suc i) none = refl
  missed (m ∷ ms) slots zero none = absurd (cc)
  missed (m ∷ ms) [] (suc i) none = unnamed (drop i ms)
    where
      unnamed : (l : List LoadedModule) → [] ≡ names_in l [] slot
      unnamed [] = refl
      unnamed (x ∷ l) = refl
  missed (m ∷ ms) (t ∷ slots) (suc i) none = missed ms slots i none

  -- no slot is left
  pub ended : (ms : List LoadedModule) (slots : List ℕ) (i : ℕ) → length slots ≤ i → [] ≡ names_in (drop i ms) (drop i slots) slot
  ended ms [] i past = nothing (drop i ms) i
    where
      nothing : (l : List LoadedModule) (i : ℕ) → [] ≡ names_in l (drop i []) slot
      nothing [] i = refl
      nothing (x ∷ l) zero = refl
      nothing (x ∷ l) (suc i) = refl
  ended ms (t ∷ slots) zero past = absurd (omega arith)
  ended [] (t ∷ slots) (suc i) past = refl
  ended (m ∷ ms) (t ∷ slots) (suc i) past = ended ms slots i (omega arith)

-- the slot of the code at a place
pub slot_at : (cs : List Compiled) (i : ℕ) (c : Compiled) → i < length cs → c ≡ get_or cs i c → slice_get (slots_of cs) i ≡ Some c.code.module
slot_at cs i c within is =
    slice_get-map (λ (x : Compiled). x.code.module) cs i
    ∙ ap (option_map (λ (x : Compiled). x.code.module)) (slice_get-get_or cs i c within ∙ ap (λ (x : Compiled). Some x) (sym is))
