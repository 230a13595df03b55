-- Lists of values: what is at a place, and what is put, taken and added.
use Rattle.std.proofs.Common.{◌≡◌, ◌<◌, ℕ, zero, suc, List, [], ◌∷◌, ◌++◌, length, take, drop, replicate, refl, sym, ap, subst, slice_get, slice_index_or, slice_set, arith}
use Rattle.std.specs.Prelude.{Some}
use Rattle.std.proofs.lemmas.Option.{same_Some}
use Rattle.ash_host.specs.declared.word.Word.{Word}
use Rattle.ash_host.specs.declared.word.Word.TheVariants.{Null}
use Rattle.ash_host.specs.Objects.{LiveObjects}
use Rattle.ash_typed.specs.declared.types.VarType.{VarType}
use Rattle.ash_meaning.specs.Classes.{Program}
use Rattle.ash_soundness.specs.WellFormed.{IsValue, AreValues, no_values, and_value, AllAre, none_are, and_is}

module _ {p : Program} {all : LiveObjects (List ℕ)} where
  pub values_length : {types : List VarType} {ws : List Word} → AreValues p all types ws → length ws ≡ length types
  values_length no_values = refl
  values_length (and_value v vs) = ap suc (values_length vs)

  pub value_at : {types : List VarType} {ws : List Word} → AreValues p all types ws → (i : ℕ) (of : VarType) → slice_get types i ≡ Some of → IsValue p all of (slice_index_or ws i Null)
  value_at no_values i of at = absurd (cc)
  value_at (and_value {of = first} {word = w} v vs) zero of at = subst (λ (t : VarType). IsValue p all t w) (same_Some first of at) v
  value_at (and_value v vs) (suc i) of at = value_at vs i of at

  pub values_set : {types : List VarType} {ws : List Word} → AreValues p all types ws → (i : ℕ) (of : VarType) (w : Word) → slice_get types i ≡ Some of → IsValue p all of w → AreValues p all types (slice_set ws i w)
  values_set no_values i of w at new = no_values
  values_set (and_value {of = first} v vs) zero of w at new = and_value (subst (λ (t : VarType). IsValue p all t w) (sym (same_Some first of at)) new) vs
  values_set (and_value v vs) (suc i) of w at new = and_value v (values_set vs i of w at new)

  pub values_append : {types more : List VarType} {ws others : List Word} → AreValues p all types ws → AreValues p all more others → AreValues p all (types ++ more) (ws ++ others)
  values_append no_values others = others
  values_append (and_value v vs) others = and_value v (values_append vs others)

  pub values_take : (types more : List VarType) {ws : List Word} → AreValues p all (types ++ more) ws → AreValues p all types (take (length types) ws)
  values_take [] more vs = no_values
  values_take (t ∷ types) more (and_value v vs) = and_value v (values_take types more vs)

  pub all_at : {of : VarType} {ws : List Word} → AllAre p all of ws → (i : ℕ) (d : Word) → i < length ws → IsValue p all of (slice_index_or ws i d)
  all_at none_are i d lt = absurd (omega arith)
  all_at (and_is v vs) zero d lt = v
  all_at (and_is v vs) (suc i) d lt = all_at vs i d (omega arith)

  pub all_set : {of : VarType} {ws : List Word} → AllAre p all of ws → (i : ℕ) (w : Word) → IsValue p all of w → AllAre p all of (slice_set ws i w)
  all_set none_are i w new = none_are
  all_set (and_is v vs) zero w new = and_is new vs
  all_set (and_is v vs) (suc i) w new = and_is v (all_set vs i w new)

  pub all_append : {of : VarType} {ws others : List Word} → AllAre p all of ws → AllAre p all of others → AllAre p all of (ws ++ others)
  all_append none_are others = others
  all_append (and_is v vs) others = and_is v (all_append vs others)

  pub all_take : {of : VarType} {ws : List Word} → AllAre p all of ws → (n : ℕ) → AllAre p all of (take n ws)
  all_take none_are zero = none_are
  all_take none_are (suc n) = none_are
  all_take (and_is v vs) zero = none_are
  all_take (and_is v vs) (suc n) = and_is v (all_take vs n)

  pub all_drop : {of : VarType} {ws : List Word} → AllAre p all of ws → (n : ℕ) → AllAre p all of (drop n ws)
  all_drop none_are zero = none_are
  all_drop none_are (suc n) = none_are
  all_drop (and_is v vs) zero = and_is v vs
  all_drop (and_is v vs) (suc n) = all_drop vs n

  pub all_replicate : {of : VarType} {w : Word} (n : ℕ) → IsValue p all of w → AllAre p all of (replicate n w)
  all_replicate zero v = none_are
  all_replicate (suc n) v = and_is v (all_replicate n v)
