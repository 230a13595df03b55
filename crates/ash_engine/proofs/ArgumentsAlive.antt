-- The arguments of a call are no handles.
use Rattle.std.proofs.Common.{◌≡◌, ℕ, Bool, true, false, List, [], ◌∷◌, refl, sym, ap, ◌∙◌, subst, if◌then◌else◌}
use Rattle.std.specs.Prelude.{Option, Some, None, All, IsTrue, is_some}
use Rattle.std.specs.Option.{option_map_or}
use Rattle.std.specs.Ordering.{int_eq}
use Rattle.std.proofs.lemmas.Option.{same_Some}
use Rattle.std.proofs.lemmas.List.Elements.{All-nil, All-cons}
use Rattle.ash_host.specs.declared.word.Word.{Word}
use Rattle.ash_host.specs.Objects.{handle, object_at}
use Rattle.ash_integers.specs.declared.int_type.IntType.{IntType}
use Rattle.ash_integers.specs.declared.int_type.IntType.TheVariants as ints
use Rattle.ash_integers.specs.Integers.{reduced}
use Rattle.ash_typed.specs.declared.types.VarType.{VarType}
use Rattle.ash_typed.specs.declared.types.VarType.TheVariants as vars
use Rattle.ash_meaning.specs.OperatorMeaning.{word_at}
use Rattle.ash_objects.specs.Table.{Table}
use Rattle.ash_requests.specs.declared.argument.Arg.{Arg}
use Rattle.ash_requests.specs.declared.argument.Arg.TheVariants as arguments
use Rattle.ash_requests.specs.Tasks.{option_cons, argument_of, arguments_of}
use Rattle.ash_run_steps.specs.RunStates.{is_alive_in}

number_handle : (int_type : IntType) (z : _) → handle (word_at int_type z) ≡ None
number_handle ints.Int z = refl
number_handle ints.Uint z = refl
number_handle ints.Int64 z = refl
number_handle ints.Uint64 z = refl

number_no_handle : (int_type : IntType) (z : _) (w : Word) (b : Bool)
    → (if b then Some (word_at int_type z) else None) ≡ Some w → handle w ≡ None
number_no_handle int_type z w true e = ap handle (sym (same_Some (word_at int_type z) w e)) ∙ number_handle int_type z
number_no_handle int_type z w false e = absurd (cc)

no_handle : (of : VarType) (a : Arg) (w : Word) → argument_of of a ≡ Some w → handle w ≡ None
no_handle vars.Bool (arguments.Truth b) w e = ap handle (sym (same_Some _ w e))
no_handle vars.Bool (arguments.Number z) w e = absurd (cc)
no_handle (vars.Integer int_type) (arguments.Truth b) w e = absurd (cc)
no_handle (vars.Integer int_type) (arguments.Number z) w e =
    number_no_handle int_type z w (int_eq (reduced int_type z) z) e
no_handle (vars.Object o) a w e = absurd (cc)
no_handle (vars.Handle o) a w e = absurd (cc)

both_some : (o : Option Word) (os : Option (List Word)) (ws : List Word) → option_cons o os ≡ Some ws → (w : Word)
    × (rest : List Word) × (o ≡ Some w) × (os ≡ Some rest) × (w ∷ rest ≡ ws)
both_some (Some w) (Some rest) ws e = (w, rest, refl, refl, same_Some (w ∷ rest) ws e)
both_some (Some w) None ws e = absurd (cc)
both_some None os ws e = absurd (cc)

module _ {B : Type 0} (table : Table B) where
  abbrev Alive : Word → Type 0
  Alive word = IsTrue (is_alive_in word table)

  bare_alive : (w : Word) → handle w ≡ None → Alive w
  bare_alive w none = ap (λ (o : Option ℕ). option_map_or
      (λ (number : ℕ). is_some (object_at number table.objects)) o true) none

  pub arguments_alive : (types : List VarType) (asked : List Arg) (ws : List Word) → arguments_of types asked ≡ Some ws
      → All Alive ws
  arguments_alive [] [] ws e = subst (All Alive) (same_Some [] ws e) (All-nil Alive)
  arguments_alive [] (a ∷ asked) ws e = absurd (cc)
  arguments_alive (t ∷ types) [] ws e = absurd (cc)
  arguments_alive (t ∷ types) (a ∷ asked) ws e =
      let (w, rest, one, more, whole) = both_some (argument_of t a) (arguments_of types asked) ws e in
      subst (All Alive) whole (All-cons Alive w rest (bare_alive w (no_handle t a w one))
      (arguments_alive types asked rest more))
