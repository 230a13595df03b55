-- What is sound where there are no locals is sound where there are some.
use Rattle.std.proofs.Common.{ℕ, List, []}
use Rattle.std.specs.Prelude.{Option}
use Rattle.ash_typed.specs.declared.types.VarType.{VarType}
use Rattle.ash_typed.specs.TypedTree.{Expr, Place, Exprs}
use Rattle.ash_typed.specs.TypeOf.{ValueType}
use Rattle.ash_typed.specs.Signatures.{ModuleSignatures}
use Rattle.ash_typed.specs.SoundExpressions as sound
use Rattle.ash_typed.specs.SoundExpressions.{TypedEnvironment, IsWellTyped, HasPlace, Fits, AreSoundArguments}

module _ (s : ModuleSignatures) (this : Option ℕ) (locals : List VarType) where
  abbrev narrow : TypedEnvironment
  narrow = record { signatures = s; this = this; locals = [] }

  abbrev wide : TypedEnvironment
  wide = record { signatures = s; this = this; locals = locals }

  mutual
    widened : {e : Expr} {t : ValueType} → IsWellTyped narrow e t → IsWellTyped wide e t
    widened (sound.number h) = sound.number h
    widened sound.truth = sound.truth
    widened sound.null = sound.null
    widened (sound.this h) = sound.this h
    widened (sound.read h) = sound.read (widened_place h)
    widened (sound.invoke h i args) = sound.invoke (widened h) i (widened_arguments args)
    widened (sound.convert h) = sound.convert (widened h)
    widened (sound.cast h i) = sound.cast h (widened i)
    widened (sound.alter h i) = sound.alter h (widened i)
    widened (sound.calculate h i) = sound.calculate (widened h) (widened i)
    widened (sound.shift h i k) = sound.shift h (widened i) (widened k)
    widened (sound.compare h i k l m) = sound.compare h (widened i) k (widened l) m
    widened (sound.lazily h i) = sound.lazily (widened h) (widened i)
    widened (sound.choose h i k) = sound.choose (widened h) (widened i) (widened k)
    widened (sound.choose_or_null h i k) = sound.choose_or_null (widened h) (widened i) (widened k)
    widened (sound.null_or_choose h i k) = sound.null_or_choose (widened h) (widened i) (widened k)
    widened (sound.assign h i k) = sound.assign (widened_place h) i (widened_fit k)
    widened (sound.update h i) = sound.update (widened_place h) (widened i)
    widened (sound.update_by_shift h i k) = sound.update_by_shift h (widened_place i) (widened k)
    widened (sound.count h) = sound.count (widened_place h)
    widened (sound.call h args) = sound.call h (widened_arguments args)

    widened_place : {place : Place} {of : VarType} → HasPlace narrow place of → HasPlace wide place of
    widened_place (sound.local h) = absurd (cc)
    widened_place (sound.global h) = sound.global h
    widened_place (sound.member h i) = sound.member (widened h) i
    widened_place (sound.element h i) = sound.element (widened h) (widened i)

    pub widened_fit : {of : VarType} {e : Expr} → Fits narrow of e → Fits wide of e
    widened_fit (sound.fits h i) = sound.fits (widened h) i

    widened_arguments : {types : List VarType} {es : Exprs} → AreSoundArguments narrow types es → AreSoundArguments wide types es
    widened_arguments sound.no_arguments = sound.no_arguments
    widened_arguments (sound.argument h i) = sound.argument (widened_fit h) (widened_arguments i)
