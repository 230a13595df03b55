-- Whether words are values of their types, as tests.
use Rattle.std.specs.Prelude.{ℕ, ◌^◌, ℤ, pos, negsuc, Bool, true, false, if◌then◌else◌}
use Rattle.std.specs.Prelude.{nat_lt, List, [], ◌∷◌, Option, Some, None}
use Rattle.std.specs.Option.{option_map_or, option_and_then}
use Rattle.ash_host.specs.declared.word.Word.{Word}
use Rattle.ash_host.specs.declared.word.Word.TheVariants as words
use Rattle.ash_host.specs.Objects.{LiveObjects}
use Rattle.ash_integers.specs.declared.int_type.IntType.{IntType}
use Rattle.ash_integers.specs.declared.int_type.IntType.TheVariants as ints
use Rattle.ash_typed.specs.declared.types.VarType.{VarType}
use Rattle.ash_typed.specs.declared.types.VarType.TheVariants as vars
use Rattle.ash_meaning.specs.Classes.{Program}
use Rattle.ash_soundness.specs.WellFormed.{Shape, shape_at}
use Rattle.ash_admission.specs.Places.{is_of}

-- whether a signed number takes no more than so many bits beside its sign
abbrev pub fits_bits : ℕ → ℤ → Bool
fits_bits bits (pos n) = nat_lt n (2 ^ bits)
fits_bits bits (negsuc n) = nat_lt n (2 ^ bits)

-- whether a word is a truth value
abbrev pub is_truth : Word → Bool
is_truth (words.Bool b) = true
is_truth _ = false

-- whether a word is an integer of the type
abbrev pub is_integer : IntType → Word → Bool
is_integer ints.Int (words.Int z) = fits_bits 31 z
is_integer ints.Uint (words.Uint n) = nat_lt n (2 ^ 32)
is_integer ints.Int64 (words.Int64 z) = fits_bits 63 z
is_integer ints.Uint64 (words.Uint64 n) = nat_lt n (2 ^ 64)
is_integer _ _ = false

-- whether a word is null, or a handle of a living object whose shape passes a test
abbrev pub is_reference : LiveObjects (List ℕ) → (Shape → Bool) → Word → Bool
is_reference all fits words.Null = true
is_reference all fits (words.Object number) = option_map_or fits (shape_at number all) false
is_reference all fits _ = false

-- whether a word is a value of a type of the module
abbrev pub is_value : Program → LiveObjects (List ℕ) → VarType → Word → Bool
is_value p all vars.Bool word = is_truth word
is_value p all (vars.Integer int_type) word = is_integer int_type word
is_value p all (vars.Object of) word = is_reference all (is_of p of) word
is_value p all (vars.Handle of) word = is_reference all (is_of p of) word

-- the words after one of a type; none where the first word is of another, or there is none
abbrev pub after_value : Program → LiveObjects (List ℕ) → VarType → List Word → Option (List Word)
after_value p all of [] = None
after_value p all of (word ∷ ws) = if is_value p all of word then Some ws else None

-- the words after those of these types; none where the first words are of others, or are too few
abbrev pub after_values : Program → LiveObjects (List ℕ) → List VarType → List Word → Option (List Word)
after_values p all [] ws = Some ws
after_values p all (of ∷ types) ws = option_and_then (after_values p all types) (after_value p all of ws)

-- nothing is left
abbrev pub is_end : Option (List Word) → Bool
is_end (Some []) = true
is_end _ = false

-- whether words are values of these types, each of the one at its place
abbrev pub are_values : Program → LiveObjects (List ℕ) → List VarType → List Word → Bool
are_values p all types ws = is_end (after_values p all types ws)
