-- Steps on arrays.
use Rattle.std.specs.Prelude.{ℕ, ◌-◌, ◌==◌, nat_lt, nat_le, List, [], ◌∷◌, ◌++◌}
use Rattle.std.specs.Prelude.{length, take, drop, replicate, unsigned_abs}
use Rattle.std.specs.Option.{option_map_or}
use Rattle.ash_host.specs.declared.word.Word.{Word}
use Rattle.ash_host.specs.declared.word.Word.TheVariants as words
use Rattle.ash_host.specs.Objects.{Plain, Array, Elements, Bools, Ints, Uints, Int64s}
use Rattle.ash_host.specs.Objects.{Uint64s, Handles, Hosts, object_at}
use Rattle.ash_host.specs.Limits.{max_elements}
use Rattle.ash_integers.specs.Integers.{number_of}
use Rattle.ash_integers.specs.declared.int_type.IntType.TheVariants as ints
use Rattle.ash_typed.specs.declared.types.VarType.TheVariants as vars
use Rattle.ash_typed.specs.declared.tree.operations.ArrayMethod.{ArrayMethod}
use Rattle.ash_typed.specs.declared.tree.operations.ArrayMethod.TheVariants as methods
use Rattle.ash_meaning.specs.declared.exception.Exception.TheVariants.{IndexOutOfBounds, ArrayLimit}
use Rattle.ash_meaning.specs.Runs.{Run, give, ◌>>=◌, ◌>>◌, look, demand, no_step}
use Rattle.ash_meaning.specs.Releases.{hold_all, give_held}
use Rattle.ash_meaning.specs.ObjectSteps.{words_at, put_words, demand_number, make}
use Rattle.ash_meaning.specs.OperatorMeaning.{zero_of}

-- what an element is before anything is written to it
abbrev pub zero_element : Elements (List ℕ) → Word
zero_element Bools = zero_of vars.Bool
zero_element Ints = zero_of (vars.Integer ints.Int)
zero_element Uints = zero_of (vars.Integer ints.Uint)
zero_element Int64s = zero_of (vars.Integer ints.Int64)
zero_element Uint64s = zero_of (vars.Integer ints.Uint64)
zero_element (Handles owner place) = words.Null
zero_element (Hosts kind) = words.Null

-- the number that an index or a length of type `uint` is
abbrev pub natural_of : Word → ℕ
natural_of word = unsigned_abs (number_of word)

-- the index of an element that is there
abbrev pub index_in : ℕ → Word → Run ℕ
index_in number index =
    words_at number >>= (λ all. demand (nat_lt (natural_of index) (length all)) IndexOutOfBounds
    >> give (natural_of index))

-- construction

-- as many elements as the argument says; none without one
abbrev pub count_in : List Word → ℕ
count_in [] = 0
count_in (count ∷ rest) = natural_of count

-- Constructs an array, which takes no frame and no tick.
abbrev pub construct_array : Elements (List ℕ) → List Word → Run Word
construct_array of args =
    demand_number >> demand (nat_le (count_in args) max_elements) ArrayLimit
    >> make (Array of (replicate (count_in args) (zero_element of)))
    >>= (λ number. give_held (words.Object number))

-- methods

-- what a new element of an array is
abbrev pub zero_in : Plain (List ℕ) → Word
zero_in (Array of all) = zero_element of
zero_in _ = words.Null

abbrev pub zero_at : ℕ → Run Word
zero_at number = look (λ activity. option_map_or zero_in (object_at number activity.world.objects) words.Null)

-- so many of these words, and new ones after them where there are fewer
abbrev pub resized : ℕ → Word → List Word → List Word
resized count zero all = take count all ++ replicate (count - length all) zero

-- Gives an array so many elements. Those that are taken away are held, as what is overwritten is.
abbrev pub resize : ℕ → ℕ → Run (Unit {0})
resize number count =
    demand (nat_le count max_elements) ArrayLimit
    >> words_at number >>= (λ all. hold_all (drop count all)
    >> zero_at number >>= (λ zero. put_words number (resized count zero all)))

abbrev pub insert_last : ℕ → Word → Run (Unit {0})
insert_last number word =
    words_at number
    >>= (λ all. demand (nat_lt (length all) max_elements) ArrayLimit >> put_words number (all ++ word ∷ []))

abbrev pub remove_last : ℕ → Run (Unit {0})
remove_last number =
    words_at number
    >>= (λ all. demand (nat_lt 0 (length all)) IndexOutOfBounds >> hold_all (drop (length all - 1) all)
    >> put_words number (take (length all - 1) all))

abbrev pub length_of : ℕ → Run ℕ
length_of number = words_at number >>= (λ all. give (length all))

-- what gives no value gives null, which no phrase uses
abbrev pub give_null : Run Word
give_null = give words.Null

abbrev pub invoke_array : ArrayMethod → ℕ → List Word → Run Word
invoke_array methods.Length number args = length_of number >>= (λ count. give (words.Uint count))
invoke_array methods.IsEmpty number args = length_of number >>= (λ count. give (words.Bool (count == 0)))
invoke_array methods.Resize number (count ∷ rest) = resize number (natural_of count) >> give_null
invoke_array methods.InsertLast number (word ∷ rest) = insert_last number word >> give_null
invoke_array methods.RemoveLast number args = remove_last number >> give_null
invoke_array _ number args = no_step
