-- Steps on objects: what words an object has, and how one is made.
use Rattle.std.specs.Prelude.{ℕ, ◌+◌, ◌-◌, ◌^◌, nat_lt, List, [], length}
use Rattle.std.specs.Option.{option_map_or}
use Rattle.ash_host.specs.declared.word.Word.{Word}
use Rattle.ash_host.specs.declared.word.Word.TheVariants as words
use Rattle.ash_host.specs.Objects.{Plain, Script, Array, Host, LiveObjects, object_at, with_at, fields_of}
use Rattle.ash_host.specs.Limits.{max_objects}
use Rattle.ash_meaning.specs.declared.exception.Exception.TheVariants.{NullPointerAccess, ObjectLimit, NumbersSpent}
use Rattle.ash_meaning.specs.Activity.{World, in_world}
use Rattle.ash_meaning.specs.Runs.{Run, give, ◌>>=◌, ◌>>◌, look, change, raise, demand}

-- objects that are there

-- the object of a handle; null has none
abbrev pub object_of : Word → Run ℕ
object_of (words.Object number) = give number
object_of _ = raise NullPointerAccess

-- the objects with one of them changed
abbrev pub change_at : ℕ → (Plain (List ℕ) → Plain (List ℕ)) → LiveObjects (List ℕ) → LiveObjects (List ℕ)
change_at number how objects =
    option_map_or (λ object. with_at number (how object) objects) (object_at number objects) objects

abbrev pub with_object : ℕ → (Plain (List ℕ) → Plain (List ℕ)) → World → World
with_object number how world = record world { objects = change_at number how world.objects }

-- the words of an object: its fields, or its elements
abbrev pub words_in : ℕ → World → List Word
words_in number world = option_map_or fields_of (object_at number world.objects) []

abbrev pub words_at : ℕ → Run (List Word)
words_at number = look (λ activity. words_in number activity.world)

-- an object with other words
abbrev pub with_words : List Word → Plain (List ℕ) → Plain (List ℕ)
with_words words (Script owner place fields) = Script owner place words
with_words words (Array of elements) = Array of words
with_words words (Host kind state) = Host kind state

abbrev pub put_words : ℕ → List Word → Run (Unit {0})
put_words number words = change (in_world (with_object number (with_words words)))

-- objects that are made

-- the greatest number of an object
abbrev pub max_number : ℕ
max_number = 2 ^ 64 - 1

-- Raises an exception where no object can be made: as many live as may, or every number was given.
abbrev pub demand_number : Run (Unit {0})
demand_number =
    look (λ activity. nat_lt (length activity.world.objects) max_objects) >>= (λ room. demand room ObjectLimit)
    >> look (λ activity. nat_lt activity.world.last max_number) >>= (λ left. demand left NumbersSpent)

-- the world with a new object, which gets the number after the last
abbrev pub with_new : Plain (List ℕ) → World → World
with_new object world = record world { objects = with_at (world.last + 1) object world.objects; last = world.last + 1 }

-- Makes an object.
abbrev pub make : Plain (List ℕ) → Run ℕ
make object = change (in_world (with_new object)) >> look (λ activity. activity.world.last)
