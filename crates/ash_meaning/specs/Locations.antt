-- Where a value is stored, once a place is computed, and how it is read and written there.
use Rattle.std.specs.Prelude.{ℕ, slice_index_or, slice_set}
use Rattle.ash_host.specs.declared.word.Word.{Word}
use Rattle.ash_host.specs.declared.word.Word.TheVariants.{Null}
use Rattle.ash_typed.specs.declared.types.VarType.{VarType}
use Rattle.ash_typed.specs.declared.tree.operations.Variable.{Variable}
use Rattle.ash_typed.specs.declared.tree.operations.Variable.TheVariants as variables
use Rattle.ash_typed.specs.declared.tree.operations.ObjectMember.{ObjectMember}
use Rattle.ash_typed.specs.declared.tree.operations.ObjectMember.TheVariants as members
use Rattle.ash_meaning.specs.Activity.{World, Frame, in_frame, in_world}
use Rattle.ash_meaning.specs.Runs.{Run, ◌>>=◌, ◌>>◌, look, change}
use Rattle.ash_meaning.specs.Releases.{hold}
use Rattle.ash_meaning.specs.ObjectSteps.{words_in, words_at, put_words}
use Rattle.ash_meaning.specs.HostSteps.{get_property, set_property}

-- a local, a global, a field or an element by the number of its object and its place there, or a property of a host
-- object
pub data Location : Type 0 where
  Local : (slot : ℕ) → Location
  Global : (place : ℕ) → Location
  Part : (number place : ℕ) → Location
  Property : (number id : ℕ) (of : VarType) → Location

abbrev pub location_of_variable : Variable → Location
location_of_variable (variables.Local slot of) = Local slot
location_of_variable (variables.Global place of) = Global place

-- where an object has a member
abbrev pub location_of_member : ObjectMember → ℕ → Location
location_of_member (members.Field class place of) number = Part number place
location_of_member (members.Property id of) number = Property number id of

-- the object whose method runs
abbrev pub this : Run Word
this = look (λ activity. activity.frame.this)

abbrev pub read : Location → Run Word
read (Local slot) = look (λ activity. slice_index_or activity.frame.locals slot Null)
read (Global place) = look (λ activity. slice_index_or activity.world.globals place Null)
read (Part number place) = look (λ activity. slice_index_or (words_in number activity.world) place Null)
read (Property number id of) = get_property number id of

-- steps that store a word

abbrev pub with_local : ℕ → Word → Frame → Frame
with_local slot word frame = record frame { locals = slice_set frame.locals slot word }

abbrev pub with_global : ℕ → Word → World → World
with_global place word world = record world { globals = slice_set world.globals place word }

-- Puts a word where another one is, which is held: nothing goes before the full expression ends.
abbrev pub overwrite : Location → Run (Unit {0}) → Run (Unit {0})
overwrite location store = read location >>= hold >> store

abbrev pub write : Location → Word → Run (Unit {0})
write (Local slot) word = overwrite (Local slot) (change (in_frame (with_local slot word)))
write (Global place) word = overwrite (Global place) (change (in_world (with_global place word)))
write (Part number place) word =
    overwrite (Part number place) (words_at number >>= (λ all. put_words number (slice_set all place word)))
write (Property number id of) word = set_property number id word
