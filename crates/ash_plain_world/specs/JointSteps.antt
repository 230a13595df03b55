-- Steps that the code takes together.
use Rattle.ash_host.specs.declared.word.Word.{Word}
use Rattle.ash_meaning.specs.Runs.{Run, ◌>>=◌}
use Rattle.ash_meaning.specs.Releases.{give_held}
use Rattle.ash_meaning.specs.Locations.{Location, this, read}

-- what a location holds, and the object whose method runs, which are held where they are handles

abbrev pub read_held : Location → Run Word
read_held location = read location >>= give_held

abbrev pub this_held : Run Word
this_held = this >>= give_held
