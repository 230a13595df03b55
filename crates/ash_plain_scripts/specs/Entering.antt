-- What frames do, by what is called.
use Rattle.std.specs.Prelude.{ℕ, List, Option, None}
use Rattle.ash_host.specs.declared.word.Word.{Word}
use Rattle.ash_host.specs.declared.word.Word.TheVariants as words
use Rattle.ash_meaning.specs.Runs.{Progress, Run, onward, give, ◌>>=◌, ◌>>◌, found}
use Rattle.ash_meaning.specs.Frames.{tick, in_frame_of}
use Rattle.ash_meaning.specs.CallMeaning.{Calls, entry}
use Rattle.ash_meaning.specs.Classes.{Program, ModuleCallee, Construction, entry_of}
use Rattle.ash_meaning.specs.Functions.{run_entry}
use Rattle.ash_plain_scripts.specs.Bodies.{body_of_callee}

-- what a frame does after the tick of its entry, with what calls come to given
abbrev pub entry_run : Program → Calls → ℕ → ModuleCallee → Run (Option Word)
entry_run p calls depth callee = found (entry_of p.tree callee) >>= run_entry calls depth

-- the frame that constructs an object of a class, once the object is made
abbrev pub construction_run : Calls → ℕ → ℕ → List Word → Run Word
construction_run calls class number args =
    entry calls (Construction class)
    >>= (λ e. in_frame_of e.name e.line (words.Object number) args (calls.body e >> give (words.Object number)))

-- a function from its entry on
abbrev pub function_run : Program → ℕ → ℕ → ModuleCallee → Run (Option Word)
function_run p depth line callee = tick line >> body_of_callee p depth callee

-- a run that gives no value, where a function's may give one
abbrev pub without_value : Progress (Unit {0}) → Progress (Option Word)
without_value p = onward p (λ _. give None)
