-- What frames do after the tick of their entry: constructions and bodies of functions, and the initializers of a
-- module.
use Rattle.std.specs.Prelude.{ℕ, zero, suc, ◌+◌, List, [], ◌∷◌, length, Option, None}
use Rattle.std.specs.Option.{option_map_or}
use Rattle.ash_host.specs.declared.word.Word.{Word}
use Rattle.ash_typed.specs.StatementTree.{Initialization}
use Rattle.ash_typed.specs.Modules.{Variables}
use Rattle.ash_meaning.specs.Runs.{Run, give, skip, ◌>>=◌, ◌>>◌, out_of_ticks}
use Rattle.ash_meaning.specs.Frames.{tick}
use Rattle.ash_meaning.specs.Releases.{full}
use Rattle.ash_meaning.specs.ObjectSteps.{object_of}
use Rattle.ash_meaning.specs.Locations.{Global, Part, this, write}
use Rattle.ash_meaning.specs.Classes.{Program, Entry}
use Rattle.ash_meaning.specs.CallMeaning.{Calls}
use Rattle.ash_meaning.specs.ExpressionMeaning.{expression}
use Rattle.ash_meaning.specs.StatementMeaning.{Flow, Returned, statements}

-- initializers, from a place on; what has none stays as it is

abbrev pub initialize_global : Calls → ℕ → Initialization → Run (Unit {0})
initialize_global calls place v = option_map_or (λ e. full (expression calls e >>= write (Global place))) v.value skip

abbrev pub initialize_globals : Calls → ℕ → List Initialization → Run (Unit {0})
initialize_globals calls place [] = skip
initialize_globals calls place (v ∷ vs) = initialize_global calls place v >> initialize_globals calls (place + 1) vs

-- the globals of a module, with a tick for each declaration
abbrev pub initialize_module : Calls → ℕ → List Variables → Run (Unit {0})
initialize_module calls place [] = skip
initialize_module calls place (d ∷ ds) =
    tick d.line >> initialize_globals calls place d.values >> initialize_module calls (place + length d.values) ds

-- the fields of an object that is constructed
abbrev pub write_field : ℕ → Word → Run (Unit {0})
write_field place word = this >>= object_of >>= (λ number. write (Part number place) word)

abbrev pub initialize_field : Calls → ℕ → Initialization → Run (Unit {0})
initialize_field calls place v = option_map_or (λ e. full (expression calls e >>= write_field place)) v.value skip

abbrev pub initialize_fields : Calls → ℕ → List Initialization → Run (Unit {0})
initialize_fields calls place [] = skip
initialize_fields calls place (v ∷ vs) = initialize_field calls place v >> initialize_fields calls (place + 1) vs

-- bodies

-- the value of a function; one that comes to the end of its body has none
abbrev pub value_of : Flow → Option Word
value_of (Returned value) = value
value_of _ = None

-- what a frame does after the tick of its entry
abbrev pub run_entry : Calls → ℕ → Entry → Run (Option Word)
run_entry calls depth e =
    initialize_fields calls 0 e.fields >> statements calls depth e.body >>= (λ flow. give (value_of flow))

-- What a frame does, where calls go so deep at most, and loops take so many turns. Each call takes a tick first, so
-- that what has no more ticks than that never comes to the end of it: the depth is no part of the meaning.
abbrev pub body : Program → ℕ → Entry → Run (Option Word)
body program zero e = out_of_ticks
body program (suc depth) e = run_entry (record { program = program; body = body program depth }) depth e

-- what phrases call
abbrev pub calls_within : Program → ℕ → Calls
calls_within program depth = record { program = program; body = body program depth }
