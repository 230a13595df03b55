-- A load comes to what the initializers of the module do, in one frame and at globals that are zero, `false` or null.
use Rattle.std.proofs.Common.{◌≡◌, ℕ, List, [], codes, map, ap, ◌∙◌}
use Rattle.ash_host.specs.declared.word.Word.{Word}
use Rattle.ash_host.specs.declared.word.Word.TheVariants.{Null}
use Rattle.ash_typed.specs.Signatures.{types_of_globals}
use Rattle.ash_meaning.specs.Activity.{World, Frame}
use Rattle.ash_meaning.specs.OperatorMeaning.{zero_of}
use Rattle.ash_meaning.specs.Classes.{Program}
use Rattle.ash_meaning.specs.MeaningLaws.{initialized}
use Rattle.ash_meaning.specs.Ends.{outcome_of, begun, with_globals, load_module}
use Rattle.ash_plain_scripts.specs.Entering.{without_value}

-- the frame of a load
abbrev first_frame : List ℕ → List Word → List ℕ → Frame
first_frame name locals held = record { function = name; line = 1; this = Null; locals = locals; held = held }

pub load_is : (p : Program) (budget : ℕ) (w : World) (globals : List Word) (name : List ℕ) (locals : List Word) (held : List ℕ) → globals ≡ map zero_of (types_of_globals p.tree.globals) → name ≡ codes "(init)" → locals ≡ [] → held ≡ [] → outcome_of (without_value (initialized p budget (begun (record w { globals = globals }) budget (first_frame name locals held)))) ≡ load_module p budget w
load_is p budget w globals name locals held g n l h =
    ap (λ (gs : List Word). outcome_of (without_value (initialized p budget (begun (record w { globals = gs }) budget (first_frame name locals held))))) g
    ∙ ap (λ (s : List ℕ). outcome_of (without_value (initialized p budget (begun (with_globals p.tree w) budget (first_frame s locals held))))) n
    ∙ ap (λ (ws : List Word). outcome_of (without_value (initialized p budget (begun (with_globals p.tree w) budget (first_frame (codes "(init)") ws held))))) l
    ∙ ap (λ (hs : List ℕ). outcome_of (without_value (initialized p budget (begun (with_globals p.tree w) budget (first_frame (codes "(init)") [] hs))))) h
