-- The initializers of a module, one declaration after the other.
use Rattle.std.proofs.Common.{◌≡◌, ◌<◌, ◌+◌, ℕ, length, get_or, map, drop, List, ◌∷◌, sym, ap, ◌∙◌}
use Rattle.std.proofs.lemmas.List.{drop_more, length-map}
use Rattle.ash_typed.specs.declared.tree.items.Variables as variables_code
use Rattle.ash_typed.specs.BodyViews.{value_of}
use Rattle.ash_typed.specs.Modules.{variables_of}
use Rattle.ash_meaning.specs.Activity.{Activity}
use Rattle.ash_meaning.specs.Runs.{Run, onward, ◌>>◌}
use Rattle.ash_meaning.specs.Frames.{tick}
use Rattle.ash_meaning.specs.CallMeaning.{Calls}
use Rattle.ash_meaning.specs.Functions.{initialize_globals, initialize_module}

-- one declaration, with the tick before it
abbrev pub declaration_run : Calls → ℕ → variables_code.Variables → Run (Unit {0})
declaration_run calls place d = tick d.line >> initialize_globals calls place (map value_of d.initializations.items)

pub module_step : (calls : Calls) (place : ℕ) (ds : List variables_code.Variables) (i : ℕ) (d : variables_code.Variables) (a : Activity) → i < length ds → d ≡ get_or ds i d → initialize_module calls place (map variables_of (drop i ds)) a ≡ onward (declaration_run calls place d a) (λ _. initialize_module calls (place + length d.initializations.items) (map variables_of (drop (i + 1) ds)))
module_step calls place ds i d a low is =
    ap (λ (l : List variables_code.Variables). initialize_module calls place (map variables_of l) a) (drop_more ds i d low ∙ ap (λ (x : variables_code.Variables). x ∷ drop (i + 1) ds) (sym is))
    ∙ ap (λ (n : ℕ). onward (declaration_run calls place d a) (λ _. initialize_module calls (place + n) (map variables_of (drop (i + 1) ds)))) (length-map d.initializations.items value_of)
