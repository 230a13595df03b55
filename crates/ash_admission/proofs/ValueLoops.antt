-- What is left of the words after one more variable, and after one more declaration.
use Rattle.std.proofs.Common.{◌≡◌, ◌<◌, ◌≤◌, ◌+◌, ℕ, Bool, false, List, [], ◌∷◌, length, drop, get_or, map, sym, ap, ◌∙◌, ◌==◌, arith}
use Rattle.std.specs.Prelude.{Option, Some}
use Rattle.std.specs.Option.{option_and_then}
use Rattle.std.proofs.lemmas.Bool.Decides.{nat_tests}
use Rattle.ash_host.specs.declared.word.Word.{Word}
use Rattle.ash_host.specs.Objects.{LiveObjects}
use Rattle.ash_typed.specs.declared.tree.statements.Initialization as initialization
use Rattle.ash_typed.specs.declared.tree.items.Variables as variables
use Rattle.ash_typed.specs.BodyViews.{value_of}
use Rattle.ash_typed.specs.Modules.{variables_of}
use Rattle.ash_typed.specs.Signatures.{type_declared, types_of_globals}
use Rattle.ash_meaning.specs.Classes.{Program}
use Rattle.ash_plain_steps.proofs.Drops.{at_place, past}
use Rattle.ash_admission.specs.Values.{after_value, after_values, is_end, are_values}
use Rattle.ash_admission.proofs.ValueLaws.{after_both}

module _ (p : Program) (all : LiveObjects (List ℕ)) where
  abbrev after : List initialization.Initialization → List Word → Option (List Word)
  after vs ws = after_values p all (map type_declared (map value_of vs)) ws

  -- variables

  pub variable_more : (vs : List initialization.Initialization) (i : ℕ) (v : initialization.Initialization) (rest : List Word) (o whole : Option (List Word)) → i < length vs → v ≡ get_or vs i v → o ≡ after_value p all v.of rest → after_values p all (map type_declared (map value_of (drop i vs))) rest ≡ whole → option_and_then (after_values p all (map type_declared (map value_of (drop (i + 1) vs)))) o ≡ whole
  variable_more vs i v rest o whole within is e inv =
      ap (option_and_then (after (drop (i + 1) vs))) e
      ∙ ap (λ (l : List initialization.Initialization). after l rest) (sym (at_place vs i v within is))
      ∙ inv

  pub variables_end : (vs : List initialization.Initialization) (i : ℕ) (rest : List Word) (whole : Option (List Word)) → length vs ≤ i → after_values p all (map type_declared (map value_of (drop i vs))) rest ≡ whole → Some rest ≡ whole
  variables_end vs i rest whole over inv = ap (λ (l : List initialization.Initialization). after l rest) (sym (past vs i over)) ∙ inv

  -- declarations

  abbrev are : List variables.Variables → List Word → Bool
  are ds ws = are_values p all (types_of_globals (map variables_of ds)) ws

  pub declaration_more : (ds : List variables.Variables) (i : ℕ) (d : variables.Variables) (items : List initialization.Initialization) (rest : List Word) (o : Option (List Word)) (whole : Bool) → i < length ds → d ≡ get_or ds i d → items ≡ d.initializations.items → o ≡ after_values p all (map type_declared (map value_of items)) rest → are_values p all (types_of_globals (map variables_of (drop i ds))) rest ≡ whole → is_end (option_and_then (after_values p all (types_of_globals (map variables_of (drop (i + 1) ds)))) o) ≡ whole
  declaration_more ds i d items rest o whole within is same e inv =
      let types = types_of_globals (map variables_of (drop (i + 1) ds)) in
      ap (λ (x : Option (List Word)). is_end (option_and_then (after_values p all types) x)) (e ∙ ap (λ (l : List initialization.Initialization). after l rest) same)
      ∙ ap is_end (sym (after_both p all (map type_declared (map value_of d.initializations.items)) types rest))
      ∙ ap (λ (l : List variables.Variables). are l rest) (sym (at_place ds i d within is))
      ∙ inv

  pub declarations_end : (ds : List variables.Variables) (i : ℕ) (rest : List Word) (whole : Bool) → length ds ≤ i → are_values p all (types_of_globals (map variables_of (drop i ds))) rest ≡ whole → is_end (Some rest) ≡ whole
  declarations_end ds i rest whole over inv = ap (λ (l : List variables.Variables). are l rest) (sym (past ds i over)) ∙ inv

-- the test for what is left
pub none_left : (ws : List Word) (b : Bool) → b ≡ (length ws == 0) → b ≡ is_end (Some ws)
none_left [] b e = e
none_left (w ∷ ws) b e = let some : (length (w ∷ ws) == 0) ≡ false = grind (arith, nat_tests) in e ∙ some
