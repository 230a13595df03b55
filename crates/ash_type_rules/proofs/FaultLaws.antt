-- The fault of a derived module is at a token, where the rule is broken.
use Rattle.std.proofs.Common.{◌≡◌, ℕ, suc, List, [], ◌∷◌, true, Err, refl, sym, subst, arith}
use Rattle.std.specs.List.{Any}
use Rattle.ash_lex.specs.Tokens.{Meaning}
use Rattle.ash_registrations.specs.Registrations.{Registration}
use Rattle.ash_tree.specs.declared.tree.places.Position.{Position}
use Rattle.ash_tree.specs.Grammar.{Derives}
use Rattle.ash_tree.specs.GrammarTokens.{Tokens}
use Rattle.ash_tree.specs.Tree.{Item}
use Rattle.ash_type_rules.specs.declared.fault.Fault.{Fault}
use Rattle.ash_type_rules.specs.ItemRules.{check_module}
use Rattle.ash_type_rules.specs.FaultPlaces.{breaks_at, IsTokenOf, IsFaultOf}
use Rattle.ash_type_rules.specs.FaultMeaning.{IsWrong, IsBrokenAt}
use Rattle.ash_type_rules.proofs.FaultTokens.{HasToken, AreIn}
use Rattle.ash_type_rules.proofs.FaultAnswers.{Script, IsIn, is_in}
use Rattle.ash_type_rules.proofs.DerivedItems.{items_in}
use Rattle.ash_type_rules.proofs.FaultItems.{module_in}

-- some element

any_here : {X : Type 0} (P : X → Type 0) (x : X) (xs : List X) → P x → Any P (x ∷ xs)
any_here P x xs h = (0, x, omega arith, refl, h)

any_after : {X : Type 0} (P : X → Type 0) (x : X) (xs : List X) → Any P xs → Any P (x ∷ xs)
any_after P x xs h = (suc h.0, h.1, omega (arith, h.2), h.3, h.4)

any_map : {X : Type 0} (P Q : X → Type 0) (xs : List X) → ((x : X) → P x → Q x) → Any P xs → Any Q xs
any_map P Q xs go h = (h.0, h.1, h.2, h.3, go h.1 h.4)

-- each token of the script is one of it

abbrev pub Has : Tokens → Meaning × Position → Type 0
Has script t = HasToken script t.0 t.1.at

further : (t u : Meaning × Position) (ts : Tokens) → Has ts u → Has (t ∷ ts) u
further t u ts h = record { token = any_after (λ (x : Meaning × Position). (x.0 ≡ u.0) × (x.1.at ≡ u.1.at)) t ts h.token }

all_further : (t : Meaning × Position) (ts us : Tokens) → AreIn ts us → AreIn (t ∷ ts) us
all_further t ts [] h = tt
all_further t ts (u ∷ us) h = (further t u ts h.0, all_further t ts us h.1)

all_in : (ts : Tokens) → AreIn ts ts
all_in [] = tt
all_in (t ∷ ts) = (
  record { token = any_here (λ (x : Meaning × Position). (x.0 ≡ t.0) × (x.1.at ≡ t.1.at)) t ts (refl, refl) },
  all_further t ts ts (all_in ts),
)

-- the fault

pub fault_broken : (registrations : List Registration) (free : ℕ) (tokens : Tokens) (is : List Item) (fault : Fault)
    → Derives free tokens is → check_module registrations is ≡ Err fault → IsBrokenAt registrations is tokens fault
fault_broken registrations free tokens is fault d h =
    let script : Script = record { tokens = tokens; registrations = registrations; items = is } in
    let found : IsIn script fault = is_in (module_in script (items_in tokens d (all_in tokens))) fault h in
    any_map (λ (t : Meaning × Position). (t.0 ≡ found.0) × (t.1.at ≡ fault.at))
    (λ (t : Meaning × Position). (t.1.at ≡ fault.at) × (breaks_at fault.rule t.0 ≡ true)
    × IsWrong registrations is fault.rule fault.at t.0) tokens
    (λ t k. (
      k.1,
      subst (λ m. breaks_at fault.rule m ≡ true) (sym k.0) found.2,
      subst (λ m. IsWrong registrations is fault.rule fault.at m) (sym k.0) found.3,
    )) (found.1).token

pub fault_at : (registrations : List Registration) (free : ℕ) (tokens : Tokens) (is : List Item) (fault : Fault)
    → Derives free tokens is → check_module registrations is ≡ Err fault → IsFaultOf tokens fault
fault_at registrations free tokens is fault d h =
    any_map (λ (t : Meaning × Position). (t.1.at ≡ fault.at) × (breaks_at fault.rule t.0 ≡ true)
    × IsWrong registrations is fault.rule fault.at t.0)
    (λ (t : Meaning × Position). (t.1.at ≡ fault.at) × (breaks_at fault.rule t.0 ≡ true)) tokens
    (λ t k. (k.0, k.1)) (fault_broken registrations free tokens is fault d h)

pub fault_token : (registrations : List Registration) (free : ℕ) (tokens : Tokens) (is : List Item) (fault : Fault)
    → Derives free tokens is → check_module registrations is ≡ Err fault → IsTokenOf tokens fault.at
fault_token registrations free tokens is fault d h =
    any_map (λ (t : Meaning × Position). (t.1.at ≡ fault.at) × (breaks_at fault.rule t.0 ≡ true))
    (λ (t : Meaning × Position). t.1.at ≡ fault.at) tokens (λ t k. k.0) (fault_at registrations free tokens is fault d h)
