-- The names of modules by their slots.
use Rattle.std.proofs.Common.{◌≡◌, ℕ, zero, suc, Bool, true, false, cond, List, [], ◌∷◌, map, refl, sym, ap, ◌∙◌, subst, slice_get, nat_eq, if◌then◌else◌, arith}
use Rattle.std.specs.Prelude.{Option, Some, None, Contains, IsSome, is_some, find}
use Rattle.std.specs.Option.{option_and_then}
use Rattle.std.specs.Ordering.{is_eq}
use Rattle.std.specs.declared.cmp.Ordering.TheVariants.{Less}
use Rattle.std.proofs.lemmas.Map.Text.{is_eq-slice_cmp}
use Rattle.std.specs.List.{AllByRecursion, IsDistinct, insert, remove}
use Rattle.std.proofs.lemmas.Bool.{eqb-true}
use Rattle.std.proofs.lemmas.Bool.Decides.{nat_tests}
use Rattle.std.proofs.lemmas.Option.{same_Some}
use Rattle.ash_requests.specs.States.{LoadedModule, Embedding, compare_names, has_name}
use Rattle.ash_requests.specs.Tasks.{is_module_name, tree_of}
use Rattle.ash_soundness.proofs.Values.{first_in, later_in, none_in}
use Rattle.ash_soundness.proofs.Named.{rec_of, name_says, name_yes}
use Rattle.ash_soundness.proofs.Ascending.{found_by_name}
use Rattle.ash_soundness.specs.WellFormedStates.{Ascend, HasValidName, known_of}
use Rattle.ash_table_states.specs.TableStates.{names_in}

-- the name of a module
abbrev pub name_of : LoadedModule → List ℕ
name_of m = m.name

-- modules that have the same names have them in the same slots
same_at : (ms ns : List LoadedModule) (slots : List ℕ) (at : ℕ) → map name_of ms ≡ map name_of ns → names_in ms slots at ≡ names_in ns slots at
same_at [] [] slots at e = refl
same_at [] (n ∷ ns) slots at e = absurd (cc)
same_at (m ∷ ms) [] slots at e = absurd (cc)
same_at (m ∷ ms) (n ∷ ns) [] at e = refl
same_at (m ∷ ms) (n ∷ ns) (slot ∷ slots) at e =
    let name : m.name ≡ n.name = cc in
    let names : map name_of ms ≡ map name_of ns = cc in
    (λ i. if nat_eq at slot then name i else same_at ms ns slots at names i)

pub names_same : (ms ns : List LoadedModule) (slots : List ℕ) → map name_of ms ≡ map name_of ns → names_in ms slots ≡ names_in ns slots
names_same ms ns slots e = λ i at. same_at ms ns slots at e i

other_slot : (slot : ℕ) (slots : List ℕ) (other : ℕ) (place : ℕ) → AllByRecursion (λ y. nat_eq slot y ≡ false) slots → slice_get slots place ≡ Some other → nat_eq other slot ≡ false
other_slot slot [] other place apart at = absurd (cc)
other_slot slot (s ∷ slots) other zero apart at =
    let same : s ≡ other = same_Some s other at in
    let no : nat_eq slot s ≡ false = apart.0 in
    grind (arith, nat_tests)
other_slot slot (s ∷ slots) other (suc place) apart at = other_slot slot slots other place apart.1 at

-- the name in the slot of a module
pub named_at : (ms : List LoadedModule) (slots : List ℕ) (place slot : ℕ) (m : LoadedModule) → IsDistinct nat_eq slots → slice_get ms place ≡ Some m → slice_get slots place ≡ Some slot → names_in ms slots slot ≡ m.name
unfolding IsDistinct
named_at [] slots place slot m apart at in_slot = absurd (cc)
named_at (n ∷ ms) [] place slot m apart at in_slot = absurd (cc)
named_at (n ∷ ms) (s ∷ slots) zero slot m apart at in_slot =
    let same : s ≡ slot = same_Some s slot in_slot in
    let one : n ≡ m = same_Some n m at in
    let yes : nat_eq slot s ≡ true = grind (arith, nat_tests) in
    ap (λ (b : Bool). if b then n.name else names_in ms slots slot) yes ∙ ap name_of one
named_at (n ∷ ms) (s ∷ slots) (suc place) slot m apart at in_slot =
    ap (λ (b : Bool). if b then n.name else names_in ms slots slot) (other_slot s slots slot place apart.0 in_slot) ∙ named_at ms slots place slot m apart.1 at in_slot

-- a slot with a name is one of these, at the place of a module of that name
pub record IsSlotOf (ms : List LoadedModule) (slots : List ℕ) (slot : ℕ) : Type 0 where
  pub place : ℕ
  pub module_there : LoadedModule
  pub at : slice_get ms place ≡ Some module_there
  pub in_slot : slice_get slots place ≡ Some slot
  pub named : names_in ms slots slot ≡ module_there.name

pub slot_of_name : (ms : List LoadedModule) (slots : List ℕ) (slot : ℕ) → (names_in ms slots slot ≡ [] → ⊥) → IsSlotOf ms slots slot
slot_of_name [] slots slot some = absurd (some refl)
slot_of_name (m ∷ ms) [] slot some = absurd (some refl)
slot_of_name (m ∷ ms) (s ∷ slots) slot some = go (nat_eq slot s) refl (slot_of_name ms slots slot)
  where
    go : (b : Bool) → nat_eq slot s ≡ b → ((names_in ms slots slot ≡ [] → ⊥) → IsSlotOf ms slots slot) → IsSlotOf (m ∷ ms) (s ∷ slots) slot
    go true is others = record {
      place = 0;
      module_there = m;
      at = refl;
      in_slot = ap (λ (n : ℕ). Some n) (sym (eqb-true slot s is));
      named = ap (λ (b : Bool). if b then m.name else names_in ms slots slot) is;
    }
    go false is others =
        let step : names_in (m ∷ ms) (s ∷ slots) slot ≡ names_in ms slots slot = ap (λ (b : Bool). if b then m.name else names_in ms slots slot) is in
        let later = others (λ none. some (step ∙ none)) in
        record { place = suc later.place; module_there = later.module_there; at = later.at; in_slot = later.in_slot; named = step ∙ later.named }

-- no module has the empty name
pub not_empty : (name : List ℕ) → is_module_name name ≡ true → name ≡ [] → ⊥
not_empty [] valid e = cc
not_empty (c ∷ cs) valid e = cc

pub has_a_name : (ms : List LoadedModule) (place : ℕ) (m : LoadedModule) → AllByRecursion HasValidName ms → slice_get ms place ≡ Some m → m.name ≡ [] → ⊥
has_a_name [] place m valid at e = cc
has_a_name (n ∷ ms) zero m valid at e = let one : n ≡ m = same_Some n m at in not_empty m.name (subst HasValidName one valid.0) e
has_a_name (n ∷ ms) (suc place) m valid at e = has_a_name ms place m valid.1 at e

pub contains_at : {A : Type 0} (xs : List A) (place : ℕ) (x : A) → slice_get xs place ≡ Some x → Contains xs x
contains_at [] place x at = absurd (cc)
contains_at {A} (y ∷ ys) zero x at = subst (λ (z : A). Contains (y ∷ ys) z) (same_Some y x at) (first_in y ys)
contains_at (y ∷ ys) (suc place) x at = later_in y x ys (contains_at ys place x at)

-- modules that differ have other names

earlier_named : (m x : LoadedModule) → compare_names m.name x.name ≡ Less → m.name ≡ x.name → ⊥
earlier_named m x before same =
    let no : has_name x.name m ≡ false = sym (is_eq-slice_cmp m.name x.name) ∙ ap is_eq before in
    let yes = name_yes x.name m same in
    cc

pub same_place : (ms : List LoadedModule) (p q : ℕ) (x y : LoadedModule) → Ascend ms → slice_get ms p ≡ Some x → slice_get ms q ≡ Some y → x.name ≡ y.name → p ≡ q
same_place [] p q x y up at other same = absurd (cc)
same_place (m ∷ ms) zero zero x y up at other same = refl
same_place (m ∷ ms) zero (suc q) x y up at other same =
    let one : m ≡ x = same_Some m x at in
    absurd (earlier_named m y (rec_of (λ (n : LoadedModule). compare_names m.name n.name ≡ Less) ms up.0 y (contains_at ms q y other)) (ap name_of one ∙ same))
same_place (m ∷ ms) (suc p) zero x y up at other same =
    let one : m ≡ y = same_Some m y other in
    absurd (earlier_named m x (rec_of (λ (n : LoadedModule). compare_names m.name n.name ≡ Less) ms up.0 x (contains_at ms p x at)) (ap name_of one ∙ sym same))
same_place (m ∷ ms) (suc p) (suc q) x y up at other same = ap suc (same_place ms p q x y up.1 at other same)

-- no other slot has the name of a module
pub alone : (ms : List LoadedModule) (slots : List ℕ) (place slot : ℕ) (m : LoadedModule) → IsDistinct nat_eq slots → Ascend ms → AllByRecursion HasValidName ms
    → slice_get ms place ≡ Some m → slice_get slots place ≡ Some slot → (other : ℕ) → names_in ms slots other ≡ names_in ms slots slot → other ≡ slot
alone ms slots place slot m apart up valid at in_slot other same =
    let name = named_at ms slots place slot m apart at in_slot in
    let there = slot_of_name ms slots other (λ none. has_a_name ms place m valid at (sym name ∙ sym same ∙ none)) in
    let level : there.place ≡ place = same_place ms there.place place there.module_there m up there.at at (sym there.named ∙ same ∙ name) in
    same_Some other slot (sym there.in_slot ∙ ap (slice_get slots) level ∙ in_slot)

-- a slot whose name is that of a module that is known is one of these
pub slot_known : {Fault : Type 0} (embedding : Embedding Fault) (ms : List LoadedModule) (slots : List ℕ) (slot : ℕ) → AllByRecursion HasValidName ms
    → IsSome (known_of embedding ms (names_in ms slots slot)) → IsSlotOf ms slots slot
slot_known embedding ms slots slot valid known = slot_of_name ms slots slot (λ none. none_known ms valid (subst (λ (n : List ℕ). IsSome (known_of embedding ms n)) none known))
  where
    none_named : (ms : List LoadedModule) → AllByRecursion HasValidName ms → find (has_name []) ms ≡ None
    none_named [] valid = refl
    none_named (m ∷ ms) valid = go (has_name [] m) refl (none_named ms valid.1)
      where
        go : (b : Bool) → has_name [] m ≡ b → find (has_name []) ms ≡ None → cond b (Some m) (find (has_name []) ms) ≡ None
        go true is later = absurd (not_empty m.name valid.0 (name_says [] m is))
        go false is later = later

    none_known : (ms : List LoadedModule) → AllByRecursion HasValidName ms → IsSome (known_of embedding ms []) → ⊥
    none_known ms valid known = let none = none_named ms valid in let lost = ap (option_and_then (tree_of embedding)) none in cc
