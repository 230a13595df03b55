-- Snapshots of one state are one by names.
use Rattle.std.proofs.Common.{◌≡◌, ◌∙◌, ℕ, zero, suc, List, [], ◌∷◌, map, refl, sym, ap}
use Rattle.ash_host.specs.Objects.{LiveObjects}
use Rattle.ash_host.specs.Objects.{Elements, Bools, Ints, Uints, Int64s, Uint64s, Handles, Hosts, Plain, Script, Array}
use Rattle.ash_host.specs.Objects.{Host}
use Rattle.ash_requests.specs.States.{State}
use Rattle.ash_image.specs.declared.version.Version.{Version}
use Rattle.ash_image.specs.Snapshots.{Loaded, Snapshot}
use Rattle.ash_image.specs.Image.{FitsVersion}
use Rattle.ash_image.specs.Rules.{KeepsRules}
use Rattle.ash_image.specs.Leading.{named, name_there, elements_known, by_name}
use Rattle.ash_image.specs.Leading.{objects_named, IsOrdered}
use Rattle.ash_image.proofs.OneState.{named_ordered, one_named}
use Rattle.ash_states.specs.HostStates.{HostState}
use Rattle.ash_states.specs.Images.{name_at, element_named, plain_named, entry_named, loaded_modules_of}
use Rattle.ash_states.specs.Images.{state_of, kinds_in, IsDepicted}
use Rattle.ash_states.specs.Indexes.{stored_modules_of}

-- ---- objects, their modules by name

name_same : (ms : List Loaded) (i : ℕ) → name_there ms i ≡ name_at (loaded_modules_of ms) i
name_same [] zero = refl
name_same [] (suc i) = refl
name_same (m ∷ ms) zero = refl
name_same (m ∷ ms) (suc i) = name_same ms i

element_same : (ms : List Loaded) (of : Elements ℕ)
    → elements_known (name_there ms) of ≡ element_named (name_at (loaded_modules_of ms)) of
element_same ms Bools = refl
element_same ms Ints = refl
element_same ms Uints = refl
element_same ms Int64s = refl
element_same ms Uint64s = refl
element_same ms (Handles owner place) = ap (λ (name : List ℕ). Handles name place) (name_same ms owner)
element_same ms (Hosts kind) = refl

plain_same : (ms : List Loaded) (o : Plain ℕ) → by_name ms o ≡ plain_named (name_at (loaded_modules_of ms)) o
plain_same ms (Script owner place fields) =
    ap (λ (name : List ℕ). Script name place fields) (name_same ms owner)
plain_same ms (Array of elements) =
    ap (λ (e : Elements (List ℕ)). Array e elements) (element_same ms of)
plain_same ms (Host kind state) = refl

objects_same : (ms : List Loaded) (os : LiveObjects ℕ)
    → objects_named ms os ≡ map (entry_named (name_at (loaded_modules_of ms))) os
objects_same ms [] = refl
objects_same ms (e ∷ os) =
    ap (λ (o : Plain (List ℕ)). (e.0, o) ∷ objects_named ms os) (plain_same ms e.1)
    ∙ ap (λ (more : LiveObjects (List ℕ)). (e.0, plain_named (name_at (loaded_modules_of ms)) e.1) ∷ more)
    (objects_same ms os)

-- ---- modules and services

modules_back : (ms : List Loaded) → stored_modules_of (loaded_modules_of ms) ≡ ms
modules_back [] = refl
modules_back (m ∷ ms) = ap (λ (more : List Loaded). m ∷ more) (modules_back ms)

head_is : {A : Type 0} (x y : A) (xs ys : List A) → x ∷ xs ≡ y ∷ ys → x ≡ y
head_is x y xs ys same = cc

tail_is : {A : Type 0} (x y : A) (xs ys : List A) → x ∷ xs ≡ y ∷ ys → xs ≡ ys
tail_is x y xs ys same = cc

not_empty : {A : Type 0} (x : A) (xs : List A) → x ∷ xs ≡ [] → ⊥
not_empty x xs same = absurd cc

abbrev states_in : List (ℕ × List ℕ) → List (List ℕ)
states_in services = map (λ (s : ℕ × List ℕ). s.1) services

services_same : (a b : List (ℕ × List ℕ)) → kinds_in a ≡ kinds_in b → states_in a ≡ states_in b → a ≡ b
services_same [] [] kinds states = refl
services_same [] (y ∷ b) kinds states = absurd (not_empty y.0 (kinds_in b) (sym kinds))
services_same (x ∷ a) [] kinds states = absurd (not_empty x.0 (kinds_in a) kinds)
services_same (x ∷ a) (y ∷ b) kinds states =
    let kind = head_is x.0 y.0 (kinds_in a) (kinds_in b) kinds in
    let state = head_is x.1 y.1 (states_in a) (states_in b) states in
    let rest = services_same a b (tail_is x.0 y.0 (kinds_in a) (kinds_in b) kinds)
    (tail_is x.1 y.1 (states_in a) (states_in b) states) in
    ap (λ (k : ℕ). (k, x.1) ∷ a) kind ∙ ap (λ (v : List ℕ). (y.0, v) ∷ a) state
    ∙ ap (λ (more : List (ℕ × List ℕ)). y ∷ more) rest

-- ---- states

-- snapshots of one state are one by names
pub names_of_one : (s t : Snapshot) (state : HostState) → IsDepicted s state → IsDepicted t state → named s ≡ named t
names_of_one s t state one other =
    let same : state_of s ≡ state_of t = one.state_is ∙ sym other.state_is in
    let services : s.services ≡ t.services =
    services_same s.services t.services (one.services_are ∙ sym other.services_are)
    (ap (λ (x : State). x.services) same) in
    let modules : s.modules ≡ t.modules =
    sym (modules_back s.modules) ∙ ap (λ (x : State). stored_modules_of x.modules) same
    ∙ modules_back t.modules in
    let objects : objects_named s.modules s.objects ≡ objects_named t.modules t.objects =
    objects_same s.modules s.objects ∙ ap (λ (x : State). x.objects) same
    ∙ sym (objects_same t.modules t.objects) in
    one_named (named s) (named t) (one.text_is ∙ sym other.text_is) (ap (λ (x : State). x.seq) same)
    (ap (λ (x : State). x.last) same) services modules objects

-- what has an image is in order by names
pub in_order : (version : Version) (s : Snapshot) → FitsVersion version s → KeepsRules s → IsOrdered (named s)
in_order version s fits keeps = named_ordered s fits.modules.order keeps.whole.numbered.in_order
