-- A delta leads from a state to one state at most.
use Rattle.std.proofs.Common.{◌≡◌, ℕ, zero, suc, ◌<◌, Bool, true, false, List, [], ◌∷◌, length, map, refl, sym, ap, ◌∙◌}
use Rattle.std.proofs.Common.{subst, cond, Some, None, Less, Equal, Greater, arith}
use Rattle.std.specs.Option.{option_or}
use Rattle.std.specs.List.{AllByRecursion}
use Rattle.std.specs.List.Sorted.{IsStrictlyIncreasing}
use Rattle.std.specs.Ordering.{is_lt, is_eq, ordering_reverse}
use Rattle.std.specs.declared.cmp.Ordering.{Ordering}
use Rattle.std.proofs.lemmas.Cmp.{nat_list_cmp_total, tied_itself}
use Rattle.std.proofs.lemmas.Map.Lookups.{exact_bytes}
use Rattle.ash_host.specs.Objects.{Elements, Bools, Ints, Uints, Int64s, Uint64s, Handles, Hosts, Plain, Script, Array, Host}
use Rattle.ash_host.specs.Objects.{LiveObjects, numbers, IsInOrder}
use Rattle.ash_host.proofs.Order.{same_in_order}
use Rattle.ash_image.specs.declared.version.Version.{Version}
use Rattle.ash_image.specs.Snapshots.{Loaded, Snapshot}
use Rattle.ash_image.specs.Image.{compare_names, are_ascending, names_of}
use Rattle.ash_image.specs.Rules.{IsPlaced}
use Rattle.ash_image.specs.Delta.{Delta, IsDelta}
use Rattle.ash_image.specs.Leading.{is_name_of, module_named, name_there, elements_known, plain_known, by_name}
use Rattle.ash_image.specs.Leading.{object_by_name, kept, NamedSnapshot, objects_named, named, Leads, LeadsTo}
use Rattle.ash_image.specs.Leading.{index_among, index_of_name, objects_indexed}
use Rattle.ash_image.specs.Leading.{IsOrdered, KnownByNames, IsDeltaBetween}
use Rattle.ash_image.proofs.DeltaLaws.{one_delta}
use Rattle.ash_image.proofs.ModuleLaws.{one_name}
use Rattle.ash_image.proofs.NameLaws.{both}

-- ---- services

-- pairs are one if their parts are
one_service : (a b : ℕ × List ℕ) → a.0 ≡ b.0 → a.1 ≡ b.1 → a ≡ b
one_service a b p q = ap (λ (k : ℕ). (k, a.1)) p ∙ ap (λ (v : List ℕ). (b.0, v)) q

head_is : {A : Type 0} (x y : A) (xs ys : List A) → x ∷ xs ≡ y ∷ ys → x ≡ y
head_is x y xs ys same = cc

tail_is : {A : Type 0} (x y : A) (xs ys : List A) → x ∷ xs ≡ y ∷ ys → xs ≡ ys
tail_is x y xs ys same = cc

one_list : {A : Type 0} (x y : A) (xs ys : List A) → x ≡ y → xs ≡ ys → x ∷ xs ≡ y ∷ ys
one_list x y xs ys head tail = cc

not_empty : {A : Type 0} (x : A) (xs : List A) → x ∷ xs ≡ [] → ⊥
not_empty x xs same = absurd cc

abbrev kinds_in : List (ℕ × List ℕ) → List ℕ
kinds_in services = map (λ (s : ℕ × List ℕ). s.0) services

abbrev states_in : List (ℕ × List ℕ) → List (List ℕ)
states_in services = map (λ (s : ℕ × List ℕ). s.1) services

services_same : (a b : List (ℕ × List ℕ)) → kinds_in a ≡ kinds_in b → states_in a ≡ states_in b → a ≡ b
services_same [] [] kinds states = refl
services_same [] (y ∷ b) kinds states = absurd (not_empty y.0 (kinds_in b) (sym kinds))
services_same (x ∷ a) [] kinds states = absurd (not_empty x.0 (kinds_in a) kinds)
services_same (x ∷ a) (y ∷ b) kinds states =
    one_list x y a b
    (one_service x y (head_is x.0 y.0 (kinds_in a) (kinds_in b) kinds)
    (head_is x.1 y.1 (states_in a) (states_in b) states))
    (services_same a b (tail_is x.0 y.0 (kinds_in a) (kinds_in b) kinds)
    (tail_is x.1 y.1 (states_in a) (states_in b) states))

-- ---- modules

pub is_less : (o : Ordering) → is_lt o ≡ true → o ≡ Less
is_less Less h = refl
is_less Equal h = absurd cc
is_less Greater h = absurd cc

pub ascending_after : (name : List ℕ) (names : List (List ℕ)) → are_ascending (name ∷ names) ≡ true
    → are_ascending names ≡ true
ascending_after name [] h = refl
ascending_after name (next ∷ more) h = (both (is_lt (compare_names name next)) (are_ascending (next ∷ more)) h).1

all_later : (low high : List ℕ) (names : List (List ℕ)) → compare_names low high ≡ Less
    → AllByRecursion (λ n. compare_names high n ≡ Less) names → AllByRecursion (λ n. compare_names low n ≡ Less) names
all_later low high [] below all = tt
all_later low high (name ∷ names) below all = (
  nat_list_cmp_total.trans low high name below all.0,
  all_later low high names below all.1,
)

-- names that ascend one by one are below all later ones
pub below_later : (name : List ℕ) (names : List (List ℕ)) → are_ascending (name ∷ names) ≡ true
    → AllByRecursion (λ n. compare_names name n ≡ Less) names
below_later name [] h = tt
below_later name (next ∷ more) h =
    let p = both (is_lt (compare_names name next)) (are_ascending (next ∷ more)) h in
    let first = is_less (compare_names name next) p.0 in
    (first, all_later name next more first (below_later next more p.1))

some_none : {A : Type 0} (x : A) → Some x ≡ None → ⊥
some_none x same = absurd cc

some_one : {A : Type 0} (x y : A) → Some x ≡ Some y → x ≡ y
some_one x y same = cc

none_there : (name : List ℕ) → module_named name [] ≡ None
unfolding module_named
none_there name = refl

module_here : (m : Loaded) (ms : List Loaded) → module_named m.name (m ∷ ms) ≡ Some m
unfolding module_named
module_here m ms =
    ap (λ (o : Ordering). cond (is_eq o) (Some m) (module_named m.name ms)) (tied_itself nat_list_cmp_total m.name)

module_later : (name : List ℕ) (m : Loaded) (ms : List Loaded) → is_name_of name m ≡ false
    → module_named name (m ∷ ms) ≡ module_named name ms
unfolding module_named
module_later name m ms other = ap (λ (b : Bool). cond b (Some m) (module_named name ms)) other

-- no module has a name that is below all of theirs
none_later : (name : List ℕ) (ms : List Loaded)
    → AllByRecursion (λ n. compare_names name n ≡ Less) (names_of ms) → module_named name ms ≡ None
unfolding module_named
none_later name [] all = refl
none_later name (m ∷ ms) all =
    ap (λ (o : Ordering). cond (is_eq o) (Some m) (module_named name ms)) all.0 ∙ none_later name ms all.1

-- the first name of one list is not below the first of another that has the same modules
not_below : (x y : Loaded) (a b : List Loaded) → compare_names x.name y.name ≡ Less
    → are_ascending (names_of (y ∷ b)) ≡ true → module_named x.name (x ∷ a) ≡ module_named x.name (y ∷ b) → ⊥
not_below x y a b below up same =
    let later = all_later x.name y.name (names_of b) below (below_later y.name (names_of b) up) in
    some_none x (sym (module_here x a) ∙ same ∙ none_later x.name (y ∷ b) (below, later))

first_same : (x y : Loaded) (a b : List Loaded) → compare_names x.name y.name ≡ Equal
    → module_named x.name (x ∷ a) ≡ module_named x.name (y ∷ b) → x ≡ y
first_same x y a b equal same =
    let name : x.name ≡ y.name = exact_bytes x.name y.name equal in
    let there = ap (λ (n : List ℕ). module_named n (y ∷ b)) name ∙ module_here y b in
    some_one x y (sym (module_here x a) ∙ same ∙ there)

-- after the first module, which is one, each name has the same
rest_same : (x y : Loaded) (a b : List Loaded) → x ≡ y → are_ascending (names_of (x ∷ a)) ≡ true
    → are_ascending (names_of (y ∷ b)) ≡ true
    → ((name : List ℕ) → module_named name (x ∷ a) ≡ module_named name (y ∷ b)) → (name : List ℕ)
    → module_named name a ≡ module_named name b
rest_same x y a b one up_a up_b same name =
    go (is_name_of name x) refl
  where
    none_in : (m : Loaded) (ms : List Loaded) → name ≡ m.name → are_ascending (names_of (m ∷ ms)) ≡ true
        → module_named name ms ≡ None
    none_in m ms is up =
        ap (λ (n : List ℕ). module_named n ms) is ∙ none_later m.name ms (below_later m.name (names_of ms) up)

    go : (t : Bool) → is_name_of name x ≡ t → module_named name a ≡ module_named name b
    go true is =
        let name_is = one_name name x.name is in
        none_in x a name_is up_a ∙ sym (none_in y b (name_is ∙ ap (λ (m : Loaded). m.name) one) up_b)
    go false is =
        sym (module_later name x a is) ∙ same name
        ∙ module_later name y b (subst (λ (m : Loaded). is_name_of name m ≡ false) one is)

-- modules by ascending name are one list if they are the same at each name
pub modules_same : (a b : List Loaded) → are_ascending (names_of a) ≡ true → are_ascending (names_of b) ≡ true
    → ((name : List ℕ) → module_named name a ≡ module_named name b) → a ≡ b
modules_same [] [] up_a up_b same = refl
modules_same [] (y ∷ b) up_a up_b same =
    absurd (some_none y (sym (module_here y b) ∙ sym (same y.name) ∙ none_there y.name))
modules_same (x ∷ a) [] up_a up_b same =
    absurd (some_none x (sym (module_here x a) ∙ same x.name ∙ none_there x.name))
modules_same (x ∷ a) (y ∷ b) up_a up_b same =
    go (compare_names x.name y.name) refl
    (λ rest. modules_same a b (ascending_after x.name (names_of a) up_a) (ascending_after y.name (names_of b) up_b) rest)
  where
    go : (o : Ordering) → compare_names x.name y.name ≡ o
        → (((name : List ℕ) → module_named name a ≡ module_named name b) → a ≡ b) → x ∷ a ≡ y ∷ b
    go Less is later = absurd (not_below x y a b is up_b (same x.name))
    go Equal is later =
        let one = first_same x y a b is (same x.name) in
        one_list x y a b one (later (rest_same x y a b one up_a up_b same))
    go Greater is later =
        let below : compare_names y.name x.name ≡ Less =
        nat_list_cmp_total.antisymm y.name x.name ∙ ap ordering_reverse is in
        absurd (not_below y x b a below up_a (sym (same y.name)))

-- ---- objects

name_later : (low : List ℕ) (ms : List Loaded) (i : ℕ) → AllByRecursion (λ n. compare_names low n ≡ Less) (names_of ms)
    → i < length ms → compare_names low (name_there ms i) ≡ Less
name_later low [] i all within = absurd (omega arith)
name_later low (m ∷ ms) zero all within = all.0
name_later low (m ∷ ms) (suc i) all within = name_later low ms i all.1 (omega arith)

not_equal : (low high : List ℕ) → compare_names low high ≡ Less → is_eq (compare_names high low) ≡ false
not_equal low high below = rw (nat_list_cmp_total.antisymm high low, below) refl

pub index_is : (ms : List Loaded) (i : ℕ) → are_ascending (names_of ms) ≡ true → i < length ms
    → index_of_name ms (name_there ms i) ≡ i
unfolding index_among
index_is [] i up within = absurd (omega arith)
index_is (m ∷ ms) zero up within = rw (tied_itself nat_list_cmp_total m.name) refl
index_is (m ∷ ms) (suc i) up within =
    let later = name_later m.name ms i (below_later m.name (names_of ms) up) (omega arith) in
    rw (not_equal m.name (name_there ms i) later)
    (ap suc (index_is ms i (ascending_after m.name (names_of ms) up) (omega arith)))

element_back : (ms : List Loaded) (of : Elements ℕ) (words : List _) → are_ascending (names_of ms) ≡ true
    → IsPlaced (length ms) (Array of words)
    → elements_known (index_of_name ms) (elements_known (name_there ms) of) ≡ of
element_back ms Bools words up placed = refl
element_back ms Ints words up placed = refl
element_back ms Uints words up placed = refl
element_back ms Int64s words up placed = refl
element_back ms Uint64s words up placed = refl
element_back ms (Handles owner place) words up placed = ap (λ (i : ℕ). Handles i place) (index_is ms owner up placed)
element_back ms (Hosts kind) words up placed = refl

-- an object is known again by the name of its module
plain_back : (ms : List Loaded) (o : Plain ℕ) → are_ascending (names_of ms) ≡ true → IsPlaced (length ms) o
    → plain_known (index_of_name ms) (by_name ms o) ≡ o
plain_back ms (Script owner place fields) up placed =
    ap (λ (i : ℕ). Script i place fields) (index_is ms owner up placed)
plain_back ms (Array of elements) up placed =
    ap (λ (e : Elements ℕ). Array e elements) (element_back ms of elements up placed)
plain_back ms (Host kind state) up placed = refl

-- objects are known again by the names of their modules
pub objects_back : (ms : List Loaded) (objects : LiveObjects ℕ) → are_ascending (names_of ms) ≡ true
    → AllByRecursion (λ (e : ℕ × Plain ℕ). IsPlaced (length ms) e.1) objects
    → objects_indexed ms (objects_named ms objects) ≡ objects
objects_back ms [] up placed = refl
objects_back ms (e ∷ objects) up placed =
    let head = plain_back ms e.1 up placed.0 in
    let tail = objects_back ms objects up placed.1 in
    rw (head, tail) refl

-- ---- states

pub one_named : (s t : NamedSnapshot) → s.registered ≡ t.registered → s.seq ≡ t.seq → s.last ≡ t.last
    → s.services ≡ t.services → s.modules ≡ t.modules → s.objects ≡ t.objects → s ≡ t
one_named s t registered seq last services modules objects =
    λ i. record {
      registered = registered i;
      seq = seq i;
      last = last i;
      services = services i;
      modules = modules i;
      objects = objects i;
    }

-- ordered states, to which a delta leads from one state, are one
pub one_led : (d : Delta) (before s t : NamedSnapshot) → Leads d before s → Leads d before t → IsOrdered s
    → IsOrdered t → s ≡ t
one_led d before s t one other ordered_s ordered_t =
    let modules : s.modules ≡ t.modules =
    modules_same s.modules t.modules ordered_s.modules ordered_t.modules
    (λ name. one.modules.modules name ∙ sym (other.modules.modules name)) in
    let services : s.services ≡ t.services =
    services_same s.services t.services (one.services.kinds ∙ sym other.services.kinds)
    (one.services.states ∙ sym other.services.states) in
    let objects : s.objects ≡ t.objects =
    same_in_order s.objects t.objects ordered_s.objects ordered_t.objects
    (λ n. one.objects n
    ∙ ap (λ (ms : List Loaded). option_or (object_by_name ms d.put n) (kept d.gone before.objects n)) modules
    ∙ sym (other.objects n)) in
    one_named s t (one.registered ∙ sym other.registered) (one.seq ∙ sym other.seq) (one.last ∙ sym other.last)
    services modules objects

pub one_snapshot : (s t : Snapshot) → s.registered ≡ t.registered → s.seq ≡ t.seq → s.last ≡ t.last
    → s.services ≡ t.services → s.modules ≡ t.modules → s.objects ≡ t.objects → s ≡ t
one_snapshot s t registered seq last services modules objects =
    λ i. record {
      registered = registered i;
      seq = seq i;
      last = last i;
      services = services i;
      modules = modules i;
      objects = objects i;
    }

numbers_stay : (ms : List Loaded) (objects : LiveObjects ℕ) → numbers (objects_named ms objects) ≡ numbers objects
numbers_stay ms [] = refl
numbers_stay ms (e ∷ objects) = ap (λ (more : List ℕ). e.0 ∷ more) (numbers_stay ms objects)

named_order : (ms : List Loaded) (objects : LiveObjects ℕ) → IsInOrder objects → IsInOrder (objects_named ms objects)
named_order ms objects order = subst (λ (ns : List ℕ). IsStrictlyIncreasing ns) (sym (numbers_stay ms objects)) order

-- a snapshot is known again by its names
one_from_names : (s t : Snapshot) → named s ≡ named t → are_ascending (names_of s.modules) ≡ true
    → AllByRecursion (λ (e : ℕ × Plain ℕ). IsPlaced (length s.modules) e.1) s.objects
    → AllByRecursion (λ (e : ℕ × Plain ℕ). IsPlaced (length t.modules) e.1) t.objects → s ≡ t
one_from_names s t same up placed_s placed_t =
    let modules : s.modules ≡ t.modules = ap (λ (x : NamedSnapshot). x.modules) same in
    let placed = subst (λ (ms : List Loaded). AllByRecursion (λ (e : ℕ × Plain ℕ). IsPlaced (length ms) e.1) t.objects)
    (sym modules) placed_t in
    let again : objects_named s.modules s.objects ≡ objects_named s.modules t.objects =
    ap (λ (x : NamedSnapshot). x.objects) same
    ∙ ap (λ (ms : List Loaded). objects_named ms t.objects) (sym modules) in
    let objects : s.objects ≡ t.objects =
    sym (objects_back s.modules s.objects up placed_s)
    ∙ ap (objects_indexed s.modules) again
    ∙ objects_back s.modules t.objects up placed in
    one_snapshot s t (ap (λ (x : NamedSnapshot). x.registered) same) (ap (λ (x : NamedSnapshot). x.seq) same)
    (ap (λ (x : NamedSnapshot). x.last) same) (ap (λ (x : NamedSnapshot). x.services) same) modules objects

-- a state in order is in order with names
pub named_ordered : (s : Snapshot) → are_ascending (names_of s.modules) ≡ true → IsInOrder s.objects
    → IsOrdered (named s)
named_ordered s up order = record { modules = up; objects = named_order s.modules s.objects order }

pub known_by_names : KnownByNames
known_by_names s t up keeps_s keeps_t same = one_from_names s t same up keeps_s.whole.placed keeps_t.whole.placed

pub one_state : (version : Version) (d : Delta) (before s t : Snapshot) → LeadsTo version d before s
    → LeadsTo version d before t → s ≡ t
one_state version d before s t to_s to_t =
    let up_s = to_s.1.modules.order in
    let ordered_s = named_ordered s up_s to_s.2.whole.numbered.in_order in
    let ordered_t = named_ordered t to_t.1.modules.order to_t.2.whole.numbered.in_order in
    let same : named s ≡ named t = one_led d (named before) (named s) (named t) to_s.0 to_t.0 ordered_s ordered_t in
    one_from_names s t same up_s to_s.2.whole.placed to_t.2.whole.placed

same_bytes : (body a b : List ℕ) → body ≡ 2 ∷ a → body ≡ 2 ∷ b → a ≡ b
same_bytes body a b p q = cc

-- a body leads from a state to one state at most
pub one_after : (body : List ℕ) (version : Version) (before s t : Snapshot) → IsDeltaBetween body version before s
    → IsDeltaBetween body version before t → s ≡ t
one_after body version before s t to_s to_t =
    let bytes : to_s.0 ≡ to_t.0 = same_bytes body to_s.0 to_t.0 to_s.2 to_t.2 in
    let again = subst (λ (b : List ℕ). IsDelta b version to_t.1) (sym bytes) to_t.3 in
    let delta : to_s.1 ≡ to_t.1 = one_delta to_s.0 version to_s.1 to_t.1 to_s.3 again in
    one_state version to_s.1 before s t to_s.4
    (subst (λ (d : Delta). LeadsTo version d before t) (sym delta) to_t.4)
