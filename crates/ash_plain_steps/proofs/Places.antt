-- What finding, changing, taking away and inserting a module by its name are, by its place.
use Rattle.std.proofs.Common.{◌≡◌, ℕ, zero, suc, ◌+◌, ◌<◌, ◌≤◌, Bool, true, false, cond, not, List, [], ◌∷◌, length}
use Rattle.std.proofs.Common.{get_or, map, Option, Some, None, refl, sym, ◌∙◌, ap, subst, arith, ltb-false, lt-ltb}
use Rattle.std.proofs.Common.{nat_lt, unwrap_or, inl, inr}
use Rattle.std.proofs.Math.ListN.{set, get_or-map}
use Rattle.std.proofs.lemmas.List.{map-set, length-map}
use Rattle.std.specs.List.{AllByRecursion, find, insert, remove, position, position_or_len}
use Rattle.std.specs.Ordering.{is_lt, is_eq}
use Rattle.std.specs.declared.cmp.Ordering.TheVariants.{Less}
use Rattle.std.proofs.lemmas.Bool.{cases_lt}
use Rattle.std.proofs.lemmas.List.Quantifiers.{position-Some}
use Rattle.std.proofs.lemmas.List.Sums.{prefix_len-le-length}
use Rattle.std.proofs.lemmas.Map.Text.{is_eq-slice_cmp}
use Rattle.ash_host.specs.declared.word.Word.{Word}
use Rattle.ash_requests.specs.States.{LoadedModule, compare_names, has_name, with_module, without_module, update_globals}
use Rattle.ash_plain_steps.specs.Consistency.{ModulesComeAfter, ModulesAscend}
use Rattle.ash_plain_steps.proofs.Ascending.{later_differs, same_name}

-- what is so of each item

pub all-at : {A : Type 0} (P : A → Type 0) (items : List A) (place : ℕ) (d : A) → place < length items
    → AllByRecursion P items → P (get_or items place d)
all-at P [] place d within h = absurd (omega arith)
all-at P (item ∷ more) zero d within h = h.0
all-at P (item ∷ more) (suc place) d within h = all-at P more place d (omega arith) h.1

pub all-set : {A : Type 0} (P : A → Type 0) (items : List A) (place : ℕ) (new : A) → P new → AllByRecursion P items
    → AllByRecursion P (set items place new)
all-set P [] place new p h = tt
all-set P (item ∷ more) zero new p h = (p, h.1)
all-set P (item ∷ more) (suc place) new p h = (h.0, all-set P more place new p h.1)

pub all-insert : {A : Type 0} (P : A → Type 0) (items : List A) (place : ℕ) (new : A) → P new → AllByRecursion P items
    → AllByRecursion P (insert items place new)
all-insert P items zero new p h = (p, h)
all-insert P [] (suc place) new p h = (p, tt)
all-insert P (item ∷ more) (suc place) new p h = (h.0, all-insert P more place new p h.1)

pub all-remove : {A : Type 0} (P : A → Type 0) (items : List A) (place : ℕ) → AllByRecursion P items
    → AllByRecursion P (remove items place)
all-remove P [] zero h = tt
all-remove P [] (suc place) h = tt
all-remove P (item ∷ more) zero h = h.1
all-remove P (item ∷ more) (suc place) h = (h.0, all-remove P more place h.1)

-- a module is found

first_at : {A : Type 0} (f : A → LoadedModule) (test : LoadedModule → Bool) (items : List A) (place : ℕ) (d : A) →
    place < length items → test (f (get_or items place d)) ≡ true
    → ((k : ℕ) → k < place → test (f (get_or items k d)) ≡ false) →
    find test (map f items) ≡ Some (f (get_or items place d))
first_at f test [] place d within here before = absurd (omega arith)
first_at f test (item ∷ more) zero d within here before =
    ap (λ (b : Bool). cond b (Some (f item)) (find test (map f more))) here
first_at f test (item ∷ more) (suc place) d within here before =
    let not_first : test (f item) ≡ false = before 0 (omega arith) in
    ap (λ (b : Bool). cond b (Some (f item)) (find test (map f more))) not_first
    ∙ first_at f test more place d (omega arith) here (λ k below. before (suc k) (omega arith))

-- what is found at a place
pub found_at : {A : Type 0} (f : A → LoadedModule) (name : List ℕ) (items : List A) (place : ℕ) (d : A) →
    position (λ (item : A). has_name name (f item)) items ≡ Some place
    → find (has_name name) (map f items) ≡ Some (f (get_or items place d))
found_at {A} f name items place d e =
    let at = position-Some (λ (item : A). has_name name (f item)) items place d e in
    first_at f (has_name name) items place d at.0 at.1 at.2

none_past : (here : Bool) (loaded : LoadedModule) (length place : ℕ) (later : Option LoadedModule)
    → suc length ≤ cond (not here) (1 + place) 0 → (length ≤ place → later ≡ None)
    → cond here (Some loaded) later ≡ None
none_past true loaded length place later past rest = absurd (omega arith)
none_past false loaded length place later past rest = rest (omega arith)

none_at : {A : Type 0} (f : A → LoadedModule) (test : LoadedModule → Bool) (items : List A)
    → length items ≤ position_or_len (λ (item : A). test (f item)) items → find test (map f items) ≡ None
none_at f test [] past = refl
none_at {A} f test (item ∷ more) past = none_past (test (f item)) (f item) (length more)
    (position_or_len (λ (i : A). test (f i)) more) (find test (map f more)) past (none_at f test more)

-- what is found nowhere
pub found_nowhere : {A : Type 0} (f : A → LoadedModule) (name : List ℕ) (items : List A) →
    position (λ (item : A). has_name name (f item)) items ≡ None → find (has_name name) (map f items) ≡ None
found_nowhere {A} f name items e = none_at f (has_name name) items
    (by (nat_lt (position_or_len (λ (item : A). has_name name (f item)) items) (length items)) refl e)
  where
    by : (b : Bool) → nat_lt (position_or_len (λ (item : A). has_name name (f item)) items) (length items) ≡ b
        → cond b (Some (position_or_len (λ (item : A). has_name name (f item)) items)) None ≡ None
        → length items ≤ position_or_len (λ (item : A). has_name name (f item)) items
    by true is none = absurd (cc)
    by false is none = ltb-false _ _ is

-- the module of a name, among modules that ascend

-- no other module has the name
earlier_differs : (name : List ℕ) (loaded : LoadedModule) (more : List LoadedModule) (place : ℕ) (d : LoadedModule)
    → ModulesComeAfter loaded.name more → place < length more → has_name name (get_or more place d) ≡ true
    → has_name name loaded ≡ false
earlier_differs name loaded more place d after within here =
    let less : compare_names loaded.name (get_or more place d).name ≡ Less =
    all-at (λ (s : LoadedModule). compare_names loaded.name s.name ≡ Less) more place d within after in
    let own : (get_or more place d).name ≡ name = same_name name (get_or more place d) here in
    let less_here : compare_names loaded.name name ≡ Less = ap (compare_names loaded.name) (sym own) ∙ less in
    sym (is_eq-slice_cmp loaded.name name) ∙ ap is_eq less_here

after_named : (name : List ℕ) (loaded : LoadedModule) (more : List LoadedModule) → has_name name loaded ≡ true
    → ModulesComeAfter loaded.name more → ModulesComeAfter name more
after_named name loaded more here after = subst (λ (n : List ℕ). ModulesComeAfter n more) (same_name name loaded here) after

unchanged_after : (name : List ℕ) (globals : List Word) (ms : List LoadedModule)
    → ModulesComeAfter name ms → update_globals name globals ms ≡ ms
unchanged_after name globals [] after = refl
unchanged_after name globals (loaded ∷ more) after =
    let differs : has_name name loaded ≡ false = later_differs name loaded after.0 in
    let changed : LoadedModule = record loaded { globals = globals } in
    ap (λ (b : Bool). cond b changed loaded ∷ update_globals name globals more) differs
    ∙ ap (λ (ss : List LoadedModule). loaded ∷ ss) (unchanged_after name globals more after.1)

consistent_after : (name : List ℕ) (ms : List LoadedModule) → ModulesComeAfter name ms
    → without_module name ms ≡ ms
consistent_after name [] after = refl
consistent_after name (loaded ∷ more) after =
    let differs : has_name name loaded ≡ false = later_differs name loaded after.0 in
    ap (λ (b : Bool). cond (not b) (loaded ∷ without_module name more) (without_module name more)) differs
    ∙ ap (λ (ss : List LoadedModule). loaded ∷ ss) (consistent_after name more after.1)

-- what a run leaves is stored in the place of what was found
pub update_globals-set : (name : List ℕ) (globals : List Word) (ms : List LoadedModule) (place : ℕ)
    (d : LoadedModule) → ModulesAscend ms → place < length ms
    → has_name name (get_or ms place d) ≡ true →
    update_globals name globals ms ≡ set ms place
    (record (get_or ms place d) { globals = globals })
update_globals-set name globals [] place d up within here = absurd (omega arith)
update_globals-set name globals (loaded ∷ more) zero d up within here =
    let changed : LoadedModule = record loaded { globals = globals } in
    ap (λ (b : Bool). cond b changed loaded ∷ update_globals name globals more) here
    ∙ ap (λ (ss : List LoadedModule). changed ∷ ss)
    (unchanged_after name globals more (after_named name loaded more here up.0))
update_globals-set name globals (loaded ∷ more) (suc place) d up within here =
    let differs : has_name name loaded ≡ false = earlier_differs name loaded more place d up.0 (omega arith) here in
    let changed : LoadedModule = record loaded { globals = globals } in
    ap (λ (b : Bool). cond b changed loaded ∷ update_globals name globals more) differs
    ∙ ap (λ (ss : List LoadedModule). loaded ∷ ss)
    (update_globals-set name globals more place d up.1 (omega arith) here)

-- what is removed is what was found
pub without_module-remove : (name : List ℕ) (ms : List LoadedModule) (place : ℕ) (d : LoadedModule)
    → ModulesAscend ms → place < length ms → has_name name (get_or ms place d) ≡ true →
    without_module name ms ≡ remove ms place
without_module-remove name [] place d up within here = absurd (omega arith)
without_module-remove name (loaded ∷ more) zero d up within here =
    ap (λ (b : Bool). cond (not b) (loaded ∷ without_module name more) (without_module name more)) here
    ∙ consistent_after name more (after_named name loaded more here up.0)
without_module-remove name (loaded ∷ more) (suc place) d up within here =
    let differs : has_name name loaded ≡ false = earlier_differs name loaded more place d up.0 (omega arith) here in
    ap (λ (b : Bool). cond (not b) (loaded ∷ without_module name more) (without_module name more)) differs
    ∙ ap (λ (ss : List LoadedModule). loaded ∷ ss) (without_module-remove name more place d up.1 (omega arith) here)

-- a module is inserted

insert-cons : {A : Type 0} (item new : A) (more : List A) (place : ℕ)
    → insert (item ∷ more) (1 + place) new ≡ item ∷ insert more place new
insert-cons item new more place = let e : 1 + place ≡ suc place = omega arith in rw e refl

pub with_module-insert : {A : Type 0} (f : A → LoadedModule) (items : List A) (new : A) →
    map f (insert items (position_or_len (λ (item : A). is_lt (compare_names (f new).name (f item).name)) items) new)
    ≡ with_module (f new) (map f items)
with_module-insert f [] new = refl
with_module-insert {A} f (item ∷ more) new =
    let test : A → Bool = λ (i : A). is_lt (compare_names (f new).name (f i).name) in
    elim (is_lt (compare_names (f new).name (f item).name))
    as (λ b. map f (insert (item ∷ more) (cond (not b) (1 + position_or_len test more) 0) new)
    ≡ cond b (f new ∷ f item ∷ map f more) (f item ∷ with_module (f new) (map f more))) [
      | true ↦ refl
      | false ↦ ap (map f) (insert-cons item new more (position_or_len test more))
          ∙ ap (λ (ss : List LoadedModule). f item ∷ ss) (with_module-insert f more new)
    ]

-- the same of a list whose items represent modules

pub map-remove : {A B : Type 0} (f : A → B) (items : List A) (place : ℕ)
    → map f (remove items place) ≡ remove (map f items) place
map-remove f [] zero = refl
map-remove f [] (suc place) = refl
map-remove f (item ∷ more) zero = refl
map-remove f (item ∷ more) (suc place) = ap (λ (bs : List _). f item ∷ bs) (map-remove f more place)

-- where a name is found, and what has it there
found_there : {A : Type 0} (f : A → LoadedModule) (name : List ℕ) (items : List A) (place : ℕ) (d : A) →
    position (λ (item : A). has_name name (f item)) items ≡ Some place → (place < length (map f items))
    × (has_name name (get_or (map f items) place (f d)) ≡ true)
found_there {A} f name items place d e =
    let at = position-Some (λ (item : A). has_name name (f item)) items place d e in
    (omega (arith, length-map items f, at.0), ap (has_name name) (get_or-map f items place d) ∙ at.1)

-- the item of a name is stored in its place again with other globals
pub changed_at : {A : Type 0} (f : A → LoadedModule) (name : List ℕ) (globals : List Word) (items : List A) (place : ℕ)
    (new d : A) → ModulesAscend (map f items) →
    position (λ (item : A). has_name name (f item)) items ≡ Some place
    → f new ≡ record (f (get_or items place d)) { globals = globals } →
    map f (set items place new) ≡ update_globals name globals (map f items)
changed_at {A} f name globals items place new d up e changed =
    let there = found_there f name items place d e in
    let same : f new ≡ record (get_or (map f items) place (f d)) { globals = globals } = changed
    ∙ ap (λ (s : LoadedModule). let t : LoadedModule = record s { globals = globals } in t)
    (sym (get_or-map f items place d)) in
    map-set f items place new
    ∙ ap (set (map f items) place) same
    ∙ sym (update_globals-set name globals (map f items) place (f d) up there.0 there.1)

-- the item of a name is removed
pub removed_at : {A : Type 0} (f : A → LoadedModule) (name : List ℕ) (items : List A) (place : ℕ)
    → ModulesAscend (map f items) →
    position (λ (item : A). has_name name (f item)) items ≡ Some place
    → map f (remove items place) ≡ without_module name (map f items)
removed_at f name [] place up e = absurd (cc)
removed_at f name (first ∷ more) place up e =
    let there = found_there f name (first ∷ more) place first e in
    map-remove f (first ∷ more) place
    ∙ sym (without_module-remove name (map f (first ∷ more)) place (f first) up
    there.0 there.1)

-- a place that was found is within
pub found_within : {A : Type 0} (test : A → Bool) (items : List A) (place : ℕ) → position test items ≡ Some place
    → place < length items
found_within test [] place e = absurd (cc)
found_within test (first ∷ more) place e = (position-Some test (first ∷ more) place first e).0

-- the place of the first that passes, or the length
position-or_len : {A : Type 0} (test : A → Bool) (items : List A)
    → unwrap_or (position test items) (length items) ≡ position_or_len test items
position-or_len test items =
    let within : position_or_len test items ≤ length items = prefix_len-le-length _ items in
    elim (cases_lt (position_or_len test items) (length items)) [
      | inl below ↦ ap (λ (b : Bool). unwrap_or (cond b (Some (position_or_len test items)) None) (length items))
          (lt-ltb _ _ below)
      | inr past ↦
          let all : position_or_len test items ≡ length items = omega arith in
          grind arith
    ]

-- an item is inserted at the place of its name
pub inserted_at : {A : Type 0} (f : A → LoadedModule) (items : List A) (new : A) (place : ℕ) →
    place ≡ unwrap_or (position (λ (item : A). is_lt (compare_names (f new).name (f item).name)) items) (length items) →
    map f (insert items place new) ≡ with_module (f new) (map f items)
inserted_at {A} f items new place e =
    ap (λ (n : ℕ). map f (insert items n new))
    (e ∙ position-or_len (λ (item : A). is_lt (compare_names (f new).name (f item).name)) items)
    ∙ with_module-insert f items new
