-- What ascending modules keep where one of them is changed, removed or inserted.
use Rattle.std.proofs.Common.{◌≡◌, ℕ, Bool, true, false, cond, not, List, [], ◌∷◌, Some, None, refl}
use Rattle.std.proofs.Common.{sym, ◌∙◌, ap}
use Rattle.std.specs.List.{AllByRecursion, find}
use Rattle.std.specs.declared.cmp.Ordering.{Ordering}
use Rattle.std.specs.declared.cmp.Ordering.TheVariants.{Less, Equal, Greater}
use Rattle.std.specs.Ordering.{is_lt, is_eq, ordering_reverse}
use Rattle.std.specs.Cmp.{IsTotalOrder}
use Rattle.std.specs.Cmp.Lexicographic.{nat_list_cmp_total}
use Rattle.std.proofs.lemmas.Map.Text.{is_eq-slice_cmp}
use Rattle.std.proofs.lemmas.Slice.Eq.{bytes_eq-Decides}
use Rattle.ash_host.specs.declared.word.Word.{Word}
use Rattle.ash_requests.specs.States.{LoadedModule, compare_names, has_name, with_module, without_module, update_globals}
use Rattle.ash_plain_steps.specs.Consistency.{ModulesComeAfter, ModulesAscend}

-- names

total : IsTotalOrder compare_names
total = nat_list_cmp_total

before_trans : (a b c : List ℕ) → compare_names a b ≡ Less → compare_names b c ≡ Less → compare_names a c ≡ Less
before_trans a b c p q = total.trans a b c p q

less_is : (o : Ordering) → is_lt o ≡ true → o ≡ Less
less_is Less e = refl
less_is Equal e = absurd (cc)
less_is Greater e = absurd (cc)

-- a module whose name comes after a name does not have it
pub later_differs : (name : List ℕ) (loaded : LoadedModule) → compare_names name loaded.name ≡ Less
    → has_name name loaded ≡ false
later_differs name loaded e =
    let turned : compare_names loaded.name name ≡ Greater = total.antisymm loaded.name name ∙ ap ordering_reverse e in
    sym (is_eq-slice_cmp loaded.name name) ∙ ap is_eq turned

pub same_name : (name : List ℕ) (loaded : LoadedModule) → has_name name loaded ≡ true → loaded.name ≡ name
same_name name loaded e = (bytes_eq-Decides loaded.name name).0 e

-- a name that no module before it has or comes after comes after the module's own
otherwise_after : (name : List ℕ) (loaded : LoadedModule) → is_lt (compare_names name loaded.name) ≡ false
    → has_name name loaded ≡ false → compare_names loaded.name name ≡ Less
otherwise_after name loaded later differs = by (compare_names loaded.name name) refl
  where
    by : (o : Ordering) → compare_names loaded.name name ≡ o → compare_names loaded.name name ≡ Less
    by Less e = e
    by Equal e =
        let own : has_name name loaded ≡ true = sym (is_eq-slice_cmp loaded.name name) ∙ ap is_eq e in
        absurd (cc)
    by Greater e =
        let turned : compare_names name loaded.name ≡ Less = total.antisymm name loaded.name ∙ ap ordering_reverse e in
        let yes : is_lt (compare_names name loaded.name) ≡ true = ap is_lt turned in
        absurd (cc)

-- ascending modules

after_both : (a b : List ℕ) (ms : List LoadedModule) → compare_names a b ≡ Less
    → ModulesComeAfter b ms → ModulesComeAfter a ms
after_both a b [] e h = tt
after_both a b (loaded ∷ more) e h = (before_trans a b loaded.name e h.0, after_both a b more e h.1)

-- a module is inserted

all_with : (P : LoadedModule → Type 0) (new : LoadedModule) (ms : List LoadedModule) → P new
    → AllByRecursion P ms → AllByRecursion P (with_module new ms)
all_with P new [] p h = (p, tt)
all_with P new (loaded ∷ more) p h =
    elim (is_lt (compare_names new.name loaded.name))
    as (λ b. AllByRecursion P (cond b (new ∷ loaded ∷ more) (loaded ∷ with_module new more))) [
      | true ↦ (p, h)
      | false ↦ (h.0, all_with P new more p h.1)
    ]

absent_from : (name : List ℕ) (loaded : LoadedModule) (more : List LoadedModule)
    → find (has_name name) (loaded ∷ more) ≡ None → (has_name name loaded ≡ false)
    × (find (has_name name) more ≡ None)
absent_from name loaded more e = by (has_name name loaded) refl e
  where
    by : (b : Bool) → has_name name loaded ≡ b → cond b (Some loaded) (find (has_name name) more) ≡ None
        → (has_name name loaded ≡ false) × (find (has_name name) more ≡ None)
    by true is none = absurd (cc)
    by false is none = (is, none)

ascend_with_at : (b : Bool) (new loaded : LoadedModule) (more : List LoadedModule)
    → is_lt (compare_names new.name loaded.name) ≡ b → has_name new.name loaded ≡ false → ModulesAscend (loaded ∷ more)
    → ModulesAscend (with_module new more) → ModulesAscend (cond b (new ∷ loaded ∷ more) (loaded ∷ with_module new more))
ascend_with_at true new loaded more is differs h rest =
    let first : compare_names new.name loaded.name ≡ Less = less_is (compare_names new.name loaded.name) is in
    ((first, after_both new.name loaded.name more first h.0), h)
ascend_with_at false new loaded more is differs h rest =
    let later : compare_names loaded.name new.name ≡ Less = otherwise_after new.name loaded is differs in
    (all_with (λ (s : LoadedModule). compare_names loaded.name s.name ≡ Less) new more later h.0, rest)

-- the modules with one more ascend, where none has its name
pub ascend_with : (new : LoadedModule) (ms : List LoadedModule) → ModulesAscend ms
    → find (has_name new.name) ms ≡ None → ModulesAscend (with_module new ms)
ascend_with new [] h absent = (tt, tt)
ascend_with new (loaded ∷ more) h absent =
    let parts = absent_from new.name loaded more absent in
    ascend_with_at (is_lt (compare_names new.name loaded.name)) new loaded more refl parts.0 h
    (ascend_with new more h.1 parts.1)

-- a module is removed

all_without : (P : LoadedModule → Type 0) (name : List ℕ) (ms : List LoadedModule)
    → AllByRecursion P ms → AllByRecursion P (without_module name ms)
all_without P name [] h = tt
all_without P name (loaded ∷ more) h =
    elim (not (has_name name loaded)) as (λ b. AllByRecursion P
    (cond b (loaded ∷ without_module name more) (without_module name more))) [
      | true ↦ (h.0, all_without P name more h.1)
      | false ↦ all_without P name more h.1
    ]

-- the modules without one ascend
pub ascend_without : (name : List ℕ) (ms : List LoadedModule) → ModulesAscend ms
    → ModulesAscend (without_module name ms)
ascend_without name [] h = tt
ascend_without name (loaded ∷ more) h =
    elim (not (has_name name loaded)) as (λ b. ModulesAscend
    (cond b (loaded ∷ without_module name more) (without_module name more))) [
      | true ↦ (
        all_without (λ (s : LoadedModule). compare_names loaded.name s.name ≡ Less) name more h.0,
        ascend_without name more h.1,
      )
      | false ↦ ascend_without name more h.1
    ]

-- the globals of a module are changed

after_update : (before name : List ℕ) (globals : List Word) (ms : List LoadedModule) → ModulesComeAfter before ms → ModulesComeAfter before (update_globals name globals ms)
after_update before name globals [] h = tt
after_update before name globals (m ∷ more) h =
    (after_one (has_name name m) h.0, after_update before name globals more h.1)
  where
    after_one : (b : Bool) → compare_names before m.name ≡ Less → compare_names before (cond b (let changed : LoadedModule = record m { globals = globals } in changed) m).name ≡ Less
    after_one true e = e
    after_one false e = e

-- the modules with other globals of one ascend
pub ascend_update : (name : List ℕ) (globals : List Word) (ms : List LoadedModule) → ModulesAscend ms → ModulesAscend (update_globals name globals ms)
ascend_update name globals [] h = tt
ascend_update name globals (m ∷ more) h =
    (by (has_name name m) (after_update m.name name globals more h.0), ascend_update name globals more h.1)
  where
    by : (b : Bool) → ModulesComeAfter m.name (update_globals name globals more) → ModulesComeAfter (cond b (let changed : LoadedModule = record m { globals = globals } in changed) m).name (update_globals name globals more)
    by true e = e
    by false e = e
