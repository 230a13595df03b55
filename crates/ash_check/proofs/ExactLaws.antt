-- What the check returns, by the rules of typing and by which classes reach themselves.
use Rattle.std.proofs.Common.{◌≡◌, ◌↔◌, ◌∙◌, ℕ, List, Option, Some, None, Result, Ok, Err, refl, sym, ap}
use Rattle.ash_registrations.specs.Registrations.{Registration}
use Rattle.ash_tree.specs.Tree.{Class, Item}
use Rattle.ash_typed.specs.Modules.{Module}
use Rattle.ash_type_rules.specs.declared.fault.Fault.{Fault}
use Rattle.ash_type_rules.specs.TypingResult.{TypingResult}
use Rattle.ash_type_rules.specs.ItemRules.{check_module}
use Rattle.ash_type_rules.specs.TypedModules.{IsTyped}
use Rattle.ash_type_rules.proofs.ModuleLaws.{check_module-exact}
use Rattle.ash_class_cycles.specs.ClassReferences.{DeclaredClassRefers, classes_of}
use Rattle.ash_class_cycles.specs.ReportedCycle.{reported_cycle}
use Rattle.ash_class_cycles.specs.Paths.{IsReportedCycle, Reaches}
use Rattle.ash_class_cycles.proofs.CycleSearches.{reported_is, none_is_reported}
use Rattle.ash_check.specs.ScriptFaults.{ScriptFault, Broken, Cyclic}
use Rattle.ash_check.specs.Checks.{names_of_cycle, unless_cycle, checked_by, checked}
use Rattle.ash_check.proofs.CheckLaws.{typed_is_checked, cycle_is_reported}

-- outcomes

same_answer : (x y : Module) → ◌≡◌ {A = Result Module ScriptFault} (Ok x) (Ok y) → x ≡ y
same_answer x y h = cc

same_names : (x y : List (List ℕ)) → ◌≡◌ {A = Result Module ScriptFault} (Err (Cyclic x)) (Err (Cyclic y)) → x ≡ y
same_names x y h = cc

not_accepted : (why : ScriptFault) (x : Module) → ◌≡◌ {A = Result Module ScriptFault} (Err why) (Ok x) → ⊥
not_accepted why x h = cc

not_cyclic : (x : Module) (why : ScriptFault) → ◌≡◌ {A = Result Module ScriptFault} (Ok x) (Err why) → ⊥
not_cyclic x why h = cc

-- what is accepted

unless_accepted : (classes : List Class) (path : Option (ℕ × List ℕ)) (m typed : Module) → unless_cycle classes path m ≡ Ok typed → (path ≡ None) × (m ≡ typed)
unless_accepted classes None m typed h = (refl, same_answer m typed h)
unless_accepted classes (Some path) m typed h = absurd (not_accepted (Cyclic (names_of_cycle classes path)) typed h)

by_accepted : (classes : List Class) (r : TypingResult Module) (typed : Module) → checked_by classes r ≡ Ok typed → (r ≡ Ok typed) × (reported_cycle classes ≡ None)
by_accepted classes (Ok m) typed h = let u = unless_accepted classes (reported_cycle classes) m typed h in (ap Ok u.1, u.0)
by_accepted classes (Err f) typed h = absurd (not_accepted (Broken f) typed h)

typed_accepted : (registrations : List Registration) (items : List Item) (typed : Module) → checked registrations items ≡ Ok typed → (check_module registrations items ≡ Ok typed) × (reported_cycle (classes_of items) ≡ None)
unfolding checked
typed_accepted registrations items typed h = by_accepted (classes_of items) (check_module registrations items) typed h

pub accepted_is : (registrations : List Registration) (items : List Item) (typed : Module) → (checked registrations items ≡ Ok typed) ↔ (IsTyped registrations items typed × ((class : ℕ) → Reaches (DeclaredClassRefers (classes_of items)) class class → ⊥))
accepted_is registrations items typed = (go, back)
  where
    go : checked registrations items ≡ Ok typed → IsTyped registrations items typed × ((class : ℕ) → Reaches (DeclaredClassRefers (classes_of items)) class class → ⊥)
    go h =
        let t = typed_accepted registrations items typed h in
        let is : IsTyped registrations items typed = (check_module-exact registrations items typed).0 t.0 in
        (is, (none_is_reported (classes_of items)).0 t.1)

    back : IsTyped registrations items typed × ((class : ℕ) → Reaches (DeclaredClassRefers (classes_of items)) class class → ⊥) → checked registrations items ≡ Ok typed
    back h = typed_is_checked registrations items typed ((check_module-exact registrations items typed).1 h.0) ((none_is_reported (classes_of items)).1 h.1)

-- what is refused for a cycle

unless_cyclic : (classes : List Class) (path : Option (ℕ × List ℕ)) (m : Module) (names : List (List ℕ)) → unless_cycle classes path m ≡ Err (Cyclic names) → (cycle : ℕ × List ℕ) × (path ≡ Some cycle) × (names ≡ names_of_cycle classes cycle)
unless_cyclic classes None m names h = absurd (not_cyclic m (Cyclic names) h)
unless_cyclic classes (Some path) m names h = (path, refl, sym (same_names (names_of_cycle classes path) names h))

other_fault : (f : Fault) (names : List (List ℕ)) → ◌≡◌ {A = Result Module ScriptFault} (Err (Broken f)) (Err (Cyclic names)) → ⊥
other_fault f names h = cc

by_cyclic : (classes : List Class) (r : TypingResult Module) (names : List (List ℕ)) → checked_by classes r ≡ Err (Cyclic names) → (typed : Module) × (r ≡ Ok typed) × (cycle : ℕ × List ℕ) × (reported_cycle classes ≡ Some cycle) × (names ≡ names_of_cycle classes cycle)
by_cyclic classes (Ok m) names h = let u = unless_cyclic classes (reported_cycle classes) m names h in (m, refl, u.0, u.1, u.2)
by_cyclic classes (Err f) names h = absurd (other_fault f names h)

typed_cyclic : (registrations : List Registration) (items : List Item) (names : List (List ℕ)) → checked registrations items ≡ Err (Cyclic names) → (typed : Module) × (check_module registrations items ≡ Ok typed) × (cycle : ℕ × List ℕ) × (reported_cycle (classes_of items) ≡ Some cycle) × (names ≡ names_of_cycle (classes_of items) cycle)
unfolding checked
typed_cyclic registrations items names h = by_cyclic (classes_of items) (check_module registrations items) names h

-- by the cycle that is returned
pub cycle_is : (registrations : List Registration) (items : List Item) (names : List (List ℕ)) → (checked registrations items ≡ Err (Cyclic names)) ↔ ((typed : Module) × (first : ℕ) × (others : List ℕ) × IsTyped registrations items typed × IsReportedCycle (DeclaredClassRefers (classes_of items)) first others × (names ≡ names_of_cycle (classes_of items) (first, others)))
cycle_is registrations items names = (go, back)
  where
    go : checked registrations items ≡ Err (Cyclic names) → (typed : Module) × (first : ℕ) × (others : List ℕ) × IsTyped registrations items typed × IsReportedCycle (DeclaredClassRefers (classes_of items)) first others × (names ≡ names_of_cycle (classes_of items) (first, others))
    go h =
        let t = typed_cyclic registrations items names h in
        let is : IsTyped registrations items t.0 = (check_module-exact registrations items t.0).0 t.1 in
        (t.0, (t.2).0, (t.2).1, is, (reported_is (classes_of items) (t.2).0 (t.2).1).0 t.3, t.4)

    back : (typed : Module) × (first : ℕ) × (others : List ℕ) × IsTyped registrations items typed × IsReportedCycle (DeclaredClassRefers (classes_of items)) first others × (names ≡ names_of_cycle (classes_of items) (first, others)) → checked registrations items ≡ Err (Cyclic names)
    back h =
        let found : reported_cycle (classes_of items) ≡ Some (h.1, h.2) = (reported_is (classes_of items) h.1 h.2).1 h.4 in
        cycle_is_reported registrations items h.0 h.1 h.2 ((check_module-exact registrations items h.0).1 h.3) found ∙ ap (λ ns. Err (Cyclic ns)) (sym h.5)

some_cycle : (classes : List Class) (path : Option (ℕ × List ℕ)) → reported_cycle classes ≡ path → (class : ℕ) → Reaches (DeclaredClassRefers classes) class class → (cycle : ℕ × List ℕ) × (reported_cycle classes ≡ Some cycle)
some_cycle classes None h class reaches = absurd ((none_is_reported classes).0 h class reaches)
some_cycle classes (Some cycle) h class reaches = (cycle, h)

-- by the rules
pub cyclic_is : (registrations : List Registration) (items : List Item) → ((names : List (List ℕ)) × (checked registrations items ≡ Err (Cyclic names))) ↔ ((typed : Module) × (class : ℕ) × IsTyped registrations items typed × Reaches (DeclaredClassRefers (classes_of items)) class class)
cyclic_is registrations items = (go, back)
  where
    go : (names : List (List ℕ)) × (checked registrations items ≡ Err (Cyclic names)) → (typed : Module) × (class : ℕ) × IsTyped registrations items typed × Reaches (DeclaredClassRefers (classes_of items)) class class
    go h = let k = (cycle_is registrations items h.0).0 h.1 in (k.0, k.1, k.3, (k.2, (k.4).cycle.path))

    back : (typed : Module) × (class : ℕ) × IsTyped registrations items typed × Reaches (DeclaredClassRefers (classes_of items)) class class → (names : List (List ℕ)) × (checked registrations items ≡ Err (Cyclic names))
    back h =
        let classes = classes_of items in
        let r = some_cycle classes (reported_cycle classes) refl h.1 h.3 in
        let foremost : IsReportedCycle (DeclaredClassRefers classes) (r.0).0 (r.0).1 = (reported_is classes (r.0).0 (r.0).1).0 r.1 in
        (names_of_cycle classes r.0, (cycle_is registrations items (names_of_cycle classes r.0)).1 (h.0, (r.0).0, (r.0).1, h.2, foremost, refl))

-- what is refused for a rule that is broken

same_fault : (x y : Fault) → ◌≡◌ {A = Result Module ScriptFault} (Err (Broken x)) (Err (Broken y)) → x ≡ y
same_fault x y h = cc

other_cycle : (names : List (List ℕ)) (f : Fault) → ◌≡◌ {A = Result Module ScriptFault} (Err (Cyclic names)) (Err (Broken f)) → ⊥
other_cycle names f h = cc

unless_broken : (classes : List Class) (path : Option (ℕ × List ℕ)) (m : Module) (f : Fault) → unless_cycle classes path m ≡ Err (Broken f) → ⊥
unless_broken classes None m f h = not_cyclic m (Broken f) h
unless_broken classes (Some path) m f h = other_cycle (names_of_cycle classes path) f h

by_broken : (classes : List Class) (r : TypingResult Module) (f : Fault) → checked_by classes r ≡ Err (Broken f) → r ≡ Err f
by_broken classes (Ok m) f h = absurd (unless_broken classes (reported_cycle classes) m f h)
by_broken classes (Err other) f h = ap Err (same_fault other f h)

pub broken_is : (registrations : List Registration) (items : List Item) (fault : Fault) → (checked registrations items ≡ Err (Broken fault)) ↔ (check_module registrations items ≡ Err fault)
unfolding checked
broken_is registrations items fault = (by_broken (classes_of items) (check_module registrations items) fault, λ h. ap (checked_by (classes_of items)) h)
