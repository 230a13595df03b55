-- What checking reports, from what its parts report; and the names of a cycle's classes.
use Rattle.std.proofs.Common.{◌≡◌, ℕ, zero, suc, ◌+◌, ◌<◌, List, [], ◌∷◌, ◌++◌, length, map, drop, get_or, slice_get}
use Rattle.std.proofs.Common.{Some, None, Result, Ok, Err, IsErrAnd, MatchResult, String, Global, string_bytes}
use Rattle.std.proofs.Common.{sym, ap, ap₂, ◌∙◌, subst, arith, append_assoc}
use Rattle.std.proofs.Common.{add-one, drop-cons}
use Rattle.std.proofs.lemmas.Option.{slice_get_within, get_or_from_slice_get}
use Rattle.std.proofs.lemmas.List.{map-append}
use Rattle.std.specs.Option.{option_map_or}
use Rattle.std.specs.List.{Contains}
use Rattle.ash_registrations.specs.Registrations.{Registration}
use Rattle.ash_tree.specs.Tree.{Class, Item}
use Rattle.ash_typed.specs.Modules.{Module}
use Rattle.ash_type_rules.specs.ItemRules.{check_module}
use Rattle.ash_check_names.specs.declared.error.CheckError.{CheckError}
use Rattle.ash_check_names.specs.declared.error.CheckError.TheVariants as errors
use Rattle.ash_check_names.specs.Agreement.{FailsWith}
use Rattle.ash_class_cycles.specs.Paths.{IsPath}
use Rattle.ash_class_cycles.specs.ClassReferences.{DeclaredClassRefers, classes_of}
use Rattle.ash_class_cycles.specs.ReportedCycle.{reported_cycle}
use Rattle.ash_check.specs.declared.faults.ScriptError.{ScriptError}
use Rattle.ash_check.specs.ScriptFaults.{ScriptFault, Cyclic, script_error}
use Rattle.ash_check.specs.Checks.{name_at, names_of_cycle, unless_cycle, checked_by, checked}
use Rattle.ash_check.specs.Checks.{ReportsFault, HoldsNamed, LeadsTo, IsNamedCycle}

-- faults

-- a fault of the walk is what is reported
pub error_is_reported : (registrations : List Registration) (items : List Item) (error : CheckError) → FailsWith error (check_module registrations items) → ReportsFault (checked registrations items) (script_error error)
unfolding checked
error_is_reported registrations items (errors.Fault f) fails = ap (checked_by (classes_of items)) fails
error_is_reported registrations items errors.NoMemory fails = tt

-- and so what is returned
pub reported_if_err : {T : Type 0} (r : Result T ScriptError) (why : ScriptError) (answer : Result Module ScriptFault) (P : T → Type 0) → IsErrAnd r (λ error. error ≡ why) → ReportsFault answer why → MatchResult r P (ReportsFault answer)
reported_if_err (Ok done) why answer P is reports = absurd is
reported_if_err (Err error) why answer P is reports = subst (ReportsFault answer) (sym is) reports

-- where no rule is broken and no class reaches itself, the typed module
pub typed_is_checked : (registrations : List Registration) (items : List Item) (typed : Module) → check_module registrations items ≡ Ok typed → reported_cycle (classes_of items) ≡ None → checked registrations items ≡ Ok typed
unfolding checked
typed_is_checked registrations items typed fine none = ap (checked_by (classes_of items)) fine ∙ ap (λ path. unless_cycle (classes_of items) path typed) none

-- else the cycle that is reported
pub cycle_is_reported : (registrations : List Registration) (items : List Item) (typed : Module) (first : ℕ) (others : List ℕ) → check_module registrations items ≡ Ok typed → reported_cycle (classes_of items) ≡ Some (first, others) → checked registrations items ≡ Err (Cyclic (names_of_cycle (classes_of items) (first, others)))
unfolding checked
cycle_is_reported registrations items typed first others fine some = ap (checked_by (classes_of items)) fine ∙ ap (λ path. unless_cycle (classes_of items) path typed) some

-- places of classes

-- what refers, and what is referred to, is a class

pub path_begins_within : (classes : List Class) (from : ℕ) (between : List ℕ) (to : ℕ) → IsPath (DeclaredClassRefers classes) from between to → from < length classes
path_begins_within classes from [] to path = slice_get_within classes from path.2.0 path.2.1
path_begins_within classes from (next ∷ between) to path = slice_get_within classes from path.0.2.0 path.0.2.1

pub path_is_within : (classes : List Class) (from : ℕ) (between : List ℕ) (to : ℕ) → IsPath (DeclaredClassRefers classes) from between to → (k d : ℕ) → k < length between → get_or between k d < length classes
path_is_within classes from [] to path k d past = absurd (omega arith)
path_is_within classes from (next ∷ between) to path zero d here = slice_get_within classes next path.0.0 path.0.1
path_is_within classes from (next ∷ between) to path (suc k) d after = path_is_within classes next between to path.1 k d (omega (arith, after))

-- names

pub name_is : (classes : List Class) (place : ℕ) (class : Class) → slice_get classes place ≡ Some class → name_at classes place ≡ class.name
name_is classes place class at = ap (λ found. option_map_or (λ (c : Class). c.name) found []) at

-- one more name after those so far
pub one_more_name : (classes : List Class) (names : List (String Global)) (name : String Global) (places : List ℕ) (i d : ℕ) → i < length places → string_bytes name ≡ name_at classes (get_or places i d) → map string_bytes (names ++ name ∷ []) ++ map (name_at classes) (drop (i + 1) places) ≡ map string_bytes names ++ map (name_at classes) (drop i places)
one_more_name classes names name places i d within is =
    let begins : drop i places ≡ get_or places i d ∷ drop (suc i) places = drop-cons places i d within in
    ap₂ (λ (xs ys : List (List ℕ)). xs ++ ys) (map-append string_bytes names (name ∷ [])) (ap (λ (n : ℕ). map (name_at classes) (drop n places)) (add-one i))
    ∙ append_assoc (map string_bytes names) (string_bytes name ∷ []) (map (name_at classes) (drop (suc i) places))
    ∙ ap (λ (n : List ℕ). map string_bytes names ++ n ∷ map (name_at classes) (drop (suc i) places)) is
    ∙ sym (ap (λ (ns : List ℕ). map string_bytes names ++ map (name_at classes) ns) begins)

-- a path that a reader can follow

is_among : (classes : List Class) (place : ℕ) (class : Class) → slice_get classes place ≡ Some class → Contains classes class
is_among classes place class at = (place, slice_get_within classes place class at, get_or_from_slice_get classes place class class at)

holds_named : (classes : List Class) (from to : ℕ) → DeclaredClassRefers classes from to → HoldsNamed classes (name_at classes from) (name_at classes to)
holds_named classes from to refers =
    let other = refers.0 in
    let one = refers.2.0 in
    (one, other, is_among classes from one refers.2.1, sym (name_is classes from one refers.2.1), is_among classes to other refers.1, sym (name_is classes to other refers.1), refers.2.2)

leads_to : (classes : List Class) (from : ℕ) (between : List ℕ) (to : ℕ) → IsPath (DeclaredClassRefers classes) from between to → LeadsTo classes (name_at classes from) (map (name_at classes) between) (name_at classes to)
leads_to classes from [] to path = holds_named classes from to path
leads_to classes from (next ∷ between) to path = (holds_named classes from next path.0, leads_to classes next between to path.1)

pub named_cycle : (classes : List Class) (first : ℕ) (others : List ℕ) → IsPath (DeclaredClassRefers classes) first others first → IsNamedCycle classes (names_of_cycle classes (first, others))
named_cycle classes first others path = leads_to classes first others first path
