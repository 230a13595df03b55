-- Names of modules, and their order, as images spell them and as states do.
use Rattle.std.proofs.Common.{◌≡◌, ℕ, true, ◌&&◌, List, [], ◌∷◌, refl, sym, ap, ◌∙◌}
use Rattle.std.specs.List.{AllByRecursion}
use Rattle.std.specs.declared.cmp.Ordering.{Ordering}
use Rattle.std.specs.declared.cmp.Ordering.TheVariants.{Less, Equal, Greater}
use Rattle.std.specs.Ordering.{is_lt}
use Rattle.std.specs.Cmp.{IsTotalOrder}
use Rattle.std.specs.Cmp.Lexicographic.{nat_list_cmp_total}
use Rattle.ash_host.proofs.Membership.{and_both}
use Rattle.ash_requests.specs.States.{LoadedModule, compare_names}
use Rattle.ash_requests.specs.Tasks as tasks
use Rattle.ash_soundness.specs.WellFormedStates.{ComeAfter, Ascend, HasValidName}
use Rattle.ash_plain_steps.specs.Consistency as code
use Rattle.ash_image.specs.Snapshots.{Loaded}
use Rattle.ash_image.specs.Image.{is_module_name, are_ascending, names_of, FitsModule}
use Rattle.ash_states.specs.Images.{loaded_modules_of}
use Rattle.ash_states.specs.Indexes.{stored_modules_of}

-- which names there are

pub one_name : (name : List ℕ) → is_module_name name ≡ tasks.is_module_name name
one_name [] = refl
one_name (code ∷ more) = refl

pub valid_names : (ms : List Loaded) → AllByRecursion FitsModule ms → AllByRecursion HasValidName (loaded_modules_of ms)
valid_names [] h = tt
valid_names (m ∷ ms) h = (sym (one_name m.name) ∙ (h.0).name_fits, valid_names ms h.1)

-- their order

total : IsTotalOrder compare_names
total = nat_list_cmp_total

less_is : (o : Ordering) → is_lt o ≡ true → o ≡ Less
less_is Less e = refl
less_is Equal e = absurd (cc)
less_is Greater e = absurd (cc)

after_both : (a b : List ℕ) (ms : List LoadedModule) → compare_names a b ≡ Less → ComeAfter b ms → ComeAfter a ms
after_both a b [] e h = tt
after_both a b (m ∷ ms) e h = (total.trans a b m.name e h.0, after_both a b ms e h.1)

-- names of which each comes before the next are of modules that ascend
pub ascend_of : (ms : List Loaded) → are_ascending (names_of ms) ≡ true → Ascend (loaded_modules_of ms)
ascend_of [] e = tt
ascend_of (m ∷ []) e = (tt, tt)
ascend_of (m ∷ next ∷ ms) e =
    let parts = and_both (is_lt (compare_names m.name next.name)) (are_ascending (names_of (next ∷ ms))) e in
    let first : compare_names m.name next.name ≡ Less = less_is (compare_names m.name next.name) parts.0 in
    let rest : Ascend (loaded_modules_of (next ∷ ms)) = ascend_of (next ∷ ms) parts.1 in
    ((first, after_both m.name next.name (loaded_modules_of ms) first rest.0), rest)

-- and the other way round
pub ascending_of : (ms : List LoadedModule) → Ascend ms → are_ascending (names_of (stored_modules_of ms)) ≡ true
ascending_of [] h = refl
ascending_of (m ∷ []) h = refl
ascending_of (m ∷ next ∷ ms) h = ap (λ (o : Ordering). is_lt o && are_ascending (names_of (stored_modules_of (next ∷ ms)))) (h.0).0 ∙ ascending_of (next ∷ ms) h.1

-- what ascends for the definitions ascends for the code
pub code_ascend : (ms : List LoadedModule) → Ascend ms → code.ModulesAscend ms
code_ascend [] h = tt
code_ascend (m ∷ ms) h = (h.0, code_ascend ms h.1)

-- a list of modules is what it is when it was stored and read

pub stored_same : (ms : List LoadedModule) → loaded_modules_of (stored_modules_of ms) ≡ ms
stored_same [] = refl
stored_same (m ∷ ms) = ap (λ (rest : List LoadedModule). m ∷ rest) (stored_same ms)
