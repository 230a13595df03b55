-- Modules by ascending name, where one is found, changed, taken away or inserted.
use Rattle.std.proofs.Common.{◌≡◌, ℕ, suc, zero, Bool, true, false, cond, List, [], ◌∷◌, map, filter, find, Some, None, Option, refl, sym, ◌∙◌, ap, subst, if◌then◌else◌, arith}
use Rattle.std.specs.Prelude.{Contains}
use Rattle.std.specs.declared.cmp.Ordering.{Ordering}
use Rattle.std.specs.declared.cmp.Ordering.TheVariants.{Less, Equal, Greater}
use Rattle.std.specs.Ordering.{is_lt, is_eq, ordering_reverse}
use Rattle.std.specs.Cmp.{IsTotalOrder}
use Rattle.std.specs.Cmp.Lexicographic.{nat_list_cmp_total}
use Rattle.std.proofs.lemmas.Map.Text.{is_eq-slice_cmp}
use Rattle.ash_requests.specs.States.{LoadedModule, compare_names, has_name, with_module}
use Rattle.ash_soundness.proofs.Values.{none_in}
use Rattle.ash_soundness.specs.WellFormedStates.{ComeAfter, Ascend}
use Rattle.ash_soundness.proofs.Named.{rec_with, rec_of, name_yes}

total : IsTotalOrder compare_names
total = nat_list_cmp_total

less_is : (o : Ordering) → is_lt o ≡ true → o ≡ Less
less_is Less e = refl
less_is Equal e = absurd (cc)
less_is Greater e = absurd (cc)

-- a module whose name comes before a name does not have it
earlier_differs : (m x : LoadedModule) → compare_names m.name x.name ≡ Less → has_name x.name m ≡ false
earlier_differs m x e = sym (is_eq-slice_cmp m.name x.name) ∙ ap is_eq e

-- a name that a module neither has nor comes after comes after the module's own
otherwise_after : (name : List ℕ) (m : LoadedModule) → is_lt (compare_names name m.name) ≡ false → has_name name m ≡ false → compare_names m.name name ≡ Less
otherwise_after name m later differs = by (compare_names m.name name) refl
  where
    by : (o : Ordering) → compare_names m.name name ≡ o → compare_names m.name name ≡ Less
    by Less e = e
    by Equal e = let own : has_name name m ≡ true = sym (is_eq-slice_cmp m.name name) ∙ ap is_eq e in absurd (cc)
    by Greater e =
        let turned : compare_names name m.name ≡ Less = total.antisymm name m.name ∙ ap ordering_reverse e in
        let yes : is_lt (compare_names name m.name) ≡ true = ap is_lt turned in
        absurd (cc)

after_both : (a b : List ℕ) (ms : List LoadedModule) → compare_names a b ≡ Less → ComeAfter b ms → ComeAfter a ms
after_both a b [] e h = tt
after_both a b (m ∷ ms) e h = (total.trans a b m.name e h.0, after_both a b ms e h.1)

-- each module is the one of its name

head_found : (m x : LoadedModule) (ms : List LoadedModule) → m ≡ x → find (has_name x.name) (m ∷ ms) ≡ Some x
head_found m x ms e = subst (λ (y : LoadedModule). find (has_name y.name) (m ∷ ms) ≡ Some y) e (ap (λ (b : Bool). cond b (Some m) (find (has_name m.name) ms)) (name_yes m.name m refl))

pub found_by_name : (ms : List LoadedModule) → Ascend ms → (x : LoadedModule) → Contains ms x → find (has_name x.name) ms ≡ Some x
found_by_name [] h x i = absurd (none_in x i)
found_by_name (m ∷ ms) h x (zero, l, e) = head_found m x ms e
found_by_name (m ∷ ms) h x (suc k, l, e) =
    let later : Contains ms x = (k, omega arith, e) in
    ap (λ (b : Bool). cond b (Some m) (find (has_name x.name) ms)) (earlier_differs m x (rec_of (λ (y : LoadedModule). compare_names m.name y.name ≡ Less) ms h.0 x later)) ∙ found_by_name ms h.1 x later

-- changed

after_map : (f : LoadedModule → LoadedModule) → ((m : LoadedModule) → (f m).name ≡ m.name) → (one other : List ℕ) (ms : List LoadedModule) → one ≡ other → ComeAfter other ms → ComeAfter one (map f ms)
after_map f same one other [] e h = tt
after_map f same one other (m ∷ ms) e h = (ap (λ (n : List ℕ). compare_names n (f m).name) e ∙ ap (compare_names other) (same m) ∙ h.0, after_map f same one other ms e h.1)

pub ascend_map : (f : LoadedModule → LoadedModule) → ((m : LoadedModule) → (f m).name ≡ m.name) → (ms : List LoadedModule) → Ascend ms → Ascend (map f ms)
ascend_map f same [] h = tt
ascend_map f same (m ∷ ms) h = (after_map f same (f m).name m.name ms (same m) h.0, ascend_map f same ms h.1)

-- taken away

after_filter : (q : LoadedModule → Bool) (name : List ℕ) (ms : List LoadedModule) → ComeAfter name ms → ComeAfter name (filter q ms)
after_filter q name [] h = tt
after_filter q name (m ∷ ms) h = elim (q m) as (λ b. ComeAfter name (cond b (m ∷ filter q ms) (filter q ms))) [ true ↦ (h.0, after_filter q name ms h.1) | false ↦ after_filter q name ms h.1 ]

pub ascend_filter : (q : LoadedModule → Bool) (ms : List LoadedModule) → Ascend ms → Ascend (filter q ms)
ascend_filter q [] h = tt
ascend_filter q (m ∷ ms) h = elim (q m) as (λ b. Ascend (cond b (m ∷ filter q ms) (filter q ms))) [ true ↦ (after_filter q m.name ms h.0, ascend_filter q ms h.1) | false ↦ ascend_filter q ms h.1 ]

-- inserted

absent_at : (name : List ℕ) (m : LoadedModule) (b : Bool) (o : Option LoadedModule) → has_name name m ≡ b → cond b (Some m) o ≡ None → (has_name name m ≡ false) × (o ≡ None)
absent_at name m true o is none = absurd (cc)
absent_at name m false o is none = (is, none)

ascend_with_at : (b : Bool) (new m : LoadedModule) (ms : List LoadedModule) → is_lt (compare_names new.name m.name) ≡ b → has_name new.name m ≡ false → Ascend (m ∷ ms) → Ascend (with_module new ms) → Ascend (if b then new ∷ m ∷ ms else m ∷ with_module new ms)
ascend_with_at true new m ms is differs h rest =
    let first : compare_names new.name m.name ≡ Less = less_is (compare_names new.name m.name) is in
    ((first, after_both new.name m.name ms first h.0), h)
ascend_with_at false new m ms is differs h rest =
    let later : compare_names m.name new.name ≡ Less = otherwise_after new.name m is differs in
    (rec_with (λ (x : LoadedModule). compare_names m.name x.name ≡ Less) new ms later (rec_of (λ (x : LoadedModule). compare_names m.name x.name ≡ Less) ms h.0), rest)

pub ascend_with : (new : LoadedModule) (ms : List LoadedModule) → Ascend ms → find (has_name new.name) ms ≡ None → Ascend (with_module new ms)
ascend_with new [] h absent = (tt, tt)
ascend_with new (m ∷ ms) h absent =
    let parts = absent_at new.name m (has_name new.name m) (find (has_name new.name) ms) refl absent in
    ascend_with_at (is_lt (compare_names new.name m.name)) new m ms refl parts.0 h (ascend_with new ms h.1 parts.1)
