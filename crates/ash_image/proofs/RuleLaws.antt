-- The tests of the rules say what the rules say.
use Rattle.std.proofs.Common.{◌≡◌, ℕ, ◌<◌, ◌≤◌, ◌&&◌, Bool, true, false, ltb, leb, List, [], ◌∷◌, length, refl, sym, ap, subst, ◌∙◌}
use Rattle.std.proofs.Common.{inl, inr, nat_eq, arith}
use Rattle.std.specs.Prelude.{Option, None, Some, IsSome, ◌↔◌}
use Rattle.std.specs.Bool.{IsTrue}
use Rattle.std.specs.List.{flat_map, list_all, AllByRecursion}
use Rattle.std.specs.Option.{option_map_or}
use Rattle.std.proofs.lemmas.Bool.{ltb-true, leb-true, lt-ltb, le-leb, eqb-true, eq-eqb}
use Rattle.std.proofs.lemmas.List.Elements.{filter_map-append}
use Rattle.std.proofs.lemmas.List.Folds.{list_all-append}
use Rattle.ash_host.specs.Objects.{Bools, Ints, Uints, Int64s, Uint64s, Handles, Hosts, Plain, Script, Array, Host}
use Rattle.ash_host.specs.Objects.{LiveObjects, object_at, numbers, handle, handles, fields_of, references, Lives, IsInOrder}
use Rattle.ash_host.specs.Reach.{is_among}
use Rattle.ash_host.proofs.Membership.{or_cases, or_first, or_second, and_both, both_and, is_among_yes, is_among_says}
use Rattle.ash_host.proofs.Membership.{is_among-numbers}
use Rattle.ash_host.proofs.Order.{object_here, object_later, none_after, in_order_after}
use Rattle.ash_image.specs.Snapshots.{Loaded, Snapshot}
use Rattle.ash_image.proofs.FieldLaws.{some_is}
use Rattle.ash_image.specs.Rules.{KeepsRules, AreReached}
use Rattle.ash_image.specs.Rules.{held_by, IsPlaced, IsWholeSnapshot, is_given, is_placed, are_elements, module_lives}
use Rattle.ash_image.specs.Rules.{object_lives, is_linked, is_whole}

-- ---- lists

-- each member passes a test that all pass
pub passes_at : (p : ℕ → Bool) (ns : List ℕ) (n : ℕ) → list_all p ns ≡ true → is_among ns n ≡ true → p n ≡ true
passes_at p [] n all among = absurd cc
passes_at p (m ∷ ns) n all among =
    let both = and_both (p m) (list_all p ns) all in
    elim (or_cases (nat_eq n m) (is_among ns n) among) [
      | inl here ↦ subst (λ (k : ℕ). p k ≡ true) (sym (eqb-true n m here)) both.0
      | inr later ↦ passes_at p ns n both.1 later
    ]

pub all_pass : (p : ℕ → Bool) (ns : List ℕ) → ((n : ℕ) → is_among ns n ≡ true → p n ≡ true) → list_all p ns ≡ true
all_pass p [] each = refl
all_pass p (m ∷ ns) each =
    both_and (p m) (list_all p ns) (each m (or_first (nat_eq m m) (is_among ns m) (eq-eqb m m refl)))
    (all_pass p ns (λ n among. each n (or_second (nat_eq n m) (is_among ns n) among)))

pub alive_is : (objects : LiveObjects ℕ) (n : ℕ) → is_among (numbers objects) n ≡ true → Lives objects n
alive_is objects n among = sym (is_among-numbers n objects) ∙ among

pub is_alive : (objects : LiveObjects ℕ) (n : ℕ) → Lives objects n → is_among (numbers objects) n ≡ true
is_alive objects n lives = is_among-numbers n objects ∙ lives

-- ---- numbers

given_at : (last : ℕ) (objects : LiveObjects ℕ) (n : ℕ) → list_all (is_given last) objects ≡ true
    → is_among (numbers objects) n ≡ true → (0 < n) × (n ≤ last)
given_at last [] n all among = absurd cc
given_at last (e ∷ objects) n all among =
    let both = and_both (is_given last e) (list_all (is_given last) objects) all in
    elim (or_cases (nat_eq n e.0) (is_among (numbers objects) n) among) [
      | inl here ↦ (
          let given = and_both (ltb 0 e.0) (leb e.0 last) both.0 in
          let same : n ≡ e.0 = eqb-true n e.0 here in
          let above : 0 < e.0 = ltb-true 0 e.0 given.0 in
          let most : e.0 ≤ last = leb-true e.0 last given.1 in
          (omega arith, omega arith)
          )
      | inr later ↦ given_at last objects n both.1 later
    ]

all_given : (last : ℕ) (objects : LiveObjects ℕ)
    → ((n : ℕ) → is_among (numbers objects) n ≡ true → (0 < n) × (n ≤ last))
    → list_all (is_given last) objects ≡ true
all_given last [] each = refl
all_given last (e ∷ objects) each =
    let here = each e.0 (or_first (nat_eq e.0 e.0) (is_among (numbers objects) e.0) (eq-eqb e.0 e.0 refl)) in
    both_and (is_given last e) (list_all (is_given last) objects)
    (both_and (ltb 0 e.0) (leb e.0 last) (lt-ltb 0 e.0 here.0) (le-leb e.0 last here.1))
    (all_given last objects (λ n among. each n (or_second (nat_eq n e.0) (is_among (numbers objects) n) among)))

-- ---- modules of objects

placed_says : (count : ℕ) (object : Plain ℕ) → is_placed count object ≡ true → IsPlaced count object
placed_says count (Script owner class fields) e = ltb-true owner count e
placed_says count (Array Bools elements) e = tt
placed_says count (Array Ints elements) e = tt
placed_says count (Array Uints elements) e = tt
placed_says count (Array Int64s elements) e = tt
placed_says count (Array Uint64s elements) e = tt
placed_says count (Array (Handles owner class) elements) e = ltb-true owner count e
placed_says count (Array (Hosts kind) elements) e = tt
placed_says count (Host kind state) e = tt

placed_yes : (count : ℕ) (object : Plain ℕ) → IsPlaced count object → is_placed count object ≡ true
placed_yes count (Script owner class fields) h = lt-ltb owner count h
placed_yes count (Array Bools elements) h = refl
placed_yes count (Array Ints elements) h = refl
placed_yes count (Array Uints elements) h = refl
placed_yes count (Array Int64s elements) h = refl
placed_yes count (Array Uint64s elements) h = refl
placed_yes count (Array (Handles owner class) elements) h = lt-ltb owner count h
placed_yes count (Array (Hosts kind) elements) h = refl
placed_yes count (Host kind state) h = refl

all_placed_say : (count : ℕ) (objects : LiveObjects ℕ) → list_all (λ (e : ℕ × Plain ℕ). is_placed count e.1) objects ≡ true
    → AllByRecursion (λ (e : ℕ × Plain ℕ). IsPlaced count e.1) objects
all_placed_say count [] all = tt
all_placed_say count (e ∷ objects) all =
    let both = and_both (is_placed count e.1) (list_all (λ (o : ℕ × Plain ℕ). is_placed count o.1) objects) all in
    (placed_says count e.1 both.0, all_placed_say count objects both.1)

all_placed : (count : ℕ) (objects : LiveObjects ℕ) → AllByRecursion (λ (e : ℕ × Plain ℕ). IsPlaced count e.1) objects
    → list_all (λ (e : ℕ × Plain ℕ). is_placed count e.1) objects ≡ true
all_placed count [] all = refl
all_placed count (e ∷ objects) all =
    both_and (is_placed count e.1) (list_all (λ (o : ℕ × Plain ℕ). is_placed count o.1) objects)
    (placed_yes count e.1 all.0) (all_placed count objects all.1)

-- ---- elements of arrays

each_true : {A : Type 0} (p : A → Bool) (xs : List A) → list_all p xs ≡ true → AllByRecursion (λ (x : A). IsTrue (p x)) xs
each_true p [] all = tt
each_true p (x ∷ xs) all = let both = and_both (p x) (list_all p xs) all in (both.0, each_true p xs both.1)

all_true : {A : Type 0} (p : A → Bool) (xs : List A) → AllByRecursion (λ (x : A). IsTrue (p x)) xs → list_all p xs ≡ true
all_true p [] each = refl
all_true p (x ∷ xs) each = both_and (p x) (list_all p xs) each.0 (all_true p xs each.1)

-- ---- handles of globals

globals_live : (alive : List ℕ) (modules : List Loaded)
    → list_all (is_among alive) (held_by modules) ≡ list_all (module_lives alive) modules
globals_live alive [] = refl
globals_live alive (m ∷ modules) =
    ap (list_all (is_among alive)) (filter_map-append handle m.globals (flat_map (λ (l : Loaded). l.globals) modules))
    ∙ list_all-append (is_among alive) (handles m.globals) (held_by modules)
    ∙ ap (λ (b : Bool). list_all (is_among alive) (handles m.globals) && b) (globals_live alive modules)

-- ---- handles of objects

-- what an object refers to, where all live
refers_step : (alive : List ℕ) (e : ℕ × Plain ℕ) (objects : LiveObjects ℕ) (one other : ℕ) (b : Bool) → nat_eq one e.0 ≡ b
    → object_lives alive e ≡ true → is_among (references (e ∷ objects) one) other ≡ true
    → (is_among (references objects one) other ≡ true → is_among alive other ≡ true)
    → is_among alive other ≡ true
refers_step alive e objects one other true is lives among later =
    let here : object_at one (e ∷ objects) ≡ Some e.1 =
    subst (λ (n : ℕ). object_at n (e ∷ objects) ≡ Some e.1) (sym (eqb-true one e.0 is)) (object_here e objects) in
    passes_at (is_among alive) (handles (fields_of e.1)) other lives
    (sym (ap (λ (o : Option (Plain ℕ)). is_among (option_map_or (λ object. handles (fields_of object)) o []) other) here)
    ∙ among)
refers_step alive e objects one other false is lives among later =
    later (sym (ap (λ (o : Option (Plain ℕ)). is_among (option_map_or (λ object. handles (fields_of object)) o []) other)
    (object_later one e objects is)) ∙ among)

refers_at : (alive : List ℕ) (objects : LiveObjects ℕ) (one other : ℕ) → list_all (object_lives alive) objects ≡ true
    → is_among (references objects one) other ≡ true → is_among alive other ≡ true
refers_at alive [] one other all among = absurd cc
refers_at alive (e ∷ objects) one other all among =
    let both = and_both (object_lives alive e) (list_all (object_lives alive) objects) all in
    refers_step alive e objects one other (nat_eq one e.0) refl both.0 among
    (λ later. refers_at alive objects one other both.1 later)

-- whether what lives, if anything does, refers to a number
abbrev refers_in : Option (Plain ℕ) → ℕ → Bool
refers_in o other = is_among (option_map_or (λ object. handles (fields_of object)) o []) other

none_refers : (other : ℕ) → refers_in None other ≡ true → ⊥
none_refers other among = absurd cc

-- what refers to a number refers to it with another object before it
refers_later : (e : ℕ × Plain ℕ) (objects : LiveObjects ℕ) (one other : ℕ) → IsInOrder (e ∷ objects) → (o : Option (Plain ℕ))
    → object_at one objects ≡ o → refers_in (object_at one objects) other ≡ true
    → refers_in (object_at one (e ∷ objects)) other ≡ true
refers_later e objects one other order None is among =
    absurd (none_refers other (sym (ap (λ (o : Option (Plain ℕ)). refers_in o other) is) ∙ among))
refers_later e objects one other order (Some object) is among =
    let apart = none_after e objects one order (subst (λ (o : Option (Plain ℕ)). IsSome o) (sym is) refl) in
    ap (λ (o : Option (Plain ℕ)). refers_in o other) (object_later one e objects apart) ∙ among

-- where each that is referred to lives, all do
all_live_where : (alive : List ℕ) (objects : LiveObjects ℕ) → IsInOrder objects
    → ((one other : ℕ) → is_among (references objects one) other ≡ true → is_among alive other ≡ true)
    → list_all (object_lives alive) objects ≡ true
all_live_where alive [] order each = refl
all_live_where alive (e ∷ objects) order each =
    both_and (object_lives alive e) (list_all (object_lives alive) objects)
    (all_pass (is_among alive) (handles (fields_of e.1)) (λ other among. each e.0 other
    (ap (λ (o : Option (Plain ℕ)). refers_in o other) (object_here e objects) ∙ among)))
    (all_live_where alive objects (in_order_after e objects order) (λ one other among.
    each one other (refers_later e objects one other order (object_at one objects) refl among)))

-- ---- the rules

pub rules_say : (s : Snapshot) → IsInOrder s.objects → is_whole s ≡ true → IsWholeSnapshot s
rules_say s order e =
    let typed = and_both (list_all (λ (o : ℕ × Plain ℕ). are_elements o.1) s.objects) (is_linked s) e in
    let given = and_both (list_all (is_given s.last) s.objects) _ typed.1 in
    let placed = and_both (list_all (λ (o : ℕ × Plain ℕ). is_placed (length s.modules) o.1) s.objects) _ given.1 in
    let live = and_both (list_all (module_lives (numbers s.objects)) s.modules) _ placed.1 in
    record {
      numbered = record {
        in_order = order;
        given = λ n lives. given_at s.last s.objects n given.0 (is_alive s.objects n lives);
      };
      placed = all_placed_say (length s.modules) s.objects placed.0;
      typed = each_true (λ (o : ℕ × Plain ℕ). are_elements o.1) s.objects typed.0;
      none_dangle = record {
        held = λ n held. alive_is s.objects n
            (passes_at (is_among (numbers s.objects)) (held_by s.modules) n
            (globals_live (numbers s.objects) s.modules ∙ live.0) (is_among_yes n (held_by s.modules) held));
        fields = λ one other refers. alive_is s.objects other
            (refers_at (numbers s.objects) s.objects one other live.1
            (is_among_yes other (references s.objects one) refers));
      };
    }

pub rules_kept : (s : Snapshot) → IsWholeSnapshot s → is_whole s ≡ true
rules_kept s h =
    both_and (list_all (λ (o : ℕ × Plain ℕ). are_elements o.1) s.objects) (is_linked s)
    (all_true (λ (o : ℕ × Plain ℕ). are_elements o.1) s.objects h.typed)
    (both_and (list_all (is_given s.last) s.objects) _
    (all_given s.last s.objects (λ n among. h.numbered.given n (alive_is s.objects n among)))
    (both_and (list_all (λ (o : ℕ × Plain ℕ). is_placed (length s.modules) o.1) s.objects) _
    (all_placed (length s.modules) s.objects h.placed)
    (both_and (list_all (module_lives (numbers s.objects)) s.modules) _
    (sym (globals_live (numbers s.objects) s.modules) ∙ all_pass (is_among (numbers s.objects)) (held_by s.modules)
    (λ n among. is_alive s.objects n (h.none_dangle.held n (is_among_says n (held_by s.modules) among))))
    (all_live_where (numbers s.objects) s.objects h.numbered.in_order (λ one other among.
    is_alive s.objects other (h.none_dangle.fields one other (is_among_says other (references s.objects one) among)))))))

never : (b : Bool) → b ≡ false → b ≡ true → ⊥
never b breaks holds = absurd cc

-- a state that breaks the rules is not the one that keeps them
pub only_kept : {V : Type 0} (x y : V × Snapshot) (b : Bool) → Some x ≡ Some y → KeepsRules y.1
    → (KeepsRules x.1 → b ≡ true) → b ≡ false → ⊥
only_kept {V} x y b same keeps says breaks =
    never b breaks (says (subst (λ (z : V × Snapshot). KeepsRules z.1) (sym (some_is x y same)) keeps))

pub broken_whole : (s : Snapshot) → is_whole s ≡ false → (false ≡ true) ↔ KeepsRules s
broken_whole s breaks = (λ wrong. absurd cc, λ keeps. absurd (never (is_whole s) breaks (rules_kept s keeps.whole)))

pub with_reached : (s : Snapshot) (b : Bool) → IsWholeSnapshot s → ((b ≡ true) ↔ AreReached s) → (b ≡ true) ↔ KeepsRules s
with_reached s b whole h = (λ holds. record { whole = whole; reached = h.0 holds }, λ keeps. h.1 keeps.reached)
