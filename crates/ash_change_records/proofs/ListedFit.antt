-- What is listed of a state that a host may be in has a spelling, if the names ascend.
use Rattle.std.proofs.Common.{◌≡◌, ◌<◌, ◌≤◌, ◌^◌, ℕ, Bool, true, false, cond, not, List, [], ◌∷◌, length, map, filter, nat_eq, nat_lt, slice_get, refl, sym, ap, ◌∙◌, subst, arith, if◌then◌else◌}
use Rattle.std.specs.Prelude.{Option, Some, None, IsSome, is_some, Ok, Contains, ◌||◌, ◌&&◌}
use Rattle.std.specs.List.{AllByRecursion, IsDistinct, cons_option, list_all}
use Rattle.std.specs.List.Sorted.{IsStrictlyIncreasing, IsStrictlySortedBy}
use Rattle.std.specs.Option.{option_map, option_map_or}
use Rattle.std.specs.Ordering.{nat_cmp}
use Rattle.std.proofs.Common.{Less}
use Rattle.std.proofs.lemmas.Bool.Decides.{nat_tests}
use Rattle.std.proofs.lemmas.Cmp.{nat_eq_equiv}
use Rattle.std.proofs.lemmas.List.{length-map}
use Rattle.std.proofs.lemmas.List.Kept.{IsStrictlyIncreasing-filter}
use Rattle.std.proofs.lemmas.Map.Keys.{sorted_from_strictly_increasing}
use Rattle.std.proofs.lemmas.Map.Steps.{length-le_from_distinct_below, length-le_from_keys}
use Rattle.std.proofs.lemmas.Map.Text.{is_eq-slice_cmp}
use Rattle.std.proofs.lemmas.Option.{same_Some, slice_get_within}
use Rattle.ash_host.specs.declared.word.Word.{Word}
use Rattle.ash_host.specs.declared.event.Event.{Event}
use Rattle.ash_host.specs.Limits.{max_objects}
use Rattle.ash_host.specs.Objects.{Plain, LiveObjects, object_at, numbers, IsInOrder, Lives}
use Rattle.ash_host.specs.Reach.{is_among}
use Rattle.ash_host.proofs.Membership.{is_among_says, is_among_yes, is_among-numbers}
use Rattle.ash_host.proofs.RecordLaws.{bytes_decide}
use Rattle.ash_typed.specs.Modules.{Module}
use Rattle.ash_sources.proofs.SourceLaws.{read_sound}
use Rattle.ash_sources.proofs.TypedSourceLaws.{typed_rules}
use Rattle.ash_soundness.specs.WellFormed.{IsState}
use Rattle.ash_soundness.proofs.Hosts.{rec_at}
use Rattle.ash_soundness.proofs.Named.{rec_from}
use Rattle.ash_image.specs.declared.version.Version.TheVariants.{Two}
use Rattle.ash_image.specs.Snapshots.{Loaded}
use Rattle.ash_image.specs.ImageWords.{FitsWord}
use Rattle.ash_image.specs.ObjectBytes.{FitsHost}
use Rattle.ash_image.specs.Image.{do_rise, is_module_name, FitsModule, FitModules, FitsObject, FitObjects}
use Rattle.ash_image.specs.Delta.{ModuleChange, Unchanged, Added, Removed, Globals, Delta, FitServiceStates, FitsIndexed, FitGlobals, FitsChange, FitNumbers, are_apart, FitsDelta}
use Rattle.ash_states.specs.HostStates.{HostState, IsAdmitted, embedding_for, offered_to}
use Rattle.ash_states.specs.Indexes.{snapshot_for, index_in, plain_indexed, entry_indexed, HasKind, HaveKinds}
use Rattle.ash_states.proofs.Lists.{all_more, order_rises}
use Rattle.ash_states.proofs.Renamed.{at_renamed}
use Rattle.ash_states.proofs.Fitting.{modules_fit, fields_indexed}
use Rattle.ash_change_laws.specs.ChangedStates as changed
use Rattle.ash_change_laws.specs.ChangedStates.{Changes, Names}
use Rattle.ash_image.specs.Leading.{is_name_of, module_named}
use Rattle.ash_change_records.specs.ListedChanges.{listed, change_listed, changes_listed, IsListableChange, AreListable}
use Rattle.ash_change_records.proofs.Listing.{paired, at_listed, each_listed}
use Rattle.ash_change_records.proofs.ObjectsFit.{object_fits}

-- numbers that rise differ

same_yes : (n : ℕ) → nat_eq n n ≡ true
same_yes n = grind (arith, nat_tests)

apart : (n m : ℕ) → nat_cmp n m ≡ Less → nat_eq n m ≡ false
apart n m e = grind (arith, nat_tests)

sorted_differ : (ns : List ℕ) → IsStrictlySortedBy nat_cmp ns → IsDistinct nat_eq ns
unfolding IsStrictlySortedBy IsDistinct
sorted_differ [] h = tt
sorted_differ (n ∷ ns) h = (all_more (λ (m : ℕ). nat_cmp n m ≡ Less) (λ (m : ℕ). nat_eq n m ≡ false) (λ m e. apart n m e) ns h.0, sorted_differ ns h.1)

pub rising_differ : (ns : List ℕ) → IsStrictlyIncreasing ns → IsDistinct nat_eq ns
rising_differ ns h = sorted_differ ns (sorted_from_strictly_increasing ns h)

-- and so they do in their order

abbrev with_nothing : List ℕ → List (ℕ × ℕ)
with_nothing ns = map (λ (n : ℕ). (n, n)) ns

numbers_alone : (ns : List ℕ) → numbers (with_nothing ns) ≡ ns
numbers_alone [] = refl
numbers_alone (n ∷ ns) = ap (λ (more : List ℕ). n ∷ more) (numbers_alone ns)

pub rising_rise : (ns : List ℕ) → IsStrictlyIncreasing ns → do_rise ns ≡ true
rising_rise ns h =
    ap do_rise (sym (numbers_alone ns))
    ∙ order_rises (with_nothing ns) (subst (λ (l : List ℕ). IsStrictlyIncreasing l) (sym (numbers_alone ns)) h)

-- a number that an object can have
abbrev CanHave : ℕ → Type 0
CanHave n = (0 < n) × (n < 2 ^ 64)

above_first : (n : ℕ) → 0 < n → nat_lt 0 n ≡ true
above_first n h = grind (arith, nat_tests)

above_none : (ns : List ℕ) → do_rise ns ≡ true → AllByRecursion CanHave ns → do_rise (0 ∷ ns) ≡ true
above_none [] rise has = refl
above_none (n ∷ ns) rise has = ap (λ (b : Bool). b && do_rise (n ∷ ns)) (above_first n (has.0).0) ∙ rise

-- the numbers of what is listed

module _ {A : Type 0} (at : ℕ → Option A) where
  abbrev is_there : ℕ → Bool
  is_there n = is_some (at n)

  numbers_listed : (ns : List ℕ) → numbers (listed at ns) ≡ filter is_there ns
  numbers_listed [] = refl
  numbers_listed (m ∷ ms) = by (at m) (numbers_listed ms)
    where
      by : (o : Option A) → numbers (listed at ms) ≡ filter is_there ms
          → numbers (cons_option (paired at m o) (listed at ms)) ≡ cond (is_some o) (m ∷ filter is_there ms) (filter is_there ms)
      by None rest = rest
      by (Some a) rest = ap (λ (l : List ℕ). m ∷ l) rest

  module _ (ns : List ℕ) (rise : IsStrictlyIncreasing ns) where
    in_order : IsInOrder (listed at ns)
    in_order = subst (λ (l : List ℕ). IsStrictlyIncreasing l) (sym (numbers_listed ns)) (IsStrictlyIncreasing-filter is_there ns rise)

    pub listed_rise : do_rise (numbers (listed at ns)) ≡ true
    listed_rise = order_rises (listed at ns) in_order

    listed_differ : IsDistinct nat_eq (numbers (listed at ns))
    listed_differ = rising_differ (numbers (listed at ns)) in_order

  either : (b : Bool) (o : Option A) → is_some (cond b o None) ≡ true → (b ≡ true) × (is_some o ≡ true)
  either true o h = (refl, h)
  either false o h = absurd (cc)

  -- a number that is listed is among them, and something is there
  pub number_listed : (ns : List ℕ) (q : ℕ) → is_among (numbers (listed at ns)) q ≡ true → (is_among ns q ≡ true) × (is_some (at q) ≡ true)
  number_listed ns q h =
      either (is_among ns q) (at q) (ap is_some (sym (at_listed at q ns)) ∙ sym (is_among-numbers q (listed at ns)) ∙ h)

-- places of a list are no more than it has
pub few_places : {A : Type 0} (xs : List A) (ns : List ℕ) → IsStrictlyIncreasing ns → length (listed (slice_get xs) ns) ≤ length xs
few_places {A} xs ns rise =
    let few : length (numbers (listed (slice_get xs) ns)) ≤ length xs =
    length-le_from_distinct_below (numbers (listed (slice_get xs) ns)) (length xs) (listed_differ (slice_get xs) ns rise)
    (λ q h. within q (slice_get xs q) refl (number_listed (slice_get xs) ns q h).1) in
    omega (arith, few, length-map (listed (slice_get xs) ns) (λ (e : ℕ × A). e.0))
  where
    within : (q : ℕ) (o : Option A) → slice_get xs q ≡ o → is_some o ≡ true → q < length xs
    within q None at h = absurd (cc)
    within q (Some a) at h = slice_get_within xs q a at

-- and so are numbers of entries
pub few_numbers : {A : Type 0} (es : List (ℕ × A)) (ns : List ℕ) → IsStrictlyIncreasing ns → length (listed (λ n. object_at n es) ns) ≤ length es
few_numbers {A} es ns rise =
    let few : length (numbers (listed (λ n. object_at n es) ns)) ≤ length es =
    length-le_from_keys nat_eq_equiv (numbers (listed (λ n. object_at n es) ns)) es (listed_differ (λ n. object_at n es) ns rise)
    (λ q h. (number_listed (λ n. object_at n es) ns q h).1) in
    omega (arith, few, length-map (listed (λ n. object_at n es) ns) (λ (e : ℕ × A). e.0))

-- modules

named_holds : (P : Loaded → Type 0) (name : List ℕ) (ms : List Loaded) → AllByRecursion P ms → (m : Loaded) → module_named name ms ≡ Some m → P m × (name ≡ m.name)
unfolding module_named
named_holds P name [] h m at = absurd (cc)
named_holds P name (x ∷ ms) h m at = by (is_name_of name x) refl at (λ later. named_holds P name ms h.1 m later)
  where
    by : (b : Bool) → is_name_of name x ≡ b → (if b then Some x else module_named name ms) ≡ Some m
        → (module_named name ms ≡ Some m → P m × (name ≡ m.name)) → P m × (name ≡ m.name)
    by true is here rest =
        let same : x ≡ m = same_Some x m here in
        let named : name ≡ x.name = (bytes_decide name x.name).0 (sym (is_eq-slice_cmp name x.name) ∙ is) in
        (subst P same h.0, named ∙ ap (λ (l : Loaded). l.name) same)
    by false is there rest = rest there

module _ (s : HostState) (h : IsAdmitted s) where
  short : (source : List ℕ) (tree : Module) → (embedding_for s.registered).read source ≡ Ok tree → length source ≤ 65536
  short source tree read = ((typed_rules s.registered source tree read).lexed.0).short

  all_modules_fit : FitModules (snapshot_for s).modules
  all_modules_fit = modules_fit (embedding_for s.registered) (offered_to s.registered) (read_sound s.registered) short s.state h.formed

  module_fits : (name : List ℕ) (m : Loaded) → module_named name (snapshot_for s).modules ≡ Some m → FitsModule m × (name ≡ m.name)
  module_fits name m at = named_holds FitsModule name (snapshot_for s).modules all_modules_fit.each m at

  globals_fit : (name places : List ℕ) (m : Loaded) → IsStrictlyIncreasing places → FitsModule m × (name ≡ m.name)
      → FitGlobals name (listed (slice_get m.globals) places)
  globals_fit name places m rise (fits, named) = record {
    name_fits = subst (λ (n : List ℕ). is_module_name n ≡ true) (sym named) fits.name_fits;
    few = omega (arith, few_places m.globals places rise, fits.few);
    each = each_listed (slice_get m.globals) (λ n w. FitsIndexed (n, w))
        (λ n w there. record {
          index_fits = omega (arith, slice_get_within m.globals n w there, fits.few);
          word_fits = rec_at FitsWord m.globals n w fits.words there;
        }) places;
    order = listed_rise (slice_get m.globals) places rise;
  }

  pub change_fits : (change : changed.ModuleChange) → IsListableChange change → FitsChange (change_listed change (snapshot_for s).modules)
  change_fits changed.Unchanged l = tt
  change_fits (changed.Loaded name) l = by (module_named name (snapshot_for s).modules) refl
    where
      by : (o : Option Loaded) → module_named name (snapshot_for s).modules ≡ o → FitsChange (option_map_or (λ (m : Loaded). Added m) o Unchanged)
      by None at = tt
      by (Some m) at = (module_fits name m at).0
  change_fits (changed.Discarded name) l = l
  change_fits (changed.Globals name places) l = by (module_named name (snapshot_for s).modules) refl
    where
      by : (o : Option Loaded) → module_named name (snapshot_for s).modules ≡ o
          → FitsChange (option_map_or (λ (m : Loaded). Globals name (listed (slice_get m.globals) places)) o Unchanged)
      by None at = tt
      by (Some m) at = globals_fit name places m l (module_fits name m at)

  services_fit : (places : List ℕ) → IsStrictlyIncreasing places → FitServiceStates (listed (slice_get (s.state).services) places)
  services_fit places rise = record {
    few = omega (arith, few_places (s.state).services places rise, h.few);
    each = each_listed (slice_get (s.state).services) (λ n state. FitsHost n state)
        (λ n state there. record {
          kind_fits = omega (arith, slice_get_within (s.state).services n state there, h.few);
          short = rec_at IsState (s.state).services n state (h.formed).services there;
        }) places;
    order = listed_rise (slice_get (s.state).services) places rise;
  }

  -- objects

  abbrev objects : LiveObjects ℕ
  objects = (snapshot_for s).objects

  few_objects : length objects ≤ max_objects
  few_objects = omega (arith, length-map (s.state).objects (entry_indexed (index_in (s.state).modules)), (h.formed).few)

  mapped : (n : ℕ) (a : Plain ℕ) (o : Option (Plain (List ℕ))) → object_at n (s.state).objects ≡ o → option_map (plain_indexed (index_in (s.state).modules)) o ≡ Some a
      → HasKind a → FitsObject Two (n, a)
  mapped n a None at is kind = absurd (cc)
  mapped n a (Some o) at is kind =
      let same : plain_indexed (index_in (s.state).modules) o ≡ a = same_Some (plain_indexed (index_in (s.state).modules) o) a is in
      subst (λ (x : Plain ℕ). FitsObject Two (n, x)) same
      (object_fits (embedding_for s.registered) (offered_to s.registered) (read_sound s.registered) s.state h.formed n o at (subst (λ (x : Plain ℕ). HasKind x) (sym same) kind))

  both_hold : {A : Type 0} (P Q : A → Type 0) (xs : List A) → AllByRecursion (λ (x : A). P x → Q x) xs → AllByRecursion P xs → AllByRecursion Q xs
  both_hold P Q [] f p = tt
  both_hold P Q (x ∷ xs) f p = (f.0 p.0, both_hold P Q xs f.1 p.1)

  pub put_fits : (ns : List ℕ) → IsStrictlyIncreasing ns → HaveKinds (listed (λ n. object_at n objects) ns) → FitObjects Two (listed (λ n. object_at n objects) ns)
  put_fits ns rise kinds = record {
    few = omega (arith, few_numbers objects ns rise, few_objects);
    each = both_hold (λ (e : ℕ × Plain ℕ). HasKind e.1) (FitsObject Two) (listed (λ n. object_at n objects) ns)
        (each_listed (λ n. object_at n objects) (λ n a. HasKind a → FitsObject Two (n, a))
        (λ n a there. mapped n a (object_at n (s.state).objects) refl
        (sym (at_renamed (plain_indexed (index_in (s.state).modules)) (fields_indexed (index_in (s.state).modules)) n (s.state).objects) ∙ there)) ns)
        kinds;
    order = listed_rise (λ n. object_at n objects) ns rise;
  }

  none_both : (gone living : List ℕ) → ((n : ℕ) → Contains gone n → Contains living n → ⊥) → (more : List ℕ) → ((n : ℕ) → is_among more n ≡ true → Contains gone n)
      → are_apart more (numbers (listed (λ n. object_at n objects) living)) ≡ true
  none_both gone living differ [] among = refl
  none_both gone living differ (n ∷ more) among =
      by (is_among (numbers (listed (λ n. object_at n objects) living)) n) refl
      (none_both gone living differ more (λ m h. among m (later (nat_eq m n) (is_among more m) h)))
    where
      first : (b c : Bool) → b ≡ true → (b || c) ≡ true
      first true c h = refl
      first false c h = absurd (cc)

      later : (b c : Bool) → c ≡ true → (b || c) ≡ true
      later true c h = refl
      later false c h = h

      by : (b : Bool) → is_among (numbers (listed (λ n. object_at n objects) living)) n ≡ b
          → are_apart more (numbers (listed (λ n. object_at n objects) living)) ≡ true
          → (not b && are_apart more (numbers (listed (λ n. object_at n objects) living))) ≡ true
      by true is rest =
          absurd (differ n (among n (first (nat_eq n n) (is_among more n) (same_yes n)))
          (is_among_says n living (number_listed (λ n. object_at n objects) living n is).0))
      by false is rest = rest

  pub delta_fits : (c : Changes) → AreListable c → HaveKinds (changes_listed c s).put → FitsDelta Two (changes_listed c s)
  delta_fits c l kinds = record {
    seq = omega (arith, (h.formed).seq);
    last = omega (arith, (h.formed).last);
    services = services_fit c.services l.services;
    change = change_fits c.modules l.modules;
    gone = record {
      few = omega (arith, l.few);
      each = all_more CanHave (λ (n : ℕ). n < 2 ^ 64) (λ n has. has.1) c.gone l.given;
      order = above_none c.gone (rising_rise c.gone l.gone) l.given;
    };
    put = put_fits c.living l.living kinds;
    apart = none_both c.gone c.living l.apart c.gone (λ n among. is_among_says n c.gone among);
  }

-- names of what a request changed can be listed, if they ascend
pub names_listable : (c : Changes) (happened : List Event) (before after : HostState) → IsAdmitted before → Names c happened before.state after.state
    → IsStrictlyIncreasing c.services → IsListableChange c.modules → IsStrictlyIncreasing c.living → IsStrictlyIncreasing c.gone → AreListable c
names_listable c happened before after was h services change living gone =
    let few : length c.gone ≤ length (before.state).objects =
    length-le_from_keys nat_eq_equiv c.gone (before.state).objects (rising_differ c.gone gone) (λ q among. (h.went q (is_among_says q c.gone among)).0) in
    record {
      services = services;
      modules = change;
      living = living;
      gone = gone;
      few = omega (arith, few, (was.formed).few);
      given = rec_from CanHave c.gone (λ n went.
          let had = (was.formed).numbered.given n (h.went n went).0 in
          (had.0, omega (arith, had.1, (was.formed).last)));
      apart = λ n g l. by (object_at n (after.state).objects) (h.live n l) (h.went n g).1;
    }
  where
    by : {A : Type 0} (o : Option A) → is_some o ≡ true → o ≡ None → ⊥
    by None lives none = absurd (cc)
    by (Some a) lives none = absurd (cc)
