-- Steps on arrays are the meaning's.
use Rattle.std.proofs.Common.{◌≡◌, ℕ, ◌+◌, ◌-◌, ◌≤◌, ◌<◌, zero, suc, List, [], ◌∷◌, ◌++◌, Bool, true, false, take, drop, replicate, length, get_or, reverse, refl, sym, ap, ◌∙◌, subst, arith, append-nil}
use Rattle.std.specs.Prelude.{Option, Some, None, IfSome, is_some, All, Result, Ok, Err, IsErrAnd, slice_get, option_map, ◌&&◌, ◌==◌, cond, nat_lt, nat_le}
use Rattle.std.specs.Int.{int_wrap}
use Rattle.std.specs.Option.{option_map_or, option_and_then}
use Rattle.std.proofs.lemmas.Bool.Decides.{nat_tests}
use Rattle.std.specs.List.{cons_option}
use Rattle.std.proofs.lemmas.List.{take_all, drop_all, reverse-append}
use Rattle.std.proofs.Math.Seq.{drop-append_seam}
use Rattle.std.proofs.lemmas.List.Elements.{All-append}
use Rattle.ash_host.specs.declared.element.ElementTag.{ElementTag}
use Rattle.ash_host.specs.declared.element.ElementTag.TheVariants as tags
use Rattle.ash_host.specs.declared.host_object.HostObject.{Ghosts}
use Rattle.ash_host.specs.declared.word.Word.{Word}
use Rattle.ash_host.specs.declared.word.Word.TheVariants as words
use Rattle.ash_host.specs.ElementTags.{initial_of}
use Rattle.ash_host.specs.Limits.{max_elements}
use Rattle.ash_host.specs.Objects.{Plain, object_at, handles, handle, IsInOrder, Lives}
use Rattle.ash_host.specs.Records.{HostRecord}
use Rattle.ash_meaning.specs.declared.exception.Exception.TheVariants.{ArrayLimit, IndexOutOfBounds}
use Rattle.ash_meaning.specs.Activity.{Activity, in_frame, in_world}
use Rattle.ash_meaning.specs.ArraySteps as arrays
use Rattle.ash_meaning.specs.ArraySteps.{zero_element, zero_in, resized, natural_of}
use Rattle.ash_meaning.specs.ObjectSteps as objects
use Rattle.ash_meaning.specs.Releases as releases
use Rattle.ash_meaning.specs.Runs as runs
use Rattle.ash_meaning.specs.Runs.{Progress, Done, Ended, Raising}
use Rattle.ash_slots.specs.declared.body.Array as array_code
use Rattle.ash_slots.specs.declared.body.Body.{Body}
use Rattle.ash_slots.specs.declared.body.Body.TheVariants as bodies
use Rattle.ash_slots.specs.Bodies.{words_of}
use Rattle.ash_slots.specs.SlotArrays.{array_of, with_words, lengthened}
use Rattle.ash_slots.specs.SlotResponses.{box_of}
use Rattle.ash_objects.specs.Responses.{box_at}
use Rattle.ash_objects.specs.Arrays.{array_at, with_elements}
use Rattle.ash_objects.specs.Table.{Living, Table, with_object, body_of}
use Rattle.ash_object_ranks.specs.ShownTables.{SlotNames, elements_shown, body_shown, objects_shown}
use Rattle.ash_object_ranks.proofs.ShownTables.{living_shown, shown_at}
use Rattle.ash_run_steps.specs.declared.arrays.Element.{Element}
use Rattle.ash_run_steps.specs.ArrayGuards.{is_array, is_array_object, element_at, array_length, array_is_empty, resize_array, insert_last, remove_last, stop_of_length}
use Rattle.ash_objects.specs.declared.arrays.LengthFault.{LengthFault}
use Rattle.ash_objects.specs.declared.arrays.LengthFault.TheVariants as length_faults
use Rattle.ash_run_steps.specs.declared.stop.Stop.{Stop}
use Rattle.ash_run_steps.specs.declared.stop.Stop.TheVariants as stops
use Rattle.ash_run_steps.specs.Becoming.{Becomes, Comes}
use Rattle.ash_run_steps.specs.Guarded.{Guarded, give, stop, unsound, plain}
use Rattle.ash_run_steps.specs.GuardedSteps.{is_alive}
use Rattle.ash_run_steps.specs.PartSteps.{words_at}
use Rattle.ash_run_steps.specs.RunStates.{State, Names, HoldsMore, shown, bare, is_alive_in}
use Rattle.ash_run_steps.proofs.Bare.{alive_shown}
use Rattle.ash_run_steps.proofs.ChangedObjects.{words_in_shown, changed_activity, follows_changed, becomes_kept, then_held}
use Rattle.ash_run_steps.proofs.Composed.{becomes_by, guarded_same}
use Rattle.ash_run_steps.proofs.HoldSteps.{at_table}
use Rattle.ash_run_steps.proofs.LocalSteps.{guard_off, and_second}
use Rattle.ash_run_steps.proofs.MakingSteps.{below}
use Rattle.ash_run_steps.proofs.Roots.{holding, times_reverse}

pub le_on : (count many : ℕ) → count ≤ many → nat_le count many ≡ true
le_on count many is = grind (arith, nat_tests)

pub le_off : (count many : ℕ) → many < count → nat_le count many ≡ false
le_off count many is = grind (arith, nat_tests)

lt_on : (count many : ℕ) → count < many → nat_lt count many ≡ true
lt_on count many is = grind (arith, nat_tests)

lt_off : (count many : ℕ) → many ≤ count → nat_lt count many ≡ false
lt_off count many is = grind (arith, nat_tests)

handle_is : (w : Word) (n : ℕ) → handle w ≡ Some n → w ≡ words.Object n
handle_is (words.Object m) n is = let same : m ≡ n = cc in ap words.Object same
handle_is (words.Bool b) n is = absurd (cc)
handle_is (words.Int z) n is = absurd (cc)
handle_is (words.Uint k) n is = absurd (cc)
handle_is (words.Int64 z) n is = absurd (cc)
handle_is (words.Uint64 k) n is = absurd (cc)
handle_is words.Null n is = absurd (cc)

-- what a resize leaves

pub resized_shorter : (count : ℕ) (new : Word) (all : List Word) → count ≤ length all → take count all ≡ resized count new all
resized_shorter count new all fewer =
    let none : count - length all ≡ 0 = omega arith in
    sym (ap (λ (k : ℕ). take count all ++ replicate k new) none ∙ append-nil (take count all))

pub resized_longer : (count : ℕ) (array : array_code.Array) → length array.elements ≤ count → lengthened count array ≡ resized count (initial_of array.element) array.elements
resized_longer count array more =
    ap (λ (ws : List Word). ws ++ replicate (count - length array.elements) (initial_of array.element)) (sym (take_all count array.elements more))

-- what is taken away last
pub last_drop : (all : List Word) (k : ℕ) (d : Word) → k + 1 ≡ length all → drop k all ≡ get_or all k d ∷ []
last_drop [] k d is = absurd (omega arith)
last_drop (w ∷ []) zero d is = refl
last_drop (w ∷ v ∷ ws) zero d is = absurd (omega arith)
last_drop (w ∷ ws) (suc k) d is = last_drop ws k d (omega arith)

pub initial_shown : (names : SlotNames) (tag : ElementTag) → zero_element (elements_shown names tag) ≡ initial_of tag
unfolding int_wrap
initial_shown names tags.Bool = refl
initial_shown names tags.Int = refl
initial_shown names tags.Uint = refl
initial_shown names tags.Int64 = refl
initial_shown names tags.Uint64 = refl
initial_shown names (tags.Class slot place) = refl
initial_shown names (tags.Kind kind) = refl

-- the last of these words is taken away, if there is one
abbrev removed_by : ℕ → Bool → List Word → Activity → Progress (Unit {0})
removed_by n some all activity =
    runs.onward (runs.onward (runs.demand some IndexOutOfBounds activity) (λ _. releases.hold_all (drop (length all - 1) all))) (λ _. objects.put_words n (take (length all - 1) all))

unless : (b : Bool) (p : Progress (Unit {0})) (o : Option (Progress (Unit {0}))) → o ≡ Some p → IfSome (cond b (Some p) None) (λ q. o ≡ Some q)
unless true p o is = is
unless false p o is = tt

-- what is there
pub some_array : (o : Option array_code.Array) → is_some o ≡ true → (array : array_code.Array) × (o ≡ Some array)
some_array None is = absurd (cc)
some_array (Some array) is = (array, refl)

module _ {B : Type 0} where
  pub elements_box : (ws : List Word) (x : Living B) → box_of (with_elements ws x).body ≡ box_of x.body
  elements_box ws x = go x.body
    where
      go : (b : Body B) → box_of (with_words ws b) ≡ box_of b
      go (bodies.Script script) = refl
      go (bodies.Array array) = refl
      go (bodies.Host box) = refl

  module _ (n : ℕ) (array : array_code.Array) (table : Table B) (at : array_at n table ≡ Some array) where
    pub array_words : words_at n table ≡ array.elements
    array_words = go (object_at n table.objects) at
      where
        each : (b : Body B) → array_of b ≡ Some array → words_of b ≡ array.elements
        each (bodies.Script script) is = absurd (cc)
        each (bodies.Array a) is = let same : a ≡ array = cc in ap (λ (r : array_code.Array). r.elements) same
        each (bodies.Host box) is = absurd (cc)

        go : (o : Option (Living B)) → option_and_then array_of (option_map (λ (x : Living B). x.body) o) ≡ Some array → option_map_or (λ (x : Living B). words_of x.body) o [] ≡ array.elements
        go None is = absurd (cc)
        go (Some x) is = each x.body is

    array_unboxed : box_at n table ≡ None
    array_unboxed = go (object_at n table.objects) at
      where
        each : (b : Body B) → array_of b ≡ Some array → box_of b ≡ None
        each (bodies.Script script) is = refl
        each (bodies.Array a) is = refl
        each (bodies.Host box) is = absurd (cc)

        go : (o : Option (Living B)) → option_and_then array_of (option_map (λ (x : Living B). x.body) o) ≡ Some array
            → option_and_then (λ (x : Living B). box_of x.body) o ≡ None
        go None is = refl
        go (Some x) is = each x.body is

    array_body : (x : Living B) → object_at n table.objects ≡ Some x → array_of x.body ≡ Some array
    array_body x is = ap (λ (o : Option (Living B)). option_and_then array_of (option_map (λ (y : Living B). y.body) o)) (sym is) ∙ at

module _ {B : Type 0} (G : Ghosts B) (names : SlotNames) where
  array_shown : (n : ℕ) (table : Table B) → option_map_or is_array_object (object_at n (objects_shown G names table.objects)) false ≡ is_some (array_at n table)
  array_shown n table = ap (λ (o : Option (Plain (List ℕ))). option_map_or is_array_object o false) (shown_at G names n table.objects) ∙ go (object_at n table.objects)
    where
      each : (b : Body B) → is_array_object (body_shown G names b) ≡ is_some (array_of b)
      each (bodies.Script script) = refl
      each (bodies.Array array) = refl
      each (bodies.Host box) = refl

      go : (o : Option (Living B)) → option_map_or is_array_object (option_map (living_shown G names) o) false ≡ is_some (option_and_then array_of (option_map (λ (x : Living B). x.body) o))
      go None = refl
      go (Some x) = each x.body

  module _ (n : ℕ) (array : array_code.Array) (table : Table B) (at : array_at n table ≡ Some array) where
    zero_shown : option_map_or zero_in (object_at n (objects_shown G names table.objects)) words.Null ≡ initial_of array.element
    zero_shown = ap (λ (o : Option (Plain (List ℕ))). option_map_or zero_in o words.Null) (shown_at G names n table.objects) ∙ go (object_at n table.objects) at
      where
        each : (b : Body B) → array_of b ≡ Some array → zero_in (body_shown G names b) ≡ initial_of array.element
        each (bodies.Script script) is = absurd (cc)
        each (bodies.Array a) is = let same : a ≡ array = cc in initial_shown names a.element ∙ ap (λ (r : array_code.Array). initial_of r.element) same
        each (bodies.Host box) is = absurd (cc)

        go : (o : Option (Living B)) → option_and_then array_of (option_map (λ (x : Living B). x.body) o) ≡ Some array → option_map_or zero_in (option_map (living_shown G names) o) words.Null ≡ initial_of array.element
        go None is = absurd (cc)
        go (Some x) is = each x.body is

    words_put : (ws : List Word) (x : Living B) → object_at n table.objects ≡ Some x → body_shown G names (with_elements ws x).body ≡ objects.with_words ws (body_shown G names x.body)
    words_put ws x is = go x.body (array_body n array table at x is)
      where
        go : (b : Body B) → array_of b ≡ Some array → body_shown G names (with_words ws b) ≡ objects.with_words ws (body_shown G names b)
        go (bodies.Script script) here = absurd (cc)
        go (bodies.Array a) here = refl
        go (bodies.Host box) here = absurd (cc)

module _ {B : Type 0} (G : Ghosts B) (names : Names) (n : ℕ) (s : State B) where
  pub not_array : (run : runs.Run (Unit {0})) → is_some (array_at n s.table) ≡ false → Becomes G names (λ activity. cond (is_array n activity) (Some (run activity)) None) s (unsound {A = Unit {0}}) s
  not_array run off =
      becomes_by G names (λ activity. cond (is_array n activity) (Some (run activity)) None) s unsound s refl refl
      (λ rest. guard_off (is_array n (shown G names rest s)) _ (array_shown G names.modules n s.table ∙ off))

  module _ (array : array_code.Array) (at : array_at n s.table ≡ Some array) (o : IsInOrder (s.table).objects) where
    -- the array has these words, and the frame holds these objects
    abbrev pub refilled : List Word → List ℕ → State B
    refilled ws ns = at_table (with_object n (with_elements ws) s.table) (holding ns s)

    abbrev put : List Word → List ℕ → Activity → Activity
    put ws ns activity = in_world (objects.with_object n (objects.with_words ws)) (in_frame (releases.holding ns) activity)

    refilled_shown : (rest : List HostRecord) (ws : List Word) (ns : List ℕ) → shown G names rest (refilled ws ns) ≡ put ws ns (shown G names rest s)
    refilled_shown rest ws ns =
        changed_activity G names rest (holding ns s) n (with_elements ws) (objects.with_words ws) o (words_put G names.modules n array s.table at ws)

    refilled_gives : (run : Guarded (Unit {0})) (ws : List Word) (ns : List ℕ) (table : Table B) → bare table ≡ bare (with_object n (with_elements ws) s.table)
        → ((rest : List HostRecord) → IfSome (run (shown G names rest s)) (λ p. Some (Done tt (put ws ns (shown G names rest s))) ≡ Some p))
        → Becomes G names run s (give tt) (at_table table (refilled ws ns))
    refilled_gives run ws ns table same says =
        then_held G names run s tt (refilled ws ns) table same
        (becomes_kept G names run s (give tt) (refilled ws ns) (follows_changed G (with_elements ws) (elements_box ws) (λ x. refl) n s.table (array_unboxed n array s.table at)) refl
        (λ rest. subst (λ (a : Activity). IfSome (run (shown G names rest s)) (λ p. Some (Done tt a) ≡ Some p)) (sym (refilled_shown rest ws ns)) (says rest)))

    -- resizing

    abbrev grown : ℕ → Word → List Word → Activity → Progress (Unit {0})
    grown count new all activity = Done tt (put (resized count new all) (handles (drop count all)) activity)

    resize_same : (rest : List HostRecord) (count : ℕ) → count ≤ max_elements
        → grown count (initial_of array.element) (words_at n s.table) (shown G names rest s) ≡ arrays.resize n count (shown G names rest s)
    resize_same rest count few =
        rw (le_on count max_elements few)
        (ap (λ (new : Word). grown count new (words_at n s.table) (shown G names rest s)) (sym (zero_shown G names.modules n array s.table at))
        ∙ ap (λ (all : List Word). grown count (option_map_or zero_in (object_at n (objects_shown G names.modules (s.table).objects)) words.Null) all (shown G names rest s)) (sym (words_in_shown G names.modules n s.table)))

    pub resize_gives : (count : ℕ) (ws : List Word) (table : Table B) → count ≤ max_elements → ws ≡ resized count (initial_of array.element) (words_at n s.table)
        → bare table ≡ bare (with_object n (with_elements ws) s.table)
        → Becomes G names (plain (arrays.resize n count)) s (give tt) (at_table table (refilled ws (handles (drop count (words_at n s.table)))))
    resize_gives count ws table few is same =
        refilled_gives (plain (arrays.resize n count)) ws (handles (drop count (words_at n s.table))) table same
        (λ rest. ap Some (ap (λ (vs : List Word). Done tt (put vs (handles (drop count (words_at n s.table))) (shown G names rest s))) is ∙ resize_same rest count few))

    -- the same where nothing is taken away
    pub resize_stays : (count : ℕ) (ws : List Word) (table : Table B) → count ≤ max_elements → length (words_at n s.table) ≤ count → ws ≡ resized count (initial_of array.element) (words_at n s.table)
        → table ≡ with_object n (with_elements ws) s.table
        → Becomes G names (plain (arrays.resize n count)) s (give tt) (at_table table s)
    resize_stays count ws table few enough is same =
        let none : drop count (words_at n s.table) ≡ [] = drop_all count (words_at n s.table) enough in
        subst (λ (ns : List ℕ). Becomes G names (plain (arrays.resize n count)) s (give tt) (at_table table (refilled ws ns))) (ap handles none)
        (resize_gives count ws table few is (ap bare same))

    -- an element at the end

    abbrev added : Word → List Word → Activity → Progress (Unit {0})
    added word all activity =
        runs.onward (runs.demand (nat_lt (length all) max_elements) ArrayLimit activity) (λ _. objects.put_words n (all ++ word ∷ []))

    added_same : (rest : List HostRecord) (word : Word) → arrays.insert_last n word (shown G names rest s) ≡ added word (words_at n s.table) (shown G names rest s)
    added_same rest word = ap (λ (all : List Word). added word all (shown G names rest s)) (words_in_shown G names.modules n s.table)

    abbrev guard : Word → Activity → Bool
    guard word activity = is_array n activity && is_alive word activity

    pub insert_gives : (word : Word) (table : Table B) → (max_elements ≤ length (words_at n s.table) → ⊥)
        → bare table ≡ bare (with_object n (with_elements (words_at n s.table ++ word ∷ [])) s.table)
        → Becomes G names (insert_last n word) s (give tt) (at_table table (refilled (words_at n s.table ++ word ∷ []) []))
    insert_gives word table few same =
        refilled_gives (insert_last n word) (words_at n s.table ++ word ∷ []) [] table same
        (λ rest. guarded_same (guard word (shown G names rest s)) _ _
        (sym (added_same rest word ∙ ap (λ (b : Bool). runs.onward (runs.demand b ArrayLimit (shown G names rest s)) (λ _. objects.put_words n (words_at n s.table ++ word ∷ []))) (lt_on (length (words_at n s.table)) max_elements (below (length (words_at n s.table)) max_elements few)))))

    pub insert_full : (word : Word) → max_elements ≤ length (words_at n s.table) → Becomes G names (insert_last n word) s (stop (Raising ArrayLimit)) s
    insert_full word full =
        becomes_by G names (insert_last n word) s (stop (Raising ArrayLimit)) s refl refl
        (λ rest. guarded_same (guard word (shown G names rest s)) _ _
        (sym (added_same rest word ∙ ap (λ (b : Bool). runs.onward (runs.demand b ArrayLimit (shown G names rest s)) (λ _. objects.put_words n (words_at n s.table ++ word ∷ []))) (lt_off (length (words_at n s.table)) max_elements full))))

    -- the last element

    left_same : (rest : List HostRecord) → arrays.remove_last n (shown G names rest s) ≡ removed_by n (nat_lt 0 (length (words_at n s.table))) (words_at n s.table) (shown G names rest s)
    left_same rest = ap (λ (all : List Word). removed_by n (nat_lt 0 (length all)) all (shown G names rest s)) (words_in_shown G names.modules n s.table)

    pub remove_gives : (ns : List ℕ) (table : Table B) → 0 < length (words_at n s.table) → ns ≡ handles (drop (length (words_at n s.table) - 1) (words_at n s.table))
        → bare table ≡ bare (with_object n (with_elements (take (length (words_at n s.table) - 1) (words_at n s.table))) s.table)
        → Becomes G names (remove_last n) s (give tt) (at_table table (refilled (take (length (words_at n s.table) - 1) (words_at n s.table)) ns))
    remove_gives ns table some are same =
        refilled_gives (remove_last n) (take (length (words_at n s.table) - 1) (words_at n s.table)) ns table same
        (λ rest. guarded_same (is_array n (shown G names rest s)) _ _
        (ap (λ (ms : List ℕ). Done tt (put (take (length (words_at n s.table) - 1) (words_at n s.table)) ms (shown G names rest s))) are
        ∙ sym (left_same rest ∙ ap (λ (b : Bool). removed_by n b (words_at n s.table) (shown G names rest s)) (lt_on 0 (length (words_at n s.table)) some))))

-- what is read of arrays

module _ {B : Type 0} (G : Ghosts B) (names : Names) (s : State B) where
  pub length_gives : (n count : ℕ) → count ≡ length (words_at n s.table) → Becomes G names (array_length n) s (give (words.Uint count)) s
  length_gives n count is =
      becomes_by G names (array_length n) s (give (words.Uint count)) s refl refl
      (λ rest. ap (λ (k : ℕ). Some (Done (words.Uint k) (shown G names rest s))) is
      ∙ ap (λ (ws : List Word). Some (Done (words.Uint (length ws)) (shown G names rest s))) (sym (words_in_shown G names.modules n s.table)))

  pub empty_gives : (n : ℕ) (b : Bool) → b ≡ (length (words_at n s.table) == 0) → Becomes G names (array_is_empty n) s (give (words.Bool b)) s
  empty_gives n b is =
      becomes_by G names (array_is_empty n) s (give (words.Bool b)) s refl refl
      (λ rest. ap (λ (c : Bool). Some (Done (words.Bool c) (shown G names rest s))) is
      ∙ ap (λ (ws : List Word). Some (Done (words.Bool (length ws == 0)) (shown G names rest s))) (sym (words_in_shown G names.modules n s.table)))

  abbrev element_run : ℕ → Word → List Word → Activity → Progress Element
  element_run n index all activity =
      runs.onward (runs.onward (runs.demand (nat_lt (natural_of index) (length all)) IndexOutOfBounds activity) (λ _. runs.give (natural_of index))) (λ place. runs.give (record { number = n; place = place }))

  element_same : (rest : List HostRecord) (array index : Word) (n : ℕ) → handle array ≡ Some n
      → element_at array index (shown G names rest s) ≡ Some (element_run n index (words_at n s.table) (shown G names rest s))
  element_same rest array index n is =
      rw (handle_is array n is) (ap (λ (ws : List Word). Some (element_run n index ws (shown G names rest s))) (words_in_shown G names.modules n s.table))

  pub element_gives : (array index : Word) (n place : ℕ) → handle array ≡ Some n → place ≡ natural_of index → place < length (words_at n s.table)
      → Becomes G names (element_at array index) s (give (record { number = n; place = place })) s
  element_gives array index n place is at within =
      becomes_by G names (element_at array index) s (give (record { number = n; place = place })) s refl refl
      (λ rest. rw (element_same rest array index n is, ← at, lt_on place (length (words_at n s.table)) within) refl)

  pub element_past : (array index : Word) (n place : ℕ) → handle array ≡ Some n → place ≡ natural_of index → length (words_at n s.table) ≤ place
      → Becomes G names (element_at array index) s (stop (Raising IndexOutOfBounds)) s
  element_past array index n place is at past =
      becomes_by G names (element_at array index) s (stop (Raising IndexOutOfBounds)) s refl refl
      (λ rest. rw (element_same rest array index n is, ← at, lt_off place (length (words_at n s.table)) past) refl)

  -- what ends a step on an array

  pub resize_long : (n : ℕ) (count : Word) → max_elements < natural_of count → Becomes G names (resize_array n count) s (stop (Raising ArrayLimit)) s
  resize_long n count long =
      becomes_by G names (resize_array n count) s (stop (Raising ArrayLimit)) s refl refl
      (λ rest. guarded_same (is_array n (shown G names rest s)) _ _ (rw (le_off (natural_of count) max_elements long) refl))

  -- what is done without the guard is done with it
  pub resize_guarded : (n : ℕ) (count : Word) (left : Guarded (Unit {0})) (new : State B) → Becomes G names (plain (arrays.resize n (natural_of count))) s left new → Becomes G names (resize_array n count) s left new
  resize_guarded n count left new is = record {
    records = is.records;
    gave = is.gave;
    same = λ rest. unless (is_array n (shown G names (is.records ++ rest) s)) (arrays.resize n (natural_of count) (shown G names (is.records ++ rest) s)) (left (shown G names rest new)) (is.same rest);
  }

  pub insert_dangles : (n : ℕ) (word : Word) → is_alive_in word s.table ≡ false → Becomes G names (insert_last n word) s unsound s
  insert_dangles n word none =
      becomes_by G names (insert_last n word) s unsound s refl refl
      (λ rest. guard_off (is_array n (shown G names rest s) && is_alive word (shown G names rest s)) _ (and_second (is_array n (shown G names rest s)) (is_alive word (shown G names rest s)) (alive_shown G names.modules word s.table ∙ none)))

  pub insert_lacks : (n : ℕ) (word : Word) → is_some (array_at n s.table) ≡ false → Becomes G names (insert_last n word) s unsound s
  insert_lacks n word off =
      becomes_by G names (insert_last n word) s unsound s refl refl
      (λ rest. guard_off (is_array n (shown G names rest s) && is_alive word (shown G names rest s)) _ (ap (λ (b : Bool). b && is_alive word (shown G names rest s)) (array_shown G names.modules n s.table ∙ off)))

  pub remove_empty : (n : ℕ) → length (words_at n s.table) ≡ 0 → Becomes G names (remove_last n) s (stop (Raising IndexOutOfBounds)) s
  remove_empty n none =
      becomes_by G names (remove_last n) s (stop (Raising IndexOutOfBounds)) s refl refl
      (λ rest. guarded_same (is_array n (shown G names rest s)) _ _
      (sym (ap (λ (all : List Word). removed_by n (nat_lt 0 (length all)) all (shown G names rest s)) (words_in_shown G names.modules n s.table)
      ∙ ap (λ (b : Bool). removed_by n b (words_at n s.table) (shown G names rest s)) (lt_off 0 (length (words_at n s.table)) (omega (arith, none))))))

  -- a step that stops for a fault
  pub stops_by : (run : Guarded (Unit {0})) (end : Stop) (r : Result (Unit {0}) Stop) → IsErrAnd r (λ e. e ≡ end) → Comes G names run s (Err end) s → Comes G names run s r s
  stops_by run end (Ok done) is comes = absurd is
  stops_by run end (Err e) is comes = subst (λ (x : Stop). Comes G names run s (Err x) s) (sym is) comes

  pub insert_ends : (n : ℕ) (word : Word) (array : array_code.Array) → array_at n s.table ≡ Some array → IsInOrder (s.table).objects
      → (fault : LengthFault) → (fault ≡ length_faults.TooLong → max_elements ≤ length (words_at n s.table))
      → Comes G names (insert_last n word) s (Err (stop_of_length fault)) s
  insert_ends n word array at o length_faults.TooLong full = insert_full G names n s array at o word (full refl)
  insert_ends n word array at o length_faults.NoMemory full = tt

  -- what a resize without the guard comes to, one under it does
  pub resize_comes : (n : ℕ) (count : Word) (r : Result (Unit {0}) Stop) (new : State B) → Comes G names (plain (arrays.resize n (natural_of count))) s r new → Comes G names (resize_array n count) s r new
  resize_comes n count (Ok done) new is = resize_guarded n count _ new is
  resize_comes n count (Err (stops.Raised exception)) new is = resize_guarded n count _ new is
  resize_comes n count (Err stops.OutOfTicks) new is = resize_guarded n count _ new is
  resize_comes n count (Err stops.Unsound) new is = resize_guarded n count _ new is
  resize_comes n count (Err stops.NoMemory) new is = tt

-- what is taken away lives

pub all_lives : {B : Type 0} (table : Table B) (ws : List Word) → ((k : ℕ) (w : Word) → slice_get ws k ≡ Some w → is_alive_in w table ≡ true) → All (Lives table.objects) (handles ws)
all_lives table [] each = λ k d within. absurd (omega (arith, within))
all_lives {B} table (w ∷ ws) each = go (handle w) refl (all_lives table ws (λ k v at. each (suc k) v at))
  where
    go : (o : Option ℕ) → handle w ≡ o → All (Lives table.objects) (handles ws) → All (Lives table.objects) (cons_option o (handles ws))
    go None is later = later
    go (Some m) is later = λ k d within. at k d within
      where
        here : Lives table.objects m
        here = rw is at (each 0 w refl)

        at : (k d : ℕ) → k < length (m ∷ handles ws) → Lives table.objects (get_or (m ∷ handles ws) k d)
        at zero d within = here
        at (suc k) d within = later k d (omega (arith, within))

pub all_reversed : (P : ℕ → Type 0) (ns : List ℕ) → All P ns → All P (reverse ns)
all_reversed P [] each = each
all_reversed P (n ∷ ns) each =
    rw (reverse-append (n ∷ []) ns) (All-append P (reverse ns) (n ∷ []) (all_reversed P ns (λ k d within. each (suc k) d (omega (arith, within)))) only)
  where
    only : (k d : ℕ) → k < length (n ∷ []) → P (get_or (n ∷ []) k d)
    only zero d within = each 0 d (omega arith)
    only (suc k) d within = absurd (omega (arith, within))

pub more_reversed : {B : Type 0} (ns : List ℕ) (old new : Table B) → HoldsMore (reverse ns) old new → HoldsMore ns old new
more_reversed ns old new more = record { same = more.same; counts = λ m. omega (arith, more.counts m, times_reverse m ns) }

-- what was pushed last is what stands behind the rest
pub pushed : (ns held : List ℕ) (k : ℕ) → k ≡ length (reverse held) → drop k (reverse (ns ++ held)) ≡ reverse ns
pushed ns held k is =
    ap (λ (j : ℕ). drop j (reverse (ns ++ held))) is ∙ ap (drop (length (reverse held))) (reverse-append ns held) ∙ drop-append_seam (reverse held) (reverse ns)

-- a word behind a place
pub got_behind : (ws : List Word) (i k : ℕ) (w : Word) → slice_get (drop i ws) k ≡ Some w → slice_get ws (i + k) ≡ Some w
got_behind ws zero k w at = let is : k ≡ 0 + k = omega arith in subst (λ (j : ℕ). slice_get ws j ≡ Some w) is at
got_behind [] (suc i) k w at = absurd (cc)
got_behind (v ∷ ws) (suc i) k w at =
    let is : suc (i + k) ≡ suc i + k = omega arith in
    subst (λ (j : ℕ). slice_get (v ∷ ws) j ≡ Some w) is (got_behind ws i k w at)

-- no object has more words than it may
pub words_few : {B : Type 0} (n : ℕ) (table : Table B) → IfSome (body_of n table) (λ body. length (words_of body) ≤ max_elements) → length (words_at n table) ≤ max_elements
words_few {B} n table short = go (object_at n table.objects) short
  where
    go : (o : Option (Living B)) → IfSome (option_map (λ (x : Living B). x.body) o) (λ body. length (words_of body) ≤ max_elements)
        → length (option_map_or (λ (x : Living B). words_of x.body) o []) ≤ max_elements
    go None few = omega arith
    go (Some x) few = few

-- a table after a resize that takes nothing away
pub resized_table : {B : Type 0} (n len : ℕ) (array : array_code.Array) (old new : Table B) (ws : List Word) → lengthened len array ≡ ws → length array.elements ≤ len
    → (len ≤ length array.elements → new ≡ with_object n (with_elements (take len array.elements)) old)
    → (length array.elements < len → new ≡ with_object n (with_elements (lengthened len array)) old)
    → new ≡ with_object n (with_elements ws) old
resized_table n len array old new ws is enough shorter longer = go (nat_lt (length array.elements) len) refl
  where
    go : (b : Bool) → nat_lt (length array.elements) len ≡ b → new ≡ with_object n (with_elements ws) old
    go true more = longer (grind (arith, nat_tests)) ∙ ap (λ (vs : List Word). with_object n (with_elements vs) old) is
    go false not_more =
        let level : len ≤ length array.elements = grind (arith, nat_tests) in
        let none : len - length array.elements ≡ 0 = omega arith in
        let kept : take len array.elements ≡ lengthened len array =
        take_all len array.elements enough
        ∙ sym (ap (λ (k : ℕ). array.elements ++ replicate k (initial_of array.element)) none ∙ append-nil array.elements) in
        shorter level ∙ ap (λ (vs : List Word). with_object n (with_elements vs) old) (kept ∙ is)
