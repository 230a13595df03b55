-- The steps of the search in the code.
use Rattle.std.proofs.Common.{◌≡◌, ℕ, zero, suc, ◌+◌, ◌<◌, Bool, true, false, List, [], ◌∷◌, ◌++◌, length, get_or, take, refl, sym, ap, subst, ◌∙◌, arith}
use Rattle.std.specs.Prelude.{Option, Some, None, Contains, ◌↔◌, replicate}
use Rattle.std.specs.List.{flat_map, list_all}
use Rattle.std.specs.Option.{option_map_or}
use Rattle.std.proofs.Common.{nat_eq, inl, inr}
use Rattle.std.proofs.lemmas.Bool.{cases_lt}
use Rattle.std.proofs.lemmas.Bool.Decides.{nat_tests}
use Rattle.std.proofs.lemmas.Grind.{flat_map-append}
use Rattle.std.proofs.lemmas.List.{take_more, map-append, append-nil, length-map, get_or-replicate, get_or_past, length-replicate}
use Rattle.std.proofs.lemmas.List.Elements.{filter_map-append}
use Rattle.ash_host.specs.declared.word.Word.{Word}
use Rattle.ash_host.specs.declared.word.Word.TheVariants as words
use Rattle.ash_host.specs.Objects.{Plain, numbers, handle, handles, fields_of, references, Lives}
use Rattle.ash_host.specs.Reach.{ReachableIn, is_among}
use Rattle.ash_host.proofs.Order.{object_here, object_later}
use Rattle.ash_image.specs.declared.stored.StoredModule.{StoredModule}
use Rattle.ash_image.specs.declared.stored.StoredObject.{StoredObject}
use Rattle.ash_image.specs.Image.{do_rise}
use Rattle.ash_image.specs.Rules.{held_by}
use Rattle.ash_image.specs.Snapshots.{Loaded}
use Rattle.ash_image.specs.SnapshotViews.{module_of, modules_of, object_of, objects_of}
use Rattle.ash_image.specs.Search.{SearchProgress, Visited, Searches}
use Rattle.ash_image.proofs.FieldLaws.{some_is}
use Rattle.ash_image.proofs.OrderLaws.{rises_from, tail_rises}
use Rattle.ash_image.proofs.SearchLaws.{visited_none, visited_then, searches_roots, searches_next, among_last, none_among, all_reached, all_marked}

pub visited_start : (alive : List ℕ) (s : SearchProgress) → Visited alive [] s s
visited_start = visited_none

-- the handles among one word
pub handles_some : (w : Word) (n : ℕ) → handle w ≡ Some n → handles (w ∷ []) ≡ n ∷ []
handles_some (words.Object m) n e = ap (λ (k : ℕ). k ∷ []) (some_is m n e)
handles_some words.Null n e = absurd cc
handles_some (words.Bool b) n e = absurd cc
handles_some (words.Int z) n e = absurd cc
handles_some (words.Uint m) n e = absurd cc
handles_some (words.Int64 z) n e = absurd cc
handles_some (words.Uint64 m) n e = absurd cc

pub handles_none : (w : Word) → handle w ≡ None → handles (w ∷ []) ≡ []
handles_none (words.Object m) e = absurd cc
handles_none words.Null e = refl
handles_none (words.Bool b) e = refl
handles_none (words.Int z) e = refl
handles_none (words.Uint m) e = refl
handles_none (words.Int64 z) e = refl
handles_none (words.Uint64 m) e = refl

pub visit_more : (alive : List ℕ) (ws : List Word) (k : ℕ) (w : Word) (s t u : SearchProgress) → k < length ws
    → Visited alive (handles (take k ws)) s t → Visited alive (handles (get_or ws k w ∷ [])) t u
    → Visited alive (handles (take (k + 1) ws)) s u
visit_more alive ws k w s t u lt p q =
    let split : handles (take (k + 1) ws) ≡ handles (take k ws) ++ handles (get_or ws k w ∷ []) =
    ap handles (take_more ws k w lt) ∙ filter_map-append handle (take k ws) (get_or ws k w ∷ []) in
    subst (λ (wanted : List ℕ). Visited alive wanted s u) (sym split)
    (visited_then alive (handles (take k ws)) (handles (get_or ws k w ∷ [])) s t u p q)

held_one : (m : Loaded) → held_by (m ∷ []) ≡ handles m.globals
held_one m = ap handles (append-nil m.globals)

held_append : (ms ns : List Loaded) → held_by (ms ++ ns) ≡ held_by ms ++ held_by ns
held_append ms ns =
    ap handles (flat_map-append (λ (m : Loaded). m.globals) ms ns)
    ∙ filter_map-append handle (flat_map (λ (m : Loaded). m.globals) ms) (flat_map (λ (m : Loaded). m.globals) ns)

pub visit_globals_more : (alive : List ℕ) (ms : List StoredModule) (k : ℕ) (m : StoredModule) (ws : List Word) (s t u : SearchProgress)
    → k < length ms → m ≡ get_or ms k m → ws ≡ m.globals.items
    → Visited alive (held_by (modules_of (take k ms))) s t → Visited alive (handles ws) t u
    → Visited alive (held_by (modules_of (take (k + 1) ms))) s u
visit_globals_more alive ms k m ws s t u lt is same p q =
    let split : held_by (modules_of (take (k + 1) ms)) ≡ held_by (modules_of (take k ms)) ++ handles m.globals.items =
    ap (λ (l : List StoredModule). held_by (modules_of l)) (take_more ms k m lt ∙ ap (λ (x : StoredModule). take k ms ++ x ∷ []) (sym is))
    ∙ ap held_by (map-append module_of (take k ms) (m ∷ []))
    ∙ held_append (modules_of (take k ms)) (module_of m ∷ [])
    ∙ ap (λ (l : List ℕ). held_by (modules_of (take k ms)) ++ l) (held_one (module_of m)) in
    subst (λ (wanted : List ℕ). Visited alive wanted s u) (sym split)
    (visited_then alive (held_by (modules_of (take k ms))) (handles m.globals.items) s t u p
    (subst (λ (l : List Word). Visited alive (handles l) t u) same q))

pub length_numbers : (xs : List StoredObject) → length (numbers (objects_of xs)) ≡ length xs
length_numbers [] = refl
length_numbers (x ∷ xs) = ap suc (length_numbers xs)

apart : (n m : ℕ) → m < n → nat_eq n m ≡ false
apart n m lt = grind (arith, nat_tests)

-- what the object at an index refers to
pub references_at : (xs : List StoredObject) (i : ℕ) (d : StoredObject) → do_rise (numbers (objects_of xs)) ≡ true
    → i < length xs
    → references (objects_of xs) (get_or (numbers (objects_of xs)) i 0) ≡ handles (fields_of (object_of (get_or xs i d)).1)
references_at [] i d e lt = absurd (omega arith)
references_at (x ∷ xs) zero d e lt =
    ap (λ (o : Option (Plain ℕ)). option_map_or (λ object. handles (fields_of object)) o [])
    (object_here (object_of x) (objects_of xs))
references_at (x ∷ xs) (suc i) d e lt =
    let n = get_or (numbers (objects_of xs)) i 0 in
    let above : x.number < n = rises_from x.number (numbers (objects_of xs)) e i (omega (arith, length_numbers xs)) in
    ap (λ (o : Option (Plain ℕ)). option_map_or (λ object. handles (fields_of object)) o [])
    (object_later n (object_of x) (objects_of xs) (apart n x.number above))
    ∙ references_at xs i d (tail_rises x.number (numbers (objects_of xs)) e) (omega arith)

pub marked_within : (marked : List Bool) (i : ℕ) → get_or marked i false ≡ true → i < length marked
marked_within [] i e = absurd cc
marked_within (m ∷ marked) zero e = omega arith
marked_within (m ∷ marked) (suc i) e = let within = marked_within marked i e in omega (arith, within)

never : (b : Bool) → b ≡ false → b ≡ true → ⊥
never b breaks holds = absurd cc

-- ---- the next of what waits

module _ (held : List ℕ) (xs : List StoredObject) (marked : List Bool) (before after : List ℕ) (i : ℕ)
    (taken : before ≡ after ++ i ∷ [])
    (search : Searches held (objects_of xs) (record { marked = marked; pending = before })) where
  whole : Searches held (objects_of xs) (record { marked = marked; pending = after ++ i ∷ [] })
  whole = subst (λ (p : List ℕ). Searches held (objects_of xs) (record { marked = marked; pending = p })) taken search

  -- it is the index of an object
  pub next_within : i < length xs
  next_within =
      let within = marked_within marked i (whole.waiting i (among_last after i)) in
      omega (arith, within, whole.size, length-map xs object_of)

  pub next_searches : (d : StoredObject) (new : SearchProgress) → do_rise (numbers (objects_of xs)) ≡ true
      → Visited (numbers (objects_of xs)) (handles (fields_of (object_of (get_or xs i d)).1))
      (record { marked = marked; pending = after }) new
      → Searches held (objects_of xs) new
  next_searches d new rise visited =
      let refers = references_at xs i d rise next_within in
      searches_next held (objects_of xs) marked after i new (length_numbers xs ∙ sym (length-map xs object_of)) whole
      (subst (λ (wanted : List ℕ). Visited (numbers (objects_of xs)) wanted (record { marked = marked; pending = after }) new)
      (sym refers) visited)

-- ---- the begin and the end

none_of : (count i : ℕ) → get_or (replicate count false) i false ≡ true → ⊥
none_of count i marked =
    elim (cases_lt i count) [
      | inl lt ↦ never (get_or (replicate count false) i false) (get_or-replicate count i false false lt) marked
      | inr le ↦ never (get_or (replicate count false) i false)
          (get_or_past (replicate count false) i false (omega (arith, length-replicate count false))) marked
    ]

pub begins : (held : List ℕ) (xs : List StoredObject) (alive : List ℕ) (count : ℕ) (s new : SearchProgress) → count ≡ length xs
    → s.marked ≡ replicate count false → s.pending ≡ [] → alive ≡ numbers (objects_of xs) → Visited alive held s new
    → Searches held (objects_of xs) new
begins held xs alive count s new many unmarked none is visited =
    searches_roots held (objects_of xs) s new
    (ap length unmarked ∙ length-replicate count false ∙ many ∙ sym (length-map xs object_of))
    (λ i marked. none_of count i (subst (λ (bs : List Bool). get_or bs i false ≡ true) unmarked marked))
    (λ i waits. none_among i (subst (λ (p : List ℕ). is_among p i ≡ true) none waits))
    (length_numbers xs ∙ sym (length-map xs object_of))
    (subst (λ (ns : List ℕ). Visited ns held s new) is visited)

pub ends : (held : List ℕ) (xs : List StoredObject) (s : SearchProgress) (b : Bool) → Searches held (objects_of xs) s → s.pending ≡ []
    → b ≡ list_all (λ (m : Bool). m) s.marked
    → (b ≡ true) ↔ ((n : ℕ) → Lives (objects_of xs) n → ReachableIn (Contains held) (objects_of xs) n)
ends held xs s b search none is =
    let same = length_numbers xs ∙ sym (length-map xs object_of) in (
      λ holds. all_reached held (objects_of xs) s search none same (sym is ∙ holds),
      λ reached. is ∙ all_marked held (objects_of xs) s search none same reached,
    )
