-- What is listed is applied from the last on.
use Rattle.std.proofs.Common.{◌≡◌, ℕ, zero, suc, ◌+◌, ◌<◌, ◌||◌, Bool, true, false, cond, nat_eq, ltb, List, [], ◌∷◌, ◌++◌, length}
use Rattle.std.proofs.Common.{map, drop, get_or, set, Option, Some, None, refl, sym, subst, ap, ◌∙◌, ◌≤◌, add-one, arith}
use Rattle.std.specs.Option.{unwrap_or, option_map, option_or}
use Rattle.std.specs.List.{list_all, AllByRecursion}
use Rattle.std.specs.Map.{lookup}
use Rattle.std.specs.BTreeMap.{BTreeMap, is_at, get}
use Rattle.std.specs.Ordering.{nat_cmp}
use Rattle.std.proofs.lemmas.Bool.{eqb-true, ltb-true, lt-ltb, false≢true}
use Rattle.std.proofs.lemmas.Bool.Decides.{nat_tests}
use Rattle.std.proofs.lemmas.List.{map-append, map-set, drop_all}
use Rattle.std.proofs.Math.Seq.{drop-cons, map-set_same}
use Rattle.std.proofs.Math.ListN.{get_or-map}
use Rattle.ash_host.specs.Objects.{Plain, object_at}
use Rattle.ash_host.specs.Reach.{is_among}
use Rattle.ash_host.proofs.Order.{object_here, object_later}
use Rattle.ash_image.specs.declared.named_state.NamedObject.{NamedObject}
use Rattle.ash_image.specs.declared.stored.StoredHost.{StoredHost}
use Rattle.ash_image.specs.declared.stored.StoredObject.{StoredObject}
use Rattle.ash_image.specs.ImageObjectViews.{plain_of, service_of}
use Rattle.ash_image.specs.SnapshotViews.{object_of, objects_of, services_of}
use Rattle.ash_image.specs.Snapshots.{Loaded}
use Rattle.ash_image.specs.Leading.{values_from, values_after, AreThere, by_name, object_by_name}
use Rattle.ash_image.specs.NamedViews.{object_seen, objects_seen}
use Rattle.ash_image.proofs.NameLaws.{both}

-- ---- values at indexes

-- what comes first counts
first_counts : {A : Type 0} (n : ℕ) (l : List (ℕ × A)) (e : ℕ × A)
    → object_at n (l ++ e ∷ []) ≡ option_or (object_at n l) (object_at n (e ∷ []))
first_counts n [] e = refl
first_counts {A} n (f ∷ l) e =
    go (nat_eq n f.0) refl (first_counts n l e)
  where
    go : (b : Bool) → nat_eq n f.0 ≡ b
        → object_at n (l ++ e ∷ []) ≡ option_or (object_at n l) (object_at n (e ∷ []))
        → cond b (Some f.1) (object_at n (l ++ e ∷ []))
        ≡ option_or (cond b (Some f.1) (object_at n l)) (object_at n (e ∷ []))
    go true is later = refl
    go false is later = later

unwrapped : {A : Type 0} (a b : Option A) (w : A) → unwrap_or (option_or a b) w ≡ unwrap_or a (unwrap_or b w)
unwrapped None b w = refl
unwrapped (Some v) b w = refl

-- the last that is listed may be applied first
last_first : {A : Type 0} (k : ℕ) (l : List (ℕ × A)) (e : ℕ × A) (vs : List A)
    → values_from k (l ++ e ∷ []) vs ≡ values_from k l (values_from k (e ∷ []) vs)
unfolding values_from
last_first k l e [] = refl
last_first {A} k l e (v ∷ vs) =
    let head : unwrap_or (object_at k (l ++ e ∷ [])) v ≡ unwrap_or (object_at k l) (unwrap_or (object_at k (e ∷ [])) v) =
    ap (λ (o : Option A). unwrap_or o v) (first_counts k l e) ∙ unwrapped (object_at k l) (object_at k (e ∷ [])) v in
    let tail = last_first (suc k) l e vs in
    ap (λ (x : A). x ∷ values_from (suc k) (l ++ e ∷ []) vs) head
    ∙ ap (λ (xs : List A). unwrap_or (object_at k l) (unwrap_or (object_at k (e ∷ [])) v) ∷ xs) tail

-- nothing is listed
pub nothing_listed : {A : Type 0} (k : ℕ) (vs : List A) → values_from k [] vs ≡ vs
unfolding values_from
nothing_listed k [] = refl
nothing_listed {A} k (v ∷ vs) = ap (λ (more : List A). v ∷ more) (nothing_listed (suc k) vs)

apart : (m n : ℕ) (b : Bool) → nat_eq m n ≡ b → (m ≡ n → ⊥) → b ≡ false
apart m n true e not = absurd (not (eqb-true m n e))
apart m n false e not = refl

-- what is listed before the first index is not met
passed_over : {A : Type 0} (k i : ℕ) (v : A) (vs : List A) → i < k → values_from k ((i, v) ∷ []) vs ≡ vs
unfolding values_from
passed_over k i v [] below = refl
passed_over {A} k i v (w ∷ ws) below =
    let other : nat_eq k i ≡ false = apart k i (nat_eq k i) refl (λ same. omega (arith, below, same)) in
    rw (object_later k (i, v) [] other)
    (ap (λ (more : List A). w ∷ more) (passed_over (suc k) i v ws (omega (arith, below))))

-- one value is set
set_one : {A : Type 0} (k j i : ℕ) (v : A) (vs : List A) → i ≡ k + j → j < length vs
    → values_from k ((i, v) ∷ []) vs ≡ set vs j v
unfolding values_from
set_one k j i v [] is within = absurd (omega (arith, within))
set_one {A} k zero i v (w ∷ ws) is within =
    let same : k ≡ i = omega (arith, is) in
    let here : object_at k ((i, v) ∷ []) ≡ Some v =
    ap (λ (n : ℕ). object_at n ((i, v) ∷ [])) same ∙ object_here (i, v) [] in
    rw here (ap (λ (more : List A). v ∷ more) (passed_over (suc k) i v ws (omega (arith, is))))
set_one {A} k (suc j) i v (w ∷ ws) is within =
    let other : nat_eq k i ≡ false = apart k i (nat_eq k i) refl (λ same. omega (arith, is, same)) in
    rw (object_later k (i, v) [] other)
    (ap (λ (more : List A). w ∷ more) (set_one (suc k) j i v ws (omega (arith, is)) (omega (arith, within))))

last_there : {A : Type 0} (P : A → Type 0) (l : List A) (e : A) → AllByRecursion P (l ++ e ∷ []) → AllByRecursion P l × P e
last_there P [] e all = (tt, all.0)
last_there P (f ∷ l) e all =
    let later = last_there P l e all.1 in
    ((all.0, later.0), later.1)

-- the last of what is listed is set
pub set_last : {A B : Type 0} (see : B → ℕ × A) (all left : List B) (e : B) (vs new goal : List A) (count : ℕ)
    → all ≡ left ++ e ∷ [] → AreThere (map see all) count → count ≡ length vs
    → new ≡ set vs (see e).0 (see e).1 → values_after (map see all) vs ≡ goal
    → values_after (map see left) new ≡ goal
set_last {A} {B} see all left e vs new goal count is there size set_is so_far =
    let split : map see all ≡ map see left ++ see e ∷ [] = ap (map see) is ∙ map-append see left (e ∷ []) in
    let parts = last_there (λ (x : ℕ × A). x.0 < count) (map see left) (see e)
    (subst (λ (l : List (ℕ × A)). AreThere l count) split there) in
    let within : (see e).0 < count = parts.1 in
    let one : values_from 0 (see e ∷ []) vs ≡ set vs (see e).0 (see e).1 =
    set_one 0 (see e).0 (see e).0 (see e).1 vs (omega arith) (omega (arith, within, size)) in
    ap (λ (ws : List A). values_after (map see left) ws) (set_is ∙ sym one)
    ∙ sym (last_first 0 (map see left) (see e) vs)
    ∙ sym (ap (λ (l : List (ℕ × A)). values_after l vs) split) ∙ so_far

-- the index that is listed last is there, and so are those before it
pub left_there : {A B : Type 0} (see : B → ℕ × A) (all left : List B) (e : B) (count : ℕ) → all ≡ left ++ e ∷ []
    → AreThere (map see all) count → AreThere (map see left) count × ((see e).0 < count)
left_there {A} {B} see all left e count is there =
    let split : map see all ≡ map see left ++ see e ∷ [] = ap (map see) is ∙ map-append see left (e ∷ []) in
    last_there (λ (x : ℕ × A). x.0 < count) (map see left) (see e)
    (subst (λ (l : List (ℕ × A)). AreThere l count) split there)

-- how many there are, by what is seen of each
pub seen_length : {A B : Type 0} (see : A → B) (xs : List A) → length (map see xs) ≡ length xs
seen_length see [] = refl
seen_length see (x ∷ xs) = ap suc (seen_length see xs)

-- nothing is left to set
pub none_left : {A B : Type 0} (see : B → ℕ × A) (left : List B) (vs goal : List A) → length left ≡ 0
    → values_after (map see left) vs ≡ goal → vs ≡ goal
none_left see [] vs goal none so_far = sym (nothing_listed 0 vs) ∙ so_far
none_left see (x ∷ left) vs goal none so_far = absurd (omega (arith, none))

-- ---- services

-- a service keeps its kind in another state
pub kinds_stay : (xs : List StoredHost) (i : ℕ) (here other : StoredHost) → here ≡ get_or xs i here
    → other.kind ≡ here.kind → map (λ (s : ℕ × List ℕ). s.0) (services_of (set xs i other))
    ≡ map (λ (s : ℕ × List ℕ). s.0) (services_of xs)
kinds_stay xs i here other is same =
    ap (map (λ (s : ℕ × List ℕ). s.0)) (map-set service_of xs i other)
    ∙ map-set_same (λ (s : ℕ × List ℕ). s.0) (services_of xs) i (service_of other) (service_of here)
    (same ∙ ap (λ (h : StoredHost). h.kind) is
    ∙ sym (ap (λ (s : ℕ × List ℕ). s.0) (get_or-map service_of xs i here)))

-- a service has another state, and the others theirs
pub states_set : (xs : List StoredHost) (i : ℕ) (other : StoredHost)
    → map (λ (s : ℕ × List ℕ). s.1) (services_of (set xs i other))
    ≡ set (map (λ (s : ℕ × List ℕ). s.1) (services_of xs)) i other.state.items
states_set xs i other =
    ap (map (λ (s : ℕ × List ℕ). s.1)) (map-set service_of xs i other)
    ∙ map-set (λ (s : ℕ × List ℕ). s.1) (services_of xs) i (service_of other)

-- ---- values in a map

is_at_eq : (x y : ℕ) → is_at (nat_cmp x) y ≡ nat_eq x y
is_at_eq x y = grind (arith, nat_tests)

flipped : (x y : ℕ) → nat_eq x y ≡ nat_eq y x
flipped x y = grind (arith, nat_tests)

module _ {X P : Type 0} (see : X → P) where
  abbrev pub seen : List (ℕ × X) → List (ℕ × P)
  seen es = map (λ (e : ℕ × X). (e.0, see e.1)) es

  seen_at : (n : ℕ) (es : List (ℕ × X)) → object_at n (seen es) ≡ option_map see (lookup (is_at (nat_cmp n)) es)
  seen_at n [] = refl
  seen_at n (e ∷ es) =
      go (nat_eq n e.0) (is_at (nat_cmp n) e.0) (sym (is_at_eq n e.0)) (seen_at n es)
    where
      go : (b c : Bool) → b ≡ c → object_at n (seen es) ≡ option_map see (lookup (is_at (nat_cmp n)) es)
          → cond b (Some (see e.1)) (object_at n (seen es))
          ≡ option_map see (cond c (Some e.1) (lookup (is_at (nat_cmp n)) es))
      go true true is later = refl
      go true false is later = absurd cc
      go false true is later = absurd cc
      go false false is later = later

  -- what is at each number after one was changed
  pub at_after : (old new : BTreeMap ℕ X) (k : ℕ) (w : Option X) (n : ℕ)
      → ((q : ℕ) → get nat_cmp new q ≡ cond (is_at (nat_cmp k) q) w (get nat_cmp old q))
      → object_at n (seen new.entries) ≡ cond (nat_eq k n) (option_map see w) (object_at n (seen old.entries))
  at_after old new k w n updates =
      seen_at n new.entries ∙ ap (option_map see) (updates n) ∙ go (is_at (nat_cmp k) n) (nat_eq k n) (is_at_eq k n)
    where
      go : (b c : Bool) → b ≡ c → option_map see (cond b w (get nat_cmp old n))
          ≡ cond c (option_map see w) (object_at n (seen old.entries))
      go true true is = refl
      go true false is = absurd cc
      go false true is = absurd cc
      go false false is = sym (seen_at n old.entries)

  -- one number more is gone
  pub gone_next : (old new : BTreeMap ℕ X) (gone : List ℕ) (i d n : ℕ) (goal : Option P) → i < length gone
      → ((q : ℕ) → get nat_cmp new q ≡ cond (is_at (nat_cmp (get_or gone i d)) q) None (get nat_cmp old q))
      → cond (is_among (drop i gone) n) None (object_at n (seen old.entries)) ≡ goal
      → cond (is_among (drop (i + 1) gone) n) None (object_at n (seen new.entries)) ≡ goal
  gone_next old new gone i d n goal within updates so_far =
      let g = get_or gone i d in
      let split : drop i gone ≡ g ∷ drop (i + 1) gone = drop-cons gone i d within ∙ rw add-one refl in
      let rest = is_among (drop (i + 1) gone) n in
      ap (λ (o : Option P). cond rest None o) (at_after old new g None n updates)
      ∙ go rest (nat_eq g n) (nat_eq n g) (flipped g n)
      ∙ sym (ap (λ (ns : List ℕ). cond (is_among ns n) None (object_at n (seen old.entries))) split) ∙ so_far
    where
      go : (r b c : Bool) → b ≡ c → cond r None (cond b None (object_at n (seen old.entries)))
          ≡ cond (c || r) None (object_at n (seen old.entries))
      go true true true is = refl
      go true false false is = refl
      go false true true is = refl
      go false false false is = refl
      go r true false is = absurd cc
      go r false true is = absurd cc

  -- all that go are gone
  pub all_gone : (now : BTreeMap ℕ X) (gone : List ℕ) (i n : ℕ) (goal : Option P) → length gone ≤ i
      → cond (is_among (drop i gone) n) None (object_at n (seen now.entries)) ≡ goal
      → object_at n (seen now.entries) ≡ goal
  all_gone now gone i n goal past so_far =
      sym (ap (λ (ns : List ℕ). cond (is_among ns n) None (object_at n (seen now.entries))) (drop_all i gone past)) ∙ so_far

-- ---- objects that are put

either : {A : Type 0} (a b c : Option A) → option_or (option_or a b) c ≡ option_or a (option_or b c)
either None b c = refl
either (Some x) b c = refl

map_or : {A B : Type 0} (f : A → B) (a b : Option A)
    → option_map f (option_or a b) ≡ option_or (option_map f a) (option_map f b)
map_or f None b = refl
map_or f (Some x) b = refl

-- the last of the objects is put
pub put_last : (ms : List Loaded) (old new : BTreeMap ℕ NamedObject) (all left : List StoredObject) (o : StoredObject)
    (named : NamedObject) (n : ℕ) (goal : Option (Plain (List ℕ))) → all ≡ left ++ o ∷ []
    → object_seen named ≡ by_name ms (plain_of o.body)
    → ((q : ℕ) → get nat_cmp new q ≡ cond (is_at (nat_cmp o.number) q) (Some named) (get nat_cmp old q))
    → option_or (object_by_name ms (objects_of all) n) (object_at n (objects_seen old)) ≡ goal
    → option_or (object_by_name ms (objects_of left) n) (object_at n (objects_seen new)) ≡ goal
put_last ms old new all left o named n goal is same updates so_far =
    let split : objects_of all ≡ objects_of left ++ object_of o ∷ [] =
    ap (map object_of) is ∙ map-append object_of left (o ∷ []) in
    let last = object_by_name ms (object_of o ∷ []) n in
    let first = object_by_name ms (objects_of left) n in
    let parts : object_by_name ms (objects_of all) n ≡ option_or first last =
    ap (λ (l : List (ℕ × Plain ℕ)). object_by_name ms l n) split
    ∙ ap (option_map (by_name ms)) (first_counts n (objects_of left) (object_of o))
    ∙ map_or (by_name ms) (object_at n (objects_of left)) (object_at n (object_of o ∷ [])) in
    let one : object_at n (objects_seen new) ≡ option_or last (object_at n (objects_seen old)) =
    at_after object_seen old new o.number (Some named) n updates
    ∙ ap (λ (p : Plain (List ℕ)). cond (nat_eq o.number n) (Some p) (object_at n (objects_seen old))) same
    ∙ go (nat_eq o.number n) (nat_eq n o.number) (flipped o.number n) in
    ap (λ (v : Option (Plain (List ℕ))). option_or first v) one
    ∙ sym (either first last (object_at n (objects_seen old)))
    ∙ sym (ap (λ (v : Option (Plain (List ℕ))). option_or v (object_at n (objects_seen old))) parts) ∙ so_far
  where
    go : (b c : Bool) → b ≡ c
        → cond b (Some (by_name ms (plain_of o.body))) (object_at n (objects_seen old))
        ≡ option_or (option_map (by_name ms) (cond c (Some (plain_of o.body)) None)) (object_at n (objects_seen old))
    go true true is = refl
    go false false is = refl
    go true false is = absurd cc
    go false true is = absurd cc

-- all objects are put
pub all_put : (ms : List Loaded) (now : BTreeMap ℕ NamedObject) (left : List StoredObject) (n : ℕ)
    (goal : Option (Plain (List ℕ))) → length left ≡ 0
    → option_or (object_by_name ms (objects_of left) n) (object_at n (objects_seen now)) ≡ goal
    → object_at n (objects_seen now) ≡ goal
all_put ms now [] n goal none so_far = so_far
all_put ms now (o ∷ left) n goal none so_far = absurd (omega (arith, none))

-- ---- what is there

-- indexes that pass the test are there
pub they_are_there : {A : Type 0} (listed : List (ℕ × A)) (count : ℕ)
    → list_all (λ (e : ℕ × A). ltb e.0 count) listed ≡ true → AreThere listed count
they_are_there [] count h = tt
they_are_there (e ∷ listed) count h =
    let p = both (ltb e.0 count) (list_all (λ e. ltb e.0 count) listed) h in
    (ltb-true e.0 count p.0, they_are_there listed count p.1)

-- indexes that are there pass the test
pub there_passes : {A : Type 0} (listed : List (ℕ × A)) (count : ℕ) → AreThere listed count
    → list_all (λ (e : ℕ × A). ltb e.0 count) listed ≡ true
there_passes [] count h = refl
there_passes (e ∷ listed) count h = rw (lt-ltb e.0 count h.0) (there_passes listed count h.1)

-- indexes that passed a test of them are there
pub passed_there : {A : Type 0} (listed words : List (ℕ × A)) (count size : ℕ) (passed : Bool)
    → passed ≡ list_all (λ (e : ℕ × A). ltb e.0 count) words → words ≡ listed → count ≡ size → passed ≡ true
    → AreThere listed size
passed_there {A} listed words count size passed test same is holds =
    they_are_there listed size
    (ap (λ (n : ℕ). list_all (λ (e : ℕ × A). ltb e.0 n) listed) (sym is)
    ∙ ap (list_all (λ (e : ℕ × A). ltb e.0 count)) (sym same) ∙ sym test ∙ holds)

-- indexes that did not pass are not all there
pub failed_there : {A : Type 0} (listed words : List (ℕ × A)) (count size : ℕ) (passed : Bool)
    → passed ≡ list_all (λ (e : ℕ × A). ltb e.0 count) words → words ≡ listed → count ≡ size → passed ≡ false
    → AreThere listed size → ⊥
failed_there {A} listed words count size passed test same is fails there =
    let passes : passed ≡ true =
    test ∙ ap (list_all (λ (e : ℕ × A). ltb e.0 count)) same
    ∙ ap (λ (n : ℕ). list_all (λ (e : ℕ × A). ltb e.0 n) listed) is ∙ there_passes listed size there in
    absurd (false≢true (sym fails ∙ passes))
