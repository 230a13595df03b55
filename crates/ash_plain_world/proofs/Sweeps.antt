-- What is found from what is held is what can be reached, and what goes is what a sweep takes.
use Rattle.std.proofs.Common.{◌≡◌, ◌<◌, ◌≤◌, ◌+◌, ℕ, zero, suc, Bool, true, false, cond, not, List, [], ◌∷◌, ◌++◌, ◌⊎◌, inl, inr, length, get_or, refl, sym, subst, ap, ◌∙◌, nat_eq, arith, Option, Some, None, map, append-nil, append_assoc, length-append}
use Rattle.std.specs.Prelude.{slice_get, filter, ◌&&◌, is_some, Contains}
use Rattle.std.specs.List.{IsDistinct}
use Rattle.std.specs.Option.{option_map_or, is_none}
use Rattle.std.specs.Map.{keys_of}
use Rattle.std.proofs.lemmas.Bool.{eqb-true, eq-eqb}
use Rattle.std.proofs.lemmas.Cmp.{nat_eq_equiv}
use Rattle.std.proofs.lemmas.List.{get_or_append_left}
use Rattle.std.proofs.lemmas.Option.{get_or_from_slice_get}
use Rattle.std.proofs.lemmas.List.Folds.{list_any-append}
use Rattle.std.proofs.lemmas.Map.Keys.{IsDistinct-push}
use Rattle.std.proofs.lemmas.Map.Steps.{length-le_from_keys}
use Rattle.ash_host.specs.declared.word.Word.{Word}
use Rattle.ash_host.specs.Objects.{Plain, LiveObjects, object_at, numbers, Lives, references, handles, fields_of, is_host}
use Rattle.ash_host.specs.Reach.{Root, Field, ReachableIn, is_among, is_reachable, after_sweep, drops_of_sweep}
use Rattle.ash_host.proofs.Membership.{or_cases, or_first, or_second, is_among_yes, is_among_says, is_among-numbers, refers_lives}
use Rattle.ash_host.proofs.ReachLaws.{is_reachable_says, is_reachable_yes, object_at-after_sweep}
use Rattle.ash_plain_data.specs.declared.object.Object as object
use Rattle.ash_plain_data.specs.ObjectViews.{object_seen, entry_seen}
use Rattle.ash_plain_world.specs.Sweeping.{with_one, with_found, gone}

-- words of an object, and what it refers to

pub handles_of_words : (o : Option (Plain (List ℕ))) → handles (option_map_or fields_of o []) ≡ option_map_or (λ (x : Plain (List ℕ)). handles (fields_of x)) o []
handles_of_words None = refl
handles_of_words (Some x) = refl

-- numbers that are found

pub record Grown (objects : LiveObjects (List ℕ)) (more old new : List ℕ) : Type 0 where
  pub rest : List ℕ
  pub grows : new ≡ old ++ rest
  pub has : (n : ℕ) → is_among more n ≡ true → Lives objects n → is_among new n ≡ true
  pub only : (n : ℕ) → is_among new n ≡ true → (is_among old n ≡ true) ⊎ ((is_among more n ≡ true) × Lives objects n)
  pub distinct : IsDistinct nat_eq old → IsDistinct nat_eq new

among_stays : (xs ys : List ℕ) (n : ℕ) → is_among xs n ≡ true → is_among (xs ++ ys) n ≡ true
among_stays xs ys n h = list_any-append (nat_eq n) xs ys ∙ or_first (is_among xs n) (is_among ys n) h

among_last : (xs : List ℕ) (n : ℕ) → is_among (xs ++ n ∷ []) n ≡ true
among_last xs n = list_any-append (nat_eq n) xs (n ∷ []) ∙ or_second (is_among xs n) (is_among (n ∷ []) n) (or_first (nat_eq n n) false (eq-eqb n n refl))

none_among : {A : Type 0} → false ≡ true → A
none_among h = cc

among_one : (xs : List ℕ) (m n : ℕ) → is_among (xs ++ m ∷ []) n ≡ true → (is_among xs n ≡ true) ⊎ (n ≡ m)
among_one xs m n h =
    elim (or_cases (is_among xs n) (is_among (m ∷ []) n) (sym (list_any-append (nat_eq n) xs (m ∷ [])) ∙ h)) [
      | inl here ↦ inl here
      | inr last ↦
          elim (or_cases (nat_eq n m) (is_among [] n) last) [
            | inl same ↦ inr (eqb-true n m same)
            | inr never ↦ none_among never
          ]
    ]

among_at : (xs : List ℕ) (i : ℕ) → i < length xs → is_among xs (get_or xs i 0) ≡ true
among_at [] i h = absurd (omega arith)
among_at (x ∷ xs) zero h = or_first (nat_eq x x) (is_among xs x) (eq-eqb x x refl)
among_at (x ∷ xs) (suc i) h = or_second (nat_eq (get_or xs i 0) x) (is_among xs (get_or xs i 0)) (among_at xs i (omega arith))

place_of : (xs : List ℕ) (n : ℕ) → is_among xs n ≡ true → (i : ℕ) × (i < length xs) × (get_or xs i 0 ≡ n)
place_of [] n h = cc
place_of (x ∷ xs) n h =
    elim (or_cases (nat_eq n x) (is_among xs n) h) [
      | inl same ↦ (0, omega arith, sym (eqb-true n x same))
      | inr later ↦ let p = place_of xs n later in (suc p.0, omega (arith, p.1), p.2)
    ]

module _ (objects : LiveObjects (List ℕ)) where
  grown_none : (more old : List ℕ) → ((n : ℕ) → is_among more n ≡ true → Lives objects n → is_among old n ≡ true) → Grown objects more old old
  grown_none more old had = record {
    rest = [];
    grows = sym (append-nil old);
    has = had;
    only = λ n h. inl h;
    distinct = λ d. d;
  }

  only_one : (m n : ℕ) → is_among (m ∷ []) n ≡ true → n ≡ m
  only_one m n h =
      elim (or_cases (nat_eq n m) (is_among [] n) h) [
        | inl same ↦ eqb-true n m same
        | inr never ↦ none_among never
      ]

  grown_one : (m : ℕ) (old : List ℕ) → Grown objects (m ∷ []) old (with_one objects m old)
  grown_one m old = go (is_some (object_at m objects)) refl (is_among old m) refl
    where
      go : (l : Bool) → is_some (object_at m objects) ≡ l → (b : Bool) → is_among old m ≡ b → Grown objects (m ∷ []) old (cond l (cond b old (old ++ m ∷ [])) old)
      go false e b f = grown_none (m ∷ []) old (λ n h lives. let same = only_one m n h in let there : is_some (object_at m objects) ≡ true = subst (λ (k : ℕ). is_some (object_at k objects) ≡ true) same lives in cc)
      go true e true f = grown_none (m ∷ []) old (λ n h lives. subst (λ (k : ℕ). is_among old k ≡ true) (sym (only_one m n h)) f)
      go true e false f = record {
        rest = m ∷ [];
        grows = refl;
        has = λ n h lives. subst (λ (k : ℕ). is_among (old ++ m ∷ []) k ≡ true) (sym (only_one m n h)) (among_last old m);
        only = λ n h. elim (among_one old m n h) [
          | inl here ↦ inl here
          | inr same ↦ inr (or_first (nat_eq n m) false (eq-eqb n m same), subst (λ (k : ℕ). is_some (object_at k objects) ≡ true) (sym same) e)
        ];
        distinct = λ d. IsDistinct-push nat_eq_equiv old m d f;
      }

  -- first one more, then the others
  grown_then : (m : ℕ) (more old mid new : List ℕ) → Grown objects (m ∷ []) old mid → Grown objects more mid new → Grown objects (m ∷ more) old new
  grown_then m more old mid new g h = record {
    rest = g.rest ++ h.rest;
    grows = h.grows ∙ ap (λ (l : List ℕ). l ++ h.rest) g.grows ∙ append_assoc old g.rest h.rest;
    has = λ n among lives. elim (or_cases (nat_eq n m) (is_among more n) among) [
      | inl same ↦ subst (λ (l : List ℕ). is_among l n ≡ true) (sym h.grows) (among_stays mid h.rest n (g.has n (or_first (nat_eq n m) false same) lives))
      | inr later ↦ h.has n later lives
    ];
    only = λ n among. elim (h.only n among) [
      | inl before ↦
          elim (g.only n before) [
            | inl old_one ↦ inl old_one
            | inr first ↦ inr (or_first (nat_eq n m) (is_among more n) (eq-eqb n m (only_one m n first.0)), first.1)
          ]
      | inr later ↦ inr (or_second (nat_eq n m) (is_among more n) later.0, later.1)
    ];
    distinct = λ d. h.distinct (g.distinct d);
  }

  pub grown : (more old : List ℕ) → Grown objects more old (with_found objects more old)
  grown [] old = grown_none [] old (λ n h lives. cc)
  grown (m ∷ more) old = grown_then m more old (with_one objects m old) (with_found objects more (with_one objects m old)) (grown_one m old) (grown more (with_one objects m old))

  -- the search, with what the first so many refer to found as well

  pub record IsSearch (held found : List ℕ) (next : ℕ) : Type 0 where
    pub within : next ≤ length found
    pub distinct : IsDistinct nat_eq found
    pub live : (n : ℕ) → is_among found n ≡ true → Lives objects n
    pub sound : (n : ℕ) → is_among found n ≡ true → is_reachable held objects n ≡ true
    pub roots : (n : ℕ) → is_among held n ≡ true → Lives objects n → is_among found n ≡ true
    pub closed : (i : ℕ) → i < next → (n : ℕ) → is_among (references objects (get_or found i 0)) n ≡ true → Lives objects n → is_among found n ≡ true

  pub search_begins : (held : List ℕ) → IsSearch held (with_found objects held []) 0
  unfolding IsDistinct
  search_begins held =
      let g = grown held [] in record {
        within = omega arith;
        distinct = g.distinct tt;
        live = λ n h. elim (g.only n h) [ inl never ↦ none_among never | inr two ↦ two.1 ];
        sound = λ n h. elim (g.only n h) [ inl never ↦ none_among never | inr two ↦ is_reachable_yes held objects n (Root (is_among_says n held two.0)) ];
        roots = λ n h lives. g.has n h lives;
        closed = λ i below n h lives. absurd (omega arith);
      }

  pub search_goes_on : (held found : List ℕ) (next : ℕ) → next < length found → IsSearch held found next → IsSearch held (with_found objects (references objects (get_or found next 0)) found) (next + 1)
  search_goes_on held found next below s =
      let one : ℕ = get_or found next 0 in
      let more : List ℕ = references objects one in
      let new : List ℕ = with_found objects more found in
      let g = grown more found in record {
        within = longer new g.rest g.grows;
        distinct = g.distinct s.distinct;
        live = λ n h. elim (g.only n h) [ inl old ↦ s.live n old | inr two ↦ two.1 ];
        sound = λ n h. elim (g.only n h) [ inl old ↦ s.sound n old | inr two ↦ is_reachable_yes held objects n (Field (is_reachable_says held objects one (s.sound one (among_at found next below))) (is_among_says n more two.0)) ];
        roots = λ n h lives. stays new g.rest g.grows n (s.roots n h lives);
        closed = λ i low n h lives. elim (low_or_last i low) [
          | inl lower ↦ stays new g.rest g.grows n (s.closed i lower n (subst (λ (k : ℕ). is_among (references objects k) n ≡ true) (same_at new g.rest g.grows i (omega (arith, lower, below))) h) lives)
          | inr last ↦ g.has n (subst (λ (k : ℕ). is_among (references objects k) n ≡ true) (ap (λ (j : ℕ). get_or new j 0) last ∙ same_at new g.rest g.grows next below) h) lives
        ];
      }
    where
      longer : (new rest : List ℕ) → new ≡ found ++ rest → next + 1 ≤ length new
      longer new rest e = omega (arith, ap (λ (l : List ℕ). length l) e, length-append found rest)

      stays : (new rest : List ℕ) → new ≡ found ++ rest → (n : ℕ) → is_among found n ≡ true → is_among new n ≡ true
      stays new rest e n h = subst (λ (l : List ℕ). is_among l n ≡ true) (sym e) (among_stays found rest n h)

      same_at : (new rest : List ℕ) → new ≡ found ++ rest → (i : ℕ) → i < length found → get_or new i 0 ≡ get_or found i 0
      same_at new rest e i low = ap (λ (l : List ℕ). get_or l i 0) e ∙ get_or_append_left found rest 0 i low

      low_or_last : (i : ℕ) → i < next + 1 → (i < next) ⊎ (i ≡ next)
      low_or_last i low = grind arith

  -- the same, by what the calls of the code give
  pub search_step : (held found : List ℕ) (next one : ℕ) (words : List Word) (numbers new : List ℕ) → next < length found → slice_get found next ≡ Some one → words ≡ option_map_or fields_of (object_at one objects) [] → numbers ≡ handles words → new ≡ with_found objects numbers found → IsSearch held found next → IsSearch held new (next + 1)
  search_step held found next one words numbers new below is read listed made s =
      let at : one ≡ get_or found next 0 = sym (get_or_from_slice_get found next one 0 is) in
      let all : numbers ≡ references objects (get_or found next 0) = listed ∙ ap handles read ∙ handles_of_words (object_at one objects) ∙ ap (references objects) at in
      subst (λ (l : List ℕ). IsSearch held l (next + 1)) (sym (made ∙ ap (λ (ns : List ℕ). with_found objects ns found) all)) (search_goes_on held found next below s)

  -- no more are found than live
  pub search_bounded : (held found : List ℕ) (next : ℕ) → IsSearch held found next → length found ≤ length objects
  search_bounded held found next s = length-le_from_keys nat_eq_equiv found objects s.distinct s.live

  complete : (held found : List ℕ) (next : ℕ) → length found ≤ next → IsSearch held found next → (n : ℕ) → ReachableIn (Contains held) objects n → Lives objects n → is_among found n ≡ true
  complete held found next over s n (Root h) lives = s.roots n (is_among_yes n held h) lives
  complete held found next over s n (Field {one} r f) lives =
      let refers : is_among (references objects one) n ≡ true = is_among_yes n (references objects one) f in
      let p = place_of found one (complete held found next over s one r (refers_lives objects one n refers)) in
      s.closed p.0 (omega (arith, p.1)) n (subst (λ (k : ℕ). is_among (references objects k) n ≡ true) (sym p.2) refers) lives

  same_bool : (a b : Bool) → (a ≡ true → b ≡ true) → (b ≡ true → a ≡ true) → a ≡ b
  same_bool true b f g = sym (f refl)
  same_bool false true f g = g refl
  same_bool false false f g = refl

  -- at the end what is found of the live objects is what can be reached
  pub search_ends : (held found : List ℕ) (next : ℕ) → length found ≤ next → IsSearch held found next → (n : ℕ) → Lives objects n → is_among found n ≡ is_reachable held objects n
  search_ends held found next over s n lives =
      same_bool (is_among found n) (is_reachable held objects n) (s.sound n) (λ h. complete held found next over s n (is_reachable_says held objects n h) lives)

-- the sweep

same_filter : {A : Type 0} (p q : ℕ × A → Bool) (l : List (ℕ × A)) → ((e : ℕ × A) → is_among (numbers l) e.0 ≡ true → p e ≡ q e) → filter p l ≡ filter q l
same_filter p q [] same = refl
same_filter {A} p q (e ∷ l) same =
    ap (λ (b : Bool). cond b (e ∷ filter p l) (filter p l)) (same e (or_first (nat_eq e.0 e.0) (is_among (numbers l) e.0) (eq-eqb e.0 e.0 refl)))
    ∙ ap (λ (m : List (ℕ × A)). cond (q e) (e ∷ m) m) (same_filter p q l (λ x h. same x (or_second (nat_eq x.0 e.0) (is_among (numbers l) x.0) h)))

module _ (objects : LiveObjects (List ℕ)) (held found : List ℕ) (reached : (n : ℕ) → Lives objects n → is_among found n ≡ is_reachable held objects n) where
  lives_there : (n : ℕ) → is_among (numbers objects) n ≡ true → Lives objects n
  lives_there n h = sym (is_among-numbers n objects) ∙ h

  pub swept_objects : filter (λ (e : ℕ × Plain (List ℕ)). is_among found e.0) objects ≡ after_sweep held objects
  swept_objects = same_filter (λ e. is_among found e.0) (λ e. is_reachable held objects e.0) objects (λ e h. reached e.0 (lives_there e.0 h))

  pub swept_hosts : keys_of (filter (λ (e : ℕ × Plain (List ℕ)). is_host e.1 && not (is_among found e.0)) objects) ≡ drops_of_sweep held objects
  swept_hosts =
      ap keys_of (same_filter (λ e. is_host e.1 && not (is_among found e.0)) (λ e. is_host e.1 && is_none (object_at e.0 (after_sweep held objects))) objects (λ e h. ap (λ (b : Bool). is_host e.1 && b) (goes e.0 (lives_there e.0 h))))
    where
      left : (b : Bool) (o : Option (Plain (List ℕ))) → is_some o ≡ true → not b ≡ is_none (cond b o None)
      left true o h = ap not (sym h)
      left false o h = refl

      goes : (n : ℕ) → Lives objects n → not (is_among found n) ≡ is_none (object_at n (after_sweep held objects))
      goes n lives = ap not (reached n lives) ∙ left (is_reachable held objects n) (object_at n objects) lives ∙ ap is_none (sym (object_at-after_sweep held objects n))

pub gone_seen : (found : List ℕ) (es : List (ℕ × object.Object)) → gone found es ≡ keys_of (filter (λ (e : ℕ × Plain (List ℕ)). is_host e.1 && not (is_among found e.0)) (map entry_seen es))
gone_seen found [] = refl
gone_seen found (e ∷ es) =
    kept (is_host (object_seen e.1) && not (is_among found e.0)) (filter (λ (x : ℕ × object.Object). is_host (object_seen x.1) && not (is_among found x.0)) es)
    ∙ ap (λ (l : List ℕ). cond (is_host (object_seen e.1) && not (is_among found e.0)) (e.0 ∷ l) l) (gone_seen found es)
    ∙ sym (shown (is_host (object_seen e.1) && not (is_among found e.0)) (filter (λ (x : ℕ × Plain (List ℕ)). is_host x.1 && not (is_among found x.0)) (map entry_seen es)))
  where
    kept : (b : Bool) (l : List (ℕ × object.Object)) → keys_of (cond b (e ∷ l) l) ≡ cond b (e.0 ∷ keys_of l) (keys_of l)
    kept true l = refl
    kept false l = refl

    shown : (b : Bool) (l : List (ℕ × Plain (List ℕ))) → keys_of (cond b (entry_seen e ∷ l) l) ≡ cond b (e.0 ∷ keys_of l) (keys_of l)
    shown true l = refl
    shown false l = refl
