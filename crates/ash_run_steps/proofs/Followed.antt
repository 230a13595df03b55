-- Tables that follow one another.
use Rattle.std.proofs.Common.{◌≡◌, ◌⊎◌, ◌<◌, ◌≤◌, ◌+◌, ℕ, Bool, true, false, cond, List, [], ◌∷◌, ◌++◌, refl, sym, ap, ◌∙◌, subst, arith, nat_eq, inl, inr, ⊎_elim}
use Rattle.std.specs.Prelude.{Option, Some, None, IsSome, Contains, is_some, nat_le, slice_get}
use Rattle.std.specs.List.{AllByRecursion}
use Rattle.std.specs.Option.{option_map, option_or, option_and_then}
use Rattle.std.proofs.lemmas.Bool.{eqb-true, cases_lt}
use Rattle.std.proofs.lemmas.Bool.Decides.{nat_tests}
use Rattle.std.proofs.lemmas.List.{map-append}
use Rattle.std.proofs.lemmas.List.Elements.{Contains-append_left, Contains-append_right}
use Rattle.ash_host.specs.declared.answer.HostAnswer.{HostAnswer}
use Rattle.ash_host.specs.declared.event.Target.{Target}
use Rattle.ash_host.specs.declared.event.Target.TheVariants as targets
use Rattle.ash_host.specs.declared.host_object.HostObject.{Ghosts}
use Rattle.ash_host.specs.Calls.{HostCall, SameRelation}
use Rattle.ash_host.specs.Objects.{object_at, Lives}
use Rattle.ash_host.specs.Records.{HostRecord}
use Rattle.ash_host.proofs.Order.{object_at-with_at}
use Rattle.ash_slots.specs.declared.body.Body.{Body}
use Rattle.ash_slots.specs.SlotResponses.{box_of}
use Rattle.ash_slots.proofs.Changing.{object_at-change}
use Rattle.ash_objects.specs.Making.{new_object, with_new_object}
use Rattle.ash_objects.specs.Restoring.{draw_box}
use Rattle.ash_objects.specs.Responses.{box_at}
use Rattle.ash_objects.specs.Table.{Living, Table, with_object}
use Rattle.ash_run_steps.specs.Answered.{IsStill, IsValidOf}
use Rattle.ash_run_steps.specs.Drawing.{Drawing, Short, Enough, draw_all, draw_then, with_first, kinds_of}
use Rattle.ash_run_steps.specs.Following.{HasAnswered, box_for, IsGivenBetween, KeepsBoxes, HasGone, KeepsMarks, IsMarked, MarksNoMore, Follows}

-- lists

pub all_both : {X : Type 0} (P Q R : X → Type 0) → ((x : X) → P x → R x) → ((x : X) → Q x → R x) → (xs ys : List X)
    → AllByRecursion P xs → AllByRecursion Q ys → AllByRecursion R (xs ++ ys)
all_both P Q R one other [] [] h k = tt
all_both P Q R one other [] (y ∷ ys) h k = (other y k.0, all_both P Q R one other [] ys tt k.1)
all_both P Q R one other (x ∷ xs) ys h k = (one x h.0, all_both P Q R one other xs ys h.1 k)

pub at_append : {X : Type 0} (n : ℕ) (xs ys : List (ℕ × X)) → object_at n (xs ++ ys) ≡ option_or (object_at n xs) (object_at n ys)
at_append n [] ys = refl
at_append {X} n (e ∷ xs) ys = go (nat_eq n e.0) (at_append n xs ys)
  where
    go : (b : Bool) → object_at n (xs ++ ys) ≡ option_or (object_at n xs) (object_at n ys)
        → cond b (Some e.1) (object_at n (xs ++ ys)) ≡ option_or (cond b (Some e.1) (object_at n xs)) (object_at n ys)
    go true later = refl
    go false later = later

-- draws, one after another

module _ {B : Type 0} (G : Ghosts B) where
  before : List (ℕ × B) → Drawing B → Drawing B
  before boxes (Short kind) = Short kind
  before boxes (Enough others left) = Enough (boxes ++ others) left

  none_before : (rest : Drawing B) → before [] rest ≡ rest
  unfolding before
  none_before (Short kind) = refl
  none_before (Enough others left) = refl

  first_before : (n : ℕ) (box : B) (boxes : List (ℕ × B)) (rest : Drawing B)
      → with_first n box (before boxes rest) ≡ before ((n, box) ∷ boxes) rest
  unfolding before
  first_before n box boxes (Short kind) = refl
  first_before n box boxes (Enough others left) = refl

  -- draws of some kinds, and then of others
  abbrev AreDrawnFirst : List (ℕ × ℕ) → List (ℕ × ℕ) → Type 0
  AreDrawnFirst ks ls = (pool : List B) (boxes : List (ℕ × B)) (left : List B) → draw_all G ks pool ≡ Enough boxes left
      → draw_all G (ks ++ ls) pool ≡ before boxes (draw_all G ls left)

  drawn_by : (n : ℕ) (ks ls : List (ℕ × ℕ)) (box : B) (pool : List B) (d : Drawing B) (boxes : List (ℕ × B)) (left : List B) → AreDrawnFirst ks ls
      → draw_all G ks pool ≡ d → with_first n box d ≡ Enough boxes left
      → with_first n box (draw_all G (ks ++ ls) pool) ≡ before boxes (draw_all G ls left)
  drawn_by n ks ls box pool (Short kind) boxes left later drew is = absurd (cc)
  drawn_by n ks ls box pool (Enough others rest) boxes left later drew is =
      let all : (n, box) ∷ others ≡ boxes = cc in
      let same : rest ≡ left = cc in
      ap (with_first n box) (later pool others rest drew)
      ∙ first_before n box others (draw_all G ls rest)
      ∙ ap (λ (l : List (ℕ × B)). before l (draw_all G ls rest)) all
      ∙ ap (λ (l : List B). before boxes (draw_all G ls l)) same

  drawn_then : (n kind : ℕ) (ks ls : List (ℕ × ℕ)) (one : Option (B × List B)) (boxes : List (ℕ × B)) (left : List B) → AreDrawnFirst ks ls
      → draw_then n kind one (λ l. draw_all G ks l) ≡ Enough boxes left
      → draw_then n kind one (λ l. draw_all G (ks ++ ls) l) ≡ before boxes (draw_all G ls left)
  drawn_then n kind ks ls None boxes left later is = absurd (cc)
  drawn_then n kind ks ls (Some one) boxes left later is = drawn_by n ks ls one.0 one.1 (draw_all G ks one.1) boxes left later refl is

  draw_more : (ks ls : List (ℕ × ℕ)) → AreDrawnFirst ks ls
  draw_more [] ls pool boxes left is =
      let none : [] ≡ boxes = cc in
      let all : pool ≡ left = cc in
      ap (draw_all G ls) all ∙ sym (none_before (draw_all G ls left)) ∙ ap (λ (l : List (ℕ × B)). before l (draw_all G ls left)) none
  draw_more (e ∷ ks) ls pool boxes left is = drawn_then e.0 e.1 ks ls (draw_box G e.1 pool) boxes left (draw_more ks ls) is

  pub draws_then : (one two : List (ℕ × B)) (pool mid left : List B) → draw_all G (kinds_of G one) pool ≡ Enough one mid
      → draw_all G (kinds_of G two) mid ≡ Enough two left → draw_all G (kinds_of G (one ++ two)) pool ≡ Enough (one ++ two) left
  unfolding before
  draws_then one two pool mid left first second =
      ap (λ (ks : List (ℕ × ℕ)). draw_all G ks pool) (map-append (λ (e : ℕ × B). (e.0, G.kind_of e.1)) one two)
      ∙ draw_more (kinds_of G one) (kinds_of G two) pool one mid first
      ∙ ap (before one) second

  -- what boxes still are

  pub same_relation : (relation : HostCall → List ℕ → HostAnswer → List ℕ → Type 0) → SameRelation relation relation
  same_relation relation = record { onward = λ _ _ _ _ h. h; back = λ _ _ _ _ h. h }

  pub still_same : (o : Option B) (box : B) → o ≡ Some box → IsStill G o box
  still_same None box is = absurd (cc)
  still_same (Some other) box is =
      let same : other ≡ box = cc in
      subst (λ (b : B). IsStill G (Some other) b) same (refl, same_relation (G.allows other))

  still_then : (o : Option B) (mid after : B) → IsStill G o mid → IsStill G (Some mid) after → IsStill G o after
  still_then None mid after one two = absurd one
  still_then (Some other) mid after one two = (
    two.0 ∙ one.0,
    record {
      onward = λ c b a d h. two.1.onward c b a d (one.1.onward c b a d h);
      back = λ c b a d h. one.1.back c b a d (two.1.back c b a d h);
    },
  )

  still_through : (o p : Option B) (after : B) → ((mid : B) → p ≡ Some mid → IsStill G o mid) → IsStill G p after → IsStill G o after
  still_through o None after first is = absurd is
  still_through o (Some mid) after first is = still_then o mid after (first mid refl) is

  valid_back : (o : Option B) (mid : B) (r : HostRecord) → IsStill G o mid → IsValidOf G (Some mid) r → IsValidOf G o r
  valid_back None mid r still is = absurd still
  valid_back (Some other) mid r still is = record {
    allowed = still.1.back r.call r.before r.answer r.after is.allowed;
    answered_fits = is.answered_fits;
    before_fits = is.before_fits;
    after_fits = is.after_fits;
  }

  pub valid_through : (o p : Option B) (r : HostRecord) → ((mid : B) → p ≡ Some mid → IsStill G o mid) → IsValidOf G p r → IsValidOf G o r
  valid_through o None r first is = absurd is
  valid_through o (Some mid) r first is = valid_back o mid r (first mid refl) is

  still_or : (o p : Option B) (box : B) → IsStill G o box → IsStill G (option_or o p) box
  still_or None p box is = absurd is
  still_or (Some other) p box is = is

  valid_or : (o p : Option B) (r : HostRecord) → IsValidOf G o r → IsValidOf G (option_or o p) r
  valid_or None p r is = absurd is
  valid_or (Some other) p r is = is

  -- no number that is given later was drawn
  none_drawn : (old mid : Table B) (n : ℕ) (drawn : List (ℕ × B)) → AllByRecursion (λ (e : ℕ × B). IsGivenBetween old mid e.0) drawn → mid.last < n
      → object_at n drawn ≡ None
  none_drawn old mid n [] given above = refl
  none_drawn old mid n (e ∷ drawn) given above =
      let within : e.0 ≤ mid.last = (given.0).1 in
      let other : nat_eq n e.0 ≡ false = grind (arith, nat_tests) in
      ap (λ (b : Bool). cond b (Some e.1) (object_at n drawn)) other ∙ none_drawn old mid n drawn given.1 above

  -- a record of what an object answered that was drawn before is one of it after further draws
  pub valid_later : (old : Table B) (one two : List (ℕ × B)) (target : Target) (r : HostRecord) → IsValidOf G (box_for old one target) r
      → IsValidOf G (box_for old (one ++ two) target) r
  valid_later old one two (targets.Service place) r is = is
  valid_later old one two (targets.Object n) r is = go (nat_le n old.last) is
    where
      go : (b : Bool) → IsValidOf G (cond b (box_at n old) (object_at n one)) r → IsValidOf G (cond b (box_at n old) (object_at n (one ++ two))) r
      go true is = is
      go false is = subst (λ (o : Option B). IsValidOf G o r) (sym (at_append n one two)) (valid_or (object_at n one) (object_at n two) r is)

  -- a box that is there after some draws, among those of all
  pub traced : (one two : List (ℕ × B)) (old mid : Table B) → KeepsBoxes G one old mid → (target : Target) (box : B)
      → box_for mid two target ≡ Some box → IsStill G (box_for old (one ++ two) target) box
  traced one two old mid keeps (targets.Service place) box is = keeps.still (targets.Service place) box is
  traced one two old mid keeps (targets.Object n) box is =
      go (nat_le n old.last) (nat_le n mid.last) refl refl is (keeps.still (targets.Object n))
    where
      go : (b c : Bool) → nat_le n old.last ≡ b → nat_le n mid.last ≡ c → cond c (box_at n mid) (object_at n two) ≡ Some box
          → ((other : B) → cond c (box_at n mid) None ≡ Some other → IsStill G (cond b (box_at n old) (object_at n one)) other)
          → IsStill G (cond b (box_at n old) (object_at n (one ++ two))) box
      go true true below given is still = still box is
      go true false below given is still = let rises = keeps.rises in absurd (grind (arith, nat_tests))
      go false true below given is still =
          subst (λ (o : Option B). IsStill G o box) (sym (at_append n one two)) (still_or (object_at n one) (object_at n two) box (still box is))
      go false false below given is still =
          let above : mid.last < n = grind (arith, nat_tests) in
          let none = none_drawn old mid n one keeps.given above in
          still_same (object_at n (one ++ two)) box (at_append n one two ∙ ap (λ (o : Option B). option_or o (object_at n two)) none ∙ is)

  pub keeps_then : (one two : List (ℕ × B)) (old mid new : Table B) → KeepsBoxes G one old mid → KeepsBoxes G two mid new → KeepsBoxes G (one ++ two) old new
  keeps_then one two old mid new first second = record {
    rises = omega (arith, first.rises, second.rises);
    given = all_both (λ e. IsGivenBetween old mid e.0) (λ e. IsGivenBetween mid new e.0) (λ e. IsGivenBetween old new e.0)
        (λ e h. (h.0, omega (arith, h.1, second.rises))) (λ e h. (omega (arith, h.0, first.rises), h.1)) one two first.given second.given;
    first_free = draws_then one two old.pool mid.pool new.pool first.first_free second.first_free;
    still = λ target box is. still_through (box_for old (one ++ two) target) (box_for mid two target) box (traced one two old mid first target) (second.still target box is);
  }

  -- boxes stay if each that is there was there
  pub keeps_by : (old new : Table B) → old.last ≤ new.last → new.pool ≡ old.pool → new.services ≡ old.services
      → ((n : ℕ) (box : B) → n ≤ new.last → box_at n new ≡ Some box → (n ≤ old.last) × (box_at n old ≡ Some box)) → KeepsBoxes G [] old new
  keeps_by old new rises pool services boxes = record {
    rises = rises;
    given = tt;
    first_free = ap (Enough []) (sym pool);
    still = λ target box is. still_same (box_for old [] target) box (was target box is);
  }
    where
      was : (target : Target) (box : B) → box_for new [] target ≡ Some box → box_for old [] target ≡ Some box
      was (targets.Object n) box is = go (nat_le n new.last) refl is
        where
          go : (c : Bool) → nat_le n new.last ≡ c → cond c (box_at n new) None ≡ Some box → cond (nat_le n old.last) (box_at n old) None ≡ Some box
          go true given is =
              let there = boxes n box (grind (arith, nat_tests)) is in
              let below : n ≤ old.last = there.0 in
              let yes : nat_le n old.last ≡ true = grind (arith, nat_tests) in
              ap (λ (b : Bool). cond b (box_at n old) None) yes ∙ there.1
          go false given is = absurd (cc)
      was (targets.Service place) box is = subst (λ (l : List B). slice_get l place ≡ Some box) services is

-- marks

module _ {B : Type 0} where
  pub marks_then : (old mid new : Table B) → old.last ≤ mid.last → KeepsMarks old mid → KeepsMarks mid new → KeepsMarks old new
  marks_then old mid new rises first second = record {
    settled = second.settled ∙ first.settled;
    unmarked = λ n x at un.
        let two = second.unmarked n x at un in
        let one = first.unmarked n two.0 two.1 (ap (λ (l : Living B). l.touched) two.2 ∙ un) in
        (one.0, one.1, one.2 ∙ two.2);
    once = λ n below lives. first.once n below (second.once n (omega (arith, below, rises)) lives);
    gone = λ cleared n. (told cleared n, kept cleared n);
  }
    where
      later : old.settled ≤ old.last → mid.settled ≤ mid.last
      later cleared = omega (arith, cleared, rises, first.settled)

      none_again : (n : ℕ) → n ≤ mid.last → object_at n mid.objects ≡ None → object_at n new.objects ≡ None
      none_again n below none = go (object_at n new.objects) refl
        where
          go : (o : Option (Living B)) → object_at n new.objects ≡ o → object_at n new.objects ≡ None
          go None is = is
          go (Some x) is = let lives = second.once n below (ap is_some is) in let not = ap is_some none in absurd (cc)

      told : old.settled ≤ old.last → (n : ℕ) → Contains new.gone n → Contains old.gone n ⊎ HasGone old new n
      told cleared n h =
          elim ((second.gone (later cleared) n).0 h) [
            | inl there ↦
                elim ((first.gone cleared n).0 there) [
                  | inl was ↦ inl was
                  | inr went ↦
                      inr (record { settled = went.settled; lived = went.lived; none = none_again n (omega (arith, went.settled, cleared, rises)) went.none })
                ]
            | inr went ↦
                let settled : n ≤ old.settled = omega (arith, went.settled, first.settled) in
                inr (record { settled = settled; lived = first.once n (omega (arith, settled, cleared)) went.lived; none = went.none })
          ]

      kept : old.settled ≤ old.last → (n : ℕ) → Contains old.gone n ⊎ HasGone old new n → Contains new.gone n
      kept cleared n (inl was) = (second.gone (later cleared) n).1 (inl ((first.gone cleared n).1 (inl was)))
      kept cleared n (inr went) = go (object_at n mid.objects) refl
        where
          go : (o : Option (Living B)) → object_at n mid.objects ≡ o → Contains new.gone n
          go None is =
              (second.gone (later cleared) n).1 (inl ((first.gone cleared n).1 (inr (record { settled = went.settled; lived = went.lived; none = is }))))
          go (Some x) is =
              (second.gone (later cleared) n).1 (inr (record { settled = omega (arith, went.settled, first.settled); lived = ap is_some is; none = went.none }))

  -- marks stay if none goes, and what has no mark is what it was
  pub marks_by : (old new : Table B) → new.settled ≡ old.settled → new.gone ≡ old.gone
      → ((n : ℕ) (x : Living B) → object_at n new.objects ≡ Some x → x.touched ≡ false → object_at n old.objects ≡ Some x)
      → ((n : ℕ) → n ≤ old.last → Lives new.objects n → Lives old.objects n)
      → ((n : ℕ) → Lives old.objects n → Lives new.objects n) → KeepsMarks old new
  marks_by old new settled gone same once stays = record {
    settled = settled;
    unmarked = λ n x at un. (x, same n x at un, refl);
    once = once;
    gone = λ cleared n. (
      λ h. inl (subst (λ (l : List ℕ). Contains l n) gone h),
      λ h. elim h [
        | inl was ↦ subst (λ (l : List ℕ). Contains l n) (sym gone) was
        | inr went ↦ let lives = stays n went.lived in let not = ap is_some went.none in absurd (cc)
      ],
    );
  }

  -- marks of an object that is changed
  pub marks_changed : (f : Living B → Living B) → ((x : Living B) → (f x).touched ≡ true) → (n : ℕ) (table : Table B) → KeepsMarks table (with_object n f table)
  marks_changed f touches n table =
      marks_by table (with_object n f table) refl refl
      (λ m x at un. same x un (nat_eq n m) (object_at m table.objects) (sym (object_at-change n f m table.objects) ∙ at))
      (λ m below lives. sym (living m) ∙ lives)
      (λ m lives. living m ∙ lives)
    where
      same : (x : Living B) → x.touched ≡ false → (b : Bool) (o : Option (Living B)) → cond b (option_map f o) o ≡ Some x → o ≡ Some x
      same x un true None at = absurd (cc)
      same x un true (Some y) at = let touched = touches y in let is : f y ≡ x = cc in let not = ap (λ (l : Living B). l.touched) is in absurd (cc)
      same x un false o at = at

      there : (b : Bool) (o : Option (Living B)) → is_some (cond b (option_map f o) o) ≡ is_some o
      there true None = refl
      there true (Some y) = refl
      there false o = refl

      living : (m : ℕ) → is_some (object_at m (with_object n f table).objects) ≡ is_some (object_at m table.objects)
      living m = ap is_some (object_at-change n f m table.objects) ∙ there (nat_eq n m) (object_at m table.objects)

  -- the mark of an object that is made, whatever becomes of the pool
  pub marks_made : (slot : ℕ) (body : Body B) (pool : List B) (table : Table B) → KeepsMarks table (record (with_new_object slot body table) { pool = pool })
  marks_made slot body pool table =
      marks_by table (record (with_new_object slot body table) { pool = pool }) refl refl
      (λ m x at un. same x un (nat_eq m (table.last + 1)) (object_at m table.objects) (sym (new_at m) ∙ at))
      (λ m below lives. once m below (nat_eq m (table.last + 1)) refl (sym (ap is_some (new_at m)) ∙ lives))
      (λ m lives. ap is_some (new_at m) ∙ there (nat_eq m (table.last + 1)) (object_at m table.objects) lives)
    where
      new_at : (m : ℕ) → object_at m (with_new_object slot body table).objects ≡ cond (nat_eq m (table.last + 1)) (Some (new_object slot body)) (object_at m table.objects)
      new_at m = object_at-with_at (table.last + 1) (new_object slot body) m table.objects

      same : (x : Living B) → x.touched ≡ false → (b : Bool) (o : Option (Living B)) → cond b (Some (new_object slot body)) o ≡ Some x → o ≡ Some x
      same x un true o at = let is : new_object slot body ≡ x = cc in let touched = ap (λ (l : Living B). l.touched) is in absurd (cc)
      same x un false o at = at

      once : (m : ℕ) → m ≤ table.last → (b : Bool) → nat_eq m (table.last + 1) ≡ b → is_some (cond b (Some (new_object slot body)) (object_at m table.objects)) ≡ true
          → is_some (object_at m table.objects) ≡ true
      once m below true is lives = let next = eqb-true m (table.last + 1) is in absurd (omega (arith, next, below))
      once m below false is lives = lives

      there : (b : Bool) (o : Option (Living B)) → is_some o ≡ true → is_some (cond b (Some (new_object slot body)) o) ≡ true
      there true o lives = refl
      there false o lives = lives

-- marks of host objects

answered_first : (one two : List HostRecord) (n : ℕ) → HasAnswered one n → HasAnswered (one ++ two) n
answered_first one two n has = (has.0, Contains-append_left one two has.0 has.1, has.2)

answered_later : (one two : List HostRecord) (n : ℕ) → HasAnswered two n → HasAnswered (one ++ two) n
answered_later one two n has = (has.0, Contains-append_right one two has.0 has.1, has.2)

module _ {B : Type 0} where
  boxed_lives : (n : ℕ) (table : Table B) (x : Living B) → object_at n table.objects ≡ Some x → IsSome (box_at n table) → IsSome (box_of x.body)
  boxed_lives n table x at has = subst (λ (o : Option (Living B)). IsSome (option_and_then (λ (y : Living B). box_of y.body) o)) at has

  no_more_then : (one two : List HostRecord) (old mid new : Table B) → old.last ≤ mid.last
      → ((n : ℕ) → n ≤ mid.last → IsSome (box_at n new) → IsSome (box_at n mid))
      → MarksNoMore one old mid → MarksNoMore two mid new → MarksNoMore (one ++ two) old new
  no_more_then one two old mid new rises was first second n is has =
      elim (second n is has) [
        | inl given ↦ inl (omega (arith, given, rises))
        | inr earlier ↦
            elim earlier [
              | inl marked ↦ before marked
              | inr answered ↦ inr (inr (answered_later one two n answered))
            ]
      ]
    where
      onward : (old.last < n) ⊎ (IsMarked old n ⊎ HasAnswered one n) → (old.last < n) ⊎ (IsMarked old n ⊎ HasAnswered (one ++ two) n)
      onward (inl given) = inl given
      onward (inr (inl marked)) = inr (inl marked)
      onward (inr (inr answered)) = inr (inr (answered_first one two n answered))

      before : IsMarked mid n → (old.last < n) ⊎ (IsMarked old n ⊎ HasAnswered (one ++ two) n)
      before marked =
          ⊎_elim (λ above. inl (omega (arith, above, rises)))
          (λ below. onward (first n marked (was n below has)))
          (cases_lt mid.last n)

  -- an object that is changed, and is no host object
  pub no_more_changed : (f : Living B → Living B) (n : ℕ) (table : Table B) → (box_at n table ≡ None)
      → ((x : Living B) → box_of (f x).body ≡ box_of x.body) → MarksNoMore [] table (with_object n f table)
  no_more_changed f n table none same m is has =
      go (nat_eq n m) refl (object_at m table.objects) refl (sym (object_at-change n f m table.objects) ∙ is.there)
    where
      boxed : IsSome (box_of (is.object).body)
      boxed = boxed_lives m (with_object n f table) is.object is.there has

      unboxed : (y : Living B) → n ≡ m → object_at m table.objects ≡ Some y → box_of y.body ≡ None
      unboxed y here at =
          sym (ap (option_and_then (λ (x : Living B). box_of x.body)) at)
          ∙ ap (λ (k : ℕ). box_at k table) (sym here) ∙ none

      go : (b : Bool) → nat_eq n m ≡ b → (o : Option (Living B)) → object_at m table.objects ≡ o → cond b (option_map f o) o ≡ Some is.object
          → (table.last < m) ⊎ (IsMarked table m ⊎ HasAnswered [] m)
      go true here None at now = absurd (cc)
      go true here (Some y) at now =
          let one : f y ≡ is.object = cc in
          let lacks : box_of (is.object).body ≡ None = ap (λ (x : Living B). box_of x.body) (sym one) ∙ same y ∙ unboxed y (eqb-true n m here) at in
          let no = subst (λ (o : Option B). IsSome o) lacks boxed in
          absurd (cc)
      go false other o at now = inr (inl (record { object = is.object; there = at ∙ now; marked = is.marked }))

  -- the host object that gave an answer
  pub no_more_answered : (records : List HostRecord) (f : Living B → Living B) (n : ℕ) (table : Table B) → HasAnswered records n
      → MarksNoMore records table (with_object n f table)
  no_more_answered records f n table answered m is has =
      go (nat_eq n m) refl (sym (object_at-change n f m table.objects) ∙ is.there)
    where
      go : (b : Bool) → nat_eq n m ≡ b → cond b (option_map f (object_at m table.objects)) (object_at m table.objects) ≡ Some is.object
          → (table.last < m) ⊎ (IsMarked table m ⊎ HasAnswered records m)
      go true here now = inr (inr (subst (HasAnswered records) (eqb-true n m here) answered))
      go false other now = inr (inl (record { object = is.object; there = now; marked = is.marked }))

  -- an object that is made
  pub no_more_made : (records : List HostRecord) (slot : ℕ) (body : Body B) (pool : List B) (table : Table B)
      → MarksNoMore records table (record (with_new_object slot body table) { pool = pool })
  no_more_made records slot body pool table m is has =
      go (nat_eq m (table.last + 1)) refl (sym (object_at-with_at (table.last + 1) (new_object slot body) m table.objects) ∙ is.there)
    where
      go : (b : Bool) → nat_eq m (table.last + 1) ≡ b → cond b (Some (new_object slot body)) (object_at m table.objects) ≡ Some is.object
          → (table.last < m) ⊎ (IsMarked table m ⊎ HasAnswered records m)
      go true next now = let at = eqb-true m (table.last + 1) next in inl (omega (arith, at))
      go false other now = inr (inl (record { object = is.object; there = now; marked = is.marked }))

module _ {B : Type 0} (G : Ghosts B) where
  -- a box that is there of a number that was given was there
  box_was : (drawn : List (ℕ × B)) (old new : Table B) → KeepsBoxes G drawn old new → (n : ℕ) → n ≤ old.last → n ≤ new.last → IsSome (box_at n new) → IsSome (box_at n old)
  box_was drawn old new keeps n before within has = go (box_at n new) refl has
    where
      still_some : (o : Option B) (box : B) → IsStill G o box → IsSome o
      still_some None box is = absurd is
      still_some (Some other) box is = refl

      go : (o : Option B) → box_at n new ≡ o → IsSome o → IsSome (box_at n old)
      go None is has = absurd (cc)
      go (Some box) is has =
          let now : nat_le n new.last ≡ true = grind (arith, nat_tests) in
          let given : nat_le n old.last ≡ true = grind (arith, nat_tests) in
          let still : IsStill G (box_for old drawn (targets.Object n)) box = keeps.still (targets.Object n) box (ap (λ (b : Bool). cond b (box_at n new) None) now ∙ is) in
          still_some (box_at n old) box (subst (λ (b : Bool). IsStill G (cond b (box_at n old) (object_at n drawn)) box) given still)

  pub follows_then : (one two : List (ℕ × B)) (first_records records : List HostRecord) (old mid new : Table B)
      → Follows G one first_records old mid → Follows G two records mid new → Follows G (one ++ two) (first_records ++ records) old new
  follows_then one two first_records records old mid new first second = record {
    boxes = keeps_then G one two old mid new first.boxes second.boxes;
    marks = marks_then old mid new (first.boxes).rises first.marks second.marks;
    no_more = no_more_then first_records records old mid new (first.boxes).rises
        (λ n below has. box_was two mid new second.boxes n below (omega (arith, below, (second.boxes).rises)) has)
        first.no_more second.no_more;
  }
