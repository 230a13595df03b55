-- What two files settle on, and when it stays so though one of them changes.
use Rattle.std.proofs.Common.{◌≡◌, ◌⊎◌, inl, inr, ℕ, zero, suc, ◌<◌, List, [], ◌∷◌, refl, sym, ◌∙◌, ap, subst, arith}
use Rattle.std.proofs.lemmas.Bool.{cases_eq}
use Rattle.ash_journal.specs.Layout.{IsFile, IsOpen, IsClosed, IsShut, HasMark}
use Rattle.ash_journal.specs.Current.{Contents, IsContents, HoldsOneOf, IsOlder, IsCurrent, Represent, RepresentOne, reopened}
use Rattle.ash_journal.specs.Current.{Reopens, ReopensTimes, SettleOn, MaySettleOn, SettleFurther}
use Rattle.ash_journal.proofs.LayoutLaws.{SameFile, same_file, same_mark, file_mark, mark_closed}

-- a property of contents
abbrev pub Property : Type 1
Property = Contents → Type 0

-- all contents with the first property have the second
abbrev pub Implies : Property → Property → Type 0
Implies P Q = (contents : Contents) → P contents → Q contents

pub open_or_closed : (file : List ℕ) → IsOpen file ⊎ IsClosed file
open_or_closed [] = inr tt
open_or_closed (gate ∷ []) = inr tt
open_or_closed (gate ∷ second ∷ rest) = cases_eq gate 1

-- an open file has 1 for its first gate already
pub open_reopened : (file : List ℕ) → IsOpen file → file ≡ reopened file
open_reopened [] is_open = absurd is_open
open_reopened (gate ∷ []) is_open = absurd is_open
open_reopened (gate ∷ second ∷ rest) is_open = ap (λ (g : ℕ). g ∷ second ∷ rest) is_open

pub reopened_twice : (file : List ℕ) → reopened (reopened file) ≡ reopened file
reopened_twice [] = refl
reopened_twice (gate ∷ rest) = refl

pub open_shut : (file : List ℕ) → IsOpen file → IsShut file → ⊥
open_shut [] is_open shut = is_open
open_shut (gate ∷ []) is_open shut = is_open
open_shut (gate ∷ second ∷ rest) is_open shut = omega (arith, is_open, shut)

-- ---- how files go on to settle

pub represent_now : (P : Property) (x y : List ℕ) → SettleOn P x y → RepresentOne P x y
represent_now P x y settle = settle zero x y (refl, refl)

pub settle_step : (P : Property) (x y s t : List ℕ) → SettleOn P x y → Reopens x y s t → SettleOn P s t
settle_step P x y s t settle one = λ n u v times. settle (suc n) u v (s, t, one, times)

pub by_invariant : (P : Property) (I : List ℕ → List ℕ → Type 0) → ((x y : List ℕ) → I x y → RepresentOne P x y)
    → ((x y s t : List ℕ) → I x y → Reopens x y s t → I s t) → (x y : List ℕ) → I x y → SettleOn P x y
by_invariant P I represents preserved x y holds zero u v times =
    subst (λ (l : List ℕ). RepresentOne P l v) (sym times.0)
    (subst (λ (l : List ℕ). RepresentOne P x l) (sym times.1) (represents x y holds))
by_invariant P I represents preserved x y holds (suc n) u v times =
    by_invariant P I represents preserved times.0 times.1 (preserved x y times.0 times.1 holds times.2) n u v times.3

turned : (x y s t : List ℕ) → Reopens x y s t → Reopens y x t s
turned x y s t (inl one) = inr one
turned x y s t (inr one) = inl one

-- which file comes first makes no difference
pub represent_turned : (contents : Contents) (x y : List ℕ) → Represent contents x y → Represent contents y x
represent_turned contents x y (inl one) = inr one
represent_turned contents x y (inr one) = inl one

times_turned : (n : ℕ) (x y s t : List ℕ) → ReopensTimes n x y s t → ReopensTimes n y x t s
times_turned zero x y s t times = (times.1, times.0)
times_turned (suc n) x y s t times =
    (times.1, times.0, turned x y times.0 times.1 times.2, times_turned n times.0 times.1 s t times.3)

pub settle_turned : (P : Property) (x y : List ℕ) → SettleOn P x y → SettleOn P y x
settle_turned P x y settle =
    by_invariant P (λ (a b : List ℕ). SettleOn P b a)
    (λ a b s. (let one = represent_now P b a s in (one.0, one.1, represent_turned one.0 b a one.2)))
    (λ a b s t holds one. settle_step P b a t s holds (turned a b s t one)) y x settle

-- what they settle on may be said in a weaker way
pub settle_more : (P Q : Property) → Implies P Q → (x y : List ℕ) → SettleOn P x y → SettleOn Q x y
settle_more P Q more x y settle = λ n u v times. let stand = settle n u v times in
    (stand.0, more stand.0 stand.1, stand.2)

-- ---- the current file

pub same_contents : (g h : ℕ) (image other : List ℕ) (bodies others : List (List ℕ)) (file : List ℕ)
    (one : IsFile g image bodies file) (two : IsFile h other others file)
    → SameFile g h image other bodies others one.gate two.gate one.after two.after
same_contents g h image other bodies others file one two =
    same_file g h image other bodies others one.gate two.gate one.after two.after one.fits two.fits one.shut two.shut
    (sym one.bytes ∙ two.bytes)

-- a file with a mark that is no newer than a generation has a smaller number
pub mark_less : (g h : ℕ) (x : List ℕ) → HasMark g x → IsOlder h x → g < h
mark_less g h x marked (inl closed) = absurd (mark_closed g x marked closed)
mark_less g h x marked (inr older) = let same : g ≡ older.0 = same_mark g older.0 x marked older.1 in
    omega (arith, same, older.2)

pub older_by_mark : (g h : ℕ) (x : List ℕ) → HasMark g x → g < h → IsOlder h x
older_by_mark g h x marked less = inr (g, marked, less)

-- the other file is current, with a greater number, and represents one of these
abbrev pub IsAhead : ℕ → Property → List ℕ → Type 0
IsAhead g P y =
    (h : ℕ) × (image : List ℕ) × (bodies : List (List ℕ)) × IsFile h image bodies y × (g < h) × P (image, bodies)

-- of two files that represent one of these, a file of a generation is current, or the other is ahead
pub current_or_ahead : (g : ℕ) (image : List ℕ) (bodies : List (List ℕ)) (P : Property) (x y : List ℕ)
    → IsFile g image bodies x → RepresentOne P x y → IsOlder g y × P (image, bodies) ⊎ IsAhead g P y
current_or_ahead g image bodies P x y file (pair, among, inl is_current) =
    let same = same_contents g is_current.0 image pair.0 bodies pair.1 x file is_current.1.file in
    inl (
      subst (λ (n : ℕ). IsOlder n y) (sym same.generations) is_current.1.older,
      subst (λ (i : List ℕ). P (i, bodies)) (sym same.images)
          (subst (λ (bs : List (List ℕ)). P (pair.0, bs)) (sym same.bodies_same) among),
    )
current_or_ahead g image bodies P x y file (pair, among, inr is_current) =
    inr (
      is_current.0,
      pair.0,
      pair.1,
      is_current.1.file,
      mark_less g is_current.0 x (file_mark g image bodies x file) is_current.1.older,
      among,
    )

one_current : (contents other : Contents) (x y : List ℕ) → (g : ℕ) × IsCurrent g contents.0 contents.1 x y
    → Represent other x y → contents ≡ other
one_current contents other x y one two =
    elim (current_or_ahead one.0 contents.0 contents.1 (IsContents other) x y one.1.file (other, refl, two)) [
      | inl is_current ↦ is_current.1
      | inr ahead ↦ let under : ahead.0 < one.0 =
          mark_less ahead.0 one.0 y (file_mark ahead.0 ahead.1 ahead.2 y ahead.3) one.1.older in
          absurd (omega (arith, under, ahead.4))
    ]

-- two files represent one image and its records
pub represent_once : (contents other : Contents) (x y : List ℕ) → Represent contents x y → Represent other x y
    → contents ≡ other
represent_once contents other x y (inl one) two = one_current contents other x y one two
represent_once contents other x y (inr one) two = one_current contents other y x one (represent_turned other x y two)

-- ---- what files settle on, whatever the other file

-- what files that settle may settle on is as they settle
pub may_settle : (P : Property) (x y : List ℕ) → SettleOn P x y → Implies (MaySettleOn x y) P
may_settle P x y settle contents (n, s, t, times, stand) =
    let one = settle n s t times in subst P (sym (represent_once contents one.0 s t stand one.2)) one.1

pub settle_may : (P : Property) (x y : List ℕ) → SettleOn P x y → SettleOn (MaySettleOn x y) x y
settle_may P x y settle n s t times = let one = settle n s t times in (one.0, (n, s, t, times, one.2), one.2)

-- whatever is said of what the first settle on, and of new contents, is so of what the second settle on
pub further : (P IsNew : Property) (u v x y : List ℕ) → SettleFurther IsNew u v x y → SettleOn P u v
    → SettleOn (HoldsOneOf IsNew P) x y
further P IsNew u v x y more settle =
    settle_more (HoldsOneOf IsNew (MaySettleOn u v)) (HoldsOneOf IsNew P)
    (λ contents one. elim one [ inl new ↦ inl new | inr old ↦ inr (may_settle P u v settle contents old) ]) x y
    (more (settle_may P u v settle))

-- nothing has changed
pub further_same : (IsNew : Property) (x y : List ℕ) → SettleFurther IsNew x y x y
further_same IsNew x y settle =
    settle_more (MaySettleOn x y) (HoldsOneOf IsNew (MaySettleOn x y)) (λ contents old. inr old) x y settle

-- which file comes first makes no difference
pub further_turned : (IsNew : Property) (u v x y : List ℕ) → SettleFurther IsNew u v x y → SettleFurther IsNew v u y x
further_turned IsNew u v x y more settle =
    settle_more (HoldsOneOf IsNew (MaySettleOn u v)) (HoldsOneOf IsNew (MaySettleOn v u))
    (λ contents one. elim one [ inl new ↦ inl new | inr old ↦ inr (may_turned u v contents old) ]) y x
    (settle_turned (HoldsOneOf IsNew (MaySettleOn u v)) x y
    (more (settle_more (MaySettleOn v u) (MaySettleOn u v)
    (λ contents old. may_turned v u contents old) u v (settle_turned (MaySettleOn v u) v u settle))))
  where
    may_turned : (u v : List ℕ) (contents : Contents) → MaySettleOn u v contents → MaySettleOn v u contents
    may_turned u v contents (n, s, t, times, stand) =
        (n, t, s, times_turned n u v s t times, represent_turned contents s t stand)
