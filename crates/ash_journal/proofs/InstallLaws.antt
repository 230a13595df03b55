-- Files settle on old or new contents while a generation or a record is written.
use Rattle.std.proofs.Common.{◌≡◌, ◌⊎◌, inl, inr, ℕ, ◌<◌, List, [], ◌∷◌, ◌++◌, length, refl, sym, ◌∙◌, ap, subst}
use Rattle.std.proofs.Common.{arith, append_assoc}
use Rattle.std.proofs.lemmas.Bool.{cases_eq}
use Rattle.ash_journal.specs.Layout.{mark, block, length_limit, committed_bytes, AreShort, FieldsFit, IsFile, IsOpen, IsClosed, IsShut, HasMark}
use Rattle.ash_journal.specs.Current.{IsContents, HoldsOneOf, IsOlder, RepresentOne, reopened, Reopens, SettleOn}
use Rattle.ash_journal.specs.Opening.{IsCreatedOrClosed}
use Rattle.ash_journal.specs.Writes.{IsUnused, WhileCreated}
use Rattle.ash_journal.proofs.LayoutLaws.{same_file, solid_mark, file_mark, mark_closed, mark_open, solid_no_records}
use Rattle.ash_journal.proofs.LayoutLaws.{committed_bytes-push}
use Rattle.ash_journal.proofs.SettleLaws.{Property, by_invariant, mark_less, older_by_mark, open_or_closed}
use Rattle.ash_journal.proofs.SettleLaws.{open_reopened, open_shut, reopened_twice}
use Rattle.ash_journal.proofs.ReopenLaws.{end_settles, rest_settles}

-- ---- a new generation in the other file

-- a file that is shut, or older with 1 for its first gate
abbrev pub IsAside : ℕ → List ℕ → Type 0
IsAside generation file = IsShut file ⊎ ((older : ℕ) × HasMark older (reopened file) × (older < generation))

-- a whole generation without records after any first gate
abbrev pub IsComing : ℕ → List ℕ → List ℕ → Type 0
IsComing generation image file =
    (gate : ℕ) × (rest : List ℕ) × (file ≡ gate ∷ (mark generation ++ (block image ++ 0 ∷ rest)))

open_gate : (gate : ℕ) (rest file : List ℕ) → IsOpen file → file ≡ gate ∷ rest → gate ≡ 1
open_gate gate [] file is_open is = absurd (subst IsOpen is is_open)
open_gate gate (second ∷ rest) file is_open is = subst IsOpen is is_open

pub aside_closed_or_older : (g : ℕ) (file : List ℕ) → IsAside g file → IsOlder g file
aside_closed_or_older g file aside = elim (open_or_closed file) [
  | inl is_open ↦ from is_open aside
  | inr closed ↦ inl closed
]
  where
    from : IsOpen file → IsAside g file → IsOlder g file
    from is_open (inl shut) = absurd (open_shut file is_open shut)
    from is_open (inr older) =
        inr (older.0, subst (λ (l : List ℕ). HasMark older.0 l) (sym (open_reopened file is_open)) older.1, older.2)

aside_mark : (g h : ℕ) (file : List ℕ) → IsAside g file → HasMark h file → h < g
aside_mark g h file aside marked = mark_less h g file marked (aside_closed_or_older g file aside)

reopened_shut : (file : List ℕ) → IsShut (reopened file) → ⊥
reopened_shut [] shut = omega (arith, shut)
reopened_shut (gate ∷ rest) shut = omega (arith, shut)

aside_reopened : (g : ℕ) (file : List ℕ) → IsAside g file → (IsShut file → ⊥) → IsAside g (reopened file)
aside_reopened g file (inl shut) not_shut = absurd (not_shut shut)
aside_reopened g file (inr older) not_shut =
    inr (older.0, subst (λ (l : List ℕ). HasMark older.0 l) (sym (reopened_twice file)) older.1, older.2)

abbrev Installs : ℕ → ℕ → List ℕ → List ℕ → List ℕ → List ℕ → Type 0
Installs g n image x a b = (a ≡ x) × (IsAside g b ⊎ IsComing n image b)

-- A current file at rest, and the other, on its way to a new generation: they settle on the new and the old.
pub install_settles : (g n : ℕ) (image image' : List ℕ) (bodies : List (List ℕ)) (x rest y : List ℕ)
    → x ≡ committed_bytes g image bodies ++ 0 ∷ rest → FieldsFit g image bodies → FieldsFit n image' [] → g < n
    → IsAside g y ⊎ IsComing n image' y → SettleOn (HoldsOneOf (IsContents (image', [])) (IsContents (image, bodies))) x y
install_settles g n image image' bodies x rest y is fits fits_new less coming =
    by_invariant both (Installs g n image' x) represents preserved x y (refl, coming)
  where
    both : Property
    both = HoldsOneOf (IsContents (image', [])) (IsContents (image, bodies))

    file : IsFile g image bodies x
    file = record { gate = 0; after = rest; shut = λ e. omega (arith, e); bytes = is; fits = fits }

    marked : HasMark g x
    marked = file_mark g image bodies x file

    old : (b : List ℕ) → IsOlder g b → RepresentOne (HoldsOneOf (IsContents (image', [])) (IsContents (image, bodies))) x b
    old b older = ((image, bodies), inr refl, inl (g, record { file = file; older = older }))

    new_file : (b more : List ℕ) → b ≡ 1 ∷ (mark n ++ (block image' ++ 0 ∷ more)) → IsFile n image' [] b
    new_file b more b_is = record {
      gate = 0;
      after = more;
      shut = λ e. omega (arith, e);
      bytes = b_is ∙ sym (solid_no_records n image' (0 ∷ more));
      fits = fits_new;
    }

    represents : (a b : List ℕ) → Installs g n image' x a b
        → RepresentOne (HoldsOneOf (IsContents (image', [])) (IsContents (image, bodies))) a b
    represents a b holds =
        subst (λ (l : List ℕ). RepresentOne (HoldsOneOf (IsContents (image', [])) (IsContents (image, bodies))) l b) (sym holds.0)
        (from holds.1)
      where
        from : IsAside g b ⊎ IsComing n image' b → RepresentOne (HoldsOneOf (IsContents (image', [])) (IsContents (image, bodies))) x b
        from (inl aside) = old b (aside_closed_or_older g b aside)
        from (inr whole) = elim (open_or_closed b) [
          | inl is_open ↦
              let one : whole.0 ≡ 1 = open_gate whole.0 (mark n ++ (block image' ++ 0 ∷ whole.1)) b is_open whole.2 in (
                (image', []),
                inl refl,
                inr (
                  n,
                  record {
                    file = new_file b whole.1
                        (whole.2 ∙ ap (λ (c : ℕ). c ∷ (mark n ++ (block image' ++ 0 ∷ whole.1))) one);
                    older = older_by_mark g n x marked less;
                  },
                ),
              )
          | inr closed ↦ old b (inl closed)
        ]

    preserved : (a b s t : List ℕ) → Installs g n image' x a b → Reopens a b s t → Installs g n image' x s t
    preserved a b s t holds (inl (inl one)) =
        let same = same_file one.0.generation g one.0.image image one.0.bodies bodies one.0.gate 0 one.0.after rest
        one.0.fits fits one.0.not_open (λ e. omega (arith, e)) (sym one.0.bytes ∙ holds.0 ∙ is) in
        absurd (one.0.not_shut same.gates)
    preserved a b s t holds (inl (inr one)) = (one.1 ∙ holds.0, from holds.1)
      where
        from : IsAside g b ⊎ IsComing n image' b → IsAside g t ⊎ IsComing n image' t
        from (inl aside) =
            inl (subst (λ (l : List ℕ). IsAside g l) (sym one.0.opened) (aside_reopened g b aside one.0.not_shut))
        from (inr whole) = inr (1, whole.1, one.0.opened ∙ ap reopened whole.2)
    preserved a b s t holds (inr (inl one)) = absurd (from holds.1)
      where
        b_marked : HasMark one.0.generation b
        b_marked = solid_mark one.0.generation one.0.image one.0.bodies (one.0.gate ∷ one.0.after) b
            one.0.fits.numbered one.0.bytes

        ahead : g < one.0.generation
        ahead = mark_less g one.0.generation x marked
            (subst (λ (l : List ℕ). IsOlder one.0.generation l) holds.0 one.0.older)

        from : IsAside g b ⊎ IsComing n image' b → ⊥
        from (inl aside) = let under : one.0.generation < g = aside_mark g one.0.generation b aside b_marked in
            omega (arith, under, ahead)
        from (inr whole) =
            let opened : whole.0 ≡ 1 =
            open_gate whole.0 (mark n ++ (block image' ++ 0 ∷ whole.1)) b (mark_open one.0.generation b b_marked)
            whole.2 in
            let b_is = whole.2 ∙ ap (λ (c : ℕ). c ∷ (mark n ++ (block image' ++ 0 ∷ whole.1))) opened
            ∙ sym (solid_no_records n image' (0 ∷ whole.1)) in
            let same = same_file one.0.generation n one.0.image image' one.0.bodies [] one.0.gate 0 one.0.after whole.1
            one.0.fits fits_new one.0.not_open (λ e. omega (arith, e)) (sym one.0.bytes ∙ b_is) in
            one.0.not_shut same.gates
    preserved a b s t holds (inr (inr one)) = absurd (mark_closed g x marked (subst IsClosed holds.0 one.0.closed))

-- ---- one record more in the current file

-- a record after the gate of a file at rest, with any byte for that gate
abbrev pub IsGrowing : List ℕ → List ℕ → List ℕ → Type 0
IsGrowing prefix body file =
    ((rest : List ℕ) × (file ≡ prefix ++ 0 ∷ rest))
    ⊎ ((gate : ℕ) × (rest : List ℕ) × (file ≡ prefix ++ gate ∷ (block body ++ 0 ∷ rest)))

short_push : (bodies : List (List ℕ)) (body : List ℕ) → AreShort bodies → length body < length_limit
    → AreShort (bodies ++ body ∷ [])
short_push [] body short fits = (fits, tt)
short_push (first ∷ bodies) body short fits = (short.0, short_push bodies body short.1 fits)

pub fits_push : (g : ℕ) (image : List ℕ) (bodies : List (List ℕ)) (body : List ℕ) → FieldsFit g image bodies
    → length body < length_limit → FieldsFit g image (bodies ++ body ∷ [])
fits_push g image bodies body fits short =
    record {
      numbered = fits.numbered;
      image_short = fits.image_short;
      bodies_short = short_push bodies body fits.bodies_short short;
    }

-- with 1 for its gate the record counts
pub grown : (g : ℕ) (image : List ℕ) (bodies : List (List ℕ)) (body rest : List ℕ)
    → committed_bytes g image bodies ++ 1 ∷ (block body ++ rest) ≡ committed_bytes g image (bodies ++ body ∷ []) ++ rest
grown g image bodies body rest =
    sym (append_assoc (committed_bytes g image bodies) (1 ∷ block body) rest)
    ∙ ap (λ (l : List ℕ). l ++ rest) (sym (committed_bytes-push g image bodies body))

-- A file at rest settles, with any other, on what it did or on one record more, while that record is written.
pub append_settles : (P : Property) (g : ℕ) (image : List ℕ) (bodies : List (List ℕ)) (body x rest u y : List ℕ)
    → x ≡ committed_bytes g image bodies ++ 0 ∷ rest → FieldsFit g image bodies → length body < length_limit
    → IsGrowing (committed_bytes g image bodies) body u → SettleOn P x y
    → SettleOn (HoldsOneOf (IsContents (image, bodies ++ body ∷ [])) P) u y
append_settles P g image bodies body x rest u y is fits short growing settle = from growing
  where
    file : IsFile g image bodies x
    file = record { gate = 0; after = rest; shut = λ e. omega (arith, e); bytes = is; fits = fits }

    grown_settles : (w more v : List ℕ) → w ≡ committed_bytes g image bodies ++ 1 ∷ (block body ++ 0 ∷ more) → SettleOn P x v
        → SettleOn (HoldsOneOf (IsContents (image, bodies ++ body ∷ [])) P) w v
    grown_settles w more v w_is settles =
        rest_settles P (HoldsOneOf (IsContents (image, bodies ++ body ∷ [])) P) g image image bodies (bodies ++ body ∷ []) x w more
        v file (w_is ∙ grown g image bodies body (0 ∷ more)) (fits_push g image bodies body fits short)
        (λ was. inl refl) (λ contents one. inr one) settles

    from : IsGrowing (committed_bytes g image bodies) body u → SettleOn (HoldsOneOf (IsContents (image, bodies ++ body ∷ [])) P) u y
    from (inl rests) =
        rest_settles P (HoldsOneOf (IsContents (image, bodies ++ body ∷ [])) P) g image image bodies bodies x u rests.0 y file
        rests.1 fits (λ was. inr was) (λ contents one. inr one) settle
    from (inr whole) = elim (cases_eq whole.0 1) [
      | inl open_now ↦
          grown_settles u whole.1 y
          (whole.2 ∙ ap (λ (c : ℕ). committed_bytes g image bodies ++ c ∷ (block body ++ 0 ∷ whole.1)) open_now) settle
      | inr shut ↦
          subst (λ (l : List ℕ). SettleOn (HoldsOneOf (IsContents (image, bodies ++ body ∷ [])) P) l y) (sym whole.2)
          (end_settles P (HoldsOneOf (IsContents (image, bodies ++ body ∷ [])) P) g image bodies x whole.0
          (block body ++ 0 ∷ whole.1) y file shut (λ contents one. inr one)
          (λ v settles older.
          grown_settles (committed_bytes g image bodies ++ 1 ∷ (block body ++ 0 ∷ whole.1)) whole.1 v refl settles) settle)
    ]

-- A current file at rest and one that is shut or older: they settle on what the first represents alone.
pub repaired_settles : (g : ℕ) (image : List ℕ) (bodies : List (List ℕ)) (x rest y : List ℕ)
    → x ≡ committed_bytes g image bodies ++ 0 ∷ rest → FieldsFit g image bodies → IsAside g y → SettleOn (IsContents (image, bodies)) x y
repaired_settles g image bodies x rest y is fits aside =
    by_invariant (IsContents (image, bodies)) (λ (a b : List ℕ). (a ≡ x) × IsAside g b) represents preserved x y (refl, aside)
  where
    file : IsFile g image bodies x
    file = record { gate = 0; after = rest; shut = λ e. omega (arith, e); bytes = is; fits = fits }

    marked : HasMark g x
    marked = file_mark g image bodies x file

    represents : (a b : List ℕ) → (a ≡ x) × IsAside g b → RepresentOne (IsContents (image, bodies)) a b
    represents a b holds =
        subst (λ (l : List ℕ). RepresentOne (IsContents (image, bodies)) l b) (sym holds.0)
        ((image, bodies), refl, inl (g, record { file = file; older = aside_closed_or_older g b holds.1 }))

    preserved : (a b s t : List ℕ) → (a ≡ x) × IsAside g b → Reopens a b s t → (s ≡ x) × IsAside g t
    preserved a b s t holds (inl (inl one)) =
        let same = same_file one.0.generation g one.0.image image one.0.bodies bodies one.0.gate 0 one.0.after rest
        one.0.fits fits one.0.not_open (λ e. omega (arith, e)) (sym one.0.bytes ∙ holds.0 ∙ is) in
        absurd (one.0.not_shut same.gates)
    preserved a b s t holds (inl (inr one)) = (
      one.1 ∙ holds.0,
      subst (λ (l : List ℕ). IsAside g l) (sym one.0.opened) (aside_reopened g b holds.1 one.0.not_shut),
    )
    preserved a b s t holds (inr (inl one)) =
        let b_marked : HasMark one.0.generation b =
        solid_mark one.0.generation one.0.image one.0.bodies (one.0.gate ∷ one.0.after) b one.0.fits.numbered
        one.0.bytes in
        let ahead : g < one.0.generation =
        mark_less g one.0.generation x marked
        (subst (λ (l : List ℕ). IsOlder one.0.generation l) holds.0 one.0.older) in
        let under : one.0.generation < g = aside_mark g one.0.generation b holds.1 b_marked in
        absurd (omega (arith, under, ahead))
    preserved a b s t holds (inr (inr one)) = absurd (mark_closed g x marked (subst IsClosed holds.0 one.0.closed))

-- ---- a first generation

idle_closed : (file : List ℕ) → IsUnused file → IsClosed file
idle_closed [] idle = tt
idle_closed (gate ∷ []) idle = tt
idle_closed (gate ∷ second ∷ rest) (inl tiny) = absurd (omega arith)
idle_closed (gate ∷ second ∷ rest) (inr shut) = λ is_open. omega (arith, is_open, shut)

idle_reopened : (file : List ℕ) → IsUnused file → (IsShut file → ⊥) → IsUnused (reopened file)
idle_reopened [] idle not_shut = inl (omega arith)
idle_reopened (gate ∷ rest) (inl tiny) not_shut = inl (omega (arith, tiny))
idle_reopened (gate ∷ rest) (inr shut) not_shut = absurd (not_shut shut)

-- A file at rest and one that was never in use: they settle on what the first represents.
created_settles : (g : ℕ) (image x rest y : List ℕ) → x ≡ committed_bytes g image [] ++ 0 ∷ rest → FieldsFit g image [] → IsUnused y
    → SettleOn (IsContents (image, [])) x y
created_settles g image x rest y is fits idle =
    by_invariant (IsContents (image, [])) (λ (a b : List ℕ). (a ≡ x) × IsUnused b) represents preserved x y (refl, idle)
  where
    file : IsFile g image [] x
    file = record { gate = 0; after = rest; shut = λ e. omega (arith, e); bytes = is; fits = fits }

    marked : HasMark g x
    marked = file_mark g image [] x file

    represents : (a b : List ℕ) → (a ≡ x) × IsUnused b → RepresentOne (IsContents (image, [])) a b
    represents a b holds =
        subst (λ (l : List ℕ). RepresentOne (IsContents (image, [])) l b) (sym holds.0)
        ((image, []), refl, inl (g, record { file = file; older = inl (idle_closed b holds.1) }))

    preserved : (a b s t : List ℕ) → (a ≡ x) × IsUnused b → Reopens a b s t → (s ≡ x) × IsUnused t
    preserved a b s t holds (inl (inl one)) =
        let same = same_file one.0.generation g one.0.image image one.0.bodies [] one.0.gate 0 one.0.after rest
        one.0.fits fits one.0.not_open (λ e. omega (arith, e)) (sym one.0.bytes ∙ holds.0 ∙ is) in
        absurd (one.0.not_shut same.gates)
    preserved a b s t holds (inl (inr one)) =
        (one.1 ∙ holds.0, subst IsUnused (sym one.0.opened) (idle_reopened b holds.1 one.0.not_shut))
    preserved a b s t holds (inr (inl one)) =
        absurd (mark_closed one.0.generation b
        (solid_mark one.0.generation one.0.image one.0.bodies (one.0.gate ∷ one.0.after) b one.0.fits.numbered
        one.0.bytes) (idle_closed b holds.1))
    preserved a b s t holds (inr (inr one)) = absurd (mark_closed g x marked (subst IsClosed holds.0 one.0.closed))

-- while a first generation is written, no file is open or they settle on it
pub create_settles : (image x y : List ℕ) → length image < length_limit → WhileCreated image x → IsUnused y
    → IsCreatedOrClosed image x y
create_settles image x y short (inl idle) idle_y = inl (idle_closed x idle, idle_closed y idle_y)
create_settles image x y short (inr whole) idle_y = elim (open_or_closed x) [
  | inl is_open ↦
      let one : whole.0 ≡ 1 = open_gate whole.0 (mark 1 ++ (block image ++ 0 ∷ whole.1)) x is_open whole.2 in
      inr (created_settles 1 image x whole.1 y
      (whole.2 ∙ ap (λ (c : ℕ). c ∷ (mark 1 ++ (block image ++ 0 ∷ whole.1))) one
      ∙ sym (solid_no_records 1 image (0 ∷ whole.1)))
      (record { numbered = omega arith; image_short = short; bodies_short = tt }) idle_y)
  | inr closed ↦ inl (closed, idle_closed y idle_y)
]
