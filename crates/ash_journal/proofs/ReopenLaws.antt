-- A repair that a crash cuts short leaves files that settle on what they settled on.
use Rattle.std.proofs.Common.{◌≡◌, ◌≢◌, ◌⊎◌, inl, inr, ℕ, ◌<◌, List, ◌∷◌, ◌++◌, refl, sym, ◌∙◌, ap, subst, arith}
use Rattle.std.proofs.lemmas.Bool.{cases_eq}
use Rattle.ash_journal.specs.Layout.{committed_bytes, FieldsFit, IsFile, IsClosed, IsShut, HasMark}
use Rattle.ash_journal.specs.Current.{IsOlder, RepresentOne, reopened, EndReopens, OtherReopens, Reopens, SettleOn}
use Rattle.ash_journal.proofs.LayoutLaws.{same_file, same_mark, solid_mark, file_mark, mark_closed}
use Rattle.ash_journal.proofs.SettleLaws.{Implies, Property, by_invariant, current_or_ahead, mark_less, older_by_mark}
use Rattle.ash_journal.proofs.SettleLaws.{open_or_closed, open_reopened, settle_step, represent_now}

-- ---- a current file that changes after its mark

-- one file is this one, and with another in its place they settle
abbrev Rests : Property → List ℕ → List ℕ → List ℕ → List ℕ → Type 0
Rests P x w a b = (a ≡ w) × SettleOn P x b

-- A file of the same generation at rest in place of the first: they settle on what they did, and what the new file
-- represents.
pub rest_settles : (P Q : Property) (g : ℕ) (image image' : List ℕ) (bodies bodies' : List (List ℕ))
    (x w rest y : List ℕ) → IsFile g image bodies x → w ≡ committed_bytes g image' bodies' ++ 0 ∷ rest
    → FieldsFit g image' bodies'
    → (P (image, bodies) → Q (image', bodies')) → Implies P Q → SettleOn P x y → SettleOn Q w y
rest_settles P Q g image image' bodies bodies' x w rest y file is fits among more settle =
    by_invariant Q (Rests P x w) represents preserved w y (refl, settle)
  where
    at_rest : IsFile g image' bodies' w
    at_rest = record { gate = 0; after = rest; shut = λ e. omega (arith, e); bytes = is; fits = fits }

    marked : HasMark g w
    marked = file_mark g image' bodies' w at_rest

    x_marked : HasMark g x
    x_marked = file_mark g image bodies x file

    represents : (a b : List ℕ) → Rests P x w a b → RepresentOne Q a b
    represents a b holds =
        subst (λ (l : List ℕ). RepresentOne Q l b) (sym holds.0)
        (elim (current_or_ahead g image bodies P x b file (represent_now P x b holds.1)) [
          | inl is_current ↦
              ((image', bodies'), among is_current.1, inl (g, record { file = at_rest; older = is_current.0 }))
          | inr ahead ↦ (
            (ahead.1, ahead.2),
            more (ahead.1, ahead.2) ahead.5,
            inr (ahead.0, record { file = ahead.3; older = older_by_mark g ahead.0 w marked ahead.4 }),
          )
        ])

    preserved : (a b s t : List ℕ) → Rests P x w a b → Reopens a b s t → Rests P x w s t
    preserved a b s t holds (inl (inl one)) =
        let same = same_file one.0.generation g one.0.image image' one.0.bodies bodies' one.0.gate 0 one.0.after rest
        one.0.fits fits one.0.not_open (λ e. omega (arith, e)) (sym one.0.bytes ∙ holds.0 ∙ is) in
        absurd (one.0.not_shut same.gates)
    preserved a b s t holds (inl (inr one)) = (
      one.1 ∙ holds.0,
      settle_step P x b x t holds.1
          (inl (inr (
            record {
              generation = g;
              image = image;
              bodies = bodies;
              file = file;
              closed = one.0.closed;
              not_shut = one.0.not_shut;
              opened = one.0.opened;
            },
            refl,
          ))),
    )
    preserved a b s t holds (inr (inl one)) = (
      one.1 ∙ holds.0,
      settle_step P x b x t holds.1 (inr (inl (
        record {
          generation = one.0.generation;
          image = one.0.image;
          bodies = one.0.bodies;
          gate = one.0.gate;
          after = one.0.after;
          fits = one.0.fits;
          bytes = one.0.bytes;
          not_open = one.0.not_open;
          not_shut = one.0.not_shut;
          older = older_by_mark g one.0.generation x x_marked
              (mark_less g one.0.generation w marked
              (subst (λ (l : List ℕ). IsOlder one.0.generation l) holds.0 one.0.older));
          opened = one.0.opened;
        },
        refl,
      ))),
    )
    preserved a b s t holds (inr (inr one)) = absurd (mark_closed g w marked (subst IsClosed holds.0 one.0.closed))

-- the first gate of the other is put to 1 whichever file of these is current
other_for : (g : ℕ) (image : List ℕ) (bodies : List (List ℕ)) (x w b t : List ℕ) → IsFile g image bodies x
    → OtherReopens w b t → Reopens x b x t
other_for g image bodies x w b t file one =
    inl (inr (
      record {
        generation = g;
        image = image;
        bodies = bodies;
        file = file;
        closed = one.closed;
        not_shut = one.not_shut;
        opened = one.opened;
      },
      refl,
    ))

-- a gate of the other, ahead of a file, is put to 1 whatever follows the mark of that file
end_for : (g : ℕ) (x w b t : List ℕ) → HasMark g x → HasMark g w → EndReopens b w t → Reopens x b x t
end_for g x w b t x_marked w_marked one =
    inr (inl (
      record {
        generation = one.generation;
        image = one.image;
        bodies = one.bodies;
        gate = one.gate;
        after = one.after;
        fits = one.fits;
        bytes = one.bytes;
        not_open = one.not_open;
        not_shut = one.not_shut;
        older = older_by_mark g one.generation x x_marked (mark_less g one.generation w w_marked one.older);
        opened = one.opened;
      },
      refl,
    ))

-- one file is this one, and with another in its place they settle; or these settle on Q
abbrev Turns : Property → Property → List ℕ → List ℕ → List ℕ → List ℕ → Type 0
Turns P Q x u a b = Rests P x u a b ⊎ SettleOn Q a b

-- A file in place of the first that differs from it from the gate after its last open record on, and has no 1 there:
-- they settle so, where they do with 1 there.
pub end_settles : (P Q : Property) (g : ℕ) (image : List ℕ) (bodies : List (List ℕ)) (x : List ℕ) (c : ℕ)
    (rest y : List ℕ) → IsFile g image bodies x → c ≢ 1 → Implies P Q
    → ((v : List ℕ) → SettleOn P x v → IsOlder g v → SettleOn Q (committed_bytes g image bodies ++ 1 ∷ rest) v) → SettleOn P x y
    → SettleOn Q (committed_bytes g image bodies ++ c ∷ rest) y
end_settles P Q g image bodies x c rest y file shut more good settle =
    by_invariant Q (Turns P Q x u) represents preserved u y (inl (refl, settle))
  where
    u : List ℕ
    u = committed_bytes g image bodies ++ c ∷ rest

    is_file : IsFile g image bodies u
    is_file = record { gate = c; after = rest; shut = shut; bytes = refl; fits = file.fits }

    marked : HasMark g u
    marked = file_mark g image bodies u is_file

    x_marked : HasMark g x
    x_marked = file_mark g image bodies x file

    represents : (a b : List ℕ) → Turns P Q x u a b → RepresentOne Q a b
    represents a b (inr now) = represent_now Q a b now
    represents a b (inl holds) =
        subst (λ (l : List ℕ). RepresentOne Q l b) (sym holds.0)
        (elim (current_or_ahead g image bodies P x b file (represent_now P x b holds.1)) [
          | inl is_current ↦ (
            (image, bodies),
            more (image, bodies) is_current.1,
            inl (g, record { file = is_file; older = is_current.0 }),
          )
          | inr ahead ↦ (
            (ahead.1, ahead.2),
            more (ahead.1, ahead.2) ahead.5,
            inr (ahead.0, record { file = ahead.3; older = older_by_mark g ahead.0 u marked ahead.4 }),
          )
        ])

    preserved : (a b s t : List ℕ) → Turns P Q x u a b → Reopens a b s t → Turns P Q x u s t
    preserved a b s t (inr now) one = inr (settle_step Q a b s t now one)
    preserved a b s t (inl holds) (inl (inl one)) =
        let same = same_file one.0.generation g one.0.image image one.0.bodies bodies one.0.gate c one.0.after rest
        one.0.fits file.fits one.0.not_open shut (sym one.0.bytes ∙ holds.0) in
        let opened : s ≡ committed_bytes g image bodies ++ 1 ∷ rest =
        one.0.opened ∙ ap (λ (n : ℕ). committed_bytes n one.0.image one.0.bodies ++ 1 ∷ one.0.after) same.generations
        ∙ ap (λ (i : List ℕ). committed_bytes g i one.0.bodies ++ 1 ∷ one.0.after) same.images
        ∙ ap (λ (bs : List (List ℕ)). committed_bytes g image bs ++ 1 ∷ one.0.after) same.bodies_same
        ∙ ap (λ (r : List ℕ). committed_bytes g image bodies ++ 1 ∷ r) same.after in
        let older : IsOlder g b = subst (λ (n : ℕ). IsOlder n b) same.generations one.0.older in
        inr (subst (λ (l : List ℕ). SettleOn Q l t) (sym opened)
        (subst (λ (l : List ℕ). SettleOn Q (committed_bytes g image bodies ++ 1 ∷ rest) l) (sym one.1)
        (good b holds.1 older)))
    preserved a b s t (inl holds) (inl (inr one)) =
        inl (one.1 ∙ holds.0, settle_step P x b x t holds.1 (other_for g image bodies x a b t file one.0))
    preserved a b s t (inl holds) (inr (inl one)) =
        inl (
          one.1 ∙ holds.0,
          settle_step P x b x t holds.1
              (end_for g x a b t x_marked (subst (λ (l : List ℕ). HasMark g l) (sym holds.0) marked) one.0),
        )
    preserved a b s t (inl holds) (inr (inr one)) =
        absurd (mark_closed g u marked (subst IsClosed holds.0 one.0.closed))

-- as at rest, while the other is ahead
abbrev Follows : Property → ℕ → List ℕ → List ℕ → List ℕ → List ℕ → Type 0
Follows P h x u a b = Rests P x u a b × HasMark h b

-- While the other file is ahead, nothing matters of a file but its mark.
pub follower_settles : (P : Property) (g h : ℕ) (x u y : List ℕ) → HasMark g x → HasMark g u → HasMark h y → g < h
    → SettleOn P x y → SettleOn P u y
follower_settles P g h x u y x_marked marked y_marked less settle =
    by_invariant P (Follows P h x u) represents preserved u y ((refl, settle), y_marked)
  where
    -- no file with the greater number is older than the smaller one
    not_older : (b : List ℕ) (g' : ℕ) → HasMark h b → g' ≡ g → IsOlder g' b → ⊥
    not_older b g' b_marked is older = let above : h < g' = mark_less h g' b b_marked older in
        omega (arith, above, is, less)

    represents : (a b : List ℕ) → Follows P h x u a b → RepresentOne P a b
    represents a b holds =
        subst (λ (l : List ℕ). RepresentOne P l b) (sym holds.0.0) (from (represent_now P x b holds.0.1))
      where
        from : RepresentOne P x b → RepresentOne P u b
        from (pair, among, inl is_current) =
            absurd (not_older b is_current.0 holds.1
            (same_mark is_current.0 g x (file_mark is_current.0 pair.0 pair.1 x is_current.1.file) x_marked)
            is_current.1.older)
        from (pair, among, inr is_current) = (
          pair,
          among,
          inr (
            is_current.0,
            record {
              file = is_current.1.file;
              older = older_by_mark g is_current.0 u marked (mark_less g is_current.0 x x_marked is_current.1.older);
            },
          ),
        )

    preserved : (a b s t : List ℕ) → Follows P h x u a b → Reopens a b s t → Follows P h x u s t
    preserved a b s t holds (inl (inl one)) =
        absurd (not_older b one.0.generation holds.1
        (same_mark one.0.generation g a
        (solid_mark one.0.generation one.0.image one.0.bodies (one.0.gate ∷ one.0.after) a one.0.fits.numbered
        one.0.bytes) (subst (λ (l : List ℕ). HasMark g l) (sym holds.0.0) marked)) one.0.older)
    preserved a b s t holds (inl (inr one)) = absurd (mark_closed h b holds.1 one.0.closed)
    preserved a b s t holds (inr (inl one)) =
        let number : one.0.generation ≡ h =
        same_mark one.0.generation h b
        (solid_mark one.0.generation one.0.image one.0.bodies (one.0.gate ∷ one.0.after) b one.0.fits.numbered
        one.0.bytes) holds.1 in
        let t_marked : HasMark one.0.generation t =
        solid_mark one.0.generation one.0.image one.0.bodies (1 ∷ one.0.after) t one.0.fits.numbered
        one.0.opened in (
          (
            one.1 ∙ holds.0.0,
            settle_step P x b x t holds.0.1
                (end_for g x a b t x_marked (subst (λ (l : List ℕ). HasMark g l) (sym holds.0.0) marked) one.0),
          ),
          subst (λ (n : ℕ). HasMark n t) number t_marked,
        )
    preserved a b s t holds (inr (inr one)) = absurd (mark_closed g u marked (subst IsClosed holds.0.0 one.0.closed))

-- Whatever byte is in place of a gate that a repair writes over, with any image of the other file with which the file
-- as it was settled: they settle on the same.
pub end_repair_settles : (P : Property) (g : ℕ) (image : List ℕ) (bodies : List (List ℕ)) (x : List ℕ) (k c : ℕ)
    (rest y : List ℕ) → x ≡ committed_bytes g image bodies ++ k ∷ rest → FieldsFit g image bodies → k ≢ 1 → k ≢ 0 → SettleOn P x y
    → SettleOn P (committed_bytes g image bodies ++ c ∷ rest) y
end_repair_settles P g image bodies x k c rest y is fits not_open not_shut settle = elim (cases_eq c 1) [
  | inl open_now ↦
      subst (λ (n : ℕ). SettleOn P (committed_bytes g image bodies ++ n ∷ rest) y) (sym open_now)
      (elim (current_or_ahead g image bodies P x y file (represent_now P x y settle)) [
        | inl is_current ↦ settle_step P x y (committed_bytes g image bodies ++ 1 ∷ rest) y settle (reopens y is_current.0)
        | inr ahead ↦
            follower_settles P g ahead.0 x (committed_bytes g image bodies ++ 1 ∷ rest) y (file_mark g image bodies x file)
            (solid_mark g image bodies (1 ∷ rest) (committed_bytes g image bodies ++ 1 ∷ rest) fits.numbered refl)
            (file_mark ahead.0 ahead.1 ahead.2 y ahead.3) ahead.4 settle
      ])
  | inr shut ↦
      end_settles P P g image bodies x c rest y file shut (λ contents is. is)
      (λ v settles older. settle_step P x v (committed_bytes g image bodies ++ 1 ∷ rest) v settles (reopens v older)) settle
]
  where
    file : IsFile g image bodies x
    file = record { gate = k; after = rest; shut = not_open; bytes = is; fits = fits }

    reopens : (v : List ℕ) → IsOlder g v → Reopens x v (committed_bytes g image bodies ++ 1 ∷ rest) v
    reopens v older =
        inl (inl (
          record {
            generation = g;
            image = image;
            bodies = bodies;
            gate = k;
            after = rest;
            fits = fits;
            bytes = is;
            not_open = not_open;
            not_shut = not_shut;
            older = older;
            opened = refl;
          },
          refl,
        ))

-- ---- the other file, while it is closed

-- the other is this one, and with another closed file in its place they settle; or these settle
abbrev Stays : Property → List ℕ → List ℕ → List ℕ → List ℕ → Type 0
Stays P y y' a b = (b ≡ y') × SettleOn P a y ⊎ SettleOn P a b

-- Whatever byte is in place of the other's first gate, with any image of the current file with which the other as it
-- was settled: they settle on the same.
pub other_repair_settles : (P : Property) (x y y' : List ℕ) → IsClosed y → (IsShut y → ⊥) → reopened y' ≡ reopened y
    → SettleOn P x y → SettleOn P x y'
other_repair_settles P x y y' closed not_shut alike settle = elim (open_or_closed y') [
  | inl open_now ↦
      let is : y' ≡ reopened y = open_reopened y' open_now ∙ alike in
      subst (λ (l : List ℕ). SettleOn P x l) (sym is) (from_represented (represent_now P x y settle))
  | inr closed' ↦ by_invariant P (Stays P y y') (represents closed') (preserved closed') x y' (inl (refl, settle))
]
  where
    not_current : (g : ℕ) (image : List ℕ) (bodies : List (List ℕ)) (l : List ℕ) → IsClosed l → IsFile g image bodies l
        → ⊥
    not_current g image bodies l l_closed file = mark_closed g l (file_mark g image bodies l file) l_closed

    from_represented : RepresentOne P x y → SettleOn P x (reopened y)
    from_represented (pair, among, inl is_current) =
        settle_step P x y x (reopened y) settle
        (inl (inr (
          record {
            generation = is_current.0;
            image = pair.0;
            bodies = pair.1;
            file = is_current.1.file;
            closed = closed;
            not_shut = not_shut;
            opened = refl;
          },
          refl,
        )))
    from_represented (pair, among, inr is_current) =
        absurd (not_current is_current.0 pair.0 pair.1 y closed is_current.1.file)

    represents : IsClosed y' → (a b : List ℕ) → Stays P y y' a b → RepresentOne P a b
    represents closed' a b (inr now) = represent_now P a b now
    represents closed' a b (inl holds) =
        subst (λ (l : List ℕ). RepresentOne P a l) (sym holds.0) (from (represent_now P a y holds.1))
      where
        from : RepresentOne P a y → RepresentOne P a y'
        from (pair, among, inl is_current) =
            (pair, among, inl (is_current.0, record { file = is_current.1.file; older = inl closed' }))
        from (pair, among, inr is_current) = absurd (not_current is_current.0 pair.0 pair.1 y closed is_current.1.file)

    preserved : IsClosed y' → (a b s t : List ℕ) → Stays P y y' a b → Reopens a b s t → Stays P y y' s t
    preserved closed' a b s t (inr now) one = inr (settle_step P a b s t now one)
    preserved closed' a b s t (inl holds) (inl (inl one)) = inl (
      one.1 ∙ holds.0,
      settle_step P a y s y holds.1 (inl (inl (
        record {
          generation = one.0.generation;
          image = one.0.image;
          bodies = one.0.bodies;
          gate = one.0.gate;
          after = one.0.after;
          fits = one.0.fits;
          bytes = one.0.bytes;
          not_open = one.0.not_open;
          not_shut = one.0.not_shut;
          older = inl closed;
          opened = one.0.opened;
        },
        refl,
      ))),
    )
    preserved closed' a b s t (inl holds) (inl (inr one)) =
        let is : t ≡ reopened y = one.0.opened ∙ ap reopened holds.0 ∙ alike in
        inr (subst (λ (l : List ℕ). SettleOn P l t) (sym one.1) (subst (λ (l : List ℕ). SettleOn P a l) (sym is) (
        settle_step P a y a (reopened y) holds.1
        (inl (inr (
          record {
            generation = one.0.generation;
            image = one.0.image;
            bodies = one.0.bodies;
            file = one.0.file;
            closed = closed;
            not_shut = not_shut;
            opened = refl;
          },
          refl,
        )))
        )))
    preserved closed' a b s t (inl holds) (inr (inl one)) =
        absurd (mark_closed one.0.generation b
        (solid_mark one.0.generation one.0.image one.0.bodies (one.0.gate ∷ one.0.after) b one.0.fits.numbered
        one.0.bytes) (subst IsClosed (sym holds.0) closed'))
    preserved closed' a b s t (inl holds) (inr (inr one)) =
        absurd (not_current one.0.generation one.0.image one.0.bodies b (subst IsClosed (sym holds.0) closed')
        one.0.file)
