-- What a journal's files hold after each of its calls.
use Rattle.std.proofs.Common.{◌≡◌, ◌≢◌, ◌⊎◌, inl, inr, ℕ, ◌+◌, ◌<◌, ◌^◌, Bool, true, false, IsTrue, List, [], ◌∷◌, ◌++◌}
use Rattle.std.proofs.Common.{length, drop, refl, sym, ◌∙◌, ap, subst, arith, append_assoc, length-append}
use Rattle.std.proofs.lemmas.Bool.{false≢true, true≢false}
use Rattle.ash_disk.specs.Device.{Device, IsDurable, HoldsThroughout}
use Rattle.ash_disk.proofs.MomentLaws.{at_start}
use Rattle.ash_journal.specs.declared.other_state.OtherState.{OtherState}
use Rattle.ash_journal.specs.declared.other_state.OtherState.TheVariants.{Shut, Older, Stray}
use Rattle.ash_journal.specs.Layout.{mark, block, records, committed_bytes, FieldsFit, length_limit, IsShut, HasMark}
use Rattle.ash_journal.specs.Current.{IsContents, HoldsOneOf, IsOlder, Represent, reopened, SettleOn, MaySettleOn, SettleFurther}
use Rattle.ash_journal.specs.SettledSince.{HoldsSince, Extends, NoContents}
use Rattle.ash_journal.specs.Writes.{IsOn, WhileCommitted, WhileRepaired, WhileReplaced, repaired}
use Rattle.ash_journal.specs.OtherState.{is_older, is_stray, repaired as state_repaired, first_of, second_of, OtherIs}
use Rattle.ash_journal.specs.Journal.{EndIs, NeedsNoRepair, FilesAre}
use Rattle.ash_journal.proofs.LayoutLaws.{length-block, length-mark, length-committed_bytes, records-nil, records-push}
use Rattle.ash_journal.proofs.LayoutLaws.{solid_no_records, solid_mark, mark_open}
use Rattle.ash_journal.proofs.SettleLaws.{Property, open_reopened, settle_more, further_same}
use Rattle.ash_journal.proofs.InstallLaws.{IsAside, IsComing, IsGrowing, install_settles, repaired_settles}
use Rattle.ash_journal.proofs.InstallLaws.{append_settles, fits_push, grown}
use Rattle.ash_journal.proofs.ReopenLaws.{end_repair_settles, other_repair_settles}
use Rattle.ash_journal.proofs.RunLaws.{extends_by, extends_placed, run_begins, run_now}

pub end_shut : (stray : Bool) (other_state : OtherState) (gate : ℕ) → NeedsNoRepair stray other_state → EndIs stray gate
    → gate ≡ 0
end_shut false other_state gate ready is = is
end_shut true other_state gate ready is = absurd ready

pub other_aside : (stray : Bool) (other_state : OtherState) (g : ℕ) (file : List ℕ) → NeedsNoRepair stray other_state
    → OtherIs other_state g file → IsAside g file
other_aside false Shut g file ready is = inl is
other_aside false Older g file ready is =
    inr (is.0, subst (λ (l : List ℕ). HasMark is.0 l) (open_reopened file (mark_open is.0 file is.1)) is.1, is.2)
other_aside false Stray g file ready is = absurd ready
other_aside true other_state g file ready is = absurd ready

-- what is after a record's gate, with the next gate
pub block_growing : (prefix body suffix image : List ℕ) → WhileCommitted prefix (block body ++ 0 ∷ []) suffix image
    → IsGrowing prefix body image
block_growing prefix body suffix image (inl rests) = inl rests
block_growing prefix body suffix image (inr whole) =
    let rest = drop (length (block body ++ 0 ∷ [])) suffix in
    inr (whole.0, rest, whole.1 ∙ ap (λ (l : List ℕ). prefix ++ whole.0 ∷ l) (append_assoc (block body) (0 ∷ []) rest))

pub record_long : (body : List ℕ) → length (block body ++ 0 ∷ []) ≡ 5 + length body
record_long body = omega (arith, length-append (block body) (0 ∷ []), length-block body)

-- a generation after its gate, with the next gate
pub generation_append : (generation : ℕ) (image rest : List ℕ)
    → (mark generation ++ (block image ++ 0 ∷ [])) ++ rest ≡ mark generation ++ (block image ++ 0 ∷ rest)
generation_append generation image rest =
    append_assoc (mark generation) (block image ++ 0 ∷ []) rest
    ∙ ap (λ (l : List ℕ). mark generation ++ l) (append_assoc (block image) (0 ∷ []) rest)

pub generation_long : (generation : ℕ) (image : List ℕ)
    → length (mark generation ++ (block image ++ 0 ∷ [])) ≡ 21 + length image
generation_long generation image =
    omega (
      arith,
      length-append (mark generation) (block image ++ 0 ∷ []),
      length-mark generation,
      length-append (block image) (0 ∷ []),
      length-block image,
    )

-- what a crash may leave of the other file while a generation takes its place
pub replaced_leaves : (stray : Bool) (other_state : OtherState) (g n : ℕ) (image file left : List ℕ)
    → NeedsNoRepair stray other_state → OtherIs other_state g file
    → WhileReplaced (is_older other_state) (mark n ++ (block image ++ 0 ∷ [])) file left
    → IsAside g left ⊎ IsComing n image left
replaced_leaves stray other_state g n image file left ready is (inl (inl same)) =
    inl (subst (λ (l : List ℕ). IsAside g l) (sym same) (other_aside stray other_state g file ready is))
replaced_leaves stray Older g n image file left ready is (inl (inr torn)) =
    inl (inr (
      is.0,
      subst (λ (l : List ℕ). HasMark is.0 (reopened l)) (sym torn.2)
          (record { rest = is.1.rest; bytes = ap (λ (l : List ℕ). 1 ∷ drop 1 l) is.1.bytes; numbered = is.1.numbered }),
      is.2,
    ))
replaced_leaves stray Shut g n image file left ready is (inl (inr torn)) = absurd (false≢true torn.0)
replaced_leaves stray Stray g n image file left ready is (inl (inr torn)) = absurd (false≢true torn.0)
replaced_leaves stray other_state g n image file left ready is (inr (inl rests)) =
    inl (inl (subst IsShut (sym rests.1) refl))
replaced_leaves stray other_state g n image file left ready is (inr (inr whole)) =
    let rest = drop (length (mark n ++ (block image ++ 0 ∷ []))) (drop 1 file) in
    inr (whole.0, rest, whole.1 ∙ ap (λ (l : List ℕ). whole.0 ∷ l) (generation_append n image rest))

end_repaired : (stray : Bool) (gate : ℕ) (suffix : List ℕ) → EndIs stray gate
    → repaired stray (gate ∷ suffix) ≡ 0 ∷ suffix
end_repaired true gate suffix is = refl
end_repaired false gate suffix is = ap (λ (g : ℕ). g ∷ suffix) is

other_repaired : (other_state : OtherState) (g : ℕ) (file after : List ℕ) → OtherIs other_state g file
    → after ≡ repaired (is_stray other_state) file → OtherIs (state_repaired other_state) g after
other_repaired Shut g file after is same = subst IsShut (sym same) is
other_repaired Older g file after is same = (is.0, subst (λ (l : List ℕ). HasMark is.0 l) (sym same) is.1, is.2)
other_repaired Stray g file after is same = subst IsShut (sym same) refl

pub repaired_ready : (other_state : OtherState) → NeedsNoRepair false (state_repaired other_state)
repaired_ready Shut = tt
repaired_ready Older = tt
repaired_ready Stray = tt

-- a ready journal's other file that is not open is shut
pub shut_other : (stray : Bool) (other_state : OtherState) (g : ℕ) (file : List ℕ) → NeedsNoRepair stray other_state
    → OtherIs other_state g file → is_older other_state ≡ false → IsShut file
shut_other stray Shut g file ready is closed = is
shut_other stray Older g file ready is closed = absurd (true≢false closed)
shut_other false Stray g file ready is closed = absurd ready
shut_other true Stray g file ready is closed = absurd ready

reopened_alike : (gate : ℕ) (file : List ℕ) → reopened (gate ∷ drop 1 file) ≡ reopened file
reopened_alike gate [] = refl
reopened_alike gate (first ∷ rest) = refl

other_settled : (other_state : OtherState) (g : ℕ) (x file y : List ℕ) (P : Property) → OtherIs other_state g file
    → WhileRepaired (is_stray other_state) [] file y → SettleOn P x file → SettleOn P x y
other_settled other_state g x file y P is (inl same) settle = subst (λ (l : List ℕ). SettleOn P x l) (sym same) settle
other_settled Shut g x file y P is (inr torn) settle = absurd (false≢true torn.0)
other_settled Older g x file y P is (inr torn) settle = absurd (false≢true torn.0)
other_settled Stray g x file y P is (inr torn) settle =
    other_repair_settles P x file y is.0 is.1 (ap reopened torn.2 ∙ reopened_alike torn.1 file) settle

-- what stays as it was settles on nothing new
nothing_new : (u v x y : List ℕ) → (SettleOn (MaySettleOn u v) u v → SettleOn (MaySettleOn u v) x y)
    → SettleFurther NoContents u v x y
nothing_new u v x y stays settle =
    settle_more (MaySettleOn u v) (HoldsOneOf NoContents (MaySettleOn u v)) (λ contents old. inr old) x y (stays settle)

module _ {D : Type 0} (device : Device D) where
  -- the files represent what they hold
  pub found_represented : (number end size : ℕ) (stray : Bool) (other_state : OtherState) (c o : D) (image : List ℕ)
      (bodies : List (List ℕ)) → FilesAre device number end size stray other_state c o image bodies
      → IsOlder number (device.seen o) → Represent (image, bodies) (device.seen c) (device.seen o)
  found_represented number end size stray other_state c o image bodies files older =
      inl (
        number,
        record {
          file = record {
            gate = files.gate;
            after = files.after;
            shut = files.shut;
            bytes = files.bytes;
            fits = files.fits;
          };
          older = older;
        },
      )

  -- ready files settle on what they hold
  pub ready_run : (number end size : ℕ) (stray : Bool) (other_state : OtherState) (swapped : Bool) (c o : D)
      (image : List ℕ) (bodies : List (List ℕ)) → FilesAre device number end size stray other_state c o image bodies
      → NeedsNoRepair stray other_state
      → HoldsSince device (device.clock (first_of swapped c o)) (device.clock (second_of swapped c o)) (first_of swapped c o)
      (second_of swapped c o) (IsContents (image, bodies))
  ready_run number end size stray other_state swapped c o image bodies files ready =
      run_now device swapped c o (IsContents (image, bodies)) files.current_durable files.other_durable
      (repaired_settles number image bodies (device.seen c) files.after (device.seen o)
      (files.bytes
      ∙ ap (λ (g : ℕ). committed_bytes number image bodies ++ g ∷ files.after)
      (end_shut stray other_state files.gate ready files.gate_is)) files.fits
      (other_aside stray other_state number (device.seen o) ready files.other_is))

  module _ (number end size : ℕ) (stray : Bool) (other_state : OtherState) (c c' o : D) (image : List ℕ)
      (bodies : List (List ℕ)) (body : List ℕ)
      (files : FilesAre device number end size stray other_state c o image bodies)
      (ready : NeedsNoRepair stray other_state) (short : length body < length_limit) where
    -- the current file, at rest
    pub at_rest : device.seen c ≡ committed_bytes number image bodies ++ 0 ∷ files.after
    at_rest = files.bytes
        ∙ ap (λ (g : ℕ). committed_bytes number image bodies ++ g ∷ files.after)
        (end_shut stray other_state files.gate ready files.gate_is)

    -- one record more
    pub append_files : (added : ℕ) → added ≡ 5 + length body → device.honest c' ≡ device.honest c
        → IsOn device c'
        (committed_bytes number image bodies ++ 1 ∷ ((block body ++ 0 ∷ []) ++ drop (length (block body ++ 0 ∷ [])) files.after))
        → FilesAre device number (end + added) (size + added) stray other_state c' o image (bodies ++ body ∷ [])
    append_files added added_is honest_is on = record {
      current_honest = subst IsTrue (sym honest_is) files.current_honest;
      other_honest = files.other_honest;
      gate = 0;
      after = rest;
      shut = λ e. omega (arith, e);
      bytes = on.bytes
          ∙ ap (λ (l : List ℕ). committed_bytes number image bodies ++ 1 ∷ l) (append_assoc (block body) (0 ∷ []) rest)
          ∙ grown number image bodies body (0 ∷ rest);
      fits = fits_push number image bodies body files.fits short;
      end_is = omega (
        arith,
        files.end_is,
        added_is,
        length-committed_bytes number image bodies,
        length-committed_bytes number image (bodies ++ body ∷ []),
        longer,
      );
      size_is = omega (arith, files.size_is, added_is, longer);
      gate_is = still stray other_state ready;
      other_is = files.other_is;
      current_durable = on.durable;
      other_durable = files.other_durable;
    }
      where
        rest : List ℕ
        rest = drop (length (block body ++ 0 ∷ [])) files.after

        longer : length (records (bodies ++ body ∷ [])) ≡ length (records bodies) + 5 + length body
        longer = omega (
          arith,
          ap length (records-push bodies body),
          length-append (records bodies) (1 ∷ block body),
          length-block body,
        )

        still : (s : Bool) (b : OtherState) → NeedsNoRepair s b → EndIs s 0
        still false b ready = refl
        still true b ready = absurd ready

    -- at every moment the records before, or these and the new one
    pub append_extends : (swapped : Bool) → device.leaves c (device.clock c) (device.seen c)
        → device.leaves o (device.clock o) (device.seen o)
        → HoldsThroughout device c c' (WhileCommitted (committed_bytes number image bodies) (block body ++ 0 ∷ []) files.after)
        → Extends device (first_of swapped c o) (second_of swapped c o) (first_of swapped c' o) (second_of swapped c' o)
        (IsContents (image, bodies ++ body ∷ []))
    append_extends swapped left_c left_o call =
        extends_placed device swapped c o c' o new
        (extends_by device c o c' o (device.seen c) (device.seen o)
        (WhileCommitted (committed_bytes number image bodies) (block body ++ 0 ∷ []) files.after)
        (λ (v : List ℕ). v ≡ device.seen o) new left_c left_o call
        (at_start (device.clock o) (device.leaves o) (λ (v : List ℕ). v ≡ device.seen o) files.other_durable)
        (λ x y p. settles x y p)
        (λ x y q. subst
        (λ (l : List ℕ). SettleFurther new x (device.seen o) x l) (sym q) (further_same new x (device.seen o)))
        (λ x y p q. subst
        (λ (l : List ℕ). SettleFurther new (device.seen c) (device.seen o) x l) (sym q)
        (settles x (device.seen o) p)))
      where
        new : Property
        new = IsContents (image, bodies ++ body ∷ [])

        settles : (x y : List ℕ) → WhileCommitted (committed_bytes number image bodies) (block body ++ 0 ∷ []) files.after x
            → SettleFurther (IsContents (image, bodies ++ body ∷ [])) (device.seen c) y x y
        settles x y p settle =
            append_settles (MaySettleOn (device.seen c) y) number image bodies body (device.seen c) files.after x y
            at_rest files.fits short (block_growing (committed_bytes number image bodies) body files.after x p) settle

  -- ---- a new generation

  module _ (number end size : ℕ) (stray : Bool) (other_state : OtherState) (c o o' : D) (was : List ℕ)
      (bodies : List (List ℕ)) (image : List ℕ)
      (files : FilesAre device number end size stray other_state c o was bodies)
      (ready : NeedsNoRepair stray other_state) (higher : number + 1 < 2 ^ 64) (short : length image < length_limit) where
    new_fits : FieldsFit (number + 1) image []
    new_fits = record { numbered = higher; image_short = short; bodies_short = tt }

    pub install_files : (added : ℕ) → added ≡ 21 + length image → device.honest o' ≡ device.honest o
        → IsOn device o'
        (1 ∷ ((mark (number + 1) ++ (block image ++ 0 ∷ []))
        ++ drop (length (mark (number + 1) ++ (block image ++ 0 ∷ []))) (drop 1 (device.seen o))))
        → FilesAre device (number + 1) added 0 false Older o' c image []
    install_files added added_is honest_is on = record {
      current_honest = subst IsTrue (sym honest_is) files.other_honest;
      other_honest = files.current_honest;
      gate = 0;
      after = rest;
      shut = λ e. omega (arith, e);
      bytes = on.bytes ∙ ap (λ (l : List ℕ). 1 ∷ l) (generation_append (number + 1) image rest)
          ∙ sym (solid_no_records (number + 1) image (0 ∷ rest));
      fits = new_fits;
      end_is = omega (arith, added_is, length-committed_bytes (number + 1) image [], ap length records-nil);
      size_is = omega (arith, ap length records-nil);
      gate_is = refl;
      other_is = (
        number,
        solid_mark number was bodies (files.gate ∷ files.after) (device.seen c) files.fits.numbered files.bytes,
        omega arith,
      );
      current_durable = on.durable;
      other_durable = files.current_durable;
    }
      where
        rest : List ℕ
        rest = drop (length (mark (number + 1) ++ (block image ++ 0 ∷ []))) (drop 1 (device.seen o))

    -- at every moment the old generation or the new
    pub install_run : (swapped : Bool)
        → HoldsThroughout device o o'
        (WhileReplaced (is_older other_state) (mark (number + 1) ++ (block image ++ 0 ∷ [])) (device.seen o))
        → HoldsSince device (device.clock (first_of swapped c o)) (device.clock (second_of swapped c o))
        (first_of swapped c o') (second_of swapped c o') (HoldsOneOf (IsContents (image, [])) (IsContents (was, bodies)))
    install_run swapped call =
        run_begins device swapped c o c o'
        (λ (u : List ℕ). u ≡ device.seen c)
        (WhileReplaced (is_older other_state) (mark (number + 1) ++ (block image ++ 0 ∷ [])) (device.seen o))
        (HoldsOneOf (IsContents (image, [])) (IsContents (was, bodies)))
        (at_start (device.clock c) (device.leaves c) (λ (u : List ℕ). u ≡ device.seen c) files.current_durable) call
        (λ x y p q. subst (λ (l : List ℕ). SettleOn (HoldsOneOf (IsContents (image, [])) (IsContents (was, bodies))) l y) (sym p) (
        install_settles number (number + 1) was image bodies (device.seen c) files.after y
        (files.bytes
        ∙ ap (λ (g : ℕ). committed_bytes number was bodies ++ g ∷ files.after)
        (end_shut stray other_state files.gate ready files.gate_is))
        files.fits new_fits (omega arith)
        (replaced_leaves stray other_state number (number + 1) image (device.seen o) y ready files.other_is q)
        ))

  -- ---- gates that are stray

  module _ (number end size : ℕ) (stray : Bool) (other_state : OtherState) (c c' o o' : D) (image : List ℕ)
      (bodies : List (List ℕ)) (files : FilesAre device number end size stray other_state c o image bodies) where
    pub settle_files : device.honest c' ≡ device.honest c → device.honest o' ≡ device.honest o
        → IsOn device c' (committed_bytes number image bodies ++ repaired stray (files.gate ∷ files.after))
        → IsOn device o' (repaired (is_stray other_state) (device.seen o))
        → FilesAre device number end size false (state_repaired other_state) c' o' image bodies
    settle_files honest_c honest_o on_c on_o = record {
      current_honest = subst IsTrue (sym honest_c) files.current_honest;
      other_honest = subst IsTrue (sym honest_o) files.other_honest;
      gate = 0;
      after = files.after;
      shut = λ e. omega (arith, e);
      bytes = on_c.bytes
          ∙ ap (λ (l : List ℕ). committed_bytes number image bodies ++ l)
          (end_repaired stray files.gate files.after files.gate_is);
      fits = files.fits;
      end_is = files.end_is;
      size_is = files.size_is;
      gate_is = refl;
      other_is = other_repaired other_state number (device.seen o) (device.seen o') files.other_is on_o.bytes;
      current_durable = on_c.durable;
      other_durable = on_o.durable;
    }

    -- at every moment the same
    pub settle_extends : (swapped : Bool) → device.leaves c (device.clock c) (device.seen c)
        → device.leaves o (device.clock o) (device.seen o)
        → HoldsThroughout device c c' (WhileRepaired stray (committed_bytes number image bodies) (files.gate ∷ files.after))
        → HoldsThroughout device o o' (WhileRepaired (is_stray other_state) [] (device.seen o))
        → Extends device (first_of swapped c o) (second_of swapped c o) (first_of swapped c' o')
        (second_of swapped c' o') NoContents
    settle_extends swapped left_c left_o one two =
        extends_placed device swapped c o c' o' NoContents
        (extends_by device c o c' o' (device.seen c) (device.seen o)
        (WhileRepaired stray (committed_bytes number image bodies) (files.gate ∷ files.after))
        (WhileRepaired (is_stray other_state) [] (device.seen o)) NoContents left_c left_o one two
        (λ x y p. nothing_new (device.seen c) y x y (λ settle.
        end_settled (MaySettleOn (device.seen c) y) x y p settle))
        (λ x y q. nothing_new x (device.seen o) x y (λ settle.
        other_settled other_state number x (device.seen o) y (MaySettleOn x (device.seen o)) files.other_is q
        settle))
        (λ x y p q. nothing_new (device.seen c) (device.seen o) x y (λ settle.
        other_settled other_state number x (device.seen o) y (MaySettleOn (device.seen c) (device.seen o))
        files.other_is q (end_settled (MaySettleOn (device.seen c) (device.seen o)) x (device.seen o) p settle))))
      where
        not_shut : (s : Bool) → s ≡ true → EndIs s files.gate → files.gate ≢ 0
        not_shut true same is = is
        not_shut false same is = absurd (false≢true same)

        end_settled : (P : Property) (x y : List ℕ)
            → WhileRepaired stray (committed_bytes number image bodies) (files.gate ∷ files.after) x
            → SettleOn P (device.seen c) y → SettleOn P x y
        end_settled P x y (inl same) settle = subst (λ (l : List ℕ). SettleOn P l y) (files.bytes ∙ sym same) settle
        end_settled P x y (inr torn) settle =
            subst (λ (l : List ℕ). SettleOn P l y) (sym torn.2)
            (end_repair_settles P number image bodies (device.seen c) files.gate torn.1 files.after y files.bytes
            files.fits files.shut (not_shut stray torn.0 files.gate_is) settle)

  -- ---- a first generation

  pub create_files : (c o : D) (image rest : List ℕ) (end : ℕ) → end ≡ 21 + length image → length image < length_limit
      → IsTrue (device.honest c) → IsTrue (device.honest o)
      → IsOn device c (1 ∷ ((mark 1 ++ (block image ++ 0 ∷ [])) ++ rest)) → IsShut (device.seen o) → IsDurable device o
      → FilesAre device 1 end 0 false Shut c o image []
  create_files c o image rest end end_is short honest_c honest_o on shut only = record {
    current_honest = honest_c;
    other_honest = honest_o;
    gate = 0;
    after = rest;
    shut = λ e. omega (arith, e);
    bytes = on.bytes ∙ ap (λ (l : List ℕ). 1 ∷ l) (generation_append 1 image rest)
        ∙ sym (solid_no_records 1 image (0 ∷ rest));
    fits = record { numbered = omega arith; image_short = short; bodies_short = tt };
    end_is = omega (arith, end_is, length-committed_bytes 1 image [], ap length records-nil);
    size_is = omega (arith, ap length records-nil);
    gate_is = refl;
    other_is = shut;
    current_durable = on.durable;
    other_durable = only;
  }
