-- What one call more changes of what a disk in memory holds, and of what a crash may leave of it.
use Rattle.std.proofs.Common.{◌≡◌, inl, inr, ℕ, ◌+◌, ◌≤◌, ◌<◌, Bool, true, false, cond, List, [], ◌∷◌, ◌++◌, length}
use Rattle.std.proofs.Common.{get_or, reverse, take, refl, sym, ◌∙◌, ap, subst, arith, length-append, Vec, Global}
use Rattle.std.proofs.Common.{Result, Ok, Err, OnOk, OnErr, IfOk}
use Rattle.std.proofs.lemmas.List.{take_all, take_more, take-append-le, reverse-append}
use Rattle.std.proofs.lemmas.Bool.{cases_lt}
use Rattle.ash_disk.specs.DiskImage.{after_write, Torn, TornFrom, torn_not}
use Rattle.ash_disk.specs.DiskCalls.{file_after, synced_after, MayLeave, file_may_stay}
use Rattle.ash_disk.specs.Moments.{HoldsDuring}
use Rattle.ash_disk.specs.declared.call.Call.{Call}
use Rattle.ash_disk.specs.declared.call.Call.TheVariants.{Write, Sync}
use Rattle.ash_disk.proofs.MomentLaws.{at_start}

-- what a crash after the first calls may leave
abbrev Leaves : List ℕ → List Call → ℕ → List ℕ → Type 0
Leaves first calls time image = MayLeave first (reverse (take time calls)) image

take_pushed : (time : ℕ) (calls : List Call) (call : Call) → time ≤ length calls
    → take time (calls ++ call ∷ []) ≡ take time calls
take_pushed time calls call past = take-append-le time calls (call ∷ []) past

reverse_pushed : (calls : List Call) (call : Call) → reverse (calls ++ call ∷ []) ≡ call ∷ reverse calls
reverse_pushed calls call = reverse-append calls (call ∷ [])

-- one call more, which leaves images with P
pushed : (first : List ℕ) (calls : List Call) (call : Call) (P : List ℕ → Type 0)
    → ((image : List ℕ) → MayLeave first (reverse calls) image → P image)
    → ((image : List ℕ) → MayLeave first (call ∷ reverse calls) image → P image)
    → HoldsDuring (length calls) (length (calls ++ call ∷ [])) (Leaves first calls) (Leaves first (calls ++ call ∷ [])) P
pushed first calls call P before after = record {
  later = omega (arith, length-append calls (call ∷ []));
  kept = λ time image past left. subst (λ (l : List Call). MayLeave first (reverse l) image)
      (sym (take_pushed time calls call past)) left;
  no_more = λ time image past left. subst (λ (l : List Call). MayLeave first (reverse l) image)
      (take_pushed time calls call past) left;
  each = λ time image from to left. elim (cases_lt (length calls) time) [
    | inl new ↦
        after image
        (subst (λ (l : List Call). MayLeave first l image)
        (ap reverse (take_all time (calls ++ call ∷ []) (omega (arith, new, length-append calls (call ∷ []))))
        ∙ reverse_pushed calls call) left)
    | inr old ↦
        before image
        (subst (λ (l : List Call). MayLeave first (reverse l) image)
        (take_pushed time calls call old ∙ take_all time calls from) left)
  ];
}

unpushed : (first : List ℕ) (calls : List Call) (P : List ℕ → Type 0)
    → ((image : List ℕ) → MayLeave first (reverse calls) image → P image)
    → HoldsDuring (length calls) (length calls) (Leaves first calls) (Leaves first calls) P
unpushed first calls P here =
    at_start (length calls) (Leaves first calls) P
    (λ image left. here image
    (subst (λ (l : List Call). MayLeave first (reverse l) image) (take_all (length calls) calls (omega arith)) left))

-- all calls are recorded
whole : (first : List ℕ) (calls : List Call) (image : List ℕ) → MayLeave first (reverse calls) image
    → Leaves first calls (length calls) image
whole first calls image left =
    subst (λ (l : List Call). MayLeave first (reverse l) image) (sym (take_all (length calls) calls (omega arith))) left

-- a sync that is recorded, or finds no memory
pub during_sync : (first : List ℕ) (calls later : List Call) (done : Bool)
    → later ≡ cond done (calls ++ Sync ∷ []) calls
    → HoldsDuring (length calls) (length later) (Leaves first calls) (Leaves first later) (Leaves first calls (length calls))
during_sync first calls later true is =
    subst (λ (l : List Call). HoldsDuring (length calls) (length l) (Leaves first calls) (Leaves first l)
    (Leaves first calls (length calls))) (sym is)
    (pushed first calls Sync (Leaves first calls (length calls)) (whole first calls)
    (λ image synced. whole first calls image
    (subst (MayLeave first (reverse calls)) (sym synced) (file_may_stay first (reverse calls)))))
during_sync first calls later false is =
    subst (λ (l : List Call). HoldsDuring (length calls) (length l) (Leaves first calls) (Leaves first l)
    (Leaves first calls (length calls))) (sym is)
    (unpushed first calls (Leaves first calls (length calls)) (whole first calls))

-- a write that is recorded, or finds no memory
pub during_write : {T E : Type 0} (first : List ℕ) (calls later : List Call) (at : ℕ) (bytes : List ℕ) (r : Result T E)
    → OnOk r ((v : Vec ℕ Global) × (v.items ≡ bytes) × (later ≡ calls ++ Write at v ∷ [])) → OnErr r (later ≡ calls)
    → HoldsDuring (length calls) (length later) (Leaves first calls) (Leaves first later)
    (TornFrom at (length bytes) (Leaves first calls (length calls)))
during_write first calls later at bytes (Ok x) kept none =
    subst (λ (l : List Call). HoldsDuring (length calls) (length l) (Leaves first calls) (Leaves first l)
    (TornFrom at (length bytes) (Leaves first calls (length calls)))) (sym kept.2)
    (pushed first calls (Write at kept.0) (TornFrom at (length bytes) (Leaves first calls (length calls)))
    (λ image left. (image, whole first calls image left, torn_not at (length bytes) image))
    (λ image left.
    (left.0, whole first calls left.0 left.1, subst (λ (l : List ℕ). Torn at (length l) left.0 image) kept.1 left.2)))
during_write first calls later at bytes (Err e) kept none =
    subst (λ (l : List Call). HoldsDuring (length calls) (length l) (Leaves first calls) (Leaves first l)
    (TornFrom at (length bytes) (Leaves first calls (length calls)))) (sym none)
    (unpushed first calls (TornFrom at (length bytes) (Leaves first calls (length calls)))
    (λ image left. (image, whole first calls image left, torn_not at (length bytes) image)))

-- a crash that loses all since the last sync is one of those that may come
synced_may_stay : (first : List ℕ) (calls : List Call) → MayLeave first calls (synced_after first calls)
synced_may_stay first [] = refl
synced_may_stay first (Write at bytes ∷ earlier) = (
  synced_after first earlier,
  synced_may_stay first earlier,
  torn_not at (length bytes.items) (synced_after first earlier),
)
synced_may_stay first (Sync ∷ earlier) = refl

-- what the device has by the last sync is an image that a crash after the first calls may leave
pub synced_left : {E : Type 0} (r : Result (Vec ℕ Global) E) (first f : List ℕ) (calls k : List Call) (n : ℕ)
    → f ≡ first → k ≡ calls → IfOk r (λ image. image.items ≡ synced_after f (reverse (take n k)))
    → IfOk r (λ image. MayLeave first (reverse (take n calls)) image.items)
synced_left (Ok image) first f calls k n same_first same_calls is =
    let all : image.items ≡ synced_after first (reverse (take n calls)) = is
    ∙ ap (λ (l : List ℕ). synced_after l (reverse (take n k))) same_first
    ∙ ap (λ (l : List Call). synced_after first (reverse (take n l))) same_calls in
    subst (MayLeave first (reverse (take n calls))) (sym all) (synced_may_stay first (reverse (take n calls)))
synced_left (Err e) first f calls k n same_first same_calls is = is

-- and so is what a read gave
pub read_left : {E : Type 0} (r : Result (Vec ℕ Global) E) (first f : List ℕ) (calls k : List Call) (n : ℕ)
    → f ≡ first → k ≡ calls → IfOk r (λ image. image.items ≡ file_after f (reverse (take n k)))
    → IfOk r (λ image. MayLeave first (reverse (take n calls)) image.items)
read_left (Ok image) first f calls k n same_first same_calls is =
    let all : image.items ≡ file_after first (reverse (take n calls)) = is
    ∙ ap (λ (l : List ℕ). file_after l (reverse (take n k))) same_first
    ∙ ap (λ (l : List Call). file_after first (reverse (take n l))) same_calls in
    subst (MayLeave first (reverse (take n calls))) (sym all) (file_may_stay first (reverse (take n calls)))
read_left (Err e) first f calls k n same_first same_calls is = is

-- the first calls, with the next one
reverse_more : (calls : List Call) (i : ℕ) (call : Call) → i < length calls → call ≡ get_or calls i call
    → reverse (take (i + 1) calls) ≡ call ∷ reverse (take i calls)
reverse_more calls i call within is =
    ap reverse (take_more calls i call within) ∙ reverse_pushed (take i calls) (get_or calls i call)
    ∙ ap (λ (c : Call). c ∷ reverse (take i calls)) (sym is)

module _ (first : List ℕ) (calls : List Call) (i : ℕ) (call : Call) (within : i < length calls)
    (is : call ≡ get_or calls i call) where
  pub write_more : (at : ℕ) (kept : Vec ℕ Global) (bytes file new : List ℕ) → call ≡ Write at kept
      → bytes ≡ kept.items → file ≡ file_after first (reverse (take i calls)) → new ≡ after_write file at bytes
      → new ≡ file_after first (reverse (take (i + 1) calls))
  write_more at kept bytes file new is_write same read written =
      written ∙ ap (λ (l : List ℕ). after_write file at l) same ∙ ap (λ (l : List ℕ). after_write l at kept.items) read
      ∙ sym (ap (λ (l : List Call). file_after first l)
      (reverse_more calls i call within is ∙ ap (λ (c : Call). c ∷ reverse (take i calls)) is_write))

  pub sync_more : (file : List ℕ) → call ≡ Sync → file ≡ file_after first (reverse (take i calls))
      → file ≡ file_after first (reverse (take (i + 1) calls))
  sync_more file is_sync read =
      read
      ∙ sym (ap (λ (l : List Call). file_after first l)
      (reverse_more calls i call within is ∙ ap (λ (c : Call). c ∷ reverse (take i calls)) is_sync))

  pub torn_more : (at : ℕ) (kept : Vec ℕ Global) (bytes old new : List ℕ) → call ≡ Write at kept → bytes ≡ kept.items
      → MayLeave first (reverse (take i calls)) old → Torn at (length bytes) old new
      → MayLeave first (reverse (take (i + 1) calls)) new
  torn_more at kept bytes old new is_write same left torn =
      subst (λ (l : List Call). MayLeave first l new)
      (sym (reverse_more calls i call within is ∙ ap (λ (c : Call). c ∷ reverse (take i calls)) is_write))
      (old, left, subst (λ (l : List ℕ). Torn at (length l) old new) same torn)

  pub synced_more : (file image : List ℕ) → call ≡ Sync → file ≡ file_after first (reverse (take i calls))
      → image ≡ file → MayLeave first (reverse (take (i + 1) calls)) image
  synced_more file image is_sync read same =
      subst (λ (l : List Call). MayLeave first l image)
      (sym (reverse_more calls i call within is ∙ ap (λ (c : Call). c ∷ reverse (take i calls)) is_sync)) (same ∙ read)
