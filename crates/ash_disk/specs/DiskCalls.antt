-- These definitions say what a disk in memory holds, and what a crash may leave of it, from its first bytes and its
-- calls since. The newest call comes first.
use Rattle.std.specs.Prelude.{◌≡◌, ℕ, List, [], ◌∷◌, length, reverse, take, refl}
use Rattle.std.proofs.Common.{sym, subst, arith}
use Rattle.std.proofs.lemmas.List.{take_all}
use Rattle.ash_disk.specs.DiskImage.{after_write, TornFrom, torn_whole}
use Rattle.ash_disk.specs.declared.call.Call.{Call}
use Rattle.ash_disk.specs.declared.call.Call.TheVariants.{Write, Sync}

-- `file_after first calls` are the bytes that a read gives after the calls.
abbrev pub file_after : List ℕ → List Call → List ℕ
file_after first [] = first
file_after first (Write at bytes ∷ earlier) = after_write (file_after first earlier) at bytes.items
file_after first (Sync ∷ earlier) = file_after first earlier

-- `synced_after first calls` are the bytes that a read gave at the last sync, or the first bytes where there was none.
abbrev pub synced_after : List ℕ → List Call → List ℕ
synced_after first [] = first
synced_after first (Write at bytes ∷ earlier) = synced_after first earlier
synced_after first (Sync ∷ earlier) = file_after first earlier

-- A crash after the calls may leave this image: each write since the last sync may be torn, and a sync leaves
-- what a read gives.
abbrev pub MayLeave : List ℕ → List Call → List ℕ → Type 0
MayLeave first [] image = image ≡ first
MayLeave first (Write at bytes ∷ earlier) image = TornFrom at (length bytes.items) (MayLeave first earlier) image
MayLeave first (Sync ∷ earlier) image = image ≡ file_after first earlier

-- A crash that loses nothing is one of those that may come.
pub file_may_stay : (first : List ℕ) (calls : List Call) → MayLeave first calls (file_after first calls)
file_may_stay first [] = refl
file_may_stay first (Write at bytes ∷ earlier) =
    (file_after first earlier, file_may_stay first earlier, torn_whole at (file_after first earlier) bytes.items)
file_may_stay first (Sync ∷ earlier) = refl

-- So after all calls, listed with the oldest first, a crash may leave what a read gives.
pub listed_may_stay : (first file : List ℕ) (calls : List Call) → file ≡ file_after first (reverse calls)
    → MayLeave first (reverse (take (length calls) calls)) file
listed_may_stay first file calls is =
    subst (λ (l : List Call). MayLeave first (reverse l) file) (sym (take_all (length calls) calls (omega arith)))
    (subst (MayLeave first (reverse calls)) (sym is) (file_may_stay first (reverse calls)))
