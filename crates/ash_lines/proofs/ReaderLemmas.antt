-- What a read of one byte came to.
use Rattle.std.proofs.Common.{◌≡◌, ◌<◌, ◌≤◌, ℕ, List, [], ◌∷◌, length, take, get_or, refl, sym, ap, ◌∙◌, subst, arith}
use Rattle.std.proofs.Common.{zero, suc, Option, Some, None, Ok, Result, Bool, true, false, if◌then◌else◌}
use Rattle.std.specs.Io.KnownBytes.{Consumes, Keeps, IsAtEnd, ReadConsumes, prepend_known}
use Rattle.ash_lines.specs.Reader.{TakesBuffered}
use Rattle.ash_lines.specs.Source.{ReadyComesNext}
use Rattle.ash_lines.specs.declared.source.ReadFault.{ReadFault}
use Rattle.ash_lines.specs.declared.reader.ByteRead.{ByteRead}
use Rattle.ash_lines.specs.declared.reader.ByteRead.TheVariants as byte_reads

keeps_then : (old mid new : Option (List ℕ)) (bytes : List ℕ) → Keeps old mid → Consumes mid new bytes → Consumes old new bytes
keeps_then None mid new bytes h k = tt
keeps_then (Some xs) None new bytes h k = absurd h
keeps_then (Some xs) (Some ys) None bytes h k = absurd k
keeps_then (Some xs) (Some ys) (Some zs) bytes h k = sym h ∙ k

keeps_nothing : (old new : Option (List ℕ)) → Consumes old new [] → Keeps old new
keeps_nothing None new h = tt
keeps_nothing (Some xs) None h = absurd h
keeps_nothing (Some xs) (Some ys) h = sym h

pub reads_end : {E : Type 0} (old mid new : Option (List ℕ)) (r : Result ℕ E) (n : ℕ) (buf : List ℕ) → Keeps old mid → ReadConsumes mid new r buf → r ≡ Ok n → n ≡ 0 → 0 < length buf → Keeps old new × IsAtEnd new
reads_end old mid new r n buf k h e f l =
    let w = rw (e, f) at h in
    (keeps_nothing old new (keeps_then old mid new [] k w.0), w.1 refl l)

take-one : (n : ℕ) (buf : List ℕ) (byte : ℕ) → (n ≡ 0 → ⊥) → n ≤ length buf → length buf ≡ 1 → byte ≡ get_or buf 0 0 → take n buf ≡ byte ∷ []
take-one zero buf byte z l o e = absurd (z refl)
take-one (suc n) [] byte z l o e = absurd (omega arith)
take-one (suc zero) (b ∷ []) byte z l o e = ap (λ (x : ℕ). x ∷ []) (sym e)
take-one (suc (suc n)) (b ∷ []) byte z l o e = absurd (omega arith)
take-one (suc n) (b ∷ b' ∷ buf) byte z l o e = absurd (omega arith)

pub reads_byte : {E : Type 0} (old mid new : Option (List ℕ)) (r : Result ℕ E) (n : ℕ) (buf : List ℕ) (byte : ℕ) → Keeps old mid → ReadConsumes mid new r buf → r ≡ Ok n → (n ≡ 0 → ⊥) → n ≤ length buf → length buf ≡ 1 → byte ≡ get_or buf 0 0 → Consumes old new (byte ∷ [])
reads_byte old mid new r n buf byte k h e z l o f =
    let w = rw e at h in
    keeps_then old mid new (byte ∷ []) k (subst (λ (x : List ℕ). Consumes mid new x) (take-one n buf byte z l o f) w.0)

-- no byte came
abbrev IsNone : ByteRead → Type 0
IsNone (byte_reads.Byte byte) = ⊥
IsNone _ = Unit {0}

-- what one step of the source did, by what the read came to

pub left_end : (old new : Option (List ℕ)) → Keeps old new × IsAtEnd new → Consumes (prepend_known [] old) (prepend_known [] new) [] × IsAtEnd (prepend_known [] new)
left_end None None h = (tt, tt)
left_end None (Some ys) h = (tt, h.1)
left_end (Some xs) None h = absurd h.0
left_end (Some xs) (Some ys) h = (sym h.0, h.1)

pub left_byte : (old new : Option (List ℕ)) (byte : ℕ) → Consumes old new (byte ∷ []) → Consumes (prepend_known [] old) (prepend_known [] new) (byte ∷ [])
left_byte None new byte h = tt
left_byte (Some xs) None byte h = absurd h
left_byte (Some xs) (Some ys) byte h = h

pub left_extra : (old new : Option (List ℕ)) (byte : ℕ) → Consumes old new (byte ∷ []) → Consumes (prepend_known [] old) (prepend_known (byte ∷ []) new) []
left_extra None new byte h = tt
left_extra (Some xs) None byte h = absurd h
left_extra (Some xs) (Some ys) byte h = h

-- what is ready is what the buffer has, and it has none if no byte came from it

pub unready : (buffer after : List ℕ) (within : Bool) (read : ByteRead) (result : Result (Option ℕ) ReadFault) (new : List ℕ) → TakesBuffered buffer read after → IsNone read → ReadyComesNext (if within then buffer else []) result new
unready [] after true read result new h n = tt
unready [] after false read result new h n = tt
unready (byte ∷ more) after within read result new h n = absurd (rw h.0 at n)
