-- What went out of a writer.
use Rattle.std.proofs.Common.{◌≡◌, ◌≤◌, ℕ, ◌+◌, ◌-◌, List, [], ◌∷◌, ◌++◌, length, take, drop, refl, sym, ap, ◌∙◌, subst}
use Rattle.std.proofs.Common.{arith, zero, suc, zero-add, append_assoc, Option, Some, None, Ok, Err, Result}
use Rattle.std.proofs.lemmas.Grind.{common_steps}
use Rattle.std.proofs.lemmas.List.{append-nil}
use Rattle.std.specs.Io.KnownBytes.{Appends, Keeps, WriteAppends}
use Rattle.ash_lines.specs.Sink.{Outlet, IsOutlet, FailsPartway, Writes, Flushes}
use Rattle.ash_lines.specs.Writer.{appends-nothing, appends-onward, WritesThrough}
use Rattle.ash_lines.specs.declared.sink.WriteFault.{WriteFault}

take-nothing : (bytes : List ℕ) → take 0 bytes ≡ []
take-nothing bytes = refl

take-none : (k : ℕ) → take {A = ℕ} k [] ≡ []
take-none zero = refl
take-none (suc k) = refl

take-sum : (n m : ℕ) (xs : List ℕ) → take n xs ++ take m (drop n xs) ≡ take (n + m) xs
take-sum zero m xs = rw (zero-add m) refl
take-sum (suc n) m [] = let e : suc n + m ≡ suc (n + m) = omega arith in rw e (take-none m)
take-sum (suc n) m (x ∷ xs) = let e : suc n + m ≡ suc (n + m) = omega arith in rw e (ap (λ (ys : List ℕ). x ∷ ys) (take-sum n m xs))

pub wrote_nothing : (known : Option (List ℕ)) (bytes : List ℕ) → Appends known known (take 0 bytes)
wrote_nothing known bytes = appends-nothing known

keeps_appends : (old mid new : Option (List ℕ)) (bytes : List ℕ) → Appends old mid bytes → Keeps mid new → Appends old new bytes
keeps_appends None mid new bytes h k = tt
keeps_appends (Some xs) None new bytes h k = absurd h
keeps_appends (Some xs) (Some ys) None bytes h k = absurd k
keeps_appends (Some xs) (Some ys) (Some zs) bytes h k = k ∙ h

-- a write that took so many bytes
pub wrote_more : {E : Type 0} (old mid new : Option (List ℕ)) (bytes part : List ℕ) (written count : ℕ) (r : Result ℕ E) → Appends old mid (take written bytes) → WriteAppends mid new r part → r ≡ Ok count → part ≡ drop written bytes → Appends old new (take (written + count) bytes)
wrote_more old mid new bytes part written count r h k e p =
    let w = rw (e, p) at k in
    subst (λ (x : List ℕ). Appends old new x) (take-sum written count bytes) (appends-onward old mid new (take written bytes) (take count (drop written bytes)) h w)

-- a write that took none, or failed
pub wrote_none : {E : Type 0} (old mid new : Option (List ℕ)) (bytes part : List ℕ) (written count : ℕ) (r : Result ℕ E) → Appends old mid (take written bytes) → WriteAppends mid new r part → r ≡ Ok count → count ≡ 0 → Appends old new (take written bytes)
wrote_none old mid new bytes part written count r h k e z =
    let w = rw (e, z) at k in
    subst (λ (x : List ℕ). Appends old new x) (append-nil (take written bytes)) (appends-onward old mid new (take written bytes) [] h w)

pub wrote_failed : {E : Type 0} (old mid new : Option (List ℕ)) (bytes part : List ℕ) (written : ℕ) (fault : E) (r : Result ℕ E) → Appends old mid (take written bytes) → WriteAppends mid new r part → r ≡ Err fault → Appends old new (take written bytes)
wrote_failed old mid new bytes part written fault r h k e = let w = rw e at k in keeps_appends old mid new (take written bytes) h w

pub wrote_all : (old new : Option (List ℕ)) (bytes : List ℕ) (written : ℕ) → Appends old new (take written bytes) → length bytes ≤ written → Appends old new bytes
wrote_all old new bytes written h l = let e : take written bytes ≡ bytes = grind (arith, common_steps) in subst (λ (x : List ℕ). Appends old new x) e h

pub slice_rest : (bytes : List ℕ) (written : ℕ) → take (length bytes - written) (drop written bytes) ≡ drop written bytes
slice_rest bytes written = grind (arith, common_steps)

pub slice_length : (bytes : List ℕ) (written : ℕ) → length (take (length bytes - written) (drop written bytes)) ≤ length bytes - written
slice_length bytes written = grind (arith, common_steps)

-- a prefix, and what is lost
pub split_prefix : (n : ℕ) (xs : List ℕ) → xs ≡ take n xs ++ drop n xs
split_prefix zero xs = refl
split_prefix (suc n) [] = refl
split_prefix (suc n) (x ∷ xs) = ap (λ (ys : List ℕ). x ∷ ys) (split_prefix n xs)

pub keeps_none : (old new : Option (List ℕ)) → Keeps old new → Appends old new []
keeps_none None new k = tt
keeps_none (Some xs) None k = absurd k
keeps_none (Some xs) (Some ys) k = k ∙ sym (append-nil xs)

-- bytes that are written after those that were buffered

pub buffered_fault : {K : Type 0} (outlet : Outlet K) (s t : K) (bytes : List ℕ) → ((out : List ℕ) × (lost : List ℕ) × outlet.fails s out t × (outlet.buffered s ≡ out ++ lost)) → FailsPartway outlet s bytes t
buffered_fault outlet s t bytes h = record { out = h.0; lost = h.1 ++ bytes; broke = h.2; whole = ap (λ (x : List ℕ). x ++ bytes) h.3 ∙ append_assoc h.0 h.1 bytes }

pub through_after : {K : Type 0} (outlet : Outlet K) → IsOutlet outlet → (s m t : K) (bytes : List ℕ) (r : Result (Unit {0}) WriteFault) → (outlet.writes s (outlet.buffered s) m × (outlet.buffered m ≡ []) × (outlet.room m ≡ outlet.room s)) → WritesThrough outlet m bytes r t (outlet.buffered m) → Writes outlet s bytes r t
through_after outlet is s m t bytes (Ok x) h k = record {
  out = outlet.buffered s ++ bytes;
  written = is.onward s m t (outlet.buffered s) bytes h.0 k.0;
  whole = sym (append-nil (outlet.buffered s ++ bytes)) ∙ ap (λ (x : List ℕ). (outlet.buffered s ++ bytes) ++ x) (sym (k.1 ∙ h.1));
  room = record { same = k.2 ∙ h.2; within = λ l. rw (k.1 ∙ h.1) (omega arith) };
}
through_after outlet is s m t bytes (Err x) h k = record {
  out = outlet.buffered s ++ k.0;
  lost = k.1;
  broke = is.broken s m t (outlet.buffered s) k.0 h.0 k.2;
  whole = ap (λ (x : List ℕ). outlet.buffered s ++ x) k.3 ∙ sym (append_assoc (outlet.buffered s) k.0 k.1);
}

pub flush_after : {K : Type 0} (outlet : Outlet K) → IsOutlet outlet → (s m t : K) (r : Result (Unit {0}) WriteFault) → (outlet.writes s (outlet.buffered s) m × (outlet.buffered m ≡ []) × (outlet.room m ≡ outlet.room s)) → WritesThrough outlet m [] r t (outlet.buffered m) → Flushes outlet s r t
flush_after outlet is s m t (Ok x) h k = record { written = is.onward s m t (outlet.buffered s) [] h.0 k.0; empty = k.1 ∙ h.1; room_same = k.2 ∙ h.2 }
flush_after outlet is s m t (Err x) h k = record {
  out = outlet.buffered s ++ k.0;
  lost = k.1;
  broke = is.broken s m t (outlet.buffered s) k.0 h.0 k.2;
  whole = ap (λ (x : List ℕ). outlet.buffered s ++ x) k.3 ∙ sym (append_assoc (outlet.buffered s) k.0 k.1);
}
