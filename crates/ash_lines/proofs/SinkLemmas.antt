-- Bytes that are written one after another.
use Rattle.std.proofs.Common.{◌≡◌, ℕ, ◌+◌, ◌<◌, ◌≤◌, List, [], ◌++◌, length, drop, get_or, map, codes, refl, sym, ap}
use Rattle.std.proofs.Common.{◌∙◌, subst, arith, Ok, Err, Result, append_assoc, add-one, drop-cons}
use Rattle.std.proofs.lemmas.List.{append-nil}
use Rattle.std.proofs.lemmas.Grind.{common_steps}
use Rattle.std.specs.Borrow.{Bor}
use Rattle.std.specs.List.{flat_map}
use Rattle.ash_lines.specs.Sink.{Outlet, IsOutlet, KeepsRoom, Accepts, FailsPartway, Writes, Flushes, WritesAndFlushes}
use Rattle.ash_lines.specs.RefusalTexts.{names_text}
use Rattle.ash_lines.specs.declared.sink.WriteFault.{WriteFault}

-- the room

pub room-stays : {K : Type 0} (outlet : Outlet K) (s : K) → KeepsRoom outlet s s
room-stays outlet s = record { same = refl; within = λ h. h }

room-onward : {K : Type 0} (outlet : Outlet K) (s t u : K) → KeepsRoom outlet s t → KeepsRoom outlet t u → KeepsRoom outlet s u
room-onward outlet s t u h k = record { same = k.same ∙ h.same; within = λ w. k.within (h.within w) }

-- nothing was written
pub accepts-nil : {K : Type 0} (outlet : Outlet K) → IsOutlet outlet → (s : K) → Accepts outlet s [] s
accepts-nil outlet is s = record { out = []; written = is.nothing s; whole = append-nil (outlet.buffered s); room = room-stays outlet s }

-- some bytes, and then more
pub accepts-then : {K : Type 0} (outlet : Outlet K) → IsOutlet outlet → (s t u : K) (bytes more : List ℕ) → Accepts outlet s bytes t → Accepts outlet t more u → Accepts outlet s (bytes ++ more) u
accepts-then outlet is s t u bytes more h k = record {
  out = h.out ++ k.out;
  written = is.onward s t u h.out k.out h.written k.written;
  whole = sym (append_assoc (outlet.buffered s) bytes more) ∙ (ap (λ (x : List ℕ). x ++ more) h.whole ∙ (append_assoc h.out (outlet.buffered t) more ∙ (ap (λ (x : List ℕ). h.out ++ x) k.whole ∙ sym (append_assoc h.out k.out (outlet.buffered u)))));
  room = room-onward outlet s t u h.room k.room;
}

-- a write that fails loses what comes after it too
pub fails-more : {K : Type 0} (outlet : Outlet K) (s t : K) (bytes more : List ℕ) → FailsPartway outlet s bytes t → FailsPartway outlet s (bytes ++ more) t
fails-more outlet s t bytes more h = record {
  out = h.out;
  lost = h.lost ++ more;
  broke = h.broke;
  whole = sym (append_assoc (outlet.buffered s) bytes more) ∙ (ap (λ (x : List ℕ). x ++ more) h.whole ∙ append_assoc h.out h.lost more);
}

pub accepts-fails : {K : Type 0} (outlet : Outlet K) → IsOutlet outlet → (s t u : K) (bytes more : List ℕ) → Accepts outlet s bytes t → FailsPartway outlet t more u → FailsPartway outlet s (bytes ++ more) u
accepts-fails outlet is s t u bytes more h k = record {
  out = h.out ++ k.out;
  lost = k.lost;
  broke = is.broken s t u h.out k.out h.written k.broke;
  whole = sym (append_assoc (outlet.buffered s) bytes more) ∙ (ap (λ (x : List ℕ). x ++ more) h.whole ∙ (append_assoc h.out (outlet.buffered t) more ∙ (ap (λ (x : List ℕ). h.out ++ x) k.whole ∙ sym (append_assoc h.out k.out k.lost))));
}

-- written, and then whatever the next write does
pub writes-then : {K : Type 0} (outlet : Outlet K) → IsOutlet outlet → (s t u : K) (bytes more : List ℕ) (r : Result (Unit {0}) WriteFault) → Accepts outlet s bytes t → Writes outlet t more r u → Writes outlet s (bytes ++ more) r u
writes-then outlet is s t u bytes more (Ok x) h k = accepts-then outlet is s t u bytes more h k
writes-then outlet is s t u bytes more (Err x) h k = accepts-fails outlet is s t u bytes more h k

-- written, and then flushed
pub accepts-flushes : {K : Type 0} (outlet : Outlet K) → IsOutlet outlet → (s t u : K) (bytes : List ℕ) (r : Result (Unit {0}) WriteFault) → Accepts outlet s bytes t → Flushes outlet t r u → WritesAndFlushes outlet s bytes r u
accepts-flushes outlet is s t u bytes (Ok x) h k = record {
  written = subst (λ (y : List ℕ). outlet.writes s y u) (ap (λ (y : List ℕ). h.out ++ y) (append-nil (outlet.buffered t)) ∙ sym h.whole) (is.onward s t u h.out (outlet.buffered t ++ []) h.written k.written);
  empty = k.empty;
  room_same = k.room_same ∙ h.room.same;
}
accepts-flushes outlet is s t u bytes (Err x) h k = subst (λ (y : List ℕ). FailsPartway outlet s y u) (append-nil bytes) (accepts-fails outlet is s t u bytes [] h k)

-- written, and then all is flushed after more
pub writes_line-then : {K : Type 0} (outlet : Outlet K) → IsOutlet outlet → (s t u : K) (bytes more : List ℕ) (r : Result (Unit {0}) WriteFault) → Accepts outlet s bytes t → WritesAndFlushes outlet t more r u → WritesAndFlushes outlet s (bytes ++ more) r u
writes_line-then outlet is s t u bytes more (Ok x) h k = record {
  written = subst (λ (y : List ℕ). outlet.writes s y u) (sym (append_assoc h.out (outlet.buffered t) more) ∙ (ap (λ (y : List ℕ). y ++ more) (sym h.whole) ∙ append_assoc (outlet.buffered s) bytes more)) (is.onward s t u h.out (outlet.buffered t ++ more) h.written k.written);
  empty = k.empty;
  room_same = k.room_same ∙ h.room.same;
}
writes_line-then outlet is s t u bytes more (Err x) h k = accepts-fails outlet is s t u bytes more h k

-- pieces: the text of those that are left, from one piece to the next

pub left-piece : (pieces : List (Bor (List ℕ))) (i : ℕ) (d : Bor (List ℕ)) → i < length pieces → flat_map (λ (p : Bor (List ℕ)). p.now) (drop i pieces) ≡ (get_or pieces i d).now ++ flat_map (λ (p : Bor (List ℕ)). p.now) (drop (i + 1) pieces)
left-piece pieces i d h =
    ap (flat_map (λ (p : Bor (List ℕ)). p.now)) (drop-cons pieces i d h)
    ∙ rw add-one refl

pub left-none : (pieces : List (Bor (List ℕ))) (i : ℕ) → length pieces ≤ i → flat_map (λ (p : Bor (List ℕ)). p.now) (drop i pieces) ≡ []
left-none pieces i h = let e : drop i pieces ≡ [] = grind (arith, common_steps) in rw e refl

-- names, with a blank before each: the text of those that are left, from one name to the next
pub left-name : {A : Type 0} (text : A → List ℕ) (names : List A) (i : ℕ) (name : A) → i < length names → get_or names i name ≡ name → names_text (map text (drop i names)) ≡ (codes " " ++ text name) ++ names_text (map text (drop (i + 1) names))
left-name text names i name h e =
    ap (λ xs. names_text (map text xs)) (drop-cons names i name h)
    ∙ rw (add-one, e) refl

-- a blank and a name, as pieces
pub name-pieces : (blank bytes name : List ℕ) → blank ≡ codes " " → bytes ≡ name → blank ++ (bytes ++ []) ≡ codes " " ++ name
name-pieces blank bytes name b e = rw (b, e) (ap (λ (x : List ℕ). codes " " ++ x) (append-nil name))
