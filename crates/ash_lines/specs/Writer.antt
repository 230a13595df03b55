-- A writer as a sink.
use Rattle.std.specs.Prelude.{◌≡◌, ℕ, true, List, [], ◌++◌, take, Option, Some, None, refl, Result, Ok, Err}
use Rattle.std.specs.Io.KnownBytes.{Appends}
use Rattle.std.proofs.Common.{sym, ap, ◌∙◌, append_assoc}
use Rattle.std.proofs.lemmas.List.{append-nil}
use Rattle.ash_lines.specs.Sink.{Outlet, IsOutlet}
use Rattle.ash_lines.specs.declared.sink.WriteFault.{WriteFault}
use Rattle.ash_lines.specs.declared.writer.Writer.{Writer}

abbrev pub writer_outlet : {W : Type 0} → (W → Option (List ℕ)) → Outlet (Writer W)
writer_outlet contents = record {
  writes = λ s bytes t. Appends (contents s.writer.now) (contents t.writer.now) bytes
      × (t.writer.ghost_name ≡ s.writer.ghost_name) × (t.failed ≡ s.failed);
  fails = λ s bytes t. Appends (contents s.writer.now) (contents t.writer.now) bytes
      × (t.writer.ghost_name ≡ s.writer.ghost_name) × (t.failed ≡ true);
  buffered = λ s. s.buffer.items;
  room = λ s. s.room;
}

pub appends-nothing : (known : Option (List ℕ)) → Appends known known []
appends-nothing None = tt
appends-nothing (Some bytes) = sym (append-nil bytes)

pub appends-onward : (first second third : Option (List ℕ)) (bytes more : List ℕ) → Appends first second bytes
    → Appends second third more → Appends first third (bytes ++ more)
appends-onward None second third bytes more h k = tt
appends-onward (Some xs) None third bytes more h k = absurd h
appends-onward (Some xs) (Some ys) None bytes more h k = absurd k
appends-onward (Some xs) (Some ys) (Some zs) bytes more h k =
    k ∙ (ap (λ (x : List ℕ). x ++ more) h ∙ append_assoc xs bytes more)

pub writer_is_outlet : {W : Type 0} (contents : W → Option (List ℕ)) → IsOutlet (writer_outlet contents)
writer_is_outlet contents = record {
  nothing = λ s. (appends-nothing (contents s.writer.now), refl, refl);
  onward = λ s t u first more h k. (
    appends-onward (contents s.writer.now) (contents t.writer.now) (contents u.writer.now) first more h.0 k.0,
    k.1 ∙ h.1,
    k.2 ∙ h.2,
  );
  broken = λ s t u first more h k. (
    appends-onward (contents s.writer.now) (contents t.writer.now) (contents u.writer.now) first more h.0 k.0,
    k.1 ∙ h.1,
    k.2,
  );
}

-- How many of the bytes went out, where the writer's are known: all, or so many before a write failed.
abbrev pub WritesOut : Option (List ℕ) → List ℕ → Result (Unit {0}) ℕ → Option (List ℕ) → Type 0
WritesOut old bytes (Ok _) new = Appends old new bytes
WritesOut old bytes (Err count) new = Appends old new (take count bytes)

-- Bytes went out, and this is buffered after them; or a prefix of them went out.
abbrev pub WritesThrough : {K : Type 0} → Outlet K → K → List ℕ → Result (Unit {0}) WriteFault → K → List ℕ → Type 0
WritesThrough outlet old bytes (Ok _) new buffered =
    outlet.writes old bytes new × (outlet.buffered new ≡ buffered) × (outlet.room new ≡ outlet.room old)
WritesThrough outlet old bytes (Err _) new buffered =
    (out : List ℕ) × (lost : List ℕ) × outlet.fails old out new × (bytes ≡ out ++ lost)
