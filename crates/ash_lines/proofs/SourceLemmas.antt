-- Bytes that are read one after another.
use Rattle.std.proofs.Common.{◌≡◌, ◌<◌, ℕ, ◌==◌, not, Bool, true, List, [], ◌∷◌, ◌++◌, length, refl, sym, subst, arith, Ok}
use Rattle.std.proofs.Common.{Err, Some, None, Option, Result, length-append, append_assoc}
use Rattle.std.proofs.lemmas.List.{append-nil}
use Rattle.std.proofs.lemmas.List.Folds.{list_all-append}
use Rattle.std.proofs.lemmas.Grind.{common_steps}
use Rattle.ash_lines.specs.Lines.{max_line_bytes}
use Rattle.ash_lines.specs.Source.{Feed, IsFeed, Faults, ReadsNext}
use Rattle.ash_lines.specs.Reading.{is_line, ReadsLinePart, ReadsWholeLine, FaultsInLine, Skips, IsLong, ReadsLine}
use Rattle.ash_lines.specs.declared.line.LineRest.{LineRest}
use Rattle.ash_lines.specs.declared.line.LineRest.TheVariants as rests
use Rattle.ash_lines.specs.declared.line.LineRead.{LineRead}
use Rattle.ash_lines.specs.declared.line.LineRead.TheVariants as line
use Rattle.ash_lines.specs.declared.source.ReadFault.{ReadFault}
use Rattle.ash_lines.specs.declared.source.ReadFault.TheVariants.{TooLong, Failed}

-- So much was skipped: some bytes, or none.
abbrev pub HasSkipped : Bool → List ℕ → Type 0
HasSkipped true bytes = 0 < length bytes
HasSkipped _ bytes = bytes ≡ []

-- a fault after these bytes
pub faults_after : {S : Type 0} (feed : Feed S) → IsFeed feed → (s t u : S) (bytes more : List ℕ) (fault : ReadFault) → feed.reads s bytes t → Faults feed t more fault u → Faults feed s (bytes ++ more) fault u
faults_after feed is s t u bytes more TooLong took h = (is.onward s t u bytes more took h.0, h.1, h.2)
faults_after feed is s t u bytes more Failed took h = (h.0, is.onward s t h.0 bytes more took h.1, h.2)

-- a fault right after these bytes
pub faults_then : {S : Type 0} (feed : Feed S) → IsFeed feed → (s t u : S) (bytes : List ℕ) (fault : ReadFault) → feed.reads s bytes t → Faults feed t [] fault u → Faults feed s bytes fault u
faults_then feed is s t u bytes fault took h =
    subst (λ (x : List ℕ). Faults feed s x fault u) (append-nil bytes) (faults_after feed is s t u bytes [] fault took h)

-- nothing more was read
pub reads_then : {S : Type 0} (feed : Feed S) → IsFeed feed → (s t u : S) (bytes : List ℕ) → feed.reads s bytes t → feed.reads t [] u → feed.reads s bytes u
reads_then feed is s t u bytes took h = subst (λ (x : List ℕ). feed.reads s x u) (append-nil bytes) (is.onward s t u bytes [] took h)

-- what a read gave, by its outcome

pub next_end : {S : Type 0} (feed : Feed S) (s t : S) (r : Result (Option ℕ) ReadFault) (o : Option ℕ) → ReadsNext feed s r t → r ≡ Ok o → o ≡ None → feed.reads s [] t × feed.ended t
next_end feed s t r o h e f = rw (e, f) at h

pub next_byte : {S : Type 0} (feed : Feed S) (s t : S) (r : Result (Option ℕ) ReadFault) (o : Option ℕ) (byte : ℕ) → ReadsNext feed s r t → r ≡ Ok o → o ≡ Some byte → feed.reads s (byte ∷ []) t
next_byte feed s t r o byte h e f = rw (e, f) at h

pub is_line-nil : is_line [] ≡ true
unfolding is_line
is_line-nil = refl

pub is_line-push : (bytes : List ℕ) (byte : ℕ) → is_line bytes ≡ true → (byte ≡ 10 → ⊥) → is_line (bytes ++ byte ∷ []) ≡ true
unfolding is_line
is_line-push bytes byte h e = grind (arith, common_steps, list_all-append (λ (b : ℕ). not (b == 10)) bytes (byte ∷ []), h, e)

pub is_line-append : (bytes more : List ℕ) → is_line bytes ≡ true → is_line more ≡ true → is_line (bytes ++ more) ≡ true
unfolding is_line
is_line-append bytes more h e = grind (arith, common_steps, list_all-append (λ (b : ℕ). not (b == 10)) bytes more, h, e)

-- before the first byte of a line
pub part-nil : {S : Type 0} (feed : Feed S) → IsFeed feed → (s : S) (bytes : List ℕ) → bytes ≡ [] → ReadsLinePart feed s bytes s
part-nil feed is s bytes e = subst (λ (x : List ℕ). ReadsLinePart feed s x s) (sym e) (record { took = is.nothing s; line = is_line-nil })

pub part-none : {S : Type 0} (feed : Feed S) → IsFeed feed → (s t u : S) (bytes : List ℕ) → bytes ≡ [] → ReadsLinePart feed s bytes t → feed.reads t [] u → feed.reads s [] u
part-none feed is s t u bytes e h took = is.onward s t u [] [] (rw e at h.took) took

-- one more byte of a line
pub part-push : {S : Type 0} (feed : Feed S) → IsFeed feed → (s t u : S) (bytes : List ℕ) (byte : ℕ) → ReadsLinePart feed s bytes t → feed.reads t (byte ∷ []) u → (byte ≡ 10 → ⊥) → ReadsLinePart feed s (bytes ++ byte ∷ []) u
part-push feed is s t u bytes byte h took e = record { took = is.onward s t u bytes (byte ∷ []) h.took took; line = is_line-push bytes byte h.line e }

-- its line feed
pub part-whole : {S : Type 0} (feed : Feed S) → IsFeed feed → (s t u : S) (bytes : List ℕ) (byte : ℕ) → ReadsLinePart feed s bytes t → feed.reads t (byte ∷ []) u → byte ≡ 10 → ReadsWholeLine feed s bytes u
part-whole feed is s t u bytes byte h took e = record { took = is.onward s t u bytes (10 ∷ []) h.took (rw e at took); line = h.line }

pub whole-none : {S : Type 0} (feed : Feed S) (s t : S) (bytes : List ℕ) → bytes ≡ [] → ReadsWholeLine feed s bytes t → ReadsWholeLine feed s [] t
whole-none feed s t bytes e h = subst (λ (x : List ℕ). ReadsWholeLine feed s x t) e h

-- its end before that
pub part-end : {S : Type 0} (feed : Feed S) → IsFeed feed → (s t u : S) (bytes : List ℕ) → ReadsLinePart feed s bytes t → feed.reads t [] u → ReadsLinePart feed s bytes u
part-end feed is s t u bytes h took = record { took = reads_then feed is s t u bytes h.took took; line = h.line }

-- a fault within it
pub part-fault : {S : Type 0} (feed : Feed S) → IsFeed feed → (s t u : S) (bytes : List ℕ) (fault : ReadFault) → ReadsLinePart feed s bytes t → Faults feed t [] fault u → FaultsInLine feed s fault u
part-fault feed is s t u bytes fault h f = record { bytes = bytes; faults = faults_then feed is s t u bytes fault h.took f; line = h.line }

-- a line goes on after what was read of it
pub part-after : {S : Type 0} (feed : Feed S) → IsFeed feed → (s t u : S) (bytes more : List ℕ) → ReadsLinePart feed s bytes t → ReadsLinePart feed t more u → ReadsLinePart feed s (bytes ++ more) u
part-after feed is s t u bytes more h then = record { took = is.onward s t u bytes more h.took then.took; line = is_line-append bytes more h.line then.line }

pub part-whole_after : {S : Type 0} (feed : Feed S) → IsFeed feed → (s t u : S) (bytes more : List ℕ) → ReadsLinePart feed s bytes t → ReadsWholeLine feed t more u → ReadsWholeLine feed s (bytes ++ more) u
part-whole_after feed is s t u bytes more h then =
    record { took = subst (λ (x : List ℕ). feed.reads s x u) (sym (append_assoc bytes more (10 ∷ []))) (is.onward s t u bytes (more ++ 10 ∷ []) h.took then.took); line = is_line-append bytes more h.line then.line }

pub part-faults_after : {S : Type 0} (feed : Feed S) → IsFeed feed → (s t u : S) (bytes : List ℕ) (fault : ReadFault) → ReadsLinePart feed s bytes t → FaultsInLine feed t fault u → FaultsInLine feed s fault u
part-faults_after feed is s t u bytes fault h f =
    record { bytes = bytes ++ f.bytes; faults = faults_after feed is s t u bytes f.bytes fault h.took f.faults; line = is_line-append bytes f.bytes h.line f.line }

-- a line that is too long already, and what was skipped of it
pub long_line : {S : Type 0} (feed : Feed S) → IsFeed feed → (s t u : S) (bytes buffer : List ℕ) (r : Result LineRest ReadFault) (o : Result LineRead ReadFault) → ReadsLinePart feed s bytes t → max_line_bytes < length bytes → Skips feed t r u → IsLong r o → ReadsLine feed s o buffer u
long_line feed is s t u bytes buffer (Ok rests.Empty) (Ok line.TooLong) h l k w = (bytes ++ [], part-whole_after feed is s t u bytes [] h k, omega (arith, length-append bytes []))
long_line feed is s t u bytes buffer (Ok rests.Bytes) (Ok line.TooLong) h l k w = (bytes ++ k.0, part-whole_after feed is s t u bytes k.0 h k.1, omega (arith, length-append bytes k.0))
long_line feed is s t u bytes buffer (Ok rests.Cut) (Ok line.Cut) h l k w = (bytes ++ k.0, part-after feed is s t u bytes k.0 h k.1, omega (arith, length-append bytes k.0), k.2)
long_line feed is s t u bytes buffer (Err fault) (Err other) h l k w = subst (λ (x : ReadFault). FaultsInLine feed s x u) w (part-faults_after feed is s t u bytes fault h k)
long_line feed is s t u bytes buffer (Ok rests.Empty) _ h l k w = absurd w
long_line feed is s t u bytes buffer (Ok rests.Bytes) _ h l k w = absurd w
long_line feed is s t u bytes buffer (Ok rests.Cut) _ h l k w = absurd w
long_line feed is s t u bytes buffer (Err fault) _ h l k w = absurd w
