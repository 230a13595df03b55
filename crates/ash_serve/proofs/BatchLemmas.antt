-- The lines of a batch, as they are read one after another.
use Rattle.std.proofs.Common.{◌≡◌, ◌<◌, ℕ, ◌+◌, ◌-◌, true, List, [], ◌∷◌, ◌++◌, length, map, refl, sym, ap, ◌∙◌, subst, arith}
use Rattle.std.proofs.Common.{append_assoc, length-append, Ok, Err, ◌≤◌, drop, get_or, drop-cons, add-one}
use Rattle.std.proofs.lemmas.Grind.{common_steps}
use Rattle.std.proofs.lemmas.List.{append-nil}
use Rattle.ash_requests.specs.Requests.{Request, Load, Call, Discard, Get, Object, Seq, Snapshot}
use Rattle.ash_durable.specs.Batches.{BatchRequest}
use Rattle.ash_durable.specs.BatchViews.{batch_request_seen}
use Rattle.ash_durable.specs.declared.batch.BatchRequest as code
use Rattle.ash_lines.specs.Source.{Feed, IsFeed}
use Rattle.ash_lines.specs.Lines.{Line, HostRequest, InputLine, RequestLine, ConsistsBy}
use Rattle.ash_lines.specs.Lines.{next_line, next_inner, inner_line, is_unfinished, lines_at, Complete, parse_line}
use Rattle.ash_lines.proofs.HeaderLemmas.{load-follows}
use Rattle.ash_lines.proofs.SourceLemmas.{faults_after}
use Rattle.ash_serve.specs.BatchLines.{batch_request, asked_inside, prefix_of, owned_seen, ReadsInner, ReadsBatch}
use Rattle.ash_serve.specs.InputItems.{ReadsItem, StopsInside, IsLast}
use Rattle.ash_serve.specs.declared.owned.OwnedRequest.{OwnedRequest}
use Rattle.ash_serve.specs.declared.fault.RunFault.{RunFault}
use Rattle.ash_serve.specs.declared.fault.RunFault.TheVariants as faults
use Rattle.ash_serve.proofs.CommandLemmas.{consists-more, inner-cut, inner-whole, lines-whole, lines-cut, lines-last}

-- ---- one line

-- reading stopped inside a line
pub inner_stops : {S : Type 0} (feed : Feed S) (s t : S) (fault : RunFault) → StopsInside next_line feed s fault t → StopsInside next_inner feed s fault t
inner_stops feed s t faults.Truncated w = (w.0, w.1, w.2, inner-cut w.0 (ap is_unfinished w.3))
inner_stops feed s t (faults.Read fault) w = (w.0, w.1, ap is_unfinished (inner-cut w.0 w.2))
inner_stops feed s t faults.Write w = absurd w
inner_stops feed s t faults.NoMemory w = absurd w

-- so it did inside a line of a batch
pub inner_failed : {S : Type 0} (feed : Feed S) (s t : S) (fault : RunFault) → StopsInside next_line feed s fault t → ReadsInner feed s (Err fault) t
inner_failed feed s t faults.Truncated w = inner_stops feed s t faults.Truncated w
inner_failed feed s t (faults.Read fault) w = inner_stops feed s t (faults.Read fault) w
inner_failed feed s t faults.Write w = absurd w
inner_failed feed s t faults.NoMemory w = absurd w

pub inner_read : {S : Type 0} (feed : Feed S) (s t : S) (line : InputLine) → ReadsItem next_line feed s line t → ReadsItem next_inner feed s (inner_line line) t
inner_read feed s t line w = record { bytes = w.bytes; spells = λ more. inner-whole (w.bytes ++ more) more line (w.spells more); took = w.took }

-- the request of a line
pub inner_kept : {S : Type 0} (feed : Feed S) (s t : S) (line : InputLine) (request : OwnedRequest) → ReadsItem next_line feed s line t → owned_seen request ≡ prefix_of (batch_request (inner_line line)) → ReadsInner feed s (Ok request) t
inner_kept feed s t line request w e = (inner_line line, inner_read feed s t line w, e)

pub inner_refused : {S : Type 0} (feed : Feed S) (s t : S) (line : InputLine) (fault : RunFault) → ReadsItem next_line feed s line t → fault ≡ faults.NoMemory → ReadsInner feed s (Err fault) t
inner_refused feed s t line fault w e = rw e (inner_line line, inner_read feed s t line w)

-- one that is all in its line has no source
pub plain_asks : (line : List ℕ) (request : Request) → Complete (HostRequest request) ≡ parse_line line → asked_inside request ≡ prefix_of (batch_request (inner_line (RequestLine (HostRequest request))))
plain_asks line (Load name source) e = absurd (load-follows line name source e)
plain_asks line (Call module_name function arguments) e = refl
plain_asks line (Discard name) e = refl
plain_asks line (Get module_name name) e = refl
plain_asks line (Object number) e = refl
plain_asks line Seq e = refl
plain_asks line Snapshot e = refl

line-nil : is_unfinished (next_line []) ≡ true
unfolding next_line
line-nil = refl

-- the end of the input cuts a batch
pub inner_ended : {S : Type 0} (feed : Feed S) (s t : S) → feed.reads s [] t → feed.ended t → ReadsInner feed s (Err faults.Truncated) t
inner_ended feed s t took ended = ([], took, ended, inner-cut [] line-nil)

-- ---- lines one after another

-- So many lines of a batch were read, and their requests are kept.
pub record HasLines {S : Type 0} (feed : Feed S) (old : S) (requests : List OwnedRequest) (count : ℕ) (new : S) : Type 0 where
  pub bytes : List ℕ
  pub lines : List Line
  pub took : feed.reads old bytes new
  pub consists : (more : List ℕ) → ConsistsBy next_inner (bytes ++ more) lines more
  pub counted : length lines ≡ count
  pub kept : map owned_seen requests ≡ map prefix_of (map batch_request lines)

pub has-none : {S : Type 0} (feed : Feed S) → IsFeed feed → (s : S) (requests : List OwnedRequest) → requests ≡ [] → HasLines feed s requests 0 s
has-none feed is s requests e = record { bytes = []; lines = []; took = is.nothing s; consists = λ more. refl; counted = refl; kept = ap (map owned_seen) e }

map-last : {A B : Type 0} (f : A → B) (items : List A) (item : A) → map f (items ++ item ∷ []) ≡ map f items ++ f item ∷ []
map-last f [] item = refl
map-last {B = B} f (first ∷ items) item = ap (λ (x : List B). f first ∷ x) (map-last f items item)

kept-more : (requests : List OwnedRequest) (lines : List Line) (request : OwnedRequest) (line : Line) → map owned_seen requests ≡ map prefix_of (map batch_request lines) → owned_seen request ≡ prefix_of (batch_request line) → map owned_seen (requests ++ request ∷ []) ≡ map prefix_of (map batch_request (lines ++ line ∷ []))
kept-more requests lines request line h e =
    map-last owned_seen requests request
    ∙ (ap (λ (x : List BatchRequest). x ++ owned_seen request ∷ []) h
    ∙ (ap (λ (x : BatchRequest). map prefix_of (map batch_request lines) ++ x ∷ []) e
    ∙ (sym (map-last prefix_of (map batch_request lines) (batch_request line))
    ∙ ap (map prefix_of) (sym (map-last batch_request lines line)))))

-- one more line, whatever is kept of it
line-added : {S : Type 0} (feed : Feed S) → IsFeed feed → (s t u : S) (requests : List OwnedRequest) (count : ℕ) (line : Line) (h : HasLines feed s requests count t) (w : ReadsItem next_inner feed t line u) (more : List ℕ) → ConsistsBy next_inner ((h.bytes ++ w.bytes) ++ more) (h.lines ++ line ∷ []) more
line-added feed is s t u requests count line h w more =
    subst (λ (x : List ℕ). ConsistsBy next_inner x (h.lines ++ line ∷ []) more) (sym (append_assoc h.bytes w.bytes more))
    (consists-more next_inner h.lines (h.bytes ++ (w.bytes ++ more)) (w.bytes ++ more) more line (h.consists (w.bytes ++ more)) (w.spells more))

pub has-more : {S : Type 0} (feed : Feed S) → IsFeed feed → (s t u : S) (requests others : List OwnedRequest) (count : ℕ) (request : OwnedRequest) → HasLines feed s requests count t → ReadsInner feed t (Ok request) u → others ≡ requests ++ request ∷ [] → HasLines feed s others (count + 1) u
has-more feed is s t u requests others count request h w e = record {
  bytes = h.bytes ++ w.1.bytes;
  lines = h.lines ++ w.0 ∷ [];
  took = is.onward s t u h.bytes w.1.bytes h.took w.1.took;
  consists = line-added feed is s t u requests count w.0 h w.1;
  counted = omega (arith, length-append h.lines (w.0 ∷ []), h.counted);
  kept = ap (map owned_seen) e ∙ kept-more requests h.lines request w.0 h.kept w.2;
}

pub has-all : {S : Type 0} (feed : Feed S) (s t : S) (requests : List OwnedRequest) (done count : ℕ) (h : HasLines feed s requests done t) → done ≡ count → ReadsItem (lines_at count) feed s h.lines t
has-all feed s t requests done count h e = record { bytes = h.bytes; spells = λ more. lines-whole h.lines count (h.bytes ++ more) more (h.counted ∙ e) (h.consists more); took = h.took }

-- reading stopped inside one more

pub has-stopped : {S : Type 0} (feed : Feed S) → IsFeed feed → (s t u : S) (requests : List OwnedRequest) (done count : ℕ) (fault : RunFault) → HasLines feed s requests done t → done < count → StopsInside next_inner feed t fault u → StopsInside (lines_at count) feed s fault u
has-stopped feed is s t u requests done count faults.Truncated h l w = (
  h.bytes ++ w.0,
  is.onward s t u h.bytes w.0 h.took w.1,
  w.2,
  lines-cut h.lines count (count - (done + 1)) (h.bytes ++ w.0) w.0 (omega (arith, h.counted)) (h.consists w.0) (ap is_unfinished w.3),
)
has-stopped feed is s t u requests done count (faults.Read fault) h l w = (
  h.bytes ++ w.0,
  faults_after feed is s t u h.bytes w.0 fault h.took w.1,
  ap is_unfinished (lines-cut h.lines count (count - (done + 1)) (h.bytes ++ w.0) w.0 (omega (arith, h.counted)) (h.consists w.0) w.2),
)
has-stopped feed is s t u requests done count faults.Write h l w = absurd w
has-stopped feed is s t u requests done count faults.NoMemory h l w = absurd w

-- memory was refused for one more
pub has-refused : {S : Type 0} (feed : Feed S) → IsFeed feed → (s t u : S) (requests : List OwnedRequest) (done count : ℕ) (line : Line) → HasLines feed s requests done t → done < count → ReadsItem next_inner feed t line u → (rest : List ℕ) × feed.reads s rest u × IsLast (lines_at count rest)
has-refused feed is s t u requests done count line h l w = (
  h.bytes ++ w.bytes,
  is.onward s t u h.bytes w.bytes h.took w.took,
  lines-last (h.lines ++ line ∷ []) count (count - (done + 1)) (h.bytes ++ w.bytes) (omega (arith, length-append h.lines (line ∷ []), h.counted))
      (subst (λ (x : List ℕ). ConsistsBy next_inner x (h.lines ++ line ∷ []) []) (append-nil (h.bytes ++ w.bytes)) (line-added feed is s t u requests done line h w [])),
)

-- by what reading one more line did
pub has-failed : {S : Type 0} (feed : Feed S) → IsFeed feed → (s t u : S) (requests : List OwnedRequest) (done count : ℕ) (fault : RunFault) → HasLines feed s requests done t → done < count → ReadsInner feed t (Err fault) u → ReadsBatch feed count s (Err fault) u
has-failed feed is s t u requests done count faults.Truncated h l w = has-stopped feed is s t u requests done count faults.Truncated h l w
has-failed feed is s t u requests done count (faults.Read fault) h l w = has-stopped feed is s t u requests done count (faults.Read fault) h l w
has-failed feed is s t u requests done count faults.Write h l w = absurd w
has-failed feed is s t u requests done count faults.NoMemory h l w = has-refused feed is s t u requests done count w.0 h l w.1

-- nothing was read, and memory was refused
pub none-refused : {S : Type 0} (feed : Feed S) → IsFeed feed → (s : S) (count : ℕ) → (rest : List ℕ) × feed.reads s rest s × IsLast (lines_at count rest)
none-refused feed is s count = ([], is.nothing s, lines-last [] count count [] (omega arith) refl)

-- ---- as a host is asked

drop-one : (kept : List OwnedRequest) (i : ℕ) (request other : OwnedRequest) → i < length kept → get_or kept i other ≡ request → map owned_seen (drop i kept) ≡ owned_seen request ∷ map owned_seen (drop (i + 1) kept)
drop-one kept i request other h e = ap (map owned_seen) (drop-cons kept i other h) ∙ rw (add-one, e) refl

pub asked-none : (kept : List OwnedRequest) (asked : List code.BatchRequest) → asked ≡ [] → map owned_seen kept ≡ map batch_request_seen asked ++ map owned_seen kept
asked-none kept asked e = rw e refl

pub asked-more : (kept : List OwnedRequest) (asked others : List code.BatchRequest) (i : ℕ) (request other : OwnedRequest) (one : code.BatchRequest) → map owned_seen kept ≡ map batch_request_seen asked ++ map owned_seen (drop i kept) → i < length kept → get_or kept i other ≡ request → batch_request_seen one ≡ owned_seen request → others ≡ asked ++ one ∷ [] → map owned_seen kept ≡ map batch_request_seen others ++ map owned_seen (drop (i + 1) kept)
asked-more kept asked others i request other one h l g e f =
    h ∙ (ap (λ (x : List BatchRequest). map batch_request_seen asked ++ x) (drop-one kept i request other l g)
    ∙ (ap (λ (x : BatchRequest). map batch_request_seen asked ++ x ∷ map owned_seen (drop (i + 1) kept)) (sym e)
    ∙ (sym (append_assoc (map batch_request_seen asked) (batch_request_seen one ∷ []) (map owned_seen (drop (i + 1) kept)))
    ∙ ap (λ (x : List BatchRequest). x ++ map owned_seen (drop (i + 1) kept)) (sym (ap (map batch_request_seen) f ∙ map-last batch_request_seen asked one)))))

pub asked-all : (kept : List OwnedRequest) (asked : List code.BatchRequest) (i : ℕ) → map owned_seen kept ≡ map batch_request_seen asked ++ map owned_seen (drop i kept) → length kept ≤ i → map batch_request_seen asked ≡ map owned_seen kept
asked-all kept asked i h l =
    let e : drop i kept ≡ [] = grind (arith, common_steps) in
    sym (h ∙ (ap (λ (x : List OwnedRequest). map batch_request_seen asked ++ map owned_seen x) e ∙ append-nil (map batch_request_seen asked)))
