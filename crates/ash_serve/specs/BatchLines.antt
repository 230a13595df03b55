-- The lines of a batch, as they are read and as a host is asked.
use Rattle.std.specs.Prelude.{◌≡◌, ℕ, List, map, length, string_bytes, Result, Ok, Err}
use Rattle.std.specs.declared.vec.Vec.{Vec}
use Rattle.std.specs.declared.alloc.Global.{Global as Memory}
use Rattle.ash_requests.specs.Requests.{Request, Load, Call, Discard, Get, Object, Seq, Snapshot}
use Rattle.ash_durable.specs.Batches.{BatchRequest, Asked}
use Rattle.ash_durable.specs.Batches as batches
use Rattle.ash_lines.specs.Source.{Feed}
use Rattle.ash_lines.specs.Reading.{source_prefix}
use Rattle.ash_lines.specs.Lines.{Line, HostRequest, LineTooLong, next_inner, lines_at}
use Rattle.ash_serve.specs.InputItems.{ReadsItem, StopsInside, IsLast}
use Rattle.ash_serve.specs.declared.fault.RunFault.{RunFault}
use Rattle.ash_serve.specs.declared.fault.RunFault.TheVariants as faults
use Rattle.ash_serve.specs.declared.owned.OwnedRequest.{OwnedRequest}
use Rattle.ash_serve.specs.declared.owned.OwnedRequest.TheVariants as owned

-- the number by which what is no request is refused
abbrev pub bad_request : ℕ
bad_request = 601

-- the number by which a line that is too long is refused
abbrev pub line_too_long : ℕ
line_too_long = 602

-- what a host is asked by a request in a line of a batch; a snapshot is no request there
abbrev pub asked_inside : Request → BatchRequest
asked_inside Snapshot = batches.BadRequest bad_request
asked_inside request = Asked request

-- what a host is asked by a line of a batch
abbrev pub batch_request : Line → BatchRequest
batch_request (HostRequest request) = asked_inside request
batch_request LineTooLong = batches.BadRequest line_too_long
batch_request _ = batches.BadRequest bad_request

-- the same, with no more of a source than its prefix
abbrev pub prefix_of : BatchRequest → BatchRequest
prefix_of (Asked (Load name source)) = Asked (Load name (source_prefix source))
prefix_of request = request

-- what a request that is kept represents
abbrev pub owned_seen : OwnedRequest → BatchRequest
owned_seen (owned.Load name source) = Asked (Load (string_bytes name) source.items)
owned_seen (owned.Call module_name function args) =
    Asked (Call (string_bytes module_name) (string_bytes function) args.items)
owned_seen (owned.Discard name) = Asked (Discard (string_bytes name))
owned_seen (owned.Global module_name name) = Asked (Get (string_bytes module_name) (string_bytes name))
owned_seen (owned.Object number) = Asked (Object number)
owned_seen owned.Seq = Asked Seq
owned_seen (owned.Bad number) = batches.BadRequest number

-- A line of a batch was read, and its request is kept; or memory was refused for that; or reading stopped inside it.
abbrev pub ReadsInner : {S : Type 0} → Feed S → S → Result OwnedRequest RunFault → S → Type 0
ReadsInner feed old (Ok request) new =
    (line : Line) × ReadsItem next_inner feed old line new × (owned_seen request ≡ prefix_of (batch_request line))
ReadsInner feed old (Err faults.NoMemory) new = (line : Line) × ReadsItem next_inner feed old line new
ReadsInner feed old (Err fault) new = StopsInside next_inner feed old fault new

-- So many lines of a batch were read, and their requests are kept; or memory was refused for that, and nothing after
-- them was read; or reading stopped inside them.
abbrev pub ReadsBatch : {S : Type 0} → Feed S → ℕ → S → Result (Vec OwnedRequest Memory) RunFault → S → Type 0
ReadsBatch feed count old (Ok requests) new =
    (lines : List Line) × ReadsItem (lines_at count) feed old lines new × (length lines ≡ count)
    × (map owned_seen requests.items ≡ map prefix_of (map batch_request lines))
ReadsBatch feed count old (Err faults.NoMemory) new =
    (rest : List ℕ) × feed.reads old rest new × IsLast (lines_at count rest)
ReadsBatch feed count old (Err fault) new = StopsInside (lines_at count) feed old fault new
