use Rattle.std.proofs.Common.{◌≡◌, List, ◌≤◌, length, drop, map, ◌++◌, vec_len}
use Rattle.std.specs.Vec.{vec_capacity}
use Rattle.ash_requests.specs.Requests.{Reply}
use Rattle.ash_requests.specs.RequestViews.{request_seen, reply_seen}
use Rattle.ash_sources.specs.SourceFaults.{SourceFault, fault_of}
use Rattle.ash_durable.specs.Hosting.{Hosted, HandlesAll}
use Rattle.ash_durable.proofs.host.Host.handle_all.Given as goal

-- a run of what is left goes on the run so far, and the replies have room for what is left
abbrev pub invariant-loop-request : goal.invariant-loop-request
invariant-loop-request g l =
    let device = g.D.Disk in
    record {
      run : (replies : List (Reply SourceFault)) (new : Hosted g.row.D.Denot g.row.B.Denot)
          → HandlesAll device g.B.HostObject l.budget l.self (map request_seen (drop l.request-index l.requests))
          replies new
          → HandlesAll device g.B.HostObject l.budget l.fn.self (map request_seen l.requests)
          (map (reply_seen fault_of) l.replies.items ++ replies)
          new;
      count : vec_len l.replies ≡ l.request-index;
      room : length l.requests ≤ vec_capacity l.replies;
    }
