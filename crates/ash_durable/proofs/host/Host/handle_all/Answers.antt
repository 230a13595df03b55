use Rattle.std.proofs.Common.{rules, ◌≡◌, ◌++◌, ◌∷◌, [], arith}
use Rattle.ash_requests.specs.RequestViews.{request_seen, reply_seen}
use Rattle.ash_sources.specs.SourceFaults.{fault_of}
use Rattle.ash_durable.proofs.GoingOn.{one_more, nothing_left, as_calls}
use Rattle.ash_durable.proofs.LivesOn.{lives_on}
use Rattle.ash_durable.proofs.Running.{runs_to_failure}
use Rattle.ash_durable.proofs.host.Host.handle_all.Goals as goal

pub loop-request-preserved : goal.loop-request-preserved
loop-request-preserved g c = record {
  run = λ replies new rest.
      let grown : c.push.new.self.items ≡ c.loop-request.replies.items ++ c.handle.result ∷ [] = search rules in
      one_more _ _ request_seen (reply_seen fault_of) _ _ _ _ new _ _ _ _ _ _ replies c.loop-request-test.true grown
      c.handle.ensures.handled c.loop-request.invariant.run rest;
  count = search rules;
  room = search rules;
}

pub returns-clause-run : goal.returns-clause-run
returns-clause-run g c = nothing_left _ _ request_seen (reply_seen fault_of) _ _ _ _ _ _ (omega arith)
    c.loop-request.invariant.run

pub returns-clause-defined : goal.returns-clause-defined
returns-clause-defined g c = runs_to_failure _ _ _ _ _ _ _
    (as_calls _ _ _ _ _ _ _ (returns-clause-run g c))

pub returns-clause-lives : goal.returns-clause-lives
returns-clause-lives g c = lives_on _ _ _ _ _ _ _ (as_calls _ _ _ _ _ _ _ (returns-clause-run g c))
