use Rattle.std.proofs.Common.{length, map, sym, ◌∙◌}
use Rattle.std.proofs.lemmas.Bool.{eqb-true}
use Rattle.std.proofs.lemmas.List.{nil_from_length}
use Rattle.ash_durable.specs.BatchViews.{batch_request_seen, batch_reply_seen}
use Rattle.ash_durable.proofs.BatchesSeen.{stopped_seen, none_seen}
use Rattle.ash_durable.proofs.Requesting.{seen_some}
use Rattle.ash_durable.proofs.host.Host.batch.Goals as goal

pub returns-in-Some : goal.returns-in-Some
returns-in-Some g c = record {
  handled =
      stopped_seen g.D.Disk g.B.HostObject c.args.budget (map batch_request_seen c.args.requests.now)
      c.self.inside.stopped c.self.inside.engine c.self.inside.journal c.args.self.now c.in-Some.field-0 c.in-Some.is
      c.self.view_is;
}

pub returns-then-is_empty : goal.returns-then-is_empty
returns-then-is_empty g c = record {
  handled =
      let some = seen_some c.self.inside.stopped c.self.inside.engine c.self.inside.journal c.args.self.now
      c.in-None.is c.self.invariant c.self.view_is in
      none_seen g.D.Disk g.B.HostObject c.args.budget batch_request_seen batch_reply_seen c.args.requests.now
      c.new.result.items some.0 c.args.self.now
      (nil_from_length c.args.requests.now
      (eqb-true (length c.args.requests.now) 0 (sym c.is_empty.ensures ∙ c.if-is_empty.true))) c.new.ensures.items
      some.2 (c.facts.ensures.runs some.0 some.2);
}
