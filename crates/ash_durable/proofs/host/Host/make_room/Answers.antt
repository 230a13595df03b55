use Rattle.std.proofs.lemmas.Bool.{iff_false}
use Rattle.ash_requests.specs.RequestViews.{request_seen}
use Rattle.ash_durable.proofs.Requesting.{room_enough, room_wanted}
use Rattle.ash_durable.proofs.host.Host.make_room.Goals as goal

pub returns-then-not-wants_install : goal.returns-then-not-wants_install
returns-then-not-wants_install g c = record {
  makes_room =
      room_enough g.D.Disk (request_seen c.args.request.now) c.args.self.now c.wants_install.ensures.runs
      (iff_false c.wants_install.ensures.wanted c.if-not-wants_install.true);
}

pub returns : goal.returns
returns g c = record {
  makes_room =
      room_wanted g.D.Disk (request_seen c.args.request.now) c.args.self.now c.install.result c.install.new.self
      c.requires.live c.wants_install.ensures.runs (c.wants_install.ensures.wanted.0 c.if-not-wants_install.false)
      c.install.ensures.tries_install;
}
