use Rattle.ash_compile.proofs.builder.CodeBuilder.leave.Goals as goal

pub returns : goal.returns
returns c = record {
  leaves = record {
    ticked = c.tick.new.self;
    left = c.put.new.self;
    pending = c.behind-past.result;
    ticks = c.in_ok-tick.ensures.puts;
    leaves = c.in_ok-put.ensures.puts;
    jumps = c.in_ok-put-2.ensures.puts;
    place = c.here-jump.ensures.place;
  };
}
