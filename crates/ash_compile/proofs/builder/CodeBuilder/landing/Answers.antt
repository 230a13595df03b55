use Rattle.std.proofs.Common.{arith}
use Rattle.ash_code.specs.declared.instruction.Instruction.TheVariants as i
use Rattle.ash_compile.specs.Emission.{end_of}
use Rattle.ash_compile.proofs.Emission.{put_one}
use Rattle.ash_compile.proofs.ValidJumps.{jump_stands}
use Rattle.ash_compile.proofs.EmittedLandings as landings
use Rattle.ash_compile.proofs.builder.CodeBuilder.landing.Goals as goal

pub lead_all-requires : goal.lead_all-requires
lead_all-requires c = record {
  before = λ k low.
      c.requires.there k
      (omega (
        arith,
        low,
        c.here-release.ensures.place,
        put_one c.args.self.now c.put.new.self c.args.slot _ c.in_ok-put.ensures.puts,
      ));
  within = omega (
    arith,
    c.here-release.ensures.place,
    put_one c.put.new.self c.put-2.new.self c.args.slot i.Release c.in_ok-put-2.ensures.puts,
  );
}

pub lead-requires : goal.lead-requires
lead-requires c = record {
  there = omega (
    arith,
    c.here-jump.ensures.place,
    (c.lead_all.ensures.leads).long,
    put_one c.args.self.now c.put.new.self c.args.slot _ c.in_ok-put.ensures.puts,
    put_one c.put.new.self c.put-2.new.self c.args.slot i.Release c.in_ok-put-2.ensures.puts,
  );
  stands = jump_stands c.lead_all.new.self.layout (end_of c.lead_all.new.self) c.here-jump.result c.here-end.result
      (omega (
        arith,
        c.here-jump.ensures.place,
        c.here-end.ensures.place,
        (c.lead_all.ensures.leads).long,
        put_one c.args.self.now c.put.new.self c.args.slot _ c.in_ok-put.ensures.puts,
        put_one c.put.new.self c.put-2.new.self c.args.slot i.Release c.in_ok-put-2.ensures.puts,
      ))
      (omega (arith, c.here-end.ensures.place));
}

pub returns : goal.returns
returns c = record {
  lands = landings.landing_is c.args.self.now c.put.new.self c.put-2.new.self c.lead_all.new.self c.lead.new.self
      c.args.places.now c.args.slot c.here-jump.result c.here-release.result c.here-end.result c.in_ok-put.ensures.puts
      c.in_ok-put-2.ensures.puts c.lead_all.ensures.leads c.lead.ensures.leads c.here-jump.ensures.place
      c.here-release.ensures.place c.here-end.ensures.place c.requires.there;
}
