use Rattle.std.proofs.Common.{rules, refl}
use Rattle.ash_inspect.proofs.KnownLaws.{all_moved, some_moved}
use Rattle.ash_inspect.proofs.report.open_file.Goals as goal

pub returns : goal.returns
returns c =
    let generation = c.args.reading.generation in
    let found = c.in_ok-known.known in
    record {
      reported = record {
        generation = refl;
        count = search rules;
        known = some_moved generation.image.items c.deref.result.now generation.records.items c.deref-2.result.now found
            c.deref.ensures.value c.deref-2.ensures.value c.in_ok-known.ensures.known;
        sound = c.damage_of-damage.ensures.sound;
        found = c.damage_of-damage.ensures.found;
        all = all_moved generation.image.items c.deref.result.now generation.records.items c.deref-2.result.now found
            c.deref.ensures.value c.deref-2.ensures.value
            (λ version s placed leads. c.in_ok-known.ensures.all version s placed leads);
      };
    }
