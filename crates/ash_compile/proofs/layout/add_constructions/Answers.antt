use Rattle.std.proofs.Common.{◌+◌, drop, map}
use Rattle.ash_typed.specs.Modules.{class_of}
use Rattle.ash_compile.specs.Layout.{count_of_constructor}
use Rattle.ash_compile.proofs.Listings.{rest_here, rest_none}
use Rattle.ash_compile.proofs.Layouts.{counted_more, counted_to_end}
use Rattle.ash_compile.proofs.layout.add_constructions.Goals as goal

pub loop-class-preserved : goal.loop-class-preserved
loop-class-preserved c =
    let l = c.loop-class in
    let item = c.class-item.result in
    let classes = c.args.classes.now in
    counted_more count_of_constructor (class_of item) (map class_of (drop l.class-index classes))
    (map class_of (drop (l.class-index + 1) classes)) l.counts.items _ c.constructor_count.result _
    (rest_here class_of classes l.class-index item c.loop-class-test.true c.class-item.is)
    c.constructor_count.ensures.count c.in_ok-push.ensures.items l.invariant

pub returns : goal.returns
returns c =
    let l = c.loop-class in
    record {
      added = counted_to_end count_of_constructor _ l.counts.items _
          (rest_none class_of c.args.classes.now l.class-index c.loop-class-test.false) l.invariant;
    }
