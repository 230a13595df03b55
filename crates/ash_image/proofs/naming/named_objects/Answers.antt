use Rattle.std.proofs.Common.{arith}
use Rattle.std.proofs.lemmas.Option.{MatchOption-at_none}
use Rattle.ash_image.specs.SnapshotViews.{objects_of}
use Rattle.ash_image.specs.Leading.{objects_named}
use Rattle.ash_image.specs.NamedViews.{modules_seen}
use Rattle.ash_image.proofs.NamingLaws.{object_next, objects_in, named_rise, no_objects_seen}
use Rattle.ash_image.proofs.naming.named_objects.Goals as goal

pub loop-last-init : goal.loop-last-init
loop-last-init c =
    no_objects_seen (objects_named (modules_seen c.args.modules.now) (objects_of c.args.objects.items)) c.new-named.result
    c.new-named.ensures.empty

pub loop-last-preserved : goal.loop-last-preserved
loop-last-preserved c =
    let ms = modules_seen c.args.modules.now in
    object_next ms c.loop-last.objects.items c.pop.new.self.items c.in-Some.last c.in_ok-object.object
    c.loop-last.named c.put_first_object.new.objects _ c.in-Some.ensures.items c.in_ok-object.ensures.seen
    c.in_ok-put_first_object.ensures.put (named_rise ms (objects_of c.args.objects.items) c.requires.rising)
    c.loop-last.invariant

pub returns : goal.returns
returns c =
    let empty = (MatchOption-at_none _ _ c.in_default.is c.pop.ensures.cases).0 in
    record {
      named = objects_in (modules_seen c.args.modules.now) c.loop-last.objects.items _ _
          (omega (arith, empty, c.loop-last.objects.ok.0)) c.loop-last.invariant;
    }
