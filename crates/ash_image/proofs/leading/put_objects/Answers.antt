use Rattle.ash_image.specs.NamedViews.{modules_seen}
use Rattle.ash_image.proofs.LeadingLaws.{put_last}
use Rattle.ash_image.proofs.leading.put_objects.Goals as goal

pub loop-object-preserved : goal.loop-object-preserved
loop-object-preserved c = λ n.
    put_last (modules_seen c.args.modules.now) c.loop-object.objects c.put_object.new.objects c.loop-object.put.items
    c.pop.new.self.items c.in-Some.object c.in_ok-named.named n _ c.in-Some.ensures.items
    c.in_ok-named.ensures.seen c.in_ok-put_object.ensures.put.0 (c.loop-object.invariant n)
