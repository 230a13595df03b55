use Rattle.std.proofs.Common.{rules}
use Rattle.ash_objects.proofs.Flags.{flag_set, flag_read}
use Rattle.ash_objects.proofs.marked_slots.MarkedSlots.mark.Goals as goal

pub invariant_of-self : goal.invariant_of-self
invariant_of-self c =
    rw (c.push_reserved.ensures.items, c.push_reserved.ensures.capacity)
    (flag_set c.self.inside.flags.items c.self.inside.slots.items _ c.args.slot (rw (← c.self.view_is) at c.requires.within) (search rules) c.self.invariant)

pub returns-else-not-index-clause-listed : goal.returns-else-not-index-clause-listed
returns-else-not-index-clause-listed c =
    let within = rw (← c.self.view_is) at c.requires.within in
    rw (← c.self.view_is) (c.self.invariant.listed c.args.slot (flag_read c.self.inside.flags.items c.args.slot c.index.result.now within c.index.ensures c.if-not-index.false))
