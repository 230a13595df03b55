use Rattle.std.proofs.Common.{◌<◌, List, ℕ, sym, subst, arith, length}
use Rattle.std.specs.List.{Contains}
use Rattle.ash_objects.proofs.Flags.{flag_cleared, last_in}
use Rattle.ash_objects.proofs.marked_slots.MarkedSlots.next.Goals as goal

pub index_mut-requires : goal.index_mut-requires
index_mut-requires c =
    let is = rw c.in-Some.is at c.pop.ensures.items in
    let within : c.in-Some.slot < length c.self.inside.flags.items = c.self.invariant.within c.in-Some.slot (subst (λ (l : List ℕ). Contains l c.in-Some.slot) (sym is) (last_in c.pop.new.self.items c.in-Some.slot)) in
    omega (arith, within, c.self.inside.flags.ok.0)

pub invariant_of-self-2 : goal.invariant_of-self-2
invariant_of-self-2 c =
    rw c.pop.ensures.capacity (flag_cleared c.self.inside.flags.items c.self.inside.slots.items c.pop.new.self.items _ c.in-Some.slot (rw c.in-Some.is at c.pop.ensures.items) c.self.invariant)
