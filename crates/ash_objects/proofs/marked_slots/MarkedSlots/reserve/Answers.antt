use Rattle.std.proofs.Common.{◌≡◌, ◌++◌, ◌-◌, length, replicate, false, rules}
use Rattle.std.proofs.lemmas.List.{take_all}
use Rattle.ash_objects.proofs.Flags.{flags_more, flags_room}
use Rattle.ash_objects.proofs.marked_slots.MarkedSlots.reserve.Goals as goal

pub invariant_of-self-then-is_err-2 : goal.invariant_of-self-then-is_err-2
invariant_of-self-then-is_err-2 c =
    let same : c.resize.new.self.items ≡ c.self.inside.flags.items = search rules in
    rw (same, c.reserve.ensures.items) (flags_room c.self.inside.flags.items c.self.inside.slots.items _ _ c.reserve.ensures.capacity c.self.invariant)

pub invariant_of-self-else-is_err-2 : goal.invariant_of-self-else-is_err-2
invariant_of-self-else-is_err-2 c =
    let room = c.in-Some.room in
    let flags = c.self.inside.flags.items in
    let all = take_all room flags (search rules) in
    let now : c.resize.new.self.items ≡ flags ++ replicate (room - length flags) false = search rules in
    rw (now, c.reserve.ensures.items) (flags_more flags (room - length flags) c.self.inside.slots.items _ _ (search rules) c.self.invariant)
