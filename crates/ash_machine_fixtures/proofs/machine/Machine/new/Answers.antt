use Rattle.std.proofs.Common.{arith, ap, sym, ◌∙◌}
use Rattle.std.proofs.lemmas.List.{nil_from_length}
use Rattle.ash_host.specs.Objects.{handles}
use Rattle.ash_machine_fixtures.proofs.PlainWords.{nothing_held}
use Rattle.ash_machine_fixtures.proofs.machine.Machine.new.Goals as goal

pub invariant_of-result : goal.invariant_of-result
invariant_of-result g c =
    let empty = nil_from_length c.args.table.objects (omega (arith, c.len.ensures.len, c.if-len-ne0.false)) in
    let plain = ap handles (sym c.deref.ensures.value) ∙ c.are_plain.ensures.none c.if-not-are_plain.false in
    nothing_held c.args.table c.new-2.result.items (handles c.in_ok-globals.globals.items) empty
    c.new-2.ensures.items plain
