use Rattle.std.proofs.Common.{◌≡◌, ℕ, sym, ap, ◌∙◌}
use Rattle.ash_host.specs.Objects.{object_at}
use Rattle.ash_slots.specs.SlotCounting.{counted}
use Rattle.ash_slots.proofs.Placing.{in_from_idle}
use Rattle.ash_objects.proofs.Collecting.{taken_covers, idle_zero}
use Rattle.ash_objects.proofs.sweeping.take_idle.Goals as goal

pub release_words-requires : goal.release_words-requires
release_words-requires g c = record {
  within =
      λ m.
      let l = c.args.store.now.objects in
      let e = c.remove-entry.result in
      let idle = c.requires.idle in
      let one = c.requires.stored.apart c.args.slot idle.0 e.number (in_from_idle idle.0 c.args.slot l idle.1) c.remove-entry.ensures.number in
      let none : counted e.number l ≡ 0 = ap (λ (k : ℕ). counted k l) (sym one) ∙ idle_zero c.args.slot (object_at idle.0 l) idle.1 in
      rw (c.words.ensures.words, c.remove-entry.ensures.objects) (taken_covers l e.number e.item c.requires.stored.in_order c.requires.covered c.remove-entry.ensures.item none m);
}
