use Rattle.std.proofs.Common.{◌≡◌, ◌++◌, ℕ, List, [], ap, sym, subst, ◌∙◌}
use Rattle.std.specs.List.{AllByRecursion}
use Rattle.ash_host.specs.Objects.{numbers, Lives}
use Rattle.ash_table_states.specs.WrittenObjects.{listed_entries}
use Rattle.ash_table_states.proofs.Listed.{bodies_at, all_found, all_alive}
use Rattle.ash_table_states.proofs.parts.listed.Goals as goal

pub loop-number-init : goal.loop-number-init
loop-number-init g c =
    let objects = c.args.table.now.objects in
    let keys : c.into_iter-number-iterator.result ≡ numbers objects = c.into_iter-number-iterator.ensures.into_iter_gives ∙ c.numbers-number-items.ensures.numbers in
    let none : c.in_ok-objects.objects.items ≡ [] = c.in_ok-objects.ensures.items in
    let order = (c.facts.ensures.sound.numbered).in_order in
    record {
      same = ap (λ xs. listed_entries xs ++ bodies_at objects c.into_iter-number-iterator.result) none ∙ ap (bodies_at objects) keys ∙ all_found objects order;
      alive = subst (λ (ns : List ℕ). AllByRecursion (λ (n : ℕ). Lives objects n) ns) (sym keys) (all_alive objects order);
    }
