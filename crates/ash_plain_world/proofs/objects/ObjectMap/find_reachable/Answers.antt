use Rattle.std.proofs.Common.{List, sym, ap, subst, ◌∙◌, arith, rules}
use Rattle.ash_plain_world.specs.Sweeping.{with_found}
use Rattle.ash_plain_world.proofs.Sweeps.{IsSearch, search_begins, search_step, search_bounded, search_ends}
use Rattle.ash_plain_world.proofs.objects.ObjectMap.find_reachable.Goals as goal

pub loop-next-init : goal.loop-next-init
loop-next-init c =
    let e = c.in_ok-find_all.ensures.value ∙ ap (with_found c.args.self.now c.args.held.now) c.new-found.ensures.empty in
    subst (λ (found : List _). IsSearch c.args.self.now c.args.held.now found 0) (sym e) (search_begins c.args.self.now c.args.held.now)

pub loop-next-smaller : goal.loop-next-smaller
loop-next-smaller c =
    omega (arith, c.len.ensures.len, c.loop-next-test.true, search_bounded c.args.self.now c.args.held.now c.loop-next.found.keys c.loop-next.next c.loop-next.invariant)

pub loop-next-preserved : goal.loop-next-preserved
loop-next-preserved c =
    search_step c.args.self.now c.args.held.now c.loop-next.found.keys c.loop-next.next c.index.result.now c.words.result.now c.deref.result.now c.find_all-in-loop-next.new.found.keys (omega (arith, c.len.ensures.len, c.loop-next-test.true)) c.index.ensures c.words.ensures.words (search rules) c.in_ok-find_all-2.ensures.value c.loop-next.invariant

pub returns : goal.returns
returns c = record {
  value =
      search_ends c.args.self.now c.args.held.now c.loop-next.found.keys c.loop-next.next (omega (arith, c.len.ensures.len, c.loop-next-test.false)) c.loop-next.invariant;
}
