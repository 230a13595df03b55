use Rattle.std.proofs.Common.{arith}
use Rattle.std.proofs.lemmas.Option.{MatchOption-at_none}
use Rattle.ash_image.specs.SnapshotViews.{modules_of}
use Rattle.ash_image.proofs.NamingLaws.{module_next, modules_in, none_seen}
use Rattle.ash_image.proofs.naming.named_modules.Goals as goal

pub loop-last-init : goal.loop-last-init
loop-last-init c = none_seen (modules_of c.args.modules.items) c.new-named.result c.new-named.ensures.empty

pub loop-last-preserved : goal.loop-last-preserved
loop-last-preserved c =
    module_next c.loop-last.modules.items c.pop.new.self.items c.in-Some.last c.loop-last.named c.put_first_module.new.modules _
    c.in-Some.ensures.items c.in_ok-put_first_module.ensures.put c.requires.ascending c.loop-last.invariant

pub returns : goal.returns
returns c =
    let empty = (MatchOption-at_none _ _ c.in_default.is c.pop.ensures.cases).0 in
    record {
      named = modules_in c.loop-last.modules.items _ _ (omega (arith, empty, c.loop-last.modules.ok.0))
          c.loop-last.invariant;
    }
