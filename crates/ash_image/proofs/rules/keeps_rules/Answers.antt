use Rattle.std.proofs.Common.{◌≡◌, true, false, arith}
use Rattle.std.proofs.lemmas.Result.{IfOk-weaker}
use Rattle.ash_host.specs.Objects.{numbers}
use Rattle.ash_image.specs.Rules.{is_whole}
use Rattle.ash_image.specs.SnapshotViews.{snapshot_of, objects_of}
use Rattle.ash_image.proofs.OrderLaws.{increasing}
use Rattle.ash_image.proofs.RuleLaws.{rules_say, broken_whole, with_reached}
use Rattle.ash_image.proofs.rules.keeps_rules.Goals as goal

pub returns-then-not-is_whole : goal.returns-then-not-is_whole
returns-then-not-is_whole c =
    let breaks : is_whole (snapshot_of c.args.state.now) ≡ false = grind arith in
    record { exact = broken_whole (snapshot_of c.args.state.now) breaks }

pub returns : goal.returns
returns c =
    let holds : is_whole (snapshot_of c.args.state.now) ≡ true = grind arith in
    record {
      exact = IfOk-weaker c.are_reached.result _ _ (λ reached h. with_reached (snapshot_of c.args.state.now) reached
          (rules_say (snapshot_of c.args.state.now)
          (increasing (numbers (objects_of c.args.state.now.objects.items)) c.requires.in_order) holds) h)
          c.are_reached.ensures.exact;
    }
