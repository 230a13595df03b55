use Rattle.std.proofs.Common.{◌≡◌, drop}
use Rattle.ash_plain_steps.specs.TaskViews.{tree_named}
use Rattle.ash_plain_steps.proofs.shown.tree_named.Given as goal

abbrev pub invariant-loop-m : goal.invariant-loop-m
invariant-loop-m l = tree_named l.name (drop l.m-index l.modules) ≡ tree_named l.name l.modules
