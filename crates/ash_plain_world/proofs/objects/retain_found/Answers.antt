use Rattle.std.proofs.Common.{rules}
use Rattle.std.proofs.lemmas.Map.Made.{filter_same_pairs}
use Rattle.ash_host.specs.Reach.{is_among}
use Rattle.ash_plain_world.proofs.objects.retain_found.Goals as goal

pub returns : goal.returns
returns c = record { effect = filter_same_pairs _ (λ e. is_among c.args.found.now.keys e.0) _ (λ k v b w f t. search rules) _ _ c.retain.ensures.filtered }
