use Rattle.std.proofs.Common.{◌++◌, List, ap, ◌∙◌, map, not}
use Rattle.std.specs.Prelude.{filter, ◌&&◌}
use Rattle.std.specs.Map.{keys_of}
use Rattle.ash_host.specs.declared.event.Event.TheVariants.{Dropped}
use Rattle.ash_host.specs.Objects.{is_host}
use Rattle.ash_host.specs.Reach.{is_among}
use Rattle.ash_plain_data.specs.ObjectViews.{entry_seen}
use Rattle.ash_plain_world.proofs.Sweeps.{swept_objects, swept_hosts, gone_seen}
use Rattle.ash_plain_world.proofs.Entries.{seen_filter}
use Rattle.ash_plain_world.proofs.objects.ObjectMap.sweep.Goals as goal

pub returns-clause-objects : goal.returns-clause-objects
returns-clause-objects c =
    let found = c.in_ok-found.found.keys in
    let entries = c.self.inside.entries.entries in
    ap (map entry_seen) c.retain_found.ensures.effect
    ∙ seen_filter (is_among found) entries
    ∙ ap (filter (λ e. is_among found e.0)) c.self.view_is
    ∙ swept_objects c.args.self.now c.args.held.now found c.in_ok-found.ensures.value

pub returns-clause-events : goal.returns-clause-events
returns-clause-events c =
    let found = c.in_ok-found.found.keys in
    let entries = c.self.inside.entries.entries in
    let went =
    gone_seen found entries
    ∙ ap (λ (l : List _). keys_of (filter (λ e. is_host e.1 && not (is_among found e.0)) l)) c.self.view_is
    ∙ swept_hosts c.args.self.now c.args.held.now found c.in_ok-found.ensures.value in
    c.in_ok-push_dropped.ensures.value ∙ ap (λ (l : List _). c.args.events.now.items ++ map Dropped l) went
