use Rattle.std.proofs.Common.{◌≡◌, Bool, List, length, subst, ◌∙◌, ap, arith}
use Rattle.std.specs.List.{list_all}
use Rattle.ash_image.specs.declared.stored.StoredModule.{StoredModule}
use Rattle.ash_image.specs.Rules.{held_by}
use Rattle.ash_image.specs.SnapshotViews.{modules_of}
use Rattle.ash_image.specs.Search.{SearchProgress, Visited, progress_of}
use Rattle.ash_image.proofs.Searching.{begins, ends}
use Rattle.ash_image.proofs.reaching.are_reached.Goals as goal

pub returns : goal.returns
returns c = record {
  exact = ends (held_by (modules_of c.args.state.now.modules.items)) c.args.state.now.objects.items
      (progress_of c.follow.new.search) c.all_marked.result c.in_ok-follow.ensures.searches c.in_ok-follow.ensures.done
      (c.all_marked.ensures.value ∙ ap (λ (bs : List Bool). list_all (λ (m : Bool). m) bs) c.deref-2.ensures.value);
}

pub follow-requires-clause-searches : goal.follow-requires-clause-searches
follow-requires-clause-searches c =
    let many : c.len.result ≡ length c.args.state.now.objects.items =
    omega (arith, c.len.ensures, c.args.state.now.objects.ok.0) in
    let old : SearchProgress = record { marked = c.in_ok-marked.marked.items; pending = c.new.result.items } in
    let new : SearchProgress = progress_of c.visit_globals.new.search in
    begins (held_by (modules_of c.args.state.now.modules.items)) c.args.state.now.objects.items c.args.alive.now
    c.len.result old new many c.in_ok-marked.ensures.value c.new.ensures.items c.requires.alive
    (subst (λ (ms : List StoredModule). Visited c.args.alive.now (held_by (modules_of ms)) old new)
    c.deref.ensures.value c.in_ok-visit_globals.ensures.visited)
