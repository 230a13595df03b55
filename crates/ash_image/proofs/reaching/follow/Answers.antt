use Rattle.std.proofs.Common.{◌≡◌, ◌<◌, ℕ, List, length, get_or, true, subst, ◌∙◌, ap, arith}
use Rattle.ash_host.specs.declared.word.Word.{Word}
use Rattle.ash_host.specs.Objects.{handles, fields_of}
use Rattle.ash_image.specs.declared.stored.StoredObject.{StoredObject}
use Rattle.ash_image.specs.Image.{do_rise}
use Rattle.ash_image.specs.Rules.{held_by}
use Rattle.ash_image.specs.SnapshotViews.{modules_of, object_of}
use Rattle.ash_image.specs.Search.{SearchProgress, Visited, progress_of}
use Rattle.ash_image.proofs.Searching.{next_within, next_searches}
use Rattle.ash_image.proofs.reaching.follow.Goals as goal

pub index-requires : goal.index-requires
index-requires c =
    let within : c.in-Some.index < length c.args.state.now.objects.items =
    next_within (held_by (modules_of c.args.state.now.modules.items)) c.args.state.now.objects.items
    c.loop-index.search.marked.items c.loop-index.search.pending.items c.pop.new.self.items c.in-Some.index
    c.in-Some.ensures.items c.loop-index.invariant in
    omega (arith, within, c.args.state.now.objects.ok.0)

pub loop-index-preserved : goal.loop-index-preserved
loop-index-preserved c =
    let xs = c.args.state.now.objects.items in
    let new = progress_of c.visit.new.search in
    let same : c.words_of.result.now ≡ fields_of (object_of (get_or xs c.in-Some.index c.index.result.now)).1 =
    c.words_of.ensures.exact ∙ ap (λ (o : StoredObject). fields_of (object_of o).1) c.index.ensures in
    let old : SearchProgress = record { marked = c.loop-index.search.marked.items; pending = c.pop.new.self.items } in
    let visited = subst (λ (ns : List ℕ). Visited ns (handles (fields_of (object_of (get_or xs c.in-Some.index c.index.result.now)).1))
    old new) c.requires.alive
    (subst (λ (ws : List Word). Visited c.args.alive.now (handles ws) old new) same c.in_ok-visit.ensures.visited) in
    next_searches (held_by (modules_of c.args.state.now.modules.items)) xs
    c.loop-index.search.marked.items c.loop-index.search.pending.items c.pop.new.self.items c.in-Some.index
    c.in-Some.ensures.items c.loop-index.invariant c.index.result.now new
    (subst (λ (ns : List ℕ). do_rise ns ≡ true) c.requires.alive c.requires.rise) visited
