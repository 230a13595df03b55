use Rattle.std.proofs.Common.{ℕ, List, sym, subst}
use Rattle.std.proofs.lemmas.Result.{on_ok_weaker}
use Rattle.ash_image.specs.Search.{Visited, progress_of}
use Rattle.ash_image.proofs.SearchLaws.{visited_none}
use Rattle.ash_image.proofs.Searching.{handles_none, handles_some}
use Rattle.ash_image.proofs.reaching.visit_word.Goals as goal

pub returns-in-Some : goal.returns-in-Some
returns-in-Some c = record {
  visited =
      on_ok_weaker c.look_for.result
      (λ v. subst (λ (wanted : List ℕ). Visited c.args.alive.now wanted (progress_of c.args.search.now)
      (progress_of c.look_for.new.search)) (sym (handles_some c.args.word c.in-Some.number (sym c.in-Some.ensures.value))) v)
      c.look_for.ensures.visited;
}

pub returns-in-None : goal.returns-in-None
returns-in-None c = record {
  visited =
      subst (λ (wanted : List ℕ). Visited c.args.alive.now wanted (progress_of c.args.search.now)
      (progress_of c.args.search.now)) (sym (handles_none c.args.word (sym c.in-None.ensures.value)))
      (visited_none c.args.alive.now (progress_of c.args.search.now));
}
