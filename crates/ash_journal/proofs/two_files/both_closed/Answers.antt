use Rattle.std.proofs.Common.{inl, inr}
use Rattle.ash_journal.proofs.LayoutLaws.{mark_open}
use Rattle.ash_journal.proofs.two_files.both_closed.Goals as goal

pub returns-in-Marked-second-clause-gates : goal.returns-in-Marked-second-clause-gates
returns-in-Marked-second-clause-gates c x y headers =
    let marked = rw c.in-Marked-second.is at headers.second_header in
    inr (mark_open c.in-Marked-second.generation y marked)

pub returns-in-Marked-clause-gates : goal.returns-in-Marked-clause-gates
returns-in-Marked-clause-gates c x y headers =
    let marked = rw c.in-Marked.is at headers.first_header in inl (mark_open c.in-Marked.generation x marked)
