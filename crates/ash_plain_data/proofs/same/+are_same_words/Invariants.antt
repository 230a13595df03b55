use Rattle.std.proofs.Common.{length}
use Rattle.ash_plain_data.proofs.same.+are_same_words.Given as goal

abbrev pub decreases-are_same_words : goal.decreases-are_same_words
decreases-are_same_words l = length l.left.now
