use Rattle.ash_sources.proofs.CheckedSourceLaws.{checked_source-exact}
use Rattle.ash_sources.proofs.checking.checking_has_one_result.Goals as goal

pub returns : goal.returns
returns c = record { exact = checked_source-exact }
