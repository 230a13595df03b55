use Rattle.ash_sources.proofs.SourceLaws.{read_sound}
use Rattle.ash_sources.proofs.sources.sources_are_read_sound.Goals as goal

pub returns : goal.returns
returns c = record { sound = read_sound }
