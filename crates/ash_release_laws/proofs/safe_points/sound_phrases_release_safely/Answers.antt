use Rattle.ash_release_laws.proofs.SoundPhrases as phrases
use Rattle.ash_release_laws.proofs.safe_points.sound_phrases_release_safely.Goals as goal

pub returns : goal.returns
returns g = record { safely = λ c depth is. phrases.sound_phrases_release_safely c is depth }
