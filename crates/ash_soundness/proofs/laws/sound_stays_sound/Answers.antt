use Rattle.ash_soundness.proofs.SoundStaysSound as sound
use Rattle.ash_soundness.proofs.laws.sound_stays_sound.Goals as goal

pub returns-clause-expressions : goal.returns-clause-expressions
returns-clause-expressions g = λ c depth context. sound.expressions_keep context depth

pub returns-clause-statements : goal.returns-clause-statements
returns-clause-statements g = λ c depth context. sound.statements_keep context depth

pub returns-clause-blocks : goal.returns-clause-blocks
returns-clause-blocks g = λ c depth context. sound.blocks_keep context depth

pub returns-clause-calls : goal.returns-clause-calls
returns-clause-calls g = λ c depth context. sound.calls_keep context depth

pub returns-clause-methods : goal.returns-clause-methods
returns-clause-methods g = λ c depth context. sound.methods_keep context depth
