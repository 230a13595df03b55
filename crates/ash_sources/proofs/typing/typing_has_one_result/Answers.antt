use Rattle.ash_sources.proofs.TypedSourceLaws.{typed_exact, refused_exact, typed_sound}
use Rattle.ash_sources.proofs.typing.typing_has_one_result.Goals as goal

pub returns-clause-by_rules : goal.returns-clause-by_rules
returns-clause-by_rules c = typed_exact

pub returns-clause-refused : goal.returns-clause-refused
returns-clause-refused c = refused_exact

pub returns-clause-sound : goal.returns-clause-sound
returns-clause-sound c = typed_sound
