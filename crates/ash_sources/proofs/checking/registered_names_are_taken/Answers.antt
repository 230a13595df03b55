use Rattle.ash_sources.proofs.checking.registered_names_are_taken.Goals as goal

pub returns : goal.returns
returns c = record { free = λ registered items typed is. is.free }
