use Rattle.ash_release_laws.proofs.Statements as held
use Rattle.ash_release_laws.proofs.held.nothing_stays_held.Goals as goal

pub returns-clause-begin : goal.returns-clause-begin
returns-clause-begin c = held.frames_begin

pub returns-clause-held : goal.returns-clause-held
returns-clause-held c = held.nothing_stays_held

pub returns-clause-between : goal.returns-clause-between
returns-clause-between c = held.settles_between
