use Rattle.std.proofs.Common.{refl}
use Rattle.ash_engine.proofs.runs.give_back.Goals as goal

pub returns-clause-given : goal.returns-clause-given
returns-clause-given g c m at = record {
  modules = (c.replace_globals.ensures.value m at).1;
  loaded = refl;
  compiled = refl;
  changes = refl;
  table = refl;
}
