use Rattle.std.proofs.Common.{ℕ, List, refl, ap}
use Rattle.ash_engine.proofs.runs.lend.Goals as goal

pub returns : goal.returns
returns g c = record {
  lent =
      λ m at. let replaced = c.replace_globals-globals.ensures.value m at in record {
        lending = record m { globals = c.new.result };
        same = refl;
        none = c.new.ensures.items;
        modules = replaced.1;
        loaded = refl;
        compiled = refl;
        changes = refl;
        table = refl;
        globals = ap (λ (v : _). v.items) replaced.0;
        outside = refl {A = List ℕ};
        events = c.new-2.ensures.items;
      };
}
