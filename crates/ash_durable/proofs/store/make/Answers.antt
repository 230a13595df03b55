use Rattle.std.proofs.Common.{List, ℕ, inl, inr, sym, subst}
use Rattle.ash_registry.specs.RegistryViews.{registered}
use Rattle.ash_image.specs.declared.version.Version.TheVariants.{Two}
use Rattle.ash_states.specs.Images.{IsImageIn}
use Rattle.ash_engine.specs.RestoredBoxes.{LacksService}
use Rattle.ash_durable.specs.HandedBoxes.{first_state}
use Rattle.ash_durable.proofs.Making.{read_makes, made, not_made}
use Rattle.ash_durable.proofs.store.make.Goals as goal

pub returns-in-Err : goal.returns-in-Err
returns-in-Err g c = record {
  makes =
      let e = c.in-Err.ensures.prepares_first in
      record {
        not_made = record {
          cause = e.prepares;
          moments = read_makes g.D.Disk
              (first_state g.B.HostObject (registered c.args.registry) c.args.services.items) c.args.a c.args.b
              c.prepare_first.new.a c.prepare_first.new.b e.read;
          disks = e.disks;
        };
        begun = inl e.read;
      };
}

pub returns-in-Ok-create : goal.returns-in-Ok-create
returns-in-Ok-create g c = record {
  makes =
      let with_it = registered c.args.registry in
      let state = first_state g.B.HostObject with_it c.args.services.items in
      let looked = c.in-Ok.ensures.prepares_first in
      let e = c.in-Ok-create.ensures in
      let depicts = subst (λ (image : List ℕ). IsImageIn Two image state) (sym c.deref.ensures.value)
      looked.prepares.3 in
      record {
        has = looked.prepares.0;
        engine_is = looked.prepares.1;
        sound = looked.prepares.2;
        made = made g.D.Disk (LacksService g.B.HostObject with_it c.args.services.items) state c.deref.result.now
            depicts c.args.a c.args.b c.prepare_first.new.a c.prepare_first.new.b
            looked.read looked.disks looked.prepares.5
            c.in-Ok-create.journal e.ready e.in_first e.number e.emptied e.created e.moments
            (record { failures = e.cause; honesty_first = e.honesty_first; honesty_second = e.honesty_second });
      };
}

pub returns-in-Err-create : goal.returns-in-Err-create
returns-in-Err-create g c = record {
  makes =
      let with_it = registered c.args.registry in
      let state = first_state g.B.HostObject with_it c.args.services.items in
      let looked = c.in-Ok.ensures.prepares_first in
      let e = c.in-Err-create.ensures in
      let refused = c.in-Err-create.refused in
      let depicts = subst (λ (image : List ℕ). IsImageIn Two image state) (sym c.deref.ensures.value)
      looked.prepares.3 in
      record {
        not_made = not_made g.D.Disk (LacksService g.B.HostObject with_it c.args.services.items) state
            c.deref.result.now depicts c.args.a c.args.b c.prepare_first.new.a
            c.prepare_first.new.b looked.read looked.disks looked.prepares.5
            refused.fault c.into.result refused.first refused.second c.into.ensures e.fault
            e.moments e.honesty_first e.honesty_second e.cause;
        begun = inr looked.prepares.2;
      };
}
