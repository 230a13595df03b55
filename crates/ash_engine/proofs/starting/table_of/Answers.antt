use Rattle.std.proofs.Common.{ℕ, List, map, length, refl, sym, ap, subst, arith, Vec, Global}
use Rattle.std.specs.List.{AllByRecursion}
use Rattle.std.proofs.lemmas.List.{length-map}
use Rattle.std.proofs.lemmas.Result.{IfOk-weaker}
use Rattle.ash_host.specs.Objects.{Plain}
use Rattle.ash_objects.specs.Restoring.{RestoresServices, IsRefused}
use Rattle.ash_plain_steps.specs.declared.state.LoadedModule.{LoadedModule}
use Rattle.ash_plain_steps.specs.StateViews.{modules_seen, state_seen}
use Rattle.ash_states.specs.Holding.{held_with}
use Rattle.ash_states.specs.Indexes.{IsPlainIndexed}
use Rattle.ash_states.proofs.Depicted.{all_indexed}
use Rattle.ash_engine.proofs.SavedTables.{are_numbered, are_few, are_short, are_alive, saved_of, table_made}
use Rattle.ash_engine.proofs.starting.table_of.Goals as goal

pub saved_objects-requires : goal.saved_objects-requires
saved_objects-requires g c = record {
  indexed = subst (λ (ms : List LoadedModule). AllByRecursion (λ (e : ℕ × Plain (List ℕ)). IsPlainIndexed (modules_seen ms) e.1) c.args.state.now.objects)
      (sym c.deref.ensures.value) (all_indexed (held_with c.requires.admitted.0 c.args.state.now) c.requires.admitted.1);
}

pub restored-requires : goal.restored-requires
restored-requires g c =
    let s = c.args.state.now in
    let saved = c.in-Ok.objects.items in
    let are = saved_of s c.deref.result.now saved c.deref.ensures.value c.in-Ok.ensures.saved in
    let host = held_with c.requires.admitted.0 s in
    let h = c.requires.admitted.1 in
    record {
      numbered = are_numbered host h saved are;
      few = omega (arith, are_few host h saved are, c.in-Ok.objects.ok.0);
      short = are_short host h saved are;
      alive = are_alive host h saved are;
      as_many = omega (arith, ap (length {A = Vec ℕ Global}) c.deref-2.ensures.value, length-map s.services.items (λ (state : Vec ℕ Global). state.items), c.requires.many, c.args.services.ok.0);
    }

pub returns-clause-table : goal.returns-clause-table
returns-clause-table g c =
    let s = c.args.state.now in
    let saved = c.in-Ok.objects.items in
    table_made g.B.HostObject (state_seen s) c.args.pool.items s.last saved c.restored.result
    (saved_of s c.deref.result.now saved c.deref.ensures.value c.in-Ok.ensures.saved) refl c.restored.ensures.objects c.restored.ensures.last
    c.restored.ensures.settled c.restored.ensures.gone

pub returns-clause-services : goal.returns-clause-services
returns-clause-services g c =
    IfOk-weaker c.restored.result _ _
    (λ table back.
    subst (λ (states : List (Vec ℕ Global)). RestoresServices g.B.HostObject c.args.services.items (map (λ (state : Vec ℕ Global). state.items) states) table.services)
    c.deref-2.ensures.value back) c.restored.ensures.services

pub returns-clause-short : goal.returns-clause-short
returns-clause-short g c = λ kind is.
    let s = c.args.state.now in
    let saved = c.in-Ok.objects.items in
    record {
      saved = saved;
      are = saved_of s c.deref.result.now saved c.deref.ensures.value c.in-Ok.ensures.saved;
      short = c.restored.ensures.short kind is;
    }

pub returns-clause-refused : goal.returns-clause-refused
returns-clause-refused g c = λ number is.
    let s = c.args.state.now in
    let saved = c.in-Ok.objects.items in
    record {
      saved = saved;
      are = saved_of s c.deref.result.now saved c.deref.ensures.value c.in-Ok.ensures.saved;
      refused = subst (λ (states : List (Vec ℕ Global)). IsRefused g.B.HostObject saved (map (λ (state : Vec ℕ Global). state.items) states) c.args.pool.items c.args.services.items number)
          c.deref-2.ensures.value (c.restored.ensures.refused number is);
    }
