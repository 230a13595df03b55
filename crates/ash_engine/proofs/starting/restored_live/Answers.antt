use Rattle.std.proofs.Common.{◌≡◌, ◌≤◌, ℕ, List, Err, length, sym, ap, ◌∙◌, subst}
use Rattle.std.specs.Prelude.{All, IsTrue}
use Rattle.std.proofs.lemmas.List.{length-map}
use Rattle.std.proofs.lemmas.Result.{err_from_is_err_and}
use Rattle.ash_host.specs.declared.word.Word.{Word}
use Rattle.ash_host.specs.Objects.{handles}
use Rattle.ash_registry.specs.RegistryViews.{registered}
use Rattle.ash_objects.specs.declared.restoring.TableFault.{TableFault}
use Rattle.ash_requests.specs.States.{globals_of}
use Rattle.ash_run_steps.specs.RunStates.{is_alive_in, HoldsMore}
use Rattle.ash_soundness.specs.WellFormed.{IsState}
use Rattle.ash_plain_steps.specs.declared.state.LoadedModule.{LoadedModule}
use Rattle.ash_plain_steps.specs.StateViews.{modules_seen}
use Rattle.ash_table_states.specs.TableStates.{places_from}
use Rattle.ash_engine.specs.declared.live.Live.{Live}
use Rattle.ash_engine.specs.TableStates.{AreCompiled, slots_of}
use Rattle.ash_engine.proofs.StartedGlobals.{few_modules, few_globals}
use Rattle.ash_engine.proofs.RestoredLives as restored_lives
use Rattle.ash_engine.proofs.RestoredLives.{held_live, lives, restores}
use Rattle.ash_engine.proofs.starting.restored_live.Goals as goal

pub compile_all-requires : goal.compile_all-requires
compile_all-requires g c = record {
  few = subst (λ (ms : List LoadedModule). length ms ≤ 16) (sym c.deref.ensures.value) (few_modules (registered c.args.registry.now) c.args.state c.requires.held.admitted);
}

pub table_of-requires : goal.table_of-requires
table_of-requires g c = record {
  admitted = (registered c.args.registry.now, c.requires.held.admitted);
  many =
      sym (length-map c.args.services.items g.B.HostObject.kind_of) ∙ ap (length {A = ℕ}) c.requires.kinds ∙ sym c.requires.held.admitted.served;
}

pub hold_globals-requires : goal.hold_globals-requires
hold_globals-requires g c =
    let here = registered c.args.registry.now in
    let s = c.args.state in
    let admitted = c.requires.held.admitted in
    let back = sym c.deref-3.ensures.value in
    record {
      alive = subst (λ (ms : List LoadedModule). All (λ (word : Word). IsTrue (is_alive_in word c.in_ok-table.table)) (globals_of (modules_seen ms))) back
          (held_live g.B.HostObject here s c.requires.held c.args.pool.items c.in_ok-table.table c.in_ok-table.ensures.table);
      none = c.in_ok-table.ensures.table.restored.not_held;
      few = subst (λ (ms : List LoadedModule). length ms ≤ 16) back (few_modules here s admitted);
      short = subst (λ (ms : List LoadedModule). All (λ (m : LoadedModule). length m.globals.items ≤ 256) ms) back (few_globals here s admitted);
    }

pub returns-in_err-table-clause-short : goal.returns-in_err-table-clause-short
returns-in_err-table-clause-short g c = λ kind is given has.
    let p = err_from_is_err_and c.from_residual.result c.from_residual.ensures.1 in
    let reported : c.in_err-table.field-0.0 ≡ TableFault.PoolShort kind = cc in
    restored_lives.falls_short g.B.HostObject (registered c.args.registry.now) c.args.state c.requires.held c.args.pool.items kind
    (c.in_err-table.ensures.short kind (ap Err reported)) given has

pub returns-in_err-table-clause-refused : goal.returns-in_err-table-clause-refused
returns-in_err-table-clause-refused g c = λ number is given has are.
    let p = err_from_is_err_and c.from_residual.result c.from_residual.ensures.1 in
    let reported : c.in_err-table.field-0.0 ≡ TableFault.RestoreRefused number = cc in
    restored_lives.refuses g.B.HostObject (registered c.args.registry.now) c.args.state c.requires.held c.args.pool.items c.args.services.items number
    (c.in_err-table.ensures.refused number (ap Err reported)) given has are

-- the globals that are held, the code and the boxes

pub returns-clause-live : goal.returns-clause-live
returns-clause-live g c =
    let G = g.B.HostObject in
    let B = g.row.B.Denot in
    let s = c.args.state in
    lives G (registered c.args.registry.now) s c.requires.held c.args.pool.items c.args.services.items c.requires.kinds c.in_ok-table.table
    c.in_ok-table.ensures.table c.in_ok-table.ensures.services _
    (subst (λ (ms : List LoadedModule). HoldsMore (handles (globals_of (modules_seen ms))) c.in_ok-table.table c.hold_globals.new.table) c.deref-3.ensures.value c.hold_globals.ensures.held)
    c.modules_alone.ensures.modules c.modules_alone.ensures.seq
    (subst (λ (ms : List LoadedModule). slots_of c.in-Ok.compiled.items ≡ places_from 0 (modules_seen ms)) c.deref.ensures.value c.in-Ok.ensures.slots)
    (c.none-changes.ensures.nothing (modules_seen c.modules_alone.result.modules.items))
    (subst (λ (ms : List LoadedModule). AreCompiled ms c.in-Ok.compiled.items) c.deref.ensures.value c.in-Ok.ensures.compiled)
    (subst (λ (boxes : List B). All (λ (box : B). IsState (G.state box)) boxes) c.deref-2.ensures.value c.boxes_fit.ensures.fit)

pub returns-clause-restored : goal.returns-clause-restored
returns-clause-restored g c = λ given has are.
    let G = g.B.HostObject in
    let B = g.row.B.Denot in
    let s = c.args.state in
    let here = registered c.args.registry.now in
    let l : Live B = record {
      loaded = c.modules_alone.result;
      compiled = c.in-Ok.compiled;
      table = c.hold_globals.new.table;
      changes = c.none-changes.result;
    } in
    let more = subst (λ (ms : List LoadedModule). HoldsMore (handles (globals_of (modules_seen ms))) c.in_ok-table.table c.hold_globals.new.table) c.deref-3.ensures.value c.hold_globals.ensures.held in
    let slots = subst (λ (ms : List LoadedModule). slots_of c.in-Ok.compiled.items ≡ places_from 0 (modules_seen ms)) c.deref.ensures.value c.in-Ok.ensures.slots in
    restores G here s c.requires.held c.args.pool.items c.args.services.items c.requires.kinds c.in_ok-table.table
    c.in_ok-table.ensures.table c.in_ok-table.ensures.services l more
    c.modules_alone.ensures.modules c.modules_alone.ensures.seq slots
    (lives G here s c.requires.held c.args.pool.items c.args.services.items c.requires.kinds c.in_ok-table.table
    c.in_ok-table.ensures.table c.in_ok-table.ensures.services l more
    c.modules_alone.ensures.modules c.modules_alone.ensures.seq slots
    (c.none-changes.ensures.nothing (modules_seen c.modules_alone.result.modules.items))
    (subst (λ (ms : List LoadedModule). AreCompiled ms c.in-Ok.compiled.items) c.deref.ensures.value c.in-Ok.ensures.compiled)
    (subst (λ (boxes : List B). All (λ (box : B). IsState (G.state box)) boxes) c.deref-2.ensures.value c.boxes_fit.ensures.fit))
    (c.none-changes.ensures.nothing (modules_seen c.modules_alone.result.modules.items)) given has are
