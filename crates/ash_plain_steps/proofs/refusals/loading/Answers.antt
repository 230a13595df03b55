use Rattle.std.proofs.Common.{rules, ◌≡◌, ℕ, ◌<◌, ◌≤◌, true, false, List, length, Option, Some, Result, Ok, Err, sym, ◌∙◌, ap, arith}
use Rattle.std.specs.Prelude.{is_some}
use Rattle.std.proofs.lemmas.Result.{err_from_is_err_and}
use Rattle.ash_typed.specs.declared.tree.items.Module as script
use Rattle.ash_requests.specs.Tasks.{TaskResult, max_modules, is_module_name}
use Rattle.ash_requests.specs.SourceViews.{read_seen}
use Rattle.ash_plain_steps.proofs.Given.{place_in, load_taken, load_many, load_read, load_absent, reading_takes}
use Rattle.ash_plain_steps.proofs.refusals.loading.Goals as goal

pub returns-then-is_some-clause-task : goal.returns-then-is_some-clause-task
returns-then-is_some-clause-task g c =
    let named : is_module_name c.as_bytes.result.now ≡ true = search rules in
    let taken : is_some c.place_of.result ≡ true = search rules in
    load_taken (g.S.SourceReader.embedding c.args.sources.now) c.args.state.now c.args.name.now c.args.source.now (omega (arith, c.if-state-ge-MAX_SEQ.false))
    (ap is_module_name (sym c.as_bytes.ensures.value) ∙ named)
    (ap (λ (l : List _). is_some (place_in c.args.name.now l)) (sym c.deref.ensures.value) ∙ ap (λ (o : Option ℕ). is_some o) (sym c.place_of.ensures.value) ∙ taken)

pub returns-then-len-ge-MAX_MODULES-clause-task : goal.returns-then-len-ge-MAX_MODULES-clause-task
returns-then-len-ge-MAX_MODULES-clause-task g c =
    let named : is_module_name c.as_bytes.result.now ≡ true = search rules in
    let taken : is_some c.place_of.result ≡ false = search rules in
    let many : max_modules ≤ length c.args.state.now.modules.items = search rules in
    load_many (g.S.SourceReader.embedding c.args.sources.now) c.args.state.now c.args.name.now c.args.source.now (omega (arith, c.if-state-ge-MAX_SEQ.false))
    (ap is_module_name (sym c.as_bytes.ensures.value) ∙ named)
    (ap (λ (l : List _). is_some (place_in c.args.name.now l)) (sym c.deref.ensures.value) ∙ ap (λ (o : Option ℕ). is_some o) (sym c.place_of.ensures.value) ∙ taken)
    many

pub returns-in-Ok-clause-task : goal.returns-in-Ok-clause-task
returns-in-Ok-clause-task g c =
    let named : is_module_name c.as_bytes.result.now ≡ true = search rules in
    let taken : is_some c.place_of.result ≡ false = search rules in
    let few : length c.args.state.now.modules.items < max_modules = search rules in
    ap (λ (r : TaskResult g.S.SourceReader.FaultSeen). Some r) (sym (load_read (g.S.SourceReader.embedding c.args.sources.now) c.args.state.now c.args.name.now c.args.source.now (read_seen g.S.SourceReader.fault_seen (Ok c.in-Ok.tree)) (omega (arith, c.if-state-ge-MAX_SEQ.false))
    (ap is_module_name (sym c.as_bytes.ensures.value) ∙ named)
    (ap (λ (l : List _). is_some (place_in c.args.name.now l)) (sym c.deref.ensures.value) ∙ ap (λ (o : Option ℕ). is_some o) (sym c.place_of.ensures.value) ∙ taken)
    few
    (ap (λ (r : Result script.Module _). read_seen g.S.SourceReader.fault_seen r) (sym c.in-Ok.is) ∙ c.in_ok-tree.ensures.read)))

pub returns-in-Ok-clause-performable : goal.returns-in-Ok-clause-performable
returns-in-Ok-clause-performable g c =
    let taken : is_some c.place_of.result ≡ false = search rules in
    record {
      numbered = omega (arith, c.if-state-ge-MAX_SEQ.false);
      read = sym (ap (λ (r : Result script.Module _). read_seen g.S.SourceReader.fault_seen r) (sym c.in-Ok.is) ∙ c.in_ok-tree.ensures.read);
      absent = load_absent (g.S.SourceReader.embedding c.args.sources.now) c.args.state.now c.args.name.now
          (ap (λ (l : List _). is_some (place_in c.args.name.now l)) (sym c.deref.ensures.value) ∙ ap (λ (o : Option ℕ). is_some o) (sym c.place_of.ensures.value) ∙ taken);
    }

pub returns-in-Err-clause-task : goal.returns-in-Err-clause-task
returns-in-Err-clause-task g c =
    let named : is_module_name c.as_bytes.result.now ≡ true = search rules in
    let taken : is_some c.place_of.result ≡ false = search rules in
    let few : length c.args.state.now.modules.items < max_modules = search rules in
    load_read (g.S.SourceReader.embedding c.args.sources.now) c.args.state.now c.args.name.now c.args.source.now (read_seen g.S.SourceReader.fault_seen (Err c.in-Err.fault)) (omega (arith, c.if-state-ge-MAX_SEQ.false))
    (ap is_module_name (sym c.as_bytes.ensures.value) ∙ named)
    (ap (λ (l : List _). is_some (place_in c.args.name.now l)) (sym c.deref.ensures.value) ∙ ap (λ (o : Option ℕ). is_some o) (sym c.place_of.ensures.value) ∙ taken)
    few
    (ap (λ (r : Result script.Module _). read_seen g.S.SourceReader.fault_seen r) (sym c.in-Err.is) ∙ c.in_ok-tree.ensures.read)

pub returns-in_err-tree-clause-task : goal.returns-in_err-tree-clause-task
returns-in_err-tree-clause-task g c =
    let p = err_from_is_err_and c.from_residual.result c.from_residual.ensures.1 in
    let named : is_module_name c.as_bytes.result.now ≡ true = search rules in
    let taken : is_some c.place_of.result ≡ false = search rules in
    let few : length c.args.state.now.modules.items < max_modules = search rules in
    rw (p.1, p.2) (reading_takes (g.S.SourceReader.embedding c.args.sources.now) c.args.state.now c.args.name.now g.S.SourceReader.TakesMemory c.args.source.now (omega (arith, c.if-state-ge-MAX_SEQ.false))
    (ap is_module_name (sym c.as_bytes.ensures.value) ∙ named)
    (ap (λ (l : List _). is_some (place_in c.args.name.now l)) (sym c.deref.ensures.value) ∙ ap (λ (o : Option ℕ). is_some o) (sym c.place_of.ensures.value) ∙ taken)
    few
    c.in_err-tree.ensures.memory)
