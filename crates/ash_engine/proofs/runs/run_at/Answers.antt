use Rattle.std.proofs.Common.{◌≡◌, sym, ap, ◌∙◌, subst}
use Rattle.std.proofs.Math.Seq.{map-set_same}
use Rattle.std.proofs.lemmas.Option.{get_or_from_slice_get}
use Rattle.ash_meaning.specs.Activity.{World}
use Rattle.ash_meaning.specs.Classes.{entry_of_function}
use Rattle.ash_meaning.specs.Ends.{call_entry}
use Rattle.ash_code.specs.CompiledCode.{IsCodeOf, IsSetFor, first_of_function}
use Rattle.ash_context.specs.Outcomes.{TakesFromEntry}
use Rattle.ash_engine.specs.declared.live.Compiled.{Compiled}
use Rattle.ash_engine.proofs.Uncounted.{without_count}
use Rattle.ash_engine.proofs.runs.run_at.Goals as goal

pub returns-clause-says : goal.returns-clause-says
returns-clause-says g c one at context s f is_context is_code set there well =
    let found = c.index_mut-one.result.now in
    let is : found ≡ one = c.index_mut-one.ensures.value
    ∙ get_or_from_slice_get c.args.compiled.now.items c.args.place one found at in
    without_count g.B.HostObject s.names
    (λ (world : World). call_entry context.program c.args.args.now c.args.budget world (entry_of_function f))
    (λ (world : World). TakesFromEntry s c.args.function c.args.args.now
    (first_of_function f c.args.args.now c.args.budget world) c.run.new.self)
    c.args.parts c.run.result.parts c.run.result.outcome
    (c.run.ensures.called context s f is_context
    (subst (λ (x : Compiled). IsCodeOf x.code context) (sym is) is_code)
    (subst (λ (x : Compiled). IsSetFor x.code context s) (sym is) set) there well)

pub returns-clause-codes : goal.returns-clause-codes
returns-clause-codes g c =
    map-set_same (λ (one : Compiled). one.code) c.args.compiled.now.items c.args.place _ c.index_mut-one.result.now
    (ap (λ (one : Compiled). one.code) c.index_mut-one.ensures.value)
