use Rattle.std.proofs.Common.{◌∙◌, sym}
use Rattle.ash_run_steps.proofs.AskedObjects.{object_found, object_lacks}
use Rattle.ash_run_steps.proofs.state.RunState.object_of.Goals as goal

pub returns-in-Some-clause-found : goal.returns-in-Some-clause-found
returns-in-Some-clause-found g c = λ names.
    object_found g.B.HostObject names c.args.word c.in-Some.number c.args.self.now (sym c.handle.ensures.handle ∙ c.in-Some.is)

pub returns-in-None-clause-found : goal.returns-in-None-clause-found
returns-in-None-clause-found g c = λ names.
    object_lacks g.B.HostObject names c.args.word c.args.self.now (sym c.handle.ensures.handle ∙ c.in-None.is)
