use Rattle.std.proofs.Common.{refl, sym, subst, Ok}
use Rattle.ash_registry.specs.RegistryViews.{registered}
use Rattle.ash_requests.specs.declared.reply.Reply.TheVariants as replies
use Rattle.ash_requests.specs.RequestViews.{request_seen}
use Rattle.ash_engine.specs.declared.steps.LiveStep.{LiveStep}
use Rattle.ash_engine.specs.TableSteps.{IsStepOf}
use Rattle.ash_engine.proofs.Tasks.{asked_from, refused}
use Rattle.ash_engine.proofs.steps.step_of.Goals as goal

pub perform-requires : goal.perform-requires
perform-requires g c = record {
  asked = asked_from g.B.HostObject (registered c.args.registry.now) c.args.live
      (request_seen c.args.request.now) c.in-Ok.task c.requires.live c.in-Ok.ensures.task;
}

pub returns-in-Ok : goal.returns-in-Ok
returns-in-Ok g c = record {
  stepped =
      c.perform.ensures.stepped
      (asked_from g.B.HostObject (registered c.args.registry.now) c.args.live
      (request_seen c.args.request.now) c.in-Ok.task c.requires.live c.in-Ok.ensures.task);
}

pub returns-in-Err : goal.returns-in-Err
returns-in-Err g c =
    let G = g.B.HostObject in
    let registrations = registered c.args.registry.now in
    let request = request_seen c.args.request.now in
    let step : LiveStep g.row.B.Denot = record { reply = replies.Refused c.in-Err.refusal; live = c.args.live } in
    record {
      stepped =
          subst (λ (s : LiveStep g.row.B.Denot). IsStepOf G registrations c.args.budget request c.args.live (Ok s))
          (sym c.replied.ensures.value)
          (refused G registrations c.args.live c.args.budget request c.in-Err.refusal step c.requires.live
          c.in-Err.ensures.task refl refl);
    }
