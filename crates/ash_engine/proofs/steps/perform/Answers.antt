use Rattle.std.proofs.Common.{refl, sym, ap, subst, Ok}
use Rattle.ash_requests.specs.declared.reply.Reply.TheVariants as replies
use Rattle.ash_requests.specs.RequestViews.{shown_seen}
use Rattle.ash_requests.specs.Tasks.{Read, Show, Count, Rewrite}
use Rattle.ash_plain_steps.specs.declared.task.Task.TheVariants as tasks
use Rattle.ash_plain_steps.specs.TaskViews.{task_seen}
use Rattle.ash_engine.specs.declared.steps.LiveStep.{LiveStep}
use Rattle.ash_engine.specs.TableSteps.{IsStepOf}
use Rattle.ash_engine.proofs.Tasks.{asked_as, looked_at}
use Rattle.ash_engine.proofs.steps.perform.Goals as goal

pub returns-in-Initialize : goal.returns-in-Initialize
returns-in-Initialize g c = record {
  stepped =
      λ asked. c.initialize.ensures.stepped
      (asked_as g.B.HostObject c.args.live c.args.task (tasks.Initialize c.in-Initialize.new) c.in-Initialize.is asked);
}

pub returns-in-Invoke : goal.returns-in-Invoke
returns-in-Invoke g c = record {
  stepped = λ asked. c.invoke.ensures.stepped (asked_as g.B.HostObject c.args.live c.args.task
      (tasks.Invoke c.in-Invoke.call) c.in-Invoke.is asked);
}

pub returns-in-Remove : goal.returns-in-Remove
returns-in-Remove g c = record {
  stepped =
      λ asked. c.discard.ensures.stepped c.args.budget
      (asked_as g.B.HostObject c.args.live c.args.task (tasks.Remove c.in-Remove.place) c.in-Remove.is asked);
}

pub returns-in-Read : goal.returns-in-Read
returns-in-Read g c = record {
  stepped =
      λ asked. let G = g.B.HostObject in
      let step : LiveStep g.row.B.Denot = record { reply = replies.Value c.in-Read.word; live = c.args.live } in
      subst (λ (s : LiveStep g.row.B.Denot). IsStepOf G asked.registered c.args.budget asked.request c.args.live (Ok s))
      (sym c.replied.ensures.value)
      (looked_at G c.args.live c.args.task asked c.args.budget (Read c.in-Read.word) step
      (ap (task_seen c.args.live.loaded.modules.items) c.in-Read.is) refl refl tt refl);
}

pub returns-in-Show : goal.returns-in-Show
returns-in-Show g c = record {
  stepped =
      λ asked. let G = g.B.HostObject in
      let step : LiveStep g.row.B.Denot = record { reply = replies.Shown c.in-Show.shown; live = c.args.live } in
      subst (λ (s : LiveStep g.row.B.Denot). IsStepOf G asked.registered c.args.budget asked.request c.args.live (Ok s))
      (sym c.replied-in-Show.ensures.value)
      (looked_at G c.args.live c.args.task asked c.args.budget (Show (shown_seen c.in-Show.shown)) step
      (ap (task_seen c.args.live.loaded.modules.items) c.in-Show.is) refl refl tt refl);
}

pub returns-in-Count : goal.returns-in-Count
returns-in-Count g c = record {
  stepped =
      λ asked. let G = g.B.HostObject in
      let step : LiveStep g.row.B.Denot = record { reply = replies.Seq c.args.live.loaded.seq; live = c.args.live } in
      subst (λ (s : LiveStep g.row.B.Denot). IsStepOf G asked.registered c.args.budget asked.request c.args.live (Ok s))
      (sym c.replied-in-Count.ensures.value)
      (looked_at G c.args.live c.args.task asked c.args.budget Count step
      (ap (task_seen c.args.live.loaded.modules.items) c.in-Count.is) refl refl tt refl);
}

pub returns-in-Rewrite : goal.returns-in-Rewrite
returns-in-Rewrite g c = record {
  stepped =
      λ asked. let G = g.B.HostObject in
      let step : LiveStep g.row.B.Denot = record { reply = replies.Done; live = c.args.live } in
      subst (λ (s : LiveStep g.row.B.Denot). IsStepOf G asked.registered c.args.budget asked.request c.args.live (Ok s))
      (sym c.replied-in-Rewrite.ensures.value)
      (looked_at G c.args.live c.args.task asked c.args.budget Rewrite step
      (ap (task_seen c.args.live.loaded.modules.items) c.in-Rewrite.is) refl refl tt refl);
}
