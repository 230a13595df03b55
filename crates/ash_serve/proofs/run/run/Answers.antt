use Rattle.std.proofs.Common.{◌∙◌, rules, ap}
use Rattle.ash_durable.specs.Hosting.{IsSaved, RunsSound}
use Rattle.ash_serve.specs.HostCalls.{hosting}
use Rattle.ash_serve.specs.Serving.{run_state}
use Rattle.ash_serve.proofs.RunningLemmas.{run_writes, run_keeps}
use Rattle.ash_serve.proofs.DefinedLemmas.{replies_run, replies_live, replies_kept}
use Rattle.ash_serve.proofs.run.run.Goals as goal

pub returns-clause-ends : goal.returns-clause-ends
returns-clause-ends g c =
    run_writes g.R.Read.remaining g.W.Write.contents (hosting g.D.Disk g.B.HostObject c.args.budget)
    (run_state c.in_ok-input.input c.new-output.result c.args.host.now) (run_state c.serve-result.new.input c.serve-result.new.output c.serve-result.new.host) _ c.serve-result.result _ _
    c.in_ok-input.ensures.left c.in_ok-input.ensures.allowance c.new-output.ensures.buffered (c.new-output.ensures.room ∙ c.in_ok-buffer.ensures.exact) (ap (λ y. y.now) c.new-output.ensures.writer) (λ e. let n = ap (λ y. y.ghost_name) c.into_writer-lent.ensures.same_writer in let v = ap (λ y. y.now) c.into_writer-lent.ensures.same_writer in let b = ap (λ y. y.ghost_name) c.new-output.ensures.writer in search rules) c.serve-result.ensures.serves

pub returns-clause-saved : goal.returns-clause-saved
returns-clause-saved g c h =
    run_keeps (hosting g.D.Disk g.B.HostObject c.args.budget) (IsSaved g.D.Disk) (λ request old new reply handled was. handled.saved was) (λ requests old new result handled was. handled.saved was)
    (run_state (g.R.Read.remaining c.args.reader) (g.W.Write.contents c.args.writer.now) c.args.host.now) c.serve-result.result _ c.serve-result.new.host (returns-clause-ends g c) h

pub returns-clause-sound : goal.returns-clause-sound
returns-clause-sound g c h =
    run_keeps (hosting g.D.Disk g.B.HostObject c.args.budget) (RunsSound g.B.HostObject) (λ request old new reply handled was. handled.sound was) (λ requests old new result handled was. handled.sound was)
    (run_state (g.R.Read.remaining c.args.reader) (g.W.Write.contents c.args.writer.now) c.args.host.now) c.serve-result.result _ c.serve-result.new.host (returns-clause-ends g c) h

pub returns-clause-defined : goal.returns-clause-defined
returns-clause-defined g c = λ commands replies answered. replies_run g.D.Disk g.B.HostObject c.args.budget c.args.host.now commands replies c.serve-result.new.host answered

pub returns-clause-lives : goal.returns-clause-lives
returns-clause-lives g c = λ commands replies answered. replies_live g.D.Disk g.B.HostObject c.args.budget c.args.host.now commands replies c.serve-result.new.host answered

pub returns-clause-kept : goal.returns-clause-kept
returns-clause-kept g c = λ commands replies answered. replies_kept g.D.Disk g.B.HostObject g.met.D.Disk.seen_may_stay c.args.budget c.args.host.now commands replies c.serve-result.new.host answered

pub returns-in_err-input-clause-kept : goal.returns-in_err-input-clause-kept
returns-in_err-input-clause-kept g c = λ commands replies answered. replies_kept g.D.Disk g.B.HostObject g.met.D.Disk.seen_may_stay c.args.budget c.args.host.now commands replies c.args.host.now answered

pub returns-in_err-buffer-clause-kept : goal.returns-in_err-buffer-clause-kept
returns-in_err-buffer-clause-kept g c = λ commands replies answered. replies_kept g.D.Disk g.B.HostObject g.met.D.Disk.seen_may_stay c.args.budget c.args.host.now commands replies c.args.host.now answered
