use Rattle.std.proofs.Common.{sym, ap, ◌∙◌}
use Rattle.ash_serve.specs.Service.{service_remains}
use Rattle.ash_serve.specs.Serving.{run_state}
use Rattle.ash_serve.proofs.ServiceLemmas.{end_of, serves_host}
use Rattle.ash_serve.proofs.program.service.serve_host.Goals.{in-Ok, in-Err}
use Rattle.ash_serve.proofs.program.service.serve_host.Goals as goal

pub returns : goal.returns
returns g c =
    let e = c.run.ensures in record {
      serves = serves_host g.D.Disk g.B.HostObject c.args.budget (run_state (g.R.Read.remaining c.args.reader) (g.W.Write.contents c.args.writer.now) c.args.host) c.run.result c.match-run.end (service_remains c.close-a.result.0 c.close-a.result.1 (g.W.Write.contents c.run.new.writer))
          (elim c.match-run.branch [
            | in-Ok w ↦ w.end-is ∙ ap end_of (sym w.in-Ok.is)
            | in-Err w ↦ w.end-is ∙ ap end_of (sym w.in-Err.is)
          ])
          (record { last = c.run.new.host; ends = e.ends; saved = e.saved; sound = e.sound; defined = e.defined; lives = e.lives; first_is = c.close-a.ensures.first; second_is = c.close-a.ensures.second });
    }
