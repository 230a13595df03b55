use Rattle.ash_journal.proofs.journal.Journal.install.Goals as goal

pub returns-in-Ok-clause-installed : goal.returns-in-Ok-clause-installed
returns-in-Ok-clause-installed g c was bodies holds =
    c.in-Ok.ensures.installed c.args.image.now was bodies c.in_ok-next.ensures.next holds

pub returns-in-Ok-clause-run : goal.returns-in-Ok-clause-run
returns-in-Ok-clause-run g c was bodies holds =
    c.in-Ok.ensures.run c.args.image.now was bodies c.in_ok-next.ensures.next holds

pub returns-in-Err-clause-run : goal.returns-in-Err-clause-run
returns-in-Err-clause-run g c was bodies holds =
    c.in-Err.ensures.run c.args.image.now was bodies c.in_ok-next.ensures.next holds
