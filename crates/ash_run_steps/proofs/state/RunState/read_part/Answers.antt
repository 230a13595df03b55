use Rattle.std.proofs.Common.{sym, ap, ◌∙◌}
use Rattle.std.specs.Prelude.{Option, unwrap_or}
use Rattle.std.proofs.lemmas.Option.{unwrap_or-slice_get}
use Rattle.ash_host.specs.declared.word.Word.{Word}
use Rattle.ash_host.specs.declared.word.Word.TheVariants.{Null}
use Rattle.ash_run_steps.specs.PartSteps.{words_at}
use Rattle.ash_run_steps.specs.RunStates.{state_with}
use Rattle.ash_run_steps.proofs.PartSteps.{part_read}
use Rattle.ash_run_steps.proofs.state.RunState.read_part.Goals as goal

pub returns-in-Some : goal.returns-in-Some
returns-in-Some g c =
    let s = c.self.inside in
    let there = rw c.words_at.ensures.words at (sym c.word_in.ensures.word ∙ c.in-Some.is) in
    let at = sym (unwrap_or-slice_get (words_at c.args.number s.table) c.args.place Null) ∙ ap (λ (o : Option Word). unwrap_or o Null) there in
    record {
      read = λ names. rw (← c.self.view_is) (part_read g.B.HostObject names c.args.number c.args.place c.in-Some.word (state_with s.table s.stack s.globals.items s.outside.items s.events.items s.ticks) at);
      word = rw (← c.self.view_is) (sym at);
    }

pub returns-in-None : goal.returns-in-None
returns-in-None g c =
    let s = c.self.inside in
    let there = rw c.words_at.ensures.words at (sym c.word_in.ensures.word ∙ c.in-None.is) in
    let at = sym (unwrap_or-slice_get (words_at c.args.number s.table) c.args.place Null) ∙ ap (λ (o : Option Word). unwrap_or o Null) there in
    record {
      read = λ names. rw (← c.self.view_is) (part_read g.B.HostObject names c.args.number c.args.place Null (state_with s.table s.stack s.globals.items s.outside.items s.events.items s.ticks) at);
      word = rw (← c.self.view_is) (sym at);
    }
