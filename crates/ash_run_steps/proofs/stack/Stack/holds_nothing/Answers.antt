use Rattle.std.proofs.Common.{◌≡◌, length, ap, ◌∙◌, sym, rules}
use Rattle.std.proofs.lemmas.List.{length-reverse, nil_from_length}
use Rattle.ash_run_steps.proofs.stack.Stack.holds_nothing.Goals as goal

pub returns : goal.returns
returns c = record {
  none = λ none.
      let held = ((c.args.self.now).frame).held in
      let empty : length (c.held.result.now) ≡ 0 = search rules in
      nil_from_length held (sym (length-reverse held) ∙ ap length (sym c.held.ensures.held) ∙ empty);
}
