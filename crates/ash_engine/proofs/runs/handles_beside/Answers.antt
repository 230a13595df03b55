use Rattle.std.proofs.Common.{◌+◌, ◌-◌, ◌++◌, ℕ, List, length, take, drop, ap, ◌∙◌}
use Rattle.std.proofs.lemmas.List.{take_rest}
use Rattle.ash_plain_steps.specs.declared.state.LoadedModule.{LoadedModule}
use Rattle.ash_engine.proofs.Beside.{held_by, held_beside}
use Rattle.ash_engine.proofs.runs.handles_beside.Goals as goal

pub returns : goal.returns
returns c =
    let ms : List LoadedModule = c.args.modules.now in
    let place = c.args.place in
    record {
      value = c.in_ok-push_all_handles-2.ensures.value
          ∙ ap (λ (l : List ℕ). l ++ held_by (take (length ms - (place + 1)) (drop (place + 1) ms)))
          (c.in_ok-push_all_handles.ensures.value ∙ ap (λ (l : List ℕ). l ++ held_by (take place ms))
          c.new-numbers.ensures.items)
          ∙ ap (λ (l : List LoadedModule). held_by (take place ms) ++ held_by l) (take_rest ms (place + 1))
          ∙ held_beside ms place;
    }
