use Rattle.std.proofs.Common.{◌≡◌, List, [], ◌∷◌, ap, subst}
use Rattle.std.specs.Prelude.{Result, Ok, Err, IfOk, OnOk}
use Rattle.ash_host.specs.declared.word.Word.{Word}
use Rattle.ash_host.specs.Objects.{handles}
use Rattle.ash_meaning.specs.HostSteps as hosts
use Rattle.ash_run_steps.specs.Becoming.{Comes}
use Rattle.ash_run_steps.specs.Guarded.{plain}
use Rattle.ash_run_steps.specs.HostGuards.{holding}
use Rattle.ash_run_steps.specs.Stacks.{Frames}
use Rattle.ash_code.specs.Controls.{words_at}
use Rattle.ash_context.specs.Positions.{control_of}
use Rattle.ash_context.proofs.hosts.construct_host.Goals as goal

on_ok : {A E : Type 0} {Q : Type 0} (P : A → Type 0) (r : Result A E) → ((value : A) → P value → Q) → IfOk r P → OnOk r Q
on_ok P (Ok value) f p = f value p
on_ok P (Err e) f p = tt

pub returns : goal.returns
returns g c =
    let a = c.args in
    let old = a.state.now in
    let at = control_of a.at old.frames in
    let step = c.construct_host-step in
    let mid = step.new.self in
    record {
      does = λ s. c.store_given.ensures.put s (plain (hosts.construct_host a.kind (words_at a.first a.count at))) at old
          (subst (λ (ws : List Word). Comes g.B.HostObject s.names (plain (hosts.construct_host a.kind ws)) old step.result mid) c.row_of-row.ensures.words (step.ensures.constructed s.names))
          (on_ok (λ (word : Word). mid.frames ≡ holding (handles (word ∷ [])) old.frames) step.result (λ word same. ap (λ (f : Frames). control_of a.at f) same) step.ensures.frames);
    }
