use Rattle.std.proofs.Common.{◌≡◌, ◌≤◌, ◌+◌, ◌∙◌, ℕ, List, [], length, refl, subst, sym, ap, arith}
use Rattle.std.specs.Prelude.{All, IsTrue}
use Rattle.ash_host.specs.declared.word.Word.{Word}
use Rattle.ash_host.specs.declared.word.Word.TheVariants as words
use Rattle.ash_host.specs.Records.{HostRecord}
use Rattle.ash_meaning.specs.Activity.{World}
use Rattle.ash_meaning.specs.Classes.{entry_of_function}
use Rattle.ash_meaning.specs.Frames.{frame_of}
use Rattle.ash_meaning.specs.Ends.{begun, init_frame, with_globals, outcome_of, call_entry, load_module}
use Rattle.ash_run_steps.specs.FrameChanges.{beginning_over}
use Rattle.ash_run_steps.specs.RunStates.{is_alive_in, frame_shown}
use Rattle.ash_run_steps.specs.Stacks.{Frames}
use Rattle.ash_code.specs.CompiledCode.{run_of_call, run_of_load, first_of_function, first_of_load}
use Rattle.ash_code.specs.Running.{code_of}
use Rattle.ash_code.specs.Sizes.{slots_of_frames}
use Rattle.ash_context.specs.Outcomes.{world_in, Compiles, Takes, TakesFromEntry}
use Rattle.ash_context.specs.Positions.{control_of}
use Rattle.ash_context.proofs.Entered.{begun_locals, says_as, says_in_frame, function_frame, function_compiles}
use Rattle.ash_context.specs.RanOut.{IsShort, IsShortFromEntry}
use Rattle.ash_context.proofs.Entered.{init_is_framed, init_compiles, zeroed, out_as, out_in_frame}
use Rattle.ash_context.proofs.context.Context.run.Goals as goal

pub run_on-ended-requires-clause-alive : goal.run_on-ended-requires-clause-alive
run_on-ended-requires-clause-alive g c =
    let begun = c.in-Ok.ensures.begun in
    let stack = c.replace-stack.result in
    let line = (code_of c.args.code.now c.args.function).line in
    let is = c.replace-stack.ensures.value ∙ begun.1 in
    subst (λ (ws : List Word). All (λ word. IsTrue (is_alive_in word c.args.parts.table)) ws)
    (sym (begun_locals stack c.args.function line c.args.args.now begun.0 is)) c.requires.alive

pub returns-in-Ok-clause-called : goal.returns-in-Ok-clause-called
returns-in-Ok-clause-called g c = λ x s f context is_code set at well.
    let G = g.B.HostObject in
    let code = c.args.code.now in
    let begun_is = c.in-Ok.ensures.begun in
    let rest = begun_is.0 in
    let args = c.args.args.now in
    let function = c.args.function in
    let budget = c.args.budget in
    let parts = c.args.parts in
    let done = c.run_on-ended.result in
    let result = done.ended in
    let stack : Frames = beginning_over function (code_of code function).line args rest in
    let is : c.replace-stack.result ≡ stack = c.replace-stack.ensures.value ∙ begun_is.1 in
    let run = run_of_call x.program budget (entry_of_function f) in
    let compiles = function_compiles G x s code context is_code set budget parts rest f function args at well
    begun_is.2 in
    let framed = function_frame G x s code context is_code set budget parts rest f function args at well begun_is.2 in
    let said = says_in_frame G s run parts result.parts budget stack c.replace-stack.result is
    (frame_of f.name f.line words.Null args) framed result.outcome done.steps
    (c.run_on-ended.ensures.says s run set.code
    (subst (λ (k : Frames). Compiles G s (control_of 0 k)
    (λ (w : World). begun w budget (frame_shown s.names k.frame)) run parts) (sym is) compiles)) in
    says_as G s.names (λ w. outcome_of (run (first_of_function f args budget w)))
    (λ w. call_entry x.program args budget w (entry_of_function f))
    (λ w o. Takes s (control_of 0 stack) (first_of_function f args budget w) done.steps o)
    (λ w o. TakesFromEntry s function args (first_of_function f args budget w) done.steps o) parts result.parts
    result.outcome
    (λ records. refl)
    (λ records o takes. record { rest = rest; room = rw set.code begun_is.2; takes = takes }) said

pub returns-in-Ok-clause-loaded : goal.returns-in-Ok-clause-loaded
returns-in-Ok-clause-loaded g c = λ x s context is_code set last none zeros well.
    let G = g.B.HostObject in
    let code = c.args.code.now in
    let begun_is = c.in-Ok.ensures.begun in
    let rest = begun_is.0 in
    let budget = c.args.budget in
    let parts = c.args.parts in
    let done = c.run_on-ended.result in
    let result = done.ended in
    let function = length (code.functions).items in
    let stack : Frames = beginning_over function (code_of code function).line [] rest in
    let is : c.replace-stack.result ≡ stack
    = c.replace-stack.ensures.value ∙ begun_is.1
    ∙ ap (λ (n : ℕ). beginning_over n (code_of code n).line c.args.args.now rest) last
    ∙ ap (λ (ws : List Word). beginning_over function (code_of code function).line ws rest) none in
    let many : slots_of_frames code ≤ 0 + length rest
    = subst (λ (ws : List Word). slots_of_frames code ≤ length ws + length rest) none begun_is.2 in
    let long : slots_of_frames code ≤ length rest = omega (arith, many) in
    let valid = c.begin_on.ensures.valid in
    let run = run_of_load x.program budget in
    let compiles = init_compiles G x s code context is_code set budget parts rest valid zeros well long in
    let framed = init_is_framed G x s code context is_code set budget parts rest valid zeros well long in
    let said = says_in_frame G s run parts result.parts budget stack c.replace-stack.result is init_frame framed
    result.outcome done.steps
    (c.run_on-ended.ensures.says s run set.code
    (subst (λ (k : Frames). Compiles G s (control_of 0 k)
    (λ (w : World). begun w budget (frame_shown s.names k.frame)) run parts) (sym is) compiles)) in
    let zero : (records : List HostRecord) → with_globals (x.program).tree (world_in G s.names records parts)
    ≡ world_in G s.names records parts
    = zeroed G x s code context is_code set budget parts rest valid zeros well long in
    says_as G s.names (λ w. outcome_of (run (begun w budget init_frame))) (λ w. load_module x.program budget w)
    (λ w o. Takes s (control_of 0 stack) (begun w budget init_frame) done.steps o)
    (λ w o. TakesFromEntry s c.args.function [] (first_of_load (x.program).tree budget w) done.steps o)
    parts result.parts result.outcome
    (λ records. ap (λ (w : World). outcome_of (run (begun w budget init_frame))) (sym (zero records)))
    (λ records o takes. record {
      rest = rest;
      room = rw set.code many;
      takes = rw last (subst (λ (w : World). Takes s (control_of 0 stack) (begun w budget init_frame) done.steps o)
          (sym (zero records)) takes);
    }) said

pub returns-in-Ok-clause-call_ran_out : goal.returns-in-Ok-clause-call_ran_out
returns-in-Ok-clause-call_ran_out g c = λ out x s f context is_code set at well.
    let G = g.B.HostObject in
    let code = c.args.code.now in
    let begun_is = c.in-Ok.ensures.begun in
    let rest = begun_is.0 in
    let args = c.args.args.now in
    let function = c.args.function in
    let budget = c.args.budget in
    let parts = c.args.parts in
    let done = c.run_on-ended.result in
    let stack : Frames = beginning_over function (code_of code function).line args rest in
    let is : c.replace-stack.result ≡ stack = c.replace-stack.ensures.value ∙ begun_is.1 in
    let run = run_of_call x.program budget (entry_of_function f) in
    let compiles = function_compiles G x s code context is_code set budget parts rest f function args at well
    begun_is.2 in
    let framed = function_frame G x s code context is_code set budget parts rest f function args at well begun_is.2 in
    let short = out_in_frame G s parts budget stack c.replace-stack.result is
    (frame_of f.name f.line words.Null args) framed done.steps
    (c.run_on-ended.ensures.ran_out s run set.code
    (subst (λ (k : Frames). Compiles G s (control_of 0 k)
    (λ (w : World). begun w budget (frame_shown s.names k.frame)) run parts) (sym is) compiles) out) in
    out_as G s.names
    (λ w. IsShort s (control_of 0 stack) (first_of_function f args budget w) done.steps)
    (λ w. IsShortFromEntry s function args (first_of_function f args budget w) done.steps) parts
    (λ records counted. record { rest = rest; room = rw set.code begun_is.2; short = counted }) short

pub returns-in-Ok-clause-load_ran_out : goal.returns-in-Ok-clause-load_ran_out
returns-in-Ok-clause-load_ran_out g c = λ out x s context is_code set last none zeros well.
    let G = g.B.HostObject in
    let code = c.args.code.now in
    let begun_is = c.in-Ok.ensures.begun in
    let rest = begun_is.0 in
    let budget = c.args.budget in
    let parts = c.args.parts in
    let done = c.run_on-ended.result in
    let function = length (code.functions).items in
    let stack : Frames = beginning_over function (code_of code function).line [] rest in
    let is : c.replace-stack.result ≡ stack
    = c.replace-stack.ensures.value ∙ begun_is.1
    ∙ ap (λ (n : ℕ). beginning_over n (code_of code n).line c.args.args.now rest) last
    ∙ ap (λ (ws : List Word). beginning_over function (code_of code function).line ws rest) none in
    let many : slots_of_frames code ≤ 0 + length rest
    = subst (λ (ws : List Word). slots_of_frames code ≤ length ws + length rest) none begun_is.2 in
    let long : slots_of_frames code ≤ length rest = omega (arith, many) in
    let valid = c.begin_on.ensures.valid in
    let run = run_of_load x.program budget in
    let compiles = init_compiles G x s code context is_code set budget parts rest valid zeros well long in
    let framed = init_is_framed G x s code context is_code set budget parts rest valid zeros well long in
    let short = out_in_frame G s parts budget stack c.replace-stack.result is init_frame framed done.steps
    (c.run_on-ended.ensures.ran_out s run set.code
    (subst (λ (k : Frames). Compiles G s (control_of 0 k)
    (λ (w : World). begun w budget (frame_shown s.names k.frame)) run parts) (sym is) compiles) out) in
    let zero : (records : List HostRecord) → with_globals (x.program).tree (world_in G s.names records parts)
    ≡ world_in G s.names records parts
    = zeroed G x s code context is_code set budget parts rest valid zeros well long in
    out_as G s.names
    (λ w. IsShort s (control_of 0 stack) (begun w budget init_frame) done.steps)
    (λ w. IsShortFromEntry s c.args.function [] (first_of_load (x.program).tree budget w) done.steps) parts
    (λ records counted. record {
      rest = rest;
      room = rw set.code many;
      short = rw last (subst (λ (w : World). IsShort s (control_of 0 stack) (begun w budget init_frame) done.steps)
          (sym (zero records)) counted);
    }) short

pub returns-in-Ok-clause-begun : goal.returns-in-Ok-clause-begun
returns-in-Ok-clause-begun g c = (
  λ none. absurd (c.run_on-ended.ensures.begun none),
  λ none. absurd (let some = c.run_on-ended.ensures.some in omega (arith, some, none)),
)
