-- Calls come to what their frames do: constructions, bodies by how deep calls go, and calls from outside.
use Rattle.std.proofs.Common.{◌≡◌, ℕ, ◌+◌, List, Option, Some, None, refl, sym, ap, ◌∙◌, add-one}
use Rattle.std.specs.Prelude.{option_map, slice_get}
use Rattle.std.specs.Option.{option_and_then}
use Rattle.ash_host.specs.declared.word.Word.{Word}
use Rattle.ash_host.specs.declared.word.Word.TheVariants as words
use Rattle.ash_host.specs.declared.word.Word.TheVariants.{Null}
use Rattle.ash_typed.specs.Modules.{Class}
use Rattle.ash_meaning.specs.Activity.{World, Activity}
use Rattle.ash_meaning.specs.Runs.{Progress, Done, Ended, NoStep, OutOfTicks, Run, give, onward, found, ◌>>=◌, ◌>>◌}
use Rattle.ash_meaning.specs.Frames.{frame_of, tick, demand_frame, in_frame_of}
use Rattle.ash_meaning.specs.ObjectSteps.{demand_number, make}
use Rattle.ash_meaning.specs.Classes.{Program, FreeFunction, ModuleCallee, Entry, entry_of, entry_of_construction}
use Rattle.ash_meaning.specs.CallMeaning.{Calls, blank, construct}
use Rattle.ash_meaning.specs.Functions.{body, calls_within}
use Rattle.ash_meaning.specs.Ends.{outcome_of, begun, call_entry, call_function}
use Rattle.ash_plain_scripts.specs.Entering.{function_run, construction_run, entry_run}
use Rattle.ash_plain_scripts.specs.Bodies.{body_of_callee}

-- constructions

abbrev constructed : Calls → ℕ → List Word → Class → Run Word
constructed calls class args c =
    demand_frame >> demand_number >> make (blank calls.program class c) >>= (λ number. construction_run calls class number args)

pub construct_is : (calls : Calls) (class : ℕ) (args : List Word) (c : Class) (a : Activity) → slice_get calls.program.tree.classes class ≡ Some c → construct calls class args a ≡ constructed calls class args c a
construct_is calls class args c a h =
    ap (λ (o : Option Class). onward (found (option_map entry_of_construction o) a) (λ e. found o >>= (λ k. demand_frame >> demand_number >> make (blank calls.program class k) >>= (λ number. in_frame_of e.name e.line (words.Object number) args (calls.body e >> give (words.Object number)))))) h
    ∙ sym (ap (λ (o : Option Class). onward ((demand_frame >> demand_number >> make (blank calls.program class c)) a) (λ number b. onward (found (option_map entry_of_construction o) b) (λ e. in_frame_of e.name e.line (words.Object number) args (calls.body e >> give (words.Object number))))) h)

pub no_class : (calls : Calls) (class : ℕ) (args : List Word) (a : Activity) → slice_get calls.program.tree.classes class ≡ None → construct calls class args a ≡ NoStep
no_class calls class args a h =
    ap (λ (o : Option Class). onward (found (option_map entry_of_construction o) a) (λ e. found o >>= (λ k. demand_frame >> demand_number >> make (blank calls.program class k) >>= (λ number. in_frame_of e.name e.line (words.Object number) args (calls.body e >> give (words.Object number)))))) h

-- bodies

pub body_deeper : (p : Program) (depth below : ℕ) (callee : ModuleCallee) (a : Activity) → depth ≡ below + 1 → body_of_callee p depth callee a ≡ entry_run p (calls_within p below) below callee a
body_deeper p depth below callee a is = ap (λ (n : ℕ). body_of_callee p n callee a) (is ∙ add-one below)

pub body_deepest : (p : Program) (depth : ℕ) (callee : ModuleCallee) (e : Entry) (a : Activity) → depth ≡ 0 → entry_of p.tree callee ≡ Some e → body_of_callee p depth callee a ≡ Ended OutOfTicks a
body_deepest p depth callee e a is h =
    ap (λ (n : ℕ). body_of_callee p n callee a) is ∙ ap (λ (o : Option Entry). onward (found o a) (body p 0)) h

pub no_body : (p : Program) (depth : ℕ) (callee : ModuleCallee) (a : Activity) → entry_of p.tree callee ≡ None → body_of_callee p depth callee a ≡ NoStep
no_body p depth callee a h = ap (λ (o : Option Entry). onward (found o a) (body p depth)) h

-- calls from outside

ticked : (p : Program) (budget place : ℕ) (e : Entry) → entry_of p.tree (FreeFunction place) ≡ Some e → (q : Progress (Unit {0})) → onward q (λ _. body p budget e) ≡ onward q (λ _. body_of_callee p budget (FreeFunction place))
ticked p budget place e h (Done v a) = sym (ap (λ (o : Option Entry). onward (found o a) (body p budget)) h)
ticked p budget place e h (Ended i a) = refl
ticked p budget place e h NoStep = refl

pub call_is : (p : Program) (place : ℕ) (args : List Word) (budget : ℕ) (w : World) (e : Entry) → entry_of p.tree (FreeFunction place) ≡ Some e → call_function p place args budget w ≡ outcome_of (function_run p budget e.line (FreeFunction place) (begun w budget (frame_of e.name e.line Null args)))
call_is p place args budget w e h =
    ap (λ (o : Option Entry). option_and_then (call_entry p args budget w) o) h
    ∙ ap outcome_of (ticked p budget place e h (tick e.line (begun w budget (frame_of e.name e.line Null args))))

pub no_function : (p : Program) (place : ℕ) (args : List Word) (budget : ℕ) (w : World) → entry_of p.tree (FreeFunction place) ≡ None → call_function p place args budget w ≡ None
no_function p place args budget w h = ap (λ (o : Option Entry). option_and_then (call_entry p args budget w) o) h
