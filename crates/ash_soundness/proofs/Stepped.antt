-- Requests leave well-formed states.
use Rattle.std.proofs.Common.{◌≡◌, ℕ, Bool, true, false, List, [], ◌∷◌, refl, sym, subst, if◌then◌else◌}
use Rattle.std.specs.Prelude.{Option, Some, None, Ok, Err}
use Rattle.std.specs.Ordering.{int_eq}
use Rattle.std.proofs.lemmas.Option.{same_Some}
use Rattle.ash_host.specs.declared.word.Word.{Word}
use Rattle.ash_host.specs.Objects.{LiveObjects}
use Rattle.ash_integers.specs.Integers.{reduced}
use Rattle.ash_typed.specs.declared.types.VarType.{VarType}
use Rattle.ash_typed.specs.declared.types.VarType.TheVariants as vars
use Rattle.ash_typed.specs.Signatures.{HostSignatures}
use Rattle.ash_meaning.specs.Activity.{World}
use Rattle.ash_meaning.specs.OperatorMeaning.{word_at}
use Rattle.ash_meaning.specs.Classes.{Program}
use Rattle.ash_meaning.specs.Ends.{End, Finished, Threw, Aborted, call_function, load_module}
use Rattle.ash_soundness.specs.WellFormed.{IsValue, is_truth, is_integer, AreValues, no_values, and_value}
use Rattle.ash_soundness.specs.WellFormedLaws.{IsBetweenRequests}
use Rattle.ash_soundness.proofs.Integers.{integer_word}
use Rattle.ash_soundness.proofs.Entries.{mapped}
use Rattle.ash_requests.specs.declared.argument.Arg.{Arg}
use Rattle.ash_requests.specs.declared.argument.Arg.TheVariants as arguments
use Rattle.ash_requests.specs.States.{State, Hosts, Embedding, without_module, world_of}
use Rattle.ash_requests.specs.Requests.{Refused, Value, ShownAs, Number, Done}
use Rattle.ash_requests.specs.Tasks.{option_cons, argument_of, arguments_of, Task, Initialize, Invoke, Remove, Read, Show, Count, Rewrite, TaskResult, task_of}
use Rattle.ash_requests.specs.Steps.{Step, replied, after_load_with, after_load, after_call, after_discard, perform, unless_refused, performed as was_performed, put_off, no_request, next_request}
use Rattle.ash_requests.specs.Premises.{ReadsSound}
use Rattle.ash_soundness.specs.WellFormedStates.{AreHosts, IsWellFormedState, StepsKeep, RunsKeepWellFormed}
use Rattle.ash_soundness.proofs.Asked.{IsTask, initializes, calls, removes, task_is}
use Rattle.ash_soundness.proofs.Called.{call_keeps}
use Rattle.ash_soundness.proofs.Came.{loading, discard_keeps, load_settles, unfinished_keeps, finished_keeps}

-- arguments

number_from : {p : Program} {all : LiveObjects (List ℕ)} (int_type : _) (z : _) (w : Word) (b : Bool) → (if b then Some (word_at int_type z) else None) ≡ Some w → IsValue p all (vars.Integer int_type) w
number_from {p} {all} int_type z w true e = subst (IsValue p all (vars.Integer int_type)) (same_Some (word_at int_type z) w e) (is_integer (integer_word int_type z))
number_from int_type z w false e = absurd (cc)

argument_value : {p : Program} {all : LiveObjects (List ℕ)} (of : VarType) (a : Arg) (w : Word) → argument_of of a ≡ Some w → IsValue p all of w
argument_value {p} {all} vars.Bool (arguments.Truth b) w e = subst (IsValue p all vars.Bool) (same_Some _ w e) is_truth
argument_value vars.Bool (arguments.Number z) w e = absurd (cc)
argument_value (vars.Integer int_type) (arguments.Truth b) w e = absurd (cc)
argument_value (vars.Integer int_type) (arguments.Number z) w e = number_from int_type z w (int_eq (reduced int_type z) z) e
argument_value (vars.Object o) a w e = absurd (cc)
argument_value (vars.Handle o) a w e = absurd (cc)

both_some : (o : Option Word) (os : Option (List Word)) (ws : List Word) → option_cons o os ≡ Some ws → (w : Word) × (rest : List Word) × (o ≡ Some w) × (os ≡ Some rest) × (w ∷ rest ≡ ws)
both_some (Some w) (Some rest) ws e = (w, rest, refl, refl, same_Some (w ∷ rest) ws e)
both_some (Some w) None ws e = absurd (cc)
both_some None os ws e = absurd (cc)

pub arguments_values : {p : Program} {all : LiveObjects (List ℕ)} (types : List VarType) (asked : List Arg) (ws : List Word) → arguments_of types asked ≡ Some ws → AreValues p all types ws
arguments_values {p} {all} [] [] ws e = subst (AreValues p all []) (same_Some [] ws e) no_values
arguments_values [] (a ∷ asked) ws e = absurd (cc)
arguments_values (t ∷ types) [] ws e = absurd (cc)
arguments_values {p} {all} (t ∷ types) (a ∷ asked) ws e =
    let (w, rest, one, more, whole) = both_some (argument_of t a) (arguments_of types asked) ws e in
    subst (AreValues p all (t ∷ types)) whole (and_value (argument_value t a w one) (arguments_values types asked rest more))

module _ {Fault : Type 0} (embedding : Embedding Fault) (host : HostSignatures) where
  abbrev Keeps : Step Fault → Type 0
  Keeps one = IsWellFormedState embedding host one.state × AreHosts one.hosts

  of_this : (this one : Step Fault) → Keeps this → Some this ≡ Some one → Keeps one
  of_this this one k e = subst Keeps (same_Some this one e) k

  performed : (budget : ℕ) (t : Task) (s : State) (hosts : Hosts) (one : Step Fault) → ReadsSound host embedding → IsWellFormedState embedding host s → AreHosts hosts → IsTask embedding s t → perform budget t s hosts ≡ Some one → Keeps one
  performed budget (Initialize name source tree) s hosts one sound h hs (initializes good is free few left) e =
      let (o, ran, same) = mapped (after_load name source s) (load_module (record { name = name; tree = tree }) budget (world_of [] s.modules s hosts)) one e in
      let settled = load_settles embedding host s hosts h hs left sound name source tree good is free few budget o ran in
      subst Keeps same (by_end o.end o.world settled)
    where
      by_end : (end : End) (w : World) → IsBetweenRequests (loading embedding host s hosts h hs left sound name source tree good is free few) w → Keeps (after_load_with name source s end w)
      by_end (Finished v) w settled = finished_keeps embedding host s hosts h hs left sound name source tree good is free few w settled
      by_end (Threw x f line) w settled = unfinished_keeps embedding host s hosts h hs left sound name source tree good is free few w settled
      by_end (Aborted f line) w settled = unfinished_keeps embedding host s hosts h hs left sound name source tree good is free few w settled
  performed budget (Invoke m tree place args) s hosts one sound h hs (calls {f = f} asked found is at given left) e =
      let (o, ran, same) = mapped (after_call m s) (call_function (record { name = m.name; tree = tree }) place args budget (world_of m.globals (without_module m.name s.modules) s hosts)) one e in
      subst Keeps same (call_keeps embedding host sound s hosts h hs m tree found is place f args budget o left at (arguments_values f.parameters asked args given) ran)
  performed budget (Remove name) s hosts one sound h hs (removes left) e = of_this (after_discard name s hosts) one (discard_keeps embedding host s hosts h hs left name) e
  performed budget (Read word) s hosts one sound h hs t e = of_this (replied (Value word) s hosts) one (h, hs) e
  performed budget (Show shown) s hosts one sound h hs t e = of_this (replied (ShownAs shown) s hosts) one (h, hs) e
  performed budget Count s hosts one sound h hs t e = of_this (replied (Number s.seq) s hosts) one (h, hs) e
  performed budget Rewrite s hosts one sound h hs t e = of_this (replied Done s hosts) one (h, hs) e

  stepped : (budget : ℕ) (d : TaskResult Fault) (s : State) (hosts : Hosts) (one : Step Fault) → ReadsSound host embedding → IsWellFormedState embedding host s → AreHosts hosts → ((t : Task) → d ≡ Ok t → IsTask embedding s t) → unless_refused budget d s hosts ≡ Some one → Keeps one
  stepped budget (Ok t) s hosts one sound h hs is e = performed budget t s hosts one sound h hs (is t refl) e
  stepped budget (Err refusal) s hosts one sound h hs is e = of_this (replied (Refused refusal) s hosts) one (h, hs) e

  pub steps_keep : StepsKeep embedding host
  steps_keep budget request s hosts one sound h hs (was_performed e) = stepped budget (task_of embedding request s) s hosts one sound h hs (λ t is. task_is embedding s request t is) e
  steps_keep budget request s hosts one sound h hs (put_off {refusal} cause e) = subst Keeps (sym e) (h, hs)

  pub runs_keep : RunsKeepWellFormed embedding host
  runs_keep budget [] s hosts history sound h hs no_request = (h, hs)
  runs_keep budget (request ∷ requests) s hosts history sound h hs (next_request {one = one} {rest = rest} first more) =
      let kept = steps_keep budget request s hosts one sound h hs first in
      runs_keep budget requests one.state one.hosts rest sound kept.0 kept.1 more
