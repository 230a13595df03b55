-- What the globals of modules are handles to.
use Rattle.std.proofs.Common.{◌≡◌, ◌<◌, ◌+◌, ℕ, cond, List, ◌++◌, length, drop, get_or, sym, ◌∙◌, ap, append_assoc, arith}
use Rattle.std.proofs.lemmas.List.Elements.{filter_map-append}
use Rattle.std.proofs.lemmas.List.Sums.{sum_by-append}
use Rattle.ash_host.specs.declared.word.Word.{Word}
use Rattle.ash_host.specs.Objects.{handle, handles, is_handle_to, handles_to}
use Rattle.ash_requests.specs.States.{globals_of}
use Rattle.ash_plain_steps.specs.declared.state.LoadedModule.{LoadedModule}
use Rattle.ash_plain_steps.specs.StateViews.{modules_seen}
use Rattle.ash_plain_steps.proofs.Drops.{at_place}

pub more_handles : (numbers : List ℕ) (ms : List LoadedModule) (i : ℕ) (m : LoadedModule) → i < length ms → m ≡ get_or ms i m → (numbers ++ handles m.globals.items) ++ handles (globals_of (modules_seen (drop (i + 1) ms))) ≡ numbers ++ handles (globals_of (modules_seen (drop i ms)))
more_handles numbers ms i m within is =
    append_assoc numbers (handles m.globals.items) (handles (globals_of (modules_seen (drop (i + 1) ms))))
    ∙ ap (λ (l : List ℕ). numbers ++ l) (sym (filter_map-append handle m.globals.items (globals_of (modules_seen (drop (i + 1) ms)))))
    ∙ ap (λ (l : List LoadedModule). numbers ++ handles (globals_of (modules_seen l))) (sym (at_place ms i m within is))

-- how many of the globals of one more module are handles to an object
pub more_globals : (number count : ℕ) (ms : List LoadedModule) (i : ℕ) (m : LoadedModule) → i < length ms → m ≡ get_or ms i m → (count + handles_to number m.globals.items) + handles_to number (globals_of (modules_seen (drop (i + 1) ms))) ≡ count + handles_to number (globals_of (modules_seen (drop i ms)))
more_globals number count ms i m within is =
    let rest = drop (i + 1) ms in
    let all : handles_to number (globals_of (modules_seen (drop i ms))) ≡ handles_to number m.globals.items + handles_to number (globals_of (modules_seen rest)) =
    ap (λ (l : List LoadedModule). handles_to number (globals_of (modules_seen l))) (at_place ms i m within is)
    ∙ sum_by-append (λ (w : Word). cond {A = ℕ} (is_handle_to number w) 1 0) m.globals.items (globals_of (modules_seen rest)) in
    omega (arith, all)
