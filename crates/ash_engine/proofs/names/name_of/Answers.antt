use Rattle.std.proofs.Common.{◌≡◌, ◌<◌, ◌≤◌, ◌-◌, List, ℕ, length, ◌∙◌, subst, slice_get, arith}
use Rattle.std.specs.Prelude.{IfOk, string_bytes}
use Rattle.ash_engine.proofs.EntryNames.{named, members_of, function_here, behind_functions}
use Rattle.ash_engine.proofs.names.name_of.Goals as goal

pub returns-then-function-len : goal.returns-then-function-len
returns-then-function-len c =
    let tree = c.args.tree.now in
    let within : c.args.function < length tree.functions.items = omega (arith, c.len.ensures, c.if-function-len.true) in
    let same = c.as_str.ensures.value ∙ function_here tree c.args.function c.index.result.now within c.index.ensures in
    record { name = subst (λ (x : List ℕ). IfOk c.from_str.result (λ name. string_bytes name ≡ x)) same c.from_str.ensures.ok }

pub returns : goal.returns
returns c =
    let tree = c.args.tree.now in
    let past : length tree.functions.items ≤ c.args.function = omega (arith, c.len.ensures, c.if-function-len.false) in
    let count : c.len-2.result ≡ length tree.functions.items = omega (arith, c.len-2.ensures) in
    let same = (λ i. named (slice_get (members_of (c.deref.ensures.value i)) (c.args.function - count i))) ∙ behind_functions tree c.args.function past in
    record { name = subst (λ (x : List ℕ). IfOk c.member_name.result (λ name. string_bytes name ≡ x)) same c.member_name.ensures.name }
