use Rattle.std.proofs.Common.{◌+◌, List, [], ◌∷◌, map, drop, refl, sym, ap}
use Rattle.ash_type_rules.specs.Environment.{type_declared}
use Rattle.ash_check_names.specs.declared.signatures.Binding.{Binding}
use Rattle.ash_check_names.specs.EnvironmentViews.{binding_of}
use Rattle.ash_check.proofs.Rows.{further, whole}
use Rattle.ash_check.proofs.routines.types_of.Goals as goal

pub loop-declared-preserved : goal.loop-declared-preserved
loop-declared-preserved c =
    let all = c.args.all.now in
    let i = c.loop-declared.declared-index in
    let made = λ (xs : List Binding). map type_declared (map binding_of xs) in
    further made all i c.loop-declared.types.items _ (c.var_type.result ∷ []) c.push.new.self.items c.loop-declared-test.true (ap (λ t. t ∷ made (drop (i + 1) all)) (sym c.var_type.ensures.variable_type)) c.in_ok-push.ensures.items c.loop-declared.invariant

pub returns : goal.returns
returns c = record { value = whole (λ xs. map type_declared (map binding_of xs)) c.args.all.now c.loop-declared.declared-index c.loop-declared.types.items c.loop-declared-test.false refl c.loop-declared.invariant }
