use Rattle.std.proofs.Common.{◌+◌, [], ◌∷◌, map, drop, refl, sym, ap}
use Rattle.ash_type_rules.specs.TypeRules.{var_type}
use Rattle.ash_check_names.proofs.Rows.{further, whole}
use Rattle.ash_check_names.proofs.parameters.script_types.Goals as goal

pub loop-of-preserved : goal.loop-of-preserved
loop-of-preserved c =
    let all = c.args.all.now in
    let i = c.loop-of.of-index in
    further (map var_type) all i c.loop-of.types.items _ (c.var_type.result ∷ []) c.push.new.self.items c.loop-of-test.true (ap (λ t. t ∷ map var_type (drop (i + 1) all)) (sym c.var_type.ensures.variable_type)) c.in_ok-push.ensures.items c.loop-of.invariant

pub returns : goal.returns
returns c = record { value = whole (map var_type) c.args.all.now c.loop-of.of-index c.loop-of.types.items c.loop-of-test.false refl c.loop-of.invariant }
