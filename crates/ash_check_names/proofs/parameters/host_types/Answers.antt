use Rattle.std.proofs.Common.{◌+◌, List, [], ◌∷◌, map, drop, refl, sym, ap, ◌∙◌}
use Rattle.ash_tree.specs.declared.tree.types.Primitive.{Primitive}
use Rattle.ash_type_rules.specs.TypeRules.{var_type, ty_of}
use Rattle.ash_check_names.proofs.Rows.{further, whole}
use Rattle.ash_check_names.proofs.parameters.host_types.Goals as goal

pub loop-primitive-preserved : goal.loop-primitive-preserved
loop-primitive-preserved c =
    let all = c.args.primitives.now in
    let i = c.loop-primitive.primitive-index in
    let made = λ (ps : List Primitive). map var_type (map ty_of ps) in
    let of = c.var_type.ensures.variable_type ∙ ap var_type c.ty_of.ensures.primitive_type in
    further made all i c.loop-primitive.types.items _ (c.var_type.result ∷ []) c.push.new.self.items c.loop-primitive-test.true (ap (λ t. t ∷ made (drop (i + 1) all)) (sym of)) c.in_ok-push.ensures.items c.loop-primitive.invariant

pub returns : goal.returns
returns c = record { value = whole (λ ps. map var_type (map ty_of ps)) c.args.primitives.now c.loop-primitive.primitive-index c.loop-primitive.types.items c.loop-primitive-test.false refl c.loop-primitive.invariant }
