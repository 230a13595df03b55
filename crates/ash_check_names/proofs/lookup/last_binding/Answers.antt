use Rattle.std.proofs.Common.{◌-◌, [], None, Some, ◌∙◌, ap, sym, cond, map, take, get_or, arith}
use Rattle.ash_type_rules.specs.declared.types.Ty.TheVariants as ty
use Rattle.ash_type_rules.specs.Environment.{last_named}
use Rattle.ash_check_names.specs.declared.signatures.Binding as code
use Rattle.ash_check_names.specs.EnvironmentViews.{binding_of}
use Rattle.ash_check_names.proofs.Locals.{nearest}
use Rattle.ash_check_names.proofs.lookup.last_binding.Goals as goal

nothing : code.Binding
nothing = record { name = record { ref_ptr = (0, 0); now = [] }; of = ty.Bool }

pub returns-then-eq : goal.returns-then-eq
unfolding nothing
returns-then-eq c = record {
  value =
      let name = c.args.name.now in
      let all = c.args.all.now in
      let i = c.loop-i.i in
      let v = get_or all (i - 1) nothing in
      let before = last_named name 0 None (map binding_of (take (i - 1) all)) in
      let same = sym c.eq.ensures ∙ c.if-eq.true in
      sym (ap (λ b. cond b (Some (i - 1, v.of)) before) same) ∙ sym (nearest name all i nothing (omega arith) (omega arith)) ∙ c.loop-i.invariant;
}

pub loop-i-preserved : goal.loop-i-preserved
unfolding nothing
loop-i-preserved c =
    let name = c.args.name.now in
    let all = c.args.all.now in
    let i = c.loop-i.i in
    let v = get_or all (i - 1) nothing in
    let before = last_named name 0 None (map binding_of (take (i - 1) all)) in
    let other = sym c.eq.ensures ∙ c.if-eq.false in
    sym (ap (λ b. cond b (Some (i - 1, v.of)) before) other) ∙ sym (nearest name all i nothing (omega arith) (omega arith)) ∙ c.loop-i.invariant
