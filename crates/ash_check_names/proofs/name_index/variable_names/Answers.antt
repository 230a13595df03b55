use Rattle.std.proofs.Common.{[], ◌∷◌, get_or, map, refl, ap, ◌∙◌}
use Rattle.std.proofs.lemmas.List.{map-append}
use Rattle.ash_type_rules.specs.declared.types.Ty.TheVariants.{Bool}
use Rattle.ash_check_names.specs.declared.signatures.Binding.{Binding}
use Rattle.ash_check_names.specs.NameIndex.{texts}
use Rattle.ash_check_names.proofs.Rows.{further, whole}
use Rattle.ash_check_names.proofs.name_index.variable_names.Goals as goal

pub loop-variable-preserved : goal.loop-variable-preserved
loop-variable-preserved c =
    let all = c.args.all.now in
    let row = c.loop-variable.names.items in
    let nothing : Binding = record { name = record { ref_ptr = (0, 0); now = [] }; of = Bool } in
    let new = get_or all c.loop-variable.variable-index nothing in
    further (map (λ x. x.name.now)) all c.loop-variable.variable-index (texts row) nothing (new.name.now ∷ []) (texts c.push.new.self.items) c.loop-variable-test.true refl (ap texts c.in_ok-push.ensures.items ∙ map-append (λ name. name.now) row (new.name ∷ [])) c.loop-variable.invariant

pub returns : goal.returns
returns c = record { value = whole (map (λ x. x.name.now)) c.args.all.now c.loop-variable.variable-index (texts c.loop-variable.names.items) c.loop-variable-test.false refl c.loop-variable.invariant }
