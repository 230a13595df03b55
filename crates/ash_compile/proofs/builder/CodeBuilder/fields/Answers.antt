use Rattle.std.proofs.Common.{List, ℕ, ◌+◌, drop, map, sym, subst}
use Rattle.ash_typed.specs.BodyViews.{value_of}
use Rattle.ash_typed.specs.StatementTree.{Initialization}
use Rattle.ash_compile.specs.EmittedParts.{EmitsFields}
use Rattle.ash_compile.proofs.EmittedFields.{no_fields, more_fields}
use Rattle.ash_compile.proofs.Listings.{rest_here, rest_none}
use Rattle.ash_compile.proofs.builder.CodeBuilder.fields.Goals as goal

pub loop-field-init : goal.loop-field-init
loop-field-init c = λ new emits. emits

pub loop-field-preserved : goal.loop-field-preserved
loop-field-preserved c = λ new emits.
    let l = c.loop-field in
    let field = c.field-item.result in
    let rest = map value_of (drop (l.field-index + 1) c.args.fields.now) in
    l.invariant new (subst (λ (vs : List Initialization). EmitsFields l.self new l.place vs c.args.locals)
    (sym (rest_here value_of c.args.fields.now l.field-index field c.loop-field-test.true c.field-item.is))
    (more_fields l.self c.field.new.self new l.place (value_of field) rest c.args.locals c.in_ok-field.ensures.emits
    (subst (λ (n : ℕ). EmitsFields c.field.new.self new n rest c.args.locals) c.in_ok-place.ensures.place emits)))

pub returns : goal.returns
returns c = record {
  emits = c.loop-field.invariant c.loop-field.self
      (subst (λ (vs : List Initialization). EmitsFields c.loop-field.self c.loop-field.self c.loop-field.place vs
      c.args.locals)
      (sym (rest_none value_of c.args.fields.now c.loop-field.field-index c.loop-field-test.false))
      (no_fields c.loop-field.self c.loop-field.place c.args.locals));
}
