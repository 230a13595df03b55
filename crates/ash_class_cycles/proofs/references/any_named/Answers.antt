use Rattle.std.proofs.Common.{◌≡◌, refl, true, List, map, sym, ◌∙◌, string_bytes}
use Rattle.std.proofs.lemmas.Slice.Eq.{bytes_eq-Decides}
use Rattle.std.specs.List.{Any}
use Rattle.ash_tree.specs.declared.tree.types.TypeName as code_name
use Rattle.ash_tree.specs.TreeViews.{type_name_of}
use Rattle.ash_class_cycles.proofs.Searches.{found, passed_by, missed}
use Rattle.ash_class_cycles.proofs.ReferenceLaws.{any_of}
use Rattle.ash_class_cycles.proofs.references.any_named.Goals as goal

pub returns-then-eq : goal.returns-then-eq
returns-then-eq c = record {
  exact =
      let name = c.args.name.now in
      let same : string_bytes c.interface-item.result.name ≡ name =
      sym c.as_str.ensures.value ∙ (bytes_eq-Decides c.as_str.result.now name).0 (sym c.eq.ensures ∙ c.if-eq.true) in (
        λ u. found (λ (xs : List code_name.TypeName). Any (λ i. i.name ≡ name) (map type_name_of xs))
            (λ x. string_bytes x.name ≡ name) (any_of (λ i. i.name ≡ name) type_name_of) c.args.interfaces.now
            c.loop-interface.interface-index c.interface-item.result c.loop-interface-test.true c.interface-item.is same,
        λ b. refl,
      );
}

pub loop-interface-preserved : goal.loop-interface-preserved
loop-interface-preserved c =
    let name = c.args.name.now in
    passed_by (λ (xs : List code_name.TypeName). Any (λ i. i.name ≡ name) (map type_name_of xs))
    (λ x. string_bytes x.name ≡ name) (any_of (λ i. i.name ≡ name) type_name_of) c.args.interfaces.now
    c.loop-interface.interface-index c.interface-item.result c.loop-interface-test.true c.interface-item.is
    (λ same. let e : c.eq.result ≡ true =
    c.eq.ensures ∙ (bytes_eq-Decides c.as_str.result.now name).1 (c.as_str.ensures.value ∙ same) in cc)
    c.loop-interface.invariant

pub returns : goal.returns
returns c = record {
  exact =
      let name = c.args.name.now in (
        λ u. cc,
        λ b.
            absurd (missed (λ (xs : List code_name.TypeName). Any (λ i. i.name ≡ name) (map type_name_of xs))
            (λ x. string_bytes x.name ≡ name) (any_of (λ i. i.name ≡ name) type_name_of) c.args.interfaces.now
            c.loop-interface.interface-index c.loop-interface-test.false c.loop-interface.invariant b),
      );
}
