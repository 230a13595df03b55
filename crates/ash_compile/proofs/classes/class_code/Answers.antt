use Rattle.std.proofs.Common.{◌≡◌, ◌∙◌, ℕ, List, map, true, sym, ap, subst}
use Rattle.std.specs.Prelude.{Option, slice_get, unwrap_or}
use Rattle.std.specs.List.{list_all}
use Rattle.std.proofs.lemmas.Option.{slice_get_within}
use Rattle.ash_typed.specs.declared.tree.items.Implementation as implementation
use Rattle.ash_typed.specs.declared.tree.statements.Initialization as initialization
use Rattle.ash_typed.specs.StatementTree.{Initialization}
use Rattle.ash_typed.specs.BodyViews.{value_of}
use Rattle.ash_typed.specs.Modules.{Implementation, class_of, implementation_of as implementation_seen}
use Rattle.ash_meaning.specs.OperatorMeaning.{zero_of}
use Rattle.ash_compile.specs.Callees.{implementation_at, has_own}
use Rattle.ash_compile.proofs.classes.class_code.Goals as goal

pub returns-clause-code : goal.returns-clause-code
returns-clause-code c = λ slot m is at.
    let class = c.args.class.now in
    let k = class_of class in
    record {
      place = c.unwrap_or-source.ensures
          ∙ ap (λ (o : Option ℕ). unwrap_or o 0)
          (c.place_in.ensures.place ∙ ap (λ (xs : List ℕ). slice_get xs c.args.place) c.deref.ensures.value
          ∙ is.classes c.args.place (slice_get_within m.classes c.args.place k at));
      fields = c.in_ok-fields.ensures.words
          ∙ ap (λ (vs : List initialization.Initialization). map (λ (v : Initialization). zero_of v.of)
          (map value_of vs)) c.deref-2.ensures.value;
      construction = c.in_ok-construction.ensures.place slot m is;
      interfaces = λ named.
          c.in_ok-interfaces.ensures.interfaces slot m k is at
          (subst (λ (xs : List implementation.Implementation).
          list_all (λ (i : Implementation). has_own k i.methods) (map implementation_seen xs) ≡ true)
          (sym c.deref-3.ensures.value) named)
          ∙ ap (λ (xs : List implementation.Implementation). map (implementation_at m c.args.place)
          (map implementation_seen xs)) c.deref-3.ensures.value;
    }
