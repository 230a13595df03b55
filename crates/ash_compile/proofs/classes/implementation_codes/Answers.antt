use Rattle.std.proofs.Common.{◌≡◌, ◌∙◌, ◌++◌, ◌∷◌, [], ℕ, List, length, map, take, true, sym, ap, subst}
use Rattle.std.proofs.lemmas.List.{take_all}
use Rattle.std.specs.List.{list_all}
use Rattle.ash_typed.specs.declared.tree.items.Implementation as implementation
use Rattle.ash_typed.specs.Modules.{Implementation, implementation_of as implementation_seen}
use Rattle.ash_meaning.specs.Classes.{Method}
use Rattle.ash_compile.specs.Layout.{index_of}
use Rattle.ash_compile.specs.Callees.{implementation_of, implementation_at, has_own}
use Rattle.ash_code.specs.Validity.{has_functions}
use Rattle.ash_compile.specs.ValidCode.{counts_of}
use Rattle.ash_compile.proofs.Listings.{all_more, all_there, item_at, map_both, map_twice_more}
use Rattle.ash_compile.proofs.classes.implementation_codes.Goals as goal

pub loop-implementation-init : goal.loop-implementation-init
loop-implementation-init c = (
  λ slot m k is at has. ap (map implementation_of) c.in_ok-codes.ensures.items,
  λ slot m is low. ap (list_all (has_functions (length (counts_of c.args.layout.now)))) c.in_ok-codes.ensures.items,
)

pub loop-implementation-preserved : goal.loop-implementation-preserved
loop-implementation-preserved c = (
  λ slot m k is at has.
      let l = c.loop-implementation in
      let item = c.implementation-item.result in
      let interfaces = c.args.interfaces.now in
      let f = implementation_at m c.args.class in
      let before = map f (map implementation_seen (take l.implementation-index interfaces)) in
      let own = all_there (λ (i : Implementation). has_own k i.methods) (map implementation_seen interfaces)
      l.implementation-index (implementation_seen item) has
      (item_at implementation_seen interfaces l.implementation-index item c.loop-implementation-test.true
      c.implementation-item.is) in
      let methods = c.in_ok-methods.ensures.methods slot m k is at
      (subst (λ (ms : List ℕ). has_own k ms ≡ true) (sym c.deref.ensures.value) own)
      ∙ ap (map (λ (own : ℕ). index_of m (Method c.args.class own))) c.deref.ensures.value in
      ap (map implementation_of) c.in_ok-push.ensures.items
      ∙ map_both implementation_of l.codes.items _
      ∙ ap (λ (is : List Implementation). is ++ record
      { interface = item.interface; methods = c.in_ok-methods.methods.items } ∷ [])
      (l.invariant.0 slot m k is at has)
      ∙ ap (λ (ms : List ℕ). before ++ record { interface = item.interface; methods = ms } ∷ []) methods
      ∙ sym (map_twice_more f implementation_seen interfaces l.implementation-index item
      c.loop-implementation-test.true
      c.implementation-item.is),
  λ slot m is low.
      all_more (has_functions (length (counts_of c.args.layout.now))) c.loop-implementation.codes.items
      c.push.new.self.items _ c.in_ok-push.ensures.items (c.loop-implementation.invariant.1 slot m is low)
      (c.in_ok-methods.ensures.there slot m is low),
)

pub returns : goal.returns
returns c = record {
  interfaces = λ slot m k is at has.
      c.loop-implementation.invariant.0 slot m k is at has
      ∙ ap (λ (is : List implementation.Implementation). map (implementation_at m c.args.class)
      (map implementation_seen is))
      (take_all c.loop-implementation.implementation-index c.args.interfaces.now c.loop-implementation-test.false);
  there = c.loop-implementation.invariant.1;
}
