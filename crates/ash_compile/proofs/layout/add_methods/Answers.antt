use Rattle.std.proofs.Common.{◌∙◌, ◌++◌, ◌+◌, List, ℕ, drop, map, flat_map, sym, ap, append_assoc, append-nil}
use Rattle.ash_typed.specs.declared.tree.items.Function as function
use Rattle.ash_typed.specs.Modules.{Class, class_of, function_of}
use Rattle.ash_compile.specs.Layout.{count_of_parameters, counts_of_methods}
use Rattle.ash_compile.proofs.Listings.{rest_here, rest_none}
use Rattle.ash_compile.proofs.layout.add_methods.Goals as goal

pub loop-class-preserved : goal.loop-class-preserved
loop-class-preserved c =
    let l = c.loop-class in
    let item = c.class-item.result in
    let classes = c.args.classes.now in
    let own = counts_of_methods (class_of item) in
    let rest = flat_map counts_of_methods (map class_of (drop (l.class-index + 1) classes)) in
    let added = c.in_ok-add_functions.ensures.added
    ∙ ap (λ (fs : List function.Function). l.counts.items ++ map count_of_parameters (map function_of fs))
    c.deref.ensures.value in
    ap (λ (ns : List ℕ). ns ++ rest) added
    ∙ append_assoc l.counts.items own rest
    ∙ ap (λ (ks : List Class). l.counts.items ++ flat_map counts_of_methods ks)
    (sym (rest_here class_of classes l.class-index item c.loop-class-test.true c.class-item.is))
    ∙ l.invariant

pub returns : goal.returns
returns c =
    let l = c.loop-class in
    record {
      added = sym (append-nil l.counts.items)
          ∙ ap (λ (ks : List Class). l.counts.items ++ flat_map counts_of_methods ks)
          (sym (rest_none class_of c.args.classes.now l.class-index c.loop-class-test.false))
          ∙ l.invariant;
    }
