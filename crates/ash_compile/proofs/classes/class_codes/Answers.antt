use Rattle.std.proofs.Common.{◌≡◌, ◌∙◌, ◌+◌, ◌∷◌, [], ℕ, List, length, slice_get, sym, ap, subst, arith, length-append}
use Rattle.std.specs.Prelude.{Some}
use Rattle.std.proofs.lemmas.List.{length-map}
use Rattle.std.proofs.lemmas.Option.{same_Some, slice_get_within}
use Rattle.ash_typed.specs.Modules.{Class, class_of}
use Rattle.ash_code.specs.declared.code.ClassCode.{ClassCode}
use Rattle.ash_compile.specs.Callees.{IsClassCode}
use Rattle.ash_code.specs.Validity.{is_valid_class}
use Rattle.ash_compile.specs.ValidCode.{counts_of}
use Rattle.ash_compile.proofs.Listings.{all_more, get_first, each_below, last_added, item_at}
use Rattle.ash_compile.proofs.classes.class_codes.Goals as goal

pub loop-class-preserved : goal.loop-class-preserved
loop-class-preserved c =
    let l = c.loop-class in
    let item = c.class-item.result in
    let code = c.in_ok-code.code in
    let pushed = c.in_ok-push.ensures.items in (
      c.in_ok-place.ensures.place ∙ ap (λ (n : ℕ). n + 1) l.invariant.0,
      omega (arith, ap length pushed, length-append l.codes.items (code ∷ []), l.invariant.1),
      λ slot m is classes.
          let there : slice_get m.classes l.class-index ≡ Some (class_of item)
          = ap (λ (ks : List Class). slice_get ks l.class-index) classes
          ∙ item_at class_of c.args.classes.now l.class-index item c.loop-class-test.true c.class-item.is in
          let own = c.in_ok-code.ensures.code slot m is (ap (λ (n : ℕ). slice_get m.classes n) l.invariant.0 ∙ there) in
          each_below (λ (k : ℕ). (x : Class) → slice_get m.classes k ≡ Some x
          → (y : ClassCode) × (slice_get c.push.new.self.items k ≡ Some y) × IsClassCode m k x y) l.class-index
          (λ k low x at.
          let before = l.invariant.2 slot m is classes k low x at in (
            before.0,
            ap (λ (ys : List ClassCode). slice_get ys k) pushed
                ∙ get_first l.codes.items (code ∷ []) k before.0 before.1,
            before.2,
          ))
          (λ x at. (
            code,
            last_added l.codes.items c.push.new.self.items l.class-index code pushed l.invariant.1,
            subst (λ (n : ℕ). IsClassCode m n x code) l.invariant.0
                (subst (λ (y : Class). IsClassCode m l.place y code)
                (same_Some (class_of item) x (sym there ∙ at)) own),
          )),
      λ slot m is classes.
          let all = ap length classes in
          let long = length-map c.args.classes.now class_of in
          all_more (is_valid_class (length (counts_of c.args.layout.now))) l.codes.items c.push.new.self.items code
          pushed
          (l.invariant.3 slot m is classes)
          (c.in_ok-code.ensures.there slot m is (omega (arith, l.invariant.0, all, long, c.loop-class-test.true))),
    )

pub returns : goal.returns
returns c =
    let l = c.loop-class in
    let long = length-map c.args.classes.now class_of in
    record {
      codes = λ slot m is classes.
          let all = ap length classes in
          record {
            count = omega (arith, l.invariant.1, all, long, c.loop-class-test.false, l.auto.class-index-end);
            each = λ k x at.
                let within = slice_get_within m.classes k x at in
                l.invariant.2 slot m is classes k (omega (arith, within, all, long, c.loop-class-test.false)) x at;
          };
      there = l.invariant.3;
    }
