use Rattle.std.proofs.Common.{◌≡◌, ◌≤◌, ℕ, true, List, [], ◌∷◌, length, map, refl, sym, ◌∙◌, ap, subst, arith}
use Rattle.std.specs.Vec.Iter.{into_iter_items}
use Rattle.ash_host.specs.Objects.{numbers}
use Rattle.ash_plain_steps.specs.StateViews.{modules_seen}
use Rattle.ash_image.specs.Image.{do_rise}
use Rattle.ash_image.specs.SnapshotViews.{objects_of}
use Rattle.ash_states.specs.Images.{name_at, plain_named, entry_named}
use Rattle.ash_states.specs.StateRestoring.{with_all}
use Rattle.ash_states.proofs.Renamed.{numbers_same}
use Rattle.ash_states.proofs.Formed.{fields_named}
use Rattle.ash_states.proofs.Inserted.{all_put}
use Rattle.ash_states.proofs.objects.objects_of.Goals as goal

none_left : {A : Type 0} (items : List A) → length items ≤ 0 → items ≡ []
none_left [] h = refl
none_left (one ∷ more) h = absurd (omega arith)

pub returns : goal.returns
returns c =
    let name : ℕ → List ℕ = name_at (modules_seen c.args.modules.now) in
    let none : into_iter_items c.loop-number.number-iterator ≡ [] =
    none_left (into_iter_items c.loop-number.number-iterator) (omega (arith, c.in-None.ensures.steps)) in
    let rise : do_rise (numbers (map (entry_named name) (objects_of c.args.stored.items))) ≡ true =
    subst (λ (ns : List ℕ). do_rise ns ≡ true) (sym (numbers_same (plain_named name) (fields_named name) (objects_of c.args.stored.items))) c.requires.rise in
    record {
      named = ap (λ (left : List _). with_all c.loop-number.objects (map (entry_named name) (objects_of left))) (sym none)
          ∙ c.loop-number.invariant
          ∙ all_put (map (entry_named name) (objects_of c.args.stored.items)) rise;
    }
