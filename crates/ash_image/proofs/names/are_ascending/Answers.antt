use Rattle.std.proofs.Common.{◌≡◌, ℕ, ◌+◌, ◌<◌, Bool, true, false, ◌&&◌, List, ◌∷◌, length, get_or, drop, refl, sym}
use Rattle.std.proofs.Common.{◌∙◌, ap, add-one}
use Rattle.std.proofs.Math.Seq.{drop-cons}
use Rattle.std.specs.declared.cmp.Ordering.{Ordering}
use Rattle.std.specs.declared.cmp.Ordering.TheVariants.{Less, Equal, Greater}
use Rattle.std.specs.Ordering.{is_lt, is_ge}
use Rattle.ash_image.specs.declared.stored.StoredModule.{StoredModule}
use Rattle.ash_image.specs.SnapshotViews.{module_of, modules_of}
use Rattle.ash_image.specs.Image.{compare_names, are_ascending, names_of}
use Rattle.ash_image.proofs.names.are_ascending.Goals as goal

less_unless_ge : (o : Ordering) → is_ge o ≡ false → is_lt o ≡ true
less_unless_ge Less e = refl
less_unless_ge Equal e = absurd (cc)
less_unless_ge Greater e = absurd (cc)

-- a module that comes after the last one is passed over
one_more : (last next : StoredModule) (rest : List StoredModule) (i : ℕ) (all : Bool) →
    i < length rest → next ≡ get_or rest i next
    → is_ge (compare_names (module_of last).name (module_of next).name) ≡ false →
    are_ascending (names_of (module_of last ∷ modules_of (drop i rest))) ≡ all →
    are_ascending (names_of (module_of next ∷ modules_of (drop (i + 1) rest))) ≡ all
one_more last next rest i all within is after e =
    let there : drop i rest ≡ next ∷ drop (i + 1) rest = drop-cons rest i next within ∙ rw (sym is) (rw add-one refl) in
    let as_one : are_ascending (names_of (module_of last ∷ modules_of (next ∷ drop (i + 1) rest)))
    ≡ all = sym (ap (λ (more : List StoredModule). are_ascending
    (names_of (module_of last ∷ modules_of more))) there) ∙ e in
    let less = less_unless_ge (compare_names (module_of last).name (module_of next).name) after in
    sym (ap (λ (b : Bool). b && are_ascending
    (names_of (module_of next ∷ modules_of (drop (i + 1) rest)))) less) ∙ as_one

pub loop-module-preserved : goal.loop-module-preserved
loop-module-preserved c =
    let not_ge = sym c.ge.ensures ∙ c.if-ge.false in
    one_more c.loop-module.last.now c.module-item.result c.in-Some.rest.now c.loop-module.module-index _
    c.loop-module-test.true c.module-item.is not_ge c.loop-module.invariant
