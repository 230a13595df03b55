-- The two laws of an image: bytes are read as what they are the image of, and as nothing else.
use Rattle.std.proofs.Common.{◌≡◌, ℕ, ◌^◌, ◌<◌, Bool, true, false, cond, leb, eqb, List, ◌++◌, length, Option, Some, None}
use Rattle.std.proofs.Common.{refl, sym, ap, subst, ◌∙◌, arith}
use Rattle.std.specs.Bool.{IsTrue, ⊤}
use Rattle.std.specs.List.{AllByRecursion}
use Rattle.std.proofs.lemmas.Bool.{leb-true, le-leb, eqb-true}
use Rattle.ash_host.specs.declared.word.Word.{Word}
use Rattle.ash_host.specs.Limits.{max_objects}
use Rattle.ash_host.specs.Objects.{Plain, numbers}
use Rattle.ash_image.specs.declared.version.Version.{Version}
use Rattle.ash_image.specs.declared.version.Version.TheVariants as versions
use Rattle.ash_image.specs.Fields.{number, text, items, ◌>>=◌, number_at, whole}
use Rattle.ash_image.specs.ImageWords.{word, FitsWord}
use Rattle.ash_image.specs.ObjectBytes.{plain, FitsPlain}
use Rattle.ash_image.specs.Snapshots.{Loaded, Snapshot}
use Rattle.ash_image.specs.Image.{loaded_module, service, object, state_bytes, version_number, is_module_name}
use Rattle.ash_image.specs.Image.{are_ascending, names_of, do_rise, has_version, max_source_bytes, max_globals, max_modules}
use Rattle.ash_image.specs.Image.{max_services, FitsText, FitsModule, FitsObject, FitServices}
use Rattle.ash_image.specs.Image.{FitModules, FitObjects, FitsVersion, IsSpelling}
use Rattle.ash_image.specs.ImageReading.{name_at, source_at, globals_at, module_at, modules_at, services_at, body_at}
use Rattle.ash_image.specs.ImageReading.{object_at, objects_at, is_text, registered_at, snapshot_at, version_at, image_at}
use Rattle.ash_image.proofs.Numbers.{IsBytes}
use Rattle.ash_image.proofs.NameLaws.{name_short}
use Rattle.ash_image.proofs.Texts.{text_fits, some_text}
use Rattle.ash_image.proofs.FieldLaws.{bind_some, some_is, Takes, IsField, number_field, text_field, checked_field}
use Rattle.ash_image.proofs.FieldLaws.{pair_field, then_field, as_field, refit_field, items_field, whole_takes, whole_again}
use Rattle.ash_image.proofs.WordLaws.{word_field}
use Rattle.ash_image.proofs.ObjectLaws.{kind_and_state_field, plain_field}

-- ---- modules

pub name_field : IsField (text 1) (λ name. (length name < 256 ^ 1) × IsTrue (is_module_name name)) name_at
unfolding name_at
name_field = checked_field is_module_name (text_field 1)

pub source_field : IsField (text 4) (λ source. (length source < 256 ^ 4) × IsTrue (leb (length source) max_source_bytes))
    source_at
unfolding source_at
source_field = checked_field (λ source. leb (length source) max_source_bytes) (text_field 4)

globals_field : IsField (items 2 word) (λ globals.
    ((length globals < 256 ^ 2) × IsTrue (leb (length globals) max_globals)) × AllByRecursion FitsWord globals)
    globals_at
unfolding globals_at
globals_field = items_field 2 (checked_field (λ n. leb n max_globals) (number_field 2)) word_field

module_field : IsField loaded_module FitsModule module_at
unfolding module_at
module_field =
    as_field
    (pair_field name_field (pair_field source_field globals_field))
    (λ (x : List ℕ × (List ℕ × List Word)). record { name = x.0; source = x.1.0; globals = x.1.1 })
    (λ (m : Loaded). (m.name, (m.source, m.globals))) loaded_module FitsModule
    (λ m h. refl)
    (λ x h. refl)
    (λ x h. record {
      name_fits = h.0.1;
      source_short = leb-true _ _ h.1.0.1;
      few = leb-true _ _ h.1.1.0.1;
      words = h.1.1.1;
    })
    (λ m h. (
      (omega (arith, name_short m.name h.name_fits), h.name_fits),
      (
        (omega (arith, h.source_short), le-leb _ _ h.source_short),
        ((omega (arith, h.few), le-leb _ _ h.few), h.words),
      ),
    ))

modules_field : IsField (items 1 loaded_module) FitModules modules_at
unfolding modules_at
modules_field =
    refit_field
    (checked_field (λ modules. are_ascending (names_of modules))
    (items_field 1 (checked_field (λ n. leb n max_modules) (number_field 1)) module_field))
    (items 1 loaded_module) FitModules
    (λ modules. refl)
    (λ modules h. record { few = leb-true _ _ h.0.0.1; each = h.0.1; order = h.1 })
    (λ modules h. (((omega (arith, h.few), le-leb _ _ h.few), h.each), h.order))

-- ---- services

pub services_field : IsField (items 2 service) FitServices services_at
unfolding services_at
services_field =
    refit_field (items_field 2 (checked_field (λ n. leb n max_services) (number_field 2)) kind_and_state_field)
    (items 2 service) FitServices
    (λ services. refl)
    (λ services h. record { few = leb-true _ _ h.0.1; each = h.1 })
    (λ services h. ((omega (arith, h.few), le-leb _ _ h.few), h.each))

-- ---- objects

body_field : (version : Version) → IsField plain (λ o. FitsPlain o × IsTrue (has_version version o)) (body_at version)
unfolding body_at
body_field version = checked_field (has_version version) plain_field

object_field : (version : Version) → IsField object (FitsObject version) (object_at version)
unfolding object_at
object_field version =
    refit_field (pair_field (number_field 8) (body_field version)) object (FitsObject version)
    (λ e. refl)
    (λ e h. record { number_fits = h.0; fits = h.1.0; is_there = h.1.1 })
    (λ e h. (h.number_fits, (h.fits, h.is_there)))

pub objects_field : (version : Version) → IsField (items 4 object) (FitObjects version) (objects_at version)
unfolding objects_at
objects_field version =
    refit_field
    (checked_field (λ objects. do_rise (numbers objects))
    (items_field 4 (checked_field (λ n. leb n max_objects) (number_field 4)) (object_field version)))
    (items 4 object) (FitObjects version)
    (λ objects. refl)
    (λ objects h. record { few = leb-true _ _ h.0.0.1; each = h.0.1; order = h.1 })
    (λ objects h. (((omega (arith, h.few), le-leb _ _ h.few), h.each), h.order))

-- ---- states

pub registered_field : IsField (text 4) FitsText registered_at
unfolding registered_at
registered_field =
    refit_field (checked_field is_text (text_field 4)) (text 4) FitsText
    (λ bytes. refl)
    (λ bytes h. text_fits bytes h.1)
    (λ bytes h. (omega (arith, h.short), some_text bytes h.short h.utf8))

snapshot_field : (version : Version) → IsField state_bytes (FitsVersion version) (snapshot_at version)
unfolding snapshot_at
snapshot_field version =
    as_field
    (pair_field registered_field (pair_field (number_field 8) (pair_field (number_field 8)
    (pair_field services_field (pair_field modules_field (objects_field version))))))
    (λ (x : List ℕ × (ℕ × (ℕ × (List (ℕ × List ℕ) × (List Loaded × List (ℕ × Plain ℕ)))))). record {
      registered = x.0;
      seq = x.1.0;
      last = x.1.1.0;
      services = x.1.1.1.0;
      modules = x.1.1.1.1.0;
      objects = x.1.1.1.1.1;
    })
    (λ (s : Snapshot). (s.registered, (s.seq, (s.last, (s.services, (s.modules, s.objects))))))
    state_bytes (FitsVersion version)
    (λ s h. refl)
    (λ x h. refl)
    (λ x h. record {
      text = h.0;
      seq = h.1.0;
      last = h.1.1.0;
      services = h.1.1.1.0;
      modules = h.1.1.1.1.0;
      objects = h.1.1.1.1.1;
    })
    (λ s h. (h.text, (h.seq, (h.last, (h.services, (h.modules, h.objects))))))

-- ---- versions

-- the version of a number
of_number : ℕ × List ℕ → Option (Version × List ℕ)
of_number n = cond (eqb n.0 1) (Some (versions.One, n.1)) (cond (eqb n.0 2) (Some (versions.Two, n.1)) None)

of_number_is : (one two : Bool) (n : ℕ) (bytes : List ℕ) (x : Version × List ℕ) → eqb n 1 ≡ one → eqb n 2 ≡ two
    → cond one (Some (versions.One, bytes)) (cond two (Some (versions.Two, bytes)) None) ≡ Some x
    → (n ≡ version_number x.0) × (bytes ≡ x.1)
of_number_is true two n bytes x is_one is_two e =
    let same = some_is (versions.One, bytes) x e in
    subst (λ (y : Version × List ℕ). (n ≡ version_number y.0) × (bytes ≡ y.1)) same (eqb-true n 1 is_one, refl)
of_number_is false true n bytes x is_one is_two e =
    let same = some_is (versions.Two, bytes) x e in
    subst (λ (y : Version × List ℕ). (n ≡ version_number y.0) × (bytes ≡ y.1)) same (eqb-true n 2 is_two, refl)
of_number_is false false n bytes x is_one is_two e = absurd cc

version_takes : (bytes : List ℕ) (x : Version × List ℕ) → IsBytes bytes → version_at bytes ≡ Some x
    → Takes bytes (number 2 (version_number x.0)) x.1 × ⊤
unfolding version_at of_number
version_takes bytes x ok e =
    let a = bind_some (number_at 2 bytes) of_number x e in
    let t = (number_field 2).takes bytes a.0 ok a.1 in
    let is = of_number_is (eqb a.0.0 1) (eqb a.0.0 2) a.0.0 a.0.1 x refl refl a.2 in (
      subst (λ (rest : List ℕ). Takes bytes (number 2 (version_number x.0)) rest) is.1
          (subst (λ (n : ℕ). Takes bytes (number 2 n) a.0.1) is.0 t.0),
      tt,
    )

pub version_again : (version : Version) (rest : List ℕ) → ⊤
    → version_at (number 2 (version_number version) ++ rest) ≡ Some (version, rest)
unfolding version_at of_number
version_again versions.One rest h = ap (λ (o : Option (ℕ × List ℕ)). o >>= of_number) ((number_field 2).again 1 rest (omega arith))
version_again versions.Two rest h = ap (λ (o : Option (ℕ × List ℕ)). o >>= of_number) ((number_field 2).again 2 rest (omega arith))

version_field : IsField (λ version. number 2 (version_number version)) (λ version. ⊤) version_at
version_field = record { takes = version_takes; again = version_again }

-- ---- what the readers promise

image_field : IsField (λ (x : Version × Snapshot). number 2 (version_number x.0) ++ state_bytes x.1)
    (λ (x : Version × Snapshot). ⊤ × FitsVersion x.0 x.1) image_at
unfolding image_at
image_field = then_field version_field snapshot_field

pub is_spelled : (bytes : List ℕ) (x : Version × Snapshot) → IsBytes bytes → whole image_at bytes ≡ Some x
    → IsSpelling bytes x.0 x.1
is_spelled bytes x ok e = let t = whole_takes image_field bytes x ok e in (t.0.1, t.1)

pub is_read : (bytes : List ℕ) (version : Version) (s : Snapshot) → IsSpelling bytes version s
    → whole image_at bytes ≡ Some (version, s)
is_read bytes version s h = ap (whole image_at) h.1 ∙ whole_again image_field (version, s) (tt, h.0)

-- bytes are the spelling of one snapshot, in one version
pub spelled_once : (bytes : List ℕ) (v w : Version) (s t : Snapshot) → IsSpelling bytes v s → IsSpelling bytes w t
    → (v ≡ w) × (s ≡ t)
spelled_once bytes v w s t h g =
    let same : (v, s) ≡ (w, t) = some_is (v, s) (w, t) (sym (is_read bytes v s h) ∙ is_read bytes w t g) in
    (ap (λ (x : Version × Snapshot). x.0) same, ap (λ (x : Version × Snapshot). x.1) same)
