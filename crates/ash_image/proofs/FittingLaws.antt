-- A state fits a version exactly if it passes the tests and its numbers are in range.
use Rattle.std.proofs.Common.{◌≡◌, ℕ, ◌<◌, ◌^◌, ◌&&◌, Bool, true, leb, List, [], ◌∷◌, length, refl, sym, ap, ◌∙◌}
use Rattle.std.specs.Prelude.{◌↔◌}
use Rattle.std.specs.Bool.{IsTrue}
use Rattle.std.specs.List.{list_all, AllByRecursion}
use Rattle.std.specs.Str.{IsUtf8}
use Rattle.std.proofs.lemmas.Bool.{leb-true, le-leb}
use Rattle.ash_host.specs.Limits.{max_objects, max_elements, max_state_bytes}
use Rattle.ash_host.specs.Objects.{Plain, Script, Array, Host, numbers}
use Rattle.ash_image.specs.declared.version.Version.{Version}
use Rattle.ash_image.specs.ImageWords.{FitsWord}
use Rattle.ash_image.specs.ObjectBytes.{max_class_members, FitsHost, FitsPlain}
use Rattle.ash_image.specs.Snapshots.{Loaded, Snapshot}
use Rattle.ash_image.specs.Image.{is_module_name, are_ascending, names_of, do_rise, has_version}
use Rattle.ash_image.specs.Image.{max_registered_text_bytes, max_source_bytes, max_globals, max_modules, max_services}
use Rattle.ash_image.specs.Image.{FitsModule, FitsObject, FitServices, FitModules, FitObjects, FitsVersion}
use Rattle.ash_image.specs.Fitting.{has_short_state, are_services, is_loadable, are_loadable, is_short, is_storable}
use Rattle.ash_image.specs.Fitting.{are_storable, is_within, IsRanged, IsRangedEntry, AreRanged}
use Rattle.ash_image.proofs.NameLaws.{both}

both_hold : (a b : Bool) → a ≡ true → b ≡ true → (a && b) ≡ true
both_hold a b p q = ap (λ (x : Bool). x && b) p ∙ q

each_fits : {A : Type 0} (test : A → Bool) (R F : A → Type 0) → ((x : A) → test x ≡ true → R x → F x) → (xs : List A)
    → list_all test xs ≡ true → AllByRecursion R xs → AllByRecursion F xs
each_fits test R F fits [] passes ranged = tt
each_fits test R F fits (x ∷ xs) passes ranged =
    let p = both (test x) (list_all test xs) passes in
    (fits x p.0 ranged.0, each_fits test R F fits xs p.1 ranged.1)

each_passes : {A : Type 0} (test : A → Bool) (F : A → Type 0) → ((x : A) → F x → test x ≡ true) → (xs : List A)
    → AllByRecursion F xs → list_all test xs ≡ true
each_passes test F passes [] all = refl
each_passes test F passes (x ∷ xs) all =
    both_hold (test x) (list_all test xs) (passes x all.0) (each_passes test F passes xs all.1)

-- ---- services

service_fits : (s : ℕ × List ℕ) → has_short_state s ≡ true → s.0 < 2 ^ 16 → FitsHost s.0 s.1
service_fits s passes kind = record { kind_fits = kind; short = leb-true (length s.1) max_state_bytes passes }

service_passes : (s : ℕ × List ℕ) → FitsHost s.0 s.1 → has_short_state s ≡ true
service_passes s fits = le-leb (length s.1) max_state_bytes fits.short

services_fit : (services : List (ℕ × List ℕ)) → are_services services ≡ true
    → AllByRecursion (λ (s : ℕ × List ℕ). s.0 < 2 ^ 16) services → FitServices services
services_fit services passes ranged =
    let p = both (leb (length services) max_services) (list_all has_short_state services) passes in
    record {
      few = leb-true (length services) max_services p.0;
      each = each_fits has_short_state (λ (s : ℕ × List ℕ). s.0 < 2 ^ 16) (λ (s : ℕ × List ℕ). FitsHost s.0 s.1)
          service_fits services p.1 ranged;
    }

services_pass : (services : List (ℕ × List ℕ)) → FitServices services → are_services services ≡ true
services_pass services fit =
    both_hold (leb (length services) max_services) (list_all has_short_state services)
    (le-leb (length services) max_services fit.few)
    (each_passes has_short_state (λ (s : ℕ × List ℕ). FitsHost s.0 s.1) service_passes services fit.each)

-- ---- modules

module_fits : (m : Loaded) → is_loadable m ≡ true → AllByRecursion FitsWord m.globals → FitsModule m
module_fits m passes ranged =
    let short = leb (length m.source) max_source_bytes in
    let few = leb (length m.globals) max_globals in
    let p = both (is_module_name m.name) (short && few) passes in
    let q = both short few p.1 in
    record {
      name_fits = p.0;
      source_short = leb-true (length m.source) max_source_bytes q.0;
      few = leb-true (length m.globals) max_globals q.1;
      words = ranged;
    }

module_passes : (m : Loaded) → FitsModule m → is_loadable m ≡ true
module_passes m fits =
    let short = leb (length m.source) max_source_bytes in
    let few = leb (length m.globals) max_globals in
    both_hold (is_module_name m.name) (short && few) fits.name_fits
    (both_hold short few (le-leb (length m.source) max_source_bytes fits.source_short)
    (le-leb (length m.globals) max_globals fits.few))

modules_fit : (ms : List Loaded) → are_loadable ms ≡ true
    → AllByRecursion (λ (m : Loaded). AllByRecursion FitsWord m.globals) ms → FitModules ms
modules_fit ms passes ranged =
    let each = list_all is_loadable ms in
    let order = are_ascending (names_of ms) in
    let p = both (leb (length ms) max_modules) (each && order) passes in
    let q = both each order p.1 in
    record {
      few = leb-true (length ms) max_modules p.0;
      each = each_fits is_loadable (λ (m : Loaded). AllByRecursion FitsWord m.globals) FitsModule module_fits ms q.0
          ranged;
      order = q.1;
    }

modules_pass : (ms : List Loaded) → FitModules ms → are_loadable ms ≡ true
modules_pass ms fit =
    let each = list_all is_loadable ms in
    let order = are_ascending (names_of ms) in
    both_hold (leb (length ms) max_modules) (each && order) (le-leb (length ms) max_modules fit.few)
    (both_hold each order (each_passes is_loadable FitsModule module_passes ms fit.each) fit.order)

-- ---- objects

plain_fits : (o : Plain ℕ) → is_short o ≡ true → IsRanged o → FitsPlain o
plain_fits (Script owner place fields) passes ranged = record {
  owner_fits = ranged.0;
  class_fits = ranged.1;
  few = leb-true (length fields) max_class_members passes;
  words = ranged.2;
}
plain_fits (Host kind state) passes ranged = record {
  kind_fits = ranged;
  short = leb-true (length state) max_state_bytes passes;
}
plain_fits (Array of elements) passes ranged = record {
  element_fits = ranged.0;
  few = leb-true (length elements) max_elements passes;
  words = ranged.1;
}

plain_passes : (o : Plain ℕ) → FitsPlain o → is_short o ≡ true
plain_passes (Script owner place fields) fits = le-leb (length fields) max_class_members fits.few
plain_passes (Host kind state) fits = le-leb (length state) max_state_bytes fits.short
plain_passes (Array of elements) fits = le-leb (length elements) max_elements fits.few

module _ (version : Version) where
  object_fits : (e : ℕ × Plain ℕ) → is_storable version e ≡ true → IsRangedEntry e → FitsObject version e
  object_fits e passes ranged =
      let p = both (has_version version e.1) (is_short e.1) passes in
      record { number_fits = ranged.number; fits = plain_fits e.1 p.1 ranged.object; is_there = p.0 }

  object_passes : (e : ℕ × Plain ℕ) → FitsObject version e → is_storable version e ≡ true
  object_passes e fits =
      both_hold (has_version version e.1) (is_short e.1) fits.is_there (plain_passes e.1 fits.fits)

  objects_fit : (objects : List (ℕ × Plain ℕ)) → are_storable version objects ≡ true
      → AllByRecursion IsRangedEntry objects → FitObjects version objects
  objects_fit objects passes ranged =
      let each = list_all (is_storable version) objects in
      let order = do_rise (numbers objects) in
      let p = both (leb (length objects) max_objects) (each && order) passes in
      let q = both each order p.1 in
      record {
        few = leb-true (length objects) max_objects p.0;
        each = each_fits (is_storable version) IsRangedEntry (FitsObject version) object_fits objects q.0 ranged;
        order = q.1;
      }

  objects_pass : (objects : List (ℕ × Plain ℕ)) → FitObjects version objects → are_storable version objects ≡ true
  objects_pass objects fit =
      let each = list_all (is_storable version) objects in
      let order = do_rise (numbers objects) in
      both_hold (leb (length objects) max_objects) (each && order) (le-leb (length objects) max_objects fit.few)
      (both_hold each order (each_passes (is_storable version) (FitsObject version) object_passes objects fit.each) fit.order)

  -- ---- states

  module _ (s : Snapshot) where
    abbrev short_text : Bool
    short_text = leb (length s.registered) max_registered_text_bytes

    abbrev stored_parts : Bool
    stored_parts = are_loadable s.modules && are_storable version s.objects

    version_fits : is_within version s ≡ true → AreRanged s → IsUtf8 s.registered → FitsVersion version s
    version_fits passes ranged utf8 =
        let p = both short_text (are_services s.services && stored_parts) passes in
        let q = both (are_services s.services) stored_parts p.1 in
        let r = both (are_loadable s.modules) (are_storable version s.objects) q.1 in
        record {
          text = record { utf8 = utf8; short = leb-true (length s.registered) max_registered_text_bytes p.0 };
          seq = ranged.seq;
          last = ranged.last;
          services = services_fit s.services q.0 ranged.services;
          modules = modules_fit s.modules r.0 ranged.modules;
          objects = objects_fit s.objects r.1 ranged.objects;
        }

    version_passes : FitsVersion version s → is_within version s ≡ true
    version_passes fits =
        both_hold short_text (are_services s.services && stored_parts)
        (le-leb (length s.registered) max_registered_text_bytes fits.text.short)
        (both_hold (are_services s.services) stored_parts (services_pass s.services fits.services)
        (both_hold (are_loadable s.modules) (are_storable version s.objects) (modules_pass s.modules fits.modules)
        (objects_pass s.objects fits.objects)))

    -- the tests say whether it fits
    pub fits_exactly : (passed : Bool) → passed ≡ is_within version s → AreRanged s → IsUtf8 s.registered
        → IsTrue passed ↔ FitsVersion version s
    fits_exactly passed is ranged utf8 =
        (λ holds. version_fits (sym is ∙ holds) ranged utf8, λ fits. is ∙ version_passes fits)
