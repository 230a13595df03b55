-- What has a spelling in version 1 has one in version 2.
use Rattle.std.proofs.Common.{◌≡◌, ℕ, true, List, [], ◌∷◌, refl}
use Rattle.std.specs.List.{AllByRecursion}
use Rattle.ash_host.specs.Objects.{Plain, Script, Array, Host}
use Rattle.ash_image.specs.declared.version.Version.{Version}
use Rattle.ash_image.specs.declared.version.Version.TheVariants as versions
use Rattle.ash_image.specs.Snapshots.{Snapshot}
use Rattle.ash_image.specs.Image.{has_version, FitsObject, FitsVersion}

in_version_two : (object : Plain ℕ) → has_version versions.Two object ≡ true
in_version_two (Script owner class fields) = refl
in_version_two (Array of elements) = refl
in_version_two (Host kind state) = refl

each_in_two : (es : List (ℕ × Plain ℕ)) → AllByRecursion (FitsObject versions.One) es → AllByRecursion (FitsObject versions.Two) es
each_in_two [] h = tt
each_in_two (e ∷ es) h = (
  record { number_fits = h.0.number_fits; fits = h.0.fits; is_there = in_version_two e.1 },
  each_in_two es h.1,
)

pub one_fits_two : (s : Snapshot) → FitsVersion versions.One s → FitsVersion versions.Two s
one_fits_two s h = record {
  text = h.text;
  seq = h.seq;
  last = h.last;
  services = h.services;
  modules = h.modules;
  objects = record { few = h.objects.few; each = each_in_two s.objects h.objects.each; order = h.objects.order };
}

pub shaped_fits_two : (version : Version) (s : Snapshot) → FitsVersion version s → FitsVersion versions.Two s
shaped_fits_two versions.One s h = one_fits_two s h
shaped_fits_two versions.Two s h = h
