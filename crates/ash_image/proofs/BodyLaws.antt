-- The body of a record, by its first byte and those after it.
use Rattle.std.proofs.Common.{◌≡◌, ℕ, List, [], ◌∷◌, length, Option, Some, None, Result, Ok, Err, sym, ap, subst, ◌∙◌, arith}
use Rattle.std.specs.Prelude.{IfOk, IfSome}
use Rattle.ash_image.specs.declared.version.Version.{Version}
use Rattle.ash_image.specs.declared.stored.StoredImage.{StoredImage}
use Rattle.ash_image.specs.Snapshots.{Snapshot}
use Rattle.ash_image.specs.SnapshotViews.{snapshot_of}
use Rattle.ash_image.specs.Rules.{IsImage, IsImageBody, image_tag}

first_is : (x y : ℕ) (xs ys : List ℕ) → x ∷ xs ≡ y ∷ ys → x ≡ y
first_is x y xs ys e = cc

rest_is : (x y : ℕ) (xs ys : List ℕ) → x ∷ xs ≡ y ∷ ys → xs ≡ ys
rest_is x y xs ys e = cc

-- a body has a byte
pub no_body : (bytes : List ℕ) (version : Version) (s : Snapshot) → length bytes ≡ 0 → IsImageBody bytes version s → ⊥
no_body bytes version s none h =
    let long : length bytes ≡ length (image_tag ∷ h.0) = ap (λ (b : List ℕ). length b) h.1 in
    omega (arith, none, long)

-- its first byte is the tag of an image, and the rest is the image
pub body_tag : (bytes image : List ℕ) (tag : ℕ) (version : Version) (s : Snapshot) → bytes ≡ tag ∷ image
    → IsImageBody bytes version s → tag ≡ image_tag
body_tag bytes image tag version s is h = first_is tag image_tag image h.0 (sym is ∙ h.1)

pub body_image : (bytes image : List ℕ) (tag : ℕ) (version : Version) (s : Snapshot) → bytes ≡ tag ∷ image
    → IsImageBody bytes version s → IsImage image version s
body_image bytes image tag version s is h =
    subst (λ (i : List ℕ). IsImage i version s) (sym (rest_is tag image_tag image h.0 (sym is ∙ h.1))) h.2

-- what is read after the tag is that of the body
pub found_body : {E : Type 0} (bytes image : List ℕ) (r : Result (Option StoredImage) E) → bytes ≡ image_tag ∷ image
    → IfOk r (λ found. IfSome found (λ i. IsImage image i.version (snapshot_of i.state)))
    → IfOk r (λ found. IfSome found (λ i. IsImageBody bytes i.version (snapshot_of i.state)))
found_body bytes image (Ok (Some i)) is h = (image, is, h)
found_body bytes image (Ok None) is h = tt
found_body bytes image (Err e) is h = tt
