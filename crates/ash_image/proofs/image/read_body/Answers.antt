use Rattle.std.proofs.Common.{◌≡◌, ℕ, List, ◌∷◌, ap, ◌∙◌, arith}
use Rattle.ash_image.specs.Rules.{image_tag}
use Rattle.ash_image.proofs.BodyLaws.{no_body, body_tag, body_image, found_body}
use Rattle.ash_image.proofs.image.read_body.Goals as goal

pub returns-in_default-clause-only : goal.returns-in_default-clause-only
returns-in_default-clause-only c = λ version s h. absurd (no_body c.args.bytes.now version s c.in_default.ensures.cases h)

pub returns-then-tag-ne-IMAGE_TAG-clause-only : goal.returns-then-tag-ne-IMAGE_TAG-clause-only
returns-then-tag-ne-IMAGE_TAG-clause-only c = λ version s h.
    absurd (omega (
      arith,
      c.if-tag-ne-IMAGE_TAG.true,
      body_tag c.args.bytes.now c.in-Some.image.now c.in-Some.tag.now version s c.in-Some.ensures.cases.0 h,
    ))

pub returns-clause-found : goal.returns-clause-found
returns-clause-found c =
    let tag : c.in-Some.tag.now ≡ image_tag = omega (arith, c.if-tag-ne-IMAGE_TAG.false) in
    found_body c.args.bytes.now c.in-Some.image.now c.read_image.result
    (c.in-Some.ensures.cases.0 ∙ ap (λ (t : ℕ). t ∷ c.in-Some.image.now) tag) c.read_image.ensures.found

pub returns-clause-only : goal.returns-clause-only
returns-clause-only c = λ version s h.
    c.read_image.ensures.only version s
    (body_image c.args.bytes.now c.in-Some.image.now c.in-Some.tag.now version s c.in-Some.ensures.cases.0 h)

pub returns-clause-without_memory : goal.returns-clause-without_memory
returns-clause-without_memory c = λ none.
    let tag : c.in-Some.tag.now ≡ image_tag = omega (arith, c.if-tag-ne-IMAGE_TAG.false) in
    absurd (none c.in-Some.image.now (c.in-Some.ensures.cases.0 ∙ ap (λ (t : ℕ). t ∷ c.in-Some.image.now) tag))
