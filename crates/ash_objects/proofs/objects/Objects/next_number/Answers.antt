use Rattle.std.proofs.Common.{refl, arith}
use Rattle.ash_objects.proofs.Newcomers.{length-living}
use Rattle.ash_objects.proofs.objects.Objects.next_number.Goals as goal

pub returns-then-len-ge-MAX_OBJECTS-clause-full : goal.returns-then-len-ge-MAX_OBJECTS-clause-full
returns-then-len-ge-MAX_OBJECTS-clause-full g c = (
  λ _. rw (← c.self.view_is) (omega (arith, length-living c.self.inside.store.objects c.self.inside.store.objects, c.len.ensures.len, c.if-len-ge-MAX_OBJECTS.true)),
  λ _. refl,
)

pub returns-then-len-ge-MAX_OBJECTS-clause-spent : goal.returns-then-len-ge-MAX_OBJECTS-clause-spent
returns-then-len-ge-MAX_OBJECTS-clause-spent g c = (
  λ e. absurd (cc),
  λ h. absurd (h.0 (rw (← c.self.view_is) (omega (arith, length-living c.self.inside.store.objects c.self.inside.store.objects, c.len.ensures.len, c.if-len-ge-MAX_OBJECTS.true)))),
)

pub returns-then-self-clause-full : goal.returns-then-self-clause-full
returns-then-self-clause-full g c = (
  λ e. absurd (cc),
  λ full. let here = rw (← c.self.view_is) at full in absurd (omega (arith, here, length-living c.self.inside.store.objects c.self.inside.store.objects, c.len.ensures.len, c.if-len-ge-MAX_OBJECTS.false)),
)

pub returns-then-self-clause-spent : goal.returns-then-self-clause-spent
returns-then-self-clause-spent g c = (
  λ _. (
    λ full. let here = rw (← c.self.view_is) at full in absurd (omega (arith, here, length-living c.self.inside.store.objects c.self.inside.store.objects, c.len.ensures.len, c.if-len-ge-MAX_OBJECTS.false)),
    rw (← c.self.view_is) (omega (arith, c.if-self.true)),
  ),
  λ _. refl,
)

pub returns-clause-room : goal.returns-clause-room
returns-clause-room g c =
    rw (← c.self.view_is)
    (omega (
      arith,
      length-living c.self.inside.store.objects c.self.inside.store.objects,
      c.len.ensures.len,
      c.if-len-ge-MAX_OBJECTS.false,
    ))

pub returns-clause-full : goal.returns-clause-full
returns-clause-full g c = (
  λ e. absurd (cc),
  λ full. let here = rw (← c.self.view_is) at full in absurd (omega (arith, here, length-living c.self.inside.store.objects c.self.inside.store.objects, c.len.ensures.len, c.if-len-ge-MAX_OBJECTS.false)),
)
