-- Runs that are put together: one after another, in either grouping, and with a value alone.
use Rattle.std.proofs.Common.{◌≡◌, refl}
use Rattle.ash_meaning.specs.Activity.{Activity}
use Rattle.ash_meaning.specs.Runs.{Progress, Done, Ended, NoStep, Run, give, onward, ◌>>=◌}

pub onward_assoc : {A B C : Type 0} (p : Progress A) (f : A → Run B) (g : B → Run C) → onward (onward p f) g ≡ onward p (λ v. f v >>= g)
onward_assoc (Done v a) f g = refl
onward_assoc (Ended i a) f g = refl
onward_assoc NoStep f g = refl

pub onward_give : {A : Type 0} (p : Progress A) → onward p give ≡ p
onward_give (Done v a) = refl
onward_give (Ended i a) = refl
onward_give NoStep = refl

-- what follows may be another run that comes to the same
pub onward_same : {A B : Type 0} (p : Progress A) (f g : A → Run B) → ((v : A) (a : Activity) → f v a ≡ g v a) → onward p f ≡ onward p g
onward_same (Done v a) f g same = same v a
onward_same (Ended i a) f g same = refl
onward_same NoStep f g same = refl

-- three runs after one, and four
pub three : {A B C D : Type 0} (p : Progress A) (f : A → Run B) (g : B → Run C) (h : C → Run D) → onward (onward (onward p f) g) h ≡ onward p (λ v. f v >>= g >>= h)
three (Done v a) f g h = refl
three (Ended i a) f g h = refl
three NoStep f g h = refl

pub four : {A B C D E : Type 0} (p : Progress A) (f : A → Run B) (g : B → Run C) (h : C → Run D) (k : D → Run E) → onward (onward (onward (onward p f) g) h) k ≡ onward p (λ v. f v >>= g >>= h >>= k)
four (Done v a) f g h k = refl
four (Ended i a) f g h k = refl
four NoStep f g h k = refl
