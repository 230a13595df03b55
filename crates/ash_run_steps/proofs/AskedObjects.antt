-- Objects that words are handles to are the meaning's.
use Rattle.std.proofs.Common.{◌≡◌, ℕ, refl, sym, ap}
use Rattle.std.specs.Prelude.{Some, None}
use Rattle.ash_host.specs.declared.host_object.HostObject.{Ghosts}
use Rattle.ash_host.specs.declared.word.Word.{Word}
use Rattle.ash_host.specs.declared.word.Word.TheVariants as words
use Rattle.ash_host.specs.Objects.{handle}
use Rattle.ash_meaning.specs.declared.exception.Exception.TheVariants.{NullPointerAccess}
use Rattle.ash_meaning.specs.Activity.{Activity}
use Rattle.ash_meaning.specs.ObjectSteps.{object_of}
use Rattle.ash_meaning.specs.Runs.{Done, Ended, Raising}
use Rattle.ash_run_steps.specs.ArrayGuards.{element_at}
use Rattle.ash_run_steps.specs.Becoming.{Becomes}
use Rattle.ash_run_steps.specs.Guarded.{give, stop, plain}
use Rattle.ash_run_steps.specs.RunStates.{State, Names, shown}
use Rattle.ash_run_steps.proofs.Composed.{becomes_by}

no_object : (word : Word) (activity : Activity) → handle word ≡ None → object_of word activity ≡ Ended (Raising NullPointerAccess) activity
no_object (words.Object n) activity none = absurd (cc)
no_object (words.Bool b) activity none = refl
no_object (words.Int n) activity none = refl
no_object (words.Uint n) activity none = refl
no_object (words.Int64 n) activity none = refl
no_object (words.Uint64 n) activity none = refl
no_object words.Null activity none = refl

the_object : (word : Word) (n : ℕ) (activity : Activity) → handle word ≡ Some n → object_of word activity ≡ Done n activity
the_object (words.Object m) n activity is = let same : m ≡ n = cc in ap (λ (k : ℕ). Done k activity) same
the_object (words.Bool b) n activity is = absurd (cc)
the_object (words.Int m) n activity is = absurd (cc)
the_object (words.Uint m) n activity is = absurd (cc)
the_object (words.Int64 m) n activity is = absurd (cc)
the_object (words.Uint64 m) n activity is = absurd (cc)
the_object words.Null n activity is = absurd (cc)

module _ {B : Type 0} (G : Ghosts B) (names : Names) where
  pub object_found : (word : Word) (n : ℕ) (s : State B) → handle word ≡ Some n → Becomes G names (plain (object_of word)) s (give n) s
  object_found word n s is =
      becomes_by G names (plain (object_of word)) s (give n) s refl refl
      (λ rest. sym (ap Some (the_object word n (shown G names rest s) is)))

  pub object_lacks : (word : Word) (s : State B) → handle word ≡ None → Becomes G names (plain (object_of word)) s (stop (Raising NullPointerAccess)) s
  object_lacks word s none =
      becomes_by G names (plain (object_of word)) s (stop (Raising NullPointerAccess)) s refl refl
      (λ rest. sym (ap Some (no_object word (shown G names rest s) none)))

  pub element_lacks : (array index : Word) (s : State B) → handle array ≡ None → Becomes G names (element_at array index) s (stop (Raising NullPointerAccess)) s
  element_lacks array index s none =
      becomes_by G names (element_at array index) s (stop (Raising NullPointerAccess)) s refl refl
      (λ rest. rw (no_object array (shown G names rest s) none) refl)
