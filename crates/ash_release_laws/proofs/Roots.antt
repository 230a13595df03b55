-- What frames and worlds have as handles, and objects that are changed, made and taken away.
use Rattle.std.proofs.Common.{◌≡◌, ◌⊎◌, ◌+◌, ℕ, zero, suc, Bool, true, false, cond, List, [], ◌∷◌, ◌++◌, inl, inr, refl, sym, ap, ◌∙◌, subst, nat_eq, take, drop, flat_map, slice_set, slice_index_or, arith}
use Rattle.std.specs.Prelude.{Option, Some, None, Contains, IsSome, option_map}
use Rattle.std.specs.Option.{option_map_or}
use Rattle.std.proofs.lemmas.Bool.{eqb-true}
use Rattle.std.proofs.lemmas.List.Elements.{Contains-append_left, Contains-append_right, Contains-append_cases}
use Rattle.ash_host.specs.declared.word.Word.{Word}
use Rattle.ash_host.specs.declared.word.Word.TheVariants.{Null}
use Rattle.ash_host.specs.Objects.{Plain, Script, Array, Host, LiveObjects, object_at, with_at, handle, handles, fields_of, Refers, Lives, AreNumbered}
use Rattle.ash_host.proofs.Order.{object_at-with_at}
use Rattle.ash_meaning.specs.Activity.{World, Frame}
use Rattle.ash_meaning.specs.Releases.{roots_of_frame, roots}
use Rattle.ash_meaning.specs.ObjectSteps.{change_at, words_in, with_words}
use Rattle.ash_soundness.proofs.Values.{handle_first, handle_later, handle_cases, none_in}
use Rattle.ash_soundness.proofs.Changes.{object_at-changed, in_order-changed}

abbrev P : Type 0
P = Plain (List ℕ)

-- words that are put in place of others

-- where a word is put, the others stay, and it was this one
pub set_keeps : (ws : List Word) (i : ℕ) (w : Word) (n : ℕ) → Contains (handles ws) n → Contains (handles (slice_set ws i w)) n ⊎ Contains (handles (slice_index_or ws i Null ∷ [])) n
set_keeps [] i w n c = absurd (none_in n c)
set_keeps (x ∷ ws) zero w n c =
    elim (handle_cases x ws n c) [
      | inl here ↦ inr (handle_first x [] n here)
      | inr later ↦ inl (handle_later w ws n later)
    ]
set_keeps (x ∷ ws) (suc i) w n c =
    elim (handle_cases x ws n c) [
      | inl here ↦ inl (handle_first x (slice_set ws i w) n here)
      | inr later ↦
          elim (set_keeps ws i w n later) [
            | inl there ↦ inl (handle_later x (slice_set ws i w) n there)
            | inr old ↦ inr old
          ]
    ]

pub handles_left : (ws more : List Word) (n : ℕ) → Contains (handles ws) n → Contains (handles (ws ++ more)) n
handles_left [] more n c = absurd (none_in n c)
handles_left (x ∷ ws) more n c =
    elim (handle_cases x ws n c) [
      | inl here ↦ handle_first x (ws ++ more) n here
      | inr later ↦ handle_later x (ws ++ more) n (handles_left ws more n later)
    ]

-- what is among words is among the first of them or among those after
pub take_or_drop : (k : ℕ) (ws : List Word) (n : ℕ) → Contains (handles ws) n → Contains (handles (take k ws)) n ⊎ Contains (handles (drop k ws)) n
take_or_drop zero ws n c = inr c
take_or_drop (suc k) [] n c = absurd (none_in n c)
take_or_drop (suc k) (x ∷ ws) n c =
    elim (handle_cases x ws n c) [
      | inl here ↦ inl (handle_first x (take k ws) n here)
      | inr later ↦
          elim (take_or_drop k ws n later) [
            | inl there ↦ inl (handle_later x (take k ws) n there)
            | inr rest ↦ inr rest
          ]
    ]

-- roots

pub frame_cases : (this : Word) (locals : List Word) (held : List ℕ) (n : ℕ) → Contains (handles (this ∷ locals) ++ held) n → (handle this ≡ Some n) ⊎ (Contains (handles locals) n ⊎ Contains held n)
frame_cases this locals held n c =
    elim (Contains-append_cases (handles (this ∷ locals)) held n c) [
      | inl words ↦ elim (handle_cases this locals n words) [ inl here ↦ inl here | inr local ↦ inr (inl local) ]
      | inr h ↦ inr (inr h)
    ]

pub this_root : (f : Frame) (n : ℕ) → handle f.this ≡ Some n → Contains (roots_of_frame f) n
this_root f n e = Contains-append_left (handles (f.this ∷ f.locals)) f.held n (handle_first f.this f.locals n e)

pub local_root : (f : Frame) (n : ℕ) → Contains (handles f.locals) n → Contains (roots_of_frame f) n
local_root f n c = Contains-append_left (handles (f.this ∷ f.locals)) f.held n (handle_later f.this f.locals n c)

pub held_root : (f : Frame) (n : ℕ) → Contains f.held n → Contains (roots_of_frame f) n
held_root f n c = Contains-append_right (handles (f.this ∷ f.locals)) f.held n c

-- the roots of a frame and of its callers

pub first_root : (f : Frame) (fs : List Frame) (n : ℕ) → Contains (roots_of_frame f) n → Contains (flat_map roots_of_frame (f ∷ fs)) n
first_root f fs n c = Contains-append_left (roots_of_frame f) (flat_map roots_of_frame fs) n c

pub caller_root : (f : Frame) (fs : List Frame) (n : ℕ) → Contains (flat_map roots_of_frame fs) n → Contains (flat_map roots_of_frame (f ∷ fs)) n
caller_root f fs n c = Contains-append_right (roots_of_frame f) (flat_map roots_of_frame fs) n c

pub frames_cases : (f : Frame) (fs : List Frame) (n : ℕ) → Contains (flat_map roots_of_frame (f ∷ fs)) n → Contains (roots_of_frame f) n ⊎ Contains (flat_map roots_of_frame fs) n
frames_cases f fs n c = Contains-append_cases (roots_of_frame f) (flat_map roots_of_frame fs) n c

pub frames_more : (f g : Frame) (fs gs : List Frame) → ((n : ℕ) → Contains (roots_of_frame f) n → Contains (roots_of_frame g) n) → gs ≡ fs → (n : ℕ) → Contains (flat_map roots_of_frame (f ∷ fs)) n → Contains (flat_map roots_of_frame (g ∷ gs)) n
frames_more f g fs gs has same n c =
    elim (frames_cases f fs n c) [
      | inl mine ↦ first_root g gs n (has n mine)
      | inr theirs ↦ caller_root g gs n (subst (λ (hs : List Frame). Contains (flat_map roots_of_frame hs) n) (sym same) theirs)
    ]

-- the roots of a world

pub outside_root : (fs : List Frame) (w : World) (n : ℕ) → Contains w.outside n → Contains (roots fs w) n
outside_root fs w n c = Contains-append_left (w.outside ++ handles w.globals) (flat_map roots_of_frame fs) n (Contains-append_left w.outside (handles w.globals) n c)

pub global_root : (fs : List Frame) (w : World) (n : ℕ) → Contains (handles w.globals) n → Contains (roots fs w) n
global_root fs w n c = Contains-append_left (w.outside ++ handles w.globals) (flat_map roots_of_frame fs) n (Contains-append_right w.outside (handles w.globals) n c)

pub frame_root : (fs : List Frame) (w : World) (n : ℕ) → Contains (flat_map roots_of_frame fs) n → Contains (roots fs w) n
frame_root fs w n c = Contains-append_right (w.outside ++ handles w.globals) (flat_map roots_of_frame fs) n c

pub root_cases : (fs : List Frame) (w : World) (n : ℕ) → Contains (roots fs w) n → Contains w.outside n ⊎ (Contains (handles w.globals) n ⊎ Contains (flat_map roots_of_frame fs) n)
root_cases fs w n c =
    elim (Contains-append_cases (w.outside ++ handles w.globals) (flat_map roots_of_frame fs) n c) [
      | inl words ↦ elim (Contains-append_cases w.outside (handles w.globals) n words) [ inl one ↦ inl one | inr other ↦ inr (inl other) ]
      | inr frames ↦ inr (inr frames)
    ]

-- objects that are changed

some_of : {A : Type 0} (b : Bool) (how : A → A) (o : Option A) → IsSome (cond b (option_map how o) o) → IsSome o
some_of true how None h = h
some_of true how (Some x) h = refl
some_of false how o h = h

of_some : {A : Type 0} (b : Bool) (how : A → A) (o : Option A) → IsSome o → IsSome (cond b (option_map how o) o)
of_some true how None h = h
of_some true how (Some x) h = refl
of_some false how o h = h

module _ (number : ℕ) (how : P → P) (all : LiveObjects (List ℕ)) where
  pub changed_lived : (n : ℕ) → Lives (change_at number how all) n → Lives all n
  changed_lived n h = some_of (nat_eq n number) how (object_at n all) (subst IsSome (object_at-changed number how n all) h)

  pub changed_lives : (n : ℕ) → Lives all n → Lives (change_at number how all) n
  changed_lives n h = subst IsSome (sym (object_at-changed number how n all)) (of_some (nat_eq n number) how (object_at n all) h)

  pub changed_numbered : (last : ℕ) → AreNumbered last all → AreNumbered last (change_at number how all)
  changed_numbered last h = record { in_order = in_order-changed number how all h.in_order; given = λ n lives. h.given n (changed_lived n lives) }

  -- what an object that is changed refers to, where its words are kept
  refers_from : (Q : Type 0) (other n : ℕ) (b : Bool) (o : Option P) → nat_eq n number ≡ b → object_at n all ≡ o → ((x : P) → object_at number all ≡ Some x → Contains (handles (fields_of x)) other → Contains (handles (fields_of (how x))) other ⊎ Q) → Contains (option_map_or (λ object. handles (fields_of object)) o []) other → Contains (option_map_or (λ object. handles (fields_of object)) (cond b (option_map how o) o) []) other ⊎ Q
  refers_from Q other n b None is at keeps c = absurd (none_in other c)
  refers_from Q other n true (Some x) is at keeps c = keeps x (ap (λ (k : ℕ). object_at k all) (sym (eqb-true n number is)) ∙ at) c
  refers_from Q other n false (Some x) is at keeps c = inl c

  pub changed_refers : (Q : Type 0) (one other : ℕ) → ((x : P) → object_at number all ≡ Some x → Contains (handles (fields_of x)) other → Contains (handles (fields_of (how x))) other ⊎ Q) → Refers all one other → Refers (change_at number how all) one other ⊎ Q
  changed_refers Q one other keeps r =
      elim (refers_from Q other one (nat_eq one number) (object_at one all) refl refl keeps r) [
        | inl same ↦ inl (subst (λ (o : Option P). Contains (option_map_or (λ object. handles (fields_of object)) o []) other) (sym (object_at-changed number how one all)) same)
        | inr q ↦ inr q
      ]

-- the words that are put into an object have what was there, or it is held
pub words_keep : (w : World) (number : ℕ) (ws : List Word) (Q : Type 0) (other : ℕ) → (Contains (handles (words_in number w)) other → Contains (handles ws) other ⊎ Q) → (x : P) → object_at number w.objects ≡ Some x → Contains (handles (fields_of x)) other → Contains (handles (fields_of (with_words ws x))) other ⊎ Q
words_keep w number ws Q other keeps (Script owner place fields) at c = keeps (subst (λ (o : Option P). Contains (handles (option_map_or fields_of o [])) other) (sym at) c)
words_keep w number ws Q other keeps (Array of elements) at c = keeps (subst (λ (o : Option P). Contains (handles (option_map_or fields_of o [])) other) (sym at) c)
words_keep w number ws Q other keeps (Host kind state) at c = inl c

-- objects that are made

module _ (last : ℕ) (object : P) (all : LiveObjects (List ℕ)) where
  made_from : (n : ℕ) (b : Bool) → nat_eq n (last + 1) ≡ b → IsSome (cond b (Some object) (object_at n all)) → (n ≡ last + 1) ⊎ Lives all n
  made_from n true is h = inl (eqb-true n (last + 1) is)
  made_from n false is h = inr h

  pub made_lived : (n : ℕ) → Lives (with_at (last + 1) object all) n → (n ≡ last + 1) ⊎ Lives all n
  made_lived n h = made_from n (nat_eq n (last + 1)) refl (subst IsSome (object_at-with_at (last + 1) object n all) h)

  lives_from : (n : ℕ) (b : Bool) → Lives all n → IsSome (cond b (Some object) (object_at n all))
  lives_from n true h = refl
  lives_from n false h = h

  pub made_lives : (n : ℕ) → Lives all n → Lives (with_at (last + 1) object all) n
  made_lives n h = subst IsSome (sym (object_at-with_at (last + 1) object n all)) (lives_from n (nat_eq n (last + 1)) h)

  refers_lived : (one other : ℕ) (o : Option P) → Contains (option_map_or (λ object. handles (fields_of object)) o []) other → IsSome o
  refers_lived one other None c = absurd (none_in other c)
  refers_lived one other (Some x) c = refl

  made_refers_from : (numbered : AreNumbered last all) (one other : ℕ) (b : Bool) → nat_eq one (last + 1) ≡ b → Refers all one other → Contains (option_map_or (λ object. handles (fields_of object)) (cond b (Some object) (object_at one all)) []) other
  made_refers_from numbered one other true is c =
      let same : one ≡ last + 1 = eqb-true one (last + 1) is in
      let given = (numbered.given one (refers_lived one other (object_at one all) c)).1 in
      absurd (omega (arith, same, given))
  made_refers_from numbered one other false is c = c

  pub made_refers : AreNumbered last all → (one other : ℕ) → Refers all one other → Refers (with_at (last + 1) object all) one other
  made_refers numbered one other c =
      subst (λ (o : Option P). Contains (option_map_or (λ object. handles (fields_of object)) o []) other) (sym (object_at-with_at (last + 1) object one all))
      (made_refers_from numbered one other (nat_eq one (last + 1)) refl c)
