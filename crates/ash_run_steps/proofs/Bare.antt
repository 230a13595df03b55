-- Tables that differ in holds alone show the same.
use Rattle.std.proofs.Common.{◌≡◌, ℕ, Bool, true, false, cond, List, [], ◌∷◌, map, refl, sym, ap, ◌∙◌, subst, arith, nat_eq, inl, inr}
use Rattle.std.specs.Prelude.{Option, Some, None, Contains, is_some}
use Rattle.std.specs.Option.{option_map, option_map_or, option_and_then}
use Rattle.ash_host.specs.declared.host_object.HostObject.{Ghosts}
use Rattle.ash_host.specs.Records.{HostRecord}
use Rattle.ash_host.specs.declared.word.Word.{Word}
use Rattle.ash_host.specs.Objects.{object_at, LiveObjects, handle}
use Rattle.ash_slots.specs.Store.{change_at}
use Rattle.ash_slots.specs.SlotResponses.{box_of}
use Rattle.ash_objects.specs.Table.{Living, Table, with_object, held, unheld}
use Rattle.ash_objects.specs.Responses.{box_at}
use Rattle.ash_objects.proofs.Marks.{object_at-mapped}
use Rattle.ash_object_ranks.specs.ShownTables.{SlotNames, body_shown, objects_shown}
use Rattle.ash_run_steps.specs.RunStates.{bare, bare_living, is_alive_in}
use Rattle.ash_object_ranks.proofs.ShownTables.{lives_shown}
use Rattle.ash_run_steps.specs.Following.{KeepsMarks, IsMarked, Follows}
use Rattle.ash_run_steps.proofs.Followed.{keeps_by}

module _ {B : Type 0} where
  abbrev pub bare_objects : List (ℕ × Living B) → List (ℕ × Living B)
  bare_objects l = map (λ e. (e.0, bare_living e.1)) l

  pub bare_changed : (n : ℕ) (f : Living B → Living B) → ((x : Living B) → bare_living (f x) ≡ bare_living x)
      → (l : List (ℕ × Living B)) → bare_objects (change_at n f l) ≡ bare_objects l
  bare_changed n f same [] = refl
  bare_changed n f same (e ∷ l) =
      go (nat_eq n e.0) ∙ ap (λ (t : List (ℕ × Living B)). (e.0, bare_living e.1) ∷ t) (bare_changed n f same l)
    where
      rest : List (ℕ × Living B)
      rest = bare_objects (change_at n f l)

      go : (b : Bool) → (e.0, bare_living (cond b (f e.1) e.1)) ∷ rest ≡ (e.0, bare_living e.1) ∷ rest
      go true = ap (λ (x : Living B). (e.0, x) ∷ rest) (same e.1)
      go false = refl

  pub bare_held : (n : ℕ) (table : Table B) → bare (with_object n held table) ≡ bare table
  bare_held n table = rw (bare_changed n held (λ _. refl) table.objects) refl

  pub bare_unheld : (n : ℕ) (table : Table B) → bare (with_object n unheld table) ≡ bare table
  bare_unheld n table = rw (bare_changed n unheld (λ _. refl) table.objects) refl

module _ {B : Type 0} (G : Ghosts B) (names : SlotNames) where
  shown_bare : (l : List (ℕ × Living B)) → objects_shown G names (bare_objects l) ≡ objects_shown G names l
  shown_bare [] = refl
  shown_bare (e ∷ l) = ap (λ (t : LiveObjects (List ℕ)). (e.0, body_shown G names (e.1).body) ∷ t) (shown_bare l)

  pub same_shown : (old new : Table B) → bare new ≡ bare old → objects_shown G names new.objects ≡ objects_shown G names old.objects
  same_shown old new same =
      sym (shown_bare new.objects) ∙ ap (λ (t : Table B). objects_shown G names t.objects) same ∙ shown_bare old.objects

module _ {B : Type 0} where
  box_in : (o : Option (Living B)) → option_and_then (λ (object : Living B). box_of object.body) (option_map bare_living o) ≡ option_and_then (λ (object : Living B). box_of object.body) o
  box_in None = refl
  box_in (Some object) = refl

  box_bare : (n : ℕ) (table : Table B) → box_at n (bare table) ≡ box_at n table
  box_bare n table = ap (option_and_then (λ (object : Living B). box_of object.body)) (object_at-mapped bare_living n table.objects) ∙ box_in (object_at n table.objects)

  same_box : (old new : Table B) → bare new ≡ bare old → (n : ℕ) → box_at n new ≡ box_at n old
  same_box old new same n = sym (box_bare n new) ∙ ap (box_at n) same ∙ box_bare n old

module _ {B : Type 0} where
  lives_in : (o : Option (Living B)) → is_some (option_map bare_living o) ≡ is_some o
  lives_in None = refl
  lives_in (Some object) = refl

  lives_bare : (n : ℕ) (table : Table B) → is_some (object_at n (bare table).objects) ≡ is_some (object_at n table.objects)
  lives_bare n table = ap is_some (object_at-mapped bare_living n table.objects) ∙ lives_in (object_at n table.objects)

  pub same_lives : (old new : Table B) → bare new ≡ bare old → (n : ℕ) → is_some (object_at n new.objects) ≡ is_some (object_at n old.objects)
  same_lives old new same n = sym (lives_bare n new) ∙ ap (λ (t : Table B). is_some (object_at n t.objects)) same ∙ lives_bare n old

  pub same_alive : (w : Word) (old new : Table B) → bare new ≡ bare old → is_alive_in w new ≡ is_alive_in w old
  same_alive w old new same = go (handle w)
    where
      go : (o : Option ℕ) → option_map_or (λ (n : ℕ). is_some (object_at n new.objects)) o true ≡ option_map_or (λ (n : ℕ). is_some (object_at n old.objects)) o true
      go None = refl
      go (Some n) = same_lives old new same n

module _ {B : Type 0} where
  same_bare : (old new : Table B) → bare new ≡ bare old → (n : ℕ) (x : Living B) → object_at n new.objects ≡ Some x
      → option_map bare_living (object_at n old.objects) ≡ Some (bare_living x)
  same_bare old new same n x at =
      sym (object_at-mapped bare_living n old.objects)
      ∙ ap (λ (t : Table B). object_at n t.objects) (sym same)
      ∙ object_at-mapped bare_living n new.objects
      ∙ ap (option_map bare_living) at

  pub marks_bare : (old new : Table B) → bare new ≡ bare old → KeepsMarks old new
  marks_bare old new same = record {
    settled = ap (λ (t : Table B). t.settled) same;
    unmarked = λ n x at un. found n x (object_at n old.objects) refl (same_bare old new same n x at);
    once = λ n below lives. sym (same_lives old new same n) ∙ lives;
    gone = λ cleared n. (
      λ h. inl (subst (λ (l : List ℕ). Contains l n) (ap (λ (t : Table B). t.gone) same) h),
      λ h. elim h [
        | inl was ↦ subst (λ (l : List ℕ). Contains l n) (sym (ap (λ (t : Table B). t.gone) same)) was
        | inr went ↦ let lives = same_lives old new same n ∙ went.lived in let not = ap is_some went.none in absurd (cc)
      ],
    );
  }
    where
      found : (n : ℕ) (x : Living B) (o : Option (Living B)) → object_at n old.objects ≡ o → option_map bare_living o ≡ Some (bare_living x)
          → (before : Living B) × (object_at n old.objects ≡ Some before) × (bare_living before ≡ bare_living x)
      found n x None is same = absurd (cc)
      found n x (Some y) is same = (y, is, cc)

  -- who has a mark had it
  pub marked_bare : (old new : Table B) → bare new ≡ bare old → (n : ℕ) → IsMarked new n → IsMarked old n
  marked_bare old new same n is = go (object_at n old.objects) refl (same_bare old new same n is.object is.there)
    where
      go : (o : Option (Living B)) → object_at n old.objects ≡ o → option_map bare_living o ≡ Some (bare_living is.object) → IsMarked old n
      go None at same = absurd (cc)
      go (Some y) at same =
          let one : bare_living y ≡ bare_living is.object = cc in
          record { object = y; there = at; marked = ap (λ (l : Living B). l.touched) one ∙ is.marked }

  pub follows_bare : {records : List HostRecord} (G : Ghosts B) (old new : Table B) → bare new ≡ bare old → Follows G [] records old new
  follows_bare G old new same =
      let last = ap (λ (t : Table B). t.last) same in
      record {
        boxes = keeps_by G old new (omega (arith, last)) (ap (λ (t : Table B). t.pool) same) (ap (λ (t : Table B). t.services) same)
            (λ n box below at. (omega (arith, below, last), sym (same_box old new same n) ∙ at));
        marks = marks_bare old new same;
        no_more = λ n is has. inr (inl (marked_bare old new same n is));
      }

module _ {B : Type 0} (G : Ghosts B) (names : SlotNames) where
  pub alive_shown : (w : Word) (table : Table B) → option_map_or (λ (n : ℕ). is_some (object_at n (objects_shown G names table.objects))) (handle w) true ≡ is_alive_in w table
  alive_shown w table = go (handle w)
    where
      go : (o : Option ℕ) → option_map_or (λ (n : ℕ). is_some (object_at n (objects_shown G names table.objects))) o true ≡ option_map_or (λ (n : ℕ). is_some (object_at n table.objects)) o true
      go None = refl
      go (Some n) = lives_shown G names n table.objects
