-- What has no mark is, as plain data, what it was.
use Rattle.std.proofs.Common.{◌≡◌, ℕ, false, sym, ap, ◌∙◌}
use Rattle.std.specs.Prelude.{Some}
use Rattle.std.specs.Option.{option_map}
use Rattle.ash_host.specs.declared.host_object.HostObject.{Ghosts}
use Rattle.ash_host.specs.Objects.{object_at}
use Rattle.ash_objects.specs.Table.{Living, Table}
use Rattle.ash_object_ranks.specs.ShownTables.{SlotNames, objects_shown}
use Rattle.ash_object_ranks.proofs.ShownTables.{living_shown, shown_at}
use Rattle.ash_run_steps.specs.Following.{KeepsMarks}

module _ {B : Type 0} (G : Ghosts B) (names : SlotNames) where
  pub unmarked_shown : (old new : Table B) → KeepsMarks old new → (n : ℕ) (x : Living B) → object_at n new.objects ≡ Some x → x.touched ≡ false
      → object_at n (objects_shown G names new.objects) ≡ object_at n (objects_shown G names old.objects)
  unmarked_shown old new marks n x at un =
      let was = marks.unmarked n x at un in
      shown_at G names n new.objects
      ∙ ap (option_map (living_shown G names)) at
      ∙ ap (λ (l : Living B). Some (living_shown G names l)) (sym was.2)
      ∙ sym (ap (option_map (living_shown G names)) was.1)
      ∙ sym (shown_at G names n old.objects)
