-- A table without its marks: what is seen of it is as before.
use Rattle.std.proofs.Common.{◌≡◌, ◌+◌, ℕ, List, [], ◌∷◌, map, refl, sym, ap, ◌∙◌}
use Rattle.std.specs.Prelude.{Option, Some, None}
use Rattle.std.specs.List.{cons_option, filter_map}
use Rattle.std.specs.Option.{option_map, option_map_or}
use Rattle.ash_host.specs.declared.host_object.HostObject.{Ghosts}
use Rattle.ash_host.specs.Objects.{object_at}
use Rattle.ash_objects.specs.Table.{Living, Table, holds_of}
use Rattle.ash_objects.specs.Marking.{settled_object, without_marks}
use Rattle.ash_objects.proofs.Marks.{object_at-mapped}
use Rattle.ash_object_ranks.specs.ShownTables.{SlotNames, body_shown, objects_shown}
use Rattle.ash_requests.specs.States.{LoadedModule}
use Rattle.ash_run_steps.specs.Answered.{Boxes, boxed_entry, boxes_of}
use Rattle.ash_run_steps.specs.RunStates.{HoldsRoots}
use Rattle.ash_table_states.specs.TableStates.{names_in, state_shown}

module _ {B : Type 0} where
  -- the objects without their marks
  abbrev settled_entry : ℕ × Living B → ℕ × Living B
  settled_entry e = (e.0, settled_object e.1)

  settled_holds : (o : Option (Living B)) → option_map_or (λ (x : Living B). x.holds) (option_map settled_object o) 0
      ≡ option_map_or (λ (x : Living B). x.holds) o 0
  settled_holds None = refl
  settled_holds (Some o) = refl

  pub same_holds : (n : ℕ) (table : Table B) → holds_of n (without_marks table) ≡ holds_of n table
  same_holds n table =
      ap (λ (o : Option (Living B)). option_map_or (λ (x : Living B). x.holds) o 0)
      (object_at-mapped settled_object n table.objects)
      ∙ settled_holds (object_at n table.objects)

  pub still_holds : (table : Table B) (roots : List ℕ) → HoldsRoots table roots → HoldsRoots (without_marks table) roots
  still_holds table roots held number = same_holds number table ∙ held number

  boxed : (objects : List (ℕ × Living B)) → filter_map boxed_entry (map settled_entry objects)
      ≡ filter_map boxed_entry objects
  boxed [] = refl
  boxed (e ∷ objects) = ap (cons_option (boxed_entry e)) (boxed objects)

  pub same_boxes : (table : Table B) → boxes_of (without_marks table) ≡ boxes_of table
  same_boxes table = (λ i. let b : Boxes B = record {
    objects = boxed table.objects i;
    pool = table.pool;
    services = table.services;
  } in b)

  module _ (G : Ghosts B) where
    shown_settled : (names : SlotNames) (objects : List (ℕ × Living B))
        → objects_shown G names (map settled_entry objects) ≡ objects_shown G names objects
    shown_settled names [] = refl
    shown_settled names (e ∷ objects) = ap (λ l. (e.0, body_shown G names (e.1).body) ∷ l) (shown_settled names objects)

    pub same_shown : (names : SlotNames) (table : Table B)
        → objects_shown G names (without_marks table).objects ≡ objects_shown G names table.objects
    same_shown names table = shown_settled names table.objects

    pub same_state : (ms : List LoadedModule) (slots : List ℕ) (seq : ℕ) (table : Table B)
        → state_shown G ms slots seq (without_marks table) ≡ state_shown G ms slots seq table
    same_state ms slots seq table = (λ i. record {
      modules = ms;
      objects = same_shown (names_in ms slots) table i;
      services = map G.state table.services;
      last = table.last;
      seq = seq;
    })
