-- Reading a delta, from its first byte.
use Rattle.std.specs.Prelude.{ℕ, zero, suc, ◌==◌, ◌&&◌, nat_le, Bool, true, List, [], ◌∷◌, Option, Some, None, map}
use Rattle.ash_host.specs.declared.word.Word.{Word}
use Rattle.ash_host.specs.Objects.{LiveObjects, numbers}
use Rattle.ash_image.specs.declared.version.Version.{Version}
use Rattle.ash_image.specs.Fields.{as_at, checked_at, pair_at, number_at, items_at, tagged_at}
use Rattle.ash_image.specs.ImageWords.{word_at}
use Rattle.ash_image.specs.Snapshots.{Loaded}
use Rattle.ash_image.specs.Image.{do_rise, max_globals}
use Rattle.ash_image.specs.ImageReading.{name_at, source_at, services_at, objects_at}
use Rattle.ash_image.specs.Delta.{ModuleChange, Unchanged, Added, Removed, Globals, Delta, are_apart}

-- states of services, by ascending index
unfoldable pub service_states_at : List ℕ → Option (List (ℕ × List ℕ) × List ℕ)
service_states_at = checked_at (λ services. do_rise (numbers services)) services_at

-- a word with its index
unfoldable pub indexed_at : List ℕ → Option ((ℕ × Word) × List ℕ)
indexed_at = pair_at (number_at 2) word_at

-- a count that globals may have, and so many words with their indexes
unfoldable pub indexed_words_at : List ℕ → Option (List (ℕ × Word) × List ℕ)
indexed_words_at = items_at (checked_at (λ n. nat_le n max_globals) (number_at 2)) indexed_at

-- indexes are those from a first one on, one after the other
unfoldable pub counts_from : ℕ → List ℕ → Bool
counts_from index [] = true
counts_from index (i ∷ more) = (i == index) && counts_from (suc index) more

abbrev pub words_alone : List (ℕ × Word) → List Word
words_alone indexed = map (λ (e : ℕ × Word). e.1) indexed

-- what all globals hold
unfoldable pub all_globals_at : List ℕ → Option (List Word × List ℕ)
all_globals_at = as_at words_alone (checked_at (λ indexed. counts_from 0 (numbers indexed)) indexed_words_at)

-- what some globals hold, by ascending index
unfoldable pub some_globals_at : List ℕ → Option (List (ℕ × Word) × List ℕ)
some_globals_at = checked_at (λ indexed. do_rise (numbers indexed)) indexed_words_at

unfoldable pub added_at : List ℕ → Option (Loaded × List ℕ)
added_at = as_at (λ (x : List ℕ × (List ℕ × List Word)). record { name = x.0; source = x.1.0; globals = x.1.1 })
    (pair_at name_at (pair_at source_at all_globals_at))

-- what became of the modules, with this tag
unfoldable pub change_case : ℕ → List ℕ → Option (ModuleChange × List ℕ)
change_case zero = λ rest. Some (Unchanged, rest)
change_case (suc zero) = as_at (λ m. Added m) added_at
change_case (suc (suc zero)) = as_at (λ name. Removed name) name_at
change_case (suc (suc (suc zero))) = as_at (λ (x : List ℕ × List (ℕ × Word)). Globals x.0 x.1)
    (pair_at name_at some_globals_at)
change_case (suc (suc (suc (suc more)))) = λ rest. None

unfoldable pub change_at : List ℕ → Option (ModuleChange × List ℕ)
change_at = tagged_at change_case

-- a count, and that many numbers above 0, by ascending number
unfoldable pub gone_at : List ℕ → Option (List ℕ × List ℕ)
gone_at = checked_at (λ gone. do_rise (0 ∷ gone)) (items_at (number_at 4) (number_at 8))

-- the parts of a delta
unfoldable pub parts_at : Version → List ℕ → Option (Delta × List ℕ)
parts_at version = as_at (λ (x : ℕ × (ℕ × (List (ℕ × List ℕ) × (ModuleChange × (List ℕ × LiveObjects ℕ))))).
    record {
      seq = x.0;
      last = x.1.0;
      services = x.1.1.0;
      change = x.1.1.1.0;
      gone = x.1.1.1.1.0;
      put = x.1.1.1.1.1;
    })
    (pair_at (number_at 8) (pair_at (number_at 8) (pair_at service_states_at (pair_at change_at
    (pair_at gone_at (objects_at version))))))

-- a delta, in which no number is both gone and put
unfoldable pub delta_at : Version → List ℕ → Option (Delta × List ℕ)
delta_at version = checked_at (λ (d : Delta). are_apart d.gone (numbers d.put)) (parts_at version)
