-- How the code finds what can be reached, and what goes.
use Rattle.std.specs.Prelude.{ℕ, not, ◌&&◌, if◌then◌else◌, List, [], ◌∷◌, nat_eq, is_some, filter}
use Rattle.std.specs.Map.{keys_of}
use Rattle.indexmap.specs.IndexSet.{insert_key}
use Rattle.ash_host.specs.Objects.{LiveObjects, object_at, is_host}
use Rattle.ash_host.specs.Reach.{is_among}
use Rattle.ash_plain_data.specs.declared.object.Object as object
use Rattle.ash_plain_data.specs.ObjectViews.{object_seen}

-- one more number, where an object lives by it; one that was found already stays in its place
abbrev pub with_one : LiveObjects (List ℕ) → ℕ → List ℕ → List ℕ
with_one objects number found = if is_some (object_at number objects) then insert_key nat_eq found number else found

abbrev pub with_found : LiveObjects (List ℕ) → List ℕ → List ℕ → List ℕ
with_found objects [] found = found
with_found objects (number ∷ numbers) found = with_found objects numbers (with_one objects number found)

-- the host objects that are not found, in the order of the entries
abbrev pub gone : List ℕ → List (ℕ × object.Object) → List ℕ
gone found entries = keys_of (filter (λ e. is_host (object_seen e.1) && not (is_among found e.0)) entries)
