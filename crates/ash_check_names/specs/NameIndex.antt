-- Indexes of names in a list.
use Rattle.std.specs.Prelude.{◌≡◌, ℕ, List, Option, map}
use Rattle.std.specs.Borrow.{Bor}
use Rattle.std.specs.Str.{bytes_eq}
use Rattle.indexmap.specs.IndexMap.{IndexMap, get_by}
use Rattle.ash_registrations.specs.Names.{place_of}

-- the names of a list
abbrev pub texts : List (Bor (List ℕ)) → List (List ℕ)
texts names = map (λ (name : Bor (List ℕ)). name.now) names

-- the place that an index has for a name
abbrev pub place_in_index : {S : Type 0} → IndexMap (Bor (List ℕ)) ℕ S → List ℕ → Option ℕ
place_in_index places name = get_by (λ (key : Bor (List ℕ)). bytes_eq name key.now) places

-- An index of names has for each name the place of its first occurrence.
abbrev pub IsNameIndex : {S : Type 0} → IndexMap (Bor (List ℕ)) ℕ S → List (List ℕ) → Type 0
IsNameIndex places names = (name : List ℕ) → place_in_index places name ≡ place_of (bytes_eq name) names
