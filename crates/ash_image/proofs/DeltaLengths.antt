-- How long a delta is, and at most.
use Rattle.std.proofs.Common.{◌≡◌, ℕ, suc, ◌+◌, ◌*◌, ◌<◌, ◌≤◌, ◌^◌, List, [], ◌∷◌, ◌++◌, length, arith}
use Rattle.std.specs.List.{flat_map, AllByRecursion}
use Rattle.std.proofs.lemmas.List.{length-append}
use Rattle.ash_host.specs.declared.word.Word.{Word}
use Rattle.ash_host.specs.Limits.{max_objects}
use Rattle.ash_image.specs.declared.version.Version.{Version}
use Rattle.ash_image.specs.Fields.{number, text, items}
use Rattle.ash_image.specs.ImageWords.{word}
use Rattle.ash_image.specs.Snapshots.{Loaded}
use Rattle.ash_image.specs.Image.{service, object, FitsModule}
use Rattle.ash_image.specs.Delta.{ModuleChange, Unchanged, Added, Removed, Globals, Delta, indexed_word, indexed_from}
use Rattle.ash_image.specs.Delta.{all_globals, added, module_change, delta, FitsChange, FitsDelta}
use Rattle.ash_image.proofs.NameLaws.{name_short}
use Rattle.ash_image.proofs.ImageLengths.{number_length, text_length, items_length, word_short, words_short}
use Rattle.ash_image.proofs.ImageLengths.{objects_short, services_short}

indexed_lengths : (index : ℕ) (ws : List Word) → length (flat_map indexed_word (indexed_from index ws))
    ≡ 2 * length ws + length (flat_map word ws)
unfolding indexed_from
indexed_lengths index [] = omega arith
indexed_lengths index (w ∷ ws) =
    omega (
      arith,
      length-append (indexed_word (index, w)) (flat_map indexed_word (indexed_from (suc index) ws)),
      length-append (number 2 index) (word w),
      number_length 2 index,
      length-append (word w) (flat_map word ws),
      indexed_lengths (suc index) ws,
    )

-- the length of a module that is added by its parts
pub added_length : (m : Loaded) → length (added m)
    ≡ 7 + length m.name + length m.source + (2 * length m.globals + length (flat_map word m.globals))
added_length m =
    omega (
      arith,
      length-append (text 1 m.name) (text 4 m.source ++ all_globals m.globals),
      text_length 1 m.name,
      length-append (text 4 m.source) (all_globals m.globals),
      text_length 4 m.source,
      items_length 2 indexed_word (indexed_from 0 m.globals),
      indexed_lengths 0 m.globals,
    )

-- what a change has beside its globals, or the module that is added
abbrev pub IsLong : ModuleChange → Type 0
IsLong Unchanged = length (module_change Unchanged) ≡ 1
IsLong (Added m) = length (module_change (Added m)) ≡ 1 + length (added m)
IsLong (Removed name) = length (module_change (Removed name)) ≡ 2 + length name
IsLong (Globals name globals) = length (module_change (Globals name globals))
    ≡ 4 + length name + length (flat_map indexed_word globals)

pub change_lengths : (change : ModuleChange) → IsLong change
change_lengths Unchanged = omega (arith, number_length 1 0)
change_lengths (Added m) = omega (arith, length-append (number 1 1) (added m), number_length 1 1)
change_lengths (Removed name) =
    omega (arith, length-append (number 1 2) (text 1 name), number_length 1 2, text_length 1 name)
change_lengths (Globals name globals) =
    omega (
      arith,
      length-append (number 1 3) (text 1 name ++ items 2 indexed_word globals),
      number_length 1 3,
      length-append (text 1 name) (items 2 indexed_word globals),
      text_length 1 name,
      items_length 2 indexed_word globals,
    )

numbers_length : (ns : List ℕ) → length (flat_map (number 8) ns) ≡ 8 * length ns
numbers_length [] = omega arith
numbers_length (n ∷ ns) =
    omega (arith, length-append (number 8 n) (flat_map (number 8) ns), number_length 8 n, numbers_length ns)

-- the length of a delta by its parts
pub delta_length : (d : Delta) → length (delta d)
    ≡ 26 + (length (flat_map service d.services) + 8 * length d.gone + length (flat_map object d.put))
    + length (module_change d.change)
delta_length d =
    omega (
      arith,
      length-append (number 8 d.seq) (number 8 d.last ++ (items 2 service d.services ++ (module_change d.change
          ++ (items 4 (number 8) d.gone ++ items 4 object d.put)))),
      number_length 8 d.seq,
      length-append (number 8 d.last) (items 2 service d.services ++ (module_change d.change
          ++ (items 4 (number 8) d.gone ++ items 4 object d.put))),
      number_length 8 d.last,
      length-append (items 2 service d.services) (module_change d.change ++ (items 4 (number 8) d.gone ++ items 4 object d.put)),
      items_length 2 service d.services,
      length-append (module_change d.change) (items 4 (number 8) d.gone ++ items 4 object d.put),
      length-append (items 4 (number 8) d.gone) (items 4 object d.put),
      items_length 4 (number 8) d.gone,
      numbers_length d.gone,
      items_length 4 object d.put,
    )

indexed_short : (es : List (ℕ × Word)) → length (flat_map indexed_word es) ≤ 11 * length es
indexed_short [] = omega arith
indexed_short (e ∷ es) =
    omega (
      arith,
      length-append (indexed_word e) (flat_map indexed_word es),
      length-append (number 2 e.0) (word e.1),
      number_length 2 e.0,
      word_short e.1,
      indexed_short es,
    )

change_short : (change : ModuleChange) → FitsChange change → length (module_change change) ≤ 68424
change_short Unchanged h = omega (arith, change_lengths Unchanged)
change_short (Added m) h =
    omega (
      arith,
      change_lengths (Added m),
      added_length m,
      name_short m.name h.name_fits,
      h.source_short,
      h.few,
      words_short m.globals,
    )
change_short (Removed name) h = omega (arith, change_lengths (Removed name), name_short name h)
change_short (Globals name globals) h =
    omega (
      arith,
      change_lengths (Globals name globals),
      name_short name h.name_fits,
      indexed_short globals,
      h.few,
    )

-- with a tag before it, too
pub delta_short : (version : Version) (d : Delta) → FitsDelta version d → length d.gone ≤ max_objects
    → length (delta d) + 1 < 2 ^ 28
delta_short version d h few =
    omega (
      arith,
      delta_length d,
      services_short d.services h.services.each,
      h.services.few,
      few,
      objects_short version d.put h.put.each,
      h.put.few,
      change_short d.change h.change,
    )
