-- How long an image is at most.
use Rattle.std.proofs.Common.{◌≡◌, ℕ, ◌+◌, ◌*◌, ◌<◌, ◌≤◌, ◌^◌, List, [], ◌∷◌, ◌++◌, length, arith}
use Rattle.std.specs.List.{flat_map, AllByRecursion}
use Rattle.std.proofs.lemmas.List.{length-append}
use Rattle.byteorder.specs.Numbers.{length-bytes_low_first}
use Rattle.ash_host.specs.declared.word.Word.{Word}
use Rattle.ash_host.specs.declared.word.Word.TheVariants as words
use Rattle.ash_host.specs.Objects.{Elements, Bools, Ints, Uints, Int64s, Uint64s, Handles, Hosts, Plain, Script, Array, Host}
use Rattle.ash_image.specs.declared.version.Version.{Version}
use Rattle.ash_image.specs.declared.version.Version.TheVariants as versions
use Rattle.ash_image.specs.Fields.{number, text, items}
use Rattle.ash_image.specs.ImageWords.{word}
use Rattle.ash_image.specs.ObjectBytes.{element, host, plain, FitsPlain, FitsHost}
use Rattle.ash_image.specs.Snapshots.{Loaded, Snapshot}
use Rattle.ash_image.specs.Image.{loaded_module, service, object, version_number, state_bytes, image, FitsModule, FitsObject, FitsVersion}
use Rattle.ash_image.proofs.NameLaws.{name_short}

pub number_length : (size n : ℕ) → length (number size n) ≡ size
number_length size n = length-bytes_low_first 0 size n

pub text_length : (size : ℕ) (bytes : List ℕ) → length (text size bytes) ≡ size + length bytes
text_length size bytes =
    omega (arith, length-append (number size (length bytes)) bytes, number_length size (length bytes))

pub items_length : {A : Type 0} (size : ℕ) (spell : A → List ℕ) (xs : List A)
    → length (items size spell xs) ≡ size + length (flat_map spell xs)
items_length size spell xs =
    omega (arith, length-append (number size (length xs)) (flat_map spell xs), number_length size (length xs))

pub word_short : (w : Word) → length (word w) ≤ 9
word_short (words.Bool value) = omega arith
word_short (words.Int value) = omega arith
word_short (words.Uint value) = omega arith
word_short (words.Int64 value) = omega arith
word_short (words.Uint64 value) = omega arith
word_short words.Null = omega arith
word_short (words.Object value) = omega arith

pub words_short : (ws : List Word) → length (flat_map word ws) ≤ 9 * length ws
words_short [] = omega arith
words_short (w ∷ ws) = omega (arith, length-append (word w) (flat_map word ws), word_short w, words_short ws)

element_short : (of : Elements ℕ) → length (element of) ≤ 4
element_short Bools = omega arith
element_short Ints = omega arith
element_short Uints = omega arith
element_short Int64s = omega arith
element_short Uint64s = omega arith
element_short (Handles owner class) = omega arith
element_short (Hosts kind) = omega arith

host_short : (kind : ℕ) (state : List ℕ) → FitsHost kind state → length (host kind state) ≤ 1028
host_short kind state h =
    omega (arith, length-append (number 2 kind) (text 2 state), number_length 2 kind, text_length 2 state, h.short)

plain_short : (o : Plain ℕ) → FitsPlain o → length (plain o) ≤ 36871
plain_short (Script owner class fields) h =
    omega (
      arith,
      length-append (number 1 1) (number 1 owner ++ (number 2 class ++ items 1 word fields)),
      number_length 1 1,
      length-append (number 1 owner) (number 2 class ++ items 1 word fields),
      number_length 1 owner,
      length-append (number 2 class) (items 1 word fields),
      number_length 2 class,
      items_length 1 word fields,
      words_short fields,
      h.few,
    )
plain_short (Host kind state) h =
    omega (arith, length-append (number 1 2) (host kind state), number_length 1 2, host_short kind state h)
plain_short (Array of elements) h =
    omega (
      arith,
      length-append (number 1 3) (element of ++ items 2 word elements),
      number_length 1 3,
      length-append (element of) (items 2 word elements),
      element_short of,
      items_length 2 word elements,
      words_short elements,
      h.few,
    )

pub objects_short : (version : Version) (es : List (ℕ × Plain ℕ)) → AllByRecursion (FitsObject version) es
    → length (flat_map object es) ≤ 36879 * length es
objects_short version [] h = omega arith
objects_short version (e ∷ es) h =
    omega (
      arith,
      length-append (object e) (flat_map object es),
      length-append (number 8 e.0) (plain e.1),
      number_length 8 e.0,
      plain_short e.1 h.0.fits,
      objects_short version es h.1,
    )

pub services_short : (ss : List (ℕ × List ℕ)) → AllByRecursion (λ (s : ℕ × List ℕ). FitsHost s.0 s.1) ss
    → length (flat_map service ss) ≤ 1028 * length ss
services_short [] h = omega arith
services_short (s ∷ ss) h =
    omega (arith, length-append (service s) (flat_map service ss), host_short s.0 s.1 h.0, services_short ss h.1)

module_short : (m : Loaded) → FitsModule m → length (loaded_module m) ≤ 67911
module_short m h =
    omega (
      arith,
      length-append (text 1 m.name) (text 4 m.source ++ items 2 word m.globals),
      text_length 1 m.name,
      name_short m.name h.name_fits,
      length-append (text 4 m.source) (items 2 word m.globals),
      text_length 4 m.source,
      h.source_short,
      items_length 2 word m.globals,
      words_short m.globals,
      h.few,
    )

modules_short : (ms : List Loaded) → AllByRecursion FitsModule ms → length (flat_map loaded_module ms) ≤ 67911 * length ms
modules_short [] h = omega arith
modules_short (m ∷ ms) h =
    omega (arith, length-append (loaded_module m) (flat_map loaded_module ms), module_short m h.0, modules_short ms h.1)

-- what is after the numbers
lists : Snapshot → List ℕ
lists s = items 2 service s.services ++ (items 1 loaded_module s.modules ++ items 4 object s.objects)

lists_short : (version : Version) (s : Snapshot) → FitsVersion version s
    → length (lists s) ≤ 2 + 16448 + (1 + 1086576) + (4 + 151056384)
unfolding lists
lists_short version s h =
    omega (
      arith,
      length-append (items 2 service s.services) (items 1 loaded_module s.modules ++ items 4 object s.objects),
      length-append (items 1 loaded_module s.modules) (items 4 object s.objects),
      items_length 2 service s.services,
      services_short s.services h.services.each,
      h.services.few,
      items_length 1 loaded_module s.modules,
      modules_short s.modules h.modules.each,
      h.modules.few,
      items_length 4 object s.objects,
      objects_short version s.objects h.objects.each,
      h.objects.few,
    )

-- the length of an image by its parts
pub image_length : (s : Snapshot) → length (image versions.Two s)
    ≡ 29 + length s.registered + (length (flat_map service s.services)
    + length (flat_map loaded_module s.modules) + length (flat_map object s.objects))
unfolding lists
image_length s =
    omega (
      arith,
      length-append (number 2 (version_number versions.Two)) (state_bytes s),
      number_length 2 (version_number versions.Two),
      length-append (text 4 s.registered) (number 8 s.seq ++ (number 8 s.last ++ lists s)),
      text_length 4 s.registered,
      length-append (number 8 s.seq) (number 8 s.last ++ lists s),
      number_length 8 s.seq,
      length-append (number 8 s.last) (lists s),
      number_length 8 s.last,
      length-append (items 2 service s.services) (items 1 loaded_module s.modules ++ items 4 object s.objects),
      length-append (items 1 loaded_module s.modules) (items 4 object s.objects),
      items_length 2 service s.services,
      items_length 1 loaded_module s.modules,
      items_length 4 object s.objects,
    )

-- with a tag before it, too
pub image_short : (version : Version) (s : Snapshot) → FitsVersion version s → length (image version s) + 1 < 2 ^ 28
unfolding lists
image_short version s h =
    let after = lists_short version s h in
    omega (
      arith,
      length-append (number 2 (version_number version)) (state_bytes s),
      number_length 2 (version_number version),
      length-append (text 4 s.registered) (number 8 s.seq ++ (number 8 s.last ++ lists s)),
      text_length 4 s.registered,
      h.text.short,
      length-append (number 8 s.seq) (number 8 s.last ++ lists s),
      number_length 8 s.seq,
      length-append (number 8 s.last) (lists s),
      number_length 8 s.last,
      after,
    )
