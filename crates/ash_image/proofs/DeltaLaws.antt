-- The two laws of a delta: bytes are read as what they are the spelling of, and as nothing else.
use Rattle.std.proofs.Common.{◌≡◌, ℕ, zero, suc, ◌+◌, ◌^◌, ◌<◌, ◌≤◌, ◌&&◌, Bool, true, false, leb, eqb, List, [], ◌∷◌, ◌++◌}
use Rattle.std.proofs.Common.{length, map, Option, Some, None, refl, sym, ap, ◌∙◌, arith}
use Rattle.std.specs.Bool.{IsTrue, ⊤}
use Rattle.std.specs.List.{AllByRecursion}
use Rattle.std.proofs.lemmas.Bool.{leb-true, le-leb, eqb-true, eq-eqb}
use Rattle.ash_host.specs.declared.word.Word.{Word}
use Rattle.ash_host.specs.Objects.{LiveObjects, numbers}
use Rattle.ash_image.specs.declared.version.Version.{Version}
use Rattle.ash_image.specs.Fields.{number, text, items, whole, number_at}
use Rattle.ash_image.specs.ImageWords.{word, FitsWord}
use Rattle.ash_image.specs.Snapshots.{Loaded}
use Rattle.ash_image.specs.Image.{service, object, is_module_name, do_rise, max_globals, max_source_bytes}
use Rattle.ash_image.specs.Image.{FitsModule, FitObjects}
use Rattle.ash_image.specs.Delta.{ModuleChange, Unchanged, Added, Removed, Globals, Delta, indexed_word, indexed_from}
use Rattle.ash_image.specs.Delta.{all_globals, added, module_change, delta, FitServiceStates, FitsIndexed, FitGlobals}
use Rattle.ash_image.specs.Delta.{FitsChange, FitNumbers, are_apart, FitsDelta, IsDelta}
use Rattle.ash_image.specs.DeltaReading.{service_states_at, indexed_at, indexed_words_at, counts_from, words_alone}
use Rattle.ash_image.specs.DeltaReading.{all_globals_at, some_globals_at, added_at, change_case, change_at, gone_at}
use Rattle.ash_image.specs.DeltaReading.{parts_at, delta_at}
use Rattle.ash_image.proofs.Numbers.{IsBytes}
use Rattle.ash_image.proofs.NameLaws.{both, name_short}
use Rattle.ash_image.proofs.FieldLaws.{some_is, IsField, number_field, checked_field, pair_field, as_field, refit_field}
use Rattle.ash_image.proofs.FieldLaws.{items_field, whole_takes, whole_again, tagged_field, HasCase, IsCase}
use Rattle.ash_image.proofs.FieldLaws.{case_takes, bare_takes, as_again}
use Rattle.ash_image.proofs.WordLaws.{word_field}
use Rattle.ash_image.proofs.ImageLaws.{name_field, source_field, services_field, objects_field}

-- ---- services

service_states_field : IsField (items 2 service) FitServiceStates service_states_at
unfolding service_states_at
service_states_field =
    refit_field (checked_field (λ (services : List (ℕ × List ℕ)). do_rise (numbers services)) services_field)
    (items 2 service) FitServiceStates
    (λ services. refl)
    (λ services h. record { few = h.0.few; each = h.0.each; order = h.1 })
    (λ services h. (record { few = h.few; each = h.each }, h.order))

-- ---- words with their indexes

indexed_field : IsField indexed_word FitsIndexed indexed_at
unfolding indexed_at
indexed_field =
    refit_field (pair_field (number_field 2) word_field) indexed_word FitsIndexed
    (λ e. refl)
    (λ e h. record { index_fits = h.0; word_fits = h.1 })
    (λ e h. (h.index_fits, h.word_fits))

abbrev FitIndexed : List (ℕ × Word) → Type 0
FitIndexed indexed = (length indexed ≤ max_globals) × AllByRecursion FitsIndexed indexed

indexed_words_field : IsField (items 2 indexed_word) (λ indexed. (length indexed ≤ max_globals)
    × AllByRecursion FitsIndexed indexed) indexed_words_at
unfolding indexed_words_at
indexed_words_field =
    refit_field (items_field 2 (checked_field (λ n. leb n max_globals) (number_field 2)) indexed_field)
    (items 2 indexed_word) _
    (λ indexed. refl)
    (λ indexed h. (leb-true _ _ h.0.1, h.1))
    (λ indexed h. ((omega (arith, h.0), le-leb _ _ h.0), h.1))

-- words that are given indexes, without them
alone : (index : ℕ) (ws : List Word) → words_alone (indexed_from index ws) ≡ ws
unfolding indexed_from
alone index [] = refl
alone index (w ∷ ws) = ap (λ (more : List Word). w ∷ more) (alone (suc index) ws)

-- words with all indexes, with the indexes that they are given
indexed_again : (index : ℕ) (es : List (ℕ × Word)) → counts_from index (numbers es) ≡ true
    → indexed_from index (words_alone es) ≡ es
unfolding indexed_from counts_from
indexed_again index [] h = refl
indexed_again index (e ∷ es) h =
    let p = both (eqb e.0 index) (counts_from (suc index) (numbers es)) h in
    let same : e.0 ≡ index = eqb-true e.0 index p.0 in
    ap (λ (i : ℕ). (i, e.1) ∷ indexed_from (suc index) (words_alone es)) (sym same)
    ∙ ap (λ (more : List (ℕ × Word)). e ∷ more) (indexed_again (suc index) es p.1)

they_count : (index : ℕ) (ws : List Word) → counts_from index (numbers (indexed_from index ws)) ≡ true
unfolding indexed_from counts_from
they_count index [] = refl
they_count index (w ∷ ws) =
    ap (λ (b : Bool). b && counts_from (suc index) (numbers (indexed_from (suc index) ws))) (eq-eqb index index refl)
    ∙ they_count (suc index) ws

pub indexed_length : (index : ℕ) (ws : List Word) → length (indexed_from index ws) ≡ length ws
unfolding indexed_from
indexed_length index [] = refl
indexed_length index (w ∷ ws) = ap suc (indexed_length (suc index) ws)

alone_length : (es : List (ℕ × Word)) → length (words_alone es) ≡ length es
alone_length [] = refl
alone_length (e ∷ es) = ap suc (alone_length es)

alone_fit : (es : List (ℕ × Word)) → AllByRecursion FitsIndexed es → AllByRecursion FitsWord (words_alone es)
alone_fit [] h = tt
alone_fit (e ∷ es) h = (h.0.word_fits, alone_fit es h.1)

indexed_fit : (index : ℕ) (ws : List Word) → index + length ws ≤ max_globals → AllByRecursion FitsWord ws
    → AllByRecursion FitsIndexed (indexed_from index ws)
unfolding indexed_from
indexed_fit index [] few h = tt
indexed_fit index (w ∷ ws) few h = (
  record { index_fits = omega (arith, few); word_fits = h.0 },
  indexed_fit (suc index) ws (omega (arith, few)) h.1,
)

all_globals_field : IsField all_globals (λ ws. (length ws ≤ max_globals) × AllByRecursion FitsWord ws) all_globals_at
unfolding all_globals_at
all_globals_field =
    as_field (checked_field (λ (es : List (ℕ × Word)). counts_from 0 (numbers es)) indexed_words_field)
    words_alone (indexed_from 0) all_globals (λ ws. (length ws ≤ max_globals) × AllByRecursion FitsWord ws)
    (λ ws h. alone 0 ws)
    (λ es h. ap (items 2 indexed_word) (indexed_again 0 es h.1))
    (λ es h. (omega (arith, h.0.0, alone_length es), alone_fit es h.0.1))
    (λ ws h. ((omega (arith, h.0, indexed_length 0 ws), indexed_fit 0 ws (omega (arith, h.0)) h.1), they_count 0 ws))

-- ---- what became of the modules

some_globals_field : IsField (items 2 indexed_word) (λ (es : List (ℕ × Word)). FitIndexed es × IsTrue (do_rise (numbers es)))
    some_globals_at
unfolding some_globals_at
some_globals_field = checked_field (λ (es : List (ℕ × Word)). do_rise (numbers es)) indexed_words_field

added_field : IsField added FitsModule added_at
unfolding added_at
added_field =
    as_field
    (pair_field name_field (pair_field source_field all_globals_field))
    (λ (x : List ℕ × (List ℕ × List Word)). record { name = x.0; source = x.1.0; globals = x.1.1 })
    (λ (m : Loaded). (m.name, (m.source, m.globals))) added FitsModule
    (λ m h. refl)
    (λ x h. refl)
    (λ x h. record {
      name_fits = h.0.1;
      source_short = leb-true _ _ h.1.0.1;
      few = h.1.1.0;
      words = h.1.1.1;
    })
    (λ m h. (
      (omega (arith, name_short m.name h.name_fits), h.name_fits),
      ((omega (arith, h.source_short), le-leb _ _ h.source_short), (h.few, h.words)),
    ))

change_takes : (tag : ℕ) (bytes : List ℕ) (x : ModuleChange × List ℕ) → IsBytes bytes → change_case tag bytes ≡ Some x
    → HasCase module_change FitsChange tag bytes x
unfolding change_case
change_takes zero bytes x ok e = bare_takes module_change FitsChange 0 Unchanged refl tt bytes x ok e
change_takes (suc zero) bytes x ok e =
    case_takes module_change FitsChange 1 (λ (m : Loaded). Added m) added_field (λ m h. (refl, h)) bytes x ok e
change_takes (suc (suc zero)) bytes x ok e =
    case_takes module_change FitsChange 2 (λ (name : List ℕ). Removed name) name_field (λ name h. (refl, h.1)) bytes x ok e
change_takes (suc (suc (suc zero))) bytes x ok e =
    case_takes module_change FitsChange 3 (λ (y : List ℕ × List (ℕ × Word)). Globals y.0 y.1)
    (pair_field name_field some_globals_field)
    (λ y h. (refl, record { name_fits = h.0.1; few = h.1.0.0; each = h.1.0.1; order = h.1.1 })) bytes x ok e
change_takes (suc (suc (suc (suc n)))) bytes x ok e = absurd cc

change_again : (change : ModuleChange) → FitsChange change → IsCase module_change change_case change
unfolding change_case
change_again Unchanged h = record { tag = 0; small = omega arith; body = []; spelled = refl; read = λ rest. refl }
change_again (Added m) h = record {
  tag = 1;
  small = omega arith;
  body = added m;
  spelled = refl;
  read = λ rest. as_again (λ (m : Loaded). Added m) added_field m rest h;
}
change_again (Removed name) h = record {
  tag = 2;
  small = omega arith;
  body = text 1 name;
  spelled = refl;
  read = λ rest. as_again (λ (name : List ℕ). Removed name) name_field name rest (omega (arith, name_short name h), h);
}
change_again (Globals name globals) h = record {
  tag = 3;
  small = omega arith;
  body = _;
  spelled = refl;
  read = λ rest.
      as_again (λ (y : List ℕ × List (ℕ × Word)). Globals y.0 y.1) (pair_field name_field some_globals_field) (name, globals)
      rest ((omega (arith, name_short name h.name_fits), h.name_fits), ((h.few, h.each), h.order));
}

change_field : IsField module_change FitsChange change_at
unfolding change_at
change_field = tagged_field change_takes change_again

-- ---- numbers of objects

gone_field : IsField (items 4 (number 8)) FitNumbers gone_at
unfolding gone_at
gone_field =
    refit_field (checked_field (λ (gone : List ℕ). do_rise (0 ∷ gone)) (items_field 4 (number_field 4) (number_field 8)))
    (items 4 (number 8)) FitNumbers
    (λ gone. refl)
    (λ gone h. record { few = h.0.0; each = h.0.1; order = h.1 })
    (λ gone h. ((h.few, h.each), h.order))

-- ---- deltas

record FitParts (version : Version) (d : Delta) : Type 0 where
  pub seq : d.seq < 256 ^ 8
  pub last : d.last < 256 ^ 8
  pub services : FitServiceStates d.services
  pub change : FitsChange d.change
  pub gone : FitNumbers d.gone
  pub put : FitObjects version d.put

parts_field : (version : Version) → IsField delta (FitParts version) (parts_at version)
unfolding parts_at
parts_field version =
    as_field
    (pair_field (number_field 8) (pair_field (number_field 8) (pair_field service_states_field (pair_field change_field
    (pair_field gone_field (objects_field version))))))
    (λ (x : ℕ × (ℕ × (List (ℕ × List ℕ) × (ModuleChange × (List ℕ × LiveObjects ℕ))))). record {
      seq = x.0;
      last = x.1.0;
      services = x.1.1.0;
      change = x.1.1.1.0;
      gone = x.1.1.1.1.0;
      put = x.1.1.1.1.1;
    })
    (λ (d : Delta). (d.seq, (d.last, (d.services, (d.change, (d.gone, d.put))))))
    delta (FitParts version)
    (λ d h. refl)
    (λ x h. refl)
    (λ x h. record {
      seq = h.0;
      last = h.1.0;
      services = h.1.1.0;
      change = h.1.1.1.0;
      gone = h.1.1.1.1.0;
      put = h.1.1.1.1.1;
    })
    (λ d h. (h.seq, (h.last, (h.services, (h.change, (h.gone, h.put))))))

-- what is put rises
pub put_rises : (version : Version) (bytes : List ℕ) (x : Delta × List ℕ) → IsBytes bytes → parts_at version bytes ≡ Some x
    → do_rise (numbers x.0.put) ≡ true
put_rises version bytes x ok e = ((parts_field version).takes bytes x ok e).1.put.order

pub delta_field : (version : Version) → IsField delta (FitsDelta version) (delta_at version)
unfolding delta_at
delta_field version =
    refit_field (checked_field (λ (d : Delta). are_apart d.gone (numbers d.put)) (parts_field version))
    delta (FitsDelta version)
    (λ d. refl)
    (λ d h. record {
      seq = h.0.seq;
      last = h.0.last;
      services = h.0.services;
      change = h.0.change;
      gone = h.0.gone;
      put = h.0.put;
      apart = h.1;
    })
    (λ d h. (
      record {
        seq = h.seq;
        last = h.last;
        services = h.services;
        change = h.change;
        gone = h.gone;
        put = h.put;
      },
      h.apart,
    ))

-- ---- what the readers promise

pub is_delta : (version : Version) (bytes : List ℕ) (d : Delta) → IsBytes bytes → whole (delta_at version) bytes ≡ Some d
    → IsDelta bytes version d
is_delta version bytes d ok e = whole_takes (delta_field version) bytes d ok e

pub is_delta_read : (version : Version) (bytes : List ℕ) (d : Delta) → IsDelta bytes version d
    → whole (delta_at version) bytes ≡ Some d
is_delta_read version bytes d h = ap (whole (delta_at version)) h.1 ∙ whole_again (delta_field version) d h.0

-- bytes are the spelling of one delta
pub one_delta : (bytes : List ℕ) (version : Version) (c d : Delta) → IsDelta bytes version c → IsDelta bytes version d → c ≡ d
one_delta bytes version c d h g =
    some_is c d (sym (is_delta_read version bytes c h) ∙ is_delta_read version bytes d g)
