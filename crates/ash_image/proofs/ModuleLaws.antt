-- What is at each name after a module was put in, or taken out.
use Rattle.std.proofs.Common.{◌≡◌, ℕ, Bool, true, false, ◌&&◌, cond, length, List, [], ◌∷◌, map, string_bytes}
use Rattle.std.proofs.Common.{Option, Some, None, refl, sym, subst, ap, ◌∙◌, Less, Equal, Greater}
use Rattle.std.specs.Prelude.{slice_get}
use Rattle.std.specs.Option.{option_map, unwrap_or}
use Rattle.std.specs.List.Sorted.{IsStrictlySortedBy, IsStrictlyIncreasing}
use Rattle.std.specs.Map.{lookup, update, keys_of}
use Rattle.std.specs.BTreeMap.{BTreeMap, is_at, get_by_text, keys, IsOrdered}
use Rattle.std.specs.Ordering.{is_eq, is_lt, nat_cmp, ordering_reverse}
use Rattle.std.specs.Str.{bytes_eq}
use Rattle.std.specs.String.{string_cmp}
use Rattle.std.specs.declared.cmp.Ordering.{Ordering}
use Rattle.std.specs.declared.alloc.Global.{Global}
use Rattle.std.specs.declared.string.String.{String}
use Rattle.std.proofs.lemmas.Cmp.{nat_list_cmp_total}
use Rattle.std.proofs.lemmas.Map.Keys.{IsStrictlyIncreasing-from_sorted}
use Rattle.std.proofs.lemmas.Map.Lookups.{exact_bytes}
use Rattle.std.proofs.lemmas.Option.{slice_get-map}
use Rattle.std.proofs.lemmas.Map.Text.{is_eq-slice_cmp}
use Rattle.ash_host.specs.Objects.{numbers, IsInOrder}
use Rattle.ash_image.specs.declared.named_state.NamedModule.{NamedModule}
use Rattle.ash_image.specs.declared.named_state.NamedObject.{NamedObject}
use Rattle.ash_image.specs.Snapshots.{Loaded}
use Rattle.ash_image.specs.Image.{compare_names, are_ascending, names_of}
use Rattle.ash_host.specs.declared.word.Word.{Word}
use Rattle.ash_image.specs.declared.stored.StoredModule.{StoredModule}
use Rattle.ash_image.specs.SnapshotViews.{module_of}
use Rattle.ash_image.specs.Delta.{Added, Removed, Globals}
use Rattle.ash_image.specs.Leading.{module_named, with_globals, values_after, AreThere, IsChangeOf, LeadModules}
use Rattle.ash_image.specs.Leading.{name_there}
use Rattle.ash_image.specs.NamedViews.{module_seen, modules_seen, object_seen, objects_seen}

-- a module with a name
abbrev pub loaded_as : List ℕ → NamedModule → Loaded
loaded_as name m = record { name = name; source = m.source.items; globals = m.globals.items }

is_equal : (o : Ordering) → is_eq o ≡ true → o ≡ Equal
is_equal Less h = absurd cc
is_equal Equal h = refl
is_equal Greater h = absurd cc

-- names that compare as equal are one
pub one_name : (a b : List ℕ) → is_eq (compare_names a b) ≡ true → a ≡ b
one_name a b h = exact_bytes a b (is_equal (compare_names a b) h)

named_in : (name : List ℕ) (es : List (String Global × NamedModule)) → module_named name (map module_seen es)
    ≡ option_map (loaded_as name) (lookup (is_at (λ (k : String Global). compare_names name (string_bytes k))) es)
unfolding module_named
named_in name [] = refl
named_in name (e ∷ es) =
    go (is_eq (compare_names name (string_bytes e.0))) refl (named_in name es)
  where
    go : (b : Bool) → is_eq (compare_names name (string_bytes e.0)) ≡ b
        → module_named name (map module_seen es)
        ≡ option_map (loaded_as name) (lookup (is_at (λ (k : String Global). compare_names name (string_bytes k))) es)
        → cond b (Some (module_seen e)) (module_named name (map module_seen es))
        ≡ option_map (loaded_as name) (cond b (Some e.1)
        (lookup (is_at (λ (k : String Global). compare_names name (string_bytes k))) es))
    go true is later =
        ap (λ (n : List ℕ). Some (loaded_as n e.1)) (sym (one_name name (string_bytes e.0) is))
    go false is later = later

-- the module of a name is what the map has there
pub named_is : (name : List ℕ) (ms : BTreeMap (String Global) NamedModule)
    → module_named name (modules_seen ms) ≡ option_map (loaded_as name) (get_by_text ms name)
named_is name ms = named_in name ms.entries

turned : (o : Ordering) → is_eq (ordering_reverse o) ≡ is_eq o
turned Less = refl
turned Equal = refl
turned Greater = refl

pub same_either_way : (a b : List ℕ) → is_eq (compare_names a b) ≡ is_eq (compare_names b a)
same_either_way a b = ap is_eq (nat_list_cmp_total.antisymm a b) ∙ turned (compare_names b a)

-- what is at each name after one was changed
pub named_after : (name : List ℕ) (w : Option NamedModule) (old new : BTreeMap (String Global) NamedModule)
    → ((q : List ℕ) → get_by_text new q ≡ update bytes_eq (get_by_text old) name w q) → (q : List ℕ)
    → module_named q (modules_seen new)
    ≡ cond (is_eq (compare_names q name)) (option_map (loaded_as q) w) (module_named q (modules_seen old))
named_after name w old new updates q =
    named_is q new ∙ ap (option_map (loaded_as q)) (updates q)
    ∙ go (is_eq (compare_names q name)) (bytes_eq name q)
    (same_either_way q name ∙ is_eq-slice_cmp name q)
  where
    go : (b c : Bool) → b ≡ c → option_map (loaded_as q) (cond c w (get_by_text old q))
        ≡ cond b (option_map (loaded_as q) w) (module_named q (modules_seen old))
    go true true is = refl
    go true false is = absurd cc
    go false true is = absurd cc
    go false false is = sym (named_is q old)

-- a module is put in
pub added_is : (m : StoredModule) (old new : BTreeMap (String Global) NamedModule)
    → ((q : List ℕ) → get_by_text new q ≡ update bytes_eq (get_by_text old) (string_bytes m.name)
    (Some (record { source = m.source; globals = m.globals })) q)
    → LeadModules (Added (module_of m)) (modules_seen old) (modules_seen new)
added_is m old new updates = record {
  there = tt;
  modules = λ q.
      named_after (string_bytes m.name) (Some (record { source = m.source; globals = m.globals })) old new updates q
      ∙ go q (is_eq (compare_names q (string_bytes m.name))) refl;
}
  where
    go : (q : List ℕ) (b : Bool) → is_eq (compare_names q (string_bytes m.name)) ≡ b
        → cond b (Some (loaded_as q (record { source = m.source; globals = m.globals }))) (module_named q (modules_seen old))
        ≡ cond b (Some (module_of m)) (module_named q (modules_seen old))
    go q true is =
        ap (λ (n : List ℕ). Some (loaded_as n (record { source = m.source; globals = m.globals })))
        (one_name q (string_bytes m.name) is)
    go q false is = refl

-- a module is taken out
pub removed_is : (name : List ℕ) (old new : BTreeMap (String Global) NamedModule)
    → ((q : List ℕ) → get_by_text new q ≡ update bytes_eq (get_by_text old) name None q)
    → LeadModules (Removed name) (modules_seen old) (modules_seen new)
removed_is name old new updates = record { there = tt; modules = λ q. named_after name None old new updates q }

-- the module of a name is there
pub there_is : (name : List ℕ) (ms : BTreeMap (String Global) NamedModule) (found : NamedModule)
    → get_by_text ms name ≡ Some found → module_named name (modules_seen ms) ≡ Some (loaded_as name found)
there_is name ms found is = named_is name ms ∙ ap (option_map (loaded_as name)) is

-- globals of a module change: it is taken out, and put in again with other globals
pub changed_is : (name : List ℕ) (listed : List (ℕ × Word)) (found again : NamedModule)
    (old middle new : BTreeMap (String Global) NamedModule) → get_by_text old name ≡ Some found
    → AreThere listed (length found.globals.items)
    → ((q : List ℕ) → get_by_text middle q ≡ update bytes_eq (get_by_text old) name None q)
    → ((q : List ℕ) → get_by_text new q ≡ update bytes_eq (get_by_text middle) name (Some again) q)
    → again.source.items ≡ found.source.items → again.globals.items ≡ values_after listed found.globals.items
    → LeadModules (Globals name listed) (modules_seen old) (modules_seen new)
changed_is name listed found again old middle new is there out in_again source globals = record {
  there = (loaded_as name found, there_is name old found is, there);
  modules = λ q.
      named_after name (Some again) middle new in_again q
      ∙ go q (is_eq (compare_names q name)) refl (named_after name None old middle out q);
}
  where
    loaded : loaded_as name again ≡ with_globals listed (loaded_as name found)
    loaded =
        ap (λ (s : List ℕ). record { name = name; source = s; globals = again.globals.items }) source
        ∙ ap (λ (g : List Word). record { name = name; source = found.source.items; globals = g }) globals

    go : (q : List ℕ) (b : Bool) → is_eq (compare_names q name) ≡ b
        → module_named q (modules_seen middle) ≡ cond b None (module_named q (modules_seen old))
        → cond b (Some (loaded_as q again)) (module_named q (modules_seen middle))
        ≡ cond b (option_map (with_globals listed) (module_named q (modules_seen old))) (module_named q (modules_seen old))
    go q true is_name later =
        let same = one_name q name is_name in
        ap (λ (n : List ℕ). Some (loaded_as n again)) same ∙ ap (λ (m : Loaded). Some m) loaded
        ∙ sym (ap (option_map (with_globals listed))
        (ap (λ (n : List ℕ). module_named n (modules_seen old)) same ∙ there_is name old found is))
    go q false is_name later = later

-- what is not there does not change
pub not_there : (name : List ℕ) (listed : List (ℕ × Word)) (ms : BTreeMap (String Global) NamedModule)
    → get_by_text ms name ≡ None → IsChangeOf (modules_seen ms) (Globals name listed) → ⊥
not_there name listed ms none change =
    let nothing = named_is name ms ∙ ap (option_map (loaded_as name)) none in
    absurd (let at = sym nothing ∙ change.1 in cc)

-- one of the globals is not there
pub globals_not_there : (name : List ℕ) (listed : List (ℕ × Word)) (ms : BTreeMap (String Global) NamedModule)
    (found : NamedModule) → get_by_text ms name ≡ Some found → (AreThere listed (length found.globals.items) → ⊥)
    → IsChangeOf (modules_seen ms) (Globals name listed) → ⊥
globals_not_there name listed ms found is missing change =
    let at : Some (loaded_as name found) ≡ Some change.0 = sym (there_is name ms found is) ∙ change.1 in
    let same : loaded_as name found ≡ change.0 = cc in
    missing (subst (λ (m : Loaded). AreThere listed (length m.globals)) (sym same) change.2)

-- globals of a module change, which the map knows by a key of its own
pub changed_by : (name key stored : List ℕ) (listed : List (ℕ × Word)) (found again : NamedModule)
    (old middle new : BTreeMap (String Global) NamedModule) → key ≡ name → compare_names key stored ≡ Equal
    → get_by_text old key ≡ Some found → AreThere listed (length found.globals.items)
    → ((q : List ℕ) → get_by_text middle q ≡ update bytes_eq (get_by_text old) key None q)
    → ((q : List ℕ) → get_by_text new q ≡ update bytes_eq (get_by_text middle) stored (Some again) q)
    → again.source.items ≡ found.source.items → again.globals.items ≡ values_after listed found.globals.items
    → LeadModules (Globals name listed) (modules_seen old) (modules_seen new)
changed_by name key stored listed found again old middle new same equal is there out in_again source globals =
    changed_is name listed found again old middle new (ap (get_by_text old) (sym same) ∙ is) there
    (λ q. out q ∙ ap (λ (k : List ℕ). update bytes_eq (get_by_text old) k None q) same)
    (λ q. in_again q ∙ ap (λ (k : List ℕ). update bytes_eq (get_by_text middle) k (Some again) q)
    (sym (exact_bytes key stored equal) ∙ same)) source globals

-- ---- names by their indexes

-- the keys of a map are the names
pub names_seen : (es : List (String Global × NamedModule))
    → map string_bytes (keys_of es) ≡ map (λ (m : Loaded). m.name) (map module_seen es)
names_seen [] = refl
names_seen (e ∷ es) = ap (λ (more : List (List ℕ)). string_bytes e.0 ∷ more) (names_seen es)

-- the name at an index is that of the key there
pub name_is : (ms : BTreeMap (String Global) NamedModule) (i : ℕ)
    → unwrap_or (slice_get (map string_bytes (keys ms)) i) [] ≡ name_there (modules_seen ms) i
name_is ms i =
    ap (λ (o : Option (List ℕ)). unwrap_or o [])
    (ap (λ (names : List (List ℕ)). slice_get names i) (names_seen ms.entries)
    ∙ slice_get-map (λ (m : Loaded). m.name) (modules_seen ms) i)

-- the keys of a map ascend, and so do the names
pub names_ascend : (es : List (String Global × NamedModule)) → IsStrictlySortedBy string_cmp (keys_of es)
    → are_ascending (names_of (map module_seen es)) ≡ true
unfolding IsStrictlySortedBy
names_ascend [] sorted = refl
names_ascend (e ∷ []) sorted = refl
names_ascend (e ∷ f ∷ es) sorted =
    let head : is_lt (compare_names (string_bytes e.0) (string_bytes f.0)) ≡ true = ap is_lt (sorted.0).0 in
    ap (λ (b : Bool). b && are_ascending (names_of (map module_seen (f ∷ es)))) head ∙ names_ascend (f ∷ es) sorted.1

numbers_seen : (es : List (ℕ × NamedObject))
    → keys_of es ≡ numbers (map (λ (e : ℕ × NamedObject). (e.0, object_seen e.1)) es)
numbers_seen [] = refl
numbers_seen (e ∷ es) = ap (λ (more : List ℕ). e.0 ∷ more) (numbers_seen es)

-- the keys of a map rise, and so do the numbers
pub numbers_rise : (objects : BTreeMap ℕ NamedObject) → IsOrdered nat_cmp objects → IsInOrder (objects_seen objects)
numbers_rise objects sorted =
    subst (λ (ns : List ℕ). IsStrictlyIncreasing ns) (numbers_seen objects.entries)
    (IsStrictlyIncreasing-from_sorted (keys objects) sorted)
