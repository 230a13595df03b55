-- Modules lead to those after a request.
use Rattle.std.proofs.Common.{◌≡◌, ◌≢◌, ◌<◌, ℕ, zero, suc, Bool, true, false, cond, not, List, [], ◌∷◌, length, map, filter, find, slice_get, refl, sym, ap, ◌∙◌, subst, if◌then◌else◌, arith}
use Rattle.std.specs.Prelude.{Option, Some, None, Contains, ◌↔◌}
use Rattle.std.specs.Option.{option_map, option_map_or}
use Rattle.std.specs.Ordering.{is_eq, is_lt}
use Rattle.std.specs.Str.{bytes_eq}
use Rattle.std.proofs.lemmas.Map.Text.{is_eq-slice_cmp}
use Rattle.ash_host.specs.declared.word.Word.{Word}
use Rattle.ash_host.specs.Records.{is_same_word}
use Rattle.ash_host.proofs.RecordLaws.{bytes_decide, word_decides}
use Rattle.ash_requests.specs.States.{LoadedModule, has_name, with_module, without_module, update_globals}
use Rattle.ash_soundness.specs.WellFormedStates.{Ascend}
use Rattle.ash_soundness.proofs.Ascending.{found_by_name}
use Rattle.ash_soundness.proofs.Named.{name_says, name_yes, found_name, find_map, find_filter, find_with_other}
use Rattle.ash_image.specs.Image.{compare_names}
use Rattle.ash_image.specs.Snapshots.{Loaded}
use Rattle.ash_image.specs.Delta.{ModuleChange, Unchanged, Added, Removed, Globals}
use Rattle.ash_change_laws.specs.ChangedStates as changed
use Rattle.ash_change_laws.specs.ChangedStates.{HoldOthers, IsModuleChange}
use Rattle.ash_states.specs.Indexes.{stored_of, stored_modules_of}
use Rattle.ash_image.specs.Leading.{is_name_of, module_named, with_globals, module_after, values_after, LeadModules}
use Rattle.ash_change_records.specs.ListedChanges.{listed, change_listed}
use Rattle.ash_change_records.proofs.Listing.{listed_values, listed_there}

-- modules by name

tests_same : (p q : Bool) → (p ≡ true → q ≡ true) → (q ≡ true → p ≡ true) → p ≡ q
tests_same true q one other = sym (one refl)
tests_same false true one other = other refl
tests_same false false one other = refl

-- names are compared from either side
test_is : (q name : List ℕ) → is_eq (compare_names q name) ≡ bytes_eq name q
test_is q name =
    is_eq-slice_cmp q name
    ∙ tests_same (bytes_eq q name) (bytes_eq name q)
    (λ h. (bytes_decide name q).1 (sym ((bytes_decide q name).0 h))) (λ h. (bytes_decide q name).1 (sym ((bytes_decide name q).0 h)))

pub named_is : (q : List ℕ) (ms : List LoadedModule) → module_named q (stored_modules_of ms) ≡ option_map stored_of (find (has_name q) ms)
unfolding module_named
named_is q [] = refl
named_is q (m ∷ ms) =
    ap (λ (b : Bool). if b then Some (stored_of m) else module_named q (stored_modules_of ms)) (test_is q m.name)
    ∙ by (has_name q m) (named_is q ms)
  where
    by : (b : Bool) → module_named q (stored_modules_of ms) ≡ option_map stored_of (find (has_name q) ms)
        → (if b then Some (stored_of m) else module_named q (stored_modules_of ms)) ≡ option_map stored_of (cond b (Some m) (find (has_name q) ms))
    by true rest = refl
    by false rest = rest

-- a module is loaded

holds_new : (new : LoadedModule) (ms : List LoadedModule) → Contains (with_module new ms) new
holds_new new [] = (0, omega arith, refl)
holds_new new (m ∷ ms) = by (is_lt (compare_names new.name m.name)) (holds_new new ms)
  where
    by : (b : Bool) → Contains (with_module new ms) new → Contains (if b then new ∷ m ∷ ms else m ∷ with_module new ms) new
    by true later = (0, omega arith, refl)
    by false (k, within, e) = (suc k, omega arith, e)

found_with : (new : LoadedModule) (ms : List LoadedModule) (q : List ℕ) → Ascend (with_module new ms)
    → find (has_name q) (with_module new ms) ≡ cond (has_name q new) (Some new) (find (has_name q) ms)
found_with new ms q up = by (has_name q new) refl
  where
    by : (b : Bool) → has_name q new ≡ b → find (has_name q) (with_module new ms) ≡ cond b (Some new) (find (has_name q) ms)
    by true is =
        subst (λ (k : List ℕ). find (has_name k) (with_module new ms) ≡ Some new) (name_says q new is)
        (found_by_name (with_module new ms) up new (holds_new new ms))
    by false is = find_with_other (has_name q) new ms is

mapped_cond : (b : Bool) (m : LoadedModule) (o : Option LoadedModule) → option_map stored_of (cond b (Some m) o) ≡ cond b (Some (stored_of m)) (option_map stored_of o)
mapped_cond true m o = refl
mapped_cond false m o = refl

loaded_leads : (name : List ℕ) (before after : List LoadedModule) → Ascend after → IsModuleChange (changed.Loaded name) before after
    → LeadModules (change_listed (changed.Loaded name) (stored_modules_of after)) (stored_modules_of before) (stored_modules_of after)
loaded_leads name before after up (new, named, is) =
    subst (λ (change : ModuleChange). LeadModules change (stored_modules_of before) (stored_modules_of after)) (sym change_is)
    (record { there = tt; modules = all })
  where
    up_with : Ascend (with_module new before)
    up_with = subst (λ (ms : List LoadedModule). Ascend ms) is up

    found : (q : List ℕ) → module_named q (stored_modules_of after) ≡ cond (has_name q new) (Some (stored_of new)) (module_named q (stored_modules_of before))
    found q =
        named_is q after
        ∙ ap (λ (ms : List LoadedModule). option_map stored_of (find (has_name q) ms)) is
        ∙ ap (option_map stored_of) (found_with new before q up_with)
        ∙ mapped_cond (has_name q new) new (find (has_name q) before)
        ∙ ap (cond (has_name q new) (Some (stored_of new))) (sym (named_is q before))

    there : module_named name (stored_modules_of after) ≡ Some (stored_of new)
    there = found name ∙ ap (λ (b : Bool). cond b (Some (stored_of new)) (module_named name (stored_modules_of before))) (name_yes name new named)

    change_is : change_listed (changed.Loaded name) (stored_modules_of after) ≡ Added (stored_of new)
    change_is = ap (λ (o : Option Loaded). option_map_or (λ (m : Loaded). Added m) o Unchanged) there

    all : (q : List ℕ) → module_named q (stored_modules_of after) ≡ module_after (Added (stored_of new)) (stored_modules_of before) q
    all q = found q ∙ ap (λ (b : Bool). if b then Some (stored_of new) else module_named q (stored_modules_of before)) (sym (test_is q new.name))

-- a module is discarded

other_name : (q name : List ℕ) (m : LoadedModule) → bytes_eq name q ≡ false → has_name q m ≡ true → not (has_name name m) ≡ true
other_name q name m differs is = by (has_name name m) refl
  where
    by : (b : Bool) → has_name name m ≡ b → not b ≡ true
    by true also =
        let same : name ≡ q = sym (name_says name m also) ∙ name_says q m is in
        let yes : bytes_eq name q ≡ true = (bytes_decide name q).1 same in
        absurd (cc)
    by false other = refl

none_left : (name : List ℕ) (ms : List LoadedModule) → find (has_name name) (without_module name ms) ≡ None
none_left name [] = refl
none_left name (m ∷ ms) = by (has_name name m) refl (none_left name ms)
  where
    by : (b : Bool) → has_name name m ≡ b → find (has_name name) (without_module name ms) ≡ None
        → find (has_name name) (cond (not b) (m ∷ without_module name ms) (without_module name ms)) ≡ None
    by true is rest = rest
    by false is rest = ap (λ (b : Bool). cond b (Some m) (find (has_name name) (without_module name ms))) is ∙ rest

found_without : (name : List ℕ) (ms : List LoadedModule) (q : List ℕ)
    → find (has_name q) (without_module name ms) ≡ cond (bytes_eq name q) None (find (has_name q) ms)
found_without name ms q = by (bytes_eq name q) refl
  where
    by : (b : Bool) → bytes_eq name q ≡ b → find (has_name q) (without_module name ms) ≡ cond b None (find (has_name q) ms)
    by true is = subst (λ (k : List ℕ). find (has_name k) (without_module name ms) ≡ None) ((bytes_decide name q).0 is) (none_left name ms)
    by false differs = find_filter (has_name q) (λ m. not (has_name name m)) (λ m is. other_name q name m differs is) ms

mapped_none : (b : Bool) (o : Option LoadedModule) → option_map stored_of (cond b None o) ≡ cond b None (option_map stored_of o)
mapped_none true o = refl
mapped_none false o = refl

discarded_leads : (name : List ℕ) (before after : List LoadedModule) → IsModuleChange (changed.Discarded name) before after
    → LeadModules (change_listed (changed.Discarded name) (stored_modules_of after)) (stored_modules_of before) (stored_modules_of after)
discarded_leads name before after is = record {
  there = tt;
  modules = λ q.
      named_is q after
      ∙ ap (λ (ms : List LoadedModule). option_map stored_of (find (has_name q) ms)) is.left
      ∙ ap (option_map stored_of) (found_without name before q)
      ∙ mapped_none (bytes_eq name q) (find (has_name q) before)
      ∙ ap (cond (bytes_eq name q) None) (sym (named_is q before))
      ∙ ap (λ (b : Bool). if b then None else module_named q (stored_modules_of before)) (sym (test_is q name));
}

-- globals change

-- words that cannot differ are the same
same_words : (a b : Option Word) → (a ≢ b → ⊥) → a ≡ b
same_words None None h = refl
same_words None (Some b) h = absurd (h (λ e. cc))
same_words (Some a) None h = absurd (h (λ e. cc))
same_words (Some a) (Some b) h = by (is_same_word a b) refl
  where
    by : (t : Bool) → is_same_word a b ≡ t → Some a ≡ Some b
    by true is = ap (λ (w : Word). Some w) ((word_decides a b).0 is)
    by false is = absurd (h (λ e. let same : a ≡ b = cc in let yes = (word_decides a b).1 same in cc))

abbrev changed_in : List ℕ → List Word → LoadedModule → LoadedModule
changed_in name words m = if has_name name m then record m { globals = words } else m

still_named : (name : List ℕ) (words : List Word) (q : List ℕ) (m : LoadedModule) → has_name q (changed_in name words m) ≡ has_name q m
still_named name words q m = by (has_name name m)
  where
    by : (b : Bool) → has_name q (if b then record m { globals = words } else m) ≡ has_name q m
    by true = refl
    by false = refl

abbrev now_loaded : LoadedModule → List Word → Loaded
now_loaded was words = record { name = was.name; source = was.source; globals = words }

globals_lead : (name places : List ℕ) (before after : List LoadedModule) → Ascend before → IsModuleChange (changed.Globals name places) before after
    → LeadModules (change_listed (changed.Globals name places) (stored_modules_of after)) (stored_modules_of before) (stored_modules_of after)
globals_lead name places before after up held =
    subst (λ (change : ModuleChange). LeadModules change (stored_modules_of before) (stored_modules_of after)) (sym change_is)
    (record { there = (stored_of was, there_before, listed_there places was.globals words many); modules = all })
  where
    was : LoadedModule
    was = held.was

    words : List Word
    words = held.words

    many : length words ≡ length was.globals
    many = held.many

    found_before : find (has_name name) before ≡ Some was
    found_before = subst (λ (k : List ℕ). find (has_name k) before ≡ Some was) held.named (found_by_name before up was held.there)

    there_before : module_named name (stored_modules_of before) ≡ Some (stored_of was)
    there_before = named_is name before ∙ ap (option_map stored_of) found_before

    found_after : (q : List ℕ) → module_named q (stored_modules_of after) ≡ option_map stored_of (option_map (changed_in name words) (find (has_name q) before))
    found_after q =
        named_is q after
        ∙ ap (λ (ms : List LoadedModule). option_map stored_of (find (has_name q) ms)) held.changed
        ∙ ap (option_map stored_of) (find_map (has_name q) (changed_in name words) (still_named name words q) before)

    changed_was : stored_of (changed_in name words was) ≡ now_loaded was words
    changed_was = ap (λ (b : Bool). stored_of (if b then record was { globals = words } else was)) (name_yes name was held.named)

    there_after : module_named name (stored_modules_of after) ≡ Some (now_loaded was words)
    there_after =
        found_after name
        ∙ ap (λ (o : Option LoadedModule). option_map stored_of (option_map (changed_in name words) o)) found_before
        ∙ ap (λ (m : Loaded). Some m) changed_was

    change_is : change_listed (changed.Globals name places) (stored_modules_of after) ≡ Globals name (listed (slice_get held.words) places)
    change_is = ap (λ (o : Option Loaded). option_map_or (λ (m : Loaded). Globals name (listed (slice_get m.globals) places)) o Unchanged) there_after

    words_are : words ≡ values_after (listed (slice_get held.words) places) was.globals
    words_are = listed_values places was.globals words many (λ p not_there. same_words (slice_get words p) (slice_get was.globals p) (λ differ. not_there ((held.others p).1 differ)))

    unchanged : (q : List ℕ) → bytes_eq name q ≡ false → (o : Option LoadedModule) → find (has_name q) before ≡ o
        → option_map stored_of (option_map (changed_in name words) o) ≡ option_map stored_of o
    unchanged q differs None is = refl
    unchanged q differs (Some m) is = by (has_name name m) refl
      where
        by : (b : Bool) → has_name name m ≡ b → Some (stored_of (if b then record m { globals = words } else m)) ≡ Some (stored_of m)
        by true also =
            let same : name ≡ q = sym (name_says name m also) ∙ found_name q before m is in
            let yes : bytes_eq name q ≡ true = (bytes_decide name q).1 same in
            absurd (cc)
        by false other = refl

    at_name : (q : List ℕ) (b : Bool) → bytes_eq name q ≡ b → module_named q (stored_modules_of after)
        ≡ (if b then option_map (with_globals (listed (slice_get held.words) places)) (module_named q (stored_modules_of before)) else module_named q (stored_modules_of before))
    at_name q true is =
        subst (λ (k : List ℕ). module_named k (stored_modules_of after) ≡ option_map (with_globals (listed (slice_get held.words) places)) (module_named k (stored_modules_of before)))
        ((bytes_decide name q).0 is)
        (there_after
        ∙ ap (λ (ws : List Word). let m : Loaded = record { name = was.name; source = was.source; globals = ws } in Some m) words_are
        ∙ ap (option_map (with_globals (listed (slice_get held.words) places))) (sym there_before))
    at_name q false differs = found_after q ∙ unchanged q differs (find (has_name q) before) refl ∙ sym (named_is q before)

    all : (q : List ℕ) → module_named q (stored_modules_of after) ≡ module_after (Globals name (listed (slice_get held.words) places)) (stored_modules_of before) q
    all q =
        at_name q (bytes_eq name q) refl
        ∙ ap (λ (b : Bool). if b then option_map (with_globals (listed (slice_get held.words) places)) (module_named q (stored_modules_of before)) else module_named q (stored_modules_of before)) (sym (test_is q name))

-- what became of the modules, whatever it was

pub modules_lead : (change : changed.ModuleChange) (before after : List LoadedModule) → Ascend before → Ascend after → IsModuleChange change before after
    → LeadModules (change_listed change (stored_modules_of after)) (stored_modules_of before) (stored_modules_of after)
modules_lead changed.Unchanged before after up_before up_after is = record {
  there = tt;
  modules = λ q. ap (λ (ms : List LoadedModule). module_named q (stored_modules_of ms)) is;
}
modules_lead (changed.Loaded name) before after up_before up_after is = loaded_leads name before after up_after is
modules_lead (changed.Discarded name) before after up_before up_after is = discarded_leads name before after is
modules_lead (changed.Globals name places) before after up_before up_after is = globals_lead name places before after up_before is
