-- From indexes of modules to names, and back.
use Rattle.std.proofs.Common.{◌≡◌, ℕ, zero, suc, ◌<◌, ltb, Bool, true, false, cond, List, [], ◌∷◌, ◌++◌, length, map}
use Rattle.std.proofs.Common.{Option, None, refl, sym, subst, ap, ◌∙◌, append_assoc, Less, arith}
use Rattle.std.specs.Prelude.{◌↔◌, IsSome, is_some}
use Rattle.std.specs.List.{AllByRecursion}
use Rattle.std.specs.BTreeMap.{BTreeMap, insert_entry}
use Rattle.std.specs.Ordering.{is_eq, is_lt, nat_cmp, match_ordering}
use Rattle.std.specs.String.{string_cmp}
use Rattle.std.specs.declared.cmp.Ordering.{Ordering}
use Rattle.std.specs.declared.alloc.Global.{Global}
use Rattle.std.specs.declared.string.String.{String}
use Rattle.std.proofs.lemmas.Bool.{false≢true}
use Rattle.std.proofs.lemmas.Bool.Decides.{nat_tests}
use Rattle.std.proofs.lemmas.List.{map-append, append-nil}
use Rattle.ash_host.specs.Objects.{Elements, Bools, Ints, Uints, Int64s, Uint64s, Handles, Hosts, Plain, Script, Array, Host}
use Rattle.ash_host.specs.Objects.{LiveObjects, numbers}
use Rattle.ash_image.specs.declared.named_state.NamedModule.{NamedModule}
use Rattle.ash_image.specs.declared.named_state.NamedObject.{NamedObject}
use Rattle.ash_image.specs.declared.stored.StoredModule.{StoredModule}
use Rattle.ash_image.specs.declared.stored.StoredObject.{StoredObject}
use Rattle.ash_image.specs.declared.version.Version.{Version}
use Rattle.ash_image.specs.ImageObjectViews.{plain_of}
use Rattle.ash_image.specs.Snapshots.{Loaded, Snapshot}
use Rattle.ash_image.specs.SnapshotViews.{module_of, modules_of, object_of, objects_of}
use Rattle.ash_image.specs.Image.{compare_names, are_ascending, names_of, do_rise, FitsVersion}
use Rattle.ash_image.specs.Rules.{IsPlaced, KeepsRules}
use Rattle.ash_image.specs.Leading.{is_name_of, name_there, elements_known, plain_known, by_name, objects_named}
use Rattle.ash_image.specs.Leading.{NamedSnapshot, named, index_among, index_of_name, objects_indexed, indexed}
use Rattle.ash_image.specs.NamedViews.{module_seen, modules_seen, object_seen, objects_seen}
use Rattle.ash_image.proofs.ModuleLaws.{one_name}
use Rattle.ash_image.proofs.NameLaws.{both}
use Rattle.ash_image.proofs.OneState.{one_named, one_snapshot, objects_back, is_less, ascending_after}
use Rattle.ash_image.proofs.OrderLaws.{tail_rises}

-- ---- modules go in, the last first

ascending_end : (names more : List (List ℕ)) → are_ascending (names ++ more) ≡ true → are_ascending more ≡ true
ascending_end [] more up = up
ascending_end (name ∷ names) more up = ascending_end names more (ascending_after name (names ++ more) up)

-- a module whose name is below all others goes in first
module_first : (m : StoredModule) (es : List (String Global × NamedModule))
    → are_ascending (names_of (module_of m ∷ map module_seen es)) ≡ true
    → map module_seen (insert_entry string_cmp es m.name (record { source = m.source; globals = m.globals }))
    ≡ module_of m ∷ map module_seen es
module_first m [] up = refl
module_first m (e ∷ es) up =
    let new : NamedModule = record { source = m.source; globals = m.globals } in
    let later = are_ascending (names_of (map module_seen (e ∷ es))) in
    let less : string_cmp m.name e.0 ≡ Less =
    is_less (string_cmp m.name e.0) (both (is_lt (string_cmp m.name e.0)) later up).0 in
    ap (λ (o : Ordering). map module_seen (match_ordering o ((m.name, new) ∷ e ∷ es) ((e.0, new) ∷ es)
    (e ∷ insert_entry string_cmp es m.name new))) less

-- no module is in yet
pub none_seen : (goal : List Loaded) (new : BTreeMap (String Global) NamedModule) → new.entries ≡ []
    → goal ++ modules_seen new ≡ goal
none_seen goal new none =
    ap (λ (es : List (String Global × NamedModule)). goal ++ map module_seen es) none ∙ append-nil goal

-- one module more is in
pub module_next : (all left : List StoredModule) (m : StoredModule) (old new : BTreeMap (String Global) NamedModule)
    (goal : List Loaded) → all ≡ left ++ m ∷ []
    → new.entries ≡ insert_entry string_cmp old.entries m.name (record { source = m.source; globals = m.globals })
    → are_ascending (names_of goal) ≡ true → modules_of all ++ modules_seen old ≡ goal
    → modules_of left ++ modules_seen new ≡ goal
module_next all left m old new goal is entries up so_far =
    let split : modules_of all ≡ modules_of left ++ module_of m ∷ [] =
    ap modules_of is ∙ map-append module_of left (m ∷ []) in
    let joined : modules_of left ++ (module_of m ∷ modules_seen old) ≡ goal =
    sym (append_assoc (modules_of left) (module_of m ∷ []) (modules_seen old))
    ∙ sym (ap (λ (ms : List Loaded). ms ++ modules_seen old) split) ∙ so_far in
    let name : Loaded → List ℕ = λ (m : Loaded). m.name in
    let parts : names_of (modules_of left ++ (module_of m ∷ modules_seen old))
    ≡ names_of (modules_of left) ++ names_of (module_of m ∷ modules_seen old) =
    map-append name (modules_of left) (module_of m ∷ modules_seen old) in
    let rest : are_ascending (names_of (module_of m ∷ modules_seen old)) ≡ true =
    ascending_end (names_of (modules_of left)) (names_of (module_of m ∷ modules_seen old))
    (sym (ap are_ascending parts) ∙ ap (λ (ms : List Loaded). are_ascending (names_of ms)) joined ∙ up) in
    ap (λ (ms : List Loaded). modules_of left ++ ms) (ap (map module_seen) entries ∙ module_first m old.entries rest)
    ∙ joined

-- all modules are in
pub modules_in : (left : List StoredModule) (seen goal : List Loaded) → length left ≡ 0
    → modules_of left ++ seen ≡ goal → seen ≡ goal
modules_in [] seen goal none so_far = so_far
modules_in (m ∷ left) seen goal none so_far = absurd (omega (arith, none))

-- ---- objects go in, the last first

abbrev pub seen_in : List (ℕ × NamedObject) → LiveObjects (List ℕ)
seen_in es = map (λ (e : ℕ × NamedObject). (e.0, object_seen e.1)) es

rising_end : (ns more : List ℕ) → do_rise (ns ++ more) ≡ true → do_rise more ≡ true
rising_end [] more up = up
rising_end (n ∷ ns) more up = rising_end ns more (tail_rises n (ns ++ more) up)

below : (m n : ℕ) → ltb m n ≡ true → nat_cmp m n ≡ Less
below m n h = grind (arith, nat_tests)

-- an object whose number is below all others goes in first
object_first : (number : ℕ) (o : NamedObject) (es : List (ℕ × NamedObject))
    → do_rise (number ∷ numbers (seen_in es)) ≡ true
    → seen_in (insert_entry nat_cmp es number o) ≡ (number, object_seen o) ∷ seen_in es
object_first number o [] up = refl
object_first number o (e ∷ es) up =
    let less : nat_cmp number e.0 ≡ Less =
    below number e.0 (both (ltb number e.0) (do_rise (numbers (seen_in (e ∷ es)))) up).0 in
    ap (λ (r : Ordering). seen_in (match_ordering r ((number, o) ∷ e ∷ es) ((e.0, o) ∷ es)
    (e ∷ insert_entry nat_cmp es number o))) less

same_numbers : (ms : List Loaded) (objects : LiveObjects ℕ) → numbers (objects_named ms objects) ≡ numbers objects
same_numbers ms [] = refl
same_numbers ms (e ∷ objects) = ap (λ (ns : List ℕ). e.0 ∷ ns) (same_numbers ms objects)

-- named objects rise as the objects do
pub named_rise : (ms : List Loaded) (objects : LiveObjects ℕ) → do_rise (numbers objects) ≡ true
    → do_rise (numbers (objects_named ms objects)) ≡ true
named_rise ms objects up = ap do_rise (same_numbers ms objects) ∙ up

-- no object is in yet
pub no_objects_seen : (goal : LiveObjects (List ℕ)) (new : BTreeMap ℕ NamedObject) → new.entries ≡ []
    → goal ++ objects_seen new ≡ goal
no_objects_seen goal new none =
    ap (λ (es : List (ℕ × NamedObject)). goal ++ seen_in es) none ∙ append-nil goal

-- one object more is in
pub object_next : (ms : List Loaded) (all left : List StoredObject) (o : StoredObject) (named : NamedObject)
    (old new : BTreeMap ℕ NamedObject) (goal : LiveObjects (List ℕ)) → all ≡ left ++ o ∷ []
    → object_seen named ≡ by_name ms (plain_of o.body)
    → new.entries ≡ insert_entry nat_cmp old.entries o.number named → do_rise (numbers goal) ≡ true
    → objects_named ms (objects_of all) ++ objects_seen old ≡ goal
    → objects_named ms (objects_of left) ++ objects_seen new ≡ goal
object_next ms all left o named old new goal is same entries up so_far =
    let first : ℕ × Plain (List ℕ) = (o.number, object_seen named) in
    let front = objects_named ms (objects_of left) in
    let split : objects_named ms (objects_of all) ≡ front ++ (o.number, by_name ms (plain_of o.body)) ∷ [] =
    ap (objects_named ms) (ap objects_of is ∙ map-append object_of left (o ∷ []))
    ∙ map-append (λ (e : ℕ × Plain ℕ). (e.0, by_name ms e.1)) (objects_of left) (object_of o ∷ []) in
    let as_seen : front ++ (o.number, by_name ms (plain_of o.body)) ∷ [] ≡ front ++ first ∷ [] =
    ap (λ (p : Plain (List ℕ)). front ++ (o.number, p) ∷ []) (sym same) in
    let joined : front ++ (first ∷ objects_seen old) ≡ goal =
    sym (append_assoc front (first ∷ []) (objects_seen old))
    ∙ sym (ap (λ (es : LiveObjects (List ℕ)). es ++ objects_seen old) (split ∙ as_seen)) ∙ so_far in
    let parts : numbers (front ++ (first ∷ objects_seen old)) ≡ numbers front ++ numbers (first ∷ objects_seen old) =
    map-append (λ (e : ℕ × Plain (List ℕ)). e.0) front (first ∷ objects_seen old) in
    let rest : do_rise (numbers (first ∷ objects_seen old)) ≡ true =
    rising_end (numbers front) (numbers (first ∷ objects_seen old))
    (sym (ap do_rise parts) ∙ ap (λ (es : LiveObjects (List ℕ)). do_rise (numbers es)) joined ∙ up) in
    ap (λ (es : LiveObjects (List ℕ)). front ++ es) (ap seen_in entries ∙ object_first o.number named old.entries rest)
    ∙ joined

-- all objects are in
pub objects_in : (ms : List Loaded) (left : List StoredObject) (seen goal : LiveObjects (List ℕ)) → length left ≡ 0
    → objects_named ms (objects_of left) ++ seen ≡ goal → seen ≡ goal
objects_in ms [] seen goal none so_far = so_far
objects_in ms (o ∷ left) seen goal none so_far = absurd (omega (arith, none))

-- ---- the index of a name

pub index_here : (name first : List ℕ) (names : List (List ℕ)) → is_eq (compare_names name first) ≡ true
    → index_among (first ∷ names) name ≡ 0
unfolding index_among
index_here name first names is = ap (λ (b : Bool). cond b 0 (suc (index_among names name))) is

pub index_later : (name first : List ℕ) (names : List (List ℕ)) → is_eq (compare_names name first) ≡ false
    → index_among (first ∷ names) name ≡ suc (index_among names name)
unfolding index_among
index_later name first names is = ap (λ (b : Bool). cond b 0 (suc (index_among names name))) is

pub index_of_none : (name : List ℕ) → index_among [] name ≡ 0
unfolding index_among
index_of_none name = refl

-- the name at the index of a name is the name
pub name_back : (ms : List Loaded) (name : List ℕ) → index_of_name ms name < length ms
    → name_there ms (index_of_name ms name) ≡ name
name_back [] name within = absurd (omega (arith, within))
name_back (m ∷ ms) name within =
    go (is_name_of name m) refl (name_back ms name)
  where
    go : (b : Bool) → is_name_of name m ≡ b
        → (index_of_name ms name < length ms → name_there ms (index_of_name ms name) ≡ name)
        → name_there (m ∷ ms) (index_of_name (m ∷ ms) name) ≡ name
    go true is later =
        ap (name_there (m ∷ ms)) (index_here name m.name (names_of ms) is) ∙ sym (one_name name m.name is)
    go false is later =
        let next = index_later name m.name (names_of ms) is in
        ap (name_there (m ∷ ms)) next ∙ later (omega (arith, next, within))

-- ---- objects come out, the first first

pub no_entries : {A : Type 0} (es : List A) → length es ≡ 0 → es ≡ []
no_entries [] none = refl
no_entries (e ∷ es) none = absurd (omega (arith, none))

pub none_popped : {A : Type 0} (r : Option A) (n : ℕ) → (IsSome r ↔ (0 < n)) → r ≡ None → n ≡ 0
none_popped r zero variant none = refl
none_popped r (suc n) variant none = absurd (false≢true (sym (ap is_some none) ∙ variant.1 (omega arith)))

-- one object more is out
pub object_out : (ms : List Loaded) (old new : BTreeMap ℕ NamedObject) (e : ℕ × NamedObject)
    (before after : List StoredObject) (o : StoredObject) (goal : LiveObjects ℕ) → old.entries ≡ e ∷ new.entries
    → after ≡ before ++ o ∷ [] → o.number ≡ e.0 → plain_of o.body ≡ plain_known (index_of_name ms) (object_seen e.1)
    → objects_of before ++ objects_indexed ms (objects_seen old) ≡ goal
    → objects_of after ++ objects_indexed ms (objects_seen new) ≡ goal
object_out ms old new e before after o goal first is number body so_far =
    let rest = objects_indexed ms (objects_seen new) in
    let one : ℕ × Plain ℕ = (e.0, plain_known (index_of_name ms) (object_seen e.1)) in
    let same : object_of o ≡ one = λ i. (number i, body i) in
    let split : objects_of after ≡ objects_of before ++ object_of o ∷ [] =
    ap objects_of is ∙ map-append object_of before (o ∷ []) in
    let head : objects_indexed ms (objects_seen old) ≡ one ∷ rest =
    ap (λ (es : List (ℕ × NamedObject)). objects_indexed ms (seen_in es)) first in
    ap (λ (es : LiveObjects ℕ). es ++ rest) split ∙ append_assoc (objects_of before) (object_of o ∷ []) rest
    ∙ ap (λ (x : ℕ × Plain ℕ). objects_of before ++ x ∷ rest) same
    ∙ sym (ap (λ (es : LiveObjects ℕ). objects_of before ++ es) head) ∙ so_far

-- all objects are out
pub objects_out : (ms : List Loaded) (now : BTreeMap ℕ NamedObject) (stored : List StoredObject) (goal : LiveObjects ℕ)
    → now.entries ≡ [] → objects_of stored ++ objects_indexed ms (objects_seen now) ≡ goal → objects_of stored ≡ goal
objects_out ms now stored goal none so_far =
    sym (append-nil (objects_of stored))
    ∙ sym (ap (λ (es : List (ℕ × NamedObject)). objects_of stored ++ objects_indexed ms (seen_in es)) none) ∙ so_far

-- one module more is out
pub module_out : (old new : BTreeMap (String Global) NamedModule) (e : String Global × NamedModule)
    (before after : List StoredModule) (m : StoredModule) (goal : List Loaded) → old.entries ≡ e ∷ new.entries
    → after ≡ before ++ m ∷ [] → module_of m ≡ module_seen e → modules_of before ++ modules_seen old ≡ goal
    → modules_of after ++ modules_seen new ≡ goal
module_out old new e before after m goal first is same so_far =
    let rest = modules_seen new in
    let split : modules_of after ≡ modules_of before ++ module_of m ∷ [] =
    ap modules_of is ∙ map-append module_of before (m ∷ []) in
    ap (λ (ms : List Loaded). ms ++ rest) split ∙ append_assoc (modules_of before) (module_of m ∷ []) rest
    ∙ ap (λ (x : Loaded). modules_of before ++ x ∷ rest) same
    ∙ sym (ap (λ (es : List (String Global × NamedModule)). modules_of before ++ map module_seen es) first) ∙ so_far

-- all modules are out
pub modules_out : (now : BTreeMap (String Global) NamedModule) (stored : List StoredModule) (goal : List Loaded)
    → now.entries ≡ [] → modules_of stored ++ modules_seen now ≡ goal → modules_of stored ≡ goal
modules_out now stored goal none so_far =
    sym (append-nil (modules_of stored))
    ∙ sym (ap (λ (es : List (String Global × NamedModule)). modules_of stored ++ map module_seen es) none) ∙ so_far

-- ---- states

element_forth : (ms : List Loaded) (of : Elements (List ℕ)) (words : List _)
    → IsPlaced (length ms) (Array (elements_known (index_of_name ms) of) words)
    → elements_known (name_there ms) (elements_known (index_of_name ms) of) ≡ of
element_forth ms Bools words placed = refl
element_forth ms Ints words placed = refl
element_forth ms Uints words placed = refl
element_forth ms Int64s words placed = refl
element_forth ms Uint64s words placed = refl
element_forth ms (Handles owner place) words placed =
    ap (λ (n : List ℕ). Handles n place) (name_back ms owner placed)
element_forth ms (Hosts kind) words placed = refl

plain_forth : (ms : List Loaded) (o : Plain (List ℕ)) → IsPlaced (length ms) (plain_known (index_of_name ms) o)
    → by_name ms (plain_known (index_of_name ms) o) ≡ o
plain_forth ms (Script owner place fields) placed =
    ap (λ (n : List ℕ). Script n place fields) (name_back ms owner placed)
plain_forth ms (Array of elements) placed =
    ap (λ (e : Elements (List ℕ)). Array e elements) (element_forth ms of elements placed)
plain_forth ms (Host kind state) placed = refl

objects_forth : (ms : List Loaded) (objects : LiveObjects (List ℕ))
    → AllByRecursion (λ (e : ℕ × Plain ℕ). IsPlaced (length ms) e.1) (objects_indexed ms objects)
    → objects_named ms (objects_indexed ms objects) ≡ objects
objects_forth ms [] placed = refl
objects_forth ms (e ∷ objects) placed =
    let head = plain_forth ms e.1 placed.0 in
    let tail = objects_forth ms objects placed.1 in
    λ i. (e.0, head i) ∷ tail i

-- a state with indexes in place of names has these names, if its objects are of modules that are there
pub named_again : (n : NamedSnapshot) (s : Snapshot) → s ≡ indexed n → KeepsRules s → named s ≡ n
named_again n s is keeps =
    let kept : KeepsRules (indexed n) = subst (λ (t : Snapshot). KeepsRules t) is keeps in
    ap named is
    ∙ one_named (named (indexed n)) n refl refl refl refl refl (objects_forth n.modules n.objects kept.whole.placed)

-- a state is found again from its names
pub found_again : (version : Version) (n : NamedSnapshot) (s found : Snapshot) → found ≡ indexed n → named s ≡ n
    → FitsVersion version s → KeepsRules s → found ≡ s
found_again version n s found is same fits keeps =
    is ∙ sym (ap indexed same)
    ∙ one_snapshot (indexed (named s)) s refl refl refl refl refl
    (objects_back s.modules s.objects fits.modules.order keeps.whole.placed)
