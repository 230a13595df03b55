-- Modules of which one has other globals: their names, and what they hold.
use Rattle.std.proofs.Common.{◌≡◌, ◌+◌, ℕ, zero, suc, Bool, true, false, cond, not, List, [], ◌∷◌, ◌++◌, map, refl, sym, ap, ◌∙◌, subst, slice_get, if◌then◌else◌, arith, filter}
use Rattle.std.specs.Prelude.{Some, Contains}
use Rattle.std.specs.Ordering.{is_eq}
use Rattle.std.proofs.lemmas.Map.Text.{is_eq-slice_cmp}
use Rattle.std.specs.declared.cmp.Ordering.TheVariants.{Less}
use Rattle.std.proofs.lemmas.Option.{same_Some}
use Rattle.ash_host.specs.declared.host_object.HostObject.{Ghosts}
use Rattle.ash_host.specs.declared.word.Word.{Word}
use Rattle.std.proofs.lemmas.List.Elements.{filter_map-append}
use Rattle.ash_host.specs.Objects.{handle, handles}
use Rattle.ash_objects.specs.Table.{Table, holds_of}
use Rattle.ash_object_ranks.specs.ShownTables.{SlotNames, objects_shown}
use Rattle.ash_requests.specs.States.{LoadedModule, State, has_name, compare_names, globals_of, without_module, update_globals}
use Rattle.ash_run_steps.specs.RunStates.{HoldsRoots, times}
use Rattle.ash_run_steps.proofs.Roots.{times_append}
use Rattle.ash_soundness.proofs.Named.{name_says, name_yes}
use Rattle.ash_soundness.specs.WellFormedStates.{Ascend, ComeAfter}
use Rattle.ash_table_states.specs.TableStates.{names_in, state_shown}
use Rattle.ash_engine.proofs.NamedSlots.{name_of, names_same}

-- names stay
updated_name : (m : LoadedModule) (globals : List Word) (b : Bool) → (if b then record m { globals = globals } else m).name ≡ m.name
updated_name m globals true = refl
updated_name m globals false = refl

pub updated_names : (name : List ℕ) (globals : List Word) (ms : List LoadedModule) → map name_of (update_globals name globals ms) ≡ map name_of ms
updated_names name globals [] = refl
updated_names name globals (m ∷ ms) = (λ i. updated_name m globals (has_name name m) i ∷ updated_names name globals ms i)

-- modules after one of a name have another
later_differs : (name : List ℕ) (x m : LoadedModule) → has_name name x ≡ true → compare_names x.name m.name ≡ Less → has_name name m ≡ false
later_differs name x m is before = go (has_name name m) refl
  where
    go : (b : Bool) → has_name name m ≡ b → has_name name m ≡ false
    go true also =
        let same : x.name ≡ m.name = name_says name x is ∙ sym (name_says name m also) in
        let differs : has_name m.name x ≡ false = sym (is_eq-slice_cmp x.name m.name) ∙ ap is_eq before in
        let yes = name_yes m.name x same in
        absurd (cc)
    go false differs = differs

rest_updated : (name : List ℕ) (globals : List Word) (x : LoadedModule) (ms : List LoadedModule) → has_name name x ≡ true → ComeAfter x.name ms → update_globals name globals ms ≡ ms
rest_updated name globals x [] is after = refl
rest_updated name globals x (m ∷ ms) is after =
    let other = later_differs name x m is after.0 in
    (λ i. (if other i then record m { globals = globals } else m) ∷ rest_updated name globals x ms is after.1 i)

rest_kept : (name : List ℕ) (x : LoadedModule) (ms : List LoadedModule) → has_name name x ≡ true → ComeAfter x.name ms → without_module name ms ≡ ms
rest_kept name x [] is after = refl
rest_kept name x (m ∷ ms) is after =
    let other = later_differs name x m is after.0 in
    ap (λ (b : Bool). cond (not b) (m ∷ without_module name ms) (without_module name ms)) other ∙ ap (λ (l : List LoadedModule). m ∷ l) (rest_kept name x ms is after.1)

abbrev rest_of : List ℕ → List Word → List LoadedModule → List Word
rest_of name globals ms = globals_of (update_globals name globals ms)

abbrev others_of : List ℕ → List LoadedModule → List Word
others_of name ms = globals_of (without_module name ms)

pub handles_append : (one other : List Word) → handles (one ++ other) ≡ handles one ++ handles other
handles_append one other = filter_map-append handle one other

-- what modules hold of which one has other globals is what the others hold, and these
pub roots_split : (name : List ℕ) (globals : List Word) (ms : List LoadedModule) (place : ℕ) (m : LoadedModule) (n : ℕ) → Ascend ms → slice_get ms place ≡ Some m → name ≡ m.name
    → times n (handles (globals_of (update_globals name globals ms))) ≡ times n (handles (globals_of (without_module name ms)) ++ handles globals)
roots_split name globals [] place m n up at named = absurd (cc)
roots_split name globals (x ∷ ms) place m n up at named = go (has_name name x) refl place at (λ later there. roots_split name globals ms later m n up.1 there named)
  where
    go : (b : Bool) → has_name name x ≡ b → (place : ℕ) → slice_get (x ∷ ms) place ≡ Some m
        → ((later : ℕ) → slice_get ms later ≡ Some m → times n (handles (rest_of name globals ms)) ≡ times n (handles (others_of name ms) ++ handles globals))
        → times n (handles ((if has_name name x then record x { globals = globals } else x).globals ++ rest_of name globals ms))
        ≡ times n (handles (globals_of (cond (not (has_name name x)) (x ∷ without_module name ms) (without_module name ms))) ++ handles globals)
    go true is place at later =
        let updated : rest_of name globals ms ≡ globals_of ms = ap globals_of (rest_updated name globals x ms is up.0) in
        let kept : others_of name ms ≡ globals_of ms = ap globals_of (rest_kept name x ms is up.0) in
        ap (λ (b : Bool). times n (handles ((if b then record x { globals = globals } else x).globals ++ rest_of name globals ms))) is
        ∙ ap (λ (l : List Word). times n (handles (globals ++ l))) updated
        ∙ ap (times n) (handles_append globals (globals_of ms))
        ∙ swapped
        ∙ ap (λ (l : List Word). times n (handles l ++ handles globals)) (sym kept)
        ∙ ap (λ (b : Bool). times n (handles (globals_of (cond (not b) (x ∷ without_module name ms) (without_module name ms))) ++ handles globals)) (sym is)
      where
        swapped : times n (handles globals ++ handles (globals_of ms)) ≡ times n (handles (globals_of ms) ++ handles globals)
        swapped = omega (arith, times_append n (handles globals) (handles (globals_of ms)), times_append n (handles (globals_of ms)) (handles globals))
    go false is zero at later =
        let one : x ≡ m = same_Some x m at in
        absurd (let yes = name_yes name x (ap name_of one ∙ sym named) in cc)
    go false is (suc place) at later =
        ap (λ (b : Bool). times n (handles ((if b then record x { globals = globals } else x).globals ++ rest_of name globals ms))) is
        ∙ ap (times n) (handles_append x.globals (rest_of name globals ms))
        ∙ both
        ∙ ap (λ (l : List ℕ). times n (l ++ handles globals)) (sym (handles_append x.globals (others_of name ms)))
        ∙ ap (λ (b : Bool). times n (handles (globals_of (cond (not b) (x ∷ without_module name ms) (without_module name ms))) ++ handles globals)) (sym is)
      where
        both : times n (handles x.globals ++ handles (rest_of name globals ms)) ≡ times n ((handles x.globals ++ handles (others_of name ms)) ++ handles globals)
        both = omega (arith, times_append n (handles x.globals) (handles (rest_of name globals ms)), times_append n (handles x.globals ++ handles (others_of name ms)) (handles globals), times_append n (handles x.globals) (handles (others_of name ms)), times_append n (handles (others_of name ms)) (handles globals), later place at)

-- each object is held as often as globals hold it, once a run has left these
pub held_after : {B : Type 0} (table : Table B) (outside : List ℕ) (globals : List Word) (ms : List LoadedModule) (place : ℕ) (m : LoadedModule) → Ascend ms → slice_get ms place ≡ Some m
    → outside ≡ handles (globals_of (without_module m.name ms)) → HoldsRoots table (outside ++ handles globals)
    → HoldsRoots table (handles (globals_of (update_globals m.name globals ms)))
held_after table outside globals ms place m up at same held n =
    held n ∙ ap (λ (l : List ℕ). times n (l ++ handles globals)) same ∙ sym (roots_split m.name globals ms place m n up at refl)

-- and as often as a run begins with
pub held_before : {B : Type 0} (table : Table B) (outside : List ℕ) (ms : List LoadedModule) (place : ℕ) (m : LoadedModule) → Ascend ms → slice_get ms place ≡ Some m
    → outside ≡ handles (globals_of (without_module m.name ms)) → update_globals m.name m.globals ms ≡ ms → HoldsRoots table (handles (globals_of ms))
    → HoldsRoots table (outside ++ handles m.globals)
held_before table outside ms place m up at same unchanged held n =
    held n ∙ ap (λ (l : List LoadedModule). times n (handles (globals_of l))) (sym unchanged)
    ∙ roots_split m.name m.globals ms place m n up at refl
    ∙ ap (λ (l : List ℕ). times n (l ++ handles m.globals)) (sym same)
