-- The items of a module are typed exactly as the rules say.
use Rattle.std.proofs.Common.{◌≡◌, ◌≤◌, ◌<◌, ◌+◌, ℕ, nat_le, false, List, [], ◌∷◌, ◌++◌, length, Ok, refl, sym, ◌∙◌, ap}
use Rattle.std.proofs.Common.{subst, arith}
use Rattle.std.specs.List.{AllZip}
use Rattle.std.proofs.lemmas.List.{append_assoc, append-nil, length-append}
use Rattle.std.proofs.lemmas.Bool.Decides.{nat_tests}
use Rattle.ash_tree.specs.Tree as written
use Rattle.ash_type_rules.specs.Environment.{Environment}
use Rattle.ash_type_rules.specs.Typing.{IsKnown}
use Rattle.ash_typed.specs.ModuleLimits.{max_module_types}
use Rattle.ash_typed.specs.Modules.{Variables, Function, Interface, Class, Module}
use Rattle.ash_type_rules.specs.ItemRules.{Names, untaken, check_vars, check_result, check_routine, check_class}
use Rattle.ash_type_rules.specs.ItemRules.{check_interface, room_for_type, Walked, check_item, check_items}
use Rattle.ash_type_rules.specs.TypedModules.{AreTypedVariables, IsTypedFunction, AreTypedInterfaces, AreTypedClasses}
use Rattle.ash_type_rules.proofs.Bindings.{no_err, ok_is, bind_ok, bind_is, if_ok}
use Rattle.ash_type_rules.proofs.TakenNames.{Distinct, grown, grown-none, grown-then, CanTake, takes_none, takes_then}
use Rattle.ash_type_rules.proofs.TakenNames.{takes_first, takes_rest, untaken_sound, untaken_complete}
use Rattle.ash_type_rules.proofs.TypedVariables.{vars_sound, vars_complete}
use Rattle.ash_type_rules.proofs.TypedRoutines.{routine_complete, result_complete, function_sound}
use Rattle.ash_type_rules.proofs.TypedInterfaces.{interface_sound, interface_complete}
use Rattle.ash_type_rules.proofs.TypedClasses.{count_names, class_sound, class_complete}
use Rattle.ash_tree.specs.Items.{routine_of, names_of, variable_names, item_names, classes_of, interfaces_of}
use Rattle.ash_tree.specs.Items.{classes_before, functions_of, globals_of}
use Rattle.ash_type_rules.specs.ModuleDeclarations.{result_in}

-- a module so far

abbrev walked_of : Names → List Interface → List Class → List Function → List Variables → Walked
walked_of names interfaces classes functions globals = record {
  names = names;
  typed = record { interfaces = interfaces; classes = classes; functions = functions; globals = globals };
}

abbrev pub walked_with : Walked → List (List ℕ) → ℕ → List Interface → List Class → List Function → List Variables
    → Walked
walked_with w names k interfaces classes functions globals =
    walked_of (grown w.names names k) (w.typed.interfaces ++ interfaces) (w.typed.classes ++ classes)
    (w.typed.functions ++ functions) (w.typed.globals ++ globals)

same_walked : (n m : Names) (ts us : List Interface) (cs ds : List Class) (fs gs : List Function)
    (vs ws : List Variables) → n ≡ m → ts ≡ us → cs ≡ ds → fs ≡ gs → vs ≡ ws
    → walked_of n ts cs fs vs ≡ walked_of m us ds gs ws
same_walked n m ts us cs ds fs gs vs ws h i j k l = rw (h, i, j, k, l) refl

walked_with-none : (w : Walked) → walked_with w [] 0 [] [] [] [] ≡ w
walked_with-none w =
    same_walked (grown w.names [] 0) w.names _ _ _ _ _ _ _ _ (grown-none w.names) (append-nil w.typed.interfaces)
    (append-nil w.typed.classes) (append-nil w.typed.functions) (append-nil w.typed.globals)

walked_with-then : (w : Walked) (xs ys : List (List ℕ)) (j k l : ℕ) (ts us : List Interface) (cs ds : List Class)
    (fs gs : List Function) (vs ws : List Variables) → l ≡ j + k
    → walked_with (walked_with w xs j ts cs fs vs) ys k us ds gs ws
    ≡ walked_with w (xs ++ ys) l (ts ++ us) (cs ++ ds) (fs ++ gs) (vs ++ ws)
walked_with-then w xs ys j k l ts us cs ds fs gs vs ws e =
    same_walked (grown (grown w.names xs j) ys k) (grown w.names (xs ++ ys) l) _ _ _ _ _ _ _ _
    (grown-then w.names xs ys j k l e) (append_assoc w.typed.interfaces ts us) (append_assoc w.typed.classes cs ds)
    (append_assoc w.typed.functions fs gs) (append_assoc w.typed.globals vs ws)

-- one more class or interface

-- how many there are so far
abbrev types_in : Module → ℕ
types_in m = length m.classes + length m.interfaces

-- how many more there are
abbrev types_of : List written.Item → ℕ
types_of is = length (classes_of is) + length (interfaces_of is)

too_many : (n : ℕ) → nat_le max_module_types n ≡ false → n < max_module_types
too_many n b = grind (arith, nat_tests)

few_enough : (n : ℕ) → n < max_module_types → nat_le max_module_types n ≡ false
few_enough n h = grind (arith, nat_tests)

room_sound : (at : ℕ) (m : Module) (place : ℕ) → room_for_type at m ≡ Ok place
    → (types_in m < max_module_types) × (place ≡ length m.classes)
unfolding room_for_type
room_sound at m place h =
    if_ok (nat_le max_module_types (types_in m)) _ _ (Ok place) h (λ b e. absurd (no_err _ place e))
    (λ b e. (too_many (types_in m) b, sym (ok_is (length m.classes) place e)))

room_complete : (at : ℕ) (m : Module) → types_in m < max_module_types → room_for_type at m ≡ Ok (length m.classes)
unfolding room_for_type
room_complete at m h = rw (few_enough (types_in m) h) refl

one_longer : {A : Type 0} (xs : List A) (x : A) → length (xs ++ x ∷ []) ≡ length xs + 1
one_longer xs x = length-append xs (x ∷ [])

no_longer : {A : Type 0} (xs : List A) → length (xs ++ []) ≡ length xs
no_longer xs = ap (λ (ys : List _). length ys) (append-nil xs)

-- items

pub record ItemsWalked (env : Environment) (w : Walked) (is : List written.Item) (after : Walked) : Type 0 where
  pub can : CanTake w.names (item_names is) (length (variable_names (globals_of is)))
  pub few : types_in w.typed + types_of is ≤ max_module_types
  pub interfaces : List Interface
  pub are_interfaces : AreTypedInterfaces env (interfaces_of is) (classes_before (length w.typed.classes) is) interfaces
  pub classes : List Class
  pub are_classes : AreTypedClasses env (length w.typed.classes) (classes_of is) classes
  pub functions : List Function
  pub are_functions : AllZip (IsTypedFunction env) (functions_of is) functions
  pub globals : List Variables
  pub are_globals : AllZip (AreTypedVariables env) (globals_of is) globals
  pub after_is : after
      ≡ walked_with w (item_names is) (length (variable_names (globals_of is))) interfaces classes functions globals

pub items_sound : (env : Environment) → IsKnown env → (is : List written.Item) (w after : Walked)
    → Distinct w.names.taken → types_in w.typed ≤ max_module_types → check_items env w is ≡ Ok after → ItemsWalked env w is after
unfolding check_item
items_sound env known [] w after d few h = record {
  can = takes_none w.names d;
  few = omega arith;
  interfaces = [];
  are_interfaces = tt;
  classes = [];
  are_classes = tt;
  functions = [];
  are_functions = tt;
  globals = [];
  are_globals = tt;
  after_is = sym (ok_is w after h) ∙ sym (walked_with-none w);
}
items_sound env known (written.AClass c ∷ is) w after d few h =
    let m = bind_ok (check_item env w (written.AClass c)) _ after h in
    let u = bind_ok (untaken w.names c.place.at c.name) _ m.0 m.1 in
    let o = bind_ok (room_for_type c.place.at w.typed) _ m.0 u.2 in
    let t = bind_ok (check_class env o.0 c) _ m.0 o.2 in
    let s = untaken_sound w.names c.place.at c.name u.0 d u.1 in
    let q = room_sound c.place.at w.typed o.0 o.1 in
    let next : Walked = walked_with w (c.name ∷ []) 0 [] (t.0 ∷ []) [] [] in
    let step : m.0 ≡ next =
    sym (ok_is _ m.0 t.2)
    ∙ same_walked u.0 next.names _ _ _ _ _ _ _ _ s.1 (sym (append-nil w.typed.interfaces)) refl
    (sym (append-nil w.typed.functions)) (sym (append-nil w.typed.globals)) in
    let places = one_longer w.typed.classes t.0 in
    let same = no_longer w.typed.interfaces in
    let below = q.0 in
    let go = items_sound env known is next after s.0.distinct (omega arith)
    (subst (λ (x : Walked). check_items env x is ≡ Ok after) step m.2) in
    let room = go.few in
    let k = length (variable_names (globals_of is)) in
    record {
      can = takes_then w.names (c.name ∷ []) (item_names is) 0 k k (omega arith) s.0 go.can;
      few = omega arith;
      interfaces = go.interfaces;
      are_interfaces =
          subst (λ n. AreTypedInterfaces env (interfaces_of is) (classes_before n is) go.interfaces) places
          go.are_interfaces;
      classes = t.0 ∷ go.classes;
      are_classes = (
        class_sound env known (length w.typed.classes) c t.0 (subst (λ n. check_class env n c ≡ Ok t.0) q.1 t.1),
        subst (λ n. AreTypedClasses env n (classes_of is) go.classes) places go.are_classes,
      );
      functions = go.functions;
      are_functions = go.are_functions;
      globals = go.globals;
      are_globals = go.are_globals;
      after_is = go.after_is
          ∙ walked_with-then w (c.name ∷ []) (item_names is) 0 k k [] go.interfaces (t.0 ∷ []) go.classes []
          go.functions [] go.globals (omega arith);
    }
items_sound env known (written.AnInterface i ∷ is) w after d few h =
    let m = bind_ok (check_item env w (written.AnInterface i)) _ after h in
    let u = bind_ok (untaken w.names i.place.at i.name) _ m.0 m.1 in
    let o = bind_ok (room_for_type i.place.at w.typed) _ m.0 u.2 in
    let t = bind_ok (check_interface env o.0 i) _ m.0 o.2 in
    let s = untaken_sound w.names i.place.at i.name u.0 d u.1 in
    let q = room_sound i.place.at w.typed o.0 o.1 in
    let next : Walked = walked_with w (i.name ∷ []) 0 (t.0 ∷ []) [] [] [] in
    let step : m.0 ≡ next =
    sym (ok_is _ m.0 t.2)
    ∙ same_walked u.0 next.names _ _ _ _ _ _ _ _ s.1 refl (sym (append-nil w.typed.classes))
    (sym (append-nil w.typed.functions)) (sym (append-nil w.typed.globals)) in
    let places = no_longer w.typed.classes in
    let longer = one_longer w.typed.interfaces t.0 in
    let below = q.0 in
    let go = items_sound env known is next after s.0.distinct (omega arith)
    (subst (λ (x : Walked). check_items env x is ≡ Ok after) step m.2) in
    let room = go.few in
    let k = length (variable_names (globals_of is)) in
    record {
      can = takes_then w.names (i.name ∷ []) (item_names is) 0 k k (omega arith) s.0 go.can;
      few = omega arith;
      interfaces = t.0 ∷ go.interfaces;
      are_interfaces = (
        interface_sound env (length w.typed.classes) i t.0 (subst (λ n. check_interface env n i ≡ Ok t.0) q.1 t.1),
        subst (λ n. AreTypedInterfaces env (interfaces_of is) (classes_before n is) go.interfaces) places
            go.are_interfaces,
      );
      classes = go.classes;
      are_classes = subst (λ n. AreTypedClasses env n (classes_of is) go.classes) places go.are_classes;
      functions = go.functions;
      are_functions = go.are_functions;
      globals = go.globals;
      are_globals = go.are_globals;
      after_is = go.after_is
          ∙ walked_with-then w (i.name ∷ []) (item_names is) 0 k k (t.0 ∷ []) go.interfaces [] go.classes []
          go.functions [] go.globals (omega arith);
    }
items_sound env known (written.AFunction f ∷ is) w after d few h =
    let m = bind_ok (check_item env w (written.AFunction f)) _ after h in
    let o = bind_ok (check_result env f.result) _ m.0 m.1 in
    let u = bind_ok (untaken w.names f.place.at f.name) _ m.0 o.2 in
    let t = bind_ok (check_routine env o.0 (routine_of f)) _ m.0 u.2 in
    let s = untaken_sound w.names f.place.at f.name u.0 d u.1 in
    let next : Walked = walked_with w (f.name ∷ []) 0 [] [] (t.0 ∷ []) [] in
    let step : m.0 ≡ next =
    sym (ok_is _ m.0 t.2)
    ∙ same_walked u.0 next.names _ _ _ _ _ _ _ _ s.1 (sym (append-nil w.typed.interfaces))
    (sym (append-nil w.typed.classes)) refl (sym (append-nil w.typed.globals)) in
    let places = no_longer w.typed.classes in
    let same = no_longer w.typed.interfaces in
    let go = items_sound env known is next after s.0.distinct (omega arith)
    (subst (λ (x : Walked). check_items env x is ≡ Ok after) step m.2) in
    let room = go.few in
    let k = length (variable_names (globals_of is)) in
    record {
      can = takes_then w.names (f.name ∷ []) (item_names is) 0 k k (omega arith) s.0 go.can;
      few = omega arith;
      interfaces = go.interfaces;
      are_interfaces =
          subst (λ n. AreTypedInterfaces env (interfaces_of is) (classes_before n is) go.interfaces) places
          go.are_interfaces;
      classes = go.classes;
      are_classes = subst (λ n. AreTypedClasses env n (classes_of is) go.classes) places go.are_classes;
      functions = t.0 ∷ go.functions;
      are_functions = (function_sound env known f o.0 t.0 o.1 t.1, go.are_functions);
      globals = go.globals;
      are_globals = go.are_globals;
      after_is = go.after_is
          ∙ walked_with-then w (f.name ∷ []) (item_names is) 0 k k [] go.interfaces [] go.classes (t.0 ∷ [])
          go.functions [] go.globals (omega arith);
    }
items_sound env known (written.AGlobal v ∷ is) w after d few h =
    let m = bind_ok (check_item env w (written.AGlobal v)) _ after h in
    let r = bind_ok (check_vars env w.names v) _ m.0 m.1 in
    let g = vars_sound env known w.names v r.0 d r.1 in
    let j = length v.decls in
    let next : Walked = walked_with w (names_of v) j [] [] [] (r.0.variables ∷ []) in
    let step : m.0 ≡ next =
    sym (ok_is _ m.0 r.2)
    ∙ same_walked r.0.names next.names _ _ _ _ _ _ _ _ g.taken (sym (append-nil w.typed.interfaces))
    (sym (append-nil w.typed.classes)) (sym (append-nil w.typed.functions)) refl in
    let places = no_longer w.typed.classes in
    let same = no_longer w.typed.interfaces in
    let go = items_sound env known is next after g.can.distinct (omega arith)
    (subst (λ (x : Walked). check_items env x is ≡ Ok after) step m.2) in
    let room = go.few in
    let k = length (variable_names (globals_of is)) in
    let count = count_names v (variable_names (globals_of is)) in
    record {
      can = takes_then w.names (names_of v) (item_names is) j k _ count g.can go.can;
      few = omega arith;
      interfaces = go.interfaces;
      are_interfaces =
          subst (λ n. AreTypedInterfaces env (interfaces_of is) (classes_before n is) go.interfaces) places
          go.are_interfaces;
      classes = go.classes;
      are_classes = subst (λ n. AreTypedClasses env n (classes_of is) go.classes) places go.are_classes;
      functions = go.functions;
      are_functions = go.are_functions;
      globals = r.0.variables ∷ go.globals;
      are_globals = (g.typed, go.are_globals);
      after_is = go.after_is
          ∙ walked_with-then w (names_of v) (item_names is) j k _ [] go.interfaces [] go.classes [] go.functions
          (r.0.variables ∷ []) go.globals count;
    }

pub items_complete : (env : Environment) → IsKnown env
    → (is : List written.Item) (w : Walked) (ts : List Interface) (cs : List Class) (fs : List Function)
    (vs : List Variables) → CanTake w.names (item_names is) (length (variable_names (globals_of is)))
    → types_in w.typed + types_of is ≤ max_module_types
    → AreTypedInterfaces env (interfaces_of is) (classes_before (length w.typed.classes) is) ts
    → AreTypedClasses env (length w.typed.classes) (classes_of is) cs → AllZip (IsTypedFunction env) (functions_of is) fs
    → AllZip (AreTypedVariables env) (globals_of is) vs
    → check_items env w is ≡ Ok (walked_with w (item_names is) (length (variable_names (globals_of is))) ts cs fs vs)
unfolding check_item
items_complete env known [] w [] [] [] [] can few are_ts are_cs are_fs are_vs =
    ap (λ (x : Walked). Ok x) (sym (walked_with-none w))
items_complete env known [] w (t ∷ ts) cs fs vs can few are_ts are_cs are_fs are_vs = absurd are_ts
items_complete env known [] w [] (c ∷ cs) fs vs can few are_ts are_cs are_fs are_vs = absurd are_cs
items_complete env known [] w [] [] (f ∷ fs) vs can few are_ts are_cs are_fs are_vs = absurd are_fs
items_complete env known [] w [] [] [] (v ∷ vs) can few are_ts are_cs are_fs are_vs = absurd are_vs
items_complete env known (written.AClass c ∷ is) w ts [] fs vs can few are_ts are_cs are_fs are_vs = absurd are_cs
items_complete env known (written.AClass c ∷ is) w ts (t ∷ cs) fs vs can few are_ts are_cs are_fs are_vs =
    let k = length (variable_names (globals_of is)) in
    let n = length w.typed.classes in
    let first = takes_first w.names (c.name ∷ []) (item_names is) 0 k k (omega arith) can in
    let rest = takes_rest w.names (c.name ∷ []) (item_names is) 0 k k (omega arith) can in
    let next : Walked = walked_with w (c.name ∷ []) 0 [] (t ∷ []) [] [] in
    let places = one_longer w.typed.classes t in
    let same = no_longer w.typed.interfaces in
    bind_is (check_item env w (written.AClass c)) _ next _
    (bind_is (untaken w.names c.place.at c.name) _ next.names next (untaken_complete w.names c.place.at c.name first)
    (bind_is (room_for_type c.place.at w.typed) _ n next (room_complete c.place.at w.typed (omega arith))
    (bind_is (check_class env n c) _ t next (class_complete env known n c t are_cs.0)
    (ap (λ (x : Walked). Ok x)
    (same_walked next.names next.names _ _ _ _ _ _ _ _ refl (sym (append-nil w.typed.interfaces)) refl
    (sym (append-nil w.typed.functions)) (sym (append-nil w.typed.globals)))))))
    (items_complete env known is next ts cs fs vs rest (omega arith)
    (subst (λ n. AreTypedInterfaces env (interfaces_of is) (classes_before n is) ts) (sym places) are_ts)
    (subst (λ n. AreTypedClasses env n (classes_of is) cs) (sym places) are_cs.1) are_fs are_vs
    ∙ ap (λ (x : Walked). Ok x)
    (walked_with-then w (c.name ∷ []) (item_names is) 0 k k [] ts (t ∷ []) cs [] fs [] vs (omega arith)))
items_complete env known (written.AnInterface i ∷ is) w [] cs fs vs can few are_ts are_cs are_fs are_vs = absurd are_ts
items_complete env known (written.AnInterface i ∷ is) w (t ∷ ts) cs fs vs can few are_ts are_cs are_fs are_vs =
    let k = length (variable_names (globals_of is)) in
    let n = length w.typed.classes in
    let first = takes_first w.names (i.name ∷ []) (item_names is) 0 k k (omega arith) can in
    let rest = takes_rest w.names (i.name ∷ []) (item_names is) 0 k k (omega arith) can in
    let next : Walked = walked_with w (i.name ∷ []) 0 (t ∷ []) [] [] [] in
    let places = no_longer w.typed.classes in
    let longer = one_longer w.typed.interfaces t in
    bind_is (check_item env w (written.AnInterface i)) _ next _
    (bind_is (untaken w.names i.place.at i.name) _ next.names next (untaken_complete w.names i.place.at i.name first)
    (bind_is (room_for_type i.place.at w.typed) _ n next (room_complete i.place.at w.typed (omega arith))
    (bind_is (check_interface env n i) _ t next (interface_complete env n i t are_ts.0)
    (ap (λ (x : Walked). Ok x)
    (same_walked next.names next.names _ _ _ _ _ _ _ _ refl refl (sym (append-nil w.typed.classes))
    (sym (append-nil w.typed.functions)) (sym (append-nil w.typed.globals)))))))
    (items_complete env known is next ts cs fs vs rest (omega arith)
    (subst (λ n. AreTypedInterfaces env (interfaces_of is) (classes_before n is) ts) (sym places) are_ts.1)
    (subst (λ n. AreTypedClasses env n (classes_of is) cs) (sym places) are_cs) are_fs are_vs
    ∙ ap (λ (x : Walked). Ok x)
    (walked_with-then w (i.name ∷ []) (item_names is) 0 k k (t ∷ []) ts [] cs [] fs [] vs (omega arith)))
items_complete env known (written.AFunction f ∷ is) w ts cs [] vs can few are_ts are_cs are_fs are_vs = absurd are_fs
items_complete env known (written.AFunction f ∷ is) w ts cs (t ∷ fs) vs can few are_ts are_cs are_fs are_vs =
    let k = length (variable_names (globals_of is)) in
    let first = takes_first w.names (f.name ∷ []) (item_names is) 0 k k (omega arith) can in
    let rest = takes_rest w.names (f.name ∷ []) (item_names is) 0 k k (omega arith) can in
    let next : Walked = walked_with w (f.name ∷ []) 0 [] [] (t ∷ []) [] in
    let places = no_longer w.typed.classes in
    let same = no_longer w.typed.interfaces in
    let is_f = are_fs.0 in
    bind_is (check_item env w (written.AFunction f)) _ next _
    (bind_is (check_result env f.result) _ (result_in env f.result) next (result_complete env f.result is_f.passed)
    (bind_is (untaken w.names f.place.at f.name) _ next.names next (untaken_complete w.names f.place.at f.name first)
    (bind_is (check_routine env (result_in env f.result) (routine_of f)) _ t next
    (routine_complete env (result_in env f.result) (routine_of f) t is_f.routine)
    (ap (λ (x : Walked). Ok x)
    (same_walked next.names next.names _ _ _ _ _ _ _ _ refl (sym (append-nil w.typed.interfaces))
    (sym (append-nil w.typed.classes)) refl (sym (append-nil w.typed.globals)))))))
    (items_complete env known is next ts cs fs vs rest (omega arith)
    (subst (λ n. AreTypedInterfaces env (interfaces_of is) (classes_before n is) ts) (sym places) are_ts)
    (subst (λ n. AreTypedClasses env n (classes_of is) cs) (sym places) are_cs) are_fs.1 are_vs
    ∙ ap (λ (x : Walked). Ok x)
    (walked_with-then w (f.name ∷ []) (item_names is) 0 k k [] ts [] cs (t ∷ []) fs [] vs (omega arith)))
items_complete env known (written.AGlobal v ∷ is) w ts cs fs [] can few are_ts are_cs are_fs are_vs = absurd are_vs
items_complete env known (written.AGlobal v ∷ is) w ts cs fs (t ∷ vs) can few are_ts are_cs are_fs are_vs =
    let j = length v.decls in
    let k = length (variable_names (globals_of is)) in
    let count = count_names v (variable_names (globals_of is)) in
    let first = takes_first w.names (names_of v) (item_names is) j k _ count can in
    let rest = takes_rest w.names (names_of v) (item_names is) j k _ count can in
    let next : Walked = walked_with w (names_of v) j [] [] [] (t ∷ []) in
    let places = no_longer w.typed.classes in
    let same = no_longer w.typed.interfaces in
    bind_is (check_item env w (written.AGlobal v)) _ next _
    (bind_is (check_vars env w.names v) _ _ next (vars_complete env known w.names v t first are_vs.0)
    (ap (λ (x : Walked). Ok x)
    (same_walked next.names next.names _ _ _ _ _ _ _ _ refl (sym (append-nil w.typed.interfaces))
    (sym (append-nil w.typed.classes)) (sym (append-nil w.typed.functions)) refl)))
    (items_complete env known is next ts cs fs vs rest (omega arith)
    (subst (λ n. AreTypedInterfaces env (interfaces_of is) (classes_before n is) ts) (sym places) are_ts)
    (subst (λ n. AreTypedClasses env n (classes_of is) cs) (sym places) are_cs) are_fs are_vs.1
    ∙ ap (λ (x : Walked). Ok x)
    (walked_with-then w (names_of v) (item_names is) j k _ [] ts [] cs [] fs (t ∷ []) vs count))
