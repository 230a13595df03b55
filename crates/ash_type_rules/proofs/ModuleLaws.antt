-- The walk of a module answers exactly what the rules say.
use Rattle.std.proofs.Common.{◌≡◌, ◌↔◌, List, length, Ok, refl, sym, ◌∙◌, ap, subst, arith}
use Rattle.std.specs.List.{IsDistinct}
use Rattle.ash_registrations.specs.Registrations.{Registration}
use Rattle.ash_tree.specs.Tree.{Item}
use Rattle.ash_type_rules.specs.Typing.{IsKnown}
use Rattle.ash_type_rules.specs.ItemRules.{nothing, module_walked, check_items, check_module}
use Rattle.ash_typed.specs.Modules.{Module}
use Rattle.ash_type_rules.specs.TypedModules.{environment, IsTyped}
use Rattle.ash_type_rules.proofs.Bindings.{ok_is, bind_ok, bind_is}
use Rattle.ash_type_rules.proofs.TakenNames.{CanTake}
use Rattle.ash_type_rules.proofs.TypedItems.{walked_with, items_sound, items_complete}
use Rattle.ash_type_rules.proofs.KnownModules.{items_known, rules_known, module_known}
use Rattle.ash_tree.specs.Items.{item_names, globals_of, variable_names}

sound : (registrations : List Registration) (is : List Item) (typed : Module) → check_module registrations is ≡ Ok typed
    → IsTyped registrations is typed
unfolding check_module IsDistinct
sound registrations is typed h =
    let env = environment registrations is in
    let w = bind_ok (check_items env (nothing registrations) is) _ typed h in
    let known = module_known registrations is (items_known env is (nothing registrations) w.0 w.1) in
    let go = items_sound env known is (nothing registrations) w.0 tt (omega arith) w.1 in
    let typed_is : typed
    ≡ (walked_with (nothing registrations) (item_names is) (length (variable_names (globals_of is))) go.interfaces
    go.classes go.functions go.globals).typed = sym (ok_is _ typed w.2) ∙ ap module_walked go.after_is in
    let few = go.few in
    subst (IsTyped registrations is) (sym typed_is) (record {
      differ = go.can.distinct;
      free = go.can.free;
      few_types = omega arith;
      few_globals = go.can.room;
      interfaces = go.are_interfaces;
      classes = go.are_classes;
      functions = go.are_functions;
      globals = go.are_globals;
    })

pub typed_known : (registrations : List Registration) (is : List Item) (typed : Module) → IsTyped registrations is typed
    → IsKnown (environment registrations is)
typed_known registrations is typed h =
    module_known registrations is (rules_known (environment registrations is) is typed h.interfaces h.classes h.functions h.globals)

complete : (registrations : List Registration) (is : List Item) (typed : Module) → IsTyped registrations is typed
    → check_module registrations is ≡ Ok typed
unfolding check_module
complete registrations is typed h =
    let env = environment registrations is in
    let known = typed_known registrations is typed h in
    let can : CanTake (nothing registrations).names (item_names is) (length (variable_names (globals_of is))) =
    record { free = h.free; distinct = h.differ; room = h.few_globals } in
    let few = h.few_types in
    bind_is (check_items env (nothing registrations) is) _ _ typed
    (items_complete env known is (nothing registrations) typed.interfaces typed.classes typed.functions typed.globals can
    (omega arith) h.interfaces h.classes h.functions h.globals) refl

pub check_module-exact : (registrations : List Registration) (is : List Item) (typed : Module)
    → (check_module registrations is ≡ Ok typed) ↔ IsTyped registrations is typed
check_module-exact registrations is typed = (sound registrations is typed, complete registrations is typed)
