use Rattle.std.proofs.Common.{◌≡◌, length, string_bytes, ap, sym, ◌∙◌, refl, Some, None, true, false, arith}
use Rattle.std.specs.BTreeMap.{get_by_text}
use Rattle.std.specs.Option.{option_map}
use Rattle.std.specs.declared.alloc.Global.{Global}
use Rattle.std.specs.declared.string.String.{String}
use Rattle.std.proofs.lemmas.Map.Text.{btree_map_updates_text}
use Rattle.ash_image.specs.declared.named_state.NamedModule.{NamedModule}
use Rattle.ash_image.specs.DeltaViews.{all_indexed}
use Rattle.ash_image.specs.Leading.{AreThere}
use Rattle.ash_image.proofs.LeadingLaws.{passed_there, failed_there}
use Rattle.ash_image.proofs.ModuleLaws.{not_there, globals_not_there, changed_by}
use Rattle.ash_image.proofs.leading.change_globals.Goals as goal

pub returns-in_default-clause-missing : goal.returns-in_default-clause-missing
returns-in_default-clause-missing c = λ fails change.
    let modules = c.args.modules.now in
    let same : c.as_str.result.now ≡ string_bytes c.args.changed.name = cc in
    let none : get_by_text modules c.as_str.result.now ≡ None =
    sym c.remove_entry.ensures.value
    ∙ ap (option_map (λ (p : String Global × NamedModule). p.1)) c.in_default.is in
    not_there (string_bytes c.args.changed.name) (all_indexed c.args.changed.globals.items) modules
    (ap (get_by_text modules) (sym same) ∙ none) change

pub returns-then-not-are_globals_there-clause-missing : goal.returns-then-not-are_globals_there-clause-missing
returns-then-not-are_globals_there-clause-missing c = λ fails change.
    let modules = c.args.modules.now in
    let listed = all_indexed c.args.changed.globals.items in
    let same : c.as_str.result.now ≡ string_bytes c.args.changed.name = cc in
    let found : get_by_text modules c.as_str.result.now ≡ Some c.in-Some.module =
    sym c.remove_entry.ensures.value
    ∙ ap (option_map (λ (p : String Global × NamedModule). p.1)) c.in-Some.is in
    let size : c.len.result ≡ length c.in-Some.module.globals.items = omega arith in
    let failed : c.are_globals_there.result ≡ false = grind arith in
    let missing : AreThere listed (length c.in-Some.module.globals.items) → ⊥ =
    failed_there listed (all_indexed c.deref.result.now) c.len.result (length c.in-Some.module.globals.items)
    c.are_globals_there.result c.are_globals_there.ensures.value (ap all_indexed c.deref.ensures.value) size failed in
    globals_not_there (string_bytes c.args.changed.name) listed modules c.in-Some.module
    (ap (get_by_text modules) (sym same) ∙ found) missing change

pub set_globals-requires : goal.set_globals-requires
set_globals-requires c =
    let listed = all_indexed c.args.changed.globals.items in
    let size : c.len.result ≡ length c.in-Some.module.globals.items = omega arith in
    let passed : c.are_globals_there.result ≡ true = grind arith in
    record {
      there = passed_there listed (all_indexed c.deref.result.now) c.len.result (length c.in-Some.module.globals.items)
          c.are_globals_there.result c.are_globals_there.ensures.value (ap all_indexed c.deref.ensures.value) size passed;
    }

pub returns-clause-led : goal.returns-clause-led
returns-clause-led c = λ holds.
    let old = c.args.modules.now in
    let middle = c.remove_entry.new.self in
    let listed = all_indexed c.args.changed.globals.items in
    let same : c.as_str.result.now ≡ string_bytes c.args.changed.name = cc in
    let found : get_by_text old c.as_str.result.now ≡ Some c.in-Some.module =
    sym c.remove_entry.ensures.value
    ∙ ap (option_map (λ (p : String Global × NamedModule). p.1)) c.in-Some.is in
    let size : c.len.result ≡ length c.in-Some.module.globals.items = omega arith in
    let passed : c.are_globals_there.result ≡ true = grind arith in
    let there = passed_there listed (all_indexed c.deref.result.now) c.len.result
    (length c.in-Some.module.globals.items) c.are_globals_there.result c.are_globals_there.ensures.value
    (ap all_indexed c.deref.ensures.value) size passed in
    changed_by (string_bytes c.args.changed.name) c.as_str.result.now (string_bytes c.in-Some.name) listed
    c.in-Some.module (record { source = c.in-Some.module.source; globals = c.set_globals.new.globals }) old middle
    c.insert.new.self same c.in-Some.ensures.same_key found there
    (btree_map_updates_text c.as_str.result.now old middle _ c.remove_entry.ensures.updates)
    (btree_map_updates_text (string_bytes c.in-Some.name) middle c.insert.new.self _ c.in_ok-insert.ensures.updates)
    refl c.set_globals.ensures.led
