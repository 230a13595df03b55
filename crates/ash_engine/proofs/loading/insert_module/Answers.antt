use Rattle.std.proofs.Common.{◌≡◌, ℕ, List, length, Option, unwrap_or, string_bytes, sym, ◌∙◌, ap}
use Rattle.std.specs.List.{position}
use Rattle.std.specs.Ordering.{is_lt}
use Rattle.ash_requests.specs.States.{compare_names}
use Rattle.ash_plain_steps.specs.declared.state.LoadedModule.{LoadedModule}
use Rattle.ash_plain_steps.specs.StateViews.{loaded_seen, modules_seen}
use Rattle.ash_plain_steps.proofs.Places.{inserted_at}
use Rattle.ash_engine.proofs.loading.insert_module.Goals as goal

place_is : (name text : List ℕ) (modules items : List LoadedModule) (found : Option ℕ) (count place : ℕ)
    → text ≡ name → items ≡ modules → count ≡ length modules →
    found ≡ position (λ (m : LoadedModule). is_lt (compare_names text (loaded_seen m).name))
    items → place ≡ unwrap_or found count →
    place ≡ unwrap_or (position (λ (m : LoadedModule). is_lt
    (compare_names name (loaded_seen m).name)) modules) (length modules)
place_is name text modules items found count place t m n f p =
    p ∙ (λ i. unwrap_or (f i) (n i)) ∙ (λ i. unwrap_or
    (position (λ (loaded : LoadedModule). is_lt (compare_names (t i) (loaded_seen loaded).name))
    (m i)) (length modules))

pub returns-clause-by_name : goal.returns-clause-by_name
returns-clause-by_name c =
    let place = place_is (string_bytes c.args.new_module.name)
    c.as_str.result.now c.args.modules.now.items c.deref.result.now c.place_after.result c.len.result
    c.unwrap_or-place.result c.as_str.ensures.value c.deref.ensures.value
    (c.len.ensures ∙ sym c.deref.ensures.len ∙ ap length c.deref.ensures.value)
    c.place_after.ensures.value c.unwrap_or-place.ensures in
    ap (λ (items : List LoadedModule). modules_seen items) c.in_ok-insert.ensures.items
    ∙ inserted_at loaded_seen c.args.modules.now.items c.args.new_module c.unwrap_or-place.result place
