use Rattle.std.proofs.Common.{◌≡◌, ◌∙◌, ap, sym, Bool, true, false, not, List, ℕ, [], ◌∷◌, ◌++◌, cond, refl}
use Rattle.std.specs.Borrow.{Bor}
use Rattle.std.specs.List.{list_any}
use Rattle.std.specs.Str.{bytes_eq}
use Rattle.std.proofs.lemmas.List.{map_push}
use Rattle.ash_registrations.proofs.Mapped.{any_mapped}
use Rattle.ash_check_names.specs.NameIndex.{texts}
use Rattle.ash_check.proofs.names.insert_name.Goals as goal

added : (keys : List (Bor (List ℕ))) (name : Bor (List ℕ)) (any : Bool) → texts (cond any keys (keys ++ name ∷ [])) ≡ cond (not any) (texts keys ++ name.now ∷ []) (texts keys)
added keys name true = refl
added keys name false = map_push (λ (name : Bor (List ℕ)). name.now) keys name

pub returns-clause-new : goal.returns-clause-new
returns-clause-new c = c.in_ok-insert.ensures.added ∙ ap not (sym (any_mapped (bytes_eq c.args.name.now) (λ name. name.now) c.args.names.now.keys))

pub returns-clause-names : goal.returns-clause-names
returns-clause-names c =
    let keys = c.args.names.now.keys in
    let any = list_any (λ key. bytes_eq c.args.name.now key.now) keys in
    ap texts c.in_ok-insert.ensures.keys ∙ added keys c.args.name any ∙ ap (λ new. cond new (texts keys ++ c.args.name.now ∷ []) (texts keys)) (sym c.in_ok-insert.ensures.added)
