use Rattle.std.proofs.lemmas.Grind.{common_steps}
use Rattle.std.proofs.Common.{rules, ◌≡◌, ◌∙◌, false, ◌∷◌, [], ◌++◌, length, string_bytes, sym, arith}
use Rattle.std.specs.List.{list_any}
use Rattle.std.proofs.lemmas.Map.Text.{hash_map_updates_text}
use Rattle.ash_registrations.specs.Registrations.{registration_of, takes_name}
use Rattle.ash_registrations.proofs.Mapped.{any_mapped}
use Rattle.ash_registrations.proofs.Places.{place_of_new}
use Rattle.ash_registrations.proofs.registrations.Registrations.add_named.Goals as goal

pub invariant_of-self-2-clause-placed : goal.invariant_of-self-2-clause-placed
invariant_of-self-2-clause-placed c = λ name.
    let items = c.args.self.now.registrations.items in
    let free : list_any (λ r. takes_name (string_bytes c.args.key) (registration_of r)) items ≡ false =
    sym (any_mapped (takes_name (string_bytes c.args.key)) registration_of items) ∙ c.requires.free in
    let more : c.push.new.self.items ≡ items ++ c.args.registration ∷ [] =
    first_of (search rules, grind (arith, common_steps), cc) in
    let last : c.len-4.result ≡ length items = first_of (search rules, grind (arith, common_steps), omega arith) in
    hash_map_updates_text (string_bytes c.args.key) c.args.self.now.names c.insert.new.self _
    c.in_ok-insert.ensures.updates name
    ∙ place_of_new (λ n r. takes_name n (registration_of r)) items c.push.new.self.items c.args.registration
    (string_bytes c.args.key) name _ c.len-4.result c.requires.named free (c.args.self.now.placed name) last more
