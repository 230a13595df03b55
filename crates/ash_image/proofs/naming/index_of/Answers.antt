use Rattle.std.proofs.Common.{◌≡◌, ◌∙◌, ℕ, List, [], ◌∷◌, length, map, string_bytes, ap, true, false, arith}
use Rattle.std.specs.BTreeMap.{keys}
use Rattle.std.specs.Map.Iter.{deref}
use Rattle.std.specs.Ordering.{is_eq}
use Rattle.std.specs.declared.alloc.Global.{Global}
use Rattle.std.specs.declared.string.String.{String}
use Rattle.std.proofs.lemmas.Map.Iter.{rest_more, rest_all}
use Rattle.ash_image.specs.Image.{compare_names}
use Rattle.ash_image.specs.Leading.{index_among}
use Rattle.ash_image.specs.NamedViews.{module_seen}
use Rattle.ash_image.proofs.LeadingLaws.{seen_length}
use Rattle.ash_image.proofs.ModuleLaws.{names_seen}
use Rattle.ash_image.proofs.NamingLaws.{index_here, index_later, index_of_none}
use Rattle.ash_image.proofs.naming.index_of.Goals as goal

pub loop-key-init : goal.loop-key-init
loop-key-init c =
    let same : c.into_iter-key-iterator.result ≡ keys c.args.modules.now = cc in
    let size : c.into_iter-key-iterator.result ≡ c.keys-key-items.result = cc in
    let among = ap (λ (names : List (List ℕ)). index_among names c.args.name.now)
    (ap (map string_bytes) same ∙ names_seen c.args.modules.now.entries) in
    record {
      found = omega (arith, among);
      left = omega (arith, ap length size, c.keys-key-items.ensures.len);
    }

pub returns-then-is_named : goal.returns-then-is_named
returns-then-is_named c =
    let name = c.args.name.now in
    let rest = map string_bytes c.next.new.self in
    let step : c.loop-key.key-iterator ≡ c.in-Some.key.now ∷ c.next.new.self =
    rest_more (deref {X = String Global}) c.loop-key.key-iterator c.next.new.self c.next.result c.in-Some.key
    c.in-Some.is c.next.ensures.steps in
    let is : is_eq (compare_names name (string_bytes c.in-Some.key.now)) ≡ true = cc in
    let here = ap (λ (ks : List (String Global)). index_among (map string_bytes ks) name) step
    ∙ index_here name (string_bytes c.in-Some.key.now) rest is in
    record {
      index = omega (arith, here, c.loop-key.invariant.found);
      within = omega (arith, c.loop-key.invariant.left, seen_length module_seen c.args.modules.now.entries);
    }

pub loop-key-preserved : goal.loop-key-preserved
loop-key-preserved c =
    let name = c.args.name.now in
    let rest = map string_bytes c.next.new.self in
    let step : c.loop-key.key-iterator ≡ c.in-Some.key.now ∷ c.next.new.self =
    rest_more (deref {X = String Global}) c.loop-key.key-iterator c.next.new.self c.next.result c.in-Some.key
    c.in-Some.is c.next.ensures.steps in
    let other : is_eq (compare_names name (string_bytes c.in-Some.key.now)) ≡ false = cc in
    let later = ap (λ (ks : List (String Global)). index_among (map string_bytes ks) name) step
    ∙ index_later name (string_bytes c.in-Some.key.now) rest other in
    record {
      found = omega (arith, later, c.loop-key.invariant.found);
      left = omega (arith, ap length step, c.loop-key.invariant.left);
    }

pub returns : goal.returns
returns c =
    let name = c.args.name.now in
    let none : c.loop-key.key-iterator ≡ [] =
    rest_all (deref {X = String Global}) c.loop-key.key-iterator c.next.new.self c.next.result c.in-None.is
    c.next.ensures.steps in
    let past = ap (λ (ks : List (String Global)). index_among (map string_bytes ks) name) none ∙ index_of_none name in
    record {
      index = omega (arith, past, c.loop-key.invariant.found);
      within = omega (arith, c.loop-key.invariant.left, seen_length module_seen c.args.modules.now.entries);
    }
