-- Entries of objects, as the code has them and as the definitions see them.
use Rattle.std.proofs.Common.{◌≡◌, ℕ, Bool, true, false, cond, List, [], ◌∷◌, refl, sym, ap, subst, ◌∙◌, nat_eq, arith, Option, Some, None, map}
use Rattle.std.specs.Prelude.{filter}
use Rattle.std.specs.Borrow.{Bor}
use Rattle.std.specs.Option.{option_map, option_copied}
use Rattle.std.specs.List.Sorted.{IsStrictlySortedBy}
use Rattle.std.specs.Map.{lookup, keys_of}
use Rattle.std.specs.Ordering.{nat_cmp, match_ordering}
use Rattle.std.specs.declared.cmp.Ordering.{Ordering}
use Rattle.std.proofs.Common.{Less, Equal, Greater}
use Rattle.std.specs.BTreeMap.{is_at, insert_entry}
use Rattle.std.proofs.lemmas.Bool.Decides.{nat_tests}
use Rattle.std.proofs.lemmas.Map.Keys.{IsStrictlyIncreasing-from_sorted}
use Rattle.ash_host.specs.Objects.{Plain, IsInOrder, object_at, with_at}
use Rattle.ash_plain_data.specs.declared.object.Object as object
use Rattle.ash_plain_data.specs.ObjectViews.{object_seen, entry_seen}

is_at_eq : (x y : ℕ) → is_at (nat_cmp x) y ≡ nat_eq x y
is_at_eq x y = grind (arith, nat_tests)

pub seen_at : (n : ℕ) (es : List (ℕ × object.Object)) → object_at n (map entry_seen es) ≡ option_map object_seen (lookup (is_at (nat_cmp n)) es)
seen_at n [] = refl
seen_at n (e ∷ es) =
    ap (λ (o : Option (Plain (List ℕ))). cond (nat_eq n e.0) (Some (object_seen e.1)) o) (seen_at n es)
    ∙ ap (λ (b : Bool). cond b (Some (object_seen e.1)) (option_map object_seen (lookup (is_at (nat_cmp n)) es))) (sym (is_at_eq n e.0))
    ∙ either (is_at (nat_cmp n) e.0) (Some e.1) (lookup (is_at (nat_cmp n)) es)
  where
    either : (b : Bool) (x y : Option object.Object) → cond b (option_map object_seen x) (option_map object_seen y) ≡ option_map object_seen (cond b x y)
    either true x y = refl
    either false x y = refl

pub found_at : (n : ℕ) (es : List (ℕ × object.Object)) (r : Option (Bor object.Object)) → option_copied r ≡ lookup (is_at (nat_cmp n)) es → option_map (λ (o : Bor object.Object). object_seen o.now) r ≡ object_at n (map entry_seen es)
found_at n es r h = both r ∙ ap (option_map object_seen) h ∙ sym (seen_at n es)
  where
    both : (r : Option (Bor object.Object)) → option_map (λ (o : Bor object.Object). object_seen o.now) r ≡ option_map object_seen (option_copied r)
    both None = refl
    both (Some o) = refl

pub seen_with : (n : ℕ) (o : object.Object) (es : List (ℕ × object.Object)) → map entry_seen (insert_entry nat_cmp es n o) ≡ with_at n (object_seen o) (map entry_seen es)
seen_with n o [] = refl
seen_with n o (e ∷ es) =
    placed (nat_cmp n e.0) ∙ ap (λ (l : List (ℕ × Plain (List ℕ))). match_ordering (nat_cmp n e.0) ((n, object_seen o) ∷ entry_seen e ∷ map entry_seen es) ((e.0, object_seen o) ∷ map entry_seen es) (entry_seen e ∷ l)) (seen_with n o es)
  where
    placed : (b : Ordering) → map entry_seen (match_ordering b ((n, o) ∷ e ∷ es) ((e.0, o) ∷ es) (e ∷ insert_entry nat_cmp es n o)) ≡ match_ordering b ((n, object_seen o) ∷ entry_seen e ∷ map entry_seen es) ((e.0, object_seen o) ∷ map entry_seen es) (entry_seen e ∷ map entry_seen (insert_entry nat_cmp es n o))
    placed Less = refl
    placed Equal = refl
    placed Greater = refl

pub seen_filter : (p : ℕ → Bool) (es : List (ℕ × object.Object)) → map entry_seen (filter (λ (e : ℕ × object.Object). p e.0) es) ≡ filter (λ (e : ℕ × Plain (List ℕ)). p e.0) (map entry_seen es)
seen_filter p [] = refl
seen_filter p (e ∷ es) =
    kept (p e.0) ∙ ap (λ (l : List (ℕ × Plain (List ℕ))). cond (p e.0) (entry_seen e ∷ l) l) (seen_filter p es)
  where
    kept : (b : Bool) → map entry_seen (cond b (e ∷ filter (λ (x : ℕ × object.Object). p x.0) es) (filter (λ (x : ℕ × object.Object). p x.0) es)) ≡ cond b (entry_seen e ∷ map entry_seen (filter (λ (x : ℕ × object.Object). p x.0) es)) (map entry_seen (filter (λ (x : ℕ × object.Object). p x.0) es))
    kept true = refl
    kept false = refl

seen_numbers : (es : List (ℕ × object.Object)) → keys_of (map entry_seen es) ≡ keys_of es
seen_numbers [] = refl
seen_numbers (e ∷ es) = ap (λ (ns : List ℕ). e.0 ∷ ns) (seen_numbers es)

-- entries whose keys ascend are in order
pub seen_in_order : (es : List (ℕ × object.Object)) → IsStrictlySortedBy nat_cmp (keys_of es) → IsInOrder (map entry_seen es)
seen_in_order es h = IsStrictlyIncreasing-from_sorted (keys_of (map entry_seen es)) (subst (IsStrictlySortedBy nat_cmp) (sym (seen_numbers es)) h)
