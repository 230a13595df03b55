-- The places at which words differ.
use Rattle.std.proofs.Common.{◌≡◌, ◌<◌, ◌≤◌, ◌+◌, ◌++◌, ℕ, suc, Bool, true, false, List, [], ◌∷◌, length, refl, sym, ap, ◌∙◌, subst, slice_get, get_or, ⊎_elim, inl, inr, arith}
use Rattle.std.specs.Prelude.{◌≢◌, ◌↔◌, Some, Contains, slice_index}
use Rattle.std.specs.List.Sorted.{IsStrictlyIncreasing}
use Rattle.std.proofs.lemmas.Bool.{cases_lt}
use Rattle.std.proofs.lemmas.List.{get_or_append_left, get_or_push, length-append}
use Rattle.std.proofs.lemmas.List.Elements.{Contains-push, Contains-push_cases, Contains-append_left, Contains-get_or}
use Rattle.std.proofs.lemmas.Option.{same_Some}
use Rattle.ash_host.specs.declared.word.Word.{Word}
use Rattle.ash_host.specs.Records.{is_same_word}
use Rattle.ash_host.proofs.RecordLaws.{word_decides}
use Rattle.ash_engine.specs.NamedChanges.{AreOthers}

-- the places below a number at which words differ, in ascending order
pub record AreOthersBelow (before after : List Word) (limit : ℕ) (places : List ℕ) : Type 0 where
  pub others : (place : ℕ) → Contains places place
      ↔ ((place < limit) × (slice_get after place ≢ slice_get before place))
  pub rise : IsStrictlyIncreasing places
  pub within : limit ≤ length before

pub none_below : (before after : List Word) → AreOthersBelow before after 0 []
none_below before after = record {
  others = λ place. (
    λ is. absurd (let few = is.1 in omega (arith, few)),
    λ both. absurd (let low = both.0 in omega (arith, low)),
  );
  rise = λ k within. absurd (omega (arith, within));
  within = omega arith;
}

-- a number above all of the list
rise_push : (xs : List ℕ) (n : ℕ) → IsStrictlyIncreasing xs → ((m : ℕ) → Contains xs m → m < n)
    → IsStrictlyIncreasing (xs ++ n ∷ [])
rise_push xs n rise below k within = ⊎_elim
    (λ inside.
    let one : get_or (xs ++ n ∷ []) k 0 ≡ get_or xs k 0 = get_or_append_left xs (n ∷ []) 0 k (omega (arith, inside)) in
    let two : get_or (xs ++ n ∷ []) (k + 1) 0 ≡ get_or xs (k + 1) 0 = get_or_append_left xs (n ∷ []) 0 (k + 1) inside in
    let less : get_or xs k 0 < get_or xs (k + 1) 0 = rise k inside in
    let next : get_or (xs ++ n ∷ []) k 0 < get_or (xs ++ n ∷ []) (k + 1) 0 = omega (arith, one, two, less) in
    next)
    (λ past.
    let long : length (xs ++ n ∷ []) ≡ length xs + 1 = length-append xs (n ∷ []) in
    let last : length xs ≡ k + 1 = omega (arith, long, past, within) in
    let one : get_or (xs ++ n ∷ []) k 0 ≡ get_or xs k 0 = get_or_append_left xs (n ∷ []) 0 k (omega (arith, last)) in
    let two : get_or (xs ++ n ∷ []) (k + 1) 0 ≡ n = get_or_push xs n 0 (k + 1) last in
    let less : get_or xs k 0 < n = below (get_or xs k 0) (Contains-get_or xs k 0 (omega (arith, last))) in
    let next : get_or (xs ++ n ∷ []) k 0 < get_or (xs ++ n ∷ []) (k + 1) 0 = omega (arith, one, two, less) in
    next)
    (cases_lt (k + 1) (length xs))

pub other_more : (before after : List Word) (limit : ℕ) (places : List ℕ)
    → limit < length before → (slice_get after limit ≢ slice_get before limit) → AreOthersBelow before after limit places
    → AreOthersBelow before after (limit + 1) (places ++ limit ∷ [])
other_more before after limit places inside differ are = record {
  others = λ place. (
    λ is. ⊎_elim
        (λ old. let both = (are.others place).0 old in (let low = both.0 in omega (arith, low), both.1))
        (λ same. (omega (arith, same), subst (λ (p : ℕ). slice_get after p ≢ slice_get before p) same differ))
        (Contains-push_cases places limit place is),
    λ both. ⊎_elim
        (λ low. Contains-append_left places (limit ∷ []) place ((are.others place).1 (low, both.1)))
        (λ past. let low = both.0 in
        let same : limit ≡ place = omega (arith, low, past) in
        subst (λ (p : ℕ). Contains (places ++ limit ∷ []) p) same (Contains-push places limit))
        (cases_lt place limit),
  );
  rise = rise_push places limit are.rise (λ m is. ((are.others m).0 is).0);
  within = omega (arith, inside);
}

pub other_passed : (before after : List Word) (limit : ℕ) (places : List ℕ)
    → limit < length before → slice_get after limit ≡ slice_get before limit → AreOthersBelow before after limit places
    → AreOthersBelow before after (limit + 1) places
other_passed before after limit places inside same are = record {
  others = λ place. (
    λ is. let both = (are.others place).0 is in (let low = both.0 in omega (arith, low), both.1),
    λ both. ⊎_elim
        (λ low. (are.others place).1 (low, both.1))
        (λ past. let low = both.0 in
        let here : limit ≡ place = omega (arith, low, past) in
        absurd (both.1 (subst (λ (p : ℕ). slice_get after p ≡ slice_get before p) here same)))
        (cases_lt place limit),
  );
  rise = are.rise;
  within = omega (arith, inside);
}

pub others_all : (before after : List Word) (limit : ℕ) (places : List ℕ) → length before ≤ limit
    → AreOthersBelow before after limit places → AreOthers before after places
others_all before after limit places past are =
    let within = are.within in
    let same : limit ≡ length before = omega (arith, past, within) in
    (subst (λ (n : ℕ). AreOthersBelow before after n places) same are).others

-- words of which none is another are the same

one_word : (a b : Word) → ((Some a ≢ Some b) → ⊥) → a ≡ b
one_word a b h = by (is_same_word a b) refl
  where
    by : (t : Bool) → is_same_word a b ≡ t → a ≡ b
    by true is = (word_decides a b).0 is
    by false is = absurd (h (λ e. let same : a ≡ b = same_Some a b e in let yes = (word_decides a b).1 same in cc))

none_there : {A : Type 0} (x : A) → Contains [] x → ⊥
none_there x is = omega (arith, is.1)

pub none_other : (before after : List Word) → length after ≡ length before → AreOthers before after [] → after ≡ before
none_other [] [] many others = refl
none_other [] (a ∷ after) many others = absurd (omega (arith, many))
none_other (b ∷ before) [] many others = absurd (omega (arith, many))
none_other (b ∷ before) (a ∷ after) many others =
    let first : a ≡ b = one_word a b (λ differ. none_there 0 ((others 0).1 (omega arith, differ))) in
    let rest : after ≡ before = none_other before after (omega (arith, many)) (λ place. (
      λ is. absurd (none_there place is),
      λ both. absurd (none_there (suc place) ((others (suc place)).1 (let low = both.0 in omega (arith, low), both.1))),
    )) in
    (λ i. first i ∷ rest i)
