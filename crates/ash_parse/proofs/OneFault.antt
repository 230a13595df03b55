-- Tokens have one first fault at most: of two, the later one would have a module go on
-- where the other says that none does.
use Rattle.std.proofs.Common.{◌≡◌, ℕ, zero, suc, ◌+◌, ◌<◌, ◌≤◌, ◌⊎◌, inl, inr, List, [], ◌∷◌, ◌++◌, length, Ok, Err, refl, sym, ap, subst, ◌∙◌, append_assoc, length-append, arith}
use Rattle.std.proofs.lemmas.List.{append-nil}
use Rattle.ash_lex.specs.Tokens.{Meaning, reserved}
use Rattle.ash_lex.specs.declared.words.ReservedWord.TheVariants as words
use Rattle.ash_tree.specs.declared.tree.places.Position.{Position}
use Rattle.ash_tree.specs.Tree.{Element, Item, Declaration}
use Rattle.ash_tree.specs.GrammarTokens.{Tokens}
use Rattle.ash_tree.specs.Types.{IsElement}
use Rattle.ash_tree.specs.Grammar.{Derives, Declares}
use Rattle.ash_parse.specs.Readers.{Halt, Unexpected, TooDeep}
use Rattle.ash_parse.specs.ItemReader.{module_at}
use Rattle.ash_parse.specs.Unique.{HasOneFault, HasNotBoth, HasOneDeclarationFault, HasNotBothDeclared}
use Rattle.ash_parse.specs.FirstFault.{Begun, NoneGoesOn, LeavesOpen, NoneKeeps, GoesTooDeep, NoneWithin, FirstParseFault, NoDeclarationGoesOn, FirstDeclarationFault}
use Rattle.ash_parse.proofs.BeginLaws.{left_at}
use Rattle.ash_parse.proofs.BeginItems.{begun_deep, some_token_deep}
use Rattle.ash_parse.proofs.ItemComplete.{module_cut}
use Rattle.ash_parse.proofs.WholeModules.{module_derived}
use Rattle.ash_parse.proofs.KeepsItems.{none_deep_inside}
use Rattle.ash_parse.proofs.ModuleFreer.{derives_freer}

pub beginnings : (a b : Meaning × Position) (s r : Tokens) → ◌≡◌ {A = Tokens} (a ∷ s) (b ∷ r) → a ≡ b
beginnings a b s r h = cc

pub tails : (a b : Meaning × Position) (s r : Tokens) → ◌≡◌ {A = Tokens} (a ∷ s) (b ∷ r) → s ≡ r
tails a b s r h = cc

prefixed : (a b : Meaning × Position) (s r : Tokens) → a ≡ b → s ≡ r → ◌≡◌ {A = Tokens} (a ∷ s) (b ∷ r)
prefixed a b s r h k = cc

-- where one prefix is longer, it goes on with what is after the other
pub split : (f r g s : Tokens) → f ++ r ≡ g ++ s → length s < length r → (t : Meaning × Position) × (mid : Tokens) × (g ≡ f ++ t ∷ mid) × (r ≡ t ∷ (mid ++ s))
split [] r [] s e l = let k : length r ≡ length s = ap length e in absurd (omega arith)
split [] r (x ∷ g) s e l = (x, g, refl, e)
split (a ∷ f) r [] s e l = let k : length (a ∷ (f ++ r)) ≡ length s = ap length e in let n = length-append f r in absurd (omega arith)
split (a ∷ f) r (b ∷ g) s e l =
    let q = split f r g s (tails a b (f ++ r) (g ++ s) e) l in
    (q.0, q.1, prefixed b a g (f ++ q.0 ∷ q.1) (sym (beginnings a b (f ++ r) (g ++ s) e)) q.2, q.3)

pub same_place : (f r g s : Tokens) → f ++ r ≡ g ++ s → length r ≡ length s → (f ≡ g) × (r ≡ s)
same_place [] r [] s e l = (refl, e)
same_place [] r (x ∷ g) s e l = let k : length r ≡ length (x ∷ (g ++ s)) = ap length e in let n = length-append g s in absurd (omega arith)
same_place (a ∷ f) r [] s e l = let k : length (a ∷ (f ++ r)) ≡ length s = ap length e in let n = length-append f r in absurd (omega arith)
same_place (a ∷ f) r (b ∷ g) s e l =
    let q = same_place f r g s (tails a b (f ++ r) (g ++ s) e) l in
    (prefixed a b f g (beginnings a b (f ++ r) (g ++ s) e) q.0, q.1)

three : (m n : ℕ) → (m < n) ⊎ ((m ≡ n) ⊎ (n < m))
three zero zero = inr (inl refl)
three zero (suc n) = inl (omega arith)
three (suc m) zero = inr (inr (omega arith))
three (suc m) (suc n) = further (three m n)
  where
    further : (m < n) ⊎ ((m ≡ n) ⊎ (n < m)) → (suc m < suc n) ⊎ ((suc m ≡ suc n) ⊎ (suc n < suc m))
    further (inl h) = inl (omega arith)
    further (inr (inl h)) = inr (inl (omega arith))
    further (inr (inr h)) = inr (inr (omega arith))

-- of two places in tokens, one is the later, or they are the same
pub by_place : (Q : Type 0) (r s : Tokens) → (length s < length r → Q) → (length r ≡ length s → Q) → (length r < length s → Q) → Q
by_place Q r s before same after = by_order (three (length r) (length s))
  where
    by_order : (length r < length s) ⊎ ((length r ≡ length s) ⊎ (length s < length r)) → Q
    by_order (inl h) = after h
    by_order (inr (inl h)) = same h
    by_order (inr (inr h)) = before h

no_first : (a b : Tokens) → a ++ b ≡ [] → a ≡ []
no_first [] b e = refl
no_first (x ∷ a) b e = let k : length (x ∷ (a ++ b)) ≡ 0 = ap length e in absurd (omega arith)

not_none : (a b : Tokens) (x : Meaning × Position) → a ++ x ∷ b ≡ [] → ⊥
not_none a b x e = let k : length (a ++ x ∷ b) ≡ 0 = ap length e in let n = length-append a (x ∷ b) in absurd (omega arith)

-- what begins tokens that leave open what `t` begins leaves it open too
leaves_less : (t : Meaning × Position) (a b : Tokens) → LeavesOpen t (a ++ b) → LeavesOpen t a
leaves_less t a b (inl e) = inl (no_first a b e)
leaves_less t a b (inr d) = inr (d.0, b ++ d.1, d.2, subst (λ (l : Tokens). IsElement l d.2 []) (append_assoc a b d.1) d.3)

-- `t` is the word `array`, and `u` is in its `"<" elem ">"`, after `mid`
abbrev IsInside : Meaning × Position → Tokens → Meaning × Position → Type 0
IsInside t mid u = (t.0 ≡ reserved words.Array) × (tail : Tokens) × (of : Element) × IsElement (mid ++ u ∷ tail) of []

inside_seen : (t : Meaning × Position) (mid more : Tokens) (u : Meaning × Position) → LeavesOpen t (mid ++ u ∷ more) → IsInside t mid u
inside_seen t mid more u (inl e) = absurd (not_none mid more u e)
inside_seen t mid more u (inr d) = (d.0, more ++ d.1, d.2, subst (λ (l : Tokens). IsElement l d.2 []) (append_assoc mid (u ∷ more) d.1) d.3)

-- a module that goes on after `t` has `t` too deep, where each does that has the same tokens after it
-- as far as they count
module _ (less : Tokens) (t : Meaning × Position) (mid tail rest : Tokens) (u : Meaning × Position) (free : ℕ) (items : List Item) (inside : IsInside t mid u → ⊥) (d : Derives free (less ++ t ∷ (mid ++ u ∷ tail)) items) (few : free ≤ suc (length tail)) where
  at_same : NoneKeeps less t mid (u ∷ rest) → ⊥
  at_same none = none tail items (derives_freer d (length mid + suc (length tail)) (omega arith))

  at_later : (seen after : Tokens) (x : Meaning × Position) → mid ≡ seen ++ x ∷ after → NoneKeeps less t seen (x ∷ (after ++ u ∷ rest)) → ⊥
  at_later seen after x e none =
      let is : mid ++ u ∷ tail ≡ seen ++ x ∷ (after ++ u ∷ tail) = ap (λ (l : Tokens). l ++ u ∷ tail) e ∙ append_assoc seen (x ∷ after) (u ∷ tail) in
      let n : length (after ++ u ∷ tail) ≡ length after + length (u ∷ tail) = length-append after (u ∷ tail) in
      none (after ++ u ∷ tail) items (derives_freer (subst (λ (l : Tokens). Derives free (less ++ t ∷ l) items) is d) (length seen + suc (length (after ++ u ∷ tail))) (omega arith))

  pub within_later : NoneWithin less t (mid ++ u ∷ rest) → ⊥
  within_later w =
      by_place ⊥ (u ∷ rest) w.1
      (λ k. let q = split mid (u ∷ rest) w.0 w.1 w.2 k in
      let same : u ≡ q.0 = beginnings u q.0 rest (q.1 ++ w.1) q.3 in
      inside (inside_seen t mid q.1 u (subst (λ (l : Tokens). LeavesOpen t l) (q.2 ∙ ap (λ (a : Meaning × Position). mid ++ a ∷ q.1) (sym same)) w.3)))
      (λ k. let q = same_place mid (u ∷ rest) w.0 w.1 w.2 k in
      at_same (subst (λ (l : Tokens). NoneKeeps less t l (u ∷ rest)) (sym q.0) (subst (λ (l : Tokens). NoneKeeps less t w.0 l) (sym q.1) w.4)))
      (λ k. let q = split w.0 w.1 mid (u ∷ rest) (sym w.2) k in
      at_later w.0 q.1 q.0 q.2 (subst (λ (l : Tokens). NoneKeeps less t w.0 l) q.3 w.4))

-- no module has `t` within the depth
none_whole : (less : Tokens) (t : Meaning × Position) (seen after : Tokens) (items : List Item) → NoneKeeps less t seen after → Derives 0 (less ++ t ∷ (seen ++ after)) items → ⊥
none_whole less t seen [] items none d = none items (derives_freer (subst (λ (l : Tokens). Derives 0 (less ++ t ∷ l) items) (append-nil seen) d) (length seen) (omega arith))
none_whole less t seen (u ∷ after) items none d = none after items (derives_freer d (length seen + suc (length after)) (omega arith))

pub whole_within : (less : Tokens) (t : Meaning × Position) (rest : Tokens) (items : List Item) → NoneWithin less t rest → Derives 0 (less ++ t ∷ rest) items → ⊥
whole_within less t rest items w d = none_whole less t w.0 w.1 items w.4 (subst (λ (l : Tokens). Derives 0 (less ++ t ∷ l) items) w.2 d)

-- where only `t` and what is after it are free, and `t` is too deep, reading is cut there
pub cut_there : (less tail : Tokens) (t : Meaning × Position) (items : List Item) → Derives (suc (length tail)) (less ++ t ∷ tail) items → NoneWithin less t tail → (module_at (less ++ t ∷ tail) ≡ Ok (items, [])) ⊎ ((rest : Tokens) × (module_at (less ++ t ∷ tail) ≡ Err (TooDeep rest)) × (length rest ≤ suc (length tail))) → module_at (less ++ t ∷ tail) ≡ Err (TooDeep (t ∷ tail))
cut_there less tail t items d none (inl e) = absurd (whole_within less t tail items none (module_derived (less ++ t ∷ tail) items [] e))
cut_there less tail t items d none (inr ([], e, l)) = absurd (some_token_deep (less ++ t ∷ tail) e)
cut_there less tail t items d none (inr (u ∷ rest, e, l)) =
    let b = begun_deep (less ++ t ∷ tail) rest u e in
    by_place (module_at (less ++ t ∷ tail) ≡ Err (TooDeep (t ∷ tail))) (t ∷ tail) (u ∷ rest)
    (λ k. let q = split less (t ∷ tail) b.0 (u ∷ rest) b.3 k in
    let same : t ≡ q.0 = beginnings t q.0 tail (q.1 ++ u ∷ rest) q.3 in
    let after : tail ≡ q.1 ++ u ∷ rest = tails t q.0 tail (q.1 ++ u ∷ rest) q.3 in
    let f : b.0 ≡ less ++ t ∷ q.1 = q.2 ∙ ap (λ (a : Meaning × Position). less ++ a ∷ q.1) (sym same) in
    let g : Derives (suc (length b.1)) ((less ++ t ∷ q.1) ++ u ∷ b.1) b.2 = subst (λ (l : Tokens). Derives (suc (length b.1)) (l ++ u ∷ b.1) b.2) f b.5 in
    absurd (within_later less t q.1 b.1 rest u (suc (length b.1)) b.2 (λ s. none_deep_inside less q.1 rest s.1 t u s.2 s.0 s.3 (subst (λ (l : Tokens). module_at (less ++ t ∷ l) ≡ Err (TooDeep (u ∷ rest))) after e)) (subst (λ (l : Tokens). Derives (suc (length b.1)) l b.2) (append_assoc less (t ∷ q.1) (u ∷ b.1)) g) (omega arith) (subst (NoneWithin less t) after none)))
    (λ k. e ∙ ap (λ (l : Tokens). Err (TooDeep l)) (sym (same_place less (t ∷ tail) b.0 (u ∷ rest) b.3 k).1))
    (λ k. absurd (omega arith))

-- tokens that have a fault are no module
pub no_module : (ts : Tokens) (h : Halt) (items : List Item) → FirstParseFault ts h → Derives 0 ts items → ⊥
no_module ts (Unexpected []) items h d = h.3 0 items (subst (λ (l : Tokens). Derives 0 l items) (h.1 ∙ append-nil h.0) d)
no_module ts (Unexpected (t ∷ rest)) items h d = h.3 0 rest items (subst (λ (l : Tokens). Derives 0 l items) h.1 d)
no_module ts (TooDeep []) items h d = h
no_module ts (TooDeep (t ∷ rest)) items h d = whole_within h.0 t rest items h.4 (subst (λ (l : Tokens). Derives 0 l items) h.1 d)

pub not_both_had : (ts : Tokens) → HasNotBoth ts
not_both_had ts items h d first = no_module ts h items first d

-- tokens that go on begin no module
begun_on : (f g r mid more : Tokens) (t : Meaning × Position) → g ≡ f ++ t ∷ mid → r ≡ t ∷ more → NoneGoesOn f r → Begun g → ⊥
begun_on f g r mid more t e k none b =
    let d : Derives (length b.0) ((f ++ t ∷ mid) ++ b.0) b.1 = subst (λ (l : Tokens). Derives (length b.0) (l ++ b.0) b.1) e b.2 in
    subst (NoneGoesOn f) k none (length b.0) (mid ++ b.0) b.1 (subst (λ (l : Tokens). Derives (length b.0) l b.1) (append_assoc f (t ∷ mid) b.0) d)

-- what is before a fault
abbrev prefix_before : (ts : Tokens) (h : Halt) → FirstParseFault ts h → (prefix : Tokens) × (ts ≡ prefix ++ left_at h) × Begun prefix
prefix_before ts (Unexpected rest) h = (h.0, h.1, h.2)
prefix_before ts (TooDeep []) h = absurd h
prefix_before ts (TooDeep (t ∷ rest)) h = (h.0, h.1, h.2)

-- no token is too deep inside an array's `"<" elem ">"`
none_inside : (f g mid : Tokens) (t u : Meaning × Position) → g ≡ f ++ t ∷ mid → IsInside t mid u → GoesTooDeep g u → ⊥
none_inside f g mid t u e s deep =
    let tail = deep.0 in
    let is : g ++ u ∷ tail ≡ f ++ t ∷ (mid ++ u ∷ tail) = ap (λ (l : Tokens). l ++ u ∷ tail) e ∙ append_assoc f (t ∷ mid) (u ∷ tail) in
    none_deep_inside f mid tail s.1 t u s.2 s.0 s.3 (ap module_at (sym is) ∙ cut_there g tail u deep.1 deep.2 deep.3 (module_cut (suc (length tail)) (g ++ u ∷ tail) deep.1 deep.2))

-- no fault is where it is open what a token begins that is too deep
module _ (f mid : Tokens) (t : Meaning × Position) (deep : GoesTooDeep f t) where
  open_deep : (ts : Tokens) (k : Halt) → (fault : FirstParseFault ts k) → (prefix_before ts k fault).0 ≡ f ++ t ∷ mid → LeavesOpen t mid → ((u : Meaning × Position) (rest : Tokens) → left_at k ≡ u ∷ rest → GoesTooDeep (prefix_before ts k fault).0 u → ⊥) → ⊥
  open_deep ts (Unexpected rest) fault e leaves cut = fault.4 f t mid e leaves deep
  open_deep ts (TooDeep []) fault e leaves cut = fault
  open_deep ts (TooDeep (u ∷ rest)) fault e leaves cut = cut u rest refl fault.3

  -- where the token after it decides, it is not too deep
  none_next : (g : Tokens) (u : Meaning × Position) (rest : Tokens) → g ≡ f ++ t ∷ mid → NoneKeeps f t mid (u ∷ rest) → GoesTooDeep g u → ⊥
  none_next g u rest e none more =
      let is : g ++ u ∷ more.0 ≡ f ++ t ∷ (mid ++ u ∷ more.0) = ap (λ (l : Tokens). l ++ u ∷ more.0) e ∙ append_assoc f (t ∷ mid) (u ∷ more.0) in
      none more.0 more.1 (derives_freer (subst (λ (l : Tokens). Derives (suc (length more.0)) l more.1) is more.2) (length mid + suc (length more.0)) (omega arith))

  none_begun : (g seen after rest : Tokens) (x : Meaning × Position) → g ≡ f ++ t ∷ mid → mid ≡ seen ++ x ∷ after → NoneKeeps f t seen (x ∷ (after ++ rest)) → Begun g → ⊥
  none_begun g seen after rest x e m none b =
      let is : g ++ b.0 ≡ f ++ t ∷ (seen ++ x ∷ (after ++ b.0)) =
      ap (λ (l : Tokens). l ++ b.0) e ∙ append_assoc f (t ∷ mid) b.0 ∙ ap (λ (l : Tokens). f ++ t ∷ l) (ap (λ (l : Tokens). l ++ b.0) m ∙ append_assoc seen (x ∷ after) b.0) in
      let n : length (after ++ b.0) ≡ length after + length b.0 = length-append after b.0 in
      none (after ++ b.0) b.1 (derives_freer (subst (λ (l : Tokens). Derives (length b.0) l b.1) is b.2) (length seen + suc (length (after ++ b.0))) (omega arith))

  after_deep : (ts : Tokens) (k : Halt) → (fault : FirstParseFault ts k) → (prefix_before ts k fault).0 ≡ f ++ t ∷ mid → NoneWithin f t (mid ++ left_at k) → ⊥
  after_deep ts k fault e w =
      let g = (prefix_before ts k fault).0 in
      by_place ⊥ (left_at k) w.1
      (λ l. let q = split mid (left_at k) w.0 w.1 w.2 l in
      let leaves : LeavesOpen t (mid ++ q.0 ∷ q.1) = subst (λ (l : Tokens). LeavesOpen t l) q.2 w.3 in
      open_deep ts k fault e (leaves_less t mid (q.0 ∷ q.1) leaves) (λ u rest is cut.
      let same : q.0 ≡ u = beginnings q.0 u (q.1 ++ w.1) rest (sym q.3 ∙ is) in
      none_inside f g mid t u e (inside_seen t mid q.1 u (subst (λ (a : Meaning × Position). LeavesOpen t (mid ++ a ∷ q.1)) same leaves)) cut))
      (λ l. let q = same_place mid (left_at k) w.0 w.1 w.2 l in
      open_deep ts k fault e (subst (λ (l : Tokens). LeavesOpen t l) (sym q.0) w.3) (λ u rest is cut.
      none_next g u rest e (subst (λ (l : Tokens). NoneKeeps f t l (u ∷ rest)) (sym q.0) (subst (λ (l : Tokens). NoneKeeps f t w.0 l) (sym q.1 ∙ is) w.4)) cut))
      (λ l. let q = split w.0 w.1 mid (left_at k) (sym w.2) l in
      none_begun g w.0 q.1 (left_at k) q.0 e q.2 (subst (λ (l : Tokens). NoneKeeps f t w.0 l) q.3 w.4) (prefix_before ts k fault).2)

-- of two faults none is the later
later : (ts : Tokens) (h k : Halt) → FirstParseFault ts h → FirstParseFault ts k → length (left_at k) < length (left_at h) → ⊥
later ts (Unexpected rest) k h fault l =
    let p = prefix_before ts k fault in
    let q = split h.0 rest p.0 (left_at k) (sym h.1 ∙ p.1) l in
    begun_on h.0 p.0 rest q.1 (q.1 ++ left_at k) q.0 q.2 q.3 h.3 p.2
later ts (TooDeep []) k h fault l = h
later ts (TooDeep (t ∷ rest)) k h fault l =
    let p = prefix_before ts k fault in
    let q = split h.0 (t ∷ rest) p.0 (left_at k) (sym h.1 ∙ p.1) l in
    let e : t ≡ q.0 = beginnings t q.0 rest (q.1 ++ left_at k) q.3 in
    after_deep h.0 q.1 t h.3 ts k fault (q.2 ∙ ap (λ (a : Meaning × Position). h.0 ++ a ∷ q.1) (sym e)) (subst (NoneWithin h.0 t) (tails t q.0 rest (q.1 ++ left_at k) q.3) h.4)

-- a token fits nowhere, or is too deep
not_both : (f g r s : Tokens) (t : Meaning × Position) → f ≡ g → r ≡ t ∷ s → NoneGoesOn f r → GoesTooDeep g t → ⊥
not_both f g r s t e k none deep =
    subst (λ (l : Tokens). NoneGoesOn l (t ∷ s)) e (subst (NoneGoesOn f) k none) (suc (length deep.0)) deep.0 deep.1 deep.2

same_fault : (ts : Tokens) (h k : Halt) → FirstParseFault ts h → FirstParseFault ts k → length (left_at h) ≡ length (left_at k) → h ≡ k
same_fault ts (Unexpected r) (Unexpected s) h k e = ap Unexpected (same_place h.0 r k.0 s (sym h.1 ∙ k.1) e).1
same_fault ts (Unexpected r) (TooDeep []) h k e = absurd k
same_fault ts (Unexpected r) (TooDeep (t ∷ s)) h k e = let q = same_place h.0 r k.0 (t ∷ s) (sym h.1 ∙ k.1) e in absurd (not_both h.0 k.0 r s t q.0 q.1 h.3 k.3)
same_fault ts (TooDeep []) k h fault e = absurd h
same_fault ts (TooDeep (t ∷ r)) (Unexpected s) h k e = let q = same_place h.0 (t ∷ r) k.0 s (sym h.1 ∙ k.1) e in absurd (not_both k.0 h.0 s r t (sym q.0) (sym q.1) k.3 h.3)
same_fault ts (TooDeep (t ∷ r)) (TooDeep []) h k e = absurd k
same_fault ts (TooDeep (t ∷ r)) (TooDeep (u ∷ s)) h k e = ap TooDeep (same_place h.0 (t ∷ r) k.0 (u ∷ s) (sym h.1 ∙ k.1) e).1

-- tokens have one first fault at most
pub one_fault : (ts : Tokens) → HasOneFault ts
one_fault ts h k first second = by_place (h ≡ k) (left_at h) (left_at k) (λ l. absurd (later ts h k first second l)) (same_fault ts h k first second) (λ l. absurd (later ts k h second first l))

later_declared : (ts r s : Tokens) → FirstDeclarationFault ts (Unexpected r) → FirstDeclarationFault ts (Unexpected s) → length s < length r → ⊥
later_declared ts r s h k l =
    let q = split h.0 r k.0 s (sym h.1 ∙ k.1) l in
    let b = k.2 in
    let d : Declares ((h.0 ++ q.0 ∷ q.1) ++ b.0) b.1 = subst (λ (l : Tokens). Declares (l ++ b.0) b.1) q.2 b.2 in
    subst (NoDeclarationGoesOn h.0) q.3 h.3 (q.1 ++ b.0) b.1 (subst (λ (l : Tokens). Declares l b.1) (append_assoc h.0 (q.0 ∷ q.1) b.0) d)

-- and so have the tokens of a declaration
pub one_declaration_fault : (ts : Tokens) → HasOneDeclarationFault ts
one_declaration_fault ts (Unexpected r) (Unexpected s) h k = by_place (Unexpected r ≡ Unexpected s) r s (λ l. absurd (later_declared ts r s h k l)) (λ e. ap Unexpected (same_place h.0 r k.0 s (sym h.1 ∙ k.1) e).1) (λ l. absurd (later_declared ts s r k h l))
one_declaration_fault ts (Unexpected r) (TooDeep s) h k = absurd k
one_declaration_fault ts (TooDeep r) k h fault = absurd h

-- tokens that have a fault are no declaration
pub no_declaration : (ts : Tokens) (h : Halt) (declared : Declaration) → FirstDeclarationFault ts h → Declares ts declared → ⊥
no_declaration ts (Unexpected []) declared h d = h.3 declared (subst (λ (l : Tokens). Declares l declared) (h.1 ∙ append-nil h.0) d)
no_declaration ts (Unexpected (t ∷ rest)) declared h d = h.3 rest declared (subst (λ (l : Tokens). Declares l declared) h.1 d)
no_declaration ts (TooDeep rest) declared h d = h

pub not_both_declared : (ts : Tokens) → HasNotBothDeclared ts
not_both_declared ts declared h d first = no_declaration ts h declared first d
