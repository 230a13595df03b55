-- Items that are written one after another.
use Rattle.std.proofs.Common.{◌≡◌, ◌<◌, ◌≤◌, ℕ, ◌+◌, List, [], ◌++◌, length, drop, get_or, map, refl, sym, ap, ◌∙◌}
use Rattle.std.proofs.Common.{subst, ◌∷◌, append_assoc, add-one, drop-cons, arith}
use Rattle.std.proofs.lemmas.List.{append-nil}
use Rattle.std.proofs.lemmas.Grind.{common_steps}
use Rattle.std.specs.List.{flat_map}
use Rattle.ash_lines.specs.Sink.{Outlet, IsOutlet, Accepts, FailsPartway}
use Rattle.ash_lines.proofs.SinkLemmas.{accepts-nil, accepts-then, accepts-fails, fails-more}

-- the text of the items that are left, from one item to the next
left-item : {A : Type 0} (text : A → List ℕ) (items : List A) (i : ℕ) (item other : A) → i < length items → get_or items i other ≡ item → flat_map text (drop i items) ≡ text item ++ flat_map text (drop (i + 1) items)
left-item text items i item other h e = ap (flat_map text) (drop-cons items i other h) ∙ rw (add-one, e) refl

none-left : {A : Type 0} (text : A → List ℕ) (items : List A) (i : ℕ) → length items ≤ i → flat_map text (drop i items) ≡ []
none-left text items i h = let e : drop i items ≡ [] = grind (arith, common_steps) in rw e refl

-- The items before a place were written.
abbrev pub WroteUpTo : {K A : Type 0} → Outlet K → (A → List ℕ) → List A → K → ℕ → K → Type 0
WroteUpTo outlet text items old i new = (written : List ℕ) × Accepts outlet old written new × (flat_map text items ≡ written ++ flat_map text (drop i items))

pub wrote-none : {K A : Type 0} (outlet : Outlet K) → IsOutlet outlet → (text : A → List ℕ) (items : List A) (s : K) → WroteUpTo outlet text items s 0 s
wrote-none outlet is text items s = ([], accepts-nil outlet is s, refl)

pub wrote-more : {K A : Type 0} (outlet : Outlet K) → IsOutlet outlet → (text : A → List ℕ) (items : List A) (s t u : K) (i : ℕ) (item other : A) → WroteUpTo outlet text items s i t → Accepts outlet t (text item) u → i < length items → get_or items i other ≡ item → WroteUpTo outlet text items s (i + 1) u
wrote-more outlet is text items s t u i item other h a l e = (
  h.0 ++ text item,
  accepts-then outlet is s t u h.0 (text item) h.1 a,
  h.2 ∙ (ap (λ (x : List ℕ). h.0 ++ x) (left-item text items i item other l e) ∙ sym (append_assoc h.0 (text item) (flat_map text (drop (i + 1) items)))),
)

pub wrote-failed : {K A : Type 0} (outlet : Outlet K) → IsOutlet outlet → (text : A → List ℕ) (items : List A) (s t u : K) (i : ℕ) (item other : A) → WroteUpTo outlet text items s i t → FailsPartway outlet t (text item) u → i < length items → get_or items i other ≡ item → FailsPartway outlet s (flat_map text items) u
wrote-failed outlet is text items s t u i item other h f l e =
    let all = h.2 ∙ ap (λ (x : List ℕ). h.0 ++ x) (left-item text items i item other l e) in
    subst (λ (x : List ℕ). FailsPartway outlet s x u) (sym all)
    (accepts-fails outlet is s t u h.0 (text item ++ flat_map text (drop (i + 1) items)) h.1 (fails-more outlet t u (text item) (flat_map text (drop (i + 1) items)) f))

pub wrote-all : {K A : Type 0} (outlet : Outlet K) (text : A → List ℕ) (items : List A) (s t : K) (i : ℕ) → WroteUpTo outlet text items s i t → length items ≤ i → Accepts outlet s (flat_map text items) t
wrote-all outlet text items s t i h l =
    let all = h.2 ∙ (ap (λ (x : List ℕ). h.0 ++ x) (none-left text items i l) ∙ append-nil h.0) in
    subst (λ (x : List ℕ). Accepts outlet s x t) (sym all) h.1

-- what items represent has the text of the items
pub seen-text : {A B : Type 0} (view : A → B) (text : B → List ℕ) (items : List A) → flat_map text (map view items) ≡ flat_map (λ (item : A). text (view item)) items
seen-text view text [] = refl
seen-text view text (item ∷ items) = ap (λ (x : List ℕ). text (view item) ++ x) (seen-text view text items)
