-- Every sign is in the table, which goes from the longest to the shortest: so the first that a text
-- begins with is the longest.
use Rattle.std.proofs.Common.{◌≡◌, ℕ, ◌<◌, ◌≤◌, Bool, true, false, cond, leb, List, [], ◌∷◌, length, Option, Some}
use Rattle.std.proofs.Common.{get_or, sym, refl, ap, ◌∙◌, subst, arith, lit<, ◌&&◌}
use Rattle.std.specs.Prelude.{find, Contains, zero, suc}
use Rattle.std.specs.Str.{bytes_eq}
use Rattle.std.proofs.lemmas.Bool.Decides.{nat_tests}
use Rattle.ash_lex.specs.Signs.{sign_text}
use Rattle.ash_lex.specs.Scan.{signs, begins, first_sign}
use Rattle.ash_lex.specs.declared.signs.Sign.{Sign}
use Rattle.ash_lex.specs.declared.signs.Sign.TheVariants.{OpenParenthesis, CloseParenthesis, OpenBrace, CloseBrace}
use Rattle.ash_lex.specs.declared.signs.Sign.TheVariants.{OpenBracket, CloseBracket, Semicolon, Comma, Colon, Question}
use Rattle.ash_lex.specs.declared.signs.Sign.TheVariants.{Dot, Handle, BitNot, LogicalNot, NotIs, Assign, Equal}
use Rattle.ash_lex.specs.declared.signs.Sign.TheVariants.{NotEqual, Less, LessOrEqual, Greater, GreaterOrEqual, Plus}
use Rattle.ash_lex.specs.declared.signs.Sign.TheVariants.{Increment, PlusAssign, Minus, Decrement, MinusAssign, Star}
use Rattle.ash_lex.specs.declared.signs.Sign.TheVariants.{StarAssign, Slash, SlashAssign, Percent, PercentAssign}
use Rattle.ash_lex.specs.declared.signs.Sign.TheVariants.{BitAnd, LogicalAnd, BitAndAssign, BitOr, LogicalOr}
use Rattle.ash_lex.specs.declared.signs.Sign.TheVariants.{BitOrAssign, BitXor, LogicalXor, BitXorAssign, ShiftLeft}
use Rattle.ash_lex.specs.declared.signs.Sign.TheVariants.{ShiftLeftAssign, ShiftRight, ShiftRightAssign}
use Rattle.ash_lex.specs.declared.signs.Sign.TheVariants.{ShiftRightArithmetic, ShiftRightArithmeticAssign, Power}
use Rattle.ash_lex.specs.declared.signs.Sign.TheVariants.{Scope}

pub in_table : (s : Sign) → Contains signs s
in_table OpenParenthesis = (26, lit< tt, refl)
in_table CloseParenthesis = (27, lit< tt, refl)
in_table OpenBrace = (28, lit< tt, refl)
in_table CloseBrace = (29, lit< tt, refl)
in_table OpenBracket = (30, lit< tt, refl)
in_table CloseBracket = (31, lit< tt, refl)
in_table Semicolon = (32, lit< tt, refl)
in_table Comma = (33, lit< tt, refl)
in_table Colon = (34, lit< tt, refl)
in_table Question = (35, lit< tt, refl)
in_table Dot = (36, lit< tt, refl)
in_table Handle = (37, lit< tt, refl)
in_table BitNot = (38, lit< tt, refl)
in_table LogicalNot = (39, lit< tt, refl)
in_table NotIs = (1, lit< tt, refl)
in_table Assign = (40, lit< tt, refl)
in_table Equal = (5, lit< tt, refl)
in_table NotEqual = (6, lit< tt, refl)
in_table Less = (41, lit< tt, refl)
in_table LessOrEqual = (7, lit< tt, refl)
in_table Greater = (42, lit< tt, refl)
in_table GreaterOrEqual = (8, lit< tt, refl)
in_table Plus = (43, lit< tt, refl)
in_table Increment = (9, lit< tt, refl)
in_table PlusAssign = (10, lit< tt, refl)
in_table Minus = (44, lit< tt, refl)
in_table Decrement = (11, lit< tt, refl)
in_table MinusAssign = (12, lit< tt, refl)
in_table Star = (45, lit< tt, refl)
in_table StarAssign = (13, lit< tt, refl)
in_table Slash = (46, lit< tt, refl)
in_table SlashAssign = (14, lit< tt, refl)
in_table Percent = (47, lit< tt, refl)
in_table PercentAssign = (15, lit< tt, refl)
in_table BitAnd = (48, lit< tt, refl)
in_table LogicalAnd = (16, lit< tt, refl)
in_table BitAndAssign = (17, lit< tt, refl)
in_table BitOr = (49, lit< tt, refl)
in_table LogicalOr = (18, lit< tt, refl)
in_table BitOrAssign = (19, lit< tt, refl)
in_table BitXor = (50, lit< tt, refl)
in_table LogicalXor = (20, lit< tt, refl)
in_table BitXorAssign = (21, lit< tt, refl)
in_table ShiftLeft = (22, lit< tt, refl)
in_table ShiftLeftAssign = (2, lit< tt, refl)
in_table ShiftRight = (23, lit< tt, refl)
in_table ShiftRightAssign = (3, lit< tt, refl)
in_table ShiftRightArithmetic = (4, lit< tt, refl)
in_table ShiftRightArithmeticAssign = (0, lit< tt, refl)
in_table Power = (24, lit< tt, refl)
in_table Scope = (25, lit< tt, refl)

-- no sign of the list is longer than this one
none_longer : Sign → List Sign → Bool
none_longer s [] = true
none_longer s (t ∷ ts) = leb (length (sign_text t)) (length (sign_text s)) && none_longer s ts

-- the list goes from the longest to the shortest
descends : List Sign → Bool
descends [] = true
descends (s ∷ ss) = none_longer s ss && descends ss

both : (a b : Bool) → (a && b) ≡ true → (a ≡ true) × (b ≡ true)
both true b h = (refl, h)
both false b h = cc

-- the sign at a place of a list in which none is longer is not longer
at_none_longer : (s : Sign) (ts : List Sign) → none_longer s ts ≡ true → (k : ℕ) (d : Sign) → k < length ts
    → length (sign_text (get_or ts k d)) ≤ length (sign_text s)
unfolding none_longer
at_none_longer s [] h k d within = absurd (omega arith)
at_none_longer s (t ∷ ts) h zero d within =
    grind (arith, nat_tests, both (leb (length (sign_text t)) (length (sign_text s))) (none_longer s ts) h)
at_none_longer s (t ∷ ts) h (suc k) d within =
    at_none_longer s ts (both (leb (length (sign_text t)) (length (sign_text s))) (none_longer s ts) h).1 k d
    (omega arith)

-- in a list that goes down, the first that passes a test is as long as each that does
first_is_longest : (test : Sign → Bool) (ss : List Sign) → descends ss ≡ true → (k : ℕ) (d : Sign) → k < length ss
    → test (get_or ss k d) ≡ true → (r : Sign) × (find test ss ≡ Some r)
    × (length (sign_text (get_or ss k d)) ≤ length (sign_text r))
unfolding descends
first_is_longest test [] h k d within passes = absurd (omega arith)
first_is_longest test (s ∷ ss) h zero d within passes =
    (s, ap (λ b. cond b (Some s) (find test ss)) passes, omega arith)
first_is_longest test (s ∷ ss) h (suc k) d within passes =
    let parts = both (none_longer s ss) (descends ss) h in
    let later = first_is_longest test ss parts.1 k d (omega arith) passes in
    elim (test s) as (λ b. (r : Sign) × (cond b (Some s) (find test ss) ≡ Some r)
    × (length (sign_text (get_or ss k d)) ≤ length (sign_text r))) [
      | true ↦ (s, refl, at_none_longer s ss parts.0 k d (omega arith))
      | false ↦ later
    ]

-- what the search finds passes the test
find_passes : (test : Sign → Bool) (ss : List Sign) (r : Sign) → find test ss ≡ Some r → test r ≡ true
find_passes test [] r h = cc
find_passes test (s ∷ ss) r h =
    let P : Bool → Type 0 = λ b. test s ≡ b → cond b (Some s) (find test ss) ≡ Some r → test r ≡ true in
    (elim (test s) as P [
      | true ↦ λ e g. let same : s ≡ r = cc in subst (λ x. test x ≡ true) same e
      | false ↦ λ e g. find_passes test ss r g
    ]) refl h

-- a sign that the text begins with is no longer than the one that is found
pub first_sign-longest : (text : List ℕ) (s : Sign) → begins text s ≡ true
    → (r : Sign) × (first_sign text ≡ Some r) × (length (sign_text s) ≤ length (sign_text r))
unfolding descends none_longer
first_sign-longest text s h =
    let place = in_table s in
    let found = first_is_longest (begins text) signs refl place.0 s place.1 (ap (begins text) place.2 ∙ h) in
    (found.0, found.1, subst (λ x. length (sign_text x) ≤ length (sign_text found.0)) place.2 found.2)

-- the sign that is found begins the text
pub first_sign-begins : (text : List ℕ) (r : Sign) → first_sign text ≡ Some r → begins text r ≡ true
first_sign-begins text r h = find_passes (begins text) signs r h

-- the sign that is written so
sign_of : List ℕ → Option Sign
sign_of text = find (λ s. bytes_eq text (sign_text s)) signs

sign_of-text : (s : Sign) → sign_of (sign_text s) ≡ Some s
unfolding sign_of
sign_of-text OpenParenthesis = refl
sign_of-text CloseParenthesis = refl
sign_of-text OpenBrace = refl
sign_of-text CloseBrace = refl
sign_of-text OpenBracket = refl
sign_of-text CloseBracket = refl
sign_of-text Semicolon = refl
sign_of-text Comma = refl
sign_of-text Colon = refl
sign_of-text Question = refl
sign_of-text Dot = refl
sign_of-text Handle = refl
sign_of-text BitNot = refl
sign_of-text LogicalNot = refl
sign_of-text NotIs = refl
sign_of-text Assign = refl
sign_of-text Equal = refl
sign_of-text NotEqual = refl
sign_of-text Less = refl
sign_of-text LessOrEqual = refl
sign_of-text Greater = refl
sign_of-text GreaterOrEqual = refl
sign_of-text Plus = refl
sign_of-text Increment = refl
sign_of-text PlusAssign = refl
sign_of-text Minus = refl
sign_of-text Decrement = refl
sign_of-text MinusAssign = refl
sign_of-text Star = refl
sign_of-text StarAssign = refl
sign_of-text Slash = refl
sign_of-text SlashAssign = refl
sign_of-text Percent = refl
sign_of-text PercentAssign = refl
sign_of-text BitAnd = refl
sign_of-text LogicalAnd = refl
sign_of-text BitAndAssign = refl
sign_of-text BitOr = refl
sign_of-text LogicalOr = refl
sign_of-text BitOrAssign = refl
sign_of-text BitXor = refl
sign_of-text LogicalXor = refl
sign_of-text BitXorAssign = refl
sign_of-text ShiftLeft = refl
sign_of-text ShiftLeftAssign = refl
sign_of-text ShiftRight = refl
sign_of-text ShiftRightAssign = refl
sign_of-text ShiftRightArithmetic = refl
sign_of-text ShiftRightArithmeticAssign = refl
sign_of-text Power = refl
sign_of-text Scope = refl

-- no two signs are written alike
pub sign_text-injective : (s t : Sign) → sign_text s ≡ sign_text t → s ≡ t
sign_text-injective s t h =
    let both_found : Some s ≡ Some t = sym (sign_of-text s) ∙ ap sign_of h ∙ sign_of-text t in cc
