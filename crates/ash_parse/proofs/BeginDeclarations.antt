-- What is before the place where the reading of a registered declaration stops begins one.
use Rattle.std.proofs.Common.{◌≡◌, ℕ, List, [], ◌∷◌, ◌++◌, cond, Option, Some, None, Ok, Err, refl, subst, length}
use Rattle.std.proofs.lemmas.List.{append-nil}
use Rattle.ash_lex.specs.Tokens.{name, sign}
use Rattle.ash_lex.specs.declared.signs.Sign.TheVariants as signs
use Rattle.ash_tree.specs.declared.tree.places.Position.{Position}
use Rattle.ash_tree.specs.Tree.{Named, Prim, Declaration, ASignature, AProperty}
use Rattle.ash_tree.specs.GrammarTokens.{Tokens}
use Rattle.ash_tree.specs.Types.{IsType}
use Rattle.ash_tree.specs.Grammar.{IsResultType, typed, IsUnnamed, unnamed, with_name, AreMoreUnnamed, no_more_unnamed, more_unnamed, AreUnnamed, no_unnamed, some_unnamed, Declares, signature, property}
use Rattle.ash_parse.specs.Readers.{Halt, Unexpected, next_is_sign}
use Rattle.ash_parse.specs.StatementReader.{is_name, next_is_name, type_at}
use Rattle.ash_parse.specs.ItemReader.{without_first, is_left, result_type_at, unnamed_at, next_unnamed_at, more_unnamed_at, unnamed_list_at, unnamed_parameters_at, property_by, declaration_after, declaration_at}
use Rattle.ash_parse.specs.ParseFaults.{whole_declaration_at}
use Rattle.ash_parse.proofs.BeginLaws.{left_at, Stopped, Law, Then, After, Grows, then, law_as, done, fill_here, stops_here, after, fill_after, either, sign_then, name_then, put_law, all_of, nowhere}
use Rattle.ash_parse.proofs.BeginTypes.{begin_type}
use Rattle.ash_parse.proofs.BeginItems.{begin_result_type, stops_with}

-- [NAME], after a type
begin_name : (t : Named) (ts : Tokens) → Law (Ok (t, cond (next_is_name ts) (without_first ts) ts)) ts (Then (λ free. IsType) (λ free. IsUnnamed) t)
unfolding next_is_name is_name without_first
begin_name t [] = done _ t [] (λ free left before d. unnamed d)
begin_name t ((name text, p) ∷ ts) = after _ (name text, p) _ ts (done _ t ts (λ free left before d. with_name d))
begin_name t ((m, p) ∷ ts) = done _ t ((m, p) ∷ ts) (λ free left before d. unnamed d)

begin_unnamed : (ts : Tokens) → Law (unnamed_at ts) ts (λ free. IsUnnamed)
unfolding unnamed_at
begin_unnamed ts = then (λ free. IsType) (λ free. IsUnnamed) (type_at ts) _ ts (begin_type ts) (λ t r. begin_name t r)

begin_next_unnamed : (ts : Tokens) → Law (next_unnamed_at ts) ts (Grows (λ free. AreMoreUnnamed))
unfolding next_unnamed_at
begin_next_unnamed ts =
    sign_then _ signs.Comma _ ts
    (λ p r. law_as (λ free. IsUnnamed) _ (λ free from x left d xs end more. more_unnamed d more) (unnamed_at r) r (begin_unnamed r))

begin_more_unnamed : (ts : Tokens) → Law (more_unnamed_at ts) ts (λ free. AreMoreUnnamed)
unfolding more_unnamed_at
begin_more_unnamed ts = all_of (next_is_sign signs.Comma) next_unnamed_at (λ free. AreMoreUnnamed) (λ free left. no_more_unnamed) (λ s b. (begin_next_unnamed s).explained) (length ts) ts

-- [ type [NAME] { "," type [NAME] } ]
data AreListed : Tokens → List Named → Tokens → Type 0 where
  none : {left : Tokens} → AreListed left [] left
  some : {from after left : Tokens} {x : Named} {xs : List Named} → IsUnnamed from x after → AreMoreUnnamed after xs left → AreListed from (x ∷ xs) left

listed : {p q : Position} {from left : Tokens} {xs : List Named} → AreListed from xs ((sign signs.CloseParenthesis, q) ∷ left) → AreUnnamed ((sign signs.OpenParenthesis, p) ∷ from) xs left
listed none = no_unnamed
listed (some x xs) = some_unnamed x xs

begin_unnamed_list : (ts : Tokens) → Law (unnamed_list_at ts) ts (λ free. AreListed)
unfolding unnamed_list_at
begin_unnamed_list ts =
    either (next_is_sign signs.CloseParenthesis ts) _ _ ts _
    (done _ [] ts (λ free left. none))
    (then (λ free. IsUnnamed) _ (unnamed_at ts) _ ts (begin_unnamed ts)
    (λ x r. put_law (λ free. AreMoreUnnamed) _ x (λ free from xs left more before d. some d more) (more_unnamed_at r) r (begin_more_unnamed r)))

begin_unnamed_parameters : (ts : Tokens) → Law (unnamed_parameters_at ts) ts (λ free. AreUnnamed)
unfolding unnamed_parameters_at
begin_unnamed_parameters ts =
    sign_then _ signs.OpenParenthesis _ ts
    (λ p r. then (λ free. AreListed) _ (unnamed_list_at r) _ r (begin_unnamed_list r)
    (λ xs s. sign_then _ signs.CloseParenthesis _ s
    (λ q t. done _ xs t (λ free left before d. listed d))))

-- all of the tokens are a declaration, where none is left after it
abbrev Whole : ℕ → Tokens → Declaration → Tokens → Type 0
Whole free from d left = left ≡ [] → Declares from d

property_whole : {p : Position} {text : List ℕ} {from : Tokens} {t : Named} (left : Tokens) → IsResultType from (Some t) ((name text, p) ∷ left) → left ≡ [] → Declares from (AProperty (record { place = p; of = t; name = text }))
property_whole {p} {text} {from} {t} left (typed d) e = property (subst (λ (l : Tokens). IsType from t ((name text, p) ∷ l)) e d)

-- what is after the type and the name of a declaration
abbrev Follows : Option Named → Position → List ℕ → ℕ → Tokens → Declaration → Tokens → Type 0
Follows r p text = After (name text, p) (Then (λ free. IsResultType) Whole r)

signature_whole : (r : Option Named) (p : Position) (text : List ℕ) (xs : List Named) (free : ℕ) (from left : Tokens) → AreUnnamed from xs left → Follows r p text free from (ASignature (record { place = p; result = r; name = text; parameters = xs })) left
signature_whole r p text xs free from left d before t e = signature t (subst (λ (l : Tokens). AreUnnamed from xs l) e d)

begin_property : (r : Option Named) (p : Position) (text : List ℕ) (ts : Tokens) → Law (property_by r p text ts) ts (Follows r p text)
begin_property (Some t) p text ts = done (Follows (Some t) p text) (AProperty (record { place = p; of = t; name = text })) ts (λ free left before d e. property_whole left d e)
begin_property None p text ts =
    stops_here (Follows None p text) ts
    (fill_after (Follows None p text) (sign signs.OpenParenthesis, nowhere) (fill_after _ (sign signs.CloseParenthesis, nowhere)
    (fill_here _ (ASignature (record { place = p; result = None; name = text; parameters = [] })) (λ free left. signature_whole None p text [] free ((sign signs.OpenParenthesis, nowhere) ∷ (sign signs.CloseParenthesis, nowhere) ∷ left) left no_unnamed))))

begin_declaration_after : (r : Option Named) (p : Position) (text : List ℕ) (ts : Tokens) → Law (declaration_after r p text ts) ts (Follows r p text)
unfolding declaration_after
begin_declaration_after r p text ts =
    either (next_is_sign signs.OpenParenthesis ts) _ _ ts _
    (then (λ free. AreUnnamed) (Follows r p text) (unnamed_parameters_at ts) _ ts (begin_unnamed_parameters ts)
    (λ xs s. done _ (ASignature (record { place = p; result = r; name = text; parameters = xs })) s (λ free left before d. signature_whole r p text xs free before left d)))
    (begin_property r p text ts)

begin_declaration : (ts : Tokens) → Law (declaration_at ts) ts Whole
unfolding declaration_at
begin_declaration ts =
    then (λ free. IsResultType) Whole (result_type_at ts) _ ts (begin_result_type ts)
    (λ r a. name_then _ _ a
    (λ n b. begin_declaration_after r n.1 n.0 b))

begin_whole_declaration : (ts : Tokens) → Law (whole_declaration_at ts) ts Whole
unfolding whole_declaration_at
begin_whole_declaration ts =
    then Whole Whole (declaration_at ts) _ ts (begin_declaration ts)
    (λ d r. either (is_left r) _ _ r _
    (stops_here (Then Whole Whole d) r (fill_here _ d (λ free left before w. w)))
    (done _ d r (λ free left before w. w)))

-- where reading a declaration stops, the tokens from the fault on are the last ones
pub declaration_within : (all : Tokens) (h : Halt) → whole_declaration_at all ≡ Err h → (prefix : Tokens) × (all ≡ prefix ++ left_at h)
declaration_within all h e =
    let s : Stopped all h Whole = stops_with (whole_declaration_at all) h all Whole e (begin_whole_declaration all).explained in
    (s.prefix, s.all)

-- what is before the place where reading stops begins a declaration
pub begun_declaration : (all rest : Tokens) → whole_declaration_at all ≡ Err (Unexpected rest) → (prefix : Tokens) × (all ≡ prefix ++ rest) × ((tail : Tokens) × (declared : Declaration) × Declares (prefix ++ tail) declared)
begun_declaration all rest e =
    let s : Stopped all (Unexpected rest) Whole = stops_with (whole_declaration_at all) (Unexpected rest) all Whole e (begin_whole_declaration all).explained in
    (s.prefix, s.all, (s.tail, s.tree, subst (λ (l : Tokens). Declares (s.prefix ++ l) s.tree) (append-nil s.tail) (s.is [] refl)))
