-- What is answered of a script, where each fault is at one of its tokens, and is what it says there.
use Rattle.std.proofs.Common.{◌≡◌, ℕ, Bool, true, false, List, Option, Some, None, Ok, Err, refl, sym, subst}
use Rattle.std.specs.Prelude.{◌||◌, if◌then◌else◌}
use Rattle.ash_lex.specs.Tokens.{Meaning, name}
use Rattle.ash_registrations.specs.Registrations.{Registration}
use Rattle.ash_tree.specs.GrammarTokens.{Tokens}
use Rattle.ash_tree.specs.Tree.{Named, Item}
use Rattle.ash_typed.specs.declared.types.ObjectType.{ObjectType}
use Rattle.ash_type_rules.specs.declared.fault.Rule.{Rule}
use Rattle.ash_type_rules.specs.declared.fault.Rule.TheVariants as rules
use Rattle.ash_type_rules.specs.declared.fault.Fault.{Fault}
use Rattle.ash_type_rules.specs.TypingResult.{TypingResult, ◌>>=◌, broken}
use Rattle.ash_type_rules.specs.Environment.{Environment}
use Rattle.ash_type_rules.specs.ExpressionRules.{TypedExpr}
use Rattle.ash_type_rules.specs.ModuleDeclarations.{declarations, object_named, ty_named, ty_in}
use Rattle.ash_type_rules.specs.Declarations.{at_type, at_type_name}
use Rattle.ash_type_rules.specs.declared.types.Ty.TheVariants.{Object}
use Rattle.ash_type_rules.specs.FaultPlaces.{is_return, begins_expression, breaks_at}
use Rattle.ash_type_rules.specs.Phrases.{Phrase, Occurs}
use Rattle.ash_type_rules.specs.Mismatches.{Mismatches}
use Rattle.ash_type_rules.specs.FaultMeaning as meaning
use Rattle.ash_type_rules.specs.FaultMeaning.{IsWrong, Naming, named_by, TypeUse, written_by, is_misplaced}
use Rattle.ash_type_rules.proofs.FaultTokens.{HasToken, HasStart}

-- a script of a module, with these registrations
pub record Script : Type 0 where
  pub tokens : Tokens
  pub registrations : List Registration
  pub items : List Item

abbrev pub OccursIn : Script → Phrase → Type 0
OccursIn script x = Occurs script.registrations script.items x

abbrev pub Wrong : Script → Rule → ℕ → Meaning → Type 0
Wrong script rule at m = IsWrong script.registrations script.items rule at m

-- types do not fit at an offset
abbrev pub Mismatch : Script → ℕ → Type 0
Mismatch script at = Mismatches script.registrations script.items at

-- a token is at the offset of a fault, means what one of its rule may, and there the rule is broken
abbrev pub IsIn : Script → Fault → Type 0
IsIn script f = (m : Meaning) × HasToken script.tokens m f.at × (breaks_at f.rule m ≡ true) × Wrong script f.rule f.at m

-- an answer of this kind, or a fault that is at a token
pub data Answers (script : Script) {A : Type 0} (Q : A → Type 0) : TypingResult A → Type 0 where
  fine : {x : A} → Q x → Answers script Q (Ok x)
  faulty : {f : Fault} → IsIn script f → Answers script Q (Err f)

-- whatever is answered
abbrev pub Fine : Script → {A : Type 0} → TypingResult A → Type 0
Fine script {A} r = Answers script (λ (x : A). Unit {0}) r

-- a typed expression at a token
abbrev pub At : Script → TypingResult TypedExpr → Type 0
At script r = Answers script (λ (t : TypedExpr). HasStart script.tokens t.at) r

-- a fault of a type, or of what is written to, at the first token of an expression

past_return : (m : Meaning) → begins_expression m ≡ true → (is_return m || begins_expression m) ≡ true
past_return m h = go (is_return m)
  where
    go : (b : Bool) → (b || begins_expression m) ≡ true
    go true = refl
    go false = h

pub mismatch : {script : Script} {A : Type 0} {Q : A → Type 0} {at : ℕ} → HasStart script.tokens at → Mismatch script at
    → Answers script Q (broken rules.TypeMismatch at)
mismatch h w = faulty (h.0, h.1, past_return h.0 h.2, meaning.mismatch w)

pub no_place : {script : Script} {A : Type 0} {Q : A → Type 0} {at : ℕ} → HasStart script.tokens at
    → ((m : Meaning) → Wrong script rules.NotAssignable at m) → Answers script Q (broken rules.NotAssignable at)
no_place h w = faulty (h.0, h.1, h.2, w h.0)

-- a name that a phrase declares, and that is taken
pub name_taken : {script : Script} {A : Type 0} {Q : A → Type 0} {x : Phrase} (n : Naming) → OccursIn script x
    → named_by x ≡ Some n → HasToken script.tokens (name n.text) n.at → n.is_refused ≡ true
    → Answers script Q (broken rules.NameTaken n.at)
name_taken n r e h b = faulty (name n.text, h, refl, meaning.taken r e b)

pub bind : {script : Script} {A B : Type 0} {Q : A → Type 0} {S : B → Type 0} {r : TypingResult A} {f : A → TypingResult B}
    → Answers script Q r → ((x : A) → Q x → Answers script S (f x)) → Answers script S (r >>= f)
bind (fine {x = x} q) go = go x q
bind (faulty h) go = faulty h

-- where what is bound is asked for
pub bind_by : {script : Script} {A B : Type 0} {Q : A → Type 0} {S : B → Type 0} {r : TypingResult A} {f : A → TypingResult B}
    → Answers script Q r → ((x : A) → r ≡ Ok x → Q x → Answers script S (f x)) → Answers script S (r >>= f)
bind_by (fine {x = x} q) go = go x refl q
bind_by (faulty h) go = faulty h

-- where one thing alone is bound
pub bind_to : {script : Script} {A B : Type 0} {S : B → Type 0} {y : A} {r : TypingResult A} (f : A → TypingResult B)
    → Answers script (λ (x : A). x ≡ y) r → Answers script S (f y) → Answers script S (r >>= f)
bind_to {script} {S = S} f (fine {x = x} q) go = subst (λ z. Answers script S (f z)) (sym q) go
bind_to f (faulty h) go = faulty h

pub either : {script : Script} {A : Type 0} {Q : A → Type 0} (b : Bool) {x y : TypingResult A}
    → (b ≡ true → Answers script Q x) → (b ≡ false → Answers script Q y) → Answers script Q (if b then x else y)
either true p q = p refl
either false p q = q refl

pub choose_start : (script : Tokens) (b : Bool) (x y : ℕ) → HasStart script x → HasStart script y
    → HasStart script (if b then x else y)
choose_start script true x y p q = p
choose_start script false x y p q = q

same_fault : {A : Type 0} (f g : Fault) → ◌≡◌ {A = TypingResult A} (Err f) (Err g) → f ≡ g
same_fault f g h = cc

no_answer : {A : Type 0} (x : A) (f : Fault) → ◌≡◌ {A = TypingResult A} (Ok x) (Err f) → ⊥
no_answer x f h = cc

-- a fault that is answered is at a token
pub is_in : {script : Script} {A : Type 0} {Q : A → Type 0} {r : TypingResult A} → Answers script Q r → (f : Fault)
    → r ≡ Err f → IsIn script f
is_in (fine {x = x} q) f h = absurd (no_answer x f h)
is_in {script} (faulty {f = g} k) f h = subst (IsIn script) (same_fault g f h) k

-- the names in types, which mean everywhere the same

-- what a phrase of the module sees of it
abbrev pub IsOf : Script → Environment → Type 0
IsOf script env = (env.declarations ≡ declarations script.registrations script.items) × (env.registered ≡ script.registrations)

abbrev pub type_named : Environment → List ℕ → Option ObjectType
type_named env text = object_named env.registered env.declarations text

pub same_named : (script : Script) (env : Environment) (text : List ℕ) → IsOf script env
    → type_named env text ≡ object_named script.registrations (declarations script.registrations script.items) text
same_named script env text see = rw (see.0, see.1) refl

-- no type has the name, as the phrase sees it
pub unnamed : (script : Script) (env : Environment) (text : List ℕ) → IsOf script env → type_named env text ≡ None
    → object_named script.registrations (declarations script.registrations script.items) text ≡ None
unnamed script env text see h = subst (λ o. o ≡ None) (same_named script env text see) h

same_types : (script : Script) (env : Environment) (of : Named) → IsOf script env
    → ty_in env of ≡ ty_named script.registrations (declarations script.registrations script.items) of
same_types script env of see = rw (see.0, see.1) refl

-- what is wrong with a type that a phrase writes
pub record Miswritten (script : Script) (env : Environment) (used : TypeUse) : Type 0 where
  pub unknown : (text : List ℕ) → type_named env text ≡ None
      → Wrong script rules.UnknownType (at_type_name used.of) (name text)
  pub misplaced : (o : ObjectType) (m : Meaning) → ty_in env used.of ≡ Object o → is_misplaced used o ≡ true
      → Wrong script rules.Misplaced (at_type used.of) m

pub miswritten : (script : Script) (env : Environment) (x : Phrase) (used : TypeUse) → IsOf script env
    → OccursIn script x → written_by x ≡ Some used → Miswritten script env used
miswritten script env x used see r e = record {
  unknown = λ text n. meaning.no_type r e (unnamed script env text see n);
  misplaced = λ o m t b. meaning.misplaced_type r e (subst (λ u. u ≡ Object o) (same_types script env used.of see) t) b;
}
