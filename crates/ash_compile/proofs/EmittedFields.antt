-- Emitted code of fields, put together.
use Rattle.std.proofs.Common.{◌≡◌, ℕ, ◌+◌, List, [], ◌∷◌, map, length, refl, sym, ap, ◌∙◌, subst, arith, option_map}
use Rattle.std.specs.Prelude.{Option, Some, None, slice_get}
use Rattle.std.specs.Option.{option_map_or}
use Rattle.std.proofs.lemmas.Option.{slice_get-map}
use Rattle.ash_typed.specs.TypedTree.{Expr}
use Rattle.ash_typed.specs.StatementTree.{Initialization}
use Rattle.ash_typed.specs.Modules.{Class}
use Rattle.ash_typed.specs.Signatures.{type_declared}
use Rattle.ash_typed.specs.TypeOf.{ValueType}
use Rattle.ash_typed.specs.SoundExpressions.{IsWellTyped, Fits, fits}
use Rattle.ash_typed.specs.SoundStatements.{IsInitialized, IsSoundBeginning}
use Rattle.ash_typed.specs.SoundModules.{inside}
use Rattle.ash_meaning.specs.Runs.{skip, ◌>>=◌}
use Rattle.ash_meaning.specs.Releases.{full}
use Rattle.ash_meaning.specs.ExpressionMeaning.{expression}
use Rattle.ash_meaning.specs.Functions.{write_field, initialize_field, initialize_fields}
use Rattle.ash_soundness.specs.WellFormed.{declared}
use Rattle.ash_soundness.proofs.Entries.{class_is}
use Rattle.ash_soundness.proofs.Hosts.{rec_at}
use Rattle.ash_soundness.proofs.Bodies.{begins_fitting}
use Rattle.ash_code.specs.declared.instruction.Instruction.{Instruction}
use Rattle.ash_code.specs.declared.instruction.Instruction.TheVariants as i
use Rattle.ash_compile.specs.declared.builder.Written.{Written}
use Rattle.ash_compile.specs.Performances.{Acts}
use Rattle.ash_compile.specs.Emission.{code_of, end_of, Keeps, Puts, Scene, IsScene, calls_of, Good, Emits}
use Rattle.ash_compile.specs.Emission.{DoesExpression}
use Rattle.ash_compile.specs.EmittedParts.{IsWritten, ActsFrom, Constructs, EmitsField, EmitsFields}
use Rattle.ash_compile.proofs.Listings.{first_of_rest, others_of_rest}
use Rattle.ash_compile.proofs.Statements as code
use Rattle.ash_compile.proofs.Emission.{keeps_on, put_one, put_keeps, HasAt, suits_before, stands_before, stands_after}
use Rattle.ash_compile.proofs.Emission.{has_put}
use Rattle.ash_compile.proofs.TypedStatements.{Ready, ranked_of}
use Rattle.ash_compile.proofs.FieldCode.{fits_wide, does_field, spends_one}

-- stretches of code

-- Code that has not grown.
pub keeps_itself : (b : Written) → Keeps b b
keeps_itself b = record { longer = omega arith; same = λ k low. refl; slots = omega arith; layout = refl }

-- the first of two stretches
pub written_first : (s : Scene) (old mid new : Written) → Keeps mid new → IsWritten s old new → IsWritten s old mid
written_first s old mid new keeps written =
    (stands_before s mid new (end_of old) keeps written.0, suits_before s mid new keeps written.1)

-- the second
pub written_second : (s : Scene) (old mid new : Written) → Keeps old mid → IsWritten s old new → IsWritten s mid new
written_second s old mid new keeps written =
    (stands_after s (code_of new) (end_of old) (end_of mid) (end_of new) keeps.longer written.0, written.1)

-- a value that is computed, then two instructions
pub record StoresValue (old new : Written) (e : Expr) (slot : ℕ) (store : Instruction) : Type 0 where
  pub mid : Written
  pub last : Written
  pub value : Emits old mid e slot
  pub stores : Puts mid last slot store
  pub ends : Puts last new slot i.EndExpression

pub stored_keeps : (old new : Written) (e : Expr) (slot : ℕ) (store : Instruction)
    → StoresValue old new e slot store
    → Keeps old new
stored_keeps old new e slot store x =
    keeps_on old x.mid new (x.value).keeps (keeps_on x.mid x.last new (put_keeps x.mid x.last slot store x.stores)
    (put_keeps x.last new slot i.EndExpression x.ends))

-- what such a stretch has, wherever it stands
pub record HasStored (s : Scene) (old new : Written) (e : Expr) (slot : ℕ) (store : Instruction) : Type 0 where
  pub mid : ℕ
  pub to : end_of new ≡ mid + 1 + 1
  pub value : DoesExpression s e (end_of old) mid slot
  pub stores : HasAt s mid store
  pub ends : HasAt s (mid + 1) i.EndExpression

pub has_stored : (s : Scene) (old new : Written) (e : Expr) (slot : ℕ) (store : Instruction) (of : ValueType)
    → IsScene s → IsWellTyped s.env e of → StoresValue old new e slot store → IsWritten s old new
    → HasStored s old new e slot store
has_stored s old new e slot store of scene typed x written =
    let one = put_one x.mid x.last slot store x.stores in
    let two = put_one x.last new slot i.EndExpression x.ends in
    let storing = put_keeps x.mid x.last slot store x.stores in
    let ending = put_keeps x.last new slot i.EndExpression x.ends in
    let before = written_first s old x.last new ending written in
    let first = written_first s old x.mid x.last storing before in
    record {
      mid = end_of x.mid;
      to = two ∙ ap (λ (n : ℕ). n + 1) one;
      value = (x.value).does s of scene typed first.0 first.1;
      stores = has_put s x.mid x.last (end_of old) slot store ((x.value).keeps).longer x.stores before.0;
      ends = subst (λ (n : ℕ). HasAt s n i.EndExpression) one
          (has_put s x.last new (end_of old) slot i.EndExpression
          (keeps_on old x.mid x.last (x.value).keeps storing).longer
          x.ends written.0);
    }

-- one field

field_type : (source : Class) (place : ℕ) (v : Initialization) → slice_get source.fields place ≡ Some v
    → slice_get (map type_declared source.fields) place ≡ Some v.of
field_type source place v at = slice_get-map type_declared source.fields place ∙ ap (option_map type_declared) at

field_begins : (s : Scene) (class : ℕ) (source : Class) (place count : ℕ) (v : Initialization)
    → Constructs s class source count → slice_get source.fields place ≡ Some v
    → IsSoundBeginning (inside (declared s.context) class) v.of v.value
field_begins s class source place count v constructs at =
    (rec_at (IsInitialized (inside (declared s.context) class)) source.fields place v
    (class_is (constructs.scene).sound class source constructs.there).fields at).value

pub field_without : (b : Written) (place : ℕ) (v : Initialization) (count : ℕ) → v.value ≡ None
    → EmitsField b b place v count
field_without b place v count none = record {
  keeps = keeps_itself b;
  does = λ s class source constructs at written.
      subst (λ (o : Option Expr). ActsFrom s b b count
      (option_map_or (λ e. full (expression (calls_of s) e >>= write_field place)) o skip)) (sym none)
      (code.acts_none s.setting (Good s) s.function s.room (end_of b) count);
}

field_here : (s : Scene) (class : ℕ) (source : Class) (old new : Written) (place : ℕ)
    (v : Initialization) (e : Expr)
    → IsScene s → (this : (s.env).this ≡ Some class)
    → slice_get (((s.context).program).tree).classes class ≡ Some source
    → slice_get source.fields place ≡ Some v
    → Fits (inside (declared s.context) class) v.of e
    → Fits s.env v.of e
    → IsWritten s old new
    → StoresValue old new e (length (s.env).locals) (i.WriteOwnField place (length (s.env).locals))
    → ActsFrom s old new (length (s.env).locals) (full (expression (calls_of s) e >>= write_field place))
field_here s class source old new place v e scene this there at narrow (fits {actual = from} typed subtype) written x =
    let locals = length (s.env).locals in
    let run = full (expression (calls_of s) e >>= write_field place) in
    let has = has_stored s old new e locals (i.WriteOwnField place locals) from scene typed x written in
    subst (λ (to : ℕ). Acts s.setting (Good s) s.function s.room run (end_of old) to locals locals) (sym has.to)
    (does_field s scene (ranked_of s scene) class source this there place v.of e (end_of old) has.mid
    (field_type source place v at) narrow has.value has.stores has.ends)

field_does : (s : Scene) (class : ℕ) (source : Class) (old new : Written) (place count : ℕ) (v : Initialization)
    (e : Expr)
    → v.value ≡ Some e
    → StoresValue old new e count (i.WriteOwnField place count)
    → Constructs s class source count
    → slice_get source.fields place ≡ Some v
    → IsWritten s old new
    → ActsFrom s old new count (initialize_field (calls_of s) place v)
field_does s class source old new place count v e some x constructs at written =
    let begins = subst (λ (o : Option Expr). IsSoundBeginning (inside (declared s.context) class) v.of o) some
    (field_begins s class source place count v constructs at) in
    let narrow = begins_fitting begins in
    let wide = fits_wide s.context s.env class v.of e (constructs.scene).declares constructs.this narrow in
    let run = full (expression (calls_of s) e >>= write_field place) in
    subst (λ (o : Option Expr). ActsFrom s old new count
    (option_map_or (λ d. full (expression (calls_of s) d >>= write_field place)) o skip)) (sym some)
    (subst (λ (n : ℕ). StoresValue old new e n (i.WriteOwnField place n) → ActsFrom s old new n run) constructs.locals
    (λ y. field_here s class source old new place v e constructs.scene constructs.this constructs.there at narrow
    wide written
    y) x)

pub field_with : (old new : Written) (place : ℕ) (v : Initialization) (e : Expr) (count : ℕ) → v.value ≡ Some e
    → StoresValue old new e count (i.WriteOwnField place count)
    → EmitsField old new place v count
field_with old new place v e count some x = record {
  keeps = stored_keeps old new e count (i.WriteOwnField place count) x;
  does = λ s class source constructs at written. field_does s class source old new place count v e some x
      constructs at written;
}

-- fields, one after another

pub no_fields : (b : Written) (place count : ℕ) → EmitsFields b b place [] count
no_fields b place count = record {
  keeps = keeps_itself b;
  none = λ is. refl;
  does = λ s class source constructs rest written.
      code.acts_none s.setting (Good s) s.function s.room (end_of b) count;
}

fields_do : (s : Scene) (class : ℕ) (source : Class) (old mid new : Written) (place : ℕ) (v : Initialization)
    (vs : List Initialization) (count : ℕ)
    → Constructs s class source count
    → slice_get source.fields place ≡ Some v
    → ActsFrom s old mid count (initialize_field (calls_of s) place v)
    → ActsFrom s mid new count (initialize_fields (calls_of s) (place + 1) vs)
    → ActsFrom s old new count (initialize_fields (calls_of s) place (v ∷ vs))
fields_do s class source old mid new place v vs count constructs at first second =
    code.acts_then s.setting (Good s) s.function s.room (Ready s) (initialize_field (calls_of s) place v)
    (initialize_fields (calls_of s) (place + 1) vs) (end_of old) (end_of mid) (end_of new) count count count first
    (λ a b u good is. (spends_one s constructs.scene class source constructs.this constructs.there place v
    (field_type source place v at) (field_begins s class source place count v constructs at) a b u good is).0) second

pub more_fields : (old mid new : Written) (place : ℕ) (v : Initialization) (vs : List Initialization) (count : ℕ)
    → EmitsField old mid place v count → EmitsFields mid new (place + 1) vs count
    → EmitsFields old new place (v ∷ vs) count
more_fields old mid new place v vs count first second = record {
  keeps = keeps_on old mid new first.keeps second.keeps;
  none = λ is. absurd (cc);
  does = λ s class source constructs rest written.
      let at = first_of_rest source.fields place v vs rest in
      fields_do s class source old mid new place v vs count constructs at
      (first.does s class source constructs at (written_first s old mid new second.keeps written))
      (second.does s class source constructs (others_of_rest source.fields place v vs rest)
      (written_second s old mid new first.keeps written));
}
