-- Expressions give values of their types, where what bodies do is known.
use Rattle.std.proofs.Common.{◌≡◌, ◌⊎◌, ◌<◌, ℕ, Bool, true, false, List, length, refl, sym, ap, ◌∙◌, subst, inl, inr, pos, slice_get, option_map, nat_lt}
use Rattle.std.proofs.lemmas.Option.{same_Some, slice_get-map}
use Rattle.std.specs.Prelude.{Option, Some}
use Rattle.ash_host.specs.declared.word.Word.{Word}
use Rattle.ash_host.specs.declared.word.Word.TheVariants as words
use Rattle.ash_host.specs.Objects.{LiveObjects, handle, handles}
use Rattle.ash_integers.specs.declared.int_type.IntType.{IntType}
use Rattle.ash_typed.specs.declared.types.Element as typed_element
use Rattle.ash_typed.specs.declared.types.ObjectType.{ObjectType}
use Rattle.ash_typed.specs.declared.types.VarType.{VarType}
use Rattle.ash_typed.specs.declared.types.VarType.TheVariants as vars
use Rattle.ash_typed.specs.declared.tree.operations.Lazy.{Lazy}
use Rattle.ash_typed.specs.declared.tree.operations.Lazy.TheVariants as lazies
use Rattle.ash_typed.specs.declared.tree.operations.ObjectMember.{ObjectMember}
use Rattle.ash_typed.specs.declared.tree.operations.Change.{Change}
use Rattle.ash_typed.specs.declared.tree.operations.Calculator.{Calculator}
use Rattle.ash_typed.specs.TypedTree.{Expr, Place, Exprs}
use Rattle.ash_typed.specs.TypeOf.{ValueType, null_value, value, as_value, value_of_result}
use Rattle.ash_typed.specs.Signatures.{ModuleSignatures, ClassTypes, IsSubtype, signature_of_class}
use Rattle.ash_typed.specs.SoundOperations as operations
use Rattle.ash_typed.specs.SoundOperations.{IsSoundMember, IsMethod, IsTarget, IsSoundCast, IsShift, IsSoundChange}
use Rattle.ash_typed.specs.SoundExpressions as sound
use Rattle.ash_typed.specs.SoundExpressions.{TypedEnvironment, IsWellTyped, HasPlace, fits, AreSoundArguments, no_arguments, argument}
use Rattle.ash_meaning.specs.declared.exception.Exception.TheVariants.{IndexOutOfBounds}
use Rattle.ash_meaning.specs.Activity.{Activity}
use Rattle.ash_meaning.specs.Runs.{Run, Progress}
use Rattle.ash_meaning.specs.ObjectSteps.{object_of, words_in}
use Rattle.ash_meaning.specs.ArraySteps.{natural_of, index_in}
use Rattle.ash_meaning.specs.OperatorMeaning.{is_true, calculate, altered}
use Rattle.ash_meaning.specs.Locations.{Location, location_of_member}
use Rattle.ash_meaning.specs.Classes.{Program, Entry}
use Rattle.ash_meaning.specs.CallMeaning.{Calls}
use Rattle.ash_meaning.specs.ExpressionMeaning.{expression, location, arguments, lazily}
use Rattle.ash_soundness.specs.WellFormed.{Context, IsContext, declared, Shape, shape_at, IsOfClass, IsArrayOf, IsOf, IsReference, to_object, IsInteger, IsValue, is_truth, is_integer, is_handle, to_nothing, no_values, and_value, IsGiven, gives_null, gives, IsThis, no_this, is_this, IsWellFormed}
use Rattle.ash_soundness.specs.WellFormedLaws.{Goes, AreCarried, a_property, Leaves, done, ended, Evaluates}
use Rattle.ash_soundness.proofs.Values.{integer_is_none, handle_cases, none_in}
use Rattle.ash_soundness.proofs.Fits.{kept_value, fitting_value}
use Rattle.ash_soundness.proofs.Integers.{integer_word, calculate_gives, altered_value, altered_is_none}
use Rattle.ash_soundness.proofs.Triples.{bind, weaken, after_demand, chosen, safe, goes_itself, goes_more, carry, given_held}
use Rattle.ash_soundness.proofs.Hosts.{well_after, evaluates_after}
use Rattle.ash_soundness.proofs.Constructions.{bind_here, lt_from}
use Rattle.ash_soundness.proofs.Arrays.{after_object}
use Rattle.ash_soundness.proofs.Locations.{IsLocated, in_local, in_global, in_field, in_element, in_property, IsRead, read_gives, store_gives, update_gives, count_gives}
use Rattle.ash_soundness.proofs.Calls.{KeepsBodies, handle_of, cast_gives, invoke_gives, target_gives}

-- a place that was computed
pub record IsPlaced (c : Context) (env : TypedEnvironment) (envs : List TypedEnvironment) (of : VarType) (a : Activity) (l : Location) (b : Activity) : Type 0 where
  pub goes : Goes c env envs a b
  pub located : IsLocated c env b l of

-- the object of a handle that was computed
record IsObjectThere (c : Context) (env : TypedEnvironment) (envs : List TypedEnvironment) (Is : Shape → Type 0) (a : Activity) (number : ℕ) (b : Activity) : Type 0 where
  pub goes : Goes c env envs a b
  pub shape : Shape
  pub at : shape_at number (b.world).objects ≡ Some shape
  pub is : Is shape

object_there : {c : Context} {env : TypedEnvironment} {envs : List TypedEnvironment} {Is : Shape → Type 0} {a b : Activity} {w : Word} → Goes c env envs a b → IsReference (b.world).objects Is w → Leaves c (IsObjectThere c env envs Is a) (object_of w b)
object_there g to_nothing = ended (safe (well_after g))
object_there g (to_object {shape = shape} at is) = done (record { goes = g; shape = shape; at = at; is = is })

-- what was read at a place
pub record WasRead (c : Context) (env : TypedEnvironment) (envs : List TypedEnvironment) (of : VarType) (a : Activity) (w : Word) (b : Activity) : Type 0 where
  pub goes : Goes c env envs a b
  pub value : IsValue c.program (b.world).objects of w

was_read : {c : Context} {env : TypedEnvironment} {envs : List TypedEnvironment} {of : VarType} {a b d : Activity} {l : Location} {w : Word} → Goes c env envs a b → IsRead c env envs l of b w d → WasRead c env envs of a w d
was_read g r = record { goes = goes_more g r.goes; value = r.value }

-- arguments that were computed
pub record AreArgued (c : Context) (env : TypedEnvironment) (envs : List TypedEnvironment) (types : List VarType) (a : Activity) (ws : List Word) (b : Activity) : Type 0 where
  pub goes : Goes c env envs a b
  pub carried : AreCarried c types b ws

this_of : {p : Program} {all : LiveObjects (List ℕ)} {class : ℕ} {o : Option ℕ} {w : Word} → IsThis p all o w → o ≡ Some class → IsReference all (IsOfClass p class) w
this_of {p} {all} {class} (is_this {class = other} {number} at i) e = subst (λ (n : ℕ). IsReference all (IsOfClass p n) (words.Object number)) (same_Some other class e) (to_object at i)
this_of no_this e = absurd (cc)

integer_of : {p : Program} {all : LiveObjects (List ℕ)} {int_type : IntType} {w : Word} → IsGiven p all (value (vars.Integer int_type)) w → IsInteger int_type w
integer_of (gives (is_integer i)) = i

null_is : {p : Program} {all : LiveObjects (List ℕ)} {o : ObjectType} {w : Word} → IsGiven p all null_value w → IsGiven p all (value (vars.Handle o)) w
null_is gives_null = gives (is_handle to_nothing)

member_located : {c : Context} {env : TypedEnvironment} {o : ObjectType} {held : ObjectMember} {of : VarType} {a : Activity} (number : ℕ) (shape : Shape) → IsSoundMember (declared c) o held of → shape_at number (a.world).objects ≡ Some shape → IsOf c.program o shape → IsLocated c env a (location_of_member held number) of
member_located {c} number shape (operations.field {class} {place} {of} {c = cs} at field) there i =
    let of_source : cs ≡ signature_of_class i.source = same_Some cs (signature_of_class i.source) (sym at ∙ slice_get-map signature_of_class ((c.program).tree).classes class ∙ ap (option_map signature_of_class) i.at) in
    in_field i there (subst (λ (x : ClassTypes). slice_get x.fields place ≡ Some of) of_source field)
member_located number shape (operations.property {kind} {id} {of} i) there typed = in_property (a_property kind id of i)

module _ {c : Context} {env : TypedEnvironment} {envs : List TypedEnvironment} where
  -- words that are no handles

  integer_here : {a : Activity} {int_type : IntType} {w : Word} → IsWellFormed c env envs a → IsInteger int_type w → Evaluates c env envs (value (vars.Integer int_type)) a w a
  integer_here h i = record { goes = goes_itself h; carried = record { value = gives (is_integer i); held = λ n e. absurd (integer_is_none n i e) } }

  truth_here : {a : Activity} (b : Bool) → IsWellFormed c env envs a → Evaluates c env envs (value vars.Bool) a (words.Bool b) a
  truth_here b h = record { goes = goes_itself h; carried = record { value = gives is_truth; held = λ n e. absurd (cc) } }

  null_here : {a : Activity} → IsWellFormed c env envs a → Evaluates c env envs null_value a words.Null a
  null_here h = record { goes = goes_itself h; carried = record { value = gives_null; held = λ n e. absurd (cc) } }

  after_all : {a b : Activity} {of : ValueType} {r : Progress Word} → Goes c env envs a b → Leaves c (Evaluates c env envs of b) r → Leaves c (Evaluates c env envs of a) r
  after_all g l = weaken (λ w d e. evaluates_after g e) l

  -- null where there may be an object
  null_as_handle : {a b : Activity} {o : ObjectType} {w : Word} → Evaluates c env envs null_value a w b → Evaluates c env envs (value (vars.Handle o)) a w b
  null_as_handle e = record { goes = e.goes; carried = record { value = null_is (e.carried).value; held = (e.carried).held } }

  lazily_gives : {a : Activity} (op : Lazy) (b : Bool) (right : Run Word) → IsWellFormed c env envs a → Leaves c (Evaluates c env envs (value vars.Bool) a) (right a) → Leaves c (Evaluates c env envs (value vars.Bool) a) (lazily op b right a)
  lazily_gives lazies.And true right h l = l
  lazily_gives lazies.And false right h l = done (truth_here false h)
  lazily_gives lazies.Or true right h l = done (truth_here true h)
  lazily_gives lazies.Or false right h l = l

  altered_here : {a : Activity} {change : Change} {of : VarType} (w : Word) → IsSoundChange change of → IsWellFormed c env envs a → Evaluates c env envs (value of) a (altered change w) a
  altered_here w x h = record { goes = goes_itself h; carried = record { value = gives (altered_value w x); held = λ n e. absurd (altered_is_none n w x e) } }

  calculated_here : {a : Activity} (operator : Calculator) (of : IntType) → IsWellFormed c env envs a → (left right : Word) → IsInteger of left → IsShift operator ⊎ IsInteger of right → Leaves c (Evaluates c env envs (value (vars.Integer of)) a) (calculate (record { operator = operator; of = of }) left right a)
  calculated_here {a} operator of h left right l r = weaken (λ w b q. subst (Evaluates c env envs (value (vars.Integer of)) a w) (sym q.0) (integer_here h q.1)) (calculate_gives a (safe h) (record { operator = operator; of = of }) left right l r)

  element_located : {a : Activity} {e : typed_element.Element} (number : ℕ) (shape : Shape) (index : Word) → IsWellFormed c env envs a → shape_at number (a.world).objects ≡ Some shape → IsArrayOf c.program e shape → Leaves c (λ place b. (b ≡ a) × (place < length (words_in number a.world))) (index_in number index a)
  element_located {a} number shape index h there i =
      after_demand _ (nat_lt (natural_of index) (length (words_in number a.world))) IndexOutOfBounds a (safe h) (λ within. done (refl, lt_from _ _ within))

module _ {c : Context} (context : IsContext c) (body : Entry → Run (Option Word)) (bodies : KeepsBodies c body) where
  abbrev of_bodies : Calls
  of_bodies = record { program = c.program; body = body }

  module _ {env : TypedEnvironment} (same : env.signatures ≡ declared c) where
    mutual
      pub expression_gives : {e : Expr} {t : ValueType} → IsWellTyped env e t → {envs : List TypedEnvironment} {a : Activity} → IsWellFormed c env envs a → Leaves c (Evaluates c env envs t a) (expression of_bodies e a)
      expression_gives (sound.number {int_type} {n} within) h = done (integer_here h (integer_word int_type (pos n)))
      expression_gives (sound.truth {b}) h = done (truth_here b h)
      expression_gives sound.null h = done (null_here h)
      expression_gives (sound.this {class} is) {a = a} h = given_held (a.frame).this h (gives (is_handle (this_of (h.frame).this is)))
      expression_gives (sound.read {place} {of} p) h =
          bind (bind (location_gives p h) (λ l b k. weaken (λ w d r. was_read k.goes r) (read_gives context l (well_after k.goes) k.located)))
          (λ w d r. after_all r.goes (given_held w (well_after r.goes) (gives (kept_value r.value))))
      expression_gives (sound.invoke {object} {o} {method} {parameters} {result} {es} e m args) h =
          bind (expression_gives e h) (λ handle b got.
          bind (arguments_give args (well_after got.goes)) (λ ws d all.
          let whole = goes_more got.goes all.goes in
          let still = carry (well_after got.goes) all.goes got.carried in
          after_object _ d (safe (well_after all.goes)) (handle_of still.value) (λ number shape is at fits.
          after_all whole (invoke_gives context body bodies number shape ws (subst (λ (s : ModuleSignatures). IsMethod s o method parameters result) same m) (well_after all.goes) at fits (all.carried).values))))
      expression_gives (sound.convert {from} {to} e) h =
          bind (expression_gives e h) (λ w b got. done (evaluates_after got.goes (integer_here (well_after got.goes) (integer_word to _))))
      expression_gives (sound.cast {to} {from} t e) h =
          bind (expression_gives e h) (λ w b got. after_all got.goes (cast_gives context (subst (λ (s : ModuleSignatures). IsSoundCast s to) same t) (well_after got.goes) got.carried))
      expression_gives (sound.alter {change} {of} x e) h =
          bind (expression_gives e h) (λ w b got. done (evaluates_after got.goes (altered_here w x (well_after got.goes))))
      expression_gives (sound.calculate {operator} {of} e f) h =
          bind (expression_gives e h) (λ left b got. bind (expression_gives f (well_after got.goes)) (λ right d more.
          after_all (goes_more got.goes more.goes) (calculated_here operator of (well_after more.goes) left right (integer_of (got.carried).value) (inr (integer_of (more.carried).value)))))
      expression_gives (sound.shift {operator} {of} s e f) h =
          bind (expression_gives e h) (λ left b got. bind (expression_gives f (well_after got.goes)) (λ right d more.
          after_all (goes_more got.goes more.goes) (calculated_here operator of (well_after more.goes) left right (integer_of (got.carried).value) (inl s))))
      expression_gives (sound.compare {operator} {of} x e i f j) h =
          bind (expression_gives e h) (λ left b got. bind (expression_gives f (well_after got.goes)) (λ right d more.
          done (evaluates_after (goes_more got.goes more.goes) (truth_here _ (well_after more.goes)))))
      expression_gives (sound.lazily {operator} e f) h =
          bind (expression_gives e h) (λ left b got. after_all got.goes (lazily_gives operator (is_true left) _ (well_after got.goes) (expression_gives f (well_after got.goes))))
      expression_gives (sound.choose x e f) h =
          bind (expression_gives x h) (λ w b got. chosen _ _ (is_true w) b (λ yes. after_all got.goes (expression_gives e (well_after got.goes))) (λ no. after_all got.goes (expression_gives f (well_after got.goes))))
      expression_gives (sound.choose_or_null x e f) h =
          bind (expression_gives x h) (λ w b got. chosen _ _ (is_true w) b (λ yes. after_all got.goes (expression_gives e (well_after got.goes))) (λ no. after_all got.goes (weaken (λ v d r. null_as_handle r) (expression_gives f (well_after got.goes)))))
      expression_gives (sound.null_or_choose x e f) h =
          bind (expression_gives x h) (λ w b got. chosen _ _ (is_true w) b (λ yes. after_all got.goes (weaken (λ v d r. null_as_handle r) (expression_gives e (well_after got.goes)))) (λ no. after_all got.goes (expression_gives f (well_after got.goes))))
      expression_gives (sound.assign {place} {of} p assigned (fits {actual = from} e s)) h =
          bind (expression_gives e h) (λ w b got. bind (location_gives p (well_after got.goes)) (λ l d k.
          let still = carry (well_after got.goes) k.goes got.carried in
          after_all (goes_more got.goes k.goes) (store_gives context l w (well_after k.goes) k.located (fitting_value c of (subst (λ (x : ModuleSignatures). IsSubtype x from (value (as_value of))) same s) still.value) still.held)))
      expression_gives (sound.update {place} {int_type} {of} {operator} p e) h =
          bind (expression_gives e h) (λ right b got. bind (location_gives p (well_after got.goes)) (λ l d k.
          after_all (goes_more got.goes k.goes) (update_gives context int_type (record { operator = operator; of = of }) right l (inr (integer_of (got.carried).value)) (well_after k.goes) k.located)))
      expression_gives (sound.update_by_shift {place} {int_type} {of} {count} {operator} s p e) h =
          bind (expression_gives e h) (λ right b got. bind (location_gives p (well_after got.goes)) (λ l d k.
          after_all (goes_more got.goes k.goes) (update_gives context int_type (record { operator = operator; of = of }) right l (inl s) (well_after k.goes) k.located)))
      expression_gives (sound.count {place} {int_type} {step} p) h =
          bind (location_gives p h) (λ l b k. after_all k.goes (count_gives context int_type step l (well_after k.goes) k.located))
      expression_gives (sound.call {target} {parameters} {result} t args) h =
          bind (arguments_give args h) (λ ws b all. after_all all.goes (target_gives context body bodies ws (subst (λ (s : ModuleSignatures). IsTarget s target parameters result) same t) (well_after all.goes) all.carried))

      pub location_gives : {place : Place} {of : VarType} → HasPlace env place of → {envs : List TypedEnvironment} {a : Activity} → IsWellFormed c env envs a → Leaves c (IsPlaced c env envs of a) (location of_bodies place a)
      location_gives (sound.local at) h = done (record { goes = goes_itself h; located = in_local at })
      location_gives (sound.global {place} {of} at) h = done (record { goes = goes_itself h; located = in_global (subst (λ (s : ModuleSignatures). slice_get s.globals place ≡ Some of) same at) })
      location_gives (sound.member {object} {o} {held} {of} e m) h =
          bind (bind (expression_gives e h) (λ handle b got. object_there got.goes (handle_of (got.carried).value)))
          (λ number d k. done (record { goes = k.goes; located = member_located number k.shape (subst (λ (s : ModuleSignatures). IsSoundMember s o held of) same m) k.at k.is }))
      location_gives (sound.element {array} {index} {of} e f) h =
          bind (expression_gives e h) (λ handle b got. bind (expression_gives f (well_after got.goes)) (λ i d more.
          let still = carry (well_after got.goes) more.goes got.carried in
          after_object _ d (safe (well_after more.goes)) (handle_of still.value) (λ number shape is at fits.
          bind_here _ (element_located number shape i (well_after more.goes) at fits) (λ place within.
          done (record { goes = goes_more got.goes more.goes; located = in_element fits at within refl })))))

      pub arguments_give : {types : List VarType} {es : Exprs} → AreSoundArguments env types es → {envs : List TypedEnvironment} {a : Activity} → IsWellFormed c env envs a → Leaves c (AreArgued c env envs types a) (arguments of_bodies es a)
      arguments_give no_arguments h = done (record { goes = goes_itself h; carried = record { values = no_values; held = λ n i. absurd (none_in n i) } })
      arguments_give (argument {of} (fits {actual = from} e s) args) h =
          bind (expression_gives e h) (λ w b got. bind (arguments_give args (well_after got.goes)) (λ ws d all.
          let still = carry (well_after got.goes) all.goes got.carried in
          done (record {
            goes = goes_more got.goes all.goes;
            carried = record {
              values = and_value (fitting_value c of (subst (λ (x : ModuleSignatures). IsSubtype x from (value (as_value of))) same s) still.value) (all.carried).values;
              held = λ n i. elim (handle_cases w ws n i) [ inl here ↦ still.held n here | inr later ↦ (all.carried).held n later ];
            };
          })))
