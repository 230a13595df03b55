-- The code of expressions whose value is not used: an assignment to a local writes the local itself.
use Rattle.std.proofs.Common.{◌≡◌, ◌<◌, ◌⊎◌, ℕ, ◌+◌, ℤ, pos, negsuc, refl, sym, ap, ◌∙◌, subst, arith, true}
use Rattle.std.specs.Prelude.{Some, slice_get, slice_index_or, ◌+ℤ◌, ◌-ℤ◌}
use Rattle.std.proofs.lemmas.Int.{ints as signed}
use Rattle.ash_host.specs.declared.word.Word.{Word}
use Rattle.ash_host.specs.declared.word.Word.TheVariants as words
use Rattle.ash_host.specs.Objects.{LiveObjects}
use Rattle.std.proofs.Common.{List}
use Rattle.ash_integers.specs.declared.int_type.IntType.{IntType}
use Rattle.ash_integers.specs.declared.int_type.IntType.TheVariants as ints
use Rattle.ash_typed.specs.declared.types.VarType.{VarType}
use Rattle.ash_typed.specs.declared.types.VarType.TheVariants as vars
use Rattle.ash_typed.specs.declared.tree.operations.Calculation.{Calculation}
use Rattle.ash_typed.specs.declared.tree.operations.IncrementOp.{IncrementOp}
use Rattle.ash_typed.specs.declared.tree.operations.Variable.TheVariants as variables
use Rattle.ash_typed.specs.TypeOf.{ValueType, value}
use Rattle.ash_typed.specs.TypedTree.{Expr, Assign, Update, Count, Place, Stored}
use Rattle.ash_typed.specs.SoundOperations.{IsShift}
use Rattle.ash_typed.specs.SoundExpressions as typing
use Rattle.ash_typed.specs.SoundExpressions.{TypedEnvironment, IsWellTyped}
use Rattle.ash_meaning.specs.Activity.{Activity}
use Rattle.ash_meaning.specs.Runs.{Run, Progress, Done, Ended, NoStep, onward, give, ◌>>=◌}
use Rattle.ash_meaning.specs.Classes.{Program}
use Rattle.ash_meaning.specs.Locations.{Local}
use Rattle.ash_typed.specs.declared.tree.operations.Operation.TheVariants as operations
use Rattle.ash_meaning.specs.OperatorMeaning.{word_at, calculate, operate, converted_to, counted, given_by}
use Rattle.ash_meaning.specs.ExpressionMeaning.{expression, store, update}
use Rattle.ash_soundness.specs.WellFormed.{IsInteger, IsValue, is_integer, int}
use Rattle.ash_soundness.proofs.Integers.{calculate_gives, counted_integer}
use Rattle.ash_soundness.proofs.Triples.{safe}
use Rattle.ash_run_steps.specs.Guarded.{onward as guarded_onward}
use Rattle.ash_run_steps.specs.GuardedSteps.{is_alive}
use Rattle.ash_code.specs.declared.instruction.Instruction.{Instruction}
use Rattle.ash_code.specs.declared.instruction.Instruction.TheVariants as i
use Rattle.ash_code.specs.Controls.{Window, control}
use Rattle.ash_code.specs.Performing.{perform, put, of_int}
use Rattle.ash_typed.specs.declared.tree.operations.Calculator.TheVariants as calculators
use Rattle.ash_compile.specs.declared.builder.Written.{Written}
use Rattle.ash_compile.specs.Emission.{end_of, Puts, Scene, IsScene, Good, Emits, calls_of}
use Rattle.ash_compile.specs.Operands.{Affects, EmitsIn, EmitsInto, EmitsEffect, Calculates}
use Rattle.ash_compile.specs.Operands.{Adds, AddsTo, IsAddition}
use Rattle.ash_typed.specs.declared.tree.expressions.ExprKind.{ExprKind}
use Rattle.ash_typed.specs.TypedTreeViews.{expr_in}
use Rattle.ash_compile.specs.Effects.{IsLocalPlace, CountsInt, Counts}
use Rattle.ash_compile.proofs.Phrases.{local_in, given_keeps, calculated_keeps}
use Rattle.ash_compile.proofs.Conversions.{converted_same}
use Rattle.ash_compile.proofs.Typed.{evaluates, stays_good, left_done, local_there, local_value}
use Rattle.ash_compile.proofs.Emission.{HasAt, keeps_on, put_keeps, put_one, put_within, suits_before, stands_before, has_put}
use Rattle.ash_compile.proofs.PlaceGuards.{Well, well_of}
use Rattle.ash_compile.proofs.UpdateCode.{IsRight, right_operand, integer_alive}
use Rattle.ash_compile.proofs.EmittedUpdates.{typed_updated, typed_operand, typed_right}
use Rattle.ash_compile.proofs.OperandCode.{below_in, computes_in_as, none_into, one_into}
use Rattle.ash_compile.proofs.Operands.{DoesIn, calculated_by, receives_local, emits_in, adds_number, number_keeps}

-- what is left of a value

pub effect_of : (old new : Written) (e : Expr) (slot at : ℕ) → EmitsIn old new e slot at → EmitsEffect old new e slot
effect_of old new e slot at emits = record {
  keeps = emits.keeps;
  does = λ s of scene typed stands suits. record {
    comes = λ w a rest low long fits good goes.
        (emits.does s of scene typed stands suits).comes w a rest low long fits good (λ word b slots ran held.
        goes word b slots ran (below_in w slot at word slots b held));
  };
}

-- `op=` at a local

integer_value : {p : Program} {all : LiveObjects (List ℕ)} {t : IntType} (w : Word) → IsValue p all (vars.Integer t) w
    → IsInteger t w
integer_value w (is_integer i) = i

abbrev local_of : ℕ → Activity → Word
local_of n a = slice_index_or (a.frame).locals n words.Null

stores_same : (t : IntType) (n : ℕ) (q : Progress Word)
    → ((v : Word) (b : Activity) → q ≡ Done v b → IsInteger t v)
    → onward q (λ word. give (Local n) >>= store word) ≡ onward q (λ word. store (converted_to t word) (Local n))
stores_same t n (Done v b) is = ap (λ (x : Word). store x (Local n) b) (sym (converted_same t v (is v b refl)))
stores_same t n (Ended e b) is = refl
stores_same t n NoStep is = refl

module _ (s : Scene) (c : Calculation) (n : ℕ) where
  abbrev Calculated : Word → Run Word
  Calculated right b = calculate c (local_of n b) right b

  calculated_is : (right v : Word) (b d : Activity) → Well s b → IsInteger c.of (local_of n b) → IsRight c right
      → Calculated right b ≡ Done v d → IsInteger c.of v
  calculated_is right v b d well left_is right_is ran =
      (left_done v d (calculate_gives b (safe well) c (local_of n b) right left_is right_is) ran).1

  -- what is known after the right side
  abbrev Known : Progress Word → Type 0
  Known p = (right : Word) (b : Activity) → p ≡ Done right b
      → Well s b × IsInteger c.of (local_of n b) × IsRight c right

  updated_same : (p : Progress Word) → Known p
      → onward (onward p Calculated) (λ word. give (Local n) >>= store word)
      ≡ onward p (λ right. give (Local n) >>= update c.of c right)
  updated_same (Done right b) known =
      let k = known right b refl in
      stores_same c.of n (Calculated right b) (λ v d ran. calculated_is right v b d k.0 k.1 k.2 ran)
      ∙ ap (λ (x : Word). onward (calculate c x right b) (λ word. store (converted_to c.of word) (Local n)))
      (sym (converted_same c.of (local_of n b) k.1))
  updated_same (Ended e b) known = refl
  updated_same NoStep known = refl

  made_integer : (p : Progress Word) (v : Word) (d : Activity) → Known p → onward p Calculated ≡ Done v d
      → IsInteger c.of v
  made_integer (Done right b) v d known ran =
      let k = known right b refl in calculated_is right v b d k.0 k.1 k.2 ran
  made_integer (Ended e b) v d known ran = absurd (cc)
  made_integer NoStep v d known ran = absurd (cc)

-- what is known where an update of a local runs
update_known : (s : Scene) (c : Calculation) (n : ℕ) (e : Expr) (given : ValueType) (a : Activity) → IsScene s
    → slice_get (s.env).locals n ≡ Some (vars.Integer c.of) → IsWellTyped s.env e given
    → IsShift c.operator ⊎ (given ≡ value (vars.Integer c.of)) → Good s a
    → Known s c n (expression (calls_of s) e a)
update_known s c n e given a scene at typed given_is good right b ran =
    let still = stays_good s e given a b right scene typed good ran in (
      well_of s b still,
      integer_value (local_of n b) (local_value s b n (vars.Integer c.of) still at),
      right_operand c given right given_is ((evaluates s e given a b right scene typed good ran).carried).value,
    )

does_update_local : (s : Scene) (c : Calculation) (n : ℕ) (e : Expr) (given : ValueType) (from at slot right : ℕ)
    (j : Instruction)
    → IsScene s → slice_get (s.env).locals n ≡ Some (vars.Integer c.of) → IsWellTyped s.env e given
    → IsShift c.operator ⊎ (given ≡ value (vars.Integer c.of)) → slot < s.room
    → DoesIn s (expression (calls_of s) e) from at slot right → HasAt s at j → Calculates j c n right n
    → DoesIn s (expression (calls_of s) (Update (Stored (variables.Local n (vars.Integer c.of))) c.of c e)) from (at + 1)
    slot n
does_update_local s c n e given from at slot right j scene there typed given_is within first has by =
    let run = expression (calls_of s) e in
    let whole = expression (calls_of s) (Update (Stored (variables.Local n (vars.Integer c.of))) c.of c e) in
    let R : Word → Run Word = λ word. give (Local n) >>= store word in
    computes_in_as s.setting (Good s) s.function s.room (run >>= Calculated s c n >>= R) whole from (at + 1) slot n
    (λ a good. updated_same s c n (run a) (update_known s c n e given a scene there typed given_is good))
    (one_into s.setting (Good s) s.function s.room run (Calculated s c n) R j from at slot right n within first has
    (receives_local s slot n (vars.Integer c.of) there)
    (λ w a b r good ran fits is.
    let still = stays_good s e given a b r scene typed good ran in
    calculated_by s.setting j c n right n (control s.function at w) b by
    ∙ ap (λ (x : Word). guarded_onward (Some (calculate c x (slice_index_or w.slots right words.Null) b))
    (put n (control s.function at w))) (local_in w b n fits (local_there s b n (vars.Integer c.of) still there))
    ∙ ap (λ (x : Word). guarded_onward (Some (calculate c (local_of n b) x b)) (put n (control s.function at w))) is)
    (λ r v b d ran. calculated_keeps c (local_of n b) r b d v ran)
    (λ a b v good ran.
    integer_alive s c.of v b
    (made_integer s c n (run a) v b (update_known s c n e given a scene there typed given_is good) ran)))

-- a number is added

added_same : (s : Scene) (c : Calculation) (n : ℕ) (e : Expr) (number : ℤ) (a : Activity) → AddsTo c e number
    → onward (expression (calls_of s) e a) (operate (operations.Calculate c) (local_of n a))
    ≡ onward (expression (calls_of s) e a) (Calculated s c n)
added_same s _ n _ _ a (AddsTo.adds_to Adds.adds) = refl
added_same s _ n _ _ a (AddsTo.adds_to Adds.subtracts) = refl

does_add_local : (s : Scene) (c : Calculation) (n : ℕ) (e : Expr) (number : ℤ) (given : ValueType) (from slot : ℕ)
    → IsScene s → slice_get (s.env).locals n ≡ Some (vars.Integer c.of) → IsWellTyped s.env e given
    → IsShift c.operator ⊎ (given ≡ value (vars.Integer c.of)) → slot < s.room
    → HasAt s from (i.AddNumber n number n) → AddsTo c e number
    → DoesIn s (expression (calls_of s) (Update (Stored (variables.Local n (vars.Integer c.of))) c.of c e)) from (from + 1)
    slot n
does_add_local s c n e number given from slot scene there typed given_is within has by =
    let run = expression (calls_of s) e in
    let whole = expression (calls_of s) (Update (Stored (variables.Local n (vars.Integer c.of))) c.of c e) in
    let R : Word → Run Word = λ word. give (Local n) >>= store word in
    computes_in_as s.setting (Good s) s.function s.room (run >>= Calculated s c n >>= R) whole from (from + 1) slot n
    (λ a good. updated_same s c n (run a) (update_known s c n e given a scene there typed given_is good))
    (none_into s.setting (Good s) s.function s.room (run >>= Calculated s c n) R (i.AddNumber n number n) from slot n within
    has (receives_local s slot n (vars.Integer c.of) there)
    (λ w a fits good.
    adds_number s (operations.Calculate c) e number given n n (local_of n a) (control s.function from w) a
    (IsAddition.addition by) typed (local_in w a n fits (local_there s a n (vars.Integer c.of) good there))
    ∙ ap (λ (p : Progress Word). guarded_onward (Some p) (put n (control s.function from w)))
    (added_same s c n e number a by))
    (λ a b v good ran. (
      number_keeps s (operations.Calculate c) e number (local_of n a) v a b (IsAddition.addition by)
          (added_same s c n e number a by ∙ ran),
      integer_alive s c.of v b
          (made_integer s c n (run a) v b (update_known s c n e given a scene there typed given_is good) ran),
    )))

typed_there : {env : TypedEnvironment} {n : ℕ} {of : VarType} {t : IntType}
    → typing.HasPlace env (Stored (variables.Local n of)) (vars.Integer t)
    → (of ≡ vars.Integer t) × (slice_get env.locals n ≡ Some (vars.Integer t))
typed_there (typing.local is) = (refl, is)

pub update_effect : (start old new : Written) (place : Place) (c : Calculation) (e : Expr) (n slot right : ℕ)
    (j : Instruction)
    → IsLocalPlace place n → EmitsIn start old e slot right → Puts old new slot j → Calculates j c n right n
    → EmitsEffect start new (Update place c.of c e) slot
update_effect start old new _ c e n slot right j (IsLocalPlace.local_place {of = of}) first puts by =
    let last = put_keeps old new slot j puts in
    let place = Stored (variables.Local n of) in
    effect_of start new (Update place c.of c e) slot n (record {
      keeps = keeps_on start old new first.keeps last;
      does = λ s t scene typed stands suits.
          let here = typed_there (typed_updated typed) in
          subst (λ (x : VarType). DoesIn s (expression (calls_of s) (Update (Stored (variables.Local n x)) c.of c e))
          (end_of start) (end_of new) slot n) (sym here.0)
          (subst (λ (to : ℕ). DoesIn s
          (expression (calls_of s) (Update (Stored (variables.Local n (vars.Integer c.of))) c.of c e)) (end_of start) to
          slot n) (sym (put_one old new slot j puts))
          (does_update_local s c n e (typed_operand typed).0 (end_of start) (end_of old) slot right j scene here.1
          (typed_operand typed).1 (typed_right typed) (put_within s old new slot j scene puts suits)
          (first.does s (typed_operand typed).0 scene (typed_operand typed).1
          (stands_before s old new (end_of start) last stands) (suits_before s old new last suits))
          (has_put s old new (end_of start) slot j (first.keeps).longer puts stands) by));
    })

pub add_effect : (old new : Written) (place : Place) (c : Calculation) (e : Expr) (number : ℤ) (n slot : ℕ)
    → IsLocalPlace place n → Puts old new slot (i.AddNumber n number n) → AddsTo c e number
    → EmitsEffect old new (Update place c.of c e) slot
add_effect old new _ c e number n slot (IsLocalPlace.local_place {of = of}) puts by =
    effect_of old new (Update (Stored (variables.Local n of)) c.of c e) slot n (record {
      keeps = put_keeps old new slot (i.AddNumber n number n) puts;
      does = λ s t scene typed stands suits.
          let here = typed_there (typed_updated typed) in
          subst (λ (x : VarType). DoesIn s (expression (calls_of s) (Update (Stored (variables.Local n x)) c.of c e))
          (end_of old) (end_of new) slot n) (sym here.0)
          (subst (λ (to : ℕ). DoesIn s
          (expression (calls_of s) (Update (Stored (variables.Local n (vars.Integer c.of))) c.of c e)) (end_of old) to
          slot n) (sym (put_one old new slot (i.AddNumber n number n) puts))
          (does_add_local s c n e number (typed_operand typed).0 (end_of old) slot scene here.1
          (typed_operand typed).1 (typed_right typed)
          (put_within s old new slot (i.AddNumber n number n) scene puts suits)
          (has_put s old new (end_of old) slot (i.AddNumber n number n) (omega arith) puts stands) by));
    })

-- `++` and `--` at a local

one_less : (z : ℤ) → z +ℤ negsuc 0 ≡ z -ℤ pos 1
one_less z = omega (arith, signed)

more_int : (n : ℕ) (w : Word) (j : Instruction) (step : IncrementOp) (s : Scene) (at : ℕ) (win : Window) (a : Activity)
    → IsInteger ints.Int w → slice_index_or win.slots n words.Null ≡ w → CountsInt j step n
    → perform s.setting j (control s.function at win) a
    ≡ put n (control s.function at win) (counted step ints.Int w) a
more_int n _ _ _ s at win a (int {n = z} f) is CountsInt.up =
    ap (λ (x : Word). guarded_onward (Some (calculate (of_int calculators.Add) x (words.Int (pos 1)) a))
    (put n (control s.function at win))) is
more_int n _ _ _ s at win a (int {n = z} f) is CountsInt.up_after =
    ap (λ (x : Word). guarded_onward (Some (calculate (of_int calculators.Add) x (words.Int (pos 1)) a))
    (put n (control s.function at win))) is
more_int n _ _ _ s at win a (int {n = z} f) is CountsInt.down =
    ap (λ (x : Word). guarded_onward (Some (calculate (of_int calculators.Add) x (words.Int (negsuc 0)) a))
    (put n (control s.function at win))) is
    ∙ ap (λ (y : ℤ). put n (control s.function at win) (word_at ints.Int y) a) (one_less z)
more_int n _ _ _ s at win a (int {n = z} f) is CountsInt.down_after =
    ap (λ (x : Word). guarded_onward (Some (calculate (of_int calculators.Add) x (words.Int (negsuc 0)) a))
    (put n (control s.function at win))) is
    ∙ ap (λ (y : ℤ). put n (control s.function at win) (word_at ints.Int y) a) (one_less z)

counts_so : (n : ℕ) (t : IntType) (w : Word) (j : Instruction) (step : IncrementOp) (s : Scene) (at : ℕ) (win : Window)
    (a : Activity)
    → IsInteger t w → slice_index_or win.slots n words.Null ≡ w → Counts j step t n
    → perform s.setting j (control s.function at win) a ≡ put n (control s.function at win) (counted step t w) a
counts_so n t w _ step s at win a integer is Counts.counts =
    ap (λ (x : Word). put n (control s.function at win) (counted step t x) a) is
counts_so n _ w j step s at win a integer is (Counts.counts_int counts) = more_int n w j step s at win a integer is counts

abbrev Counted : ℕ → IntType → IncrementOp → Run Word
Counted n t step a = give (counted step t (local_of n a)) a

does_count_local : (s : Scene) (n : ℕ) (t : IntType) (step : IncrementOp) (from slot : ℕ) (j : Instruction)
    → slice_get (s.env).locals n ≡ Some (vars.Integer t) → slot < s.room → HasAt s from j → Counts j step t n
    → DoesIn s (Counted n t step >>= (λ word. give (Local n) >>= store word)) from (from + 1) slot n
does_count_local s n t step from slot j there within has by =
    none_into s.setting (Good s) s.function s.room (Counted n t step) (λ word. give (Local n) >>= store word) j from slot n
    within has (receives_local s slot n (vars.Integer t) there)
    (λ w a fits good.
    counts_so n t (local_of n a) j step s from w a
    (integer_value (local_of n a) (local_value s a n (vars.Integer t) good there))
    (local_in w a n fits (local_there s a n (vars.Integer t) good there)) by)
    (λ a b v good ran. (
      given_keeps (counted step t (local_of n a)) a b v ran,
      subst (λ (x : Word). is_alive x b ≡ true) (let same : counted step t (local_of n a) ≡ v = cc in same)
          (integer_alive s t (counted step t (local_of n a)) b (counted_integer step t (local_of n a))),
    ))

affects_count : (s : Scene) (n : ℕ) (of : VarType) (t : IntType) (step : IncrementOp) (from to slot : ℕ)
    → DoesIn s (Counted n t step >>= (λ word. give (Local n) >>= store word)) from to slot n
    → Affects s.setting (Good s) s.function s.room (expression (calls_of s) (Count (Stored (variables.Local n of)) t step))
    from to slot
affects_count s n of t step from to slot does = record {
  comes = λ w a rest low long fits good goes.
      let given = given_by step (local_of n a) (counted step t (local_of n a)) in
      does.comes w a (λ v b. rest given b) low long fits good (λ v b slots ran held.
      goes given b slots (ap (λ (q : Progress Word). onward q (λ _. give given)) ran)
      (below_in w slot n v slots b held));
}

typed_counted_there : {env : TypedEnvironment} {n : ℕ} {of : VarType} {t : IntType} {step : IncrementOp} {x : ValueType}
    → IsWellTyped env (Count (Stored (variables.Local n of)) t step) x → slice_get env.locals n ≡ Some (vars.Integer t)
typed_counted_there (typing.count (typing.local is)) = is

pub count_effect : (old new : Written) (place : Place) (t : IntType) (step : IncrementOp) (n slot : ℕ)
    (j : Instruction)
    → IsLocalPlace place n → Puts old new slot j → Counts j step t n → EmitsEffect old new (Count place t step) slot
count_effect old new _ t step n slot j (IsLocalPlace.local_place {of = of}) puts by = record {
  keeps = put_keeps old new slot j puts;
  does = λ s x scene typed stands suits.
      affects_count s n of t step (end_of old) (end_of new) slot
      (subst (λ (to : ℕ). DoesIn s (Counted n t step >>= (λ word. give (Local n) >>= store word)) (end_of old) to slot n)
      (sym (put_one old new slot j puts))
      (does_count_local s n t step (end_of old) slot j (typed_counted_there typed)
      (put_within s old new slot j scene puts suits)
      (has_put s old new (end_of old) slot j (omega arith) puts stands) by));
}

pub assign_effect : (old new : Written) (place : Place) (e : Expr) (n slot : ℕ) → IsLocalPlace place n
    → EmitsInto old new e slot n → EmitsEffect old new (Assign place e) slot
assign_effect old new _ e n slot (IsLocalPlace.local_place {of = of}) into =
    effect_of old new (Assign (Stored (variables.Local n of)) e) slot n (into.in_local of)

pub plain_effect : (old new : Written) (e : Expr) (slot : ℕ) → Emits old new e slot → EmitsEffect old new e slot
plain_effect old new e slot emits = effect_of old new e slot slot (emits_in old new e slot emits)

pub effect_of_kind : (old new : Written) (k l : ExprKind) (e : Expr) (slot : ℕ) → k ≡ l → expr_in l ≡ e
    → EmitsEffect old new e slot → EmitsEffect old new (expr_in k) slot
effect_of_kind old new k l e slot is means emits =
    subst (λ (x : Expr). EmitsEffect old new x slot) (sym (ap expr_in is ∙ means)) emits
