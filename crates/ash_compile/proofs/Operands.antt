-- Emitted code whose values stay where they are, or go where they are wanted.
use Rattle.std.proofs.Common.{◌≡◌, ◌<◌, ◌^◌, ◌⊎◌, inl, inr, ℕ, ◌+◌, ℤ, pos, length, refl, sym, ap, ◌∙◌, subst, arith}
use Rattle.std.proofs.Common.{true}
use Rattle.std.specs.Prelude.{Some, slice_get, slice_index_or, ◌-ℤ◌, ◌+ℤ◌}
use Rattle.std.specs.Int.{w32}
use Rattle.std.proofs.lemmas.Int.{int_wrap_fits}
use Rattle.std.proofs.lemmas.Int.{ints as signed}
use Rattle.ash_host.specs.declared.word.Word.{Word}
use Rattle.ash_host.specs.declared.word.Word.TheVariants as words
use Rattle.ash_host.specs.Objects.{handle}
use Rattle.ash_integers.specs.declared.int_type.IntType.TheVariants as ints
use Rattle.ash_typed.specs.declared.types.VarType.{VarType}
use Rattle.ash_typed.specs.declared.tree.operations.Calculation.{Calculation}
use Rattle.ash_typed.specs.declared.tree.operations.Calculator.TheVariants as calculators
use Rattle.ash_typed.specs.declared.tree.operations.Operation.{Operation}
use Rattle.ash_typed.specs.declared.tree.operations.Operation.TheVariants as operations
use Rattle.ash_typed.specs.declared.tree.operations.Variable.TheVariants as variables
use Rattle.ash_typed.specs.TypeOf.{ValueType}
use Rattle.ash_typed.specs.TypedTree.{Expr, Number, Convert, Operate, Assign, Stored}
use Rattle.ash_typed.specs.declared.tree.operations.Conversion.{Conversion}
use Rattle.ash_compile.proofs.Conversions.{unconverted, integer_in}
use Rattle.ash_typed.specs.SoundExpressions as typing
use Rattle.ash_typed.specs.SoundExpressions.{TypedEnvironment, IsWellTyped}
use Rattle.ash_meaning.specs.Activity.{Activity}
use Rattle.ash_meaning.specs.Runs.{Run, Progress, Done, onward, give, ◌>>=◌}
use Rattle.ash_meaning.specs.CallMeaning.{Calls}
use Rattle.ash_meaning.specs.Locations.{Local}
use Rattle.ash_meaning.specs.OperatorMeaning.{word_at, operate, calculate, converted_to}
use Rattle.ash_integers.specs.Integers.{number_at}
use Rattle.ash_meaning.specs.ExpressionMeaning.{expression, store}
use Rattle.ash_soundness.proofs.Values.{given_lives}
use Rattle.ash_run_steps.specs.Guarded.{onward as guarded_onward}
use Rattle.ash_run_steps.specs.GuardedSteps.{is_alive}
use Rattle.ash_code.specs.declared.instruction.Instruction.{Instruction}
use Rattle.ash_code.specs.declared.instruction.Instruction.TheVariants as i
use Rattle.ash_code.specs.Controls.{Control, control, word_at as word_in}
use Rattle.ash_code.specs.Performing.{Setting, perform, put, of_int}
use Rattle.ash_compile.specs.declared.builder.Written.{Written}
use Rattle.ash_compile.specs.Emission.{code_of, end_of, Keeps, Puts, Scene, IsScene, Suits, Good, Stands, Emits, calls_of}
use Rattle.ash_compile.specs.Operands.{ComputesIn, EmitsIn, EmitsInto, ReadsLocal, reads_local, IsPlain, truth, integer}
use Rattle.ash_compile.specs.Operands.{IsSimple, Calculates, Operates, IsAddition}
use Rattle.ash_compile.specs.Operands as operands
use Rattle.ash_compile.proofs.Phrases.{given_keeps, calculated_keeps, none_held}
use Rattle.ash_compile.proofs.KeptLocals.{KeepsLocals, done_keeps, keeps_give}
use Rattle.ash_compile.proofs.Emission.{HasAt, keeps_itself, keeps_on, put_keeps, put_one, put_within, suits_before}
use Rattle.ash_compile.proofs.Emission.{stands_before, stands_after, has_put}
use Rattle.ash_compile.proofs.Emitted.{typed_local, typed_left, typed_right, typed_converted}
use Rattle.ash_compile.proofs.EmittedPlaces.{typed_given}
use Rattle.ash_compile.proofs.Typed.{evaluates, stays_good, alive_of, local_there, local_value, HasNoHandle}
use Rattle.ash_compile.proofs.Typed.{no_handle_in_bool, no_handle_in_integer}
use Rattle.ash_compile.proofs.PlaceSteps.{locals_below}
use Rattle.ash_compile.proofs.OperandCode.{in_slot, in_local, given_on, ReceivesIn, computes_in, computes_there}
use Rattle.ash_compile.proofs.OperandCode.{computes_in_as, own_local, one_into, two_into}

-- expressions

pub simple_keeps : (calls : Calls) (e : Expr) → IsSimple e → KeepsLocals (expression calls e)
simple_keeps calls _ (operands.number {t = t} {n = n}) = keeps_give (word_at t (pos n))
simple_keeps calls _ (operands.truth {b = b}) = keeps_give (words.Bool b)
simple_keeps calls _ (operands.local {n = n}) = record { keeps = λ a. refl }

plain_none : (of : VarType) → IsPlain of → HasNoHandle of
plain_none _ truth = no_handle_in_bool
plain_none _ (integer {t = t}) = no_handle_in_integer t

pub alive_given : (s : Scene) (e : Expr) (of : ValueType) (a b : Activity) (v : Word) → IsScene s → IsWellTyped s.env e of
    → Good s a → expression (calls_of s) e a ≡ Done v b → is_alive v b ≡ true
alive_given s e of a b v scene typed good ran =
    alive_of v (handle v) b refl
    (λ n there. given_lives n (((evaluates s e of a b v scene typed good ran).carried).value) there)

abbrev pub DoesIn : Scene → Run Word → ℕ → ℕ → ℕ → ℕ → Type 0
DoesIn s run from to slot at = ComputesIn s.setting (Good s) s.function s.room run from to slot at

abbrev pub ReceivesAt : Scene → ℕ → ℕ → (Word → Run Word) → Type 0
ReceivesAt s slot to R = ReceivesIn s.setting (Good s) s.function s.room slot to R

-- values where they are

pub emits_in : (old new : Written) (e : Expr) (slot : ℕ) → Emits old new e slot → EmitsIn old new e slot slot
emits_in old new e slot emits = record {
  keeps = emits.keeps;
  does = λ s of scene typed stands suits.
      computes_in s.setting (Good s) s.function s.room (expression (calls_of s) e) (end_of old) (end_of new) slot
      (emits.does s of scene typed stands suits);
}

pub local_there_in : (old : Written) (e : Expr) (n slot : ℕ) → ReadsLocal e n → EmitsIn old old e slot n
local_there_in old _ n slot (reads_local {of = of} plain) = record {
  keeps = keeps_itself old;
  does = λ s t scene typed stands suits.
      own_local s.setting (Good s) s.function s.room n (end_of old) slot
      (λ a good. local_there s a n of good (typed_local typed))
      (λ a good.
      plain_none of plain (s.context).program (a.world).objects _ (local_value s a n of good (typed_local typed)));
}

-- what it reads
pub reads_there : (s : Scene) (e : Expr) (n : ℕ) (t : ValueType) (a : Activity) → ReadsLocal e n → IsWellTyped s.env e t
    → Good s a
    → (n < length (a.frame).locals)
    × (expression (calls_of s) e a ≡ Done (slice_index_or (a.frame).locals n words.Null) a)
reads_there s _ n t a (reads_local {of = of} plain) typed good = (
  local_there s a n of good (typed_local typed),
  none_held (slice_index_or (a.frame).locals n words.Null) a
      (plain_none of plain (s.context).program (a.world).objects _ (local_value s a n of good (typed_local typed))),
)

-- values where they are wanted

typed_to : {env : TypedEnvironment} {to : ℕ} {of : VarType} {e : Expr} {t : ValueType}
    → IsWellTyped env (Assign (Stored (variables.Local to of)) e) t → slice_get env.locals to ≡ Some of
typed_to (typing.assign (typing.local is) assigned fitted) = is

pub receives_local : (s : Scene) (slot to : ℕ) (of : VarType) → slice_get (s.env).locals to ≡ Some of
    → ReceivesAt s slot to (λ word. give (Local to) >>= store word)
receives_local s slot to of is = λ w a fits good low. in_local (locals_below w a to fits (local_there s a to of good is))

into_by : (start new : Written) (e : Expr) (slot to : ℕ) → Keeps start new
    → ((s : Scene) → IsScene s → Suits s new → slot < s.room)
    → ((s : Scene) (of : ValueType) (R : Word → Run Word) → IsScene s → IsWellTyped s.env e of
    → Stands s (code_of new) (end_of start) (end_of new) → Suits s new → ReceivesAt s slot to R
    → DoesIn s (expression (calls_of s) e >>= R) (end_of start) (end_of new) slot to)
    → EmitsInto start new e slot to
into_by start new e slot to keeps within does = record {
  in_slot = λ same. record {
    keeps = keeps;
    does = λ s of scene typed stands suits.
        computes_there s.setting (Good s) s.function s.room (expression (calls_of s) e) (end_of start) (end_of new) slot
        (within s scene suits)
        (computes_in_as s.setting (Good s) s.function s.room (expression (calls_of s) e >>= (λ word. give word))
        (expression (calls_of s) e) (end_of start) (end_of new) slot slot
        (λ a good. given_on (expression (calls_of s) e a))
        (subst (λ (n : ℕ). DoesIn s (expression (calls_of s) e >>= (λ word. give word)) (end_of start) (end_of new) slot n)
        same
        (does s of (λ word. give word) scene typed stands suits (λ w a fits good low. in_slot same low))));
  };
  in_local = λ of. record {
    keeps = keeps;
    does = λ s t scene typed stands suits.
        does s (typed_given typed).0 (λ word. give (Local to) >>= store word) scene (typed_given typed).1 stands suits
        (receives_local s slot to of (typed_to typed));
  };
}

-- one instruction
into_one : (old new : Written) (e : Expr) (slot to : ℕ) (j : Instruction) → Puts old new slot j
    → ((s : Scene) (of : ValueType) (R : Word → Run Word) (from : ℕ) → IsScene s → IsWellTyped s.env e of
    → slot < s.room → HasAt s from j → ReceivesAt s slot to R
    → DoesIn s (expression (calls_of s) e >>= R) from (from + 1) slot to)
    → EmitsInto old new e slot to
into_one old new e slot to j puts does =
    into_by old new e slot to (put_keeps old new slot j puts) (λ s scene suits. put_within s old new slot j scene puts suits)
    (λ s of R scene typed stands suits receives.
    subst (λ (n : ℕ). DoesIn s (expression (calls_of s) e >>= R) (end_of old) n slot to)
    (sym (put_one old new slot j puts))
    (does s of R (end_of old) scene typed (put_within s old new slot j scene puts suits)
    (has_put s old new (end_of old) slot j (omega arith) puts stands) receives))

-- an expression, then an instruction with its value
into_then : (start old new : Written) (e f : Expr) (slot left to : ℕ) (j : Instruction) → EmitsIn start old e slot left
    → Puts old new slot j
    → ((s : Scene) (of : ValueType) → IsWellTyped s.env f of → (inner : ValueType) × IsWellTyped s.env e inner)
    → ((s : Scene) (of : ValueType) (R : Word → Run Word) (from at : ℕ) → IsScene s → IsWellTyped s.env f of
    → slot < s.room → DoesIn s (expression (calls_of s) e) from at slot left → HasAt s at j → ReceivesAt s slot to R
    → DoesIn s (expression (calls_of s) f >>= R) from (at + 1) slot to)
    → EmitsInto start new f slot to
into_then start old new e f slot left to j first puts inner does =
    let last = put_keeps old new slot j puts in
    into_by start new f slot to (keeps_on start old new first.keeps last)
    (λ s scene suits. put_within s old new slot j scene puts suits)
    (λ s of R scene typed stands suits receives.
    subst (λ (n : ℕ). DoesIn s (expression (calls_of s) f >>= R) (end_of start) n slot to)
    (sym (put_one old new slot j puts))
    (does s of R (end_of start) (end_of old) scene typed (put_within s old new slot j scene puts suits)
    (first.does s (inner s of typed).0 scene (inner s of typed).1 (stands_before s old new (end_of start) last stands)
    (suits_before s old new last suits))
    (has_put s old new (end_of start) slot j (first.keeps).longer puts stands) receives))

-- two expressions, then an instruction with their values
into_both : (start mid old new : Written) (a b f : Expr) (slot left right to : ℕ) (j : Instruction)
    → EmitsIn start mid a slot left → EmitsIn mid old b (slot + 1) right
    → Puts old new slot j
    → ((s : Scene) (of : ValueType) → IsWellTyped s.env f of → (x : ValueType) × IsWellTyped s.env a x)
    → ((s : Scene) (of : ValueType) → IsWellTyped s.env f of → (x : ValueType) × IsWellTyped s.env b x)
    → ((s : Scene) (of : ValueType) (R : Word → Run Word) (from between at : ℕ) → IsScene s → IsWellTyped s.env f of
    → slot < s.room → DoesIn s (expression (calls_of s) a) from between slot left
    → DoesIn s (expression (calls_of s) b) between at (slot + 1) right → HasAt s at j → ReceivesAt s slot to R
    → DoesIn s (expression (calls_of s) f >>= R) from (at + 1) slot to)
    → EmitsInto start new f slot to
into_both start mid old new a b f slot left right to j first second puts typed_a typed_b does =
    let last = put_keeps old new slot j puts in
    let later = keeps_on mid old new second.keeps last in
    into_by start new f slot to (keeps_on start mid new first.keeps later)
    (λ s scene suits. put_within s old new slot j scene puts suits)
    (λ s of R scene typed stands suits receives.
    subst (λ (n : ℕ). DoesIn s (expression (calls_of s) f >>= R) (end_of start) n slot to)
    (sym (put_one old new slot j puts))
    (does s of R (end_of start) (end_of mid) (end_of old) scene typed (put_within s old new slot j scene puts suits)
    (first.does s (typed_a s of typed).0 scene (typed_a s of typed).1
    (stands_before s mid new (end_of start) later stands) (suits_before s mid new later suits))
    (second.does s (typed_b s of typed).0 scene (typed_b s of typed).1
    (stands_after s (code_of old) (end_of start) (end_of mid) (end_of old) (first.keeps).longer
    (stands_before s old new (end_of start) last stands)) (suits_before s old new last suits))
    (has_put s old new (end_of start) slot j (omega (arith, (first.keeps).longer, (second.keeps).longer)) puts stands)
    receives))

-- operators

pub calculated_by : (s : Setting) (j : Instruction) (c : Calculation) (left right to : ℕ) (at : Control) (a : Activity)
    → Calculates j c left right to
    → perform s j at a ≡ guarded_onward (Some (calculate c (word_in left at) (word_in right at) a)) (put to at)
calculated_by s _ c left right to at a operands.Calculates.calculates = refl
calculated_by s _ _ left right to at a operands.Calculates.adds = refl
calculated_by s _ _ left right to at a operands.Calculates.subtracts = refl

operated_by : (s : Setting) (j : Instruction) (o : Operation) (left right to : ℕ) (at : Control) (a : Activity)
    → Operates j o left right to
    → perform s j at a ≡ guarded_onward (Some (operate o (word_in left at) (word_in right at) a)) (put to at)
operated_by s j _ left right to at a (operands.Operates.calculates {c = c} does) = calculated_by s j c left right to at a does
operated_by s _ _ left right to at a operands.Operates.compares = refl

pub performs_operation : (s : Setting) (j : Instruction) (o : Operation) (left right to : ℕ) (l r : Word) (at : Control)
    (a : Activity)
    → Operates j o left right to → word_in left at ≡ l → word_in right at ≡ r
    → perform s j at a ≡ guarded_onward (Some (operate o l r a)) (put to at)
performs_operation s j o left right to l r at a does left_is right_is =
    operated_by s j o left right to at a does
    ∙ ap (λ (x : Word). guarded_onward (Some (operate o x (word_in right at) a)) (put to at)) left_is
    ∙ ap (λ (x : Word). guarded_onward (Some (operate o l x a)) (put to at)) right_is

operated_keeps : (o : Operation) (l r v : Word) (b d : Activity) → operate o l r b ≡ Done v d
    → (d.frame).locals ≡ (b.frame).locals
operated_keeps (operations.Calculate c) l r v b d ran = calculated_keeps c l r b d v ran
operated_keeps (operations.Compare comparator of) l r v b d ran = given_keeps _ b d v ran

pub unmoved : (s : Scene) (b : Expr) (left slot : ℕ) → (left ≡ slot) ⊎ IsSimple b
    → (left ≡ slot) ⊎ ((x y : Activity) (v : Word) → expression (calls_of s) b x ≡ Done v y
    → (y.frame).locals ≡ (x.frame).locals)
unmoved s b left slot (inl same) = inl same
unmoved s b left slot (inr simple) =
    inr (λ x y v ran. done_keeps (expression (calls_of s) b) x y v (simple_keeps (calls_of s) b simple) ran)

-- The left operand is where it was if the right one writes nothing.
pub operate_into : (start mid old new : Written) (o : Operation) (a b : Expr) (slot left right to : ℕ)
    (j : Instruction)
    → EmitsIn start mid a slot left → EmitsIn mid old b (slot + 1) right → Puts old new slot j
    → Operates j o left right to → (left ≡ slot) ⊎ IsSimple b → EmitsInto start new (Operate o a b) slot to
operate_into start mid old new o a b slot left right to j first second puts operates stays =
    into_both start mid old new a b (Operate o a b) slot left right to j first second puts
    (λ s of typed. typed_left typed) (λ s of typed. typed_right typed)
    (λ s of R from between at scene typed within one two has receives.
    two_into s.setting (Good s) s.function s.room (expression (calls_of s) a) (expression (calls_of s) b) (operate o) R j
    from between at slot left right to within one two has receives
    (λ x y v good ran. stays_good s a (typed_left typed).0 x y v scene (typed_left typed).1 good ran)
    (unmoved s b left slot stays)
    (λ w x y d l r good ran run fits left_is right_is.
    performs_operation s.setting j o left right to l r (control s.function at w) d operates left_is right_is)
    (λ l r v x y ran. operated_keeps o l r v x y ran)
    (λ x y v good ran. alive_given s (Operate o a b) of x y v scene typed good ran))

-- An operand that stays, or went to the slot of its expression, stays.
pub stays_on : {left at slot : ℕ} {b : Expr} → (at ≡ left) ⊎ (at ≡ slot) → (left ≡ slot) ⊎ IsSimple b
    → (at ≡ slot) ⊎ IsSimple b
stays_on (inl same) (inl here) = inl (same ∙ here)
stays_on (inl same) (inr simple) = inr simple
stays_on (inr here) stays = inl here

-- a number that is added

number_within : {env : TypedEnvironment} {n : ℕ} {t : ValueType} → IsWellTyped env (Number ints.Int n) t → n < 2 ^ 31
number_within (typing.number within) = within

literal_is : (n : ℕ) → n < 2 ^ 31 → word_at ints.Int (pos n) ≡ words.Int (pos n)
literal_is n within = ap words.Int (int_wrap_fits w32 (pos n) (record { sfits = within }))

less_is : (x : ℤ) (n : ℕ) → x +ℤ (pos 0 -ℤ pos n) ≡ x -ℤ pos n
less_is x n = omega (arith, signed)

pub adds_number : (s : Scene) (o : Operation) (b : Expr) (number : ℤ) (t : ValueType) (left to : ℕ) (l : Word) (at : Control)
    (a : Activity)
    → IsAddition o b number → IsWellTyped s.env b t → word_in left at ≡ l
    → perform s.setting (i.AddNumber left number to) at a
    ≡ guarded_onward (Some (onward (expression (calls_of s) b a) (operate o l))) (put to at)
adds_number s _ _ _ t left to l at a (operands.addition (operands.adds_to (operands.Adds.adds {n = n}))) typed is =
    ap (λ (x : Word). guarded_onward (Some (calculate (of_int calculators.Add) x (words.Int (pos n)) a)) (put to at)) is
    ∙ ap (λ (x : Word). guarded_onward (Some (calculate (of_int calculators.Add) l x a)) (put to at))
    (sym (literal_is n (number_within typed)))
adds_number s _ _ _ t left to l at a (operands.addition (operands.adds_to (operands.Adds.subtracts {n = n}))) typed is =
    ap (λ (x : Word). guarded_onward (Some (calculate (of_int calculators.Add) x (words.Int (pos 0 -ℤ pos n)) a))
    (put to at)) is
    ∙ ap (λ (z : ℤ). guarded_onward (Some (give (word_at ints.Int z) a)) (put to at)) (less_is (number_at ints.Int l) n)
    ∙ ap (λ (x : Word). guarded_onward (Some (calculate (of_int calculators.Subtract) l x a)) (put to at))
    (sym (literal_is n (number_within typed)))

pub number_keeps : (s : Scene) (o : Operation) (b : Expr) (number : ℤ) (l v : Word) (x y : Activity) → IsAddition o b number
    → onward (expression (calls_of s) b x) (operate o l) ≡ Done v y → (y.frame).locals ≡ (x.frame).locals
number_keeps s o _ _ l v x y (operands.addition (operands.adds_to (operands.Adds.adds {n = n}))) ran = operated_keeps o l (word_at ints.Int (pos n)) v x y ran
number_keeps s o _ _ l v x y (operands.addition (operands.adds_to (operands.Adds.subtracts {n = n}))) ran = operated_keeps o l (word_at ints.Int (pos n)) v x y ran

pub add_into : (start old new : Written) (o : Operation) (a b : Expr) (number : ℤ) (slot left to : ℕ)
    → EmitsIn start old a slot left → Puts old new slot (i.AddNumber left number to) → IsAddition o b number
    → EmitsInto start new (Operate o a b) slot to
add_into start old new o a b number slot left to first puts adds =
    into_then start old new a (Operate o a b) slot left to (i.AddNumber left number to) first puts
    (λ s of typed. typed_left typed)
    (λ s of R from at scene typed within one has receives.
    one_into s.setting (Good s) s.function s.room (expression (calls_of s) a)
    (λ l. expression (calls_of s) b >>= operate o l) R (i.AddNumber left number to) from at slot left to within one has
    receives
    (λ w x y l good ran fits is.
    adds_number s o b number (typed_right typed).0 left to l (control s.function at w) y adds (typed_right typed).1 is)
    (λ l v x y ran. number_keeps s o b number l v x y adds ran)
    (λ x y v good ran. alive_given s (Operate o a b) of x y v scene typed good ran))

-- conversions

unconverted_there : (s : Scene) (conversion : Conversion) (e : Expr) (t : ValueType) (from to slot at : ℕ) → IsScene s
    → conversion.from ≡ conversion.to → IsWellTyped s.env (Convert conversion e) t
    → DoesIn s (expression (calls_of s) e) from to slot at → DoesIn s (expression (calls_of s) (Convert conversion e)) from to slot at
unconverted_there s conversion e _ from to slot at scene same (typing.convert {from = f} {to = t} typed) does =
    computes_in_as s.setting (Good s) s.function s.room (expression (calls_of s) e)
    (expression (calls_of s) (Convert conversion e)) from to slot at
    (λ a good. unconverted f t (expression (calls_of s) e a) same
    (λ v b ran. integer_in v (((evaluates s e _ a b v scene typed good ran).carried).value)))
    does

pub unconverted_in : (start old : Written) (conversion : Conversion) (e : Expr) (slot at : ℕ)
    → conversion.from ≡ conversion.to → EmitsIn start old e slot at → EmitsIn start old (Convert conversion e) slot at
unconverted_in start old conversion e slot at same first = record {
  keeps = first.keeps;
  does = λ s of scene typed stands suits.
      unconverted_there s conversion e of (end_of start) (end_of old) slot at scene same typed
      (first.does s (typed_converted typed).0 scene (typed_converted typed).1 stands suits);
}

pub convert_in : (start old new : Written) (conversion : Conversion) (e : Expr) (slot left : ℕ)
    → EmitsIn start old e slot left → Puts old new slot (i.Convert conversion.to left slot)
    → EmitsIn start new (Convert conversion e) slot slot
convert_in start old new conversion e slot left first puts =
    emits_in start new (Convert conversion e) slot
    ((into_then start old new e (Convert conversion e) slot left slot (i.Convert conversion.to left slot) first puts
    (λ s of typed. typed_converted typed)
    (λ s of R from at scene typed within one has receives.
    one_into s.setting (Good s) s.function s.room (expression (calls_of s) e)
    (λ word. give (converted_to conversion.to word)) R (i.Convert conversion.to left slot) from at slot left slot within
    one has receives
    (λ w x y l good ran fits is.
    ap (λ (v : Word). put slot (control s.function at w) (converted_to conversion.to v) y) is)
    (λ l v x y ran. given_keeps _ x y v ran)
    (λ x y v good ran. alive_given s (Convert conversion e) of x y v scene typed good ran))).in_slot refl)

-- a value that is there already

pub move_into : (start old new : Written) (e : Expr) (slot from to : ℕ) → EmitsIn start old e slot from
    → Puts old new slot (i.Move from to) → EmitsInto start new e slot to
move_into start old new e slot from to first puts =
    into_then start old new e e slot from to (i.Move from to) first puts (λ s of typed. (of, typed))
    (λ s of R at0 at scene typed within one has receives.
    computes_in_as s.setting (Good s) s.function s.room (expression (calls_of s) e >>= (λ word. give word) >>= R)
    (expression (calls_of s) e >>= R) at0 (at + 1) slot to
    (λ a good. ap (λ (p : Progress Word). onward p R) (given_on (expression (calls_of s) e a)))
    (one_into s.setting (Good s) s.function s.room (expression (calls_of s) e) (λ word. give word) R (i.Move from to) at0
    at slot from to within one has receives
    (λ w x y l good ran fits is. ap (λ (v : Word). put to (control s.function at w) v y) is)
    (λ l v x y ran. given_keeps l x y v ran)
    (λ x y v good ran.
    alive_given s e of x y v scene typed good (sym (given_on (expression (calls_of s) e x)) ∙ ran))))
