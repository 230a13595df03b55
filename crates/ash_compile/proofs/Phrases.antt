-- The code of expressions that read, convert and calculate does what they do.
--
-- What a guard needs is a premise of its phrase, in activities that are good. The laws of sound modules give each of
-- them where an activity is good if it is well-formed: the premise says by which of its fields.
use Rattle.std.proofs.Common.{◌≡◌, ◌≤◌, ◌<◌, ℕ, ◌+◌, List, [], ◌∷◌, take, length, refl, sym, ap, ◌∙◌}
use Rattle.std.proofs.Common.{subst, arith, true, false, Bool, cond, nat_lt, get_or-take}
use Rattle.std.specs.Prelude.{Option, Some, None, Result, Ok, Err, slice_index_or, slice_set, if◌then◌else◌, pos}
use Rattle.std.specs.List.{filter_map}
use Rattle.std.proofs.lemmas.List.{length-take-le}
use Rattle.ash_host.specs.declared.word.Word.{Word}
use Rattle.ash_host.specs.declared.word.Word.TheVariants as words
use Rattle.ash_host.specs.Objects.{handle, handles}
use Rattle.ash_integers.specs.declared.int_type.IntType.{IntType}
use Rattle.ash_integers.specs.declared.arithmetic.DivisionFault.{DivisionFault}
use Rattle.ash_integers.specs.declared.arithmetic.DivisionFault.TheVariants as faults
use Rattle.ash_typed.specs.declared.types.VarType.{VarType}
use Rattle.ash_typed.specs.declared.types.ObjectType.{ObjectType}
use Rattle.ash_typed.specs.declared.tree.operations.Calculation.{Calculation}
use Rattle.ash_typed.specs.declared.tree.operations.Comparator.{Comparator}
use Rattle.ash_typed.specs.declared.tree.operations.Operands.{Operands}
use Rattle.ash_typed.specs.declared.tree.operations.Change.{Change}
use Rattle.ash_meaning.specs.Activity.{Activity, Frame, in_frame}
use Rattle.ash_meaning.specs.Runs.{Run, Progress, Done, Ended, NoStep, onward, give, ◌>>=◌, ◌>>◌}
use Rattle.ash_meaning.specs.Releases.{holding, give_held}
use Rattle.ash_meaning.specs.OperatorMeaning.{calculate, calculated_by, give_or_raise, holds, altered, converted_to}
use Rattle.ash_meaning.specs.Locations.{Location, Local, Global, Part, Property, this, read}
use Rattle.ash_meaning.specs.ObjectSteps.{object_of, words_in}
use Rattle.ash_meaning.specs.Ends.{Outcome}
use Rattle.ash_run_steps.specs.Guarded.{Guarded, onward as guarded_onward, give as guarded_give}
use Rattle.ash_run_steps.specs.GuardedSteps.{is_alive}
use Rattle.ash_code.specs.declared.instruction.Instruction.{Instruction}
use Rattle.ash_code.specs.declared.instruction.Instruction.TheVariants as i
use Rattle.ash_code.specs.Controls.{Control, Window, control}
use Rattle.ash_code.specs.Steps.{has_part, give_held as guarded_give_held}
use Rattle.ash_code.specs.Performing.{Setting, Next, perform, put, go}
use Rattle.ash_compile.specs.Stretches.{continued, Arrives, with_slots, Fits, Holds, Has, Computes}
use Rattle.ash_compile.proofs.Simulation.{continued_then, then_is, frame_in, puts, step_is, by_none, by_one, by_two}

-- runs

pub grouped : {A B C : Type 0} (p : Progress A) (f : A → Run B) (g : B → Run C)
    → onward (onward p f) g ≡ onward p (λ v b. onward (f v b) g)
grouped (Done v b) f g = refl
grouped (Ended e b) f g = refl
grouped NoStep f g = refl

-- locals after steps that change none

abbrev pub KeepsLocals : Run Word → Type 0
KeepsLocals run = (a b : Activity) (v : Word) → run a ≡ Done v b → (b.frame).locals ≡ (a.frame).locals

same_locals : (p : Progress Word) (a b d : Activity) (v l : Word) → p ≡ Done l d → (d.frame).locals ≡ (a.frame).locals
    → p ≡ Done v b → (b.frame).locals ≡ (a.frame).locals
same_locals p a b d v l is same ran =
    ap (λ (q : Progress Word). (frame_in a.frame q).locals) (sym ran ∙ is) ∙ same

pub given_keeps : (word : Word) → KeepsLocals (give word)
given_keeps word a b v ran = ap (λ (q : Progress Word). (frame_in a.frame q).locals) (sym ran)

pub held_keeps : (word : Word) → KeepsLocals (give_held word)
held_keeps word a b v ran = ap (λ (q : Progress Word). (frame_in a.frame q).locals) (sym ran)

outcome_keeps : (r : Result Word DivisionFault) → KeepsLocals (give_or_raise r)
outcome_keeps (Ok word) a b v ran = given_keeps word a b v ran
outcome_keeps (Err faults.ByZero) a b v ran = cc
outcome_keeps (Err faults.Overflow) a b v ran = cc

pub calculated_keeps : (calculation : Calculation) (l r : Word) → KeepsLocals (calculate calculation l r)
calculated_keeps calculation l r a b v ran = outcome_keeps (calculated_by calculation.operator calculation.of l r) a b v ran

-- what is held

pub held_alive : (word : Word) (a : Activity) → is_alive word a ≡ true
    → guarded_give_held word a ≡ Some (give_held word a)
held_alive word a alive =
    ap (λ (t : Bool). guarded_onward (cond t (Some (Done tt (in_frame (holding (handles (word ∷ []))) a))) None)
    (λ _. guarded_give word)) alive

pub put_held : (word : Word) (a : Activity) (next : Word → Guarded Next) → is_alive word a ≡ true
    → guarded_onward (guarded_give_held word a) next ≡ guarded_onward (Some (give_held word a)) next
put_held word a next alive = ap (λ (o : Option (Progress Word)). guarded_onward o next) (held_alive word a alive)

-- No handle is held.
pub none_held : (word : Word) (a : Activity) → handle word ≡ None → give_held word a ≡ Done word a
none_held words.Null a is = refl
none_held (words.Bool b) a is = refl
none_held (words.Int n) a is = refl
none_held (words.Uint n) a is = refl
none_held (words.Int64 n) a is = refl
none_held (words.Uint64 n) a is = refl
none_held (words.Object number) a is = cc

pub local_in : (w : Window) (a : Activity) (n : ℕ) → Fits w a → n < length (a.frame).locals
    → slice_index_or w.slots n words.Null ≡ slice_index_or (a.frame).locals n words.Null
local_in w a n fits within =
    sym (ap (λ (ws : List Word). slice_index_or ws n words.Null) fits.locals
    ∙ get_or-take w.count w.slots n words.Null
    (omega (arith, within, ap length fits.locals, length-take-le w.count w.slots fits.within)))

module _ (s : Setting) (Good : Activity → Type 0) (function room : ℕ) where
  -- a phrase that is another one, step by step
  pub computes_as : (p q : Run Word) (from to slot : ℕ) → ((a : Activity) → p a ≡ q a)
      → Computes s Good function room p from to slot → Computes s Good function room q from to slot
  computes_as p q from to slot same computes = record {
    within = computes.within;
    comes = λ w a rest low long fits good goes.
        subst (λ (x : Progress Word). Arrives s (control function from w) a (continued x rest)) (same a)
        (computes.comes w a rest low long fits good (λ word b slots ran held. goes word b slots (sym (same a) ∙ ran) held));
  }

  -- one that is another one in activities that are good
  pub computes_here : (p q : Run Word) (from to slot : ℕ) → ((a : Activity) → Good a → p a ≡ q a)
      → Computes s Good function room p from to slot → Computes s Good function room q from to slot
  computes_here p q from to slot same computes = record {
    within = computes.within;
    comes = λ w a rest low long fits good goes.
        subst (λ (x : Progress Word). Arrives s (control function from w) a (continued x rest)) (same a good)
        (computes.comes w a rest low long fits good
        (λ word b slots ran held. goes word b slots (sym (same a good) ∙ ran) held));
  }

  -- numbers, truth values and null
  pub loads : (word : Word) (from slot : ℕ) → slot < room → Has s Good function room from (i.Load word slot)
      → Computes s Good function room (give word) from (from + 1) slot
  loads word from slot within has =
      by_none s Good function room (give word) (i.Load word slot) from slot within has (λ w a fits good. refl)
      (given_keeps word)

  -- `this` is alive: the field `this` of a well-formed frame
  pub own : (from slot : ℕ) → slot < room → Has s Good function room from (i.This slot)
      → ((a : Activity) → Good a → is_alive (a.frame).this a ≡ true)
      → Computes s Good function room (this >>= give_held) from (from + 1) slot
  own from slot within has alive =
      by_none s Good function room (this >>= give_held) (i.This slot) from slot within has
      (λ w a fits good. put_held (a.frame).this a (put slot (control function from w)) (alive a good))
      (λ a b v ran. held_keeps (a.frame).this a b v ran)

  -- A local is there and alive: the field `locals` of a well-formed frame
  pub local : (n from slot : ℕ) → slot < room → Has s Good function room from (i.Hold n slot)
      → ((a : Activity) → Good a → n < length (a.frame).locals)
      → ((a : Activity) → Good a → is_alive (slice_index_or (a.frame).locals n words.Null) a ≡ true)
      → Computes s Good function room (give (Local n) >>= read >>= give_held) from (from + 1) slot
  local n from slot within has there alive =
      by_none s Good function room (give (Local n) >>= read >>= give_held) (i.Hold n slot) from slot within has
      (λ w a fits good.
      ap (λ (x : Word). guarded_onward (guarded_give_held x a) (put slot (control function from w))) (local_in w a n fits (there a good))
      ∙ put_held (slice_index_or (a.frame).locals n words.Null) a (put slot (control function from w)) (alive a good))
      (λ a b v ran. held_keeps (slice_index_or (a.frame).locals n words.Null) a b v ran)

  -- A local of no object is no handle: by its type
  pub plain_local : (n from slot : ℕ) → slot < room → Has s Good function room from (i.Move n slot)
      → ((a : Activity) → Good a → n < length (a.frame).locals)
      → ((a : Activity) → Good a → handle (slice_index_or (a.frame).locals n words.Null) ≡ None)
      → Computes s Good function room (give (Local n) >>= read >>= give_held) from (from + 1) slot
  plain_local n from slot within has there no_handle =
      by_none s Good function room (give (Local n) >>= read >>= give_held) (i.Move n slot) from slot within has
      (λ w a fits good.
      ap (λ (x : Word). put slot (control function from w) x a) (local_in w a n fits (there a good))
      ∙ sym (ap (λ (p : Progress Word). guarded_onward (Some p) (put slot (control function from w)))
      (none_held (slice_index_or (a.frame).locals n words.Null) a (no_handle a good))))
      (λ a b v ran. held_keeps (slice_index_or (a.frame).locals n words.Null) a b v ran)

  -- A global is alive: the field `globals` of a well-formed world
  pub global : (n from slot : ℕ) → slot < room → Has s Good function room from (i.ReadGlobal n slot)
      → ((a : Activity) → Good a → is_alive (slice_index_or (a.world).globals n words.Null) a ≡ true)
      → Computes s Good function room (give (Global n) >>= read >>= give_held) from (from + 1) slot
  global n from slot within has alive =
      by_none s Good function room (give (Global n) >>= read >>= give_held) (i.ReadGlobal n slot) from slot within has
      (λ w a fits good.
      put_held (slice_index_or (a.world).globals n words.Null) a (put slot (control function from w)) (alive a good))
      (λ a b v ran. held_keeps (slice_index_or (a.world).globals n words.Null) a b v ran)

  -- an operator of one operand
  pub converts : (int_type : IntType) (p : Run Word) (from at slot : ℕ) → Computes s Good function room p from at slot
      → Has s Good function room at (i.Convert int_type slot slot)
      → Computes s Good function room (p >>= (λ word. give (converted_to int_type word))) from (at + 1) slot
  converts int_type p from at slot first has =
      by_one s Good function room p (λ word. give (converted_to int_type word)) (i.Convert int_type slot slot) from at slot
      first has
      (λ w a b l good ran fits is. ap (λ (x : Word). put slot (control function at w) (converted_to int_type x) b) is)
      (λ l v b d ran. given_keeps (converted_to int_type l) b d v ran)

  pub alters : (change : Change) (p : Run Word) (from at slot : ℕ) → Computes s Good function room p from at slot
      → Has s Good function room at (i.Alter change slot slot)
      → Computes s Good function room (p >>= (λ word. give (altered change word))) from (at + 1) slot
  alters change p from at slot first has =
      by_one s Good function room p (λ word. give (altered change word)) (i.Alter change slot slot) from at slot
      first has
      (λ w a b l good ran fits is. ap (λ (x : Word). put slot (control function at w) (altered change x) b) is)
      (λ l v b d ran. given_keeps (altered change l) b d v ran)

  -- An operator of two operands. Between them the activity is good: by what an expression leaves.
  pub calculates : (calculation : Calculation) (p q : Run Word) (from mid at slot : ℕ)
      → Computes s Good function room p from mid slot → Computes s Good function room q mid at (slot + 1)
      → Has s Good function room at (i.Calculate calculation slot (slot + 1) slot)
      → ((a b : Activity) (v : Word) → Good a → p a ≡ Done v b → Good b)
      → Computes s Good function room (p >>= (λ left. q >>= calculate calculation left)) from (at + 1) slot
  calculates calculation p q from mid at slot first second has keeps =
      by_two s Good function room p q (calculate calculation) (i.Calculate calculation slot (slot + 1) slot)
      from mid at slot first second has keeps
      (λ w a b d l r good ran run fits left right.
      ap (λ (x : Word). guarded_onward (Some (calculate calculation x (slice_index_or w.slots (slot + 1) words.Null) d))
      (put slot (control function at w))) left
      ∙ ap (λ (x : Word). guarded_onward (Some (calculate calculation l x d)) (put slot (control function at w))) right)
      (λ l r v b d ran. calculated_keeps calculation l r b d v ran)

  pub compares : (comparator : Comparator) (operands : Operands) (p q : Run Word) (from mid at slot : ℕ)
      → Computes s Good function room p from mid slot → Computes s Good function room q mid at (slot + 1)
      → Has s Good function room at (i.Compare comparator operands slot (slot + 1) slot)
      → ((a b : Activity) (v : Word) → Good a → p a ≡ Done v b → Good b)
      → Computes s Good function room
      (p >>= (λ left. q >>= (λ right. give (words.Bool (holds comparator operands left right))))) from (at + 1) slot
  compares comparator operands p q from mid at slot first second has keeps =
      by_two s Good function room p q (λ left right. give (words.Bool (holds comparator operands left right)))
      (i.Compare comparator operands slot (slot + 1) slot) from mid at slot first second has keeps
      (λ w a b d l r good ran run fits left right.
      ap (λ (x : Word). put slot (control function at w) (words.Bool (holds comparator operands x (slice_index_or w.slots (slot + 1) words.Null))) d) left
      ∙ ap (λ (x : Word). put slot (control function at w) (words.Bool (holds comparator operands l x)) d) right)
      (λ l r v b d ran. given_keeps (words.Bool (holds comparator operands l r)) b d v ran)
