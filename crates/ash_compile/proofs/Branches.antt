-- The code of expressions that branch does what they do.
use Rattle.std.proofs.Common.{◌≡◌, ◌≤◌, ◌<◌, ℕ, ◌+◌, List, take, length, refl, sym, ap, ◌∙◌, subst, arith, true, false, Bool}
use Rattle.std.specs.Prelude.{Option, Some, None, slice_index_or, if◌then◌else◌}
use Rattle.ash_host.specs.declared.word.Word.{Word}
use Rattle.ash_host.specs.declared.word.Word.TheVariants as words
use Rattle.ash_host.specs.declared.word.Word.TheVariants.{Null}
use Rattle.ash_typed.specs.declared.tree.operations.Lazy.TheVariants as lazies
use Rattle.ash_meaning.specs.Activity.{Activity}
use Rattle.ash_meaning.specs.Runs.{Run, Progress, Done, onward, give, ◌>>=◌}
use Rattle.ash_meaning.specs.OperatorMeaning.{is_true}
use Rattle.ash_meaning.specs.ExpressionMeaning.{lazily}
use Rattle.ash_meaning.specs.Ends.{Outcome}
use Rattle.ash_code.specs.declared.instruction.Instruction.TheVariants as i
use Rattle.ash_code.specs.Controls.{Control, Window, control}
use Rattle.ash_code.specs.Performing.{Setting, Next, GoesOn, go, go_to}
use Rattle.ash_compile.specs.Stretches.{continued, Arrives, with_slots, Fits, Holds, Has, Computes}
use Rattle.ash_compile.proofs.Simulation.{continued_then, then_is, steps_on, step_is, refits}

-- A value in the place of another one, after which the slots are others.
pub held_again : (w : Window) (slot : ℕ) (l v : Word) (slots more : List Word) (b d : Activity)
    → Holds w slot l slots b → Holds (with_slots slots w) slot v more d → Holds w slot v more d
held_again w slot l v slots more b d first second = record {
  long = second.long ∙ first.long;
  kept = λ k lower below. second.kept k lower below ∙ first.kept k lower below;
  value = second.value;
  locals = second.locals;
}

module _ (s : Setting) (Good : Activity → Type 0) (function room : ℕ) where
  -- jumps

  pub jumps_to : (w : Window) (at to : ℕ) (b : Activity) (o : Option Outcome) → Has s Good function room at (i.Jump to)
      → Arrives s (control function to w) b o → Arrives s (control function at w) b o
  jumps_to w at to b o has later =
      steps_on s (control function at w) b (control function to w) b o
      (step_is s Good function room w b at (i.Jump to) has) later

  pub jumps_unless : (w : Window) (at slot to : ℕ) (b : Activity) (o : Option Outcome) (t : Bool)
      → Has s Good function room at (i.JumpUnless slot to) → is_true (slice_index_or w.slots slot Null) ≡ t
      → (t ≡ true → Arrives s (control function (at + 1) w) b o)
      → (t ≡ false → Arrives s (control function to w) b o)
      → Arrives s (control function at w) b o
  jumps_unless w at slot to b o true has is when_true when_false =
      steps_on s (control function at w) b (control function (at + 1) w) b o
      (step_is s Good function room w b at (i.JumpUnless slot to) has
      ∙ ap (λ (t : Bool). (if t then go (control function at w) else go_to to (control function at w)) b) is)
      (when_true refl)
  jumps_unless w at slot to b o false has is when_true when_false =
      steps_on s (control function at w) b (control function to w) b o
      (step_is s Good function room w b at (i.JumpUnless slot to) has
      ∙ ap (λ (t : Bool). (if t then go (control function at w) else go_to to (control function at w)) b) is)
      (when_false refl)

  pub jumps_if : (w : Window) (at slot to : ℕ) (b : Activity) (o : Option Outcome) (t : Bool)
      → Has s Good function room at (i.JumpIf slot to) → is_true (slice_index_or w.slots slot Null) ≡ t
      → (t ≡ true → Arrives s (control function to w) b o)
      → (t ≡ false → Arrives s (control function (at + 1) w) b o)
      → Arrives s (control function at w) b o
  jumps_if w at slot to b o true has is when_true when_false =
      steps_on s (control function at w) b (control function to w) b o
      (step_is s Good function room w b at (i.JumpIf slot to) has
      ∙ ap (λ (t : Bool). (if t then go_to to (control function at w) else go (control function at w)) b) is)
      (when_true refl)
  jumps_if w at slot to b o false has is when_true when_false =
      steps_on s (control function at w) b (control function (at + 1) w) b o
      (step_is s Good function room w b at (i.JumpIf slot to) has
      ∙ ap (λ (t : Bool). (if t then go_to to (control function at w) else go (control function at w)) b) is)
      (when_false refl)

  -- A phrase in the slot of one that was computed there.
  pub computes_next : (w : Window) (a b : Activity) (q : Run Word) (l : Word) (slots : List Word) (from to slot : ℕ)
      (rest : Word → Activity → Option Outcome) → Computes s Good function room q from to slot
      → w.count ≤ slot → room ≤ length w.slots → Fits w a → Good b → Holds w slot l slots b
      → ((v : Word) (d : Activity) (more : List Word) → q b ≡ Done v d → Holds w slot v more d
      → Arrives s (control function to (with_slots more w)) d (rest v d))
      → Arrives s (control function from (with_slots slots w)) b (continued (q b) rest)
  computes_next w a b q l slots from to slot rest computes low long fits good held goes =
      computes.comes (with_slots slots w) b rest low (omega (arith, long, held.long)) (refits w slot l slots a b fits held)
      good (λ v d more ran also. goes v d more ran (held_again w slot l v slots more b d held also))

  -- `c ? x : y`
  pub chooses : (c x y : Run Word) (from mid back to slot : ℕ)
      → Computes s Good function room c from mid slot
      → Has s Good function room mid (i.JumpUnless slot (back + 1))
      → Computes s Good function room x (mid + 1) back slot
      → Has s Good function room back (i.Jump to)
      → Computes s Good function room y (back + 1) to slot
      → ((a b : Activity) (v : Word) → Good a → c a ≡ Done v b → Good b)
      → Computes s Good function room (c >>= (λ word. if is_true word then x else y)) from to slot
  chooses c x y from mid back to slot condition has_branch first has_jump second keeps = record {
    within = condition.within;
    comes = λ w a rest low long fits good goes.
        subst (λ (o : Option Outcome). Arrives s (control function from w) a o)
        (sym (continued_then (c a) (λ word. if is_true word then x else y) rest))
        (condition.comes w a (λ v b. continued ((if is_true v then x else y) b) rest) low long fits good
        (λ v b slots ran held.
        jumps_unless (with_slots slots w) mid slot (back + 1) b _ (is_true v) has_branch (ap is_true held.value)
        (λ is. subst (λ (t : Bool). Arrives s (control function (mid + 1) (with_slots slots w)) b (continued ((if t then x else y) b) rest)) (sym is)
        (computes_next w a b x v slots (mid + 1) back slot rest first low long fits (keeps a b v good ran) held (λ u d more run also.
        jumps_to (with_slots more w) back to d (rest u d) has_jump
        (goes u d more (then_is (c a) v b (λ word. if is_true word then x else y) _ ran (ap (λ (t : Bool). (if t then x else y) b) is ∙ run)) also))))
        (λ is. subst (λ (t : Bool). Arrives s (control function (back + 1) (with_slots slots w)) b (continued ((if t then x else y) b) rest)) (sym is)
        (computes_next w a b y v slots (back + 1) to slot rest second low long fits (keeps a b v good ran) held (λ u d more run also.
        goes u d more (then_is (c a) v b (λ word. if is_true word then x else y) _ ran (ap (λ (t : Bool). (if t then x else y) b) is ∙ run)) also)))));
  }

  -- `x && y`. The word of `x` is a truth value: by its type
  pub both_hold : (x y : Run Word) (from mid to slot : ℕ)
      → Computes s Good function room x from mid slot
      → Has s Good function room mid (i.JumpUnless slot to)
      → Computes s Good function room y (mid + 1) to slot
      → ((a b : Activity) (v : Word) → Good a → x a ≡ Done v b → Good b × (v ≡ words.Bool (is_true v)))
      → Computes s Good function room (x >>= (λ left. lazily lazies.And (is_true left) y)) from to slot
  both_hold x y from mid to slot first has_branch second keeps = record {
    within = first.within;
    comes = λ w a rest low long fits good goes.
        subst (λ (o : Option Outcome). Arrives s (control function from w) a o)
        (sym (continued_then (x a) (λ left. lazily lazies.And (is_true left) y) rest))
        (first.comes w a (λ v b. continued (lazily lazies.And (is_true v) y b) rest) low long fits good
        (λ v b slots ran held.
        jumps_unless (with_slots slots w) mid slot to b _ (is_true v) has_branch (ap is_true held.value)
        (λ is. subst (λ (t : Bool). Arrives s (control function (mid + 1) (with_slots slots w)) b (continued (lazily lazies.And t y b) rest)) (sym is)
        (computes_next w a b y v slots (mid + 1) to slot rest second low long fits (keeps a b v good ran).0 held (λ u d more run also.
        goes u d more (then_is (x a) v b (λ left. lazily lazies.And (is_true left) y) _ ran (ap (λ (t : Bool). lazily lazies.And t y b) is ∙ run)) also)))
        (λ is. subst (λ (t : Bool). Arrives s (control function to (with_slots slots w)) b (continued (lazily lazies.And t y b) rest)) (sym is)
        (goes (words.Bool false) b slots
        (then_is (x a) v b (λ left. lazily lazies.And (is_true left) y) _ ran (ap (λ (t : Bool). lazily lazies.And t y b) is))
        (subst (λ (u : Word). Holds w slot u slots b) ((keeps a b v good ran).1 ∙ ap words.Bool is) held)))));
  }

  -- `x || y`
  pub one_holds : (x y : Run Word) (from mid to slot : ℕ)
      → Computes s Good function room x from mid slot
      → Has s Good function room mid (i.JumpIf slot to)
      → Computes s Good function room y (mid + 1) to slot
      → ((a b : Activity) (v : Word) → Good a → x a ≡ Done v b → Good b × (v ≡ words.Bool (is_true v)))
      → Computes s Good function room (x >>= (λ left. lazily lazies.Or (is_true left) y)) from to slot
  one_holds x y from mid to slot first has_branch second keeps = record {
    within = first.within;
    comes = λ w a rest low long fits good goes.
        subst (λ (o : Option Outcome). Arrives s (control function from w) a o)
        (sym (continued_then (x a) (λ left. lazily lazies.Or (is_true left) y) rest))
        (first.comes w a (λ v b. continued (lazily lazies.Or (is_true v) y b) rest) low long fits good
        (λ v b slots ran held.
        jumps_if (with_slots slots w) mid slot to b _ (is_true v) has_branch (ap is_true held.value)
        (λ is. subst (λ (t : Bool). Arrives s (control function to (with_slots slots w)) b (continued (lazily lazies.Or t y b) rest)) (sym is)
        (goes (words.Bool true) b slots
        (then_is (x a) v b (λ left. lazily lazies.Or (is_true left) y) _ ran (ap (λ (t : Bool). lazily lazies.Or t y b) is))
        (subst (λ (u : Word). Holds w slot u slots b) ((keeps a b v good ran).1 ∙ ap words.Bool is) held)))
        (λ is. subst (λ (t : Bool). Arrives s (control function (mid + 1) (with_slots slots w)) b (continued (lazily lazies.Or t y b) rest)) (sym is)
        (computes_next w a b y v slots (mid + 1) to slot rest second low long fits (keeps a b v good ran).0 held (λ u d more run also.
        goes u d more (then_is (x a) v b (λ left. lazily lazies.Or (is_true left) y) _ ran (ap (λ (t : Bool). lazily lazies.Or t y b) is ∙ run)) also)))));
  }
