-- The code of phrases whose values stay where they are, or go where they are wanted.
use Rattle.std.proofs.Common.{◌≡◌, ◌≢◌, ◌≤◌, ◌<◌, ◌⊎◌, inl, inr, ℕ, ◌+◌, List, take, length, refl, sym, ap, ◌∙◌, subst, arith}
use Rattle.std.proofs.Common.{true, false, Bool, cond, nat_lt, get_or-take}
use Rattle.std.specs.Prelude.{Option, Some, None, slice_index_or, slice_set, if◌then◌else◌}
use Rattle.std.proofs.lemmas.Bool.{and_from}
use Rattle.std.proofs.lemmas.List.{length-set, length-take-le, get_or-set_same, get_or-set_other, take-set-le}
use Rattle.std.proofs.Math.Seq.{take-set-lt}
use Rattle.ash_host.specs.declared.word.Word.{Word}
use Rattle.ash_host.specs.declared.word.Word.TheVariants as words
use Rattle.ash_host.specs.Objects.{handle}
use Rattle.ash_meaning.specs.Activity.{Activity}
use Rattle.ash_meaning.specs.Runs.{Run, Progress, Done, Ended, NoStep, onward, give, ◌>>=◌}
use Rattle.ash_meaning.specs.Releases.{give_held}
use Rattle.ash_meaning.specs.Locations.{Location, Local, read, write}
use Rattle.ash_meaning.specs.ExpressionMeaning.{store}
use Rattle.ash_meaning.specs.Ends.{Outcome}
use Rattle.ash_run_steps.specs.Guarded.{Guarded, onward as guarded_onward, give as guarded_give}
use Rattle.ash_run_steps.specs.GuardedSteps.{is_alive, has_local, write_local}
use Rattle.ash_code.specs.declared.instruction.Instruction.{Instruction}
use Rattle.ash_code.specs.Controls.{Window, control, with_word}
use Rattle.ash_code.specs.Performing.{Setting, Next, GoesOn, perform, put, go}
use Rattle.ash_code.specs.Running.{step}
use Rattle.ash_compile.specs.Stretches.{continued, Arrives, with_slots, Fits, Has, Holds, Computes}
use Rattle.ash_compile.specs.Places.{HoldsBelow}
use Rattle.ash_compile.specs.Operands.{HoldsIn, ComputesIn}
use Rattle.ash_compile.proofs.Simulation.{continued_then, then_is, frame_in, goes_by, step_is, off}
use Rattle.ash_compile.proofs.Phrases.{none_held, local_in}
use Rattle.ash_compile.proofs.PlaceGuards.{lt_true}
use Rattle.ash_compile.proofs.PlaceSteps.{locals_below}
use Rattle.ash_compile.proofs.PlaceCode.{continued_twice, refits_below}

-- where a value goes: to the slot of its expression, or to a local, which is written
pub data Receives (count slot to : ℕ) : (Word → Run Word) → Type 0 where
  in_slot : to ≡ slot → count ≤ slot → Receives count slot to (λ word. give word)
  in_local : to < count → Receives count slot to (λ word. give (Local to) >>= store word)

pub given_on : (p : Progress Word) → onward p (λ word. give word) ≡ p
given_on (Done v b) = refl
given_on (Ended e b) = refl
given_on NoStep = refl

received_there : {count slot to : ℕ} {R : Word → Run Word} → Receives count slot to R → (to ≡ slot) ⊎ (to < count)
received_there (in_slot same low) = inl same
received_there (in_local low) = inr low

received_apart : {count slot to : ℕ} {R : Word → Run Word} (k : ℕ) → Receives count slot to R → count ≤ k → k < slot → k ≢ to
received_apart k (in_slot same low) lower below = omega (arith, same, below)
received_apart k (in_local low) lower below = omega (arith, low, lower)

received_within : {count slot to : ℕ} {R : Word → Run Word} (long : ℕ) → Receives count slot to R → count ≤ long
    → slot < long → to < long
received_within long (in_slot same low) counted within = omega (arith, same, within)
received_within long (in_local low) counted within = omega (arith, low, counted)

-- what an instruction puts somewhere, and what is left then

put_received : (function at slot to : ℕ) (w : Window) (R : Word → Run Word) (p : Progress Word)
    → Receives w.count slot to R
    → ((v : Word) (e : Activity) → p ≡ Done v e → (to < w.count → has_local to e ≡ true) × (is_alive v e ≡ true))
    → guarded_onward (Some p) (put to (control function at w))
    ≡ guarded_onward (Some (onward p R))
    (λ v b. Some (Done (GoesOn (control function (at + 1) (with_slots (slice_set w.slots to v) w))) b))
put_received function at slot to w _ (Done v e) (in_slot same low) ready =
    ap (λ (t : Bool). guarded_onward ((if t then write_local to v else guarded_give tt) e)
    (λ _. go (with_word to v (control function at w)))) (off to w.count (omega (arith, same, low)))
put_received function at slot to w _ (Done v e) (in_local low) ready =
    ap (λ (t : Bool). guarded_onward ((if t then write_local to v else guarded_give tt) e)
    (λ _. go (with_word to v (control function at w)))) (lt_true to w.count low)
    ∙ ap (λ (t : Bool). guarded_onward (cond t (Some (write (Local to) v e)) None)
    (λ _. go (with_word to v (control function at w))))
    (and_from (has_local to e) (is_alive v e) ((ready v e refl).0 low) (ready v e refl).1)
put_received function at slot to w R (Ended i e) r ready = refl
put_received function at slot to w R NoStep r ready = refl

received_locals : (count slot to : ℕ) (more : List Word) (R : Word → Run Word) (p : Progress Word) (v : Word)
    (g : Activity)
    → Receives count slot to R
    → ((x : Word) (e : Activity) → p ≡ Done x e → (e.frame).locals ≡ take count more)
    → onward p R ≡ Done v g → (g.frame).locals ≡ take count (slice_set more to v)
received_locals count slot to more _ (Done x e) v g (in_slot same low) kept ran =
    ap (λ (q : Progress Word). (frame_in e.frame q).locals) (sym ran) ∙ kept x e refl
    ∙ sym (take-set-le count more to v (omega (arith, same, low)))
received_locals count slot to more _ (Done x e) v g (in_local low) kept ran =
    let same : x ≡ v = cc in
    ap (λ (q : Progress Word). (frame_in e.frame q).locals) (sym ran)
    ∙ ap (λ (ls : List Word). slice_set ls to x) (kept x e refl)
    ∙ sym (take-set-lt count more to x low)
    ∙ ap (λ (y : Word). take count (slice_set more to y)) same
received_locals count slot to more R (Ended i e) v g r kept ran = absurd (cc)
received_locals count slot to more R NoStep v g r kept ran = absurd (cc)

-- what operands leave

pub below_in : (w : Window) (slot at : ℕ) (word : Word) (slots : List Word) (b : Activity) → HoldsIn w slot at word slots b
    → HoldsBelow w slot slots b
below_in w slot at word slots b held = record { long = held.long; kept = held.kept; locals = held.locals }

stays_low : (w : Window) (slot left right : ℕ) (l r : Word) (slots more : List Word) (b d : Activity)
    → HoldsIn w slot left l slots b → HoldsIn (with_slots slots w) (slot + 1) right r more d → w.count ≤ slot
    → left ≡ slot → slice_index_or more left words.Null ≡ l
stays_low w slot left right l r slots more b d held also low same =
    also.kept left (omega (arith, low, same)) (omega (arith, same)) ∙ held.value

-- The value of the left operand is still where it was after the right one, if the local that has it is the same.
pub stays_in : (w : Window) (slot left right : ℕ) (l r : Word) (slots more : List Word) (b d : Activity)
    → HoldsIn w slot left l slots b → HoldsIn (with_slots slots w) (slot + 1) right r more d → w.count ≤ slot
    → (left ≡ slot) ⊎ ((d.frame).locals ≡ (b.frame).locals) → slice_index_or more left words.Null ≡ l
stays_in w slot left right l r slots more b d held also low (inl same) =
    stays_low w slot left right l r slots more b d held also low same
stays_in w slot left right l r slots more b d held also low (inr same) =
    elim held.there [
      | inl here ↦ stays_low w slot left right l r slots more b d held also low here
      | inr under ↦ sym (get_or-take w.count more left words.Null under)
          ∙ ap (λ (ws : List Word). slice_index_or ws left words.Null) (sym also.locals ∙ same ∙ held.locals)
          ∙ get_or-take w.count slots left words.Null under ∙ held.value
    ]

module _ (s : Setting) (Good : Activity → Type 0) (function room : ℕ) where
  abbrev In : Run Word → ℕ → ℕ → ℕ → ℕ → Type 0
  In run from to slot at = ComputesIn s Good function room run from to slot at

  abbrev pub ReceivesIn : ℕ → ℕ → (Word → Run Word) → Type 0
  ReceivesIn slot to R = (w : Window) (a : Activity) → Fits w a → Good a → w.count ≤ slot → Receives w.count slot to R

  -- the same value in its own slot

  pub computes_in : (run : Run Word) (from to slot : ℕ) → Computes s Good function room run from to slot
      → In run from to slot slot
  computes_in run from to slot does = record {
    comes = λ w a rest low long fits good goes.
        does.comes w a rest low long fits good (λ word b slots ran held.
        goes word b slots ran (record {
          long = held.long;
          kept = held.kept;
          there = inl refl;
          value = held.value;
          locals = held.locals;
        }));
  }

  pub computes_there : (run : Run Word) (from to slot : ℕ) → slot < room → In run from to slot slot
      → Computes s Good function room run from to slot
  computes_there run from to slot within does = record {
    within = within;
    comes = λ w a rest low long fits good goes.
        does.comes w a rest low long fits good (λ word b slots ran held.
        goes word b slots ran (record {
          long = held.long;
          kept = held.kept;
          value = held.value;
          locals = held.locals;
        }));
  }

  -- a phrase that is another one in activities that are good
  pub computes_in_as : (p q : Run Word) (from to slot at : ℕ) → ((a : Activity) → Good a → p a ≡ q a)
      → In p from to slot at → In q from to slot at
  computes_in_as p q from to slot at same computes = record {
    comes = λ w a rest low long fits good goes.
        subst (λ (x : Progress Word). Arrives s (control function from w) a (continued x rest)) (same a good)
        (computes.comes w a rest low long fits good
        (λ word b slots ran held. goes word b slots (sym (same a good) ∙ ran) held));
  }

  -- a local that is no handle, where it is
  pub own_local : (n at slot : ℕ) → ((a : Activity) → Good a → n < length (a.frame).locals)
      → ((a : Activity) → Good a → handle (slice_index_or (a.frame).locals n words.Null) ≡ None)
      → In (give (Local n) >>= read >>= give_held) at at slot n
  own_local n at slot there no_handle = record {
    comes = λ w a rest low long fits good goes.
        let word = slice_index_or (a.frame).locals n words.Null in
        let ran = none_held word a (no_handle a good) in
        subst (λ (p : Progress Word). Arrives s (control function at w) a (continued p rest)) (sym ran)
        (goes word a w.slots ran (record {
          long = refl;
          kept = λ k lower below. refl;
          there = inr (locals_below w a n fits (there a good));
          value = local_in w a n fits (there a good);
          locals = fits.locals;
        }));
  }

  -- the last instruction of a phrase: what it makes goes where it is wanted
  pub put_last : (w : Window) (at slot to : ℕ) (more : List Word) (d : Activity) (R : Word → Run Word)
      (p : Progress Word) (rest : Word → Activity → Option Outcome)
      → Receives w.count slot to R → HoldsBelow w slot more d → Fits (with_slots more w) d → slot < length w.slots
      → step s (control function at (with_slots more w)) d
      ≡ guarded_onward (Some p) (put to (control function at (with_slots more w)))
      → ((v : Word) (e : Activity) → p ≡ Done v e
      → ((e.frame).locals ≡ (d.frame).locals) × (is_alive v e ≡ true))
      → ((v : Word) (g : Activity) (slots : List Word) → onward p R ≡ Done v g → HoldsIn w slot to v slots g
      → Arrives s (control function (at + 1) (with_slots slots w)) g (rest v g))
      → Arrives s (control function at (with_slots more w)) d (continued (onward p R) rest)
  put_last w at slot to more d R p rest receives held fits within does left goes =
      goes_by s (control function at (with_slots more w)) d (onward p R)
      (λ v. control function (at + 1) (with_slots (slice_set more to v) w)) rest
      (does ∙ put_received function at slot to (with_slots more w) R p receives
      (λ v e is. (
        λ low. lt_true to (length (e.frame).locals)
            (let counted = ap length ((left v e is).0 ∙ fits.locals) in
            let taken = length-take-le w.count more fits.within in omega (arith, low, counted, taken)),
        (left v e is).1,
      )))
      (λ v g ran.
      goes v g (slice_set more to v) ran (record {
        long = length-set more to v ∙ held.long;
        kept = λ k lower below. get_or-set_other more to k v words.Null (received_apart k receives lower below)
            ∙ held.kept k lower below;
        there = received_there receives;
        value = get_or-set_same more to v words.Null
            (received_within (length more) receives fits.within (omega (arith, within, held.long)));
        locals = received_locals w.count slot to more R p v g receives
            (λ x e is. (left x e is).0 ∙ fits.locals) ran;
      }))

  -- phrases by how many values their last instruction takes from slots

  pub none_into : (run : Run Word) (R : Word → Run Word) (i : Instruction) (from slot to : ℕ) → slot < room
      → Has s Good function room from i
      → ReceivesIn slot to R
      → ((w : Window) (a : Activity) → Fits w a → Good a
      → perform s i (control function from w) a ≡ guarded_onward (Some (run a)) (put to (control function from w)))
      → ((a b : Activity) (v : Word) → Good a → run a ≡ Done v b
      → ((b.frame).locals ≡ (a.frame).locals) × (is_alive v b ≡ true))
      → In (run >>= R) from (from + 1) slot to
  none_into run R i from slot to within has receives does left = record {
    comes = λ w a rest low long fits good goes.
        put_last w from slot to w.slots a R (run a) rest (receives w a fits good low)
        (record { long = refl; kept = λ k lower below. refl; locals = fits.locals }) fits (omega (arith, within, long))
        (step_is s Good function room w a from i has ∙ does w a fits good) (λ v b ran. left a b v good ran) goes;
  }

  pub one_into : (p : Run Word) (f : Word → Run Word) (R : Word → Run Word) (i : Instruction)
      (from at slot left to : ℕ) → slot < room
      → In p from at slot left → Has s Good function room at i
      → ReceivesIn slot to R
      → ((w : Window) (a b : Activity) (l : Word) → Good a → p a ≡ Done l b → Fits w b
      → slice_index_or w.slots left words.Null ≡ l
      → perform s i (control function at w) b ≡ guarded_onward (Some (f l b)) (put to (control function at w)))
      → ((l v : Word) (b d : Activity) → f l b ≡ Done v d → (d.frame).locals ≡ (b.frame).locals)
      → ((a b : Activity) (v : Word) → Good a → (p >>= f) a ≡ Done v b → is_alive v b ≡ true)
      → In (p >>= f >>= R) from (at + 1) slot to
  one_into p f R i from at slot left to within first has receives does same alive = record {
    comes = λ w a rest low long fits good goes.
        subst (λ (o : Option Outcome). Arrives s (control function from w) a o) (sym (continued_twice (p a) f R rest))
        (first.comes w a (λ l b. continued (onward (f l b) R) rest) low long fits good (λ l b slots ran held.
        let here = refits_below w slot slots a b fits (below_in w slot left l slots b held) in
        put_last w at slot to slots b R (f l b) rest (receives w a fits good low)
        (below_in w slot left l slots b held) here (omega (arith, within, long))
        (step_is s Good function room (with_slots slots w) b at i has
        ∙ does (with_slots slots w) a b l good ran here held.value)
        (λ v e run. (same l v b e run, alive a e v good (then_is (p a) l b f _ ran run)))
        (λ v g xs run holds.
        goes v g xs (ap (λ (q : Progress Word). onward (onward q f) R) ran ∙ run) holds)));
  }

  pub two_into : (p q : Run Word) (f : Word → Word → Run Word) (R : Word → Run Word) (i : Instruction)
      (from mid at slot left right to : ℕ) → slot < room
      → In p from mid slot left → In q mid at (slot + 1) right → Has s Good function room at i
      → ReceivesIn slot to R
      → ((a b : Activity) (v : Word) → Good a → p a ≡ Done v b → Good b)
      → (left ≡ slot) ⊎ ((b d : Activity) (v : Word) → q b ≡ Done v d → (d.frame).locals ≡ (b.frame).locals)
      → ((w : Window) (a b d : Activity) (l r : Word) → Good a → p a ≡ Done l b → q b ≡ Done r d → Fits w d
      → slice_index_or w.slots left words.Null ≡ l → slice_index_or w.slots right words.Null ≡ r
      → perform s i (control function at w) d ≡ guarded_onward (Some (f l r d)) (put to (control function at w)))
      → ((l r v : Word) (b d : Activity) → f l r b ≡ Done v d → (d.frame).locals ≡ (b.frame).locals)
      → ((a b : Activity) (v : Word) → Good a → (p >>= (λ l. q >>= f l)) a ≡ Done v b → is_alive v b ≡ true)
      → In (p >>= (λ l. q >>= f l) >>= R) from (at + 1) slot to
  two_into p q f R i from mid at slot left right to within first second has receives keeps stays does same alive =
      record {
        comes = λ w a rest low long fits good goes.
            subst (λ (o : Option Outcome). Arrives s (control function from w) a o)
            (sym (continued_twice (p a) (λ l. q >>= f l) R rest))
            (first.comes w a (λ l b. continued (onward ((q >>= f l) b) R) rest) low long fits good
            (λ l b slots ran held.
            let here = refits_below w slot slots a b fits (below_in w slot left l slots b held) in
            subst (λ (o : Option Outcome). Arrives s (control function mid (with_slots slots w)) b o)
            (sym (continued_twice (q b) (f l) R rest))
            (second.comes (with_slots slots w) b (λ r d. continued (onward (f l r d) R) rest) (omega (arith, low))
            (omega (arith, long, held.long)) here (keeps a b l good ran) (λ r d more run also.
            let there = refits_below (with_slots slots w) (slot + 1) more b d here
            (below_in (with_slots slots w) (slot + 1) right r more d also) in
            let unmoved : (left ≡ slot) ⊎ ((d.frame).locals ≡ (b.frame).locals)
            = elim stays [ inl own ↦ inl own | inr kept ↦ inr (kept b d r run) ] in
            put_last w at slot to more d R (f l r d) rest (receives w a fits good low)
            (record {
              long = also.long ∙ held.long;
              kept = λ k lower below. also.kept k lower (omega (arith, below)) ∙ held.kept k lower below;
              locals = also.locals;
            }) there (omega (arith, within, long))
            (step_is s Good function room (with_slots more w) d at i has
            ∙ does (with_slots more w) a b d l r good ran run there
            (stays_in w slot left right l r slots more b d held also low unmoved) also.value)
            (λ v e made. (
              same l r v d e made,
              alive a e v good (then_is (p a) l b (λ x. q >>= f x) _ ran (then_is (q b) r d (f l) _ run made)),
            ))
            (λ v g xs made holds.
            goes v g xs
            (ap (λ (x : Progress Word). onward (onward x (λ y. q >>= f y)) R) ran
            ∙ ap (λ (x : Progress Word). onward (onward x (f l)) R) run ∙ made) holds)))));
      }
