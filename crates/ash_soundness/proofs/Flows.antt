-- How statements are left, whatever their expressions come to: what returns is not left by its end.
use Rattle.std.proofs.Common.{◌≡◌, ℕ, ℤ, Bool, true, false, List, [], ◌∷◌, refl, if◌then◌else◌}
use Rattle.std.specs.Prelude.{Option, Some, None, is_none}
use Rattle.ash_integers.specs.Integers.{number_of}
use Rattle.ash_host.specs.declared.word.Word.{Word}
use Rattle.ash_typed.specs.TypedTree.{Expr}
use Rattle.ash_typed.specs.StatementTree.{Stmt, Empty, Declare, Evaluate, Block, If, Branch, no_branch, branch, Repeat, For, Switch, Break, Continue, Return, Stmts, no_stmt, stmt, labelled, Cases, no_case, next_case}
use Rattle.ash_typed.specs.TypedReturning as returning
use Rattle.ash_typed.specs.TypedReturning.{Breaks, break_out, AnyBreaks, first_breaks, later_breaks, BreaksOut, first_case, later_case, HasDefault, first_label, later_label, Returns, AnyReturns, LastReturns}
use Rattle.ash_meaning.specs.Activity.{Activity}
use Rattle.ash_meaning.specs.Runs.{Interrupt, Progress, Done, Ended, NoStep, Run, onward, give, ◌>>◌}
use Rattle.ash_meaning.specs.Releases.{release, full}
use Rattle.ash_meaning.specs.Frames.{tick}
use Rattle.ash_meaning.specs.CallMeaning.{Calls}
use Rattle.ash_meaning.specs.ExpressionMeaning.{expression}
use Rattle.ash_meaning.specs.StatementMeaning.{Flow, On, Broke, Continued, Returned, go_on, end_block, in_block, after_break, condition, return_value, Labelled, from_label, is_constant, or_else, chosen, fall_through, switch, statement, statements, case_run, cases}

-- where a run has a value, it is one of these
pub data Yields {A : Type 0} (P : A → Type 0) : Progress A → Type 0 where
  yields : {v : A} {b : Activity} → P v → Yields P (Done v b)
  yields_end : {interrupt : Interrupt} {b : Activity} → Yields P (Ended interrupt b)
  yields_none : Yields P NoStep

pub anyway : {A : Type 0} (r : Progress A) → Yields (λ (v : A). Unit {0}) r
anyway (Done v b) = yields tt
anyway (Ended i b) = yields_end
anyway NoStep = yields_none

pub then_yields : {A B : Type 0} {P : A → Type 0} {Q : B → Type 0} {r : Progress A} {f : A → Run B} → Yields P r → ((v : A) (b : Activity) → P v → Yields Q (f v b)) → Yields Q (onward r f)
then_yields (yields {v} {b} p) next = next v b p
then_yields yields_end next = yields_end
then_yields yields_none next = yields_none

pub yields_more : {A : Type 0} {P Q : A → Type 0} {r : Progress A} → ((v : A) → P v → Q v) → Yields P r → Yields Q r
yields_more more (yields {v} p) = yields (more v p)
yields_more more yields_end = yields_end
yields_more more yields_none = yields_none

both_yield : {A : Type 0} {P Q : A → Type 0} {r : Progress A} → Yields P r → Yields Q r → Yields (λ v. P v × Q v) r
both_yield (yields p) (yields q) = yields (p, q)
both_yield yields_end q = yields_end
both_yield yields_none q = yields_none

choice_yields : {A : Type 0} {P : A → Type 0} (r s : Run A) (b : Bool) (a : Activity) → Yields P (r a) → Yields P (s a) → Yields P ((if b then r else s) a)
choice_yields r s true a one other = one
choice_yields r s false a one other = other

-- a flow that does not go on to the next statement
abbrev pub Jumps : Flow → Type 0
Jumps flow = flow ≡ On → ⊥

-- one that leads out of a `switch` too
abbrev LeadsOut : Flow → Type 0
LeadsOut flow = (flow ≡ On → ⊥) × (flow ≡ Broke → ⊥)

on_is_no_break : On ≡ Broke → ⊥
on_is_no_break e = cc

continued_is_no_break : Continued ≡ Broke → ⊥
continued_is_no_break e = cc

returned_is_no_break : {v : Option Word} → Returned v ≡ Broke → ⊥
returned_is_no_break e = cc

returned_is_no_end : {v : Option Word} → Returned v ≡ On → ⊥
returned_is_no_end e = cc

module _ (calls : Calls) (depth : ℕ) where
  -- a `break` that leaves a statement is in it

  after_break_yields : (flow : Flow) (a : Activity) → Yields (λ f. f ≡ Broke → ⊥) (after_break flow a)
  after_break_yields On a = yields (λ e. cc)
  after_break_yields Broke a = then_yields (anyway (release a)) (λ none b _. yields (λ e. cc))
  after_break_yields Continued a = yields (λ e. cc)
  after_break_yields (Returned v) a = yields (λ e. cc)

  no_break : {P : Type 0} {r : Progress Flow} → Yields (λ f. f ≡ Broke → ⊥) r → Yields (λ f. f ≡ Broke → P) r
  no_break (yields p) = yields (λ e. absurd (p e))
  no_break yields_end = yields_end
  no_break yields_none = yields_none

  end_block_yields : {P : Flow → Type 0} (flow : Flow) (a : Activity) → P flow → Yields P (end_block flow a)
  end_block_yields On a p = then_yields (anyway (release a)) (λ none b _. yields p)
  end_block_yields Broke a p = yields p
  end_block_yields Continued a p = yields p
  end_block_yields (Returned v) a p = yields p

  block_yields : {P : Flow → Type 0} (inside : Run Flow) (a : Activity) → Yields P (inside a) → Yields P (in_block inside a)
  block_yields inside a y = then_yields y (λ flow b p. end_block_yields flow _ p)

  then_later : {ss : Stmts} {s : Stmt} {r : Progress Flow} → Yields (λ f. f ≡ Broke → AnyBreaks ss) r → Yields (λ f. f ≡ Broke → AnyBreaks (stmt s ss)) r
  then_later (yields q) = yields (λ e. later_breaks (q e))
  then_later yields_end = yields_end
  then_later yields_none = yields_none

  by_end : {P : Type 0} {b : Activity} → Yields (λ f. f ≡ Broke → P) (Done On b)
  by_end = yields (λ e. absurd (on_is_no_break e))

  by_continue : {P : Type 0} {b : Activity} → Yields (λ f. f ≡ Broke → P) (Done Continued b)
  by_continue = yields (λ e. absurd (continued_is_no_break e))

  by_return : {P : Type 0} {v : Option Word} {b : Activity} → Yields (λ f. f ≡ Broke → P) (Done (Returned v) b)
  by_return = yields (λ e. absurd (returned_is_no_break e))

  by_break : {line : ℕ} {b : Activity} → Yields (λ f. f ≡ Broke → Breaks (Break line)) (Done Broke b)
  by_break = yields (λ e. break_out)

  returns_jump : {v : Option Word} {b : Activity} → Yields Jumps (Done (Returned v) b)
  returns_jump = yields (λ e. returned_is_no_end e)

  on_breaks : {ss : Stmts} {s : Stmt} (rest : Run Flow) (flow : Flow) (b : Activity) → (flow ≡ Broke → Breaks s) → Yields (λ f. f ≡ Broke → AnyBreaks ss) (rest b) → Yields (λ f. f ≡ Broke → AnyBreaks (stmt s ss)) (go_on rest flow b)
  on_breaks rest On b p y = then_later y
  on_breaks rest Broke b p y = yields (λ e. first_breaks (p refl))
  on_breaks rest Continued b p y = yields (λ e. absurd (cc))
  on_breaks rest (Returned v) b p y = yields (λ e. absurd (cc))

  in_this_block : {line : ℕ} {ss : Stmts} {r : Progress Flow} → Yields (λ f. f ≡ Broke → AnyBreaks ss) r → Yields (λ f. f ≡ Broke → Breaks (Block line ss)) r
  in_this_block (yields q) = yields (λ e. returning.in_block (q e))
  in_this_block yields_end = yields_end
  in_this_block yields_none = yields_none

  in_this_then : {line : ℕ} {c : Expr} {s : Stmt} {other : Branch} {r : Progress Flow} → Yields (λ f. f ≡ Broke → Breaks s) r → Yields (λ f. f ≡ Broke → Breaks (If line c s other)) r
  in_this_then (yields q) = yields (λ e. returning.in_then (q e))
  in_this_then yields_end = yields_end
  in_this_then yields_none = yields_none

  in_this_else : {line : ℕ} {c : Expr} {s t : Stmt} {r : Progress Flow} → Yields (λ f. f ≡ Broke → Breaks t) r → Yields (λ f. f ≡ Broke → Breaks (If line c s (branch t))) r
  in_this_else (yields q) = yields (λ e. returning.in_else (q e))
  in_this_else yields_end = yields_end
  in_this_else yields_none = yields_none

  mutual
    stmt_breaks : (s : Stmt) (a : Activity) → Yields (λ f. f ≡ Broke → Breaks s) (statement calls depth s a)
    stmt_breaks (Empty line) a = then_yields (anyway _) (λ none b _. by_end)
    stmt_breaks (Declare line vs) a = then_yields (anyway _) (λ none b _. by_end)
    stmt_breaks (Evaluate line x) a = then_yields (anyway _) (λ none b _. by_end)
    stmt_breaks (Block line ss) a = in_this_block (block_yields (statements calls depth ss) a (stmts_break ss a))
    stmt_breaks (If line c s no_branch) a = then_yields (anyway ((tick line >> condition calls c) a)) (λ v b _. choice_yields (statement calls depth s) (give On) v b (in_this_then (stmt_breaks s b)) by_end)
    stmt_breaks (If line c s (branch t)) a = then_yields (anyway ((tick line >> condition calls c) a)) (λ v b _. choice_yields (statement calls depth s) (statement calls depth t) v b (in_this_then (stmt_breaks s b)) (in_this_else (stmt_breaks t b)))
    stmt_breaks (Repeat line inside) a = then_yields (anyway _) (λ flow b _. no_break (after_break_yields flow b))
    stmt_breaks (For line head inside) a = then_yields (anyway _) (λ flow b _. no_break (after_break_yields flow b))
    stmt_breaks (Switch line int_type e cs) a =
        then_yields (anyway _) (λ flow b _. no_break (after_break_yields flow b))
    stmt_breaks (Break line) a = then_yields (anyway _) (λ none b _. by_break)
    stmt_breaks (Continue line) a = then_yields (anyway _) (λ none b _. by_continue)
    stmt_breaks (Return line None) a = then_yields (anyway _) (λ none b _. by_return)
    stmt_breaks (Return line (Some x)) a = then_yields (anyway (tick line a)) (λ none b _. then_yields (anyway (expression calls x b)) (λ w d _. by_return))

    stmts_break : (ss : Stmts) (a : Activity) → Yields (λ f. f ≡ Broke → AnyBreaks ss) (statements calls depth ss a)
    stmts_break no_stmt a = by_end
    stmts_break (stmt s ss) a = then_yields (stmt_breaks s a) (λ flow b p. on_breaks _ flow b p (stmts_break ss b))

  -- what falls through labels to the last leads out

  AllFall : List Labelled → Type 0
  AllFall [] = Unit {0}
  AllFall (l ∷ ls) = ((a : Activity) → Yields LeadsOut (fall_through (l ∷ ls) a)) × AllFall ls

  data IsCons : List Labelled → Type 0 where
    cons : {l : Labelled} {ls : List Labelled} → IsCons (l ∷ ls)

  from_falls : (test : Option ℤ → Bool) (ls : List Labelled) → AllFall ls → AllFall (from_label test ls)
  unfolding AllFall
  from_falls test [] h = tt
  from_falls test (l ∷ ls) h = elim (test l.constant) as (λ b. AllFall (if b then l ∷ ls else from_label test ls)) [ true ↦ h | false ↦ from_falls test ls h.1 ]

  or_else_falls : (ls others : List Labelled) → AllFall ls → AllFall others → AllFall (or_else ls others)
  unfolding AllFall
  or_else_falls [] others h k = k
  or_else_falls (l ∷ ls) others h k = h

  or_else_cons : (ls others : List Labelled) → IsCons others → IsCons (or_else ls others)
  or_else_cons [] others k = k
  or_else_cons (l ∷ ls) others k = cons

  default_found : (cs : Cases) → HasDefault cs → IsCons (from_label is_none (cases calls depth cs))
  default_found no_case h = elim h [ ]
  default_found (next_case (labelled l ss) cs) h = default_at l ss cs h (λ later. default_found cs later)
    where
      default_at : (l : _) (ss : Stmts) (cs : Cases) → HasDefault (next_case (labelled l ss) cs) → (HasDefault cs → IsCons (from_label is_none (cases calls depth cs))) → IsCons (from_label is_none (cases calls depth (next_case (labelled l ss) cs)))
      default_at l ss cs first_label later = cons
      default_at l ss cs (later_label k) later = elim (is_none (case_run calls depth (labelled l ss)).constant) as (λ b. IsCons (if b then case_run calls depth (labelled l ss) ∷ cases calls depth cs else from_label is_none (cases calls depth cs))) [ true ↦ cons | false ↦ later k ]

  fall_from : (ls : List Labelled) → IsCons ls → AllFall ls → (a : Activity) → Yields LeadsOut (fall_through ls a)
  unfolding AllFall
  fall_from ls cons h a = h.0 a

  -- what returns is not left by its end

  jumps_on : (rest : Run Flow) (flow : Flow) (b : Activity) → (flow ≡ On → ⊥) → Yields Jumps (go_on rest flow b)
  jumps_on rest On b p = absurd (p refl)
  jumps_on rest Broke b p = yields (λ e. cc)
  jumps_on rest Continued b p = yields (λ e. cc)
  jumps_on rest (Returned v) b p = yields (λ e. cc)

  jumps_later : (rest : Run Flow) (flow : Flow) (b : Activity) → Yields Jumps (rest b) → Yields Jumps (go_on rest flow b)
  jumps_later rest On b y = y
  jumps_later rest Broke b y = yields (λ e. cc)
  jumps_later rest Continued b y = yields (λ e. cc)
  jumps_later rest (Returned v) b y = yields (λ e. cc)

  after_out : (flow : Flow) (b : Activity) → LeadsOut flow → Yields Jumps (after_break flow b)
  after_out On b p = absurd (p.0 refl)
  after_out Broke b p = absurd (p.1 refl)
  after_out Continued b p = yields (λ e. cc)
  after_out (Returned v) b p = yields (λ e. cc)

  switch_out : (all : List Labelled) (word : Word) (a : Activity) → AllFall all → IsCons (from_label is_none all) → Yields LeadsOut (switch all word a)
  switch_out all word a h default =
      fall_from (chosen (number_of word) all) (or_else_cons (from_label (is_constant (number_of word)) all) (from_label is_none all) default)
      (or_else_falls (from_label (is_constant (number_of word)) all) (from_label is_none all) (from_falls (is_constant (number_of word)) all h) (from_falls is_none all h)) a

  out_last : (rest : Run Flow) (flow : Flow) (b : Activity) → (flow ≡ On → ⊥) → (flow ≡ Broke → ⊥) → Yields LeadsOut (go_on rest flow b)
  out_last rest On b p q = absurd (p refl)
  out_last rest Broke b p q = absurd (q refl)
  out_last rest Continued b p q = yields ((λ e. cc), (λ e. cc))
  out_last rest (Returned v) b p q = yields ((λ e. cc), (λ e. cc))

  out_later : (rest : Run Flow) (flow : Flow) (b : Activity) → (flow ≡ Broke → ⊥) → Yields LeadsOut (rest b) → Yields LeadsOut (go_on rest flow b)
  out_later rest On b q y = y
  out_later rest Broke b q y = absurd (q refl)
  out_later rest Continued b q y = yields ((λ e. cc), (λ e. cc))
  out_later rest (Returned v) b q y = yields ((λ e. cc), (λ e. cc))

  first_falls : (cs : Cases) → LastReturns cs → AllFall (cases calls depth cs) → (a : Activity) → Yields LeadsOut (fall_through (cases calls depth cs) a)
  unfolding AllFall
  first_falls no_case r h a = elim r [ ]
  first_falls (next_case c cs) r h a = h.0 a

  returned_yields : (o : Option Expr) (a : Activity) → Yields Jumps (return_value calls o a)
  returned_yields None a = returns_jump
  returned_yields (Some x) a = then_yields (anyway _) (λ w b _. returns_jump)

  mutual
    unfolding AllFall

    stmt_jumps : {s : Stmt} → Returns s → (a : Activity) → Yields Jumps (statement calls depth s a)
    stmt_jumps (returning.returned {line} {e}) a = then_yields (anyway (tick line a)) (λ none b _. returned_yields e b)
    stmt_jumps (returning.in_block {ss = body} ss) a = block_yields (statements calls depth body) a (stmts_jump ss a)
    stmt_jumps (returning.in_both {line} {c} {s = one} {t = other} s t) a = then_yields (anyway ((tick line >> condition calls c) a)) (λ v b _. choice_yields (statement calls depth one) (statement calls depth other) v b (stmt_jumps s b) (stmt_jumps t b))
    stmt_jumps (returning.in_switch {line = line} {e = e} {cs = cs} default none last) a =
        then_yields (then_yields (anyway ((tick line >> full (expression calls e)) a)) (λ w b _. switch_out (cases calls depth cs) w b (cases_fall last none) (default_found cs default))) (λ flow b p. after_out flow b p)

    pub stmts_jump : {ss : Stmts} → AnyReturns ss → (a : Activity) → Yields Jumps (statements calls depth ss a)
    stmts_jump (returning.first_returns s) a = then_yields (stmt_jumps s a) (λ flow b p. jumps_on _ flow b p)
    stmts_jump (returning.later_returns {s = s} ss) a = then_yields (anyway (statement calls depth s a)) (λ flow b _. jumps_later _ flow b (stmts_jump ss b))

    cases_fall : {cs : Cases} → LastReturns cs → (BreaksOut cs → ⊥) → AllFall (cases calls depth cs)
    cases_fall (returning.last_case {l} {ss} r) none = ((λ a. then_yields (both_yield (stmts_jump r a) (stmts_break ss a)) (λ flow b p. out_last _ flow b p.0 (λ e. none (first_case (p.1 e))))), tt)
    cases_fall (returning.not_last_case {c = labelled l ss} {cs} r) none =
        let rest = cases_fall r (λ out. none (later_case out)) in
        ((λ a. then_yields (stmts_break ss a) (λ flow b p. out_later _ flow b (λ e. none (first_case (p e))) (first_falls cs r rest b))), rest)
