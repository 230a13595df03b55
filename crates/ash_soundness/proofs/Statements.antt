-- Statements leave what is well-formed, where what bodies do is known.
use Rattle.std.proofs.Common.{◌≡◌, ℕ, zero, suc, ℤ, Bool, true, false, List, [], ◌∷◌, ◌++◌, length, refl, sym, subst, if◌then◌else◌, append_assoc, append-nil}
use Rattle.std.specs.Prelude.{Option, Some, None, Contains, is_none}
use Rattle.std.specs.List.{AllByRecursion}
use Rattle.std.specs.Option.{option_map_or}
use Rattle.ash_host.specs.declared.word.Word.{Word}
use Rattle.ash_host.specs.declared.word.Word.TheVariants as words
use Rattle.ash_host.specs.Objects.{LiveObjects}
use Rattle.ash_integers.specs.Integers.{number_of}
use Rattle.ash_tree.specs.declared.tree.statements.Label.{Label}
use Rattle.ash_integers.specs.declared.int_type.IntType.{IntType}
use Rattle.ash_typed.specs.declared.types.VarType.{VarType}
use Rattle.ash_typed.specs.declared.tree.statements.Test.{Test}
use Rattle.ash_typed.specs.declared.tree.statements.Test.TheVariants as tests
use Rattle.ash_typed.specs.TypedTree.{Expr}
use Rattle.ash_typed.specs.StatementTree.{Initialization, Stmt, Loop, Stmts, Cases, Head}
use Rattle.ash_typed.specs.TypeOf.{ValueType, value, as_value, value_of_result}
use Rattle.ash_typed.specs.Signatures as sig
use Rattle.ash_typed.specs.Signatures.{ModuleSignatures, IsSubtype}
use Rattle.ash_typed.specs.SoundExpressions.{TypedEnvironment, IsWellTyped, Fits, fits}
use Rattle.ash_typed.specs.SoundStatements as sound
use Rattle.ash_typed.specs.SoundStatements.{TypedScope, with_locals, IsSoundBeginning, AreSoundDeclarations, none_declared, and_declared, IsEvaluated, IsSoundCondition, MayBeSoundCondition, IsSoundHead, head_is_empty, head_declares, head_evaluates, IsSoundStmt, IsLoop, AreSoundStmts, AreSoundCases, AreLabelled}
use Rattle.ash_meaning.specs.Activity.{Activity, in_frame}
use Rattle.ash_meaning.specs.Runs.{Run, Progress, give, ◌>>◌, ◌>>=◌}
use Rattle.ash_meaning.specs.Releases.{release, full, declare, keeping}
use Rattle.ash_meaning.specs.Frames.{tick}
use Rattle.ash_meaning.specs.OperatorMeaning.{zero_of}
use Rattle.ash_meaning.specs.Classes.{Entry}
use Rattle.ash_meaning.specs.CallMeaning.{Calls, value_or_null}
use Rattle.ash_meaning.specs.ExpressionMeaning.{expression}
use Rattle.ash_meaning.specs.StatementMeaning.{Flow, On, Broke, Continued, Returned, go_on, end_block, in_block, after_break, declare_all, evaluate, evaluate_all, condition, condition_or_true, begin, return_value, Turn, after_body, turn, turns, repeat, Labelled, from_label, is_constant, or_else, chosen as chosen_labels, fall_through, switch, statement, loop, statements, cases}
use Rattle.ash_soundness.specs.WellFormed.{Context, IsContext, declared, IsValue, IsGiven, gives_nothing, gives, IsWellFormed}
use Rattle.ash_soundness.specs.WellFormedLaws.{Passes, IsCarried, Leaves, done, ended, IsLeftBy, by_itself, by_break, by_continue, by_return, Leads, LeadsOn}
use Rattle.ash_soundness.proofs.Fits.{fitting_value, kept_value}
use Rattle.ash_soundness.proofs.Integers.{zero_value}
use Rattle.ash_soundness.proofs.Lists.{values_length}
use Rattle.ash_soundness.proofs.Triples.{bind, weaken, chosen, safe, passes_itself, passes_more}
use Rattle.ash_soundness.proofs.Frames.{release_passes, full_passes, tick_goes, declared_passes, left_passes}
use Rattle.ash_soundness.proofs.Calls.{KeepsBodies}
use Rattle.ash_soundness.proofs.Expressions.{expression_gives}

-- where the frame holds the same and the store is the same, what is returned is carried
left_like : {c : Context} {gives : Option VarType} {breaks continues : Bool} {flow : Flow} (a b : Activity) → (b.world).objects ≡ (a.world).objects → (b.frame).held ≡ (a.frame).held → IsLeftBy c gives breaks continues a flow → IsLeftBy c gives breaks continues b flow
left_like a b store held by_itself = by_itself
left_like a b store held (by_break e) = by_break e
left_like a b store held (by_continue e) = by_continue e
left_like {c} {gives} a b store held (by_return {v} k) = by_return (record {
  value = subst (λ (all : LiveObjects (List ℕ)). IsGiven c.program all (value_of_result gives) (value_or_null v)) (sym store) k.value;
  held = λ n e. subst (λ (ns : List ℕ). Contains ns n) (sym held) (k.held n e);
})

no_more_locals : {c : Context} {envs : List TypedEnvironment} (env : TypedEnvironment) {a b : Activity} → Passes c env envs a b → Passes c (with_locals env []) envs a b
no_more_locals {c} {envs} env {a} {b} p = subst (λ (ls : List VarType). Passes c (record { signatures = env.signatures; this = env.this; locals = ls }) envs a b) (sym (append-nil env.locals)) p

more_locals : {c : Context} {envs : List TypedEnvironment} (env : TypedEnvironment) {a b : Activity} (types more : List VarType) → Passes c (with_locals (with_locals env types) more) envs a b → Passes c (with_locals env (types ++ more)) envs a b
more_locals {c} {envs} env {a} {b} types more p = subst (λ (ls : List VarType). Passes c (record { signatures = env.signatures; this = env.this; locals = ls }) envs a b) (append_assoc env.locals types more) p

-- what is repeated keeps what is well-formed
record KeepsTurn (c : Context) (env : TypedEnvironment) (envs : List TypedEnvironment) (gives : Option VarType) (t : Turn) : Type 0 where
  pub condition : (a : Activity) → IsWellFormed c env envs a → Leaves c (λ (v : Bool) b. Passes c env envs a b) (t.condition a)
  pub steps : (a : Activity) → IsWellFormed c env envs a → Leaves c (λ (none : Unit {0}) b. Passes c env envs a b) (t.steps a)
  pub body : (a : Activity) → IsWellFormed c env envs a → Leaves c (Leads c env gives true true envs a) (t.body a)

from_keeps : (P : Labelled → Type 0) (test : Option ℤ → Bool) (ls : List Labelled) → AllByRecursion P ls → AllByRecursion P (from_label test ls)
from_keeps P test [] h = tt
from_keeps P test (l ∷ ls) h = elim (test l.constant) as (λ b. AllByRecursion P (if b then l ∷ ls else from_label test ls)) [ true ↦ h | false ↦ from_keeps P test ls h.1 ]

or_else_keeps : (P : Labelled → Type 0) (ls others : List Labelled) → AllByRecursion P ls → AllByRecursion P others → AllByRecursion P (or_else ls others)
or_else_keeps P [] others h k = k
or_else_keeps P (l ∷ ls) others h k = h

-- a label keeps what is well-formed
abbrev KeepsLabel : Context → TypedEnvironment → List TypedEnvironment → Option VarType → Bool → Bool → Labelled → Type 0
KeepsLabel c env envs result breaks continues l = (a : Activity) → IsWellFormed c env envs a → Leaves c (Leads c env result breaks continues envs a) (l.run a)

on_after : {c : Context} {R : Flow → Activity → Type 0} (rest : Run Flow) (flow : Flow) (b : Activity) → flow ≡ On → Leaves c R (rest b) → Leaves c R (go_on rest flow b)
on_after {c} {R} rest flow b same l = subst (λ (f : Flow). Leaves c R (go_on rest f b)) (sym same) l

module _ {c : Context} {envs : List TypedEnvironment} where
  -- flows

  after_passing : {env other : TypedEnvironment} {gives : Option VarType} {breaks continues : Bool} {a b d : Activity} {flow : Flow} → Passes c other envs a b → Leads c env gives breaks continues envs b flow d → Leads c env gives breaks continues envs a flow d
  after_passing p l = record { passes = passes_more p l.passes; left = l.left }

  after_passes : {env other : TypedEnvironment} {gives : Option VarType} {breaks continues : Bool} {a b : Activity} {r : Progress Flow} → Passes c other envs a b → Leaves c (Leads c env gives breaks continues envs b) r → Leaves c (Leads c env gives breaks continues envs a) r
  after_passes p l = weaken (λ flow d q. after_passing p q) l

  pub on_after_passes : {env other : TypedEnvironment} {gives : Option VarType} {breaks continues : Bool} {a b : Activity} {r : Progress Flow} → Passes c other envs a b → Leaves c (LeadsOn c env gives breaks continues envs b) r → Leaves c (LeadsOn c env gives breaks continues envs a) r
  on_after_passes p l = weaken (λ flow d q. record { types = q.types; leads = after_passing p q.leads }) l

  stays_on : {env : TypedEnvironment} {gives : Option VarType} {breaks continues : Bool} {a b : Activity} → Passes c env envs a b → Leads c env gives breaks continues envs a On b
  stays_on p = record { passes = p; left = by_itself }

  as_on : {env : TypedEnvironment} {gives : Option VarType} {breaks continues : Bool} {a b : Activity} {flow : Flow} → Leads c env gives breaks continues envs a flow b → LeadsOn c env gives breaks continues envs a flow b
  as_on {env} l = record { types = []; leads = record { passes = no_more_locals env l.passes; left = l.left } }

  go_on_leads : {env : TypedEnvironment} {gives : Option VarType} {breaks continues : Bool} {a b : Activity} (rest : Run Flow) (flow : Flow) → Leads c env gives breaks continues envs a flow b → Leaves c (LeadsOn c env gives breaks continues envs b) (rest b) → Leaves c (LeadsOn c env gives breaks continues envs a) (go_on rest flow b)
  go_on_leads rest On p l = on_after_passes p.passes l
  go_on_leads rest Broke p l = done (as_on p)
  go_on_leads rest Continued p l = done (as_on p)
  go_on_leads rest (Returned v) p l = done (as_on p)

  go_on_stays : {env : TypedEnvironment} {gives : Option VarType} {breaks continues : Bool} {a b : Activity} (rest : Run Flow) (flow : Flow) → Leads c env gives breaks continues envs a flow b → Leaves c (Leads c env gives breaks continues envs b) (rest b) → Leaves c (Leads c env gives breaks continues envs a) (go_on rest flow b)
  go_on_stays rest On p l = after_passes p.passes l
  go_on_stays rest Broke p l = done p
  go_on_stays rest Continued p l = done p
  go_on_stays rest (Returned v) p l = done p

  -- blocks

  ends_block : {env : TypedEnvironment} {gives : Option VarType} {breaks continues : Bool} {a b : Activity} (flow : Flow) → Leads c env gives breaks continues envs a flow b → Leaves c (Leads c env gives breaks continues envs a) (end_block flow b)
  ends_block On p = bind (release_passes (p.passes).well) (λ none d g. done (stays_on (passes_more p.passes g.passes)))
  ends_block Broke p = done p
  ends_block Continued p = done p
  ends_block (Returned v) p = done p

  pub block_leads : {env : TypedEnvironment} {gives : Option VarType} {breaks continues : Bool} {a : Activity} (inside : Run Flow) → IsWellFormed c env envs a → Leaves c (LeadsOn c env gives breaks continues envs a) (inside a) → Leaves c (Leads c env gives breaks continues envs a) (in_block inside a)
  block_leads {env} {gives} {breaks} {continues} {a} inside h l = bind l (λ flow b on.
      let out = left_passes on.types (length (a.frame).locals) (values_length (h.frame).locals) ((on.leads).passes).well in
      ends_block flow (record {
        passes = passes_more (on.leads).passes out;
        left = left_like b (in_frame (keeping (length (a.frame).locals)) b) refl refl (on.leads).left;
      }))

  -- a `break` ends at a loop or a `switch`
  breaks_end : {env : TypedEnvironment} {gives : Option VarType} {inner breaks continues : Bool} {a b : Activity} (flow : Flow) → (inner ≡ true → continues ≡ true) → Leads c env gives true inner envs a flow b → Leaves c (Leads c env gives breaks continues envs a) (after_break flow b)
  breaks_end On more p = done (stays_on p.passes)
  breaks_end Broke more p = bind (release_passes (p.passes).well) (λ none d g. done (stays_on (passes_more p.passes g.passes)))
  breaks_end Continued more p = done (record { passes = p.passes; left = still more p.left })
    where
      still : {g : Option VarType} {x y z w : Bool} {d : Activity} → (y ≡ true → w ≡ true) → IsLeftBy c g x y d Continued → IsLeftBy c g z w d Continued
      still further (by_continue e) = by_continue (further e)
  breaks_end (Returned v) more p = done (record { passes = p.passes; left = still p.left })
    where
      still : {g : Option VarType} {x y z w : Bool} {d : Activity} {of : Option Word} → IsLeftBy c g x y d (Returned of) → IsLeftBy c g z w d (Returned of)
      still (by_return k) = by_return k

  -- loops

  module _ {env : TypedEnvironment} {gives : Option VarType} (t : Turn) (k : KeepsTurn c env envs gives t) where
    steps_then : {a : Activity} (next : Run Flow) → ((d : Activity) → IsWellFormed c env envs d → Leaves c (Leads c env gives true false envs d) (next d)) → IsWellFormed c env envs a → Leaves c (Leads c env gives true false envs a) ((t.steps >> next) a)
    steps_then {a} next more h = bind (k.steps a h) (λ none d p. after_passes p (more d p.well))

    body_then : {a b : Activity} (next : Run Flow) (flow : Flow) → Leads c env gives true true envs a flow b → ((d : Activity) → IsWellFormed c env envs d → Leaves c (Leads c env gives true false envs d) (next d)) → Leaves c (Leads c env gives true false envs a) (after_body t next flow b)
    body_then next On p more = after_passes p.passes (steps_then next more (p.passes).well)
    body_then {a} {b} next Continued p more =
        let stepped : Leaves c (λ (none : Unit {0}) d. Passes c env envs a d) ((release >> t.steps) b) = bind (release_passes (p.passes).well) (λ none x g. weaken (λ one d q. passes_more (passes_more p.passes g.passes) q) (k.steps x ((g.passes).well))) in
        bind stepped (λ none d q. after_passes q (more d q.well))
    body_then next Broke p more = done (record { passes = p.passes; left = by_break refl })
    body_then next (Returned v) p more = done (record { passes = p.passes; left = still p.left })
      where
        still : {g : Option VarType} {x y z w : Bool} {d : Activity} {of : Option Word} → IsLeftBy c g x y d (Returned of) → IsLeftBy c g z w d (Returned of)
        still (by_return r) = by_return r

    turn_leads : {a : Activity} (next : Run Flow) → IsWellFormed c env envs a → ((d : Activity) → IsWellFormed c env envs d → Leaves c (Leads c env gives true false envs d) (next d)) → Leaves c (Leads c env gives true false envs a) (turn t next a)
    turn_leads {a} next h more = bind (k.body a h) (λ flow b p. body_then next flow p more)

    turns_lead : (depth : ℕ) (a : Activity) → IsWellFormed c env envs a → Leaves c (Leads c env gives true false envs a) (turns depth t a)
    turns_lead zero a h = bind (tick_goes t.line h) (λ none b g. ended (safe ((g.passes).well)))
    turns_lead (suc depth) a h =
        bind (tick_goes t.line h) (λ none b g. after_passes g.passes (bind (k.condition b ((g.passes).well)) (λ v d p. after_passes p
        (chosen _ _ v d (λ yes. turn_leads _ p.well (turns_lead depth)) (λ no. done (stays_on (passes_itself p.well)))))))

    repeats : (test : Test) (depth : ℕ) (a : Activity) → IsWellFormed c env envs a → Leaves c (Leads c env gives true false envs a) (repeat test depth t a)
    repeats tests.First depth a h = turns_lead depth a h
    repeats tests.Last depth a h = turn_leads _ h (turns_lead depth)

  -- labels

  module _ (env : TypedEnvironment) (gives : Option VarType) (breaks continues : Bool) where
    fall_leads : (ls : List Labelled) → AllByRecursion (KeepsLabel c env envs gives breaks continues) ls → (a : Activity) → IsWellFormed c env envs a → Leaves c (Leads c env gives breaks continues envs a) (fall_through ls a)
    fall_leads [] k a h = done (stays_on (passes_itself h))
    fall_leads (l ∷ ls) k a h = bind (k.0 a h) (λ flow b p. go_on_stays _ flow p (fall_leads ls k.1 b (p.passes).well))

    switch_leads : (ls : List Labelled) (word : Word) → AllByRecursion (KeepsLabel c env envs gives breaks continues) ls → (a : Activity) → IsWellFormed c env envs a → Leaves c (Leads c env gives breaks continues envs a) (switch ls word a)
    switch_leads ls word k a h =
        fall_leads (chosen_labels (number_of word) ls) (or_else_keeps (KeepsLabel c env envs gives breaks continues) (from_label (is_constant (number_of word)) ls) (from_label is_none ls) (from_keeps (KeepsLabel c env envs gives breaks continues) (is_constant (number_of word)) ls k) (from_keeps (KeepsLabel c env envs gives breaks continues) is_none ls k)) a h

  declared_on : {env : TypedEnvironment} {gives : Option VarType} {breaks continues : Bool} {a b d : Activity} {flow : Flow} (types : List VarType) → Passes c (with_locals env types) envs a b → LeadsOn c (with_locals env types) gives breaks continues envs b flow d → LeadsOn c env gives breaks continues envs a flow d
  declared_on {env} types p on = record {
    types = types ++ on.types;
    leads = record { passes = more_locals env types on.types (passes_more p (on.leads).passes); left = (on.leads).left };
  }

module _ {c : Context} (context : IsContext c) (body : Entry → Run (Option Word)) (bodies : KeepsBodies c body) where
  abbrev here : Calls
  here = record { program = c.program; body = body }

  module _ (env : TypedEnvironment) (same : env.signatures ≡ declared c) (envs : List TypedEnvironment) where
    fitting : {from : ValueType} {all : LiveObjects (List ℕ)} (of : VarType) {w : Word} → IsSubtype env.signatures from (value (as_value of)) → IsGiven c.program all from w → IsValue c.program all of w
    fitting {from} of s g = fitting_value c of (subst (λ (x : ModuleSignatures). IsSubtype x from (value (as_value of))) same s) g

    -- full expressions

    evaluated : {e : Expr} {t : ValueType} {a : Activity} → IsWellTyped env e t → IsWellFormed c env envs a → Leaves c (λ (w : Word) b. Passes c env envs a b) (full (expression here e) a)
    evaluated {e = x} e h = full_passes (expression here x) (weaken (λ w b got. (got.goes).passes) (expression_gives context body bodies same e h))

    evaluate_passes : {e : Expr} {t : ValueType} {a : Activity} → IsWellTyped env e t → IsWellFormed c env envs a → Leaves c (λ (none : Unit {0}) b. Passes c env envs a b) (evaluate here e a)
    evaluate_passes e h = bind (evaluated e h) (λ w b p. done p)

    evaluate_all_passes : (es : List Expr) {a : Activity} → AllByRecursion (IsEvaluated env) es → IsWellFormed c env envs a → Leaves c (λ (none : Unit {0}) b. Passes c env envs a b) (evaluate_all here es a)
    evaluate_all_passes [] k h = done (passes_itself h)
    evaluate_all_passes (e ∷ es) k h = bind (evaluate_passes (k.0).1 h) (λ none b p. weaken (λ one d q. passes_more p q) (evaluate_all_passes es k.1 p.well))

    condition_passes : {e : Expr} {a : Activity} → IsSoundCondition env e → IsWellFormed c env envs a → Leaves c (λ (v : Bool) b. Passes c env envs a b) (condition here e a)
    condition_passes e h = bind (evaluated e h) (λ w b p. done p)

    condition_or_true_passes : (o : Option Expr) {a : Activity} → MayBeSoundCondition env o → IsWellFormed c env envs a → Leaves c (λ (v : Bool) b. Passes c env envs a b) (condition_or_true here o a)
    condition_or_true_passes None k h = done (passes_itself h)
    condition_or_true_passes (Some e) k h = condition_passes k h

    -- with what is done with its value
    pub stored_passes : {other : TypedEnvironment} {of : VarType} {e : Expr} {a : Activity} {store : Word → Run (Unit {0})} → Fits env of e → IsWellFormed c env envs a → ((w : Word) (b : Activity) → IsWellFormed c env envs b → IsValue c.program (b.world).objects of w → Leaves c (λ (none : Unit {0}) d. Passes c other envs b d) (store w b)) → Leaves c (λ (none : Unit {0}) b. Passes c other envs a b) (full (expression here e >>= store) a)
    stored_passes {of = of} {e = x} {store = more} (fits e s) h as_value =
        full_passes (expression here x >>= more) (bind (expression_gives context body bodies same e h) (λ w b got. weaken (λ none d q. passes_more (got.goes).passes q) (as_value w b ((got.goes).passes).well (fitting of s (got.carried).value))))

    return_gives : {gives : Option VarType} {breaks continues : Bool} {of : VarType} {e : Expr} {a : Activity} → gives ≡ Some of → Fits env of e → IsWellFormed c env envs a → Leaves c (Leads c env gives breaks continues envs a) (return_value here (Some e) a)
    return_gives {gives = result} {of = of} is (fits e s) h =
        bind (expression_gives context body bodies same e h) (λ w b got. done (record {
          passes = (got.goes).passes;
          left = by_return (subst (λ (o : Option VarType). IsCarried c (value_of_result o) b w) (sym is) (record { value = gives (kept_value (fitting of s (got.carried).value)); held = (got.carried).held }));
        }))

    begins_fitting : {of : VarType} {e : Expr} → IsSoundBeginning env of (Some e) → Fits env of e
    begins_fitting (sound.stored nothing e) = e
    begins_fitting (sound.constructed k e) = fits e sig.same

    one_declared : {of : VarType} (o : Option Expr) {a : Activity} → IsSoundBeginning env of o → IsWellFormed c env envs a → Leaves c (λ (none : Unit {0}) b. Passes c (with_locals env (of ∷ [])) envs a b) (option_map_or (λ e. full (expression here e >>= declare)) o (declare (zero_of of)) a)
    one_declared {of} None k h = done (declared_passes of (zero_of of) h (zero_value of))
    one_declared {of} (Some e) k h = stored_passes (begins_fitting k) h (λ w b well v. done (declared_passes of w well v))

  all_declared : {env : TypedEnvironment} {vs : List Initialization} {types : List VarType} → AreSoundDeclarations env vs types → env.signatures ≡ declared c → {envs : List TypedEnvironment} {a : Activity} → IsWellFormed c env envs a → Leaves c (λ (none : Unit {0}) b. Passes c (with_locals env types) envs a b) (declare_all here vs a)
  all_declared (none_declared {env}) same h = done (no_more_locals env (passes_itself h))
  all_declared (and_declared {env} {v} {types = types} i rest) same h =
      bind (one_declared env same _ v.value i.value h) (λ none b p. weaken (λ one d q. more_locals env (v.of ∷ []) types (passes_more p q)) (all_declared rest same p.well))

  begins : {env : TypedEnvironment} {head : Head} {types : List VarType} → IsSoundHead env head types → env.signatures ≡ declared c → {envs : List TypedEnvironment} {a : Activity} → IsWellFormed c env envs a → Leaves c (λ (none : Unit {0}) b. Passes c (with_locals env types) envs a b) (begin here head a)
  begins {env} head_is_empty same h = done (no_more_locals env (passes_itself h))
  begins {env} (head_declares vs) same h = all_declared vs same h
  begins {env} (head_evaluates e) same h = weaken (λ none b p. no_more_locals env p) (evaluate_passes _ same _ e.1 h)

  module _ (depth : ℕ) where
    mutual
      pub stmt_leads : {scope : TypedScope} {s : Stmt} → IsSoundStmt scope s → (scope.env).signatures ≡ declared c → {envs : List TypedEnvironment} {a : Activity} → IsWellFormed c scope.env envs a → Leaves c (Leads c scope.env scope.result scope.may_break scope.may_continue envs a) (statement here depth s a)
      stmt_leads (sound.empty {line = line}) same h = bind (tick_goes line h) (λ none b g. done (stays_on g.passes))
      stmt_leads (sound.evaluate {line = line} e) same h =
          bind (bind (tick_goes line h) (λ none b g. weaken (λ one d q. passes_more g.passes q) (evaluate_passes _ same _ e.1 (g.passes).well))) (λ none b p. done (stays_on p))
      stmt_leads (sound.block {ss = inside} ss) same h = block_leads (statements here depth inside) h (stmts_lead ss same h)
      stmt_leads (sound.if_only {line = line} e s) same h =
          bind (bind (tick_goes line h) (λ none b g. weaken (λ v d q. passes_more g.passes q) (condition_passes _ same _ e (g.passes).well)))
          (λ v b p. chosen _ _ v b (λ yes. after_passes p (stmt_leads s same p.well)) (λ no. done (stays_on p)))
      stmt_leads (sound.if_else {line = line} e s t) same h =
          bind (bind (tick_goes line h) (λ none b g. weaken (λ v d q. passes_more g.passes q) (condition_passes _ same _ e (g.passes).well)))
          (λ v b p. chosen _ _ v b (λ yes. after_passes p (stmt_leads s same p.well)) (λ no. after_passes p (stmt_leads t same p.well)))
      stmt_leads (sound.repeat {line = line} l) same h =
          bind (bind (tick_goes line h) (λ none b g. after_passes g.passes (loop_leads line l same (g.passes).well))) (λ flow b p. breaks_end flow (λ e. absurd (cc)) p)
      stmt_leads (sound.for {scope} {line} {head = first} {types} {inside} head l) same h =
          bind (bind (tick_goes line h) (λ none b g. after_passes g.passes (block_leads (begin here first >> loop here depth line inside) (g.passes).well
          (bind (begins head same (g.passes).well) (λ one d p. weaken (λ flow x q. record { types = types; leads = after_passing p q }) (loop_leads line l same p.well))))))
          (λ flow b p. breaks_end flow (λ e. absurd (cc)) p)
      stmt_leads (sound.switch {scope = scope} {line = line} e cs) same {envs} h =
          bind (bind (bind (tick_goes line h) (λ none b g. weaken (λ w d q. passes_more g.passes q) (evaluated _ same _ e (g.passes).well)))
          (λ w b p. after_passes p (switch_leads (scope.env) (scope.result) true scope.may_continue (cases here depth _) w (cases_keep cs same envs) b p.well)))
          (λ flow b p. breaks_end flow (λ e. e) p)
      stmt_leads (sound.break_out {line = line} may) same h = bind (tick_goes line h) (λ none b g. done (record { passes = g.passes; left = by_break may }))
      stmt_leads (sound.continue_on {line = line} may) same h = bind (tick_goes line h) (λ none b g. done (record { passes = g.passes; left = by_continue may }))
      stmt_leads (sound.return_nothing {scope} {line} is) same h =
          bind (tick_goes line h) (λ none b g. done (record { passes = g.passes; left = by_return (subst (λ (o : Option VarType). IsCarried c (value_of_result o) b words.Null) (sym is) (record { value = gives_nothing; held = λ n e. absurd (cc) })) }))
      stmt_leads (sound.return_value {line = line} is e) same h = bind (tick_goes line h) (λ none b g. after_passes g.passes (return_gives _ same _ is e (g.passes).well))

      loop_leads : {scope : TypedScope} {inside : Loop} (line : ℕ) → IsLoop scope inside → (scope.env).signatures ≡ declared c → {envs : List TypedEnvironment} {a : Activity} → IsWellFormed c scope.env envs a → Leaves c (Leads c scope.env scope.result true false envs a) (loop here depth line inside a)
      loop_leads line (sound.loop {test = test} {c = e} {steps = es} {s = s} k steps b) same {a = a} h =
          repeats (record { line = line; condition = condition_or_true here e; steps = evaluate_all here es; body = statement here depth s }) (record {
            condition = λ x well. condition_or_true_passes _ same _ e k well;
            steps = λ x well. evaluate_all_passes _ same _ es steps well;
            body = λ x well. stmt_leads b same well;
          }) test depth a h

      pub stmts_lead : {scope : TypedScope} {ss : Stmts} → AreSoundStmts scope ss → (scope.env).signatures ≡ declared c → {envs : List TypedEnvironment} {a : Activity} → IsWellFormed c scope.env envs a → Leaves c (LeadsOn c scope.env scope.result scope.may_break scope.may_continue envs a) (statements here depth ss a)
      stmts_lead sound.no_stmts same h = done (as_on (stays_on (passes_itself h)))
      stmts_lead (sound.declare {scope} {line} {vs = list} {types} vs ss) same {envs} {a} h =
          let begun : Leaves c (λ (flow : Flow) b. (flow ≡ On) × Passes c (with_locals scope.env types) envs a b) ((tick line >> declare_all here list >> give On) a) = bind (bind (tick_goes line h) (λ none b g. weaken (λ one d q. passes_more g.passes q) (all_declared vs same (g.passes).well))) (λ none b p. done (refl, p)) in
          bind begun (λ flow b q. on_after _ flow b q.0 (weaken (λ f d on. declared_on types q.1 on) (stmts_lead ss same (q.1).well)))
      stmts_lead (sound.more_stmts s ss) same h = bind (stmt_leads s same h) (λ flow b p. go_on_leads _ flow p (stmts_lead ss same (p.passes).well))

      cases_keep : {scope : TypedScope} {int_type : IntType} {before : List Label} {cs : Cases} → AreSoundCases scope int_type before cs → (scope.env).signatures ≡ declared c → (envs : List TypedEnvironment) → AllByRecursion (KeepsLabel c scope.env envs scope.result scope.may_break scope.may_continue) (cases here depth cs)
      cases_keep sound.no_cases same envs = tt
      cases_keep (sound.more_cases l ss cs) same envs = ((λ a h. labelled_leads ss same h), cases_keep cs same envs)

      labelled_leads : {scope : TypedScope} {ss : Stmts} → AreLabelled scope ss → (scope.env).signatures ≡ declared c → {envs : List TypedEnvironment} {a : Activity} → IsWellFormed c scope.env envs a → Leaves c (Leads c scope.env scope.result scope.may_break scope.may_continue envs a) (statements here depth ss a)
      labelled_leads sound.none_labelled same h = done (stays_on (passes_itself h))
      labelled_leads (sound.and_labelled s ss) same h = bind (stmt_leads s same h) (λ flow b p. go_on_stays _ flow p (labelled_leads ss same (p.passes).well))
