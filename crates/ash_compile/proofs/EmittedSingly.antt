-- Emitted code of statements of no other statements.
use Rattle.std.proofs.Common.{◌≡◌, ◌≤◌, ℕ, ◌+◌, List, [], ◌∷◌, ◌++◌, length, sym, ap, ◌∙◌, subst, arith}
use Rattle.std.proofs.Common.{true, false, Bool}
use Rattle.std.specs.Prelude.{Option, Some, None, slice_get, if◌then◌else◌}
use Rattle.ash_host.specs.declared.word.Word.{Word}
use Rattle.ash_typed.specs.declared.types.VarType.{VarType}
use Rattle.ash_typed.specs.TypedTree.{Expr}
use Rattle.ash_typed.specs.StatementTree.{Stmt, Empty, Evaluate, Break, Continue, Return}
use Rattle.ash_typed.specs.SoundExpressions.{fits}
use Rattle.ash_typed.specs.SoundStatements.{TypedScope, IsSoundStmt, IsEvaluated}
use Rattle.ash_typed.specs.SoundStatements as typing
use Rattle.ash_meaning.specs.StatementMeaning.{statement}
use Rattle.ash_meaning.specs.StatementMeaning as meaning
use Rattle.ash_code.specs.declared.instruction.Instruction.{Instruction}
use Rattle.ash_code.specs.declared.instruction.Instruction.TheVariants as i
use Rattle.ash_compile.specs.declared.builder.Written.{Written}
use Rattle.ash_compile.specs.declared.bodies.Scope.{Scope}
use Rattle.ash_compile.specs.Performances.{Exits}
use Rattle.ash_compile.specs.Emission.{code_of, end_of, Keeps, Puts, Scene, IsScene, Suits, Good, Stands, DoesExpression, Emits, calls_of}
use Rattle.ash_compile.specs.EmittedStatements.{with_jumps, shown, IsIn, typed_scope}
use Rattle.ash_compile.specs.EmittedStatements.{DoesFlow, DoesActs, EmitsStatement, EmitsEvaluation, LeavesBlocks, frame_end}
use Rattle.ash_compile.proofs.Emission.{HasAt, keeps_on, put_keeps, put_one, suits_before, stands_before, stands_after, has_put}
use Rattle.ash_compile.proofs.TypedStatements.{ranked_of}
use Rattle.ash_compile.proofs.StatementCode.{does_empty, does_evaluate, does_return, does_return_value, does_break, does_continue}
use Rattle.ash_compile.proofs.Leaving as leaving
use Rattle.ash_compile.proofs.Drafts.{grows_code, joins_none, joins_one, pushed_other, pushed_there, plainly, apart_breaks, apart_continues}
use Rattle.ash_compile.proofs.Drafts.{shown_code, shown_break, shown_continue}
use Rattle.ash_compile.proofs.EmittedParts.{put_stays, evaluation_keeps, evaluation_does}

-- Code without jumps that wait.
pub plain : (old new : Written) (x : Stmt) (scope : Scope) → Keeps old new
    → ((s : Scene) (exits : Exits) (result : Option VarType) (breaks continues : Bool) → IsScene s
    → IsIn scope s exits result → IsSoundStmt (typed_scope s result breaks continues) x
    → Stands s (code_of new) (end_of old) (end_of new) → Suits s new
    → DoesFlow s exits (statement (calls_of s) s.depth x) (end_of old) (end_of new) (length (s.env).locals))
    → (breaks continues : List ℕ)
    → EmitsStatement (with_jumps old breaks continues) (with_jumps new breaks continues) x scope
plain old new x scope keeps does breaks continues = record {
  grows = grows_code old new breaks continues keeps;
  does = λ s exits result b c scene inside sound no_breaks no_continues apart stands suits.
      does s exits result b c scene inside sound
      (plainly s exits (with_jumps new breaks continues) (end_of old) (end_of new) no_breaks no_continues stands) suits;
}

pub empty : (old new : Written) (line : ℕ) (scope : Scope) → Puts old new scope.locals (i.Tick line)
    → (breaks continues : List ℕ)
    → EmitsStatement (with_jumps old breaks continues) (with_jumps new breaks continues) (Empty line) scope
empty old new line scope puts =
    plain old new (Empty line) scope (put_keeps old new scope.locals (i.Tick line) puts)
    (λ s exits result b c scene inside sound stands suits.
    subst (λ (to : ℕ). DoesFlow s exits (statement (calls_of s) s.depth (Empty line)) (end_of old) to (length (s.env).locals))
    (sym (put_one old new scope.locals (i.Tick line) puts))
    (does_empty s scene (ranked_of s scene) exits line (end_of old)
    (has_put s old new (end_of old) scope.locals (i.Tick line) (omega arith) puts stands)))

sound_evaluation : {scope : TypedScope} {line : ℕ} {e : Expr} → IsSoundStmt scope (Evaluate line e)
    → IsEvaluated scope.env e
sound_evaluation (typing.evaluate is) = is

pub evaluate : (old mid new : Written) (line : ℕ) (e : Expr) (scope : Scope) → Puts old mid scope.locals (i.Tick line)
    → EmitsEvaluation mid new e scope.locals
    → (breaks continues : List ℕ)
    → EmitsStatement (with_jumps old breaks continues) (with_jumps new breaks continues) (Evaluate line e) scope
evaluate old mid new line e scope puts emits =
    plain old new (Evaluate line e) scope (keeps_on old mid new (put_keeps old mid scope.locals (i.Tick line) puts) later)
    (λ s exits result b c scene inside sound stands suits.
    does_evaluate s scene (ranked_of s scene) exits line e (end_of old) (end_of new)
    (has_put s old mid (end_of old) scope.locals (i.Tick line) (omega arith) puts
    (stands_before s mid new (end_of old) later stands))
    (subst (λ (from : ℕ). DoesActs s (meaning.evaluate (calls_of s) e) from (end_of new) (length (s.env).locals)) (put_one old mid scope.locals (i.Tick line) puts)
    (evaluation_does mid new e scope.locals emits s scene inside.locals (sound_evaluation sound)
    (stands_after s (code_of new) (end_of old) (end_of mid) (end_of new)
    (omega (arith, put_one old mid scope.locals (i.Tick line) puts)) stands) suits)))
  where
    later : Keeps mid new
    later = evaluation_keeps mid new e scope.locals emits

-- `return`

ends_of : (s : Scene) (exits : Exits) (at : ℕ) (constructs : Bool) → HasAt s at (frame_end constructs)
    → ((this : Word) → exits.gives None this ≡ (if constructs then Some this else None))
    → leaving.Ends s.setting (Good s) s.function s.room exits at
ends_of s exits at true has gives = leaving.by_this has gives
ends_of s exits at false has gives = leaving.by_nothing has gives

pub return_nothing : (old mid new : Written) (line : ℕ) (scope : Scope) (j : Instruction) → j ≡ frame_end scope.constructs
    → Puts old mid scope.locals (i.Tick line) → Puts mid new scope.locals j
    → (breaks continues : List ℕ)
    → EmitsStatement (with_jumps old breaks continues) (with_jumps new breaks continues) (Return line None) scope
return_nothing old mid new line scope j is ticks ends =
    plain old new (Return line None) scope (keeps_on old mid new (put_keeps old mid scope.locals (i.Tick line) ticks) later)
    (λ s exits result b c scene inside sound stands suits.
    does_return s scene (ranked_of s scene) exits line (end_of old) (end_of new)
    (has_put s old mid (end_of old) scope.locals (i.Tick line) (omega arith) ticks
    (stands_before s mid new (end_of old) later stands))
    (ends_of s exits (end_of old + 1) scope.constructs
    (subst (λ (n : ℕ). HasAt s n (frame_end scope.constructs)) one
    (subst (λ (k : Instruction). HasAt s (end_of mid) k) is
    (has_put s mid new (end_of old) scope.locals j (omega (arith, one)) ends stands)))
    (inside.returns).nothing))
  where
    one : end_of mid ≡ end_of old + 1
    one = put_one old mid scope.locals (i.Tick line) ticks

    later : Keeps mid new
    later = put_keeps mid new scope.locals j ends

pub return_value : (old mid last new : Written) (line : ℕ) (e : Expr) (scope : Scope)
    → Puts old mid scope.locals (i.Tick line) → Emits mid last e scope.locals → Puts last new scope.locals (i.Return scope.locals)
    → (breaks continues : List ℕ)
    → EmitsStatement (with_jumps old breaks continues) (with_jumps new breaks continues) (Return line (Some e)) scope
return_value old mid last new line e scope ticks emits returns =
    plain old new (Return line (Some e)) scope
    (keeps_on old mid new (put_keeps old mid scope.locals (i.Tick line) ticks) (keeps_on mid last new emits.keeps end))
    (λ s exits result b c scene inside sound stands suits. by_sound s exits result b c scene inside sound stands suits)
  where
    one : end_of mid ≡ end_of old + 1
    one = put_one old mid scope.locals (i.Tick line) ticks

    end : Keeps last new
    end = put_keeps last new scope.locals (i.Return scope.locals) returns

    by_sound : (s : Scene) (exits : Exits) (result : Option VarType) (b c : Bool) → IsScene s → IsIn scope s exits result
        → IsSoundStmt (typed_scope s result b c) (Return line (Some e))
        → Stands s (code_of new) (end_of old) (end_of new) → Suits s new
        → DoesFlow s exits (statement (calls_of s) s.depth (Return line (Some e))) (end_of old) (end_of new)
        (length (s.env).locals)
    by_sound s exits result b c scene inside (typing.return_value {of = of} is (fits typed subtype)) stands suits =
        let later = stands_before s last new (end_of old) end stands in
        does_return_value s scene (ranked_of s scene) exits line e (end_of old) (end_of last) (end_of new)
        (has_put s old mid (end_of old) scope.locals (i.Tick line) (omega arith) ticks
        (stands_before s mid last (end_of old) emits.keeps later))
        (subst (λ (n : ℕ). DoesExpression s e n (end_of last) (length (s.env).locals)) one
        (subst (λ (n : ℕ). DoesExpression s e (end_of mid) (end_of last) n) inside.locals
        (emits.does s _ scene typed
        (stands_after s (code_of last) (end_of old) (end_of mid) (end_of last) (omega (arith, one)) later)
        (suits_before s last new end suits))))
        (subst (λ (n : ℕ). HasAt s (end_of last) (i.Return n)) inside.locals
        (has_put s last new (end_of old) scope.locals (i.Return scope.locals) (omega (arith, one, (emits.keeps).longer)) returns
        stands))
        ((inside.returns).value of is)

-- `break` and `continue`

module _ (old new : Written) (line count slot jump : ℕ) (leaves : LeavesBlocks old new line count slot jump) where
  second : end_of leaves.ticked ≡ end_of old + 1
  second = put_one old leaves.ticked slot (i.Tick line) leaves.ticks

  third : end_of leaves.left ≡ end_of old + 1 + 1
  third = put_one leaves.ticked leaves.left slot (i.LeaveBlocks count) leaves.leaves ∙ ap (λ (n : ℕ). n + 1) second

  jump_is : jump ≡ end_of old + 1 + 1
  jump_is = leaves.place ∙ third

  end_is : end_of new ≡ end_of old + 1 + 1 + 1
  end_is = put_one leaves.left new slot (i.Jump leaves.pending) leaves.jumps ∙ ap (λ (n : ℕ). n + 1) third

  last : Keeps leaves.left new
  last = put_keeps leaves.left new slot (i.Jump leaves.pending) leaves.jumps

  later : Keeps leaves.ticked new
  later = keeps_on leaves.ticked leaves.left new
      (put_keeps leaves.ticked leaves.left slot (i.LeaveBlocks count) leaves.leaves) last

  pub leaves_keep : Keeps old new
  leaves_keep = keeps_on old leaves.ticked new (put_keeps old leaves.ticked slot (i.Tick line) leaves.ticks) later

  tick_there : slice_get (code_of new) (end_of old) ≡ Some (i.Tick line)
  tick_there = put_stays old leaves.ticked new slot (i.Tick line) leaves.ticks later

  leave_there : slice_get (code_of new) (end_of old + 1) ≡ Some (i.LeaveBlocks count)
  leave_there =
      subst (λ (n : ℕ). slice_get (code_of new) n ≡ Some (i.LeaveBlocks count)) second
      (put_stays leaves.ticked leaves.left new slot (i.LeaveBlocks count) leaves.leaves last)

  pub break_out : (scope : Scope) (breaks continues : List ℕ) → count ≡ scope.broken
      → EmitsStatement (with_jumps old breaks continues) (with_jumps new (breaks ++ jump ∷ []) continues) (Break line) scope
  break_out scope breaks continues is = record {
    grows = record {
      code = leaves_keep;
      breaks = joins_one breaks jump (end_of old) (end_of new) (omega (arith, jump_is)) (omega (arith, jump_is, end_is));
      continues = joins_none continues (end_of old) (end_of new) leaves_keep.longer;
      apart = λ below_breaks below_continues apart.
          apart_breaks breaks (breaks ++ jump ∷ []) continues (end_of old) (end_of new)
          (joins_one breaks jump (end_of old) (end_of new) (omega (arith, jump_is)) (omega (arith, jump_is, end_is)))
          below_continues apart;
    };
    does = λ s exits result b c scene inside sound no_breaks no_continues apart stands suits.
        let d = with_jumps new (breaks ++ jump ∷ []) continues in
        let outer : count ≡ (exits.broken).outer = is ∙ inside.broken in
        let plainly_there : (k : ℕ) → end_of old ≤ k → (jump ≡ k → ⊥) → shown exits d k ≡ slice_get (code_of new) k
        = λ k low other.
        shown_code exits d k (pushed_other breaks jump k other ∙ no_breaks k low) (no_continues k low) in
        does_break s scene (ranked_of s scene) exits line (end_of old) (end_of new)
        (omega (arith, inside.keeps_broken, inside.broken, inside.locals))
        (stands (end_of old) (omega arith) (omega (arith, end_is))
        ∙ plainly_there (end_of old) (omega arith) (λ same. omega (arith, same, jump_is)) ∙ tick_there)
        (subst (λ (n : ℕ). HasAt s (end_of old + 1) (i.LeaveBlocks n)) outer
        (stands (end_of old + 1) (omega arith) (omega (arith, end_is))
        ∙ plainly_there (end_of old + 1) (omega arith) (λ same. omega (arith, same, jump_is)) ∙ leave_there))
        (stands (end_of old + 1 + 1) (omega arith) (omega (arith, end_is))
        ∙ subst (λ (n : ℕ). shown exits d n ≡ Some (i.Jump (exits.broken).at)) jump_is
        (shown_break exits d jump (pushed_there breaks jump)));
  }

  pub continue_on : (scope : Scope) (breaks continues : List ℕ) → count ≡ scope.continued
      → EmitsStatement (with_jumps old breaks continues) (with_jumps new breaks (continues ++ jump ∷ [])) (Continue line) scope
  continue_on scope breaks continues is = record {
    grows = record {
      code = leaves_keep;
      breaks = joins_none breaks (end_of old) (end_of new) leaves_keep.longer;
      continues = joins_one continues jump (end_of old) (end_of new) (omega (arith, jump_is)) (omega (arith, jump_is, end_is));
      apart = λ below_breaks below_continues apart.
          apart_continues breaks continues (continues ++ jump ∷ []) (end_of old) (end_of new)
          (joins_one continues jump (end_of old) (end_of new) (omega (arith, jump_is)) (omega (arith, jump_is, end_is)))
          below_breaks apart;
    };
    does = λ s exits result b c scene inside sound no_breaks no_continues apart stands suits.
        let d = with_jumps new breaks (continues ++ jump ∷ []) in
        let outer : count ≡ (exits.continued).outer = is ∙ inside.continued in
        let plainly_there : (k : ℕ) → end_of old ≤ k → (jump ≡ k → ⊥) → shown exits d k ≡ slice_get (code_of new) k
        = λ k low other.
        shown_code exits d k (no_breaks k low) (pushed_other continues jump k other ∙ no_continues k low) in
        does_continue s scene (ranked_of s scene) exits line (end_of old) (end_of new)
        (omega (arith, inside.keeps_continued, inside.continued, inside.locals))
        (stands (end_of old) (omega arith) (omega (arith, end_is))
        ∙ plainly_there (end_of old) (omega arith) (λ same. omega (arith, same, jump_is)) ∙ tick_there)
        (subst (λ (n : ℕ). HasAt s (end_of old + 1) (i.LeaveBlocks n)) outer
        (stands (end_of old + 1) (omega arith) (omega (arith, end_is))
        ∙ plainly_there (end_of old + 1) (omega arith) (λ same. omega (arith, same, jump_is)) ∙ leave_there))
        (stands (end_of old + 1 + 1) (omega arith) (omega (arith, end_is))
        ∙ subst (λ (n : ℕ). shown exits d n ≡ Some (i.Jump (exits.continued).at)) jump_is
        (shown_continue exits d jump (no_breaks jump (omega (arith, jump_is))) (pushed_there continues jump)));
  }
