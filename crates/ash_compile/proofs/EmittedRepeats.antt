-- Emitted code of `while`, `do` and `for`: a loop, and the release point where its `break` leads.
use Rattle.std.proofs.Common.{◌≡◌, ◌≤◌, ◌<◌, ℕ, ◌+◌, List, [], ◌++◌, length, refl, sym, ap, ◌∙◌, subst, arith}
use Rattle.std.proofs.Common.{true, false, Bool, append-nil, length-append}
use Rattle.std.specs.Prelude.{Option, Some, slice_get, if◌then◌else◌}
use Rattle.ash_typed.specs.declared.types.VarType.{VarType}
use Rattle.ash_typed.specs.StatementTree.{Head, Repeat, For, Loop, repeated}
use Rattle.ash_typed.specs.SoundStatements.{TypedScope, IsSoundStmt, IsLoop, IsSoundHead, head_is_empty, head_declares, head_evaluates}
use Rattle.ash_typed.specs.SoundStatements.{declaring, none_declared}
use Rattle.ash_typed.specs.SoundStatements as typing
use Rattle.ash_meaning.specs.Activity.{Activity}
use Rattle.ash_meaning.specs.Runs.{Run}
use Rattle.ash_meaning.specs.StatementMeaning.{Flow, On, statement, loop, begin, condition_or_true, evaluate_all}
use Rattle.ash_soundness.specs.WellFormed.{IsWellFormed}
use Rattle.ash_code.specs.declared.instruction.Instruction.{Instruction}
use Rattle.ash_code.specs.declared.instruction.Instruction.TheVariants as i
use Rattle.ash_code.specs.Performing.{Setting}
use Rattle.ash_code.specs.Running.{instruction_at}
use Rattle.ash_compile.specs.declared.builder.Written.{Written}
use Rattle.ash_compile.specs.declared.bodies.Scope.{Scope}
use Rattle.ash_compile.specs.declared.layout.Layout.{Layout}
use Rattle.ash_compile.specs.Layout.{IsLayout}
use Rattle.ash_compile.specs.Performances.{Exit, Exits, Performs, Reaches, by_release}
use Rattle.ash_compile.specs.Emission.{code_of, end_of, Keeps, Puts, Scene, IsScene, Suits, Good, calls_of}
use Rattle.ash_compile.specs.EmittedStatements.{waits, AreBelow, AreApart, with_jumps, Joins, StandsWith, LeadsAll, Landing}
use Rattle.ash_compile.specs.EmittedStatements.{IsIn, typed_scope, DoesFlow, DoesActs, EmitsStatement, EmitsHead, EmitsLoop}
use Rattle.ash_compile.proofs.Emission.{HasAt, keeps_on, put_keeps, put_one, put_there, suits_before}
use Rattle.ash_compile.proofs.TypedStatements.{Ready, ranked_of, spends_repeat, spends_condition_or_true, spends_evaluate_all}
use Rattle.ash_compile.proofs.TypedStatements.{spends_statement, spends_evaluate}
use Rattle.ash_compile.proofs.Statements as code
use Rattle.ash_compile.proofs.Loops.{Spends}
use Rattle.ash_compile.proofs.StatementCode.{does_repeat}
use Rattle.ash_compile.proofs.BlockCode.{with_types, still_scene, SpendsTo, spends_declarations}
use Rattle.ash_compile.proofs.ForCode.{does_for}
use Rattle.ash_compile.proofs.Drafts.{joins_none, shown_code}
use Rattle.ash_compile.proofs.EmittedParts.{put_stays, suits_still}
use Rattle.ash_compile.proofs.EmittedLoops.{landing_keeps, landing_suits}

-- what leads on to a place leads there
pub performs_reaching : (s : Setting) (Good : Activity → Type 0) (function room : ℕ) (exits : Exits) (run : Run Flow)
    (from back to count more : ℕ)
    → Performs s Good function room exits run from back count more → Reaches s function back to
    → Performs s Good function room exits run from to count more
performs_reaching s Good function room exits run from back to count more performs leads = record {
  comes = λ callers size slots a rest long stands good outs.
      performs.comes callers size slots a rest long stands good (record {
        on = λ b next is there. leads more next callers b (rest On b) (outs.on b next is there);
        broke = outs.broke;
        continues = outs.continues;
        returned = outs.returned;
      });
}

-- loops keep activities
spends_loop : (s : Scene) (result : Option VarType) (b c : Bool) (line : ℕ) (inside : Loop) → IsScene s
    → IsLoop (typed_scope s result b c) inside → Spends (Ready s) (loop (calls_of s) s.depth line inside)
spends_loop s result b c line (repeated test e es x) scene (typing.loop typed_e typed_es sound_x) =
    spends_repeat s scene (record {
      line = line;
      condition = condition_or_true (calls_of s) e;
      steps = evaluate_all (calls_of s) es;
      body = statement (calls_of s) s.depth x;
    })
    (spends_condition_or_true s scene e typed_e) (spends_evaluate_all s scene es typed_es)
    (spends_statement s scene result true true x sound_x) test s.depth

sound_repeat : {scope : TypedScope} {line : ℕ} {inside : Loop} → IsSoundStmt scope (Repeat line inside) → IsLoop scope inside
sound_repeat (typing.repeat sound) = sound

pub repeat : (c0 c1 c2 c3 : Written) (breaks own continues continues' : List ℕ) (line : ℕ) (inside : Loop) (scope : Scope)
    → Puts c0 c1 scope.locals (i.Tick line)
    → EmitsLoop (with_jumps c1 [] continues) (with_jumps c2 own continues') line inside
    (record scope { broken = scope.locals })
    → Landing c2 c3 own
    → EmitsStatement (with_jumps c0 breaks continues) (with_jumps c3 breaks continues') (Repeat line inside) scope
repeat c0 c1 c2 c3 breaks own continues continues' line inside scope ticks emits lands = record {
  grows = record {
    code = keeps;
    breaks = joins_none breaks (end_of c0) (end_of c3) keeps.longer;
    continues = subst (λ (places : List ℕ). Joins continues places (end_of c0) (end_of c3)) (sym emits.continues)
        (joins_none continues (end_of c0) (end_of c3) keeps.longer);
    apart = λ below_breaks below_continues apart.
        subst (λ (places : List ℕ). AreApart breaks places) (sym emits.continues) apart;
  };
  does = λ s exits result b c scene is_in sound no_breaks no_continues apart stands suits.
      let exit : Exit = record { at = end_of c2 + 1; outer = length (s.env).locals } in
      let inner : Exits = record exits { broken = exit } in
      let d2 = with_jumps c2 own continues' in
      let d3 = with_jumps c3 breaks continues' in
      let free : (k : ℕ) → end_of c0 ≤ k → waits continues' k ≡ false
      = λ k low. ap (λ (places : List ℕ). waits places k) emits.continues ∙ no_continues k low in
      let here : (k : ℕ) → end_of c0 ≤ k → k < end_of c3
      → instruction_at (s.setting).code (record { function = s.function; at = k }) ≡ slice_get (code_of c3) k
      = λ k low high. stands k low high ∙ shown_code exits d3 k (no_breaks k low) (free k low) in
      let does = emits.does s inner result b c scene
      (record {
        locals = is_in.locals;
        broken = is_in.locals;
        continued = is_in.continued;
        keeps_broken = omega arith;
        keeps_continued = is_in.keeps_continued;
        returns = is_in.returns;
      })
      (sound_repeat sound) (λ k low. refl) (λ k low. no_continues k (omega (arith, low, one))) (λ k waiting. absurd (cc))
      (λ k low high. here k (omega (arith, low, one)) (omega (arith, high, lands.long)) ∙ lands.code k high
      ∙ sym (ap (λ (t : Bool). if waits own k then Some (i.Jump (end_of c2 + 1))
      else (if t then Some (i.Jump (exits.continued).at) else slice_get (code_of c2) k)) (free k (omega (arith, low, one)))))
      (landing_suits s c2 c3 own lands suits) in
      does_repeat s scene (ranked_of s scene) exits line inside (end_of c0) (end_of c2 + 1) (end_of c3)
      (here (end_of c0) (omega arith) (omega (arith, one, ((emits.grows).code).longer, lands.long))
      ∙ put_stays c0 c1 c3 scope.locals (i.Tick line) ticks later)
      (subst (λ (n : ℕ). DoesFlow s inner (loop (calls_of s) s.depth line inside) n (end_of c3) (length (s.env).locals)) one
      (performs_reaching s.setting (Good s) s.function s.room inner (loop (calls_of s) s.depth line inside) (end_of c1)
      (end_of c2) (end_of c3) (length (s.env).locals) (length (s.env).locals) does
      (code.jumps s.setting (Good s) s.function s.room (end_of c2) (end_of c3)
      (here (end_of c2) (omega (arith, one, ((emits.grows).code).longer)) (omega (arith, lands.long)) ∙ lands.past))))
      (spends_loop s result b c line inside scene (sound_repeat sound))
      (by_release
      (here (end_of c2 + 1) (omega (arith, one, ((emits.grows).code).longer)) (omega (arith, lands.long)) ∙ lands.release)
      lands.long);
}
  where
    one : end_of c1 ≡ end_of c0 + 1
    one = put_one c0 c1 scope.locals (i.Tick line) ticks

    later : Keeps c1 c3
    later = landing_keeps c2 c3 own c1 (emits.grows).code (λ k low. ((emits.grows).breaks).same k low) lands

    keeps : Keeps c0 c3
    keeps = keeps_on c0 c1 c3 (put_keeps c0 c1 scope.locals (i.Tick line) ticks) later

-- `for`

spends_head : (s : Scene) (head : Head) (types : List VarType) → IsScene s → IsSoundHead s.env head types
    → SpendsTo (Ready s) (begin (calls_of s) head) (Ready (with_types s types))
spends_head s head types scene head_is_empty a b v good is = spends_declarations s scene none_declared a b v good is
spends_head s head types scene (head_declares sound) a b v good is = spends_declarations s scene sound a b v good is
spends_head s head types scene (head_evaluates {e = e} typed) a b v good is =
    let there = spends_evaluate s scene e typed a b v good is in (
      (
        subst (λ (ls : List VarType). IsWellFormed s.context (record s.env { locals = ls }) s.envs b)
            (sym (append-nil (s.env).locals)) (there.0).0,
        (there.0).1,
      ),
      there.1,
    )

-- c1 with the tick, c2 with the head, c3 with the loop, c5 with the end of the block, c6 with the jumps of `break` led there.
pub for_loop : (c0 c1 c2 c3 c4 c5 c6 : Written) (breaks own continues continues' : List ℕ) (line : ℕ) (head : Head)
    (inside : Loop) (scope : Scope) (more release : ℕ)
    → Puts c0 c1 scope.locals (i.Tick line) → EmitsHead c1 c2 head scope.locals more
    → EmitsLoop (with_jumps c2 [] continues) (with_jumps c3 own continues') line inside
    (record scope { locals = more; broken = scope.locals })
    → Puts c3 c4 scope.locals (i.LeaveBlocks scope.locals) → Puts c4 c5 scope.locals i.Release
    → LeadsAll c5 c6 own release → release ≡ end_of c4
    → EmitsStatement (with_jumps c0 breaks continues) (with_jumps c6 breaks continues') (For line head inside) scope
for_loop c0 c1 c2 c3 c4 c5 c6 breaks own continues continues' line head inside scope more release ticks begins emits leaves
    frees all release_is = record {
      grows = record {
        code = keeps;
        breaks = joins_none breaks (end_of c0) (end_of c6) keeps.longer;
        continues = subst (λ (places : List ℕ). Joins continues places (end_of c0) (end_of c6)) (sym emits.continues)
            (joins_none continues (end_of c0) (end_of c6) keeps.longer);
        apart = λ below_breaks below_continues apart.
            subst (λ (places : List ℕ). AreApart breaks places) (sym emits.continues) apart;
      };
      does = λ s exits result b c scene is_in sound no_breaks no_continues apart stands suits.
          by_sound s exits result b c scene is_in sound no_breaks no_continues stands suits;
    }
  where
    one : end_of c1 ≡ end_of c0 + 1
    one = put_one c0 c1 scope.locals (i.Tick line) ticks

    four : end_of c4 ≡ end_of c3 + 1
    four = put_one c3 c4 scope.locals (i.LeaveBlocks scope.locals) leaves

    six : end_of c6 ≡ end_of c3 + 1 + 1
    six = all.long ∙ put_one c4 c5 scope.locals i.Release frees ∙ ap (λ (n : ℕ). n + 1) four

    ending : Keeps c3 c5
    ending = keeps_on c3 c4 c5 (put_keeps c3 c4 scope.locals (i.LeaveBlocks scope.locals) leaves)
        (put_keeps c4 c5 scope.locals i.Release frees)

    -- code in which no jump of the loop waits
    led : (k : ℕ) → waits own k ≡ false → slice_get (code_of c6) k ≡ slice_get (code_of c5) k
    led k free = all.code k
        ∙ ap (λ (t : Bool). if t then Some (i.Jump release) else slice_get (code_of c5) k) free

    from_head : Keeps c2 c6
    from_head = record {
      longer = omega (arith, six, ((emits.grows).code).longer);
      same = λ k low. led k (((emits.grows).breaks).same k low) ∙ (keeps_on c2 c3 c5 (emits.grows).code ending).same k low;
      slots = omega (arith, (keeps_on c2 c3 c5 (emits.grows).code ending).slots, all.slots);
      layout = all.layout ∙ (keeps_on c2 c3 c5 (emits.grows).code ending).layout;
    }

    later : Keeps c1 c6
    later = keeps_on c1 c2 c6 begins.keeps from_head

    keeps : Keeps c0 c6
    keeps = keeps_on c0 c1 c6 (put_keeps c0 c1 scope.locals (i.Tick line) ticks) later

    suits5 : (s : Scene) → Suits s c6 → Suits s c5
    suits5 s suits = record {
      slots = omega (arith, all.slots, suits.slots);
      layout = subst (λ (l : Layout). IsLayout ((s.setting).code).module ((s.context).program).tree l) all.layout suits.layout;
    }

    by_sound : (s : Scene) (exits : Exits) (result : Option VarType) (b c : Bool) → IsScene s → IsIn scope s exits result
        → IsSoundStmt (typed_scope s result b c) (For line head inside)
        → AreBelow (end_of c0) breaks → AreBelow (end_of c0) continues
        → StandsWith s exits (with_jumps c6 breaks continues') (end_of c0) (end_of c6) → Suits s c6
        → DoesFlow s exits (statement (calls_of s) s.depth (For line head inside)) (end_of c0) (end_of c6) (length (s.env).locals)
    by_sound s exits result b c scene is_in (typing.for {types = types} sound_head sound) no_breaks no_continues stands suits =
        let exit : Exit = record { at = end_of c3 + 1; outer = length (s.env).locals } in
        let inner : Exits = record exits { broken = exit } in
        let wide = with_types s types in
        let d6 = with_jumps c6 breaks continues' in
        let free : (k : ℕ) → end_of c0 ≤ k → waits continues' k ≡ false
        = λ k low. ap (λ (places : List ℕ). waits places k) emits.continues ∙ no_continues k low in
        let here : (k : ℕ) → end_of c0 ≤ k → k < end_of c6
        → instruction_at (s.setting).code (record { function = s.function; at = k }) ≡ slice_get (code_of c6) k
        = λ k low high. stands k low high ∙ shown_code exits d6 k (no_breaks k low) (free k low) in
        let to_head : end_of c0 ≤ end_of c2 = omega (arith, one, (begins.keeps).longer) in
        let behind : (k : ℕ) → end_of c3 ≤ k → slice_get (code_of c6) k ≡ slice_get (code_of c5) k
        = λ k low. led k (((emits.grows).breaks).below (λ n high. refl) k low) in
        let acts = begins.does s types scene is_in.locals sound_head
        (λ k low high. here k (omega (arith, low, one)) (omega (arith, high, from_head.longer)) ∙ from_head.same k high)
        (suits_before s c2 c6 from_head suits) in
        let more_is : more ≡ length ((s.env).locals ++ types) = acts.0 in
        let grown : length (s.env).locals ≤ more = omega (arith, more_is, length-append (s.env).locals types) in
        let does = emits.does wide inner result b c (still_scene s types scene)
        (record {
          locals = more_is;
          broken = is_in.locals;
          continued = is_in.continued;
          keeps_broken = omega (arith, grown, is_in.locals);
          keeps_continued = omega (arith, grown, is_in.keeps_continued, is_in.locals);
          returns = is_in.returns;
        })
        sound (λ k low. refl) (λ k low. no_continues k (omega (arith, low, to_head))) (λ k waiting. absurd (cc))
        (λ k low high. here k (omega (arith, low, to_head)) (omega (arith, high, six)) ∙ all.code k
        ∙ ap (λ (n : ℕ). if waits own k then Some (i.Jump n) else slice_get (code_of c5) k) (release_is ∙ four)
        ∙ ap (λ (o : Option Instruction). if waits own k then Some (i.Jump (end_of c3 + 1)) else o) (ending.same k high)
        ∙ sym (ap (λ (t : Bool). if waits own k then Some (i.Jump (end_of c3 + 1))
        else (if t then Some (i.Jump (exits.continued).at) else slice_get (code_of c3) k))
        (free k (omega (arith, low, to_head)))))
        (suits_still s types c3 (suits_before s c3 c5 ending (suits5 s suits))) in
        subst (λ (n : ℕ). DoesFlow s exits (statement (calls_of s) s.depth (For line head inside)) (end_of c0) n
        (length (s.env).locals)) (sym six)
        (does_for s scene (ranked_of s scene) exits line head types inside (end_of c0) (end_of c2) (end_of c3) more
        (spends_head s head types scene sound_head)
        (spends_loop wide result b c line inside (still_scene s types scene) sound)
        (omega (arith, is_in.keeps_continued, is_in.continued, is_in.locals)) grown
        (here (end_of c0) (omega arith) (omega (arith, one, later.longer))
        ∙ put_stays c0 c1 c6 scope.locals (i.Tick line) ticks later)
        (subst (λ (n : ℕ). DoesActs s (begin (calls_of s) head) n (end_of c2) more) one acts.1)
        (subst (λ (n : ℕ). Performs s.setting (Good wide) s.function s.room inner (loop (calls_of s) s.depth line inside)
        (end_of c2) (end_of c3) n n) (sym more_is) does)
        (subst (λ (n : ℕ). HasAt s (end_of c3) (i.LeaveBlocks n)) is_in.locals
        (here (end_of c3) (omega (arith, to_head, ((emits.grows).code).longer)) (omega (arith, six))
        ∙ behind (end_of c3) (omega arith)
        ∙ put_stays c3 c4 c5 scope.locals (i.LeaveBlocks scope.locals) leaves (put_keeps c4 c5 scope.locals i.Release frees)))
        (here (end_of c3 + 1) (omega (arith, to_head, ((emits.grows).code).longer)) (omega (arith, six))
        ∙ behind (end_of c3 + 1) (omega arith)
        ∙ subst (λ (n : ℕ). slice_get (code_of c5) n ≡ Some i.Release) four (put_there c4 c5 scope.locals i.Release frees)))
