-- Emitted code of `switch`.
use Rattle.std.proofs.Common.{◌≡◌, ◌≤◌, ◌<◌, ℕ, suc, ◌+◌, ℤ, List, [], ◌∷◌, ◌++◌, length, refl, sym, ap, ◌∙◌, subst, arith}
use Rattle.std.proofs.Common.{true, false, Bool, drop, map, rules, length-drop}
use Rattle.std.specs.Prelude.{Option, Some, None, is_none, slice_get, option_map, if◌then◌else◌}
use Rattle.std.proofs.lemmas.List.{length-take-le}
use Rattle.std.proofs.lemmas.Option.{same_Some}
use Rattle.ash_host.specs.declared.word.Word.{Word}
use Rattle.ash_integers.specs.declared.int_type.IntType.{IntType}
use Rattle.ash_integers.specs.Integers.{number_of}
use Rattle.ash_tree.specs.declared.tree.statements.Label.{Label}
use Rattle.ash_tree.specs.declared.tree.statements.Label.TheVariants as labels
use Rattle.ash_typed.specs.declared.types.VarType.{VarType}
use Rattle.ash_typed.specs.declared.types.VarType.TheVariants as vars
use Rattle.ash_typed.specs.TypeOf.{value}
use Rattle.std.specs.declared.vec.Vec.{Vec}
use Rattle.std.specs.declared.alloc.Global.{Global}
use Rattle.ash_typed.specs.declared.tree.statements.Case as case_code
use Rattle.ash_typed.specs.declared.tree.statements.Stmt as code_stmt
use Rattle.ash_typed.specs.declared.tree.statements.StmtKind.TheViews as views
use Rattle.ash_typed.specs.BodyViews.{case_of, body_of}
use Rattle.ash_typed.specs.StatementTree.{cases as case_list}
use Rattle.ash_typed.proofs.StatementRows.{stmts_of-row}
use Rattle.ash_typed.specs.TypedTree.{Expr}
use Rattle.ash_typed.specs.StatementTree.{Switch, Stmts, labelled, Cases, no_case, next_case}
use Rattle.ash_typed.specs.SoundExpressions.{IsWellTyped}
use Rattle.ash_typed.specs.SoundStatements.{TypedScope, IsSoundStmt, AreSoundStmts, AreSoundCases, AreLabelled, IsSoundLabel}
use Rattle.ash_typed.specs.SoundStatements.{in_switch, constant_of, minus}
use Rattle.ash_typed.specs.SoundStatements as typing
use Rattle.ash_meaning.specs.Activity.{Activity}
use Rattle.ash_meaning.specs.Runs.{Run, Done}
use Rattle.ash_meaning.specs.StatementMeaning.{Flow, On, Labelled, statements, cases}
use Rattle.ash_code.specs.declared.instruction.Instruction.{Instruction}
use Rattle.ash_code.specs.declared.instruction.Instruction.TheVariants as i
use Rattle.ash_code.specs.Running.{instruction_at}
use Rattle.ash_compile.specs.declared.builder.Written.{Written}
use Rattle.ash_compile.specs.declared.bodies.Scope.{Scope}
use Rattle.ash_compile.specs.declared.layout.Layout.{Layout}
use Rattle.ash_compile.specs.Layout.{IsLayout}
use Rattle.ash_compile.specs.Stretches.{Arrives}
use Rattle.ash_compile.specs.Performances.{here, HasLocals, Exit, Exits, Reaches, by_release}
use Rattle.ash_compile.specs.Emission.{code_of, end_of, Keeps, Puts, Leads, Scene, IsScene, Suits, Good, DoesExpression, calls_of}
use Rattle.ash_compile.specs.EmittedStatements.{waits, AreBelow, AreApart, Draft, with_jumps, end_in, Joins}
use Rattle.ash_compile.specs.EmittedStatements.{typed_scope, DoesFlow, EmitsStatement, EmitsStatements, EmitsFull, Landing}
use Rattle.ash_compile.specs.EmittedStatements.{label_jump, count_cases, AreTests, next_label, DoesLabels, EmitsLabels, EmitsLabel}
use Rattle.ash_compile.proofs.Typed.{values_long}
use Rattle.ash_compile.proofs.Emission.{HasAt, keeps_on, put_keeps, put_one, put_there, suits_before}
use Rattle.ash_compile.proofs.EmittedBranches.{leads_end, leads_there, leads_other, suits_led}
use Rattle.ash_compile.proofs.TypedStatements.{ranked_of}
use Rattle.ash_compile.proofs.Statements as code
use Rattle.ash_compile.proofs.Switches as switches
use Rattle.ash_compile.proofs.SwitchCode.{spends_labelled, spends_cases, does_switch}
use Rattle.ash_compile.proofs.Drafts.{joins_none, joins_on, joins_wider, shown_code, shown_same, with_after, apart_continues}
use Rattle.ash_compile.proofs.EmittedParts.{put_stays, full_keeps}
use Rattle.ash_compile.proofs.EmittedLoops.{landing_suits}
use Rattle.ash_compile.proofs.EmittedRepeats.{performs_reaching}

-- Statements that declare nothing leave as many locals as they found.
settled : (s : Scene) (exits : Exits) (run : Run Flow) (from to more : ℕ) → DoesFlow s exits run from to more
    → ((a b : Activity) → Good s a → run a ≡ Done On b → Good s b)
    → DoesFlow s exits run from to (length (s.env).locals)
settled s exits run from to more performs keeps = record {
  comes = λ callers size slots a rest long stands good outs.
      performs.comes callers size slots a rest long stands good (record {
        on = λ b next is there.
            let same : more ≡ length (s.env).locals
            = omega (
              arith,
              values_long (((keeps a b good is).0).frame).locals,
              ap length there.locals,
              length-take-le more next (omega (arith, there.long, there.within)),
            ) in
            subst (λ (n : ℕ). Arrives s.setting (here s.function to n next callers) b (rest On b)) (sym same)
            (outs.on b next is (subst (λ (n : ℕ). HasLocals size n next b) same there));
        broke = outs.broke;
        continues = outs.continues;
        returned = outs.returned;
      });
}

sound_labelled : {scope : TypedScope} {xs : Stmts} → AreLabelled scope xs → AreSoundStmts scope xs
sound_labelled typing.none_labelled = typing.no_stmts
sound_labelled (typing.and_labelled first rest) = typing.more_stmts first (sound_labelled rest)

sound_first : {scope : TypedScope} {t : IntType} {before : List Label} {l : Label} {xs : Stmts} {cs : Cases}
    → AreSoundCases scope t before (next_case (labelled l xs) cs)
    → AreLabelled scope xs × AreSoundCases scope t (before ++ l ∷ []) cs
sound_first (typing.more_cases label xs cs) = (xs, cs)

-- labels, one after another

pub no_labels : (d : Draft) (test : ℕ) (scope : Scope) → EmitsLabels d d test no_case scope
no_labels d test scope = record {
  ats = [];
  longer = omega arith;
  before = λ k low within. refl;
  behind = λ k low within. refl;
  slots = omega arith;
  layout = refl;
  breaks = joins_none d.breaks (end_in d) (end_in d) (omega arith);
  continues = joins_none d.continues (end_in d) (end_in d) (omega arith);
  apart = λ breaks continues apart. apart;
  tests = tt;
  first = refl;
  does = λ s exits result b c scene inside sound no_breaks no_continues apart stands suits. tt;
}

pub label_step : (c0 c1 c2 : Written) (b0 n0 b1 n1 : List ℕ) (test to : ℕ) (l : Label) (xs : Stmts) (scope : Scope)
    (word : Option Word)
    → option_map number_of word ≡ constant_of l → to ≡ end_of c0 → test < end_of c0
    → Leads c0 c1 test (label_jump word scope.locals to)
    → EmitsStatements (with_jumps c1 b0 n0) (with_jumps c2 b1 n1) xs scope
    → EmitsLabel (with_jumps c0 b0 n0) (with_jumps c2 b1 n1) test (labelled l xs) scope
label_step c0 c1 c2 b0 n0 b1 n1 test to l xs scope word constant to_is low leads emits end cs room rest = record {
  ats = end_of c0 ∷ rest.ats;
  longer = omega (arith, same, ((emits.grows).code).longer, rest.longer);
  before = λ k less within. rest.before k (omega (arith, less)) (further k within) ∙ stays k within (λ is. omega (arith, is, less));
  behind = λ k more within. rest.behind k (omega (arith, more)) (further k within)
      ∙ stays k within (λ is. omega (arith, is, more));
  slots = omega (arith, leads.slots, ((emits.grows).code).slots, rest.slots);
  layout = rest.layout ∙ ((emits.grows).code).layout ∙ leads.layout;
  breaks = joins_on b0 b1 end.breaks (end_of c0) (end_of c2) (end_in end) (omega (arith, same, ((emits.grows).code).longer))
      (joins_wider b0 b1 (end_of c0) (end_of c1) (end_of c2) (end_of c2) (omega (arith, same)) (omega arith)
      (emits.grows).breaks) rest.breaks;
  continues = joins_on n0 n1 end.continues (end_of c0) (end_of c2) (end_in end)
      (omega (arith, same, ((emits.grows).code).longer))
      (joins_wider n0 n1 (end_of c0) (end_of c1) (end_of c2) (end_of c2) (omega (arith, same)) (omega arith)
      (emits.grows).continues) rest.continues;
  apart = λ below_breaks below_continues apart.
      rest.apart (below1 b0 b1 (emits.grows).breaks below_breaks) (below1 n0 n1 (emits.grows).continues below_continues)
      ((emits.grows).apart (below0 b0 below_breaks) (below0 n0 below_continues) apart);
  tests = (
    (
      word,
      constant,
      rest.before test (omega arith) (omega (arith, low, same, ((emits.grows).code).longer))
          ∙ ((emits.grows).code).same test (omega (arith, low, same))
          ∙ leads_there c0 c1 test (label_jump word scope.locals to) leads low
          ∙ ap (λ (n : ℕ). Some (label_jump word scope.locals n)) to_is,
    ),
    rest.tests,
  );
  first = refl;
  does = λ s exits result b c scene inside sound no_breaks no_continues apart stands suits.
      let parts = sound_first sound.2 in
      let mid = with_jumps c2 b1 n1 in
      let suits2 : Suits s c2 = record {
        slots = omega (arith, rest.slots, suits.slots);
        layout = subst (λ (y : Layout). IsLayout ((s.setting).code).module ((s.context).program).tree y) rest.layout
            suits.layout;
      } in
      let does = emits.does s exits result b c scene inside (sound_labelled parts.0) (below0 b0 no_breaks)
      (below0 n0 no_continues) apart
      (λ k less more. stands k (omega (arith, less, same)) (omega (arith, more, rest.longer))
      ∙ shown_same exits mid end k ((rest.breaks).same k more) ((rest.continues).same k more)
      (rest.behind k (omega (arith, less, same, room)) more)) suits2 in (
        subst (λ (n : ℕ). DoesFlow s exits (statements (calls_of s) s.depth xs) n (next_label rest.ats (end_in end))
            (length (s.env).locals)) same
            (subst (λ (n : ℕ). DoesFlow s exits (statements (calls_of s) s.depth xs) (end_of c1) n (length (s.env).locals))
            (sym rest.first)
            (settled s exits (statements (calls_of s) s.depth xs) (end_of c1) (end_of c2) does.0 does.2
            (λ a d good is. (spends_labelled s scene result b c xs parts.0 a d On good is).0))),
        rest.does s exits result b c scene inside (sound.0, sound.1 ++ l ∷ [], parts.1)
            (below1 b0 b1 (emits.grows).breaks no_breaks) (below1 n0 n1 (emits.grows).continues no_continues)
            ((emits.grows).apart (below0 b0 no_breaks) (below0 n0 no_continues) apart)
            (with_after s exits end (end_of c0) (end_of c2) (end_in end) (omega (arith, same, ((emits.grows).code).longer)) stands)
            suits,
      );
}
  where
    same : end_of c1 ≡ end_of c0
    same = leads_end c0 c1 test (label_jump word scope.locals to) leads

    further : (k : ℕ) → k < end_of c0 → k < end_of c2
    further k within = omega (arith, within, same, ((emits.grows).code).longer)

    stays : (k : ℕ) → k < end_of c0 → (k ≡ test → ⊥) → slice_get (code_of c2) k ≡ slice_get (code_of c0) k
    stays k within apart = ((emits.grows).code).same k (omega (arith, within, same))
        ∙ leads_other c0 c1 test k (label_jump word scope.locals to) leads apart

    below0 : (places : List ℕ) → AreBelow (end_of c0) places → AreBelow (end_of c1) places
    below0 places below k less = below k (omega (arith, less, same))

    below1 : (places more : List ℕ) → Joins places more (end_of c1) (end_of c2) → AreBelow (end_of c0) places
        → AreBelow (end_of c2) more
    below1 places more joins below = joins.below (below0 places below)

-- the labels in the form of the lemmas on code

falls : (s : Scene) (exits : Exits) (result : Option VarType) (b c : Bool) (t : IntType) (before : List Label) (cs : Cases)
    (ats : List ℕ) (last to : ℕ) → IsScene s → AreSoundCases (typed_scope s result b c) t before cs
    → DoesLabels s exits cs ats last → Reaches s.setting s.function last to
    → switches.Falls s.setting (Good s) s.function s.room exits (cases (calls_of s) s.depth cs) ats to (length (s.env).locals)
falls s exits result b c t before no_case [] last to scene sound does leads = tt
falls s exits result b c t before (next_case (labelled l xs) cs) (at ∷ ats) last to scene sound does leads = (
  reached ats does.0,
  (λ a d good is. (spends_labelled s scene result b c xs (sound_first sound).0 a d On good is).0),
  falls s exits result b c t (before ++ l ∷ []) cs ats last to scene (sound_first sound).1 does.1 leads,
)
  where
    reached : (ats : List ℕ)
        → DoesFlow s exits (statements (calls_of s) s.depth xs) at (next_label ats last) (length (s.env).locals)
        → DoesFlow s exits (statements (calls_of s) s.depth xs) at (switches.first_of ats to) (length (s.env).locals)
    reached [] performs =
        performs_reaching s.setting (Good s) s.function s.room exits (statements (calls_of s) s.depth xs) at last to
        (length (s.env).locals) (length (s.env).locals) performs leads
    reached (next ∷ ats) performs = performs
falls s exits result b c t before no_case (at ∷ ats) last to scene sound does leads = absurd does
falls s exits result b c t before (next_case (labelled l xs) cs) [] last to scene sound does leads = absurd does

abbrev labelled_here : Scene → Stmts → Label → Labelled
labelled_here s xs l = record { constant = constant_of l; run = statements (calls_of s) s.depth xs }

-- a label that has a constant
one_test : (s : Scene) (at slot to : ℕ) (constant : ℤ) (word : Option Word) (Next : Type 0)
    → option_map number_of word ≡ Some constant → HasAt s at (label_jump word slot to) → Next
    → (w : Word) × (number_of w ≡ constant) × HasAt s at (i.JumpIfNumber slot w to) × Next
one_test s at slot to constant (Some w) Next is has next = (w, same_Some (number_of w) constant is, has, next)
one_test s at slot to constant None Next is has next = absurd (cc)

default_test : (s : Scene) (at slot to : ℕ) (word : Option Word) → option_map number_of word ≡ None
    → HasAt s at (label_jump word slot to) → HasAt s at (i.Jump to)
default_test s at slot to (Some w) is has = absurd (cc)
default_test s at slot to None is has = has

tests_stand : (s : Scene) (result : Option VarType) (b c : Bool) (t : IntType) (before : List Label) (cs : Cases)
    (code : List Instruction) (at : ℕ) (ats : List ℕ) (slot to : ℕ)
    → AreSoundCases (typed_scope s result b c) t before cs
    → AreTests code at cs ats slot
    → ((k : ℕ) → at ≤ k → k < at + count_cases cs
    → instruction_at (s.setting).code (record { function = s.function; at = k }) ≡ slice_get code k)
    → HasAt s (at + count_cases cs) (i.Jump to)
    → switches.Tests s.setting (Good s) s.function s.room at (cases (calls_of s) s.depth cs) ats
    (switches.place_of is_none (cases (calls_of s) s.depth cs) ats to) slot
tests_stand s result b c t before no_case code at [] slot to sound tests stands past =
    subst (λ (n : ℕ). HasAt s n (i.Jump to)) (omega arith) past
tests_stand s result b c t before (next_case (labelled l xs) cs) code at (place ∷ ats) slot to
    (typing.more_cases label labelled_xs sound) tests stands past =
    by_label cs l label tests.1 (tests.0).0 (tests.0).1
    (stands at (omega arith) (omega arith) ∙ (tests.0).2)
    (tests_stand s result b c t (before ++ l ∷ []) cs code (at + 1) ats slot to sound tests.1
    (λ k low high. stands k (omega (arith, low)) (omega (arith, high)))
    (subst (λ (n : ℕ). HasAt s n (i.Jump to)) (omega arith) past))
  where
    by_label : (cs : Cases) (l : Label) → IsSoundLabel t before l cs → AreTests code (at + 1) cs ats slot
        → (word : Option Word) → option_map number_of word ≡ constant_of l
        → HasAt s at (label_jump word slot place)
        → switches.Tests s.setting (Good s) s.function s.room (at + 1) (cases (calls_of s) s.depth cs) ats
        (switches.place_of is_none (cases (calls_of s) s.depth cs) ats to) slot
        → switches.Tests s.setting (Good s) s.function s.room at (labelled_here s xs l ∷ cases (calls_of s) s.depth cs) (place ∷ ats)
        (switches.place_of is_none (labelled_here s xs l ∷ cases (calls_of s) s.depth cs) (place ∷ ats) to) slot
    by_label cs (labels.Case n) label more word is has rest = one_test s at slot place _ word _ is has rest
    by_label cs (labels.CaseMinus n) label more word is has rest = one_test s at slot place _ word _ is has rest
    by_label cs labels.Default (typing.constant none differs) more word is has rest = absurd none
    by_label no_case labels.Default typing.otherwise more word is has rest = no_more ats more
      where
        no_more : (ats : List ℕ) → AreTests code (at + 1) no_case ats slot
            → switches.Tests s.setting (Good s) s.function s.room at (labelled_here s xs labels.Default ∷ []) (place ∷ ats) place slot
        no_more [] none = default_test s at slot place word is has
        no_more (other ∷ others) none = absurd none
tests_stand s result b c t before no_case code at (place ∷ ats) slot to sound tests stands past = absurd tests
tests_stand s result b c t before (next_case (labelled l xs) cs) code at [] slot to sound tests stands past = absurd tests

-- what the code's labels stand for

case_made : (l : Label) (xs : Vec code_stmt.Stmt Global)
    → case_of (case_code.roll-Case (record { label = l; body = xs })) ≡ labelled l (body_of xs.items)
case_made l xs = search (rules, views.the_lemmas, stmts_of-row)

pub case_is : (c : case_code.Case)
    → case_of c ≡ labelled (case_code.out-Case c).label (body_of ((case_code.out-Case c).body).items)
case_is c =
    ap case_of (sym (case_code.roll-out-Case c)) ∙ case_made (case_code.out-Case c).label (case_code.out-Case c).body

pub counted : (xs : List case_code.Case) → count_cases (case_list (map case_of xs)) ≡ length xs
counted [] = refl
counted (x ∷ xs) = ap suc (counted xs)

-- the tests of the labels that are left are before the code of the labels
pub room_left : (xs : List case_code.Case) (k tests test start end : ℕ) → k < length xs → test ≡ tests + k → start ≤ end
    → tests + length xs ≤ start → test + 1 + count_cases (case_list (map case_of (drop (k + 1) xs))) ≤ end
room_left xs k tests test start end low is grows room =
    omega (arith, counted (drop (k + 1) xs), length-drop (k + 1) xs, low, is, grows, room)

-- `switch`

apart_swapped : {A : Type 0} (t u : Bool) (x y z : A) → (t ≡ true → u ≡ false)
    → (if u then x else (if t then y else z)) ≡ (if t then y else (if u then x else z))
apart_swapped true u x y z apart = ap (λ (v : Bool). if v then x else y) (apart refl)
apart_swapped false u x y z apart = refl

sound_switch : {scope : TypedScope} {line : ℕ} {t : IntType} {e : Expr} {cs : Cases} → IsSoundStmt scope (Switch line t e cs)
    → IsWellTyped scope.env e (value (vars.Integer t)) × AreSoundCases (in_switch scope) t [] cs
sound_switch (typing.switch typed sound) = (typed, sound)

-- c2 with the value, c3 with the places of the tests, c4 with the jump past all, c5 with the labels, c6 with the landing of
-- `break`, c7 with the jump led.
pub switch : (c0 c1 c2 c3 c4 c5 c6 c7 : Written) (b0 n0 own n1 : List ℕ) (line : ℕ) (t : IntType) (e : Expr) (cs : Cases)
    (scope : Scope) (test past end : ℕ) {pending : ℕ}
    → Puts c0 c1 scope.locals (i.Tick line) → EmitsFull c1 c2 e scope.locals
    → test ≡ end_of c2 → Keeps c2 c3 → end_of c3 ≡ end_of c2 + count_cases cs
    → past ≡ end_of c3 → Puts c3 c4 scope.locals (i.Jump pending)
    → EmitsLabels (with_jumps c4 [] n0) (with_jumps c5 own n1) test cs (record scope { broken = scope.locals })
    → Landing c5 c6 own → end ≡ end_of c6 → Leads c6 c7 past (i.Jump end)
    → EmitsStatement (with_jumps c0 b0 n0) (with_jumps c7 b0 n1) (Switch line t e cs) scope
switch c0 c1 c2 c3 c4 c5 c6 c7 b0 n0 own n1 line t e cs scope test past end {pending} ticks evaluates test_is places three past_is jumps
    emits lands end_is leads = record {
      grows = record {
        code = record {
          longer = omega (arith, long, to_four);
          same = λ k low. early k (omega (arith, low, to_two, test_is)) ∙ from_start.same k low;
          slots = omega (arith, from_start.slots, emits.slots, lands.slots, leads.slots);
          layout = leads.layout ∙ lands.layout ∙ emits.layout ∙ from_start.layout;
        };
        breaks = joins_none b0 (end_of c0) (end_of c7) (omega (arith, long, to_four));
        continues = joins;
        apart = λ below_breaks below_continues apart.
            apart_continues b0 n0 n1 (end_of c0) (end_of c7) joins below_breaks apart;
      };
      does = λ s exits result b c scene inside sound no_breaks no_continues apart stands suits.
          let F : ℕ → Option Instruction = λ k. instruction_at (s.setting).code (record { function = s.function; at = k }) in
          let exit : Exit = record { at = end_of c5 + 1; outer = length (s.env).locals } in
          let inner : Exits = record exits { broken = exit } in
          let parts = sound_switch sound in
          let suits6 = suits_led s c6 c7 past (i.Jump end) leads suits in
          let suits5 = landing_suits s c5 c6 own lands suits6 in
          let suits2 : Suits s c2 = record {
            slots = omega (arith, (keeps_on c2 c3 c4 places last).slots, emits.slots, suits5.slots);
            layout = subst (λ (y : Layout). IsLayout ((s.setting).code).module ((s.context).program).tree y)
                (emits.layout ∙ (keeps_on c2 c3 c4 places last).layout) suits5.layout;
          } in
          let apart5 : AreApart own n1
          = emits.apart (λ k low. refl) (λ k low. no_continues k (omega (arith, low, to_four))) (λ k waiting. absurd (cc)) in
          let at_first : (k : ℕ) → end_of c0 ≤ k → k < end_of c4 → F k ≡ slice_get (code_of c7) k
          = λ k low high. stands k low (omega (arith, high, long))
          ∙ shown_code exits (with_jumps c7 b0 n1) k (no_breaks k low) ((emits.continues).same k high ∙ no_continues k low) in
          let at_last : (k : ℕ) → end_of c5 ≤ k → k < end_of c7 → F k ≡ slice_get (code_of c6) k
          = λ k low high. stands k (omega (arith, low, emits.longer, to_four)) high
          ∙ shown_code exits (with_jumps c7 b0 n1) k (no_breaks k (omega (arith, low, emits.longer, to_four)))
          ((emits.continues).below (λ n more. no_continues n (omega (arith, more, to_four))) k low)
          ∙ leads_other c6 c7 past k (i.Jump end) leads (λ is. omega (arith, is, low, emits.longer, past_is, four)) in
          let labels_do = emits.does s inner result true c scene
          (record {
            locals = inside.locals;
            broken = inside.locals;
            continued = inside.continued;
            keeps_broken = omega arith;
            keeps_continued = inside.keeps_continued;
            returns = inside.returns;
          })
          (t, [], parts.1) (λ k low. refl) (λ k low. no_continues k (omega (arith, low, to_four))) (λ k waiting. absurd (cc))
          (λ k low high. stands k (omega (arith, low, to_four)) (omega (arith, high, long5))
          ∙ ap (λ (u : Bool). if u then Some (i.Jump (exits.broken).at)
          else (if waits n1 k then Some (i.Jump (exits.continued).at) else slice_get (code_of c7) k))
          (no_breaks k (omega (arith, low, to_four)))
          ∙ ap (λ (o : Option Instruction). if waits n1 k then Some (i.Jump (exits.continued).at) else o)
          (leads_other c6 c7 past k (i.Jump end) leads (λ is. omega (arith, is, low, past_is, four)) ∙ lands.code k high)
          ∙ apart_swapped (waits own k) (waits n1 k) (Some (i.Jump (exits.continued).at)) (Some (i.Jump (end_of c5 + 1)))
          (slice_get (code_of c5) k) (apart5 k)) suits5 in
          let jumped : HasAt s past (i.Jump (end_of c7))
          = at_first past (omega (arith, past_is, to_two, three)) (omega (arith, past_is, four))
          ∙ leads_there c6 c7 past (i.Jump end) leads (omega (arith, past_is, four, emits.longer, lands.long))
          ∙ ap (λ (n : ℕ). Some (i.Jump n)) (end_is ∙ sym seven) in
          let mid = evaluates.mid in
          let plain : (k : ℕ) → end_of c0 ≤ k → k < end_of c2 → F k ≡ slice_get (code_of c2) k
          = λ k low high. at_first k low (omega (arith, high, three, four)) ∙ early k (omega (arith, high, test_is))
          ∙ (keeps_on c2 c3 c4 places last).same k high in
          does_switch s scene (ranked_of s scene) exits line t e (value (vars.Integer t)) cs emits.ats (end_of c0) (end_of mid)
          (end_of c5 + 1) (end_of c7) parts.0
          (spends_cases s scene result true c t [] cs parts.1)
          (plain (end_of c0) (omega arith) (omega (arith, one, (full_keeps c1 c2 e scope.locals evaluates).longer))
          ∙ put_stays c0 c1 c2 scope.locals (i.Tick line) ticks (full_keeps c1 c2 e scope.locals evaluates))
          (subst (λ (n : ℕ). DoesExpression s e n (end_of mid) (length (s.env).locals)) one
          (subst (λ (n : ℕ). DoesExpression s e (end_of c1) (end_of mid) n) inside.locals
          ((evaluates.emits).does s _ scene parts.0
          (λ k low high. plain k (omega (arith, low, one)) (omega (arith, high, two)) ∙ ended.same k high)
          (suits_before s mid c2 ended suits2))))
          (plain (end_of mid) (omega (arith, one, ((evaluates.emits).keeps).longer)) (omega (arith, two))
          ∙ put_there mid c2 scope.locals i.EndExpression evaluates.puts)
          (subst (λ (n : ℕ). switches.Tests s.setting (Good s) s.function s.room n (cases (calls_of s) s.depth cs) emits.ats
          (switches.place_of is_none (cases (calls_of s) s.depth cs) emits.ats (end_of c7)) (length (s.env).locals)) (test_is ∙ two)
          (tests_stand s result true c t [] cs (code_of c5) test emits.ats (length (s.env).locals) (end_of c7) parts.1
          (subst (λ (n : ℕ). AreTests (code_of c5) test cs emits.ats n) inside.locals emits.tests)
          (λ k low high. at_first k (omega (arith, low, test_is, to_two)) (omega (arith, high, test_is, three, four))
          ∙ led k (omega (arith, high, test_is, three, four)) (λ is. omega (arith, is, high, past_is, three, test_is)))
          (subst (λ (n : ℕ). HasAt s n (i.Jump (end_of c7))) (past_is ∙ three ∙ ap (λ (n : ℕ). n + count_cases cs) (sym test_is))
          jumped)))
          (falls s inner result true c t [] cs emits.ats (end_of c5) (end_of c7) scene parts.1 labels_do
          (code.jumps s.setting (Good s) s.function s.room (end_of c5) (end_of c7)
          (at_last (end_of c5) (omega arith) (omega (arith, seven, lands.long)) ∙ lands.past
          ∙ ap (λ (n : ℕ). Some (i.Jump n)) (sym seven))))
          (by_release
          (at_last (end_of c5 + 1) (omega arith) (omega (arith, seven, lands.long)) ∙ lands.release)
          (seven ∙ lands.long));
    }
  where
    one : end_of c1 ≡ end_of c0 + 1
    one = put_one c0 c1 scope.locals (i.Tick line) ticks

    two : end_of c2 ≡ end_of evaluates.mid + 1
    two = put_one evaluates.mid c2 scope.locals i.EndExpression evaluates.puts

    ended : Keeps evaluates.mid c2
    ended = put_keeps evaluates.mid c2 scope.locals i.EndExpression evaluates.puts

    four : end_of c4 ≡ end_of c3 + 1
    four = put_one c3 c4 scope.locals (i.Jump pending) jumps

    seven : end_of c7 ≡ end_of c6
    seven = leads_end c6 c7 past (i.Jump end) leads

    long5 : end_of c5 ≤ end_of c7
    long5 = omega (arith, seven, lands.long)

    long : end_of c4 ≤ end_of c7
    long = omega (arith, long5, emits.longer)

    last : Keeps c3 c4
    last = put_keeps c3 c4 scope.locals (i.Jump pending) jumps

    to_two : end_of c0 ≤ end_of c2
    to_two = omega (arith, one, (full_keeps c1 c2 e scope.locals evaluates).longer)

    to_four : end_of c0 ≤ end_of c4
    to_four = omega (arith, to_two, three, four)

    from_start : Keeps c0 c4
    from_start = keeps_on c0 c2 c4
        (keeps_on c0 c1 c2 (put_keeps c0 c1 scope.locals (i.Tick line) ticks)
        (full_keeps c1 c2 e scope.locals evaluates)) (keeps_on c2 c3 c4 places last)

    -- code that was there before the labels
    led : (k : ℕ) → k < end_of c4 → (k ≡ past → ⊥) → slice_get (code_of c7) k ≡ slice_get (code_of c5) k
    led k low apart = leads_other c6 c7 past k (i.Jump end) leads apart
        ∙ lands.code k (omega (arith, low, emits.longer))
        ∙ ap (λ (u : Bool). if u then Some (i.Jump (end_of c5 + 1)) else slice_get (code_of c5) k) ((emits.breaks).same k low)

    -- code before the tests
    early : (k : ℕ) → k < test → slice_get (code_of c7) k ≡ slice_get (code_of c4) k
    early k low = led k (omega (arith, low, test_is, three, four)) (λ is. omega (arith, is, low, test_is, past_is, three))
        ∙ emits.before k low (omega (arith, low, test_is, three, four))

    joins : Joins n0 n1 (end_of c0) (end_of c7)
    joins = joins_wider n0 n1 (end_of c0) (end_of c4) (end_of c5) (end_of c7) to_four long5 emits.continues
