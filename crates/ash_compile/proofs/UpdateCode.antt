-- The code of compound assignments, of `++` and of `--`.
use Rattle.std.proofs.Common.{◌≡◌, ◌≤◌, ◌<◌, ◌⊎◌, inl, inr, ℕ, ◌+◌, List, take, length, sym, ap, ◌∙◌, subst, arith, true}
use Rattle.std.specs.Prelude.{Option, Some, None, Result, Ok, Err, slice_index_or, slice_set}
use Rattle.std.proofs.lemmas.List.{length-set, get_or-set_same, get_or-set_other, set-get_or}
use Rattle.ash_host.specs.declared.word.Word.{Word}
use Rattle.ash_host.specs.declared.word.Word.TheVariants as words
use Rattle.ash_integers.specs.declared.int_type.IntType.{IntType}
use Rattle.ash_integers.specs.declared.arithmetic.DivisionFault.{DivisionFault}
use Rattle.ash_integers.specs.declared.arithmetic.DivisionFault.TheVariants as faults
use Rattle.ash_typed.specs.declared.types.VarType.TheVariants as vars
use Rattle.ash_typed.specs.declared.tree.operations.Calculation.{Calculation}
use Rattle.ash_typed.specs.declared.tree.operations.IncrementOp.{IncrementOp}
use Rattle.ash_typed.specs.declared.tree.operations.IncrementOp.TheVariants as steps
use Rattle.ash_typed.specs.TypeOf.{ValueType, value}
use Rattle.ash_typed.specs.SoundOperations.{IsShift}
use Rattle.ash_host.specs.Objects.{LiveObjects}
use Rattle.ash_meaning.specs.Classes.{Program}
use Rattle.ash_typed.specs.TypedTree.{Expr, Update, Count, Place}
use Rattle.ash_typed.specs.SoundExpressions.{IsWellTyped}
use Rattle.ash_meaning.specs.Activity.{Activity}
use Rattle.ash_meaning.specs.Runs.{Progress, Done, onward, give, ◌>>=◌}
use Rattle.ash_meaning.specs.Releases.{give_held}
use Rattle.ash_meaning.specs.OperatorMeaning.{calculate, calculated_by, give_or_raise, converted_to, counted}
use Rattle.ash_meaning.specs.OperatorMeaning.{given_by}
use Rattle.ash_meaning.specs.Locations.{Location, read, write}
use Rattle.ash_meaning.specs.ExpressionMeaning.{expression, location, store, update, count_at}
use Rattle.ash_meaning.specs.Ends.{Outcome}
use Rattle.ash_soundness.specs.WellFormed.{is_integer, IsInteger, IsGiven}
use Rattle.ash_soundness.specs.WellFormedLaws.{Goes}
use Rattle.ash_soundness.proofs.Hosts.{well_after}
use Rattle.ash_soundness.proofs.Integers.{integer_word, counted_integer, calculate_gives}
use Rattle.ash_soundness.proofs.Triples.{safe}
use Rattle.ash_run_steps.specs.Guarded.{onward as guarded_onward}
use Rattle.ash_run_steps.specs.GuardedSteps.{is_alive}
use Rattle.ash_code.specs.declared.instruction.Instruction.{Instruction}
use Rattle.ash_code.specs.declared.instruction.Instruction.TheVariants as i
use Rattle.ash_code.specs.Controls.{Window, control}
use Rattle.ash_code.specs.Performing.{perform, put}
use Rattle.ash_compile.specs.declared.places.Spot.{Spot}
use Rattle.ash_compile.specs.declared.places.Spot.TheVariants as spots
use Rattle.ash_compile.specs.Stretches.{continued, Arrives, with_slots, Fits, Holds}
use Rattle.ash_compile.specs.Emission.{Scene, IsScene, Good, DoesExpression, calls_of}
use Rattle.ash_compile.specs.Places.{located, reading, writing, slot_of_old, slot_of_new, LiesIn, Bears}
use Rattle.ash_compile.specs.Places.{DoesPlace}
use Rattle.ash_compile.proofs.Simulation.{continued_then, then_is, step_is, puts, refits}
use Rattle.ash_compile.proofs.Phrases.{grouped}
use Rattle.ash_compile.proofs.Emission.{HasAt}
use Rattle.ash_compile.proofs.Typed.{evaluates, stays_good, alive_of, no_handle_in_integer, left_done}
use Rattle.ash_compile.proofs.Conversions.{converted_same, integer_in}
use Rattle.ash_compile.proofs.PlaceGuards.{Well}
use Rattle.ash_compile.proofs.PlaceSteps.{slots_after}
use Rattle.ash_compile.proofs.PlaceCode.{refits_below, after_long, after_kept, stored_is, local_below, reads_on}
use Rattle.ash_compile.proofs.PlaceCode.{writes_on}
use Rattle.ash_compile.proofs.Moves.{Moved, moved_itself, moved_set, located_moved, bears_moved, reads_go, reads_value}
use Rattle.ash_compile.proofs.Moves.{calculating, counting, update_again, count_again}

calculated_here : (r : Result Word DivisionFault) (b d : Activity) (v : Word) → give_or_raise r b ≡ Done v d → b ≡ d
calculated_here (Ok word) b d v is = cc
calculated_here (Err faults.ByZero) b d v is = absurd (cc)
calculated_here (Err faults.Overflow) b d v is = absurd (cc)

-- where the code converts the value of a slot, or goes on
pub data ConvertsAt (s : Scene) (from to : IntType) (slot at next : ℕ) : Type 0 where
  needless : from ≡ to → next ≡ at → ConvertsAt s from to slot at next
  converts : HasAt s at (i.Convert to slot slot) → next ≡ at + 1 → ConvertsAt s from to slot at next

-- The right operand of a calculation is of its type, or counts a shift.
abbrev pub IsRight : Calculation → Word → Type 0
IsRight calculation right = IsShift calculation.operator ⊎ IsInteger calculation.of right

pub right_operand : {p : Program} {all : LiveObjects (List ℕ)} (calculation : Calculation) (given : ValueType) (right : Word)
    → IsShift calculation.operator ⊎ (given ≡ value (vars.Integer calculation.of)) → IsGiven p all given right
    → IsRight calculation right
right_operand calculation given right (inl shift) given_so = inl shift
right_operand {p} {all} calculation given right (inr same) given_so =
    inr (integer_in right (subst (λ (t : ValueType). IsGiven p all t right) same given_so))

pub integer_alive : (s : Scene) (int_type : IntType) (v : Word) (b : Activity) → IsInteger int_type v → is_alive v b ≡ true
integer_alive s int_type v b is =
    alive_of v None b (no_handle_in_integer int_type (s.context).program (b.world).objects v (is_integer is))
    (λ n there. absurd (cc))

-- what `++` and `--` leave in their slots

old_slot : (step : IncrementOp) (slot : ℕ) → (slot ≤ slot_of_old step slot (slot + 1)) ×
    (slot_of_old step slot (slot + 1) < slot + 2)
old_slot steps.Increment slot = (omega arith, omega arith)
old_slot steps.Decrement slot = (omega arith, omega arith)
old_slot steps.IncrementAfter slot = (omega arith, omega arith)
old_slot steps.DecrementAfter slot = (omega arith, omega arith)

new_slot : (step : IncrementOp) (slot : ℕ) → (slot ≤ slot_of_new step slot (slot + 1)) ×
    (slot_of_new step slot (slot + 1) < slot + 2)
new_slot steps.Increment slot = (omega arith, omega arith)
new_slot steps.Decrement slot = (omega arith, omega arith)
new_slot steps.IncrementAfter slot = (omega arith, omega arith)
new_slot steps.DecrementAfter slot = (omega arith, omega arith)

given_there : (step : IncrementOp) (slot : ℕ) (ws : List Word) (old new : Word) → slot + 1 < length ws
    → slice_index_or (slice_set (slice_set ws (slot_of_old step slot (slot + 1)) old)
    (slot_of_new step slot (slot + 1)) new) slot words.Null
    ≡ given_by step old new
given_there steps.Increment slot ws old new within =
    get_or-set_same (slice_set ws (slot + 1) old) slot new words.Null (let same = length-set ws (slot + 1) old in omega
    (arith, within, same))
given_there steps.Decrement slot ws old new within =
    get_or-set_same (slice_set ws (slot + 1) old) slot new words.Null (let same = length-set ws (slot + 1) old in omega
    (arith, within, same))
given_there steps.IncrementAfter slot ws old new within =
    get_or-set_other (slice_set ws slot old) (slot + 1) slot new words.Null (omega arith)
    ∙ get_or-set_same ws slot old words.Null (omega (arith, within))
given_there steps.DecrementAfter slot ws old new within =
    get_or-set_other (slice_set ws slot old) (slot + 1) slot new words.Null (omega arith)
    ∙ get_or-set_same ws slot old words.Null (omega (arith, within))

module _ (s : Scene) where
  abbrev At : ℕ → Window → Activity → Option Outcome → Type 0
  At place w b o = Arrives s.setting (control s.function place w) b o

  -- an instruction that leaves a value alone
  value_on : (j : Instruction) (w : Window) (b : Activity) (at to : ℕ) (v : Word) (o : Option Outcome) → HasAt s at j
      → w.count ≤ to → perform s.setting j (control s.function at w) b ≡ put to (control s.function at w) v b
      → At (at + 1) (with_slots (slice_set w.slots to v) w) b o → At at w b o
  value_on j w b at to v o has low does later =
      puts s.setting (Good s) s.function s.room w at to b (Done v b) (λ x d. o)
      (step_is s.setting (Good s) s.function s.room w b at j has ∙ does) low
      (λ x d is.
      let same : v ≡ x = cc in
      let here : b ≡ d = cc in
      subst (λ (y : Activity). At (at + 1) (with_slots (slice_set w.slots to x) w) y o) here
      (subst (λ (y : Word). At (at + 1) (with_slots (slice_set w.slots to y) w) b o) same later))

  -- a conversion, or none
  convert_on : (from to : IntType) (w : Window) (b : Activity) (at next slot : ℕ) (v : Word) (o : Option Outcome)
      → ConvertsAt s from to slot at next → w.count ≤ slot → slice_index_or w.slots slot words.Null ≡ v
      → IsInteger from v
      → At next (with_slots (slice_set w.slots slot (converted_to to v)) w) b o → At at w b o
  convert_on from to w b at next slot v o (needless same here) low is integer later =
      subst (λ (n : ℕ). At n w b o) here
      (subst (λ (ws : List Word). At next (with_slots ws w) b o)
      (ap (λ (x : Word). slice_set w.slots slot x)
      (ap (λ (t : IntType). converted_to t v) (sym same) ∙ converted_same from v integer ∙ sym is)
      ∙ set-get_or w.slots slot words.Null) later)
  convert_on from to w b at next slot v o (converts has here) low is integer later =
      value_on (i.Convert to slot slot) w b at slot (converted_to to v) o has low
      (ap (λ (x : Word). put slot (control s.function at w) (converted_to to x) b) is)
      (subst (λ (n : ℕ). At n (with_slots (slice_set w.slots slot (converted_to to v)) w) b o) here later)

  calculate_on : (w : Window) (b : Activity) (calculation : Calculation) (left right to at : ℕ) (l r : Word)
      (rest : Word → Activity → Option Outcome) → HasAt s at (i.Calculate calculation left right to) → w.count ≤ to
      → slice_index_or w.slots left words.Null ≡ l → slice_index_or w.slots right words.Null ≡ r
      → ((v : Word) → calculate calculation l r b ≡ Done v b → At (at + 1) (with_slots (slice_set w.slots to v) w) b
      (rest v b))
      → At at w b (continued (calculate calculation l r b) rest)
  calculate_on w b calculation left right to at l r rest has low is_l is_r goes =
      puts s.setting (Good s) s.function s.room w at to b (calculate calculation l r b) rest
      (step_is s.setting (Good s) s.function s.room w b at (i.Calculate calculation left right to) has
      ∙ ap (λ (x : Word). guarded_onward (Some (calculate calculation x (slice_index_or w.slots right words.Null) b))
      (put to (control s.function at w))) is_l
      ∙ ap (λ (x : Word). guarded_onward (Some (calculate calculation l x b)) (put to (control s.function at w))) is_r)
      low
      (λ v d ran.
      let here = calculated_here (calculated_by calculation.operator calculation.of l r) b d v ran in
      subst (λ (y : Activity). At (at + 1) (with_slots (slice_set w.slots to v) w) y (rest v y)) here
      (goes v (subst (λ (y : Activity). calculate calculation l r b ≡ Done v y) (sym here) ran)))

  -- what slots say of what follows

  fits_moved : (w : Window) (slot : ℕ) (xs : List Word) (d e : Activity) → Fits w d → Moved w.count slot w.slots xs
      → (e.frame).locals ≡ (d.frame).locals → Fits (with_slots xs w) e
  fits_moved w slot xs d e fits moved same = record {
    locals = same ∙ fits.locals ∙ sym moved.locals;
    within = omega (arith, fits.within, moved.long);
  }

  holds_moved : (w : Window) (slot : ℕ) (spot : Spot) (word given : Word) (xs : List Word) (f : Activity)
      → w.count ≤ slot
      → Moved w.count slot w.slots xs → ((n : ℕ) → spot ≡ spots.Local n → n < w.count)
      → slice_index_or xs slot words.Null ≡ given
      → (f.frame).locals ≡ take w.count (slots_after spot word xs) → Holds w slot given (slots_after spot word xs) f
  holds_moved w slot spot word given xs f low moved lower is locals = record {
    long = after_long spot word xs ∙ moved.long;
    kept = λ k low_k under. after_kept spot word xs w.count k lower low_k ∙ moved.low k under;
    value = after_kept spot word xs w.count slot lower low ∙ is;
    locals = locals;
  }

  -- after what was read for `op=`
  update_after : (w : Window) (d e : Activity) (spot : Spot) (int_type : IntType) (calculation : Calculation)
      (left right : Word)
      (at a1 a2 slot : ℕ) (rest : Word → Activity → Option Outcome)
      → IsScene s → Well s d → Fits w d → Bears s d w.slots spot (vars.Integer int_type) → LiesIn (slot + 2) s.room spot
      → s.room ≤ length w.slots → w.count ≤ slot → slot + 1 < s.room → slice_index_or w.slots slot words.Null ≡ right
      → IsInteger int_type left → IsRight calculation right
      → Goes s.context s.env s.envs d e → (e.frame).locals ≡ (d.frame).locals
      → ConvertsAt s int_type calculation.of (slot + 1) at a1
      → HasAt s a1 (i.Calculate calculation (slot + 1) slot slot)
      → ConvertsAt s calculation.of int_type slot (a1 + 1) a2
      → HasAt s a2 (writing spot slot)
      → ((word : Word) (f : Activity) (slots : List Word)
      → calculating spot w.slots int_type calculation right left e ≡ Done word f
      → Holds w slot word slots f → At (a2 + 1) (with_slots slots w) f (rest word f))
      → At at (with_slots (slice_set w.slots (slot + 1) left) w) e
      (continued (calculating spot w.slots int_type calculation right left e) rest)
  update_after w d e spot int_type calculation left right at a1 a2 slot rest scene well fits bears lies long low within
      is left_is right_is went same
      first second third fourth goes =
      let converted = converted_to calculation.of left in
      let ws1 = slice_set w.slots (slot + 1) left in
      let ws2 = slice_set ws1 (slot + 1) converted in
      let m1 = moved_set w.count slot (slot + 1) left w.slots w.slots low (omega arith) (omega arith)
      (moved_itself w.count slot w.slots) in
      let m2 = moved_set w.count slot (slot + 1) converted w.slots ws1 low (omega arith) (omega arith) m1 in
      convert_on int_type calculation.of (with_slots ws1 w) e at a1 (slot + 1) left _ first (omega (arith, low))
      (get_or-set_same w.slots (slot + 1) left words.Null (omega (arith, long, within))) left_is
      (subst (λ (o : Option Outcome). At a1 (with_slots ws2 w) e o)
      (sym (continued_then (calculate calculation converted right e)
      (λ word. located spot w.slots >>= store (converted_to int_type word)) rest))
      (calculate_on (with_slots ws2 w) e calculation (slot + 1) slot slot a1 converted right
      (λ word f. continued (onward (located spot w.slots f) (store (converted_to int_type word))) rest) second low
      (get_or-set_same ws1 (slot + 1) converted words.Null (omega (arith, long, within, m1.long)))
      (get_or-set_other ws1 (slot + 1) slot converted words.Null (omega arith)
      ∙ get_or-set_other w.slots (slot + 1) slot left words.Null (omega arith) ∙ is)
      (λ word made.
      let given = converted_to int_type word in
      let ws3 = slice_set ws2 slot word in
      let ws4 = slice_set ws3 slot given in
      let m3 = moved_set w.count slot slot word w.slots ws2 low (omega arith) (omega arith) m2 in
      let m4 = moved_set w.count slot slot given w.slots ws3 low (omega arith) (omega arith) m3 in
      let place = located_moved spot w.count slot s.room w.slots ws4 e lies m4 in
      let still = fits_moved w slot ws4 d e fits m4 same in
      let there = bears_moved s spot (vars.Integer int_type) w.count slot s.room w.slots ws4 d e lies m4 well went
      bears in
      convert_on calculation.of int_type (with_slots ws3 w) e (a1 + 1) a2 slot word _ third low
      (get_or-set_same ws2 slot word words.Null (omega (arith, long, within, m2.long)))
      (left_done word e
      (calculate_gives e (safe (well_after went)) calculation converted right (integer_word calculation.of _) right_is)
      made).1
      (subst (λ (p : Progress Location). At a2 (with_slots ws4 w) e
      (continued (onward p (store given)) rest)) place
      (subst (λ (o : Option Outcome). At a2 (with_slots ws4 w) e o)
      (stored_is (located spot ws4 e) given rest ∙ sym (continued_then (located spot ws4 e) (store given) rest))
      (writes_on s (with_slots ws4 w) e spot (vars.Integer int_type) a2 slot given (λ _ f. rest given f)
      scene
      (well_after went) still there fourth (get_or-set_same ws3 slot given words.Null
      (omega (arith, long, within, m3.long)))
      (integer_alive s int_type given e (integer_word int_type _))
      (λ v f wrote locals.
      goes given f (slots_after spot given ws4)
      (then_is (calculate calculation converted right e) word e
      (λ x. located spot w.slots >>= store (converted_to int_type x)) _ made
      (ap (λ (p : Progress Location). onward p (store given)) (sym place)
      ∙ sym (grouped (located spot ws4 e) (λ l. write l given) (λ _. give given))
      ∙ ap (λ (p : Progress (Unit {0})). onward p (λ _. give given)) wrote))
      (holds_moved w slot spot given given ws4 f low m4
      (λ n at_local. local_below s (with_slots ws4 w) e spot (vars.Integer int_type) n (well_after went) still there
      at_local)
      (get_or-set_same ws3 slot given words.Null (omega (arith, long, within, m3.long))) locals))))))))

  update_on : (w : Window) (d : Activity) (spot : Spot) (int_type : IntType) (calculation : Calculation) (right : Word)
      (at a1 a2 slot : ℕ) (rest : Word → Activity → Option Outcome)
      → IsScene s → Well s d → Fits w d → Bears s d w.slots spot (vars.Integer int_type) → LiesIn (slot + 2) s.room spot
      → s.room ≤ length w.slots → w.count ≤ slot → slot + 1 < s.room → slice_index_or w.slots slot words.Null ≡ right
      → IsRight calculation right
      → HasAt s at (reading spot (slot + 1))
      → ConvertsAt s int_type calculation.of (slot + 1) (at + 1) a1
      → HasAt s a1 (i.Calculate calculation (slot + 1) slot slot)
      → ConvertsAt s calculation.of int_type slot (a1 + 1) a2
      → HasAt s a2 (writing spot slot)
      → ((word : Word) (f : Activity) (slots : List Word)
      → onward (located spot w.slots d) (update int_type calculation right) ≡ Done word f
      → Holds w slot word slots f → At (a2 + 1) (with_slots slots w) f (rest word f))
      → At at w d (continued (onward (located spot w.slots d) (update int_type calculation right)) rest)
  update_on w d spot int_type calculation right at a1 a2 slot rest scene well fits bears lies long low within is right_is
      read_first first second third fourth goes =
      let again = update_again spot w.slots int_type s d scene well bears calculation right in
      subst (λ (p : Progress Word). At at w d (continued p rest)) (sym again)
      (subst (λ (o : Option Outcome). At at w d o)
      (sym (continued_then (onward (located spot w.slots d) (λ l. read l >>= give_held))
      (calculating spot w.slots int_type calculation right) rest))
      (reads_on s w d spot (vars.Integer int_type) at (slot + 1)
      (λ left e. continued (calculating spot w.slots int_type calculation right left e) rest) scene well fits bears
      (λ n at_local. no_handle_in_integer int_type) read_first (omega (arith, low))
      (λ left e ran same.
      update_after w d e spot int_type calculation left right (at + 1) a1 a2 slot rest scene well fits bears lies long low
      within is (integer_in left (reads_value s spot (vars.Integer int_type) w.slots d e left scene well bears ran))
      right_is
      (reads_go s spot (vars.Integer int_type) w.slots d e left scene well bears ran) same first second third fourth
      (λ word f slots made held.
      goes word f slots
      (again ∙ then_is (onward (located spot w.slots d) (λ l. read l >>= give_held)) left e
      (calculating spot w.slots int_type calculation right) _ ran made) held))))

  -- The right side comes before the place, which is read, then written.
  pub does_update : (place : Place) (int_type : IntType) (calculation : Calculation) (e : Expr) (given : ValueType)
      (spot : Spot)
      (from mid at a1 a2 slot : ℕ) → IsScene s → IsWellTyped s.env e given
      → IsShift calculation.operator ⊎ (given ≡ value (vars.Integer calculation.of))
      → DoesExpression s e from mid slot
      → DoesPlace s place (vars.Integer int_type) spot mid at (slot + 2) → slot + 1 < s.room
      → HasAt s at (reading spot (slot + 1))
      → ConvertsAt s int_type calculation.of (slot + 1) (at + 1) a1
      → HasAt s a1 (i.Calculate calculation (slot + 1) slot slot)
      → ConvertsAt s calculation.of int_type slot (a1 + 1) a2
      → HasAt s a2 (writing spot slot)
      → DoesExpression s (Update place int_type calculation e) from (a2 + 1) slot
  does_update place int_type calculation e given spot from mid at a1 a2 slot scene typed given_is operand second within
      read_first first convert_next third fourth = record {
        within = operand.within;
        comes = λ w a rest low long fits good goes.
            subst (λ (o : Option Outcome). At from w a o)
            (sym (continued_then (expression (calls_of s) e a)
            (λ right. location (calls_of s) place >>= update int_type calculation right) rest))
            (operand.comes w a
            (λ right b. continued (onward (location (calls_of s) place b) (update int_type calculation right)) rest)
            low long fits good
            (λ right b slots ran held.
            let still = stays_good s e given a b right scene typed good ran in
            subst (λ (o : Option Outcome). At mid (with_slots slots w) b o)
            (sym (continued_then (location (calls_of s) place b) (update int_type calculation right) rest))
            (second.comes (with_slots slots w) b (λ l d. continued (update int_type calculation right l d) rest)
            (omega (arith, low))
            (omega (arith, long, held.long)) (refits w slot right slots a b fits held) still
            (λ d more was also went bears.
            subst (λ (o : Option Outcome). At at (with_slots more w) d o)
            (continued_then (located spot more d) (update int_type calculation right) rest)
            (update_on (with_slots more w) d spot int_type calculation right at a1 a2 slot rest scene (well_after went)
            (refits_below (with_slots slots w) (slot + 2) more b d (refits w slot right slots a b fits held) also)
            bears second.lies
            (omega (arith, long, held.long, also.long)) low within (also.kept slot low (omega arith) ∙ held.value)
            (right_operand calculation given right given_is
            ((evaluates s e given a b right scene typed good ran).carried).value)
            read_first first convert_next third fourth
            (λ word f xs made kept.
            goes word f xs
            (then_is (expression (calls_of s) e a) right b
            (λ x. location (calls_of s) place >>= update int_type calculation x) _ ran
            (ap (λ (p : Progress Location). onward p (update int_type calculation right)) was ∙ made))
            (record {
              long = kept.long ∙ also.long ∙ held.long;
              kept = λ k low_k under. kept.kept k low_k under ∙ also.kept k low_k (omega (arith, under))
                  ∙ held.kept k low_k under;
              value = kept.value;
              locals = kept.locals;
            })))))));
      }

  -- after what was read for `++` or `--`
  count_after : (w : Window) (d e : Activity) (spot : Spot) (int_type : IntType) (step : IncrementOp) (old : Word)
      (at slot : ℕ) (rest : Word → Activity → Option Outcome)
      → IsScene s → Well s d → Fits w d → Bears s d w.slots spot (vars.Integer int_type) → LiesIn (slot + 2) s.room spot
      → s.room ≤ length w.slots → w.count ≤ slot → slot + 1 < s.room
      → Goes s.context s.env s.envs d e → (e.frame).locals ≡ (d.frame).locals
      → HasAt s at (i.Count step int_type (slot_of_old step slot (slot + 1)) (slot_of_new step slot (slot + 1)))
      → HasAt s (at + 1) (writing spot (slot_of_new step slot (slot + 1)))
      → ((word : Word) (f : Activity) (slots : List Word) → counting spot w.slots int_type step old e ≡ Done word f
      → Holds w slot word slots f → At (at + 1 + 1) (with_slots slots w) f (rest word f))
      → At at (with_slots (slice_set w.slots (slot_of_old step slot (slot + 1)) old) w) e
      (continued (counting spot w.slots int_type step old e) rest)
  count_after w d e spot int_type step old at slot rest scene well fits bears lies long low within went same first
      second goes =
      let new = counted step int_type old in
      let given = given_by step old new in
      let from = slot_of_old step slot (slot + 1) in
      let to = slot_of_new step slot (slot + 1) in
      let from_is = old_slot step slot in
      let to_is = new_slot step slot in
      let ws1 = slice_set w.slots from old in
      let ws2 = slice_set ws1 to new in
      let m1 = moved_set w.count slot from old w.slots w.slots low from_is.0 from_is.1
      (moved_itself w.count slot w.slots) in
      let m2 = moved_set w.count slot to new w.slots ws1 low to_is.0 to_is.1 m1 in
      let place = located_moved spot w.count slot s.room w.slots ws2 e lies m2 in
      let still = fits_moved w slot ws2 d e fits m2 same in
      let there = bears_moved s spot (vars.Integer int_type) w.count slot s.room w.slots ws2 d e lies m2 well went
      bears in
      value_on (i.Count step int_type from to) (with_slots ws1 w) e at to new _ first (omega (arith, low, to_is.0))
      (ap (λ (x : Word). put to (control s.function at (with_slots ws1 w)) (counted step int_type x) e)
      (get_or-set_same w.slots from old words.Null (omega (arith, long, within, from_is.1))))
      (subst (λ (p : Progress Location). At (at + 1) (with_slots ws2 w) e
      (continued (onward (onward p (λ l. write l new)) (λ _. give given)) rest)) place
      (subst (λ (o : Option Outcome). At (at + 1) (with_slots ws2 w) e o)
      (sym (continued_then (onward (located spot ws2 e) (λ l. write l new)) (λ _. give given) rest))
      (writes_on s (with_slots ws2 w) e spot (vars.Integer int_type) (at + 1) to new (λ _ f. rest given f) scene
      (well_after went) still there second (get_or-set_same ws1 to new words.Null
      (omega (arith, long, within, to_is.1, m1.long)))
      (integer_alive s int_type new e (counted_integer step int_type old))
      (λ v f wrote locals.
      goes given f (slots_after spot new ws2)
      (ap (λ (p : Progress Location). onward (onward p (λ l. write l new)) (λ _. give given)) (sym place)
      ∙ ap (λ (p : Progress (Unit {0})). onward p (λ _. give given)) wrote)
      (holds_moved w slot spot new given ws2 f low m2
      (λ n at_local. local_below s (with_slots ws2 w) e spot (vars.Integer int_type) n (well_after went) still there
      at_local)
      (given_there step slot w.slots old new (omega (arith, long, within))) locals)))))

  count_on : (w : Window) (d : Activity) (spot : Spot) (int_type : IntType) (step : IncrementOp)
      (at slot : ℕ) (rest : Word → Activity → Option Outcome)
      → IsScene s → Well s d → Fits w d → Bears s d w.slots spot (vars.Integer int_type) → LiesIn (slot + 2) s.room spot
      → s.room ≤ length w.slots → w.count ≤ slot → slot + 1 < s.room
      → HasAt s at (reading spot (slot_of_old step slot (slot + 1)))
      → HasAt s (at + 1) (i.Count step int_type (slot_of_old step slot (slot + 1)) (slot_of_new step slot (slot + 1)))
      → HasAt s (at + 1 + 1) (writing spot (slot_of_new step slot (slot + 1)))
      → ((word : Word) (f : Activity) (slots : List Word) → onward (located spot w.slots d) (count_at int_type step)
      ≡ Done word f
      → Holds w slot word slots f → At (at + 1 + 1 + 1) (with_slots slots w) f (rest word f))
      → At at w d (continued (onward (located spot w.slots d) (count_at int_type step)) rest)
  count_on w d spot int_type step at slot rest scene well fits bears lies long low within read_first first second goes =
      let again = count_again spot w.slots int_type s d scene well bears step in
      subst (λ (p : Progress Word). At at w d (continued p rest)) (sym again)
      (subst (λ (o : Option Outcome). At at w d o)
      (sym (continued_then (onward (located spot w.slots d) (λ l. read l >>= give_held))
      (counting spot w.slots int_type step) rest))
      (reads_on s w d spot (vars.Integer int_type) at (slot_of_old step slot (slot + 1))
      (λ old e. continued (counting spot w.slots int_type step old e) rest) scene well fits bears
      (λ n at_local. no_handle_in_integer int_type) read_first (let from_is = old_slot step slot in omega
      (arith, low, from_is.0))
      (λ old e ran same.
      count_after w d e spot int_type step old (at + 1) slot rest scene well fits bears lies long low within
      (reads_go s spot (vars.Integer int_type) w.slots d e old scene well bears ran) same first second
      (λ word f slots made held.
      goes word f slots
      (again ∙ then_is (onward (located spot w.slots d) (λ l. read l >>= give_held)) old e
      (counting spot w.slots int_type step) _
      ran made) held))))

  pub does_count : (place : Place) (int_type : IntType) (step : IncrementOp) (spot : Spot) (from at slot : ℕ)
      → IsScene s
      → DoesPlace s place (vars.Integer int_type) spot from at (slot + 2) → slot + 1 < s.room
      → HasAt s at (reading spot (slot_of_old step slot (slot + 1)))
      → HasAt s (at + 1) (i.Count step int_type (slot_of_old step slot (slot + 1)) (slot_of_new step slot (slot + 1)))
      → HasAt s (at + 1 + 1) (writing spot (slot_of_new step slot (slot + 1)))
      → DoesExpression s (Count place int_type step) from (at + 1 + 1 + 1) slot
  does_count place int_type step spot from at slot scene does within read_first first second = record {
    within = omega (arith, within);
    comes = λ w a rest low long fits good goes.
        subst (λ (o : Option Outcome). At from w a o)
        (sym (continued_then (location (calls_of s) place a) (count_at int_type step) rest))
        (does.comes w a (λ l d. continued (count_at int_type step l d) rest) (omega (arith, low)) long fits good
        (λ d more was also went bears.
        subst (λ (o : Option Outcome). At at (with_slots more w) d o)
        (continued_then (located spot more d) (count_at int_type step) rest)
        (count_on (with_slots more w) d spot int_type step at slot rest scene (well_after went)
        (refits_below w (slot + 2) more a d fits also) bears does.lies (omega (arith, long, also.long)) low within
        read_first first second
        (λ word f xs made kept.
        goes word f xs (ap (λ (p : Progress Location). onward p (count_at int_type step)) was ∙ made)
        (record {
          long = kept.long ∙ also.long;
          kept = λ k low_k under. kept.kept k low_k under ∙ also.kept k low_k (omega (arith, under));
          value = kept.value;
          locals = kept.locals;
        })))));
  }
