-- Code of statements while it is written: jumps that wait, and code that grows.
use Rattle.std.proofs.Common.{◌≡◌, ◌≤◌, ◌<◌, ℕ, List, [], ◌∷◌, ◌++◌, refl, sym, ap, ◌∙◌, arith}
use Rattle.std.proofs.Common.{true, false, Bool, nat_lt}
use Rattle.std.specs.Prelude.{Option, Some, ◌||◌, nat_eq, slice_get, if◌then◌else◌}
use Rattle.std.proofs.lemmas.Bool.Decides.{nat_tests}
use Rattle.ash_code.specs.declared.instruction.Instruction.{Instruction}
use Rattle.ash_code.specs.declared.instruction.Instruction.TheVariants as i
use Rattle.ash_compile.specs.declared.builder.Written.{Written}
use Rattle.ash_compile.specs.Performances.{Exits}
use Rattle.ash_compile.specs.Emission.{code_of, end_of, Keeps, Leads, Scene, Stands}
use Rattle.ash_compile.specs.EmittedStatements.{waits, AreBelow, AreApart, Draft, with_jumps, end_in, Joins, Grows, shown, StandsWith}
use Rattle.ash_compile.proofs.Emission.{keeps_on}
use Rattle.ash_compile.proofs.EmittedBranches.{leads_other}

-- jumps that wait

differs : (p k : ℕ) → (p ≡ k → ⊥) → nat_eq p k ≡ false
differs p k apart = grind (arith, nat_tests)

pub is_itself : (p : ℕ) → nat_eq p p ≡ true
is_itself p = grind (arith, nat_tests)

pub or_true : (t : Bool) → (t || true) ≡ true
or_true true = refl
or_true false = refl

pub pushed_other : (ps : List ℕ) (p k : ℕ) → (p ≡ k → ⊥) → waits (ps ++ p ∷ []) k ≡ waits ps k
pushed_other [] p k apart = ap (λ (t : Bool). t || false) (differs p k apart)
pushed_other (q ∷ ps) p k apart = ap (λ (t : Bool). nat_eq q k || t) (pushed_other ps p k apart)

pub pushed_there : (ps : List ℕ) (p : ℕ) → waits (ps ++ p ∷ []) p ≡ true
pushed_there [] p = ap (λ (t : Bool). t || false) (is_itself p)
pushed_there (q ∷ ps) p = ap (λ (t : Bool). nat_eq q p || t) (pushed_there ps p) ∙ or_true (nat_eq q p)

pub joins_none : (ps : List ℕ) (from to : ℕ) → from ≤ to → Joins ps ps from to
joins_none ps from to later = record { same = λ k low. refl; below = λ below k low. below k (omega (arith, low, later)) }

pub joins_one : (ps : List ℕ) (p from to : ℕ) → from ≤ p → p < to → Joins ps (ps ++ p ∷ []) from to
joins_one ps p from to low high = record {
  same = λ k before. pushed_other ps p k (λ is. omega (arith, is, before, low));
  below = λ below k after. pushed_other ps p k (λ is. omega (arith, is, after, high)) ∙ below k (omega (arith, after, low, high));
}

pub joins_on : (a b c : List ℕ) (from mid to : ℕ) → from ≤ mid → Joins a b from mid → Joins b c mid to → Joins a c from to
joins_on a b c from mid to later first second = record {
  same = λ k low. second.same k (omega (arith, low, later)) ∙ first.same k low;
  below = λ below. second.below (first.below below);
}

pub joins_wider : (a b : List ℕ) (from later to end : ℕ) → from ≤ later → to ≤ end → Joins a b later to → Joins a b from end
joins_wider a b from later to end low high joins = record {
  same = λ k before. joins.same k (omega (arith, before, low));
  below = λ below k after. joins.below (λ n more. below n (omega (arith, more, low))) k (omega (arith, after, high));
}

pub not_both : (t : Bool) → t ≡ true → t ≡ false → ⊥
not_both true is isnt = cc
not_both false is isnt = cc

-- a place is before another one, or not
pub on_either_side : {X : Type 0} (k from : ℕ) → (k < from → X) → (from ≤ k → X) → X
on_either_side {X} k from before after = pick (nat_lt k from) refl
  where
    pick : (t : Bool) → nat_lt k from ≡ t → X
    pick true is = before (grind (arith, nat_tests))
    pick false is = after (grind (arith, nat_tests))

-- Jumps that wait before a place, and jumps that joined them from there on.
pub apart_breaks : (breaks more continues : List ℕ) (from to : ℕ) → Joins breaks more from to → AreBelow from continues
    → AreApart breaks continues → AreApart more continues
apart_breaks breaks more continues from to joins below apart k waiting =
    on_either_side k from (λ low. apart k (sym (joins.same k low) ∙ waiting)) (λ high. below k high)

pub apart_continues : (breaks continues more : List ℕ) (from to : ℕ) → Joins continues more from to → AreBelow from breaks
    → AreApart breaks continues → AreApart breaks more
apart_continues breaks continues more from to joins below apart k waiting =
    on_either_side k from (λ low. joins.same k low ∙ apart k waiting)
    (λ high. absurd (not_both (waits breaks k) waiting (below k high)))

-- code that grows

pub grows_code : (old new : Written) (breaks continues : List ℕ) → Keeps old new
    → Grows (with_jumps old breaks continues) (with_jumps new breaks continues)
grows_code old new breaks continues keeps = record {
  code = keeps;
  breaks = joins_none breaks (end_of old) (end_of new) keeps.longer;
  continues = joins_none continues (end_of old) (end_of new) keeps.longer;
  apart = λ below_breaks below_continues apart. apart;
}

pub grows_on : (old mid new : Draft) → Grows old mid → Grows mid new → Grows old new
grows_on old mid new first second = record {
  code = keeps_on old.code mid.code new.code first.code second.code;
  breaks = joins_on old.breaks mid.breaks new.breaks (end_in old) (end_in mid) (end_in new) (first.code).longer first.breaks
      second.breaks;
  continues = joins_on old.continues mid.continues new.continues (end_in old) (end_in mid) (end_in new) (first.code).longer
      first.continues second.continues;
  apart = λ breaks continues apart.
      second.apart ((first.breaks).below breaks) ((first.continues).below continues) (first.apart breaks continues apart);
}

-- what code has at a place

pub shown_same : (exits : Exits) (old new : Draft) (k : ℕ) → waits new.breaks k ≡ waits old.breaks k
    → waits new.continues k ≡ waits old.continues k → slice_get (code_of new.code) k ≡ slice_get (code_of old.code) k
    → shown exits new k ≡ shown exits old k
shown_same exits old new k breaks continues code =
    ap (λ (t : Bool). if t then Some (i.Jump (exits.broken).at)
    else (if waits new.continues k then Some (i.Jump (exits.continued).at) else slice_get (code_of new.code) k)) breaks
    ∙ ap (λ (t : Bool). if waits old.breaks k then Some (i.Jump (exits.broken).at)
    else (if t then Some (i.Jump (exits.continued).at) else slice_get (code_of new.code) k)) continues
    ∙ ap (λ (o : Option Instruction). if waits old.breaks k then Some (i.Jump (exits.broken).at)
    else (if waits old.continues k then Some (i.Jump (exits.continued).at) else o)) code

pub shown_code : (exits : Exits) (d : Draft) (k : ℕ) → waits d.breaks k ≡ false → waits d.continues k ≡ false
    → shown exits d k ≡ slice_get (code_of d.code) k
shown_code exits d k breaks continues =
    ap (λ (t : Bool). if t then Some (i.Jump (exits.broken).at)
    else (if waits d.continues k then Some (i.Jump (exits.continued).at) else slice_get (code_of d.code) k)) breaks
    ∙ ap (λ (t : Bool). if t then Some (i.Jump (exits.continued).at) else slice_get (code_of d.code) k) continues

pub shown_break : (exits : Exits) (d : Draft) (k : ℕ) → waits d.breaks k ≡ true
    → shown exits d k ≡ Some (i.Jump (exits.broken).at)
shown_break exits d k breaks =
    ap (λ (t : Bool). if t then Some (i.Jump (exits.broken).at)
    else (if waits d.continues k then Some (i.Jump (exits.continued).at) else slice_get (code_of d.code) k)) breaks

pub shown_continue : (exits : Exits) (d : Draft) (k : ℕ) → waits d.breaks k ≡ false → waits d.continues k ≡ true
    → shown exits d k ≡ Some (i.Jump (exits.continued).at)
shown_continue exits d k breaks continues =
    ap (λ (t : Bool). if t then Some (i.Jump (exits.broken).at)
    else (if waits d.continues k then Some (i.Jump (exits.continued).at) else slice_get (code_of d.code) k)) breaks
    ∙ ap (λ (t : Bool). if t then Some (i.Jump (exits.continued).at) else slice_get (code_of d.code) k) continues

pub shown_kept : (exits : Exits) (old new : Draft) (k : ℕ) → Grows old new → k < end_in old
    → shown exits new k ≡ shown exits old k
shown_kept exits old new k grows low =
    shown_same exits old new k ((grows.breaks).same k low) ((grows.continues).same k low) ((grows.code).same k low)

-- where code stands

pub with_before : (s : Scene) (exits : Exits) (mid new : Draft) (from : ℕ) → Grows mid new
    → StandsWith s exits new from (end_in new) → StandsWith s exits mid from (end_in mid)
with_before s exits mid new from grows stands = λ k low high.
    stands k low (omega (arith, high, (grows.code).longer)) ∙ shown_kept exits mid new k grows high

pub with_after : (s : Scene) (exits : Exits) (d : Draft) (from mid to : ℕ) → from ≤ mid → StandsWith s exits d from to
    → StandsWith s exits d mid to
with_after s exits d from mid to later stands = λ k low high. stands k (omega (arith, later, low)) high

-- Code of no jumps that wait.
pub plainly : (s : Scene) (exits : Exits) (d : Draft) (from to : ℕ) → AreBelow from d.breaks → AreBelow from d.continues
    → StandsWith s exits d from to → Stands s (code_of d.code) from to
plainly s exits d from to breaks continues stands = λ k low high.
    stands k low high ∙ shown_code exits d k (breaks k low) (continues k low)

-- Code that is put behind a draft stands there, whatever is written behind it.
pub plainly_put : (s : Scene) (exits : Exits) (old mid : Written) (new : Draft) (breaks continues : List ℕ)
    → Keeps old mid → Grows (with_jumps mid breaks continues) new
    → AreBelow (end_of old) breaks → AreBelow (end_of old) continues
    → StandsWith s exits new (end_of old) (end_in new)
    → Stands s (code_of mid) (end_of old) (end_of mid)
plainly_put s exits old mid new breaks continues keeps grows no_breaks no_continues stands =
    plainly s exits (with_jumps mid breaks continues) (end_of old) (end_of mid) no_breaks no_continues
    (with_before s exits (with_jumps mid breaks continues) new (end_of old) grows stands)

-- jumps that are written again

pub led_before : (exits : Exits) (old new : Written) (breaks continues : List ℕ) (at k : ℕ) (j : Instruction)
    → Leads old new at j → (k ≡ at → ⊥)
    → shown exits (with_jumps new breaks continues) k ≡ shown exits (with_jumps old breaks continues) k
led_before exits old new breaks continues at k j leads apart =
    shown_same exits (with_jumps old breaks continues) (with_jumps new breaks continues) k refl refl
    (leads_other old new at k j leads apart)
