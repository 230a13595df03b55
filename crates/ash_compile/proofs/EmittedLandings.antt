-- Jumps that wait are written again.
use Rattle.std.proofs.Common.{◌≡◌, ◌<◌, ℕ, zero, suc, ◌+◌, List, [], ◌∷◌, ◌++◌, length, get_or, take, refl, sym, ap, ◌∙◌, subst, arith}
use Rattle.std.proofs.Common.{true, false, Bool}
use Rattle.std.proofs.Math.Seq.{take-suc}
use Rattle.std.specs.Prelude.{Option, Some, ◌||◌, nat_eq, slice_get, if◌then◌else◌}
use Rattle.std.proofs.lemmas.Bool.Decides.{nat_tests}
use Rattle.ash_typed.specs.StatementTree.{Stmts}
use Rattle.ash_meaning.specs.StatementMeaning.{statements}
use Rattle.ash_code.specs.declared.instruction.Instruction.{Instruction}
use Rattle.ash_code.specs.declared.instruction.Instruction.TheVariants as i
use Rattle.ash_compile.specs.declared.builder.Written.{Written}
use Rattle.ash_compile.specs.declared.layout.Layout.{Layout}
use Rattle.ash_compile.specs.Layout.{IsLayout}
use Rattle.ash_compile.specs.Performances.{Exit, Exits}
use Rattle.ash_compile.specs.Emission.{code_of, end_of, Puts, Leads, calls_of}
use Rattle.ash_compile.specs.EmittedStatements.{waits, AreBelow, LeadsAll, Landing, with_jumps, DoesFlow}
use Rattle.ash_compile.specs.EmittedStatements.{EmitsStatements, EmitsBody}
use Rattle.ash_compile.proofs.Emission.{put_one, put_there, put_keeps}
use Rattle.ash_compile.proofs.EmittedBranches.{leads_end, leads_there, leads_other}
use Rattle.ash_compile.proofs.Drafts.{pushed_other, pushed_there, on_either_side, not_both, is_itself, or_true}

-- places that wait

waits_there : (ps : List ℕ) (k d : ℕ) → k < length ps → waits ps (get_or ps k d) ≡ true
waits_there [] k d low = absurd (omega (arith, low))
waits_there (p ∷ ps) zero d low = ap (λ (t : Bool). t || waits ps p) (is_itself p)
waits_there (p ∷ ps) (suc k) d low =
    ap (λ (t : Bool). nat_eq p (get_or ps k d) || t) (waits_there ps k d (omega (arith, low)))
    ∙ or_true (nat_eq p (get_or ps k d))

pub below_there : (end : ℕ) (ps : List ℕ) (k d : ℕ) → AreBelow end ps → k < length ps → get_or ps k d < end
below_there end ps k d below low =
    on_either_side (get_or ps k d) end (λ before. before)
    (λ after. absurd (not_both (waits ps (get_or ps k d)) (waits_there ps k d low) (below (get_or ps k d) after)))

same_or_not : {X : Type 0} (p k : ℕ) → (p ≡ k → X) → ((p ≡ k → ⊥) → X) → X
same_or_not {X} p k equal other = pick (nat_eq p k) refl
  where
    pick : (t : Bool) → nat_eq p k ≡ t → X
    pick true is = equal (grind (arith, nat_tests))
    pick false is = other (λ same. not_both (nat_eq p k) (subst (λ (n : ℕ). nat_eq p n ≡ true) same (is_itself p)) is)

-- jumps, one after another

pub leads_none : (c : Written) (to : ℕ) → LeadsAll c c [] to
leads_none c to = record { code = λ k. refl; long = refl; slots = refl; layout = refl }

pub leads_more : (old mid new : Written) (ps : List ℕ) (p to : ℕ) → LeadsAll old mid ps to → Leads mid new p (i.Jump to)
    → p < end_of mid → LeadsAll old new (ps ++ p ∷ []) to
leads_more old mid new ps p to first leads low = record {
  code = λ k. same_or_not p k (λ same. there k same) (λ apart.
      leads_other mid new p k (i.Jump to) leads (λ same. apart (sym same)) ∙ first.code k
      ∙ sym (ap (λ (t : Bool). if t then Some (i.Jump to) else slice_get (code_of old) k) (pushed_other ps p k apart)));
  long = leads_end mid new p (i.Jump to) leads ∙ first.long;
  slots = leads.slots ∙ first.slots;
  layout = leads.layout ∙ first.layout;
}
  where
    there : (k : ℕ) → p ≡ k
        → slice_get (code_of new) k ≡ (if waits (ps ++ p ∷ []) k then Some (i.Jump to) else slice_get (code_of old) k)
    there k same =
        subst (λ (n : ℕ). slice_get (code_of new) n
        ≡ (if waits (ps ++ p ∷ []) n then Some (i.Jump to) else slice_get (code_of old) n)) same
        (leads_there mid new p (i.Jump to) leads low
        ∙ sym (ap (λ (t : Bool). if t then Some (i.Jump to) else slice_get (code_of old) p) (pushed_there ps p)))

pub take_next : (ps : List ℕ) (k d : ℕ) → k < length ps → take k ps ++ get_or ps k d ∷ [] ≡ take (k + 1) ps
take_next ps k d low =
    let same : suc k ≡ k + 1 = omega arith in
    sym (take-suc ps k d low) ∙ ap (λ (n : ℕ). take n ps) same

-- landings

pub landing_is : (c0 c1 c2 c3 c4 : Written) (places : List ℕ) (slot jump release end : ℕ) {pending : ℕ}
    → Puts c0 c1 slot (i.Jump pending)
    → Puts c1 c2 slot i.Release → LeadsAll c2 c3 places release → Leads c3 c4 jump (i.Jump end)
    → jump ≡ end_of c0 → release ≡ end_of c1 → end ≡ end_of c3 → AreBelow (end_of c0) places
    → Landing c0 c4 places
landing_is c0 c1 c2 c3 c4 places slot jump release end {pending} puts frees all leads jump_is release_is end_is
    below = record {
      code = λ k low. leads_other c3 c4 jump k (i.Jump end) leads (λ same. omega (arith, same, jump_is, low)) ∙ all.code k
          ∙ ap (λ (n : ℕ). if waits places k then Some (i.Jump n) else slice_get (code_of c2) k) (release_is ∙ one)
          ∙ ap (λ (o : Option Instruction). if waits places k then Some (i.Jump (end_of c0 + 1)) else o)
          ((put_keeps c1 c2 slot i.Release frees).same k (omega (arith, low, one))
          ∙ (put_keeps c0 c1 slot (i.Jump pending) puts).same k low);
      past = subst (λ (n : ℕ). slice_get (code_of c4) n ≡ Some (i.Jump end)) jump_is
          (leads_there c3 c4 jump (i.Jump end) leads (omega (arith, jump_is, all.long, two)))
          ∙ ap (λ (n : ℕ). Some (i.Jump n)) (end_is ∙ sym last);
      release = leads_other c3 c4 jump (end_of c0 + 1) (i.Jump end) leads (λ same. omega (arith, same, jump_is))
          ∙ all.code (end_of c0 + 1)
          ∙ ap (λ (t : Bool). if t then Some (i.Jump release) else slice_get (code_of c2) (end_of c0 + 1))
          (below (end_of c0 + 1) (omega arith))
          ∙ subst (λ (n : ℕ). slice_get (code_of c2) n ≡ Some i.Release) one (put_there c1 c2 slot i.Release frees);
      long = last ∙ all.long ∙ two;
      slots = omega (
        arith,
        leads.slots,
        all.slots,
        (put_keeps c1 c2 slot i.Release frees).slots,
        (put_keeps c0 c1 slot (i.Jump pending) puts).slots,
      );
      layout = leads.layout ∙ all.layout ∙ frees.layout ∙ puts.layout;
    }
  where
    one : end_of c1 ≡ end_of c0 + 1
    one = put_one c0 c1 slot (i.Jump pending) puts

    two : end_of c2 ≡ end_of c0 + 1 + 1
    two = put_one c1 c2 slot i.Release frees ∙ ap (λ (n : ℕ). n + 1) one

    last : end_of c4 ≡ end_of c3
    last = leads_end c3 c4 jump (i.Jump end) leads

-- bodies of functions: no jump leads out

swapped : {A : Type 0} (t u : Bool) (x y : A) → (if t then x else (if u then x else y)) ≡ (if u then x else (if t then x else y))
swapped true true x y = refl
swapped true false x y = refl
swapped false true x y = refl
swapped false false x y = refl

pub body : (c0 c1 c2 c3 : Written) (breaks continues : List ℕ) (xs : Stmts) (locals to : ℕ) (constructs : Bool)
    → EmitsStatements (with_jumps c0 [] []) (with_jumps c1 breaks continues) xs
    (record { locals = locals; broken = locals; continued = locals; constructs = constructs })
    → LeadsAll c1 c2 breaks to → LeadsAll c2 c3 continues to
    → EmitsBody c0 c3 xs locals constructs
body c0 c1 c2 c3 breaks continues xs locals to constructs emits first second = record {
  keeps = record {
    longer = omega (arith, ((emits.grows).code).longer, end);
    same = λ k low. second.code k
        ∙ ap (λ (t : Bool). if t then Some (i.Jump to) else slice_get (code_of c2) k) (((emits.grows).continues).same k low)
        ∙ first.code k
        ∙ ap (λ (t : Bool). if t then Some (i.Jump to) else slice_get (code_of c1) k) (((emits.grows).breaks).same k low)
        ∙ ((emits.grows).code).same k low;
    slots = omega (arith, ((emits.grows).code).slots, first.slots, second.slots);
    layout = second.layout ∙ first.layout ∙ ((emits.grows).code).layout;
  };
  does = λ s result gives scene returns is sound stands suits.
      let exit : Exit = record { at = to; outer = locals } in
      let exits : Exits = record { broken = exit; continued = exit; gives = gives } in
      let does = emits.does s exits result false false scene
      (record {
        locals = is;
        broken = refl;
        continued = refl;
        keeps_broken = omega arith;
        keeps_continued = omega arith;
        returns = returns;
      })
      sound (λ k low. refl) (λ k low. refl) (λ k waiting. refl)
      (λ k low high. stands k low (omega (arith, high, end)) ∙ second.code k
      ∙ ap (λ (o : Option Instruction). if waits continues k then Some (i.Jump to) else o) (first.code k)
      ∙ swapped (waits continues k) (waits breaks k) (Some (i.Jump to)) (slice_get (code_of c1) k))
      (record {
        slots = omega (arith, suits.slots, second.slots, first.slots);
        layout = subst (λ (l : Layout). IsLayout ((s.setting).code).module ((s.context).program).tree l)
            (second.layout ∙ first.layout) suits.layout;
      }) in (
        exits,
        does.0,
        refl,
        subst (λ (n : ℕ). DoesFlow s exits (statements (calls_of s) s.depth xs) (end_of c0) n does.0) (sym end) does.2,
      );
}
  where
    end : end_of c3 ≡ end_of c1
    end = second.long ∙ first.long
