use Rattle.std.proofs.Common.{◌≡◌, ℕ, ◌<◌, ◌≤◌, Bool, true, false, cond, List, [], ◌∷◌, ◌++◌, Option, None, Some, length, refl, sym, subst, ap, ◌∙◌, nat_eq, arith, rules}
use Rattle.std.specs.Prelude.{All, IfSome, IsSome}
use Rattle.std.proofs.lemmas.Bool.{eqb-true}
use Rattle.std.proofs.lemmas.List.Elements.{All-nil, All-cons}
use Rattle.ash_host.specs.declared.word.Word.{Word}
use Rattle.ash_host.specs.Objects.{object_at, Lives, IsInOrder, AreNumbered, handle}
use Rattle.ash_slots.specs.declared.body.Body.{Body}
use Rattle.ash_slots.specs.Bodies.{words_of}
use Rattle.ash_objects.specs.declared.restoring.SavedObject.{SavedObject}
use Rattle.ash_objects.specs.declared.restoring.SavedHostObject.{SavedHostObject}
use Rattle.ash_objects.specs.Restoring.{stored_in}
use Rattle.ash_objects_tests.proofs.states.stored_objects.Goals as goal

abbrev Entries : Type 0
Entries = List (ℕ × Body SavedHostObject)

-- each entry is so
abbrev EachIs : (ℕ → Body SavedHostObject → Type 0) → Entries → Type 0
EachIs P [] = Unit {0}
EachIs P (e ∷ l) = P e.0 e.1 × EachIs P l

-- what each entry is, is what lives at a number
at_each : (P : ℕ → Body SavedHostObject → Type 0) (l : Entries) → EachIs P l → (n : ℕ) → IfSome (object_at n l) (P n)
at_each P [] each n = tt
at_each P (e ∷ l) each n = go (nat_eq n e.0) refl (at_each P l each.1 n)
  where
    go : (b : Bool) → nat_eq n e.0 ≡ b → IfSome (object_at n l) (P n) → IfSome (cond b (Some e.1) (object_at n l)) (P n)
    go true is later = subst (λ (k : ℕ). P k e.1) (sym (eqb-true n e.0 is)) each.0
    go false is later = later

-- one object more
pushed : (l m : List SavedObject) (o : SavedObject) (es : Entries) (n : ℕ) → stored_in l ≡ es → m ≡ l ++ o ∷ [] → o.number ≡ n → stored_in m ≡ es ++ (n, o.body) ∷ []
pushed l m o es n before is number =
    ap stored_in is ∙ go l ∙ ap (λ (k : Entries). k ++ (o.number, o.body) ∷ []) before ∙ ap (λ (k : ℕ). es ++ (k, o.body) ∷ []) number
  where
    go : (k : List SavedObject) → stored_in (k ++ o ∷ []) ≡ stored_in k ++ (o.number, o.body) ∷ []
    go [] = refl
    go (x ∷ k) = ap (λ (t : Entries). (x.number, x.body) ∷ t) (go k)

module _ (one two three four five : Body SavedHostObject) where
  abbrev entries : Entries
  entries = (1, one) ∷ (2, two) ∷ (3, three) ∷ (4, four) ∷ (5, five) ∷ []

  -- what each of the five is, is what lives at a number
  at_five : (P : ℕ → Body SavedHostObject → Type 0) → P 1 one → P 2 two → P 3 three → P 4 four → P 5 five → (n : ℕ) → IfSome (object_at n entries) (P n)
  at_five P a b c d e = at_each P entries (a, (b, (c, (d, (e, tt)))))

  numbered : AreNumbered 9 entries
  numbered = record {
    in_order = search rules;
    given = λ n lives. go (object_at n entries) n (at_five (λ k body. (0 < k) × (k ≤ 9)) (omega arith, omega arith) (omega arith, omega arith) (omega arith, omega arith) (omega arith, omega arith) (omega arith, omega arith) n) lives;
  }
    where
      go : (v : Option (Body SavedHostObject)) (n : ℕ) → IfSome v (λ body. (0 < n) × (n ≤ 9)) → IsSome v → (0 < n) × (n ≤ 9)
      go None n h some = absurd (cc)
      go (Some body) n h some = h

  module _ (of_one : words_of one ≡ Word.Object 3 ∷ []) (of_two : words_of two ≡ Word.Object 5 ∷ []) (of_three : words_of three ≡ []) (of_four : words_of four ≡ Word.Object 3 ∷ []) (of_five : words_of five ≡ []) where
    short : (n : ℕ) → IfSome (object_at n entries) (λ body. length (words_of body) ≤ 4096)
    short =
        at_five (λ n body. length (words_of body) ≤ 4096) (rw of_one (omega arith)) (rw of_two (omega arith)) (rw of_three (omega arith)) (rw of_four (omega arith)) (rw of_five (omega arith))

    AreAlive : List Word → Type 0
    AreAlive words = All (λ word. IfSome (handle word) (Lives entries)) words

    alive : (n : ℕ) → IfSome (object_at n entries) (λ body. All (λ word. IfSome (handle word) (Lives entries)) (words_of body))
    unfolding AreAlive
    alive =
        let third : AreAlive (Word.Object 3 ∷ []) = All-cons (λ word. IfSome (handle word) (Lives entries)) (Word.Object 3) [] refl (All-nil (λ word. IfSome (handle word) (Lives entries))) in
        let fifth : AreAlive (Word.Object 5 ∷ []) = All-cons (λ word. IfSome (handle word) (Lives entries)) (Word.Object 5) [] refl (All-nil (λ word. IfSome (handle word) (Lives entries))) in
        let none : AreAlive [] = All-nil (λ word. IfSome (handle word) (Lives entries)) in
        at_five (λ n body. AreAlive (words_of body)) (subst AreAlive (sym of_one) third) (subst AreAlive (sym of_two) fifth) (subst AreAlive (sym of_three) none) (subst AreAlive (sym of_four) third) (subst AreAlive (sym of_five) none)

stored : (c : goal.In_ok-push-5) → stored_in c.push-5.new.self.items ≡ entries (c.in_ok-script.field-0).body (c.in_ok-script-2.field-0).body (c.in_ok-host.field-0).body (c.in_ok-script-3.field-0).body (c.in_ok-host-2.field-0).body
stored c =
    let first = pushed _ _ c.in_ok-script.field-0 [] 1 (ap stored_in c.new-objects.ensures.items) c.in_ok-push.ensures.items c.in_ok-script.ensures.number in
    let second = pushed _ _ c.in_ok-script-2.field-0 _ 2 first c.in_ok-push-2.ensures.items c.in_ok-script-2.ensures.number in
    let third = pushed _ _ c.in_ok-host.field-0 _ 3 second c.in_ok-push-3.ensures.items c.in_ok-host.ensures.number in
    let fourth = pushed _ _ c.in_ok-script-3.field-0 _ 4 third c.in_ok-push-4.ensures.items c.in_ok-script-3.ensures.number in
    pushed _ _ c.in_ok-host-2.field-0 _ 5 fourth c.in_ok-push-5.ensures.items c.in_ok-host-2.ensures.number

pub returns-clause-numbered : goal.returns-clause-numbered
returns-clause-numbered c = subst (AreNumbered 9) (sym (stored c)) (numbered _ _ _ _ _)

pub returns-clause-short : goal.returns-clause-short
returns-clause-short c =
    subst (λ (es : Entries). (n : ℕ) → IfSome (object_at n es) (λ body. length (words_of body) ≤ 4096)) (sym (stored c)) (short _ _ _ _ _ c.in_ok-script.ensures.words c.in_ok-script-2.ensures.words c.in_ok-host.ensures.words c.in_ok-script-3.ensures.words c.in_ok-host-2.ensures.words)

pub returns-clause-alive : goal.returns-clause-alive
returns-clause-alive c =
    subst (λ (es : Entries). (n : ℕ) → IfSome (object_at n es) (λ body. All (λ word. IfSome (handle word) (Lives es)) (words_of body))) (sym (stored c)) (alive _ _ _ _ _ c.in_ok-script.ensures.words c.in_ok-script-2.ensures.words c.in_ok-host.ensures.words c.in_ok-script-3.ensures.words c.in_ok-host-2.ensures.words)
