-- How what is taken of answers is put together.
use Rattle.std.proofs.Common.{◌≡◌, ◌++◌, ◌∙◌, List, [], refl, sym, subst, ap, append_assoc, append-nil}
use Rattle.ash_host.specs.Records.{HostRecord}
use Rattle.ash_answer_laws.specs.TakenAnswers.{Takes}

pub takes_these : {C : List HostRecord → List HostRecord → Type 0} {answers left : List HostRecord} (taken : List HostRecord) → answers ≡ taken ++ left → ((rest : List HostRecord) → C (taken ++ rest) rest) → Takes C answers left
takes_these {C} taken all same = record {
  taken = taken;
  all = all;
  same = same;
  alone = subst (λ (l : List HostRecord). C l []) (append-nil taken) (same []);
}

pub takes_none : {C : List HostRecord → List HostRecord → Type 0} {answers : List HostRecord} → ((x : List HostRecord) → C x x) → Takes C answers answers
takes_none h = takes_these [] refl h

pub takes_both : {C D E : List HostRecord → List HostRecord → Type 0} {answers between left : List HostRecord} → Takes C answers between → Takes D between left → ((x y z : List HostRecord) → C x y → D y z → E x z) → Takes E answers left
takes_both {E = E} {left = left} s t join =
    takes_these (s.taken ++ t.taken) (s.all ∙ ap (λ (l : List HostRecord). s.taken ++ l) t.all ∙ sym (append_assoc s.taken t.taken left))
    (λ rest. subst (λ (l : List HostRecord). E l rest) (sym (append_assoc s.taken t.taken rest)) (join (s.taken ++ (t.taken ++ rest)) (t.taken ++ rest) rest (s.same (t.taken ++ rest)) (t.same rest)))

pub taken_so : {C E : List HostRecord → List HostRecord → Type 0} {answers left : List HostRecord} → Takes C answers left → ((x y : List HostRecord) → C x y → E x y) → Takes E answers left
taken_so t h = record {
  taken = t.taken;
  all = t.all;
  same = λ rest. h (t.taken ++ rest) rest (t.same rest);
  alone = h t.taken [] t.alone;
}

pub all_taken : {C : List HostRecord → List HostRecord → Type 0} {answers left : List HostRecord} → Takes C answers left → left ≡ [] → (rest : List HostRecord) → C (answers ++ rest) rest
all_taken {C} t none rest = subst (λ (l : List HostRecord). C (l ++ rest) rest) (sym (t.all ∙ ap (λ (l : List HostRecord). t.taken ++ l) none ∙ append-nil t.taken)) (t.same rest)
