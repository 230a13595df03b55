-- The next record is taken exactly where it is of the call.
use Rattle.std.proofs.Common.{◌≡◌, ℕ, Bool, true, false, cond, List, [], ◌∷◌, refl, sym, subst, ap, nat_eq}
use Rattle.std.specs.Prelude.{Option, None, Some, ◌&&◌}
use Rattle.std.specs.Bool.{Decides}
use Rattle.std.specs.Cmp.Lexicographic.{pointwise}
use Rattle.std.proofs.lemmas.Bool.Decides.{Decides-eqb, Decides-int_eq}
use Rattle.std.proofs.lemmas.Slice.Eq.{slice_eq-Decides}
use Rattle.ash_host.specs.declared.word.Word.{Word}
use Rattle.ash_host.specs.declared.word.Word.TheVariants as words
use Rattle.ash_host.specs.declared.event.Target.{Target}
use Rattle.ash_host.specs.declared.event.Target.TheVariants as targets
use Rattle.ash_host.specs.Calls.{HostCall, Start, Invoke, Get, Set}
use Rattle.ash_host.specs.Records.{HostRecord, TakesRecord, is_same_word, is_same_call, is_same_target, is_of, next_record}
use Rattle.ash_host.proofs.Membership.{and_both, both_and}

word_says : (a b : Word) → is_same_word a b ≡ true → a ≡ b
word_says (words.Bool true) (words.Bool true) h = refl
word_says (words.Bool false) (words.Bool false) h = refl
word_says (words.Int a) (words.Int b) h = ap words.Int ((Decides-int_eq a b).0 h)
word_says (words.Uint a) (words.Uint b) h = ap words.Uint ((Decides-eqb a b).0 h)
word_says (words.Int64 a) (words.Int64 b) h = ap words.Int64 ((Decides-int_eq a b).0 h)
word_says (words.Uint64 a) (words.Uint64 b) h = ap words.Uint64 ((Decides-eqb a b).0 h)
word_says words.Null words.Null h = refl
word_says (words.Object a) (words.Object b) h = ap words.Object ((Decides-eqb a b).0 h)
word_says _ _ h = cc

word_same : (a : Word) → is_same_word a a ≡ true
word_same (words.Bool true) = refl
word_same (words.Bool false) = refl
word_same (words.Int a) = (Decides-int_eq a a).1 refl
word_same (words.Uint a) = (Decides-eqb a a).1 refl
word_same (words.Int64 a) = (Decides-int_eq a a).1 refl
word_same (words.Uint64 a) = (Decides-eqb a a).1 refl
word_same words.Null = refl
word_same (words.Object a) = (Decides-eqb a a).1 refl

-- two words are one exactly where the test says so
pub word_decides : (a b : Word) → Decides (is_same_word a b) (a ≡ b)
word_decides a b = (word_says a b, λ e. subst (λ (w : Word). is_same_word a w ≡ true) e (word_same a))

pub words_decide : (a b : List Word) → Decides (pointwise is_same_word a b) (a ≡ b)
words_decide a b = slice_eq-Decides word_decides a b (pointwise is_same_word a b) refl

pub bytes_decide : (a b : List ℕ) → Decides (pointwise nat_eq a b) (a ≡ b)
bytes_decide a b = slice_eq-Decides Decides-eqb a b (pointwise nat_eq a b) refl

call_says : (a b : HostCall) → is_same_call a b ≡ true → a ≡ b
call_says (Start a) (Start b) h = ap Start ((words_decide a b).0 h)
call_says (Invoke m a) (Invoke n b) h = let two = and_both (nat_eq m n) (pointwise is_same_word a b) h in let p = (Decides-eqb m n).0 two.0 in let q = (words_decide a b).0 two.1 in cc
call_says (Get p) (Get q) h = ap Get ((Decides-eqb p q).0 h)
call_says (Set m a) (Set n b) h = let two = and_both (nat_eq m n) (is_same_word a b) h in let p = (Decides-eqb m n).0 two.0 in let q = word_says a b two.1 in cc
call_says _ _ h = cc

call_same : (a : HostCall) → is_same_call a a ≡ true
call_same (Start a) = (words_decide a a).1 refl
call_same (Invoke m a) = both_and (nat_eq m m) (pointwise is_same_word a a) ((Decides-eqb m m).1 refl) ((words_decide a a).1 refl)
call_same (Get p) = (Decides-eqb p p).1 refl
call_same (Set m a) = both_and (nat_eq m m) (is_same_word a a) ((Decides-eqb m m).1 refl) (word_same a)

-- two calls are one exactly where the test says so
pub call_decides : (a b : HostCall) → Decides (is_same_call a b) (a ≡ b)
call_decides a b = (call_says a b, λ e. subst (λ (c : HostCall). is_same_call a c ≡ true) e (call_same a))

target_says : (a b : Target) → is_same_target a b ≡ true → a ≡ b
target_says (targets.Object a) (targets.Object b) h = ap targets.Object ((Decides-eqb a b).0 h)
target_says (targets.Service a) (targets.Service b) h = ap targets.Service ((Decides-eqb a b).0 h)
target_says _ _ h = cc

target_same : (a : Target) → is_same_target a a ≡ true
target_same (targets.Object a) = (Decides-eqb a a).1 refl
target_same (targets.Service a) = (Decides-eqb a a).1 refl

-- two targets are one exactly where the test says so
pub target_decides : (a b : Target) → Decides (is_same_target a b) (a ≡ b)
target_decides a b = (target_says a b, λ e. subst (λ (t : Target). is_same_target a t ≡ true) e (target_same a))

some_same : {A : Type 0} (a b : A) → Some a ≡ Some b → a ≡ b
some_same a b h = cc

-- what is taken is the next record, of this call
pub next_record_says : (target : Target) (call : HostCall) (before : List ℕ) (records : List HostRecord) (next : HostRecord) (left : List HostRecord) → next_record target call before records ≡ Some (next, left) → TakesRecord target call before records next left
next_record_says target call before [] next left h = cc
next_record_says target call before (first ∷ rest) next left h =
    go (is_of target call before first) refl h
  where
    go : (b : Bool) → is_of target call before first ≡ b → cond {A = Option (HostRecord × List HostRecord)} b (Some (first, rest)) None ≡ Some (next, left) → TakesRecord target call before (first ∷ rest) next left
    go true is same =
        let parts = and_both (is_same_target first.target target && is_same_call first.call call) (pointwise nat_eq first.before before) is in
        let two = and_both (is_same_target first.target target) (is_same_call first.call call) parts.0 in
        let t = target_says first.target target two.0 in
        let c = call_says first.call call two.1 in
        let b = (bytes_decide first.before before).0 parts.1 in
        let pair = some_same {A = HostRecord × List HostRecord} (first, rest) (next, left) same in
        let one : first ≡ next = ap (λ (p : HostRecord × List HostRecord). p.0) pair in
        let others : rest ≡ left = ap (λ (p : HostRecord × List HostRecord). p.1) pair in
        record {
          first = cc;
          same_target = cc;
          same_call = cc;
          same_state = cc;
        }
    go false is same = cc

-- and where the next record is of this call it is taken
pub next_record_takes : (target : Target) (call : HostCall) (before : List ℕ) (records : List HostRecord) (next : HostRecord) (left : List HostRecord) → TakesRecord target call before records next left → next_record target call before records ≡ Some (next, left)
next_record_takes target call before records next left t =
    subst (λ (r : List HostRecord). next_record target call before r ≡ Some (next, left)) (sym t.first) (ap (λ (b : Bool). cond {A = Option (HostRecord × List HostRecord)} b (Some (next, left)) None) passes)
  where
    passes : is_of target call before next ≡ true
    passes =
        both_and (is_same_target next.target target && is_same_call next.call call) (pointwise nat_eq next.before before)
        (both_and (is_same_target next.target target) (is_same_call next.call call) ((target_decides next.target target).1 t.same_target) ((call_decides next.call call).1 t.same_call))
        ((bytes_decide next.before before).1 t.same_state)
