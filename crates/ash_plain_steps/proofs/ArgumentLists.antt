-- Arguments by the types of parameters, one after another.
use Rattle.std.proofs.Common.{◌≡◌, ◌<◌, ◌≤◌, ◌+◌, ℕ, zero, suc, true, false, List, [], ◌∷◌, ◌++◌, length, drop, get_or, Option, Some, None, option_map, Result, Ok, Err, OnErr, refl, sym, ◌∙◌, ap, arith, append_assoc, nat_le}
use Rattle.std.specs.Prelude.{slice_get, is_some}
use Rattle.std.proofs.lemmas.Bool.Decides.{nat_tests}
use Rattle.ash_host.specs.declared.word.Word.{Word}
use Rattle.ash_typed.specs.declared.types.VarType.{VarType}
use Rattle.ash_requests.specs.declared.argument.Arg.{Arg}
use Rattle.ash_plain_steps.proofs.Drops.{got_some, got_none, at_place, past}
use Rattle.ash_requests.specs.Tasks.{option_cons, argument_of, arguments_of}

joined : (words : List Word) (w : Word) (o : Option (List Word)) → option_map (λ more. words ++ more) (option_cons (Some w) o) ≡ option_map (λ more. (words ++ w ∷ []) ++ more) o
joined words w (Some more) = ap (λ (l : List Word). Some l) (sym (append_assoc words (w ∷ []) more))
joined words w None = refl

-- one more argument
pub one_more : (words : List Word) (ps : List VarType) (given : List Arg) (i : ℕ) (of : VarType) (a : Arg) (w : Word) → slice_get ps i ≡ Some of → i < length given → a ≡ get_or given i a → argument_of of a ≡ Some w → option_map (λ more. (words ++ w ∷ []) ++ more) (arguments_of (drop (i + 1) ps) (drop (i + 1) given)) ≡ option_map (λ more. words ++ more) (arguments_of (drop i ps) (drop i given))
one_more words ps given i of a w p within e is =
    sym (joined words w (arguments_of (drop (i + 1) ps) (drop (i + 1) given)))
    ∙ ap (λ (o : Option Word). option_map (λ more. words ++ more) (option_cons o (arguments_of (drop (i + 1) ps) (drop (i + 1) given)))) (sym is)
    ∙ (λ j. option_map (λ more. words ++ more) (arguments_of (sym (got_some ps i of p) j) (sym (at_place given i a within e) j)))

none_left : (given : List Arg) (i : ℕ) → i < length given → arguments_of [] (drop i given) ≡ None
none_left [] i within = absurd (omega arith)
none_left (g ∷ gs) zero within = refl
none_left (g ∷ gs) (suc i) within = none_left gs i (omega arith)

-- no parameter is left
pub no_parameter : (words : List Word) (ps : List VarType) (given : List Arg) (i : ℕ) → slice_get ps i ≡ None → i < length given → option_map (λ more. words ++ more) (arguments_of (drop i ps) (drop i given)) ≡ None
no_parameter words ps given i p within =
    ap (λ (l : List VarType). option_map (λ more. words ++ more) (arguments_of l (drop i given))) (got_none ps i p)
    ∙ ap (λ (o : Option (List Word)). option_map (λ more. words ++ more) o) (none_left given i within)

-- an argument is of no such type
pub no_word : (words : List Word) (ps : List VarType) (given : List Arg) (i : ℕ) (of : VarType) (a : Arg) → slice_get ps i ≡ Some of → i < length given → a ≡ get_or given i a → argument_of of a ≡ None → option_map (λ more. words ++ more) (arguments_of (drop i ps) (drop i given)) ≡ None
no_word words ps given i of a p within e is =
    (λ j. option_map (λ more. words ++ more) (arguments_of (got_some ps i of p j) (at_place given i a within e j)))
    ∙ ap (λ (o : Option Word). option_map (λ more. words ++ more) (option_cons o (arguments_of (drop (i + 1) ps) (drop (i + 1) given)))) is

-- no argument is left
left_over : (words : List Word) (ps : List VarType) (i : ℕ) → i < length ps → option_map (λ more. words ++ more) (arguments_of (drop i ps) []) ≡ None
left_over words [] i within = absurd (omega arith)
left_over words (p ∷ ps) zero within = refl
left_over words (p ∷ ps) (suc i) within = left_over words ps i (omega arith)

pub too_few : (words : List Word) (ps : List VarType) (given : List Arg) (i : ℕ) → length given ≤ i → i < length ps → option_map (λ more. words ++ more) (arguments_of (drop i ps) (drop i given)) ≡ None
too_few words ps given i over within =
    (λ j. option_map (λ more. words ++ more) (arguments_of (drop i ps) (past given i over j))) ∙ left_over words ps i within

-- each argument has its parameter
pub as_many : (words : List Word) (ps : List VarType) (given : List Arg) (i : ℕ) → length given ≤ i → length ps ≤ i → option_map (λ more. words ++ more) (arguments_of (drop i ps) (drop i given)) ≡ Some (words ++ [])
as_many words ps given i over all =
    λ j. option_map (λ more. words ++ more) (arguments_of (past ps i all j) (past given i over j))

-- whether arguments are held

cons_held : {A : Type 0} (x : Option A) (xs : Option (List A)) → is_some x ≡ true → is_some xs ≡ is_some (option_cons x xs)
cons_held (Some x) (Some xs) e = refl
cons_held (Some x) None e = refl
cons_held None xs e = absurd (cc)

cons_not_held : {A : Type 0} (x : Option A) (xs : Option (List A)) → is_some x ≡ false → false ≡ is_some (option_cons x xs)
cons_not_held (Some x) xs e = absurd (cc)
cons_not_held None xs e = refl

-- what is left begins with a parameter and its argument
left_is : (ps : List VarType) (given : List Arg) (i : ℕ) (of : VarType) (a : Arg) → slice_get ps i ≡ Some of → i < length given → a ≡ get_or given i a → option_cons (argument_of of a) (arguments_of (drop (i + 1) ps) (drop (i + 1) given)) ≡ arguments_of (drop i ps) (drop i given)
left_is ps given i of a p within e = λ j. arguments_of (sym (got_some ps i of p) j) (sym (at_place given i a within e) j)

-- one more argument is held
pub one_held : (ps : List VarType) (given : List Arg) (i : ℕ) (of : VarType) (a : Arg) → slice_get ps i ≡ Some of → i < length given → a ≡ get_or given i a → is_some (argument_of of a) ≡ true → is_some (arguments_of (drop (i + 1) ps) (drop (i + 1) given)) ≡ is_some (arguments_of (drop i ps) (drop i given))
one_held ps given i of a p within e is =
    cons_held (argument_of of a) (arguments_of (drop (i + 1) ps) (drop (i + 1) given)) is
    ∙ ap (λ (o : Option (List Word)). is_some o) (left_is ps given i of a p within e)

-- an argument is not held
pub not_held : (ps : List VarType) (given : List Arg) (i : ℕ) (of : VarType) (a : Arg) → slice_get ps i ≡ Some of → i < length given → a ≡ get_or given i a → is_some (argument_of of a) ≡ false → false ≡ is_some (arguments_of (drop i ps) (drop i given))
not_held ps given i of a p within e is =
    cons_not_held (argument_of of a) (arguments_of (drop (i + 1) ps) (drop (i + 1) given)) is
    ∙ ap (λ (o : Option (List Word)). is_some o) (left_is ps given i of a p within e)

-- no parameter is left for an argument
pub none_there : (ps : List VarType) (given : List Arg) (i : ℕ) → slice_get ps i ≡ None → i < length given → is_some (arguments_of (drop i ps) (drop i given)) ≡ false
none_there ps given i p within =
    ap (λ (l : List VarType). is_some (arguments_of l (drop i given))) (got_none ps i p)
    ∙ ap (λ (o : Option (List Word)). is_some o) (none_left given i within)

none_below : (n : ℕ) → nat_le zero n ≡ true
none_below n = grind (arith, nat_tests)

too_many : (n : ℕ) → nat_le (suc n) zero ≡ false
too_many n = grind (arith, nat_tests)

same_below : (m n : ℕ) → nat_le (suc m) (suc n) ≡ nat_le m n
same_below m n = grind (arith, nat_tests)

-- no argument is left
pub as_many_held : (ps : List VarType) (given : List Arg) (i : ℕ) → length given ≡ i → nat_le (length ps) (length given) ≡ is_some (arguments_of (drop i ps) (drop i given))
as_many_held ps given i all =
    ap (λ (n : ℕ). nat_le (length ps) n) all
    ∙ left_held ps i
    ∙ ap (λ (l : List Arg). is_some (arguments_of (drop i ps) l)) (sym (past given i (omega (arith, all))))
  where
    left_held : (ps : List VarType) (i : ℕ) → nat_le (length ps) i ≡ is_some (arguments_of (drop i ps) [])
    left_held [] zero = none_below zero
    left_held [] (suc i) = none_below (suc i)
    left_held (p ∷ ps) zero = too_many (length ps)
    left_held (p ∷ ps) (suc i) = same_below (length ps) i ∙ left_held ps i

-- arguments that are not held have no words
pub none_held : (ps : List VarType) (given : List Arg) → is_some (arguments_of ps given) ≡ false → None ≡ arguments_of ps given
none_held ps given = by (arguments_of ps given)
  where
    by : (o : Option (List Word)) → is_some o ≡ false → None ≡ o
    by (Some words) e = absurd (cc)
    by None e = refl

-- what holds whether or not there is an error
pub on_err : {T E P : Type 0} (r : Result T E) → P → OnErr r P
on_err (Ok x) p = tt
on_err (Err e) p = p
