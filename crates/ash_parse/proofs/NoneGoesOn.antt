-- No module, and no declaration, goes on where reading stops.
use Rattle.std.proofs.Common.{false, ◌≡◌, ℕ, suc, ◌+◌, ◌≤◌, List, [], ◌∷◌, ◌++◌, length, Ok, Err, refl, sym, ap, subst, ◌∙◌, length-append, arith}
use Rattle.std.proofs.lemmas.List.{append-nil}
use Rattle.ash_lex.specs.Tokens.{Meaning}
use Rattle.ash_tree.specs.declared.tree.places.Position.{Position}
use Rattle.ash_tree.specs.Tree.{Item, Declaration}
use Rattle.ash_tree.specs.GrammarTokens.{Tokens}
use Rattle.ash_tree.specs.Grammar.{Derives, Declares}
use Rattle.ash_parse.specs.Readers.{Halt, Unexpected, TooDeep, ParseResult}
use Rattle.ash_parse.specs.StatementReader.{is_vars}
use Rattle.ash_parse.specs.ItemReader.{module_at}
use Rattle.ash_parse.specs.ParseFaults.{whole_declaration_at}
use Rattle.ash_parse.specs.FirstFault.{NoneGoesOn, GoesTooDeep, NoneKeeps, NoneWithin, NoDeclarationGoesOn}
use Rattle.ash_parse.proofs.Rereading.{Reads, whole, cut}
use Rattle.ash_parse.proofs.ItemComplete.{module_reads, whole_read}
use Rattle.ash_parse.proofs.Openings.{opening}
use Rattle.ash_parse.proofs.KeepsItems.{keeps_unexpected, keeps_too_deep, keeps_deep, keeps_unexpected_declaration}

pub no_ok : {A : Type 0} (x : A × Tokens) (e : Halt) → ◌≡◌ {A = ParseResult A} (Ok x) (Err e) → ⊥
no_ok x e h = cc

pub deep_expected : {A : Type 0} (some rest : Tokens) → ◌≡◌ {A = ParseResult A} (Err (TooDeep some)) (Err (Unexpected rest)) → ⊥
deep_expected some rest h = cc

deep_is : {A : Type 0} (some rest : Tokens) → ◌≡◌ {A = ParseResult A} (Err (TooDeep some)) (Err (TooDeep rest)) → some ≡ rest
deep_is some rest h = cc

-- what is read, or cut, is not unexpected
reads_expected : {A : Type 0} {free : ℕ} {read : ParseResult A} {x : A × Tokens} (rest : Tokens) → Reads A free read x → read ≡ Err (Unexpected rest) → ⊥
reads_expected rest (whole {x = x}) h = no_ok x (Unexpected rest) h
reads_expected rest (cut {t = t} {more = more} l) h = deep_expected (t ∷ more) rest h

-- what is read, or cut within the last `free` tokens, is not cut before them
reads_later : {A : Type 0} {free : ℕ} {read : ParseResult A} {x : A × Tokens} (rest : Tokens) → Reads A free read x → read ≡ Err (TooDeep rest) → length rest ≤ free
reads_later rest (whole {x = x}) h = absurd (no_ok x (TooDeep rest) h)
reads_later {A} {free} rest (cut {t = t} {more = more} l) h = let e : length (t ∷ more) ≡ length rest = ap length (deep_is {A = A} (t ∷ more) rest h) in omega arith

-- where reading is cut, fewer tokens are free in no derivation
pub not_shallower : (free : ℕ) (ts rest : Tokens) (items : List Item) → module_at ts ≡ Err (TooDeep rest) → suc free ≤ length rest → Derives free ts items → ⊥
not_shallower free ts rest items h l d = let k = reads_later rest (module_reads free ts items d) h in omega arith

pub none_goes_on : (prefix rest : Tokens) → module_at (prefix ++ rest) ≡ Err (Unexpected rest) → NoneGoesOn prefix rest
none_goes_on prefix [] h = λ free items d. reads_expected [] (module_reads free prefix items d) (ap module_at (sym (append-nil prefix)) ∙ h)
none_goes_on prefix (t ∷ rest) h = λ free tail items d. reads_expected (t ∷ tail) (module_reads free (prefix ++ t ∷ tail) items d) (keeps_unexpected prefix rest tail t h)

none_keeps : (prefix seen after : Tokens) (t : Meaning × Position) → ((u : Meaning × Position) (more other : Tokens) → after ≡ u ∷ more → is_vars (t ∷ (seen ++ u ∷ more)) ≡ is_vars (t ∷ (seen ++ u ∷ other))) → module_at (prefix ++ t ∷ (seen ++ after)) ≡ Err (TooDeep (t ∷ (seen ++ after))) → NoneKeeps prefix t seen after
none_keeps prefix seen [] t decides h =
    let k : module_at (prefix ++ t ∷ seen) ≡ Err (TooDeep (t ∷ seen)) = subst (λ (l : Tokens). module_at (prefix ++ t ∷ l) ≡ Err (TooDeep (t ∷ l))) (append-nil seen) h in
    λ items d. not_shallower (length seen) (prefix ++ t ∷ seen) (t ∷ seen) items k (omega arith) d
none_keeps prefix seen (u ∷ more) t decides h = λ tail items d.
    let n : length (seen ++ u ∷ tail) ≡ length seen + length (u ∷ tail) = length-append seen (u ∷ tail) in
    not_shallower (length seen + suc (length tail)) (prefix ++ t ∷ (seen ++ u ∷ tail)) (t ∷ (seen ++ u ∷ tail)) items (keeps_too_deep prefix seen more tail t u (decides u more tail refl) h) (omega arith) d

pub none_within : (prefix rest : Tokens) (t : Meaning × Position) → module_at (prefix ++ t ∷ rest) ≡ Err (TooDeep (t ∷ rest)) → NoneWithin prefix t rest
none_within prefix rest t h =
    let o = opening t rest in
    (o.seen, o.after, o.all, o.leaves, none_keeps prefix o.seen o.after t o.decides (subst (λ (l : Tokens). module_at (prefix ++ t ∷ l) ≡ Err (TooDeep (t ∷ l))) o.all h))

-- a module that has only `t` and what is after it free has `t` too deep
pub goes_too_deep : (prefix rest tail : Tokens) (t : Meaning × Position) (items : List Item) → is_vars (t ∷ tail) ≡ false → module_at (prefix ++ t ∷ rest) ≡ Err (TooDeep (t ∷ rest)) → Derives (suc (length tail)) (prefix ++ t ∷ tail) items → GoesTooDeep prefix t
goes_too_deep prefix rest tail t items v h d = (tail, items, d, none_within prefix tail t (keeps_deep prefix rest tail t v h))

-- what is a declaration is read
declares_read : (ts rest : Tokens) (declared : Declaration) → whole_declaration_at ts ≡ Err (Unexpected rest) → Declares ts declared → ⊥
declares_read ts rest declared h d = no_ok (declared, []) (Unexpected rest) (sym (whole_read ts declared d) ∙ h)

pub no_declaration_goes_on : (prefix rest : Tokens) → whole_declaration_at (prefix ++ rest) ≡ Err (Unexpected rest) → NoDeclarationGoesOn prefix rest
no_declaration_goes_on prefix [] h = λ declared d. declares_read prefix [] declared (ap whole_declaration_at (sym (append-nil prefix)) ∙ h) d
no_declaration_goes_on prefix (t ∷ rest) h = λ tail declared d. declares_read (prefix ++ t ∷ tail) (t ∷ tail) declared (keeps_unexpected_declaration prefix rest tail t h) d
