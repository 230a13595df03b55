-- Each text is a name, a word of the language, or no name, and declares one thing or nothing.
use Rattle.std.proofs.Common.{◌≡◌, ℕ, ◌+◌, ◌≤◌, inl, inr, Bool, true, false, cond, nat_eq, List, [], ◌∷◌, ◌++◌, length}
use Rattle.std.proofs.Common.{map, Option, Some, None, Ok, Err, refl, sym, ◌∙◌, ap, subst, arith}
use Rattle.std.specs.Prelude.{◌&&◌, if◌then◌else◌}
use Rattle.std.proofs.lemmas.Bool.{cases_lt}
use Rattle.std.proofs.lemmas.Bool.Decides.{nat_tests}
use Rattle.std.proofs.lemmas.List.{append_assoc, append-nil, length-append, nil_from_length}
use Rattle.ash_lex.specs.Tokens.{Meaning, name, number, sign, reserved, unsupported, Lexeme, lexeme_of, lexemes}
use Rattle.ash_lex.specs.Tokens.{lexeme_at, Means, Reads, marked, unmarked, gap, token, max_source_bytes}
use Rattle.ash_lex.specs.declared.tokens.Token.{Token}
use Rattle.ash_lex.proofs.OneReading.{tokens_agree, tokens_or_fault}
use Rattle.ash_lex.proofs.EveryText.{HasReading, every_text}
use Rattle.ash_tree.specs.GrammarTokens.{Tokens, tokens_of}
use Rattle.ash_tree.specs.Tree.{Declaration}
use Rattle.ash_tree.specs.Grammar.{Declares}
use Rattle.ash_lex.specs.declared.words.ReservedWord.{ReservedWord}
use Rattle.ash_lex.specs.declared.words.UnsupportedWord.{UnsupportedWord}
use Rattle.ash_parse.specs.Readers.{ParseResult, Unexpected}
use Rattle.ash_parse.specs.ItemReader.{declaration_at, is_left}
use Rattle.ash_parse.proofs.ItemShorter.{declaration_sound, left_is_none}
use Rattle.ash_parse.proofs.Readings.{bind_ok, ok_is, no_err}
use Rattle.ash_parse.specs.ParseFaults.{whole_declaration_at}
use Rattle.ash_parse.proofs.ItemComplete.{whole_read, one_declaration}
use Rattle.ash_registry.specs.Texts.{IsCutInto, IsLexed, NameClass, NameText, ReservedText, OtherText, IsWord, HasNameClass}
use Rattle.ash_registry.specs.Texts.{placed_lexeme, IsDeclaring, IsDeclarationOf}
use Rattle.ash_registry.specs.NameClasses.{class_of_meaning, class_of_tokens}

-- a token that is cut out of what was read
record IsCutOut (read : List ℕ) (t : Lexeme) : Type 0 where
  before : List ℕ
  piece : List ℕ
  after : List ℕ
  meaning : Meaning
  parts : read ≡ (before ++ piece) ++ after
  is : t ≡ lexeme_at before piece meaning
  means : Means piece meaning

abbrev OnlyCutOut : List ℕ → List Lexeme → Type 0
OnlyCutOut read [] = Unit {0}
OnlyCutOut read (t ∷ []) = IsCutOut read t
OnlyCutOut read (t ∷ u ∷ ts) = Unit {0}

extended : (read more : List ℕ) (ts : List Lexeme) → OnlyCutOut read ts → OnlyCutOut (read ++ more) ts
extended read more [] h = tt
extended read more (t ∷ []) h = record {
  before = h.before;
  piece = h.piece;
  after = h.after ++ more;
  meaning = h.meaning;
  parts = ap (λ r. r ++ more) h.parts ∙ append_assoc (h.before ++ h.piece) h.after more;
  is = h.is;
  means = h.means;
}
extended read more (t ∷ u ∷ ts) h = tt

one_more : (before piece : List ℕ) (ts : List Lexeme) (m : Meaning) → Means piece m
    → OnlyCutOut (before ++ piece) (ts ++ lexeme_at before piece m ∷ [])
one_more before piece [] m h = record {
  before = before;
  piece = piece;
  after = [];
  meaning = m;
  parts = sym (append-nil (before ++ piece));
  is = refl;
  means = h;
}
one_more before piece (t ∷ []) m h = tt
one_more before piece (t ∷ u ∷ ts) m h = tt

cut_out : (read left : List ℕ) (ts : List Lexeme) → Reads read ts left → OnlyCutOut read ts
cut_out _ _ _ (marked rest) = tt
cut_out _ _ _ (unmarked rest h) = tt
cut_out _ _ _ (gap before piece rest ts r g long) = extended before piece ts (cut_out before (piece ++ rest) ts r)
cut_out _ _ _ (token before piece rest ts m r h long) = one_more before piece ts m h

-- a token that takes the whole text
record IsAll (text : List ℕ) (t : Lexeme) : Type 0 where
  is : t ≡ lexeme_at [] text t.meaning
  means : Means text t.meaning

whole : (text : List ℕ) (t : Lexeme) → IsCutOut text t → t.from ≡ 0 → t.to ≡ length text → IsAll text t
whole text t h from to =
    let none : length h.before ≡ 0 = sym (ap (λ (l : Lexeme). l.from) h.is) ∙ from in
    let nil : h.before ≡ [] = nil_from_length h.before none in
    let meant : t.meaning ≡ h.meaning = ap (λ (l : Lexeme). l.meaning) h.is in
    let ends : t.to ≡ length h.before + length h.piece = ap (λ (l : Lexeme). l.to) h.is in
    let len = ap length h.parts in
    let all : length h.after ≡ 0 =
    omega (arith, length-append (h.before ++ h.piece) h.after, length-append h.before h.piece) in
    let nothing : h.after ≡ [] = nil_from_length h.after all in
    let text_is : text ≡ h.piece =
    h.parts ∙ ap (λ a. (h.before ++ h.piece) ++ a) nothing ∙ append-nil (h.before ++ h.piece)
    ∙ ap (λ b. b ++ h.piece) nil in
    record {
      is = h.is ∙ ap (λ b. lexeme_at b h.piece h.meaning) nil ∙ ap (λ p. lexeme_at [] p h.meaning) (sym text_is)
          ∙ ap (λ m. lexeme_at [] text m) (sym meant);
      means = subst (λ p. Means p t.meaning) (sym text_is) (subst (λ m. Means h.piece m) (sym meant) h.means);
    }

-- a text is one word at most
abbrev first_meaning : Meaning → List Lexeme → Meaning
first_meaning m [] = m
first_meaning m (t ∷ ts) = t.meaning

word_agrees : (text : List ℕ) (m n : Meaning) → IsWord text m → IsWord text n → m ≡ n
word_agrees text m n h k =
    ap (first_meaning m) (tokens_agree text (lexeme_at [] text m ∷ []) (lexeme_at [] text n ∷ []) h.lexed k.lexed)

-- a text that is one word is no other one
other_word : (text : List ℕ) (m : Meaning) → IsWord text m → ((n : List ℕ) → m ≡ name n → ⊥)
    → ((w : ReservedWord) → m ≡ reserved w → ⊥) → ((w : UnsupportedWord) → m ≡ unsupported w → ⊥)
    → HasNameClass text OtherText
other_word text m k no_name no_word no_other = (
  λ h. no_name text (word_agrees text m (name text) k h),
  λ h. elim h [
    | inl w ↦ no_word w.0 (word_agrees text m (reserved w.0) k w.1)
    | inr w ↦ no_other w.0 (word_agrees text m (unsupported w.0) k w.1)
  ],
)

no_word : (text : List ℕ) → ((m : Meaning) → IsWord text m → ⊥) → HasNameClass text OtherText
no_word text none = (
  λ h. none (name text) h,
  λ h. elim h [ inl k ↦ none (reserved k.0) k.1 | inr k ↦ none (unsupported k.0) k.1 ],
)

-- what a text is that is all of one token
by_meaning : (text : List ℕ) (m : Meaning) → Means text m → IsWord text m → HasNameClass text (class_of_meaning m)
by_meaning text (name n) h k = subst (λ (n : List ℕ). IsWord text (name n)) h.1 k
by_meaning text (number n) h k = other_word text (number n) k (λ n e. cc) (λ w e. cc) (λ w e. cc)
by_meaning text (sign s) h k = other_word text (sign s) k (λ n e. cc) (λ w e. cc) (λ w e. cc)
by_meaning text (reserved w) h k = inl (w, k)
by_meaning text (unsupported w) h k = inr (w, k)

-- two tokens that a text has alone are one
abbrev first_token : Lexeme → List Lexeme → Lexeme
first_token t [] = t
first_token t (u ∷ us) = u

same_token : (text : List ℕ) (t u : Lexeme) → IsCutInto text (t ∷ []) → IsCutInto text (u ∷ []) → t ≡ u
same_token text t u h k = ap (first_token t) (tokens_agree text (t ∷ []) (u ∷ []) h.lexed k.lexed)

-- what a text is that has one token
by_token : (text : List ℕ) (t : Lexeme) → IsCutInto text (t ∷ []) → (a b : Bool) → nat_eq t.from 0 ≡ a
    → nat_eq t.to (length text) ≡ b → HasNameClass text (cond (a && b) (class_of_meaning t.meaning) OtherText)
by_token text t cut true true from to =
    let first : t.from ≡ 0 = grind (arith, nat_tests) in
    let last : t.to ≡ length text = grind (arith, nat_tests) in
    let all = whole text t (cut_out text [] (t ∷ []) cut.lexed) first last in
    by_meaning text t.meaning all.means (subst (λ (u : Lexeme). IsCutInto text (u ∷ [])) all.is cut)
by_token text t cut false b from to = no_word text (λ m w.
    let first : t.from ≡ 0 = ap (λ (l : Lexeme). l.from) (same_token text t (lexeme_at [] text m) cut w) in
    absurd (grind (arith, nat_tests)))
by_token text t cut true false from to = no_word text (λ m w.
    let last : t.to ≡ 0 + length text = ap (λ (l : Lexeme). l.to) (same_token text t (lexeme_at [] text m) cut w) in
    absurd (grind (arith, nat_tests)))

-- what a text is, by its tokens
pub name_read : (text : List ℕ) (tokens : List Lexeme) → IsCutInto text tokens
    → HasNameClass text (class_of_tokens (length text) tokens)
name_read text [] cut = no_word text (λ m w. let e =
    tokens_agree text [] (lexeme_at [] text m ∷ []) cut.lexed w.lexed in cc)
name_read text (t ∷ []) cut = by_token text t cut (nat_eq t.from 0) (nat_eq t.to (length text)) refl refl
name_read text (t ∷ u ∷ ts) cut = no_word text (λ m w. let e =
    tokens_agree text (t ∷ u ∷ ts) (lexeme_at [] text m ∷ []) cut.lexed w.lexed in cc)

pub uncut_is_no_name : (text : List ℕ) → IsLexed text None → HasNameClass text OtherText
uncut_is_no_name text none = no_word text (λ m w. none (lexeme_at [] text m ∷ []) w)

pub one_class : (text : List ℕ) (s t : NameClass) → HasNameClass text s → HasNameClass text t → s ≡ t
one_class text NameText NameText h k = refl
one_class text NameText ReservedText h k = elim k [
  | inl w ↦ let e = word_agrees text (name text) (reserved w.0) h w.1 in cc
  | inr w ↦ let e = word_agrees text (name text) (unsupported w.0) h w.1 in cc
]
one_class text NameText OtherText h k = absurd (k.0 h)
one_class text ReservedText NameText h k = elim h [
  | inl w ↦ let e = word_agrees text (name text) (reserved w.0) k w.1 in cc
  | inr w ↦ let e = word_agrees text (name text) (unsupported w.0) k w.1 in cc
]
one_class text ReservedText ReservedText h k = refl
one_class text ReservedText OtherText h k = absurd (k.1 h)
one_class text OtherText NameText h k = absurd (h.0 k)
one_class text OtherText ReservedText h k = absurd (h.1 k)
one_class text OtherText OtherText h k = refl

-- each text has tokens, or none
cut_by : (text : List ℕ) → length text ≤ max_source_bytes → HasReading text → (c : Option (List Lexeme)) × IsLexed text c
cut_by text short (inl h) = (Some h.0, record { short = short; lexed = h.1 })
cut_by text short (inr h) = (None, λ ts cut. tokens_or_fault text ts h.0 cut.lexed h.1)

a_cut : (text : List ℕ) → (c : Option (List Lexeme)) × IsLexed text c
a_cut text = elim (cases_lt max_source_bytes (length text)) [
  | inl long ↦ (None, λ ts cut. let short = cut.short in omega arith)
  | inr short ↦ cut_by text short (every_text text)
]

class_of_text : (text : List ℕ) (c : Option (List Lexeme)) → IsLexed text c → (s : NameClass) × HasNameClass text s
class_of_text text (Some ts) cut = (class_of_tokens (length text) ts, name_read text ts cut)
class_of_text text None cut = (OtherText, uncut_is_no_name text cut)

pub some_class : (text : List ℕ) → (s : NameClass) × HasNameClass text s
some_class text = let c = a_cut text in class_of_text text c.0 c.1

-- the tokens of the code are those of the text
pub placed_lexemes : (ts : List Token) → map placed_lexeme (lexemes ts) ≡ tokens_of ts
placed_lexemes [] = refl
placed_lexemes (t ∷ ts) = ap (λ us. placed_lexeme (lexeme_of t) ∷ us) (placed_lexemes ts)

-- what the tokens of a text declare is what it declares
pub declares_it : (text : List ℕ) (ts : List Token) (d : Declaration) → IsCutInto text (lexemes ts)
    → Declares (tokens_of ts) d → IsDeclaring text d
declares_it text ts d cut h =
    record { tokens = lexemes ts; cut = cut; declares = subst (λ us. Declares us d) (sym (placed_lexemes ts)) h }

declares_by : (text : List ℕ) (ts : List Lexeme) (d : Declaration) → IsCutInto text ts → IsDeclaring text d
    → Declares (map placed_lexeme ts) d
declares_by text ts d cut h =
    subst (λ us. Declares (map placed_lexeme us) d) (tokens_agree text h.tokens ts h.cut.lexed cut.lexed) h.declares

pub declared_by_tokens : (text : List ℕ) (ts : List Token) (d : Declaration) → IsCutInto text (lexemes ts)
    → IsDeclaring text d → Declares (tokens_of ts) d
declared_by_tokens text ts d cut h =
    subst (λ us. Declares us d) (placed_lexemes ts) (declares_by text (lexemes ts) d cut h)

pub one_declared : (text : List ℕ) (d e : Option Declaration) → IsDeclarationOf text d → IsDeclarationOf text e → d ≡ e
one_declared text (Some d) (Some e) h k =
    ap (λ (x : Declaration). Some x)
    (one_declaration (map placed_lexeme h.tokens) d e h.declares (declares_by text h.tokens e h.cut k))
one_declared text (Some d) None h k = absurd (k d h)
one_declared text None (Some e) h k = absurd (h e k)
one_declared text None None h k = refl

-- a declaration that was read to the end is what the tokens declare
declares_whole : (ts : Tokens) (x : Declaration × Tokens) (d : Declaration) (rest : Tokens) (b : Bool)
    → declaration_at ts ≡ Ok x → is_left x.1 ≡ b
    → ◌≡◌ {A = ParseResult Declaration} (cond b (Err (Unexpected x.1)) (Ok x)) (Ok (d, rest)) → Declares ts d
declares_whole ts x d rest true e f h = absurd (no_err (Unexpected x.1) (d, rest) h)
declares_whole ts x d rest false e f h =
    let same = ok_is x (d, rest) h in
    subst (λ (y : Declaration × Tokens). Declares ts y.0) same (declaration_sound ts x.0 x.1 e (left_is_none x.1 f))

whole_declares : (ts : Tokens) (d : Declaration) (rest : Tokens) → whole_declaration_at ts ≡ Ok (d, rest)
    → Declares ts d
unfolding whole_declaration_at
whole_declares ts d rest h =
    let r = bind_ok (declaration_at ts) (λ x. if is_left x.1 then Err (Unexpected x.1) else Ok x) (d, rest) h in
    declares_whole ts r.0 d rest (is_left (r.0).1) r.1 refl r.2

-- what tokens declare is what reading them gives
declared_as : (text : List ℕ) (ts : List Lexeme) (r : ParseResult Declaration) → IsCutInto text ts
    → whole_declaration_at (map placed_lexeme ts) ≡ r → (d : Option Declaration) × IsDeclarationOf text d
declared_as text ts (Ok x) cut e =
    (Some x.0, record { tokens = ts; cut = cut; declares = whole_declares (map placed_lexeme ts) x.0 x.1 e })
declared_as text ts (Err f) cut e =
    (None, λ d h. let r = whole_read (map placed_lexeme ts) d (declares_by text ts d cut h) in cc)

declared_of : (text : List ℕ) (c : Option (List Lexeme)) → IsLexed text c → (d : Option Declaration) × IsDeclarationOf text d
declared_of text (Some ts) cut = declared_as text ts (whole_declaration_at (map placed_lexeme ts)) cut refl
declared_of text None cut = (None, λ d h. cut h.tokens h.cut)

pub some_declared : (text : List ℕ) → (d : Option Declaration) × IsDeclarationOf text d
some_declared text = let c = a_cut text in declared_of text c.0 c.1
