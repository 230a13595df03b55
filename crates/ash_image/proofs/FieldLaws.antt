-- The two laws of a field: what is read is spelled so, and what is spelled so is read, whatever follows it. Fields
-- are put together from fields that have them.
use Rattle.std.proofs.Common.{◌≡◌, ℕ, zero, suc, ◌+◌, ◌^◌, ◌<◌, ◌≤◌, Bool, true, false, cond, ltb, eqb, List, [], ◌∷◌}
use Rattle.std.proofs.Common.{◌++◌, length, take, drop, Option, Some, None, refl, sym, ap, subst, ◌∙◌, append_assoc}
use Rattle.std.proofs.Common.{arith, inl, inr}
use Rattle.std.specs.Bool.{IsTrue}
use Rattle.std.specs.List.{flat_map, AllByRecursion}
use Rattle.std.proofs.lemmas.Bool.{cases_lt, ltb-false, le-ltb, eqb-true}
use Rattle.std.proofs.lemmas.List.{append-nil, nil_from_length, take_at, drop_at, take-append-drop, length-append}
use Rattle.std.proofs.lemmas.List.{length-take, get_or-drop, get_or-take, get_or_past}
use Rattle.byteorder.specs.Endian.{little_number, little_from}
use Rattle.byteorder.specs.Numbers.{little_from-lt, little_number-reads_back, length-bytes_low_first}
use Rattle.ash_image.specs.Fields.{number, text, items, ◌>>=◌, as_at, checked_at, pair_at, number_at, prefix_at}
use Rattle.ash_image.specs.Fields.{text_at, then_at, tagged_at, times_at, items_at, whole}
use Rattle.ash_image.proofs.Numbers.{IsBytes, bytes_back}

IsBytes-drop : (n : ℕ) (bytes : List ℕ) → IsBytes bytes → IsBytes (drop n bytes)
IsBytes-drop n bytes h i = rw get_or-drop (h (n + i))

IsBytes-take : (n : ℕ) (bytes : List ℕ) → IsBytes bytes → IsBytes (take n bytes)
IsBytes-take n bytes h i =
    elim (cases_lt i n) [
      | inl lt ↦ rw (get_or-take n bytes i 0 lt) (h i)
      | inr le ↦ rw (get_or_past (take n bytes) i 0 (omega (arith, length-take n bytes))) (omega arith)
    ]

-- the value of a step that gave one
pub bind_some : {A B : Type 0} (o : Option A) (f : A → Option B) (y : B) → (o >>= f) ≡ Some y → (x : A) × (o ≡ Some x)
    × (f x ≡ Some y)
bind_some (Some x) f y e = (x, refl, e)
bind_some None f y e = absurd cc

pub some_is : {A : Type 0} (x y : A) → Some x ≡ Some y → x ≡ y
some_is x y e = cc

pub passed : {A : Type 0} (b : Bool) (x y : A) → cond b (Some x) None ≡ Some y → (b ≡ true) × (x ≡ y)
passed true x y e = (refl, cc)
passed false x y e = absurd cc

not_refused : {A : Type 0} (b : Bool) (x y : A) → cond b None (Some x) ≡ Some y → (b ≡ false) × (x ≡ y)
not_refused true x y e = absurd cc
not_refused false x y e = (refl, cc)

-- what was read as the prefix
pub record Takes (bytes text rest : List ℕ) : Type 0 where
  pub parts : bytes ≡ text ++ rest
  pub rest_fits : IsBytes rest

pub Takes-then : (a x b y c : List ℕ) → Takes a x b → Takes b y c → Takes a (x ++ y) c
Takes-then a x b y c p q = record {
  parts = p.parts ∙ ap (λ (t : List ℕ). x ++ t) q.parts
      ∙ sym (append_assoc x y c);
  rest_fits = q.rest_fits;
}

pub record IsField {A : Type 0} (spell : A → List ℕ) (fits : A → Type 0)
    (read : List ℕ → Option (A × List ℕ)) : Type 0 where
  pub takes : (bytes : List ℕ) (x : A × List ℕ) → IsBytes bytes → read bytes ≡ Some x → Takes bytes (spell x.0) x.1
      × fits x.0
  pub again : (value : A) (rest : List ℕ) → fits value → read (spell value ++ rest) ≡ Some (value, rest)

-- ---- numbers and texts

pub number_field : (size : ℕ) → IsField (number size) (λ value. value < 256 ^ size) (number_at size)
number_field size = record {
  takes = λ bytes x fits e.
      let g = not_refused (ltb (length bytes) size) (little_number size (take size bytes), drop size bytes) x e in
      let long : size ≤ length bytes = ltb-false _ _ g.0 in
      let prefix = IsBytes-take size bytes fits in
      let back : number size (little_number size (take size bytes)) ≡ take size bytes =
      bytes_back size (take size bytes) (omega (arith, length-take size bytes)) prefix in
      let parts : bytes ≡ number size (little_number size (take size bytes)) ++ drop size bytes =
      sym (take-append-drop size bytes) ∙ ap (λ (t : List ℕ). t ++ drop size bytes) (sym back) in
      subst (λ (y : ℕ × List ℕ). Takes bytes (number size y.0) y.1 × (y.0 < 256 ^ size)) g.1 (
        record { parts = parts; rest_fits = IsBytes-drop size bytes fits },
        little_from-lt 0 size (take size bytes) prefix,
      );
  again = λ value rest lt.
      let len : length (number size value) ≡ size = length-bytes_low_first 0 size value in
      let long : ltb (length (number size value ++ rest)) size ≡ false =
      le-ltb _ _ (omega (arith, length-append (number size value) rest)) in
      let back : little_number size (number size value) ≡ value =
      ap (little_from 0 size) (sym (append-nil (number size value))) ∙ little_number-reads_back size value [] lt in
      rw (long, take_at (number size value) rest size len, drop_at (number size value) rest size len, back) refl;
}

prefix_takes : (count : ℕ) (bytes : List ℕ) (x : List ℕ × List ℕ) → IsBytes bytes → prefix_at count bytes ≡ Some x
    → Takes bytes x.0 x.1 × (length x.0 ≡ count)
prefix_takes count bytes x fits e =
    let g = not_refused (ltb (length bytes) count) (take count bytes, drop count bytes) x e in
    let long : count ≤ length bytes = ltb-false _ _ g.0 in
    subst (λ (y : List ℕ × List ℕ). Takes bytes y.0 y.1 × (length y.0 ≡ count)) g.1 (
      record { parts = sym (take-append-drop count bytes); rest_fits = IsBytes-drop count bytes fits },
      omega (arith, length-take count bytes),
    )

prefix_again : (bytes rest : List ℕ) → prefix_at (length bytes) (bytes ++ rest) ≡ Some (bytes, rest)
prefix_again bytes rest =
    let long : ltb (length (bytes ++ rest)) (length bytes) ≡ false =
    le-ltb _ _ (omega (arith, length-append bytes rest)) in
    rw (long, take_at bytes rest (length bytes) refl, drop_at bytes rest (length bytes) refl) refl

text_takes : (size : ℕ) (bytes : List ℕ) (x : List ℕ × List ℕ) → IsBytes bytes → text_at size bytes ≡ Some x
    → Takes bytes (text size x.0) x.1 × (length x.0 < 256 ^ size)
text_takes size bytes x fits e =
    let a = bind_some (number_at size bytes) (λ count. prefix_at count.0 count.1) x e in
    let t = (number_field size).takes bytes a.0 fits a.1 in
    let u = prefix_takes a.0.0 a.0.1 x t.0.rest_fits a.2 in
    let both = Takes-then bytes (number size a.0.0) a.0.1 x.0 x.1 t.0 u.0 in
    let spelled : Takes bytes (text size x.0) x.1 =
    subst (λ (k : ℕ). Takes bytes (number size k ++ x.0) x.1) (sym u.1) both in
    (spelled, omega (arith, t.1, u.1))

pub text_field : (size : ℕ) → IsField (text size) (λ bytes. length bytes < 256 ^ size) (text_at size)
text_field size = record {
  takes = text_takes size;
  again = λ value rest lt.
      ap (text_at size) (append_assoc (number size (length value)) value rest)
      ∙ ap (λ (o : Option (ℕ × List ℕ)). o >>= λ count. prefix_at count.0 count.1)
      ((number_field size).again (length value) (value ++ rest) lt)
      ∙ prefix_again value rest;
}

-- ---- fields from fields

pub checked_field : {A : Type 0} {spell : A → List ℕ} {fits : A → Type 0} {read : List ℕ → Option (A × List ℕ)}
    → (test : A → Bool) → IsField spell fits read → IsField spell (λ x. fits x × IsTrue (test x)) (checked_at test read)
checked_field {A} {spell} {fits} {read} test field = record {
  takes = λ bytes x ok e.
      let a = bind_some (read bytes) (λ y. cond (test y.0) (Some y) None) x e in
      let g = passed (test a.0.0) a.0 x a.2 in
      let t = field.takes bytes a.0 ok a.1 in
      subst (λ (y : A × List ℕ). Takes bytes (spell y.0) y.1 × (fits y.0 × IsTrue (test y.0))) g.1 (t.0, (t.1, g.0));
  again = λ x rest h.
      ap (λ (o : Option (A × List ℕ)). o >>= λ y. cond (test y.0) (Some y) None) (field.again x rest h.0)
      ∙ ap (λ (b : Bool). cond b (Some (x, rest)) None) h.1;
}

pub pair_field : {A B : Type 0} {spell : A → List ℕ} {fits : A → Type 0} {read : List ℕ → Option (A × List ℕ)}
    {spell2 : B → List ℕ} {fits2 : B → Type 0} {read2 : List ℕ → Option (B × List ℕ)}
    → IsField spell fits read → IsField spell2 fits2 read2
    → IsField (λ (x : A × B). spell x.0 ++ spell2 x.1) (λ (x : A × B). fits x.0 × fits2 x.1) (pair_at read read2)
pair_field {A} {B} {spell} {fits} {read} {spell2} {fits2} {read2} first second = record {
  takes = λ bytes x ok e.
      let a = bind_some (read bytes) (λ y. read2 y.1 >>= λ z. Some ((y.0, z.0), z.1)) x e in
      let b = bind_some (read2 a.0.1) (λ z. Some ((a.0.0, z.0), z.1)) x a.2 in
      let t = first.takes bytes a.0 ok a.1 in
      let u = second.takes a.0.1 b.0 t.0.rest_fits b.1 in
      let made : (A × B) × List ℕ = ((a.0.0, b.0.0), b.0.1) in
      subst (λ (y : (A × B) × List ℕ). Takes bytes (spell y.0.0 ++ spell2 y.0.1) y.1 × (fits y.0.0 × fits2 y.0.1))
      (some_is made x b.2)
      (Takes-then bytes (spell a.0.0) a.0.1 (spell2 b.0.0) b.0.1 t.0 u.0, (t.1, u.1));
  again = λ x rest h.
      ap (pair_at read read2) (append_assoc (spell x.0) (spell2 x.1) rest)
      ∙ ap (λ (o : Option (A × List ℕ)). o >>= λ y. read2 y.1 >>= λ z. Some ((y.0, z.0), z.1))
      (first.again x.0 (spell2 x.1 ++ rest) h.0)
      ∙ ap (λ (o : Option (B × List ℕ)). o >>= λ z. Some ((x.0, z.0), z.1)) (second.again x.1 rest h.1);
}

-- one thing, and then what depends on it
pub then_field : {A B : Type 0} {spell : A → List ℕ} {fits : A → Type 0} {read : List ℕ → Option (A × List ℕ)}
    {spell2 : A → B → List ℕ} {fits2 : A → B → Type 0} {read2 : A → List ℕ → Option (B × List ℕ)}
    → IsField spell fits read → ((a : A) → IsField (spell2 a) (fits2 a) (read2 a))
    → IsField (λ (x : A × B). spell x.0 ++ spell2 x.0 x.1) (λ (x : A × B). fits x.0 × fits2 x.0 x.1) (then_at read read2)
then_field {A} {B} {spell} {fits} {read} {spell2} {fits2} {read2} first second = record {
  takes = λ bytes x ok e.
      let a = bind_some (read bytes) (λ y. read2 y.0 y.1 >>= λ z. Some ((y.0, z.0), z.1)) x e in
      let b = bind_some (read2 a.0.0 a.0.1) (λ z. Some ((a.0.0, z.0), z.1)) x a.2 in
      let t = first.takes bytes a.0 ok a.1 in
      let u = (second a.0.0).takes a.0.1 b.0 t.0.rest_fits b.1 in
      let made : (A × B) × List ℕ = ((a.0.0, b.0.0), b.0.1) in
      subst (λ (y : (A × B) × List ℕ). Takes bytes (spell y.0.0 ++ spell2 y.0.0 y.0.1) y.1
      × (fits y.0.0 × fits2 y.0.0 y.0.1))
      (some_is made x b.2)
      (Takes-then bytes (spell a.0.0) a.0.1 (spell2 a.0.0 b.0.0) b.0.1 t.0 u.0, (t.1, u.1));
  again = λ x rest h.
      ap (then_at read read2) (append_assoc (spell x.0) (spell2 x.0 x.1) rest)
      ∙ ap (λ (o : Option (A × List ℕ)). o >>= λ y. read2 y.0 y.1 >>= λ z. Some ((y.0, z.0), z.1))
      (first.again x.0 (spell2 x.0 x.1 ++ rest) h.0)
      ∙ ap (λ (o : Option (B × List ℕ)). o >>= λ z. Some ((x.0, z.0), z.1)) ((second x.0).again x.1 rest h.1);
}

-- a field seen as another type: `view` there, and `parts` back
pub as_field : {A B : Type 0} {spell : A → List ℕ} {fits : A → Type 0} {read : List ℕ → Option (A × List ℕ)}
    → IsField spell fits read → (view : A → B) (parts : B → A) (spelling : B → List ℕ) (Fit : B → Type 0)
    → ((y : B) → Fit y → view (parts y) ≡ y) → ((x : A) → fits x → spelling (view x) ≡ spell x)
    → ((x : A) → fits x → Fit (view x)) → ((y : B) → Fit y → fits (parts y))
    → IsField spelling Fit (as_at view read)
as_field {A} {B} {spell} {fits} {read} field view parts spelling Fit back spelled gives wants = record {
  takes = λ bytes y ok e.
      let a = bind_some (read bytes) (λ x. Some (view x.0, x.1)) y e in
      let t = field.takes bytes a.0 ok a.1 in
      let seen : Takes bytes (spelling (view a.0.0)) a.0.1 =
      subst (λ (s : List ℕ). Takes bytes s a.0.1) (sym (spelled a.0.0 t.1)) t.0 in
      let made : B × List ℕ = (view a.0.0, a.0.1) in
      subst (λ (z : B × List ℕ). Takes bytes (spelling z.0) z.1 × Fit z.0) (some_is made y a.2) (seen, gives a.0.0 t.1);
  again = λ y rest h.
      let ok = wants y h in
      let is : view (parts y) ≡ y = back y h in
      let same : spelling y ≡ spell (parts y) = ap spelling (sym is) ∙ spelled (parts y) ok in
      ap (λ (s : List ℕ). as_at view read (s ++ rest)) same
      ∙ ap (λ (o : Option (A × List ℕ)). o >>= λ x. Some (view x.0, x.1)) (field.again (parts y) rest ok)
      ∙ ap (λ (z : B). Some (z, rest)) is;
}

times_takes : {A : Type 0} {spell : A → List ℕ} {fits : A → Type 0} {read : List ℕ → Option (A × List ℕ)}
    → IsField spell fits read
    → (count : ℕ) (bytes : List ℕ) (x : List A × List ℕ) → IsBytes bytes → times_at read count bytes ≡ Some x
    → Takes bytes (flat_map spell x.0) x.1 × (length x.0 ≡ count) × AllByRecursion fits x.0
unfolding times_at
times_takes {A} {spell} {fits} {read} field zero bytes x ok e =
    let made : List A × List ℕ = ([], bytes) in
    subst (λ (y : List A × List ℕ). Takes bytes (flat_map spell y.0) y.1 × (length y.0 ≡ 0) × AllByRecursion fits y.0)
    (some_is made x e) (record { parts = refl; rest_fits = ok }, refl, tt)
times_takes {A} {spell} {fits} {read} field (suc count) bytes x ok e =
    let a = bind_some (read bytes) (λ first. times_at read count first.1 >>= λ others.
    Some (first.0 ∷ others.0, others.1)) x e in
    let b = bind_some (times_at read count a.0.1) (λ others. Some (a.0.0 ∷ others.0, others.1)) x a.2 in
    let t = field.takes bytes a.0 ok a.1 in
    let u = times_takes field count a.0.1 b.0 t.0.rest_fits b.1 in
    let both = Takes-then bytes (spell a.0.0) a.0.1 (flat_map spell b.0.0) b.0.1 t.0 u.0 in
    let made : List A × List ℕ = (a.0.0 ∷ b.0.0, b.0.1) in
    subst (λ (y : List A × List ℕ). Takes bytes (flat_map spell y.0) y.1 × (length y.0 ≡ suc count)
    × AllByRecursion fits y.0) (some_is made x b.2) (both, ap suc u.1, (t.1, u.2))

times_again : {A : Type 0} {spell : A → List ℕ} {fits : A → Type 0} {read : List ℕ → Option (A × List ℕ)}
    → IsField spell fits read
    → (xs : List A) (rest : List ℕ) → AllByRecursion fits xs
    → times_at read (length xs) (flat_map spell xs ++ rest) ≡ Some (xs, rest)
unfolding times_at
times_again {A} {spell} {fits} {read} field [] rest h = refl
times_again {A} {spell} {fits} {read} field (x ∷ xs) rest h =
    ap (times_at read (suc (length xs))) (append_assoc (spell x) (flat_map spell xs) rest)
    ∙ ap (λ (o : Option (A × List ℕ)). o >>= λ first. times_at read (length xs) first.1 >>= λ others.
    Some (first.0 ∷ others.0, others.1)) (field.again x (flat_map spell xs ++ rest) h.0)
    ∙ ap (λ (o : Option (List A × List ℕ)). o >>= λ others. Some (x ∷ others.0, others.1))
    (times_again field xs rest h.1)

pub items_field : {A : Type 0} {spell : A → List ℕ} {fits : A → Type 0} {read : List ℕ → Option (A × List ℕ)}
    {counts : ℕ → Type 0} {count : List ℕ → Option (ℕ × List ℕ)}
    → (size : ℕ) → IsField (number size) counts count → IsField spell fits read
    → IsField (items size spell) (λ xs. counts (length xs) × AllByRecursion fits xs) (items_at count read)
items_field {A} {spell} {fits} {read} {counts} {count} size counted field = record {
  takes = λ bytes x ok e.
      let a = bind_some (count bytes) (λ n. times_at read n.0 n.1) x e in
      let t = counted.takes bytes a.0 ok a.1 in
      let u = times_takes field a.0.0 a.0.1 x t.0.rest_fits a.2 in
      let both = Takes-then bytes (number size a.0.0) a.0.1 (flat_map spell x.0) x.1 t.0 u.0 in
      subst (λ (n : ℕ). Takes bytes (number size n ++ flat_map spell x.0) x.1 × (counts n × AllByRecursion fits x.0))
      (sym u.1) (both, (t.1, u.2));
  again = λ xs rest h.
      ap (items_at count read) (append_assoc (number size (length xs)) (flat_map spell xs) rest)
      ∙ ap (λ (o : Option (ℕ × List ℕ)). o >>= λ n. times_at read n.0 n.1)
      (counted.again (length xs) (flat_map spell xs ++ rest) h.0)
      ∙ times_again field xs rest h.1;
}

-- ---- the whole of the bytes

pub whole_takes : {A : Type 0} {spell : A → List ℕ} {fits : A → Type 0} {read : List ℕ → Option (A × List ℕ)}
    → IsField spell fits read
    → (bytes : List ℕ) (x : A) → IsBytes bytes → whole read bytes ≡ Some x → fits x × (bytes ≡ spell x)
whole_takes {A} {spell} {fits} {read} field bytes x ok e =
    let a = bind_some (read bytes) (λ y. cond (eqb (length y.1) 0) (Some y.0) None) x e in
    let g = passed (eqb (length a.0.1) 0) a.0.0 x a.2 in
    let t = field.takes bytes a.0 ok a.1 in
    let nothing : a.0.1 ≡ [] = nil_from_length a.0.1 (eqb-true _ _ g.0) in
    let spelled : bytes ≡ spell a.0.0 = t.0.parts ∙ ap (λ (r : List ℕ). spell a.0.0 ++ r) nothing
    ∙ append-nil (spell a.0.0) in
    subst (λ (y : A). fits y × (bytes ≡ spell y)) g.1 (t.1, spelled)

pub whole_again : {A : Type 0} {spell : A → List ℕ} {fits : A → Type 0} {read : List ℕ → Option (A × List ℕ)}
    → IsField spell fits read
    → (x : A) → fits x → whole read (spell x) ≡ Some x
whole_again {A} {spell} {fits} {read} field x h =
    ap (whole read) (sym (append-nil (spell x)))
    ∙ ap (λ (o : Option (A × List ℕ)). o >>= λ y. cond (eqb (length y.1) 0) (Some y.0) None) (field.again x [] h)

-- the same field with another name for what fits
pub refit_field : {A : Type 0} {spell : A → List ℕ} {fits : A → Type 0} {read : List ℕ → Option (A × List ℕ)}
    → IsField spell fits read → (spelling : A → List ℕ) (Fit : A → Type 0) → ((x : A) → spelling x ≡ spell x)
    → ((x : A) → fits x → Fit x) → ((x : A) → Fit x → fits x)
    → IsField spelling Fit read
refit_field {A} {spell} {fits} {read} field spelling Fit spelled gives wants = record {
  takes = λ bytes x ok e.
      let t = field.takes bytes x ok e in
      (subst (λ (s : List ℕ). Takes bytes s x.1) (sym (spelled x.0)) t.0, gives x.0 t.1);
  again = λ x rest h. ap (λ (s : List ℕ). read (s ++ rest)) (spelled x) ∙ field.again x rest (wants x h);
}

-- ---- sums, distinguished by a tag of one byte

-- the bytes after a tag are those of this value
pub record HasCase {A : Type 0} (spell : A → List ℕ) (Fit : A → Type 0) (tag : ℕ) (bytes : List ℕ)
    (x : A × List ℕ) : Type 0 where
  pub body : List ℕ
  pub spelled : spell x.0 ≡ number 1 tag ++ body
  pub taken : Takes bytes body x.1
  pub fits : Fit x.0

-- a value is read by the case of its tag
pub record IsCase {A : Type 0} (spell : A → List ℕ) (cases : ℕ → List ℕ → Option (A × List ℕ)) (value : A) : Type 0 where
  pub tag : ℕ
  pub small : tag < 256 ^ 1
  pub body : List ℕ
  pub spelled : spell value ≡ number 1 tag ++ body
  pub read : (rest : List ℕ) → cases tag (body ++ rest) ≡ Some (value, rest)

pub tagged_field : {A : Type 0} {spell : A → List ℕ} {Fit : A → Type 0} {cases : ℕ → List ℕ → Option (A × List ℕ)}
    → ((tag : ℕ) (bytes : List ℕ) (x : A × List ℕ) → IsBytes bytes → cases tag bytes ≡ Some x
    → HasCase spell Fit tag bytes x)
    → ((value : A) → Fit value → IsCase spell cases value)
    → IsField spell Fit (tagged_at cases)
tagged_field {A} {spell} {Fit} {cases} takes_case again_case = record {
  takes = λ bytes x ok e.
      let a = bind_some (number_at 1 bytes) (λ tag. cases tag.0 tag.1) x e in
      let t = (number_field 1).takes bytes a.0 ok a.1 in
      let v = takes_case a.0.0 a.0.1 x t.0.rest_fits a.2 in
      let both = Takes-then bytes (number 1 a.0.0) a.0.1 v.body x.1 t.0 v.taken in
      (subst (λ (s : List ℕ). Takes bytes s x.1) (sym v.spelled) both, v.fits);
  again = λ value rest h.
      let v = again_case value h in
      ap (λ (s : List ℕ). tagged_at cases (s ++ rest)) v.spelled
      ∙ ap (tagged_at cases) (append_assoc (number 1 v.tag) v.body rest)
      ∙ ap (λ (o : Option (ℕ × List ℕ)). o >>= λ tag. cases tag.0 tag.1)
      ((number_field 1).again v.tag (v.body ++ rest) v.small)
      ∙ v.read rest;
}

-- a case that reads a field, and sees it as the value
pub case_takes : {A B : Type 0} {body : B → List ℕ} {fit : B → Type 0} {read : List ℕ → Option (B × List ℕ)}
    → (spell : A → List ℕ) (Fit : A → Type 0) (tag : ℕ) (to : B → A) → IsField body fit read
    → ((b : B) → fit b → (spell (to b) ≡ number 1 tag ++ body b) × Fit (to b))
    → (bytes : List ℕ) (x : A × List ℕ) → IsBytes bytes → as_at to read bytes ≡ Some x → HasCase spell Fit tag bytes x
case_takes {A} {B} {body} {fit} {read} spell Fit tag to field is bytes x ok e =
    let a = bind_some (read bytes) (λ b. Some (to b.0, b.1)) x e in
    let t = field.takes bytes a.0 ok a.1 in
    let made : A × List ℕ = (to a.0.0, a.0.1) in
    let p = is a.0.0 t.1 in
    subst (λ (y : A × List ℕ). HasCase spell Fit tag bytes y) (some_is made x a.2)
    (record { body = body a.0.0; spelled = p.0; taken = t.0; fits = p.1 })

-- a case with nothing after its tag
pub bare_takes : {A : Type 0} (spell : A → List ℕ) (Fit : A → Type 0) (tag : ℕ) (value : A)
    → spell value ≡ number 1 tag ++ [] → Fit value
    → (bytes : List ℕ) (x : A × List ℕ) → IsBytes bytes → Some (value, bytes) ≡ Some x → HasCase spell Fit tag bytes x
bare_takes {A} spell Fit tag value is fits bytes x ok e =
    let made : A × List ℕ = (value, bytes) in
    subst (λ (y : A × List ℕ). HasCase spell Fit tag bytes y) (some_is made x e)
    (record { body = []; spelled = is; taken = record { parts = refl; rest_fits = ok }; fits = fits })

pub as_again : {A B : Type 0} {body : B → List ℕ} {fit : B → Type 0} {read : List ℕ → Option (B × List ℕ)}
    → (to : B → A) → IsField body fit read → (b : B) (rest : List ℕ) → fit b
    → as_at to read (body b ++ rest) ≡ Some (to b, rest)
as_again {A} {B} {body} {fit} {read} to field b rest h =
    ap (λ (o : Option (B × List ℕ)). o >>= λ c. Some (to c.0, c.1)) (field.again b rest h)
