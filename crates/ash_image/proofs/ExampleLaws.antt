-- What the examples are read as. What follows the text is computed; that a text is UTF-8 is not, and is shown apart.
use Rattle.std.proofs.Common.{◌≡◌, ℕ, zero, suc, ◌<◌, ◌^◌, ◌&&◌, Bool, true, false, cond, ltb, leb, eqb, List, [], ◌∷◌, ◌++◌, length, get_or}
use Rattle.std.proofs.Common.{Option, Some, None, refl, sym, ap, ◌∙◌, arith}
use Rattle.std.specs.List.{list_all}
use Rattle.std.proofs.lemmas.Bool.{ltb-true, leb-true}
use Rattle.std.proofs.lemmas.Str.{IsUtf8-from_ascii}
use Rattle.ash_host.specs.Objects.{Plain, numbers}
use Rattle.ash_host.specs.Reach.{is_reachable}
use Rattle.ash_host.proofs.Membership.{and_both, both_and}
use Rattle.ash_host.proofs.ObjectLaws.{reach_is_decided}
use Rattle.ash_image.specs.declared.version.Version.{Version}
use Rattle.ash_image.specs.Fields.{number, text, ◌>>=◌, pair_at, number_at, whole}
use Rattle.ash_image.specs.Snapshots.{Loaded, Snapshot}
use Rattle.ash_image.specs.Image.{FitsText, max_registered_text_bytes, version_number}
use Rattle.ash_image.specs.ImageReading.{is_text, registered_at, modules_at, services_at, objects_at, snapshot_at, image_at}
use Rattle.ash_image.specs.Rules.{IsImage, AreReached, held_by, is_whole}
use Rattle.ash_image.specs.ImageExamples.{IsSomeImage, IsDamaged}
use Rattle.ash_image.proofs.Numbers.{IsBytes}
use Rattle.ash_image.proofs.NameLaws.{both}
use Rattle.ash_image.proofs.FieldLaws.{text_field}
use Rattle.ash_image.proofs.ImageLaws.{is_spelled, is_read, version_again, registered_field}
use Rattle.ash_image.proofs.OrderLaws.{increasing}
use Rattle.ash_image.proofs.RuleLaws.{rules_say, rules_kept, passes_at, all_pass, alive_is, is_alive}

-- ---- bytes and texts

-- each is below 256
abbrev pub are_bytes : List ℕ → Bool
are_bytes bytes = list_all (λ b. ltb b 256) bytes

bytes_are : (bytes : List ℕ) → are_bytes bytes ≡ true → IsBytes bytes
bytes_are [] e i = omega arith
bytes_are (b ∷ more) e zero = ltb-true b 256 (both (ltb b 256) (are_bytes more) e).0
bytes_are (b ∷ more) e (suc i) = bytes_are more (both (ltb b 256) (are_bytes more) e).1 i

-- each is below 128
abbrev pub are_ascii : List ℕ → Bool
are_ascii codes = list_all (λ c. ltb c 128) codes

ascii_are : (codes : List ℕ) → are_ascii codes ≡ true → (i : ℕ) → get_or codes i 0 < 128
ascii_are [] e i = omega arith
ascii_are (c ∷ more) e zero = ltb-true c 128 (both (ltb c 128) (are_ascii more) e).0
ascii_are (c ∷ more) e (suc i) = ascii_are more (both (ltb c 128) (are_ascii more) e).1 i

pub ascii_fits : (t : List ℕ) → are_ascii t ≡ true → leb (length t) max_registered_text_bytes ≡ true → FitsText t
ascii_fits t ascii short = record { utf8 = IsUtf8-from_ascii t (ascii_are t ascii); short = leb-true _ _ short }

-- ---- what keeps the rules

unfoldable pub all_reached : Snapshot → Bool
all_reached s = list_all (is_reachable (held_by s.modules) s.objects) (numbers s.objects)

reached_says : (s : Snapshot) → all_reached s ≡ true → AreReached s
unfolding all_reached
reached_says s e n lives =
    (reach_is_decided ℕ (held_by s.modules) s.objects n).0
    (passes_at (is_reachable (held_by s.modules) s.objects) (numbers s.objects) n e (is_alive s.objects n lives))

reached_yes : (s : Snapshot) → AreReached s → all_reached s ≡ true
unfolding all_reached
reached_yes s reached =
    all_pass (is_reachable (held_by s.modules) s.objects) (numbers s.objects)
    (λ n among. (reach_is_decided ℕ (held_by s.modules) s.objects n).1 (reached n (alive_is s.objects n among)))

abbrev pub keeps : Snapshot → Bool
keeps s = is_whole s && all_reached s

-- ---- what follows the text

abbrev Rest : Type 0
Rest = ℕ × (ℕ × (List (ℕ × List ℕ) × (List Loaded × List (ℕ × Plain ℕ))))

abbrev rest_at : Version → List ℕ → Option (Rest × List ℕ)
rest_at v = pair_at (number_at 8) (pair_at (number_at 8) (pair_at services_at (pair_at modules_at (objects_at v))))

-- the text and what follows it, as a snapshot, with its version, where nothing is left
abbrev pair_with : Version → List ℕ × List ℕ → Option ((List ℕ × Rest) × List ℕ)
pair_with v x = rest_at v x.1 >>= λ y. Some ((x.0, y.0), y.1)

abbrev snapshot_from : List ℕ × Rest → Snapshot
snapshot_from x = record {
  registered = x.0;
  seq = x.1.0;
  last = x.1.1.0;
  services = x.1.1.1.0;
  modules = x.1.1.1.1.0;
  objects = x.1.1.1.1.1;
}

abbrev as_snapshot : (List ℕ × Rest) × List ℕ → Option (Snapshot × List ℕ)
as_snapshot x = Some (snapshot_from x.0, x.1)

abbrev with_version : Version → Snapshot × List ℕ → Option ((Version × Snapshot) × List ℕ)
with_version v y = Some ((v, y.0), y.1)

abbrev at_end : (Version × Snapshot) × List ℕ → Option (Version × Snapshot)
at_end x = cond (eqb (length x.1) 0) (Some x.0) None

-- what the bytes after the text are read as
unfoldable pub read_rest : Version → List ℕ → List ℕ → Option (Version × Snapshot)
read_rest v t rest = ((pair_with v (t, rest) >>= as_snapshot) >>= with_version v) >>= at_end

abbrev pub image_bytes : Version → List ℕ → List ℕ → List ℕ
image_bytes v t rest = number 2 (version_number v) ++ (text 4 t ++ rest)

read_is : (v : Version) (t rest : List ℕ) → FitsText t → whole image_at (image_bytes v t rest) ≡ read_rest v t rest
unfolding image_at snapshot_at read_rest
read_is v t rest fits =
    ap (λ (o : Option (Version × List ℕ)). (o >>= λ x. snapshot_at x.0 x.1 >>= with_version x.0) >>= at_end)
    (version_again v (text 4 t ++ rest) tt)
    ∙ ap (λ (o : Option (List ℕ × List ℕ)). ((o >>= pair_with v >>= as_snapshot) >>= with_version v) >>= at_end)
    (registered_field.again t rest fits)

-- whether something is read, and it keeps the rules
abbrev pub read_keeps : Option (Version × Snapshot) → Bool
read_keeps None = false
read_keeps (Some x) = keeps x.1

pub image_by_test : (v : Version) (t rest : List ℕ) (x : Version × Snapshot) → FitsText t
    → are_bytes (image_bytes v t rest) ≡ true → read_rest v t rest ≡ Some x → keeps x.1 ≡ true
    → IsImage (image_bytes v t rest) x.0 x.1
image_by_test v t rest x fits ok e test =
    let spelled = is_spelled (image_bytes v t rest) x (bytes_are (image_bytes v t rest) ok) (read_is v t rest fits ∙ e) in
    let both = and_both (is_whole x.1) (all_reached x.1) test in (
      spelled,
      record {
        whole = rules_say x.1 (increasing (numbers x.1.objects) spelled.0.objects.order) both.0;
        reached = reached_says x.1 both.1;
      },
    )

some_image : (v : Version) (t rest : List ℕ) → FitsText t → are_bytes (image_bytes v t rest) ≡ true
    → (read : Option (Version × Snapshot)) → read_rest v t rest ≡ read → read_keeps read ≡ true
    → IsSomeImage (image_bytes v t rest)
some_image v t rest fits ok None e test = absurd cc
some_image v t rest fits ok (Some x) e test = (x.0, x.1, image_by_test v t rest x fits ok e test)

pub some_image_by_test : (v : Version) (t rest : List ℕ) → FitsText t → are_bytes (image_bytes v t rest) ≡ true
    → read_keeps (read_rest v t rest) ≡ true → IsSomeImage (image_bytes v t rest)
some_image_by_test v t rest fits ok test = some_image v t rest fits ok (read_rest v t rest) refl test

none_some : {A : Type 0} (x : A) → None ≡ Some x → ⊥
none_some x e = absurd cc

pub damaged_at_once : (bytes : List ℕ) → whole image_at bytes ≡ None → IsDamaged bytes
damaged_at_once bytes e version s h = none_some (version, s) (sym e ∙ is_read bytes version s h.0)

never : (b : Bool) → b ≡ false → b ≡ true → ⊥
never b breaks holds = absurd cc

pub damaged_by_test : (v : Version) (t rest : List ℕ) → FitsText t → read_keeps (read_rest v t rest) ≡ false
    → IsDamaged (image_bytes v t rest)
damaged_by_test v t rest fits test w u h =
    let is : read_rest v t rest ≡ Some (w, u) =
    sym (read_is v t rest fits) ∙ is_read (image_bytes v t rest) w u h.0 in
    let breaks : keeps u ≡ false = sym (ap read_keeps is) ∙ test in
    never (keeps u) breaks (both_and (is_whole u) (all_reached u) (rules_kept u h.1.whole) (reached_yes u h.1.reached))

-- a text that is none is not read
pub damaged_by_text : (v : Version) (t rest : List ℕ) → length t < 256 ^ 4 → is_text t ≡ false
    → IsDamaged (image_bytes v t rest)
unfolding image_at snapshot_at registered_at
damaged_by_text v t rest short not_text =
    let unread : registered_at (text 4 t ++ rest) ≡ None =
    ap (λ (o : Option (List ℕ × List ℕ)). o >>= λ y. cond (is_text y.0) (Some y) None) ((text_field 4).again t rest short)
    ∙ ap (λ (b : Bool). cond b (Some (t, rest)) None) not_text in
    damaged_at_once (image_bytes v t rest)
    (ap (λ (o : Option (Version × List ℕ)). (o >>= λ x. snapshot_at x.0 x.1 >>= with_version x.0) >>= at_end)
    (version_again v (text 4 t ++ rest) tt)
    ∙ ap (λ (o : Option (List ℕ × List ℕ)). ((o >>= pair_with v >>= as_snapshot) >>= with_version v) >>= at_end) unread)
