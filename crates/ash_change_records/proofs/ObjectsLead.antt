-- Objects lead to those after a request.
use Rattle.std.proofs.Common.{◌≡◌, ℕ, Bool, true, false, cond, List, [], ◌∷◌, length, map, nat_eq, slice_get, refl, sym, ap, ◌∙◌, subst, if◌then◌else◌, arith}
use Rattle.std.specs.Prelude.{Option, Some, None, Contains, is_some}
use Rattle.std.specs.List.{AllByRecursion}
use Rattle.std.specs.Option.{option_map, option_map_or, option_or, unwrap_or}
use Rattle.std.proofs.lemmas.Option.{slice_get-map}
use Rattle.ash_host.specs.Objects.{Elements, Bools, Ints, Uints, Int64s, Uint64s, Handles, Hosts, Plain, Script, Array, Host, LiveObjects, object_at, Lives}
use Rattle.ash_host.specs.Reach.{is_among}
use Rattle.ash_host.proofs.Membership.{is_among_yes, is_among_says}
use Rattle.ash_requests.specs.States.{LoadedModule}
use Rattle.ash_image.specs.Snapshots.{Loaded}
use Rattle.ash_image.specs.Delta.{Delta}
use Rattle.ash_states.specs.Indexes.{stored_of, stored_modules_of, index_in, plain_indexed, entry_indexed}
use Rattle.ash_states.specs.Images.{name_at, element_named, plain_named}
use Rattle.ash_image.specs.Leading.{name_there, elements_known, plain_known, by_name, object_by_name, objects_named, kept, LeadObjects}
use Rattle.ash_change_records.specs.ListedChanges.{listed}
use Rattle.ash_change_records.proofs.Listing.{at_listed}

-- a module by its index has the name that it has in a snapshot

there_is : (o : Option LoadedModule) → unwrap_or (option_map (λ (m : Loaded). m.name) (option_map stored_of o)) [] ≡ option_map_or (λ (m : LoadedModule). m.name) o []
there_is None = refl
there_is (Some m) = refl

name_there_is : (ms : List LoadedModule) (i : ℕ) → name_there (stored_modules_of ms) i ≡ name_at ms i
name_there_is ms i =
    ap (λ (o : Option Loaded). unwrap_or (option_map (λ (m : Loaded). m.name) o) []) (slice_get-map stored_of ms i) ∙ there_is (slice_get ms i)

module _ (one other : ℕ → List ℕ) (same : (i : ℕ) → one i ≡ other i) where
  elements_same : (of : Elements ℕ) → elements_known one of ≡ element_named other of
  elements_same Bools = refl
  elements_same Ints = refl
  elements_same Uints = refl
  elements_same Int64s = refl
  elements_same Uint64s = refl
  elements_same (Handles owner place) = ap (λ (n : List ℕ). Handles n place) (same owner)
  elements_same (Hosts kind) = refl

  plain_same : (o : Plain ℕ) → plain_known one o ≡ plain_named other o
  plain_same (Script owner place fields) = ap (λ (n : List ℕ). Script n place fields) (same owner)
  plain_same (Array of elements) = ap (λ (e : Elements (List ℕ)). Array e elements) (elements_same of)
  plain_same (Host kind state) = refl

-- an object comes back by its module's name
abbrev pub ComesBack : List LoadedModule → Plain (List ℕ) → Type 0
ComesBack ms o = plain_named (name_at ms) (plain_indexed (index_in ms) o) ≡ o

abbrev pub indexed : List LoadedModule → LiveObjects (List ℕ) → LiveObjects ℕ
indexed ms objects = map (entry_indexed (index_in ms)) objects

pub named_back : (ms : List LoadedModule) (objects : LiveObjects (List ℕ)) → AllByRecursion (λ (e : ℕ × Plain (List ℕ)). ComesBack ms e.1) objects
    → objects_named (stored_modules_of ms) (indexed ms objects) ≡ objects
named_back ms [] back = refl
named_back ms (e ∷ objects) back =
    ap (λ (o : Plain (List ℕ)). (e.0, o) ∷ objects_named (stored_modules_of ms) (indexed ms objects))
    (plain_same (name_there (stored_modules_of ms)) (name_at ms) (name_there_is ms) (plain_indexed (index_in ms) e.1) ∙ back.0)
    ∙ ap (λ (os : LiveObjects (List ℕ)). e ∷ os) (named_back ms objects back.1)

at_named : (ms : List Loaded) (n : ℕ) (objects : LiveObjects ℕ) → object_at n (objects_named ms objects) ≡ option_map (by_name ms) (object_at n objects)
at_named ms n [] = refl
at_named ms n (e ∷ objects) = by (nat_eq n e.0) (at_named ms n objects)
  where
    by : (b : Bool) → object_at n (objects_named ms objects) ≡ option_map (by_name ms) (object_at n objects)
        → cond b (Some (by_name ms e.1)) (object_at n (objects_named ms objects)) ≡ option_map (by_name ms) (cond b (Some e.1) (object_at n objects))
    by true rest = refl
    by false rest = rest

module _ (ms : List LoadedModule) (before after : LiveObjects (List ℕ)) (living gone : List ℕ)
    (back : AllByRecursion (λ (e : ℕ × Plain (List ℕ)). ComesBack ms e.1) after)
    (same : (n : ℕ) → (Contains living n → ⊥) → (Contains gone n → ⊥) → object_at n after ≡ object_at n before)
    (live : (n : ℕ) → Contains living n → Lives after n)
    (went : (n : ℕ) → Contains gone n → Lives before n × (object_at n after ≡ None)) where
  abbrev put : LiveObjects ℕ
  put = listed (λ n. object_at n (indexed ms after)) living

  mapped_cond : (b : Bool) (o : Option (Plain ℕ)) → option_map (by_name (stored_modules_of ms)) (cond b o None) ≡ cond b (option_map (by_name (stored_modules_of ms)) o) None
  mapped_cond true o = refl
  mapped_cond false o = refl

  put_is : (n : ℕ) → object_by_name (stored_modules_of ms) put n ≡ cond (is_among living n) (object_at n after) None
  put_is n =
      ap (option_map (by_name (stored_modules_of ms))) (at_listed (λ n. object_at n (indexed ms after)) n living)
      ∙ mapped_cond (is_among living n) (object_at n (indexed ms after))
      ∙ ap (λ (o : Option (Plain (List ℕ))). cond (is_among living n) o None)
      (sym (at_named (stored_modules_of ms) n (indexed ms after)) ∙ ap (λ (os : LiveObjects (List ℕ)). object_at n os) (named_back ms after back))

  first_stays : (o rest : Option (Plain (List ℕ))) → is_some o ≡ true → o ≡ option_or o rest
  first_stays None rest lives = absurd (cc)
  first_stays (Some x) rest lives = refl

  at_number : (n : ℕ) (put_here gone_here : Bool) → is_among living n ≡ put_here → is_among gone n ≡ gone_here
      → object_at n after ≡ option_or (cond put_here (object_at n after) None) (if gone_here then None else object_at n before)
  at_number n true g is is_gone = first_stays (object_at n after) (if g then None else object_at n before) (live n (is_among_says n living is))
  at_number n false true is is_gone = (went n (is_among_says n gone is_gone)).1
  at_number n false false is is_gone =
      same n (λ h. let yes = is_among_yes n living h in absurd (cc)) (λ h. let yes = is_among_yes n gone h in absurd (cc))

  pub objects_lead : (d : Delta) → d.put ≡ put → d.gone ≡ gone → LeadObjects d (stored_modules_of ms) before after
  objects_lead d put_same gone_same n =
      at_number n (is_among living n) (is_among gone n) refl refl
      ∙ ap (λ (o : Option (Plain (List ℕ))). option_or o (kept gone before n))
      (sym (put_is n) ∙ ap (λ (os : LiveObjects ℕ). object_by_name (stored_modules_of ms) os n) (sym put_same))
      ∙ ap (λ (ns : List ℕ). option_or (object_by_name (stored_modules_of ms) d.put n) (kept ns before n)) (sym gone_same)
