-- The first request of a batch that may add a record.
use Rattle.std.proofs.Common.{◌≡◌, ℕ, ◌+◌, ◌<◌, ◌≤◌, List, [], ◌∷◌, map, length, get_or, drop, drop-cons}
use Rattle.std.proofs.Common.{add-one, Option, Some, None, refl, sym, ◌∙◌, ap}
use Rattle.std.proofs.Math.ListN.{drop_of_length-le}
use Rattle.ash_requests.specs.Requests.{Request, Load, Call, Discard, Get, Object, Seq, Snapshot}
use Rattle.ash_durable.specs.Batches.{BatchRequest, Asked, BadRequest, adding_request}
use Rattle.ash_durable.specs.BatchRuns.{adding_one}

-- it is not one that adds none
adding_later : (r : BatchRequest) (rs : List BatchRequest) → adding_one r ≡ None
    → adding_request (r ∷ rs) ≡ adding_request rs
unfolding adding_request
adding_later (Asked (Load name source)) rs none = absurd (cc)
adding_later (Asked (Call name function args)) rs none = absurd (cc)
adding_later (Asked (Discard name)) rs none = absurd (cc)
adding_later (Asked (Get name global)) rs none = refl
adding_later (Asked (Object number)) rs none = refl
adding_later (Asked Seq) rs none = refl
adding_later (Asked Snapshot) rs none = refl
adding_later (BadRequest number) rs none = refl

-- it is the first that adds one
adding_first : (r : BatchRequest) (rs : List BatchRequest) (request : Request) → adding_one r ≡ Some request
    → adding_request (r ∷ rs) ≡ request
unfolding adding_request
adding_first (Asked (Load name source)) rs request some = cc
adding_first (Asked (Call name function args)) rs request some = cc
adding_first (Asked (Discard name)) rs request some = cc
adding_first (Asked (Get name global)) rs request some = absurd (cc)
adding_first (Asked (Object number)) rs request some = absurd (cc)
adding_first (Asked Seq) rs request some = absurd (cc)
adding_first (Asked Snapshot) rs request some = absurd (cc)
adding_first (BadRequest number) rs request some = absurd (cc)

module _ {Q : Type 0} (view : Q → BatchRequest) (xs : List Q) (i : ℕ)
    (so_far : adding_request (map view xs) ≡ adding_request (map view (drop i xs))) where
  cut : (d : Q) → i < length xs
      → adding_request (map view xs) ≡ adding_request (view (get_or xs i d) ∷ map view (drop (i + 1) xs))
  cut d there =
      let both : drop i xs ≡ get_or xs i d ∷ drop (i + 1) xs = rw add-one (drop-cons xs i d there) in
      so_far ∙ ap (λ (ys : List Q). adding_request (map view ys)) both

  pub adding_next : (d : Q) → i < length xs → adding_one (view (get_or xs i d)) ≡ None
      → adding_request (map view xs) ≡ adding_request (map view (drop (i + 1) xs))
  adding_next d there none = cut d there ∙ adding_later (view (get_or xs i d)) (map view (drop (i + 1) xs)) none

  pub adding_found : (d : Q) → i < length xs → (request : Request) → adding_one (view (get_or xs i d)) ≡ Some request
      → adding_request (map view xs) ≡ request
  adding_found d there request some =
      cut d there ∙ adding_first (view (get_or xs i d)) (map view (drop (i + 1) xs)) request some

  pub adding_none : length xs ≤ i → adding_request (map view xs) ≡ Seq
  unfolding adding_request
  adding_none past = so_far ∙ ap (λ (ys : List Q). adding_request (map view ys)) (drop_of_length-le xs past)
