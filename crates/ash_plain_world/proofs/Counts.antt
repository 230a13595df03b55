-- How many fields and elements are handles to an object.
use Rattle.std.proofs.Common.{◌≡◌, ◌+◌, ℕ, List, ◌∷◌, map}
use Rattle.std.specs.Map.{values_of}
use Rattle.std.proofs.lemmas.List.Sums.{sum_by-cons}
use Rattle.ash_host.specs.Objects.{Plain, fields_of, handles_to, fields_to}
use Rattle.ash_plain_data.specs.declared.object.Object as object
use Rattle.ash_plain_data.specs.ObjectViews.{object_seen, entry_seen}

pub more_fields : (number : ℕ) (e : ℕ × object.Object) (es : List (ℕ × object.Object)) → fields_to number (map entry_seen (e ∷ es)) ≡ handles_to number (fields_of (object_seen e.1)) + fields_to number (map entry_seen es)
more_fields number e es = sum_by-cons (λ (o : Plain (List ℕ)). handles_to number (fields_of o)) (object_seen e.1) (values_of (map entry_seen es))
