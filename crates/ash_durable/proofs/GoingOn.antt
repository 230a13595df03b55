-- A run goes on by one request.
use Rattle.std.proofs.Common.{◌≡◌, ℕ, ◌+◌, ◌<◌, ◌≤◌, List, [], ◌∷◌, ◌++◌, map, drop, length, get_or, refl, sym, ◌∙◌, ap}
use Rattle.std.proofs.Common.{subst, add-one, drop-cons}
use Rattle.std.proofs.Math.ListN.{drop_of_length-le}
use Rattle.std.proofs.lemmas.List.{append-nil}
use Rattle.ash_disk.specs.Device.{Device}
use Rattle.ash_host.specs.declared.host_object.HostObject.{Ghosts}
use Rattle.ash_requests.specs.Requests.{Request, Reply}
use Rattle.ash_sources.specs.SourceFaults.{SourceFault}
use Rattle.ash_durable.specs.Hosting.{Hosted, Handles, HandlesAll}
use Rattle.ash_durable.specs.Batches.{HandlesCalls, single_calls, single_results}

replied_last : {A : Type 0} (replied : A → Reply SourceFault) (replies : List A) (reply : A)
    (more : List (Reply SourceFault))
    → map replied replies ++ (replied reply ∷ more) ≡ map replied (replies ++ reply ∷ []) ++ more
replied_last replied [] reply more = refl
replied_last replied (x ∷ xs) reply more = ap (λ rest. replied x ∷ rest) (replied_last replied xs reply more)

pub one_more : {D B Q A : Type 0} (device : Device D) (G : Ghosts B) (view : Q → Request)
    (replied : A → Reply SourceFault) (budget : ℕ)
    (first before after new : Hosted D B) (requests : List Q) (i : ℕ) (d : Q) (replies grown : List A) (reply : A)
    (more : List (Reply SourceFault))
    → i < length requests
    → grown ≡ replies ++ reply ∷ []
    → Handles device G budget (view (get_or requests i d)) before (replied reply) after
    → ((rest : List (Reply SourceFault)) (end : Hosted D B)
    → HandlesAll device G budget before (map view (drop i requests)) rest end
    → HandlesAll device G budget first (map view requests) (map replied replies ++ rest) end)
    → HandlesAll device G budget after (map view (drop (i + 1) requests)) more new
    → HandlesAll device G budget first (map view requests) (map replied grown ++ more) new
one_more device G view replied budget first before after new requests i d replies grown reply more lt is_grown step
    go_on rest =
    let whole : HandlesAll device G budget before (map view (drop i requests)) (replied reply ∷ more) new =
    rw (drop-cons requests i d) (after, step, rw add-one at rest) in
    subst (λ (replied_all : List (Reply SourceFault)). HandlesAll device G budget first
    (map view requests) replied_all new)
    (replied_last replied replies reply more ∙ ap (λ (all : List _). map replied all ++ more) (sym is_grown))
    (go_on (replied reply ∷ more) new whole)

pub nothing_left : {D B Q A : Type 0} (device : Device D) (G : Ghosts B) (view : Q → Request)
    (replied : A → Reply SourceFault)
    (budget : ℕ)
    (first last : Hosted D B) (requests : List Q) (i : ℕ) (replies : List A)
    → length requests ≤ i
    → ((rest : List (Reply SourceFault)) (end : Hosted D B)
    → HandlesAll device G budget last (map view (drop i requests)) rest end
    → HandlesAll device G budget first (map view requests) (map replied replies ++ rest) end)
    → HandlesAll device G budget first (map view requests) (map replied replies) last
nothing_left device G view replied budget first last requests i replies passed go_on =
    let done : HandlesAll device G budget last (map view (drop i requests)) [] last =
    rw (drop_of_length-le requests passed) refl in
    rw append-nil at (go_on [] last done)

-- requests that were handled are calls of their own
pub as_calls : {D B : Type 0} (device : Device D) (G : Ghosts B) (budget : ℕ) (old : Hosted D B)
    (requests : List Request) (replies : List (Reply SourceFault)) (new : Hosted D B)
    → HandlesAll device G budget old requests replies new
    → HandlesCalls device G budget old (single_calls requests) (single_results replies) new
as_calls device G budget old [] [] new all = all
as_calls device G budget old (request ∷ requests) (reply ∷ replies) new all =
    (all.0, all.1, as_calls device G budget all.0 requests replies new all.2)
as_calls device G budget old [] (reply ∷ replies) new all = absurd all
as_calls device G budget old (request ∷ requests) [] new all = absurd all
