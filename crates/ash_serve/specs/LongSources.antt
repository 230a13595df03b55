-- A host over two disks does not look past the prefix of a source that is stored.
use Rattle.std.specs.Prelude.{◌≡◌, ℕ, List, [], ◌∷◌, map, refl}
use Rattle.std.proofs.Common.{sym, ap, ◌∙◌, subst}
use Rattle.ash_disk.specs.Device.{Device}
use Rattle.ash_host.specs.declared.host_object.HostObject.{Ghosts}
use Rattle.ash_requests.specs.Requests.{Load, Call, Discard, Get, Object, Seq, Snapshot}
use Rattle.ash_durable.specs.Batches.{BatchRequest, Asked, BadRequest, HandlesBatch, prefixed}
use Rattle.ash_durable.specs.Hosting.{Handles}
use Rattle.ash_durable.proofs.LongSources.{handles_prefix, handles_batch_prefix}
use Rattle.ash_lines.specs.Reading.{source_prefix}
use Rattle.ash_serve.specs.BatchLines.{prefix_of}
use Rattle.ash_serve.specs.Serving.{DependsOnPrefix, BatchDependsOnPrefix}

pub handles_by_prefix : {D B : Type 0} (device : Device D) (G : Ghosts B) (budget : ℕ)
    → DependsOnPrefix (Handles device G budget)
unfolding source_prefix
handles_by_prefix device G budget name source old new reply h =
    handles_prefix device G budget name (source_prefix source) source old reply new refl h

same_prefix : (request : BatchRequest) → prefixed request ≡ prefix_of request
unfolding source_prefix
same_prefix (Asked (Load name source)) = refl
same_prefix (Asked (Call module_name function arguments)) = refl
same_prefix (Asked (Discard name)) = refl
same_prefix (Asked (Get module_name name)) = refl
same_prefix (Asked (Object number)) = refl
same_prefix (Asked Seq) = refl
same_prefix (Asked Snapshot) = refl
same_prefix (BadRequest number) = refl

same_prefixes : (requests : List BatchRequest) → map prefixed requests ≡ map prefix_of requests
same_prefixes [] = refl
same_prefixes (request ∷ requests) =
    ap (λ (first : BatchRequest). first ∷ map prefixed requests) (same_prefix request)
    ∙ ap (λ (others : List BatchRequest). prefix_of request ∷ others) (same_prefixes requests)

pub batch_by_prefix : {D B : Type 0} (device : Device D) (G : Ghosts B) (budget : ℕ)
    → BatchDependsOnPrefix (HandlesBatch device G budget)
batch_by_prefix device G budget requests old new result h =
    handles_batch_prefix device G budget requests old result new
    (subst (λ (asked : List BatchRequest). HandlesBatch device G budget asked old result new)
    (sym (same_prefixes requests)) h)
