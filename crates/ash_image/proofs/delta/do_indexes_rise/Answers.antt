use Rattle.std.proofs.Common.{◌≡◌, ℕ, ◌+◌, ◌<◌, Bool, true, ◌&&◌, ltb, List, ◌∷◌, length, get_or, drop, sym, ◌∙◌, ap, refl, add-one, arith}
use Rattle.std.proofs.Math.Seq.{drop-cons}
use Rattle.std.proofs.lemmas.Bool.{lt-ltb}
use Rattle.ash_host.specs.Objects.{numbers}
use Rattle.ash_image.specs.declared.stored_delta.StoredService.{StoredService}
use Rattle.ash_image.specs.Image.{do_rise}
use Rattle.ash_image.specs.DeltaViews.{service_state_of, service_states_of}
use Rattle.ash_image.proofs.delta.do_indexes_rise.Goals as goal

-- an index above the last one is passed over
one_more : (last next : StoredService) (rest : List StoredService) (i : ℕ) (all : Bool)
    → i < length rest → next ≡ get_or rest i next → last.index < next.index
    → do_rise (numbers (service_state_of last ∷ service_states_of (drop i rest))) ≡ all
    → do_rise (numbers (service_state_of next ∷ service_states_of (drop (i + 1) rest))) ≡ all
one_more last next rest i all within is above e =
    let there : drop i rest ≡ next ∷ drop (i + 1) rest = drop-cons rest i next within ∙ rw (sym is) (rw add-one refl) in
    let as_one : do_rise (numbers (service_state_of last ∷ service_states_of (next ∷ drop (i + 1) rest))) ≡ all =
    sym (ap (λ (more : List StoredService). do_rise (numbers (service_state_of last ∷ service_states_of more))) there) ∙ e in
    let less : ltb last.index next.index ≡ true = lt-ltb _ _ above in
    sym (ap (λ (b : Bool). b && do_rise (numbers (service_state_of next ∷ service_states_of (drop (i + 1) rest)))) less) ∙ as_one

pub loop-service-preserved : goal.loop-service-preserved
loop-service-preserved c =
    one_more c.loop-service.last.now c.service-item.result c.in-Some.rest.now c.loop-service.service-index _
    c.loop-service-test.true c.service-item.is (omega arith) c.loop-service.invariant
