use Rattle.std.proofs.Common.{◌≡◌, length, ap, true, false, arith}
use Rattle.ash_image.specs.DeltaViews.{service_states_of}
use Rattle.ash_image.specs.ImageObjectViews.{service_of}
use Rattle.ash_image.specs.SnapshotViews.{services_of}
use Rattle.ash_image.proofs.LeadingLaws.{passed_there, failed_there, seen_length}
use Rattle.ash_image.proofs.leading.lead.Goals as goal

pub returns-then-not-are_services_there-clause-only : goal.returns-then-not-are_services_there-clause-only
returns-then-not-are_services_there-clause-only c = λ after leads.
    let services = c.args.state.services.items in
    let size : c.len.result ≡ length (services_of services) =
    omega (arith, seen_length service_of services, c.args.state.services.ok.0) in
    let failed : c.are_services_there.result ≡ false = grind arith in
    absurd (failed_there (service_states_of c.args.delta.services.items) (service_states_of c.deref.result.now)
    c.len.result (length (services_of services)) c.are_services_there.result c.are_services_there.ensures.value
    (ap service_states_of c.deref.ensures.value) size failed leads.services.there)

pub set_services-requires : goal.set_services-requires
set_services-requires c =
    let services = c.args.state.services.items in
    let size : c.len.result ≡ length services = omega (arith, c.args.state.services.ok.0) in
    let passed : c.are_services_there.result ≡ true = grind arith in
    record {
      there = passed_there (service_states_of c.args.delta.services.items) (service_states_of c.deref.result.now)
          c.len.result (length services) c.are_services_there.result c.are_services_there.ensures.value
          (ap service_states_of c.deref.ensures.value) size passed;
    }
