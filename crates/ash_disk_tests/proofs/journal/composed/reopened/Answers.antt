use Rattle.std.proofs.Common.{◌≡◌, ◌∷◌, [], List, ℕ, IsTrue, Bool, true, false, sym, ap, subst}
use Rattle.ash_journal.specs.OtherState.{first_of, second_of}
use Rattle.ash_journal.specs.Current.{Contents, IsContents}
use Rattle.ash_journal.specs.Journal.{second_disk, Holds}
use Rattle.ash_journal.specs.Reading.{bodies_of}
use Rattle.ash_journal.specs.SettledSince.{HoldsSince}
use Rattle.ash_journal.proofs.RunLaws.{represented}
use Rattle.ash_disk_tests.proofs.journal.composed.reopened.Goals as goal

-- both disks of a journal are honest, whichever is the first
both_honest : {D : Type 0} (honest : D → Bool) (swapped : Bool) (c o : D) → IsTrue (honest c) → IsTrue (honest o)
    → IsTrue (honest (first_of swapped c o)) × IsTrue (honest (second_of swapped c o))
both_honest honest false c o honest_c honest_o = (honest_c, honest_o)
both_honest honest true c o honest_c honest_o = (honest_o, honest_c)

-- an image and records by their parts
the_one : (image other : List ℕ) (bodies others : List (List ℕ)) → IsContents (other, others) (image, bodies)
    → (image ≡ other) × (bodies ≡ others)
the_one image other bodies others same = (ap (λ (p : Contents). p.0) same, ap (λ (p : Contents). p.1) same)

pub returns-in-Ok-settle-clause-found : goal.returns-in-Ok-settle-clause-found
returns-in-Ok-settle-clause-found g c was bodies holds =
    let d = g.D.Disk in
    let image = c.args.image.now in
    let body = c.args.body.now in
    let j = c.append.new.self in
    let empty = c.in-Ok.ensures.installed was bodies holds in
    let one = c.in-Ok-append.ensures.acknowledged image [] empty in
    let honest = both_honest d.honest j.swapped j.current j.other one.files.current_honest one.files.other_honest in
    let first = c.close-first.result.0 in
    let second = c.close-first.result.1 in
    let first_honest = subst (λ x. IsTrue (d.honest x)) (sym c.close-first.ensures.first) honest.0 in
    let second_honest = subst (λ x. IsTrue (d.honest x)) (sym c.close-first.ensures.second) honest.1 in
    let run = subst (λ x. HoldsSince d (d.clock x) (d.clock (second_disk j)) x (second_disk j) (IsContents (image, body ∷ [])))
    (sym c.close-first.ensures.first) one.run in
    let run' = subst (λ y. HoldsSince d (d.clock first) (d.clock y) first y (IsContents (image, body ∷ [])))
    (sym c.close-first.ensures.second) run in
    let o = c.in-Ok-open.found in
    let is = c.in-Ok-open.ensures.represented first_honest second_honest in
    the_one o.image.items image (bodies_of o.records.items) (body ∷ [])
    (represented d (d.clock first) (d.clock second) first second (IsContents (image, body ∷ []))
    (o.image.items, bodies_of o.records.items) (d.seen first) (d.seen second)
    (g.met.D.Disk.seen_may_stay first first_honest) (g.met.D.Disk.seen_may_stay second second_honest) run' is)

pub returns-in-Ok-settle-clause-holds : goal.returns-in-Ok-settle-clause-holds
returns-in-Ok-settle-clause-holds g c was bodies holds =
    let d = g.D.Disk in
    let image = c.args.image.now in
    let body = c.args.body.now in
    let j = c.append.new.self in
    let empty = c.in-Ok.ensures.installed was bodies holds in
    let one = c.in-Ok-append.ensures.acknowledged image [] empty in
    let honest = both_honest d.honest j.swapped j.current j.other one.files.current_honest one.files.other_honest in
    let first_honest = subst (λ x. IsTrue (d.honest x)) (sym c.close-first.ensures.first) honest.0 in
    let second_honest = subst (λ x. IsTrue (d.honest x)) (sym c.close-first.ensures.second) honest.1 in
    let o = c.in-Ok-open.found in
    let same = returns-in-Ok-settle-clause-found g c was bodies holds in
    let settled = c.in-Ok-settle.ensures.settled o.image.items (bodies_of o.records.items)
    (c.in-Ok-open.ensures.found first_honest second_honest) in
    let settled' = subst (λ (i : List ℕ). Holds d c.settle.new.self i (bodies_of o.records.items)) same.0 settled in
    subst (λ (bs : List (List ℕ)). Holds d c.settle.new.self image bs) same.1 settled'
