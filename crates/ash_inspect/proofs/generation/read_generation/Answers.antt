use Rattle.std.proofs.Common.{◌∙◌, refl, sym, subst, ℕ, List}
use Rattle.ash_disk.specs.Memory.{memory_bytes}
use Rattle.ash_journal.specs.Layout.{IsFile}
use Rattle.ash_journal.specs.Opening.{FaultIs}
use Rattle.ash_journal.specs.Reading.{bodies_of}
use Rattle.ash_inspect.proofs.FileLaws.{read_file}
use Rattle.ash_inspect.proofs.generation.read_generation.Goals as goal

pub returns-in-Ok-clause-found : goal.returns-in-Ok-clause-found
returns-in-Ok-clause-found c =
    let o = c.in-Ok.field-0 in
    subst (λ (n : ℕ). IsFile n o.image.items (bodies_of o.records.items) c.args.file.now) (sym c.generation.ensures.number)
    (read_file _ o.journal c.args.file.now o.image.items (bodies_of o.records.items)
    (c.in-Ok.ensures.first_read.seen refl ∙ c.in_ok-first.ensures.bytes)
    (c.in-Ok.ensures.second_read.seen refl ∙ c.new-second.ensures.bytes)
    (c.in-Ok.ensures.found refl refl))

pub returns-in-Err-clause-fault : goal.returns-in-Err-clause-fault
returns-in-Err-clause-fault c =
    let fault = c.in-Err.refused.fault in
    let is = c.in-Err.ensures.fault refl refl in
    let is' = subst (λ (l : List ℕ). FaultIs fault l (memory_bytes c.new-second.result)) c.in_ok-first.ensures.bytes is in
    c.fault_of.ensures.same c.args.file.now (subst (λ (l : List ℕ). FaultIs fault c.args.file.now l) c.new-second.ensures.bytes is')
