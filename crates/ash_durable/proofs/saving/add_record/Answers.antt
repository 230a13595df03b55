use Rattle.std.proofs.Common.{Err, ap}
use Rattle.ash_journal.specs.declared.error.AppendError.{AppendError}
use Rattle.ash_durable.proofs.Committing.{record_added, record_refused, record_in_doubt}
use Rattle.ash_durable.proofs.Outcomes.{counts_as}
use Rattle.ash_durable.proofs.saving.add_record.Goals as goal

pub returns-in-Ok : goal.returns-in-Ok
returns-in-Ok g c = record {
  adds =
      let said = c.in-Ok.ensures in
      record_added g.D.Disk c.args.body.now c.args.journal.now c.append.new.self said.extends said.untouched
      said.acknowledged (said.ready (λ is. cc)) said.number said.longer
      (record {
        failures = counts_as _ _ _ _ _ _ (λ is. cc) (λ no. absurd no) said.cause;
        honesty_first = said.honesty_first;
        honesty_second = said.honesty_second;
      });
}

pub returns-in-Err-NoMemory : goal.returns-in-Err-NoMemory
returns-in-Err-NoMemory g c = record {
  adds =
      let said = c.in-Err-NoMemory.ensures in
      let is_refused = ap (λ (e : AppendError). Err e) c.in-Err-NoMemory.field-0-is in
      record_refused g.D.Disk c.args.body.now c.args.journal.now c.append.new.self said.extends said.untouched
      (said.memory is_refused)
      (record {
        failures = counts_as _ _ _ _ _ _ (λ is. let h = is_refused in cc) (λ no. absurd no) said.cause;
        honesty_first = said.honesty_first;
        honesty_second = said.honesty_second;
      });
}

pub returns-in-Err-DeviceFailed : goal.returns-in-Err-DeviceFailed
returns-in-Err-DeviceFailed g c = record {
  adds =
      let said = c.in-Err-DeviceFailed.ensures in
      let is_failed = ap (λ (e : AppendError). Err e) c.in-Err-DeviceFailed.field-0-is in
      record_in_doubt g.D.Disk c.args.body.now c.args.journal.now c.append.new.self said.extends said.untouched
      (said.failed is_failed)
      (record {
        failures = counts_as _ _ _ _ _ _ (λ is. tt) (λ is. is_failed) said.cause;
        honesty_first = said.honesty_first;
        honesty_second = said.honesty_second;
      });
}
