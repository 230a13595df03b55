use Rattle.std.proofs.Common.{◌≡◌, ℕ, Vec, Global, ap, ◌∙◌, rules}
use Rattle.ash_disk.proofs.CallLaws.{write_more, sync_more, torn_more, synced_more}
use Rattle.ash_disk.proofs.crash.image_of_part.Goals as goal
use Rattle.ash_disk.proofs.crash.image_of_part.Goals.{in-Write+in_ok-tear-in-Write+in_ok-overwrite-in-Write}
use Rattle.ash_disk.proofs.crash.image_of_part.Goals.{in-Sync+in_ok-image-in-Sync}

pub loop-call-preserved : goal.loop-call-preserved
loop-call-preserved c =
    elim c.match-call.branch [
      | in-Write+in_ok-tear-in-Write+in_ok-overwrite-in-Write w ↦ record {
        read =
            write_more c.args.first.now c.args.calls.now c.loop-call.call-index c.call-item.result c.loop-call-test.true
            c.call-item.is w.in-Write.at w.in-Write.bytes w.deref-in-Write.result.now c.loop-call.file.items
            c.match-call.file.items w.in-Write.is w.deref-in-Write.ensures.value c.loop-call.invariant.read
            (ap (λ (v : Vec ℕ Global). v.items) w.file-is ∙ w.in_ok-overwrite-in-Write.ensures.ok);
        left =
            torn_more c.args.first.now c.args.calls.now c.loop-call.call-index c.call-item.result c.loop-call-test.true
            c.call-item.is w.in-Write.at w.in-Write.bytes w.deref.result.now c.loop-call.image.items
            c.match-call.image.items w.in-Write.is w.deref.ensures.value c.loop-call.invariant.left
            (rw (← w.image-is) at w.in_ok-tear-in-Write.ensures.torn);
      }
      | in-Sync+in_ok-image-in-Sync w ↦
          let copied : w.in_ok-image-in-Sync.image.items ≡ c.loop-call.file.items = search rules in
          record {
            read =
                sync_more c.args.first.now c.args.calls.now c.loop-call.call-index c.call-item.result
                c.loop-call-test.true c.call-item.is c.match-call.file.items w.in-Sync.is
                (ap (λ (v : Vec ℕ Global). v.items) w.file-is ∙ c.loop-call.invariant.read);
            left =
                synced_more c.args.first.now c.args.calls.now c.loop-call.call-index c.call-item.result
                c.loop-call-test.true c.call-item.is c.loop-call.file.items c.match-call.image.items w.in-Sync.is
                c.loop-call.invariant.read (ap (λ (v : Vec ℕ Global). v.items) w.image-is ∙ copied);
          }
    ]
