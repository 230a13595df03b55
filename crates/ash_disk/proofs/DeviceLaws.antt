-- Disks that are only read.
use Rattle.std.proofs.Common.{refl, sym, ◌∙◌, subst, IsTrue}
use Rattle.ash_disk.specs.Device.{Device, IsOnlyRead}
use Rattle.ash_disk.proofs.MomentLaws.{at_start, at_end, goes_on, weaker}

module _ {D : Type 0} (device : Device D) where
  pub read_none : (disk : D) → IsOnlyRead device disk disk
  read_none disk = record {
    honesty = refl;
    seen = λ _. refl;
    moments = λ _.
        at_start (device.clock disk) (device.leaves disk) (device.leaves disk (device.clock disk)) (λ image left. left);
  }

  pub read_on : (a b c : D) → IsOnlyRead device a b → IsOnlyRead device b c → IsOnlyRead device a c
  read_on a b c one two = record {
    honesty = two.honesty ∙ one.honesty;
    seen = λ is. two.seen (subst IsTrue (sym one.honesty) is) ∙ one.seen is;
    moments = λ is.
        let first = one.moments is in
        goes_on (device.clock a) (device.clock b) (device.clock c) (device.leaves a) (device.leaves b) (device.leaves c)
        (device.leaves a (device.clock a)) first
        (weaker (device.clock b) (device.clock c) (device.leaves b) (device.leaves c) (device.leaves b (device.clock b))
        (device.leaves a (device.clock a))
        (at_end (device.clock a) (device.clock b) (device.leaves a) (device.leaves b)
        (device.leaves a (device.clock a)) first) (two.moments (subst IsTrue (sym one.honesty) is)));
  }
