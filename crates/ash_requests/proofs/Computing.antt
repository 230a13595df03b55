-- What computes where a worked run is proved.
use Rattle.std.specs.Int.{int_wrap}
use Rattle.ash_host.specs.Reach.{leads}
use Rattle.ash_meaning.specs.Releases.{sweep, release}
use Rattle.ash_meaning.specs.Frames.{leave}

unfoldable pub computing : Unit {0}
unfolding sweep release leave leads int_wrap
computing = tt
