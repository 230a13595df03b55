use Rattle.std.proofs.Common.{refl}
use Rattle.ash_image.proofs.MoveLaws.{one_fits_two, shaped_fits_two}
use Rattle.ash_image.proofs.image.version_one_moves.Goals as goal

pub returns : goal.returns
returns c = record {
  fits = one_fits_two;
  moves = λ bytes s h. ((one_fits_two s h.0.0, refl), h.1);
  shaped = λ s h. (shaped_fits_two h.0 s h.1, h.2);
  same = λ s. refl;
}
