use Rattle.std.proofs.Common.{refl}
use Rattle.ash_lines.specs.Reader.{reader_is_feed}
use Rattle.ash_lines.proofs.ReaderLemmas.{unready}
use Rattle.ash_lines.proofs.reader.ReaderSource.next.Goals as goal

pub returns-in-Failed : goal.returns-in-Failed
returns-in-Failed g c = record {
  byte = (c.args.self.now, (reader_is_feed g.R.Read.remaining).nothing c.args.self.now, refl);
  ready = unready _ _ _ _ _ _ c.in-Failed.ensures.buffered tt;
}
