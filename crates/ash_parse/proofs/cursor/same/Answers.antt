use Rattle.ash_parse.proofs.Signs.{same_sign_of}
use Rattle.ash_parse.proofs.cursor.same.Goals as goal

pub returns : goal.returns
returns c = record { value = let h = c.equal.ensures.exact in same_sign_of c.equal.result c.args.a c.args.b h.0 h.1 }
