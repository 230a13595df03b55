use Rattle.std.proofs.Common.{Err}
use Rattle.std.proofs.lemmas.Bool.{iff_false}
use Rattle.std.proofs.lemmas.Result.{err_from_is_err_and}
use Rattle.ash_durable.proofs.BatchReplies.{tried_unanswered, tried_answered, tried_delta}
use Rattle.ash_durable.proofs.batching.BatchRun.add.Goals as goal

pub returns-then-not-is_answered : goal.returns-then-not-is_answered
returns-then-not-is_answered g c = record {
  tries = λ live is.
      tried_unanswered live c.args.reply c.args.self.now c.reply.new.self c.reply.result
      (iff_false c.is_answered.ensures.exact c.if-not-is_answered.true) c.reply.ensures.added c.reply.ensures.body
      c.reply.ensures.answered c.reply.ensures.stop;
}

pub returns-in_err-add_delta : goal.returns-in_err-add_delta
returns-in_err-add_delta g c = record {
  tries = λ live is.
      let p = err_from_is_err_and c.from_residual.result c.from_residual.ensures.1 in
      rw (p.1, p.2) (tried_delta live c.args.reply c.args.self.now c.add_delta.new.self
      c.in_err-add_delta.field-0.0 (c.is_answered.ensures.exact.0 c.if-not-is_answered.false)
      c.in_err-add_delta.ensures.stop);
}

pub returns : goal.returns
returns g c = record {
  tries = λ live is.
      let said = c.in_ok-add_delta.ensures in
      tried_answered live c.args.reply c.args.self.now c.add_delta.new.self c.reply-2.new.self c.reply-2.result
      (c.is_answered.ensures.exact.0 c.if-not-is_answered.false) said.replies (said.added live is) said.answered
      said.short c.reply-2.ensures.added c.reply-2.ensures.body c.reply-2.ensures.answered c.reply-2.ensures.stop;
}
