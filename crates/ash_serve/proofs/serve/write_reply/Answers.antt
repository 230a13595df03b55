use Rattle.std.proofs.Common.{List, ℕ, inr, subst}
use Rattle.ash_serve.specs.CommandReplies.{command_reply_of, command_text}
use Rattle.ash_serve.specs.Serving.{HasCommand}
use Rattle.ash_serve.proofs.ServingLemmas.{flush_prompts, writes-flushes}
use Rattle.ash_serve.proofs.serve.write_reply.Goals as goal

pub returns-then-is_request-clause-prompt : goal.returns-then-is_request-clause-prompt
returns-then-is_request-clause-prompt g c =
    inr (subst (λ (bytes : List ℕ). HasCommand bytes) c.ready.ensures.ready (c.is_request.ensures.whole c.if-is_request.true))

pub returns-else-is_request : goal.returns-else-is_request
returns-else-is_request g c = record {
  written = writes-flushes g.K.Sink.outlet g.met.K.Sink.is_outlet _ _ _ (command_text (command_reply_of c.args.reply)) c.flush.result c.in_ok-write_command_reply.ensures.text c.flush.ensures.flushed;
  prompt = flush_prompts g.S.Source.feed g.K.Sink.outlet c.args.input.now _ _ c.flush.result c.flush.ensures.flushed;
}
