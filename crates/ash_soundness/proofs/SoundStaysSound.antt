-- Sound stays sound.
use Rattle.std.proofs.Common.{ℕ}
use Rattle.ash_meaning.specs.Functions.{body}
use Rattle.ash_soundness.specs.WellFormed.{Context, IsContext}
use Rattle.ash_soundness.specs.WellFormedLaws.{ExpressionsKeep, StatementsKeep, BlocksKeep, CallsKeep, MethodsKeep}
use Rattle.ash_soundness.proofs.Calls.{invoke_gives, target_gives}
use Rattle.ash_soundness.proofs.Expressions.{expression_gives}
use Rattle.ash_soundness.proofs.Statements.{stmt_leads, stmts_lead}
use Rattle.ash_soundness.proofs.Bodies.{keeps_bodies}

module _ {c : Context} (context : IsContext c) (depth : ℕ) where
  pub expressions_keep : ExpressionsKeep c depth
  expressions_keep env envs e of a same typed h = expression_gives context (body c.program depth) (keeps_bodies context depth) same typed h

  pub statements_keep : StatementsKeep c depth
  statements_keep scope envs s a same sound h = stmt_leads context (body c.program depth) (keeps_bodies context depth) depth sound same h

  pub blocks_keep : BlocksKeep c depth
  blocks_keep scope envs ss a same sound h = stmts_lead context (body c.program depth) (keeps_bodies context depth) depth sound same h

  pub calls_keep : CallsKeep c depth
  calls_keep env envs target parameters result args a is h carried = target_gives context (body c.program depth) (keeps_bodies context depth) args is h carried

  pub methods_keep : MethodsKeep c depth
  methods_keep env envs o method parameters result number shape args a is h at fits values = invoke_gives context (body c.program depth) (keeps_bodies context depth) number shape args is h at fits values
