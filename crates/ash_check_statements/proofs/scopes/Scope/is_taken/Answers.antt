use Rattle.std.proofs.Common.{ap, sym, ◌∙◌, map}
use Rattle.std.proofs.lemmas.List.{drop-map}
use Rattle.std.specs.List.{list_any}
use Rattle.ash_type_rules.specs.Environment.{declares}
use Rattle.ash_check_names.specs.EnvironmentViews.{binding_of}
use Rattle.ash_check_statements.proofs.scopes.Scope.is_taken.Goals as goal

pub returns : goal.returns
returns c = record {
  value =
      let same = ap (λ xs. list_any (declares c.args.name.now) (map binding_of xs)) c.locals_of_block.ensures.value in
      c.any_declares.ensures.name_declared ∙ same ∙ ap (list_any (declares c.args.name.now)) (sym (drop-map binding_of c.args.self.now.block_start c.args.locals.now));
}
