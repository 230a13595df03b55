use Rattle.std.proofs.Common.{◌∙◌, ap, subst}
use Rattle.std.specs.Prelude.{IfOk}
use Rattle.ash_check_names.specs.NameIndex.{IsNameIndex, texts}
use Rattle.ash_check_names.proofs.name_index.index_of_interfaces.Goals as goal

pub returns : goal.returns
returns c = record {
  value = subst (λ names. IfOk c.name_index_of.result (λ places. IsNameIndex places names)) (ap texts c.deref.ensures.value ∙ c.in_ok-names.ensures.value) c.name_index_of.ensures.name_index;
}
