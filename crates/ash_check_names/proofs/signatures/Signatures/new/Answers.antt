use Rattle.std.proofs.Common.{map, ap, subst}
use Rattle.ash_check_names.specs.NameIndex.{IsNameIndex}
use Rattle.ash_check_names.proofs.signatures.Signatures.new.Goals as goal

pub invariant_of-result-clause-interfaces_indexed : goal.invariant_of-result-clause-interfaces_indexed
invariant_of-result-clause-interfaces_indexed c = subst (IsNameIndex c.in_ok-indexes.indexes.interfaces) (ap (map (λ x. x.name.now)) c.deref.ensures.value) c.in_ok-indexes.ensures.interfaces

pub invariant_of-result-clause-classes_indexed : goal.invariant_of-result-clause-classes_indexed
invariant_of-result-clause-classes_indexed c = subst (IsNameIndex c.in_ok-indexes.indexes.classes) (ap (map (λ x. x.name.now)) c.deref-2.ensures.value) c.in_ok-indexes.ensures.classes

pub invariant_of-result-clause-functions_indexed : goal.invariant_of-result-clause-functions_indexed
invariant_of-result-clause-functions_indexed c = subst (IsNameIndex c.in_ok-indexes.indexes.functions) (ap (map (λ x. x.name.now)) c.deref-3.ensures.value) c.in_ok-indexes.ensures.functions

pub invariant_of-result-clause-globals_indexed : goal.invariant_of-result-clause-globals_indexed
invariant_of-result-clause-globals_indexed c = subst (IsNameIndex c.in_ok-indexes.indexes.globals) (ap (map (λ x. x.name.now)) c.deref-4.ensures.value) c.in_ok-indexes.ensures.globals
