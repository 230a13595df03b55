use Rattle.std.proofs.Common.{◌≡◌, ℕ, List, [], refl, sym, ◌∙◌, subst}
use Rattle.std.specs.Prelude.{Contains}
use Rattle.std.specs.List.Sorted.{IsStrictlyIncreasing}
use Rattle.ash_soundness.proofs.Values.{none_in}
use Rattle.ash_engine.proofs.AtRest.{gone_taken, marked_none}
use Rattle.ash_engine.proofs.ListableChanges.{none_rise}
use Rattle.ash_engine.proofs.resting.changes_at_rest.Goals as goal

pub returns-clause-taken : goal.returns-clause-taken
returns-clause-taken g c = λ happened uncalled. record {
  called = λ place. (
    λ is. absurd (none_in place (subst (λ (l : List ℕ). Contains l place) c.new.ensures.items is)),
    λ called. absurd (uncalled place called),
  );
  same_modules = refl;
  living = c.new-2.ensures.items
      ∙ sym (marked_none c.args.table.now c.facts.ensures.sound.numbered.in_order c.requires.unmarked);
  gone =
      λ number.
      let same = c.sort_numbers.ensures.same number in
      let gone = c.take_gone-gone.ensures.gone in (
        λ is. subst (λ (l : List ℕ). Contains l number) gone (same.0 is),
        λ is. same.1 (subst (λ (l : List ℕ). Contains l number) (sym gone) is),
      );
  services_rise = subst (λ (l : List ℕ). IsStrictlyIncreasing l) (sym c.new.ensures.items) none_rise;
  gone_rise = c.sort_numbers.ensures.rise;
}

pub returns-clause-settled : goal.returns-clause-settled
returns-clause-settled g c = c.take_gone-gone.ensures.taken
    ∙ gone_taken c.args.table.now c.facts.ensures.sound.numbered.in_order c.requires.unmarked
