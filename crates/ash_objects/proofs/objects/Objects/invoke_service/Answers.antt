use Rattle.std.proofs.Common.{◌≡◌, ◌<◌, ℕ, length, get_or, subst, refl}
use Rattle.ash_objects.proofs.Newcomers.{got}
use Rattle.ash_objects.proofs.objects.Objects.invoke_service.Goals as goal

pub returns-in-NoMemory-clause-answered : goal.returns-in-NoMemory-clause-answered
returns-in-NoMemory-clause-answered g c =
    let services = c.self.inside.services.items in
    let before = c.index_mut-object.result.now in
    let within : c.args.service < length services = rw (← c.self.view_is) at c.requires.registered in
    let there = subst (λ (k : ℕ). before ≡ get_or services k before) c.from.ensures c.index_mut-object.ensures.value in
    record {
      before = before;
      after = c.invoke-answer.new.self;
      was = rw (← c.self.view_is) (got services c.args.service before within there);
      responds = record {
        allowed = c.invoke-answer.ensures.allowed;
        same_kind = c.invoke-answer.ensures.same_kind;
        same_relation = c.invoke-answer.ensures.same_relation;
        bounded = c.invoke-answer.ensures.bounded;
      };
      becomes = rw (← c.self.view_is, c.from.ensures) refl;
    }

pub returns-clause-answered : goal.returns-clause-answered
returns-clause-answered g c =
    let services = c.self.inside.services.items in
    let before = c.index_mut-object.result.now in
    let within : c.args.service < length services = rw (← c.self.view_is) at c.requires.registered in
    let there = subst (λ (k : ℕ). before ≡ get_or services k before) c.from.ensures c.index_mut-object.ensures.value in
    record {
      before = before;
      after = c.invoke-answer.new.self;
      was = rw (← c.self.view_is) (got services c.args.service before within there);
      responds = record {
        allowed = c.invoke-answer.ensures.allowed;
        same_kind = c.invoke-answer.ensures.same_kind;
        same_relation = c.invoke-answer.ensures.same_relation;
        bounded = c.invoke-answer.ensures.bounded;
      };
      becomes = rw (← c.self.view_is, c.from.ensures) refl;
    }
