-- What tables mark and events say is all that a request changed.
use Rattle.std.proofs.Common.{ℕ, sym, ap, ◌∙◌, subst}
use Rattle.std.specs.Prelude.{Contains, is_some}
use Rattle.std.specs.Option.{option_map}
use Rattle.ash_host.specs.declared.host_object.HostObject.{Ghosts}
use Rattle.ash_host.specs.Objects.{object_at}
use Rattle.ash_objects.specs.Marking.{marked_of}
use Rattle.ash_object_ranks.proofs.ShownTables.{living_shown, lives_shown, shown_at}
use Rattle.ash_requests.specs.States.{Embedding}
use Rattle.ash_change_laws.specs.MarkedObjects.{MarksName}
use Rattle.ash_change_laws.specs.ChangedStates.{StepsAreNamed}
use Rattle.ash_change_laws.proofs.MarkedObjects.{marks_name, marks_name_objects}
use Rattle.ash_change_laws.proofs.RequestsKeep.{steps_keep}

module _ {F B : Type 0} (G : Ghosts B) where
  pub steps_are_named : (embedding : Embedding F) (budget : ℕ) → StepsAreNamed G embedding budget
  steps_are_named embedding budget request before hosts one names later old new c is by = record {
    called = by.called;
    services = λ place unlisted. steps_keep embedding budget request before hosts one is place (λ called. unlisted ((by.called place).1 called));
    modules = by.modules;
    objects = λ n unmarked stays.
        ap (object_at n) by.shown_after
        ∙ marks_name_objects G names later old new marks by.same_names n (λ is. unmarked (unlist n is)) (λ is. stays ((by.gone n).1 is))
        ∙ sym (ap (object_at n) by.shown_before);
    live = λ n is.
        ap (λ l. is_some (object_at n l)) by.shown_after
        ∙ lives_shown G later n new.objects
        ∙ marks.live n (subst (λ ns. Contains ns n) by.living is);
    went = λ n is.
        let gone = marks.went n ((by.gone n).0 is) in (
          ap (λ l. is_some (object_at n l)) by.shown_before ∙ lives_shown G names n old.objects ∙ gone.0,
          ap (object_at n) by.shown_after ∙ shown_at G later n new.objects ∙ ap (option_map (living_shown G later)) gone.1,
        );
  }
    where
      marks : MarksName old new
      marks = marks_name old new by.settled by.numbered by.keeps

      unlist : (n : ℕ) → Contains (marked_of new) n → Contains c.living n
      unlist n is = subst (λ ns. Contains ns n) (sym by.living) is
