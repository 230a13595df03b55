use Rattle.std.proofs.Common.{◌≡◌, [], refl, subst, inr, arith}
use Rattle.std.specs.Prelude.{Result, Ok}
use Rattle.std.specs.List.{IsDistinct}
use Rattle.ash_typed.specs.Modules.{Module}
use Rattle.ash_typed.specs.Signatures as signatures
use Rattle.ash_typed.specs.SoundExpressions as expressions
use Rattle.ash_typed.specs.SoundStatements as statements
use Rattle.ash_typed.specs.SoundModules.{IsSound}
use Rattle.ash_typed.specs.TypedReturning.{returned, first_returns, later_returns}
use Rattle.ash_requests.specs.StepExamples.{adding}
use Rattle.ash_soundness.specs.WellFormedLaws.{OffersNothing, a_function, a_construction, a_method, a_property}
use Rattle.ash_soundness.proofs.Values.{none_in}
use Rattle.ash_soundness.specs.ModuleExample.{no_host, read_adding}
use Rattle.ash_soundness.proofs.First.{empty_well}
use Rattle.ash_soundness.proofs.examples.worked_premises.Goals as goal

adding_is_sound : IsSound no_host adding
unfolding IsDistinct
adding_is_sound = record {
  few_types = omega arith;
  few_globals = omega arith;
  functions_differ = (tt, tt);
  globals_differ = (tt, tt);
  interfaces = tt;
  interfaces_in_order = tt;
  classes = tt;
  functions = (
    record {
      parameters = (signatures.passed_integer, tt);
      result = signatures.passed_integer;
      body = statements.more_stmts (statements.evaluate (_, expressions.update (expressions.global refl) (expressions.read (expressions.local refl))))
          (statements.more_stmts (statements.return_value refl (expressions.fits (expressions.read (expressions.global refl)) signatures.same)) statements.no_stmts);
      returns = inr (later_returns (first_returns returned));
    },
    tt,
  );
  globals = ((record { type = signatures.integer; value = statements.stored tt (expressions.fits (expressions.number (omega arith)) signatures.same) }, tt), tt);
}

read_is : (tree : Module) → ◌≡◌ {A = Result Module (Unit {0})} (Ok adding) (Ok tree) → adding ≡ tree
read_is tree e = cc

offers_nothing : OffersNothing no_host
offers_nothing (a_function service id offered within) = none_in offered within
offers_nothing (a_construction kind parameters within) = none_in parameters within
offers_nothing (a_method kind id offered within) = none_in offered within
offers_nothing (a_property kind id of within) = none_in of within

pub returns-clause-nothing : goal.returns-clause-nothing
returns-clause-nothing c = offers_nothing

pub returns-clause-sound : goal.returns-clause-sound
returns-clause-sound c = λ source tree e. subst (IsSound no_host) (read_is tree e) adding_is_sound

pub returns-clause-first : goal.returns-clause-first
returns-clause-first c = empty_well read_adding no_host [] tt
