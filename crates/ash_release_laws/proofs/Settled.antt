-- Release points settle, and what is held stays.
use Rattle.std.proofs.Common.{ℕ, Bool, true}
use Rattle.ash_meaning.specs.Activity.{Activity}
use Rattle.ash_meaning.specs.Runs.{Progress, Run}
use Rattle.ash_meaning.specs.StatementMeaning.{Flow}
use Rattle.ash_meaning.specs.Functions.{body}
use Rattle.ash_meaning.specs.Classes.{Program}
use Rattle.ash_release_laws.specs.Settling.{IsSettled, AtEachEnd, AtTheValue, Settles, SettlesIfItGoesOn, ReleasePointsSettle, KeepsItsFrame, KeepsItsCallers, Keeps, HoldsUntilTheEnd}
use Rattle.ash_release_laws.proofs.Settling.{Kept, Goes, Comes, done, ended, no_way, Calm}
use Rattle.ash_release_laws.proofs.PhraseSettling.{Led, to_call, to_construct, to_invoke, to_target, to_expression, to_location, to_arguments, to_full_expression, to_declare_all, to_statement, to_statements, to_fields, to_module, to_body}

settled_of : {A : Type 0} {k : Bool} {a : Activity} {P : Type 0} {Post : A → Activity → Type 0} {r : Progress A} → Comes P (λ (v : A) b. Goes k P (Post v b) a b) r → P → AtEachEnd Post IsSettled r
settled_of (done g) p = g.settled p
settled_of (ended s) p = s p
settled_of no_way p = tt

kept_by : {A : Type 0} {k : Bool} {a : Activity} {P : Type 0} {Post : A → Activity → Type 0} {r : Progress A} → Comes P (λ (v : A) b. Goes k P (Post v b) a b) r → AtTheValue (λ (v : A) b. Kept k a b) r
kept_by (done g) = g.kept
kept_by (ended s) = tt
kept_by no_way = tt

pub settles : {A : Type 0} {k : Bool} {r : Run A} → Calm k r → Settles A r
settles h a numbered s = settled_of (h.comes a numbered) s

pub goes_on_settled : {r : Run Flow} → Led r → SettlesIfItGoesOn r
goes_on_settled h a numbered s = settled_of (h.comes a numbered) s

keeps_frame : {A : Type 0} {r : Run A} → Calm true r → Keeps KeepsItsFrame A r
keeps_frame h a numbered = kept_by (h.comes a numbered)

keeps_callers : {r : Run Flow} → Led r → Keeps KeepsItsCallers Flow r
keeps_callers h a numbered = kept_by (h.comes a numbered)

pub release_points_settle : (p : Program) (d : ℕ) → ReleasePointsSettle p d
release_points_settle p d = record {
  expressions = λ e. settles (to_expression p (body p d) (to_body p d) e);
  places = λ place. settles (to_location p (body p d) (to_body p d) place);
  argument_lists = λ es. settles (to_arguments p (body p d) (to_body p d) es);
  full_expressions = λ e. settles (to_full_expression p (body p d) (to_body p d) e);
  variables = λ vs. settles (to_declare_all p (body p d) (to_body p d) vs);
  statements = λ s. goes_on_settled (to_statement p (body p d) (to_body p d) d s);
  blocks = λ ss. goes_on_settled (to_statements p (body p d) (to_body p d) d ss);
  calls = λ callee this args. settles (to_call p (body p d) (to_body p d) callee this args);
  constructions = λ class args. settles (to_construct p (body p d) (to_body p d) class args);
  methods = λ method number args. settles (to_invoke p (body p d) (to_body p d) method number args);
  targets = λ target args. settles (to_target p (body p d) (to_body p d) target args);
  fields = λ vs. settles (to_fields p (body p d) (to_body p d) 0 vs);
  initializers = settles (to_module p (body p d) (to_body p d) 0 (p.tree).globals);
}

pub holds_until_the_end : (p : Program) (d : ℕ) → HoldsUntilTheEnd p d
holds_until_the_end p d = record {
  expressions = λ e. keeps_frame (to_expression p (body p d) (to_body p d) e);
  places = λ place. keeps_frame (to_location p (body p d) (to_body p d) place);
  argument_lists = λ es. keeps_frame (to_arguments p (body p d) (to_body p d) es);
  calls = λ callee this args. keeps_frame (to_call p (body p d) (to_body p d) callee this args);
  constructions = λ class args. keeps_frame (to_construct p (body p d) (to_body p d) class args);
  statements = λ s. keeps_callers (to_statement p (body p d) (to_body p d) d s);
}
