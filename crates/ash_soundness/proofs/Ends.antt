-- Runs of functions and of initializers leave a world that is settled.
use Rattle.std.proofs.Common.{◌≡◌, ◌+◌, ℕ, suc, Bool, true, false, cond, List, [], ◌∷◌, ◌++◌, length, map, refl, ap, ◌∙◌, subst, slice_get, option_map, arith}
use Rattle.std.specs.Prelude.{Option, Some, None, Contains, IsSome, is_some}
use Rattle.std.specs.List.{AllByRecursion}
use Rattle.std.specs.Option.{option_map_or, option_and_then}
use Rattle.std.proofs.lemmas.Option.{same_Some, slice_get-map}
use Rattle.ash_host.specs.declared.word.Word.{Word}
use Rattle.ash_host.specs.declared.word.Word.TheVariants as words
use Rattle.ash_host.specs.Objects.{LiveObjects, object_at}
use Rattle.ash_host.specs.Reach.{ReachableIn, is_reachable}
use Rattle.ash_host.proofs.ReachLaws.{is_reachable_says, object_at-after_sweep, sweep_is_exact}
use Rattle.ash_host.proofs.SweepLaws.{swept_reachable}
use Rattle.ash_typed.specs.declared.types.VarType.{VarType}
use Rattle.ash_typed.specs.declared.types.VarType.TheVariants as vars
use Rattle.ash_typed.specs.TypedTree.{Expr}
use Rattle.ash_typed.specs.StatementTree.{Initialization}
use Rattle.ash_typed.specs.TypeOf.{value_of_result}
use Rattle.ash_typed.specs.Modules.{Function, Variables}
use Rattle.ash_typed.specs.Signatures.{signature_of, type_declared, types_of_globals}
use Rattle.ash_typed.specs.SoundExpressions.{TypedEnvironment}
use Rattle.ash_typed.specs.SoundStatements.{IsInitialized, IsSoundBeginning}
use Rattle.ash_typed.specs.SoundModules.{outside, AreSoundVariables}
use Rattle.ash_meaning.specs.Activity.{World, Frame, Activity}
use Rattle.ash_meaning.specs.Runs.{Interrupt, Raising, OutOfTicks, Progress, skip, give, ◌>>◌, ◌>>=◌}
use Rattle.ash_meaning.specs.Frames.{frame_of, tick}
use Rattle.ash_meaning.specs.Releases.{roots, sweep, full}
use Rattle.ash_meaning.specs.Locations.{Global, write}
use Rattle.ash_meaning.specs.Classes.{Program, FreeFunction, Entry, entry_of}
use Rattle.ash_meaning.specs.CallMeaning.{value_or_null}
use Rattle.ash_meaning.specs.ExpressionMeaning.{expression}
use Rattle.ash_meaning.specs.Functions.{initialize_globals, initialize_module, body, calls_within}
use Rattle.ash_meaning.specs.Ends.{End, Finished, interrupted_in, Outcome, outcome_of, begun, call_entry, call_function, with_globals, init_frame, load_module}
use Rattle.ash_soundness.specs.WellFormed.{Context, IsContext, declared, is_truth, is_integer, AreValues, no_values, IsGiven, gives_nothing, gives, no_this, Follows, IsWorld, IsFrame, no_frames, IsWellFormed, IsSafe}
use Rattle.ash_soundness.specs.WellFormedLaws.{Passes, OffersNothing, Leaves, done, ended, no_step, IsBetweenRequests, IsNoObjectResult, GivesItsResult, RunsKeep, LoadsKeep, CallsComeToAnEnd, LoadsComeToAnEnd}
use Rattle.ash_soundness.proofs.Values.{none_in}
use Rattle.ash_soundness.proofs.Triples.{follows_itself, follows_more, bind, weaken, safe, passes_itself, passes_more}
use Rattle.ash_soundness.proofs.Sweeps.{world_swept, swept_follows}
use Rattle.ash_soundness.proofs.Locations.{in_global, write_goes}
use Rattle.ash_soundness.proofs.Frames.{tick_goes}
use Rattle.ash_soundness.proofs.Entries.{in_none, chained, function_entry}
use Rattle.ash_soundness.proofs.Found.{some_from, function_there}
use Rattle.ash_soundness.proofs.Statements.{stored_passes}
use Rattle.ash_soundness.proofs.Bodies.{keeps_bodies, begins_fitting}

-- after a release point every object can be reached

lived_reached : (frames : List Frame) (w : World) (n : ℕ) (b : Bool) → is_reachable (roots frames w) w.objects n ≡ b → IsSome (cond b (object_at n w.objects) None) → ReachableIn (Contains (roots frames w)) w.objects n
lived_reached frames w n true is lives = is_reachable_says (roots frames w) w.objects n is
lived_reached frames w n false is lives = absurd (cc)

primitive_given : {p : Program} {all : LiveObjects (List ℕ)} {w : Word} (o : Option VarType) → IsNoObjectResult o → IsGiven p all (value_of_result o) w → IsGiven p [] (value_of_result o) w
primitive_given None k gives_nothing = gives_nothing
primitive_given (Some vars.Bool) k (gives is_truth) = gives is_truth
primitive_given (Some (vars.Integer int_type)) k (gives (is_integer i)) = gives (is_integer i)
primitive_given (Some (vars.Object o)) k g = absurd k
primitive_given (Some (vars.Handle o)) k g = absurd k

of_interrupt : (c : Context) (f : Function) (i : Interrupt) (frame : Frame) → GivesItsResult c f (interrupted_in i frame)
of_interrupt c f (Raising x) frame = tt
of_interrupt c f OutOfTicks frame = tt

function_listed : (c : Context) (place : ℕ) (f : Function) → slice_get ((c.program).tree).functions place ≡ Some f → slice_get (declared c).functions place ≡ Some (signature_of f)
function_listed c place f at = slice_get-map signature_of ((c.program).tree).functions place ∙ ap (option_map signature_of) at

-- what a call from outside comes to
record Comes (c : Context) (result : Option VarType) (v : Option Word) (b : Activity) : Type 0 where
  pub safely : IsSafe c b
  pub value : IsGiven c.program (b.world).objects (value_of_result result) (value_or_null v)

module _ {c : Context} where
  pub settled : (w : World) → IsWorld c w → Follows c.began w → IsBetweenRequests c (sweep [] w)
  unfolding sweep
  settled w h since = record {
    world = world_swept [] h;
    since = follows_more since (swept_follows [] h);
    reached = λ n lives.
        let was = lived_reached [] w n (is_reachable (roots [] w) w.objects n) refl (subst IsSome (object_at-after_sweep (roots [] w) w.objects n) lives) in
        swept_reachable (sweep_is_exact (roots [] w) w.objects (h.numbered).in_order) n was;
  }

  safe_settled : {b : Activity} → IsSafe c b → IsBetweenRequests c (sweep [] b.world)
  safe_settled {b} s = settled b.world (s.well).world (s.well).since

  -- a run that ends leaves such a world
  ends_settled : {Q : Option Word → Activity → Type 0} {r : Progress (Option Word)} (P : End → Type 0) (o : Outcome) → ((v : Option Word) (b : Activity) → Q v b → IsSafe c b × P (Finished v)) → ((i : Interrupt) (f : Frame) → P (interrupted_in i f)) → Leaves c Q r → outcome_of r ≡ Some o → IsBetweenRequests c o.world × P o.end
  ends_settled P o keeps others (done {v} {b} q) e =
      let both = keeps v b q in
      subst (λ (x : Outcome). IsBetweenRequests c x.world × P x.end) (same_Some _ o e) (safe_settled both.0, both.1)
  ends_settled P o keeps others (ended {interrupt} {b} s) e = subst (λ (x : Outcome). IsBetweenRequests c x.world × P x.end) (same_Some _ o e) (safe_settled s, others interrupt b.frame)
  ends_settled P o keeps others (no_step offers) e = absurd (cc)

  -- where the host offers nothing a run ends
  has_outcome : {Q : Option Word → Activity → Type 0} {r : Progress (Option Word)} → OffersNothing c.host → Leaves c Q r → IsSome (outcome_of r)
  has_outcome none (done q) = refl
  has_outcome none (ended s) = refl
  has_outcome none (no_step offers) = absurd (none offers)

  -- one frame and no callers
  begun_well : {w : World} (env : TypedEnvironment) (budget : ℕ) (f : Frame) → IsWorld c w → Follows c.began w → IsFrame c w.objects env f → IsWellFormed c env [] (begun w budget f)
  begun_well env budget f h since frame = record { world = h; since = since; frame = frame; callers = no_frames; few = omega arith }

  entry_comes : IsContext c → (place : ℕ) (f : Function) (args : List Word) (budget : ℕ) (w : World) (entry : Entry) → slice_get ((c.program).tree).functions place ≡ Some f → IsWorld c w → Follows c.began w → AreValues c.program w.objects f.parameters args → entry_of (c.program).tree (FreeFunction place) ≡ Some entry → Leaves c (Comes c f.result) ((tick entry.line >> body c.program budget entry) (begun w budget (frame_of entry.name entry.line words.Null args)))
  entry_comes context place f args budget w entry at h since values there =
      let is = function_entry context place (signature_of f) (function_listed c place f at) entry there in
      let well = begun_well (in_none c f.parameters) budget (frame_of entry.name entry.line words.Null args) h since (record { this = no_this; locals = values; held = record { each = λ n i. absurd (none_in n i) } }) in
      bind (tick_goes entry.line well) (λ none b g. weaken (λ v d q. record { safely = safe (q.passes).well; value = q.value }) ((keeps_bodies context budget).keeps (in_none c f.parameters) f.result entry is [] b (g.passes).well))

  pub runs_keep : IsContext c → RunsKeep c
  runs_keep context place f args budget w o at h since values e =
      let (entry, there, ran) = chained (call_entry c.program args budget w) (entry_of (c.program).tree (FreeFunction place)) o e in
      ends_settled (GivesItsResult c f) o (λ v b q. (q.safely, λ primitive. primitive_given f.result primitive q.value)) (of_interrupt c f) (entry_comes context place f args budget w entry at h since values there) ran

  call_ends : IsContext c → (place : ℕ) (f : Function) (args : List Word) (budget : ℕ) (w : World) → OffersNothing c.host → slice_get ((c.program).tree).functions place ≡ Some f → IsWorld c w → Follows c.began w → AreValues c.program w.objects f.parameters args → IsSome (call_function c.program place args budget w)
  call_ends context place f args budget w none at h since values =
      let (entry, there) = some_from (entry_of (c.program).tree (FreeFunction place)) (function_there c place (signature_of f) (function_listed c place f at)) in
      ap (λ (o : Option Entry). is_some (option_and_then (call_entry c.program args budget w) o)) there
      ∙ has_outcome none (entry_comes context place f args budget w entry at h since values there)

  -- initializers

  module _ (context : IsContext c) (budget : ℕ) (envs : List TypedEnvironment) where
    abbrev env : TypedEnvironment
    env = outside (declared c)

    global_initialized : {a : Activity} (place : ℕ) (of : VarType) (o : Option Expr) → slice_get (types_of_globals ((c.program).tree).globals) place ≡ Some of → IsSoundBeginning env of o → IsWellFormed c env envs a → Leaves c (λ (none : Unit {0}) b. Passes c env envs a b) (option_map_or (λ e. full (expression (calls_within c.program budget) e >>= write (Global place))) o skip a)
    global_initialized place of None at k h = done (passes_itself h)
    global_initialized place of (Some e) at k h =
        stored_passes context (body c.program budget) (keeps_bodies context budget) env refl envs (begins_fitting k) h (λ w b well v. weaken (λ none d g. g.passes) (write_goes context (Global place) w well (in_global at) v))

    -- the rest of the globals are of these types
    Types : ℕ → List VarType → Type 0
    Types place types = (i : ℕ) (of : VarType) → slice_get types i ≡ Some of → slice_get (types_of_globals ((c.program).tree).globals) (place + i) ≡ Some of

    at_place : (place : ℕ) (of : VarType) (types : List VarType) → Types place (of ∷ types) → slice_get (types_of_globals ((c.program).tree).globals) place ≡ Some of
    unfolding Types
    at_place place of types t = let here : place + 0 ≡ place = omega arith in subst (λ (n : ℕ). slice_get (types_of_globals ((c.program).tree).globals) n ≡ Some of) here (t 0 of refl)

    next_place : (place : ℕ) (of : VarType) (types : List VarType) → Types place (of ∷ types) → Types (place + 1) types
    unfolding Types
    next_place place of types t i other at = let level : place + suc i ≡ place + 1 + i = omega arith in subst (λ (n : ℕ). slice_get (types_of_globals ((c.program).tree).globals) n ≡ Some other) level (t (suc i) other at)

    globals_initialized : {a : Activity} (place : ℕ) (vs : List Initialization) (more : List VarType) → Types place (map type_declared vs ++ more) → AllByRecursion (IsInitialized env) vs → IsWellFormed c env envs a → Leaves c (λ (none : Unit {0}) b. Passes c env envs a b) (initialize_globals (calls_within c.program budget) place vs a)
    globals_initialized place [] more t k h = done (passes_itself h)
    globals_initialized place (v ∷ vs) more t k h =
        bind (global_initialized place v.of v.value (at_place place v.of (map type_declared vs ++ more) t) (k.0).value h) (λ none b p.
        weaken (λ one d q. passes_more p q) (globals_initialized (place + 1) vs more (next_place place v.of (map type_declared vs ++ more) t) k.1 p.well))

    after_types : (place : ℕ) (vs : List Initialization) (more : List VarType) → Types place (map type_declared vs ++ more) → Types (place + length vs) more
    unfolding Types
    after_types place [] more t i of at = let level : place + i ≡ place + 0 + i = omega arith in subst (λ (n : ℕ). slice_get (types_of_globals ((c.program).tree).globals) n ≡ Some of) level (t i of at)
    after_types place (v ∷ vs) more t i of at =
        let level : place + 1 + length vs + i ≡ place + suc (length vs) + i = omega arith in
        subst (λ (n : ℕ). slice_get (types_of_globals ((c.program).tree).globals) n ≡ Some of) level (after_types (place + 1) vs more (next_place place v.of (map type_declared vs ++ more) t) i of at)

    module_initialized : {a : Activity} (place : ℕ) (ds : List Variables) → Types place (types_of_globals ds) → AllByRecursion (AreSoundVariables env) ds → IsWellFormed c env envs a → Leaves c (λ (none : Unit {0}) b. Passes c env envs a b) (initialize_module (calls_within c.program budget) place ds a)
    module_initialized place [] t k h = done (passes_itself h)
    module_initialized place (d ∷ ds) t k h =
        bind (bind (tick_goes d.line h) (λ none b g. weaken (λ one x q. passes_more g.passes q) (globals_initialized place d.values (types_of_globals ds) t k.0 (g.passes).well)))
        (λ none b p. weaken (λ one x q. passes_more p q) (module_initialized (place + length d.values) ds (after_types place d.values (types_of_globals ds) t) k.1 p.well))

  module_comes : IsContext c → (budget : ℕ) (w : World) → IsWorld c (with_globals (c.program).tree w) → Follows c.began (with_globals (c.program).tree w) → Leaves c (λ (v : Option Word) b. IsSafe c b) ((initialize_module (calls_within c.program budget) 0 ((c.program).tree).globals >> give None) (begun (with_globals (c.program).tree w) budget init_frame))
  unfolding Types
  module_comes context budget w h since =
      let well = begun_well (outside (declared c)) budget init_frame h since (record { this = no_this; locals = no_values; held = record { each = λ n i. absurd (none_in n i) } }) in
      bind (module_initialized context budget [] 0 ((c.program).tree).globals from_first (context.sound).globals well) (λ none b p. done (safe p.well))
    where
      from_first : (i : ℕ) (of : VarType) → slice_get (types_of_globals ((c.program).tree).globals) i ≡ Some of → slice_get (types_of_globals ((c.program).tree).globals) (0 + i) ≡ Some of
      from_first i of at = let level : i ≡ 0 + i = omega arith in subst (λ (n : ℕ). slice_get (types_of_globals ((c.program).tree).globals) n ≡ Some of) level at

  pub loads_keep : IsContext c → LoadsKeep c
  loads_keep context budget w o h since e = (ends_settled (λ end. Unit {0}) o (λ v b s. (s, tt)) (λ i f. tt) (module_comes context budget w h since) e).0

  load_ends : IsContext c → (budget : ℕ) (w : World) → OffersNothing c.host → IsWorld c (with_globals (c.program).tree w) → Follows c.began (with_globals (c.program).tree w) → IsSome (load_module c.program budget w)
  load_ends context budget w none h since = has_outcome none (module_comes context budget w h since)

-- runs that begin in any well-formed world

abbrev began_in : Context → World → Context
began_in c w = record c { began = w }

module _ {c : Context} where
  context_in : (w : World) → IsContext c → IsContext (began_in c w)
  context_in w context = record { known = context.known; sound = context.sound }

  world_in : (w : World) → IsWorld c w → IsWorld (began_in c w) w
  world_in w h = record {
    numbered = h.numbered;
    last = h.last;
    few = h.few;
    living = h.living;
    offered = h.offered;
    globals = h.globals;
    outside = h.outside;
    states = h.states;
  }

  pub calls_come_to_an_end : IsContext c → CallsComeToAnEnd c
  calls_come_to_an_end context place f args budget w none at h values = call_ends (context_in w context) place f args budget w none at (world_in w h) (follows_itself w) values

  pub loads_come_to_an_end : IsContext c → LoadsComeToAnEnd c
  loads_come_to_an_end context budget w none h =
      let start = with_globals (c.program).tree w in
      load_ends (context_in start context) budget w none (world_in start h) (follows_itself start)
