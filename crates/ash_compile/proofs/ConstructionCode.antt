-- The code of constructions of a module's classes does what they do, once their arguments are in slots.
use Rattle.std.proofs.Common.{◌≡◌, ◌≤◌, ◌<◌, ℕ, ◌+◌, List, [], ◌∷◌, take, drop, length, map, refl, sym, ap, ◌∙◌}
use Rattle.std.proofs.Common.{subst, arith}
use Rattle.std.proofs.Common.{true, false, Bool, cond, nat_lt, nat_le}
use Rattle.std.specs.Prelude.{Option, Some, None, slice_get, ◌&&◌}
use Rattle.std.specs.Option.{option_map_or}
use Rattle.std.proofs.lemmas.Bool.Decides.{nat_tests}
use Rattle.std.proofs.lemmas.List.{length-map}
use Rattle.ash_host.specs.Limits.{max_objects, max_elements}
use Rattle.ash_host.specs.declared.word.Word.{Word}
use Rattle.ash_host.specs.declared.word.Word.TheVariants as words
use Rattle.ash_host.specs.Objects.{Plain, Script}
use Rattle.ash_integers.specs.declared.int_type.IntType.TheVariants as ints
use Rattle.ash_typed.specs.declared.types.VarType.{VarType}
use Rattle.ash_typed.specs.declared.types.VarType.TheVariants as vars
use Rattle.ash_typed.specs.StatementTree.{Initialization}
use Rattle.ash_typed.specs.Modules.{Class}
use Rattle.ash_typed.specs.Signatures.{parameters_of, type_declared}
use Rattle.ash_typed.specs.TypedTree.{Expr, exprs}
use Rattle.ash_typed.specs.SoundExpressions.{TypedEnvironment, AreSoundArguments}
use Rattle.ash_meaning.specs.declared.exception.Exception.TheVariants.{StackOverflow, ObjectLimit, NumbersSpent}
use Rattle.ash_meaning.specs.Activity.{Activity, in_world}
use Rattle.ash_meaning.specs.Runs.{Run, Progress, Done, Ended, NoStep, onward, give, look, demand, found, ◌>>=◌, ◌>>◌}
use Rattle.ash_meaning.specs.Frames.{tick, demand_frame, in_frame_of, leave, max_frames}
use Rattle.ash_meaning.specs.ObjectSteps.{demand_number, make, with_new, max_number}
use Rattle.ash_meaning.specs.OperatorMeaning.{zero_of}
use Rattle.ash_meaning.specs.CallMeaning.{value_or_null, blank, construct}
use Rattle.ash_meaning.specs.Classes.{Program, Construction, Entry, entry_of_construction, place_of_class}
use Rattle.ash_meaning.specs.ExpressionMeaning.{arguments}
use Rattle.ash_meaning.specs.Functions.{body}
use Rattle.ash_soundness.specs.WellFormed.{declared, shape_of, shape_at, AreValues, no_values, and_value, is_script}
use Rattle.ash_soundness.specs.WellFormed.{is_this, IsWellFormed}
use Rattle.ash_soundness.specs.WellFormedLaws.{Goes, Leaves, done}
use Rattle.ash_soundness.proofs.Triples.{bind, weaken, after_demand, safe, carry_all}
use Rattle.ash_soundness.proofs.Constructions.{bind_here, lt_from, HasRoom, number_demanded, made_goes, made_shape}
use Rattle.ash_soundness.proofs.Integers.{zero_value}
use Rattle.ash_soundness.proofs.Frames.{tick_goes}
use Rattle.ash_soundness.proofs.Bodies.{keeps_bodies}
use Rattle.ash_soundness.proofs.Entries.{class_is}
use Rattle.ash_run_steps.specs.Guarded.{Guarded, onward as guarded_onward}
use Rattle.ash_run_steps.specs.GuardedSteps.{is_alive, are_alive}
use Rattle.ash_run_steps.specs.MakingSteps.{may_have, make_script}
use Rattle.ash_code.specs.declared.code.ClassCode.{ClassCode}
use Rattle.ash_code.specs.declared.instruction.Instruction.TheVariants as i
use Rattle.ash_code.specs.Controls.{Window, control}
use Rattle.ash_code.specs.Performing.{Next, classes_of, enter_at, construct as construct_code}
use Rattle.ash_code.specs.Running.{step}
use Rattle.ash_compile.specs.Stretches.{continued, Arrives, Computes}
use Rattle.ash_compile.specs.Layout.{index_of}
use Rattle.ash_compile.specs.Callees.{a_construction, IsClassCode}
use Rattle.ash_compile.specs.Arguments.{DoesArguments}
use Rattle.ash_compile.specs.Emission.{Scene, IsScene, Good, calls_of}
use Rattle.ash_compile.proofs.Simulation.{step_is}
use Rattle.ash_compile.proofs.Emission.{HasAt, greatest_within}
use Rattle.ash_compile.proofs.Typed.{left_done}
use Rattle.ash_compile.proofs.Arguments.{argued, argued_good, arguments_long}
use Rattle.ash_compile.proofs.Callees.{entry_there, entry_is, entered_well}
use Rattle.ash_compile.proofs.Calling.{entered_at, framed, grouped}
use Rattle.ash_compile.proofs.Constructing.{after_first, making}
use Rattle.ash_compile.proofs.CallCode.{by_arguments, row_within, does_enter}

-- what a new object has

zero_alive : (of : VarType) (a : Activity) → is_alive (zero_of of) a ≡ true
zero_alive vars.Bool a = refl
zero_alive (vars.Integer ints.Int) a = refl
zero_alive (vars.Integer ints.Uint) a = refl
zero_alive (vars.Integer ints.Int64) a = refl
zero_alive (vars.Integer ints.Uint64) a = refl
zero_alive (vars.Object of) a = refl
zero_alive (vars.Handle of) a = refl

abbrev zero_field : Initialization → Word
zero_field v = zero_of v.of

zeros_alive : (vs : List Initialization) (a : Activity) → are_alive (map zero_field vs) a ≡ true
zeros_alive [] a = refl
zeros_alive (v ∷ vs) a =
    ap (λ (b : Bool). b && are_alive (map zero_field vs) a) (zero_alive v.of a) ∙ zeros_alive vs a

le_test : (m n : ℕ) → m ≤ n → nat_le m n ≡ true
le_test m n few = grind (arith, nat_tests)

zeros_few : (vs : List Initialization) (a : Activity) → length vs ≤ max_elements → may_have (map zero_field vs) a ≡ true
zeros_few vs a few =
    let long : length (map zero_field vs) ≡ length vs = length-map vs zero_field in
    ap (λ (b : Bool). b && are_alive (map zero_field vs) a)
    (le_test (length (map zero_field vs)) max_elements (omega (arith, long, few)))
    ∙ zeros_alive vs a

zero_values : (p : Program) (all : _) (vs : List Initialization) → AreValues p all (map type_declared vs)
    (map zero_field vs)
zero_values p all [] = no_values
zero_values p all (v ∷ vs) = and_value (zero_value v.of) (zero_values p all vs)

-- an object that is made

abbrev activity_in : {A : Type 0} → Activity → Progress A → Activity
activity_in other (Done v b) = b
activity_in other (Ended e b) = other
activity_in other NoStep = other

guard_is : (owner : List ℕ) (place : ℕ) (fields : List Word) (a : Activity) (t : Bool) → may_have fields a ≡ true
    → guarded_onward (Some (demand t StackOverflow a)) (λ _. make_script owner place fields)
    ≡ Some (onward (onward (demand t StackOverflow a) (λ _. demand_number)) (λ _. make (Script owner place fields)))
guard_is owner place fields a false may = refl
guard_is owner place fields a true may =
    ap (λ (b : Bool). cond b (Some ((demand_number >> make (Script owner place fields)) a)) None) may

left_is : (object : Plain (List ℕ)) (a : Activity) (v : Bool)
    → activity_in (in_world (with_new object) a) (onward (demand v NumbersSpent a) (λ _. make object))
    ≡ in_world (with_new object) a
left_is object a true = refl
left_is object a false = refl

objects_are : (object : Plain (List ℕ)) (a : Activity) (u : Bool)
    → activity_in (in_world (with_new object) a)
    (onward (onward (onward (demand u ObjectLimit a) (λ _. look (λ b. nat_lt (b.world).last max_number)))
    (λ left. demand left NumbersSpent)) (λ _. make object)) ≡ in_world (with_new object) a
objects_are object a true = left_is object a (nat_lt (a.world).last max_number)
objects_are object a false = refl

room_is : (object : Plain (List ℕ)) (a : Activity) (t : Bool)
    → activity_in (in_world (with_new object) a)
    (onward (onward (demand t StackOverflow a) (λ _. demand_number)) (λ _. make object)) ≡ in_world (with_new object) a
room_is object a true = objects_are object a (nat_lt (length (a.world).objects) max_objects)
room_is object a false = refl

-- Where an object is made, it is all that changed.
pub made_is : (object : Plain (List ℕ)) (a b : Activity) (number : ℕ) → making object a ≡ Done number b
    → b ≡ in_world (with_new object) a
made_is object a b number is =
    ap (λ (p : Progress ℕ). activity_in (in_world (with_new object) a) p) (sym is)
    ∙ room_is object a (nat_lt (length a.callers + 1) max_frames)

-- a construction gives its object

same_this : (q : Progress (Option Word)) (w : Word) →
    ((v : Option Word) (b : Activity) → q ≡ Done v b → (b.frame).this ≡ w)
    → onward q (λ _. give w)
    ≡ onward (onward q (λ _. look (λ activity. Some (activity.frame).this))) (λ v. give (value_or_null v))
same_this (Done v b) w this = ap (λ (x : Word). Done x b) (sym (this v b refl))
same_this (Ended e b) w this = refl
same_this NoStep w this = refl

pub object_given : (name : List ℕ) (line : ℕ) (w : Word) (args : List Word) (run : Run (Option Word)) (a : Activity)
    → ((v : Option Word) (b : Activity) → (tick line >> run) (entered_at name line w args a) ≡ Done v b →
    (b.frame).this ≡ w)
    → in_frame_of name line w args (run >> give w) a
    ≡ framed name line w args (run >> look (λ activity. Some (activity.frame).this)) a
object_given name line w args run a this =
    let first = entered_at name line w args a in
    let p = tick line first in
    let own : Run (Option Word) = look (λ activity. Some (activity.frame).this) in
    ap (λ (q : Progress Word). onward q leave)
    (sym (grouped p (λ _. run) (λ _. give w))
    ∙ same_this ((tick line >> run) first) w this
    ∙ ap (λ (q : Progress (Option Word)). onward q (λ v. give (value_or_null v))) (grouped p (λ _. run) (λ _. own))
    ∙ grouped p (λ _. run >> own) (λ v. give (value_or_null v)))

module _ (s : Scene) (scene : IsScene s) (class : ℕ) (k : Class)
    (there : slice_get (((s.context).program).tree).classes class ≡ Some k) where
  abbrev entry : Entry
  entry = entry_of_construction k

  abbrev env : TypedEnvironment
  env = record { signatures = declared s.context; this = Some class; locals = parameters_of k.constructor }

  abbrev index : ℕ
  index = index_of ((s.context).program).tree (Construction class)

  abbrev object : Plain (List ℕ)
  object = blank (s.context).program class k

  -- what the code knows of the class
  abbrev known : (code : ClassCode) × (slice_get (classes_of s.setting) class ≡ Some code)
      × IsClassCode ((s.context).program).tree class k code
  known = (scene.classes).each class k there

  few_fields : length k.fields ≤ max_elements
  few_fields = let few = (class_is scene.sound class k there).few in omega arith

  -- the instruction makes the object of the class, then enters the frame of its construction
  steps : (w : Window) (slot at : ℕ) (a : Activity) → HasAt s at (i.Construct class slot)
      → step s.setting (control s.function at w) a
      ≡ guarded_onward (Some (making object a))
      (λ number. enter_at s.setting (index_of ((s.context).program).tree (Construction class))
      (words.Object number) slot
      (control s.function at w))
  steps w slot at a has =
      let c = control s.function at w in
      let code = known.0 in
      let is = known.2 in
      let fields = map (λ (v : Initialization). zero_of v.of) k.fields in
      let place = place_of_class ((s.context).program).tree class in
      let next : ℕ → ℕ → Guarded Next = λ function number. enter_at s.setting function (words.Object number) slot c in
      step_is s.setting (Good s) s.function s.room w a at (i.Construct class slot) has
      ∙ ap (λ (o : Option ClassCode). option_map_or (construct_code s.setting slot c) o (λ b. None) a) known.1
      ∙ ap (λ (name : List ℕ). guarded_onward (guarded_onward (Some (demand_frame a))
      (λ _. make_script name code.place (code.fields).items)) (next code.construction)) scene.owner
      ∙ ap (λ (n : ℕ). guarded_onward (guarded_onward (Some (demand_frame a))
      (λ _. make_script ((s.context).program).name n (code.fields).items)) (next code.construction)) is.place
      ∙ ap (λ (ws : List Word). guarded_onward (guarded_onward (Some (demand_frame a))
      (λ _. make_script ((s.context).program).name place ws)) (next code.construction)) is.fields
      ∙ ap (λ (n : ℕ). guarded_onward (guarded_onward (Some (demand_frame a))
      (λ _. make_script ((s.context).program).name place fields)) (next n)) is.construction
      ∙ ap (λ (q : Option (Progress ℕ)). guarded_onward q
      (next (index_of ((s.context).program).tree (Construction class))))
      (guard_is ((s.context).program).name place fields a (nat_lt (length a.callers + 1) max_frames)
      (zeros_few k.fields a few_fields))

  -- what is made
  record IsReady (a : Activity) (number : ℕ) (b : Activity) : Type 0 where
    pub goes : Goes s.context s.env s.envs a b
    pub shape : shape_at number (b.world).objects ≡ Some (shape_of object)
    pub room : length b.callers + 1 < max_frames

  made : (a : Activity) → Good s a → Leaves s.context (IsReady a) (making object a)
  made a good = bind_here _ asked (λ none q. done (record {
    goes = made_goes object good.0 q.1 (is_script (record {
      tree = ((s.context).program).tree;
      known = (scene.sound).known;
      class = class;
      source = k;
      at = there;
      is = refl;
      values = zero_values (s.context).program (a.world).objects k.fields;
    })) (λ kind same. absurd (cc));
    shape = made_shape object good.0;
    room = q.0;
  }))
    where
      asked : Leaves s.context (λ (none : Unit {0}) b. (b ≡ a) × ((length a.callers + 1 < max_frames) × HasRoom a))
          (onward (demand (nat_lt (length a.callers + 1) max_frames) StackOverflow a) (λ none. demand_number))
      asked = after_demand _ (nat_lt (length a.callers + 1) max_frames) StackOverflow a (safe good.0)
          (λ room. weaken (λ none b q. (q.0, (lt_from _ _ room, q.1))) (number_demanded good.0))

  -- the meaning makes the same, once the entry and the class are found
  means : (args : List Word) (a : Activity)
      → construct (calls_of s) class args a
      ≡ onward (making object a) (λ number. in_frame_of entry.name entry.line (words.Object number) args
      (body (s.context).program s.depth entry >> give (words.Object number)))
  means args a =
      ap (λ (o : Option Entry). onward (found o a) (λ e. found (slice_get (((s.context).program).tree).classes class)
      >>= (λ c. making (blank (s.context).program class c)
      >>= (λ number. in_frame_of e.name e.line (words.Object number) args
      (body (s.context).program s.depth e >> give (words.Object number))))))
      (entry_there scene.sound (a_construction there))
      ∙ ap (λ (o : Option Class). onward (found o a) (λ c. making (blank (s.context).program class c)
      >>= (λ number. in_frame_of entry.name entry.line (words.Object number) args
      (body (s.context).program s.depth entry >> give (words.Object number))))) there

  -- what is left by the frame of the construction has the object as `this`
  this_stays : (name : List ℕ) (number : ℕ) (args : List Word) (d : Activity) (v : Option Word) (b : Activity)
      → IsWellFormed s.context env (s.env ∷ s.envs) (entered_at name entry.line (words.Object number) args d)
      → (tick entry.line >> body (s.context).program s.depth entry)
      (entered_at name entry.line (words.Object number) args d)
      ≡ Done v b
      → (b.frame).this ≡ words.Object number
  this_stays name number args d v b well ran = left_done v b leaves ran
    where
      first : Activity
      first = entered_at name entry.line (words.Object number) args d

      leaves : Leaves s.context (λ (x : Option Word) y. (y.frame).this ≡ words.Object number)
          ((tick entry.line >> body (s.context).program s.depth entry) first)
      leaves =
          bind (tick_goes entry.line well) (λ none x g.
          weaken (λ u y r. (r.passes).this ∙ (g.passes).this)
          ((keeps_bodies scene.sound s.depth).keeps env None entry (entry_is scene.sound (a_construction there))
          (s.env ∷ s.envs)
          x (g.passes).well))

  pub does_construction : (es : List Expr) (from at slot : ℕ)
      → AreSoundArguments s.env (parameters_of k.constructor) (exprs es)
      → slot < s.greatest
      → DoesArguments s es from at slot
      → HasAt s at (i.Construct class slot)
      → Computes s.setting (Good s) s.function s.room
      (arguments (calls_of s) (exprs es) >>= construct (calls_of s) class) from
      (at + 1) slot
  does_construction es from at slot sound under does has =
      by_arguments s.setting (Good s) s.function s.room (arguments (calls_of s) (exprs es))
      (construct (calls_of s) class) from
      at (at + 1) slot (length es) (omega (arith, under, greatest_within s scene)) does
      (λ w a b ws rest low long fits good ran are goes.
      let c = control s.function at w in
      let arg = argued s es (parameters_of k.constructor) a b ws scene sound good ran in
      let begun = argued_good s es (parameters_of k.constructor) a b ws scene sound good ran in
      subst (λ (p : Progress Word). Arrives s.setting c b (continued p rest)) (sym (means ws b))
      (after_first s.setting c b (making object b)
      (λ number. enter_at s.setting index (words.Object number) slot c)
      (λ number. in_frame_of entry.name entry.line (words.Object number) ws
      (body (s.context).program s.depth entry >> give (words.Object number))) rest (steps w slot at b has)
      (λ number d made_at stepped.
      let new = left_done number d (made b begun) made_at in
      let is = made_is object b d number made_at in
      let values : AreValues (s.context).program (d.world).objects (parameters_of k.constructor) ws
      = (carry_all begun.0 new.goes arg.carried).values in
      let this_is = is_this new.shape (record { source = k; at = there; is = refl }) in
      let ready : Good s d = (((new.goes).passes).well, omega (arith, begun.1, ap (λ (x : Activity). x.ticks) is)) in
      let given = object_given entry.name entry.line (words.Object number) ws (body (s.context).program s.depth entry) d
      (λ v x done_at. this_stays entry.name number ws d v x
      (entered_well scene.sound env entry.name entry.line (words.Object number) ws ready.0 new.room this_is values)
      done_at) in
      subst (λ (p : Progress Word). Arrives s.setting c b (continued p rest)) (sym given)
      (does_enter s scene (Construction class) env None entry (a_construction there) w slot at b d
      (words.Object number) ws rest
      low under (omega (arith, fit es slot sound under does, long)) long
      (record { locals = ap (λ (x : Activity). (x.frame).locals) is ∙ fits.locals; within = fits.within }) ready
      new.room
      (ap (λ (n : ℕ). take n (drop slot w.slots)) (sym (arguments_long es sound)) ∙ are) this_is values stepped
      (λ x word after called held.
      goes word x after
      (means ws b ∙ ap (λ (p : Progress ℕ). onward p (λ n. in_frame_of entry.name entry.line (words.Object n) ws
      (body (s.context).program s.depth entry >> give (words.Object n)))) made_at ∙ given ∙ called) held)))))
    where
      fit : (es : List Expr) (slot : ℕ) → AreSoundArguments s.env (parameters_of k.constructor) (exprs es)
          → slot < s.greatest
          → DoesArguments s es from at slot → slot + length (parameters_of k.constructor) ≤ s.room
      fit es slot sound under does =
          let within : slot < s.room = omega (arith, under, greatest_within s scene) in
          subst (λ (n : ℕ). slot + n ≤ s.room) (arguments_long es sound)
          (row_within slot (length es) s.room within does.within)
