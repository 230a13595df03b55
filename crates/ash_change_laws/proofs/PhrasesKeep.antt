-- Phrases leave uncalled services as they are, if what they call does.
use Rattle.std.proofs.Common.{◌+◌, ℕ, zero, suc, ℤ, Bool, true, false, List, [], ◌∷◌, length, slice_get, Option, Some, None, if◌then◌else◌}
use Rattle.std.specs.Prelude.{is_none}
use Rattle.std.specs.Option.{option_map_or, option_and_then}
use Rattle.ash_host.specs.declared.word.Word.{Word}
use Rattle.ash_host.specs.declared.word.Word.TheVariants as words
use Rattle.ash_host.specs.declared.event.Target.TheVariants as hosts
use Rattle.ash_host.specs.Objects.{object_at}
use Rattle.ash_integers.specs.Integers.{number_of}
use Rattle.ash_typed.specs.declared.tree.operations.Lazy.{Lazy}
use Rattle.ash_typed.specs.declared.tree.operations.Lazy.TheVariants as lazies
use Rattle.ash_typed.specs.declared.tree.operations.Method.{Method}
use Rattle.ash_typed.specs.declared.tree.operations.Method.TheVariants as methods
use Rattle.ash_typed.specs.declared.tree.operations.CallTarget.{CallTarget}
use Rattle.ash_typed.specs.declared.tree.operations.CallTarget.TheVariants as targets
use Rattle.ash_typed.specs.declared.tree.statements.Test.{Test}
use Rattle.ash_typed.specs.declared.tree.statements.Test.TheVariants as tests
use Rattle.ash_typed.specs.TypedTree.{Expr, Number, Truth, Null, This, Read, Invoke, Convert, Cast, Alter, Operate, Lazily, Conditional, Assign, Update, Count, Call, Place, Stored, Held, Indexed, Exprs, no_expr, expr}
use Rattle.ash_typed.specs.StatementTree.{Initialization, Stmt, Empty, Declare, Evaluate, Block, If, Branch, no_branch, branch, Head, no_head, declared_head, evaluated_head, Repeat, For, Loop, repeated, Switch, Break, Continue, Return, Stmts, no_stmt, stmt, Case, labelled, Cases, no_case, next_case}
use Rattle.ash_typed.specs.Modules.{Variables}
use Rattle.ash_meaning.specs.Runs.{Run, ◌>>=◌}
use Rattle.ash_meaning.specs.Frames.{in_frame_of}
use Rattle.ash_meaning.specs.Classes.{Program, class_of, implemented, element_of, ModuleCallee, Construction, Method as ClassMethod, FreeFunction, Entry, entry_of}
use Rattle.ash_meaning.specs.CallMeaning.{Calls, value_or_null, blank, call, construct, call_through, invoke, call_target}
use Rattle.ash_meaning.specs.OperatorMeaning.{is_true, zero_of, converted_to, altered}
use Rattle.ash_meaning.specs.Locations.{Global, Part, location_of_member}
use Rattle.ash_meaning.specs.ExpressionMeaning.{expression, location, arguments, lazily}
use Rattle.ash_meaning.specs.StatementMeaning.{Flow, On, Broke, Continued, Returned, go_on, end_block, in_block, after_break, declare_all, evaluate, evaluate_all, condition, condition_or_true, begin, return_value, Turn, after_body, turn, turns, repeat, Labelled, from_label, is_constant, or_else, fall_through, switch, statement, otherwise, loop, statements, case_run, cases}
use Rattle.ash_meaning.specs.Functions.{initialize_globals, initialize_module, write_field, initialize_fields, value_of, run_entry}
use Rattle.ash_meaning.specs.Releases.{full}
use Rattle.ash_change_laws.proofs.Keeping.{Keeps, bound, followed, given, looked, stopped, chosen_by, found_there, a_tick}
use Rattle.ash_change_laws.proofs.StepsKeep.{to_give_held, to_release, to_full, to_count_locals, to_declare, to_leave_blocks, to_enter, to_leave, to_demand_frame, to_object_of, to_demand_number, to_make, to_invoke_host, to_construct_host, to_operate, to_read, to_write, to_store, to_update, to_count_at, to_element_at, to_construct_array, to_invoke_array, to_cast}

-- loops

module _ (t : Turn) (steps : Keeps t.steps) (body : Keeps t.body) where
  walk_after_body : {next : Run Flow} → Keeps next → (flow : Flow) → Keeps (after_body t next flow)
  walk_after_body k On = followed steps k
  walk_after_body k Continued = followed (followed to_release steps) k
  walk_after_body k Broke = given _
  walk_after_body k (Returned value) = given _

  walk_turn : {next : Run Flow} → Keeps next → Keeps (turn t next)
  walk_turn k = bound body (walk_after_body k)

  walk_turns : (d : ℕ) → Keeps t.condition → Keeps (turns d t)
  walk_turns zero h = followed (a_tick t.line) stopped
  walk_turns (suc d) h = followed (a_tick t.line) (bound h (λ goes_on. chosen_by goes_on (walk_turn (walk_turns d h)) (given On)))

abbrev turn_of : ℕ → Run Bool → Run (Unit {0}) → Run Flow → Turn
turn_of line condition steps body = record { line = line; condition = condition; steps = steps; body = body }

walk_repeat : (test : Test) (d line : ℕ) {c : Run Bool} {s : Run (Unit {0})} {b : Run Flow} → Keeps c → Keeps s → Keeps b → Keeps (repeat test d (turn_of line c s b))
walk_repeat tests.First d line {c} {s} {b} hc hs hb = walk_turns (turn_of line c s b) hs hb d hc
walk_repeat tests.Last d line {c} {s} {b} hc hs hb = walk_turn (turn_of line c s b) hs hb (walk_turns (turn_of line c s b) hs hb d hc)

-- labels

-- The statements after each label do.
data LabelsKeep : List Labelled → Type 0 where
  no_labels : LabelsKeep []
  more_labels : {constant : Option ℤ} {r : Run Flow} {ls : List Labelled} → Keeps r → LabelsKeep ls → LabelsKeep (record { constant = constant; run = r } ∷ ls)

walk_go_on : {r : Run Flow} → Keeps r → (flow : Flow) → Keeps (go_on r flow)
walk_go_on h On = h
walk_go_on h Broke = given _
walk_go_on h Continued = given _
walk_go_on h (Returned value) = given _

walk_fall : {ls : List Labelled} → LabelsKeep ls → Keeps (fall_through ls)
walk_fall no_labels = given On
walk_fall (more_labels h hs) = bound h (walk_go_on (walk_fall hs))

either_labels : {ls ks : List Labelled} (b : Bool) → LabelsKeep ls → LabelsKeep ks → LabelsKeep (if b then ls else ks)
either_labels true h k = h
either_labels false h k = k

walk_from : (test : Option ℤ → Bool) {ls : List Labelled} → LabelsKeep ls → LabelsKeep (from_label test ls)
walk_from test no_labels = no_labels
walk_from test (more_labels {constant = constant} h hs) = either_labels (test constant) (more_labels h hs) (walk_from test hs)

walk_or_else : {ls ks : List Labelled} → LabelsKeep ls → LabelsKeep ks → LabelsKeep (or_else ls ks)
walk_or_else no_labels k = k
walk_or_else (more_labels h hs) k = more_labels h hs

walk_switch : {ls : List Labelled} → LabelsKeep ls → (word : Word) → Keeps (switch ls word)
walk_switch hs word = walk_fall (walk_or_else (walk_from (is_constant (number_of word)) hs) (walk_from is_none hs))

-- blocks

to_end_block : (flow : Flow) → Keeps (end_block flow)
to_end_block On = followed to_release (given On)
to_end_block Broke = given _
to_end_block Continued = given _
to_end_block (Returned value) = given _

walk_block : {r : Run Flow} → Keeps r → Keeps (in_block r)
walk_block h = bound to_count_locals (λ outer. bound h (λ flow. followed (to_leave_blocks outer) (to_end_block flow)))

to_after_break : (flow : Flow) → Keeps (after_break flow)
to_after_break On = given _
to_after_break Broke = followed to_release (given On)
to_after_break Continued = given _
to_after_break (Returned value) = given _

walk_lazily : (op : Lazy) (b : Bool) {r : Run Word} → Keeps r → Keeps (lazily op b r)
walk_lazily lazies.And true h = h
walk_lazily lazies.And false h = given _
walk_lazily lazies.Or true h = given _
walk_lazily lazies.Or false h = h

-- phrases

module _ (p : Program) (run_body : Entry → Run (Option Word)) (bodies : (e : Entry) → Keeps (run_body e)) where
  abbrev c : Calls
  c = record { program = p; body = run_body }

  -- calls

  walk_frame : (name : List ℕ) (line : ℕ) (of : Word) (args : List Word) {r : Run Word} → Keeps r → Keeps (in_frame_of name line of args r)
  walk_frame name line of args h = bound (followed (to_enter name line of args) (followed (a_tick line) h)) to_leave

  pub walk_call : (callee : ModuleCallee) (of : Word) (args : List Word) → Keeps (call c callee of args)
  walk_call callee of args = bound (found_there (entry_of p.tree callee)) (λ e. followed to_demand_frame (walk_frame e.name e.line of args (bound (bodies e) (λ value. given (value_or_null value)))))

  pub walk_construct : (class : ℕ) (args : List Word) → Keeps (construct c class args)
  walk_construct class args =
      bound (found_there (entry_of p.tree (Construction class))) (λ e. bound (found_there (slice_get (p.tree).classes class)) (λ k. bound (followed (followed to_demand_frame to_demand_number) (to_make (blank p class k)))
      (λ number. walk_frame e.name e.line (words.Object number) args (followed (bodies e) (given (words.Object number))))))

  walk_through : (interface method number : ℕ) (args : List Word) → Keeps (call_through c interface method number args)
  walk_through interface method number args = bound (bound (looked (λ a. option_and_then (class_of p) (object_at number a.world.objects))) found_there) (λ class. bound (found_there (implemented p.tree interface method class)) (λ own. walk_call (ClassMethod class own) (words.Object number) args))

  walk_invoke : (method : Method) (number : ℕ) (args : List Word) → Keeps (invoke c method number args)
  walk_invoke (methods.Script class method result) number args = walk_call (ClassMethod class method) (words.Object number) args
  walk_invoke (methods.Interface interface method result) number args = walk_through interface method number args
  walk_invoke (methods.Host id result) number args = to_invoke_host (hosts.Object number) id result args
  walk_invoke (methods.Array method) number args = to_invoke_array method number args

  walk_target : (target : CallTarget) (args : List Word) → Keeps (call_target c target args)
  walk_target (targets.Function function result) args = walk_call (FreeFunction function) words.Null args
  walk_target (targets.Service service id result) args = to_invoke_host (hosts.Service service) id result args
  walk_target (targets.Class class) args = walk_construct class args
  walk_target (targets.Host kind) args = to_construct_host kind args
  walk_target (targets.Array of) args = to_construct_array (element_of p of) args

  -- expressions

  mutual
    pub walk_expression : (x : Expr) → Keeps (expression c x)
    walk_expression (Number int_type k) = given _
    walk_expression (Truth b) = given _
    walk_expression Null = given _
    walk_expression (This class) = bound (looked (λ a. a.frame.this)) to_give_held
    walk_expression (Read place) = bound (bound (walk_location place) to_read) to_give_held
    walk_expression (Invoke object method parameters es) = bound (walk_expression object) (λ handle. bound (walk_arguments es) (λ args. bound (to_object_of handle) (λ number. walk_invoke method number args)))
    walk_expression (Convert conversion e) = bound (walk_expression e) (λ word. given (converted_to conversion.to word))
    walk_expression (Cast to e) = bound (walk_expression e) (to_cast p to)
    walk_expression (Alter change e) = bound (walk_expression e) (λ word. given (altered change word))
    walk_expression (Operate operation a b) = bound (walk_expression a) (λ left. bound (walk_expression b) (to_operate operation left))
    walk_expression (Lazily operator a b) = bound (walk_expression a) (λ left. walk_lazily operator (is_true left) (walk_expression b))
    walk_expression (Conditional t a b) = bound (walk_expression t) (λ word. chosen_by (is_true word) (walk_expression a) (walk_expression b))
    walk_expression (Assign place e) = bound (walk_expression e) (λ word. bound (walk_location place) (to_store word))
    walk_expression (Update place int_type calculation e) = bound (walk_expression e) (λ right. bound (walk_location place) (to_update int_type calculation right))
    walk_expression (Count place int_type step) = bound (walk_location place) (to_count_at int_type step)
    walk_expression (Call target parameters es) = bound (walk_arguments es) (walk_target target)

    pub walk_location : (place : Place) → Keeps (location c place)
    walk_location (Stored variable) = given _
    walk_location (Held object member) = bound (bound (walk_expression object) to_object_of) (λ number. given (location_of_member member number))
    walk_location (Indexed array index of) = bound (walk_expression array) (λ handle. bound (walk_expression index) (to_element_at handle))

    pub walk_arguments : (es : Exprs) → Keeps (arguments c es)
    walk_arguments no_expr = given _
    walk_arguments (expr e es) = bound (walk_expression e) (λ word. bound (walk_arguments es) (λ rest. given (word ∷ rest)))

  -- parts of statements

  walk_value : (value : Option Expr) {f : Word → Run (Unit {0})} {r : Run (Unit {0})} → ((w : Word) → Keeps (f w)) → Keeps r → Keeps (option_map_or (λ e. full (expression c e >>= f)) value r)
  walk_value None hf hr = hr
  walk_value (Some e) hf hr = to_full (bound (walk_expression e) hf)

  walk_declare_all : (vs : List Initialization) → Keeps (declare_all c vs)
  walk_declare_all [] = given _
  walk_declare_all (v ∷ vs) = followed (walk_value v.value to_declare (to_declare (zero_of v.of))) (walk_declare_all vs)

  walk_evaluate : (e : Expr) → Keeps (evaluate c e)
  walk_evaluate e = followed (to_full (walk_expression e)) (given tt)

  walk_evaluate_all : (es : List Expr) → Keeps (evaluate_all c es)
  walk_evaluate_all [] = given _
  walk_evaluate_all (e ∷ es) = followed (walk_evaluate e) (walk_evaluate_all es)

  walk_condition : (e : Expr) → Keeps (condition c e)
  walk_condition e = bound (to_full (walk_expression e)) (λ word. given (is_true word))

  walk_condition_or_true : (e : Option Expr) → Keeps (condition_or_true c e)
  walk_condition_or_true None = given _
  walk_condition_or_true (Some e) = walk_condition e

  walk_begin : (head : Head) → Keeps (begin c head)
  walk_begin no_head = given _
  walk_begin (declared_head vs) = walk_declare_all vs
  walk_begin (evaluated_head e) = walk_evaluate e

  walk_return : (e : Option Expr) → Keeps (return_value c e)
  walk_return None = given _
  walk_return (Some e) = bound (walk_expression e) (λ word. given (Returned (Some word)))

  -- statements

  module _ (d : ℕ) where
    mutual
      pub walk_statement : (s : Stmt) → Keeps (statement c d s)
      walk_statement (Empty line) = followed (a_tick line) (given On)
      walk_statement (Declare line vs) = followed (followed (a_tick line) (walk_declare_all vs)) (given On)
      walk_statement (Evaluate line x) = followed (followed (a_tick line) (walk_evaluate x)) (given On)
      walk_statement (Block line ss) = walk_block (walk_statements ss)
      walk_statement (If line x s rest) = bound (followed (a_tick line) (walk_condition x)) (λ b. chosen_by b (walk_statement s) (walk_otherwise rest))
      walk_statement (Repeat line inside) = bound (followed (a_tick line) (walk_loop line inside)) to_after_break
      walk_statement (For line head inside) = bound (followed (a_tick line) (walk_block (followed (walk_begin head) (walk_loop line inside)))) to_after_break
      walk_statement (Switch line int_type x cs) = bound (bound (followed (a_tick line) (to_full (walk_expression x))) (walk_switch (walk_cases cs))) to_after_break
      walk_statement (Break line) = followed (a_tick line) (given Broke)
      walk_statement (Continue line) = followed (a_tick line) (given Continued)
      walk_statement (Return line x) = followed (a_tick line) (walk_return x)

      walk_otherwise : (s : Branch) → Keeps (otherwise c d s)
      walk_otherwise no_branch = given _
      walk_otherwise (branch s) = walk_statement s

      walk_loop : (line : ℕ) (inside : Loop) → Keeps (loop c d line inside)
      walk_loop line (repeated test x es s) = walk_repeat test d line (walk_condition_or_true x) (walk_evaluate_all es) (walk_statement s)

      walk_statements : (ss : Stmts) → Keeps (statements c d ss)
      walk_statements no_stmt = given _
      walk_statements (stmt s ss) = bound (walk_statement s) (walk_go_on (walk_statements ss))

      walk_labels : (x : Case) {ls : List Labelled} → LabelsKeep ls → LabelsKeep (case_run c d x ∷ ls)
      walk_labels (labelled l ss) hs = more_labels (walk_statements ss) hs

      walk_cases : (cs : Cases) → LabelsKeep (cases c d cs)
      walk_cases no_case = no_labels
      walk_cases (next_case x cs) = walk_labels x (walk_cases cs)

    -- frames

    to_write_field : (place : ℕ) (w : Word) → Keeps (write_field place w)
    to_write_field place w = bound (bound (looked (λ a. a.frame.this)) to_object_of) (λ number. to_write (Part number place) w)

    walk_fields : (place : ℕ) (vs : List Initialization) → Keeps (initialize_fields c place vs)
    walk_fields place [] = given _
    walk_fields place (v ∷ vs) = followed (walk_value v.value (to_write_field place) (given tt)) (walk_fields (place + 1) vs)

    pub walk_entry : (x : Entry) → Keeps (run_entry c d x)
    walk_entry x = bound (followed (walk_fields 0 x.fields) (walk_statements x.body)) (λ flow. given (value_of flow))

  -- initializers

  walk_globals : (place : ℕ) (vs : List Initialization) → Keeps (initialize_globals c place vs)
  walk_globals place [] = given _
  walk_globals place (v ∷ vs) = followed (walk_value v.value (to_write (Global place)) (given tt)) (walk_globals (place + 1) vs)

  pub walk_module : (place : ℕ) (ds : List Variables) → Keeps (initialize_module c place ds)
  walk_module place [] = given _
  walk_module place (d ∷ ds) = followed (followed (a_tick d.line) (walk_globals place d.values)) (walk_module (place + length d.values) ds)
