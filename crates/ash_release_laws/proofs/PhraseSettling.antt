-- Phrases settle, where the bodies that they call do.
use Rattle.std.proofs.Common.{◌≡◌, ◌⊎◌, ◌+◌, ℕ, zero, suc, ℤ, Bool, true, false, inl, inr, refl, sym, subst, List, [], ◌∷◌, length, slice_get, Option, Some, None, if◌then◌else◌, flat_map}
use Rattle.std.specs.Prelude.{is_none, Contains}
use Rattle.std.specs.Option.{option_map_or, option_and_then}
use Rattle.std.proofs.lemmas.List.Elements.{Contains-append_right}
use Rattle.ash_host.specs.declared.word.Word.{Word}
use Rattle.ash_host.specs.declared.word.Word.TheVariants as words
use Rattle.ash_host.specs.declared.event.Target.TheVariants as hosts
use Rattle.ash_host.specs.Objects.{object_at, handle, handles, Lives}
use Rattle.ash_host.specs.Reach.{Root}
use Rattle.ash_integers.specs.Integers.{number_of}
use Rattle.ash_typed.specs.declared.tree.operations.Lazy.{Lazy}
use Rattle.ash_typed.specs.declared.tree.operations.Lazy.TheVariants as lazies
use Rattle.ash_typed.specs.declared.tree.operations.Method.{Method}
use Rattle.ash_typed.specs.declared.tree.operations.Method.TheVariants as methods
use Rattle.ash_typed.specs.declared.tree.operations.CallTarget.{CallTarget}
use Rattle.ash_typed.specs.declared.tree.operations.CallTarget.TheVariants as targets
use Rattle.ash_typed.specs.declared.tree.statements.Test.{Test}
use Rattle.ash_typed.specs.declared.tree.statements.Test.TheVariants as tests
use Rattle.ash_typed.specs.TypedTree.{Expr, Number, Truth, Null, This, Read, Invoke, Convert, Cast, Alter, Operate, Lazily, Conditional, Assign, Update, Count, Call, Place, Stored, Held, Indexed, Exprs, no_expr, expr}
use Rattle.ash_typed.specs.StatementTree.{Initialization, Stmt, Empty, Declare, Evaluate, Block, If, Branch, no_branch, branch, Head, no_head, declared_head, evaluated_head, Repeat, For, Loop, repeated, Switch, Break, Continue, Return, Stmts, no_stmt, stmt, Case, labelled, Cases, no_case, next_case}
use Rattle.ash_typed.specs.Modules.{Variables}
use Rattle.ash_meaning.specs.Activity.{Frame, Activity}
use Rattle.ash_meaning.specs.Runs.{Done, Run, ◌>>=◌, ◌>>◌}
use Rattle.ash_meaning.specs.Frames.{frame_of, tick, back_in, leave, in_frame_of}
use Rattle.ash_meaning.specs.Classes.{Program, class_of, implemented, element_of, ModuleCallee, Construction, Method as ClassMethod, FreeFunction, Entry, entry_of}
use Rattle.ash_meaning.specs.CallMeaning.{Calls, value_or_null, blank, call, construct, call_through, invoke, call_target}
use Rattle.ash_meaning.specs.OperatorMeaning.{is_true, zero_of, converted_to, altered}
use Rattle.ash_meaning.specs.Locations.{Global, Part, location_of_member}
use Rattle.ash_meaning.specs.ExpressionMeaning.{expression, location, arguments, lazily}
use Rattle.ash_meaning.specs.StatementMeaning.{Flow, On, Broke, Continued, Returned, go_on, end_block, in_block, after_break, declare_all, evaluate, evaluate_all, condition, condition_or_true, begin, return_value, Turn, after_body, turn, turns, repeat, Labelled, from_label, is_constant, or_else, fall_through, switch, statement, otherwise, loop, statements, case_run, cases}
use Rattle.ash_meaning.specs.Functions.{initialize_globals, initialize_module, write_field, initialize_fields, value_of, run_entry, body}
use Rattle.ash_meaning.specs.Releases.{holding, roots_of_frame, roots, release, full}
use Rattle.ash_meaning.specs.Traces.{after_release}
use Rattle.ash_release_laws.specs.Settling.{Reaches, IsSettled, IsSettledBy, IsNumbered, KeepsItsFrame}
use Rattle.ash_release_laws.proofs.Roots.{this_root, local_root, held_root, first_root, caller_root, outside_root, global_root, frame_root, root_cases, frame_cases}
use Rattle.ash_release_laws.proofs.Settling.{Goes, Comes, done, ended, Settling, Anything, weaken, bind, bound, followed, given, looked, chosen_by, found_there, outer, Calm, reach_on, released, release_goes, kept_more}
use Rattle.ash_release_laws.proofs.StepSettling.{IsSettledBut, to_give_held, to_full, to_count_locals, to_declare, to_leave_blocks, to_tick, to_demand_frame, to_object_of, to_demand_number, to_make, to_invoke_host, to_construct_host, to_operate, to_read, to_write, to_store, to_update, to_count_at, to_element_at, to_construct_array, to_invoke_array, to_cast}

-- frames

-- the caller has what it had, and holds the result
back_has : (ns : List ℕ) (f : Frame) (n : ℕ) → Contains (roots_of_frame f) n → Contains (roots_of_frame (holding ns f)) n
back_has ns f n c =
    elim (frame_cases f.this f.locals f.held n c) [
      | inl this ↦ this_root (holding ns f) n this
      | inr others ↦
          elim others [
            | inl local ↦ local_root (holding ns f) n local
            | inr held ↦ held_root (holding ns f) n (Contains-append_right ns f.held n held)
          ]
    ]

-- what is left of a frame that was entered here: its callers
leave_goes : (P : Type 0) (a z : Activity) (w : Word) → IsNumbered z → z.callers ≡ a.frame ∷ a.callers → ((n : ℕ) → Contains (flat_map roots_of_frame (a.frame ∷ a.callers)) n → Lives (a.world).objects n → Lives (z.world).objects n) → Comes P (λ (v : Word) b. Goes true P (IsSettled b) a b) (leave w z)
unfolding leave release
leave_goes P a z w numbered same lives =
    subst (λ (cs : List Frame). Comes P (λ (v : Word) b. Goes true P (IsSettled b) a b) (Done w (after_release (back_in cs w z)))) (sym same) (done (record {
      numbered = after.numbered;
      settled = after.settled;
      kept = kept_more true a (back_in (a.frame ∷ a.callers) w z) (after_release (back_in (a.frame ∷ a.callers) w z)) back after.kept;
    }))
  where
    y : Activity
    y = back_in (a.frame ∷ a.callers) w z

    back : KeepsItsFrame a (back_in (a.frame ∷ a.callers) w z)
    back = record {
      more = handles (w ∷ []);
      held = refl;
      this = refl;
      locals = refl;
      has = back_has (handles (w ∷ [])) a.frame;
      callers = refl;
      lives = lives;
    }

    after : Goes true P (IsSettled (after_release (back_in (a.frame ∷ a.callers) w z))) (back_in (a.frame ∷ a.callers) w z) (after_release (back_in (a.frame ∷ a.callers) w z))
    after = release_goes true P (back_in (a.frame ∷ a.callers) w z) numbered

abbrev pub entered_at : List ℕ → ℕ → Word → List Word → Activity → Activity
entered_at name line of args a = record a { frame = frame_of name line of args; callers = a.frame ∷ a.callers }

-- what could be reached can be reached from a frame that is entered
entered_reach : (name : List ℕ) (line : ℕ) (of : Word) (args : List Word) (a : Activity) (n : ℕ) → Reaches a n → Reaches (entered_at name line of args a) n
entered_reach name line of args a n r = reach_on a (entered_at name line of args a) rooted (λ one other f. inl f) n r
  where
    rooted : (m : ℕ) → Contains (roots (a.frame ∷ a.callers) a.world) m → Contains (roots (frame_of name line of args ∷ a.frame ∷ a.callers) a.world) m
    rooted m c =
        elim (root_cases (a.frame ∷ a.callers) a.world m c) [
          | inl one ↦ outside_root (frame_of name line of args ∷ a.frame ∷ a.callers) a.world m one
          | inr others ↦
              elim others [
                | inl global ↦ global_root (frame_of name line of args ∷ a.frame ∷ a.callers) a.world m global
                | inr frames ↦ frame_root (frame_of name line of args ∷ a.frame ∷ a.callers) a.world m (caller_root (frame_of name line of args) (a.frame ∷ a.callers) m frames)
              ]
        ]

-- A frame is entered where everything can be reached, or is its object.
frame_goes : (name : List ℕ) (line : ℕ) (of : Word) (args : List Word) {r : Run Word} → Settling false IsSettled (λ (v : Word). Anything) r → (a : Activity) (P : Type 0) → IsNumbered a → (P → (n : ℕ) → Lives (a.world).objects n → (handle of ≡ Some n) ⊎ Reaches a n) → Comes P (λ (v : Word) b. Goes true P (IsSettled b) a b) (in_frame_of name line of args r a)
frame_goes name line of args {r} h a P numbered reached =
    bind (weaken settled (λ v z g. g) (run.comes entered numbered)) (λ w z g. leave_goes P a z w g.numbered (g.kept).callers (g.kept).lives)
  where
    entered : Activity
    entered = entered_at name line of args a

    run : Settling false IsSettled (λ (v : Word). Anything) (tick line >> r)
    run = followed (outer (to_tick line)) h

    now : (n : ℕ) → (handle of ≡ Some n) ⊎ Reaches a n → Reaches (entered_at name line of args a) n
    now n (inl here) = Root (frame_root (frame_of name line of args ∷ a.frame ∷ a.callers) a.world n (first_root (frame_of name line of args) (a.frame ∷ a.callers) n (this_root (frame_of name line of args) n here)))
    now n (inr r) = entered_reach name line of args a n r

    settled : P → IsSettled (entered_at name line of args a)
    settled p = record { reached = λ n lives. now n (reached p n lives) }

to_frame : (name : List ℕ) (line : ℕ) (of : Word) (args : List Word) {r : Run Word} → Settling false IsSettled (λ (v : Word). Anything) r → Calm true (in_frame_of name line of args r)
to_frame name line of args h = record { comes = λ a numbered. frame_goes name line of args h a (IsSettled a) numbered (λ s n lives. inr (s.reached n lives)) }

to_frame_of_new : (name : List ℕ) (line number : ℕ) (args : List Word) {r : Run Word} → Settling false IsSettled (λ (v : Word). Anything) r → Settling true (IsSettledBut number) (λ (v : Word). IsSettled) (in_frame_of name line (words.Object number) args r)
to_frame_of_new name line number args h = record { comes = λ a numbered. frame_goes name line (words.Object number) args h a (IsSettledBut number a) numbered (λ s n lives. new a n (s n lives)) }
  where
    new : (a : Activity) (n : ℕ) → (n ≡ number) ⊎ Reaches a n → (Some number ≡ Some n) ⊎ Reaches a n
    new a n (inl here) = inl (cc)
    new a n (inr r) = inr r

-- flows

-- a run that is left by a jump, or goes on
abbrev pub Led : Run Flow → Type 0
Led r = Settling false IsSettled IsSettledBy r

abbrev pub Passing : Run (Unit {0}) → Type 0
Passing r = Calm false r

to_go_on : {r : Run Flow} → Led r → (flow : Flow) → Settling false (IsSettledBy flow) IsSettledBy (go_on r flow)
to_go_on h On = h
to_go_on h Broke = given Broke (λ a s. s)
to_go_on h Continued = given Continued (λ a s. s)
to_go_on h (Returned value) = given (Returned value) (λ a s. s)

to_end_block : (flow : Flow) → Settling false Anything IsSettledBy (end_block flow)
to_end_block On = followed released (given On (λ a s. s))
to_end_block Broke = given Broke (λ a s. s)
to_end_block Continued = given Continued (λ a s. s)
to_end_block (Returned value) = given (Returned value) (λ a s. s)

to_block : {r : Run Flow} → Led r → Led (in_block r)
to_block h = bound to_count_locals (λ outer. bound h (λ flow. followed (to_leave_blocks outer) (to_end_block flow)))

to_after_break : (flow : Flow) → Settling false (IsSettledBy flow) IsSettledBy (after_break flow)
to_after_break On = given On (λ a s. s)
to_after_break Broke = followed released (given On (λ a s. s))
to_after_break Continued = given Continued (λ a s. s)
to_after_break (Returned value) = given (Returned value) (λ a s. s)

-- loops

abbrev turn_of : ℕ → Run Bool → Run (Unit {0}) → Run Flow → Turn
turn_of line condition steps body = record { line = line; condition = condition; steps = steps; body = body }

module _ (line : ℕ) {c : Run Bool} {s : Run (Unit {0})} {b : Run Flow} (hc : Calm false c) (hs : Passing s) (hb : Led b) where
  to_after_body : {next : Run Flow} → Led next → (flow : Flow) → Settling false (IsSettledBy flow) IsSettledBy (after_body (turn_of line c s b) next flow)
  to_after_body h On = followed hs h
  to_after_body h Continued = followed (followed released hs) h
  to_after_body h Broke = given Broke (λ a s. s)
  to_after_body h (Returned value) = given (Returned value) (λ a s. s)

  to_turn : {next : Run Flow} → Led next → Led (turn (turn_of line c s b) next)
  to_turn h = bound hb (to_after_body h)

  to_turns : (d : ℕ) → Led (turns d (turn_of line c s b))
  to_turns zero = followed (outer (to_tick line)) (record { comes = λ a numbered. ended (λ s. s) })
  to_turns (suc d) = followed (outer (to_tick line)) (bound hc (λ goes_on. chosen_by goes_on (to_turn (to_turns d)) (given On (λ a s. s))))

  to_repeat : (test : Test) (d : ℕ) → Led (repeat test d (turn_of line c s b))
  to_repeat tests.First d = to_turns d
  to_repeat tests.Last d = to_turn (to_turns d)

-- labels

data Labels : List Labelled → Type 0 where
  no_labels : Labels []
  more_labels : {constant : Option ℤ} {r : Run Flow} {ls : List Labelled} → Led r → Labels ls → Labels (record { constant = constant; run = r } ∷ ls)

to_fall : {ls : List Labelled} → Labels ls → Led (fall_through ls)
to_fall no_labels = given On (λ a s. s)
to_fall (more_labels h hs) = bound h (to_go_on (to_fall hs))

either_labels : {ls ms : List Labelled} (b : Bool) → Labels ls → Labels ms → Labels (if b then ls else ms)
either_labels true h k = h
either_labels false h k = k

to_from : (test : Option ℤ → Bool) {ls : List Labelled} → Labels ls → Labels (from_label test ls)
to_from test no_labels = no_labels
to_from test (more_labels {constant = constant} h hs) = either_labels (test constant) (more_labels h hs) (to_from test hs)

to_or_else : {ls ms : List Labelled} → Labels ls → Labels ms → Labels (or_else ls ms)
to_or_else no_labels k = k
to_or_else (more_labels h hs) k = more_labels h hs

to_switch : {ls : List Labelled} → Labels ls → (word : Word) → Led (switch ls word)
to_switch hs word = to_fall (to_or_else (to_from (is_constant (number_of word)) hs) (to_from is_none hs))

to_lazily : (op : Lazy) (b : Bool) {r : Run Word} → Calm true r → Calm true (lazily op b r)
to_lazily lazies.And true h = h
to_lazily lazies.And false h = given _ (λ a s. s)
to_lazily lazies.Or true h = given _ (λ a s. s)
to_lazily lazies.Or false h = h

-- phrases

module _ (p : Program) (of : Entry → Run (Option Word)) (bodies : (e : Entry) → Settling false IsSettled (λ (v : Option Word). Anything) (of e)) where
  abbrev c : Calls
  c = record { program = p; body = of }

  -- calls

  pub to_call : (callee : ModuleCallee) (this : Word) (args : List Word) → Calm true (call c callee this args)
  to_call callee this args = bound (found_there (entry_of p.tree callee)) (λ e. followed to_demand_frame (to_frame e.name e.line this args (bound (bodies e) (λ value. given (value_or_null value) (λ a s. s)))))

  pub to_construct : (class : ℕ) (args : List Word) → Calm true (construct c class args)
  to_construct class args =
      bound (found_there (entry_of p.tree (Construction class))) (λ e. bound (found_there (slice_get (p.tree).classes class)) (λ k. bound (followed (followed to_demand_frame to_demand_number) (to_make (blank p class k)))
      (λ number. to_frame_of_new e.name e.line number args (followed (bodies_end e) (given (words.Object number) (λ a s. s))))))
    where
      bodies_end : (e : Entry) → Settling false IsSettled (λ (v : Option Word). Anything) (of e)
      bodies_end e = bodies e

  to_through : (interface method number : ℕ) (args : List Word) → Calm true (call_through c interface method number args)
  to_through interface method number args = bound (bound (looked (λ a. option_and_then (class_of p) (object_at number a.world.objects))) found_there) (λ class. bound (found_there (implemented p.tree interface method class)) (λ own. to_call (ClassMethod class own) (words.Object number) args))

  pub to_invoke : (method : Method) (number : ℕ) (args : List Word) → Calm true (invoke c method number args)
  to_invoke (methods.Script class method result) number args = to_call (ClassMethod class method) (words.Object number) args
  to_invoke (methods.Interface interface method result) number args = to_through interface method number args
  to_invoke (methods.Host id result) number args = to_invoke_host (hosts.Object number) id result args
  to_invoke (methods.Array method) number args = to_invoke_array method number args

  pub to_target : (target : CallTarget) (args : List Word) → Calm true (call_target c target args)
  to_target (targets.Function function result) args = to_call (FreeFunction function) words.Null args
  to_target (targets.Service service id result) args = to_invoke_host (hosts.Service service) id result args
  to_target (targets.Class class) args = to_construct class args
  to_target (targets.Host kind) args = to_construct_host kind args
  to_target (targets.Array of) args = to_construct_array (element_of p of) args

  -- expressions

  mutual
    pub to_expression : (x : Expr) → Calm true (expression c x)
    to_expression (Number int_type k) = given _ (λ a s. s)
    to_expression (Truth b) = given _ (λ a s. s)
    to_expression Null = given _ (λ a s. s)
    to_expression (This class) = bound (looked (λ a. a.frame.this)) to_give_held
    to_expression (Read place) = bound (bound (to_location place) to_read) to_give_held
    to_expression (Invoke object method parameters es) = bound (to_expression object) (λ handle. bound (to_arguments es) (λ args. bound (to_object_of handle) (λ number. to_invoke method number args)))
    to_expression (Convert conversion e) = bound (to_expression e) (λ word. given (converted_to conversion.to word) (λ a s. s))
    to_expression (Cast to e) = bound (to_expression e) (to_cast p to)
    to_expression (Alter change e) = bound (to_expression e) (λ word. given (altered change word) (λ a s. s))
    to_expression (Operate operation a b) = bound (to_expression a) (λ left. bound (to_expression b) (to_operate operation left))
    to_expression (Lazily operator a b) = bound (to_expression a) (λ left. to_lazily operator (is_true left) (to_expression b))
    to_expression (Conditional t a b) = bound (to_expression t) (λ word. chosen_by (is_true word) (to_expression a) (to_expression b))
    to_expression (Assign place e) = bound (to_expression e) (λ word. bound (to_location place) (to_store word))
    to_expression (Update place int_type calculation e) = bound (to_expression e) (λ right. bound (to_location place) (to_update int_type calculation right))
    to_expression (Count place int_type step) = bound (to_location place) (to_count_at int_type step)
    to_expression (Call target parameters es) = bound (to_arguments es) (to_target target)

    pub to_location : (place : Place) → Calm true (location c place)
    to_location (Stored variable) = given _ (λ a s. s)
    to_location (Held object member) = bound (bound (to_expression object) to_object_of) (λ number. given (location_of_member member number) (λ a s. s))
    to_location (Indexed array index of) = bound (to_expression array) (λ handle. bound (to_expression index) (to_element_at handle))

    pub to_arguments : (es : Exprs) → Calm true (arguments c es)
    to_arguments no_expr = given _ (λ a s. s)
    to_arguments (expr e es) = bound (to_expression e) (λ word. bound (to_arguments es) (λ rest. given (word ∷ rest) (λ a s. s)))

  -- parts of statements

  pub to_full_expression : (e : Expr) → Calm false (full (expression c e))
  to_full_expression e = to_full (outer (to_expression e))

  to_value : (value : Option Expr) {f : Word → Run (Unit {0})} {r : Run (Unit {0})} → ((w : Word) → Passing (f w)) → Passing r → Passing (option_map_or (λ e. full (expression c e >>= f)) value r)
  to_value None hf hr = hr
  to_value (Some e) hf hr = to_full (bound (outer (to_expression e)) hf)

  pub to_declare_all : (vs : List Initialization) → Passing (declare_all c vs)
  to_declare_all [] = given _ (λ a s. s)
  to_declare_all (v ∷ vs) = followed (to_value v.value to_declare (to_declare (zero_of v.of))) (to_declare_all vs)

  to_evaluate : (e : Expr) → Passing (evaluate c e)
  to_evaluate e = followed (to_full_expression e) (given tt (λ a s. s))

  to_evaluate_all : (es : List Expr) → Passing (evaluate_all c es)
  to_evaluate_all [] = given _ (λ a s. s)
  to_evaluate_all (e ∷ es) = followed (to_evaluate e) (to_evaluate_all es)

  to_condition : (e : Expr) → Calm false (condition c e)
  to_condition e = bound (to_full_expression e) (λ word. given (is_true word) (λ a s. s))

  to_condition_or_true : (e : Option Expr) → Calm false (condition_or_true c e)
  to_condition_or_true None = given _ (λ a s. s)
  to_condition_or_true (Some e) = to_condition e

  to_begin : (head : Head) → Passing (begin c head)
  to_begin no_head = given _ (λ a s. s)
  to_begin (declared_head vs) = to_declare_all vs
  to_begin (evaluated_head e) = to_evaluate e

  to_return : (e : Option Expr) → Led (return_value c e)
  to_return None = given _ (λ a s. tt)
  to_return (Some e) = bound (outer (to_expression e)) (λ word. given (Returned (Some word)) (λ a s. tt))

  -- statements

  module _ (d : ℕ) where
    mutual
      pub to_statement : (s : Stmt) → Led (statement c d s)
      to_statement (Empty line) = followed (outer (to_tick line)) (given On (λ a s. s))
      to_statement (Declare line vs) = followed (followed (outer (to_tick line)) (to_declare_all vs)) (given On (λ a s. s))
      to_statement (Evaluate line x) = followed (followed (outer (to_tick line)) (to_evaluate x)) (given On (λ a s. s))
      to_statement (Block line ss) = to_block (to_statements ss)
      to_statement (If line x s rest) = bound (followed (outer (to_tick line)) (to_condition x)) (λ b. chosen_by b (to_statement s) (to_otherwise rest))
      to_statement (Repeat line inside) = bound (followed (outer (to_tick line)) (to_loop line inside)) to_after_break
      to_statement (For line head inside) = bound (followed (outer (to_tick line)) (to_block (followed (to_begin head) (to_loop line inside)))) to_after_break
      to_statement (Switch line int_type x cs) = bound (bound (followed (outer (to_tick line)) (to_full_expression x)) (to_switch (to_cases cs))) to_after_break
      to_statement (Break line) = followed (outer (to_tick line)) (given Broke (λ a s. tt))
      to_statement (Continue line) = followed (outer (to_tick line)) (given Continued (λ a s. tt))
      to_statement (Return line x) = followed (outer (to_tick line)) (to_return x)

      to_otherwise : (s : Branch) → Led (otherwise c d s)
      to_otherwise no_branch = given _ (λ a s. s)
      to_otherwise (branch s) = to_statement s

      to_loop : (line : ℕ) (inside : Loop) → Led (loop c d line inside)
      to_loop line (repeated test x es s) = to_repeat line (to_condition_or_true x) (to_evaluate_all es) (to_statement s) test d

      pub to_statements : (ss : Stmts) → Led (statements c d ss)
      to_statements no_stmt = given _ (λ a s. s)
      to_statements (stmt s ss) = bound (to_statement s) (to_go_on (to_statements ss))

      to_labels : (x : Case) {ls : List Labelled} → Labels ls → Labels (case_run c d x ∷ ls)
      to_labels (labelled l ss) hs = more_labels (to_statements ss) hs

      to_cases : (cs : Cases) → Labels (cases c d cs)
      to_cases no_case = no_labels
      to_cases (next_case x cs) = to_labels x (to_cases cs)

  -- frames

  to_write_field : (place : ℕ) (w : Word) → Calm true (write_field place w)
  to_write_field place w = bound (bound (looked (λ a. a.frame.this)) to_object_of) (λ number. to_write (Part number place) w)

  pub to_fields : (place : ℕ) (vs : List Initialization) → Passing (initialize_fields c place vs)
  to_fields place [] = given _ (λ a s. s)
  to_fields place (v ∷ vs) = followed (to_value v.value (λ w. outer (to_write_field place w)) (given tt (λ a s. s))) (to_fields (place + 1) vs)

  to_entry : (d : ℕ) (x : Entry) → Settling false IsSettled (λ (v : Option Word). Anything) (run_entry c d x)
  to_entry d x = bound (followed (to_fields 0 x.fields) (to_statements d x.body)) (λ flow. given (value_of flow) (λ a s. tt))

  -- initializers

  to_globals : (place : ℕ) (vs : List Initialization) → Passing (initialize_globals c place vs)
  to_globals place [] = given _ (λ a s. s)
  to_globals place (v ∷ vs) = followed (to_value v.value (λ w. outer (to_write (Global place) w)) (given tt (λ a s. s))) (to_globals (place + 1) vs)

  pub to_module : (place : ℕ) (ds : List Variables) → Passing (initialize_module c place ds)
  to_module place [] = given _ (λ a s. s)
  to_module place (d ∷ ds) = followed (followed (outer (to_tick d.line)) (to_globals place d.values)) (to_module (place + length d.values) ds)

-- what a frame does
pub to_body : (p : Program) (d : ℕ) (e : Entry) → Settling false IsSettled (λ (v : Option Word). Anything) (body p d e)
to_body p zero e = record { comes = λ a numbered. ended (λ s. s) }
to_body p (suc d) e = to_entry p (body p d) (to_body p d) d e
