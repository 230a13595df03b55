-- Statements of a block in their order, and the locals that end with it.
use Rattle.std.proofs.Common.{◌≡◌, ℕ, List, [], ◌∷◌, ◌++◌, Ok, Err, refl, sym, subst, ap, ◌∙◌, append_assoc, append-nil}
use Rattle.std.proofs.Common.{length, take, drop, get_or, map, ◌<◌, ◌≤◌, ◌+◌, suc, add-one, drop-cons}
use Rattle.std.proofs.Common.{drop_of_length-le, Result, Option, IfOk}
use Rattle.std.proofs.lemmas.List.{take_at, take-map, length-map, map-append}
use Rattle.std.specs.declared.vec.Vec.{Vec}
use Rattle.std.specs.declared.alloc.Global.{Global}
use Rattle.ash_tree.specs.declared.tree.places.Position.{Position}
use Rattle.ash_tree.specs.declared.tree.statements.StmtKind as code_kind
use Rattle.ash_tree.specs.declared.tree.statements.StmtKind.TheViews as kinds
use Rattle.ash_tree.specs.declared.tree.statements.Stmt as code_stmt
use Rattle.ash_tree.specs.declared.tree.statements.Case as code_case
use Rattle.ash_tree.specs.declared.tree.expressions.Expr as code_expr
use Rattle.ash_tree.specs.declared.tree.statements.Label.{Label}
use Rattle.ash_tree.specs.Tree as written
use Rattle.ash_tree.specs.TreeViews.{stmt_at, stmt_of, case_of, expr_of}
use Rattle.ash_tree.proofs.Rows.{block_is, switch_is}
use Rattle.ash_typed.specs.declared.tree.statements.Stmt as typed_stmt
use Rattle.ash_typed.specs.declared.tree.statements.Case as typed_case
use Rattle.ash_integers.specs.declared.int_type.IntType.{IntType}
use Rattle.ash_typed.specs.BodyViews as typed_views
use Rattle.ash_type_rules.specs.Switches.{check_label}
use Rattle.ash_type_rules.specs.TypingResult.{TypingResult, ◌>>=◌}
use Rattle.ash_typed.specs.StatementTree.{Initialization, Stmt, Block, Stmts, no_stmt, stmt, stmts, Case, labelled}
use Rattle.ash_typed.specs.StatementTree.{Cases, no_case, next_case, cases}
use Rattle.ash_type_rules.specs.Environment.{Declared}
use Rattle.ash_type_rules.specs.StatementRules.{check_stmt, check_stmts, check_cases}
use Rattle.ash_check_names.specs.declared.signatures.Binding as code_binding
use Rattle.ash_check_names.specs.declared.error.CheckError.{CheckError}
use Rattle.ash_check_names.specs.declared.error.CheckError.TheVariants as errors
use Rattle.ash_check_names.specs.Agreement.{FailsWith}
use Rattle.ash_check_names.specs.EnvironmentViews.{binding_of}
use Rattle.ash_check_statements.proofs.ReturnLaws.{case_is, begins_at}
use Rattle.ash_type_rules.specs.Scopes.{Scope, block_of, after}
use Rattle.ash_type_rules.specs.Labels.{is_last}

-- the results so far, with those of the rest

abbrev pub values_after : List Initialization → TypingResult (List Initialization) → TypingResult (List Initialization)
values_after done r = r >>= λ values. Ok (done ++ values)

abbrev pub stmts_before : List Stmt → Stmts → Stmts
stmts_before [] ss = ss
stmts_before (s ∷ done) ss = stmt s (stmts_before done ss)

abbrev pub stmts_after : List Stmt → TypingResult Stmts → TypingResult Stmts
stmts_after done r = r >>= λ ss. Ok (stmts_before done ss)

abbrev pub cases_before : List Case → Cases → Cases
cases_before [] cs = cs
cases_before (c ∷ done) cs = next_case c (cases_before done cs)

abbrev pub cases_after : List Case → TypingResult Cases → TypingResult Cases
cases_after done r = r >>= λ cs. Ok (cases_before done cs)

pub no_stmt_before : (r : TypingResult Stmts) → stmts_after [] r ≡ r
no_stmt_before (Ok ss) = refl
no_stmt_before (Err f) = refl

before_none : (done : List Stmt) → stmts_before done no_stmt ≡ stmts done
before_none [] = refl
before_none (s ∷ done) = ap (stmt s) (before_none done)

pub no_stmt_after : (done : List Stmt) → stmts_after done (Ok no_stmt) ≡ Ok (stmts done)
no_stmt_after done = ap Ok (before_none done)

before_more : (done : List Stmt) (s : Stmt) (ss : Stmts) → stmts_before done (stmt s ss) ≡ stmts_before (done ++ s ∷ []) ss
before_more [] s ss = refl
before_more (x ∷ done) s ss = ap (stmt x) (before_more done s ss)

after_more : (done : List Stmt) (s : Stmt) (r : TypingResult Stmts) → stmts_after done (r >>= λ ss. Ok (stmt s ss)) ≡ stmts_after (done ++ s ∷ []) r
after_more done s (Ok ss) = ap Ok (before_more done s ss)
after_more done s (Err f) = refl

-- a statement, and those after it
pub next_stmt : (done : List Stmt) (scope next : Scope) (s : written.Stmt) (ss : written.Stmts) (t : Stmt) → check_stmt scope s ≡ Ok t → next ≡ after scope s → stmts_after done (check_stmts scope (written.stmt s ss)) ≡ stmts_after (done ++ t ∷ []) (check_stmts next ss)
next_stmt done scope next s ss t h k =
    ap (λ r. stmts_after done (r >>= λ x. check_stmts (after scope s) ss >>= λ xs. Ok (stmt x xs))) h
    ∙ after_more done t (check_stmts (after scope s) ss)
    ∙ ap (λ x. stmts_after (done ++ t ∷ []) (check_stmts x ss)) (sym k)

-- locals with others after them

abbrev pub Extends : List Declared → List Declared → Type 0
Extends before locals = (more : List Declared) × (locals ≡ before ++ more)

pub extends_itself : (locals : List Declared) → Extends locals locals
extends_itself locals = ([], sym (append-nil locals))

extends_more : (before locals more : List Declared) → Extends before locals → Extends before (locals ++ more)
extends_more before locals more h = (h.0 ++ more, ap (λ xs. xs ++ more) h.1 ∙ append_assoc before h.0 more)

extends_after : (before : List Declared) (scope : Scope) (s : written.Stmt) → Extends before scope.env.locals → Extends before (after scope s).env.locals
extends_after before scope (written.Declare p v) h = extends_more before scope.env.locals _ h
extends_after before scope (written.Empty p) h = h
extends_after before scope (written.Evaluate p e) h = h
extends_after before scope (written.Block p ss) h = h
extends_after before scope (written.If p c s) h = h
extends_after before scope (written.IfElse p c s t) h = h
extends_after before scope (written.While p c s) h = h
extends_after before scope (written.DoWhile p s c) h = h
extends_after before scope (written.For p f c es s) h = h
extends_after before scope (written.Switch p e cs) h = h
extends_after before scope (written.Break p) h = h
extends_after before scope (written.Continue p) h = h
extends_after before scope (written.Return p e) h = h

-- a statement leaves the locals before it
pub extends_next : (before : List Declared) (scope next : Scope) (s : written.Stmt) → next ≡ after scope s → Extends before scope.env.locals → Extends before next.env.locals
extends_next before scope next s k h = subst (λ (x : Scope). Extends before x.env.locals) (sym k) (extends_after before scope s h)

-- at the end of a block its locals end
pub locals_go : (old all new : List code_binding.Binding) (count : ℕ) → count ≡ length old → new ≡ take count all → Extends (map binding_of old) (map binding_of all) → map binding_of new ≡ map binding_of old
locals_go old all new count k n h =
    ap (map binding_of) n
    ∙ sym (take-map binding_of count all)
    ∙ ap (take count) h.1
    ∙ take_at (map binding_of old) h.0 count (length-map old binding_of ∙ sym k)

-- blocks and switches, which hold lists

pub block_of_source : (source : code_stmt.Stmt) (kind : code_kind.StmtKind) (ss : Vec code_stmt.Stmt Global) (items : List code_stmt.Stmt) → kind ≡ source.kind.value → kind ≡ kinds.Block ss → items ≡ ss.items → stmt_of source ≡ written.Block source.place (written.stmts (map stmt_of items))
block_of_source source kind ss items k is i = ap (stmt_at source.place) (sym k ∙ is) ∙ block_is source.place ss ∙ ap (λ xs. written.Block source.place (written.stmts (map stmt_of xs))) (sym i)

pub switch_of_source : (source : code_stmt.Stmt) (kind : code_kind.StmtKind) (e : code_expr.Expr) (cs : Vec code_case.Case Global) (items : List code_case.Case) → kind ≡ source.kind.value → kind ≡ kinds.Switch e cs → items ≡ cs.items → stmt_of source ≡ written.Switch source.place (expr_of e) (written.cases (map case_of items))
switch_of_source source kind e cs items k is i = ap (stmt_at source.place) (sym k ∙ is) ∙ switch_is source.place e cs ∙ ap (λ xs. written.Switch source.place (expr_of e) (written.cases (map case_of xs))) (sym i)

pub block_checked : (scope inner : Scope) (s : written.Stmt) (p : Position) (ss : written.Stmts) (body : Stmts) → s ≡ written.Block p ss → inner ≡ block_of scope → check_stmts inner ss ≡ Ok body → check_stmt scope s ≡ Ok (Block p.line body)
block_checked scope inner s p ss body is k h =
    ap (check_stmt scope) is ∙ ap (λ x. check_stmts x ss >>= λ b. Ok (Block p.line b)) (sym k) ∙ ap (λ r. r >>= λ b. Ok (Block p.line b)) h

pub block_fails : (scope inner : Scope) (s : written.Stmt) (p : Position) (ss : written.Stmts) (e : CheckError) → s ≡ written.Block p ss → inner ≡ block_of scope → FailsWith e (check_stmts inner ss) → FailsWith e (check_stmt scope s)
block_fails scope inner s p ss (errors.Fault f) is k h =
    ap (check_stmt scope) is ∙ ap (λ x. check_stmts x ss >>= λ b. Ok (Block p.line b)) (sym k) ∙ ap (λ r. r >>= λ b. Ok (Block p.line b)) h
block_fails scope inner s p ss errors.NoMemory is k h = tt

-- a turn of the walk over a block, and its end

pub block_step : (done new : List typed_stmt.Stmt) (one : typed_stmt.Stmt) (scope next : Scope) (body : List code_stmt.Stmt) (i : ℕ) (s : code_stmt.Stmt) (whole : TypingResult Stmts) → new ≡ done ++ one ∷ [] → i < length body → s ≡ get_or body i s → check_stmt scope (stmt_of s) ≡ Ok (typed_views.stmt_of one) → next ≡ after scope (stmt_of s) → stmts_after (map typed_views.stmt_of done) (check_stmts scope (written.stmts (map stmt_of (drop i body)))) ≡ whole → stmts_after (map typed_views.stmt_of new) (check_stmts next (written.stmts (map stmt_of (drop (i + 1) body)))) ≡ whole
block_step done new one scope next body i s whole n within is h k so =
    let rest : List code_stmt.Stmt = drop (i + 1) body in
    let begins : drop i body ≡ s ∷ rest = drop-cons body i s within ∙ ap (λ x. x ∷ drop (suc i) body) (sym is) ∙ ap (λ m. s ∷ drop m body) (sym (add-one i)) in
    ap (λ xs. stmts_after (map typed_views.stmt_of xs) (check_stmts next (written.stmts (map stmt_of rest)))) n
    ∙ ap (λ xs. stmts_after xs (check_stmts next (written.stmts (map stmt_of rest)))) (map-append typed_views.stmt_of done (one ∷ []))
    ∙ sym (next_stmt (map typed_views.stmt_of done) scope next (stmt_of s) (written.stmts (map stmt_of rest)) (typed_views.stmt_of one) h k)
    ∙ ap (λ xs. stmts_after (map typed_views.stmt_of done) (check_stmts scope (written.stmts (map stmt_of xs)))) (sym begins)
    ∙ so

pub block_end : (done : List typed_stmt.Stmt) (scope : Scope) (body : List code_stmt.Stmt) (i : ℕ) (whole : TypingResult Stmts) → length body ≤ i → stmts_after (map typed_views.stmt_of done) (check_stmts scope (written.stmts (map stmt_of (drop i body)))) ≡ whole → whole ≡ Ok (stmts (map typed_views.stmt_of done))
block_end done scope body i whole past so =
    sym so
    ∙ ap (λ xs. stmts_after (map typed_views.stmt_of done) (check_stmts scope (written.stmts (map stmt_of xs)))) (drop_of_length-le body past)
    ∙ no_stmt_after (map typed_views.stmt_of done)

-- a turn of the walk over the labels of a switch, its faults, and its end

cases_none : (done : List Case) → cases_before done no_case ≡ cases done
cases_none [] = refl
cases_none (c ∷ done) = ap (next_case c) (cases_none done)

cases_more : (done : List Case) (c : Case) (cs : Cases) → cases_before done (next_case c cs) ≡ cases_before (done ++ c ∷ []) cs
cases_more [] c cs = refl
cases_more (x ∷ done) c cs = ap (next_case x) (cases_more done c cs)

cases_after_more : (done : List Case) (c : Case) (r : TypingResult Cases) → cases_after done (r >>= λ cs. Ok (next_case c cs)) ≡ cases_after (done ++ c ∷ []) r
cases_after_more done c (Ok cs) = ap Ok (cases_more done c cs)
cases_after_more done c (Err f) = refl

abbrev walked : Scope → Option IntType → List Label → List Case → List code_case.Case → TypingResult Cases
walked scope int_type before done labels = cases_after done (check_cases scope int_type before (written.cases (map case_of labels)))

abbrev first_label : Scope → Option IntType → List Label → List Case → code_case.Case → List code_case.Case → TypingResult Label → TypingResult Stmts → TypingResult Cases
first_label scope int_type before done x rest known body = cases_after done (known >>= λ label. body >>= λ ss. check_cases scope int_type (before ++ (code_case.out-Case x).label ∷ []) (written.cases (map case_of rest)) >>= λ cs. Ok (next_case (labelled label ss) cs))

abbrev known_at : Option IntType → List Label → code_case.Case → List code_case.Case → TypingResult Label
known_at int_type before x rest = check_label int_type before (is_last (written.cases (map case_of rest))) (code_case.out-Case x).place.at (code_case.out-Case x).label

abbrev body_at : Scope → code_case.Case → TypingResult Stmts
body_at scope x = check_stmts scope (written.stmts (map stmt_of (code_case.out-Case x).body.items))

first_is : (scope : Scope) (int_type : Option IntType) (before : List Label) (done : List Case) (labels : List code_case.Case) (i : ℕ) (x : code_case.Case) → i < length labels → x ≡ get_or labels i x → walked scope int_type before done (drop i labels) ≡ first_label scope int_type before done x (drop (i + 1) labels) (known_at int_type before x (drop (i + 1) labels)) (body_at scope x)
first_is scope int_type before done labels i x within is =
    ap (walked scope int_type before done) (begins_at labels i x within is)
    ∙ ap (λ c. cases_after done (check_cases scope int_type before (written.next_case c (written.cases (map case_of (drop (i + 1) labels)))))) (case_is x)

pub cases_step : (done new : List typed_case.Case) (one : typed_case.Case) (scope next : Scope) (int_type : Option IntType) (before more : List Label) (labels : List code_case.Case) (i : ℕ) (x : code_case.Case) (known : Label) (body : Stmts) (whole : TypingResult Cases) → new ≡ done ++ one ∷ [] → more ≡ before ++ (code_case.out-Case x).label ∷ [] → next ≡ scope → i < length labels → x ≡ get_or labels i x → known_at int_type before x (drop (i + 1) labels) ≡ Ok known → body_at scope x ≡ Ok body → typed_views.case_of one ≡ labelled known body → walked scope int_type before (map typed_views.case_of done) (drop i labels) ≡ whole → walked next int_type more (map typed_views.case_of new) (drop (i + 1) labels) ≡ whole
cases_step done new one scope next int_type before more labels i x known body whole n m same within is h k one_is so =
    let rest : List code_case.Case = drop (i + 1) labels in
    let earlier : List Case = map typed_views.case_of done in
    let added : List Label = before ++ (code_case.out-Case x).label ∷ [] in
    ap (λ y. walked y int_type more (map typed_views.case_of new) rest) same
    ∙ ap (λ y. walked scope int_type y (map typed_views.case_of new) rest) m
    ∙ ap (λ y. walked scope int_type added (map typed_views.case_of y) rest) n
    ∙ ap (λ y. walked scope int_type added y rest) (map-append typed_views.case_of done (one ∷ []))
    ∙ ap (λ y. walked scope int_type added (earlier ++ y ∷ []) rest) one_is
    ∙ sym (cases_after_more earlier (labelled known body) (check_cases scope int_type added (written.cases (map case_of rest))))
    ∙ sym (ap (first_label scope int_type before earlier x rest (Ok known)) k)
    ∙ sym (ap (λ y. first_label scope int_type before earlier x rest y (body_at scope x)) h)
    ∙ sym (first_is scope int_type before earlier labels i x within is)
    ∙ so

pub label_fails : (done : List typed_case.Case) (scope : Scope) (int_type : Option IntType) (before : List Label) (labels : List code_case.Case) (i : ℕ) (x : code_case.Case) (e : CheckError) (whole : TypingResult Cases) → i < length labels → x ≡ get_or labels i x → FailsWith e (known_at int_type before x (drop (i + 1) labels)) → walked scope int_type before (map typed_views.case_of done) (drop i labels) ≡ whole → FailsWith e whole
label_fails done scope int_type before labels i x (errors.Fault f) whole within is h so =
    sym so
    ∙ first_is scope int_type before (map typed_views.case_of done) labels i x within is
    ∙ ap (λ y. first_label scope int_type before (map typed_views.case_of done) x (drop (i + 1) labels) y (body_at scope x)) h
label_fails done scope int_type before labels i x errors.NoMemory whole within is h so = tt

pub labelled_fails : (done : List typed_case.Case) (scope : Scope) (int_type : Option IntType) (before : List Label) (labels : List code_case.Case) (i : ℕ) (x : code_case.Case) (known : Label) (e : CheckError) (whole : TypingResult Cases) → i < length labels → x ≡ get_or labels i x → known_at int_type before x (drop (i + 1) labels) ≡ Ok known → FailsWith e (body_at scope x) → walked scope int_type before (map typed_views.case_of done) (drop i labels) ≡ whole → FailsWith e whole
labelled_fails done scope int_type before labels i x known (errors.Fault f) whole within is h k so =
    sym so
    ∙ first_is scope int_type before (map typed_views.case_of done) labels i x within is
    ∙ ap (λ y. first_label scope int_type before (map typed_views.case_of done) x (drop (i + 1) labels) y (body_at scope x)) h
    ∙ ap (first_label scope int_type before (map typed_views.case_of done) x (drop (i + 1) labels) (Ok known)) k
labelled_fails done scope int_type before labels i x known errors.NoMemory whole within is h k so = tt

pub cases_end : (done : List typed_case.Case) (scope : Scope) (int_type : Option IntType) (before : List Label) (labels : List code_case.Case) (i : ℕ) (whole : TypingResult Cases) → length labels ≤ i → walked scope int_type before (map typed_views.case_of done) (drop i labels) ≡ whole → whole ≡ Ok (cases (map typed_views.case_of done))
cases_end done scope int_type before labels i whole past so =
    sym so
    ∙ ap (walked scope int_type before (map typed_views.case_of done)) (drop_of_length-le labels past)
    ∙ ap Ok (cases_none (map typed_views.case_of done))

-- the scope of a block, and what is left after a `for`

abbrev pub at_first : Scope → ℕ → Scope
at_first scope n = record { env = scope.env; first = n; result = scope.result; in_loop = scope.in_loop; in_switch = scope.in_switch }

pub first_is_all : (scope : Scope) (n : ℕ) → n ≡ length scope.env.locals → at_first scope n ≡ block_of scope
first_is_all scope n h = ap (at_first scope) h

pub any_ok : {A E : Type 0} (P : Type 0) (r : Result A E) → P → IfOk r (λ x. P)
any_ok P (Ok x) p = p
any_ok P (Err e) p = tt
