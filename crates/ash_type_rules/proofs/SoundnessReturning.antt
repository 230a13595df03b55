-- A typed statement returns where the written one does.
use Rattle.std.proofs.Common.{◌≡◌, ◌||◌, ◌&&◌, ◌⊎◌, inl, inr, ⊎_elim, Bool, true, false, not, List, refl, sym, subst}
use Rattle.ash_tree.specs.declared.tree.statements.Label.{Label}
use Rattle.ash_tree.specs.declared.tree.statements.Label.TheVariants as labels
use Rattle.ash_tree.specs.Tree as written
use Rattle.ash_integers.specs.declared.int_type.IntType.{IntType}
use Rattle.ash_typed.specs.StatementTree.{Stmt, Stmts, labelled, Cases, no_case, next_case}
use Rattle.ash_typed.specs.TypedReturning as typed
use Rattle.ash_type_rules.specs.Returning.{breaks, any_breaks, breaks_out, is_default, has_default, last_of, returns}
use Rattle.ash_type_rules.specs.Returning.{any_returns, last_returns}
use Rattle.ash_type_rules.specs.Scopes.{Scope}
use Rattle.ash_type_rules.specs.TypedStatements.{IsTypedStmt, empty, declare, evaluate, block, if_only, if_else, while_loop}
use Rattle.ash_type_rules.specs.TypedStatements.{do_loop, for_loop, switch, break_out, continue_on, return_nothing}
use Rattle.ash_type_rules.specs.TypedStatements.{return_value, AreTypedStmts, no_more_stmts, more_stmts, AreTypedCases, no_more_cases}
use Rattle.ash_type_rules.specs.TypedStatements.{more_cases}

or_left : (a b : Bool) → a ≡ true → (a || b) ≡ true
or_left true b h = refl
or_left false b h = absurd (cc)

or_right : (a b : Bool) → b ≡ true → (a || b) ≡ true
or_right true b h = refl
or_right false b h = h

or_cases : (a b : Bool) → (a || b) ≡ true → (a ≡ true) ⊎ (b ≡ true)
or_cases true b h = inl refl
or_cases false b h = inr h

and_parts : (a b : Bool) → (a && b) ≡ true → (a ≡ true) × (b ≡ true)
and_parts true b h = (refl, h)
and_parts false b h = absurd (cc)

not_both : (a : Bool) → not a ≡ true → a ≡ true → ⊥
not_both true h k = cc
not_both false h k = cc

-- a typed `break` was written

mutual
  break_written : {scope : Scope} {s : written.Stmt} {t : Stmt} → IsTypedStmt scope s t → typed.Breaks t → breaks s ≡ true
  break_written empty b = elim b [ ]
  break_written (declare is are) b = elim b [ ]
  break_written (evaluate h) b = elim b [ ]
  break_written (block h) (typed.in_block b) = any_written h b
  break_written (if_only h i) (typed.in_then b) = break_written i b
  break_written (if_else {s = s} {r = r} h i j) (typed.in_then b) = or_left (breaks s) (breaks r) (break_written i b)
  break_written (if_else {s = s} {r = r} h i j) (typed.in_else b) = or_right (breaks s) (breaks r) (break_written j b)
  break_written (while_loop h i) b = elim b [ ]
  break_written (do_loop i h) b = elim b [ ]
  break_written (for_loop i m all body) b = elim b [ ]
  break_written (switch h i are) b = elim b [ ]
  break_written (break_out h) b = refl
  break_written (continue_on h) b = elim b [ ]
  break_written (return_nothing h) b = elim b [ ]
  break_written (return_value h i) b = elim b [ ]

  any_written : {scope : Scope} {ss : written.Stmts} {ts : Stmts} → AreTypedStmts scope ss ts → typed.AnyBreaks ts
      → any_breaks ss ≡ true
  any_written no_more_stmts b = elim b [ ]
  any_written (more_stmts {s = s} {ss = ss} h rest) (typed.first_breaks b) =
      or_left (breaks s) (any_breaks ss) (break_written h b)
  any_written (more_stmts {s = s} {ss = ss} h rest) (typed.later_breaks b) =
      or_right (breaks s) (any_breaks ss) (any_written rest b)

out_written : {scope : Scope} {k : IntType} {before : List Label} {cs : written.Cases} {rows : Cases}
    → AreTypedCases scope k before cs rows → typed.BreaksOut rows → breaks_out cs ≡ true
out_written no_more_cases b = elim b [ ]
out_written (more_cases {ss = ss} {cs = cs} l h rest) (typed.first_case b) =
    or_left (any_breaks ss) (breaks_out cs) (any_written h b)
out_written (more_cases {ss = ss} {cs = cs} l h rest) (typed.later_case b) =
    or_right (any_breaks ss) (breaks_out cs) (out_written rest b)

-- labels

default_here : (l : Label) (ts : Stmts) (rows : Cases) → is_default l ≡ true
    → typed.HasDefault (next_case (labelled l ts) rows)
default_here labels.Default ts rows h = typed.first_label
default_here (labels.Case n) ts rows h = absurd (cc)
default_here (labels.CaseMinus n) ts rows h = absurd (cc)

tree_has_default : {scope : Scope} {k : IntType} {before : List Label} {cs : written.Cases} {rows : Cases}
    → AreTypedCases scope k before cs rows → has_default cs ≡ true → typed.HasDefault rows
tree_has_default no_more_cases h = absurd (cc)
tree_has_default (more_cases {l = l} {cs = cs} {ts = ts} {rows = rows} is ss rest) h =
    go (or_cases (is_default l) (has_default cs) h) (tree_has_default rest)
  where
    go : (is_default l ≡ true) ⊎ (has_default cs ≡ true) → (has_default cs ≡ true → typed.HasDefault rows)
        → typed.HasDefault (next_case (labelled l ts) rows)
    go (inl e) more = default_here l ts rows e
    go (inr e) more = typed.later_label (more e)

-- the last label is the last one typed
no_rows : {scope : Scope} {k : IntType} {before : List Label} {cs : written.Cases} {rows : Cases}
    → AreTypedCases scope k before cs rows → cs ≡ written.no_case → rows ≡ no_case
no_rows no_more_cases e = refl
no_rows (more_cases l ss rest) e = absurd (cc)

last_row_returns : (here : Bool) (cs : written.Cases) (l : Label) (ts : Stmts) (rows : Cases)
    → (here ≡ true → typed.AnyReturns ts) → (last_returns cs ≡ true → typed.LastReturns rows)
    → (cs ≡ written.no_case → rows ≡ no_case) → last_of here cs (last_returns cs) ≡ true
    → typed.LastReturns (next_case (labelled l ts) rows)
last_row_returns here written.no_case l ts rows one more none h =
    subst (λ rows. typed.LastReturns (next_case (labelled l ts) rows)) (sym (none refl)) (typed.last_case (one h))
last_row_returns here (written.next_case c cs) l ts rows one more none h = typed.not_last_case (more h)

-- statements

mutual
  pub tree_returns : {scope : Scope} {s : written.Stmt} {t : Stmt} → IsTypedStmt scope s t → returns s ≡ true
      → typed.Returns t
  tree_returns empty h = absurd (cc)
  tree_returns (declare is are) h = absurd (cc)
  tree_returns (evaluate i) h = absurd (cc)
  tree_returns (block i) h = typed.in_block (any_tree_returns i h)
  tree_returns (if_only i j) h = absurd (cc)
  tree_returns (if_else {s = s} {r = r} i j k) h = let parts = and_parts (returns s) (returns r) h in
      typed.in_both (tree_returns j parts.0) (tree_returns k parts.1)
  tree_returns (while_loop i j) h = absurd (cc)
  tree_returns (do_loop i j) h = absurd (cc)
  tree_returns (for_loop i m all body) h = absurd (cc)
  tree_returns (switch {cs = cs} i j are) h =
      let parts = and_parts (has_default cs) (not (breaks_out cs) && last_returns cs) h in
      let more = and_parts (not (breaks_out cs)) (last_returns cs) parts.1 in
      typed.in_switch (tree_has_default are parts.0)
      (λ b. not_both (breaks_out cs) more.0 (out_written are b)) (last_tree_returns are more.1)
  tree_returns (break_out i) h = absurd (cc)
  tree_returns (continue_on i) h = absurd (cc)
  tree_returns (return_nothing i) h = typed.returned
  tree_returns (return_value i j) h = typed.returned

  pub any_tree_returns : {scope : Scope} {ss : written.Stmts} {ts : Stmts} → AreTypedStmts scope ss ts → any_returns ss ≡ true
      → typed.AnyReturns ts
  any_tree_returns no_more_stmts h = absurd (cc)
  any_tree_returns (more_stmts {s = s} {ss = ss} i rest) h =
      ⊎_elim (λ e. typed.first_returns (tree_returns i e))
      (λ e. typed.later_returns (any_tree_returns rest e)) (or_cases (returns s) (any_returns ss) h)

  last_tree_returns : {scope : Scope} {k : IntType} {before : List Label} {cs : written.Cases} {rows : Cases}
      → AreTypedCases scope k before cs rows → last_returns cs ≡ true → typed.LastReturns rows
  last_tree_returns no_more_cases h = absurd (cc)
  last_tree_returns (more_cases {l = l} {ss = ss} {cs = cs} {ts = ts} {rows = rows} is i rest) h =
      last_row_returns (any_returns ss) cs l ts rows (any_tree_returns i) (last_tree_returns rest) (no_rows rest) h
