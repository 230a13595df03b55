use Rattle.std.proofs.Common.{◌≡◌, ◌<◌, ◌≤◌, ◌∙◌, refl, sym, map, arith, true, false}
use Rattle.std.proofs.lemmas.List.{length-map}
use Rattle.std.proofs.lemmas.Result.{err_from_is_err_and}
use Rattle.ash_lex.specs.declared.signs.Sign.TheVariants as signs
use Rattle.ash_tree.specs.GrammarTokens.{tokens_of, placed}
use Rattle.ash_tree.specs.TreeViews.{expr_of, suffix_of, operation_of}
use Rattle.ash_parse.specs.Readers.{put, next_is_sign}
use Rattle.ash_parse.specs.ExpressionReader.{below_at, binary_with, is_link, link_by, links_by, is_suffix, suffix_with, suffixes_with, postfix_with, next_expr_with, more_exprs_with}
use Rattle.ash_parse.proofs.Loop.{loop_done, goes_on, ends, is_done}
use Rattle.ash_parse.proofs.ExpressionLoops.{no_sign_left, no_suffix_left, no_link_left, next_expr_shrinks, suffix_shrinks, link_shrinks, below-whole, below-part, below-none}
use Rattle.ash_parse.proofs.Climbing.{climb_begins, operand_fails, climbs, climb_fails, climb_ends}
use Rattle.ash_parse.proofs.expressions.+expressions.Goals as goal
use Rattle.ash_parse.proofs.expressions.+expressions.Goals.{binary-then-climb-test+else-next-level, binary-else-climb-test}

pub nested_assign-returns-then-room-eq0 : goal.nested_assign-returns-then-room-eq0
nested_assign-returns-then-room-eq0 t c = record {
  parsed =
      rw (below-none c.args.room true (tokens_of c.args.tokens.now) c.if-room-eq0.true) c.limit.ensures.fails;
}

pub nested_assign-returns : goal.nested_assign-returns
nested_assign-returns t c = record { parsed = rw (below-whole c.args.room (tokens_of c.args.tokens.now) (omega arith)) c.assign.ensures.parsed }

pub nested_unary-returns-then-room-eq0 : goal.nested_unary-returns-then-room-eq0
nested_unary-returns-then-room-eq0 t c = record {
  parsed =
      rw (below-none c.args.room false (tokens_of c.args.tokens.now) c.if-room-eq0.true) c.limit.ensures.fails;
}

pub nested_unary-returns : goal.nested_unary-returns
nested_unary-returns t c = record { parsed = rw (below-part c.args.room (tokens_of c.args.tokens.now) (omega arith)) c.unary.ensures.parsed }

pub binary-returns-in_err-joined : goal.binary-returns-in_err-joined
binary-returns-in_err-joined t c = record {
  parsed =
      let p = err_from_is_err_and c.from_residual.result c.from_residual.ensures.1 in
      rw (p.1, p.2) (operand_fails (below_at c.args.room) c.in_err-joined.field-0.0 c.args.level (tokens_of c.args.tokens.now) c.in_err-joined.ensures.parsed);
}

pub binary-climb-init : goal.binary-climb-init
binary-climb-init t c = record {
  next = c.next_level-next.ensures.value;
  so_far = climb_begins (below_at c.args.room) c.args.level (tokens_of c.args.tokens.now) (expr_of c.in_ok-joined.joined, tokens_of c.in_ok-joined.rest.now) c.in_ok-joined.ensures.parsed;
}

pub binary-returns-in_err-links : goal.binary-returns-in_err-links
binary-returns-in_err-links t c = record {
  parsed =
      let p = err_from_is_err_and c.from_residual-in_err-links.result c.from_residual-in_err-links.ensures.1 in
      rw (p.1, p.2) (climb_fails c.args.room c.requires.room c.in_err-links.field-0.0 c.args.level c.climb.reached c.climb.next (expr_of c.climb.joined) (tokens_of c.climb.rest.now) (binary_with (below_at c.args.room) c.args.level (tokens_of c.args.tokens.now)) c.climb.invariant.next (omega arith) (omega arith) c.in_err-links.ensures.parsed c.climb.invariant.so_far);
}

pub binary-climb-preserved : goal.binary-climb-preserved
binary-climb-preserved t c = record {
  next = c.next_level-next-in-climb.ensures.value;
  so_far = rw c.in_ok-joined-2.ensures.operators_in_order (climbs c.args.room c.requires.room c.args.level c.climb.reached c.climb.next (expr_of c.climb.joined) (tokens_of c.climb.rest.now) (tokens_of c.in_ok-links.after.now) (map operation_of c.in_ok-links.links.items) (binary_with (below_at c.args.room) c.args.level (tokens_of c.args.tokens.now)) c.climb.invariant.next (omega arith) (omega arith) c.in_ok-links.ensures.parsed c.climb.invariant.so_far);
}

pub binary-returns : goal.binary-returns
binary-returns t c = record {
  parsed =
      let over : c.climb.reached < c.climb.next → c.climb.next ≤ c.args.level → ⊥ = λ l u. (elim c.climb-test.branch [ binary-then-climb-test+else-next-level w ↦ omega arith | binary-else-climb-test w ↦ omega arith ]) in
      climb_ends c.args.room c.requires.room c.args.level c.climb.reached c.climb.next (expr_of c.climb.joined, tokens_of c.climb.rest.now) (binary_with (below_at c.args.room) c.args.level (tokens_of c.args.tokens.now)) c.climb.invariant.next over c.climb.invariant.so_far;
}

pub links-returns-in_err-next : goal.links-returns-in_err-next
unfolding links_by
links-returns-in_err-next t c = record {
  parsed =
      let p = err_from_is_err_and c.from_residual-in_err-next.result c.from_residual-in_err-next.ensures.1 in
      let more : is_link c.args.level (tokens_of c.more.rest.now) ≡ true = sym c.begins_link.ensures.value ∙ c.more-test.true in
      rw (p.1, p.2) (ends (is_link c.args.level) (link_by c.args.level (binary_with (below_at c.args.room) c.args.level)) (link_shrinks c.args.room c.requires.room c.args.level) (no_link_left c.args.level) c.in_err-next.field-0.0 (map operation_of c.more.links.items) (tokens_of c.more.rest.now) (links_by c.args.level (binary_with (below_at c.args.room) c.args.level) (tokens_of c.args.tokens.now)) more c.in_err-next.ensures.parsed c.more.invariant);
}

pub links-more-smaller : goal.links-more-smaller
links-more-smaller t c =
    let shorter = link_shrinks c.args.room c.requires.room c.args.level (tokens_of c.more.rest.now) (operation_of c.in_ok-next.next) (tokens_of c.in_ok-next.after.now) c.in_ok-next.ensures.parsed in
    omega (arith, shorter, length-map c.more.rest.now placed, length-map c.in_ok-next.after.now placed)

pub links-more-preserved : goal.links-more-preserved
unfolding links_by
links-more-preserved t c =
    let more : is_link c.args.level (tokens_of c.more.rest.now) ≡ true = sym c.begins_link.ensures.value ∙ c.more-test.true in
    rw c.in_ok-push.ensures.items (goes_on (is_link c.args.level) (link_by c.args.level (binary_with (below_at c.args.room) c.args.level)) (link_shrinks c.args.room c.requires.room c.args.level) (no_link_left c.args.level) operation_of c.more.links.items c.in_ok-next.next (tokens_of c.more.rest.now) (tokens_of c.in_ok-next.after.now) (links_by c.args.level (binary_with (below_at c.args.room) c.args.level) (tokens_of c.args.tokens.now)) more c.in_ok-next.ensures.parsed c.more.invariant)

pub links-returns : goal.links-returns
unfolding links_by
links-returns t c = record {
  parsed =
      let more : is_link c.args.level (tokens_of c.more.rest.now) ≡ false = sym c.begins_link.ensures.value ∙ c.more-test.false in
      is_done (is_link c.args.level) (link_by c.args.level (binary_with (below_at c.args.room) c.args.level)) (link_shrinks c.args.room c.requires.room c.args.level) (no_link_left c.args.level) (map operation_of c.more.links.items) (tokens_of c.more.rest.now) (links_by c.args.level (binary_with (below_at c.args.room) c.args.level) (tokens_of c.args.tokens.now)) more c.more.invariant;
}

pub postfix-returns-then-not-begins_suffix : goal.postfix-returns-then-not-begins_suffix
unfolding postfix_with suffixes_with
postfix-returns-then-not-begins_suffix t c = record {
  parsed =
      let none : is_suffix (tokens_of c.in_ok-operand.rest.now) ≡ false = sym c.begins_suffix.ensures.value ∙ c.if-not-begins_suffix.true in
      rw (c.in_ok-operand.ensures.parsed, loop_done is_suffix (suffix_with (below_at c.args.room)) (suffix_shrinks c.args.room c.requires.within) no_suffix_left (tokens_of c.in_ok-operand.rest.now) none) refl;
}

pub suffixes-returns-in_err-next : goal.suffixes-returns-in_err-next
unfolding suffixes_with
suffixes-returns-in_err-next t c = record {
  parsed =
      let p = err_from_is_err_and c.from_residual-in_err-next.result c.from_residual-in_err-next.ensures.1 in
      let more : is_suffix (tokens_of c.more.rest.now) ≡ true = sym c.begins_suffix.ensures.value ∙ c.more-test.true in
      rw (p.1, p.2) (ends (is_suffix) (suffix_with (below_at c.args.room)) (suffix_shrinks c.args.room c.requires.within) (no_suffix_left) c.in_err-next.field-0.0 (map suffix_of c.more.suffixes.items) (tokens_of c.more.rest.now) (suffixes_with (below_at c.args.room) (tokens_of c.args.tokens.now)) more c.in_err-next.ensures.parsed c.more.invariant);
}

pub suffixes-more-smaller : goal.suffixes-more-smaller
suffixes-more-smaller t c =
    let shorter = suffix_shrinks c.args.room c.requires.within (tokens_of c.more.rest.now) (suffix_of c.in_ok-next.next) (tokens_of c.in_ok-next.after.now) c.in_ok-next.ensures.parsed in
    omega (arith, shorter, length-map c.more.rest.now placed, length-map c.in_ok-next.after.now placed)

pub suffixes-more-preserved : goal.suffixes-more-preserved
unfolding suffixes_with
suffixes-more-preserved t c =
    let more : is_suffix (tokens_of c.more.rest.now) ≡ true = sym c.begins_suffix.ensures.value ∙ c.more-test.true in
    rw c.in_ok-push.ensures.items (goes_on (is_suffix) (suffix_with (below_at c.args.room)) (suffix_shrinks c.args.room c.requires.within) (no_suffix_left) suffix_of c.more.suffixes.items c.in_ok-next.next (tokens_of c.more.rest.now) (tokens_of c.in_ok-next.after.now) (suffixes_with (below_at c.args.room) (tokens_of c.args.tokens.now)) more c.in_ok-next.ensures.parsed c.more.invariant)

pub suffixes-returns : goal.suffixes-returns
unfolding suffixes_with
suffixes-returns t c = record {
  parsed =
      let more : is_suffix (tokens_of c.more.rest.now) ≡ false = sym c.begins_suffix.ensures.value ∙ c.more-test.false in
      is_done (is_suffix) (suffix_with (below_at c.args.room)) (suffix_shrinks c.args.room c.requires.within) (no_suffix_left) (map suffix_of c.more.suffixes.items) (tokens_of c.more.rest.now) (suffixes_with (below_at c.args.room) (tokens_of c.args.tokens.now)) more c.more.invariant;
}

pub more_expressions-returns-in_err-next : goal.more_expressions-returns-in_err-next
unfolding more_exprs_with
more_expressions-returns-in_err-next t c = record {
  parsed =
      let p = err_from_is_err_and c.from_residual-in_err-next.result c.from_residual-in_err-next.ensures.1 in
      let more : next_is_sign signs.Comma (tokens_of c.more.rest.now) ≡ true = sym c.next_is_sign.ensures.value ∙ c.more-test.true in
      rw (p.1, p.2) (ends (next_is_sign signs.Comma) (next_expr_with (below_at c.args.room)) (next_expr_shrinks c.args.room c.requires.within) (no_sign_left signs.Comma) c.in_err-next.field-0.0 (map expr_of c.more.all.items) (tokens_of c.more.rest.now) (put (expr_of c.args.first) (more_exprs_with (below_at c.args.room) (tokens_of c.args.tokens.now))) more c.in_err-next.ensures.parsed c.more.invariant);
}

pub more_expressions-more-smaller : goal.more_expressions-more-smaller
more_expressions-more-smaller t c =
    let shorter = next_expr_shrinks c.args.room c.requires.within (tokens_of c.more.rest.now) (expr_of c.in_ok-next.next) (tokens_of c.in_ok-next.after.now) c.in_ok-next.ensures.parsed in
    omega (arith, shorter, length-map c.more.rest.now placed, length-map c.in_ok-next.after.now placed)

pub more_expressions-more-preserved : goal.more_expressions-more-preserved
unfolding more_exprs_with
more_expressions-more-preserved t c =
    let more : next_is_sign signs.Comma (tokens_of c.more.rest.now) ≡ true = sym c.next_is_sign.ensures.value ∙ c.more-test.true in
    rw c.in_ok-push-2.ensures.items (goes_on (next_is_sign signs.Comma) (next_expr_with (below_at c.args.room)) (next_expr_shrinks c.args.room c.requires.within) (no_sign_left signs.Comma) expr_of c.more.all.items c.in_ok-next.next (tokens_of c.more.rest.now) (tokens_of c.in_ok-next.after.now) (put (expr_of c.args.first) (more_exprs_with (below_at c.args.room) (tokens_of c.args.tokens.now))) more c.in_ok-next.ensures.parsed c.more.invariant)

pub more_expressions-returns : goal.more_expressions-returns
unfolding more_exprs_with
more_expressions-returns t c = record {
  parsed =
      let more : next_is_sign signs.Comma (tokens_of c.more.rest.now) ≡ false = sym c.next_is_sign.ensures.value ∙ c.more-test.false in
      is_done (next_is_sign signs.Comma) (next_expr_with (below_at c.args.room)) (next_expr_shrinks c.args.room c.requires.within) (no_sign_left signs.Comma) (map expr_of c.more.all.items) (tokens_of c.more.rest.now) (put (expr_of c.args.first) (more_exprs_with (below_at c.args.room) (tokens_of c.args.tokens.now))) more c.more.invariant;
}
