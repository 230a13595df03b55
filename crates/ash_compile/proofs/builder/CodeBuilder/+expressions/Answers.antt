use Rattle.std.proofs.Common.{rules, ◌≡◌, ℕ, ◌+◌, [], ◌∷◌, ◌++◌, length, map, inl, refl, sym, ap, ◌∙◌, subst, arith, length-append}
use Rattle.std.proofs.lemmas.List.{length-map}
use Rattle.ash_host.specs.declared.word.Word.{Word}
use Rattle.ash_code.specs.declared.instruction.Instruction.TheVariants as i
use Rattle.ash_typed.proofs.Rows.{path_is, call_is, invoke_is, chain_is, lazy_is}
use Rattle.ash_typed.specs.declared.tree.expressions.Expr as expr_code
use Rattle.ash_typed.specs.declared.tree.expressions.Operand as operand_code
use Rattle.ash_typed.specs.declared.tree.expressions.Link as link_code
use Rattle.std.proofs.Common.{List}
use Rattle.ash_code.specs.declared.instruction.Instruction.{Instruction}
use Rattle.ash_typed.specs.TypedTree.{Expr, Lazily, Invoke, exprs, converted}
use Rattle.ash_typed.specs.TypedTreeViews.{expr_of, place_of, linked, all_linked, chained, all_chained, all_lazies}
use Rattle.ash_compile.specs.Emission.{Puts, Leads, Emits, end_of, lazy_jump}
use Rattle.ash_compile.specs.Places.{EmitsPlace}
use Rattle.ash_compile.proofs.Emitted.{if_ok, of_kind}
use Rattle.ash_compile.proofs.Emitted as emitted
use Rattle.ash_compile.proofs.EmittedBranches as branches
use Rattle.ash_compile.proofs.EmittedPlaces as places
use Rattle.ash_compile.proofs.CastCode as casts
use Rattle.ash_compile.proofs.Operands as operands
use Rattle.ash_compile.specs.Operands.{EmitsIn, EmitsInto, IsAddition}
use Rattle.std.proofs.Common.{ℤ, to_z, of_z}
use Rattle.std.specs.Int.{w32}
use Rattle.std.proofs.lemmas.Int.{to_z-of_z}
use mir.Val.{SFits}
use Rattle.ash_compile.proofs.EmittedRows.{empty_is, chained_after, chain_step, chain_end, lazy_step, lazy_end, link_step, link_end}
use Rattle.ash_compile.proofs.EmittedRows.{argument_step, argument_end}
use Rattle.ash_compile.specs.Arguments.{EmitsArguments}
use Rattle.ash_compile.proofs.Arguments.{no_code, one_argument}
use Rattle.ash_compile.proofs.Emission.{put_one}
use Rattle.ash_compile.proofs.ValidJumps.{same_stands, lazy_stands, operates_stand}
use Rattle.ash_compile.proofs.builder.CodeBuilder.+expressions.Goals as goal

pub lazy_row-loop-other-init : goal.lazy_row-loop-other-init
lazy_row-loop-other-init t c = (expr_of c.args.first.now, c.in_ok-expression.ensures.emits, refl)

pub lazy_row-loop-other-preserved : goal.lazy_row-loop-other-preserved
lazy_row-loop-other-preserved t c = (
  Lazily c.args.operator c.loop-other.invariant.0 (expr_of c.other-item.result),
  c.in_ok-lazily.ensures.emits c.args.self.now c.loop-other.invariant.0 c.loop-other.invariant.1,
  lazy_step c.args.operator c.loop-other.invariant.0 c.args.others.now c.loop-other.other-index c.other-item.result c.loop-other-test.true c.other-item.is ∙ c.loop-other.invariant.2,
)

pub lazy_row-returns : goal.lazy_row-returns
lazy_row-returns t c = record {
  emits = subst (λ (x : Expr). Emits c.args.self.now c.loop-other.self x c.args.slot)
      (lazy_end c.args.operator c.loop-other.invariant.0 _ c.args.others.now c.loop-other.other-index c.loop-other-test.false c.loop-other.invariant.2) c.loop-other.invariant.1;
}

pub lazily-returns : goal.lazily-returns
lazily-returns t c = record {
  emits = λ start e first.
      branches.lazily start c.args.self.now c.put.new.self c.expression.new.self c.lead.new.self c.args.operator e
      (expr_of c.args.right.now) c.args.slot c.here-end.result c.jump_over.result first c.in_ok-put.ensures.puts
      c.in_ok-expression.ensures.emits c.here-end.ensures.place
      (subst (λ (k : ℕ). Leads c.expression.new.self c.lead.new.self k (lazy_jump c.args.operator c.args.slot c.here-end.result)) c.here-branch.ensures.place
      (subst (λ (j : Instruction). Leads c.expression.new.self c.lead.new.self c.here-branch.result j) c.jump_over-2.ensures.jump c.lead.ensures.leads));
}

pub lazily-lead-requires-clause-stands : goal.lazily-lead-requires-clause-stands
lazily-lead-requires-clause-stands t c =
    let here = c.expression.new.self in
    let at = c.here-branch.result in
    same_stands here.layout (end_of here) at _ _ c.jump_over-2.ensures.jump
    (lazy_stands here.layout (end_of here) at c.args.operator c.args.slot c.here-end.result
    (omega (
      arith,
      c.here-branch.ensures.place,
      c.here-end.ensures.place,
      put_one c.args.self.now c.put.new.self c.args.slot _ c.in_ok-put.ensures.puts,
      ((c.in_ok-expression.ensures.emits).keeps).longer,
    ))
    (omega (arith, c.here-end.ensures.place)))

pub value-returns-in-Some : goal.value-returns-in-Some
value-returns-in-Some t c = record {
  emits = operands.local_there_in c.args.self.now (expr_of c.args.expr.now) c.in-Some.local c.args.slot
      c.in-Some.ensures.reads;
}

pub value-returns-in_ok-expression-in-None : goal.value-returns-in_ok-expression-in-None
value-returns-in_ok-expression-in-None t c = record {
  emits = operands.emits_in c.args.self.now c.expression.new.self (expr_of c.args.expr.now) c.args.slot
      c.in_ok-expression-in-None.ensures.emits;
}

pub left-returns-clause-emits : goal.left-returns-clause-emits
left-returns-clause-emits t c =
    operands.emits_in c.args.self.now c.expression.new.self (expr_of c.args.expr.now) c.args.slot
    c.in_ok-expression.ensures.emits

pub operand-put-requires-in-None : goal.operand-put-requires-in-None
operand-put-requires-in-None t c =
    let here = c.value.new.self in
    record { stands = operates_stand here.layout (end_of here + 1) (end_of here) c.operating.ensures.operates }

pub operand-returns-in-Some : goal.operand-returns-in-Some
operand-returns-in-Some t c =
    let right = expr_of c.args.operand.now.value in
    let operation = c.args.operand.now.operation in
    let number = to_z w32 (of_z w32 c.in-Some.number) in
    let f : SFits w32 c.in-Some.number = search rules in
    let adds : IsAddition operation right number
    = subst (λ (z : ℤ). IsAddition operation right z) (sym (to_z-of_z w32 c.in-Some.number f)) c.in-Some.ensures.adds in
    record {
      emits = if_ok c.put.result
          (λ u puts start e stays first.
          operands.add_into start c.conversion_before.new.self c.put.new.self operation
          (converted c.args.operand.now.before e) right number c.args.slot c.in_ok-left.left c.args.to
          (c.in_ok-left.ensures.emits start e first) puts adds)
          c.put.ensures.puts;
    }

pub operand-returns-in_ok-right-in-None : goal.operand-returns-in_ok-right-in-None
operand-returns-in_ok-right-in-None t c = record {
  emits = if_ok c.put-in-None.result
      (λ u puts start e stays first.
      operands.operate_into start c.conversion_before.new.self c.value.new.self c.put-in-None.new.self
      c.args.operand.now.operation (converted c.args.operand.now.before e) (expr_of c.args.operand.now.value)
      c.args.slot c.in_ok-left.left c.in_ok-right-in-None.right c.args.to c.operating.result
      (c.in_ok-left.ensures.emits start e first)
      (subst (λ (n : ℕ). EmitsIn c.conversion_before.new.self c.value.new.self (expr_of c.args.operand.now.value) n
      c.in_ok-right-in-None.right) c.in_ok-next-in-None.ensures.next c.in_ok-right-in-None.ensures.emits)
      puts c.operating.ensures.operates (operands.stays_on c.in_ok-left.ensures.there stays))
      c.put-in-None.ensures.puts;
}

pub row-loop-operand-init : goal.row-loop-operand-init
row-loop-operand-init t c =
    let first = expr_of c.args.first.now in (
      chained first c.in-Some.next.now,
      (c.in_ok-operand-in-Some.ensures.emits c.args.self.now first c.in_ok-left-in-Some.ensures.stays
          c.in_ok-left-in-Some.ensures.emits).in_slot refl,
      sym (ap (all_chained first) (c.in-Some.ensures.cases).0),
    )

pub row-loop-operand-preserved : goal.row-loop-operand-preserved
row-loop-operand-preserved t c =
    let here = c.loop-operand in
    let e = here.invariant.0 in (
      chained e c.operand-item.result,
      (c.in_ok-operand-in-Some-2.ensures.emits c.args.self.now e (inl refl)
          (operands.emits_in c.args.self.now here.self e c.args.slot here.invariant.1)).in_slot refl,
      chain_step e c.in-Some.rest.now here.operand-index c.operand-item.result c.loop-operand-test.true c.operand-item.is
          ∙ here.invariant.2,
    )

pub row-returns-after-loop-operand-clause-emits : goal.row-returns-after-loop-operand-clause-emits
row-returns-after-loop-operand-clause-emits t c =
    let here = c.loop-operand in
    let all = all_chained (expr_of c.args.first.now) c.args.operands.now in
    operands.emits_in c.args.self.now here.self all c.args.slot
    (subst (λ (x : Expr). Emits c.args.self.now here.self x c.args.slot)
    (chain_end here.invariant.0 all c.in-Some.rest.now here.operand-index c.loop-operand-test.false here.invariant.2)
    here.invariant.1)

pub chain-returns-in_ok-from-in-None : goal.chain-returns-in_ok-from-in-None
chain-returns-in_ok-from-in-None t c =
    let first = expr_of c.args.first.now in
    record {
      emits = if_ok c.put.result
          (λ u puts.
          subst (λ (os : List operand_code.Operand). EmitsInto c.args.self.now c.put.new.self (all_chained first os)
          c.args.slot c.args.to) (empty_is c.args.operands.now c.in-None.ensures.cases)
          (operands.move_into c.args.self.now c.value.new.self c.put.new.self first c.args.slot c.in_ok-from-in-None.from
          c.args.to c.in_ok-from-in-None.ensures.emits puts))
          c.put.ensures.puts;
    }

pub chain-returns-in_ok-left-in-Some : goal.chain-returns-in_ok-left-in-Some
chain-returns-in_ok-left-in-Some t c =
    let first = expr_of c.args.first.now in
    record {
      emits = if_ok c.operand.result
          (λ u next.
          subst (λ (x : Expr). EmitsInto c.args.self.now c.operand.new.self x c.args.slot c.args.to)
          (sym (ap (all_chained first) (c.in-Some.ensures.cases).0
          ∙ chained_after first c.in-Some.before.now c.in-Some.last.now))
          (next c.args.self.now (all_chained first c.in-Some.before.now) c.in_ok-left-in-Some.ensures.stays
          c.in_ok-left-in-Some.ensures.emits))
          c.operand.ensures.emits;
    }

pub conditional-returns : goal.conditional-returns
conditional-returns t c = record {
  emits = branches.conditional c.args.self.now c.expression.new.self c.put.new.self c.expression-2.new.self c.put-2.new.self
      c.expression-3.new.self c.lead.new.self c.lead-2.new.self (expr_of c.args.condition.now) (expr_of c.args.then.now)
      (expr_of c.args.otherwise.now) c.args.slot c.here-other.result c.here-end.result (i.JumpUnless c.args.slot c.behind-past.result)
      (i.Jump c.behind-past_jump.result)
      c.in_ok-expression.ensures.emits c.in_ok-put.ensures.puts c.in_ok-expression-2.ensures.emits c.in_ok-put-2.ensures.puts
      c.in_ok-expression-3.ensures.emits c.here-other.ensures.place c.here-end.ensures.place
      (subst (λ (k : ℕ). Leads c.expression-3.new.self c.lead.new.self k (i.JumpUnless c.args.slot c.here-other.result)) c.here-branch.ensures.place c.lead.ensures.leads)
      (subst (λ (k : ℕ). Leads c.lead.new.self c.lead-2.new.self k (i.Jump c.here-end.result)) c.here-back.ensures.place c.lead-2.ensures.leads);
}

pub expression-returns-in-Number : goal.expression-returns-in-Number
expression-returns-in-Number t c = record {
  emits = if_ok c.put.result
      (λ u puts. of_kind c.args.self.now c.put.new.self c.args.expr.now.kind.value _ _ c.args.slot (sym c.deref.ensures ∙ c.in-Number.is) refl
      (emitted.number c.args.self.now c.put.new.self c.in-Number.of c.in-Number.value c.args.slot
      (subst (λ (w : Word). Puts c.args.self.now c.put.new.self c.args.slot (i.Load w c.args.slot)) c.numeral-word.ensures.word puts)))
      c.put.ensures.puts;
}

pub expression-returns-in-Bool : goal.expression-returns-in-Bool
expression-returns-in-Bool t c = record {
  emits = if_ok c.put-in-Bool.result
      (λ u puts. of_kind c.args.self.now c.put-in-Bool.new.self c.args.expr.now.kind.value _ _ c.args.slot (sym c.deref.ensures ∙ c.in-Bool.is) refl
      (emitted.truth c.args.self.now c.put-in-Bool.new.self _ c.args.slot puts))
      c.put-in-Bool.ensures.puts;
}

pub expression-returns-in-Null : goal.expression-returns-in-Null
expression-returns-in-Null t c = record {
  emits = if_ok c.put-in-Null.result
      (λ u puts. of_kind c.args.self.now c.put-in-Null.new.self c.args.expr.now.kind.value _ _ c.args.slot (sym c.deref.ensures ∙ c.in-Null.is) refl
      (emitted.nothing c.args.self.now c.put-in-Null.new.self c.args.slot puts))
      c.put-in-Null.ensures.puts;
}

pub expression-returns-in-This : goal.expression-returns-in-This
expression-returns-in-This t c = record {
  emits = if_ok c.put-in-This.result
      (λ u puts. of_kind c.args.self.now c.put-in-This.new.self c.args.expr.now.kind.value _ _ c.args.slot (sym c.deref.ensures ∙ c.in-This.is) refl
      (emitted.own c.args.self.now c.put-in-This.new.self _ c.args.slot puts))
      c.put-in-This.ensures.puts;
}

pub expression-returns-in-Variable : goal.expression-returns-in-Variable
expression-returns-in-Variable t c = record {
  emits = if_ok c.variable.result
      (λ u emits. of_kind c.args.self.now c.variable.new.self c.args.expr.now.kind.value _ _ c.args.slot (sym c.deref.ensures ∙ c.in-Variable.is) (refl)
      (emits))
      c.variable.ensures.emits;
}

pub expression-returns-in-Chain : goal.expression-returns-in-Chain
expression-returns-in-Chain t c = record {
  emits = if_ok c.chain.result
      (λ u emits. of_kind c.args.self.now c.chain.new.self c.args.expr.now.kind.value _ _ c.args.slot (sym c.deref.ensures ∙ c.in-Chain.is) (chain_is c.in-Chain.first c.in-Chain.operands)
      ((subst (λ (os : List operand_code.Operand). EmitsInto c.args.self.now c.chain.new.self (all_chained (expr_of c.in-Chain.first) os) c.args.slot c.args.slot) c.deref-in-Chain.ensures.value emits).in_slot refl))
      c.chain.ensures.emits;
}

pub expression-returns-in-Lazy : goal.expression-returns-in-Lazy
expression-returns-in-Lazy t c = record {
  emits = if_ok c.lazy_row.result
      (λ u emits. of_kind c.args.self.now c.lazy_row.new.self c.args.expr.now.kind.value _ _ c.args.slot (sym c.deref.ensures ∙ c.in-Lazy.is) (lazy_is c.in-Lazy.operator c.in-Lazy.first c.in-Lazy.others)
      (subst (λ (xs : List expr_code.Expr). Emits c.args.self.now c.lazy_row.new.self (all_lazies c.in-Lazy.operator (expr_of c.in-Lazy.first) xs) c.args.slot) c.deref-in-Lazy.ensures.value emits))
      c.lazy_row.ensures.emits;
}

pub expression-returns-in-Conditional : goal.expression-returns-in-Conditional
expression-returns-in-Conditional t c = record {
  emits = if_ok c.conditional.result
      (λ u emits. of_kind c.args.self.now c.conditional.new.self c.args.expr.now.kind.value _ _ c.args.slot (sym c.deref.ensures ∙ c.in-Conditional.is) (refl)
      (emits))
      c.conditional.ensures.emits;
}

pub expression-returns-in_ok-expression-in-Convert : goal.expression-returns-in_ok-expression-in-Convert
expression-returns-in_ok-expression-in-Convert t c = record {
  emits = if_ok c.conversion.result
      (λ u emits. of_kind c.args.self.now c.conversion.new.self c.args.expr.now.kind.value _ _ c.args.slot (sym c.deref.ensures ∙ c.in-Convert.is) (refl)
      (emits c.args.self.now (expr_of c.in-Convert.value) c.in_ok-expression-in-Convert.ensures.emits))
      c.conversion.ensures.emits;
}

pub expression-returns-in_ok-expression-in-Change : goal.expression-returns-in_ok-expression-in-Change
expression-returns-in_ok-expression-in-Change t c = record {
  emits = if_ok c.put-in-Change.result
      (λ u puts. of_kind c.args.self.now c.put-in-Change.new.self c.args.expr.now.kind.value _ _ c.args.slot (sym c.deref.ensures ∙ c.in-Change.is) refl
      (emitted.alter c.args.self.now c.expression-in-Change.new.self c.put-in-Change.new.self c.in-Change.change (expr_of c.in-Change.operand) c.args.slot c.in_ok-expression-in-Change.ensures.emits puts))
      c.put-in-Change.ensures.puts;
}

pub path-loop-link-init : goal.path-loop-link-init
path-loop-link-init t c = (expr_of c.args.base.now, c.in_ok-expression.ensures.emits, refl)

pub path-loop-link-preserved : goal.path-loop-link-preserved
path-loop-link-preserved t c = (
  linked c.loop-link.invariant.0 c.link-item.result,
  c.in_ok-link.ensures.emits c.args.self.now c.loop-link.invariant.0 c.loop-link.invariant.1,
  link_step c.loop-link.invariant.0 c.args.links.now c.loop-link.link-index c.link-item.result c.loop-link-test.true c.link-item.is ∙ c.loop-link.invariant.2,
)

pub path-returns : goal.path-returns
path-returns t c = record {
  emits = subst (λ (x : Expr). Emits c.args.self.now c.loop-link.self x c.args.slot)
      (link_end c.loop-link.invariant.0 _ c.args.links.now c.loop-link.link-index c.loop-link-test.false c.loop-link.invariant.2) c.loop-link.invariant.1;
}

pub arguments-loop-argument-init : goal.arguments-loop-argument-init
arguments-loop-argument-init t c = ([], no_code c.args.self.now c.args.slot, omega arith, refl)

pub arguments-loop-argument-preserved : goal.arguments-loop-argument-preserved
arguments-loop-argument-preserved t c =
    let here = c.loop-argument in
    let es = here.invariant.0 in
    let item = c.argument-item.result in
    let longer = length-append es (expr_of item ∷ []) in
    let next = c.in_ok-next.ensures.next in
    let before = here.invariant.2 in (
      es ++ expr_of item ∷ [],
      one_argument c.args.self.now here.self c.expression.new.self es (expr_of item) c.args.slot here.next before here.invariant.1
          c.in_ok-expression.ensures.emits,
      omega (arith, longer, next, before),
      argument_step es c.args.arguments.now here.argument-index item c.loop-argument-test.true c.argument-item.is ∙ here.invariant.3,
    )

pub arguments-returns : goal.arguments-returns
arguments-returns t c = record {
  emits = subst (λ es. EmitsArguments c.args.self.now c.loop-argument.self es c.args.slot)
      (argument_end c.loop-argument.invariant.0 _ c.args.arguments.now c.loop-argument.argument-index c.loop-argument-test.false c.loop-argument.invariant.3)
      c.loop-argument.invariant.1;
}

pub invoke-returns : goal.invoke-returns
invoke-returns t c = record {
  emits = if_ok c.method.result
      (λ u then start e ps first.
      then start c.args.self.now e ps (map expr_of c.args.arguments.now) first
      (subst (λ (n : ℕ). EmitsArguments c.args.self.now c.arguments.new.self (map expr_of c.args.arguments.now) n) c.in_ok-first.ensures.next c.in_ok-arguments.ensures.emits)
      (length-map c.args.arguments.now expr_of))
      c.method.ensures.emits;
}

pub link-returns-in-Invoke : goal.link-returns-in-Invoke
link-returns-in-Invoke t c = record {
  emits = if_ok c.invoke.result
      (λ u next start e first.
      subst (λ (x : Expr). Emits start c.invoke.new.self x c.args.slot)
      (sym (ap (λ (l : link_code.Link). linked e l) c.in-Invoke.is ∙ invoke_is e c.in-Invoke.method c.in-Invoke.parameters c.in-Invoke.arguments))
      (subst (λ (xs : List expr_code.Expr). Emits start c.invoke.new.self (Invoke e c.in-Invoke.method (c.in-Invoke.parameters).items (exprs (map expr_of xs))) c.args.slot)
      c.deref.ensures.value (next start e (c.in-Invoke.parameters).items first)))
      c.invoke.ensures.emits;
}

pub expression-returns-in-Path : goal.expression-returns-in-Path
expression-returns-in-Path t c = record {
  emits = if_ok c.path.result
      (λ u emits. of_kind c.args.self.now c.path.new.self c.args.expr.now.kind.value _ _ c.args.slot (sym c.deref.ensures ∙ c.in-Path.is) (path_is c.in-Path.base c.in-Path.links)
      (subst (λ (ls : List link_code.Link). Emits c.args.self.now c.path.new.self (all_linked (expr_of c.in-Path.base) ls) c.args.slot) c.deref-in-Path.ensures.value emits))
      c.path.ensures.emits;
}

pub expression-returns-in_ok-expression-in-Cast : goal.expression-returns-in_ok-expression-in-Cast
expression-returns-in_ok-expression-in-Cast t c = record {
  emits = if_ok c.put-in-Cast.result
      (λ u puts. of_kind c.args.self.now c.put-in-Cast.new.self c.args.expr.now.kind.value _ _ c.args.slot (sym c.deref.ensures ∙ c.in-Cast.is) refl
      (casts.cast c.args.self.now c.expression-in-Cast.new.self c.put-in-Cast.new.self c.in-Cast.to (expr_of c.in-Cast.value) c.args.slot c.in_ok-expression-in-Cast.ensures.emits puts))
      c.put-in-Cast.ensures.puts;
}

pub expression-returns-in_ok-spot-in-Assign : goal.expression-returns-in_ok-spot-in-Assign
expression-returns-in_ok-spot-in-Assign t c = record {
  emits = if_ok c.assignment.result
      (λ u then. of_kind c.args.self.now c.assignment.new.self c.args.expr.now.kind.value _ _ c.args.slot (sym c.deref.ensures ∙ c.in-Assign.is) (refl)
      (then c.args.self.now c.expression-in-Assign.new.self (place_of c.in-Assign.place) (expr_of c.in-Assign.value)
      c.in_ok-expression-in-Assign.ensures.emits
      (subst (λ (k : ℕ). EmitsPlace c.expression-in-Assign.new.self c.place.new.self (place_of c.in-Assign.place) c.in_ok-spot-in-Assign.spot k)
      c.in_ok-next-in-Assign.ensures.next c.in_ok-spot-in-Assign.ensures.emits)))
      c.assignment.ensures.emits;
}

pub expression-returns-in_ok-spot-in-Update : goal.expression-returns-in_ok-spot-in-Update
expression-returns-in_ok-spot-in-Update t c =
    let two : c.in_ok-next-in-Update.next ≡ c.args.slot + 2 =
    omega (arith, c.in_ok-next-in-Update.ensures.next, c.in_ok-left-in-Update.ensures.next) in
    record {
      emits = if_ok c.update.result
          (λ u then. of_kind c.args.self.now c.update.new.self c.args.expr.now.kind.value _ _ c.args.slot (sym c.deref.ensures ∙ c.in-Update.is) (refl)
          (then c.args.self.now c.expression-in-Update.new.self (place_of c.in-Update.place) (expr_of c.in-Update.value)
          c.in_ok-expression-in-Update.ensures.emits
          (subst (λ (k : ℕ). EmitsPlace c.expression-in-Update.new.self c.place-in-Update.new.self (place_of c.in-Update.place) c.in_ok-spot-in-Update.spot k)
          two c.in_ok-spot-in-Update.ensures.emits)))
          c.update.ensures.emits;
    }

pub expression-returns-in_ok-spot-in-Step : goal.expression-returns-in_ok-spot-in-Step
expression-returns-in_ok-spot-in-Step t c =
    let two : c.in_ok-next-in-Step.next ≡ c.args.slot + 2 =
    omega (arith, c.in_ok-next-in-Step.ensures.next, c.in_ok-other-in-Step.ensures.next) in
    record {
      emits = if_ok c.step.result
          (λ u then. of_kind c.args.self.now c.step.new.self c.args.expr.now.kind.value _ _ c.args.slot (sym c.deref.ensures ∙ c.in-Step.is) (refl)
          (then c.args.self.now (place_of c.in-Step.place)
          (subst (λ (k : ℕ). EmitsPlace c.args.self.now c.place-in-Step.new.self (place_of c.in-Step.place) c.in_ok-spot-in-Step.spot k)
          two c.in_ok-spot-in-Step.ensures.emits)))
          c.step.ensures.emits;
    }

pub link-returns-in-Member : goal.link-returns-in-Member
link-returns-in-Member t c = record {
  emits = rw c.in-Member.is (if_ok c.read_member.result (λ u emits. emits) c.read_member.ensures.emits);
}

pub link-returns-in_ok-expression-in-Index : goal.link-returns-in_ok-expression-in-Index
link-returns-in_ok-expression-in-Index t c = record {
  emits = rw c.in-Index.is (if_ok c.read_element.result
      (λ u then start e first.
      then start c.args.self.now e (expr_of c.in-Index.index) c.in-Index.of first
      (subst (λ (r : ℕ). Emits c.args.self.now c.expression.new.self (expr_of c.in-Index.index) r) c.in_ok-next-in-Index.ensures.next c.in_ok-expression-in-Index.ensures.emits))
      c.read_element.ensures.emits);
}

pub place-returns-in-Variable : goal.place-returns-in-Variable
place-returns-in-Variable t c = record {
  emits = rw (c.in-Variable.is, c.spot_of_variable.ensures.spot)
      (places.variable c.args.self.now c.in-Variable.variable c.args.slot);
}

pub place-returns-in_ok-expression-in-Member : goal.place-returns-in_ok-expression-in-Member
place-returns-in_ok-expression-in-Member t c = record {
  emits = rw (c.in-Member.is, c.spot_of_member.ensures.spot)
      (places.member c.args.self.now c.expression.new.self (expr_of c.in-Member.object) c.in-Member.member c.args.slot
      c.in_ok-expression-in-Member.ensures.emits);
}

pub place-returns-in_ok-expression-in-Element-2 : goal.place-returns-in_ok-expression-in-Element-2
place-returns-in_ok-expression-in-Element-2 t c = record {
  emits = rw (c.in-Element.is, c.in_ok-next-in-Element.ensures.next)
      (places.element c.args.self.now c.expression-in-Element.new.self c.expression-in-Element-2.new.self (expr_of c.in-Element.array)
      (expr_of c.in-Element.index) c.in-Element.of c.args.slot c.in_ok-expression-in-Element.ensures.emits
      (subst (λ (r : ℕ). Emits c.expression-in-Element.new.self c.expression-in-Element-2.new.self (expr_of c.in-Element.index) r)
      c.in_ok-next-in-Element.ensures.next c.in_ok-expression-in-Element-2.ensures.emits));
}

pub expression-returns-in_ok-arguments-in-Call : goal.expression-returns-in_ok-arguments-in-Call
expression-returns-in_ok-arguments-in-Call t c = record {
  emits = if_ok c.call.result
      (λ u next. of_kind c.args.self.now c.call.new.self c.args.expr.now.kind.value _ _ c.args.slot (sym c.deref.ensures ∙ c.in-Call.is) (call_is c.in-Call.target c.in-Call.parameters c.in-Call.arguments)
      (next c.args.self.now (c.in-Call.parameters).items (map expr_of (c.in-Call.arguments).items)
      (subst (λ (xs : List expr_code.Expr). EmitsArguments c.args.self.now c.arguments.new.self (map expr_of xs) c.args.slot) c.deref-in-Call.ensures.value c.in_ok-arguments-in-Call.ensures.emits)
      (length-map (c.in-Call.arguments).items expr_of ∙ ap (λ (xs : List expr_code.Expr). length xs) (sym c.deref-in-Call.ensures.value) ∙ c.deref-in-Call.ensures.len ∙ sym c.len.ensures)))
      c.call.ensures.emits;
}
