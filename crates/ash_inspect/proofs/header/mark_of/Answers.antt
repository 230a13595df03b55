use Rattle.std.proofs.Common.{◌∙◌, List, ℕ, take, sym, ap, arith, rules}
use Rattle.ash_journal.proofs.ReadLaws.{differ, same_bytes, magic_is, mark_magic, mark_read}
use Rattle.ash_inspect.proofs.header.mark_of.Goals as goal

pub returns-then-ne : goal.returns-then-ne
returns-then-ne c = record {
  value =
      λ g fits is.
      differ _ _ c.ne.result c.ne.ensures c.if-ne.true
      (c.split_at.ensures.front ∙ ap (λ (l : List ℕ). take 8 l) is ∙ mark_magic g ∙ magic_is ∙ sym c.as_slice.ensures);
}

pub returns : goal.returns
returns c = record {
  value = (
    omega (arith, c.read_u64.type_inv),
    mark_read c.args.bytes.now c.read_u64.result (omega (arith, c.requires)) (λ i. (c.type_inv.bytes i).fits)
        (sym c.split_at.ensures.front ∙ same_bytes _ _ c.ne.result c.ne.ensures c.if-ne.false ∙ c.as_slice.ensures
        ∙ sym magic_is)
        (search rules),
  );
}
