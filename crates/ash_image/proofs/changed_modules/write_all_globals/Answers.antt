use Rattle.std.proofs.Common.{◌≡◌, ◌++◌, ℕ, List, length, sym, ap, ◌∙◌, append_assoc}
use Rattle.std.proofs.lemmas.Result.{on_ok_weaker}
use Rattle.std.specs.List.{flat_map}
use Rattle.ash_image.specs.Fields.{number}
use Rattle.ash_image.specs.Delta.{indexed_word, indexed_from}
use Rattle.ash_image.proofs.DeltaLaws.{indexed_length}
use Rattle.ash_image.proofs.changed_modules.write_all_globals.Goals as goal

pub returns : goal.returns
returns c = record {
  value =
      let out = c.args.out.now.items in
      let words = c.args.words.now in
      let each = flat_map indexed_word (indexed_from 0 words) in
      on_ok_weaker c.write_counted.result
      (λ last. last ∙ ap (λ (bytes : List ℕ). bytes ++ each) c.in_ok-write_u16.ensures.written
      ∙ append_assoc out (number 2 (length words)) each
      ∙ ap (λ (n : ℕ). out ++ (number 2 n ++ each)) (sym (indexed_length 0 words)))
      c.write_counted.ensures.value;
}
