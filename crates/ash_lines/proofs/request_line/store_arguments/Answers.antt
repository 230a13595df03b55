use Rattle.std.proofs.Common.{◌∙◌, ◌∷◌, [], List, length, sym, arith, length-append, ap}
use Rattle.ash_requests.specs.declared.argument.Arg.{Arg}
use Rattle.ash_lines.specs.Lines.{arguments_of}
use Rattle.ash_lines.specs.LineWords.{words_left}
use Rattle.ash_lines.proofs.WordLemmas.{prepend, arguments-more, arguments-bad, arguments-end}
use Rattle.ash_lines.proofs.request_line.store_arguments.Goals as goal

pub returns-in-None-clause-stored : goal.returns-in-None-clause-stored
returns-in-None-clause-stored c =
    c.loop-word.invariant.stored ∙ arguments-bad c.loop-word.arguments.items _ _ c.in-Some.word.now c.in-Some.ensures.next c.in-None.ensures.value

pub loop-word-preserved : goal.loop-word-preserved
loop-word-preserved c = record {
  stored = c.loop-word.invariant.stored ∙ (arguments-more c.loop-word.arguments.items _ _ c.in-Some.word.now c.in-Some-parse_argument.value c.in-Some.ensures.next c.in-Some-parse_argument.ensures.value
      ∙ ap (λ (x : List Arg). prepend x (arguments_of (words_left c.next.new.self.rest))) (sym c.push_reserved.ensures.items));
  short = let e = ap length c.in-Some.ensures.next in rw c.push_reserved.ensures.items (omega (arith, e, c.loop-word.invariant.short, length-append c.loop-word.arguments.items (c.in-Some-parse_argument.value ∷ [])));
  room = omega arith;
}

pub returns-clause-stored : goal.returns-clause-stored
returns-clause-stored c =
    c.loop-word.invariant.stored ∙ arguments-end c.loop-word.arguments.items _ c.in_default.ensures.next
