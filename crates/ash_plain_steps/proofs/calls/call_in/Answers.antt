use Rattle.std.proofs.Common.{rules, ◌≡◌, true, false, List, map, Option, Some, None, sym, ◌∙◌, ap}
use Rattle.std.specs.Prelude.{slice_get, is_some, option_map}
use Rattle.std.specs.List.{position_from}
use Rattle.std.specs.Str.{bytes_eq}
use Rattle.std.proofs.lemmas.Result.{err_from_is_err_and}
use Rattle.std.proofs.lemmas.Option.{slice_get-map, slice_get_past}
use Rattle.ash_typed.specs.Modules.{Function, function_of, module_of}
use Rattle.ash_requests.specs.Tasks.{is_callable, arguments_of}
use Rattle.ash_plain_steps.proofs.Asked.{no_function, nothing_there, not_callable, bad_arguments, invoked, words_take}
use Rattle.ash_plain_steps.proofs.Given.{got_item}
use Rattle.ash_plain_steps.proofs.calls.call_in.Goals as goal

pub returns-in_default : goal.returns-in_default
returns-in_default g c = record {
  outcome =
      λ m.
      no_function m (module_of c.args.tree.now) c.args.name.now c.args.arguments.now
      (c.in_default.ensures.value ∙ ap (λ (l : List _). position_from (λ (f : Function). bytes_eq f.name c.args.name.now) 0 (map function_of l)) c.deref.ensures.value);
}

pub returns-in_default-get : goal.returns-in_default-get
returns-in_default-get g c = record {
  outcome =
      λ m.
      nothing_there m (module_of c.args.tree.now) c.args.name.now c.args.arguments.now c.in-Some.place
      (c.in-Some.ensures.value ∙ ap (λ (l : List _). position_from (λ (f : Function). bytes_eq f.name c.args.name.now) 0 (map function_of l)) c.deref.ensures.value)
      (ap (λ (l : List _). slice_get (map function_of l) c.in-Some.place) (sym c.deref-2.ensures.value)
      ∙ slice_get-map function_of c.deref-2.result.now c.in-Some.place
      ∙ ap (λ (o : Option _). option_map function_of o) (slice_get_past c.deref-2.result.now c.in-Some.place c.in_default-get.ensures.lookup.3));
}

pub returns-then-not-is_callable : goal.returns-then-not-is_callable
returns-then-not-is_callable g c = record {
  outcome =
      λ m.
      let no : is_callable (function_of c.in-Some-get.function.now) ≡ false = search rules in
      not_callable m (module_of c.args.tree.now) c.args.name.now c.args.arguments.now c.in-Some.place (function_of c.in-Some-get.function.now)
      (c.in-Some.ensures.value ∙ ap (λ (l : List _). position_from (λ (f : Function). bytes_eq f.name c.args.name.now) 0 (map function_of l)) c.deref.ensures.value)
      (ap (λ (l : List _). slice_get (map function_of l) c.in-Some.place) (sym c.deref-2.ensures.value)
      ∙ slice_get-map function_of c.deref-2.result.now c.in-Some.place
      ∙ ap (λ (o : Option _). option_map function_of o) (got_item c.deref-2.result.now c.in-Some.place c.in-Some-get.function.now c.in-Some-get.ensures.lookup.3.0 c.in-Some-get.ensures.lookup.3.1))
      no;
}

pub returns-in-Some-2 : goal.returns-in-Some-2
returns-in-Some-2 g c = record {
  outcome =
      λ m.
      let so : is_callable (function_of c.in-Some-get.function.now) ≡ true = search rules in
      let words : Some c.in-Some-2.words.items ≡ arguments_of c.deref-3.result.now c.args.arguments.now = search rules in
      invoked m (module_of c.args.tree.now) c.args.name.now c.args.arguments.now c.in-Some.place (function_of c.in-Some-get.function.now) c.in-Some-2.words.items
      (c.in-Some.ensures.value ∙ ap (λ (l : List _). position_from (λ (f : Function). bytes_eq f.name c.args.name.now) 0 (map function_of l)) c.deref.ensures.value)
      (ap (λ (l : List _). slice_get (map function_of l) c.in-Some.place) (sym c.deref-2.ensures.value)
      ∙ slice_get-map function_of c.deref-2.result.now c.in-Some.place
      ∙ ap (λ (o : Option _). option_map function_of o) (got_item c.deref-2.result.now c.in-Some.place c.in-Some-get.function.now c.in-Some-get.ensures.lookup.3.0 c.in-Some-get.ensures.lookup.3.1))
      so
      (words ∙ ap (λ (l : List _). arguments_of l c.args.arguments.now) c.deref-3.ensures.value);
}

pub returns-in-None : goal.returns-in-None
returns-in-None g c = record {
  outcome =
      λ m.
      let so : is_callable (function_of c.in-Some-get.function.now) ≡ true = search rules in
      let none : None ≡ arguments_of c.deref-3.result.now c.args.arguments.now = search rules in
      bad_arguments m (module_of c.args.tree.now) c.args.name.now c.args.arguments.now c.in-Some.place (function_of c.in-Some-get.function.now)
      (c.in-Some.ensures.value ∙ ap (λ (l : List _). position_from (λ (f : Function). bytes_eq f.name c.args.name.now) 0 (map function_of l)) c.deref.ensures.value)
      (ap (λ (l : List _). slice_get (map function_of l) c.in-Some.place) (sym c.deref-2.ensures.value)
      ∙ slice_get-map function_of c.deref-2.result.now c.in-Some.place
      ∙ ap (λ (o : Option _). option_map function_of o) (got_item c.deref-2.result.now c.in-Some.place c.in-Some-get.function.now c.in-Some-get.ensures.lookup.3.0 c.in-Some-get.ensures.lookup.3.1))
      so
      (none ∙ ap (λ (l : List _). arguments_of l c.args.arguments.now) c.deref-3.ensures.value);
}

pub returns-in_err-words : goal.returns-in_err-words
returns-in_err-words g c = record {
  outcome =
      λ m.
      let p = err_from_is_err_and c.from_residual.result c.from_residual.ensures.1 in
      let so : is_callable (function_of c.in-Some-get.function.now) ≡ true = search rules in
      rw (p.1, p.2) (words_take g.S.SourceReader.TakesMemory m (module_of c.args.tree.now) c.args.name.now c.args.arguments.now c.in-Some.place (function_of c.in-Some-get.function.now)
      (c.in-Some.ensures.value ∙ ap (λ (l : List _). position_from (λ (f : Function). bytes_eq f.name c.args.name.now) 0 (map function_of l)) c.deref.ensures.value)
      (ap (λ (l : List _). slice_get (map function_of l) c.in-Some.place) (sym c.deref-2.ensures.value)
      ∙ slice_get-map function_of c.deref-2.result.now c.in-Some.place
      ∙ ap (λ (o : Option _). option_map function_of o) (got_item c.deref-2.result.now c.in-Some.place c.in-Some-get.function.now c.in-Some-get.ensures.lookup.3.0 c.in-Some-get.ensures.lookup.3.1))
      so
      (ap (λ (l : List _). is_some (arguments_of l c.args.arguments.now)) (sym c.deref-3.ensures.value) ∙ c.in_err-words.ensures.memory));
}
