-- What a table needs to know of the objects that were saved.
use Rattle.std.proofs.Common.{◌≡◌, ◌≤◌, ℕ, List, [], ◌∷◌, map, length, nat_eq, Option, Some, None, refl, sym, ap, ◌∙◌, subst}
use Rattle.std.specs.Prelude.{All, IfSome, Contains, is_some}
use Rattle.std.specs.List.{AllByRecursion, cons_option}
use Rattle.std.specs.List.Sorted.{IsStrictlyIncreasing}
use Rattle.std.specs.Option.{option_map}
use Rattle.std.proofs.lemmas.List.Elements.{All-from_recursion}
use Rattle.std.proofs.lemmas.Map.Made.{lookup-map_values}
use Rattle.ash_host.specs.declared.word.Word.{Word}
use Rattle.ash_host.specs.Limits.{max_elements}
use Rattle.ash_host.specs.Objects.{Plain, Script as PlainScript, Array as PlainArray, Host as PlainHost, LiveObjects, object_at, numbers, handle, handles, fields_of, Lives, AreNumbered}
use Rattle.ash_slots.specs.declared.body.Body.{Body}
use Rattle.ash_slots.specs.declared.body.Body.TheVariants.{Script, Array, Host}
use Rattle.ash_slots.specs.Bodies.{words_of}
use Rattle.ash_objects.specs.declared.restoring.SavedObject.{SavedObject}
use Rattle.ash_objects.specs.declared.restoring.SavedHostObject.{SavedHostObject}
use Rattle.ash_objects.specs.Restoring.{stored_in}
use Rattle.ash_soundness.proofs.Values.{first_in, later_in}
use Rattle.ash_states.specs.Indexes.{plain_indexed, entry_indexed}
use Rattle.ash_table_states.specs.SavedObjects.{body_saved, entry_saved}

words_saved : (body : Body SavedHostObject) → words_of body ≡ fields_of (body_saved body)
words_saved (Script script) = refl
words_saved (Array array) = refl
words_saved (Host saved) = refl

fields_same : (index : List ℕ → ℕ) (o : Plain (List ℕ)) → fields_of (plain_indexed index o) ≡ fields_of o
fields_same index (PlainScript owner place fields) = refl
fields_same index (PlainArray of elements) = refl
fields_same index (PlainHost kind state) = refl

entries_same : (saved : List SavedObject) → map (λ (e : ℕ × Body SavedHostObject). (e.0, body_saved e.1)) (stored_in saved) ≡ map entry_saved saved
entries_same [] = refl
entries_same (object ∷ saved) = ap (λ (es : LiveObjects ℕ). entry_saved object ∷ es) (entries_same saved)

numbers_saved : (saved : List SavedObject) → numbers (stored_in saved) ≡ numbers (map entry_saved saved)
numbers_saved [] = refl
numbers_saved (object ∷ saved) = ap (λ (ns : List ℕ). object.number ∷ ns) (numbers_saved saved)

numbers_indexed : (index : List ℕ → ℕ) (objects : LiveObjects (List ℕ)) → numbers (map (entry_indexed index) objects) ≡ numbers objects
numbers_indexed index [] = refl
numbers_indexed index (e ∷ objects) = ap (λ (ns : List ℕ). e.0 ∷ ns) (numbers_indexed index objects)

some_mapped : {A B : Type 0} (f : A → B) (o : Option A) → is_some (option_map f o) ≡ is_some o
some_mapped f None = refl
some_mapped f (Some x) = refl

-- what holds of each handle holds of each word that is one
each_handle : (P : ℕ → Type 0) (words : List Word) → ((n : ℕ) → Contains (handles words) n → P n) → AllByRecursion (λ (word : Word). IfSome (handle word) P) words
each_handle P [] alive = tt
each_handle P (word ∷ words) alive = by (handle word) alive (λ later. each_handle P words later)
  where
    by : (h : Option ℕ) → ((n : ℕ) → Contains (cons_option h (handles words)) n → P n)
        → (((n : ℕ) → Contains (handles words) n → P n) → AllByRecursion (λ (w : Word). IfSome (handle w) P) words)
        → IfSome h P × AllByRecursion (λ (w : Word). IfSome (handle w) P) words
    by None alive rest = (tt, rest alive)
    by (Some m) alive rest = (alive m (first_in m (handles words)), rest (λ n i. alive n (later_in m n (handles words) i)))

module _ (index : List ℕ → ℕ) (objects : LiveObjects (List ℕ)) (saved : List SavedObject) (are : map entry_saved saved ≡ map (entry_indexed index) objects) where
  at_saved : (n : ℕ) → option_map body_saved (object_at n (stored_in saved)) ≡ option_map (plain_indexed index) (object_at n objects)
  at_saved n =
      sym (lookup-map_values body_saved (nat_eq n) (stored_in saved))
      ∙ ap (λ (es : LiveObjects ℕ). object_at n es) (entries_same saved ∙ are)
      ∙ lookup-map_values (plain_indexed index) (nat_eq n) objects

  lives_saved : (n : ℕ) → Lives objects n → Lives (stored_in saved) n
  lives_saved n lives =
      sym (some_mapped body_saved (object_at n (stored_in saved))) ∙ ap is_some (at_saved n) ∙ some_mapped (plain_indexed index) (object_at n objects) ∙ lives

  saved_lives : (n : ℕ) → Lives (stored_in saved) n → Lives objects n
  saved_lives n lives =
      sym (some_mapped (plain_indexed index) (object_at n objects)) ∙ ap is_some (sym (at_saved n)) ∙ some_mapped body_saved (object_at n (stored_in saved)) ∙ lives

  pub saved_numbered : (last : ℕ) → AreNumbered last objects → AreNumbered last (stored_in saved)
  saved_numbered last h = record {
    in_order = subst (λ (ns : List ℕ). IsStrictlyIncreasing ns) (sym (numbers_saved saved ∙ ap (λ (es : LiveObjects ℕ). numbers es) are ∙ numbers_indexed index objects)) h.in_order;
    given = λ n lives. h.given n (saved_lives n lives);
  }

  -- an object that was saved is one of the state, with its words
  words_at : (n : ℕ) (body : Body SavedHostObject) → object_at n (stored_in saved) ≡ Some body
      → (o : Plain (List ℕ)) × (object_at n objects ≡ Some o) × (words_of body ≡ fields_of o)
  words_at n body at = by (object_at n objects) refl
    where
      by : (o : Option (Plain (List ℕ))) → object_at n objects ≡ o → (p : Plain (List ℕ)) × (object_at n objects ≡ Some p) × (words_of body ≡ fields_of p)
      by None there =
          let none : Some (body_saved body) ≡ None = ap (option_map body_saved) (sym at) ∙ at_saved n ∙ ap (option_map (plain_indexed index)) there in
          absurd (cc)
      by (Some o) there =
          let both : Some (body_saved body) ≡ Some (plain_indexed index o) = ap (option_map body_saved) (sym at) ∙ at_saved n ∙ ap (option_map (plain_indexed index)) there in
          let same : body_saved body ≡ plain_indexed index o = cc in
          (o, there, words_saved body ∙ ap (λ (p : Plain ℕ). fields_of p) same ∙ fields_same index o)

  pub saved_short : ((n : ℕ) (o : Plain (List ℕ)) → object_at n objects ≡ Some o → length (fields_of o) ≤ max_elements)
      → (n : ℕ) → IfSome (object_at n (stored_in saved)) (λ body. length (words_of body) ≤ max_elements)
  saved_short short n = by (object_at n (stored_in saved)) refl
    where
      by : (b : Option (Body SavedHostObject)) → object_at n (stored_in saved) ≡ b → IfSome b (λ body. length (words_of body) ≤ max_elements)
      by None at = tt
      by (Some body) at =
          let (o, there, same) = words_at n body at in
          subst (λ (ws : List Word). length ws ≤ max_elements) (sym same) (short n o there)

  pub saved_alive : ((n : ℕ) (o : Plain (List ℕ)) → object_at n objects ≡ Some o → (m : ℕ) → Contains (handles (fields_of o)) m → Lives objects m)
      → (n : ℕ) → IfSome (object_at n (stored_in saved)) (λ body. All (λ word. IfSome (handle word) (Lives (stored_in saved))) (words_of body))
  saved_alive alive n = by (object_at n (stored_in saved)) refl
    where
      by : (b : Option (Body SavedHostObject)) → object_at n (stored_in saved) ≡ b
          → IfSome b (λ body. All (λ word. IfSome (handle word) (Lives (stored_in saved))) (words_of body))
      by None at = tt
      by (Some body) at =
          let (o, there, same) = words_at n body at in
          All-from_recursion (λ (word : Word). IfSome (handle word) (Lives (stored_in saved))) (words_of body)
          (each_handle (Lives (stored_in saved)) (words_of body)
          (λ m i. lives_saved m (alive n o there m (subst (λ (ws : List Word). Contains (handles ws) m) same i))))
