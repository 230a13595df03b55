-- Steps on the words of objects: arrays, and what is read and written at places.
use Rattle.std.proofs.Common.{◌≡◌, ◌<◌, ◌≤◌, ◌-◌, ℕ, true, List, [], ◌∷◌, ◌++◌, length, take, drop, replicate, refl, sym, ap, ◌∙◌, subst, nat_lt, nat_le, option_map, arith, length-append, length-take}
use lib.ListN.{length-replicate}
use Rattle.std.specs.Prelude.{Option, Some, None, Contains}
use Rattle.std.specs.Option.{option_map_or}
use Rattle.std.proofs.lemmas.Option.{same_Some}
use Rattle.ash_host.specs.declared.word.Word.{Word}
use Rattle.ash_host.specs.declared.word.Word.TheVariants as words
use Rattle.ash_host.specs.Objects.{Elements, Plain, Script, Array, Host, LiveObjects, object_at, handle, handles, fields_of, Lives}
use Rattle.ash_host.specs.Limits.{max_elements}
use Rattle.ash_typed.specs.declared.types.Element as typed_element
use Rattle.ash_typed.specs.declared.tree.operations.ArrayMethod.{ArrayMethod}
use Rattle.ash_typed.specs.declared.tree.operations.ArrayMethod.TheVariants as methods
use Rattle.ash_typed.specs.TypeOf.{value, no_value, value_of_result, type_of_element, result_of_array_method}
use Rattle.ash_typed.specs.SoundOperations.{parameters_of_array_method}
use Rattle.ash_typed.specs.SoundExpressions.{TypedEnvironment}
use Rattle.ash_meaning.specs.declared.exception.Exception.TheVariants.{IndexOutOfBounds, ArrayLimit}
use Rattle.ash_meaning.specs.Activity.{World, Activity, in_world, in_frame}
use Rattle.ash_meaning.specs.Runs.{Run, Progress, onward, demand, give, ◌>>◌, ◌>>=◌}
use Rattle.ash_meaning.specs.Releases.{holding, hold_all}
use Rattle.ash_meaning.specs.ObjectSteps.{object_of, with_object, words_in, words_at, with_words, put_words}
use Rattle.ash_meaning.specs.ArraySteps.{zero_element, natural_of, zero_in, zero_at, resized, resize, insert_last, remove_last, invoke_array}
use Rattle.ash_meaning.specs.Locations.{read}
use Rattle.ash_meaning.specs.Classes.{Program}
use Rattle.ash_soundness.specs.WellFormed.{Context, IsContext, Shape, shape_of, shape_at, IsArrayOf, IsReference, to_nothing, to_object, uint, IsValue, is_truth, is_integer, AreValues, and_value, AllAre, none_are, and_is, gives_nothing, gives, IsObject, IsWellFormed, IsSafe}
use Rattle.ash_soundness.specs.WellFormedLaws.{Goes, Leaves, done, ended, Evaluates}
use Rattle.ash_soundness.proofs.Values.{all_live}
use Rattle.ash_soundness.proofs.Changes.{world_changed, world_follows, changed_stays}
use Rattle.ash_soundness.proofs.Parts.{same_elements, elements_fit, elements_few, elements_put}
use Rattle.ash_soundness.proofs.Lists.{all_append, all_take, all_drop, all_replicate}
use Rattle.ash_soundness.proofs.Triples.{bind, after_demand, safe, goes_itself, goes_more, hold_goes}
use Rattle.ash_soundness.proofs.Hosts.{world_goes, well_after}
use Rattle.ash_soundness.proofs.Constructions.{bind_here, lt_from, le_from, zero_of_element}

-- an object that has a shape

from_option : (o : Option (Plain (List ℕ))) (shape : Shape) → option_map shape_of o ≡ Some shape → (x : Plain (List ℕ)) × (o ≡ Some x) × (shape_of x ≡ shape)
from_option None shape e = absurd (cc)
from_option (Some x) shape e = (x, refl, same_Some (shape_of x) shape e)

pub object_with : (number : ℕ) (all : LiveObjects (List ℕ)) (shape : Shape) → shape_at number all ≡ Some shape → (x : Plain (List ℕ)) × (object_at number all ≡ Some x) × (shape_of x ≡ shape)
object_with number all shape e = from_option (object_at number all) shape e

pub words_of : (number : ℕ) (w : World) (x : Plain (List ℕ)) → object_at number w.objects ≡ Some x → words_in number w ≡ fields_of x
words_of number w x at = ap (λ (o : Option (Plain (List ℕ))). option_map_or fields_of o []) at

words_shape : (ws : List Word) (o : Plain (List ℕ)) → shape_of (with_words ws o) ≡ shape_of o
words_shape ws (Script owner place fields) = refl
words_shape ws (Array of elements) = refl
words_shape ws (Host kind state) = refl

-- the object of a handle, which is tested
pub after_object : {c : Context} {B : Type 0} {R : B → Activity → Type 0} (f : ℕ → Run B) {Fits : Shape → Type 0} {w : Word} (a : Activity) → IsSafe c a → IsReference (a.world).objects Fits w → ((number : ℕ) (shape : Shape) → w ≡ words.Object number → shape_at number (a.world).objects ≡ Some shape → Fits shape → Leaves c R (f number a)) → Leaves c R (onward (object_of w a) f)
after_object f a s to_nothing next = ended s
after_object f a s (to_object {number} {shape} at fits) next = next number shape refl at fits

zero_from : {p : Program} {all : LiveObjects (List ℕ)} {e : typed_element.Element} {shape : Shape} (i : IsArrayOf p e shape) (o : Plain (List ℕ)) → shape_of o ≡ shape → IsValue p all (type_of_element e) (zero_in o)
zero_from i (Script owner place fields) s = absurd (let whole = s ∙ i.is in cc)
zero_from {p} {all} {e} i (Array of ws) s = subst (λ (x : Elements (List ℕ)). IsValue p all (type_of_element e) (zero_element x)) (sym (same_elements (s ∙ i.is))) (zero_of_element e)
zero_from i (Host kind state) s = absurd (let whole = s ∙ i.is in cc)

module _ {c : Context} {env : TypedEnvironment} {envs : List TypedEnvironment} where
  -- an object gets other words, with which it is well-formed
  pub put_goes : {a : Activity} (number : ℕ) (ws : List Word) → IsWellFormed c env envs a → ((o : Plain (List ℕ)) → object_at number (a.world).objects ≡ Some o → IsObject c.modules (a.world).objects (with_words ws o)) → Goes c env envs a (in_world (with_object number (with_words ws)) a)
  put_goes {a} number ws h fits =
      world_goes (with_object number (with_words ws)) h (world_changed number (with_words ws) (words_shape ws) h.world fits)
      (world_follows number (with_words ws) (words_shape ws) h.world)
      (changed_stays number (with_words ws) (words_shape ws) (a.world).objects)

  module _ (context : IsContext c) {e : typed_element.Element} {a : Activity} (h : IsWellFormed c env envs a) (number : ℕ) {shape : Shape} (i : IsArrayOf c.program e shape) (at : shape_at number (a.world).objects ≡ Some shape) where
    -- the elements of an array

    abbrev elements_here : List Word
    elements_here = words_in number a.world

    pub elements_are : AllAre c.program (a.world).objects (type_of_element e) elements_here
    elements_are =
        let there = object_with number (a.world).objects shape at in
        subst (AllAre c.program (a.world).objects (type_of_element e)) (sym (words_of number a.world there.0 there.1)) (elements_fit context i there.0 there.2 ((h.world).living.each number there.0 there.1))

    pub few_elements : length elements_here ≤ max_elements
    few_elements =
        let there = object_with number (a.world).objects shape at in
        subst (λ (ws : List Word). length ws ≤ max_elements) (sym (words_of number a.world there.0 there.1)) (elements_few context i there.0 there.2 ((h.world).living.each number there.0 there.1))

    pub elements_go : (ws : List Word) → length ws ≤ max_elements → AllAre c.program (a.world).objects (type_of_element e) ws → Goes c env envs a (in_world (with_object number (with_words ws)) a)
    elements_go ws few values =
        put_goes number ws h (λ o there. elements_put context i o ws (same_Some (shape_of o) shape (sym (ap (option_map shape_of) there) ∙ at)) few values)

    holds_of : (n : ℕ) (m : ℕ) → Contains (handles (drop m elements_here)) n → Lives (a.world).objects n
    holds_of n m inside = all_live n (all_drop elements_are m) inside

    zero_here : IsValue c.program (a.world).objects (type_of_element e) (option_map_or zero_in (object_at number (a.world).objects) words.Null)
    zero_here =
        let there = object_with number (a.world).objects shape at in
        subst (λ (o : Option (Plain (List ℕ))). IsValue c.program (a.world).objects (type_of_element e) (option_map_or zero_in o words.Null)) (sym there.1) (zero_from i there.0 there.2)

  -- what is held and what is put, one after the other
  module _ (context : IsContext c) {e : typed_element.Element} (number : ℕ) {shape : Shape} (i : IsArrayOf c.program e shape) where
    held_put : {a : Activity} (h : IsWellFormed c env envs a) → shape_at number (a.world).objects ≡ Some shape → (m : ℕ) (ws : List Word) → length ws ≤ max_elements → AllAre c.program (a.world).objects (type_of_element e) ws → Goes c env envs a (in_world (with_object number (with_words ws)) (in_frame (holding (handles (drop m (words_in number a.world)))) a))
    held_put {a} h at m ws few values =
        let first = hold_goes (handles (drop m (words_in number a.world))) (λ n inside. holds_of context h number i at n m inside) h in
        goes_more first (elements_go context (well_after first) number i at ws few values)

    resize_goes : {a : Activity} (count : ℕ) → IsWellFormed c env envs a → shape_at number (a.world).objects ≡ Some shape → Leaves c (λ (none : Unit {0}) b. Goes c env envs a b) (resize number count a)
    resize_goes {a} count h at =
        let asked : Leaves c (λ (ws : List Word) b. (b ≡ a) × ((ws ≡ words_in number a.world) × (nat_le count max_elements ≡ true))) (onward (demand (nat_le count max_elements) ArrayLimit a) (λ none. words_at number)) = after_demand _ (nat_le count max_elements) ArrayLimit a (safe h) (λ few. done (refl, (refl, few))) in
        bind_here _ asked (λ ws q. put ws q.0 (le_from _ _ q.1))
      where
        zero : Word
        zero = option_map_or zero_in (object_at number (a.world).objects) words.Null

        new : List Word
        new = resized count zero (words_in number a.world)

        few_new : count ≤ max_elements → length new ≤ max_elements
        few_new few = omega (arith, few, length-append (take count (words_in number a.world)) (replicate (count - length (words_in number a.world)) zero), length-take count (words_in number a.world), length-replicate (count - length (words_in number a.world)) zero)

        rest : List Word → Run (Unit {0})
        rest ws = hold_all (drop count ws) >> zero_at number >>= (λ x. put_words number (resized count x ws))

        put : (ws : List Word) → ws ≡ words_in number a.world → count ≤ max_elements → Leaves c (λ (none : Unit {0}) b. Goes c env envs a b) (rest ws a)
        put ws same few = subst (λ (x : List Word). Leaves c (λ (none : Unit {0}) b. Goes c env envs a b) (rest x a)) (sym same) (done (held_put h at count new (few_new few) (all_append (all_take (elements_are context h number i at) count) (all_replicate (count - length (words_in number a.world)) (zero_here context h number i at)))))

    insert_goes : {a : Activity} (word : Word) → IsWellFormed c env envs a → shape_at number (a.world).objects ≡ Some shape → IsValue c.program (a.world).objects (type_of_element e) word → Leaves c (λ (none : Unit {0}) b. Goes c env envs a b) (insert_last number word a)
    insert_goes {a} word h at v =
        after_demand _ (nat_lt (length (words_in number a.world)) max_elements) ArrayLimit a (safe h) (λ room.
        let few : length (words_in number a.world) < max_elements = lt_from _ _ room in
        done (elements_go context h number i at (words_in number a.world ++ word ∷ []) (omega (arith, few, length-append (words_in number a.world) (word ∷ []))) (all_append (elements_are context h number i at) (and_is v none_are))))

    remove_goes : {a : Activity} → IsWellFormed c env envs a → shape_at number (a.world).objects ≡ Some shape → Leaves c (λ (none : Unit {0}) b. Goes c env envs a b) (remove_last number a)
    remove_goes {a} h at =
        let asked : Leaves c (λ (none : Unit {0}) b. (b ≡ in_frame (holding (handles (drop (length (words_in number a.world) - 1) (words_in number a.world)))) a) × Unit {0}) (onward (demand (nat_lt 0 (length (words_in number a.world))) IndexOutOfBounds a) (λ none. hold_all (drop (length (words_in number a.world) - 1) (words_in number a.world)))) = after_demand _ (nat_lt 0 (length (words_in number a.world))) IndexOutOfBounds a (safe h) (λ some. done (refl, tt)) in
        bind_here _ asked (λ none q. done (held_put h at (length (words_in number a.world) - 1) (take (length (words_in number a.world) - 1) (words_in number a.world)) (omega (arith, few_elements context h number i at, length-take (length (words_in number a.world) - 1) (words_in number a.world))) (all_take (elements_are context h number i at) (length (words_in number a.world) - 1))))

    gives_none : {a : Activity} {r : Progress (Unit {0})} → Leaves c (λ (none : Unit {0}) b. Goes c env envs a b) r → Leaves c (Evaluates c env envs no_value a) (onward r (λ none. give words.Null))
    gives_none l = bind l (λ none b g. done (record { goes = g; carried = record { value = gives_nothing; held = λ n s. absurd (cc) } }))

    -- a method of an array
    pub invoke_array_gives : {a : Activity} (method : ArrayMethod) {args : List Word} → IsWellFormed c env envs a → shape_at number (a.world).objects ≡ Some shape → AreValues c.program (a.world).objects (parameters_of_array_method e method) args → Leaves c (Evaluates c env envs (value_of_result (result_of_array_method method)) a) (invoke_array method number args a)
    invoke_array_gives methods.Length h at vs = done (record { goes = goes_itself h; carried = record { value = gives (is_integer (uint (let few = few_elements context h number i at in omega arith))); held = λ n s. absurd (cc) } })
    invoke_array_gives methods.IsEmpty h at vs = done (record { goes = goes_itself h; carried = record { value = gives is_truth; held = λ n s. absurd (cc) } })
    invoke_array_gives methods.Resize h at (and_value {word = count} v vs) = gives_none (resize_goes (natural_of count) h at)
    invoke_array_gives methods.InsertLast h at (and_value {word = word} v vs) = gives_none (insert_goes word h at v)
    invoke_array_gives methods.RemoveLast h at vs = gives_none (remove_goes h at)
