-- Objects that are made: host objects from the pool, and arrays.
use Rattle.std.proofs.Common.{◌≡◌, ◌<◌, ◌≤◌, ◌+◌, ℕ, Bool, true, false, List, [], length, replicate, option_map, pos, refl, sym, ap, ◌∙◌, subst, position, slice_get, get_or, nat_eq, nat_lt, nat_le, arith}
use Rattle.std.specs.Prelude.{Option, Some, None, IsSome, is_some}
use lib.ListN.{length-replicate}
use Rattle.std.proofs.lemmas.Bool.{eqb-true}
use Rattle.std.proofs.lemmas.Bool.Decides.{nat_tests}
use Rattle.std.proofs.lemmas.Option.{get_or_from_slice_get, slice_get-get_or}
use Rattle.std.proofs.lemmas.List.Quantifiers.{position-Some}
use Rattle.ash_host.specs.declared.word.Word.{Word}
use Rattle.ash_host.specs.declared.word.Word.TheVariants as words
use Rattle.ash_host.specs.declared.event.Event.TheVariants.{Drew}
use Rattle.ash_host.specs.declared.event.Target.TheVariants as targets
use Rattle.ash_host.specs.Calls.{Start}
use Rattle.ash_host.specs.Objects.{Plain, Array, Host, LiveObjects}
use Rattle.ash_host.specs.Limits.{max_objects, max_elements}
use Rattle.ash_typed.specs.declared.types.Element as typed_element
use Rattle.ash_typed.specs.declared.types.Element.TheVariants as elements
use Rattle.ash_integers.specs.declared.int_type.IntType.TheVariants as ints
use Rattle.ash_typed.specs.declared.types.ObjectType.TheVariants as objects
use Rattle.ash_typed.specs.declared.types.VarType.TheVariants as vars
use Rattle.ash_typed.specs.TypeOf.{value, type_of_element}
use Rattle.ash_typed.specs.SoundExpressions.{TypedEnvironment}
use Rattle.ash_meaning.specs.declared.exception.Exception.{Exception}
use Rattle.ash_meaning.specs.declared.exception.Exception.TheVariants.{ObjectLimit, NumbersSpent, ArrayLimit}
use Rattle.ash_meaning.specs.Activity.{FreeBox, Activity, in_world}
use Rattle.ash_meaning.specs.Runs.{Run, Progress, onward, demand, look, change, ◌>>◌}
use Rattle.ash_meaning.specs.ObjectSteps.{max_number, demand_number, with_new, make}
use Rattle.ash_meaning.specs.HostSteps.{place_of_kind, without_box, box_in, box_of_kind, draw, construct_host}
use Rattle.ash_meaning.specs.ArraySteps.{zero_element, count_in, construct_array}
use Rattle.ash_meaning.specs.Classes.{Program, element_of}
use Rattle.ash_soundness.specs.WellFormed.{Context, IsContext, Shape, OfElements, OfKind, IsOffered, shape_of, shape_at, IsNamed, to_nothing, to_object, IsValue, is_truth, is_integer, is_handle, IsGiven, gives, IsState, IsObject, is_array, is_host, IsWellFormed, IsSafe}
use Rattle.ash_soundness.specs.WellFormedLaws.{Goes, Offers, a_construction, Leaves, done, ended, no_step, Evaluates}
use Rattle.ash_soundness.proofs.Lists.{all_replicate}
use Rattle.ash_soundness.proofs.Parts.{known_here}
use Rattle.ash_soundness.proofs.Integers.{integer_word}
use Rattle.ash_soundness.proofs.Making.{world_made, made_follows, made_stays, made_there}
use Rattle.ash_soundness.proofs.Triples.{bind, weaken, after_demand, after_found, safe, goes_more, word_held, given_held, carry}
use Rattle.ash_soundness.proofs.Hosts.{rec_at, with_fewer_boxes, world_goes, well_after, evaluates_after, note_goes, call_host_goes, accept_gives}

module _ {c : Context} where
  -- a run that stays where it began, with what it found there
  pub bind_here : {A B : Type 0} {P : A → Type 0} {R : B → Activity → Type 0} {r : Progress A} (f : A → Run B) {a : Activity} → Leaves c (λ v b. (b ≡ a) × P v) r → ((v : A) → P v → Leaves c R (f v a)) → Leaves c R (onward r f)
  bind_here {R = R} f (done {v} {b} l) next = subst (λ (x : Activity). Leaves c R (f v x)) (sym l.0) (next v l.1)
  bind_here f (ended s) next = ended s
  bind_here f (no_step offers) next = no_step offers

  pub demand_here : (b : Bool) (x : Exception) (a : Activity) → IsSafe c a → Leaves c (λ (none : Unit {0}) d. (d ≡ a) × (b ≡ true)) (demand b x a)
  demand_here true x a s = done (refl, refl)
  demand_here false x a s = ended s

-- there is room for an object, and a number for it
pub record HasRoom (a : Activity) : Type 0 where
  pub room : length (a.world).objects < max_objects
  pub left : (a.world).last < max_number

same_kind : (k l : ℕ) → OfKind k ≡ OfKind l → k ≡ l
same_kind k l e = cc

pub lt_from : (m n : ℕ) → nat_lt m n ≡ true → m < n
lt_from m n e = grind (arith, nat_tests)

pub le_from : (m n : ℕ) → nat_le m n ≡ true → m ≤ n
le_from m n e = grind (arith, nat_tests)

-- the first free box of a kind is there
box_there : (kind place : ℕ) (boxes : List FreeBox) → position (λ (b : FreeBox). nat_eq b.kind kind) boxes ≡ Some place → IsSome (slice_get boxes place)
box_there kind place boxes e =
    let any : FreeBox = record { kind = kind; state = [] } in
    ap is_some (slice_get-get_or boxes place any (position-Some (λ (b : FreeBox). nat_eq b.kind kind) boxes place any e).0)

-- a free box of the kind
record IsBox (kind : ℕ) (a : Activity) (found : ℕ × FreeBox) : Type 0 where
  pub kind_is : (found.1).kind ≡ kind
  pub fits : IsState (found.1).state

-- an object of the shape was made, and this is its number
pub record IsMade (c : Context) (env : TypedEnvironment) (envs : List TypedEnvironment) (is : Shape) (a : Activity) (number : ℕ) (b : Activity) : Type 0 where
  pub goes : Goes c env envs a b
  pub shape : shape_at number (b.world).objects ≡ Some is

pub zero_of_element : {p : Program} {all : LiveObjects (List ℕ)} (e : typed_element.Element) → IsValue p all (type_of_element e) (zero_element (element_of p e))
zero_of_element elements.Bool = is_truth
zero_of_element (elements.Integer ints.Int) = is_integer (integer_word ints.Int (pos 0))
zero_of_element (elements.Integer ints.Uint) = is_integer (integer_word ints.Uint (pos 0))
zero_of_element (elements.Integer ints.Int64) = is_integer (integer_word ints.Int64 (pos 0))
zero_of_element (elements.Integer ints.Uint64) = is_integer (integer_word ints.Uint64 (pos 0))
zero_of_element (elements.Class class) = is_handle to_nothing
zero_of_element (elements.Interface interface) = is_handle to_nothing
zero_of_element (elements.Host kind) = is_handle to_nothing

module _ {c : Context} {env : TypedEnvironment} {envs : List TypedEnvironment} where
  pub number_demanded : {a : Activity} → IsWellFormed c env envs a → Leaves c (λ (none : Unit {0}) b. (b ≡ a) × HasRoom a) (demand_number a)
  number_demanded {a} h =
      let asked : Leaves c (λ (v : Bool) b. (b ≡ a) × ((v ≡ nat_lt (a.world).last max_number) × (nat_lt (length (a.world).objects) max_objects ≡ true))) (onward (demand (nat_lt (length (a.world).objects) max_objects) ObjectLimit a) (λ none. look (λ activity. nat_lt (activity.world).last max_number))) = after_demand _ (nat_lt (length (a.world).objects) max_objects) ObjectLimit a (safe h) (λ room. done (refl, (refl, room))) in
      bind_here _ asked (λ v q. weaken (λ none b d. (d.0, record { room = lt_from _ _ q.1; left = lt_from _ _ (sym q.0 ∙ d.1) })) (demand_here v NumbersSpent a (safe h)))

  -- the object that is made gets the next number
  pub made_goes : {a : Activity} (object : Plain (List ℕ)) → IsWellFormed c env envs a → HasRoom a → IsObject c.modules (a.world).objects object → ((kind : ℕ) → shape_of object ≡ OfKind kind → IsOffered c.host kind) → Goes c env envs a (in_world (with_new object) a)
  made_goes object h room fits offers = world_goes (with_new object) h (world_made object h.world fits offers room.room room.left) (made_follows object h.world) (made_stays object h.world)

  pub made_shape : {a : Activity} (object : Plain (List ℕ)) → IsWellFormed c env envs a → shape_at ((a.world).last + 1) (with_new object a.world).objects ≡ Some (shape_of object)
  made_shape object h = ap (option_map shape_of) (made_there object h.world)

  -- boxes

  box_at : {a : Activity} (kind : ℕ) → IsWellFormed c env envs a → (o : Option ℕ) → place_of_kind kind a.world ≡ o → Leaves c (λ found b. (b ≡ a) × IsBox kind a found) (box_in a.world o a)
  box_at kind h None e = ended (safe h)
  box_at {a} kind h (Some place) e =
      after_found _ (slice_get (a.world).pool place) a (box_there kind place (a.world).pool e) (λ box at.
      let there = position-Some (λ (b : FreeBox). nat_eq b.kind kind) (a.world).pool place box e in
      let here : get_or (a.world).pool place box ≡ box = get_or_from_slice_get (a.world).pool place box box at in
      done (
        refl,
        record {
          kind_is = eqb-true box.kind kind (subst (λ (b : FreeBox). nat_eq b.kind kind ≡ true) here there.1);
          fits = rec_at (λ (b : FreeBox). IsState b.state) (a.world).pool place box ((h.world).states).pool at;
        },
      ))

  box_given : {a : Activity} (kind : ℕ) → IsWellFormed c env envs a → Leaves c (λ found b. (b ≡ a) × IsBox kind a found) (box_of_kind kind a)
  box_given {a} kind h = box_at kind h (place_of_kind kind a.world) refl

  drawn : {a : Activity} (kind : ℕ) → IsOffered c.host kind → IsWellFormed c env envs a → HasRoom a → (found : ℕ × FreeBox) → IsBox kind a found → IsMade c env envs (OfKind kind) a ((a.world).last + 1) (in_world (with_new (Host (found.1).kind (found.1).state)) (in_world (without_box found.0) a))
  drawn {a} kind offered h room found box =
      let first : Goes c env envs a (in_world (without_box found.0) a) = world_goes (without_box found.0) h (with_fewer_boxes h.world found.0) (record { last = omega arith; shapes = λ n shape le e. e; outside = refl }) (λ n. record { stays = λ shape e. e }) in
      let still : HasRoom (in_world (without_box found.0) a) = record { room = room.room; left = room.left } in
      let offers : (k : ℕ) → shape_of (Host (found.1).kind (found.1).state) ≡ OfKind k → IsOffered c.host k = λ k e. subst (IsOffered c.host) (sym box.kind_is ∙ same_kind (found.1).kind k e) offered in
      record {
        goes = goes_more first (made_goes (Host (found.1).kind (found.1).state) (well_after first) still (is_host box.fits) offers);
        shape = made_shape (Host (found.1).kind (found.1).state) (well_after first) ∙ ap (λ (k : ℕ). Some (OfKind k)) box.kind_is;
      }

  pub draw_goes : {a : Activity} (kind : ℕ) → IsOffered c.host kind → IsWellFormed c env envs a → Leaves c (IsMade c env envs (OfKind kind) a) (draw kind a)
  draw_goes {a} kind offered h =
      let found_box : Leaves c (λ found b. (b ≡ a) × (HasRoom a × IsBox kind a found)) (onward (demand_number a) (λ none. box_of_kind kind)) = bind_here _ (number_demanded h) (λ none room. weaken (λ found b q. (q.0, (room, q.1))) (box_given kind h)) in
      bind (bind found_box
      (λ found b q. drawn_at kind offered h found b q.0 (q.1).0 (q.1).1))
      (λ number b d. done (record { goes = goes_more d.goes (note_goes (Drew number) (well_after d.goes)); shape = d.shape }))
    where
      drawn_at : {a : Activity} (kind : ℕ) → IsOffered c.host kind → IsWellFormed c env envs a → (found : ℕ × FreeBox) (b : Activity) → b ≡ a → HasRoom a → IsBox kind a found → Leaves c (IsMade c env envs (OfKind kind) a) ((change (in_world (without_box found.0)) >> make (Host (found.1).kind (found.1).state)) b)
      drawn_at {a} kind offered h found b same room box = subst (λ (x : Activity). Leaves c (IsMade c env envs (OfKind kind) a) ((change (in_world (without_box found.0)) >> make (Host (found.1).kind (found.1).state)) x)) (sym same) (done (drawn kind offered h room found box))

  pub construct_host_gives : {a : Activity} (kind : ℕ) (args : List Word) → IsOffered c.host kind → IsWellFormed c env envs a → Leaves c (Evaluates c env envs (value (vars.Handle (objects.Host kind))) a) (construct_host kind args a)
  construct_host_gives kind args offered h =
      bind (draw_goes kind offered h) (λ number b d.
      let given : IsGiven c.program (b.world).objects (value (vars.Handle (objects.Host kind))) (words.Object number) = gives (is_handle (to_object d.shape refl)) in
      let held = word_held (words.Object number) (well_after d.goes) given in
      bind (bind (call_host_goes offers (targets.Object number) (Start args) (well_after held.goes)) (λ answer x g.
      weaken (λ w y e. evaluates_after g.goes e) (accept_gives offers None answer g.fits (well_after g.goes)))) (λ w y e. done (record {
        goes = goes_more d.goes (goes_more held.goes e.goes);
        carried = carry (well_after held.goes) e.goes held.carried;
      })))
    where
      offers : Offers c.host
      offers = a_construction kind offered.0 offered.1

  -- arrays

  pub construct_array_gives : {a : Activity} (e : typed_element.Element) (args : List Word) → IsContext c → IsNamed (c.program).tree e → IsWellFormed c env envs a → Leaves c (Evaluates c env envs (value (vars.Handle (objects.Array e))) a) (construct_array (element_of c.program e) args a)
  construct_array_gives {a} e args context named h =
      bind (bind_here _ asked (λ none q. made q.0 q.1))
      (λ number b d. weaken (λ w y x. evaluates_after d.goes x) (given_held (words.Object number) (well_after d.goes) (gives (is_handle (to_object d.shape (record { named = named; is = refl }))))))
    where
      count : ℕ
      count = count_in args

      asked : Leaves c (λ (none : Unit {0}) b. (b ≡ a) × (HasRoom a × (count ≤ max_elements))) (onward (demand_number a) (λ none. demand (nat_le count max_elements) ArrayLimit))
      asked = bind_here _ (number_demanded h) (λ none room. weaken (λ v b d. (d.0, (room, le_from _ _ d.1))) (demand_here (nat_le count max_elements) ArrayLimit a (safe h)))

      array : Plain (List ℕ)
      array = Array (element_of c.program e) (replicate count (zero_element (element_of c.program e)))

      made : HasRoom a → count ≤ max_elements → Leaves c (IsMade c env envs (OfElements (element_of c.program e)) a) (make array a)
      made room few = done (record {
        goes = made_goes array h room (is_array (record {
          few = omega (arith, length-replicate count (zero_element (element_of c.program e)));
          program = c.program;
          element = e;
          known = known_here context e;
          named = named;
          is = refl;
          values = all_replicate count (zero_of_element e);
        })) (λ kind same. absurd (cc));
        shape = made_shape array h;
      })
