-- Slots in which a phrase stores what it needs for a while, two of them, and what of a place stays.
use Rattle.std.proofs.Common.{◌≡◌, ◌≤◌, ◌<◌, ℕ, ◌+◌, List, take, length, refl, sym, ap, ◌∙◌, subst, arith, true}
use Rattle.std.proofs.Common.{false, Bool, nat_lt}
use Rattle.std.specs.Prelude.{None, Result, Ok, Err, slice_index_or, slice_set}
use Rattle.std.proofs.lemmas.List.{length-set, get_or-set_other, take-set-le}
use Rattle.ash_host.specs.declared.word.Word.{Word}
use Rattle.ash_host.specs.declared.word.Word.TheVariants as words
use Rattle.ash_host.specs.Objects.{handle}
use Rattle.ash_integers.specs.declared.int_type.IntType.{IntType}
use Rattle.ash_integers.specs.declared.arithmetic.DivisionFault.{DivisionFault}
use Rattle.ash_integers.specs.declared.arithmetic.DivisionFault.TheVariants as faults
use Rattle.ash_typed.specs.declared.types.VarType.{VarType}
use Rattle.ash_typed.specs.declared.types.VarType.TheVariants as vars
use Rattle.ash_typed.specs.declared.tree.operations.Calculation.{Calculation}
use Rattle.ash_typed.specs.declared.tree.operations.IncrementOp.{IncrementOp}
use Rattle.ash_meaning.specs.declared.exception.Exception.TheVariants.{IndexOutOfBounds}
use Rattle.ash_meaning.specs.Activity.{Activity}
use Rattle.ash_meaning.specs.Runs.{Run, Progress, Done, Ended, NoStep, onward, give, demand, ◌>>=◌, ◌>>◌}
use Rattle.ash_meaning.specs.Releases.{give_held}
use Rattle.ash_meaning.specs.ObjectSteps.{object_of, words_in}
use Rattle.ash_meaning.specs.ArraySteps.{natural_of}
use Rattle.ash_meaning.specs.OperatorMeaning.{calculate, calculated_by, give_or_raise, converted_to, counted, given_by}
use Rattle.ash_meaning.specs.Locations.{Location, Local, Global, Part, Property, read, write}
use Rattle.ash_meaning.specs.ExpressionMeaning.{element_at, store, update, count_at}
use Rattle.ash_soundness.specs.WellFormedLaws.{Goes, Leaves}
use Rattle.ash_soundness.proofs.Constructions.{bind_here}
use Rattle.ash_soundness.proofs.Fits.{kept_value}
use Rattle.ash_soundness.proofs.Hosts.{well_after}
use Rattle.ash_soundness.proofs.Locations.{read_gives}
use Rattle.ash_soundness.proofs.Triples.{bind, weaken, goes_more, carry, given_held}
use Rattle.ash_soundness.specs.WellFormed.{IsGiven, gives}
use Rattle.ash_typed.specs.TypeOf.{value, as_value}
use Rattle.ash_compile.specs.declared.places.Spot.{Spot}
use Rattle.ash_compile.specs.declared.places.Spot.TheVariants as spots
use Rattle.ash_compile.specs.Emission.{Scene, IsScene}
use Rattle.ash_compile.specs.Places.{located, LiesIn, Bears, local, global, field, property, element}
use Rattle.ash_compile.proofs.Phrases.{none_held}
use Rattle.ash_compile.proofs.Typed.{left_done, no_handle_in_integer}
use Rattle.ash_compile.proofs.PlaceGuards.{Well, LocatedIn, located_gives, read_is}
use Rattle.ash_compile.proofs.PlaceCode.{carried_as}

-- slots of which two changed, none of a local

pub record Moved (count slot : ℕ) (ws xs : List Word) : Type 0 where
  pub long : length xs ≡ length ws
  pub low : (k : ℕ) → k < slot → slice_index_or xs k words.Null ≡ slice_index_or ws k words.Null
  pub high : (k : ℕ) → slot + 2 ≤ k → slice_index_or xs k words.Null ≡ slice_index_or ws k words.Null
  pub locals : take count xs ≡ take count ws

pub moved_itself : (count slot : ℕ) (ws : List Word) → Moved count slot ws ws
moved_itself count slot ws = record { long = refl; low = λ k low. refl; high = λ k high. refl; locals = refl }

pub moved_set : (count slot to : ℕ) (v : Word) (ws xs : List Word) → count ≤ slot → slot ≤ to → to < slot + 2
    → Moved count slot ws xs → Moved count slot ws (slice_set xs to v)
moved_set count slot to v ws xs under from below moved = record {
  long = length-set xs to v ∙ moved.long;
  low = λ k low. get_or-set_other xs to k v words.Null (omega (arith, low, from)) ∙ moved.low k low;
  high = λ k high. get_or-set_other xs to k v words.Null (omega (arith, high, below)) ∙ moved.high k high;
  locals = take-set-le count xs to v (omega (arith, under, from)) ∙ moved.locals;
}

pub located_moved : (spot : Spot) (count slot high : ℕ) (ws xs : List Word) (b : Activity) → LiesIn (slot + 2) high spot
    → Moved count slot ws xs → located spot xs b ≡ located spot ws b
located_moved (spots.Local n) count slot high ws xs b lies moved = refl
located_moved (spots.Global n) count slot high ws xs b lies moved = refl
located_moved (spots.Field object place) count slot high ws xs b lies moved =
    ap (λ (x : Word). onward (object_of x b) (λ number. give (Part number place))) (moved.high object lies.0)
located_moved (spots.Property object id of) count slot high ws xs b lies moved =
    ap (λ (x : Word). onward (object_of x b) (λ number. give (Property number id of))) (moved.high object lies.0)
located_moved (spots.Element array index) count slot high ws xs b lies moved =
    ap (λ (x : Word). element_at x (slice_index_or xs index words.Null) b) (moved.high array lies.0)
    ∙ ap (λ (i : Word). element_at (slice_index_or ws array words.Null) i b) (moved.high index lies.2)

pub bears_moved : (s : Scene) (spot : Spot) (of : VarType) (count slot high : ℕ) (ws xs : List Word) (b d : Activity)
    → LiesIn (slot + 2) high spot → Moved count slot ws xs → Well s b → Goes s.context s.env s.envs b d
    → Bears s b ws spot of → Bears s d xs spot of
bears_moved s (spots.Local n) of count slot high ws xs b d lies moved well went (local at) = local at
bears_moved s (spots.Global n) of count slot high ws xs b d lies moved well went (global at) = global at
bears_moved s (spots.Field object place) of count slot high ws xs b d lies moved well went (field m carried) =
    field m (carried_as s _ d (slice_index_or ws object words.Null) (slice_index_or xs object words.Null)
    (moved.high object lies.0)
    (carry well went carried))
bears_moved s (spots.Property object id t) of count slot high ws xs b d lies moved well went (property m carried) =
    property m (carried_as s _ d (slice_index_or ws object words.Null) (slice_index_or xs object words.Null)
    (moved.high object lies.0)
    (carry well went carried))
bears_moved s (spots.Element array index) _ count slot high ws xs b d lies moved well went (element carried) =
    element (carried_as s _ d (slice_index_or ws array words.Null) (slice_index_or xs array words.Null)
    (moved.high array lies.0)
    (carry well went carried))

-- what is read leaves the activity well-formed

pub reads_go : (s : Scene) (spot : Spot) (of : VarType) (ws : List Word) (b d : Activity) (v : Word) → IsScene s
    → Well s b
    → Bears s b ws spot of → onward (located spot ws b) (λ l. read l >>= give_held) ≡ Done v d
    → Goes s.context s.env s.envs b d
reads_go s spot of ws b d v scene well bears ran =
    let gives_so : Leaves s.context (λ (x : Word) e. Goes s.context s.env s.envs b e)
    (onward (located spot ws b) (λ l. read l >>= give_held)) =
    bind_here (λ l. read l >>= give_held) (located_gives s spot of ws b scene well bears) (λ l at.
    bind (read_gives scene.sound l well at) (λ x e r.
    weaken (λ y f more. goes_more r.goes more.goes) (given_held x (well_after r.goes) (gives (kept_value r.value))))) in
    left_done v d gives_so ran

-- and is of the type of the place
pub reads_value : (s : Scene) (spot : Spot) (of : VarType) (ws : List Word) (b d : Activity) (v : Word) → IsScene s
    → Well s b
    → Bears s b ws spot of → onward (located spot ws b) (λ l. read l >>= give_held) ≡ Done v d
    → IsGiven (s.context).program (d.world).objects (value (as_value of)) v
reads_value s spot of ws b d v scene well bears ran =
    let gives_so : Leaves s.context (λ (x : Word) e. IsGiven (s.context).program (e.world).objects (value (as_value of)) x)
    (onward (located spot ws b) (λ l. read l >>= give_held)) =
    bind_here (λ l. read l >>= give_held) (located_gives s spot of ws b scene well bears) (λ l at.
    bind (read_gives scene.sound l well at) (λ x e r.
    weaken (λ y f more. (more.carried).value)
    (given_held x (well_after r.goes) (gives (kept_value r.value))))) in
    left_done v d gives_so ran

-- a place that is tested again is the same

object_again : (x : Word) (how : ℕ → Location) (l : Location) (d e : Activity)
    → onward (object_of x d) (λ number. give (how number)) ≡ Done l d
    → onward (object_of x e) (λ number. give (how number)) ≡ Done l e
object_again words.Null how l d e is = absurd (cc)
object_again (words.Bool t) how l d e is = absurd (cc)
object_again (words.Int n) how l d e is = absurd (cc)
object_again (words.Uint n) how l d e is = absurd (cc)
object_again (words.Int64 n) how l d e is = absurd (cc)
object_again (words.Uint64 n) how l d e is = absurd (cc)
object_again (words.Object number) how l d e is =
    let same : how number ≡ l = cc in
    ap (λ (k : Location). Done k e) same

-- Reading an element changes nothing.

part_read : (number k : ℕ) (l : Location) (d e : Activity) (v : Word) → Part number k ≡ l → read l d ≡ Done v e → d ≡ e
part_read number k l d e v is ran =
    let done_so : read (Part number k) d ≡ Done v e = subst (λ (m : Location). read m d ≡ Done v e) (sym is) ran in
    cc

index_again : (t : Bool) (number k : ℕ) (l : Location) (d e : Activity) (v : Word)
    → onward (onward (demand t IndexOutOfBounds d) (λ _. give k)) (λ place. give (Part number place)) ≡ Done l d
    → read l d ≡ Done v e → d ≡ e
index_again true number k l d e v is ran = part_read number k l d e v (let same : Part number k ≡ l = cc in same) ran
index_again false number k l d e v is ran = absurd (cc)

element_again : (x i : Word) (l : Location) (d e : Activity) (v : Word) → element_at x i d ≡ Done l d → read l d
    ≡ Done v e
    → d ≡ e
element_again words.Null i l d e v is ran = absurd (cc)
element_again (words.Bool t) i l d e v is ran = absurd (cc)
element_again (words.Int n) i l d e v is ran = absurd (cc)
element_again (words.Uint n) i l d e v is ran = absurd (cc)
element_again (words.Int64 n) i l d e v is ran = absurd (cc)
element_again (words.Uint64 n) i l d e v is ran = absurd (cc)
element_again (words.Object number) i l d e v is ran =
    index_again (nat_lt (natural_of i) (length (words_in number d.world))) number (natural_of i) l d e v is ran

located_again : (spot : Spot) (ws : List Word) (l : Location) (d e : Activity) (v : Word) → located spot ws d ≡ Done l d
    → read l d ≡ Done v e → located spot ws e ≡ Done l e
located_again (spots.Local n) ws l d e v is ran =
    let same : Local n ≡ l = cc in ap (λ (k : Location). Done k e) same
located_again (spots.Global n) ws l d e v is ran =
    let same : Global n ≡ l = cc in ap (λ (k : Location). Done k e) same
located_again (spots.Field object place) ws l d e v is ran =
    object_again (slice_index_or ws object words.Null) (λ number. Part number place) l d e is
located_again (spots.Property object id of) ws l d e v is ran =
    object_again (slice_index_or ws object words.Null) (λ number. Property number id of) l d e is
located_again (spots.Element array index) ws l d e v is ran =
    subst (λ (y : Activity). element_at (slice_index_or ws array words.Null) (slice_index_or ws index words.Null) y
    ≡ Done l y)
    (element_again (slice_index_or ws array words.Null) (slice_index_or ws index words.Null) l d e v is ran) is

-- an integer that is read is no handle
integer_none : (s : Scene) (int_type : IntType) (l : Location) (d e : Activity) (v : Word) → IsScene s → Well s d
    → LocatedIn s d (vars.Integer int_type) l d → read l d ≡ Done v e → handle v ≡ None
integer_none s int_type l d e v scene well at ran =
    no_handle_in_integer int_type (s.context).program (e.world).objects v
    (read_is s l (vars.Integer int_type) d e v scene well at.1 ran)

-- phrases that find a place once, and code that finds it again

module _ (spot : Spot) (ws : List Word) (int_type : IntType) where
  -- after what was read for `op=`
  abbrev pub calculating : Calculation → Word → Word → Run Word
  calculating calculation right left =
      calculate calculation (converted_to calculation.of left) right
      >>= (λ word. located spot ws >>= store (converted_to int_type word))

  -- after what was read for `++` or `--`
  abbrev pub counting : IncrementOp → Word → Run Word
  counting step old =
      located spot ws >>= (λ l. write l (counted step int_type old)) >> give
      (given_by step old (counted step int_type old))

  calculated_same : (r : Result Word DivisionFault) (l : Location) (e : Activity) → located spot ws e ≡ Done l e
      → onward (give_or_raise r e) (λ word. store (converted_to int_type word) l)
      ≡ onward (give_or_raise r e) (λ word. located spot ws >>= store (converted_to int_type word))
  calculated_same (Ok word) l e again =
      sym (ap (λ (p : Progress Location). onward p (store (converted_to int_type word))) again)
  calculated_same (Err faults.ByZero) l e again = refl
  calculated_same (Err faults.Overflow) l e again = refl

  module _ (s : Scene) (d : Activity) (scene : IsScene s) (well : Well s d)
      (bears : Bears s d ws spot (vars.Integer int_type)) where
    located_here : (l : Location) (b : Activity) → located spot ws d ≡ Done l b
        → LocatedIn s d (vars.Integer int_type) l b
    located_here l b is = left_done l b (located_gives s spot (vars.Integer int_type) ws d scene well bears) is

    update_read : (calculation : Calculation) (right : Word) (l : Location) → located spot ws d ≡ Done l d
        → (r : Progress Word)
        → read l d ≡ r
        → onward (onward r (λ left. calculate calculation (converted_to calculation.of left) right))
        (λ word. store (converted_to int_type word) l)
        ≡ onward (onward r give_held) (calculating calculation right)
    update_read calculation right l is (Done left e) ran =
        calculated_same (calculated_by calculation.operator calculation.of (converted_to calculation.of left) right) l e
        (located_again spot ws l d e left is ran)
        ∙ sym (ap (λ (p : Progress Word). onward p (calculating calculation right))
        (none_held left e (integer_none s int_type l d e left scene well (located_here l d is) ran)))
    update_read calculation right l is (Ended i e) ran = refl
    update_read calculation right l is NoStep ran = refl

    update_from : (calculation : Calculation) (right : Word) (q : Progress Location) → located spot ws d ≡ q
        → onward q (update int_type calculation right)
        ≡ onward (onward q (λ l. read l >>= give_held)) (calculating calculation right)
    update_from calculation right (Done l b) is =
        let here : b ≡ d = (located_here l b is).0 in
        let is_here : located spot ws d ≡ Done l d = is ∙ ap (λ (y : Activity). Done l y) here in
        subst (λ (y : Activity). update int_type calculation right l y
        ≡ onward (onward (read l y) give_held) (calculating calculation right)) (sym here)
        (update_read calculation right l is_here (read l d) refl)
    update_from calculation right (Ended i e) is = refl
    update_from calculation right NoStep is = refl

    pub update_again : (calculation : Calculation) (right : Word)
        → onward (located spot ws d) (update int_type calculation right)
        ≡ onward (onward (located spot ws d) (λ l. read l >>= give_held)) (calculating calculation right)
    update_again calculation right = update_from calculation right (located spot ws d) refl

    count_read : (step : IncrementOp) (l : Location) → located spot ws d ≡ Done l d → (r : Progress Word) → read l d ≡ r
        → onward r (λ old. write l (counted step int_type old) >> give (given_by step old (counted step int_type old)))
        ≡ onward (onward r give_held) (counting step)
    count_read step l is (Done old e) ran =
        sym (ap (λ (p : Progress Location). onward (onward p (λ k. write k (counted step int_type old)))
        (λ _. give (given_by step old (counted step int_type old)))) (located_again spot ws l d e old is ran))
        ∙ sym (ap (λ (p : Progress Word). onward p (counting step))
        (none_held old e (integer_none s int_type l d e old scene well (located_here l d is) ran)))
    count_read step l is (Ended i e) ran = refl
    count_read step l is NoStep ran = refl

    count_from : (step : IncrementOp) (q : Progress Location) → located spot ws d ≡ q
        → onward q (count_at int_type step) ≡ onward (onward q (λ l. read l >>= give_held)) (counting step)
    count_from step (Done l b) is =
        let here : b ≡ d = (located_here l b is).0 in
        let is_here : located spot ws d ≡ Done l d = is ∙ ap (λ (y : Activity). Done l y) here in
        subst (λ (y : Activity). count_at int_type step l y ≡ onward (onward (read l y) give_held) (counting step))
        (sym here)
        (count_read step l is_here (read l d) refl)
    count_from step (Ended i e) is = refl
    count_from step NoStep is = refl

    pub count_again : (step : IncrementOp)
        → onward (located spot ws d) (count_at int_type step)
        ≡ onward (onward (located spot ws d) (λ l. read l >>= give_held)) (counting step)
    count_again step = count_from step (located spot ws d) refl
