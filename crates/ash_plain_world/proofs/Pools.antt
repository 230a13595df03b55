-- The pool, as the code has it and as the definitions see it, and boxes that are drawn from it.
use Rattle.std.proofs.Common.{◌≡◌, ℕ, zero, suc, List, [], ◌∷◌, Option, Some, None, refl, sym, ap, ◌∙◌, map, ◌++◌, take, drop, Vec, Global, slice_set}
use Rattle.std.specs.List.{remove, slice_get}
use Rattle.std.proofs.lemmas.List.{map-append, take-map, drop-map}
use Rattle.ash_host.specs.declared.event.Event.TheVariants.{Drew}
use Rattle.ash_host.specs.Objects.{Host}
use Rattle.ash_meaning.specs.declared.exception.Exception.TheVariants.{PoolEmpty}
use Rattle.ash_meaning.specs.Activity.{FreeBox, Activity, in_world}
use Rattle.ash_meaning.specs.Runs.{Progress, Done, Ended, Raising, Run, give, onward, ◌>>=◌, ◌>>◌, change, found}
use Rattle.ash_meaning.specs.ObjectSteps.{demand_number, make}
use Rattle.ash_meaning.specs.HostSteps.{note, place_of_kind, without_box, box_in, box_of_kind, draw}

pub states_set : (states : List (Vec ℕ Global)) (i : ℕ) (state : Vec ℕ Global) → map (λ (s : Vec ℕ Global). s.items) (slice_set states i state) ≡ slice_set (map (λ (s : Vec ℕ Global). s.items) states) i state.items
states_set [] i state = refl
states_set (s ∷ states) zero state = refl
states_set (s ∷ states) (suc i) state = ap (λ (l : List (List ℕ)). s.items ∷ l) (states_set states i state)

pub remove_map : {A B : Type 0} (f : A → B) (xs : List A) (i : ℕ) → map f (remove xs i) ≡ remove (map f xs) i
remove_map f xs i =
    map-append f (take i xs) (drop (suc i) xs)
    ∙ ap (λ (l : List _). l ++ map f (drop (suc i) xs)) (sym (take-map f i xs))
    ∙ ap (λ (l : List _). take i (map f xs) ++ l) (sym (drop-map f (suc i) xs))

-- boxes that are drawn

abbrev pub put_box : ℕ × FreeBox → Run ℕ
put_box box = change (in_world (without_box box.0)) >> make (Host (box.1).kind (box.1).state)

abbrev pub noted : ℕ → Run ℕ
noted number = note (Drew number) >> give number

pub draw_empty : (kind : ℕ) (a : Activity) → demand_number a ≡ Done tt a → place_of_kind kind a.world ≡ None → draw kind a ≡ Ended (Raising PoolEmpty) a
draw_empty kind a h e =
    ap (λ (p : Progress (Unit {0})). onward (onward (onward p (λ _. box_of_kind kind)) put_box) noted) h
    ∙ ap (λ (o : Option ℕ). onward (onward (box_in a.world o a) put_box) noted) e

pub draw_box : (kind place : ℕ) (box : FreeBox) (a : Activity) → demand_number a ≡ Done tt a → place_of_kind kind a.world ≡ Some place → slice_get (a.world).pool place ≡ Some box → draw kind a ≡ onward (make (Host box.kind box.state) (in_world (without_box place) a)) noted
draw_box kind place box a h e free =
    ap (λ (p : Progress (Unit {0})). onward (onward (onward p (λ _. box_of_kind kind)) put_box) noted) h
    ∙ ap (λ (o : Option ℕ). onward (onward (box_in a.world o a) put_box) noted) e
    ∙ ap (λ (o : Option FreeBox). onward (onward (onward (found o a) (λ (b : FreeBox). give (place, b))) put_box) noted) free
