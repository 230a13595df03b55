-- Steps that call nothing of a script settle, and keep what frames have.
use Rattle.std.proofs.Common.{◌≡◌, ◌⊎◌, ◌∙◌, ◌+◌, ◌-◌, ◌==◌, ℕ, zero, suc, Bool, true, false, nat_lt, nat_le, List, [], ◌∷◌, ◌++◌, length, take, drop, replicate, slice_get, slice_set, slice_index_or, inl, inr, refl, sym, subst, Option, Some, None, Ok, Err, Result}
use Rattle.std.specs.Prelude.{Contains}
use Rattle.std.specs.Option.{option_map_or}
use Rattle.std.proofs.lemmas.List.Elements.{Contains-append_left, Contains-append_right}
use Rattle.std.proofs.lemmas.List.{length-set}
use Rattle.ash_host.specs.declared.word.Word.{Word}
use Rattle.ash_host.specs.declared.word.Word.TheVariants as words
use Rattle.ash_host.specs.declared.answer.HostAnswer.{HostAnswer}
use Rattle.ash_host.specs.declared.answer.HostAnswer.TheVariants as answers
use Rattle.ash_host.specs.declared.event.Event.{Event}
use Rattle.ash_host.specs.declared.event.Event.TheVariants.{Drew, Called}
use Rattle.ash_host.specs.declared.event.Target.{Target}
use Rattle.ash_host.specs.declared.event.Target.TheVariants as targets
use Rattle.ash_host.specs.Calls.{HostCall, Start, Invoke, Get, Set}
use Rattle.ash_host.specs.Objects.{Plain, Script, Array, Host, Elements, LiveObjects, object_at, with_at, handles, fields_of, Refers, Lives, AreNumbered}
use Rattle.ash_host.specs.Records.{HostRecord}
use Rattle.ash_host.specs.Limits.{max_objects, max_elements}
use Rattle.ash_host.proofs.NumberLaws.{put_next}
use Rattle.ash_integers.specs.declared.arithmetic.DivisionFault.{DivisionFault}
use Rattle.ash_integers.specs.declared.arithmetic.DivisionFault.TheVariants as faults
use Rattle.ash_integers.specs.declared.int_type.IntType.{IntType}
use Rattle.ash_typed.specs.declared.types.ObjectType.{ObjectType}
use Rattle.ash_typed.specs.declared.types.VarType.{VarType}
use Rattle.ash_typed.specs.declared.tree.operations.ArrayMethod.{ArrayMethod}
use Rattle.ash_typed.specs.declared.tree.operations.ArrayMethod.TheVariants as methods
use Rattle.ash_typed.specs.declared.tree.operations.Calculation.{Calculation}
use Rattle.ash_typed.specs.declared.tree.operations.Operation.{Operation}
use Rattle.ash_typed.specs.declared.tree.operations.Operation.TheVariants as operations
use Rattle.ash_typed.specs.declared.tree.operations.IncrementOp.{IncrementOp}
use Rattle.ash_meaning.specs.declared.exception.Exception.TheVariants.{StackOverflow, ObjectLimit, NumbersSpent, PoolEmpty, IndexOutOfBounds, ArrayLimit}
use Rattle.ash_meaning.specs.Activity.{World, Frame, Activity, in_frame, in_world}
use Rattle.ash_meaning.specs.Runs.{Run, ◌>>=◌, ◌>>◌, change, demand}
use Rattle.ash_meaning.specs.Releases.{holding, roots_of_frame, roots, hold, hold_all, give_held, let_go, full, count_locals, declaring, declare, leave_blocks}
use Rattle.ash_meaning.specs.Frames.{at_line, spend, tick, max_frames, demand_frame}
use Rattle.ash_meaning.specs.ObjectSteps.{object_of, with_object, words_in, words_at, with_words, put_words, max_number, demand_number, with_new, make}
use Rattle.ash_meaning.specs.HostSteps.{with_event, note, with_state_in, next_answer, after_answer, call_host, accept, invoke_host, get_property, set_property, place_of_kind, without_box, box_in, box_of_kind, draw, construct_host, is_of}
use Rattle.ash_meaning.specs.OperatorMeaning.{calculated_by, converted_to, counted, given_by, give_or_raise, calculate, operate}
use Rattle.ash_meaning.specs.Locations.{Location, Local, Global, Part, Property, with_local, with_global, read, write}
use Rattle.ash_meaning.specs.ArraySteps.{zero_element, natural_of, count_in, zero_in, resized, index_in, construct_array, zero_at, resize, insert_last, remove_last, length_of, invoke_array}
use Rattle.ash_meaning.specs.Classes.{Program}
use Rattle.ash_meaning.specs.CallMeaning.{cast}
use Rattle.ash_meaning.specs.ExpressionMeaning.{store, update, count_at, element_at}
use Rattle.ash_host.specs.Reach.{Root}
use Rattle.ash_soundness.proofs.Values.{first_in}
use Rattle.ash_release_laws.specs.Settling.{Reaches, IsSettled, IsNumbered, KeepsItsFrame}
use Rattle.ash_release_laws.proofs.Roots.{set_keeps, handles_left, take_or_drop, frame_cases, this_root, local_root, held_root, first_root, frames_more, outside_root, global_root, frame_root, root_cases, changed_lived, changed_lives, changed_numbered, changed_refers, words_keep, made_lived, made_lives, made_refers}
use Rattle.ash_release_laws.proofs.Settling.{Goes, goes_on, Comes, done, ended, Settling, Anything, bound, followed, given, looked, nowhere, chosen_by, found_there, Calm, raised, demanded, reach_on, Moves, moves_settle, released}

-- the roots of an activity
abbrev rooted : Activity → ℕ → Type 0
rooted a n = Contains (roots (a.frame ∷ a.callers) a.world) n

-- steps of the frame: the world stays

module _ (a : Activity) (g : Frame) where
  abbrev framed : Activity
  framed = record a { frame = g }

  frame_rooted : ((n : ℕ) → Contains (roots_of_frame a.frame) n → Contains (roots_of_frame g) n) → (n : ℕ) → rooted a n → rooted framed n
  frame_rooted has n c =
      elim (root_cases (a.frame ∷ a.callers) a.world n c) [
        | inl one ↦ outside_root (g ∷ a.callers) a.world n one
        | inr others ↦
            elim others [
              | inl global ↦ global_root (g ∷ a.callers) a.world n global
              | inr frames ↦ frame_root (g ∷ a.callers) a.world n (frames_more a.frame g a.callers a.callers has refl n frames)
            ]
      ]

  frame_moves : ((n : ℕ) → Contains (roots_of_frame a.frame) n → Contains (roots_of_frame g) n) → IsNumbered a → Moves a framed
  frame_moves has numbered = record { numbered = numbered; rooted = frame_rooted has; refers = λ one other r. inl r; lived = λ n l. l }

  frame_keeps : (more : List ℕ) → g.held ≡ more ++ (a.frame).held → g.this ≡ (a.frame).this → length g.locals ≡ length (a.frame).locals → ((n : ℕ) → Contains (roots_of_frame a.frame) n → Contains (roots_of_frame g) n) → KeepsItsFrame a framed
  frame_keeps more held this locals has = record { more = more; held = held; this = this; locals = locals; has = has; callers = refl; lives = λ n c l. l }

  frame_goes : (more : List ℕ) → g.held ≡ more ++ (a.frame).held → g.this ≡ (a.frame).this → length g.locals ≡ length (a.frame).locals → ((n : ℕ) → Contains (roots_of_frame a.frame) n → Contains (roots_of_frame g) n) → IsNumbered a → Goes true (IsSettled a) (IsSettled framed) a framed
  frame_goes more held this locals has numbered = record { numbered = numbered; settled = moves_settle a framed (frame_moves has numbered); kept = frame_keeps more held this locals has }

  -- whatever is changed in the frame, its callers stay
  pub frame_changes : (P : Type 0) → g.this ≡ (a.frame).this → IsNumbered a → Goes false P (Unit {0}) a framed
  frame_changes P same numbered = record { numbered = numbered; settled = λ p. tt; kept = record { this = same; callers = refl; lives = λ n c l. l } }

-- steps of the world: the frame and its callers stay

module _ (a : Activity) (w : World) where
  abbrev worldly : Activity
  worldly = record a { world = w }

  world_rooted : w.outside ≡ (a.world).outside → ((n : ℕ) → Contains (handles (a.world).globals) n → rooted worldly n) → (n : ℕ) → rooted a n → rooted worldly n
  world_rooted outside globals n c =
      elim (root_cases (a.frame ∷ a.callers) a.world n c) [
        | inl one ↦ outside_root (a.frame ∷ a.callers) w n (subst (λ (ns : List ℕ). Contains ns n) (sym outside) one)
        | inr others ↦
            elim others [
              | inl global ↦ globals n global
              | inr frames ↦ frame_root (a.frame ∷ a.callers) w n frames
            ]
      ]

  same_globals : w.globals ≡ (a.world).globals → (n : ℕ) → Contains (handles (a.world).globals) n → rooted worldly n
  same_globals same n c = global_root (a.frame ∷ a.callers) w n (subst (λ (ws : List Word). Contains (handles ws) n) (sym same) c)

  world_keeps : ((n : ℕ) → Lives (a.world).objects n → Lives w.objects n) → KeepsItsFrame a worldly
  world_keeps lives = record { more = []; held = refl; this = refl; locals = refl; has = λ n c. c; callers = refl; lives = λ n c l. lives n l }

-- what is held

has_held : (ns : List ℕ) (f : Frame) (n : ℕ) → Contains (roots_of_frame f) n → Contains (roots_of_frame (holding ns f)) n
has_held ns f n c =
    elim (frame_cases f.this f.locals f.held n c) [
      | inl this ↦ this_root (holding ns f) n this
      | inr others ↦
          elim others [
            | inl local ↦ local_root (holding ns f) n local
            | inr held ↦ held_root (holding ns f) n (Contains-append_right ns f.held n held)
          ]
    ]

pub hold_goes : (ns : List ℕ) (a : Activity) → IsNumbered a → Goes true (IsSettled a) (IsSettled (in_frame (holding ns) a)) a (in_frame (holding ns) a)
hold_goes ns a numbered = frame_goes a (holding ns a.frame) ns refl refl refl (has_held ns a.frame) numbered

hold_keeps : (ns : List ℕ) (a : Activity) → KeepsItsFrame a (in_frame (holding ns) a)
hold_keeps ns a = frame_keeps a (holding ns a.frame) ns refl refl refl (has_held ns a.frame)

-- these are held
abbrev Holds : List ℕ → Activity → Type 0
Holds ns a = (n : ℕ) → Contains ns n → Contains (a.frame).held n

held_rooted : (a : Activity) (n : ℕ) → Contains (a.frame).held n → rooted a n
held_rooted a n c = frame_root (a.frame ∷ a.callers) a.world n (first_root a.frame a.callers n (held_root a.frame n c))

-- a local is overwritten by a word, and what it was is held

has_local : (slot : ℕ) (w : Word) (f : Frame) (n : ℕ) → Contains (roots_of_frame f) n → Contains (roots_of_frame (with_local slot w (holding (handles (slice_index_or f.locals slot words.Null ∷ [])) f))) n
has_local slot w f n c =
    let old : List ℕ = handles (slice_index_or f.locals slot words.Null ∷ []) in
    let g : Frame = with_local slot w (holding old f) in
    elim (frame_cases f.this f.locals f.held n c) [
      | inl this ↦ this_root g n this
      | inr others ↦
          elim others [
            | inl local ↦
                elim (set_keeps f.locals slot w n local) [
                  | inl there ↦ local_root g n there
                  | inr was ↦ held_root g n (Contains-append_left old f.held n was)
                ]
            | inr held ↦ held_root g n (Contains-append_right old f.held n held)
          ]
    ]

local_goes : (slot : ℕ) (w : Word) (a : Activity) → IsNumbered a → Goes true (IsSettled a) (IsSettled (in_frame (with_local slot w) (in_frame (holding (handles (slice_index_or (a.frame).locals slot words.Null ∷ []))) a))) a (in_frame (with_local slot w) (in_frame (holding (handles (slice_index_or (a.frame).locals slot words.Null ∷ []))) a))
local_goes slot w a numbered =
    let old : List ℕ = handles (slice_index_or (a.frame).locals slot words.Null ∷ []) in
    frame_goes a (with_local slot w (holding old a.frame)) old refl refl (length-set (a.frame).locals slot w) (has_local slot w a.frame) numbered

-- a global is overwritten, where what it was is held

global_goes : (place : ℕ) (w : Word) (a : Activity) → Holds (handles (slice_index_or (a.world).globals place words.Null ∷ [])) a → IsNumbered a → Goes true (IsSettled a) (IsSettled (in_world (with_global place w) a)) a (in_world (with_global place w) a)
global_goes place w a holds numbered = record {
  numbered = numbered;
  settled = moves_settle a (in_world (with_global place w) a) (record {
    numbered = numbered;
    rooted = world_rooted a (with_global place w a.world) refl globals;
    refers = λ one other r. inl r;
    lived = λ n l. l;
  });
  kept = world_keeps a (with_global place w a.world) (λ n l. l);
}
  where
    globals : (n : ℕ) → Contains (handles (a.world).globals) n → rooted (in_world (with_global place w) a) n
    globals n c =
        elim (set_keeps (a.world).globals place w n c) [
          | inl there ↦ global_root (a.frame ∷ a.callers) (with_global place w a.world) n there
          | inr was ↦ held_rooted (in_world (with_global place w) a) n (holds n was)
        ]

-- an object is changed

changed_goes : (number : ℕ) (how : Plain (List ℕ) → Plain (List ℕ)) (a : Activity) → ((other : ℕ) (x : Plain (List ℕ)) → object_at number (a.world).objects ≡ Some x → Contains (handles (fields_of x)) other → Contains (handles (fields_of (how x))) other ⊎ Contains (a.frame).held other) → IsNumbered a → Goes true (IsSettled a) (IsSettled (in_world (with_object number how) a)) a (in_world (with_object number how) a)
changed_goes number how a keeps numbered = record {
  numbered = changed_numbered number how (a.world).objects (a.world).last numbered;
  settled = moves_settle a (in_world (with_object number how) a) (record {
    numbered = changed_numbered number how (a.world).objects (a.world).last numbered;
    rooted = world_rooted a (with_object number how a.world) refl (same_globals a (with_object number how a.world) refl);
    refers = λ one other r. changed_refers number how (a.world).objects (rooted (in_world (with_object number how) a) other) one other (λ x at c. root other (keeps other x at c)) r;
    lived = changed_lived number how (a.world).objects;
  });
  kept = world_keeps a (with_object number how a.world) (changed_lives number how (a.world).objects);
}
  where
    root : {X : Type 0} (other : ℕ) → X ⊎ Contains (a.frame).held other → X ⊎ rooted (in_world (with_object number how) a) other
    root other (inl x) = inl x
    root other (inr c) = inr (held_rooted (in_world (with_object number how) a) other c)

-- the words of an object are put, where what is not among them any more is held
put_goes : (number : ℕ) (ws : List Word) (a : Activity) → ((n : ℕ) → Contains (handles (words_in number a.world)) n → Contains (handles ws) n ⊎ Contains (a.frame).held n) → IsNumbered a → Goes true (IsSettled a) (IsSettled (in_world (with_object number (with_words ws)) a)) a (in_world (with_object number (with_words ws)) a)
put_goes number ws a keeps numbered = changed_goes number (with_words ws) a (λ other x at c. words_keep a.world number ws (Contains (a.frame).held other) other (keeps other) x at c) numbered

-- objects that are made

-- every object that lives can be reached, or is this one
abbrev pub IsSettledBut : ℕ → Activity → Type 0
IsSettledBut number a = (n : ℕ) → Lives (a.world).objects n → (n ≡ number) ⊎ Reaches a n

new_goes : (object : Plain (List ℕ)) (a : Activity) (w : World) → w.outside ≡ (a.world).outside → w.globals ≡ (a.world).globals → w.last ≡ (a.world).last + 1 → w.objects ≡ with_at ((a.world).last + 1) object (a.world).objects → IsNumbered a → Goes true (IsSettled a) (IsSettledBut w.last (record a { world = w })) a (record a { world = w })
new_goes object a w outside globals last objects numbered = record {
  numbered = subst (λ (all : LiveObjects (List ℕ)). AreNumbered w.last all) (sym objects) (subst (λ (k : ℕ). AreNumbered k (with_at ((a.world).last + 1) object (a.world).objects)) (sym last) (put_next (a.world).last object (a.world).objects numbered));
  settled = λ s n lives. but s n (made_lived (a.world).last object (a.world).objects n (subst (λ (all : LiveObjects (List ℕ)). Lives all n) objects lives));
  kept = world_keeps a w (λ n l. subst (λ (all : LiveObjects (List ℕ)). Lives all n) (sym objects) (made_lives (a.world).last object (a.world).objects n l));
}
  where
    on : (n : ℕ) → Reaches a n → Reaches (record a { world = w }) n
    on n r = reach_on a (record a { world = w }) (world_rooted a w outside (same_globals a w globals)) (λ one other f. inl (subst (λ (all : LiveObjects (List ℕ)). Refers all one other) (sym objects) (made_refers (a.world).last object (a.world).objects numbered one other f))) n r

    but : IsSettled a → (n : ℕ) → (n ≡ (a.world).last + 1) ⊎ Lives (a.world).objects n → (n ≡ w.last) ⊎ Reaches (record a { world = w }) n
    but s n (inl here) = inl (here ∙ sym last)
    but s n (inr lives) = inr (on n (s.reached n lives))

pub to_make : (object : Plain (List ℕ)) → Settling true IsSettled IsSettledBut (make object)
to_make object = record { comes = λ a numbered. done (new_goes object a (with_new object a.world) refl refl refl refl numbered) }

-- what is made and held can be reached
hold_new : (number : ℕ) (a : Activity) → IsNumbered a → Goes true (IsSettledBut number a) (IsSettled (in_frame (holding (number ∷ [])) a)) a (in_frame (holding (number ∷ [])) a)
hold_new number a numbered = record {
  numbered = numbered;
  settled = λ s. record { reached = λ n lives. now n (s n lives) };
  kept = hold_keeps (number ∷ []) a;
}
  where
    b : Activity
    b = in_frame (holding (number ∷ [])) a

    now : (n : ℕ) → (n ≡ number) ⊎ Reaches a n → Reaches (in_frame (holding (number ∷ [])) a) n
    now n (inl here) = Root (held_rooted (in_frame (holding (number ∷ [])) a) n (Contains-append_left (number ∷ []) (a.frame).held n (subst (λ (k : ℕ). Contains (number ∷ []) k) (sym here) (first_in number []))))
    now n (inr r) = reach_on a (in_frame (holding (number ∷ [])) a) (frame_rooted a (holding (number ∷ []) a.frame) (has_held (number ∷ []) a.frame)) (λ one other f. inl f) n r

to_hold_new : (number : ℕ) → Settling true (IsSettledBut number) (λ (none : Unit {0}). IsSettled) (hold (words.Object number))
to_hold_new number = record { comes = λ a numbered. done (hold_new number a numbered) }

-- steps that change neither globals nor objects

quiet_goes : (a : Activity) (w : World) → w.outside ≡ (a.world).outside → w.globals ≡ (a.world).globals → w.last ≡ (a.world).last → w.objects ≡ (a.world).objects → IsNumbered a → (n : ℕ) → Reaches a n → Reaches (record a { world = w }) n
quiet_goes a w outside globals last objects numbered n r =
    reach_on a (record a { world = w }) (world_rooted a w outside (same_globals a w globals)) (λ one other f. inl (subst (λ (all : LiveObjects (List ℕ)). Refers all one other) (sym objects) f)) n r

module _ (how : World → World) (outside : (w : World) → (how w).outside ≡ w.outside) (globals : (w : World) → (how w).globals ≡ w.globals) (last : (w : World) → (how w).last ≡ w.last) (objects : (w : World) → (how w).objects ≡ w.objects) where
  quiet_numbered : (w : World) → AreNumbered w.last w.objects → AreNumbered (how w).last (how w).objects
  quiet_numbered w numbered = subst (λ (k : ℕ). AreNumbered k (how w).objects) (sym (last w)) (subst (AreNumbered w.last) (sym (objects w)) numbered)

  quiet_reach : (a : Activity) → IsNumbered a → (n : ℕ) → Reaches a n → Reaches (in_world how a) n
  quiet_reach a numbered n r = quiet_goes a (how a.world) (outside a.world) (globals a.world) (last a.world) (objects a.world) numbered n r

  quiet_lived : (w : World) (n : ℕ) → Lives (how w).objects n → Lives w.objects n
  quiet_lived w n lives = subst (λ (all : LiveObjects (List ℕ)). Lives all n) (objects w) lives

  quiet_keeps : (a : Activity) → KeepsItsFrame a (in_world how a)
  quiet_keeps a = world_keeps a (how a.world) (λ n lives. subst (λ (all : LiveObjects (List ℕ)). Lives all n) (sym (objects a.world)) lives)

  quiet : (a : Activity) → IsNumbered a → Goes true (IsSettled a) (IsSettled (in_world how a)) a (in_world how a)
  quiet a numbered = record {
    numbered = quiet_numbered a.world numbered;
    settled = λ s. record { reached = λ n lives. quiet_reach a numbered n (s.reached n (quiet_lived a.world n lives)) };
    kept = quiet_keeps a;
  }

  to_quiet : Settling true IsSettled (λ (none : Unit {0}). IsSettled) (change (in_world how))
  to_quiet = record { comes = λ a numbered. done (quiet a numbered) }

  to_quiet_but : (number : ℕ) → Settling true (IsSettledBut number) (λ (none : Unit {0}). IsSettledBut number) (change (in_world how))
  to_quiet_but number = record {
    comes = λ a numbered. done (record {
      numbered = quiet_numbered a.world numbered;
      settled = λ s n lives. but a numbered n (s n (quiet_lived a.world n lives));
      kept = quiet_keeps a;
    });
  }
    where
      but : (a : Activity) → IsNumbered a → (n : ℕ) → (n ≡ number) ⊎ Reaches a n → (n ≡ number) ⊎ Reaches (in_world how a) n
      but a numbered n (inl here) = inl here
      but a numbered n (inr r) = inr (quiet_reach a numbered n r)

-- the steps

pub to_hold_all : (ws : List Word) → Calm true (hold_all ws)
to_hold_all ws = record { comes = λ a numbered. done (hold_goes (handles ws) a numbered) }

pub to_give_held : (w : Word) → Calm true (give_held w)
to_give_held w = followed (to_hold_all (w ∷ [])) (given w (λ a s. s))

pub to_count_locals : {k : Bool} {Pre : Activity → Type 0} → Settling k Pre (λ _. Pre) count_locals
to_count_locals = looked _

has_declared : (w : Word) (f : Frame) (n : ℕ) → Contains (roots_of_frame f) n → Contains (roots_of_frame (record f { locals = f.locals ++ w ∷ [] })) n
has_declared w f n c =
    let g : Frame = record f { locals = f.locals ++ w ∷ [] } in
    elim (frame_cases f.this f.locals f.held n c) [
      | inl this ↦ this_root g n this
      | inr others ↦
          elim others [
            | inl local ↦ local_root g n (handles_left f.locals (w ∷ []) n local)
            | inr held ↦ held_root g n held
          ]
    ]

declared_goes : (w : Word) (a : Activity) → IsNumbered a → Goes false (IsSettled a) (IsSettled (in_frame (declaring w) a)) a (in_frame (declaring w) a)
declared_goes w a numbered = record {
  numbered = numbered;
  settled = moves_settle a (in_frame (declaring w) a) (frame_moves a (declaring w a.frame) (has_declared w a.frame) numbered);
  kept = record { this = refl; callers = refl; lives = λ n c l. l };
}

pub to_declare : (w : Word) → Calm false (declare w)
to_declare w = record { comes = λ a numbered. done (declared_goes w a numbered) }

pub to_leave_blocks : {Pre : Activity → Type 0} (count : ℕ) → Settling false Pre (λ (none : Unit {0}). Anything) (leave_blocks count)
to_leave_blocks {Pre} count = record { comes = λ a numbered. done (frame_changes a (record a.frame { locals = take count (a.frame).locals }) (Pre a) refl numbered) }

to_let_go : {Pre : Activity → Type 0} → Settling false Pre (λ (none : Unit {0}). Anything) (change (in_frame let_go))
to_let_go {Pre} = record { comes = λ a numbered. done (frame_changes a (let_go a.frame) (Pre a) refl numbered) }

-- a full expression settles
pub to_full : {A : Type 0} {Pre : Activity → Type 0} {Mid : A → Activity → Type 0} {r : Run A} → Settling false Pre Mid r → Settling false Pre (λ v. IsSettled) (full r)
to_full h = bound h (λ v. followed (followed to_let_go released) (given v (λ a s. s)))

-- ticks

spent : (t : ℕ) → Calm true (spend t)
spent zero = record { comes = λ a numbered. ended (λ s. s) }
spent (suc t) = record {
  comes = λ a numbered. done (record {
    numbered = numbered;
    settled = λ s. record { reached = s.reached };
    kept = record { more = []; held = refl; this = refl; locals = refl; has = λ n c. c; callers = refl; lives = λ n c l. l };
  });
}

to_line : (line : ℕ) → Calm true (change (in_frame (at_line line)))
to_line line = record { comes = λ a numbered. done (frame_goes a (at_line line a.frame) [] refl refl refl (λ n c. c) numbered) }

pub to_tick : (line : ℕ) → Calm true (tick line)
to_tick line = bound (followed (to_line line) (looked (λ a. a.ticks))) spent

pub to_demand_frame : Calm true demand_frame
to_demand_frame = bound (looked (λ a. nat_lt (length a.callers + 1) max_frames)) (λ b. demanded b StackOverflow)

-- objects

pub to_object_of : (w : Word) → Calm true (object_of w)
to_object_of (words.Object number) = given number (λ a s. s)
to_object_of _ = raised _

pub to_words_at : (number : ℕ) → Calm true (words_at number)
to_words_at number = looked _

pub to_demand_number : Calm true demand_number
to_demand_number = bound (followed (bound (looked (λ a. nat_lt (length a.world.objects) max_objects)) (λ b. demanded b ObjectLimit)) (looked (λ a. nat_lt a.world.last max_number))) (λ b. demanded b NumbersSpent)

-- hosts

to_note : (event : Event) → Calm true (note event)
to_note event = to_quiet (with_event event) (λ w. refl) (λ w. refl) (λ w. refl) (λ w. refl)

to_note_but : (number : ℕ) (event : Event) → Settling true (IsSettledBut number) (λ (none : Unit {0}). IsSettledBut number) (note event)
to_note_but number event = to_quiet_but (with_event event) (λ w. refl) (λ w. refl) (λ w. refl) (λ w. refl) number

state_keeps : (state : List ℕ) (other : ℕ) (x : Plain (List ℕ)) → Contains (handles (fields_of x)) other → Contains (handles (fields_of (with_state_in state x))) other
state_keeps state other (Script owner place fields) c = c
state_keeps state other (Array of elements) c = c
state_keeps state other (Host kind old) c = c

answer_goes : (target : Target) (next : HostRecord) (left : List HostRecord) (a : Activity) → IsNumbered a → Goes true (IsSettled a) (IsSettled (in_world (after_answer target next left) a)) a (in_world (after_answer target next left) a)
answer_goes (targets.Object number) next left a numbered =
    goes_on (quiet (λ w. record w { answers = left }) (λ w. refl) (λ w. refl) (λ w. refl) (λ w. refl) a numbered)
    (changed_goes number (with_state_in next.after) (in_world (λ w. record w { answers = left }) a) (λ other x at c. inl (state_keeps next.after other x c)) numbered)
answer_goes (targets.Service index) next left a numbered = quiet (after_answer (targets.Service index) next left) (λ w. refl) (λ w. refl) (λ w. refl) (λ w. refl) a numbered

to_answer : (target : Target) (next : HostRecord) (left : List HostRecord) → Calm true (change (in_world (after_answer target next left)))
to_answer target next left = record { comes = λ a numbered. done (answer_goes target next left a numbered) }

pub to_call_host : (target : Target) (call : HostCall) → Calm true (call_host target call)
to_call_host target call = bound (bound (looked (λ a. next_answer target call a.world)) found_there) (λ taken. followed (to_answer target taken.0 taken.1) (given (taken.0).answer (λ a s. s)))

pub to_accept : (result : Option VarType) (answer : HostAnswer) → Calm true (accept result answer)
to_accept None answers.Nothing = given _ (λ a s. s)
to_accept (Some of) answers.Nothing = raised _
to_accept None (answers.Value word) = raised _
to_accept (Some of) (answers.Value word) = chosen_by (is_of of word) (given _ (λ a s. s)) (raised _)
to_accept None (answers.Raise code) = raised _
to_accept (Some of) (answers.Raise code) = raised _
to_accept None answers.NoMemory = nowhere
to_accept (Some of) answers.NoMemory = nowhere

pub to_invoke_host : (target : Target) (id : ℕ) (result : Option VarType) (args : List Word) → Calm true (invoke_host target id result args)
to_invoke_host target id result args = bound (to_call_host target (Invoke id args)) (λ answer. followed (to_note (Called target id)) (to_accept result answer))

to_get_property : (number id : ℕ) (of : VarType) → Calm true (get_property number id of)
to_get_property number id of = bound (to_call_host (targets.Object number) (Get id)) (to_accept (Some of))

to_set_property : (number id : ℕ) (w : Word) → Calm true (set_property number id w)
to_set_property number id w = bound (bound (to_call_host (targets.Object number) (Set id w)) (to_accept None)) (λ _. given tt (λ a s. s))

to_box_in : (world : World) (place : Option ℕ) → Calm true (box_in world place)
to_box_in world None = raised PoolEmpty
to_box_in world (Some place) = bound (found_there (slice_get world.pool place)) (λ box. given (place, box) (λ a s. s))

to_box_of_kind : (kind : ℕ) → Calm true (box_of_kind kind)
to_box_of_kind kind = bound (looked (λ a. a.world)) (λ world. to_box_in world (place_of_kind kind world))

to_draw : (kind : ℕ) → Settling true IsSettled IsSettledBut (draw kind)
to_draw kind =
    bound (bound (followed to_demand_number (to_box_of_kind kind)) (λ box. followed (to_quiet (without_box box.0) (λ w. refl) (λ w. refl) (λ w. refl) (λ w. refl)) (to_make (Host (box.1).kind (box.1).state))))
    (λ number. followed (to_note_but number (Drew number)) (given number (λ a s. s)))

pub to_construct_host : (kind : ℕ) (args : List Word) → Calm true (construct_host kind args)
to_construct_host kind args = bound (to_draw kind) (λ number. followed (bound (followed (to_hold_new number) (to_call_host (targets.Object number) (Start args))) (to_accept None)) (given (words.Object number) (λ a s. s)))

-- operators

to_give_or_raise : (r : Result Word DivisionFault) → Calm true (give_or_raise r)
to_give_or_raise (Ok word) = given word (λ a s. s)
to_give_or_raise (Err faults.ByZero) = raised _
to_give_or_raise (Err faults.Overflow) = raised _

to_calculate : (c : Calculation) (left right : Word) → Calm true (calculate c left right)
to_calculate c left right = to_give_or_raise (calculated_by c.operator c.of left right)

pub to_operate : (o : Operation) (left right : Word) → Calm true (operate o left right)
to_operate (operations.Calculate c) left right = to_calculate c left right
to_operate (operations.Compare comparator of) left right = given _ (λ a s. s)

-- locations

pub to_read : (l : Location) → Calm true (read l)
to_read (Local slot) = looked _
to_read (Global place) = looked _
to_read (Part number place) = looked _
to_read (Property number id of) = to_get_property number id of

global_after : (place : ℕ) (w : Word) (a : Activity) → IsNumbered a → Comes (IsSettled a) (λ (none : Unit {0}) b. Goes true (IsSettled a) (IsSettled b) a b) (write (Global place) w a)
global_after place w a numbered =
    let old : List ℕ = handles (slice_index_or (a.world).globals place words.Null ∷ []) in
    done (goes_on (hold_goes old a numbered) (global_goes place w (in_frame (holding old) a) (λ n c. Contains-append_left old (a.frame).held n c) numbered))

part_after : (number place : ℕ) (w : Word) (a : Activity) → IsNumbered a → Comes (IsSettled a) (λ (none : Unit {0}) b. Goes true (IsSettled a) (IsSettled b) a b) (write (Part number place) w a)
part_after number place w a numbered =
    let all : List Word = words_in number a.world in
    let old : List ℕ = handles (slice_index_or all place words.Null ∷ []) in
    done (goes_on (hold_goes old a numbered) (put_goes number (slice_set all place w) (in_frame (holding old) a) (λ n c. elim (set_keeps all place w n c) [ inl there ↦ inl there | inr was ↦ inr (Contains-append_left old (a.frame).held n was) ]) numbered))

pub to_write : (l : Location) (w : Word) → Calm true (write l w)
to_write (Local slot) w = record { comes = λ a numbered. done (local_goes slot w a numbered) }
to_write (Global place) w = record { comes = λ a numbered. global_after place w a numbered }
to_write (Part number place) w = record { comes = λ a numbered. part_after number place w a numbered }
to_write (Property number id of) w = to_set_property number id w

pub to_store : (w : Word) (l : Location) → Calm true (store w l)
to_store w l = followed (to_write l w) (given w (λ a s. s))

pub to_update : (int_type : IntType) (c : Calculation) (right : Word) (l : Location) → Calm true (update int_type c right l)
to_update int_type c right l = bound (bound (to_read l) (λ left. to_calculate c (converted_to c.of left) right)) (λ w. to_store (converted_to int_type w) l)

pub to_count_at : (int_type : IntType) (step : IncrementOp) (l : Location) → Calm true (count_at int_type step l)
to_count_at int_type step l = bound (to_read l) (λ old. followed (to_write l (counted step int_type old)) (given (given_by step old (counted step int_type old)) (λ a s. s)))

-- arrays

to_index_in : (number : ℕ) (index : Word) → Calm true (index_in number index)
to_index_in number index = bound (to_words_at number) (λ all. followed (demanded (nat_lt (natural_of index) (length all)) IndexOutOfBounds) (given (natural_of index) (λ a s. s)))

pub to_element_at : (array index : Word) → Calm true (element_at array index)
to_element_at array index = bound (to_object_of array) (λ number. bound (to_index_in number index) (λ place. given (Part number place) (λ a s. s)))

pub to_construct_array : (of : Elements (List ℕ)) (args : List Word) → Calm true (construct_array of args)
to_construct_array of args = bound (followed (followed to_demand_number (demanded (nat_le (count_in args) max_elements) ArrayLimit)) (to_make (Array of (replicate (count_in args) (zero_element of))))) (λ number. followed (to_hold_new number) (given (words.Object number) (λ a s. s)))

-- so many of the words are left, and the others are held

kept_or_held : (all more : List Word) (count : ℕ) (held : List ℕ) (n : ℕ) → Contains (handles all) n → Contains (handles (take count all ++ more)) n ⊎ Contains (handles (drop count all) ++ held) n
kept_or_held all more count held n c =
    elim (take_or_drop count all n c) [
      | inl first ↦ inl (handles_left (take count all) more n first)
      | inr rest ↦ inr (Contains-append_left (handles (drop count all)) held n rest)
    ]

resize_after : (number count : ℕ) (a : Activity) → IsNumbered a → (room : Bool) → Comes (IsSettled a) (λ (none : Unit {0}) b. Goes true (IsSettled a) (IsSettled b) a b) ((demand room ArrayLimit >> words_at number >>= (λ all. hold_all (drop count all) >> zero_at number >>= (λ zero. put_words number (resized count zero all)))) a)
resize_after number count a numbered true =
    let all : List Word = words_in number a.world in
    let zero : Word = option_map_or zero_in (object_at number (a.world).objects) words.Null in
    let old : List ℕ = handles (drop count all) in
    done (goes_on (hold_goes old a numbered) (put_goes number (resized count zero all) (in_frame (holding old) a) (λ n c. kept_or_held all (replicate (count - length all) zero) count (a.frame).held n c) numbered))
resize_after number count a numbered false = ended (λ s. s)

to_resize : (number count : ℕ) → Calm true (resize number count)
to_resize number count = record { comes = λ a numbered. resize_after number count a numbered (nat_le count max_elements) }

insert_after : (number : ℕ) (w : Word) (a : Activity) → IsNumbered a → (room : Bool) → Comes (IsSettled a) (λ (none : Unit {0}) b. Goes true (IsSettled a) (IsSettled b) a b) ((demand room ArrayLimit >> put_words number (words_in number a.world ++ w ∷ [])) a)
insert_after number w a numbered true =
    let all : List Word = words_in number a.world in
    done (put_goes number (all ++ w ∷ []) a (λ n c. inl (handles_left all (w ∷ []) n c)) numbered)
insert_after number w a numbered false = ended (λ s. s)

to_insert_last : (number : ℕ) (w : Word) → Calm true (insert_last number w)
to_insert_last number w = record { comes = λ a numbered. insert_after number w a numbered (nat_lt (length (words_in number a.world)) max_elements) }

remove_after : (number : ℕ) (a : Activity) → IsNumbered a → (some : Bool) → Comes (IsSettled a) (λ (none : Unit {0}) b. Goes true (IsSettled a) (IsSettled b) a b) ((demand some IndexOutOfBounds >> hold_all (drop (length (words_in number a.world) - 1) (words_in number a.world)) >> put_words number (take (length (words_in number a.world) - 1) (words_in number a.world))) a)
remove_after number a numbered true =
    let all : List Word = words_in number a.world in
    let old : List ℕ = handles (drop (length all - 1) all) in
    done (goes_on (hold_goes old a numbered) (put_goes number (take (length all - 1) all) (in_frame (holding old) a) (λ n c. elim (take_or_drop (length all - 1) all n c) [ inl first ↦ inl first | inr last ↦ inr (Contains-append_left old (a.frame).held n last) ]) numbered))
remove_after number a numbered false = ended (λ s. s)

to_remove_last : (number : ℕ) → Calm true (remove_last number)
to_remove_last number = record { comes = λ a numbered. remove_after number a numbered (nat_lt 0 (length (words_in number a.world))) }

to_length_of : (number : ℕ) → Calm true (length_of number)
to_length_of number = bound (to_words_at number) (λ all. given (length all) (λ a s. s))

pub to_invoke_array : (method : ArrayMethod) (number : ℕ) (args : List Word) → Calm true (invoke_array method number args)
to_invoke_array methods.Length number args = bound (to_length_of number) (λ count. given (words.Uint count) (λ a s. s))
to_invoke_array methods.IsEmpty number args = bound (to_length_of number) (λ count. given (words.Bool (count == 0)) (λ a s. s))
to_invoke_array methods.Resize number (count ∷ rest) = followed (to_resize number (natural_of count)) (given words.Null (λ a s. s))
to_invoke_array methods.InsertLast number (word ∷ rest) = followed (to_insert_last number word) (given words.Null (λ a s. s))
to_invoke_array methods.RemoveLast number args = followed (to_remove_last number) (given words.Null (λ a s. s))
to_invoke_array methods.Resize number [] = nowhere
to_invoke_array methods.InsertLast number [] = nowhere

-- classes

pub to_cast : (p : Program) (to : ObjectType) (w : Word) → Calm true (cast p to w)
to_cast p to (words.Object number) = looked _
to_cast p to _ = given _ (λ a s. s)
