-- Values and frames where what they refer to stays.
use Rattle.std.proofs.Common.{◌≡◌, ◌<◌, ℕ, zero, suc, List, [], ◌∷◌, length, ◌⊎◌, inl, inr, refl, sym, ap, subst, arith, flat_map}
use Rattle.std.specs.Prelude.{Option, Some, None, Contains, IsSome, option_map}
use Rattle.std.specs.List.{cons_option}
use Rattle.std.proofs.lemmas.Option.{same_Some}
use Rattle.std.proofs.lemmas.List.Elements.{Contains-append_left, Contains-append_right}
use Rattle.ash_host.specs.declared.word.Word.{Word}
use Rattle.ash_host.specs.Objects.{Plain, LiveObjects, object_at, handle, handles, fields_of, Lives}
use Rattle.ash_integers.specs.declared.int_type.IntType.{IntType}
use Rattle.ash_typed.specs.declared.types.VarType.{VarType}
use Rattle.ash_typed.specs.TypeOf.{ValueType}
use Rattle.ash_typed.specs.SoundExpressions.{TypedEnvironment}
use Rattle.ash_meaning.specs.Activity.{Frame}
use Rattle.ash_meaning.specs.Releases.{roots_of_frame}
use Rattle.ash_meaning.specs.Classes.{Program}
use Rattle.ash_soundness.specs.WellFormed.{Known, Context, Shape, shape_of, shape_at, IsReference, to_nothing, to_object, IsInteger, int, uint, int64, uint64, IsValue, is_truth, is_integer, is_object, is_handle, AreValues, no_values, and_value, AllAre, none_are, and_is, IsGiven, gives_nothing, gives_null, gives, IsObject, is_script, is_array, is_host, AllLive, IsThis, no_this, is_this, IsFrame, AreFrames, no_frames, and_frame}

-- members of lists

pub first_in : {A : Type 0} (x : A) (xs : List A) → Contains (x ∷ xs) x
first_in x xs = (0, omega arith, refl)

pub later_in : {A : Type 0} (y x : A) (xs : List A) → Contains xs x → Contains (y ∷ xs) x
later_in y x xs c = (suc c.0, let h : c.0 < length xs = c.1 in omega arith, c.2)

pub none_in : {A : Type 0} (x : A) → Contains [] x → ⊥
none_in x c = let h : c.0 < 0 = c.1 in omega arith

-- handles of words

first_of : (o : Option ℕ) (ns : List ℕ) (n : ℕ) → o ≡ Some n → Contains (cons_option o ns) n
first_of None ns n e = absurd (cc)
first_of (Some m) ns n e = subst (λ (k : ℕ). Contains (k ∷ ns) n) (sym (same_Some m n e)) (first_in n ns)

later_of : (o : Option ℕ) (ns : List ℕ) (n : ℕ) → Contains ns n → Contains (cons_option o ns) n
later_of None ns n c = c
later_of (Some m) ns n c = later_in m n ns c

cases_of : (o : Option ℕ) (ns : List ℕ) (n : ℕ) → Contains (cons_option o ns) n → (o ≡ Some n) ⊎ Contains ns n
cases_of None ns n c = inr c
cases_of (Some m) ns n (zero, l, e) = inl (ap Some e)
cases_of (Some m) ns n (suc k, l, e) = inr (k, omega arith, e)

pub handle_first : (w : Word) (ws : List Word) (n : ℕ) → handle w ≡ Some n → Contains (handles (w ∷ ws)) n
handle_first w ws n e = first_of (handle w) (handles ws) n e

pub handle_later : (w : Word) (ws : List Word) (n : ℕ) → Contains (handles ws) n → Contains (handles (w ∷ ws)) n
handle_later w ws n c = later_of (handle w) (handles ws) n c

pub handle_cases : (w : Word) (ws : List Word) (n : ℕ) → Contains (handles (w ∷ ws)) n → (handle w ≡ Some n) ⊎ Contains (handles ws) n
handle_cases w ws n c = cases_of (handle w) (handles ws) n c

-- what lives has a shape

some_shape : (o : Option (Plain (List ℕ))) (shape : Shape) → option_map shape_of o ≡ Some shape → IsSome o
some_shape None shape e = absurd (cc)
some_shape (Some object) shape e = refl

shape_of_some : (o : Option (Plain (List ℕ))) → IsSome o → (shape : Shape) × (option_map shape_of o ≡ Some shape)
shape_of_some None h = absurd (cc)
shape_of_some (Some object) h = (shape_of object, refl)

pub shape_lives : (number : ℕ) (all : LiveObjects (List ℕ)) (shape : Shape) → shape_at number all ≡ Some shape → Lives all number
shape_lives number all shape e = some_shape (object_at number all) shape e

pub lives_shape : (number : ℕ) (all : LiveObjects (List ℕ)) → Lives all number → (shape : Shape) × (shape_at number all ≡ Some shape)
lives_shape number all h = shape_of_some (object_at number all) h

-- what refers to an object refers to one that lives

reference_lives : {all : LiveObjects (List ℕ)} {Fits : Shape → Type 0} {w : Word} (n : ℕ) → IsReference all Fits w → handle w ≡ Some n → Lives all n
reference_lives n to_nothing e = absurd (cc)
reference_lives {all} n (to_object {number} {shape} at fits) e = subst (λ (k : ℕ). Lives all k) (same_Some number n e) (shape_lives number all shape at)

pub integer_is_none : {int_type : IntType} {w : Word} (n : ℕ) → IsInteger int_type w → handle w ≡ Some n → ⊥
integer_is_none n (int f) e = cc
integer_is_none n (uint f) e = cc
integer_is_none n (int64 f) e = cc
integer_is_none n (uint64 f) e = cc

pub value_lives : {p : Program} {all : LiveObjects (List ℕ)} {of : VarType} {w : Word} (n : ℕ) → IsValue p all of w → handle w ≡ Some n → Lives all n
value_lives n is_truth e = absurd (cc)
value_lives n (is_integer i) e = absurd (integer_is_none n i e)
value_lives n (is_object r) e = reference_lives n r e
value_lives n (is_handle r) e = reference_lives n r e

pub given_lives : {p : Program} {all : LiveObjects (List ℕ)} {of : ValueType} {w : Word} (n : ℕ) → IsGiven p all of w → handle w ≡ Some n → Lives all n
given_lives n gives_nothing e = absurd (cc)
given_lives n gives_null e = absurd (cc)
given_lives n (gives v) e = value_lives n v e

pub values_live : {p : Program} {all : LiveObjects (List ℕ)} {types : List VarType} {ws : List Word} (n : ℕ) → AreValues p all types ws → Contains (handles ws) n → Lives all n
values_live n no_values c = absurd (none_in n c)
values_live n (and_value {word = w} {ws = ws} v vs) c =
    elim (handle_cases w ws n c) [
      | inl here ↦ value_lives n v here
      | inr later ↦ values_live n vs later
    ]

pub all_live : {p : Program} {all : LiveObjects (List ℕ)} {of : VarType} {ws : List Word} (n : ℕ) → AllAre p all of ws → Contains (handles ws) n → Lives all n
all_live n none_are c = absurd (none_in n c)
all_live n (and_is {word = w} {ws = ws} v vs) c =
    elim (handle_cases w ws n c) [
      | inl here ↦ value_lives n v here
      | inr later ↦ all_live n vs later
    ]

-- what lives by a number lives on, as what it was
pub record Stays (old new : LiveObjects (List ℕ)) (number : ℕ) : Type 0 where
  pub stays : (shape : Shape) → shape_at number old ≡ Some shape → shape_at number new ≡ Some shape

module _ {old new : LiveObjects (List ℕ)} where
  pub lives_on : (n : ℕ) → Stays old new n → Lives old n → Lives new n
  lives_on n s h = let there = lives_shape n old h in shape_lives n new there.0 (s.stays there.0 there.1)

  pub reference_stays : {Fits : Shape → Type 0} {w : Word} → ((n : ℕ) → handle w ≡ Some n → Stays old new n) → IsReference old Fits w → IsReference new Fits w
  reference_stays stay to_nothing = to_nothing
  reference_stays stay (to_object {number} {shape} at fits) = to_object ((stay number refl).stays shape at) fits

  pub value_stays : {p : Program} {of : VarType} {w : Word} → ((n : ℕ) → handle w ≡ Some n → Stays old new n) → IsValue p old of w → IsValue p new of w
  value_stays stay is_truth = is_truth
  value_stays stay (is_integer i) = is_integer i
  value_stays stay (is_object r) = is_object (reference_stays stay r)
  value_stays stay (is_handle r) = is_handle (reference_stays stay r)

  pub given_stays : {p : Program} {of : ValueType} {w : Word} → ((n : ℕ) → handle w ≡ Some n → Stays old new n) → IsGiven p old of w → IsGiven p new of w
  given_stays stay gives_nothing = gives_nothing
  given_stays stay gives_null = gives_null
  given_stays stay (gives v) = gives (value_stays stay v)

  pub values_stay : {p : Program} {types : List VarType} {ws : List Word} → ((n : ℕ) → Contains (handles ws) n → Stays old new n) → AreValues p old types ws → AreValues p new types ws
  values_stay stay no_values = no_values
  values_stay stay (and_value {word = w} {ws = ws} v vs) = and_value (value_stays (λ n e. stay n (handle_first w ws n e)) v) (values_stay (λ n c. stay n (handle_later w ws n c)) vs)

  pub all_stay : {p : Program} {of : VarType} {ws : List Word} → ((n : ℕ) → Contains (handles ws) n → Stays old new n) → AllAre p old of ws → AllAre p new of ws
  all_stay stay none_are = none_are
  all_stay stay (and_is {word = w} {ws = ws} v vs) = and_is (value_stays (λ n e. stay n (handle_first w ws n e)) v) (all_stay (λ n c. stay n (handle_later w ws n c)) vs)

  pub live_on : {ns : List ℕ} → ((n : ℕ) → Contains ns n → Stays old new n) → AllLive old ns → AllLive new ns
  live_on stay live = record { each = λ n c. lives_on n (stay n c) (live.each n c) }

  this_stays : {p : Program} {this : Option ℕ} {w : Word} → ((n : ℕ) → handle w ≡ Some n → Stays old new n) → IsThis p old this w → IsThis p new this w
  this_stays stay no_this = no_this
  this_stays stay (is_this {number = number} {shape} at i) = is_this ((stay number refl).stays shape at) i

  pub object_stays : {modules : Known} {o : Plain (List ℕ)} → ((n : ℕ) → Contains (handles (fields_of o)) n → Stays old new n) → IsObject modules old o → IsObject modules new o
  object_stays stay (is_script s) = is_script (record { tree = s.tree; known = s.known; class = s.class; source = s.source; at = s.at; is = s.is; values = values_stay stay s.values })
  object_stays stay (is_array s) = is_array (record { few = s.few; program = s.program; known = s.known; element = s.element; named = s.named; is = s.is; values = all_stay stay s.values })
  object_stays stay (is_host s) = is_host s

  module _ {c : Context} where
    pub frame_stays : {env : TypedEnvironment} {f : Frame} → ((n : ℕ) → Contains (roots_of_frame f) n → Stays old new n) → IsFrame c old env f → IsFrame c new env f
    frame_stays {f = f} stay h = record {
      this = this_stays (λ n e. stay n (Contains-append_left (handles (f.this ∷ f.locals)) f.held n (handle_first f.this f.locals n e))) h.this;
      locals = values_stay (λ n i. stay n (Contains-append_left (handles (f.this ∷ f.locals)) f.held n (handle_later f.this f.locals n i))) h.locals;
      held = live_on (λ n i. stay n (Contains-append_right (handles (f.this ∷ f.locals)) f.held n i)) h.held;
    }

    pub frames_stay : {envs : List TypedEnvironment} {fs : List Frame} → ((n : ℕ) → Contains (flat_map roots_of_frame fs) n → Stays old new n) → AreFrames c old envs fs → AreFrames c new envs fs
    frames_stay stay no_frames = no_frames
    frames_stay stay (and_frame {f = f} {fs = fs} h hs) =
        and_frame (frame_stays (λ n i. stay n (Contains-append_left (roots_of_frame f) (flat_map roots_of_frame fs) n i)) h)
        (frames_stay (λ n i. stay n (Contains-append_right (roots_of_frame f) (flat_map roots_of_frame fs) n i)) hs)
