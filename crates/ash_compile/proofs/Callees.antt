-- What a sound module calls is there, in its code too.
use Rattle.std.proofs.Common.{◌≡◌, ◌≤◌, ◌<◌, ℕ, suc, ◌+◌, ◌-◌, ◌*◌, List, ◌∷◌, length, refl, ap, ◌∙◌, arith}
use Rattle.std.proofs.Common.{true, Bool, option_map, slice_get}
use Rattle.std.specs.Prelude.{Option, Some, ◌&&◌}
use Rattle.std.specs.Option.{option_and_then}
use Rattle.std.proofs.lemmas.Option.{slice_get-map}
use Rattle.ash_host.specs.declared.word.Word.{Word}
use Rattle.ash_host.specs.Objects.{LiveObjects, handle}
use Rattle.ash_typed.specs.declared.types.VarType.{VarType}
use Rattle.ash_typed.specs.Modules.{Class}
use Rattle.ash_typed.specs.Signatures.{signature_of}
use Rattle.ash_typed.specs.SoundExpressions.{TypedEnvironment}
use Rattle.ash_meaning.specs.Activity.{Frame, Activity}
use Rattle.ash_meaning.specs.Runs.{◌>>◌}
use Rattle.ash_meaning.specs.Frames.{tick, max_frames}
use Rattle.ash_meaning.specs.CallMeaning.{value_or_null}
use Rattle.ash_typed.specs.TypeOf.{ValueType}
use Rattle.ash_meaning.specs.Classes.{Program, ModuleCallee, Entry, entry_of}
use Rattle.ash_meaning.specs.Classes.{entry_of_function, entry_of_method, entry_of_construction}
use Rattle.ash_meaning.specs.Functions.{body}
use Rattle.ash_soundness.specs.WellFormed.{Context, IsContext, AreValues, no_values, and_value, IsThis}
use Rattle.ash_soundness.specs.WellFormed.{IsGiven, gives_nothing, gives_null, gives, AreFrames, no_frames, and_frame}
use Rattle.ash_soundness.specs.WellFormed.{IsWellFormed}
use Rattle.ash_soundness.specs.WellFormedLaws.{Leaves, done}
use Rattle.ash_soundness.proofs.Values.{none_in}
use Rattle.ash_soundness.proofs.Triples.{bind, weaken}
use Rattle.ash_soundness.proofs.Frames.{tick_goes}
use Rattle.ash_soundness.proofs.Bodies.{keeps_bodies}
use Rattle.ash_soundness.proofs.Entries.{IsEntry, function_entry, own_method, construction_entry}
use Rattle.ash_run_steps.specs.GuardedSteps.{is_alive, are_alive}
use Rattle.ash_compile.specs.Callees.{room_for, IsCallee, a_function, a_method, a_construction, given_by}
use Rattle.ash_compile.specs.Emission.{Scene, IsScene}
use Rattle.ash_compile.proofs.Typed.{left_done, alive_of, value_alive, this_lives}
use Rattle.ash_compile.proofs.Calling.{Returns, entered_at}

-- slots

one_more_time : (k n : ℕ) → suc k * n ≡ n + k * n
one_more_time k n = omega arith

-- A frame leaves the one that it calls as many slots as that needs, if there may be one frame more.
pub room_left : (greatest callers slot long : ℕ) → callers + 1 < max_frames → slot < greatest
    → room_for greatest callers ≤ long → room_for greatest (suc callers) ≤ long - slot
room_left greatest callers slot long more low room =
    let fewer : max_frames - (callers + 1) ≡ suc (max_frames - (suc callers + 1)) = omega (arith, more) in
    let next : (max_frames - (callers + 1)) * greatest ≡ greatest + (max_frames - (suc callers + 1)) * greatest
    = ap (λ (n : ℕ). n * greatest) fewer ∙ one_more_time (max_frames - (suc callers + 1)) greatest in
    omega (arith, next, room, low)

pub frames_long : {c : Context} {all : LiveObjects (List ℕ)} {envs : List TypedEnvironment} {fs : List Frame}
    → AreFrames c all envs fs → length envs ≡ length fs
frames_long no_frames = refl
frames_long (and_frame f fs) = ap suc (frames_long fs)

-- words that are alive

pub object_alive : (c : Context) (class : Option ℕ) (w : Word) (a : Activity)
    → IsThis c.program (a.world).objects class w → is_alive w a ≡ true
object_alive c class w a this = alive_of w (handle w) a refl (λ n is. this_lives n this is)

pub values_alive : (p : Program) (a : Activity) {types : List VarType} {ws : List Word}
    → AreValues p (a.world).objects types ws → are_alive ws a ≡ true
values_alive p a no_values = refl
values_alive p a (and_value {of} {types} {word} {ws} v vs) =
    ap (λ (b : Bool). b && are_alive ws a) (value_alive p of word a v) ∙ values_alive p a vs

given_alive : {p : Program} {of : ValueType} (w : Word) (a : Activity) → IsGiven p (a.world).objects of w
    → is_alive w a ≡ true
given_alive w a gives_nothing = refl
given_alive w a gives_null = refl
given_alive {p} w a (gives {of} v) = value_alive p of w a v

module _ {c : Context} (context : IsContext c) where
  -- entries

  pub entry_there : {callee : ModuleCallee} {env : TypedEnvironment} {result : Option VarType} {e : Entry}
      → IsCallee c callee env result e → entry_of (c.program).tree callee ≡ Some e
  entry_there (a_function at) = ap (option_map entry_of_function) at
  entry_there (a_method {class} {place} {k} {f} at here) =
      ap (option_and_then (λ (x : Class). option_map (entry_of_method x) (slice_get x.methods place))) at
      ∙ ap (option_map (entry_of_method k)) here
  entry_there (a_construction at) = ap (option_map entry_of_construction) at

  pub entry_is : {callee : ModuleCallee} {env : TypedEnvironment} {result : Option VarType} {e : Entry}
      → IsCallee c callee env result e → IsEntry c env result e
  entry_is (a_function {place} {f} at) =
      function_entry context place (signature_of f)
      (slice_get-map signature_of ((c.program).tree).functions place ∙ ap (option_map signature_of) at)
      (entry_of_function f) (entry_there (a_function at))
  entry_is (a_method {class} {place} {k} {f} at here) =
      own_method context class place k f (signature_of f) at here refl (entry_of_method k f)
      (entry_there (a_method at here))
  entry_is (a_construction {class} {k} at) =
      construction_entry context class k at (entry_of_construction k) (entry_there (a_construction at))

  -- the frame of a callee

  pub entered_well : {env : TypedEnvironment} {envs : List TypedEnvironment} {a : Activity} (other : TypedEnvironment)
      (name : List ℕ) (line : ℕ) (this : Word) (args : List Word) → IsWellFormed c env envs a
      → length a.callers + 1 < max_frames
      → IsThis c.program (a.world).objects other.this this → AreValues c.program (a.world).objects other.locals args
      → IsWellFormed c other (env ∷ envs) (entered_at name line this args a)
  entered_well other name line this args well room this_is values = record {
    world = well.world;
    since = well.since;
    frame = record { this = this_is; locals = values; held = record { each = λ n i. absurd (none_in n i) } };
    callers = and_frame well.frame well.callers;
    few = omega arith;
  }

module _ (s : Scene) (scene : IsScene s) where
  -- what a caller needs of what its callee leaves
  abbrev Left : List Frame → Option Word → Activity → Type 0
  Left callers v b =
      (b.callers ≡ callers) × (is_alive (value_or_null v) b ≡ true) × (((s.setting).test).has_ranks b.world ≡ true)

  -- what is given, by what the body does
  gives_left : {callee : ModuleCallee} {env : TypedEnvironment} {result : Option VarType} {e : Entry}
      (is : IsCallee s.context callee env result e) (envs : List TypedEnvironment) (a d : Activity)
      → d.callers ≡ a.callers → IsWellFormed s.context env envs d
      → Leaves s.context (Left a.callers) (given_by callee (body (s.context).program s.depth e) d)
  gives_left {env = env} {result} {e} (a_function at) envs a d same well =
      weaken (λ v b r. (
        (r.passes).callers ∙ same,
        given_alive (value_or_null v) b r.value,
        scene.ranks _ _ b (r.passes).well,
      ))
      ((keeps_bodies scene.sound s.depth).keeps env result e (entry_is scene.sound (a_function at)) envs d well)
  gives_left {env = env} {result} {e} (a_method at here) envs a d same well =
      weaken (λ v b r. (
        (r.passes).callers ∙ same,
        given_alive (value_or_null v) b r.value,
        scene.ranks _ _ b (r.passes).well,
      ))
      ((keeps_bodies scene.sound s.depth).keeps env result e (entry_is scene.sound (a_method at here)) envs d well)
  gives_left {env = env} {result} {e} (a_construction at) envs a d same well =
      bind ((keeps_bodies scene.sound s.depth).keeps env result e
      (entry_is scene.sound (a_construction at)) envs d well)
      (λ v b r. done (
        (r.passes).callers ∙ same,
        object_alive s.context env.this (b.frame).this b (((r.passes).well).frame).this,
        scene.ranks _ _ b (r.passes).well,
      ))

  pub returns_from : {callee : ModuleCallee} {env : TypedEnvironment} {result : Option VarType} {e : Entry}
      (is : IsCallee s.context callee env result e) (envs : List TypedEnvironment) (caller place : ℕ) (a : Activity)
      → IsWellFormed s.context env envs a
      → Returns s.setting caller place (tick e.line >> given_by callee (body (s.context).program s.depth e)) a a.callers
  returns_from {callee} {env} {result} {e} is envs caller place a well = record {
    returns = λ b v ran.
        left_done v b (bind (tick_goes e.line well) (λ none d g.
        gives_left is envs a d (g.passes).callers (g.passes).well)) ran;
  }
