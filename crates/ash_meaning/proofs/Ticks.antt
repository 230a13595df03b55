-- No phrase gains ticks, and a call that comes to its end has taken one at least.
use Rattle.std.proofs.Common.{◌≤◌, ◌<◌, ◌∷◌, refl, ℕ, zero, suc, List, slice_get, arith}
use Rattle.ash_host.specs.declared.word.Word.{Word}
use Rattle.ash_host.specs.declared.word.Word.TheVariants as words
use Rattle.ash_typed.specs.Modules.{Class}
use Rattle.ash_meaning.specs.Activity.{Activity, in_frame}
use Rattle.ash_meaning.specs.Runs.{Progress, Done, Ended, NoStep, Run, give, onward, ◌>>=◌, ◌>>◌, found}
use Rattle.ash_meaning.specs.Frames.{at_line, spend, demand_frame, frame_of, leave, in_frame_of}
use Rattle.ash_meaning.specs.ObjectSteps.{demand_number, make}
use Rattle.ash_meaning.specs.Classes.{Program, ModuleCallee, Construction, Entry, entry_of}
use Rattle.ash_meaning.specs.CallMeaning.{value_or_null, blank, call, construct}
use Rattle.ash_meaning.specs.Functions.{body, calls_within}
use Rattle.ash_meaning.specs.MeaningLaws.{LeavesAtMost, TakesTicks, GainsNone, TicksFall}
use Rattle.ash_meaning.proofs.Traces.{at_most_more, leaves}
use Rattle.ash_meaning.proofs.Walks.{Walk, at_most, bound, followed, given, found_there}
use Rattle.ash_meaning.proofs.StepWalks.{to_demand_frame, to_demand_number, to_make, to_leave}
use Rattle.ash_meaning.proofs.Depth.{walk_called, of_phrases}

-- how a tick that is taken stays taken

takes_more : {A : Type 0} {m n : ℕ} (p : Progress A) → m ≤ n → TakesTicks m p → TakesTicks n p
takes_more (Done v b) le t = omega arith
takes_more (Ended i b) le t = tt
takes_more NoStep le t = tt

takes_left : {A : Type 0} {m n : ℕ} (p : Progress A) → m < n → LeavesAtMost m p → TakesTicks n p
takes_left (Done v b) less l = omega arith
takes_left (Ended i b) less l = tt
takes_left NoStep less l = tt

takes_before : {A B : Type 0} (f : A → Run B) (n : ℕ) (p : Progress A) → TakesTicks n p → ((v : A) (b : Activity) → LeavesAtMost b.ticks (f v b)) → TakesTicks n (onward p f)
takes_before f n (Done v b) t h = takes_left (f v b) t (h v b)
takes_before f n (Ended i b) t h = tt
takes_before f n NoStep t h = tt

takes_later : {A B : Type 0} (f : A → Run B) (n : ℕ) (p : Progress A) → LeavesAtMost n p → ((v : A) (b : Activity) → b.ticks ≤ n → TakesTicks b.ticks (f v b)) → TakesTicks n (onward p f)
takes_later f n (Done v b) l h = takes_more (f v b) l (h v b l)
takes_later f n (Ended i b) l h = tt
takes_later f n NoStep l h = tt

at_most_all : {t u v w : ℕ} → t ≤ u → u ≤ v → v ≤ w → t ≤ w
at_most_all p q r = omega arith

-- what a walk leaves
left_by : {A : Type 0} {n : ℕ} {r s : Run A} → Walk n r s → (a : Activity) → a.ticks ≤ n → LeavesAtMost a.ticks (r a)
left_by {r = r} w a le = leaves a (r a) (w.comes a le)

-- a frame takes a tick

spends_one : {A : Type 0} {n : ℕ} {r : Run A} → ((m : ℕ) → m < n → Walk m r r) → (t : ℕ) (b : Activity) → t ≤ n → TakesTicks t (onward (spend t b) (λ _. r))
spends_one h zero b le = tt
spends_one {r = r} h (suc t) b le =
    let left : Activity = record b { ticks = t } in
    takes_left (r left) (omega arith) (left_by (h t le) left (at_most t))

frame_takes : {n : ℕ} {r : Run Word} (name : List ℕ) (line : ℕ) (this : Word) (args : List Word) → ((m : ℕ) → m < n → Walk m r r) → (a : Activity) → a.ticks ≤ n → TakesTicks a.ticks (in_frame_of name line this args r a)
frame_takes {r = r} name line this args h a le =
    let inside : Activity = record a { frame = frame_of name line this args; callers = a.frame ∷ a.callers } in
    takes_before leave a.ticks (onward (spend a.ticks (in_frame (at_line line) inside)) (λ _. r)) (spends_one h a.ticks (in_frame (at_line line) inside) le) (λ v b. left_by (to_leave {n = b.ticks} v) b (at_most b.ticks))

-- calls and constructions

module _ (p : Program) (d : ℕ) where
  body_of_call : Entry → Run Word
  body_of_call e = body p d e >>= (λ value. give (value_or_null value))

  call_takes : (callee : ModuleCallee) (this : Word) (args : List Word) (a : Activity) → a.ticks ≤ d → TakesTicks a.ticks (call (calls_within p d) callee this args a)
  unfolding body_of_call
  call_takes callee this args a le =
      takes_later (λ (e : Entry). demand_frame >> in_frame_of e.name e.line this args (body_of_call e)) a.ticks (found (entry_of p.tree callee) a) (left_by (found_there {n = d} (entry_of p.tree callee)) a le)
      (λ e b l. takes_later (λ _. in_frame_of e.name e.line this args (body_of_call e)) b.ticks (demand_frame b) (left_by (to_demand_frame {n = b.ticks}) b (at_most b.ticks))
      (λ _ c k. frame_takes {n = d} e.name e.line this args (λ m less. bound (walk_called p d e m less) (λ value. given (value_or_null value))) c (at_most_all k l le)))

  body_of_construction : ℕ → Entry → Run Word
  body_of_construction number e = body p d e >> give (words.Object number)

  construct_takes : (class : ℕ) (args : List Word) (a : Activity) → a.ticks ≤ d → TakesTicks a.ticks (construct (calls_within p d) class args a)
  unfolding body_of_construction
  construct_takes class args a le =
      takes_later (λ (e : Entry). found (slice_get (p.tree).classes class) >>= made e) a.ticks (found (entry_of p.tree (Construction class)) a) (left_by (found_there {n = d} (entry_of p.tree (Construction class))) a le)
      (λ e b l. takes_later (made e) b.ticks (found (slice_get (p.tree).classes class) b) (left_by (found_there {n = b.ticks} (slice_get (p.tree).classes class)) b (at_most b.ticks))
      (λ k c l'. takes_later (framed e) c.ticks ((demand_frame >> demand_number >> make (blank p class k)) c) (left_by (followed {n = c.ticks} (followed to_demand_frame to_demand_number) (to_make (blank p class k) refl)) c (at_most c.ticks))
      (λ number f l''. frame_takes {n = d} e.name e.line (words.Object number) args (λ m less. followed (walk_called p d e m less) (given (words.Object number))) f (at_most_all l'' l' (at_most_more l le)))))
    where
      framed : Entry → ℕ → Run Word
      framed e number = in_frame_of e.name e.line (words.Object number) args (body_of_construction number e)

      made : Entry → Class → Run Word
      made e k = demand_frame >> demand_number >> make (blank p class k) >>= framed e

pub ticks_fall : (p : Program) (d : ℕ) → TicksFall p d
ticks_fall p d = record {
  phrases = of_phrases p d (GainsNone d) (λ A r w a le. leaves a (r a) (w.comes a le));
  calls = call_takes p d;
  constructions = construct_takes p d;
}
