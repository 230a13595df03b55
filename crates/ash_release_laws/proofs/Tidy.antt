-- Runs of statements, after which nothing is held if nothing was.
use Rattle.std.proofs.Common.{◌≡◌, ◌≤◌, ℕ, zero, suc, ℤ, Bool, true, false, List, [], ◌∷◌, ◌++◌, length, take, refl, Option, if◌then◌else◌, arith}
use Rattle.std.specs.Prelude.{is_none}
use Rattle.std.proofs.lemmas.List.{length-append, length-take-le}
use Rattle.ash_host.specs.declared.word.Word.{Word}
use Rattle.ash_integers.specs.Integers.{number_of}
use Rattle.ash_typed.specs.declared.tree.statements.Test.{Test}
use Rattle.ash_typed.specs.declared.tree.statements.Test.TheVariants as tests
use Rattle.ash_meaning.specs.Activity.{Activity, in_frame}
use Rattle.ash_meaning.specs.Runs.{Progress, Done, Ended, NoStep, Run, give, onward, ◌>>=◌, ◌>>◌, look, change}
use Rattle.ash_meaning.specs.Frames.{at_line, spend, tick}
use Rattle.ash_meaning.specs.Releases.{let_go, release, end_expression, full, declare, keeping, leave_blocks}
use Rattle.ash_meaning.specs.StatementMeaning.{Flow, On, Broke, Continued, Returned, go_on, end_block, in_block, after_break, Turn, after_body, turn, turns, repeat, Labelled, from_label, is_constant, or_else, fall_through, switch}
use Rattle.ash_meaning.specs.Traces.{after_release}
use Rattle.ash_release_laws.specs.Settling.{AtTheValue, IsNumbered}
use Rattle.ash_release_laws.specs.Held.{HoldsNothing}
use Rattle.ash_release_laws.proofs.Settling.{Goes, Comes, done, ended, no_way, Calm, sweep_numbered}

-- The locals are there, and nothing is held if nothing was, at an end at which that is asked for (Q). It is asked for
-- there only if it was before (P).
pub record Tidied (P Q : Type 0) (a b : Activity) : Type 0 where
  pub numbered : IsNumbered b
  pub locals : length (a.frame).locals ≤ length (b.frame).locals
  pub back : Q → P
  pub held : Q → HoldsNothing a → HoldsNothing b

pub record Tidy {A : Type 0} (P : Type 0) (Q : A → Type 0) (r : Run A) : Type 0 where
  pub comes : (a : Activity) → IsNumbered a → AtTheValue (λ (v : A) b. Tidied P (Q v) a b) (r a)

-- one run after another

at_most_more : {t u v : ℕ} → t ≤ u → u ≤ v → t ≤ v
at_most_more p q = omega arith

tidied_on : {P Q R : Type 0} {a b c : Activity} → Tidied P Q a b → Tidied Q R b c → Tidied P R a c
tidied_on s t = record {
  numbered = t.numbered;
  locals = at_most_more s.locals t.locals;
  back = λ r. s.back (t.back r);
  held = λ r none. t.held r (s.held (t.back r) none);
}

pub at_value : {A : Type 0} {Left Right : A → Activity → Type 0} (p : Progress A) → ((v : A) (b : Activity) → Left v b → Right v b) → AtTheValue Left p → AtTheValue Right p
at_value (Done v b) more l = more v b l
at_value (Ended i b) more l = tt
at_value NoStep more l = tt

pub at_bind : {A B : Type 0} {Left : A → Activity → Type 0} (Right : B → Activity → Type 0) (f : A → Run B) (p : Progress A) → AtTheValue Left p → ((v : A) (b : Activity) → Left v b → AtTheValue Right (f v b)) → AtTheValue Right (onward p f)
at_bind right f (Done v b) l next = next v b l
at_bind right f (Ended i b) l next = tt
at_bind right f NoStep l next = tt

longer : (ws : List Word) (w : Word) → length ws ≤ length (ws ++ w ∷ [])
longer ws w = omega (arith, length-append ws (w ∷ []))

module _ {P : Type 0} where
  pub bound : {A B : Type 0} {Q : A → Type 0} {R : B → Type 0} {r : Run A} {f : A → Run B} → Tidy P Q r → ((v : A) → Tidy (Q v) R (f v)) → Tidy P R (r >>= f)
  bound {r = r} {f = f} hr h = record {
    comes = λ a numbered. at_bind _ f (r a) (hr.comes a numbered) (λ v b s. at_value (f v b) (λ w c t. tidied_on s t) ((h v).comes b s.numbered));
  }

  pub followed : {A B : Type 0} {Q : Type 0} {R : B → Type 0} {r : Run A} {q : Run B} → Tidy P (λ _. Q) r → Tidy Q R q → Tidy P R (r >> q)
  followed {q = q} hr h = bound {f = λ _. q} hr (λ _. h)

  pub given : {A : Type 0} {Q : A → Type 0} (v : A) → (Q v → P) → Tidy P Q (give v)
  given v back = record { comes = λ a numbered. record { numbered = numbered; locals = omega arith; back = back; held = λ q none. none } }

  pub looked : {A : Type 0} (what : Activity → A) → Tidy P (λ _. P) (look what)
  looked what = record { comes = λ a numbered. record { numbered = numbered; locals = omega arith; back = λ q. q; held = λ q none. none } }

  pub chosen_by : {A : Type 0} {Q : A → Type 0} {r q : Run A} (b : Bool) → Tidy P Q r → Tidy P Q q → Tidy P Q (if b then r else q)
  chosen_by true h g = h
  chosen_by false h g = g

  -- steps

  spent : (t : ℕ) → Tidy P (λ _. P) (spend t)
  spent zero = record { comes = λ a numbered. tt }
  spent (suc t) = record { comes = λ a numbered. record { numbered = numbered; locals = omega arith; back = λ q. q; held = λ q none. none } }

  to_line : (line : ℕ) → Tidy P (λ _. P) (change (in_frame (at_line line)))
  to_line line = record { comes = λ a numbered. record { numbered = numbered; locals = omega arith; back = λ q. q; held = λ q none. none } }

  pub tidy_tick : (line : ℕ) → Tidy P (λ _. P) (tick line)
  tidy_tick line = bound (followed (to_line line) (looked (λ a. a.ticks))) spent

  pub tidy_declare : (w : Word) → Tidy P (λ _. P) (declare w)
  tidy_declare w = record { comes = λ a numbered. record { numbered = numbered; locals = longer (a.frame).locals w; back = λ q. q; held = λ q none. none } }

  swept : (a : Activity) → IsNumbered a → Tidied P P a (after_release a)
  swept a numbered = record { numbered = sweep_numbered (a.frame ∷ a.callers) a.world numbered; locals = omega arith; back = λ q. q; held = λ q none. none }

  pub tidy_release : Tidy P (λ _. P) release
  unfolding release
  tidy_release = record { comes = λ a numbered. swept a numbered }

-- what an expression leaves

same_at_most : {t u : ℕ} → u ≡ t → t ≤ u
same_at_most e = omega (arith, e)

of_comes : {A : Type 0} {a : Activity} {P : Type 0} {Q : A → Activity → Type 0} {p : Progress A} → Comes P (λ (v : A) b. Goes true P (Q v b) a b) p → AtTheValue (λ (v : A) b. Tidied (Unit {0}) ⊥ a b) p
of_comes (done g) = record { numbered = g.numbered; locals = same_at_most (g.kept).locals; back = λ q. tt; held = λ q. absurd q }
of_comes (ended s) = tt
of_comes no_way = tt

-- where nothing is asked of what is held
abbrev pub Grows : {A : Type 0} → Run A → Type 0
Grows {A} r = Tidy {A = A} (Unit {0}) (λ v. ⊥) r

pub grows : {A : Type 0} {r : Run A} → Calm true r → Grows r
grows h = record { comes = λ a numbered. of_comes (h.comes a numbered) }

-- full expressions

-- Nothing is held after one.
pub full_lets_go : {A : Type 0} (p : Progress A) → AtTheValue (λ (v : A) b. HoldsNothing b) (onward p (λ v. end_expression >> give v))
unfolding release
full_lets_go (Done v b) = refl
full_lets_go (Ended i b) = tt
full_lets_go NoStep = tt

abbrev let_go_of : Activity → Activity
let_go_of b = after_release (in_frame let_go b)

full_tidied : {A : Type 0} (a : Activity) (p : Progress A) → AtTheValue (λ (v : A) b. Tidied (Unit {0}) ⊥ a b) p → AtTheValue (λ (v : A) b. Tidied (Unit {0}) (Unit {0}) a b) (onward p (λ v. end_expression >> give v))
unfolding release
full_tidied a (Done v b) s = record { numbered = sweep_numbered (let_go b.frame ∷ b.callers) b.world s.numbered; locals = s.locals; back = λ q. tt; held = λ q none. refl }
full_tidied a (Ended i b) s = tt
full_tidied a NoStep s = tt

-- a run that goes on
abbrev pub Passes : {A : Type 0} → Run A → Type 0
Passes {A} r = Tidy {A = A} (Unit {0}) (λ v. Unit {0}) r

pub tidy_full : {A : Type 0} {r : Run A} → Grows r → Passes (full r)
tidy_full {r = r} h = record { comes = λ a numbered. full_tidied a (r a) (h.comes a numbered) }

-- flows

-- It was no return: a value that is returned is held.
abbrev pub IsNoReturn : Flow → Type 0
IsNoReturn (Returned value) = ⊥
IsNoReturn On = Unit {0}
IsNoReturn Broke = Unit {0}
IsNoReturn Continued = Unit {0}

abbrev pub Flows : Run Flow → Type 0
Flows r = Tidy (Unit {0}) IsNoReturn r

pub tidy_go_on : {r : Run Flow} → Flows r → (flow : Flow) → Tidy (IsNoReturn flow) IsNoReturn (go_on r flow)
tidy_go_on h On = h
tidy_go_on h Broke = given Broke (λ q. q)
tidy_go_on h Continued = given Continued (λ q. q)
tidy_go_on h (Returned value) = given (Returned value) (λ q. q)

pub tidy_after_break : (flow : Flow) → Tidy (IsNoReturn flow) IsNoReturn (after_break flow)
tidy_after_break On = given On (λ q. q)
tidy_after_break Broke = followed tidy_release (given On (λ q. q))
tidy_after_break Continued = given Continued (λ q. q)
tidy_after_break (Returned value) = given (Returned value) (λ q. q)

-- blocks

pub record BlockLeft (a : Activity) (flow : Flow) (b : Activity) : Type 0 where
  pub tidied : Tidied (Unit {0}) (IsNoReturn flow) a b
  pub same : length (b.frame).locals ≡ length (a.frame).locals

module _ (a b : Activity) where
  abbrev kept : Activity
  kept = in_frame (keeping (length (a.frame).locals)) b

  kept_same : length (a.frame).locals ≤ length (b.frame).locals → length (take (length (a.frame).locals) (b.frame).locals) ≡ length (a.frame).locals
  kept_same le = length-take-le (length (a.frame).locals) (b.frame).locals le

  kept_left : (flow : Flow) → Tidied (Unit {0}) (IsNoReturn flow) a b → BlockLeft a flow kept
  kept_left flow s = record {
    tidied = record { numbered = s.numbered; locals = same_at_most (kept_same s.locals); back = s.back; held = s.held };
    same = kept_same s.locals;
  }

  released_left : Tidied (Unit {0}) (Unit {0}) a b → BlockLeft a On (after_release kept)
  released_left s = record {
    tidied = record { numbered = sweep_numbered (kept.frame ∷ kept.callers) kept.world s.numbered; locals = same_at_most (kept_same s.locals); back = s.back; held = s.held };
    same = kept_same s.locals;
  }

  block_end : (flow : Flow) → Tidied (Unit {0}) (IsNoReturn flow) a b → AtTheValue (BlockLeft a) ((leave_blocks (length (a.frame).locals) >> end_block flow) b)
  unfolding release
  block_end On s = released_left s
  block_end Broke s = kept_left Broke s
  block_end Continued s = kept_left Continued s
  block_end (Returned value) s = kept_left (Returned value) s

pub block_left : {r : Run Flow} → Flows r → (a : Activity) → IsNumbered a → AtTheValue (BlockLeft a) (in_block r a)
block_left {r} h a numbered = at_bind _ (λ flow. leave_blocks (length (a.frame).locals) >> end_block flow) (r a) (h.comes a numbered) (λ flow b s. block_end a b flow s)

pub tidy_block : {r : Run Flow} → Flows r → Flows (in_block r)
tidy_block {r} h = record { comes = λ a numbered. at_value (in_block r a) (λ flow b l. l.tidied) (block_left h a numbered) }

-- loops

abbrev turn_of : ℕ → Run Bool → Run (Unit {0}) → Run Flow → Turn
turn_of line condition steps body = record { line = line; condition = condition; steps = steps; body = body }

module _ (line : ℕ) {c : Run Bool} {s : Run (Unit {0})} {b : Run Flow} (hc : Passes c) (hs : Passes s) (hb : Flows b) where
  tidy_after_body : {next : Run Flow} → Flows next → (flow : Flow) → Tidy (IsNoReturn flow) IsNoReturn (after_body (turn_of line c s b) next flow)
  tidy_after_body h On = followed hs h
  tidy_after_body h Continued = followed (followed tidy_release hs) h
  tidy_after_body h Broke = given Broke (λ q. q)
  tidy_after_body h (Returned value) = given (Returned value) (λ q. q)

  tidy_turn : {next : Run Flow} → Flows next → Flows (turn (turn_of line c s b) next)
  tidy_turn h = bound hb (tidy_after_body h)

  tidy_turns : (d : ℕ) → Flows (turns d (turn_of line c s b))
  tidy_turns zero = followed (tidy_tick line) (record { comes = λ a numbered. tt })
  tidy_turns (suc d) = followed (tidy_tick line) (bound hc (λ goes_on. chosen_by goes_on (tidy_turn (tidy_turns d)) (given On (λ q. q))))

  pub tidy_repeat : (test : Test) (d : ℕ) → Flows (repeat test d (turn_of line c s b))
  tidy_repeat tests.First d = tidy_turns d
  tidy_repeat tests.Last d = tidy_turn (tidy_turns d)

-- labels

pub data Labels : List Labelled → Type 0 where
  no_labels : Labels []
  more_labels : {constant : Option ℤ} {r : Run Flow} {ls : List Labelled} → Flows r → Labels ls → Labels (record { constant = constant; run = r } ∷ ls)

tidy_fall : {ls : List Labelled} → Labels ls → Flows (fall_through ls)
tidy_fall no_labels = given On (λ q. q)
tidy_fall (more_labels h hs) = bound h (tidy_go_on (tidy_fall hs))

either_labels : {ls ms : List Labelled} (b : Bool) → Labels ls → Labels ms → Labels (if b then ls else ms)
either_labels true h k = h
either_labels false h k = k

labels_from : (test : Option ℤ → Bool) {ls : List Labelled} → Labels ls → Labels (from_label test ls)
labels_from test no_labels = no_labels
labels_from test (more_labels {constant = constant} h hs) = either_labels (test constant) (more_labels h hs) (labels_from test hs)

labels_or : {ls ms : List Labelled} → Labels ls → Labels ms → Labels (or_else ls ms)
labels_or no_labels k = k
labels_or (more_labels h hs) k = more_labels h hs

pub tidy_switch : {ls : List Labelled} → Labels ls → (word : Word) → Flows (switch ls word)
tidy_switch hs word = tidy_fall (labels_or (labels_from (is_constant (number_of word)) hs) (labels_from is_none hs))
