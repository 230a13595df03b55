-- The code of modules, one after another.
use Rattle.std.proofs.Common.{◌≡◌, ◌+◌, ◌<◌, ℕ, List, [], ◌∷◌, ◌++◌, length, take, get_or, sym, ap, ◌∙◌, subst, arith}
use Rattle.std.specs.List.{AllZip}
use Rattle.std.proofs.lemmas.List.{take_more, map-append, length-map, length-take-le}
use Rattle.ash_requests.specs.States.{LoadedModule}
use Rattle.ash_plain_steps.specs.declared.state.LoadedModule as code_module
use Rattle.ash_plain_steps.specs.StateViews.{loaded_seen, modules_seen}
use Rattle.ash_table_states.specs.TableStates.{places_from}
use Rattle.ash_engine.specs.declared.live.Compiled.{Compiled}
use Rattle.ash_engine.specs.TableStates.{slots_of, IsCompiledFrom}

-- the indexes of one module more
places_more : (first : ℕ) (ms : List LoadedModule) (m : LoadedModule) → places_from first (ms ++ m ∷ []) ≡ places_from first ms ++ (first + length ms) ∷ []
places_more first [] m = let same : first ≡ first + 0 = omega arith in ap (λ (n : ℕ). n ∷ []) same
places_more first (x ∷ ms) m =
    let same : first + 1 + length ms ≡ first + length (x ∷ ms) = omega arith in
    ap (λ (ns : List ℕ). first ∷ ns) (places_more (first + 1) ms m ∙ ap (λ (n : ℕ). places_from (first + 1) ms ++ n ∷ []) same)

one_more : {A C : Type 0} (R : A → C → Type 0) (xs : List A) (ys : List C) (x : A) (y : C) → AllZip R xs ys → R x y → AllZip R (xs ++ x ∷ []) (ys ++ y ∷ [])
one_more R [] [] x y all r = (r, tt)
one_more R [] (b ∷ ys) x y all r = absurd all
one_more R (a ∷ xs) [] x y all r = absurd all
one_more R (a ∷ xs) (b ∷ ys) x y all r = (all.0, one_more R xs ys x y all.1 r)

module _ (ms : List code_module.LoadedModule) (i : ℕ) (d : code_module.LoadedModule) (within : i < length ms) (cs : List Compiled) (c : Compiled) where
  pub each_more : AllZip IsCompiledFrom (take i ms) cs → IsCompiledFrom (get_or ms i d) c → AllZip IsCompiledFrom (take (i + 1) ms) (cs ++ c ∷ [])
  each_more each is =
      subst (λ (xs : List code_module.LoadedModule). AllZip IsCompiledFrom xs (cs ++ c ∷ [])) (sym (take_more ms i d within))
      (one_more IsCompiledFrom (take i ms) cs (get_or ms i d) c each is)

  pub slots_more : slots_of cs ≡ places_from 0 (modules_seen (take i ms)) → c.code.module ≡ i → slots_of (cs ++ c ∷ []) ≡ places_from 0 (modules_seen (take (i + 1) ms))
  slots_more slots is =
      let many : 0 + length (modules_seen (take i ms)) ≡ i = omega (arith, length-map (take i ms) loaded_seen, length-take-le i ms (omega arith)) in
      map-append (λ (x : Compiled). x.code.module) cs (c ∷ [])
      ∙ ap (λ (ns : List ℕ). ns ++ c.code.module ∷ []) slots
      ∙ ap (λ (n : ℕ). places_from 0 (modules_seen (take i ms)) ++ n ∷ []) (is ∙ sym many)
      ∙ sym (places_more 0 (modules_seen (take i ms)) (loaded_seen (get_or ms i d)))
      ∙ ap (places_from 0) (sym (map-append loaded_seen (take i ms) (get_or ms i d ∷ [])))
      ∙ ap (λ (xs : List code_module.LoadedModule). places_from 0 (modules_seen xs)) (sym (take_more ms i d within))
