-- Boxes that are taken from a pool, one after another.
use Rattle.std.specs.Prelude.{ℕ, List, [], ◌∷◌, map, Option, Some, None}
use Rattle.ash_host.specs.declared.host_object.HostObject.{Ghosts}
use Rattle.ash_objects.specs.Restoring.{draw_box}

-- What was taken, by numbers, and what is left of the pool; or a kind of which no box was left.
pub data Drawing (B : Type 0) : Type 0 where
  Short : (kind : ℕ) → Drawing B
  Enough : (boxes : List (ℕ × B)) (left : List B) → Drawing B

module _ {B : Type 0} where
  -- with what a number took before the others
  abbrev pub with_first : ℕ → B → Drawing B → Drawing B
  with_first number box (Short kind) = Short kind
  with_first number box (Enough boxes left) = Enough ((number, box) ∷ boxes) left

  -- a number took a box from a pool, or there was none; the others take theirs from what is left
  abbrev pub draw_then : ℕ → ℕ → Option (B × List B) → (List B → Drawing B) → Drawing B
  draw_then number kind None others = Short kind
  draw_then number kind (Some taken) others = with_first number taken.0 (others taken.1)

  -- Each number, with its kind, takes the first box of the kind that is left, in order.
  abbrev pub draw_all : Ghosts B → List (ℕ × ℕ) → List B → Drawing B
  draw_all G [] pool = Enough [] pool
  draw_all G (e ∷ more) pool = draw_then e.0 e.1 (draw_box G e.1 pool) (λ left. draw_all G more left)

  -- boxes by their numbers, with the kind of each in its place
  abbrev pub kinds_of : Ghosts B → List (ℕ × B) → List (ℕ × ℕ)
  kinds_of G boxes = map (λ (e : ℕ × B). (e.0, G.kind_of e.1)) boxes
