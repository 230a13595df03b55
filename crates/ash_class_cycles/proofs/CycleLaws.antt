-- Relations that hold of the same places have the same ranks and the same cycle; and at most one cycle is
-- reported.
use Rattle.std.proofs.Common.{◌≡◌, ℕ, ◌<◌, ◌↔◌, List, [], ◌∷◌, length, Vec, Global, Result, Ok, Err, IfOk, IfErr, OnOk}
use Rattle.std.proofs.Common.{inl, inr, refl, sym, ap₂, subst, subst₂, arith}
use Rattle.std.proofs.lemmas.List.{length-map}
use Rattle.std.proofs.lemmas.Option.{slice_get_within}
use Rattle.ash_tree.specs.Tree.{Class}
use Rattle.ash_class_cycles.specs.Paths.{IsPath, Reaches, IsNoLater, IsForemost, IsReportedCycle, AreRanksAlong}
use Rattle.ash_class_cycles.specs.Marking.{rows_of, Goes, AreWithin}
use Rattle.ash_class_cycles.specs.ClassReferences.{DeclaredClassRefers}

same_path : (R Q : ℕ → ℕ → Type 0) → ((from to : ℕ) → R from to → Q from to) → (from : ℕ) (between : List ℕ) (to : ℕ)
    → IsPath R from between to → IsPath Q from between to
same_path R Q there from [] to path = there from to path
same_path R Q there from (next ∷ between) to path = (there from next path.0, same_path R Q there next between to path.1)

pub same_ranks : (R Q : ℕ → ℕ → Type 0) (places : ℕ) (ranks : List ℕ) → ((from to : ℕ) → R from to ↔ Q from to)
    → AreRanksAlong R places ranks → AreRanksAlong Q places ranks
same_ranks R Q places ranks same h =
    record { count = h.count; within = h.within; greater = λ from to q. h.greater from to ((same from to).1 q) }

pub same_acyclic : (R Q : ℕ → ℕ → Type 0) → ((from to : ℕ) → R from to ↔ Q from to)
    → ((place : ℕ) → Reaches R place place → ⊥) → (place : ℕ) → Reaches Q place place → ⊥
same_acyclic R Q same h =
    λ place cycle. h place (cycle.0, same_path Q R (λ from to. (same from to).1) place cycle.0 place cycle.1)

pub same_cycle : (R Q : ℕ → ℕ → Type 0) (first : ℕ) (others : List ℕ) → ((from to : ℕ) → R from to ↔ Q from to)
    → IsReportedCycle R first others → IsReportedCycle Q first others
same_cycle R Q first others same h =
    let there : (from to : ℕ) → R from to → Q from to = λ from to. (same from to).0 in
    let back : (from to : ℕ) → Q from to → R from to = λ from to. (same from to).1 in
    record {
      cycle = record {
        path = same_path R Q there first others first h.cycle.path;
        shortest = λ other path. h.cycle.shortest other (same_path Q R back first other first path);
        foremost = λ other path long. h.cycle.foremost other (same_path Q R back first other first path) long;
      };
      earliest = λ other cycle. h.earliest other (cycle.0, same_path Q R back other cycle.0 other cycle.1);
    }

-- of two paths of one length, neither later than the other
same_order : (xs ys : List ℕ) → length xs ≡ length ys → IsNoLater xs ys → IsNoLater ys xs → xs ≡ ys
same_order [] [] e h k = refl
same_order [] (y ∷ ys) e h k = absurd (omega (arith, e))
same_order (x ∷ xs) [] e h k = absurd h
same_order (x ∷ xs) (y ∷ ys) e h k = elim h [
  | inl less ↦
      elim k [ inl more ↦ absurd (omega (arith, less, more)) | inr same ↦ absurd (omega (arith, less, same.0)) ]
  | inr first ↦
      elim k [
        | inl more ↦ absurd (omega (arith, more, first.0))
        | inr same ↦ ap₂ (λ (z : ℕ) (zs : List ℕ). z ∷ zs) first.0 (same_order xs ys (omega (arith, e)) first.1 same.1)
      ]
]

same_foremost : (R : ℕ → ℕ → Type 0) (from to : ℕ) (xs ys : List ℕ) → IsForemost R from xs to → IsForemost R from ys to
    → xs ≡ ys
same_foremost R from to xs ys h k =
    let e : length xs ≡ length ys = omega (arith, h.shortest ys k.path, k.shortest xs h.path) in
    same_order xs ys e (h.foremost ys k.path (sym e)) (k.foremost xs h.path e)

pub only_cycle : (R : ℕ → ℕ → Type 0) (first : ℕ) (others : List ℕ) → IsReportedCycle R first others
    → (a : ℕ) (bs : List ℕ)
    → IsReportedCycle R a bs → (a ≡ first) × (bs ≡ others)
only_cycle R first others h a bs k =
    let e : a ≡ first = omega (arith, h.earliest a (bs, k.cycle.path), k.earliest first (others, h.cycle.path)) in
    (e, same_foremost R first first bs others (subst (λ (n : ℕ). IsForemost R n bs n) e k.cycle) h.cycle)

-- whoever refers to a class is a class
pub rows_within : (classes : List Class) (table : List (Vec ℕ Global)) → length table ≡ length classes
    → ((from to : ℕ) → Goes (rows_of table) from to ↔ DeclaredClassRefers classes from to) → AreWithin (rows_of table)
rows_within classes table long same = λ from to goes.
    let r = (same from to).0 goes in
    let l : from < length classes = slice_get_within classes from r.2.0 r.2.1 in
    omega (arith, l, long, length-map table (λ (row : Vec ℕ Global). row.items))

-- what was read holds of the classes of the script
pub same_rows : (table read : List (Vec ℕ Global)) (seen_classes classes : List Class) → read ≡ table
    → seen_classes ≡ classes → ((from to : ℕ) → Goes (rows_of table) from to ↔ DeclaredClassRefers seen_classes from to)
    → (from to : ℕ) → Goes (rows_of read) from to ↔ DeclaredClassRefers classes from to
same_rows table read seen_classes classes d e h =
    λ from to. subst₂
    (λ (t : List (Vec ℕ Global)) (cs : List Class). Goes (rows_of t) from to ↔ DeclaredClassRefers cs from to) (sym d) e (h from to)

pub in_ok : {T E : Type 0} (r : Result T E) (P Q : T → Type 0) → ((x : T) → P x → Q x) → IfOk r P → IfOk r Q
in_ok (Ok x) P Q f h = f x h
in_ok (Err e) P Q f h = h

pub in_err : {T E : Type 0} (r : Result T E) (P Q : E → Type 0) → ((x : E) → P x → Q x) → IfErr r P → IfErr r Q
in_err (Ok x) P Q f h = h
in_err (Err e) P Q f h = f e h

pub on_ok : {T E : Type 0} (r : Result T E) (P Q : Type 0) → (P → Q) → OnOk r P → OnOk r Q
on_ok (Ok x) P Q f h = f h
on_ok (Err e) P Q f h = h
