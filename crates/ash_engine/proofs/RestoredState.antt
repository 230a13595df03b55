-- The state that a restored table shows, once what globals hold is held.
use Rattle.std.proofs.Common.{◌≡◌, ℕ, List, map, sym, ap, ◌∙◌, subst, arith}
use Rattle.std.specs.List.{AllByRecursion}
use Rattle.ash_host.specs.declared.host_object.HostObject.{Ghosts}
use Rattle.ash_host.specs.Objects.{LiveObjects}
use Rattle.ash_objects.specs.Table.{Table, holds_of}
use Rattle.ash_run_steps.specs.RunStates.{HoldsRoots, HoldsMore, bare}
use Rattle.ash_run_steps.proofs.Bare.{same_shown}
use Rattle.ash_requests.specs.States.{State}
use Rattle.ash_states.specs.Images.{name_at, entry_named}
use Rattle.ash_states.specs.Indexes.{index_in, entry_indexed}
use Rattle.ash_table_states.specs.TableStates.{names_in, places_from, state_shown}
use Rattle.ash_engine.specs.RestoredTables.{IsTableOf}
use Rattle.ash_engine.proofs.Started.{shown}
use Rattle.ash_engine.proofs.RestoredHosts.{all_left}

-- after holds of all roots, if nothing was held before
pub holds_roots : {B : Type 0} (roots : List ℕ) (old new : Table B) → ((n : ℕ) → holds_of n old ≡ 0) → HoldsMore roots old new → HoldsRoots new roots
holds_roots roots old new none held n =
    let nothing = none n in
    let all = held.counts n in
    omega (arith, nothing, all)

module _ {B : Type 0} (G : Ghosts B) (s : State) (pool : List B) (before after : Table B) (t : IsTableOf G s pool before) (same : bare after ≡ bare before) where
  -- the objects, the services and the last number are those of the state
  pub state_is : map (entry_named (name_at s.modules)) (map (entry_indexed (index_in s.modules)) s.objects) ≡ s.objects → s.services ≡ map G.state before.services
      → state_shown G s.modules (places_from 0 s.modules) s.seq after ≡ s
  state_is back services =
      let objects = same_shown G (names_in s.modules (places_from 0 s.modules)) before after same ∙ shown G s t.saved t.are pool before t.restored back in
      let served = ap (λ (b : Table B). map G.state b.services) same ∙ sym services in
      let last = ap (λ (b : Table B). b.last) same ∙ t.last in
      ap (λ (os : LiveObjects (List ℕ)). let r : State = record { modules = s.modules; objects = os; services = map G.state after.services; last = after.last; seq = s.seq } in r) objects
      ∙ ap (λ (ss : List (List ℕ)). let r : State = record { modules = s.modules; objects = s.objects; services = ss; last = after.last; seq = s.seq } in r) served
      ∙ ap (λ (n : ℕ). let r : State = record { modules = s.modules; objects = s.objects; services = s.services; last = n; seq = s.seq } in r) last

  -- what holds of each box that was handed over holds of each that is left
  pub left_fit : (P : B → Type 0) → AllByRecursion P pool → AllByRecursion P after.pool
  left_fit P all =
      subst (λ (bs : List B). AllByRecursion P bs) (sym (ap (λ (b : Table B). b.pool) same))
      (all_left G P t.saved pool (t.restored).boxes before.pool (t.restored).drawn all)
