use Rattle.std.proofs.Common.{◌≡◌, ◌∷◌, ◌++◌, List, [], sym, ◌∙◌, ap, subst}
use Rattle.std.specs.Prelude.{Ok}
use Rattle.std.specs.List.{AllByRecursion}
use Rattle.std.specs.Vec.Iter.{into_iter_items}
use Rattle.ash_typed.specs.Modules.{Module}
use Rattle.ash_requests.specs.States.{LoadedModule}
use Rattle.ash_plain_steps.specs.StateViews.{modules_seen}
use Rattle.ash_image.specs.SnapshotViews.{module_of, modules_of}
use Rattle.ash_states.specs.Images.{loaded_of, loaded_modules_of}
use Rattle.ash_states.specs.StateRestoring.{HasTree}
use Rattle.ash_states.proofs.Lists.{all_map}
use Rattle.ash_states.proofs.modules.read_modules.Goals as goal

one_of : (P : LoadedModule → Type 0) (done more : List LoadedModule) (one : LoadedModule)
    → AllByRecursion P (done ++ one ∷ more) → P one
one_of P [] more one h = h.0
one_of P (other ∷ done) more one h = one_of P done more one h.1

pub returns-in_default : goal.returns-in_default
returns-in_default g c =
    let Reads : LoadedModule → Type 0 = λ (m : LoadedModule). (tree : Module) × ((g.S.SourceReader.embedding c.args.sources.now).read m.source ≡ Ok tree) in
    let not_this : HasTree (g.S.SourceReader.embedding c.args.sources.now) (module_of c.in-Some.module) → ⊥ =
    rw c.in_default.is at c.in_ok-module.ensures.exact in
    let split : modules_seen c.loop-module.modules.items ++ loaded_of (module_of c.in-Some.module) ∷ loaded_modules_of (modules_of (into_iter_items c.next.new.self)) ≡ loaded_modules_of (modules_of c.args.stored.items) =
    ap (λ (left : List _). modules_seen c.loop-module.modules.items ++ loaded_modules_of (modules_of left))
    (sym c.in-Some.ensures.steps.0) ∙ c.loop-module.invariant.same in
    record {
      exact = λ all. not_this (one_of Reads (modules_seen c.loop-module.modules.items) (loaded_modules_of (modules_of (into_iter_items c.next.new.self)))
          (loaded_of (module_of c.in-Some.module)) (subst (AllByRecursion Reads) (sym split) (all_map loaded_of Reads (modules_of c.args.stored.items) all)));
    }
