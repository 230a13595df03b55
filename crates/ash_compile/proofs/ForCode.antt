-- The code of a `for` of a sound module does what it does.
use Rattle.std.proofs.Common.{◌≡◌, ◌≤◌, ℕ, ◌+◌, List, take, length, refl, sym, ap, ◌∙◌, subst, arith, true, Bool}
use Rattle.std.proofs.lemmas.List.{take_all, length-take}
use Rattle.ash_host.specs.declared.word.Word.{Word}
use Rattle.ash_typed.specs.declared.types.VarType.{VarType}
use Rattle.ash_typed.specs.StatementTree.{Head, For, Loop}
use Rattle.ash_meaning.specs.Activity.{Frame, Activity, in_frame}
use Rattle.ash_meaning.specs.Runs.{Run, Progress, Done, Ended, NoStep, onward, give, ◌>>=◌, ◌>>◌}
use Rattle.ash_meaning.specs.Frames.{tick}
use Rattle.ash_meaning.specs.Releases as releases
use Rattle.ash_meaning.specs.Releases.{keeping, leave_blocks, count_locals}
use Rattle.ash_meaning.specs.StatementMeaning.{Flow, On, Broke, Continued, Returned, begin, loop, statement, in_block, end_block}
use Rattle.ash_code.specs.declared.instruction.Instruction.TheVariants as i
use Rattle.ash_compile.specs.Stretches.{Has}
use Rattle.ash_compile.specs.Performances.{Exits, Acts, Performs, Lands, by_release}
use Rattle.ash_compile.specs.Emission.{Scene, IsScene, calls_of, Good}
use Rattle.ash_compile.proofs.Typed.{values_long}
use Rattle.ash_compile.proofs.Leaving as leaving
use Rattle.ash_compile.proofs.Loops as loops
use Rattle.ash_compile.proofs.Loops.{Spends, Whole, came}
use Rattle.ash_compile.proofs.TypedStatements.{Ready, IsRanked, whole, spends_tick}
use Rattle.ash_compile.proofs.BlockCode.{with_types, SpendsTo}

-- A block that is left by `break` left its inside so.
broke_inside : (flow : Flow) (count : ℕ) (b d : Activity) → (leave_blocks count >> end_block flow) b ≡ Done Broke d
    → d ≡ in_frame (keeping count) b
broke_inside flow count b d is = by_flow flow is
  where
    At : Progress Flow → Type 0
    At (Done Broke x) = x ≡ in_frame (keeping count) b
    At _ = Unit {0}

    by_flow : (f : Flow) → (leave_blocks count >> end_block f) b ≡ Done Broke d → d ≡ in_frame (keeping count) b
    by_flow Broke same = subst (λ (p : Progress Flow). At p) same refl
    by_flow Continued same = absurd (cc)
    by_flow (Returned value) same = absurd (cc)
    by_flow On same =
        let there = came (releases.release (in_frame (keeping count) b)) (λ _. give On) Broke d same in
        let last = there.3 in absurd (cc)

module _ (s : Scene) (scene : IsScene s) (ranked : IsRanked s) where
  -- The head and the loop are a block: the code behind the loop leaves it, and a `break` leads to its release point.
  pub does_for : (exits : Exits) (line : ℕ) (head : Head) (types : List VarType) (inside : Loop)
      (from mid done more : ℕ)
      → SpendsTo (Ready s) (begin (calls_of s) head) (Ready (with_types s types))
      → Spends (Ready (with_types s types)) (loop (calls_of s) s.depth line inside)
      → (exits.continued).outer ≤ length (s.env).locals → length (s.env).locals ≤ more
      → Has s.setting (Ready s) s.function s.room from (i.Tick line)
      → Acts s.setting (Ready s) s.function s.room (begin (calls_of s) head) (from + 1) mid (length (s.env).locals) more
      → Performs s.setting (Ready (with_types s types)) s.function s.room
      (record exits { broken = record { at = done + 1; outer = length (s.env).locals } })
      (loop (calls_of s) s.depth line inside) mid done more more
      → Has s.setting (Ready s) s.function s.room done (i.LeaveBlocks (length (s.env).locals))
      → Has s.setting (Ready s) s.function s.room (done + 1) i.Release
      → Performs s.setting (Ready s) s.function s.room exits (statement (calls_of s) s.depth (For line head inside)) from
      (done + 1 + 1) (length (s.env).locals) (length (s.env).locals)
  does_for exits line head types inside from mid done more begins spends also grows has acts does has_leave has_release =
      let locals = length (s.env).locals in
      let inner = begin (calls_of s) head >> loop (calls_of s) s.depth line inside in
      let past : Exits = record exits { broken = record { at = done + 1; outer = locals } } in
      loops.after_breaks s.setting (Ready s) s.function s.room exits (tick line >> in_block inner) from (done + 1)
      (done + 1 + 1) locals
      (loops.ticks_then s.setting (Ready s) s.function s.room past (Ready s) (in_block inner) line from (done + 1 + 1) locals
      locals has (λ a b v good is. (spends_tick s scene line a b v good is).0)
      (leaving.blocks s.setting (Ready s) s.function s.room past inner (from + 1) done (done + 1 + 1) locals more
      (omega arith) also grows
      (loops.acts_first s.setting (Ready s) s.function s.room past (Ready (with_types s types)) (begin (calls_of s) head)
      (loop (calls_of s) s.depth line inside) (from + 1) mid done locals more more acts
      (λ a b v good is. (begins a b v good is).0) does)
      (leaving.ends_apart s.setting (Ready s) s.function s.room done locals more grows has_leave has_release)
      (λ a b good is. ranked (with_types s types).env b ((kept a b On good is).0))))
      (by_release has_release refl)
      broke
    where
      kept : (a b : Activity) (f : Flow) → Ready s a
          → (begin (calls_of s) head >> loop (calls_of s) s.depth line inside) a ≡ Done f b → Ready (with_types s types) b
      kept a b f good is =
          let there = came (begin (calls_of s) head a) (λ _. loop (calls_of s) s.depth line inside) f b is in
          (spends there.1 b f ((begins a there.1 there.0 good there.2).0) there.3).0

      broke : (a b : Activity) → Ready s a
          → (tick line >> in_block (begin (calls_of s) head >> loop (calls_of s) s.depth line inside)) a ≡ Done Broke b
          → (((s.setting).test).has_ranks b.world ≡ true) × Whole (length (s.env).locals) b
      broke a b good is =
          let inner = begin (calls_of s) head >> loop (calls_of s) s.depth line inside in
          let first = came (tick line a) (λ _. in_block inner) Broke b is in
          let begun = (spends_tick s scene line a first.1 first.0 good first.2).0 in
          let count = length ((first.1).frame).locals in
          let last = came (inner first.1) (λ f. leave_blocks count >> end_block f) Broke b first.3 in
          let end = kept first.1 last.1 last.0 begun last.2 in
          let same = broke_inside last.0 count last.1 b last.3 in
          let few : count ≤ length (s.env).locals = omega (arith, values_long ((begun.0).frame).locals) in (
            ap (λ (x : Activity). ((s.setting).test).has_ranks x.world) same ∙ ranked (with_types s types).env last.1 end.0,
            ap (λ (x : Activity). (x.frame).locals) same
                ∙ sym (take_all (length (s.env).locals) (take count ((last.1).frame).locals)
                (omega (arith, few, length-take count ((last.1).frame).locals)))
                ∙ ap (λ (x : Activity). take (length (s.env).locals) (x.frame).locals) (sym same),
          )
