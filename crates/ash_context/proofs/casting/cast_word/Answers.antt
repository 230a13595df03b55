use Rattle.std.proofs.Common.{sym, subst}
use Rattle.ash_host.specs.declared.word.Word.{Word}
use Rattle.ash_run_steps.specs.Becoming.{Becomes}
use Rattle.ash_run_steps.specs.ClassPlaces.{IsAlone}
use Rattle.ash_run_steps.specs.Guarded.{give}
use Rattle.ash_run_steps.proofs.Composed.{comes_then}
use Rattle.ash_code.specs.declared.code.CodeParts.{CodeParts}
use Rattle.ash_code.specs.Controls.{word_at}
use Rattle.ash_code.specs.Performing.{put, own_name, classes_of}
use Rattle.ash_code.specs.Steps.{cast}
use Rattle.ash_context.specs.Positions.{control_of, came_to}
use Rattle.ash_context.proofs.casting.cast_word.Goals as goal

pub returns : goal.returns
returns g c =
    let a = c.args in
    let old = a.state.now in
    let at = control_of a.at old.frames in
    let new = c.store.new.state in
    let word = c.cast-word.result in
    record {
      does = λ s same.
          let alone : IsAlone s.names a.code.now.module = subst (λ (code : CodeParts). IsAlone s.names code.module) same s.alone in
          comes_then g.B.HostObject s.names (cast (own_name s) (classes_of s) a.object_type (word_at a.from at)) (put a.to at) old old new word (came_to c.store.result new.frames)
          (subst (λ (w : Word). Becomes g.B.HostObject s.names (cast (own_name s) (classes_of s) a.object_type w) old (give word) old) c.word_at.ensures.word
          (subst (λ (code : CodeParts). Becomes g.B.HostObject s.names (cast ((s.names).modules code.module) (code.classes).items a.object_type c.word_at.result) old (give word) old) (sym same) (c.cast-word.ensures.cast s.names alone)))
          (c.store.ensures.put s);
    }
