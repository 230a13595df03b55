use Rattle.std.proofs.Common.{sym, ◌≡◌, false, arith}
use Rattle.std.specs.Prelude.{Err}
use Rattle.std.proofs.lemmas.Result.{on_ok_weaker}
use Rattle.ash_host.specs.Reach.{is_among}
use Rattle.ash_image.specs.Search.{progress_of}
use Rattle.ash_image.proofs.OrderLaws.{search_is, search_found}
use Rattle.ash_image.proofs.SearchLaws.{visited_mark, visited_missing}
use Rattle.ash_image.proofs.reaching.look_for.Goals as goal

pub mark-requires : goal.mark-requires
mark-requires c =
    let found = search_found c.args.alive.now c.args.number c.in-Ok.index c.in-Ok.ensures.position c.requires.rise in
    record { within = omega (arith, found.0, c.requires.size) }

pub returns-in-Ok : goal.returns-in-Ok
returns-in-Ok c = record {
  visited =
      let found = search_found c.args.alive.now c.args.number c.in-Ok.index c.in-Ok.ensures.position c.requires.rise in
      on_ok_weaker c.mark.result
      (λ is. visited_mark c.args.alive.now c.args.number c.in-Ok.index (progress_of c.args.search.now)
      (progress_of c.mark.new.search) c.requires.rise found.0 found.1 c.requires.size is)
      c.mark.ensures.value;
}

pub returns-in-Err : goal.returns-in-Err
returns-in-Err c = record {
  visited =
      let missing : is_among c.args.alive.now c.args.number ≡ false =
      sym (search_is c.args.alive.now c.args.number (Err c.in-Err.field-0) c.in-Err.ensures.position c.requires.rise) in
      visited_missing c.args.alive.now c.args.number (progress_of c.args.search.now) missing;
}
