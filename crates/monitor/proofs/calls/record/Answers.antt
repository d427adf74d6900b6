use Rattle.std.proofs.Common.{◌≤◌, length, Some, vec_len, refl, arith}
use Rattle.ftpl.specs.Paths.{Position}
use Rattle.monitor.specs.Boards.{room}
use Rattle.monitor.proofs.Watching.{watches_more}
use Rattle.monitor.proofs.calls.record.Goals as goal

pub returns : goal.returns
returns g c =
    let s = g.S.Scale.ops in
    let book = c.args.book.now in
    let old = c.args.board.now in
    let x : Position = record { rows = g.H.Host.rows c.args.host.now; event = Some c.args.event } in
    let known : room c.len.result ≤ length old = c.in_ok-check_room.ensures in
    let fits : room (vec_len book.formulas) ≤ length old = omega arith in
    record {
      outcome = record { small = λ h. absurd (omega arith); tidy = λ h. (refl, c.advance_all.ensures.tidy) };
      watches = λ h path w. watches_more s book x g.S.Scale.laws old c.advance_all.new.board path c.advance_all.ensures.stepped w;
    }
