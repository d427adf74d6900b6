use Rattle.std.proofs.Common.{◌≡◌, ◌*◌, ◌≤◌, length, drop, None, vec_len, refl, ap, ◌∙◌, sym, arith, rules}
use Rattle.ftpl.specs.Paths.{Position}
use Rattle.monitor.specs.Boards.{room}
use Rattle.monitor.proofs.Watching.{tidy_since, watches_first}
use Rattle.monitor.proofs.calls.begin.Goals as goal

pub returns : goal.returns
returns g c =
    let s = g.S.Scale.ops in
    let book = c.args.book.now in
    let n = vec_len book.formulas in
    let old = c.args.board.now in
    let mid = c.start_all.new.board in
    let new = c.advance_all.new.board in
    let x : Position = record { rows = g.H.Host.rows c.args.host.now; event = None } in
    let known : room c.len.result ≤ length old = c.in_ok-check_room.ensures in
    let fits : room n ≤ length old = omega arith in
    let count : c.len-2.result ≡ n = c.len-2.ensures in
    let kept : drop (40 * n) mid ≡ drop (40 * n) old = ap (λ k. drop (40 * k) mid) (sym count) ∙ c.start_all.ensures.beyond ∙ ap (λ k. drop (40 * k) old) count in
    record {
      outcome = record { small = λ h. absurd (omega arith); tidy = λ h. (refl, tidy_since s n old mid new kept c.advance_all.ensures.tidy) };
      watches = λ h. watches_first s book x mid new (λ i l. c.start_all.ensures.started i (omega arith)) (search rules) c.advance_all.ensures.stepped;
    }
