use Rattle.std.proofs.Common.{◌≡◌, ◌-◌, ◌≤◌, List, length, Some, Ok, vec_items, vec_len, mul-le-mul_right, sym, ap, ◌∙◌, arith, rules}
use Rattle.ftpl.specs.Numbers.{numbered}
use Rattle.ftpl.specs.declared.formulas.Formula.{Formula}
use Rattle.monitor.specs.Monitor.{shown}
use Rattle.monitor.specs.Layout.{viewed}
use Rattle.monitor.specs.Boards.{room, part}
use Rattle.monitor.proofs.Sizes.{held_fits}
use Rattle.monitor.proofs.Watching.{watched_value, shown_some, numbered_here}
use Rattle.monitor.proofs.calls.read.Goals as goal

pub load-requires : goal.load-requires
load-requires g c =
    let known : room c.len.result ≤ length c.args.board.now = c.in_ok-check_room.ensures in
    let le : 40 ≤ length c.args.board.now = omega arith in
    let m = mul-le-mul_right (prog.Memory.size (denote.Memory.lone g.row.S.mir)) le in
    (held_fits (denote.Memory.lone g.row.S.mir) (omega arith), search rules)

pub show-requires : goal.show-requires
show-requires g c =
    let known : room c.len.result ≤ length c.args.board.now = c.in_ok-check_room.ensures in
    let le : 40 ≤ length c.args.board.now = omega arith in
    let m = mul-le-mul_right (prog.Memory.size (denote.Memory.lone g.row.S.mir)) le in
    held_fits (denote.Memory.lone g.row.S.mir) (omega arith)

pub returns : goal.returns
returns g c =
    let s = g.S.Scale.ops in
    let book = c.args.book.now in
    let n = c.args.number in
    let board = c.args.board.now in
    let fs = vec_items book.formulas in
    let ps = vec_items book.properties in
    let f = c.in_ok-f.f.now in
    let known : room c.len.result ≤ length board = c.in_ok-check_room.ensures in
    let fits : room (vec_len book.formulas) ≤ length board = omega arith in
    let long : length fs ≡ vec_len book.formulas = sym (ap length c.as_slice-formulas.ensures.value) ∙ c.as_slice-formulas.ensures.len in
    let found : Some f ≡ numbered c.as_slice-formulas.result.now n = search rules in
    let at = numbered_here fs n f (found ∙ ap (λ (gs : List Formula). numbered gs n) c.as_slice-formulas.ensures.value) in
    let some : 1 ≤ n = at.0 in
    let few : n ≤ length fs = at.1 in
    record {
      small = λ h. absurd (omega arith);
      none = λ h no. absurd (no some (omega arith));
      value = λ h a b path l w.
          ap Ok (c.show.ensures ∙ ap (shown s f) (c.load.ensures ∙ ap (λ r. viewed s (part (r - 1) board)) c.from.ensures ∙ w.each (n - 1) f (record { inside = omega arith; is = at.2 })) ∙ watched_value s g.S.Scale.laws ps f path l ∙ sym (shown_some s ps fs path n f some few at.2));
    }
