use Rattle.std.proofs.Common.{◌≡◌, ◌*◌, List, length, take, drop, vec_items, sym, ap, ◌∙◌, subst, arith}
use Rattle.ftpl.specs.Paths.{holds}
use Rattle.ftpl.specs.declared.formulas.EventList.{EventList}
use Rattle.ftpl.specs.declared.formulas.Formula.{Formula}
use Rattle.monitor.specs.Monitor.{step_with}
use Rattle.monitor.specs.Boards.{Stepped, values_in}
use Rattle.monitor.proofs.Followed.{advanced}
use Rattle.monitor.proofs.Watching.{tidy_by}
use Rattle.monitor.proofs.following.advance_all.Goals as goal

pub returns : goal.returns
returns g c =
    let s = g.S.Scale.ops in
    let event = λ (e : EventList). holds e c.args.event in
    let gs = c.as_slice-formulas.result.now in
    let fs = vec_items c.args.book.now.formulas in
    let same : gs ≡ fs = c.as_slice-formulas.ensures.value in
    let long : length gs ≡ length fs = ap length same in
    let board = c.args.board.now in
    let filled = c.fill.new.values in
    let parts = c.split_at_mut-parts in
    let working = c.split_at_mut-working in
    let stepped = subst (λ (hs : List Formula). Stepped s hs (λ f. step_with s f (values_in s filled f.leaves) event) parts.result.0.now c.follow.new.parts) same c.follow.ensures in
    let all = advanced s (g.H.Host.rows c.args.host.now) (vec_items c.args.book.now.properties) fs event filled c.clear.new.values board parts.result.1.now working.result.1.now parts.result.0.now c.follow.new.parts
    (parts.ensures.front ∙ ap (λ k. take (40 * k) board) long) (parts.ensures.back ∙ ap (λ k. drop (40 * k) board) long) working.ensures.back (omega arith) c.fill.ensures stepped (omega arith) c.clear.ensures in
    record { stepped = all.0; tidy = tidy_by s _ _ board _ (sym long ∙ c.as_slice-formulas.ensures.len) all.1 }
