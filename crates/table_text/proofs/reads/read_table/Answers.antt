use Rattle.std.proofs.Common.{◌≡◌, ℕ, ◌+◌, ◌-◌, ◌≤◌, List, length, take, drop, Ok, Err, ap, subst, rules, arith, length-drop, length-take}
use Rattle.std.proofs.lemmas.List.{take_rest}
use Rattle.std.proofs.lemmas.Result.{MatchResult-at_ok, MatchResult-at_err}
use Rattle.table_text.specs.declared.lines.Line.{Line}
use Rattle.table_text.specs.Keys.{Fits}
use Rattle.table_text.specs.Lines.{line_text}
use Rattle.table_text.specs.Reading.{WrongInLine}
use Rattle.table_text.proofs.Lifted.{nothing_read, read_more, all_read, handed_out, no_text_at, read_back}
use Rattle.table_text.specs.Marks.{Marks}
use Rattle.table_text.proofs.Wrong.{err_with, err_only}
use Rattle.table_text.proofs.Splits.{some_text}
use Rattle.table_text.proofs.reads.read_table.Goals as goal

-- what was read of the rest of the text
line_read : (s : List ℕ) (at next n : ℕ) (l : Line) → Fits next l × (n ≤ length (take (length s - at) (drop at s))) × (take n (take (length s - at) (drop at s)) ≡ line_text l) → Fits next l × (n ≤ length (drop at s)) × (take n (drop at s) ≡ line_text l)
line_read s at next n l r = subst (λ x. Fits next l × (n ≤ length x) × (take n x ≡ line_text l)) (take_rest s at) r

pub loop-at-init : goal.loop-at-init
loop-at-init c = nothing_read c.args.text.now

pub loop-at-preserved : goal.loop-at-preserved
loop-at-preserved c =
    let s = c.args.text.now in
    let l = c.in_ok-line.line in
    let n = c.in_ok-line.len in
    let e : c.read_line.result ≡ Ok (l, n) = search rules in
    let r = line_read s c.loop-at.at c.loop-at.next n l (MatchResult-at_ok _ _ (l, n) e c.read_line.ensures) in
    read_more s c.loop-at.at c.loop-at.table c.loop-at.next c.loop-at.invariant l n r.0 r.1 r.2

pub loop-at-smaller : goal.loop-at-smaller
loop-at-smaller c =
    let s = c.args.text.now in
    let l = c.in_ok-line.line in
    let n = c.in_ok-line.len in
    let e : c.read_line.result ≡ Ok (l, n) = search rules in
    let r = line_read s c.loop-at.at c.loop-at.next n l (MatchResult-at_ok _ _ (l, n) e c.read_line.ensures) in
    omega (arith, some_text l, ap length r.2, length-take n (drop c.loop-at.at s), length-drop c.loop-at.at s, r.1)

pub returns-in_err-line : goal.returns-in_err-line
returns-in_err-line c =
    let e : c.from_residual.result ≡ Err c.in_err-line.field-0.0 = search rules in
    let s = c.args.text.now in
    let at = c.loop-at.at in
    let w = c.in_err-line.field-0.0 in
    let (x, is, m) = err_only c.read_line.result _ _ c.in_err-line.ensures.cases (λ x e. cc) in
    let marks : at + x.at ≤ at + x.end → at + x.end ≤ length s → Marks s (at + x.at) (at + x.end) w = search rules in
    let wrong = subst (λ y. WrongInLine c.loop-at.next y x) (take_rest s at) (MatchResult-at_err _ _ x is c.read_line.ensures) in
    let out = handed_out s at c.loop-at.table c.loop-at.next x w c.loop-at.invariant (omega arith) wrong (marks (omega (arith, wrong.inside.0)) (omega (arith, wrong.inside.1, length-drop at s))) in
    record { answer = err_with c.from_residual.result w _ _ e out; back = λ t n st q. absurd (no_text_at s _ _ out.first (t, st, q)) }

pub returns : goal.returns
returns c =
    let s = c.args.text.now in
    let r = all_read s c.loop-at.at c.loop-at.table c.loop-at.next c.loop-at.invariant (omega arith) in
    record { answer = r; back = λ t n st q. ap Ok (read_back s c.loop-at.table t r n st q) }
