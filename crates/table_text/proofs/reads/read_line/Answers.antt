use Rattle.std.proofs.Common.{◌++◌, get_or, sym, ap, ◌∙◌, arith}
use Rattle.std.specs.List.{flat_map}
use Rattle.std.proofs.lemmas.List.{take_all}
use Rattle.table_text.specs.declared.lines.Key.TheVariants.{Place}
use Rattle.table_text.specs.Lines.{ended, order, line_text}
use Rattle.table_text.proofs.Joins.{joined_more}
use Rattle.table_text.proofs.Wrong.{before_at}
use Rattle.table_text.proofs.reads.read_line.Goals as goal

pub loop-key-preserved : goal.loop-key-preserved
loop-key-preserved c =
    let r = c.in_ok-line.ensures in
    let l = c.in_ok-line.field-0-0 in
    let j = c.loop-key.key-index in
    (r.0, r.1, r.2 ∙ ap (λ s. s ++ ended l (get_or order j Place)) (before_at l j (omega arith)) ∙ sym (joined_more (ended l) order j Place (omega arith)))

pub returns : goal.returns
unfolding line_text
returns c =
    let i = c.loop-key.invariant in
    (i.0, i.1, i.2 ∙ ap (flat_map (ended c.loop-key.line)) (take_all c.loop-key.key-index order (omega arith)))
