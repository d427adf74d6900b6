use Rattle.std.proofs.Common.{◌++◌, get_or, sym, ap, ◌∙◌, arith}
use Rattle.std.specs.List.{flat_map}
use Rattle.std.proofs.lemmas.List.{take_all}
use Rattle.table_text.specs.declared.lines.Key.TheVariants.{Place}
use Rattle.table_text.specs.Lines.{order, ended, line_text}
use Rattle.table_text.proofs.Joins.{joined_more}
use Rattle.table_text.proofs.writes.spell.Goals as goal

pub loop-key-preserved : goal.loop-key-preserved
loop-key-preserved c =
    let w = c.push_word.ensures in
    let i = c.loop-key.invariant in
    (omega (arith, w.bound, i.0), w.text ∙ ap (λ f. f ++ ended c.args.line (get_or order c.loop-key.key-index Place)) i.1 ∙ sym (joined_more (ended c.args.line) order c.loop-key.key-index Place (omega arith)))

pub returns : goal.returns
unfolding line_text
returns c = c.loop-key.invariant.1 ∙ ap (flat_map (ended c.args.line)) (take_all c.loop-key.key-index order (omega arith))
