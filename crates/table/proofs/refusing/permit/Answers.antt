use Rattle.std.proofs.Common.{ap}
use Rattle.table.specs.Refusals.{refusal}
use Rattle.table.specs.Steps.{as_answer}
use Rattle.table.proofs.Telling.{here, past, no_more}
use Rattle.table.proofs.refusing.permit.Goals as goal

pub returns-then-is_beyond : goal.returns-then-is_beyond
unfolding refusal
returns-then-is_beyond g c =
    here _ _ _ c.is_beyond.ensures c.if-is_beyond.true

pub returns-then-has_wrong_rows : goal.returns-then-has_wrong_rows
unfolding refusal
returns-then-has_wrong_rows g c =
    past _ _ _ c.is_beyond.ensures c.if-is_beyond.false
    (here _ _ _ c.has_wrong_rows.ensures c.if-has_wrong_rows.true)

pub returns-then-is_out_of_range : goal.returns-then-is_out_of_range
unfolding refusal
returns-then-is_out_of_range g c =
    past _ _ _ c.is_beyond.ensures c.if-is_beyond.false
    (past _ _ _ c.has_wrong_rows.ensures c.if-has_wrong_rows.false
    (here _ _ _ c.is_out_of_range.ensures c.if-is_out_of_range.true))

pub returns-then-is_tied : goal.returns-then-is_tied
unfolding refusal
returns-then-is_tied g c =
    past _ _ _ c.is_beyond.ensures c.if-is_beyond.false
    (past _ _ _ c.has_wrong_rows.ensures c.if-has_wrong_rows.false
    (past _ _ _ c.is_out_of_range.ensures c.if-is_out_of_range.false
    (here _ _ _ c.is_tied.ensures c.if-is_tied.true)))

pub returns-then-is_running : goal.returns-then-is_running
unfolding refusal
returns-then-is_running g c =
    past _ _ _ c.is_beyond.ensures c.if-is_beyond.false
    (past _ _ _ c.has_wrong_rows.ensures c.if-has_wrong_rows.false
    (past _ _ _ c.is_out_of_range.ensures c.if-is_out_of_range.false
    (past _ _ _ c.is_tied.ensures c.if-is_tied.false
    (here _ _ _ c.is_running.ensures c.if-is_running.true))))

pub returns-then-is_in_use : goal.returns-then-is_in_use
unfolding refusal
returns-then-is_in_use g c =
    past _ _ _ c.is_beyond.ensures c.if-is_beyond.false
    (past _ _ _ c.has_wrong_rows.ensures c.if-has_wrong_rows.false
    (past _ _ _ c.is_out_of_range.ensures c.if-is_out_of_range.false
    (past _ _ _ c.is_tied.ensures c.if-is_tied.false
    (past _ _ _ c.is_running.ensures c.if-is_running.false
    (here _ _ _ c.is_in_use.ensures c.if-is_in_use.true)))))

pub returns-then-makes_loop : goal.returns-then-makes_loop
unfolding refusal
returns-then-makes_loop g c =
    past _ _ _ c.is_beyond.ensures c.if-is_beyond.false
    (past _ _ _ c.has_wrong_rows.ensures c.if-has_wrong_rows.false
    (past _ _ _ c.is_out_of_range.ensures c.if-is_out_of_range.false
    (past _ _ _ c.is_tied.ensures c.if-is_tied.false
    (past _ _ _ c.is_running.ensures c.if-is_running.false
    (past _ _ _ c.is_in_use.ensures c.if-is_in_use.false
    (here _ _ _ c.makes_loop.ensures c.if-makes_loop.true))))))

pub returns-then-is_taken : goal.returns-then-is_taken
unfolding refusal
returns-then-is_taken g c =
    past _ _ _ c.is_beyond.ensures c.if-is_beyond.false
    (past _ _ _ c.has_wrong_rows.ensures c.if-has_wrong_rows.false
    (past _ _ _ c.is_out_of_range.ensures c.if-is_out_of_range.false
    (past _ _ _ c.is_tied.ensures c.if-is_tied.false
    (past _ _ _ c.is_running.ensures c.if-is_running.false
    (past _ _ _ c.is_in_use.ensures c.if-is_in_use.false
    (past _ _ _ c.makes_loop.ensures c.if-makes_loop.false
    (here _ _ _ c.is_taken.ensures c.if-is_taken.true)))))))

pub returns-else-is_taken : goal.returns-else-is_taken
unfolding refusal
returns-else-is_taken g c =
    past _ _ _ c.is_beyond.ensures c.if-is_beyond.false
    (past _ _ _ c.has_wrong_rows.ensures c.if-has_wrong_rows.false
    (past _ _ _ c.is_out_of_range.ensures c.if-is_out_of_range.false
    (past _ _ _ c.is_tied.ensures c.if-is_tied.false
    (past _ _ _ c.is_running.ensures c.if-is_running.false
    (past _ _ _ c.is_in_use.ensures c.if-is_in_use.false
    (past _ _ _ c.makes_loop.ensures c.if-makes_loop.false
    (past _ _ _ c.is_taken.ensures c.if-is_taken.false
    (ap as_answer no_more))))))))
