-- A refusal leaves the buffer, by the tests on its way.
use Rattle.matnosoru_batch.proofs.Answers.{no_harts, no_readings, no_table, made}
use Rattle.matnosoru_batch.proofs.slots.Goals as goal

pub returns-then-words-harts-clause-out_after : goal.returns-then-words-harts-clause-out_after
returns-then-words-harts-clause-out_after c =
    let a = c.args in
    (no_harts a.table.now a.words.now a.harts.now a.readings.now a.out.now c.if-words-harts.true).1

pub returns-then-words-readings-clause-out_after : goal.returns-then-words-readings-clause-out_after
returns-then-words-readings-clause-out_after c =
    let a = c.args in
    (no_readings a.table.now a.words.now a.harts.now a.readings.now a.out.now c.if-words-harts.false c.if-words-readings.true).1

pub returns-then-table-ne80-clause-out_after : goal.returns-then-table-ne80-clause-out_after
returns-then-table-ne80-clause-out_after c =
    let a = c.args in
    (no_table a.table.now a.words.now a.harts.now a.readings.now a.out.now c.if-words-harts.false c.if-words-readings.false c.if-table-ne80.true).1

pub returns-in_err-n-clause-out_after : goal.returns-in_err-n-clause-out_after
returns-in_err-n-clause-out_after c =
    let a = c.args in
    (made a.table.now a.words.now a.harts.now a.readings.now a.out.now c.if-words-harts.false c.if-words-readings.false c.if-table-ne80.false c.table_of.ensures
    c.in_err-n.ensures.value c.in_err-n.ensures.out_after).1
