-- Where both tables have 80 bytes, the answer is the place of their first difference.
use Rattle.utils.proofs.Prelude.{refl}
use Rattle.std.proofs.Common.{Some, None}
use Rattle.matnosoru_csrs.proofs.Tables.{both_long}
use Rattle.matnosoru_csrs.proofs.matnosoru_tables_differ.Goals as goal

pub returns-in-Some : goal.returns-in-Some
returns-in-Some c =
    both_long c.args.a.now c.args.b.now _ c.if-a-ne80.false c.if-b-ne80.false (Some c.in-Some.first)
    c.table_of.ensures c.table_of-2.ensures c.in-Some.ensures c.place_of.ensures

pub returns-in-None : goal.returns-in-None
returns-in-None c =
    both_long c.args.a.now c.args.b.now _ c.if-a-ne80.false c.if-b-ne80.false None
    c.table_of.ensures c.table_of-2.ensures c.in-None.ensures refl
