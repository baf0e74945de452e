-- Too little room is the answer 0 with nothing written, and otherwise the lines are those of `put_totals`. Assumes nothing.
use Rattle.std.proofs.Common.{length, le-ltb, lt-ltb}
use Rattle.tally.specs.Text.{shown_in}
use Rattle.text.proofs.Texts.{from_first}
use Rattle.tally.proofs.report.show.Goals as goal

pub returns-then-out-lt-ROOM : goal.returns-then-out-lt-ROOM
unfolding shown_in
returns-then-out-lt-ROOM c =
    let e = lt-ltb (length c.args.out.now) 1024 c.if-out-lt-ROOM.true in
    record { count = rw e; places = rw e }

pub returns : goal.returns
unfolding shown_in
returns c =
    let e = le-ltb (length c.args.out.now) 1024 c.if-out-lt-ROOM.false in
    record { count = rw e (from_first c.put_totals.ensures).0; places = rw e (from_first c.put_totals.ensures).1 }
