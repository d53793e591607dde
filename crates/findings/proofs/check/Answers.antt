use Rattle.std.proofs.Common.{sym, refl, ◌∙◌, rules}
use Rattle.findings.proofs.Reports.{put_if_ok, no_room_if_err}
use Rattle.findings.proofs.Unique.{one_list}
use Rattle.findings.proofs.Whole.{few_rows, many_rows, too_many, written, never_refused}
use Rattle.findings.proofs.check.Goals as goal

pub returns-then-rows-gt-MOST_ROWS : goal.returns-then-rows-gt-MOST_ROWS
returns-then-rows-gt-MOST_ROWS g c =
    record {
      list = (many_rows c.args.road.now (g.L.Limit.admitted c.args.limit.now) c.args.rows.now c.if-rows-gt-MOST_ROWS.true, refl);
      one = one_list;
    }

pub returns-then-not-has_room : goal.returns-then-not-has_room
returns-then-not-has_room g c =
    record {
      list = (
        few_rows c.args.road.now (g.L.Limit.admitted c.args.limit.now) c.args.rows.now c.if-rows-gt-MOST_ROWS.false,
        too_many c.args.road.now (g.L.Limit.admitted c.args.limit.now) c.args.rows.now (g.L.Limit.lawful c.args.limit.now) _
            (sym c.has_room.ensures ∙ c.if-not-has_room.true),
        refl,
      );
      one = one_list;
    }

pub returns-in_err-map_err : goal.returns-in_err-map_err
returns-in_err-map_err g c =
    absurd
    (never_refused c.args.road.now (g.L.Limit.admitted c.args.limit.now) c.args.rows.now c.args.memory.now c.empty-findings.result
    (sym c.has_room.ensures ∙ c.if-not-has_room.false) c.empty-findings.ensures.slots c.empty-findings.ensures.count
    (no_room_if_err _ c.report.new.findings _ c.report.result (search rules) c.report.ensures.report))

pub returns : goal.returns
returns g c =
    record {
      list = (
        few_rows c.args.road.now (g.L.Limit.admitted c.args.limit.now) c.args.rows.now c.if-rows-gt-MOST_ROWS.false,
        written c.args.road.now (g.L.Limit.admitted c.args.limit.now) c.args.rows.now (g.L.Limit.lawful c.args.limit.now)
            c.args.memory.now _ c.len.result c.empty-findings.result c.report.new.findings (search rules)
            c.empty-findings.ensures.slots c.empty-findings.ensures.count c.len.ensures
            (put_if_ok _ c.report.new.findings _ c.report.result (search rules) c.report.ensures.report),
      );
      one = one_list;
    }
