use Rattle.std.proofs.Common.{sym, ap, ◌∙◌}
use Rattle.std.proofs.lemmas.Result.{err_from_is_err_and}
use Rattle.examination.specs.Search.{exam_of}
use Rattle.findings.specs.Writes.{write_answer, write_left}
use Rattle.findings.proofs.Written.{ended-by, none-by, short-answer, short-left, answer, left}
use Rattle.findings.proofs.write.write.Goals as goal

pub returns-in_err-kind : goal.returns-in_err-kind
returns-in_err-kind g c =
    let p = err_from_is_err_and c.from_residual.result c.from_residual.ensures.1 in
    let none = none-by g.M.State.Coded.code g.M.State.Coded.width (g.T.Table.room c.args.table.now) (g.T.Table.list c.args.table.now) c.args.trail.now (exam_of c.args.exam.now) c.args.sheet.now
    c.outcome-outcome.result _ c.if-sheet-gt-LONGEST.false c.outcome-outcome.ensures c.in_err-kind.ensures in
    record { answer = rw (p.1, p.2) (sym (ap (write_answer _) none)); out = sym (ap (write_left _) none) }

pub returns-then-out-needed : goal.returns-then-out-needed
returns-then-out-needed g c =
    let h = ended-by g.M.State.Coded.code g.M.State.Coded.width (g.T.Table.room c.args.table.now) (g.T.Table.list c.args.table.now) c.args.trail.now (exam_of c.args.exam.now) c.args.sheet.now c.in_ok-kind.kind c.in_ok-size.size c.outcome-outcome.result
    c.outcome-outcome.ensures c.if-sheet-gt-LONGEST.false c.in_ok-kind.ensures (sym c.matches.ensures ∙ c.if-not-matches.false) c.in_ok-size.ensures.told in
    record { answer = short-answer h c.args.out.now c.if-out-needed.true; out = short-left h c.args.out.now c.if-out-needed.true }

pub returns : goal.returns
returns g c =
    let h = ended-by g.M.State.Coded.code g.M.State.Coded.width (g.T.Table.room c.args.table.now) (g.T.Table.list c.args.table.now) c.args.trail.now (exam_of c.args.exam.now) c.args.sheet.now c.in_ok-kind.kind c.in_ok-size.size c.outcome-outcome.result
    c.outcome-outcome.ensures c.if-sheet-gt-LONGEST.false c.in_ok-kind.ensures (sym c.matches.ensures ∙ c.if-not-matches.false) c.in_ok-size.ensures.told in
    record {
      answer = answer h c.args.out.now c.if-out-needed.false;
      out = left h c.args.out.now c.if-out-needed.false c.put.new.out c.put_bytes.new.out c.write_body.new.out c.code_width.result c.code_width.ensures
          c.put.ensures c.put_bytes.ensures c.write_body.ensures.out;
    }
