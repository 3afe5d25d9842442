use Rattle.std.proofs.lemmas.Result.{err_from_is_err_and}
use Rattle.findings.specs.Judges.{LentTables}
use Rattle.findings.proofs.Judged.{judge-frame, judge-scenes, judge-stores}
use Rattle.findings.proofs.judge.judge.Goals as goal
use Rattle.findings.proofs.judge.judge.Goals.{in-Handshake+in_ok-judge_as-in-Handshake, in-Tokens+in_ok-judge_as-in-Tokens}

pub returns-in_err-frame-clause-judges : goal.returns-in_err-frame-clause-judges
returns-in_err-frame-clause-judges g c =
    let t : LentTables = record { scenes = g.T.Table.list c.args.scenes.now; scene_room = g.T.Table.room c.args.scenes.now; stores = g.U.Table.list c.args.stores.now; store_room = g.U.Table.room c.args.stores.now } in
    let p = err_from_is_err_and c.from_residual.result c.from_residual.ensures.1 in
    rw (p.1, p.2) (judge-frame c.args.finding.now t _ c.in_err-frame.ensures.0)

pub returns-in_err-judge_as-in-Handshake-clause-judges : goal.returns-in_err-judge_as-in-Handshake-clause-judges
returns-in_err-judge_as-in-Handshake-clause-judges g c =
    let t : LentTables = record { scenes = g.T.Table.list c.args.scenes.now; scene_room = g.T.Table.room c.args.scenes.now; stores = g.U.Table.list c.args.stores.now; store_room = g.U.Table.room c.args.stores.now } in
    let p = err_from_is_err_and c.from_residual-in_err-judge_as-in-Handshake.result c.from_residual-in_err-judge_as-in-Handshake.ensures.1 in
    rw (p.1, p.2) (judge-scenes c.args.finding.now t c.in_ok-frame.frame c.in_ok-docket.docket c.in_ok-frame.ensures.0 c.in_ok-docket.ensures.reads
    c.in-Handshake.arrangement c.in-Handshake.is _ _ c.in_err-judge_as-in-Handshake.ensures.answer c.in_err-judge_as-in-Handshake.ensures.left)

pub returns-in_err-judge_as-in-Tokens-clause-judges : goal.returns-in_err-judge_as-in-Tokens-clause-judges
returns-in_err-judge_as-in-Tokens-clause-judges g c =
    let t : LentTables = record { scenes = g.T.Table.list c.args.scenes.now; scene_room = g.T.Table.room c.args.scenes.now; stores = g.U.Table.list c.args.stores.now; store_room = g.U.Table.room c.args.stores.now } in
    let p = err_from_is_err_and c.from_residual-in_err-judge_as-in-Tokens.result c.from_residual-in_err-judge_as-in-Tokens.ensures.1 in
    rw (p.1, p.2) (judge-stores c.args.finding.now t c.in_ok-frame.frame c.in_ok-docket.docket c.in_ok-frame.ensures.0 c.in_ok-docket.ensures.reads
    c.in-Tokens.program c.in-Tokens.is _ _ c.in_err-judge_as-in-Tokens.ensures.answer c.in_err-judge_as-in-Tokens.ensures.left)

pub returns-clause-judges : goal.returns-clause-judges
returns-clause-judges g c =
    let t : LentTables = record { scenes = g.T.Table.list c.args.scenes.now; scene_room = g.T.Table.room c.args.scenes.now; stores = g.U.Table.list c.args.stores.now; store_room = g.U.Table.room c.args.stores.now } in
    elim c.match-docket.branch [
      | in-Handshake+in_ok-judge_as-in-Handshake w ↦
          simp (w.scenes-is, w.stores-is) (judge-scenes c.args.finding.now t c.in_ok-frame.frame c.in_ok-docket.docket c.in_ok-frame.ensures.0 c.in_ok-docket.ensures.reads
          w.in-Handshake.arrangement w.in-Handshake.is _ _ w.in_ok-judge_as-in-Handshake.ensures.answer w.in_ok-judge_as-in-Handshake.ensures.left)
      | in-Tokens+in_ok-judge_as-in-Tokens w ↦
          simp (w.scenes-is, w.stores-is) (judge-stores c.args.finding.now t c.in_ok-frame.frame c.in_ok-docket.docket c.in_ok-frame.ensures.0 c.in_ok-docket.ensures.reads
          w.in-Tokens.program w.in-Tokens.is _ _ w.in_ok-judge_as-in-Tokens.ensures.answer w.in_ok-judge_as-in-Tokens.ensures.left)
    ]
