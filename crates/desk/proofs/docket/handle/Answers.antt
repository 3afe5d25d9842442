use Rattle.register.specs.Calls.{contents}
use Rattle.desk.proofs.Settled.{issued-open, handled}
use Rattle.desk.proofs.docket.handle.Goals as goal

pub settle-requires : goal.settle-requires
settle-requires g c =
    issued-open (contents c.args.register.now) c.args.sheet.now c.in-Ok.slip (contents c.issue.new.self) c.in-Ok.ensures.answer c.issue.ensures.held

pub settle-requires-in-Err-work_on : goal.settle-requires-in-Err-work_on
settle-requires-in-Err-work_on g c =
    issued-open (contents c.args.register.now) c.args.sheet.now c.in-Ok.slip (contents c.issue.new.self) c.in-Ok.ensures.answer c.issue.ensures.held

pub returns-in-Ok-work_on : goal.returns-in-Ok-work_on
returns-in-Ok-work_on g c =
    handled (contents c.args.register.now) c.args.sheet.now c.in-Ok.slip (contents c.issue.new.self) (contents c.settle.new.register) c.in-Ok.ensures.answer c.issue.ensures.held c.settle.ensures

pub returns-in-Err-work_on : goal.returns-in-Err-work_on
returns-in-Err-work_on g c =
    handled (contents c.args.register.now) c.args.sheet.now c.in-Ok.slip (contents c.issue.new.self) (contents c.settle-in-Err-work_on.new.register) c.in-Ok.ensures.answer c.issue.ensures.held c.settle-in-Err-work_on.ensures
