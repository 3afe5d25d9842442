use lib.Seq.{take-set-lt}
use Rattle.sheets.proofs.fixed_list.FixedList.set.Goals as goal

pub returns-then-index-self : goal.returns-then-index-self
returns-then-index-self g c = take-set-lt _ _ _ _ c.if-index-self.true
