use Rattle.std.proofs.Common.{rules}
use Rattle.sheets.proofs.Written.{read-is-written, texts-apart}
use Rattle.sheets.proofs.Dockets.{every-docket-written}
use Rattle.sheets.proofs.Places.{faults-placed}
use Rattle.sheets.proofs.Shown.{examples}
use Rattle.sheets.proofs.read.read.Goals as goal

pub returns : goal.returns
returns c = record { reads = search rules; written = read-is-written; apart = texts-apart; described = every-docket-written; placed = faults-placed; examples = examples }
