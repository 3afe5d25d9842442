use Rattle.std.proofs.Common.{ap, ◌∙◌}
use Rattle.std.specs.Option.{option_map}
use Rattle.sheets.proofs.NameFacts.{text-read}
use Rattle.sheets.proofs.names.Names.text.Goals as goal

pub returns : goal.returns
returns c = ap (option_map (λ r. r.now)) c.get.ensures ∙ text-read _ c.args.token
