-- The examples, computed. Assumes nothing.
use Rattle.std.proofs.Common.{refl}
use Rattle.sheets.specs.Reads.{named_of, acts_at, agents_at}
use Rattle.sheets.specs.Examples.{Examples}

pub examples : Examples
unfolding named_of acts_at agents_at
examples = record { zero = refl; long = refl; read = refl }
