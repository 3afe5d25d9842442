use Rattle.handshake.proofs.Attacked.{attack-stands}
use Rattle.handshake.proofs.attack.attack.Goals as goal

pub returns-clause-stands : goal.returns-clause-stands
returns-clause-stands c = attack-stands
