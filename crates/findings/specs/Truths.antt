-- What a verdict says of an arrangement. Assumes nothing.
use Rattle.std.specs.Prelude.{◌≡◌}
use Rattle.sheets.specs.declared.arrangement.Arrangement.{Arrangement}
use Rattle.sheets.specs.declared.arrangement.Arrangement.TheVariants.{Handshake, Tokens}
use Rattle.meaning.specs.Runs.{BadRun}
use Rattle.handshake.specs.Reads.{handshake_meaning}
use Rattle.tokens.specs.Models.{token_meaning}
use Rattle.sheets.specs.Reads.{program_of}
use Rattle.bodies.specs.declared.kind.Kind.{Kind}
use Rattle.bodies.specs.declared.kind.Kind.TheVariants.{Breach, Closed}

-- a run of the arrangement's model to a breach
abbrev pub BreachRunOf : Arrangement → Type 0
BreachRunOf (Handshake h) = BadRun (handshake_meaning h)
BreachRunOf (Tokens t) = BadRun (token_meaning (program_of t))

-- breach: there is one; closed: there is none
abbrev pub IsTrueOf : Arrangement → Kind → Type 0
IsTrueOf a k = (k ≡ Breach → ∥ BreachRunOf a ∥₁) × (k ≡ Closed → BreachRunOf a → ⊥)
