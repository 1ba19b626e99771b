-- The published constants, in figures.
use Rattle.std.specs.Prelude.{◌≡◌, pos}
use Rattle.ledger.specs.declared.entry.EntryKind.TheVariants.{Bill}
use Rattle.ledger.specs.declared.entry.TheConstants.{MOST_BYTES}
use Rattle.ledger.specs.declared.entry.TheConstants.Entry.{UNWRITTEN}

pub record Constants : Type 0 where
  pub most_bytes : MOST_BYTES ≡ 24
  pub unwritten : UNWRITTEN ≡ record { month = 0; kind = Bill; line = 0; cents = pos 0 }
