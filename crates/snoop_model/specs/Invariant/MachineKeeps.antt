-- What every machine keeps.
-- Source: this project's profile.
use Rattle.std.specs.Prelude.{ℕ, IfSome}
use Rattle.snoop_model.specs.{Pictures.{Picture.Picture, Situation.{Situation, picture_of}}, Moves.SenderTable.IsSenderLine, Invariant.Invariant.Invariant}
use Rattle.snoop_model.specs.Invariant.WellKept.{IsWellKept}

-- each open transaction is on a line of the table of senders, with memory's state now
abbrev pub AreOnSenderLines : Situation → Type 0
AreOnSenderLines s = (block : ℕ) → IfSome (picture_of s block).transaction (λ transaction. (before : Picture) × IsSenderLine s.protocol before transaction.core transaction.request transaction.from transaction.payload (picture_of s block).memory.state)

-- what every machine keeps: the inductive invariant, open transactions on lines of the table of senders, and queues and transactions as the states of the lines say
pub record MachineKeeps (s : Situation) : Type 0 where
  pub inductive : Invariant s
  pub on_lines : AreOnSenderLines s
  pub well_kept : IsWellKept s
