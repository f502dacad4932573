-- The inductive invariant of the machine in every run.
-- Source: this project's profile.
use Rattle.std.specs.Prelude.{◌≡◌, ℕ, ◌<◌, Some, All}
use Rattle.snoop_trace.specs.Words.{IsWord}
use Rattle.snoop_history.specs.History.{flat_words, operations, Legal}
use Rattle.snoop_bus.specs.Traffic.{Open}
use Rattle.snoop_model.specs.{declared.access.Access.Access, Pictures.Situation.{IsShaped, Situation, picture_of, held_of}, Moves.Move.IsWithin}
use Rattle.snoop_model.specs.Invariant.Block.{BlockInvariant}

-- the lists have the shape's lengths, an open transaction is of its block, each block's picture keeps its own invariant for its words in flat memory, the log is legal, and what waits and what the log has are of cores, blocks and words that there are
pub record Invariant (s : Situation) : Type 0 where
  pub shaped : IsShaped s
  pub opened : (block : ℕ) (o : Open) → (picture_of s block).transaction ≡ Some o → o.block ≡ block
  pub blocks : (block : ℕ) → block < s.shape.blocks → BlockInvariant s.protocol s.shape.cores (flat_words s.log block) (picture_of s block)
  pub legal : Legal s.log
  pub logged : All (λ did. IsWithin s did.core did.block × IsWord s.shape did.word) (operations s.log)
  pub accesses : (core block : ℕ) (access : Access) → (held_of s core block).waiting ≡ Some access → IsWord s.shape access.word
