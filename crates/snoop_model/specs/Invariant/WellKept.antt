-- What every run keeps between the states of the lines, the queues and the open transactions.
-- Source: this project's profile.
use Rattle.std.specs.Prelude.{◌≡◌, ℕ, Some, IsSome}
use Rattle.snoop_model.specs.{declared.access.Access.Access, Pictures.Situation.{Situation, IsShaped, held_of, state_of, HasOpen}}
use Rattle.snoop_rules.specs.declared.names.Request.{Request}
use Rattle.snoop_model.specs.Pictures.{InQueue.IsInQueue, Proper.{missed_request, awaited_request}}

-- lists are as long as the shape says, and queues, open transactions and waiting operations are as the states of the lines say
pub record IsWellKept (s : Situation) : Type 0 where
  pub shaped : IsShaped s
  -- a core's queue has exactly the blocks on which it waits, each once
  pub queued : (core block : ℕ) → IsInQueue s core block
  -- a core that awaits data has the block's transaction open
  pub awaits : (core block : ℕ) (request : Request) → awaited_request (state_of s core block) ≡ Some request → HasOpen s core block request
  -- an operation waits only where a load or a store has missed
  pub operations : (core block : ℕ) (access : Access) → (held_of s core block).waiting ≡ Some access → IsSome (missed_request (state_of s core block))
