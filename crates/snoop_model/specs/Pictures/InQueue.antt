-- The queues of the cores.
-- Source: this project's profile.
use Rattle.std.specs.Prelude.{◌≡◌, ◌==◌, ℕ, is_some, count_by, if◌then◌else◌}
use Rattle.snoop_rules.specs.Waits.{waiting_request}
use Rattle.snoop_bus.specs.Queues.{queue_of}
use Rattle.snoop_model.specs.Pictures.Situation.{Situation, state_of}

-- the block stands once in the core's queue where the core waits on it, else not at all
abbrev pub IsInQueue : Situation → ℕ → ℕ → Type 0
IsInQueue s core block = count_by (λ b. b == block) (queue_of s.queues core) ≡ (if is_some (waiting_request (state_of s core block)) then 1 else 0)
