-- What was asked by steps that were all taken.
-- Source: this project's profile.
use Rattle.std.specs.{Prelude.{ℕ, List, ◌++◌, filter_map}, List.Sorted.IsPermutation}
use Rattle.snoop_trace.specs.{Extent.Extent, declared.{step.Step.Step, protocol.Protocol.Protocol}}
use Rattle.snoop_model.specs.{Pictures.Situation.Situation, Runs.{Run.AllTaken, Once.{asked_access, accesses_in, waiting_at}}}

-- of steps that were all taken: the loads and stores that they ask are those in the log and those that wait, each as often
abbrev pub TakenOnce : Type 0
TakenOnce =
    (protocol : Protocol) (shape : Extent) (steps : List Step) (s : Situation) → AllTaken protocol shape steps s
    → (core block : ℕ) → IsPermutation (filter_map (asked_access core block) steps) (accesses_in s.log core block ++ waiting_at s core block)
