-- The lines of a step: they are the rows that its controllers take.
-- Source: "A Primer on Memory Consistency and Cache Coherence", 2nd edition, chapter 7, whose tables they are.
use Rattle.std.specs.Prelude.{⊤, ◌≡◌, ℕ, All, Contains, Some, None, Result, Ok, Err}
use Rattle.snoop_trace.specs.declared.step.Step.{Step, TheVariants.Order}
use Rattle.snoop_rules.specs.declared.names.{CacheAction.CacheAction, CacheEvent.CacheEvent, CacheState.{CacheState, TheVariants.I}, MemAction.MemAction}
use Rattle.snoop_rules.specs.{declared.names.{MemEvent.MemEvent, MemState.MemState}, Cell.cell_of, MemoryCell.memory_cell_of}
use Rattle.snoop_model.specs.{declared.replies.{Reply.Reply, Refused.{Refused, TheVariants.Stalled}}, Pictures.Situation.{picture_of, state_of}}
use Rattle.snoop_model.specs.Moves.{LookUps.{ConsultsCache, ConsultsMemory}, Move.TakesFirst}
use Rattle.snoop_engine.specs.{Frames.Frame, Taken.lines_of_step, declared.taken.Taken.{Taken, TheVariants.{Core, Memory, Nobody}}}

-- at the step the core looks up its row for the event on the block, in the state that it has before; and the row leads to the state that it has after
pub record TakesCoreRow (frame : Frame) (core block : ℕ) (event : CacheEvent) (before : CacheState) : Type 0 where
  pub first : TakesFirst frame.before frame.step block
  pub looks : ConsultsCache frame.before frame.step core block (Some event)
  pub held : before ≡ state_of frame.before core block
  pub action : CacheAction
  pub row : cell_of frame.before.protocol before event ≡ Some (record { action = action; next = state_of frame.after core block })

-- at the step memory looks up its row for the event on the block, in the state that it has before; and the row leads to the state that it has after
pub record TakesMemoryRow (frame : Frame) (block : ℕ) (event : MemEvent) (before : MemState) : Type 0 where
  pub first : TakesFirst frame.before frame.step block
  pub looks : ConsultsMemory frame.before frame.step block (Some event)
  pub held : before ≡ (picture_of frame.before block).memory.state
  pub action : MemAction
  pub row : memory_cell_of frame.before.protocol before event ≡ Some (record { action = action; next = (picture_of frame.after block).memory.state })

-- the core has this state before the step, and after it
pub record StaysIn (frame : Frame) (core block : ℕ) (state : CacheState) : Type 0 where
  pub before : state ≡ state_of frame.before core block
  pub after : state ≡ state_of frame.after core block

-- a line with an event is a row that its controller takes at the step; a core without an event stays in its state; and a line of no controller says nothing of states
abbrev pub FitsStep : Frame → Taken → Type 0
FitsStep frame (Core core block None before) = StaysIn frame core block before
FitsStep frame (Core core block (Some event) before) = TakesCoreRow frame core block event before
FitsStep frame (Memory block event before) = TakesMemoryRow frame block event before
FitsStep frame (Nobody core block) = ⊤

-- at an Order a core in I takes a row that does nothing
abbrev pub DoesNothing : Step → CacheState → Type 0
DoesNothing (Order requestor) I = ⊤
DoesNothing _ _ = ⊥

-- rows are taken: the step is taken, or its Ask stalls, which is a row too
abbrev pub HasTakenRows : Result Reply Refused → Type 0
HasTakenRows (Ok answer) = ⊤
HasTakenRows (Err (Stalled held)) = ⊤
HasTakenRows _ = ⊥

-- no row is left out: each that a core looks up for an event has its line, but that of a core in I at an Order, and so has each of memory's
pub record HasAllLines (frame : Frame) : Type 0 where
  pub cores : (core block : ℕ) (event : CacheEvent) → TakesFirst frame.before frame.step block → ConsultsCache frame.before frame.step core block (Some event)
      → ¬ DoesNothing frame.step (state_of frame.before core block) → Contains (lines_of_step frame.before frame.step frame.outcome) (Core core block (Some event) (state_of frame.before core block))
  pub memory : (block : ℕ) (event : MemEvent) → TakesFirst frame.before frame.step block → ConsultsMemory frame.before frame.step block (Some event)
      → Contains (lines_of_step frame.before frame.step frame.outcome) (Memory block event (picture_of frame.before block).memory.state)

-- each line of the frame fits its step, none is left out where rows are taken, and the protocol stays
pub record ShowsRows (frame : Frame) : Type 0 where
  pub stays : frame.after.protocol ≡ frame.before.protocol
  pub fit : All (FitsStep frame) (lines_of_step frame.before frame.step frame.outcome)
  pub all : HasTakenRows frame.outcome → HasAllLines frame
