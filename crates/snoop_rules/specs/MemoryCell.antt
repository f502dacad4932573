-- The memory tables: a line for each row, and none where a pair of state and event is impossible.
-- Source: MSI's of "A Primer on Memory Consistency and Cache Coherence", 2nd edition, chapter 7;
-- MESI's states and rows are this project's profile.
use Rattle.std.specs.Prelude.{◌≡◌, Option, Some, None}
use Rattle.snoop_trace.specs.declared.protocol.Protocol.{Protocol, TheVariants.{Msi, Mesi}}
use Rattle.snoop_rules.specs.declared.names.{MemState.{MemState, TheVariants.{IorS, M, IorSD, MD, I, S, EorM, ID, SD, EorMD}}, MemEvent.MemEvent}
use Rattle.snoop_rules.specs.declared.names.{MemEvent.TheVariants.{GetS, GetM, PutM, Data, NoData, NoDataE}, MemAction.MemAction, MemCell.MemCell}
use Rattle.snoop_rules.specs.declared.names.MemAction.TheVariants.{None as Nothing, Send, Write}
use Rattle.snoop_rules.specs.declared.names.Payload.TheVariants as payload

-- the row of a pair of memory's state and event: what is done, and the next state
abbrev pub memory_cell_of : Protocol → MemState → MemEvent → Option MemCell
memory_cell_of Msi IorS GetS = Some (record { action = Send payload.Data; next = IorS })
memory_cell_of Msi IorS GetM = Some (record { action = Send payload.Data; next = M })
memory_cell_of Msi IorS PutM = Some (record { action = Nothing; next = IorSD })
memory_cell_of Msi M GetS = Some (record { action = Nothing; next = IorSD })
memory_cell_of Msi M GetM = Some (record { action = Nothing; next = M })
memory_cell_of Msi M PutM = Some (record { action = Nothing; next = MD })
memory_cell_of Msi IorSD Data = Some (record { action = Write; next = IorS })
memory_cell_of Msi IorSD NoData = Some (record { action = Nothing; next = IorS })
memory_cell_of Msi MD Data = Some (record { action = Write; next = IorS })
memory_cell_of Msi MD NoData = Some (record { action = Nothing; next = M })
memory_cell_of Mesi I GetS = Some (record { action = Send payload.DataE; next = EorM })
memory_cell_of Mesi I GetM = Some (record { action = Send payload.Data; next = EorM })
memory_cell_of Mesi I PutM = Some (record { action = Nothing; next = ID })
memory_cell_of Mesi S GetS = Some (record { action = Send payload.Data; next = S })
memory_cell_of Mesi S GetM = Some (record { action = Send payload.Data; next = EorM })
memory_cell_of Mesi S PutM = Some (record { action = Nothing; next = SD })
memory_cell_of Mesi EorM GetS = Some (record { action = Nothing; next = SD })
memory_cell_of Mesi EorM GetM = Some (record { action = Nothing; next = EorM })
memory_cell_of Mesi EorM PutM = Some (record { action = Nothing; next = EorMD })
memory_cell_of Mesi ID NoData = Some (record { action = Nothing; next = I })
memory_cell_of Mesi SD Data = Some (record { action = Write; next = S })
memory_cell_of Mesi SD NoData = Some (record { action = Nothing; next = S })
memory_cell_of Mesi EorMD Data = Some (record { action = Write; next = I })
memory_cell_of Mesi EorMD NoData = Some (record { action = Nothing; next = EorM })
memory_cell_of Mesi EorMD NoDataE = Some (record { action = Nothing; next = I })
memory_cell_of _ _ _ = None

-- in this state the event is met by this action, and this state is next
abbrev pub MemoryCell : Protocol → MemState → MemEvent → MemAction → MemState → Type 0
MemoryCell protocol state event action next = memory_cell_of protocol state event ≡ Some (record { action = action; next = next })
