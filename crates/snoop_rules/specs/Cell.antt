-- The cache table: a line for each row, and none where a pair of state and event is impossible.
-- Source: "A Primer on Memory Consistency and Cache Coherence", 2nd edition, chapter 7 (MSI and MESI, non-atomic requests, atomic transactions).
-- The eviction from E, with EI_A and NoDataE, is this project's profile.
use Rattle.std.specs.Prelude.{◌≡◌, Bool, true, false, Option, Some, None}
use Rattle.snoop_trace.specs.declared.protocol.Protocol.{Protocol, TheVariants.Mesi}
use Rattle.snoop_rules.specs.declared.names.CacheState.{CacheState, TheVariants.{I, IsAd, IsD, ImAd, ImD, S, SmAd, SmD, E, M, EiA, MiA, IiA}}
use Rattle.snoop_rules.specs.declared.names.{CacheEvent.CacheEvent, CacheAction.CacheAction, CacheCell.CacheCell, Request.TheVariants.{GetS, GetM, PutM}}
use Rattle.snoop_rules.specs.declared.names.CacheEvent.TheVariants.{Load, Store, Evict, OwnGetS, OwnGetM, OwnPutM, OtherGetS, OtherGetM, OtherPutM, Data, DataE}
use Rattle.snoop_rules.specs.declared.names.CacheAction.TheVariants.{None as Nothing, Hit, Stall, Issue, Drop, FillLoad, FillStore, Send}
use Rattle.snoop_rules.specs.declared.names.Payload.TheVariants as payload
use Rattle.snoop_rules.specs.declared.names.Target.TheVariants.{Requestor, Memory, Both}

-- the row of a pair of state and event, what is done and the next state; a line that names no protocol is of both
abbrev pub cell_of : Protocol → CacheState → CacheEvent → Option CacheCell
cell_of _ I Load = Some (record { action = Issue GetS; next = IsAd })
cell_of _ I Store = Some (record { action = Issue GetM; next = ImAd })
cell_of _ I OtherGetS = Some (record { action = Nothing; next = I })
cell_of _ I OtherGetM = Some (record { action = Nothing; next = I })
cell_of _ I OtherPutM = Some (record { action = Nothing; next = I })
cell_of _ IsAd Load = Some (record { action = Stall; next = IsAd })
cell_of _ IsAd Store = Some (record { action = Stall; next = IsAd })
cell_of _ IsAd Evict = Some (record { action = Stall; next = IsAd })
cell_of _ IsAd OwnGetS = Some (record { action = Nothing; next = IsD })
cell_of _ IsAd OtherGetS = Some (record { action = Nothing; next = IsAd })
cell_of _ IsAd OtherGetM = Some (record { action = Nothing; next = IsAd })
cell_of _ IsAd OtherPutM = Some (record { action = Nothing; next = IsAd })
cell_of _ IsD Load = Some (record { action = Stall; next = IsD })
cell_of _ IsD Store = Some (record { action = Stall; next = IsD })
cell_of _ IsD Evict = Some (record { action = Stall; next = IsD })
cell_of _ IsD Data = Some (record { action = FillLoad; next = S })
cell_of Mesi IsD DataE = Some (record { action = FillLoad; next = E })
cell_of _ ImAd Load = Some (record { action = Stall; next = ImAd })
cell_of _ ImAd Store = Some (record { action = Stall; next = ImAd })
cell_of _ ImAd Evict = Some (record { action = Stall; next = ImAd })
cell_of _ ImAd OwnGetM = Some (record { action = Nothing; next = ImD })
cell_of _ ImAd OtherGetS = Some (record { action = Nothing; next = ImAd })
cell_of _ ImAd OtherGetM = Some (record { action = Nothing; next = ImAd })
cell_of _ ImAd OtherPutM = Some (record { action = Nothing; next = ImAd })
cell_of _ ImD Load = Some (record { action = Stall; next = ImD })
cell_of _ ImD Store = Some (record { action = Stall; next = ImD })
cell_of _ ImD Evict = Some (record { action = Stall; next = ImD })
cell_of _ ImD Data = Some (record { action = FillStore; next = M })
cell_of _ S Load = Some (record { action = Hit; next = S })
cell_of _ S Store = Some (record { action = Issue GetM; next = SmAd })
cell_of _ S Evict = Some (record { action = Drop; next = I })
cell_of _ S OtherGetS = Some (record { action = Nothing; next = S })
cell_of _ S OtherGetM = Some (record { action = Nothing; next = I })
cell_of _ S OtherPutM = Some (record { action = Nothing; next = S })
cell_of _ SmAd Load = Some (record { action = Hit; next = SmAd })
cell_of _ SmAd Store = Some (record { action = Stall; next = SmAd })
cell_of _ SmAd Evict = Some (record { action = Stall; next = SmAd })
cell_of _ SmAd OwnGetM = Some (record { action = Nothing; next = SmD })
cell_of _ SmAd OtherGetS = Some (record { action = Nothing; next = SmAd })
cell_of _ SmAd OtherGetM = Some (record { action = Nothing; next = ImAd })
cell_of _ SmAd OtherPutM = Some (record { action = Nothing; next = SmAd })
cell_of _ SmD Load = Some (record { action = Hit; next = SmD })
cell_of _ SmD Store = Some (record { action = Stall; next = SmD })
cell_of _ SmD Evict = Some (record { action = Stall; next = SmD })
cell_of _ SmD Data = Some (record { action = FillStore; next = M })
cell_of Mesi E Load = Some (record { action = Hit; next = E })
cell_of Mesi E Store = Some (record { action = Hit; next = M })
cell_of Mesi E Evict = Some (record { action = Issue PutM; next = EiA })
cell_of Mesi E OtherGetS = Some (record { action = Send payload.Data Both; next = S })
cell_of Mesi E OtherGetM = Some (record { action = Send payload.Data Requestor; next = I })
cell_of Mesi E OtherPutM = Some (record { action = Nothing; next = E })
cell_of _ M Load = Some (record { action = Hit; next = M })
cell_of _ M Store = Some (record { action = Hit; next = M })
cell_of _ M Evict = Some (record { action = Issue PutM; next = MiA })
cell_of _ M OtherGetS = Some (record { action = Send payload.Data Both; next = S })
cell_of _ M OtherGetM = Some (record { action = Send payload.Data Requestor; next = I })
cell_of _ M OtherPutM = Some (record { action = Nothing; next = M })
cell_of Mesi EiA Load = Some (record { action = Hit; next = EiA })
cell_of Mesi EiA Store = Some (record { action = Hit; next = MiA })
cell_of Mesi EiA Evict = Some (record { action = Stall; next = EiA })
cell_of Mesi EiA OwnPutM = Some (record { action = Send payload.NoDataE Memory; next = I })
cell_of Mesi EiA OtherGetS = Some (record { action = Send payload.Data Both; next = IiA })
cell_of Mesi EiA OtherGetM = Some (record { action = Send payload.Data Requestor; next = IiA })
cell_of Mesi EiA OtherPutM = Some (record { action = Nothing; next = EiA })
cell_of _ MiA Load = Some (record { action = Hit; next = MiA })
cell_of _ MiA Store = Some (record { action = Hit; next = MiA })
cell_of _ MiA Evict = Some (record { action = Stall; next = MiA })
cell_of _ MiA OwnPutM = Some (record { action = Send payload.Data Memory; next = I })
cell_of _ MiA OtherGetS = Some (record { action = Send payload.Data Both; next = IiA })
cell_of _ MiA OtherGetM = Some (record { action = Send payload.Data Requestor; next = IiA })
cell_of _ MiA OtherPutM = Some (record { action = Nothing; next = MiA })
cell_of _ IiA Load = Some (record { action = Stall; next = IiA })
cell_of _ IiA Store = Some (record { action = Stall; next = IiA })
cell_of _ IiA Evict = Some (record { action = Stall; next = IiA })
cell_of _ IiA OwnPutM = Some (record { action = Send payload.NoData Memory; next = I })
cell_of _ IiA OtherGetS = Some (record { action = Nothing; next = IiA })
cell_of _ IiA OtherGetM = Some (record { action = Nothing; next = IiA })
cell_of _ IiA OtherPutM = Some (record { action = Nothing; next = IiA })
cell_of _ _ _ = None

-- in this state the event is met by this action, and this state is next
abbrev pub Cell : Protocol → CacheState → CacheEvent → CacheAction → CacheState → Type 0
Cell protocol state event action next = cell_of protocol state event ≡ Some (record { action = action; next = next })

-- the operation is performed at once
abbrev pub is_hit : CacheAction → Bool
is_hit Hit = true
is_hit _ = false
