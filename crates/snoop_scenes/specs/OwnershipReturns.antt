-- Ownership returns (MESI). Core 1 took the block from the evicting core 0 and writes it back first, so memory owns it again.
-- The old owner's stale PutM then brings NoData to a memory in I, which stays the owner.
-- Source: this project's profile of MESI (memory's states, and the eviction of a block in E), and chapter 7 of the Primer for the rest.
use Rattle.std.specs.Prelude.{List, [], ◌∷◌}
use Rattle.snoop_trace.specs.declared.protocol.Protocol.TheVariants.{Mesi}
use Rattle.snoop_rules.specs.declared.names.CacheState.TheVariants as state
use Rattle.snoop_rules.specs.declared.names.MemState.TheVariants as mem
use Rattle.snoop_rules.specs.declared.names.{Request.TheVariants.{GetM, PutM}, Payload.TheVariants.{Data, NoData}}
use Rattle.snoop_history.specs.declared.items.Item.{Item}
use Rattle.snoop_model.specs.Pictures.{Picture.nothing_held, Situation.Situation}
use Rattle.snoop_scenes.specs.Scene.{two_cores, Frame, ◌⟶◌, store, evict, order, respond, issued, ordered, came, memory, core, stores, nothing, sent, answered, remembers, states, closed, at_rest}

-- the steps, what each is answered, and the states after it: core 0's, core 1's and memory's
abbrev pub frames : List Frame
frames =
    (store 0 0 7 ⟶ issued GetM, states state.ImAd state.I mem.I)
    ∷ (order 0 ⟶ ordered GetM, states state.ImD state.I mem.EorM)
    ∷ (respond 0 ⟶ came Data memory (stores 0 0 0 7), states state.M state.I mem.EorM)
    ∷ (evict 0 0 ⟶ issued PutM, states state.MiA state.I mem.EorM)
    ∷ (store 1 0 9 ⟶ issued GetM, states state.MiA state.ImAd mem.EorM)
    ∷ (order 1 ⟶ ordered GetM, states state.IiA state.ImD mem.EorM)
    ∷ (respond 0 ⟶ came Data (core 0) (stores 1 0 0 9), states state.IiA state.M mem.EorM)
    ∷ (evict 1 0 ⟶ issued PutM, states state.IiA state.MiA mem.EorM)
    ∷ (order 1 ⟶ ordered PutM, states state.IiA state.I mem.EorMD)
    ∷ (respond 0 ⟶ came Data (core 1) nothing, states state.IiA state.I mem.I)
    ∷ (order 0 ⟶ ordered PutM, states state.I state.I mem.ID)
    ∷ (respond 0 ⟶ came NoData (core 0) nothing, states state.I state.I mem.I)
    ∷ []

-- the items that they add
abbrev pub history : List Item
history =
    sent 0 GetM 0
    ∷ answered 0 GetM 0 Data memory (stores 0 0 0 7)
    ∷ sent 1 GetM 0
    ∷ answered 1 GetM 0 Data (core 0) (stores 1 0 0 9)
    ∷ sent 1 PutM 0
    ∷ answered 1 PutM 0 Data (core 1) nothing
    ∷ sent 0 PutM 0
    ∷ answered 0 PutM 0 NoData (core 0) nothing
    ∷ []

-- where they lead
abbrev pub end : Situation
end = at_rest Mesi two_cores (closed nothing_held nothing_held (remembers mem.I 9) ∷ []) history
