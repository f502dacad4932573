-- The stale writeback (MSI). Core 0 evicts its dirty block, and before its PutM is ordered it hands the block to core 1, which stores 9.
-- Its PutM then carries NoData: memory keeps core 1 as the owner, and core 1's copy stays valid throughout.
-- Source: the tables of "A Primer on Memory Consistency and Cache Coherence", 2nd edition, chapter 7.
use Rattle.std.specs.Prelude.{List, [], ◌∷◌}
use Rattle.snoop_trace.specs.declared.protocol.Protocol.TheVariants.{Msi}
use Rattle.snoop_rules.specs.declared.names.CacheState.TheVariants as state
use Rattle.snoop_rules.specs.declared.names.MemState.TheVariants as mem
use Rattle.snoop_rules.specs.declared.names.{Request.TheVariants.{GetM, PutM}, Payload.TheVariants.{Data, NoData}}
use Rattle.snoop_history.specs.declared.items.Item.{Item}
use Rattle.snoop_model.specs.Pictures.{Picture.nothing_held, Situation.Situation}
use Rattle.snoop_scenes.specs.Scene.{two_cores, Frame, ◌⟶◌, load, store, evict, order, respond, hit, issued, ordered, came, memory, core, stores, nothing, performed, hit_load, sent, answered, holds, remembers, states, closed, at_rest}

-- the steps, what each is answered, and the states after it: core 0's, core 1's and memory's
abbrev pub frames : List Frame
frames =
    (store 0 0 7 ⟶ issued GetM, states state.ImAd state.I mem.IorS)
    ∷ (order 0 ⟶ ordered GetM, states state.ImD state.I mem.M)
    ∷ (respond 0 ⟶ came Data memory (stores 0 0 0 7), states state.M state.I mem.M)
    ∷ (evict 0 0 ⟶ issued PutM, states state.MiA state.I mem.M)
    ∷ (store 1 0 9 ⟶ issued GetM, states state.MiA state.ImAd mem.M)
    ∷ (order 1 ⟶ ordered GetM, states state.IiA state.ImD mem.M)
    ∷ (respond 0 ⟶ came Data (core 0) (stores 1 0 0 9), states state.IiA state.M mem.M)
    ∷ (order 0 ⟶ ordered PutM, states state.I state.M mem.MD)
    ∷ (load 1 0 ⟶ hit 9, states state.I state.M mem.MD)
    ∷ (respond 0 ⟶ came NoData (core 0) nothing, states state.I state.M mem.M)
    ∷ []

-- the items that they add
abbrev pub history : List Item
history =
    sent 0 GetM 0
    ∷ answered 0 GetM 0 Data memory (stores 0 0 0 7)
    ∷ sent 1 GetM 0
    ∷ answered 1 GetM 0 Data (core 0) (stores 1 0 0 9)
    ∷ sent 0 PutM 0
    ∷ performed (hit_load 1 1 0 9)
    ∷ answered 0 PutM 0 NoData (core 0) nothing
    ∷ []

-- where they lead
abbrev pub end : Situation
end = at_rest Msi two_cores (closed nothing_held (holds state.M 9) (remembers mem.M 0) ∷ []) history
