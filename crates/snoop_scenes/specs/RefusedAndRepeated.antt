-- Refused and repeated (MSI). In II_A the evicting core has lost the block and its PutM still waits: a load is stalled.
-- After the stale writeback the same load misses, and the owner answers it with data, for the requestor and for memory.
-- Source: the tables of "A Primer on Memory Consistency and Cache Coherence", 2nd edition, chapter 7.
use Rattle.std.specs.Prelude.{List, [], ◌∷◌}
use Rattle.snoop_trace.specs.declared.protocol.Protocol.TheVariants.{Msi}
use Rattle.snoop_rules.specs.declared.names.CacheState.TheVariants as state
use Rattle.snoop_rules.specs.declared.names.MemState.TheVariants as mem
use Rattle.snoop_rules.specs.declared.names.{Request.TheVariants.{GetS, GetM, PutM}, Payload.TheVariants.{Data, NoData}}
use Rattle.snoop_model.specs.{declared.replies.Refused.TheVariants.Stalled, Pictures.Situation.Situation}
use Rattle.snoop_history.specs.declared.items.Item.{Item}
use Rattle.snoop_scenes.specs.Scene.{two_cores, Frame, ◌⟶◌, load, store, evict, order, respond, issued, ordered, came, refused, memory, core, loads, stores, nothing, sent, answered, holds, remembers, states, closed, at_rest}

-- the steps, what each is answered, and the states after it: core 0's, core 1's and memory's
abbrev pub frames : List Frame
frames =
    (store 0 0 7 ⟶ issued GetM, states state.ImAd state.I mem.IorS)
    ∷ (order 0 ⟶ ordered GetM, states state.ImD state.I mem.M)
    ∷ (respond 0 ⟶ came Data memory (stores 0 0 0 7), states state.M state.I mem.M)
    ∷ (evict 0 0 ⟶ issued PutM, states state.MiA state.I mem.M)
    ∷ (store 1 0 9 ⟶ issued GetM, states state.MiA state.ImAd mem.M)
    ∷ (order 1 ⟶ ordered GetM, states state.IiA state.ImD mem.M)
    ∷ (respond 0 ⟶ came Data (core 0) (stores 1 0 0 9), states state.IiA state.M mem.M)
    ∷ (load 0 0 ⟶ refused (Stalled state.IiA), states state.IiA state.M mem.M)
    ∷ (order 0 ⟶ ordered PutM, states state.I state.M mem.MD)
    ∷ (respond 0 ⟶ came NoData (core 0) nothing, states state.I state.M mem.M)
    ∷ (load 0 0 ⟶ issued GetS, states state.IsAd state.M mem.M)
    ∷ (order 0 ⟶ ordered GetS, states state.IsD state.S mem.IorSD)
    ∷ (respond 0 ⟶ came Data (core 1) (loads 0 1 0 9), states state.S state.S mem.IorS)
    ∷ []

-- the items that they add
abbrev pub history : List Item
history =
    sent 0 GetM 0
    ∷ answered 0 GetM 0 Data memory (stores 0 0 0 7)
    ∷ sent 1 GetM 0
    ∷ answered 1 GetM 0 Data (core 0) (stores 1 0 0 9)
    ∷ sent 0 PutM 0
    ∷ answered 0 PutM 0 NoData (core 0) nothing
    ∷ sent 0 GetS 0
    ∷ answered 0 GetS 0 Data (core 1) (loads 0 1 0 9)
    ∷ []

-- where they lead
abbrev pub end : Situation
end = at_rest Msi two_cores (closed (holds state.S 9) (holds state.S 9) (remembers mem.IorS 9) ∷ []) history
