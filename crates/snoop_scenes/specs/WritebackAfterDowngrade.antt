-- A writeback after a downgrade (MSI). The evicting owner answers core 1's GetS with data for it and for memory.
-- So its own PutM, ordered later, finds a memory that waits for nothing and brings it NoData.
-- Source: the tables of "A Primer on Memory Consistency and Cache Coherence", 2nd edition, chapter 7.
use Rattle.std.specs.Prelude.{List, [], ◌∷◌}
use Rattle.snoop_trace.specs.declared.protocol.Protocol.TheVariants.{Msi}
use Rattle.snoop_rules.specs.declared.names.CacheState.TheVariants as state
use Rattle.snoop_rules.specs.declared.names.MemState.TheVariants as mem
use Rattle.snoop_rules.specs.declared.names.{Request.TheVariants.{GetS, GetM, PutM}, Payload.TheVariants.{Data, NoData}}
use Rattle.snoop_history.specs.declared.items.Item.{Item}
use Rattle.snoop_model.specs.Pictures.{Picture.nothing_held, Situation.Situation}
use Rattle.snoop_scenes.specs.Scene.{two_cores, Frame, ◌⟶◌, load, store, evict, order, respond, issued, ordered, came, memory, core, loads, stores, nothing, sent, answered, holds, remembers, states, closed, at_rest}

-- the steps, what each is answered, and the states after it: core 0's, core 1's and memory's
abbrev pub frames : List Frame
frames =
    (store 0 0 7 ⟶ issued GetM, states state.ImAd state.I mem.IorS)
    ∷ (order 0 ⟶ ordered GetM, states state.ImD state.I mem.M)
    ∷ (respond 0 ⟶ came Data memory (stores 0 0 0 7), states state.M state.I mem.M)
    ∷ (evict 0 0 ⟶ issued PutM, states state.MiA state.I mem.M)
    ∷ (load 1 0 ⟶ issued GetS, states state.MiA state.IsAd mem.M)
    ∷ (order 1 ⟶ ordered GetS, states state.IiA state.IsD mem.IorSD)
    ∷ (respond 0 ⟶ came Data (core 0) (loads 1 0 0 7), states state.IiA state.S mem.IorS)
    ∷ (order 0 ⟶ ordered PutM, states state.I state.S mem.IorSD)
    ∷ (respond 0 ⟶ came NoData (core 0) nothing, states state.I state.S mem.IorS)
    ∷ []

-- the items that they add
abbrev pub history : List Item
history =
    sent 0 GetM 0
    ∷ answered 0 GetM 0 Data memory (stores 0 0 0 7)
    ∷ sent 1 GetS 0
    ∷ answered 1 GetS 0 Data (core 0) (loads 1 0 0 7)
    ∷ sent 0 PutM 0
    ∷ answered 0 PutM 0 NoData (core 0) nothing
    ∷ []

-- where they lead
abbrev pub end : Situation
end = at_rest Msi two_cores (closed nothing_held (holds state.S 7) (remembers mem.IorS 7) ∷ []) history
