-- A store hit while evicting (MSI). Until its PutM is ordered the evicting owner may read and write the block.
-- The store of 8 hits in MI_A, and the writeback brings memory 8, which core 1 then loads.
-- Source: the tables of "A Primer on Memory Consistency and Cache Coherence", 2nd edition, chapter 7.
use Rattle.std.specs.Prelude.{List, [], ◌∷◌}
use Rattle.snoop_trace.specs.declared.protocol.Protocol.TheVariants.{Msi}
use Rattle.snoop_rules.specs.declared.names.CacheState.TheVariants as state
use Rattle.snoop_rules.specs.declared.names.MemState.TheVariants as mem
use Rattle.snoop_rules.specs.declared.names.{Request.TheVariants.{GetS, GetM, PutM}, Payload.TheVariants.Data}
use Rattle.snoop_history.specs.declared.items.Item.{Item}
use Rattle.snoop_model.specs.Pictures.{Picture.nothing_held, Situation.Situation}
use Rattle.snoop_scenes.specs.Scene.{two_cores, Frame, ◌⟶◌, load, store, evict, order, respond, store_hit, issued, ordered, came, memory, core, loads, stores, nothing, performed, hit_store, sent, answered, holds, remembers, states, closed, at_rest}

-- the steps, what each is answered, and the states after it: core 0's, core 1's and memory's
abbrev pub frames : List Frame
frames =
    (store 0 0 7 ⟶ issued GetM, states state.ImAd state.I mem.IorS)
    ∷ (order 0 ⟶ ordered GetM, states state.ImD state.I mem.M)
    ∷ (respond 0 ⟶ came Data memory (stores 0 0 0 7), states state.M state.I mem.M)
    ∷ (evict 0 0 ⟶ issued PutM, states state.MiA state.I mem.M)
    ∷ (store 0 0 8 ⟶ store_hit, states state.MiA state.I mem.M)
    ∷ (order 0 ⟶ ordered PutM, states state.I state.I mem.MD)
    ∷ (respond 0 ⟶ came Data (core 0) nothing, states state.I state.I mem.IorS)
    ∷ (load 1 0 ⟶ issued GetS, states state.I state.IsAd mem.IorS)
    ∷ (order 1 ⟶ ordered GetS, states state.I state.IsD mem.IorS)
    ∷ (respond 0 ⟶ came Data memory (loads 1 0 0 8), states state.I state.S mem.IorS)
    ∷ []

-- the items that they add
abbrev pub history : List Item
history =
    sent 0 GetM 0
    ∷ answered 0 GetM 0 Data memory (stores 0 0 0 7)
    ∷ performed (hit_store 0 1 0 8)
    ∷ sent 0 PutM 0
    ∷ answered 0 PutM 0 Data (core 0) nothing
    ∷ sent 1 GetS 0
    ∷ answered 1 GetS 0 Data memory (loads 1 0 0 8)
    ∷ []

-- where they lead
abbrev pub end : Situation
end = at_rest Msi two_cores (closed nothing_held (holds state.S 8) (remembers mem.IorS 8) ∷ []) history
