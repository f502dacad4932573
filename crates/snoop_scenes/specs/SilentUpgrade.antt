-- The silent upgrade (MESI). A load that finds no sharer moves to E. The store hits and makes it M with no request on the bus.
-- Memory counted on that, and takes the value at the eviction.
-- Source: this project's profile of MESI (memory's states, and the eviction of a block in E), and chapter 7 of the Primer for the rest.
use Rattle.std.specs.Prelude.{List, [], ◌∷◌}
use Rattle.snoop_trace.specs.declared.protocol.Protocol.TheVariants.{Mesi}
use Rattle.snoop_rules.specs.declared.names.CacheState.TheVariants as state
use Rattle.snoop_rules.specs.declared.names.MemState.TheVariants as mem
use Rattle.snoop_rules.specs.declared.names.{Request.TheVariants.{GetS, PutM}, Payload.TheVariants.{Data, DataE}}
use Rattle.snoop_history.specs.declared.items.Item.{Item}
use Rattle.snoop_model.specs.Pictures.{Picture.nothing_held, Situation.Situation}
use Rattle.snoop_scenes.specs.Scene.{two_cores, Frame, ◌⟶◌, load, store, evict, order, respond, store_hit, issued, ordered, came, memory, core, loads, nothing, performed, hit_store, sent, answered, remembers, states, closed, at_rest}

-- the steps, what each is answered, and the states after it: core 0's, core 1's and memory's
abbrev pub frames : List Frame
frames =
    (load 0 0 ⟶ issued GetS, states state.IsAd state.I mem.I)
    ∷ (order 0 ⟶ ordered GetS, states state.IsD state.I mem.EorM)
    ∷ (respond 0 ⟶ came DataE memory (loads 0 0 0 0), states state.E state.I mem.EorM)
    ∷ (store 0 0 3 ⟶ store_hit, states state.M state.I mem.EorM)
    ∷ (evict 0 0 ⟶ issued PutM, states state.MiA state.I mem.EorM)
    ∷ (order 0 ⟶ ordered PutM, states state.I state.I mem.EorMD)
    ∷ (respond 0 ⟶ came Data (core 0) nothing, states state.I state.I mem.I)
    ∷ []

-- the items that they add
abbrev pub history : List Item
history =
    sent 0 GetS 0
    ∷ answered 0 GetS 0 DataE memory (loads 0 0 0 0)
    ∷ performed (hit_store 0 1 0 3)
    ∷ sent 0 PutM 0
    ∷ answered 0 PutM 0 Data (core 0) nothing
    ∷ []

-- where they lead
abbrev pub end : Situation
end = at_rest Mesi two_cores (closed nothing_held nothing_held (remembers mem.I 3) ∷ []) history
