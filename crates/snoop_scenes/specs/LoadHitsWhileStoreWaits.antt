-- A load hits while the store waits (MSI). In SM_AD core 0 still reads its copy: the load is performed before the store, which it asked earlier.
-- Core 1's GetM is ordered first and takes the copy away: in IM_AD a load is stalled.
-- Source: the tables of "A Primer on Memory Consistency and Cache Coherence", 2nd edition, chapter 7.
use Rattle.std.specs.Prelude.{List, [], ◌∷◌}
use Rattle.snoop_trace.specs.declared.protocol.Protocol.TheVariants.{Msi}
use Rattle.snoop_rules.specs.declared.names.CacheState.TheVariants as state
use Rattle.snoop_rules.specs.declared.names.MemState.TheVariants as mem
use Rattle.snoop_rules.specs.declared.names.{Request.TheVariants.{GetS, GetM}, Payload.TheVariants.Data}
use Rattle.snoop_model.specs.{declared.replies.Refused.TheVariants.Stalled, Pictures.{Picture.nothing_held, Situation.Situation}}
use Rattle.snoop_history.specs.declared.items.Item.{Item}
use Rattle.snoop_scenes.specs.Scene.{two_cores, Frame, ◌⟶◌, load, store, order, respond, hit, issued, ordered, came, refused, memory, core, loads, stores, performed, hit_load, sent, answered, holds, remembers, states, closed, at_rest}

-- the steps, what each is answered, and the states after it: core 0's, core 1's and memory's
abbrev pub frames : List Frame
frames =
    (load 0 0 ⟶ issued GetS, states state.IsAd state.I mem.IorS)
    ∷ (order 0 ⟶ ordered GetS, states state.IsD state.I mem.IorS)
    ∷ (respond 0 ⟶ came Data memory (loads 0 0 0 0), states state.S state.I mem.IorS)
    ∷ (store 0 0 5 ⟶ issued GetM, states state.SmAd state.I mem.IorS)
    ∷ (load 0 0 ⟶ hit 0, states state.SmAd state.I mem.IorS)
    ∷ (store 1 0 6 ⟶ issued GetM, states state.SmAd state.ImAd mem.IorS)
    ∷ (order 1 ⟶ ordered GetM, states state.ImAd state.ImD mem.M)
    ∷ (load 0 0 ⟶ refused (Stalled state.ImAd), states state.ImAd state.ImD mem.M)
    ∷ (respond 0 ⟶ came Data memory (stores 1 0 0 6), states state.ImAd state.M mem.M)
    ∷ (order 0 ⟶ ordered GetM, states state.ImD state.I mem.M)
    ∷ (respond 0 ⟶ came Data (core 1) (stores 0 2 0 5), states state.M state.I mem.M)
    ∷ []

-- the items that they add
abbrev pub history : List Item
history =
    sent 0 GetS 0
    ∷ answered 0 GetS 0 Data memory (loads 0 0 0 0)
    ∷ performed (hit_load 0 1 0 0)
    ∷ sent 1 GetM 0
    ∷ answered 1 GetM 0 Data memory (stores 1 0 0 6)
    ∷ sent 0 GetM 0
    ∷ answered 0 GetM 0 Data (core 1) (stores 0 2 0 5)
    ∷ []

-- where they lead
abbrev pub end : Situation
end = at_rest Msi two_cores (closed (holds state.M 5) nothing_held (remembers mem.M 0) ∷ []) history
