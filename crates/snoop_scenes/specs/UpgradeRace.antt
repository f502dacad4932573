-- The upgrade race (MSI). Two sharers issue a GetM each. Core 1's is ordered first and invalidates core 0 in SM_AD, which goes to IM_AD.
-- Its upgrade has become a miss, so that its store is over core 1's value. Meanwhile the block's transaction is open, and the bus is taken.
-- Source: the tables of "A Primer on Memory Consistency and Cache Coherence", 2nd edition, chapter 7.
use Rattle.std.specs.Prelude.{List, [], ◌∷◌}
use Rattle.snoop_trace.specs.declared.protocol.Protocol.TheVariants.{Msi}
use Rattle.snoop_rules.specs.declared.names.CacheState.TheVariants as state
use Rattle.snoop_rules.specs.declared.names.MemState.TheVariants as mem
use Rattle.snoop_rules.specs.declared.names.{Request.TheVariants.{GetS, GetM}, Payload.TheVariants.Data}
use Rattle.snoop_model.specs.{declared.replies.Refused.TheVariants.BusTaken, Pictures.{Picture.nothing_held, Situation.Situation}}
use Rattle.snoop_history.specs.declared.items.Item.{Item}
use Rattle.snoop_scenes.specs.Scene.{two_cores, Frame, ◌⟶◌, load, store, order, respond, issued, ordered, came, refused, memory, core, loads, stores, sent, answered, holds, remembers, states, closed, at_rest}

-- the steps, what each is answered, and the states after it: core 0's, core 1's and memory's
abbrev pub frames : List Frame
frames =
    (load 0 0 ⟶ issued GetS, states state.IsAd state.I mem.IorS)
    ∷ (order 0 ⟶ ordered GetS, states state.IsD state.I mem.IorS)
    ∷ (respond 0 ⟶ came Data memory (loads 0 0 0 0), states state.S state.I mem.IorS)
    ∷ (load 1 0 ⟶ issued GetS, states state.S state.IsAd mem.IorS)
    ∷ (order 1 ⟶ ordered GetS, states state.S state.IsD mem.IorS)
    ∷ (respond 0 ⟶ came Data memory (loads 1 0 0 0), states state.S state.S mem.IorS)
    ∷ (store 0 0 5 ⟶ issued GetM, states state.SmAd state.S mem.IorS)
    ∷ (store 1 0 6 ⟶ issued GetM, states state.SmAd state.SmAd mem.IorS)
    ∷ (order 1 ⟶ ordered GetM, states state.ImAd state.SmD mem.M)
    ∷ (order 0 ⟶ refused (BusTaken 0), states state.ImAd state.SmD mem.M)
    ∷ (respond 0 ⟶ came Data memory (stores 1 1 0 6), states state.ImAd state.M mem.M)
    ∷ (order 0 ⟶ ordered GetM, states state.ImD state.I mem.M)
    ∷ (respond 0 ⟶ came Data (core 1) (stores 0 1 0 5), states state.M state.I mem.M)
    ∷ []

-- the items that they add
abbrev pub history : List Item
history =
    sent 0 GetS 0
    ∷ answered 0 GetS 0 Data memory (loads 0 0 0 0)
    ∷ sent 1 GetS 0
    ∷ answered 1 GetS 0 Data memory (loads 1 0 0 0)
    ∷ sent 1 GetM 0
    ∷ answered 1 GetM 0 Data memory (stores 1 1 0 6)
    ∷ sent 0 GetM 0
    ∷ answered 0 GetM 0 Data (core 1) (stores 0 1 0 5)
    ∷ []

-- where they lead
abbrev pub end : Situation
end = at_rest Msi two_cores (closed (holds state.M 5) nothing_held (remembers mem.M 0) ∷ []) history
