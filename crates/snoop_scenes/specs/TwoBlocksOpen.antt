-- Two blocks open (MSI). Transactions are atomic for one block alone: core 0's two requests are ordered in the order of issue, and both are open.
-- Block 1's response comes first, so that core 0's operation 0 is of block 1.
-- Source: the tables of "A Primer on Memory Consistency and Cache Coherence", 2nd edition, chapter 7.
use Rattle.std.specs.Prelude.{List, [], ◌∷◌}
use Rattle.snoop_trace.specs.declared.protocol.Protocol.TheVariants.{Msi}
use Rattle.snoop_rules.specs.declared.names.CacheState.TheVariants as state
use Rattle.snoop_rules.specs.declared.names.MemState.TheVariants as mem
use Rattle.snoop_rules.specs.declared.names.{Request.TheVariants.GetS, Payload.TheVariants.Data}
use Rattle.snoop_history.specs.declared.items.Item.{Item}
use Rattle.snoop_model.specs.Pictures.{Picture.nothing_held, Situation.Situation}
use Rattle.snoop_scenes.specs.Scene.{two_blocks, Frame, ◌⟶◌, load, order, respond, issued, ordered, came, memory, loads, sent, answered, holds, remembers, closed, at_rest}

-- the steps, what each is answered, and the states after it: core 0's, core 1's and memory's
abbrev pub frames : List Frame
frames =
    (load 0 0 ⟶ issued GetS, (state.IsAd, state.I, mem.IorS) ∷ (state.I, state.I, mem.IorS) ∷ [])
    ∷ (load 0 1 ⟶ issued GetS, (state.IsAd, state.I, mem.IorS) ∷ (state.IsAd, state.I, mem.IorS) ∷ [])
    ∷ (order 0 ⟶ ordered GetS, (state.IsD, state.I, mem.IorS) ∷ (state.IsAd, state.I, mem.IorS) ∷ [])
    ∷ (order 0 ⟶ ordered GetS, (state.IsD, state.I, mem.IorS) ∷ (state.IsD, state.I, mem.IorS) ∷ [])
    ∷ (respond 1 ⟶ came Data memory (loads 0 0 1 0), (state.IsD, state.I, mem.IorS) ∷ (state.S, state.I, mem.IorS) ∷ [])
    ∷ (respond 0 ⟶ came Data memory (loads 0 1 0 0), (state.S, state.I, mem.IorS) ∷ (state.S, state.I, mem.IorS) ∷ [])
    ∷ []

-- the items that they add
abbrev pub history : List Item
history =
    sent 0 GetS 0
    ∷ sent 0 GetS 1
    ∷ answered 0 GetS 1 Data memory (loads 0 0 1 0)
    ∷ answered 0 GetS 0 Data memory (loads 0 1 0 0)
    ∷ []

-- where they lead
abbrev pub end : Situation
end = at_rest Msi two_blocks (closed (holds state.S 0) nothing_held (remembers mem.IorS 0) ∷ closed (holds state.S 0) nothing_held (remembers mem.IorS 0) ∷ []) history
