-- The head of the queue blocks (MSI). Core 0's requests are ordered in the order of issue.
-- So its request for the free block 1 does not overtake the one for block 0, whose transaction is open.
-- Source: the tables of "A Primer on Memory Consistency and Cache Coherence", 2nd edition, chapter 7.
use Rattle.std.specs.Prelude.{List, [], ◌∷◌}
use Rattle.snoop_trace.specs.declared.protocol.Protocol.TheVariants.{Msi}
use Rattle.snoop_rules.specs.declared.names.CacheState.TheVariants as state
use Rattle.snoop_rules.specs.declared.names.MemState.TheVariants as mem
use Rattle.snoop_rules.specs.declared.names.{Request.TheVariants.GetS, Payload.TheVariants.Data}
use Rattle.snoop_model.specs.{declared.replies.Refused.TheVariants.BusTaken, Pictures.{Picture.nothing_held, Situation.Situation}}
use Rattle.snoop_history.specs.declared.items.Item.{Item}
use Rattle.snoop_scenes.specs.Scene.{two_blocks, Frame, ◌⟶◌, load, order, respond, issued, ordered, came, refused, memory, loads, sent, answered, holds, remembers, closed, at_rest}

-- the steps, what each is answered, and the states after it: core 0's, core 1's and memory's
abbrev pub frames : List Frame
frames =
    (load 1 0 ⟶ issued GetS, (state.I, state.IsAd, mem.IorS) ∷ (state.I, state.I, mem.IorS) ∷ [])
    ∷ (order 1 ⟶ ordered GetS, (state.I, state.IsD, mem.IorS) ∷ (state.I, state.I, mem.IorS) ∷ [])
    ∷ (load 0 0 ⟶ issued GetS, (state.IsAd, state.IsD, mem.IorS) ∷ (state.I, state.I, mem.IorS) ∷ [])
    ∷ (load 0 1 ⟶ issued GetS, (state.IsAd, state.IsD, mem.IorS) ∷ (state.IsAd, state.I, mem.IorS) ∷ [])
    ∷ (order 0 ⟶ refused (BusTaken 0), (state.IsAd, state.IsD, mem.IorS) ∷ (state.IsAd, state.I, mem.IorS) ∷ [])
    ∷ (respond 0 ⟶ came Data memory (loads 1 0 0 0), (state.IsAd, state.S, mem.IorS) ∷ (state.IsAd, state.I, mem.IorS) ∷ [])
    ∷ (order 0 ⟶ ordered GetS, (state.IsD, state.S, mem.IorS) ∷ (state.IsAd, state.I, mem.IorS) ∷ [])
    ∷ (order 0 ⟶ ordered GetS, (state.IsD, state.S, mem.IorS) ∷ (state.IsD, state.I, mem.IorS) ∷ [])
    ∷ (respond 0 ⟶ came Data memory (loads 0 0 0 0), (state.S, state.S, mem.IorS) ∷ (state.IsD, state.I, mem.IorS) ∷ [])
    ∷ (respond 1 ⟶ came Data memory (loads 0 1 1 0), (state.S, state.S, mem.IorS) ∷ (state.S, state.I, mem.IorS) ∷ [])
    ∷ []

-- the items that they add
abbrev pub history : List Item
history =
    sent 1 GetS 0
    ∷ answered 1 GetS 0 Data memory (loads 1 0 0 0)
    ∷ sent 0 GetS 0
    ∷ sent 0 GetS 1
    ∷ answered 0 GetS 0 Data memory (loads 0 0 0 0)
    ∷ answered 0 GetS 1 Data memory (loads 0 1 1 0)
    ∷ []

-- where they lead
abbrev pub end : Situation
end = at_rest Msi two_blocks (closed (holds state.S 0) (holds state.S 0) (remembers mem.IorS 0) ∷ closed (holds state.S 0) nothing_held (remembers mem.IorS 0) ∷ []) history
