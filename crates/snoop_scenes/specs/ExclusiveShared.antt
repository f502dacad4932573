-- Exclusive, then shared (MESI). The owner in E answers core 1's GetS with data for it and for memory; both cores move to S, and so does memory.
-- Source: this project's profile of MESI (memory's states, and the eviction of a block in E), and chapter 7 of the Primer for the rest.
use Rattle.std.specs.Prelude.{List, [], ◌∷◌}
use Rattle.snoop_trace.specs.declared.protocol.Protocol.TheVariants.{Mesi}
use Rattle.snoop_rules.specs.declared.names.CacheState.TheVariants as state
use Rattle.snoop_rules.specs.declared.names.MemState.TheVariants as mem
use Rattle.snoop_rules.specs.declared.names.{Request.TheVariants.GetS, Payload.TheVariants.{Data, DataE}}
use Rattle.snoop_history.specs.declared.items.Item.{Item}
use Rattle.snoop_model.specs.Pictures.Situation.{Situation}
use Rattle.snoop_scenes.specs.Scene.{two_cores, Frame, ◌⟶◌, load, order, respond, issued, ordered, came, memory, core, loads, sent, answered, holds, remembers, states, closed, at_rest}

-- the steps, what each is answered, and the states after it: core 0's, core 1's and memory's
abbrev pub frames : List Frame
frames =
    (load 0 0 ⟶ issued GetS, states state.IsAd state.I mem.I)
    ∷ (order 0 ⟶ ordered GetS, states state.IsD state.I mem.EorM)
    ∷ (respond 0 ⟶ came DataE memory (loads 0 0 0 0), states state.E state.I mem.EorM)
    ∷ (load 1 0 ⟶ issued GetS, states state.E state.IsAd mem.EorM)
    ∷ (order 1 ⟶ ordered GetS, states state.S state.IsD mem.SD)
    ∷ (respond 0 ⟶ came Data (core 0) (loads 1 0 0 0), states state.S state.S mem.S)
    ∷ []

-- the items that they add
abbrev pub history : List Item
history =
    sent 0 GetS 0
    ∷ answered 0 GetS 0 DataE memory (loads 0 0 0 0)
    ∷ sent 1 GetS 0
    ∷ answered 1 GetS 0 Data (core 0) (loads 1 0 0 0)
    ∷ []

-- where they lead
abbrev pub end : Situation
end = at_rest Mesi two_cores (closed (holds state.S 0) (holds state.S 0) (remembers mem.S 0) ∷ []) history
