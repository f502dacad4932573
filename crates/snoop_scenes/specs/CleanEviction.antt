-- The clean eviction (MESI). Evicting a block in E sends a PutM with NoDataE: memory's value is current.
-- Memory owns the block again, so that core 1's load moves to E.
-- Source: this project's profile of MESI (memory's states, and the eviction of a block in E), and chapter 7 of the Primer for the rest.
use Rattle.std.specs.Prelude.{List, [], ◌∷◌}
use Rattle.snoop_trace.specs.declared.protocol.Protocol.TheVariants.{Mesi}
use Rattle.snoop_rules.specs.declared.names.CacheState.TheVariants as state
use Rattle.snoop_rules.specs.declared.names.MemState.TheVariants as mem
use Rattle.snoop_rules.specs.declared.names.{Request.TheVariants.{GetS, PutM}, Payload.TheVariants.{DataE, NoDataE}}
use Rattle.snoop_history.specs.declared.items.Item.{Item}
use Rattle.snoop_model.specs.Pictures.{Picture.nothing_held, Situation.Situation}
use Rattle.snoop_scenes.specs.Scene.{two_cores, Frame, ◌⟶◌, load, evict, order, respond, issued, ordered, came, memory, core, loads, nothing, sent, answered, holds, remembers, states, closed, at_rest}

-- the steps, what each is answered, and the states after it: core 0's, core 1's and memory's
abbrev pub frames : List Frame
frames =
    (load 0 0 ⟶ issued GetS, states state.IsAd state.I mem.I)
    ∷ (order 0 ⟶ ordered GetS, states state.IsD state.I mem.EorM)
    ∷ (respond 0 ⟶ came DataE memory (loads 0 0 0 0), states state.E state.I mem.EorM)
    ∷ (evict 0 0 ⟶ issued PutM, states state.EiA state.I mem.EorM)
    ∷ (order 0 ⟶ ordered PutM, states state.I state.I mem.EorMD)
    ∷ (respond 0 ⟶ came NoDataE (core 0) nothing, states state.I state.I mem.I)
    ∷ (load 1 0 ⟶ issued GetS, states state.I state.IsAd mem.I)
    ∷ (order 1 ⟶ ordered GetS, states state.I state.IsD mem.EorM)
    ∷ (respond 0 ⟶ came DataE memory (loads 1 0 0 0), states state.I state.E mem.EorM)
    ∷ []

-- the items that they add
abbrev pub history : List Item
history =
    sent 0 GetS 0
    ∷ answered 0 GetS 0 DataE memory (loads 0 0 0 0)
    ∷ sent 0 PutM 0
    ∷ answered 0 PutM 0 NoDataE (core 0) nothing
    ∷ sent 1 GetS 0
    ∷ answered 1 GetS 0 DataE memory (loads 1 0 0 0)
    ∷ []

-- where they lead
abbrev pub end : Situation
end = at_rest Mesi two_cores (closed nothing_held (holds state.E 0) (remembers mem.EorM 0) ∷ []) history
