-- Drop, then absent (MSI). A copy in S is given up silently: no request, no item in the history. Evicting what is not there is answered at once.
-- Source: the tables of "A Primer on Memory Consistency and Cache Coherence", 2nd edition, chapter 7.
use Rattle.std.specs.Prelude.{List, [], ◌∷◌}
use Rattle.snoop_trace.specs.declared.protocol.Protocol.TheVariants.{Msi}
use Rattle.snoop_rules.specs.declared.names.CacheState.TheVariants as state
use Rattle.snoop_rules.specs.declared.names.MemState.TheVariants as mem
use Rattle.snoop_rules.specs.declared.names.{Request.TheVariants.GetS, Payload.TheVariants.Data}
use Rattle.snoop_history.specs.declared.items.Item.{Item}
use Rattle.snoop_model.specs.Pictures.{Picture.nothing_held, Situation.Situation}
use Rattle.snoop_scenes.specs.Scene.{two_cores, Frame, ◌⟶◌, load, evict, order, respond, issued, gone, absent, ordered, came, memory, loads, sent, answered, remembers, states, closed, at_rest}

-- the steps, what each is answered, and the states after it: core 0's, core 1's and memory's
abbrev pub frames : List Frame
frames =
    (load 0 0 ⟶ issued GetS, states state.IsAd state.I mem.IorS)
    ∷ (order 0 ⟶ ordered GetS, states state.IsD state.I mem.IorS)
    ∷ (respond 0 ⟶ came Data memory (loads 0 0 0 0), states state.S state.I mem.IorS)
    ∷ (evict 0 0 ⟶ gone, states state.I state.I mem.IorS)
    ∷ (evict 0 0 ⟶ absent, states state.I state.I mem.IorS)
    ∷ []

-- the items that they add
abbrev pub history : List Item
history =
    sent 0 GetS 0
    ∷ answered 0 GetS 0 Data memory (loads 0 0 0 0)
    ∷ []

-- where they lead
abbrev pub end : Situation
end = at_rest Msi two_cores (closed nothing_held nothing_held (remembers mem.IorS 0) ∷ []) history
