-- Nothing enabled (MSI). At reset no request waits and no transaction is open: there is nothing to order and nothing that could come.
-- Source: this project's profile of the steps.
use Rattle.std.specs.Prelude.{List, [], ◌∷◌}
use Rattle.snoop_trace.specs.declared.protocol.Protocol.TheVariants.{Msi}
use Rattle.snoop_rules.specs.declared.names.CacheState.TheVariants as state
use Rattle.snoop_rules.specs.declared.names.MemState.TheVariants as mem
use Rattle.snoop_model.specs.{declared.replies.Refused.TheVariants.{NothingWaiting, NoTransaction}, Pictures.{Picture.nothing_held, Situation.Situation}}
use Rattle.snoop_history.specs.declared.items.Item.{Item}
use Rattle.snoop_scenes.specs.Scene.{two_cores, Frame, ◌⟶◌, order, respond, refused, remembers, states, closed, at_rest}

-- the steps, what each is answered, and the states after it: core 0's, core 1's and memory's
abbrev pub frames : List Frame
frames =
    (order 0 ⟶ refused NothingWaiting, states state.I state.I mem.IorS)
    ∷ (order 0 ⟶ refused NothingWaiting, states state.I state.I mem.IorS)
    ∷ (respond 0 ⟶ refused NoTransaction, states state.I state.I mem.IorS)
    ∷ (respond 0 ⟶ refused NoTransaction, states state.I state.I mem.IorS)
    ∷ []

-- the items that they add
abbrev pub history : List Item
history =
    []

-- where they lead
abbrev pub end : Situation
end = at_rest Msi two_cores (closed nothing_held nothing_held (remembers mem.IorS 0) ∷ []) history
