-- Outside the shape (MSI). There are cores 0 and 1, and block 0 alone, with one word. A step that names another core or block is refused
-- for it, and so is a load or a store of another word; an eviction's word is not looked at.
-- Source: this project's profile of the steps.
use Rattle.std.specs.Prelude.{List, [], ◌∷◌}
use Rattle.snoop_trace.specs.declared.protocol.Protocol.TheVariants.{Msi}
use Rattle.snoop_rules.specs.declared.names.CacheState.TheVariants as state
use Rattle.snoop_rules.specs.declared.names.MemState.TheVariants as mem
use Rattle.snoop_model.specs.{declared.replies.Refused.TheVariants.{NoCore, NoBlock}, Pictures.{Picture.nothing_held, Situation.Situation}}
use Rattle.snoop_history.specs.declared.items.Item.{Item}
use Rattle.snoop_scenes.specs.Scene.{two_cores, Frame, ◌⟶◌, load, load_word, store_word, evict_word, order, respond, absent, refused, remembers, states, closed, at_rest}

-- the steps, what each is answered, and the states after it: core 0's, core 1's and memory's
abbrev pub frames : List Frame
frames =
    (load_word 2 1 1 ⟶ refused NoCore, states state.I state.I mem.IorS)
    ∷ (load 1 1 ⟶ refused NoBlock, states state.I state.I mem.IorS)
    ∷ (load_word 1 0 1 ⟶ refused NoBlock, states state.I state.I mem.IorS)
    ∷ (store_word 1 0 1 5 ⟶ refused NoBlock, states state.I state.I mem.IorS)
    ∷ (evict_word 1 0 1 ⟶ absent, states state.I state.I mem.IorS)
    ∷ (order 2 ⟶ refused NoCore, states state.I state.I mem.IorS)
    ∷ (respond 1 ⟶ refused NoBlock, states state.I state.I mem.IorS)
    ∷ []

-- the items that they add
abbrev pub history : List Item
history =
    []

-- where they lead
abbrev pub end : Situation
end = at_rest Msi two_cores (closed nothing_held nothing_held (remembers mem.IorS 0) ∷ []) history
