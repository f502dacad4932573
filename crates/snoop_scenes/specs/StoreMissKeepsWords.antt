-- A store miss keeps the other words (MSI). Core 0 stores in word 0 of a block of two words, and then core 1 in word 1. Core 1's data is
-- core 0's block, so it reads both values.
-- Source: the tables of "A Primer on Memory Consistency and Cache Coherence", 2nd edition, chapter 7; the words of a block are this
-- project's profile.
use Rattle.std.specs.Prelude.{List, [], ◌∷◌, Some, slice_set}
use Rattle.snoop_trace.specs.declared.protocol.Protocol.TheVariants.{Msi}
use Rattle.snoop_rules.specs.declared.names.CacheState.TheVariants as state
use Rattle.snoop_rules.specs.declared.names.MemState.TheVariants as mem
use Rattle.snoop_rules.specs.declared.names.{Request.TheVariants.GetM, Payload.TheVariants.Data}
use Rattle.snoop_history.specs.declared.items.Item.{Item}
use Rattle.snoop_model.specs.Pictures.{Picture.nothing_held, Situation.Situation}
use Rattle.snoop_scenes.specs.Scene.{two_words, Frame, ◌⟶◌, load_word, store_word, order, respond, hit, issued, ordered, came, memory, core, hit_load, missed_store, at_word, one_word, performed, sent, answered, holds_words, remembers, states, closed, at_rest}

-- the steps, what each is answered, and the states after it: core 0's, core 1's and memory's
abbrev pub frames : List Frame
frames =
    (store_word 0 0 0 7 ⟶ issued GetM, states state.ImAd state.I mem.IorS)
    ∷ (order 0 ⟶ ordered GetM, states state.ImD state.I mem.M)
    ∷ (respond 0 ⟶ came Data memory (Some (missed_store 0 0 0 7)), states state.M state.I mem.M)
    ∷ (store_word 1 0 1 9 ⟶ issued GetM, states state.M state.ImAd mem.M)
    ∷ (order 1 ⟶ ordered GetM, states state.I state.ImD mem.M)
    ∷ (respond 0 ⟶ came Data (core 0) (Some (at_word 1 (missed_store 1 0 0 9))), states state.I state.M mem.M)
    ∷ (load_word 1 0 0 ⟶ hit 7, states state.I state.M mem.M)
    ∷ (load_word 1 0 1 ⟶ hit 9, states state.I state.M mem.M)
    ∷ []

-- the items that they add
abbrev pub history : List Item
history =
    sent 0 GetM 0
    ∷ answered 0 GetM 0 Data memory (Some (missed_store 0 0 0 7))
    ∷ sent 1 GetM 0
    ∷ answered 1 GetM 0 Data (core 0) (Some (at_word 1 (missed_store 1 0 0 9)))
    ∷ performed (hit_load 1 1 0 7)
    ∷ performed (at_word 1 (hit_load 1 2 0 9))
    ∷ []

-- where they lead: core 1 has both values
abbrev pub end : Situation
end = at_rest Msi two_words (closed nothing_held (holds_words state.M (slice_set (one_word 7) 1 9)) (remembers mem.M 0) ∷ []) history
