-- A single writer, or many readers; and what memory's state says of them.
-- Source: "A Primer on Memory Consistency and Cache Coherence", 2nd edition: the single-writer-multiple-reader invariant; MESI's memory is this project's profile.
use Rattle.std.specs.Prelude.{◌≢◌, ℕ, Bool, true, false}
use Rattle.snoop_trace.specs.declared.protocol.Protocol.{Protocol}
use Rattle.snoop_rules.specs.{Possible.{MayLoad, MayStore}, declared.names.MemState.{MemState, TheVariants.{M, MD, I, ID, EorM, EorMD}}}
use Rattle.snoop_model.specs.Pictures.Picture.{Picture, held_by}

-- where a core may write, no other may read or write
abbrev pub OneWriter : Protocol → Picture → Type 0
OneWriter protocol picture =
    (core other : ℕ) → MayStore protocol (held_by picture core).state → other ≢ core → (¬ MayLoad protocol (held_by picture other).state) × (¬ MayStore protocol (held_by picture other).state)

-- memory's states in which a core may be a reader
abbrev pub lets_load : MemState → Bool
lets_load I = false
lets_load ID = false
lets_load _ = true

-- memory's states in which a core may be a writer, or will be once its data comes
abbrev pub lets_store : MemState → Bool
lets_store M = true
lets_store MD = true
lets_store EorM = true
lets_store EorMD = true
lets_store _ = false
