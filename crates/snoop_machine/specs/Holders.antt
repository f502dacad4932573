-- The cores of a block that another's request concerns.
-- Source: "A Primer on Memory Consistency and Cache Coherence", 2nd edition, chapter 7; that an Order looks at no other cores is this project's profile.
use Rattle.std.specs.Prelude.{◌≡◌, ◌≢◌, ℕ, Bool, true, false, List, [], slice_index_or, slice_set}
use Rattle.snoop_rules.specs.declared.names.{CacheState.CacheState, Request.{Request, TheVariants.{GetS, GetM, PutM}}}
use Rattle.snoop_model.specs.{Pictures.{Lines.Line, Picture.held_at, Proper.keeps}, Invariant.Fits.is_owner}
use Rattle.snoop_machine.specs.declared.lines.Holders.{Holders}
use Rattle.snoop_blocks.specs.CoreSet.{has}

-- whether another's request concerns a core, by whether it is an owner and whether it is a reader
abbrev pub is_concerned : Request → Bool → Bool → Bool
is_concerned GetS owner reader = owner
is_concerned GetM owner reader = reader
is_concerned PutM owner reader = false

-- whether another's request may change the line of a core in this state, or have it send
abbrev pub concerns : Request → CacheState → Bool
concerns request state = is_concerned request (is_owner state) (keeps state)

-- a set of the requestor and of the cores that its request concerns
pub record AreConcerned (lines : List Line) (requestor : ℕ) (request : Request) (set : List ℕ) : Type 0 where
  pub own : has set requestor ≡ true
  pub others : (k : ℕ) → k ≢ requestor → has set k ≡ concerns request (held_at lines k).state

-- the sets have the owners and the readers of these lines, and no other cores
pub record AreHolders (holders : Holders) (lines : List Line) : Type 0 where
  pub owners : (core : ℕ) → has holders.owners core ≡ is_owner (held_at lines core).state
  pub readers : (core : ℕ) → has holders.readers core ≡ keeps (held_at lines core).state

-- one core has moved to this state, and nothing else has changed
pub record HaveMoved (core : ℕ) (state : CacheState) (old new : Holders) : Type 0 where
  pub owner : has new.owners core ≡ is_owner state
  pub reader : has new.readers core ≡ keeps state
  pub other_owners : (k : ℕ) → k ≢ core → has new.owners k ≡ has old.owners k
  pub other_readers : (k : ℕ) → k ≢ core → has new.readers k ≡ has old.readers k

-- what stands for the holders of a block that there isn't
abbrev pub no_holders : Holders
no_holders = record { owners = []; readers = [] }

-- the core stands in the sets as one in this state does
abbrev pub StandsAs : ℕ → CacheState → Holders → Type 0
StandsAs core state holders = (has holders.owners core ≡ is_owner state) × (has holders.readers core ≡ keeps state)

-- the holders of one block have the core as one in this state, and nothing else has changed
pub record HaveFollowed (core block : ℕ) (after : CacheState) (old new : List Holders) : Type 0 where
  pub moved : Holders
  pub set : new ≡ slice_set old block moved
  pub follows : HaveMoved core after (slice_index_or old block no_holders) moved
