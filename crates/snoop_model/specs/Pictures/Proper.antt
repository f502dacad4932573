-- For what a core waits in each state, and what its line holds.
-- Source: the states are those of chapter 7 of "A Primer on Memory Consistency and Cache Coherence", 2nd edition; the rest is this project's profile.
use Rattle.std.specs.Prelude.{◌≡◌, Bool, true, false, Option, Some, None, is_some, option_map}
use Rattle.snoop_trace.specs.declared.step.Op.{Op}
use Rattle.snoop_trace.specs.declared.step.Op.TheVariants as op
use Rattle.snoop_rules.specs.declared.names.{CacheState.{CacheState, TheVariants.{IsAd, IsD, ImAd, ImD, S, SmAd, SmD, E, M, EiA, MiA}}, Request.Request}
use Rattle.snoop_rules.specs.declared.names.Request.TheVariants.{GetS, GetM, PutM}
use Rattle.snoop_model.specs.Pictures.Lines.{Line}

-- the core keeps words in this state: those in which it may read, E and EI_A of MESI among them
abbrev pub keeps : CacheState → Bool
keeps S = true
keeps SmAd = true
keeps SmD = true
keeps E = true
keeps M = true
keeps EiA = true
keeps MiA = true
keeps _ = false

-- the request by which an operation is asked for
abbrev pub request_for : Op → Request
request_for op.Load = GetS
request_for (op.Store value) = GetM
request_for op.Evict = PutM

-- the request of the load or store that has missed in a state, and is still to be performed
abbrev pub missed_request : CacheState → Option Request
missed_request IsAd = Some GetS
missed_request IsD = Some GetS
missed_request ImAd = Some GetM
missed_request ImD = Some GetM
missed_request SmAd = Some GetM
missed_request SmD = Some GetM
missed_request _ = None

-- the request, already ordered, whose data a core in this state waits for
abbrev pub awaited_request : CacheState → Option Request
awaited_request IsD = Some GetS
awaited_request ImD = Some GetM
awaited_request SmD = Some GetM
awaited_request _ = None

-- a line keeps words exactly in the states that may read, and an operation waits in it exactly in those in which one has missed, a load or a store as the state says; so a line in I holds nothing
pub record IsProper (line : Line) : Type 0 where
  pub kept : is_some line.kept ≡ keeps line.state
  pub waiting : option_map (λ access. request_for access.op) line.waiting ≡ missed_request line.state
