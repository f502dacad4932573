-- What a block's picture may be like in every run: the words of the inductive invariant.
-- Source: this project's profile.
use Rattle.std.specs.Prelude.{◌&&◌, ◌||◌, Bool, true, false, not, Option, Some, None}
use Rattle.snoop_trace.specs.declared.protocol.Protocol.{Protocol, TheVariants.{Msi, Mesi}}
use Rattle.snoop_rules.specs.declared.names.{CacheState.CacheState, MemState.{MemState, TheVariants.{IorS, M, IorSD, MD, I, S, EorM, ID, SD, EorMD}}}
use Rattle.snoop_rules.specs.declared.names.CacheState.TheVariants as state
use Rattle.snoop_rules.specs.declared.names.{Request.{Request, TheVariants.{GetS, GetM, PutM}}, Payload.{Payload, TheVariants.{Data, DataE, NoData, NoDataE}}}

-- owned: exactly one core may write, else none. shared: cores may be in S or SM_AD, else none. fresh: memory's value is the block's.
pub record Claims : Type 0 where
  pub owned : Bool
  pub shared : Bool
  pub fresh : Bool

-- where the block's value is: with its owner
abbrev pub with_owner : Claims
with_owner = record { owned = true; shared = false; fresh = false }

-- with memory, and with each sharer
abbrev pub with_sharers : Claims
with_sharers = record { owned = false; shared = true; fresh = true }

-- with the sharers, and on its way to memory
abbrev pub with_sharers_alone : Claims
with_sharers_alone = record { owned = false; shared = true; fresh = false }

-- with memory, and in the message if that carries data; no core has it
abbrev pub with_memory : Claims
with_memory = record { owned = false; shared = false; fresh = true }

-- in the message alone
abbrev pub in_message : Claims
in_message = record { owned = false; shared = false; fresh = false }

-- the open transaction's request and payload
abbrev pub Talk : Type 0
Talk = Request × Payload

-- where the block's value is, by memory's state and the open transaction; no other pair comes in a run
unfoldable pub claims_of : Protocol → MemState → Option Talk → Option Claims
claims_of Msi IorS None = Some with_sharers
claims_of Msi M None = Some with_owner
claims_of Msi IorS (Some (GetS, Data)) = Some with_sharers
claims_of Msi IorSD (Some (GetS, Data)) = Some with_sharers_alone
claims_of Msi M (Some (GetM, Data)) = Some in_message
claims_of Msi IorSD (Some (PutM, NoData)) = Some with_sharers
claims_of Msi MD (Some (PutM, NoData)) = Some with_owner
claims_of Msi MD (Some (PutM, Data)) = Some in_message
claims_of Mesi I None = Some with_memory
claims_of Mesi S None = Some with_sharers
claims_of Mesi EorM None = Some with_owner
claims_of Mesi EorM (Some (GetS, DataE)) = Some with_memory
claims_of Mesi S (Some (GetS, Data)) = Some with_sharers
claims_of Mesi SD (Some (GetS, Data)) = Some with_sharers_alone
claims_of Mesi EorM (Some (GetM, Data)) = Some in_message
claims_of Mesi ID (Some (PutM, NoData)) = Some with_memory
claims_of Mesi SD (Some (PutM, NoData)) = Some with_sharers
claims_of Mesi EorMD (Some (PutM, NoData)) = Some with_owner
claims_of Mesi EorMD (Some (PutM, Data)) = Some in_message
claims_of Mesi EorMD (Some (PutM, NoDataE)) = Some with_memory
claims_of _ _ _ = None

-- a state that may write
unfoldable pub is_owner : CacheState → Bool
is_owner state.E = true
is_owner state.M = true
is_owner state.EiA = true
is_owner state.MiA = true
is_owner _ = false

-- a state that may read beside others
unfoldable pub is_sharer : CacheState → Bool
is_sharer state.S = true
is_sharer state.SmAd = true
is_sharer _ = false

-- an owner that has not written yet
unfoldable pub is_clean : CacheState → Bool
is_clean state.E = true
is_clean state.EiA = true
is_clean _ = false

-- the state waits for data exactly where the core's own open request is this GetS or GetM; while its PutM is open the core has given the block up, and may have asked for it anew
unfoldable pub wait_fits : Option Request → CacheState → Bool
wait_fits (Some GetS) state.IsD = true
wait_fits (Some GetS) _ = false
wait_fits (Some GetM) state.ImD = true
wait_fits (Some GetM) state.SmD = true
wait_fits (Some GetM) _ = false
wait_fits (Some PutM) state.I = true
wait_fits (Some PutM) state.IsAd = true
wait_fits (Some PutM) state.ImAd = true
wait_fits (Some PutM) _ = false
wait_fits _ state.IsD = false
wait_fits _ state.ImD = false
wait_fits _ state.SmD = false
wait_fits _ _ = true

-- E and EI_A are MESI's alone
unfoldable pub in_protocol : Protocol → CacheState → Bool
in_protocol Msi s = not (is_clean s)
in_protocol Mesi s = true

-- both, or neither
unfoldable pub same : Bool → Bool → Bool
same true b = b
same false b = not b

-- the states of a core where sharers may be or not, that owns the block or not, and that awaits this request's answer or none
unfoldable pub fits : Protocol → Bool → Bool → Option Request → CacheState → Bool
fits p shared owns wait s = in_protocol p s && (same (is_owner s) owns && ((not (is_sharer s) || shared) && wait_fits wait s))
