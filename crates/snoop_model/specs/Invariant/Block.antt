-- The inductive invariant of one block's picture, for any number of cores.
-- Source: this project's profile.
use Rattle.std.specs.{Prelude.{◌≡◌, ◌<◌, ◌==◌, ℕ, Bool, true, false, cond, Option, Some, None, is_some}, Option.ForSome}
use Rattle.snoop_trace.specs.{Words.Data, declared.protocol.Protocol.Protocol}
use Rattle.snoop_rules.specs.{declared.names.Request.Request, Takers.carries_value}
use Rattle.snoop_bus.specs.Traffic.{Open}
use Rattle.snoop_model.specs.{Pictures.{Picture.{Picture, held_by}, Proper.{keeps, IsProper}}, Invariant.Fits.{Claims, Talk, claims_of, is_clean, fits}}

-- what is said on the bus
abbrev pub talk_of : Option Open → Option Talk
talk_of None = None
talk_of (Some o) = Some (o.request, o.payload)

-- the core's own request that is open, if any
abbrev pub own_open : Option Open → ℕ → Option Request
own_open None d = None
own_open (Some o) d = cond (d == o.core) (Some o.request) None

-- the core is the owner
abbrev pub owns : Option ℕ → ℕ → Bool
owns None d = false
owns (Some o) d = d == o

-- what holds of a block's picture, for n cores, where these are its words in flat memory: each core that may read keeps them; memory has them where the claims say so or a core's line is clean; and the message where its payload carries them
pub record BlockInvariant (p : Protocol) (n : ℕ) (flat : Data) (picture : Picture) : Type 0 where
  pub claims : Claims
  pub is_claims : claims_of p picture.memory.state (talk_of picture.transaction) ≡ Some claims
  pub owner : Option ℕ
  pub owner_in : (o : ℕ) → owner ≡ Some o → o < n
  pub is_owned : is_some owner ≡ claims.owned
  pub states : (d : ℕ) → d < n → fits p claims.shared (owns owner d) (own_open picture.transaction d) (held_by picture d).state ≡ true
  pub kept : (d : ℕ) → d < n → keeps (held_by picture d).state ≡ true → (held_by picture d).kept ≡ Some flat
  pub clean : (d : ℕ) → d < n → is_clean (held_by picture d).state ≡ true → picture.memory.value ≡ flat
  pub fresh : claims.fresh ≡ true → picture.memory.value ≡ flat
  pub carried : (o : Open) → picture.transaction ≡ Some o → carries_value o.payload ≡ true → o.value ≡ flat
  pub requestor_in : (o : Open) → picture.transaction ≡ Some o → o.core < n
  pub sender_in : (o : Open) → picture.transaction ≡ Some o → ForSome o.from (λ sender. sender < n)
  pub proper : (d : ℕ) → d < n → IsProper (held_by picture d)
