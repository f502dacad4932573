-- The bands of a drawing: what a core may do, whether a transaction is open, whether memory sends.
-- Source: this project's profile.
use Rattle.std.specs.Prelude.{◌≡◌, ◌⊎◌, ℕ, ◌+◌, Bool, true, false, List, [], ◌++◌, codes, Option, Some, None, if◌then◌else◌, bytes_eq}
use Rattle.snoop_trace.specs.declared.protocol.Protocol.{Protocol}
use Rattle.snoop_rules.specs.declared.names.{CacheState.{CacheState, TheVariants.{E, EiA}}, MemState.MemState}
use Rattle.snoop_bus.specs.Traffic.{Open}
use Rattle.snoop_engine.specs.Words.{answers}
use Rattle.snoop_draw.specs.{Events.may, declared.marks.Mark.Mark}
use Rattle.snoop_draw.specs.declared.marks.Mark.TheVariants as sign
use Rattle.snoop_svg.specs.{declared.bands.Band.Band, Elements.box}
use Rattle.snoop_svg.specs.declared.bands.Band.TheVariants as band

-- the class of a band; none has none
abbrev pub class_of : Band → List ℕ
class_of band.Bare = []
class_of band.Write = codes "w"
class_of band.Clean = codes "c"
class_of band.Read = codes "r"
class_of band.Open = codes "b"
class_of band.Sends = codes "m"

-- a band of a core that may write
abbrev pub HasEdge : Band → Type 0
HasEdge shown = (shown ≡ band.Write) ⊎ (shown ≡ band.Clean)

-- it has a dark edge
abbrev pub edge : ℕ → ℕ → ℕ → Band → List ℕ
edge x y high band.Write = box x y 4 high (codes "edge")
edge x y high band.Clean = box x y 4 high (codes "edge")
edge x y high _ = []

-- a stretch of a band
abbrev pub part : ℕ → ℕ → ℕ → ℕ → Band → List ℕ
part x y wide high band.Bare = []
part x y wide high shown = box x y wide high (class_of shown) ++ edge x y high shown

-- a band in a row that begins at y: above as it was in the row above, below as it is
abbrev pub band_text : ℕ → ℕ → ℕ → Band → Band → List ℕ
band_text x y wide old new =
    if bytes_eq (class_of old) (class_of new) then part x y wide 54 new
    else (part x y wide 36 old ++ part x (y + 36) wide 18 new)

-- a core that has not changed the block since it got it
abbrev pub is_clean : CacheState → Bool
is_clean E = true
is_clean EiA = true
is_clean _ = false

-- the band of a core that may do this, in this state
abbrev pub marked_band : Mark → CacheState → Band
marked_band sign.MayWrite held = if is_clean held then band.Clean else band.Write
marked_band sign.MayRead held = band.Read
marked_band _ held = band.Bare

-- the band of a core in this state
abbrev pub core_band : Protocol → CacheState → Band
core_band protocol held = marked_band (may protocol held) held

-- the band of the bus
abbrev pub bus_band : Option Open → Band
bus_band None = band.Bare
bus_band (Some opened) = band.Open

-- the band of memory
abbrev pub memory_band : Option MemState → Band
memory_band None = band.Bare
memory_band (Some state) = if answers state then band.Sends else band.Bare
