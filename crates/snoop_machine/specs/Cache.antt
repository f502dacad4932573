-- The lines of one core, as its map keeps them.
-- Source: this project's profile.
use Rattle.std.specs.Prelude.{◌≡◌, ℕ, ◌+◌, ◌-◌, ◌<◌, ◌≤◌, Bool, true, false, if◌then◌else◌, List, [], Option, Some, None, ⊤, length, unwrap_or, option_map, nat_eq, map}
use Rattle.std.specs.Map.{lookup, keys_of}
use Rattle.snoop_model.specs.{Pictures.{Lines.Line, Picture.{nothing_held, kept_on}}, declared.access.Access.Access, Moves.Move.as_access}
use Rattle.snoop_trace.specs.Words.{Data, words_after}
use Rattle.snoop_rules.specs.declared.names.CacheState.{CacheState, TheVariants.I}
use Rattle.snoop_machine.specs.declared.lines.LineChange.{LineChange, TheVariants.{Hit, Wait}}

-- the entries of a core's map, by block, and for how many more there is room
pub record Contents : Type 0 where
  pub entries : List (ℕ × Line)
  pub spare : ℕ

-- what stands for the map of a core that there isn't
abbrev pub no_cache : Contents
no_cache = record { entries = []; spare = 0 }

-- of the room for lines no more goes than lines were put in
abbrev pub KeepsMapRoom : Contents → Contents → Type 0
KeepsMapRoom old new = old.spare ≤ new.spare + (length new.entries - length old.entries)

-- the line that a map has, or that of a block of which the cache holds nothing
abbrev pub line_or_nothing : Option Line → Line
line_or_nothing found = unwrap_or found nothing_held

-- the block's line in a map
abbrev pub line_in : Contents → ℕ → Line
line_in cache block = line_or_nothing (lookup (nat_eq block) cache.entries)

-- the blocks that have a line there
abbrev pub blocks_of : Contents → List ℕ
blocks_of cache = keys_of cache.entries

-- what each core holds of a block
abbrev pub lines_held : List Contents → ℕ → List Line
lines_held caches block = map (λ cache. line_in cache block) caches

-- what is kept after a change: a hit is performed on it
abbrev pub kept_after : CacheState → LineChange → Option Data → Option Data
kept_after next (Hit access) kept = option_map (words_after access.word access.op) kept
kept_after next _ kept = kept_on next kept

-- what waits after a change
abbrev pub waiting_after : LineChange → Option Access → Option Access
waiting_after (Wait access) before = as_access access.word access.op
waiting_after _ before = before

-- a line after a change
abbrev pub changed : CacheState → LineChange → Line → Line
changed next change old = record { state = next; kept = kept_after next change old.kept; waiting = waiting_after change old.waiting }

-- a line that was filled with these words, on which an operation was performed
abbrev pub filled_line : CacheState → Access → Data → Line
filled_line next access words = record { state = next; kept = Some (words_after access.word access.op words); waiting = None }

-- an operation that is performed is of a word that blocks have
abbrev pub IsOfWords : ℕ → LineChange → Type 0
IsOfWords count (Hit access) = access.word < count
IsOfWords count _ = ⊤

-- whether this is I
abbrev pub is_invalid : CacheState → Bool
is_invalid I = true
is_invalid _ = false

-- how many lines go where a line moves from one state to another: one where it moves to I
abbrev pub gone : CacheState → CacheState → ℕ
gone old new = if is_invalid new then (if is_invalid old then 0 else 1) else 0

-- the block has this line in a map now, and each other block has the one that it had; where another state gave way to I there is one line less, and none for the block; else the map has lines for the same blocks. It keeps its room
pub record WritesEntry (block : ℕ) (line : Line) (old new : Contents) : Type 0 where
  pub here : line_in new block ≡ line
  pub others : (b : ℕ) → nat_eq block b ≡ false → lookup (nat_eq b) new.entries ≡ lookup (nat_eq b) old.entries
  pub stays : gone (line_in old block).state line.state ≡ 0 → blocks_of new ≡ blocks_of old
  pub taken : gone (line_in old block).state line.state ≡ 1 → lookup (nat_eq block) new.entries ≡ None
  pub fewer : gone (line_in old block).state line.state ≡ 1 → length new.entries + 1 ≡ length old.entries
  pub room : KeepsMapRoom old new
