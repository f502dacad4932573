-- The rule of the published versions, and what its two kinds of step say.
-- Source: this project's profile.
use Rattle.std.specs.Prelude.{◌≡◌, ◌≢◌, ℕ, ◌≤◌, List, [], ◌++◌, All, length, map, Option, Some, None, option_to_list, true, false}
use mathlib.Core.Option.{some}
use lib.ListN.{get_elem?}
use Rattle.snoop_history.specs.{declared.items.Item.Item, History.last_or, Within.IsItemWithin, Board.{board_of, absorbed}}
use Rattle.snoop_versions.specs.{declared.{version.Version.Version, rule.View.View}, Readings.{IsHistory, StartsWith, Viewing}}

-- the last item of a list, if any
abbrev pub newest_of : List Item → Option Item
newest_of items = last_or None (map Some items)

-- the version of a list
abbrev pub version_of : ℕ → ℕ → ℕ → List Item → Version
version_of cores blocks words list = record { board = board_of cores blocks words list; newest = newest_of list }

-- a version after one more item
abbrev pub grown : Version → Item → Version
grown x entry = record { board = absorbed x.board entry; newest = Some entry }

-- what a handle knows before its first use
abbrev pub newcomer : View
newcomer = record { used = false; writes = false; cores = 0; blocks = 0; words = 0; seen = [] }

-- what the rule says of what one handle knows: the writer's list is the published one, and has an item
pub record Fits (cores blocks words : ℕ) (list : List Item) (writer : ℕ) (handle : ℕ) (v : View) : Type 0 where
  pub begins : StartsWith list v.seen
  pub shape : v.used ≡ true → (v.cores ≡ cores) × (v.blocks ≡ blocks) × (v.words ≡ words)
  pub writes : v.writes ≡ true → (handle ≡ writer) × (v.seen ≡ list) × (newest_of list ≢ None)

-- one machine's history, within its shape, whose version is published, and which begins with what each handle has seen
pub record Kept (x : Version) (views : List View) : Type 0 where
  pub cores : ℕ
  pub blocks : ℕ
  pub words : ℕ
  pub list : List Item
  pub writer : ℕ
  pub version : x ≡ version_of cores blocks words list
  pub history : IsHistory cores blocks words list
  pub within : All (IsItemWithin cores blocks words) list
  pub each : (handle : ℕ) (v : View) → get_elem? views handle ≡ some v → Fits cores blocks words list writer handle v

-- the writer's list has grown by the newest item
abbrev pub Adds : View → Version → Version → View → Type 0
Adds v x y w = (w.writes ≡ true) × (w.seen ≡ v.seen ++ option_to_list y.newest)

-- what is seen is a machine's history, lies within the shape, begins with what was seen before, and has this version
pub record Sees (v : View) (x y : Version) (w : View) : Type 0 where
  pub used : w.used ≡ true
  pub version : y ≡ version_of w.cores w.blocks w.words w.seen
  pub history : IsHistory w.cores w.blocks w.words w.seen
  pub within : All (IsItemWithin w.cores w.blocks w.words) w.seen
  pub begins : StartsWith w.seen v.seen
  pub shape : v.used ≡ true → (w.cores ≡ v.cores) × (w.blocks ≡ v.blocks) × (w.words ≡ v.words)

-- what a reader shows of what it knows
abbrev pub viewing : View → Viewing
viewing v = record { cores = v.cores; blocks = v.blocks; words = v.words; seen = v.seen }

-- a writer that has not published yet has an empty list
abbrev pub IsWriting : View → Type 0
IsWriting v = v.writes ≡ false → v.seen ≡ []

-- what holds of every writer: its version is that of its list, and at most one item is ready
pub record IsPublishing (cores blocks words : ℕ) (v : View) (x : Version) (ready : List Item) : Type 0 where
  pub writing : IsWriting v
  pub shown : x ≡ version_of cores blocks words v.seen
  pub few : length ready ≤ 1
