-- What a column shows of a situation: its band, its rail and its words.
-- Source: this project's profile.
use Rattle.std.specs.Prelude.{ℕ, List, map}
use Rattle.snoop_model.specs.Pictures.Situation.{Situation, picture_of}
use Rattle.snoop_engine.specs.{Taken.memory_at, Words.{core_words, memory_words}}
use Rattle.snoop_draw.specs.{Events.awaits, Rows.held_in, Words.bus_words, declared.marks.Mark.Mark}
use Rattle.snoop_draw.specs.declared.marks.Mark.TheVariants as sign
use Rattle.snoop_svg.specs.declared.{bands.Band.Band, columns.{Column.Column, Subject.{Subject, TheVariants.{Core, Bus, Memory}}}, looks.Rail.Rail}
use Rattle.snoop_svg.specs.declared.looks.Rail.TheVariants as rail
use Rattle.snoop_svg.specs.Bands.{bus_band, core_band, memory_band}

-- what a column shows
pub record Look : Type 0 where
  pub band : Band
  pub rail : Rail
  pub words : List ℕ

-- what stands at the rail of a core that waits for this
abbrev pub waiting_rail : Mark → Rail
waiting_rail sign.AwaitsOrder = rail.ToOrder
waiting_rail sign.AwaitsData = rail.ToData
waiting_rail _ = rail.Free

-- what a column of this subject shows
abbrev pub look_at : Situation → Subject → Look
look_at s (Core block core) = record { band = core_band s.protocol (held_in s block core); rail = waiting_rail (awaits (held_in s block core)); words = core_words 2 s block core }
look_at s (Bus block) = record { band = bus_band (picture_of s block).transaction; rail = rail.Free; words = bus_words s block }
look_at s (Memory block) = record { band = memory_band (memory_at s block); rail = rail.Free; words = memory_words s block }

-- a column, and what it shows
pub record SheetCell : Type 0 where
  pub column : Column
  pub look : Look

-- a column, and what it shows of a situation
abbrev pub cell_at : Situation → Column → SheetCell
cell_at s column = record { column = column; look = look_at s column.subject }

-- the same of columns
abbrev pub cells_at : Situation → List Column → List SheetCell
cells_at s columns = map (cell_at s) columns
