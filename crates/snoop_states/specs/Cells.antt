-- What stands in the cells of a block's table: its state in a core, on the bus and in memory.
-- Source: this project's profile.
use Rattle.std.specs.{Prelude.{ℕ, List, codes}, Option.option_map_or}
use Rattle.snoop_model.specs.Pictures.Situation.{Situation, picture_of}
use Rattle.snoop_engine.specs.Words.{core_words, memory_words, message_words}
use Rattle.snoop_states.specs.declared.column.Column.{Column, TheVariants.{Core, Bus, Memory}}

-- the block's open transaction, if there is one
abbrev pub bus_cell : Situation → ℕ → List ℕ
bus_cell s block = option_map_or (message_words s.shape.words) (picture_of s block).transaction (codes "free")

-- what stands in a column; a core's place in the queue is said from 1 on
abbrev pub cell_text : Situation → ℕ → Column → List ℕ
cell_text s block (Core core) = core_words 1 s block core
cell_text s block Bus = bus_cell s block
cell_text s block Memory = memory_words s block
