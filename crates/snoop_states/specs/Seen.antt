-- What the tables of a run are while the run is seen.
-- Source: this project's profile.
use Rattle.std.specs.Prelude.{◌≡◌, ◌<◌, ◌≤◌, ℕ, ◌+◌, Bool, true, false, List, [], ◌++◌, length, map, nat_lt}
use Rattle.snoop_trace.specs.{Extent.Extent, declared.protocol.Protocol.Protocol}
use Rattle.snoop_model.specs.Pictures.Situation.{Situation}
use Rattle.snoop_engine.specs.{Frames.Frame, Numbered.{Numbered, led_to}, Chosen.{Chosen, is_chosen}}
use Rattle.snoop_states.specs.{declared.{column.Column.Column, widths.Widths.Widths, table.{Cell.Cell, Table.Table}}, Cells.cell_text, Each.AreEach}
use Rattle.snoop_states.specs.{Rows.cells_text, Tables.{first_row, first_shown, rows_text, shown_of}}

-- a column of a table, and the text that stands above its next row there
abbrev pub pair : Cell → Column × List ℕ
pair cell = (cell.column, cell.text.items)

-- the cells are those of the columns, with these texts
abbrev pub HasCells : List Column → (Column → List ℕ) → List Cell → Type 0
HasCells columns text cells = map pair cells ≡ map (λ column. (column, text column)) columns

-- the table has one row more, with these cells below others, and then this text
pub record IsRowMore (widths : Widths) (columns : List Column) (above cell : Column → List ℕ) (number : ℕ) (line : List ℕ) (shown : Bool) (old new : Table) : Type 0 where
  pub cells : HasCells columns cell new.cells.items
  pub rows : new.rows.items ≡ old.rows.items ++ (cells_text widths columns above cell number ++ line)
  pub is_shown : new.is_shown ≡ shown

-- a table without a row
pub record IsEmpty (columns : List Column) (table : Table) : Type 0 where
  pub cells : HasCells columns (λ column. []) table.cells.items
  pub rows : table.rows.items ≡ []
  pub is_shown : table.is_shown ≡ false

-- a table that has its first row and one for each of these steps
pub record HasRows (widths : Widths) (choice : Chosen) (shape : Extent) (block : ℕ) (columns : List Column) (start : Situation) (shown : List Numbered) (table : Table) : Type 0 where
  pub cells : HasCells columns (cell_text (led_to start (map (λ n. n.frame) shown)) block) table.cells.items
  pub rows : table.rows.items ≡ first_row widths choice block columns start ++ rows_text widths shape block columns start shown
  pub is_shown : table.is_shown ≡ nat_lt 0 (length shown)

-- the table of a block, as far as the frames go
pub record IsTable (widths : Widths) (choice : Chosen) (protocol : Protocol) (shape : Extent) (columns : List Column) (frames : List Frame) (block : ℕ) (table : Table) : Type 0 where
  pub early : length frames + 1 < choice.from → IsEmpty columns table
  pub late : choice.from ≤ length frames + 1 → HasRows widths choice shape block columns (first_shown choice protocol shape frames) (shown_of choice block frames) table

-- a table for each block of the shape, and of each that is shown this holds
abbrev pub AreTables : Extent → Chosen → (ℕ → Table → Type 0) → List Table → Type 0
AreTables shape choice P tables = AreEach shape.blocks (λ block table. is_chosen choice.block block ≡ true → P block table) tables

-- a table without a row gets its first row
abbrev pub Starts : Widths → Chosen → Situation → ℕ → Table → Table → Type 0
Starts widths choice here block old new = (columns : List Column) → IsEmpty columns old → HasRows widths choice here.shape block columns here [] new

-- a table gets a row, whatever its columns are and what stands in them
abbrev pub Grows : Widths → Situation → ℕ → ℕ → List ℕ → Bool → Table → Table → Type 0
Grows widths here block number line shown old new =
    (columns : List Column) (above : Column → List ℕ) → HasCells columns above old.cells.items → IsRowMore widths columns above (cell_text here block) number line shown old new

-- a table is begun, if it is one of the first n, and has no row, if it is not
pub record IsHalfBegun (widths : Widths) (choice : Chosen) (here : Situation) (columns : List Column) (n block : ℕ) (table : Table) : Type 0 where
  pub begun : block < n → HasRows widths choice here.shape block columns here [] table
  pub rest : n ≤ block → IsEmpty columns table
