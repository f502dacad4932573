-- Where the columns of a drawing stand. All numbers are pixels.
-- Source: this project's profile.
use Rattle.std.specs.Prelude.{ℕ, ◌+◌, ◌*◌, ◌≤◌, ◌==◌, ◌&&◌, Bool, false, List, [], ◌∷◌, ◌++◌, length, Option, Some, None, if◌then◌else◌}
use Rattle.snoop_trace.specs.{Extent.Extent, declared.step.Step.Step}
use Rattle.snoop_engine.specs.Widths.{digits, most_stored}
use Rattle.snoop_draw.specs.{Panels.Panel, Widths.values_width}
use Rattle.snoop_svg.specs.declared.{columns.{Column.Column, Subject.{Subject, TheVariants.{Core, Bus, Memory}}}, sizes.Sizes.Sizes}

-- the sizes for a text of these steps, by its numbers of digits: where the numbers of steps end, their records and the panels begin, the widths of the columns, and of a reply
abbrev pub sizes_for : Extent → List Step → Sizes
sizes_for shape steps =
    let values = values_width shape steps in
    let numbers = 12 + 8 * digits (length steps) in
    let records = numbers + 12 in
    record {
      numbers = numbers;
      records = records;
      panels = records + 8 * (4 + digits shape.cores + digits (shape.blocks * shape.block_bytes) + digits (most_stored steps)) + 16;
      lane = 88 + 8 * (values + digits shape.blocks);
      bus = 128 + 8 * (values + digits shape.cores);
      memory = 88 + 8 * values;
      reply = 8 * (23 + digits shape.cores + digits (most_stored steps));
    }

-- no column is too wide
pub record AreNarrow (sizes : Sizes) : Type 0 where
  pub panels : sizes.panels ≤ 1000
  pub lane : sizes.lane ≤ 11500
  pub bus : sizes.bus ≤ 11500
  pub memory : sizes.memory ≤ 11500
  pub reply : sizes.reply ≤ 1000

-- the lanes of these cores, the first of which begins at x, in a panel that begins at start
abbrev pub lanes_from : Sizes → ℕ → ℕ → ℕ → List ℕ → List Column
lanes_from sizes block start x [] = []
lanes_from sizes block start x (core ∷ cores) =
    record { subject = Core block core; start = start; x = x; end = x + sizes.lane } ∷ lanes_from sizes block start (x + sizes.lane + 8) cores

-- where a further lane would begin
abbrev pub after_lanes : Sizes → ℕ → List ℕ → ℕ
after_lanes sizes x [] = x
after_lanes sizes x (core ∷ cores) = after_lanes sizes (x + sizes.lane + 8) cores

-- the bus, beside lanes
abbrev pub bus_column : Sizes → ℕ → ℕ → ℕ → Column
bus_column sizes block start next = record { subject = Bus block; start = start; x = next + 20; end = next + 20 + sizes.bus }

-- memory, beside the bus
abbrev pub memory_column : Sizes → ℕ → ℕ → ℕ → Column
memory_column sizes block start bus_end = record { subject = Memory block; start = start; x = bus_end + 28; end = bus_end + 28 + sizes.memory }

-- the bus of a panel
abbrev pub bus_of : Sizes → ℕ → Panel → Column
bus_of sizes start panel = bus_column sizes panel.block start (after_lanes sizes start panel.cores)

-- memory of a panel
abbrev pub memory_of : Sizes → ℕ → Panel → Column
memory_of sizes start panel = memory_column sizes panel.block start (bus_of sizes start panel).end

-- the columns of a panel
abbrev pub panel_columns : Sizes → ℕ → Panel → List Column
panel_columns sizes start panel = lanes_from sizes panel.block start start panel.cores ++ bus_of sizes start panel ∷ memory_of sizes start panel ∷ []

-- where a further panel would begin
abbrev pub after_panel : Sizes → ℕ → Panel → ℕ
after_panel sizes start panel = (memory_of sizes start panel).end + 36

-- the columns of panels, the first of which begins here
abbrev pub columns_from : Sizes → ℕ → List Panel → List Column
columns_from sizes start [] = []
columns_from sizes start (panel ∷ panels) = panel_columns sizes start panel ++ columns_from sizes (after_panel sizes start panel) panels

-- where a further panel would begin
abbrev pub after_panels : Sizes → ℕ → List Panel → ℕ
after_panels sizes start [] = start
after_panels sizes start (panel ∷ panels) = after_panels sizes (after_panel sizes start panel) panels

-- the column is of this subject
abbrev pub is_for : Subject → Subject → Bool
is_for (Core block core) (Core of named) = (of == block) && (named == core)
is_for (Bus block) (Bus of) = of == block
is_for (Memory block) (Memory of) = of == block
is_for _ _ = false

-- the first column of this subject
abbrev pub column_for : Subject → List Column → Option Column
column_for subject [] = None
column_for subject (column ∷ columns) = if is_for subject column.subject then Some column else column_for subject columns
