-- What the options of a command say.
-- Source: this project's profile.
use Rattle.std.specs.Prelude.{◌≡◌, ◌⊎◌, ◌<◌, is_some, ◌^◌, ℕ, List, Option, Some, None, Result, Ok, Err, Bool, if◌then◌else◌, codes, true, false, unwrap_or}
use Rattle.std.specs.{Option.option_map_or, Int.NonZero.non_zero_u64_get, Str.Parse.{IsNumeral, digits_value, without_leading_plus}}
use Rattle.clap.specs.Words.{Row, Text, first_of, one_of, same_text}
use Rattle.snoop_trace.specs.{Extent.{Extent, IsBlockCount, IsBlockSize, IsCoreCount, IsWithinLimits, IsWordCount}, declared.shape.ShapeFault.ShapeFault}
use Rattle.snoop_trace.specs.declared.{shape.ShapeFault.TheVariants.{BadCores, BadBlocks, BadBytes, BadWords}, protocol.Protocol.Protocol}
use Rattle.snoop_trace.specs.declared.protocol.Protocol.TheVariants.{Msi, Mesi}
use Rattle.snoop_engine.specs.{Choice.IsChoice, Chosen.Chosen, declared.{choice.ChoiceFault.ChoiceFault, input.Input.Input}}
use Rattle.snoop_engine.specs.declared.input.Input.TheVariants as input
use Rattle.snoop_draw.specs.declared.marks.Charset.{Charset}
use Rattle.snoop_draw.specs.declared.marks.Charset.TheVariants as charset
use Rattle.snoop_svg.specs.declared.paper.Form.{Form as SvgForm}
use Rattle.snoop_svg.specs.declared.paper.Form.TheVariants as svg
use Rattle.snoop_svg.specs.declared.paper.{Paper.Paper, Theme.Theme}
use Rattle.snoop_svg.specs.declared.paper.Theme.TheVariants as theme
use Rattle.snoop_lint.specs.declared.form.Form.{Form}
use Rattle.snoop_lint.specs.declared.form.Form.TheVariants as form
use Rattle.snoop_sim.specs.declared.{options.{Layout.Layout, Grouping.Grouping}, failure.Failure.{Failure, TheVariants.{BadBy, BadEvery, BadTop}}}
use Rattle.snoop_sim.specs.declared.options.Layout.TheVariants as layout
use Rattle.snoop_sim.specs.declared.options.Grouping.TheVariants as grouping
use Rattle.snoop_rules.specs.declared.table_text.Which.{Which, TheVariants.{Cache, Memory}}

-- whether the option has this value, in small letters or, where case is ignored, in either case
abbrev pub says : Bool → Text → Text → List Row → Bool
says ignore_case name value options = option_map_or (λ text. same_text ignore_case text value) (first_of name options) false

-- MESI where it is named, in small or capital letters; else MSI
abbrev pub protocol_named : List Row → Protocol
protocol_named options = if says true (codes "protocol") (codes "mesi") options then Mesi else Msi

-- whether the rows are served one after another: where the flag is set
abbrev pub asks_serial : List Row → Bool
asks_serial options = says false (codes "serial") (codes "true") options

-- the memory controller's table where it is named; else the cache controllers'
abbrev pub which_named : List Row → Which
which_named options = if says false (codes "which") (codes "memory") options then Memory else Cache

-- a matrix where it is named; else rows
abbrev pub layout_named : List Row → Layout
layout_named options = if says false (codes "as") (codes "matrix") options then layout.Matrix else layout.Rows

-- whether a drawing is of ASCII characters alone: where the flag is set
abbrev pub asks_ascii : List Row → Bool
asks_ascii options = says false (codes "ascii") (codes "true") options

-- ASCII characters where the flag is set
abbrev pub charset_named : List Row → Charset
charset_named options = if asks_ascii options then charset.Ascii else charset.Unicode

-- rows where they are named; else steps
abbrev pub kind_named : List Row → Form
kind_named options = if says false (codes "of") (codes "rows") options then form.Rows else form.Steps

-- what the text is of, as `of` says, and in which order its rows are served, as `serial` says, which is for rows alone
abbrev pub IsInputOf : List Row → Input → Type 0
IsInputOf options input.Steps = (kind_named options ≡ form.Steps) × (asks_serial options ≡ false)
IsInputOf options input.Rows = (kind_named options ≡ form.Rows) × (asks_serial options ≡ false)
IsInputOf options input.SerialRows = (kind_named options ≡ form.Rows) × (asks_serial options ≡ true)

-- `serial` is given without rows
abbrev pub MisplacesSerial : List Row → Type 0
MisplacesSerial options = (kind_named options ≡ form.Steps) × (asks_serial options ≡ true)

-- a number below a limit, in decimal
abbrev pub IsNumber : ℕ → Text → Type 0
IsNumber limit text = IsNumeral 10 (without_leading_plus text) × (digits_value 10 (without_leading_plus text) < limit)

-- the number that a text writes; none where it writes none, and where there is no text
abbrev pub IsReadAs : ℕ → Option Text → Option ℕ → Type 0
IsReadAs limit None read = read ≡ None
IsReadAs limit (Some text) (Some number) = IsNumber limit text × (number ≡ digits_value 10 (without_leading_plus text))
IsReadAs limit (Some text) None = ¬ IsNumber limit text

-- a page where it is named; else an SVG
abbrev pub form_named : List Row → SvgForm
form_named options = if says false (codes "as") (codes "html") options then svg.Html else svg.Svg

-- the colours that are named; else those of the reader's system
abbrev pub theme_named : List Row → Theme
theme_named options = if says false (codes "theme") (codes "light") options then theme.Light else (if says false (codes "theme") (codes "dark") options then theme.Dark else theme.Auto)

-- `theme` is given
abbrev pub names_theme : List Row → Bool
names_theme options = is_some (first_of (codes "theme") options)

-- what a drawing is written for, as `as`, `theme` and `shown` say: without `shown` all rows are shown; none where it is a text, which has no theme and no rows left out
abbrev pub IsPaperOf : List Row → Option Paper → Type 0
IsPaperOf options None = (says false (codes "as") (codes "text") options ≡ true) × (names_theme options ≡ false) × IsReadAs (2 ^ 64) (one_of (codes "shown") options) None
IsPaperOf options (Some paper) = (says false (codes "as") (codes "text") options ≡ false) × (asks_ascii options ≡ false)
    × (paper.form ≡ form_named options) × (paper.theme ≡ theme_named options)
    × ((shown : Option ℕ) × IsReadAs (2 ^ 64) (one_of (codes "shown") options) shown × (paper.shown ≡ unwrap_or shown 18446744073709551615))

-- `theme` or `shown` is given for a text, or `ascii` for another drawing
abbrev pub MisplacesPaper : List Row → Type 0
MisplacesPaper options =
    ((says false (codes "as") (codes "text") options ≡ true) × ((names_theme options ≡ true) ⊎ ((shown : ℕ) × IsReadAs (2 ^ 64) (one_of (codes "shown") options) (Some shown))))
    ⊎ ((says false (codes "as") (codes "text") options ≡ false) × (asks_ascii options ≡ true))

-- `by` is given
abbrev pub names_grouping : List Row → Bool
names_grouping options = is_some (first_of (codes "by") options)

-- `top` is not given
abbrev pub LacksTop : List Row → Type 0
LacksTop options = IsReadAs (2 ^ 32) (one_of (codes "top") options) None

-- what the lines of counts are of, as `by` says, and of how many blocks, as `top` says, which is for blocks alone
abbrev pub IsNamed : List Row → Grouping → Type 0
IsNamed options grouping.Row = (says false (codes "by") (codes "core") options ≡ false) × (says false (codes "by") (codes "block") options ≡ false) × (says false (codes "by") (codes "word") options ≡ false) × LacksTop options
IsNamed options grouping.Core = (says false (codes "by") (codes "core") options ≡ true) × LacksTop options
IsNamed options grouping.Word = (says false (codes "by") (codes "word") options ≡ true) × LacksTop options
IsNamed options (grouping.Block top) = (says false (codes "by") (codes "block") options ≡ true) × IsReadAs (2 ^ 32) (one_of (codes "top") options) top
IsNamed options (grouping.Steps every) = ⊥

-- `top` is given
abbrev pub HasTop : List Row → Type 0
HasTop options = (top : ℕ) × IsReadAs (2 ^ 32) (one_of (codes "top") options) (Some top)

-- `by` says nothing, for `top` is given without blocks
abbrev pub HasNoNamed : List Row → Failure → Type 0
HasNoNamed options BadTop = (says false (codes "by") (codes "block") options ≡ false) × HasTop options
HasNoNamed options failure = ⊥

-- each line is of so many steps
abbrev pub IsSteps : ℕ → List Row → Grouping → Type 0
IsSteps every options (grouping.Steps number) = (non_zero_u64_get number ≡ every) × LacksTop options
IsSteps every options named = ⊥

-- it is of none, or `top` is given
abbrev pub HasNoSteps : ℕ → List Row → Failure → Type 0
HasNoSteps every options BadTop = HasTop options
HasNoSteps every options BadEvery = (every ≡ 0) × LacksTop options
HasNoSteps every options failure = ⊥

-- one of `by` and `every` is given, and says what the lines of counts are of
abbrev pub IsGroupingOf : List Row → Grouping → Type 0
IsGroupingOf options grouping =
    ((names_grouping options ≡ true) × IsReadAs (2 ^ 64) (one_of (codes "every") options) None × IsNamed options grouping)
    ⊎ ((every : ℕ) × (names_grouping options ≡ false) × IsReadAs (2 ^ 64) (one_of (codes "every") options) (Some every) × IsSteps every options grouping)

-- neither is given, or both; or the one that is given says nothing
abbrev pub HasNoGrouping : List Row → Failure → Type 0
HasNoGrouping options BadBy = ((names_grouping options ≡ false) × IsReadAs (2 ^ 64) (one_of (codes "every") options) None)
    ⊎ ((every : ℕ) × (names_grouping options ≡ true) × IsReadAs (2 ^ 64) (one_of (codes "every") options) (Some every))
HasNoGrouping options failure =
    ((names_grouping options ≡ true) × IsReadAs (2 ^ 64) (one_of (codes "every") options) None × HasNoNamed options failure)
    ⊎ ((every : ℕ) × (names_grouping options ≡ false) × IsReadAs (2 ^ 64) (one_of (codes "every") options) (Some every) × HasNoSteps every options failure)

-- the option's number of 64 bits; 0 where it has none
abbrev pub IsLongOf : Text → List Row → ℕ → Type 0
IsLongOf name options number = (read : Option ℕ) × IsReadAs (2 ^ 64) (one_of name options) read × (number ≡ unwrap_or read 0)

-- the option's number of 32 bits; 0 where it has none
abbrev pub IsNumberOf : Text → List Row → ℕ → Type 0
IsNumberOf name options number = (read : Option ℕ) × IsReadAs (2 ^ 32) (one_of name options) read × (number ≡ unwrap_or read 0)

-- the shape of these numbers, which is within its limits; or the first of them that is out of its limits
abbrev pub IsShape : ℕ → ℕ → ℕ → ℕ → Result Extent ShapeFault → Type 0
IsShape cores blocks bytes words (Ok shape) = (shape ≡ record { cores = cores; blocks = blocks; block_bytes = bytes; words = words }) × IsWithinLimits shape
IsShape cores blocks bytes words (Err BadCores) = ¬ IsCoreCount cores
IsShape cores blocks bytes words (Err BadBlocks) = IsCoreCount cores × ¬ IsBlockCount blocks
IsShape cores blocks bytes words (Err BadBytes) = IsCoreCount cores × IsBlockCount blocks × ¬ IsBlockSize bytes
IsShape cores blocks bytes words (Err BadWords) = IsCoreCount cores × IsBlockCount blocks × IsBlockSize bytes × ¬ IsWordCount words bytes

-- the shape that `cores`, `blocks`, `block-bytes` and `words` name
abbrev pub IsShapeOf : List Row → Result Extent ShapeFault → Type 0
IsShapeOf options made = (cores blocks bytes words : ℕ)
    × IsNumberOf (codes "cores") options cores
    × IsNumberOf (codes "blocks") options blocks
    × IsNumberOf (codes "block-bytes") options bytes
    × IsNumberOf (codes "words") options words
    × IsShape cores blocks bytes words made

-- what `block`, `from` and `to` choose: without `block` each block, without `to` the steps to the last
abbrev pub IsChoiceOf : Extent → List Row → Result Chosen ChoiceFault → Type 0
IsChoiceOf shape options made = (block from to : Option ℕ)
    × IsReadAs (2 ^ 32) (one_of (codes "block") options) block
    × IsReadAs (2 ^ 64) (one_of (codes "from") options) from
    × IsReadAs (2 ^ 64) (one_of (codes "to") options) to
    × IsChoice shape block (unwrap_or from 0) (unwrap_or to 18446744073709551615) made
