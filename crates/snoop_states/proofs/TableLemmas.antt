-- Lists of tables, and the table of a block: its rows by its cells and by its columns, and one frame more.
use Rattle.std.proofs.Common.{◌&&◌, ◌-◌, ◌==◌, filter, if◌then◌else◌, leb-true, length-set, lt-ltb, nat_le, nat_lt, slice_set, take_all}
use Rattle.std.{proofs.lemmas.{Bool.{and_parts, cases_lt, Decides.nat_tests}, Grind.get_or-set_at}, specs.Option.option_map_or}
use Rattle.std.proofs.lemmas.List.{get_or-set_other, get_or_append_left, get_or_push, take-append-le, Elements.filter-append, Folds.flat_map-map}
use Rattle.snoop_model.specs.Pictures.Situation.{reset}
use Rattle.snoop_engine.proofs.{Common.flat_map_more, NumberedLemmas.{led_on, numbered, numbered_on}, RangeLemmas.more_from_zero}
use Rattle.snoop_engine.specs.{Chosen.{is_chosen, is_in_range}, Numbered.{led_to, Numbered, numbered_from}, Views.block_of_step}
use Rattle.snoop_states.proofs.Common.{[], ℕ, ◌++◌, ◌+◌, ◌<◌, ◌∙◌, ◌∷◌, ◌≡◌, ◌≤◌, ap, append-nil, append_assoc, AreEach, arith, Bool, both_ways, cell_text, Chosen, codes, Column, Extent, false, flat_map, Frame, get_or, Grows, inl, inr, IsEmpty, IsTable, length, length_push, line_text, List, map, map-append, map-map, Option, pair, Protocol, range_with_len, refl, Situation, sym, take, true}
use Rattle.snoop_states.specs.{Rows.{cells_text, names_text}, Seen.{HasCells, HasRows}, declared.{table.{Cell.Cell, Table.Table}, widths.Widths.Widths}}
use Rattle.snoop_states.specs.Tables.{first_row, first_shown, heading_text, is_of, rows_text, shown_block, shown_of, table_text}

-- the piece of the next number comes after the pieces so far
pub pieces_more : (f : ℕ → List ℕ) (before : List ℕ) (n : ℕ) → before ++ flat_map f (range_with_len 0 (n + 1)) ≡ (before ++ flat_map f (range_with_len 0 n)) ++ f n
pieces_more f before n = rw (more_from_zero n) (sym (flat_map_more f before (range_with_len 0 n) n))

module _ {X : Type 0} {n : ℕ} {P Q : ℕ → X → Type 0} {xs : List X} (are : AreEach n P xs) where
  -- what follows of each element
  pub each_mapped : ((k : ℕ) (x : X) → k < n → P k x → Q k x) → AreEach n Q xs
  each_mapped f = record { count = are.count; each = λ k low d. f k (get_or xs k d) low (are.each k low d) }

  -- one element changes
  pub each_set : (i : ℕ) (x : X) → i < n → Q i x → ((k : ℕ) (y : X) → (k ≡ i → ⊥) → P k y → Q k y) → AreEach n Q (slice_set xs i x)
  each_set i x low here others = record {
    count = length-set xs i x ∙ are.count;
    each = λ k inside d. grind (arith, get_or-set_at, get_or-set_other, here, others k (get_or xs k d), are.each k inside d);
  }

-- one element more
pub each_more : {X : Type 0} {n : ℕ} {P : ℕ → X → Type 0} {xs : List X} → AreEach n P xs → (x : X) → P n x → AreEach (n + 1) P (xs ++ x ∷ [])
each_more {n = n} {xs = xs} are x here = record {
  count = omega (arith, are.count, length_push xs x);
  each = λ k low d. grind (arith, get_or_push, get_or_append_left, here, are.each k, are.count);
}

module _ (columns : List Column) (text : Column → List ℕ) (cells : List Cell) (has : HasCells columns text cells) where
  -- what is appended of each cell, by its column and its text
  pub pieces_of : (g : Column × List ℕ → List ℕ) → flat_map (λ cell. g (pair cell)) cells ≡ flat_map (λ column. g (column, text column)) columns
  pieces_of g = rw (← flat_map-map g pair cells, has, flat_map-map g (λ column. (column, text column)) columns) refl

  -- new texts in the same columns
  pub cells_of : (next : Column → List ℕ) → map {B = Column × List ℕ} (λ cell. (cell.column, next cell.column)) cells ≡ map (λ column. (column, next column)) columns
  cells_of next =
      let change : Column × List ℕ → Column × List ℕ = λ p. (p.0, next p.0) in
      rw (← map-map change pair cells, has, map-map change (λ column. (column, text column)) columns) refl

-- one row more
rows_on : (widths : Widths) (shape : Extent) (block : ℕ) (columns : List Column) (above : Situation) (ns : List Numbered) (n : Numbered)
    → rows_text widths shape block columns above (ns ++ n ∷ []) ≡ rows_text widths shape block columns above ns
    ++ (cells_text widths columns (cell_text (led_to above (map (λ m. m.frame) ns)) block) (cell_text n.frame.after block) n.number ++ line_text shape n.frame.step n.frame.outcome)
rows_on widths shape block columns above [] n = append-nil _
rows_on widths shape block columns above (m ∷ ms) n = rw (rows_on widths shape block columns m.frame.after ms n) (simp append_assoc)

-- nothing is shown before the first step that is
none_yet : (choice : Chosen) (block number : ℕ) (frames : List Frame) → number + length frames ≤ choice.from
    → filter (λ (n : Numbered). is_in_range choice n.number && is_of block n.frame) (numbered_from number frames) ≡ []
none_yet choice block number [] few = refl
none_yet choice block number (f ∷ fs) few = grind (arith, nat_tests, none_yet choice block (number + 1) fs)

-- one frame more
shown_on : (choice : Chosen) (block : ℕ) (frames : List Frame) (frame : Frame)
    → shown_of choice block (frames ++ frame ∷ [])
    ≡ shown_of choice block frames ++ (if is_in_range choice (1 + length frames) && is_of block frame then numbered (1 + length frames) frame ∷ [] else [])
shown_on choice block frames frame = rw (numbered_on 1 frames frame, filter-append) refl

-- the machine before the step of this number, once it is there
led_stays : (start : Situation) (from : ℕ) (frames : List Frame) (frame : Frame) → from ≤ 1 + length frames
    → led_to start (take (from - 1) (frames ++ frame ∷ [])) ≡ led_to start (take (from - 1) frames)
led_stays start from frames frame late =
    let short : from - 1 ≤ length frames = omega arith in
    ap (led_to start) (take-append-le (from - 1) frames (frame ∷ []) short)

-- a step stands in the table of a block that is shown where its shown block is this one
shown_in : (choice : Chosen) (frame : Frame) (number block : ℕ) (found : Option ℕ) → is_chosen choice.block block ≡ true
    → shown_block choice (block_of_step frame.before frame.step) number ≡ found
    → (is_in_range choice number && is_of block frame) ≡ option_map_or (λ b. b == block) found false
shown_in choice frame number block found chosen e = grind (arith, nat_tests, chosen, e)

-- the text of a table, by whether it has a row of a step
text_of : (widths : Widths) (choice : Chosen) (protocol : Protocol) (shape : Extent) (block : ℕ) (columns : List Column) (start : Situation) (shown : List Numbered) (some : Bool)
    → some ≡ nat_lt 0 (length shown)
    → table_text widths choice protocol shape block columns start shown
    ≡ (if some then heading_text protocol shape block ++ names_text widths columns ++ first_row widths choice block columns start ++ rows_text widths shape block columns start shown ++ codes "\n" else [])
text_of widths choice protocol shape block columns start [] some e = rw e refl
text_of widths choice protocol shape block columns start (n ∷ ns) some e = rw (e, lt-ltb 0 (length (n ∷ ns)) (omega arith)) refl

module _ {widths : Widths} {choice : Chosen} {protocol : Protocol} {shape : Extent} {block : ℕ} {columns : List Column} {table : Table} where
  -- the tables at reset
  pub begun_at_reset : {here : Situation} → choice.from ≡ 1 → here ≡ reset protocol shape → HasRows widths choice shape block columns here [] table
      → IsTable widths choice protocol shape columns [] block table
  begun_at_reset one at has =
      let frames : List Frame = [] in
      record { early = λ e. absurd (omega arith); late = λ _. rw (take_all (choice.from - 1) frames (omega arith), ← at) has }

  pub empty_at_reset : 1 < choice.from → IsEmpty columns table → IsTable widths choice protocol shape columns [] block table
  empty_at_reset far empty = record { early = λ _. empty; late = λ e. absurd (omega arith) }

  -- the next step is the first one that is shown: the table has its first row
  pub table_starts : {here : Situation} (frames : List Frame) (frame : Frame) → choice.from ≡ 2 + length frames → frame.after ≡ here
      → HasRows widths choice shape block columns here [] table → IsTable widths choice protocol shape columns (frames ++ frame ∷ []) block table
  table_starts frames frame next after has =
      let more = length_push frames frame in
      let led = ap (led_to (reset protocol shape)) (take_all (choice.from - 1) (frames ++ frame ∷ []) (omega arith))
      ∙ led_on (reset protocol shape) frames frame ∙ after in
      record { early = λ e. absurd (omega arith); late = λ _. rw (led, none_yet choice block 1 (frames ++ frame ∷ []) (omega arith)) has }

  module _ {frames : List Frame} (so_far : IsTable widths choice protocol shape columns frames block table) where
    abbrev start : Situation
    start = first_shown choice protocol shape frames

    module _ (frame : Frame) (found : Option ℕ) (chosen : is_chosen choice.block block ≡ true)
        (is : shown_block choice (block_of_step frame.before frame.step) (1 + length frames) ≡ found) where
      on_this : (is_in_range choice (1 + length frames) && is_of block frame) ≡ option_map_or (λ b. b == block) found false
      on_this = shown_in choice frame (1 + length frames) block found chosen is

      -- the step is not shown here
      pub table_stays : (choice.from ≡ 2 + length frames → ⊥) → option_map_or (λ b. b == block) found false ≡ false
          → IsTable widths choice protocol shape columns (frames ++ frame ∷ []) block table
      table_stays other off =
          let more = length_push frames frame in
          record {
            early = λ e. so_far.early (omega arith);
            late = λ l. rw (led_stays (reset protocol shape) choice.from frames frame (omega arith), shown_on, on_this ∙ off, append-nil)
                (so_far.late (omega arith));
          }

      -- the step is shown: the table gets its row
      pub table_grows : {new : Table} → option_map_or (λ b. b == block) found false ≡ true
          → Grows widths frame.after block (1 + length frames) (line_text shape frame.step frame.outcome) true table new
          → IsTable widths choice protocol shape columns (frames ++ frame ∷ []) block new
      table_grows here grows =
          let on = on_this ∙ here in
          let within = (and_parts (is_in_range choice (1 + length frames)) (is_of block frame) on).0 in
          let late = leb-true choice.from (1 + length frames) (and_parts (nat_le choice.from (1 + length frames)) _ within).0 in
          let shown : List Numbered = shown_of choice block frames in
          let one : Numbered = numbered (1 + length frames) frame in
          let old : HasRows widths choice shape block columns start shown table = so_far.late (omega arith) in
          let row = grows columns (cell_text (led_to start (map (λ n. n.frame) shown)) block) old.cells in
          record {
            early = λ e. absurd (omega (arith, length_push frames frame));
            late = λ _. rw (led_stays (reset protocol shape) choice.from frames frame late, shown_on, on) (record {
              cells = rw (map-append, led_on) row.cells;
              rows = rw (row.rows, old.rows, rows_on widths shape block columns start shown one) (simp append_assoc);
              is_shown = row.is_shown ∙ sym (lt-ltb 0 (length (shown ++ one ∷ [])) (omega (arith, length_push shown one)));
            });
          }

    abbrev Text : List ℕ
    Text = table_text widths choice protocol shape block columns start (shown_of choice block frames)

    -- nothing is written of a table without a row of a step
    pub table_unshown : table.is_shown ≡ false → Text ≡ []
    table_unshown off = elim (cases_lt (length frames + 1) choice.from) [
      | inl early ↦ rw (none_yet choice block 1 frames (omega arith)) refl
      | inr late ↦ text_of widths choice protocol shape block columns start (shown_of choice block frames) false (sym off ∙ (so_far.late late).is_shown)
    ]

    -- a table with one has rows, and they are written
    pub table_shown : table.is_shown ≡ true → HasRows widths choice shape block columns start (shown_of choice block frames) table
        × (Text ≡ heading_text protocol shape block ++ names_text widths columns ++ table.rows.items ++ codes "\n")
    table_shown on = elim (cases_lt (length frames + 1) choice.from) [
      | inl early ↦ absurd (both_ways table.is_shown (so_far.early early).is_shown on)
      | inr late ↦
          let has = so_far.late late in
          let text = text_of widths choice protocol shape block columns start (shown_of choice block frames) true (sym on ∙ has.is_shown) in
          (has, rw (text, has.rows) (simp append_assoc))
    ]
