-- The lines of maps as rows and as callers see them, and what holds once one map was given another line, and the holders have followed.
use Rattle.snoop_machine.proofs.Common.{◌≡◌, false, sym, ◌∙◌, ap, is_some, moves_to, Line, nothing_held, IsProper, keeps, arith, ℕ, ◌<◌, List, [], length, slice_index_or, slice_set, map, nat_eq, lookup, range_with_len, get_or-map, map-set_same, ne_eqb, map-set, length-map, length-set, get_or_past, has, held_at, Contents, no_cache, line_in, blocks_of, lines_held, AreHolders, HaveMoved, held_by_block, line_at, with_line_at, Holders, is_owner, ◌≢◌, true, get_or, true_from_ne_false, get_or_read, is_some-lookup, I, Held, AreLines, held, is_among, row_of, each_set, inl, inr, cases_eq, set-get_or, CacheState, WritesEntry, HaveFollowed, StandsAs, no_holders, get_or-set_same, get_or-set_other, line_or_nothing, KeepsMapRoom, KeepsMapsRoom, WritesLine}
use Rattle.snoop_rules.specs.declared.names.CacheState.TheVariants as state
use Rattle.std.proofs.lemmas.{List.FromFn.{length-map-range_with_len, get_or-map-range_with_len, fill_by_all}, Map.Entries.length-keys_of}

-- a proper line in I holds nothing
pub settled : (line : Line) → IsProper line → line.state ≡ state.I → line ≡ nothing_held
settled line proper e = grind arith

-- a proper line that moves to its own state is as it was
pub moves_to_same : (line : Line) → IsProper line → moves_to line.state line ≡ line
moves_to_same line proper = grind arith

pub row-rows : (blocks : ℕ) (caches : List Contents) (block : ℕ) → block < blocks → slice_index_or (held_by_block blocks caches) block [] ≡ lines_held caches block
row-rows blocks caches block h = get_or-map-range_with_len (lines_held caches) 0 blocks block block [] h (omega arith)

-- a map whose line of the block is as it was leaves the row as it was
pub row-same : (caches : List Contents) (core block : ℕ) (new : Contents) → line_in new block ≡ line_in (slice_index_or caches core no_cache) block
    → lines_held (slice_set caches core new) block ≡ lines_held caches block
row-same caches core block new same = map-set_same (λ (cache : Contents). line_in cache block) caches core new no_cache same

pub rows-same : (blocks : ℕ) (caches : List Contents) (core : ℕ) (new : Contents) → ((b : ℕ) → line_in new b ≡ line_in (slice_index_or caches core no_cache) b)
    → held_by_block blocks (slice_set caches core new) ≡ held_by_block blocks caches
rows-same blocks caches core new same = λ i. map (λ b. row-same caches core b new (same b) i) (range_with_len 0 blocks)

-- the row of a block after one line of it is written
pub row-set : (caches : List Contents) (core block : ℕ) (new : Contents) (line : Line) → line_in new block ≡ line → lines_held (slice_set caches core new) block ≡ slice_set (lines_held caches block) core line
row-set caches core block new line here = map-set (λ cache. line_in cache block) caches core new ∙ ap (λ (x : Line). slice_set (lines_held caches block) core x) here

pub rows-set : (blocks : ℕ) (caches : List Contents) (core block : ℕ) (new : Contents) (line : Line) → block < blocks
    → line_in new block ≡ line → ((b : ℕ) → nat_eq block b ≡ false → line_in new b ≡ line_in (slice_index_or caches core no_cache) b)
    → held_by_block blocks (slice_set caches core new) ≡ with_line_at (held_by_block blocks caches) core block line
rows-set blocks caches core block new line inside here others =
    let rows = held_by_block blocks caches in
    let row = slice_set (slice_index_or rows block []) core line in
    let after = slice_set caches core new in
    let long : length rows ≡ blocks = length-map-range_with_len (lines_held caches) 0 blocks in
    sym (fill_by_all (lines_held after) (slice_set rows block row) blocks [] (length-set rows block row ∙ long)
    (each_set rows block row [] (λ b its. b < blocks → its ≡ lines_held after b) (omega arith)
    (λ lt. rw (row-rows blocks caches block lt) (sym (row-set caches core block new line here)))
    (λ b ne lt. row-rows blocks caches b lt ∙ sym (row-same caches core b new (others b (ne_eqb block b (λ e. ne (sym e))))))))

-- the holders of a block are those of its row, once one of its lines has moved
pub AreHolders-moved : (row : List Line) (core : ℕ) (line : Line) (old new : Holders) → core < length row → AreHolders old row → HaveMoved core line.state old new → AreHolders new (slice_set row core line)
AreHolders-moved row core line old new within fits moved = record {
  owners = each_set row core line nothing_held (λ k its. has new.owners k ≡ is_owner its.state) within moved.owner
      (λ k ne. moved.other_owners k ne ∙ fits.owners k);
  readers = each_set row core line nothing_held (λ k its. has new.readers k ≡ keeps its.state) within moved.reader
      (λ k ne. moved.other_readers k ne ∙ fits.readers k);
}

-- the map of a core, of which callers see this
pub record IsMap (caches : List Contents) (holders : List Holders) (now : Held) (core : ℕ) (map : Contents) : Type 0 where
  pub lines : AreLines caches holders
  pub view : held caches holders ≡ now
  pub in_cores : core < length caches
  pub read : map ≡ slice_index_or caches core no_cache

-- the same, and its line of a block, which callers see too
pub record HasLine (caches : List Contents) (holders : List Holders) (now : Held) (core block : ℕ) (map : Contents) : Type 0 where
  pub its : IsMap caches holders now core map
  pub in_blocks : block < length holders
  pub was : line_in map block ≡ line_at now.rows core block

-- what holds of the lines, of which callers see this
module _ {caches : List Contents} {holders : List Holders} (lines : AreLines caches holders) {now : Held} (view : held caches holders ≡ now) where
  pub maps-long : length now.lines ≡ length caches
  maps-long = sym (ap (λ (h : Held). length h.lines) view) ∙ length-map caches blocks_of

  rows-long : length now.rows ≡ length holders
  rows-long = sym (ap (λ (h : Held). length h.rows) view) ∙ length-map-range_with_len (lines_held caches) 0 (length holders)

  pub row_seen : (block : ℕ) → block < length holders → lines_held caches block ≡ row_of now.rows block
  row_seen block within = sym (row-rows (length holders) caches block within) ∙ ap (λ (h : Held). row_of h.rows block) view

  pub line_seen : (core block : ℕ) → block < length holders → line_in (slice_index_or caches core no_cache) block ≡ line_at now.rows core block
  line_seen core block within = sym (get_or-map (λ (cache : Contents). line_in cache block) caches core no_cache) ∙ ap (λ (r : List Line). held_at r core) (row_seen block within)

  -- a block and a core with a place in the rows
  pub in_rows : (core block : ℕ) → block < length now.rows → core < length (row_of now.rows block) → (block < length holders) × (core < length caches)
  in_rows core block in_blocks in_cores =
      let within = rw rows-long at in_blocks in
      (within, rw (← (row_seen block within), length-map caches (λ (cache : Contents). line_in cache block)) at in_cores)

  pub blocks_seen : (core : ℕ) → blocks_of (slice_index_or caches core no_cache) ≡ slice_index_or now.lines core []
  blocks_seen core = sym (get_or-map blocks_of caches core no_cache) ∙ ap (λ (h : Held). slice_index_or h.lines core []) view

  pub spare_seen : (core : ℕ) → (slice_index_or caches core no_cache).spare ≡ slice_index_or now.line_rooms core 0
  spare_seen core = sym (get_or-map (λ (cache : Contents). cache.spare) caches core no_cache) ∙ ap (λ (h : Held). slice_index_or h.line_rooms core 0) view

  pub among_seen : (core block : ℕ) → is_some (lookup (nat_eq block) (slice_index_or caches core no_cache).entries) ≡ is_among (slice_index_or now.lines core []) block
  among_seen core block =
      is_some-lookup (nat_eq block) (slice_index_or caches core no_cache).entries ∙ ap (λ (blocks : List ℕ). is_among blocks block) (blocks_seen core)

  pub is_map : (core : ℕ) → core < length now.lines → (map : Contents) → map ≡ get_or caches core map → IsMap caches holders now core map
  is_map core within map found =
      let in_cores = rw maps-long at within in
      record { lines = lines; view = view; in_cores = in_cores; read = get_or_read caches core map in_cores found no_cache }

  pub has_line : (core block : ℕ) → block < length now.rows → core < length (row_of now.rows block) → (map : Contents) → map ≡ get_or caches core map
      → HasLine caches holders now core block map
  has_line core block in_blocks in_cores map found =
      let within = in_rows core block in_blocks in_cores in
      let its = is_map core (rw maps-long within.1) map found in
      record { its = its; in_blocks = within.0; was = rw its.read (line_seen core block within.0) }

  -- where the map has no line the core is in I
  pub none_held : (core block : ℕ) → is_some (lookup (nat_eq block) (slice_index_or caches core no_cache).entries) ≡ false → (line_at now.rows core block).state ≡ I
  none_held core block none =
      let past = get_or_past now.rows block [] in
      grind (arith, line_seen core block, past, rows-long, none)

  -- where the core holds the block the map has a line
  pub held_placed : (core block : ℕ) → (line_at now.rows core block).state ≢ I → is_some (lookup (nat_eq block) (slice_index_or caches core no_cache).entries) ≡ true
  held_placed core block held = true_from_ne_false _ (λ none. held (none_held core block none))

module _ {caches : List Contents} {holders : List Holders} {now : Held} {core : ℕ} {old : Contents} (its : IsMap caches holders now core old) (new : Contents) where
  -- one map is another now: the blocks that callers see, and the room of this one
  pub blocks_set : map blocks_of (slice_set caches core new) ≡ slice_set now.lines core (blocks_of new)
  blocks_set = map-set blocks_of caches core new ∙ ap (λ (h : Held). slice_set h.lines core (blocks_of new)) its.view

  pub spare_now : slice_index_or (map (λ (cache : Contents). cache.spare) (slice_set caches core new)) core 0 ≡ new.spare
  spare_now =
      get_or-map (λ (cache : Contents). cache.spare) (slice_set caches core new) core no_cache
      ∙ ap (λ (cache : Contents). cache.spare) (get_or-set_same caches core new no_cache its.in_cores)

  -- where it keeps its room for lines, all maps do
  pub spares_kept : (after : List Holders) → KeepsMapRoom old new → KeepsMapsRoom now (held (slice_set caches core new) after)
  spares_kept after kept k =
      let maps = slice_set caches core new in
      let each = each_set caches core new no_cache (λ k cache. KeepsMapRoom (slice_index_or caches k no_cache) cache) its.in_cores (rw its.read at kept)
      (λ k ne. omega arith) k in
      let rooms = get_or-map (λ (cache : Contents). cache.spare) maps k no_cache in
      let lines = get_or-map blocks_of maps k no_cache in
      let long = length-keys_of (slice_index_or maps k no_cache).entries in
      let was_long = length-keys_of (slice_index_or caches k no_cache).entries in
      grind (arith, each, rooms, lines, long, was_long, spare_seen its.lines its.view k, blocks_seen its.lines its.view k)

  -- where it has the lines that it had, each line is as it was
  module _ (same : (b : ℕ) → line_in new b ≡ line_in old b) where
    kept : (b : ℕ) → line_in new b ≡ line_in (slice_index_or caches core no_cache) b
    kept b = same b ∙ ap (λ (cache : Contents). line_in cache b) its.read

    pub lines_kept : AreLines (slice_set caches core new) holders
    lines_kept = record {
      few = rw (length-set caches core new) its.lines.few;
      proper = each_set caches core new no_cache (λ k cache. (b : ℕ) → IsProper (line_in cache b)) its.in_cores (λ b. rw (kept b) (its.lines.proper core b))
          (λ k ne. its.lines.proper k);
      indexed = λ b lt. rw (row-same caches core b new (kept b)) (its.lines.indexed b lt);
    }

    pub rows_kept : held_by_block (length holders) (slice_set caches core new) ≡ now.rows
    rows_kept = rows-same (length holders) caches core new kept ∙ ap (λ (h : Held). h.rows) its.view

-- the holders of the block have the core as its line says
pub stands : {caches : List Contents} {holders : List Holders} {now : Held} {core block : ℕ} {old : Contents} → HasLine caches holders now core block old
    → (before : CacheState) → before ≡ (line_in old block).state → StandsAs core before (slice_index_or holders block no_holders)
stands {caches} {holders} {now} {core} {block} has before was =
    let sets = has.its.lines.indexed block has.in_blocks in
    grind (arith, get_or-map (λ (cache : Contents). line_in cache block) caches core no_cache, has.its.read, sets.owners core, sets.readers core)

-- the core's map `old` was given this line of the block, and is `new` now
pub record HasWritten (caches : List Contents) (holders : List Holders) (now : Held) (core block : ℕ) (line : Line) (old new : Contents)
    (after : List Holders) : Type 0 where
  pub has : HasLine caches holders now core block old
  pub proper : IsProper line
  pub entry : WritesEntry block line old new
  pub followed : HaveFollowed core block line.state holders after

module _ {caches : List Contents} {holders : List Holders} {now : Held} {core block : ℕ} {line : Line} {old new : Contents} {after : List Holders}
    (wrote : HasWritten caches holders now core block line old new after) where
  elsewhere : (b : ℕ) → nat_eq block b ≡ false → line_in new b ≡ line_in (slice_index_or caches core no_cache) b
  elsewhere b ne = ap line_or_nothing (wrote.entry.others b ne) ∙ ap (λ (cache : Contents). line_in cache b) wrote.has.its.read

  pub lines_after : AreLines (slice_set caches core new) after
  lines_after =
      let lines = wrote.has.its.lines in
      let moved = wrote.followed.moved in
      let others : (b : ℕ) → (b ≡ block → ⊥) → line_in new b ≡ line_in (slice_index_or caches core no_cache) b = λ b ne. elsewhere b (ne_eqb block b (λ e. ne (sym e))) in
      rw wrote.followed.set (record {
        few = rw (length-set caches core new) lines.few;
        proper = each_set caches core new no_cache (λ k cache. (b : ℕ) → IsProper (line_in cache b)) wrote.has.its.in_cores (λ b. elim (cases_eq b block) [
          | inl e ↦ rw (e, wrote.entry.here) wrote.proper
          | inr ne ↦ rw (others b ne) (lines.proper core b)
        ]) (λ k ne. lines.proper k);
        indexed = each_set holders block moved no_holders (λ b its. b < length (slice_set holders block moved) → AreHolders its (lines_held (slice_set caches core new) b))
            wrote.has.in_blocks
            (λ lt. rw (row-set caches core block new line wrote.entry.here)
            (AreHolders-moved (lines_held caches block) core line (slice_index_or holders block no_holders) moved
            (rw (length-map caches (λ (cache : Contents). line_in cache block)) wrote.has.its.in_cores) (lines.indexed block wrote.has.in_blocks) wrote.followed.follows))
            (λ b ne lt. rw (row-same caches core b new (others b ne)) (lines.indexed b (rw (length-set holders block moved) at lt)));
      })

  -- the blocks that the core's map has lines for, now and before
  blocks_now : slice_index_or (map blocks_of (slice_set caches core new)) core [] ≡ blocks_of new
  blocks_now = rw (blocks_set wrote.has.its new) (get_or-set_same now.lines core (blocks_of new) [] (rw (maps-long wrote.has.its.lines wrote.has.its.view) wrote.has.its.in_cores))

  blocks_were : slice_index_or now.lines core [] ≡ blocks_of old
  blocks_were = sym (ap blocks_of wrote.has.its.read ∙ blocks_seen wrote.has.its.lines wrote.has.its.view core)

  pub writes : WritesLine core block line now (held (slice_set caches core new) after)
  writes =
      let before = (line_at now.rows core block).state in
      record {
        rows = rw (wrote.followed.set, length-set holders block wrote.followed.moved, ← wrote.has.its.view)
            (rows-set (length holders) caches core block new line wrote.has.in_blocks wrote.entry.here elsewhere);
        stays = λ ne. grind (arith, wrote.entry.stays, blocks_set wrote.has.its new, blocks_were, set-get_or now.lines core []);
        taken = λ left e. grind (arith, wrote.entry.taken, wrote.has.was, blocks_now, is_some-lookup (nat_eq block) new.entries);
        elsewhere = λ b ne. grind (arith, blocks_now, blocks_were, is_some-lookup (nat_eq b) new.entries, is_some-lookup (nat_eq b) old.entries, wrote.entry.others b ne);
        many = rw (blocks_set wrote.has.its new) (length-set now.lines core (blocks_of new));
        lines = grind (arith, wrote.entry.stays, wrote.entry.fewer, wrote.has.was, blocks_now, blocks_were, length-keys_of new.entries, length-keys_of old.entries);
        others = λ k ne. rw (blocks_set wrote.has.its new) (get_or-set_other now.lines core k (blocks_of new) [] ne);
        room = spares_kept wrote.has.its new after wrote.entry.room;
      }
