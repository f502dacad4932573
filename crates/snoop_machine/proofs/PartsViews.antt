-- Queues, pictures and room as callers see them, that lines, queues and open transactions fit together after each change, and how many lines each map has then.
use Rattle.snoop_machine.proofs.Common.{◌≡◌, ◌≢◌, ℕ, ◌<◌, true, not, filter, drop, List, [], ◌∷◌, ◌++◌, length, map, Option, Some, None, refl, sym, ◌∙◌, ap, arith, inl, inr, ◌+◌, ◌==◌, is_some, option_map, option_to_list, position, slice_get, slice_index_or, slice_set, if◌then◌else◌, prefix_len, get_or-map, map-set_same, cases_eq, cases_lt, eq-eqb, ne_eqb, false≢true, same_Some, slice_get-map, append-nil, get_or_past, length-map, map-append, map-set, filter-append, Extent, waiting_request, Request, queue_of, after_issue, after_order, place_in, Traffic, Waiting, no_queue, waiting_of, head_of, Line, line_at, queues_of, requests_for, IsSound, length-set, get_or-set_same, get_or-set_other, Data, Protocol, Payload, Open, Starts, transaction_on, TakesRows, held_at, nothing_held, IsProper, row_of, with_line_at, WaitsAs, IsProper-order, each_set, set-get_or, common_steps, zero, suc, replicate, zero_words, Picture, held_by, with_line, picture_of, state_of, nothing_there, memory_line, Fields, standing, pictures_of, IsSized, IsWhole, Standing, ◌≤◌, slice_index, Held, KeepsMapsRoom, shown_line_room, shown_line_rooms, KeepsRoom, MemTables, Journal, WritesLine, WritesRow, LosesLines, set-set}
use Rattle.snoop_model.proofs.Queues.{others_wait, own_waits}
use Rattle.snoop_rules.specs.declared.names.MemState.{MemState, TheVariants.IorS}

abbrev pub blocks_of : List (Request × ℕ) → List ℕ
blocks_of requests = map (λ (r : Request × ℕ). r.1) requests

pub queue_of-queues_of : (queues : List Waiting) (core : ℕ) → queue_of (queues_of queues) core ≡ blocks_of (slice_index_or queues core no_queue).requests
queue_of-queues_of queues core = get_or-map (λ (q : Waiting). blocks_of q.requests) queues core no_queue

pub queues_of-room : (queues : List Waiting) (core room : ℕ) → queues_of (slice_set queues core (record { requests = (slice_index_or queues core no_queue).requests; room = room })) ≡ queues_of queues
queues_of-room queues core room = map-set_same (λ (q : Waiting). blocks_of q.requests) queues core _ no_queue refl

pub queues_of-issue : (queues : List Waiting) (core block room : ℕ) (request : Request)
    → queues_of (slice_set queues core (record { requests = (slice_index_or queues core no_queue).requests ++ (request, block) ∷ []; room = room })) ≡ after_issue (queues_of queues) core block
queues_of-issue queues core block room request =
    map-set (λ (q : Waiting). blocks_of q.requests) queues core _ ∙ rw (map-append, queue_of-queues_of queues core) refl

-- the oldest request is the first of those for its block
head_own : (rs : List (Request × ℕ)) (q : Request) (block : ℕ) → slice_get rs 0 ≡ Some (q, block)
    → requests_for block rs ≡ q ∷ requests_for block (drop 1 rs)
head_own rs q block first = grind (arith, common_steps, eq-eqb block block refl)

-- where no request is for the block, each is for another
blocks_without : (block : ℕ) (rs : List (Request × ℕ)) → requests_for block rs ≡ [] → filter (λ x. not (x == block)) (blocks_of rs) ≡ blocks_of rs
blocks_without block [] none = refl
blocks_without block (r ∷ rs) none = grind (arith, common_steps, eq-eqb r.1 block, ne_eqb r.1 block, blocks_without block rs)

pub queues_of-order : (queues : List Waiting) (core block room : ℕ) (request : Request)
    → slice_get (slice_index_or queues core no_queue).requests 0 ≡ Some (request, block)
    → requests_for block (drop 1 (slice_index_or queues core no_queue).requests) ≡ []
    → queues_of (slice_set queues core (record { requests = drop 1 (slice_index_or queues core no_queue).requests; room = room }))
    ≡ after_order (queues_of queues) core block
queues_of-order queues core block room request first none =
    let rest = drop 1 (slice_index_or queues core no_queue).requests in
    map-set (λ (q : Waiting). blocks_of q.requests) queues core _ ∙ rw (queue_of-queues_of queues core) (ap (λ (queue : List ℕ). slice_set (queues_of queues) core queue)
    (grind (arith, common_steps, first, eq-eqb block block refl, blocks_without block rest none)))

first_of : (rs : List (Request × ℕ)) (block : ℕ) → slice_get (blocks_of rs) 0 ≡ Some block → (q : Request) × (slice_get rs 0 ≡ Some (q, block))
first_of [] block h = cc
first_of (x ∷ xs) block h = (x.0, ap (λ (b : ℕ). let r : Option (Request × ℕ) = Some (x.0, b) in r) (same_Some _ _ h))

pub nothing_for : (rs : List (Request × ℕ)) (block : ℕ) → slice_get rs 0 ≡ None → requests_for block rs ≡ []
nothing_for [] block none = refl
nothing_for (x ∷ xs) block none = cc

module _ {shape : Extent} {caches : List (List Line)} {bus : Traffic} (sound : IsSound shape caches bus) (core : ℕ) where
  -- the head of a queue is the one request of its block
  pub head_alone : (request : Request) (block : ℕ) → head_of bus core ≡ Some (request, block)
      → (waiting_request (line_at caches core block).state ≡ Some request) × (requests_for block (drop 1 (waiting_of bus core).requests) ≡ [])
  head_alone request block head = grind (arith, head_own (waiting_of bus core).requests request block head, sound.waits core block)

  -- the first of the line, with the request that waits, is the head of the queue
  pub head_from_line : (request : Request) (block : ℕ) → slice_get (queue_of (queues_of bus.queues) core) 0 ≡ Some block → waiting_request (line_at caches core block).state ≡ Some request → head_of bus core ≡ Some (request, block)
  head_from_line request block first waits =
      let f = first_of (waiting_of bus core).requests block (rw (queue_of-queues_of bus.queues core) at first) in
      grind (arith, head_alone f.0 block f.1, f.1)

-- what the queue that callers see shows first
pub first_shown : (bus : Traffic) (core : ℕ) → slice_get (queue_of (queues_of bus.queues) core) 0 ≡ option_map (λ (r : Request × ℕ). r.1) (head_of bus core)
first_shown bus core = rw (queue_of-queues_of bus.queues core) (slice_get-map (λ (r : Request × ℕ). r.1) (waiting_of bus core).requests 0)

pub some_first : (rs : List (Request × ℕ)) → (is_some (slice_get rs 0) ≡ true → 0 < length (blocks_of rs)) × (0 < length (blocks_of rs) → is_some (slice_get rs 0) ≡ true)
some_first [] = (λ e. absurd (false≢true e), λ h. absurd (omega arith))
some_first (x ∷ xs) = (λ e. omega arith, λ h. refl)

prefix_shown : (block : ℕ) (rs : List (Request × ℕ)) → prefix_len (λ (r : Request × ℕ). not (r.1 == block)) rs ≡ prefix_len (λ b. not (b == block)) (blocks_of rs)
prefix_shown block [] = refl
prefix_shown block (x ∷ xs) = ap (λ n. if not (x.1 == block) then 1 + n else 0) (prefix_shown block xs)

-- a block's place in the line is that of its request in the queue
pub place_shown : (bus : Traffic) (core block : ℕ) → option_map (λ older. older + 1) (position (λ (r : Request × ℕ). r.1 == block) (waiting_of bus core).requests) ≡ place_in (queue_of (queues_of bus.queues) core) block
place_shown bus core block =
    let rs : List (Request × ℕ) = (waiting_of bus core).requests in
    grind (arith, common_steps, length-map rs (λ (r : Request × ℕ). r.1), prefix_shown block rs, queue_of-queues_of bus.queues core)

-- an open transaction is of the block on which it is found, and its core one that there is
abbrev IsOpened : Extent → ℕ → Option Open → Type 0
IsOpened shape block found = (transaction : Open) → found ≡ Some transaction → (transaction.block ≡ block) × (transaction.core < shape.cores)

module _ {shape : Extent} {caches : List (List Line)} {bus : Traffic} (sound : IsSound shape caches bus) where
  -- a transaction closes
  pub IsSound-close : (block : ℕ) → block < shape.blocks → IsSound shape caches (record bus { transactions = slice_set bus.transactions block None })
  IsSound-close block in_blocks =
      let each = each_set bus.transactions block None None (λ b found. IsOpened shape b found) (rw sound.transactions in_blocks) (λ t e. cc) (λ b ne. sound.opened b) in
      grind (arith, length-set bus.transactions block None, each)

  -- one core has another queue
  module _ (now : Traffic) (core : ℕ) (queue : Waiting) (in_cores : core < shape.cores) (wrote : now.queues ≡ slice_set bus.queues core queue) where
    as_many : length now.queues ≡ shape.cores
    as_many = rw (wrote, length-set bus.queues core queue) sound.queues

    each_queue : (P : ℕ → Waiting → Type 0) → P core queue → ((k : ℕ) → k ≢ core → P k (waiting_of bus k)) → (k : ℕ) → P k (waiting_of now k)
    each_queue P own others k = rw wrote (each_set bus.queues core queue no_queue P (rw sound.queues in_cores) own others k)

    -- with other room
    pub IsSound-room : queue.requests ≡ (waiting_of bus core).requests → now.transactions ≡ bus.transactions → IsSound shape caches now
    IsSound-room same transactions =
        let each = λ (k b : ℕ). each_queue (λ k its. WaitsAs b its (line_at caches k b)) (rw same (sound.waits core b)) (λ k ne. sound.waits k b) k in
        grind (arith, as_many, each)

    -- and the row of one block is written: the queue has the same requests for each other block
    module _ (block : ℕ) (in_blocks : block < shape.blocks)
        (same : (b : ℕ) → b ≢ block → requests_for b queue.requests ≡ requests_for b (waiting_of bus core).requests) where
      IsSound-row : (row : List Line) → length row ≡ shape.cores → ((k : ℕ) → IsProper (held_at row k)) → length now.transactions ≡ shape.blocks
          → ((b : ℕ) → IsOpened shape b (transaction_on now b))
          → WaitsAs block queue (held_at row core) → ((k : ℕ) → k ≢ core → WaitsAs block (waiting_of bus k) (held_at row k))
          → IsSound shape (slice_set caches block row) now
      IsSound-row row wide proper transactions opened own others =
          let each_row = λ (P : ℕ → List Line → Type 0). each_set caches block row [] P (rw sound.rows in_blocks) in
          record {
            rows = length-set caches block row ∙ sound.rows;
            row = each_row (λ b its. b < shape.blocks → length its ≡ shape.cores) (λ h. wide) (λ b ne. sound.row b);
            queues = as_many;
            transactions = transactions;
            proper = λ k. each_row (λ b its. IsProper (held_at its k)) (proper k) (λ b ne. sound.proper k b);
            opened = opened;
            waits = λ k. each_row (λ b its. WaitsAs b (waiting_of now k) (held_at its k))
                (each_queue (λ k its. WaitsAs block its (held_at row k)) own others k)
                (λ b ne. each_queue (λ k its. WaitsAs b its (line_at caches k b)) (same b ne ∙ sound.waits core b) (λ k apart. sound.waits k b) k);
          }

      -- one line of it
      IsSound-placed : (line : Line) → IsProper line → now.transactions ≡ bus.transactions → WaitsAs block queue line
          → IsSound shape (with_line_at caches core block line) now
      IsSound-placed line proper transactions waits =
          let old = row_of caches block in
          let wide = sound.row block in_blocks in
          IsSound-row (slice_set old core line) (length-set old core line ∙ wide)
          (each_set old core line nothing_held (λ k its. IsProper its) (rw wide in_cores) proper (λ k ne. sound.proper k block))
          (rw transactions sound.transactions) (rw transactions sound.opened)
          (rw (get_or-set_same old core line nothing_held (rw wide in_cores)) waits)
          (λ k ne. rw (get_or-set_other old core k line nothing_held ne) (sound.waits k block))

  module _ (core block : ℕ) (line : Line) (in_cores : core < shape.cores) (in_blocks : block < shape.blocks) (proper : IsProper line) where
    -- a line is written, which waits as it did
    pub IsSound-line : waiting_request line.state ≡ waiting_request (line_at caches core block).state → IsSound shape (with_line_at caches core block line) bus
    IsSound-line same =
        IsSound-placed bus core (waiting_of bus core) in_cores (sym (set-get_or bus.queues core no_queue)) block in_blocks (λ b ne. refl) line proper refl
        (rw same (sound.waits core block))

    -- for which the core issues a request: it did not wait on the block
    pub IsSound-issue : (now : Traffic) (request : Request) (room : ℕ)
        → now.queues ≡ slice_set bus.queues core (record { requests = (waiting_of bus core).requests ++ (request, block) ∷ []; room = room })
        → now.transactions ≡ bus.transactions → waiting_request (line_at caches core block).state ≡ None → waiting_request line.state ≡ Some request
        → IsSound shape (with_line_at caches core block line) now
    IsSound-issue now request room wrote transactions idle waits =
        let before = rw idle at (sound.waits core block) in
        IsSound-placed now core _ in_cores wrote block in_blocks (λ b ne. rw (filter-append, map-append, ne_eqb block b (λ e. ne (sym e)), append-nil) refl) line proper
        transactions (rw (waits, filter-append, map-append, before, eq-eqb block block refl) refl)

  -- a core's oldest request leaves its queue, and its transaction opens: each core has taken its row for it
  pub IsSound-order : {now : Traffic} {p : Protocol} {core block : ℕ} {request : Request} {payload : Payload} {value : Data} {from : Option ℕ} {row : List Line}
      → core < shape.cores → block < shape.blocks → head_of bus core ≡ Some (request, block) → Starts bus now core request block payload value from
      → TakesRows p core request (row_of caches block) row → IsSound shape (slice_set caches block row) now
  IsSound-order {now} {p} {core} {block} {request} {payload} {value} {from} {row} in_cores in_blocks head starts takes =
      let old = row_of caches block in
      let wide = sound.row block in_blocks in
      let opened : Open = record { core = core; request = request; block = block; payload = payload; value = value; from = from } in
      let proper : (k : ℕ) → IsProper (held_at row k) = λ k. elim (cases_lt k (length old)) [
        | inl lt ↦ (let t = takes.rows k lt in rw t.2 (IsProper-order p (held_at old k) k core request t.0.action t.0.next (sound.proper k block) t.1))
        | inr ge ↦ (let same = takes.same_length in rw (get_or_past row k nothing_held (omega arith) ∙ sym (get_or_past old k nothing_held ge))
            (sound.proper k block))
      ] in
      IsSound-row now core _ in_cores starts.queues block in_blocks (λ b ne. grind (arith, common_steps, head, ne_eqb block b)) row
      (takes.same_length ∙ wide) proper (rw (starts.transactions, length-set bus.transactions block (Some opened)) sound.transactions)
      (rw starts.transactions (each_set bus.transactions block (Some opened) None (λ b found. IsOpened shape b found) (rw sound.transactions in_blocks)
      (λ t e. rw (← (same_Some _ _ e)) (refl, in_cores)) (λ b ne. sound.opened b)))
      ((head_alone sound core request block head).1 ∙ ap option_to_list (sym (own_waits p core request old row takes (omega arith))))
      (λ k ne. sound.waits k block ∙ ap option_to_list (sym (others_wait p core request old row takes k ne)))

-- the tables that pictures are made of are equally long
abbrev AreAlike : List (List Line) → List MemState → List Data → List (Option Open) → Type 0
AreAlike rows states values transactions = (length states ≡ length rows) × (length values ≡ length rows) × (length transactions ≡ length rows)

pub pictures_get : (rows : List (List Line)) (states : List MemState) (values : List Data) (transactions : List (Option Open)) (block : ℕ)
    → AreAlike rows states values transactions → slice_index_or (pictures_of rows states values transactions) block nothing_there
    ≡ record { caches = row_of rows block; memory = record { state = slice_index_or states block IorS; value = slice_index_or values block zero_words }; transaction = slice_index_or transactions block None }
pictures_get [] [] [] [] block alike = refl
pictures_get (r ∷ rs) (s ∷ ss) (v ∷ vs) (t ∷ ts) zero alike = refl
pictures_get (r ∷ rs) (s ∷ ss) (v ∷ vs) (t ∷ ts) (suc block) alike = pictures_get rs ss vs ts block (omega arith, omega arith, omega arith)
pictures_get _ _ _ _ block alike = absurd (omega arith)

pictures-length : (rows : List (List Line)) (states : List MemState) (values : List Data) (transactions : List (Option Open))
    → AreAlike rows states values transactions → length (pictures_of rows states values transactions) ≡ length rows
pictures-length [] [] [] [] alike = refl
pictures-length (r ∷ rs) (s ∷ ss) (v ∷ vs) (t ∷ ts) alike = ap suc (pictures-length rs ss vs ts (omega arith, omega arith, omega arith))
pictures-length _ _ _ _ alike = absurd (omega arith)

pictures-set : (rows : List (List Line)) (states : List MemState) (values : List Data) (transactions : List (Option Open)) (block : ℕ) (next : Picture)
    → AreAlike rows states values transactions
    → pictures_of (slice_set rows block next.caches) (slice_set states block next.memory.state) (slice_set values block next.memory.value)
    (slice_set transactions block next.transaction)
    ≡ slice_set (pictures_of rows states values transactions) block next
pictures-set [] [] [] [] block next alike = refl
pictures-set (r ∷ rs) (s ∷ ss) (v ∷ vs) (t ∷ ts) zero next alike = refl
pictures-set (r ∷ rs) (s ∷ ss) (v ∷ vs) (t ∷ ts) (suc block) next alike = rw (pictures-set rs ss vs ts block next (omega arith, omega arith, omega arith)) refl
pictures-set _ _ _ _ block next alike = absurd (omega arith)

pub pictures_of-replicate : (n : ℕ) (row : List Line) (state : MemState) (value : Data) (transaction : Option Open)
    → pictures_of (replicate n row) (replicate n state) (replicate n value) (replicate n transaction)
    ≡ replicate n (record { caches = row; memory = record { state = state; value = value }; transaction = transaction })
pictures_of-replicate zero row state value transaction = refl
pictures_of-replicate (suc n) row state value transaction = rw (pictures_of-replicate n row state value transaction) refl

-- the picture of a block, in these parts
abbrev pub picture_in : Fields → ℕ → Picture
picture_in m block = record { caches = row_of m.lines.rows block; memory = memory_line m.memory block; transaction = slice_index_or m.bus.transactions block None }

-- what holds of the parts, of which callers see this
module _ {count : ℕ} {m : Fields} (whole : IsWhole count m) {now : Standing} (view : standing m ≡ now) where
  alike : AreAlike m.lines.rows m.memory.states m.memory.words m.bus.transactions
  alike = rw whole.sound.rows (whole.sized.states, whole.sized.values, whole.sound.transactions)

  pub seen : (block : ℕ) → picture_of now.situation block ≡ picture_in m block
  seen block = rw (← view) (pictures_get m.lines.rows m.memory.states m.memory.words m.bus.transactions block alike)

  pub line_seen : (core block : ℕ) → held_by (picture_of now.situation block) core ≡ line_at m.lines.rows core block
  line_seen core block = ap (λ (x : Picture). held_by x core) (seen block)

  pub state_seen : (core block : ℕ) → state_of now.situation core block ≡ (line_at m.lines.rows core block).state
  state_seen core block = ap (λ (x : Line). x.state) (line_seen core block)

  -- the protocol, and how many words a block has
  pub protocol_seen : m.protocol ≡ now.situation.protocol
  protocol_seen = ap (λ (s : Standing). s.situation.protocol) view

  pub words_seen : now.situation.shape.words ≡ count
  words_seen = sym (ap (λ (s : Standing). s.situation.shape.words) view) ∙ whole.sized.held

  -- where a block and a core stand in the rows
  pub rows_in : (block : ℕ) → block < now.situation.shape.blocks → block < length m.lines.rows
  rows_in block within = rw whole.sound.rows (rw (← view) at within)

  pub row_in : (core block : ℕ) → core < now.situation.shape.cores → block < now.situation.shape.blocks → core < length (row_of m.lines.rows block)
  row_in core block in_cores within = rw (whole.sound.row block (rw (← view) at within)) (rw (← view) at in_cores)

  pub has_picture : (block : ℕ) → block < now.situation.shape.blocks → block < length (standing m).situation.pictures
  has_picture block within =
      omega (arith, pictures-length m.lines.rows m.memory.states m.memory.words m.bus.transactions alike, rows_in block within)

  -- all that is shown of a block is written
  pub picture-written : (block : ℕ) (next : Picture) (rows : List (List Line)) (states : List MemState) (values : List Data) (transactions : List (Option Open))
      → rows ≡ slice_set m.lines.rows block next.caches → states ≡ slice_set m.memory.states block next.memory.state
      → values ≡ slice_set m.memory.words block next.memory.value
      → transactions ≡ slice_set m.bus.transactions block next.transaction
      → pictures_of rows states values transactions ≡ slice_set (standing m).situation.pictures block next
  picture-written block next rows states values transactions d e f h =
      rw (d, e, f, h) (pictures-set m.lines.rows m.memory.states m.memory.words m.bus.transactions block next alike)

  -- one line is written
  pub line-written : (block : ℕ) (rows : List (List Line)) (core : ℕ) (line : Line) → rows ≡ with_line_at m.lines.rows core block line
      → pictures_of rows m.memory.states m.memory.words m.bus.transactions
      ≡ slice_set (standing m).situation.pictures block (with_line (picture_in m block) core line)
  line-written block rows core line wrote =
      picture-written block (with_line (picture_in m block) core line) rows _ _ _ wrote (sym (set-get_or m.memory.states block IorS))
      (sym (set-get_or m.memory.words block zero_words))
      (sym (set-get_or m.bus.transactions block None))

-- the parts are as large as they were
pub sized_on : {count : ℕ} (m n : Fields) → IsSized count m → n.shape ≡ m.shape → length n.lines.lines ≡ length m.lines.lines
    → (length n.memory.states ≡ length m.memory.states) × (length n.memory.words ≡ length m.memory.words)
    → (n.log.cores ≡ m.log.cores) × (n.log.blocks ≡ m.log.blocks) × (n.log.words ≡ m.log.words) → IsSized count n
sized_on m n sized shape lines memory log = grind arith

-- how many requests of the core find room in all
abbrev pub held_in : List Waiting → ℕ → ℕ
held_in queues core = length (slice_index_or queues core no_queue).requests + (slice_index_or queues core no_queue).room

pub rooms_at : (queues : List Waiting) (core : ℕ) → slice_index (map (λ (q : Waiting). q.room) queues) core ≡ (slice_index_or queues core no_queue).room
rooms_at queues core = get_or-map (λ (q : Waiting). q.room) queues core no_queue

-- it is the capacity that callers see
capacity_held : (queues : List Waiting) (core : ℕ) → length (queue_of (queues_of queues) core) + slice_index (map (λ (q : Waiting). q.room) queues) core ≡ held_in queues core
capacity_held queues core =
    grind (arith, queue_of-queues_of queues core, length-map (slice_index_or queues core no_queue).requests (λ (r : Request × ℕ). r.1), rooms_at queues core)

-- the room of a map as callers see it
pub shown_at : (queues : List Waiting) (line_rooms : List ℕ) (core : ℕ) → slice_index (shown_line_rooms queues line_rooms) core ≡ shown_line_room (slice_index_or queues core no_queue).room (slice_index_or line_rooms core 0)
shown_at [] line_rooms core = refl
shown_at (q ∷ qs) [] core = grind arith
shown_at (q ∷ qs) (s ∷ ss) zero = refl
shown_at (q ∷ qs) (s ∷ ss) (suc core) = shown_at qs ss core

-- where the queue has no room, that of the map is not shown
pub shown-same : (queues : List Waiting) (line_rooms : List ℕ) (core spare : ℕ) → (slice_index_or queues core no_queue).room ≡ 0 → shown_line_rooms queues (slice_set line_rooms core spare) ≡ shown_line_rooms queues line_rooms
shown-same [] line_rooms core spare full = refl
shown-same (q ∷ qs) [] core spare full = refl
shown-same (q ∷ qs) (s ∷ ss) zero spare full = grind arith
shown-same (q ∷ qs) (s ∷ ss) (suc core) spare full = ap (λ (l : List ℕ). shown_line_room q.room s ∷ l) (shown-same qs ss core spare full)

-- what holds of the room of parts, of which callers see this
module _ {count : ℕ} {m : Fields} (whole : IsWhole count m) {now : Standing} (view : standing m ≡ now) where
  -- another queue for one core, of no less capacity
  pub held_in-set : (bus : Traffic) (core : ℕ) (queue : Waiting) → bus.queues ≡ slice_set m.bus.queues core queue → core < now.situation.shape.cores
      → held_in m.bus.queues core ≤ length queue.requests + queue.room → (k : ℕ) → held_in m.bus.queues k ≤ held_in bus.queues k
  held_in-set bus core queue wrote within more =
      rw wrote (each_set m.bus.queues core queue no_queue (λ k its. held_in m.bus.queues k ≤ length its.requests + its.room)
      (rw whole.sound.queues (rw (← view) at within)) more (λ k ne. omega arith))

  -- as long as neither the log's capacity nor a queue's falls, and the maps keep their room for lines, no room is lost
  pub keeps_room : (lines : Held) (memory : MemTables) (bus : Traffic) (log : Journal) → length m.log.items + m.log.room ≤ length log.items + log.room
      → ((core : ℕ) → held_in m.bus.queues core ≤ held_in bus.queues core) → KeepsMapsRoom m.lines lines
      → KeepsRoom now (standing (record m { lines = lines; memory = memory; bus = bus; log = log }))
  keeps_room lines memory bus log items queues line_rooms =
      rw (← view) (record {
        items = items;
        requests = λ core. grind (arith, capacity_held m.bus.queues core, capacity_held bus.queues core, queues core);
        lines = λ core had has.
            grind (arith, shown_at m.bus.queues m.lines.line_rooms core, shown_at bus.queues lines.line_rooms core, rooms_at m.bus.queues core, rooms_at bus.queues core, line_rooms core);
      })

-- one core's line is written
module _ {core block : ℕ} {line : Line} {old new : Held} (wrote : WritesLine core block line old new) (in_blocks : block < length old.rows) where
  pub row_after : row_of new.rows block ≡ slice_set (row_of old.rows block) core line
  row_after = rw wrote.rows (get_or-set_same old.rows block (slice_set (row_of old.rows block) core line) [] in_blocks)

  -- where the core had not moved yet since the first of these
  pub WritesRow-more : (first : Held) → WritesRow block first old → core < length (row_of old.rows block) → line_at old.rows core block ≡ line_at first.rows core block
      → WritesRow block first new
  WritesRow-more first so_far in_row unmoved =
      let own = get_or-set_same (row_of old.rows block) core line nothing_held in_row in
      let others = λ (k : ℕ). get_or-set_other (row_of old.rows block) core k line nothing_held in
      record {
        rows = cc (wrote.rows, so_far.rows, set-set first.rows block (row_of old.rows block) (row_of new.rows block), row_after);
        many = wrote.many ∙ so_far.many;
        lines = λ k. grind (arith, row_after, own, others k, so_far.lines k, unmoved, wrote.lines, wrote.others k, cases_eq k core);
        room = λ k. grind (arith, so_far.lines k, so_far.room k, wrote.room k, wrote.lines, wrote.others k, cases_eq k core);
      }

-- no line is written
pub WritesRow-none : (block : ℕ) (held : Held) → WritesRow block held held
WritesRow-none block held = record { rows = sym (set-get_or held.rows block []); many = refl; lines = λ k. grind arith; room = λ k. omega arith }

module _ {count : ℕ} {m : Fields} (whole : IsWhole count m) {old : Standing} (view : standing m ≡ old) (new : Standing) (block : ℕ) (next : Picture)
    (held : Held) (within : block < old.situation.shape.blocks) (wrote : new.situation.pictures ≡ slice_set (standing m).situation.pictures block next) (lines : new.lines ≡ held.lines) where
  -- the lines of one block have moved
  pub follows-rows : next.caches ≡ row_of held.rows block → WritesRow block m.lines held → (k : ℕ) → LosesLines old new k
  follows-rows row writes k =
      let here = get_or-set_same (standing m).situation.pictures block next nothing_there (has_picture whole view block within) in
      let others = get_or-set_other (standing m).situation.pictures block in
      rw (← view) (grind (arith, writes.lines k, lines, wrote, here, others, state_seen whole refl k block, row))

  -- one line has moved
  pub follows-set : {core : ℕ} {line : Line} → WritesLine core block line m.lines held → core < old.situation.shape.cores
      → next.caches ≡ slice_set (row_of m.lines.rows block) core line
      → (k : ℕ) → LosesLines old new k
  follows-set {core} moved in_cores row =
      let in_rows = rows_in whole view block within in
      follows-rows (row ∙ sym (row_after moved in_rows))
      (WritesRow-more moved in_rows m.lines (WritesRow-none block m.lines) (row_in whole view core block in_cores within) refl)
