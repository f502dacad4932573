-- The last line: which cores still wait at the end of a text, and on which blocks a transaction is open.
-- Source: this project's profile.
use Rattle.std.specs.{Prelude.{ℕ, Bool, List, [], ◌∷◌, ◌++◌, codes, length, is_some, nat_lt}, Fmt.decimal, List.{filter, flat_map, range_with_len}}
use Rattle.snoop_bus.specs.Queues.{queue_of}
use Rattle.snoop_model.specs.Pictures.Situation.{Situation, picture_of}

-- a request of the core waits
abbrev pub is_waiting : Situation → ℕ → Bool
is_waiting s core = nat_lt 0 (length (queue_of s.queues core))

-- a transaction is open on the block
abbrev pub is_open : Situation → ℕ → Bool
is_open s block = is_some (picture_of s block).transaction

-- the numbers, a word before each and a comma between two; where there are none, only that
abbrev pub listed : List ℕ → List ℕ → List ℕ → List ℕ → List ℕ
listed none intro word [] = none
listed none intro word (n ∷ ns) = intro ++ word ++ decimal n ++ flat_map (λ m. codes ", " ++ word ++ decimal m) ns

-- the cores that still wait
abbrev pub waiting_text : Situation → List ℕ
waiting_text s = listed (codes "nothing waits") (codes "still waiting: ") (codes "core ") (filter (is_waiting s) (range_with_len 0 s.shape.cores))

-- the blocks on which a transaction is open
abbrev pub still_open_text : Situation → List ℕ
still_open_text s = listed (codes "nothing is open") (codes "still open: ") (codes "block ") (filter (is_open s) (range_with_len 0 s.shape.blocks))

-- the last line
abbrev pub end_text : Situation → List ℕ
end_text s = codes "at the end: " ++ waiting_text s ++ codes "; " ++ still_open_text s ++ codes "\n"
