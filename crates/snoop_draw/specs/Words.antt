-- What the bus says of a block.
-- Source: this project's profile.
use Rattle.std.specs.{Prelude.{ℕ, List, []}, Option.option_map_or}
use Rattle.snoop_model.specs.Pictures.Situation.{Situation, picture_of}
use Rattle.snoop_engine.specs.Words.{message_words}

-- the message of the open transaction, if there is one
abbrev pub bus_words : Situation → ℕ → List ℕ
bus_words s block = option_map_or (message_words s.shape.words) (picture_of s block).transaction []
