-- The words in which replies and refusals are printed.
-- Source: this project's profile.
use Rattle.std.specs.{Prelude.{ℕ, List, [], ◌++◌, codes, Option, Some, None, if◌then◌else◌}, Fmt.decimal}
use Rattle.snoop_rules.specs.Names.{payload_name, request_name, state_name}
use Rattle.snoop_history.specs.declared.items.Did.{Did}
use Rattle.snoop_model.specs.declared.replies.{Reply.{Reply, TheVariants.{Hit, StoreHit, Issued, Gone, Absent, Ordered, Came}}, Refused.Refused}
use Rattle.snoop_model.specs.declared.replies.Refused.TheVariants.{NoCore, NoBlock, Stalled, NothingWaiting, BusTaken, NoTransaction, NoMemory}

-- who sent a response: a core, or memory
abbrev pub sender_text : Option ℕ → List ℕ
sender_text None = codes " from memory"
sender_text (Some core) = codes " from core " ++ decimal core

-- the operation that a response performed, if any
abbrev pub performed_text : Option Did → List ℕ
performed_text None = []
performed_text (Some did) = (if did.load then codes ", load " else codes ", store ") ++ decimal did.value

-- the reply to a step that was taken
abbrev pub reply_text : Reply → List ℕ
reply_text (Hit value) = codes "hit " ++ decimal value
reply_text StoreHit = codes "store hit"
reply_text (Issued request) = codes "issued " ++ request_name request
reply_text Gone = codes "gone"
reply_text Absent = codes "absent"
reply_text (Ordered request) = codes "ordered " ++ request_name request
reply_text (Came payload from did) = payload_name payload ++ sender_text from ++ performed_text did

-- a refusal: its name, with the state that stalled, or the block whose transaction is open
abbrev pub refusal_text : Refused → List ℕ
refusal_text NoCore = codes "NoCore"
refusal_text NoBlock = codes "NoBlock"
refusal_text (Stalled held) = codes "Stalled " ++ state_name held
refusal_text NothingWaiting = codes "NothingWaiting"
refusal_text (BusTaken block) = codes "BusTaken " ++ decimal block
refusal_text NoTransaction = codes "NoTransaction"
refusal_text NoMemory = codes "NoMemory"
