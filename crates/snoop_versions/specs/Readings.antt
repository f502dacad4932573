-- What a writer shows and a reader sees of the published versions.
-- Source: this project's profile.
use Rattle.std.specs.Prelude.{◌≡◌, ℕ, List, All, ◌++◌}
use Rattle.snoop_trace.specs.{Extent.Extent, Output.IsReadableStep, declared.{protocol.Protocol.Protocol, step.Step.Step}}
use Rattle.snoop_history.specs.{declared.items.Item.Item, History.Legal}
use Rattle.snoop_model.specs.{Pictures.Situation.Situation, Runs.Run.AllTaken}

-- what the writer shows: the shape, the list whose board is published, and the item that is appended and not published yet
pub record Publishing : Type 0 where
  pub shape : Extent
  pub list : List Item
  pub ready : List Item

-- what a reader shows: the shape, and the list that it has seen last
pub record Viewing : Type 0 where
  pub cores : ℕ
  pub blocks : ℕ
  pub words : ℕ
  pub seen : List Item

-- the reader reads versions of as many cores, blocks and words as this shape has
abbrev pub IsOfShape : Viewing → Extent → Type 0
IsOfShape reader shape = (reader.cores ≡ shape.cores) × (reader.blocks ≡ shape.blocks) × (reader.words ≡ shape.words)

-- the list begins with the other
abbrev pub StartsWith : {A : Type 0} → List A → List A → Type 0
StartsWith {A} list first = (rest : List A) × (list ≡ first ++ rest)

-- the history of a machine of so many cores, blocks and words: it is legal, and it is the log where these steps, each of them within the shape and taken, led from reset
pub record IsHistory (cores blocks words : ℕ) (items : List Item) : Type 0 where
  pub legal : Legal items
  pub protocol : Protocol
  pub shape : Extent
  pub size : (shape.cores ≡ cores) × (shape.blocks ≡ blocks) × (shape.words ≡ words)
  pub steps : List Step
  pub readable : All (IsReadableStep shape) steps
  pub at : Situation
  pub taken : AllTaken protocol shape steps at
  pub logged : items ≡ at.log

-- the history of a machine of this shape (`IsHistory`)
abbrev pub IsHistoryFor : Extent → List Item → Type 0
IsHistoryFor shape = IsHistory shape.cores shape.blocks shape.words

-- what the reader has seen is the history of a machine of its shape
abbrev pub SeesHistory : Viewing → Type 0
SeesHistory v = IsHistory v.cores v.blocks v.words v.seen

-- what is seen now, as after a version was entered: a machine's history that begins with what was seen before, of the same shape
pub record Enters (s t : Viewing) : Type 0 where
  pub history : SeesHistory t
  pub begins : StartsWith t.seen s.seen
  pub shape : (t.cores ≡ s.cores) × (t.blocks ≡ s.blocks) × (t.words ≡ s.words)
