-- The fewest cores and blocks with which a text is taken.
-- Source: this project's profile.
use Rattle.std.specs.Prelude.{◌≡◌, ℕ, ◌≤◌, List, None}
use Rattle.snoop_trace.specs.{Extent.Extent, declared.protocol.Protocol.Protocol}
use Rattle.snoop_lint.specs.{declared.form.Form.Form, Findings.refusal}

-- a shape with so many cores and blocks, of the same size
abbrev pub resized : Extent → ℕ → ℕ → Extent
resized shape cores blocks = record { cores = cores; blocks = blocks; block_bytes = shape.block_bytes; words = shape.words }

-- a text is taken with so many cores and blocks and with more of them, and with no fewer
pub record AreFewest (form : Form) (protocol : Protocol) (shape : Extent) (bytes : List ℕ) (cores blocks : ℕ) : Type 0 where
  pub enough : (c b : ℕ) → cores ≤ c → blocks ≤ b → refusal form protocol (resized shape c b) bytes ≡ None
  pub needed : (c b : ℕ) → 1 ≤ c → 1 ≤ b → refusal form protocol (resized shape c b) bytes ≡ None → (cores ≤ c) × (blocks ≤ b)
