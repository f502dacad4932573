-- Which steps and which blocks are shown.
-- Source: this project's profile.
use Rattle.std.specs.Prelude.{ℕ, ◌&&◌, ◌==◌, Bool, true, is_none, nat_le, Option, Some, None}
use Rattle.snoop_engine.specs.declared.choice.Choice.TheInside.{Inside}

-- the steps of one block, or of each, from one number to another
pub record Chosen : Type 0 where
  pub block : Option ℕ
  pub from : ℕ
  pub to : ℕ

-- what a choice says
abbrev pub chosen : Inside → Chosen
chosen c = record { block = c.block; from = c.from; to = c.to }

-- a choice's fields, from what it says
abbrev pub fields : Chosen → Inside
fields c = record { block = c.block; from = c.from; to = c.to }

-- this block is shown: it is the one that is named, or none is named
abbrev pub is_chosen : Option ℕ → ℕ → Bool
is_chosen None block = true
is_chosen (Some one) block = block == one

-- the number is one of those that are shown, the first and the last included
abbrev pub is_in_range : Chosen → ℕ → Bool
is_in_range choice number = nat_le choice.from number && nat_le number choice.to

-- the step of this block, if of any, and of this number is shown; where a block is named, a step of none is not
abbrev pub is_shown : Chosen → Option ℕ → ℕ → Bool
is_shown choice None number = is_in_range choice number && is_none choice.block
is_shown choice (Some block) number = is_in_range choice number && is_chosen choice.block block
