-- What an Ask does to one line.
-- Source: this project's profile.
use Rattle.std.specs.Prelude.{◌≡◌, ℕ}
use Rattle.snoop_trace.specs.declared.{step.Op.Op, protocol.Protocol.Protocol}
use Rattle.snoop_trace.specs.declared.step.Op.TheVariants as op
use Rattle.snoop_rules.specs.{declared.names.CacheState.CacheState, Cell.Cell, Takers.asked}
use Rattle.snoop_rules.specs.declared.names.CacheState.TheVariants as state
use Rattle.snoop_rules.specs.declared.names.CacheAction.TheVariants as action
use Rattle.snoop_model.specs.{Pictures.Lines.Line, Moves.Move.Hits}
use Rattle.snoop_machine.specs.{Cache.changed, declared.parts.step.Asked.{Asked, TheVariants.{Absent, Hit, Issue, Drop}}}
use Rattle.snoop_machine.specs.declared.lines.LineChange.TheVariants as change

-- a line after the hit of an operation on this word
abbrev pub after_hit : CacheState → ℕ → Op → Line → Line
after_hit next word asking old = changed next (change.Hit (record { word = word; op = asking })) old

-- the line takes the row of an Ask
abbrev pub TakesAsk : Protocol → Line → ℕ → Op → Asked → Type 0
TakesAsk protocol old word asking Absent = (asking ≡ op.Evict) × (old.state ≡ state.I)
TakesAsk protocol old word asking (Hit next value) = Cell protocol old.state (asked asking) action.Hit next × Hits next old (after_hit next word asking old) word asking value
TakesAsk protocol old word asking (Issue request next) = Cell protocol old.state (asked asking) (action.Issue request) next
TakesAsk protocol old word asking (Drop next) = Cell protocol old.state (asked asking) action.Drop next
