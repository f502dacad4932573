use Rattle.std.{proofs.Common.{◌≡◌, ◌++◌, take}, specs.List.flat_map}
use Rattle.snoop_lint.specs.Shown.{shown_byte}
use Rattle.snoop_lint.proofs.shown.push_shown_bytes.Given as goal

-- the bytes so far
abbrev pub invariant-loop-byte : goal.invariant-loop-byte
invariant-loop-byte l = l.out.items ≡ l.fn.out.items ++ flat_map shown_byte (take l.byte-index l.bytes)
