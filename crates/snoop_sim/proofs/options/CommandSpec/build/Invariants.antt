use Rattle.std.proofs.Common.{map, drop, ◌+◌}
use Rattle.clap.specs.Words.{App}
use Rattle.snoop_sim.specs.CommandLine.{Describes, Extends, IsCommand, command_said, rule_said, with_rules}
use Rattle.snoop_sim.proofs.options.CommandSpec.build.Given as goal

-- what has the options of the groups that are left is the command
abbrev pub invariant-loop-group : goal.invariant-loop-group
invariant-loop-group l = (app : App) × Describes l.command app × ((new : App) → Extends app (drop l.group-index l.self.groups.now) new → IsCommand (command_said l.self) new)

-- and so is what has the options that are left of this group too
abbrev pub invariant-loop-option : goal.invariant-loop-option
invariant-loop-option l = (app : App) × Describes l.command app
    × ((new : App) → Extends (with_rules app (map rule_said (drop l.option-index l.option-items))) (drop (l.group-index + 1) l.self.groups.now) new → IsCommand (command_said l.self) new)
