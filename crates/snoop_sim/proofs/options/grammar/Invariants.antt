use Rattle.std.proofs.Common.{map, drop}
use Rattle.clap.specs.Words.{App}
use Rattle.snoop_sim.specs.CommandLine.{Adds, Describes, command_said, top_app}
use Rattle.snoop_sim.proofs.options.grammar.Given as goal

-- what has the commands that are left is the program
abbrev pub invariant-loop-command : goal.invariant-loop-command
invariant-loop-command l = (app : App) × Describes l.snoop app
    × ((new : App) → Adds app (map command_said (drop l.command-index l.command-items)) new → Adds top_app (map command_said l.command-items) new)
