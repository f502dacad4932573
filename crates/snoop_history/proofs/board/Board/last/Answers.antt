use Rattle.std.{proofs.{Common.{◌≡◌, ◌∙◌, Option, arith, subst}, lemmas.Grind.elements}, specs.Prelude.{option_and_then, slice_get}}
use Rattle.snoop_history.{specs.Board.Tables, proofs.{Boards.may-below, Common.Did}}
use Rattle.snoop_history.proofs.board.Board.last.Goals as goal

pub returns-clause-board : goal.returns-clause-board
returns-clause-board c cores blocks words items is =
    subst (λ (t : Tables). c.flatten.result ≡ option_and_then (λ (o : Option Did). o) (slice_get t.lasts c.args.core)) (c.self.view_is ∙ is) (grind (arith, elements)) ∙ may-below _ cores c.args.core
