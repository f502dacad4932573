use Rattle.std.{proofs.{Common.{◌≡◌, ◌∙◌, arith, subst}, lemmas.Grind.elements}, specs.Prelude.slice_get}
use Rattle.snoop_history.{specs.Board.Tables, proofs.Boards.get-below}
use Rattle.snoop_history.proofs.board.Board.count.Goals as goal

pub returns-clause-board : goal.returns-clause-board
returns-clause-board c cores blocks words items is =
    subst (λ (t : Tables). c.copied.result ≡ slice_get t.counts c.args.core) (c.self.view_is ∙ is) (grind (arith, elements)) ∙ get-below _ cores c.args.core
