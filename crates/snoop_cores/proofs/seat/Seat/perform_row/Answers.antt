use Rattle.std.proofs.Common.{rules, refl, ◌≡◌, ◌∷◌, [], Some}
use Rattle.snoop_trace.specs.{Grammar.{block_at, word_asked}, declared.step.Op.TheVariants.{Load, Store}}
use Rattle.snoop_cores.proofs.{Common.AnswersRows, Performed.row_over}
use Rattle.snoop_cores.proofs.seat.Seat.perform_row.Goals as goal

pub returns-in_ok-load-in-Load-clause-ok : goal.returns-in_ok-load-in-Load-clause-ok
returns-in_ok-load-in-Load-clause-ok g c =
    let (did, over, does, value) = c.in_ok-load-in-Load.ensures.ok in
    let at : block_at c.args.self.now.shape c.args.row.now.address ≡ Some c.in-Some.block = search rules in
    let is : c.word_of-word.result ≡ word_asked c.args.self.now.shape c.args.row.now.address Load = search rules in
    let answers : AnswersRows c.args.self.now.shape (c.args.row.now ∷ []) (did ∷ []) = rw c.in-Load.is ((c.in-Some.block, at, rw is at does), tt) in
    row_over c.in-Load.is at is over answers

pub returns-in_ok-store-in-Store-clause-ok : goal.returns-in_ok-store-in-Store-clause-ok
returns-in_ok-store-in-Store-clause-ok g c =
    let (did, over, does) = c.in_ok-store-in-Store.ensures.ok in
    let at : block_at c.args.self.now.shape c.args.row.now.address ≡ Some c.in-Some.block = search rules in
    let is : c.word_of-word.result ≡ word_asked c.args.self.now.shape c.args.row.now.address (Store c.in-Store.value) = search rules in
    let answers : AnswersRows c.args.self.now.shape (c.args.row.now ∷ []) (did ∷ []) = rw c.in-Store.is ((c.in-Some.block, at, rw is at does), tt) in
    row_over c.in-Store.is at is over answers

pub returns-in_ok-evict-in-Evict-clause-ok : goal.returns-in_ok-evict-in-Evict-clause-ok
returns-in_ok-evict-in-Evict-clause-ok g c =
    let at : block_at c.args.self.now.shape c.args.row.now.address ≡ Some c.in-Some.block = search rules in
    let answers : AnswersRows c.args.self.now.shape (c.args.row.now ∷ []) [] = rw c.in-Evict.is tt in
    row_over c.in-Evict.is at refl c.in_ok-evict-in-Evict.ensures.ok answers
