use Rattle.snoop_counts.{proofs.{Common.{◌*◌, append_assoc, counted_of, IfOk-equal, rules, Words}, BlockLemmas.fields_are}, specs.ByWord.word_counts}
use Rattle.snoop_counts.specs.declared.count.Count.TheVariants.{Operations}
use Rattle.snoop_counts.proofs.word_table.push_word.Goals as goal

pub returns-in_ok-push_counts-in-Some : goal.returns-in_ok-push_counts-in-Some
returns-in_ok-push_counts-in-Some c seen far =
    let shape = c.args.shape in
    let place = c.place_of_word-place in
    let row = c.in-Some.ensures (Words shape.words) (shape.blocks * shape.words) seen far.rows place.ensures.there in
    let sharing = c.in_ok-push_sharing-in-Some.ensures (Words shape.words) Operations (shape.blocks * shape.words) seen far.cores far.readers far.writers place.ensures.there in
    let fields = fields_are c.in-Some.row (counted_of (Words shape.words) seen place.result) row word_counts in
    search (rules, append_assoc, IfOk-equal)
