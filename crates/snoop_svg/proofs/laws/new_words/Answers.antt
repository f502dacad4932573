use Rattle.std.{proofs.{Common.{◌≡◌, Decides, nat_eq, refl, arith}, lemmas.Slice.Eq.slice_eq-Decides}, specs.Cmp.{unsigned_Decides, Lexicographic.pointwise}}
use Rattle.snoop_svg.proofs.laws.new_words.Goals as goal

pub returns : goal.returns
returns c above words =
    let same : Decides (pointwise nat_eq above.words words) (above.words ≡ words) =
    slice_eq-Decides unsigned_Decides above.words words (pointwise nat_eq above.words words) refl in
    grind (arith, same)
