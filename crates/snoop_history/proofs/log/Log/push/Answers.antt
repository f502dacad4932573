use Rattle.std.proofs.Common.{◌≡◌, [], ◌∷◌, ◌++◌, map, sym, ap, ◌∙◌, arith}
use Rattle.snoop_history.proofs.{Pushed.next_number_le, Legal.listed-push, Common.{Item, length-map, map-append, unpacked}, Boards.board-shape, Kept.tallied_as}
use Rattle.snoop_history.proofs.log.Log.push.Goals as goal

pub invariant_of-self : goal.invariant_of-self
invariant_of-self c =
    let l = c.self.inside in
    let items = map unpacked l.items.items in
    let entry = c.args.item in
    let kept = c.self.invariant.kept in
    let view = sym c.self.view_is in
    let more : map unpacked c.push_reserved.new.self.items ≡ items ++ entry ∷ [] =
    ap (map unpacked) c.push_reserved.ensures.items ∙ (map-append unpacked l.items.items (c.new.result ∷ []) ∙ ap (λ (e : Item). items ++ e ∷ []) c.new.ensures) in
    let tallied = c.absorb.ensures.board _ _ _ items kept.tallied in
    let listed = listed-push _ _ _ items entry kept.listed (rw view at c.requires.within) (rw view at c.requires.numbered) in
    record {
      kept = rw more (tallied_as kept.few_cores kept.few_blocks kept.few_words listed tallied (c.add.ensures.order items kept.mentioned));
      as_many = c.add.ensures.blocks ∙ (c.self.invariant.as_many ∙ sym (board-shape _ _ _ (items ++ entry ∷ []) tallied).1);
    }

pub new-requires-clause-number : goal.new-requires-clause-number
new-requires-clause-number c =
    let items = map unpacked c.self.inside.items.items in
    let view = sym c.self.view_is in
    let room = rw view at c.requires.room in
    let numbered = rw view at c.requires.numbered in
    λ did is. omega (arith, numbered did is, next_number_le items did.core, length-map c.self.inside.items.items unpacked, c.self.inside.items.ok.0)
