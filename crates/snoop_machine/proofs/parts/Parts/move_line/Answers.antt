use Rattle.snoop_machine.proofs.Common.{◌∙◌, arith, refl, inl, with_line, changed, line_at, fields}
use Rattle.snoop_machine.proofs.PartsViews.{follows-set, IsSound-line, seen, line_seen, state_seen, words_seen, picture_in, line-written, sized_on, keeps_room}
use Rattle.snoop_machine.proofs.parts.Parts.move_line.Goals as goal

pub change-requires-clause-words : goal.change-requires-clause-words
change-requires-clause-words g c = rw (← (words_seen c.self.invariant c.self.view_is)) c.requires.words

pub change-requires-clause-proper : goal.change-requires-clause-proper
change-requires-clause-proper g c = rw (line_seen c.self.invariant c.self.view_is c.args.core c.args.block) at c.requires.proper

pub change-requires-clause-place : goal.change-requires-clause-place
change-requires-clause-place g c = inl (λ e. c.requires.held (state_seen c.self.invariant c.self.view_is c.args.core c.args.block ∙ e))

pub invariant_of-self : goal.invariant_of-self
invariant_of-self g c =
    let here = line_seen c.self.invariant c.self.view_is c.args.core c.args.block in
    record {
      sound = rw c.change.ensures.rows (IsSound-line c.self.invariant.sound c.args.core c.args.block _
          (rw (← c.self.view_is) at c.requires.core) (rw (← c.self.view_is) at c.requires.block)
          (rw here at c.requires.proper) (rw here at c.requires.same));
      sized = sized_on _ _ c.self.invariant.sized refl c.change.ensures.many (refl, refl) (refl, refl, refl);
    }

pub returns : goal.returns
returns g c =
    let line = changed c.args.next c.args.change (line_at c.self.inside.lines.rows c.args.core c.args.block) in
    let m = fields c.self.inside.protocol c.self.inside.shape c.self.inside.lines c.self.inside.memory c.self.inside.bus c.self.inside.log in
    let next = with_line (picture_in m c.args.block) c.args.core line in
    let wrote = line-written c.self.invariant refl c.args.block c.change.new.self.rows c.args.core line c.change.ensures.rows in
    record {
      written = rw (← c.self.view_is, seen c.self.invariant refl c.args.block, wrote);
      room = keeps_room c.self.invariant c.self.view_is c.change.new.self m.memory m.bus m.log (omega arith) (λ core. omega arith) c.change.ensures.room;
      lines = follows-set c.self.invariant c.self.view_is _ c.args.block next c.change.new.self c.requires.block wrote refl c.change.ensures c.requires.core refl;
    }
